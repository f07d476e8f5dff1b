-- Where the plan passes its own test, a call on the loaded words of a log of records is the flat call on the words of the whole log.
-- So a list of calls in this form gives the replies that the flat calls give: each is the same definition on the log's words.
use mathlib.Core.Path.{◌≡◌, refl, sym, ap, ap₂, subst, ◌∙◌}
use mathlib.Core.Bool.{Bool, true, false, ◌||◌}
use mathlib.Core.List.{List, [], ◌∷◌, map}
use Prim.Native.Nat.{ℕ, zero, suc, ◌+◌, ◌-◌, ◌*◌, ◌/◌, ◌<◌, ◌≤◌}
use native.Mathlib.Omega.{arith}
use lib.Dec.{eqb}
use lib.IntN.{ℤ, pos}
use lib.ListN.{length, get_or, length-map}
use borrow.Author.Tests.{eqb-true}
use Rattle.base.specs.Iter.{iter, pick}
use Rattle.base.specs.Range.{in_range}
use Rattle.base.specs.Lists.{tab}
use Rattle.base.proofs.Loop.{pick_yes, pick_no, pick_ind, tested}
use Rattle.undo_log.specs.declared.Record.{Record}
use Rattle.undo_log.specs.declared.Cursor.{Cursor}
use Rattle.undo_log.specs.Log.{word_of, moved_to}
use Rattle.lent_log.specs.Records.{loaded, Lent, lent, pushed_run, popped_to}
use Rattle.noting.specs.Note.{Noting, noting, note, known}
use Rattle.noting.specs.Undo.{records_of, undo, kept}
use Rattle.noting.specs.Undo.{undone as taken_back}
use Rattle.noting.specs.Standing.{standing, has_variable, not_newest, standing_of}
use Rattle.noting.specs.Buffers.{list_short, table_bad, reason_short}
use Rattle.noting.proofs.UndoNote.{records_same}
use Rattle.noting.proofs.Back.{records_length}
use Rattle.refusals.specs.Refusals.{state_bad, table_state_bad, unknown_lit, lit_number, literal_refusal, initialize_refusal, propagate_refusal, undo_refusal, fetch_refusal}
use Rattle.judge.specs.Judge.{Judged}
use Rattle.judge.specs.declared.Judgement.{Judgement}
use Rattle.judge.specs.declared.Judgement.TheVariants.{Fine, Clash, Stopped}
use Rattle.graph_division.specs.declared.GraphDivision.{GraphDivision}
use Rattle.graph_division.specs.declared.Outcome.{Outcome}
use Rattle.graph_division.specs.declared.Answer.{Answer}
use Rattle.graph_division.specs.declared.Answer.TheVariants as answer
use Rattle.graph_division.specs.declared.Answer.TheVariants.{Refused}
use Rattle.graph_division.specs.Calls.{outcome, Called, called, refuse, with_noted, with_judged, noted_in, adding, accepting, handing_on, settled_by, settled, propagated, undone, Fetched, fetched, copied, giving, recorded_for, reason_fetched, last_fetched}
use Rattle.graph_division.specs.Initialize.{noted_at, noted_up_to, taken_over, taking, ended_by, entering, finished, begun, initialized}
use Rattle.record_calls.specs.Reach.{reaches}
use Rattle.record_calls.specs.Checked.{checked, checked_initialized, checked_propagated, checked_undone, checked_reason, checked_last}
use Rattle.record_calls.proofs.Loaded.{AllFit, Within, loaded_length, loaded_in, pushed_there, pushed_moved, pushed_none, popped_moved, popped_none}
use Rattle.refusals.proofs.Accepted.{propagate_accepted, initialize_accepted}
use Rattle.noting.specs.Good.{GoodLog}
use Rattle.noting.proofs.Valid.{note_valid}
use Rattle.plan.specs.Check.{plan_bad, variables_high}
use Rattle.plan.specs.Proper.{ProperWords}
use Rattle.walks.specs.Written.{out_of, written}
use Rattle.calls.specs.Table.{true_in}
use Rattle.recorded.specs.Recorded.{recorded}
use Rattle.notifications.specs.declared.Progress.{Progress}
use Rattle.notifications.specs.Notifications.{lit_at, Way, way, stopping, is_due, joined, tried_out, notified, notified_at, notified_all, last_pass, ended, gone_through}
use Rattle.record_calls.proofs.Entering.{lit_known, lit_is, lit_other, Free, Came, gone_came}
use Rattle.noting.proofs.Logged.{logged_length}
use Rattle.noting.proofs.Replaying.{passed_logged, counts, log_fits}
use Rattle.noting.specs.Ready.{occurrences}
use Rattle.noting.proofs.Room.{room}
use Rattle.plan.specs.Words.{word, start_at, variables_of, unique_lit_at}
use Rattle.noting.specs.Note.{place_in}
use Rattle.record_calls.proofs.Pushed.{Alike, alike_start, note_alike, alike_stored}
use Rattle.record_calls.proofs.Reached.{reached, reached_passes, reached_proper, state_same, state_out}

-- one literal more, of another variable
one_more : (v l : ℕ) (ls : List ℕ) → eqb (l / 2) v ≡ false → has_variable v (l ∷ ls) ≡ has_variable v ls
unfolding has_variable
one_more v l ls e = ap (λ (b : Bool). b || has_variable v ls) e

occurrences_known : (ws : List ℕ) (x : ℕ) → known ws x ≡ true → occurrences ws x ≡ start_at ws (place_in ws x + 1) - start_at ws (place_in ws x)
unfolding occurrences
occurrences_known ws x k = pick_yes _ _ k

-- no more records are left than there were
kept_within : (rs : List Record) → kept rs ≤ length rs
unfolding kept
kept_within [] = omega arith
kept_within (r ∷ rs) = pick_ind (λ n. n ≤ suc (length rs)) (eqb r.kind 0) (length rs) (kept rs) (λ _. omega arith) (λ _. omega (arith, kept_within rs))

module _ (s : GraphDivision) (c : Cursor) (log : List Record) (blank : List ℕ) (long : length blank ≡ 4352) where
  -- the whole log's words, and those that are loaded
  abbrev pub whole : List ℕ
  whole = map word_of log

  abbrev pub part : List ℕ
  part = loaded log c.used blank

  abbrev ends : List (List ℕ)
  ends = s.edges.ends

  abbrev can : Bool
  can = reaches s.plan ends (length log) c

  as_long : length whole ≡ length log
  as_long = length-map log word_of

  part_long : length part ≡ 4352
  part_long = loaded_length log c.used blank ∙ long

  can_whole : can ≡ true → reaches s.plan ends (length whole) c ≡ true
  can_whole e = ap (λ (n : ℕ). reaches s.plan ends n c) as_long ∙ e

  -- the two agree up to the cursor
  pub agrees : can ≡ true → (i : ℕ) → i < c.used → get_or part i 0 ≡ get_or whole i 0
  agrees e i h = let g = reached s.plan ends s.noted c (length log) e in loaded_in log c.used blank g.1 (omega (arith, g.2, long)) i h

  pub same_records : can ≡ true → records_of part c.used ≡ records_of whole c.used
  same_records e = records_same part whole c.used (agrees e)

  pub same_state : can ≡ true → state_bad s.plan ends s.noted part c ≡ state_bad s.plan ends s.noted whole c
  same_state e = state_same s.plan ends s.noted c part whole (can_whole e) part_long (agrees e)

  abbrev fails : Bool
  fails = plan_bad s.plan ends

  pub out_state : fails ≡ false → can ≡ false → state_bad s.plan ends s.noted whole c ≡ true
  out_state f e = state_out s.plan ends s.noted c whole f (ap (λ (n : ℕ). reaches s.plan ends n c) as_long ∙ e)

  proper_plan : can ≡ true → ProperWords s.plan ends
  proper_plan e = reached_proper s.plan ends s.noted c (length log) e

  passing : can ≡ true → fails ≡ false
  passing e = reached_passes s.plan ends s.noted c (length log) e

  -- what is loaded, or turned away: y behind the plan's own test
  by_test : {A : Type 0} (x away y : A) → (can ≡ true → x ≡ y) → (fails ≡ false → can ≡ false → away ≡ y) →
      pick can x away ≡ checked s away y
  unfolding checked
  by_test x away y f g = tested can
      (λ e. pick_yes _ _ e ∙ f e ∙ sym (pick_no _ _ (passing e)))
      (λ e. pick_no _ _ e ∙ tested fails (λ b. sym (pick_yes _ _ b)) (λ b. g b e ∙ sym (pick_no _ _ b)))

  -- ---- `undo`
  abbrev pub Moved : Outcome → Type 0
  Moved o = popped_to log o.cursor.used c ≡ moved_to c o.cursor.used

  refused_moved : (n : ℕ) → Moved (refuse n s c)
  unfolding refuse
  refused_moved n = popped_none log c

  undo_refusal_same : (lit : ℤ) → can ≡ true → undo_refusal s.plan ends s.noted part c lit ≡ undo_refusal s.plan ends s.noted whole c lit
  unfolding undo_refusal
  undo_refusal_same lit e = λ i. pick (same_state e i) 7 (pick (unknown_lit s.plan lit) 9 (pick (not_newest (lit_number lit) (standing (same_records e i))) 11 0))

  pub undo_joined : (lit : ℤ) → pick can (undone s c lit part) (refuse 7 s c) ≡ checked_undone s c lit whole
  unfolding undone undo undo_refusal
  undo_joined lit = by_test _ _ _
      (λ e. ap₂ answered (undo_refusal_same lit e) (same_records e))
      (λ f e. sym (ap (λ (n : ℕ). answered n (records_of whole c.used)) (pick_yes _ _ (out_state f e)) ∙ pick_no _ _ refl))
    where
      answered : ℕ → List Record → Outcome
      answered n rs = pick (eqb n 0) (outcome (with_noted (taken_back rs s.noted) s) (record { used = kept rs; standing = c.standing - 1 }) answer.Undone) (refuse n s c)

  -- the pops of what is taken back bring the cursor there, but for what stands
  undone_moved : (lit : ℤ) → can ≡ true → Moved (undone s c lit part)
  unfolding undone undo
  undone_moved lit e = pick_ind Moved (eqb (undo_refusal s.plan ends s.noted part c lit) 0) _ _
      (λ _. let k = kept_within (records_of part c.used) in popped_moved log c (kept (records_of part c.used)) (omega (arith, k, records_length part c.used)) (reached s.plan ends s.noted c (length log) e).1)
      (λ _. refused_moved _)

  pub undo_moved : (lit : ℤ) (o : Outcome) → o ≡ pick can (undone s c lit part) (refuse 7 s c) → Moved o
  undo_moved lit o e = subst Moved (sym e) (pick_ind Moved can _ _ (undone_moved lit) (λ _. refused_moved 7))

  -- ---- the fetches
  fetch_same : (n : ℕ) → can ≡ true → fetch_refusal s.plan ends s.noted n part c ≡ fetch_refusal s.plan ends s.noted n whole c
  unfolding fetch_refusal
  fetch_same n e = ap (λ (b : Bool). pick (b || reason_short s.plan n) 7 0) (same_state e)

  fetch_out : (n : ℕ) → fails ≡ false → can ≡ false → fetch_refusal s.plan ends s.noted n whole c ≡ 7
  unfolding fetch_refusal
  fetch_out n f e = pick_yes _ _ (ap (λ (b : Bool). b || reason_short s.plan n) (out_state f e))

  pub reason_joined : (lit : ℤ) (b : List ℕ) → pick can (reason_fetched s c part lit b) (fetched (Refused 7) b) ≡ checked_reason s c whole lit b
  unfolding reason_fetched
  reason_joined lit b = by_test _ _ _
      (λ e. ap answered (fetch_same (length b) e))
      (λ f e. sym (ap answered (fetch_out (length b) f e) ∙ pick_no _ _ refl))
    where
      answered : ℕ → Fetched
      answered n = pick (eqb n 0) (pick (eqb (literal_refusal s.plan lit) 0) (giving s (recorded_for s (lit_number lit)) b) (fetched (Refused (literal_refusal s.plan lit)) b)) (fetched (Refused n) b)

  pub last_joined : (b : List ℕ) → pick can (last_fetched s c part b) (fetched (Refused 7) b) ≡ checked_last s c whole b
  unfolding last_fetched
  last_joined b = by_test _ _ _
      (λ e. ap answered (fetch_same (length b) e))
      (λ f e. sym (ap answered (fetch_out (length b) f e) ∙ pick_no _ _ refl))
    where
      answered : ℕ → Fetched
      answered n = pick (eqb n 0) (copied s.plan s.last s.last_len b) (fetched (Refused n) b)

  -- ---- the calls that push: what a call left, with its records pushed on the log
  unfoldable pub back : Called → Called
  back y = called y.outcome y.table y.list (map word_of (pushed_run y.log y.outcome.cursor.used (lent log c)).log)

  -- what did not move the cursor
  refused_back : (n : ℕ) (t list : List ℕ) → back (called (refuse n s c) t list part) ≡ called (refuse n s c) t list whole
  unfolding back refuse
  refused_back n t list = ap (λ (l : Lent). called (refuse n s c) t list (map word_of l.log)) (pushed_none part c log)

  -- the same of what is pushed back: the loaded words turned away are the whole log turned away
  back_test : (t list : List ℕ) (x y : Called) → (can ≡ true → back x ≡ y) →
      (fails ≡ false → can ≡ false → called (refuse 7 s c) t list whole ≡ y) →
      back (pick can x (called (refuse 7 s c) t list part)) ≡ checked s (called (refuse 7 s c) t list whole) y
  unfolding checked
  back_test t list x y f g = tested can
      (λ e. ap back (pick_yes _ _ e) ∙ f e ∙ sym (pick_no _ _ (passing e)))
      (λ e.
      ap back (pick_no _ _ e) ∙ refused_back 7 t list
      ∙ tested fails (λ b. sym (pick_yes _ _ b)) (λ b. g b e ∙ sym (pick_no _ _ b)))

  -- the log has room for the records that were pushed on the loaded words
  abbrev Fits : Called → Type 0
  Fits y = Within c (length log) y.outcome.cursor.used

  refused_fits : (n : ℕ) (t list : List ℕ) → Fits (called (refuse n s c) t list part)
  unfolding refuse
  refused_fits n t list = (omega arith, omega arith)

  -- x is what became of the loaded words, y of the whole log: what is pushed is what y has
  module _ (x y : Noting) (h : Alike part whole c.used x y) (in-log : x.cursor.used ≤ length log) where
    pub noted_fits : Within c (length log) x.cursor.used
    noted_fits = (h.low, omega (arith, h.low))

    pub stored_back : AllFit x.log → map word_of (pushed_run x.log x.cursor.used (lent log c)).log ≡ y.log
    stored_back fits = pushed_there x.log c log x.cursor.used noted_fits fits ∙ sym (alike_stored part whole c.used x y h (omega (arith, as_long)))

  module _ (len : length s.noted ≡ 384) (t list : List ℕ) where
    -- ---- `propagate`
    table_same : can ≡ true → table_state_bad s.plan ends s.noted t (length list) part c ≡ table_state_bad s.plan ends s.noted t (length list) whole c
    unfolding table_state_bad
    table_same e = ap (λ (b : Bool). b || (list_short s.plan (length list) || table_bad s.plan t)) (same_state e)

    table_out : fails ≡ false → can ≡ false → table_state_bad s.plan ends s.noted t (length list) whole c ≡ true
    unfolding table_state_bad
    table_out f e = ap (λ (b : Bool). b || (list_short s.plan (length list) || table_bad s.plan t)) (out_state f e)

    module _ (lit : ℤ) where
      abbrev refusal : List ℕ → ℕ
      refusal words = propagate_refusal s.plan ends s.noted t (length list) words c lit

      refusal_same : can ≡ true → refusal part ≡ refusal whole
      unfolding propagate_refusal
      refusal_same e = λ i. pick (table_same e i) 7 (pick (unknown_lit s.plan lit) 9 (pick (has_variable (lit_number lit / 2) (standing (same_records e i))) 10 0))

      abbrev l : ℕ
      l = lit_number lit

      -- the literal is noted
      module _ (e : can ≡ true) (ok : refusal part ≡ 0) where
        abbrev x : Noting
        x = noted_in s c l part

        abbrev y : Noting
        y = noted_in s c l whole

        alike : Alike part whole c.used x y × (x.cursor.used ≤ length log)
        unfolding noted_in
        alike =
            let a = propagate_accepted s.plan ends s.noted part c len t (length list) lit ok in
            let b = propagate_accepted s.plan ends s.noted whole c len t (length list) lit (sym (refusal_same e) ∙ ok) in
            let p = proper_plan e in
            let k = a.1.is_known in
            let ra = room s.plan ends p s.noted part c a.0.state.passes a.0.state.long l k a.2 in
            let rb = room s.plan ends p s.noted whole c b.0.state.passes b.0.state.long l k b.2 in
            let o = occurrences_known s.plan (l / 2) k in
            let st = logged_length s.plan part (passed_logged s.plan ends p s.noted part c a.0.state.passes) in
            let n = counts s.plan ends p s.noted part c a.0.state.passes in
            let g = note_alike part whole c.used s.plan l (noting s.noted part c) (noting s.noted whole c)
            (alike_start part whole c.used s.noted c refl (omega (arith, st, n)) (λ i h. sym (agrees e i h))) k (omega (arith, ra, o)) (omega (arith, rb, o)) in
            (g.0, omega (arith, g.1, rb, o, as_long))

        logged : AllFit x.log → map word_of (pushed_run x.log x.cursor.used (lent log c)).log ≡ y.log
        logged fits = stored_back x y alike.0 alike.1 fits

        x_fits : Within c (length log) x.cursor.used
        x_fits = noted_fits x y alike.0 alike.1

        adding_back : (t list : List ℕ) → AllFit x.log → back (adding s c l t list part) ≡ adding s c l t list whole
        unfolding back adding
        adding_back t list fits = λ i. called (outcome (with_noted (alike.0.noted i) s) (alike.0.cursor i) answer.Noted) t list (logged fits i)

        accepting_back : (j : Judged) (n : ℕ) (a : Answer) (t list : List ℕ) → AllFit x.log → back (accepting s c l j n a t list part) ≡ accepting s c l j n a t list whole
        unfolding back accepting
        accepting_back j n a t list fits = λ i. called (outcome (with_judged (alike.0.noted i) j n s) (alike.0.cursor i) a) t list (logged fits i)

        settled_back : (j : Judged) (q : Judgement) → AllFit (settled_by s c l j q t list part).log → back (settled_by s c l j q t list part) ≡ settled_by s c l j q t list whole
        unfolding settled_by handing_on accepting
        settled_back j Fine fits = accepting_back j 0 _ _ _ fits
        settled_back j (Clash n) fits = accepting_back j n _ t list fits
        settled_back j (Stopped n) fits = refused_back n t list

        worked_back : (pending : ℤ) → AllFit (pick (in_range (pos 0) pending) (settled s c l t list part) (adding s c l t list part)).log →
            back (pick (in_range (pos 0) pending) (settled s c l t list part) (adding s c l t list part)) ≡ pick (in_range (pos 0) pending) (settled s c l t list whole) (adding s c l t list whole)
        unfolding settled pick adding
        worked_back pending = go (in_range (pos 0) pending)
          where
            go : (b : Bool) → AllFit (pick b (settled s c l t list part) (adding s c l t list part)).log →
                back (pick b (settled s c l t list part) (adding s c l t list part)) ≡ pick b (settled s c l t list whole) (adding s c l t list whole)
            go true fits = settled_back _ _ fits
            go false fits = adding_back t list fits

        settled_fits : (j : Judged) (q : Judgement) → Fits (settled_by s c l j q t list part)
        unfolding settled_by handing_on accepting
        settled_fits j Fine = x_fits
        settled_fits j (Clash n) = x_fits
        settled_fits j (Stopped n) = refused_fits n t list

        worked_fits : (pending : ℤ) → Fits (pick (in_range (pos 0) pending) (settled s c l t list part) (adding s c l t list part))
        unfolding settled adding
        worked_fits pending = pick_ind Fits (in_range (pos 0) pending) _ _ (λ _. settled_fits _ _) (λ _. x_fits)

      pub propagated_back : (pending : ℤ) → AllFit (pick can (propagated s c lit pending t list part) (called (refuse 7 s c) t list part)).log →
          back (pick can (propagated s c lit pending t list part) (called (refuse 7 s c) t list part)) ≡ checked_propagated s c lit pending t list whole
      unfolding propagated propagate_refusal
      propagated_back pending fits = back_test t list _ _
          (λ e. tested (eqb (refusal part) 0)
          (λ z.
          ap back (pick_yes _ _ z)
          ∙ worked_back e (eqb-true _ _ z) pending (subst (λ (m : Called). AllFit m.log) (pick_yes _ _ e ∙ pick_yes _ _ z) fits)
          ∙ sym (pick_yes _ _ (ap (λ (n : ℕ). eqb n 0) (sym (refusal_same e)) ∙ z)))
          (λ z.
          ap back (pick_no _ _ z)
          ∙ refused_back (refusal part) t list
          ∙ ap (λ (n : ℕ). called (refuse n s c) t list whole) (refusal_same e)
          ∙ sym (pick_no _ _ (ap (λ (n : ℕ). eqb n 0) (sym (refusal_same e)) ∙ z))))
          (λ f e.
          sym (ap (λ (n : ℕ). pick (eqb n 0) (pick (in_range (pos 0) pending) (settled s c l t list whole) (adding s c l t list whole)) (called (refuse n s c) t list whole)) (pick_yes _ _ (table_out f e)) ∙ pick_no _ _ refl))

      propagated_fits : (pending : ℤ) → Fits (pick can (propagated s c lit pending t list part) (called (refuse 7 s c) t list part))
      unfolding propagated
      propagated_fits pending = pick_ind Fits can _ _
          (λ e. pick_ind Fits (eqb (refusal part) 0) _ _ (λ z. worked_fits e (eqb-true _ _ z) pending) (λ _. refused_fits (refusal part) t list))
          (λ _. refused_fits 7 t list)

    -- ---- `initialize`
    abbrev ws : List ℕ
    ws = s.plan

    abbrev start : List ℕ → Noting
    start words = noting s.noted words c

    -- what is noted of the literals before place i
    abbrev up_to : List ℕ → ℕ → Noting
    up_to words i = noted_up_to ws t i (start words)

    -- both logs so far, and the literals from place i on that stand: they stood on entry
    record Both (i : ℕ) : Type 0 where
      alike : Alike part whole c.used (up_to part i) (up_to whole i)
      valid_part : GoodLog ws (up_to part i)
      valid_whole : GoodLog ws (up_to whole i)
      ahead : (q : ℕ) → i ≤ q → q < 2 * variables_of ws → true_in t (unique_lit_at ws q) ≡ true → has_variable (unique_lit_at ws q / 2) (standing_of (up_to part i)) ≡ has_variable (unique_lit_at ws q / 2) (standing_of (start part))

    -- what stands is the same in both
    both_standing : (x y : Noting) → Alike part whole c.used x y → standing_of y ≡ standing_of x
    both_standing x y h = ap (λ (d : Cursor). standing (records_of y.log d.used)) (sym h.cursor) ∙ ap standing (records_same y.log x.log x.cursor.used h.same)

    counted : (x : Noting) (p : ProperWords ws ends) → GoodLog ws x → x.cursor.standing ≤ x.cursor.used
    counted x p v =
        let a = logged_length ws x.log (passed_logged ws ends p x.noted x.log x.cursor v.passes) in
        omega (arith, a, counts ws ends p x.noted x.log x.cursor v.passes)

    module _ (e : can ≡ true) (p : ProperWords ws ends) (vp : GoodLog ws (start part)) (vw : GoodLog ws (start whole)) (free : ℕ) (is_free : Free ws ends t part c.used free) (far : free ≤ 2 * variables_of ws) where
      both_next : (i : ℕ) → i < free → Both i → Both (suc i)
      unfolding noted_up_to iter noted_at
      both_next i h b = tested (true_in t (unique_lit_at ws i)) due skipped
        where
          lit : ℕ
          lit = unique_lit_at ws i

          skipped : true_in t (unique_lit_at ws i) ≡ false → Both (suc i)
          skipped d =
              let ex : up_to part (suc i) ≡ up_to part i = pick_no _ _ d in
              let ey : up_to whole (suc i) ≡ up_to whole i = pick_no _ _ d in
              record {
                alike = subst (λ (z : Noting). Alike part whole c.used z (up_to whole (suc i))) (sym ex) (subst (Alike part whole c.used (up_to part i)) (sym ey) b.alike);
                valid_part = subst (GoodLog ws) (sym ex) b.valid_part;
                valid_whole = subst (GoodLog ws) (sym ey) b.valid_whole;
                ahead = λ q l k m. ap (λ (z : Noting). has_variable (unique_lit_at ws q / 2) (standing_of z)) ex ∙ b.ahead q (omega arith) k m;
              }

          due : true_in t (unique_lit_at ws i) ≡ true → Both (suc i)
          due d =
              let inside : i < 2 * variables_of ws = omega arith in
              let x = up_to part i in
              let y = up_to whole i in
              let ex : up_to part (suc i) ≡ note ws lit x = pick_yes _ _ d ∙ ap (λ (m : ℕ). note ws m x) (lit_is ws ends p i inside) in
              let ey : up_to whole (suc i) ≡ note ws lit y = pick_yes _ _ d ∙ ap (λ (m : ℕ). note ws m y) (lit_is ws ends p i inside) in
              let k = lit_known ws ends p i inside in
              let fx : has_variable (lit / 2) (standing_of x) ≡ false = b.ahead i (omega arith) inside d ∙ ap (λ (m : ℕ). has_variable (m / 2) (standing_of (start part))) (sym (lit_is ws ends p i inside)) ∙ is_free i h d in
              let fy : has_variable (lit / 2) (standing_of y) ≡ false = ap (has_variable (lit / 2)) (both_standing x y b.alike) ∙ fx in
              let rx = room ws ends p x.noted x.log x.cursor b.valid_part.passes b.valid_part.long lit k fx in
              let ry = room ws ends p y.noted y.log y.cursor b.valid_whole.passes b.valid_whole.long lit k fy in
              let o = occurrences_known ws (lit / 2) k in
              let same-used : x.cursor.used ≡ y.cursor.used = ap (λ (m : Cursor). m.used) b.alike.cursor in
              let g = note_alike part whole c.used ws lit x y b.alike k (omega (arith, rx, o, b.alike.long_x)) (omega (arith, ry, o, b.alike.long_y, same-used)) in
              let nx = note_valid ws ends p x b.valid_part lit k fx in
              let ny = note_valid ws ends p y b.valid_whole lit k fy in
              record {
                alike = subst (λ (z : Noting). Alike part whole c.used z (up_to whole (suc i))) (sym ex) (subst (Alike part whole c.used (note ws lit x)) (sym ey) g.0);
                valid_part = subst (GoodLog ws) (sym ex) nx.0;
                valid_whole = subst (GoodLog ws) (sym ey) ny.0;
                ahead = λ q l m u.
                    ap (λ (z : Noting). has_variable (unique_lit_at ws q / 2) (standing_of z)) ex
                    ∙ ap (has_variable (unique_lit_at ws q / 2)) nx.1
                    ∙ one_more (unique_lit_at ws q / 2) lit (standing_of x) (lit_other ws ends p t i q (omega arith) m d u)
                    ∙ b.ahead q (omega arith) m u;
              }

      both : (i : ℕ) → i ≤ free → Both i
      unfolding noted_up_to iter
      both zero h = record {
        alike = alike_start part whole c.used s.noted c refl (counted (start part) p vp) (λ i l. sym (agrees e i l));
        valid_part = vp;
        valid_whole = vw;
        ahead = λ q a b d. refl;
      }
      both (suc i) h = both_next i (omega arith) (both i (omega arith))

      abbrev in_part : Noting
      in_part = up_to part free

      abbrev in_whole : Noting
      in_whole = up_to whole free

      taken_alike : Alike part whole c.used in_part in_whole × (in_part.cursor.used ≤ length log)
      taken_alike =
          let b = both free (omega arith) in
          let same-used : in_part.cursor.used ≡ in_whole.cursor.used = ap (λ (m : Cursor). m.used) b.alike.cursor in (
            b.alike,
            omega (arith, log_fits ws ends p in_whole.noted in_whole.log in_whole.cursor b.valid_whole.passes, b.alike.long_y, as_long, same-used),
          )

    module _ (e : can ≡ true) (p : ProperWords ws ends) (vp : GoodLog ws (start part)) (vw : GoodLog ws (start whole)) (words left : List ℕ) (g : Progress) where
      taking_back : (done : Bool) (a : Answer) (after handed : List ℕ) → Free ws ends t part c.used g.past × (g.past ≤ 2 * variables_of ws) → AllFit (taking s c t part words left g done a after handed list).log →
          back (taking s c t part words left g done a after handed list) ≡ taking s c t whole words left g done a after handed list
      unfolding back taking taken_over
      taking_back done a after handed came fits =
          let (h, in-log) = taken_alike e p vp vw g.past came.0 came.1 in
          let stored = stored_back (up_to part g.past) (up_to whole g.past) h in-log fits in
          λ i. called (outcome (record {
            plan = s.plan;
            edges = s.edges;
            noted = h.noted i;
            reasons = recorded s.plan words s.reasons;
            last = left;
            last_len = g.len;
            initialized = done;
          }) (h.cursor i) a) after (written (tab (word handed) g.handed) (out_of list 0)).text (stored i)

      ended_back : (j : Judgement) (after handed : List ℕ) → Came ws ends t part c.used j g.past → AllFit (ended_by s c t part words left g j t after handed list).log →
          back (ended_by s c t part words left g j t after handed list) ≡ ended_by s c t whole words left g j t after handed list
      unfolding ended_by
      ended_back Fine after handed came fits = taking_back true _ after handed came fits
      ended_back (Clash n) after handed came fits = taking_back s.initialized _ after handed came fits
      ended_back (Stopped n) after handed came fits = refused_back n t list

      taking_fits : (done : Bool) (a : Answer) (after handed : List ℕ) → Free ws ends t part c.used g.past × (g.past ≤ 2 * variables_of ws) → Fits (taking s c t part words left g done a after handed list)
      unfolding taking taken_over
      taking_fits done a after handed came = let (h, in-log) = taken_alike e p vp vw g.past came.0 came.1 in noted_fits (up_to part g.past) (up_to whole g.past) h in-log

      ended_fits : (j : Judgement) (after handed : List ℕ) → Came ws ends t part c.used j g.past → Fits (ended_by s c t part words left g j t after handed list)
      unfolding ended_by
      ended_fits Fine after handed came = taking_fits true _ after handed came
      ended_fits (Clash n) after handed came = taking_fits s.initialized _ after handed came
      ended_fits (Stopped n) after handed came = refused_fits n t list

    -- the literals are gone through with the same standing ones
    gone_same : can ≡ true → (z : Way) → gone_through ws ends t part c.used z ≡ gone_through ws ends t whole c.used z
    unfolding gone_through notified_all notified_at notified
    gone_same e z = ap gone (same_records e)
      where
        gone : List Record → Way
        gone rs =
            let v = iter (λ i x. pick (is_due ws t x.progress.judgement i) (pick (has_variable (lit_at ws i / 2) (standing rs)) (way (stopping 10 x.progress) x.noted x.table x.list x.words x.proposals x.left) (joined ws ends (i + 1) (way x.progress (tried_out ws (lit_at ws i) x.noted) x.table x.list x.words x.proposals x.left))) x) (2 * variables_of ws) z in
            ended v (last_pass ws ends v.noted v.progress v.words v.proposals v.left)

    finished_same : can ≡ true → finished s c t part ≡ finished s c t whole
    unfolding finished entering
    finished_same e = gone_same e _

    abbrev start_refusal : List ℕ → ℕ
    start_refusal l = initialize_refusal ws ends s.noted t (length list) l c s.initialized

    start_same : can ≡ true → start_refusal part ≡ start_refusal whole
    unfolding initialize_refusal
    start_same e = ap (λ (b : Bool). pick b 7 (pick (variables_high ws) 7 (pick s.initialized 8 0))) (table_same e)

    entered_came : Came ws ends t part c.used (finished s c t part).progress.judgement (finished s c t part).progress.past
    unfolding finished entering
    entered_came = gone_came ws ends t part c.used _ refl refl

    begun_back : can ≡ true → start_refusal part ≡ 0 → AllFit (begun s c t part list).log → back (begun s c t part list) ≡ begun s c t whole list
    unfolding begun
    begun_back e ok fits =
        let a = (initialize_accepted ws ends s.noted part c len t (length list) s.initialized ok).0.state in
        let b = (initialize_accepted ws ends s.noted whole c len t (length list) s.initialized (sym (start_same e) ∙ ok)).0.state in
        let f = finished s c t part in
        ended_back e (proper_plan e) a b f.words f.left f.progress f.progress.judgement f.table f.list entered_came fits
        ∙ ap (λ (w : Way). ended_by s c t whole w.words w.left w.progress w.progress.judgement t w.table w.list list) (finished_same e)

    begun_fits : can ≡ true → start_refusal part ≡ 0 → Fits (begun s c t part list)
    unfolding begun
    begun_fits e ok =
        let a = (initialize_accepted ws ends s.noted part c len t (length list) s.initialized ok).0.state in
        let b = (initialize_accepted ws ends s.noted whole c len t (length list) s.initialized (sym (start_same e) ∙ ok)).0.state in
        let f = finished s c t part in
        ended_fits e (proper_plan e) a b f.words f.left f.progress f.progress.judgement f.table f.list entered_came

    initialized_fits : Fits (pick can (initialized s c t part list) (called (refuse 7 s c) t list part))
    unfolding initialized
    initialized_fits = pick_ind Fits can _ _
        (λ e. pick_ind Fits (eqb (start_refusal part) 0) _ _ (λ z. begun_fits e (eqb-true _ _ z)) (λ _. refused_fits (start_refusal part) t list))
        (λ _. refused_fits 7 t list)

    pub initialized_back : AllFit (pick can (initialized s c t part list) (called (refuse 7 s c) t list part)).log → back (pick can (initialized s c t part list) (called (refuse 7 s c) t list part)) ≡ checked_initialized s c t whole list
    unfolding initialized initialize_refusal
    initialized_back fits = back_test t list _ _
        (λ e. tested (eqb (start_refusal part) 0)
        (λ z.
        ap back (pick_yes _ _ z)
        ∙ begun_back e (eqb-true _ _ z) (subst (λ (m : Called). AllFit m.log) (pick_yes _ _ e ∙ pick_yes _ _ z) fits)
        ∙ sym (pick_yes _ _ (ap (λ (n : ℕ). eqb n 0) (sym (start_same e)) ∙ z)))
        (λ z.
        ap back (pick_no _ _ z)
        ∙ refused_back (start_refusal part) t list
        ∙ ap (λ (n : ℕ). called (refuse n s c) t list whole) (start_same e)
        ∙ sym (pick_no _ _ (ap (λ (n : ℕ). eqb n 0) (sym (start_same e)) ∙ z))))
        (λ f e.
        sym (ap (λ (n : ℕ). pick (eqb n 0) (begun s c t whole list) (called (refuse n s c) t list whole)) (pick_yes _ _ (table_out f e)) ∙ pick_no _ _ refl))

    module _ (o : Outcome) (t' list' words : List ℕ) where
      -- the log then
      abbrev logged_as : Called → Type 0
      logged_as y = called o t' list' (map word_of (pushed_run words o.cursor.used (lent log c)).log) ≡ y

      -- and the cursor, but for what stands
      abbrev moved_as : Type 0
      moved_as = (pushed_run words o.cursor.used (lent log c)).cursor ≡ moved_to c o.cursor.used

      module _ (lit pending : ℤ) (e : called o t' list' words ≡ pick can (propagated s c lit pending t list part) (called (refuse 7 s c) t list part)) where
        pub propagate_joined : AllFit words → logged_as (checked_propagated s c lit pending t list whole)
        unfolding back
        propagate_joined fits = ap back e ∙ propagated_back lit pending (subst (λ (m : Called). AllFit m.log) e fits)

        pub propagate_moved : moved_as
        propagate_moved = pushed_moved words c log o.cursor.used (subst Fits (sym e) (propagated_fits lit pending))

      module _ (e : called o t' list' words ≡ pick can (initialized s c t part list) (called (refuse 7 s c) t list part)) where
        pub initialize_joined : AllFit words → logged_as (checked_initialized s c t whole list)
        unfolding back
        initialize_joined fits = ap back e ∙ initialized_back (subst (λ (m : Called). AllFit m.log) e fits)

        pub initialize_moved : moved_as
        initialize_moved = pushed_moved words c log o.cursor.used (subst Fits (sym e) initialized_fits)
