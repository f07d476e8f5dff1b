-- The program's lines past the plan's are those of crate calls (specs/Lines): what a line prints, and what is held after it.
use mathlib.Core.Path.{◌≡◌, refl, sym, ap, ap₂, subst, ◌∙◌}
use mathlib.Core.Bool.{Bool, true, false, not, ◌||◌}
use mathlib.Core.List.{List, [], ◌∷◌, ◌++◌}
use Prim.Native.Nat.{ℕ, ◌+◌, ◌*◌, ◌/◌, ◌%◌, ◌<◌, ◌≤◌}
use native.Mathlib.Omega.{arith}
use lib.Dec.{eqb, ltb}
use lib.IntN.{ℤ, pos}
use lib.ListN.{length, get_or, set, take, drop, take-append-drop, replicate, length-replicate, length-set}
use lib.Seq.{set_out}
use borrow.Author.Tests.{le-ltb}
use Rattle.base.specs.Iter.{pick}
use Rattle.base.specs.Range.{in_range, to_nat}
use Rattle.base.proofs.Loop.{pick_yes, pick_no, pick_ind, tested}
use Rattle.division.specs.Plan.{Plan}
use Rattle.plan.specs.Words.{variables_of, slots_of, vertices_of, edges_of}
use Rattle.plan.specs.Proper.{ProperWords}
use Rattle.noting.specs.Buffers.{log_short, list_short, reason_short}
use Rattle.refusals.specs.Refusals.{lit_number}
use Rattle.refusals.specs.Calls.{lit_given}
use Rattle.refusals.proofs.Numbers.{number_inside, given_outside}
use Rattle.calls.specs.Table.{unset_in, enter}
use Rattle.calls.specs.Calls as calls
use Rattle.calls.specs.Calls.{World, answer_list}
use Rattle.calls.specs.Lines as lines
use Rattle.calls.specs.Marks.{Marked}
use Rattle.calls.proofs.View.{Did, away, added, agreed, clashed, took, asked, began, began_last, began_clash, did}
use Rattle.calls.proofs.Marks.{call_marked}
use Rattle.text_writer.specs.Written.{answer_line}
use Rattle.graph_division.specs.declared.Answer.{Answer}
use Rattle.graph_division.specs.declared.Answer.TheVariants as answer
use Rattle.graph_division.specs.declared.Outcome.{Outcome}
use Rattle.graph_division.specs.Answers.{values_of, is_refused}
use Rattle.graph_division.specs.Outcomes.{answer_for, answer_of}
use Rattle.graph_division.specs.Calls.{Called, Fetched, propagated, undone, reason_fetched, last_fetched}
use Rattle.graph_division.specs.Initialize.{initialized}
use Rattle.graph_division.specs.Runs as runs
use Rattle.graph_division.specs.Runs.{Request, initialize, propagate, undo, Query, reason_for, last_left, ask, table_of, tail_of, Kept, kept, log_for, Reply, replied, replied_called, replied_fetched, reply, keeping, room_for, call_of}
use Rattle.simulation.specs.Represents.{values_for, RepresentsKept, Replies}
use Rattle.claims.proofs.Replying.{At, reply_at, next_at}
use Rattle.claims.proofs.Past.{reply_log}
use Rattle.sessions.specs.Follow.{bytes_of}
use Rattle.desk.specs.Print.{letter_of, numbers_in, line_of}
use Rattle.desk.specs.Obey.{Desk, desk, Turn, turn, marked, valued, begun, notified, taken_back, reason_asked, last_asked, obeyed}
use Rattle.text.specs.declared.Line.{Line}
use Rattle.text.specs.declared.Line.TheVariants.{O, P, G, «V», I, N, U, R, RLast, Malformed}
use Rattle.plan.specs.Plan.{plan_of}
use Rattle.calls.specs.Table.{knows}
use Rattle.refusals.proofs.Known.{outside_unknown}
use Rattle.simulation.specs.Start.{state_plan}

-- ---- what is printed, by what a call did
module _ (d : Plan) (w : World) where
  init_bytes : {room : Bool} {t : List ℕ} {o : calls.Outcome} → Did d w (calls.initialize room t) o → (l : List ℕ) → take (length o.handed) l ≡ o.handed → line_of (answer_of o) l ≡ bytes_of (lines.print o.answer o.handed)
  unfolding line_of letter_of numbers_in values_of answer_of answer_for bytes_of lines.print pick calls.refuse calls.last_by calls.finish_by
  init_bytes (away c n) l e = refl
  init_bytes (began room t a s j v b) l e = ap (answer_line 67) e
  init_bytes (began_last room t a s j c v b) l e = refl
  init_bytes (began_clash room t a s j b) l e = refl

  told_bytes : {room : Bool} {t : List ℕ} {m : ℕ} {p : Bool} {o : calls.Outcome} → Did d w (calls.propagate room t m p) o → (l : List ℕ) → take (length o.handed) l ≡ o.handed → line_of (answer_of o) l ≡ bytes_of (lines.print o.answer o.handed)
  unfolding line_of letter_of numbers_in values_of answer_of answer_for bytes_of lines.print pick calls.refuse calls.settled_by
  told_bytes (away c n) l e = refl
  told_bytes (added room t m p q f k) l e = refl
  told_bytes (agreed room t m p q o x f j b k) l e = ap (answer_line 67) e
  told_bytes (clashed room t m p q o x f j b k) l e = refl

  back_bytes : {room : Bool} {m : ℕ} {o : calls.Outcome} → Did d w (calls.undo room m) o → (l : List ℕ) → line_of (answer_of o) l ≡ bytes_of (lines.print o.answer o.handed)
  unfolding line_of letter_of numbers_in values_of answer_of answer_for bytes_of lines.print pick calls.refuse
  back_bytes (away c n) l = refl
  back_bytes (took room m x xs e) l = refl

  -- a list, a run or a page of which the first entries are what is written
  asked_bytes : (a : calls.Answer) (l : List ℕ) → take (length (answer_list a)) l ≡ answer_list a → line_of (answer_of (calls.tell w a)) l ≡ bytes_of (lines.print a [])
  unfolding line_of letter_of numbers_in values_of answer_of answer_for bytes_of lines.print pick calls.tell answer_list
  asked_bytes calls.consistent l e = refl
  asked_bytes calls.conflicting l e = refl
  asked_bytes calls.noted l e = refl
  asked_bytes calls.undone l e = refl
  asked_bytes (calls.refused n) l e = refl
  asked_bytes (calls.reason ls) l e = ap (answer_line 82) e
  asked_bytes (calls.found_run gs) l e = ap (answer_line 82) e
  asked_bytes (calls.printed_page bs) l e = ap (answer_line 82) e

  ask_bytes : {room : Bool} {q : calls.Query} {o : calls.Outcome} → Did d w (calls.ask room q) o → (l : List ℕ) → take (length (answer_list o.answer)) l ≡ answer_list o.answer → line_of (answer_of o) l ≡ bytes_of (lines.print o.answer o.handed)
  unfolding line_of letter_of numbers_in values_of answer_of answer_for bytes_of lines.print pick calls.refuse calls.tell answer_list
  ask_bytes (away c n) l e = refl
  ask_bytes (asked room q) l e = asked_bytes (calls.answer_to d w q) l e

refused_for : (a : calls.Answer) (n : ℕ) → is_refused (answer_for a n) ≡ not (calls.accepted a)
unfolding answer_for calls.accepted
refused_for calls.consistent n = refl
refused_for calls.conflicting n = refl
refused_for calls.noted n = refl
refused_for calls.undone n = refl
refused_for (calls.refused m) n = refl
refused_for (calls.reason ls) n = refl
refused_for (calls.found_run gs) n = refl
refused_for (calls.printed_page bs) n = refl

pick_not : {A : Type 0} (b : Bool) (x y : A) → pick (not b) x y ≡ pick b y x
unfolding pick
pick_not true x y = refl
pick_not false x y = refl

-- "N first marks an unset variable at the current level (none for a literal outside its range)"
marked_is : (lit : ℤ) (t : List ℕ) → length t ≡ 4096 → marked lit t ≡ pick (unset_in t (lit_given lit)) (enter t (lit_given lit)) t
unfolding marked enter
marked_is lit t len = tested (in_range (pos 8191) lit)
    (λ e. pick_yes _ _ e ∙ ap (λ (l : ℕ). pick (unset_in t l) (enter t l) t) (number_inside lit e))
    (λ e. pick_no _ _ e ∙ sym (pick_ind (λ (z : List ℕ). z ≡ t) (unset_in t (lit_given lit)) (enter t (lit_given lit)) t (λ _. set_out t (lit_given lit / 2) _ (omega (arith, given_outside lit e))) (λ _. refl)))

-- ---- what is held
abbrev pub kept_of : Desk → Kept
kept_of x = kept x.state x.cursor (take x.cursor.used x.log)

abbrev tail_of_desk : Desk → List ℕ
tail_of_desk x = drop x.cursor.used x.log

-- a reply as a turn of the program
abbrev turn_of : Reply → List ℕ → Turn
turn_of y t = turn (desk y.state y.cursor t y.log) (line_of y.answer y.list)

module _ (d : Plan) where
  -- what the program holds stands for what the lines of crate calls hold
  pub record Stands (x : Desk) (a : lines.Desk) : Type 0 where
    pub at : At d (kept_of x) a.world
    pub table : x.table ≡ a.table
    pub size : length x.table ≡ 4096
    pub long : length x.log ≡ 4352

  -- a turn is what the lines of crate calls come to, from a to b: one line more is printed, and these are its bytes
  pub record Turns (t : Turn) (a b : lines.Desk) : Type 0 where
    pub stands : Stands t.desk b
    pub line : List ℕ
    pub printed : b.printed ≡ line ∷ a.printed
    pub bytes : t.bytes ≡ bytes_of line

  module _ (x : Desk) (a : lines.Desk) (s : Stands x a) where
    abbrev k : Kept
    k = kept_of x

    abbrev tl : List ℕ
    tl = tail_of_desk x

    whole : log_for k tl ≡ x.log
    whole = take-append-drop x.cursor.used x.log

    proper : ProperWords x.state.plan x.state.edges.ends
    proper = s.at.represents.represents.proper

    log_room : log_short x.state.plan (length (log_for k tl)) ≡ false
    unfolding log_short
    log_room = le-ltb (length (log_for k tl)) (2 * slots_of x.state.plan) (omega (arith, ap length whole, s.long, proper.few.1))

    list_room : list_short x.state.plan (length (replicate {A = ℕ} 4352 0)) ≡ false
    unfolding list_short
    list_room = le-ltb (length (replicate {A = ℕ} 4352 0)) (2 * variables_of x.state.plan) (omega (arith, length-replicate {A = ℕ} 4352 0, proper.few.0))

    buffer_room : reason_short x.state.plan (length (replicate {A = ℕ} 260 0)) ≡ false
    unfolding reason_short
    buffer_room = le-ltb (length (replicate {A = ℕ} 260 0)) (edges_of x.state.plan + 2 * vertices_of x.state.plan + 4) (omega (arith, length-replicate {A = ℕ} 260 0, proper.fine.vertices, proper.fine.fits))

    all_room : (b : Bool) → b ≡ false → room_for x.state.plan (length (log_for k tl)) b ≡ true
    unfolding room_for
    all_room b e = ap₂ (λ (p q : Bool). not (p || q)) log_room e

    -- any request with this tail, and a table t after it that the lines have too
    module _ (q : Request) (e : tail_of q ≡ tl) where
      abbrev o : calls.Outcome
      o = calls.call d (call_of k q) a.world

      abbrev r : Replies k q (reply k q) o
      r = reply_at d k a.world s.at q

      next_stands : (t u : List ℕ) (ps : List (List ℕ)) → t ≡ u → length t ≡ 4096 → Stands (desk (reply k q).state (reply k q).cursor t (reply k q).log) (record { world = o.world; table = u; printed = ps })
      unfolding keeping
      next_stands t u ps f n = record {
        at = next_at d k a.world s.at q;
        table = f;
        size = n;
        long = (reply_log k q).long ∙ ap (λ (m : List ℕ). length (log_for k m)) e ∙ ap length whole ∙ s.long;
      }

    -- I
    abbrev qi : Request
    qi = initialize x.table (replicate 4352 0) tl

    init_call : call_of k qi ≡ calls.initialize true a.table
    unfolding call_of
    init_call = ap₂ (λ (b : Bool) (t : List ℕ). calls.initialize b t) (all_room _ list_room) s.table

    init_words : begun x ≡ turn_of (reply k qi) (reply k qi).table
    unfolding begun reply replied_called replied
    init_words = ap (λ (m : List ℕ). let y = replied_called (initialized x.state x.cursor x.table m (replicate 4352 0)) in turn_of y y.table) (sym whole)

    init_here : Turns (turn_of (reply k qi) (reply k qi).table) a (lines.printing (calls.call d (call_of k qi) a.world) (calls.call d (call_of k qi) a.world).table a)
    unfolding lines.printing tail_of values_for call_of calls.table_of
    init_here =
        let o = calls.call d (call_of k qi) a.world in
        let r = reply_at d k a.world s.at qi in
        record {
          stands = next_stands qi refl (reply k qi).table o.table _ r.table (ap length r.table ∙ (call_marked d a.world (call_of k qi)).long ∙ s.size);
          line = lines.print o.answer o.handed;
          printed = refl;
          bytes = ap (λ (z : Answer). line_of z (reply k qi).list) r.answer ∙ init_bytes d a.world (did d a.world (call_of k qi)) (reply k qi).list r.whole;
        }

    pub init_turns : Turns (begun x) a (lines.obey d lines.init a)
    unfolding lines.obey
    init_turns = subst (λ (t : Turn). Turns t a (lines.obey d lines.init a)) (sym init_words)
        (subst (λ (c : calls.Call). Turns (turn_of (reply k qi) (reply k qi).table) a (lines.printing (calls.call d c a.world) (calls.call d c a.world).table a)) init_call init_here)

    -- N
    module _ (lit pending : ℤ) where
      abbrev qn : Request
      qn = propagate lit pending (marked lit x.table) (replicate 4352 0) tl

      abbrev later : Bool
      later = not (in_range (pos 0) pending)

      abbrev here : List ℕ
      here = pick (unset_in a.table (lit_given lit)) (enter a.table (lit_given lit)) a.table

      table_here : marked lit x.table ≡ here
      table_here = marked_is lit x.table s.size ∙ ap (λ (t : List ℕ). pick (unset_in t (lit_given lit)) (enter t (lit_given lit)) t) s.table

      marked_size : length (marked lit x.table) ≡ 4096
      unfolding enter
      marked_size = ap length (marked_is lit x.table s.size) ∙ pick_ind (λ (t : List ℕ). length t ≡ 4096) _ _ _ (λ _. length-set x.table _ _ ∙ s.size) (λ _. s.size)

      told_call : call_of k qn ≡ calls.propagate true here (lit_given lit) later
      unfolding call_of
      told_call = ap₂ (λ (b : Bool) (t : List ℕ). calls.propagate b t (lit_given lit) later) (all_room _ list_room) table_here

      told_words : notified x lit pending ≡ turn_of (reply k qn) (pick (is_refused (reply k qn).answer) x.table (reply k qn).table)
      unfolding notified reply replied_called replied
      told_words = ap (λ (m : List ℕ). let y = replied_called (propagated x.state x.cursor lit pending (marked lit x.table) (replicate 4352 0) m) in turn_of y (pick (is_refused y.answer) x.table y.table)) (sym whole)

      told_here : let o = calls.call d (call_of k qn) a.world in
          Turns (turn_of (reply k qn) (pick (is_refused (reply k qn).answer) x.table (reply k qn).table)) a (lines.printing o (pick (calls.accepted o.answer) o.table a.table) a)
      unfolding lines.printing tail_of values_for call_of calls.table_of answer_of
      told_here =
          let o = calls.call d (call_of k qn) a.world in
          let r = reply_at d k a.world s.at qn in
          let after = ap length r.table ∙ (call_marked d a.world (call_of k qn)).long ∙ marked_size in
          record {
            stands = next_stands qn refl (pick (is_refused (reply k qn).answer) x.table (reply k qn).table) (pick (calls.accepted o.answer) o.table a.table) _
                (ap (λ (z : Answer). pick (is_refused z) x.table (reply k qn).table) r.answer ∙ ap (λ (b : Bool). pick b x.table (reply k qn).table) (refused_for o.answer (length o.handed))
                ∙ pick_not (calls.accepted o.answer) x.table (reply k qn).table ∙ ap₂ (λ (p t : List ℕ). pick (calls.accepted o.answer) p t) r.table s.table)
                (pick_ind (λ (t : List ℕ). length t ≡ 4096) (is_refused (reply k qn).answer) x.table (reply k qn).table (λ _. s.size) (λ _. after));
            line = lines.print o.answer o.handed;
            printed = refl;
            bytes = ap (λ (z : Answer). line_of z (reply k qn).list) r.answer ∙ told_bytes d a.world (did d a.world (call_of k qn)) (reply k qn).list r.whole;
          }

      pub told_turns : Turns (notified x lit pending) a (lines.notified d (lit_given lit) later a)
      unfolding lines.notified
      told_turns = subst (λ (t : Turn). Turns t a (lines.notified d (lit_given lit) later a)) (sym told_words)
          (subst (λ (c : calls.Call). let o = calls.call d c a.world in Turns (turn_of (reply k qn) (pick (is_refused (reply k qn).answer) x.table (reply k qn).table)) a (lines.printing o (pick (calls.accepted o.answer) o.table a.table) a)) told_call told_here)

    -- U
    module _ (lit : ℤ) where
      abbrev qu : Request
      qu = undo lit tl

      undo_call : call_of k qu ≡ calls.undo true (lit_given lit)
      unfolding call_of
      undo_call = ap (λ (b : Bool). calls.undo (not b) (lit_given lit)) log_room

      -- the program unsets by the number that is 0 outside the range, but there U is refused
      unset : ℕ → List ℕ
      unset l = set x.table (l / 2) 0

      undo_words : taken_back x lit ≡ (let y = reply k qu in turn (desk y.state y.cursor (pick (is_refused y.answer) x.table (unset (lit_number lit))) y.log) (line_of y.answer (replicate 260 0)))
      unfolding taken_back reply replied unset
      undo_words = ap (λ (m : List ℕ). let y = replied (undone x.state x.cursor lit m) [] [] m in turn (desk y.state y.cursor (pick (is_refused y.answer) x.table (set x.table (lit_number lit / 2) 0)) y.log) (line_of y.answer (replicate 260 0))) (sym whole)

      inside_same : in_range (pos 8191) lit ≡ true → lit_number lit ≡ lit_given lit
      inside_same e = number_inside lit e

      outside_refused : in_range (pos 8191) lit ≡ false → calls.accepted (calls.call d (calls.undo true (lit_given lit)) a.world).answer ≡ false
      unfolding calls.call calls.on_undo calls.refuse calls.accepted
      outside_refused e =
          let unknown : knows d (lit_given lit) ≡ false = subst (λ (p : Plan). knows p (lit_given lit) ≡ false) s.at.plan (outside_unknown x.state.plan x.state.edges.ends proper (lit_given lit) (omega (arith, given_outside lit e))) in
          ap (λ (o : calls.Outcome). calls.accepted o.answer) (pick_no _ _ refl ∙ pick_yes _ _ (ap not unknown))

      abbrev ou : calls.Outcome
      ou = calls.call d (calls.undo true (lit_given lit)) a.world

      undo_answer : (reply k qu).answer ≡ answer_of ou
      undo_answer = (reply_at d k a.world s.at qu).answer ∙ ap (λ (c : calls.Call). answer_of (calls.call d c a.world)) undo_call

      undo_refused : is_refused (reply k qu).answer ≡ not (calls.accepted ou.answer)
      unfolding answer_of
      undo_refused = ap is_refused undo_answer ∙ refused_for ou.answer (length ou.handed)

      undo_table : pick (is_refused (reply k qu).answer) x.table (unset (lit_number lit)) ≡ pick (calls.accepted ou.answer) (set a.table (lit_given lit / 2) 0) a.table
      unfolding unset
      undo_table =
          ap (λ (b : Bool). pick b x.table (unset (lit_number lit))) undo_refused ∙ pick_not (calls.accepted ou.answer) x.table (unset (lit_number lit))
          ∙ tested (in_range (pos 8191) lit)
          (λ e. ap (λ (l : ℕ). pick (calls.accepted ou.answer) (set x.table (l / 2) 0) x.table) (inside_same e) ∙ ap (λ (t : List ℕ). pick (calls.accepted ou.answer) (set t (lit_given lit / 2) 0) t) s.table)
          (λ e. pick_no _ _ (outside_refused e) ∙ s.table ∙ sym (pick_no _ _ (outside_refused e)))

      undo_size : length (pick (is_refused (reply k qu).answer) x.table (unset (lit_number lit))) ≡ 4096
      unfolding unset
      undo_size = pick_ind (λ (t : List ℕ). length t ≡ 4096) (is_refused (reply k qu).answer) _ _ (λ _. s.size) (λ _. length-set x.table (lit_number lit / 2) 0 ∙ s.size)

      pub undo_turns : Turns (taken_back x lit) a (lines.obey d (lines.back (lit_given lit)) a)
      unfolding lines.obey lines.printing tail_of
      undo_turns = subst (λ (t : Turn). Turns t a (lines.obey d (lines.back (lit_given lit)) a)) (sym undo_words) (record {
        stands = subst (λ (c : calls.Call). Stands (desk (reply k qu).state (reply k qu).cursor (pick (is_refused (reply k qu).answer) x.table (unset (lit_number lit))) (reply k qu).log)
            (record { world = (calls.call d c a.world).world; table = pick (calls.accepted ou.answer) (set a.table (lit_given lit / 2) 0) a.table; printed = lines.print ou.answer ou.handed ∷ a.printed }))
            undo_call (next_stands qu refl _ _ _ undo_table undo_size);
        line = lines.print ou.answer ou.handed;
        printed = refl;
        bytes = ap (λ (z : Answer). line_of z (replicate 260 0)) undo_answer ∙ back_bytes d a.world (did d a.world (calls.undo true (lit_given lit))) (replicate 260 0);
      })

    -- R, and R with a minus
    module _ (lit : ℤ) where
      abbrev qr : Request
      qr = ask (reason_for lit) (replicate 260 0) tl

      why_call : call_of k qr ≡ calls.ask true (calls.reason_for (lit_given lit))
      unfolding call_of runs.query_of runs.buffer_short
      why_call = ap (λ (b : Bool). calls.ask b (calls.reason_for (lit_given lit))) (all_room _ buffer_room)

      why_words : reason_asked x.state x.cursor x.log lit ≡ line_of (reply k qr).answer (reply k qr).list
      unfolding reason_asked reply replied_fetched runs.asked
      why_words = ap (λ (m : List ℕ). let f = reason_fetched x.state x.cursor m lit (replicate 260 0) in line_of f.answer f.buffer) (sym whole)

      pub why_bytes_are : reason_asked x.state x.cursor x.log lit ≡ (let o = calls.call d (calls.ask true (calls.reason_for (lit_given lit))) a.world in bytes_of (lines.print o.answer o.handed))
      unfolding values_for call_of runs.query_of runs.buffer_short
      why_bytes_are =
          let r = reply_at d k a.world s.at qr in
          why_words ∙ ap (λ (z : Answer). line_of z (reply k qr).list) r.answer ∙ ask_bytes d a.world (did d a.world (call_of k qr)) (reply k qr).list r.whole
          ∙ ap (λ (c : calls.Call). let o = calls.call d c a.world in bytes_of (lines.print o.answer o.handed)) why_call

    abbrev ql : Request
    ql = ask last_left (replicate 260 0) tl

    last_call : call_of k ql ≡ calls.ask true calls.last_left
    unfolding call_of runs.query_of runs.buffer_short
    last_call = ap (λ (b : Bool). calls.ask b calls.last_left) (all_room _ buffer_room)

    last_words : last_asked x.state x.cursor x.log ≡ line_of (reply k ql).answer (reply k ql).list
    unfolding last_asked reply replied_fetched runs.asked
    last_words = ap (λ (m : List ℕ). let f = last_fetched x.state x.cursor m (replicate 260 0) in line_of f.answer f.buffer) (sym whole)

    pub last_bytes_are : last_asked x.state x.cursor x.log ≡ (let o = calls.call d (calls.ask true calls.last_left) a.world in bytes_of (lines.print o.answer o.handed))
    unfolding values_for call_of runs.query_of runs.buffer_short
    last_bytes_are =
        let r = reply_at d k a.world s.at ql in
        last_words ∙ ap (λ (z : Answer). line_of z (reply k ql).list) r.answer ∙ ask_bytes d a.world (did d a.world (call_of k ql)) (reply k ql).list r.whole
        ∙ ap (λ (c : calls.Call). let o = calls.call d c a.world in bytes_of (lines.print o.answer o.handed)) last_call
