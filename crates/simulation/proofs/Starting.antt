-- `initialize` does what the definition says.
use mathlib.Core.Path.{◌≡◌, refl, sym, ap, ap₂, subst, ◌∙◌}
use mathlib.Core.Logic.{⊎_elim}
use mathlib.Core.Bool.{Bool, true, false, ◌||◌}
use mathlib.Core.List.{List, [], ◌∷◌, ◌++◌, append-nil}
use Prim.Native.Nat.{ℕ, zero, suc, ◌+◌, ◌*◌, ◌/◌, ◌%◌, ◌<◌, ◌≤◌}
use native.Mathlib.Omega.{arith}
use native.Mathlib.Nat.{zero-add, add-zero}
use native.Mathlib.Numerals.{add-one}
use lib.Dec.{eqb, ltb}
use lib.ListN.{length, get_or, set, replicate, length-append, length-replicate}
use lib.Seq.{sets, length-sets}
use borrow.Author.Tests.{ne_eqb, eq-eqb, eqb-true, ltb-false}
use Rattle.base.specs.Iter.{iter, pick}
use Rattle.base.specs.Lists.{tab}
use Rattle.base.proofs.Loop.{pick_yes, pick_no, tested}
use Rattle.base.proofs.Tests.{or_cases, or_none}
use Rattle.undo_log.specs.declared.Cursor.{Cursor}
use Rattle.walks.specs.Written.{Out, out_of, written}
use Rattle.walks.proofs.Written.{written_fits}
use Rattle.division.specs.Plan.{Plan}
use Rattle.division.specs.Noting.{In, Consistent}
use Rattle.division.specs.Runs.{analysis}
use Rattle.division.proofs.Whole.{each_found, reason_there}
use Rattle.plan.specs.Words.{word, variables_of, variable_at, unique_lit_at}
use Rattle.plan.proofs.Abstract.{unique_rising}
use Rattle.noting.specs.Note.{Noting, noting, known, note}
use Rattle.noting.specs.Standing.{has_variable, standing_of}
use Rattle.noting.specs.Buffers.{table_bad, table_len, list_short}
use Rattle.noting.proofs.Indexed.{is_known}
use Rattle.noting.proofs.Logged.{known_small}
use Rattle.noting.proofs.Rising.{rises}
use Rattle.noting.specs.Good.{GoodLog}
use Rattle.noting.proofs.Valid.{note_valid}
use Rattle.recorded.specs.declared.Reasons.{Reasons}
use Rattle.recorded.specs.Recorded.{recorded}
use Rattle.judge.specs.Judge.{Judged}
use Rattle.judge.specs.Answers as judging
use Rattle.judge.specs.declared.Judgement.{Judgement}
use Rattle.judge.specs.declared.Judgement.TheVariants.{Fine, Clash, Stopped}
use Rattle.judge.proofs.Conflicts.{list_taken}
use Rattle.judge.proofs.Known.{each_known}
use Rattle.notifications.specs.Notifications as notifications
use Rattle.notifications.specs.Notifications.{lit_at, tried_out, merged, Way, way, progress, is_fine, stopping, fine_by, joined_by, is_due, joined, notified, notified_at, notified_all, Ending, ending, once_more_by, once_more, last_pass}
use Rattle.calls.specs.Table.{code_of, coded, true_in, entered}
use Rattle.calls.specs.Look.{Looked, looked, offers}
use Rattle.calls.specs.Calls.{World}
use Rattle.calls.specs.Look as look
use Rattle.calls.specs.Calls as calls
use Rattle.calls.proofs.View.{saw}
use Rattle.calls.proofs.Marks.{looked_marked}
use Rattle.calls.proofs.Looks.{offer_in}
use Rattle.calls.proofs.Count.{known_below}
use Rattle.refusals.specs.Refusals.{initialize_refusal}
use Rattle.refusals.specs.Calls.{table_room, refused_or, entered_places}
use Rattle.refusals.proofs.Accepted.{initialize_accepted}
use Rattle.refusals.proofs.Calls.{initialize_call}
use Rattle.refusals.proofs.Entered.{entered_is}
use Rattle.refusals.proofs.Standing.{taken_is}
use Rattle.refusals.proofs.Known.{known_place, place_knows}
use Rattle.refusals.proofs.Tables.{table_len_is}
use Rattle.graph_division.specs.declared.GraphDivision.{GraphDivision}
use Rattle.graph_division.specs.declared.Answer.{Answer}
use Rattle.graph_division.specs.declared.Answer.TheVariants as answer
use Rattle.graph_division.specs.Calls.{Called, called, refuse}
use Rattle.graph_division.specs.Initialize.{noted_at, noted_up_to, taken_over, entering, finished, taking, ended_by, begun, initialized}
use Rattle.graph_division.specs.Outcomes.{answer_for, answer_of}
use Rattle.simulation.specs.Start.{state_plan}
use Rattle.simulation.specs.Represents.{Represents, SimulatesCalled}
use Rattle.simulation.proofs.Represents.{called_by, refused_called}
use Rattle.simulation.proofs.Noted.{note_noted}
use Rattle.simulation.proofs.Notifying.{changed, judged_in, Analyzed, analyzed}
use Rattle.simulation.proofs.LastPass.{last_from, unset_looked}
use Rattle.simulation.proofs.Entered.{entered_iter}
use Rattle.simulation.proofs.Merging.{merged_length, recorded_merged, recorded_none}
use Rattle.simulation.proofs.Looked.{clash_still, tab_take, Listed, unset, unset_most, looked_count, offered_listed}

-- two lists stored one after the other
sets_after : (l a b : List ℕ) (n : ℕ) → sets (sets l n a) (n + length a) b ≡ sets l n (a ++ b)
sets_after l [] b n = ap (λ (i : ℕ). sets l i b) (add-zero n)
sets_after l (x ∷ a) b n = ap (λ (i : ℕ). sets (sets (set l n x) (suc n) a) i b) (omega arith) ∙ sets_after (set l n x) a b (suc n)

sets_then : (l a b : List ℕ) → sets (sets l 0 a) (length a) b ≡ sets l 0 (a ++ b)
sets_then l a b = ap (λ (i : ℕ). sets (sets l 0 a) i b) (sym (zero-add (length a))) ∙ sets_after l a b 0

-- what the code has on its way beside what the definition has: what is noted, the place past the literal noted last, the buffers,
-- and the length of the list last left
record Rest : Type 0 where
  noted : Noting
  past : ℕ
  words : List ℕ
  proposals : List ℕ
  left : List ℕ
  len : ℕ

-- ---- the literals of the table
-- a code shows one sign
one_sign : (c : ℕ) → coded 1 3 c ≡ true → coded 2 4 c ≡ true → ⊥
unfolding coded
one_sign c a b =
    ⊎_elim (λ x. ⊎_elim (λ y. no 1 2 (λ (e : ◌≡◌ {A = ℕ} 1 2). omega arith) x y) (λ y. no 1 4 (λ (e : ◌≡◌ {A = ℕ} 1 4). omega arith) x y) (or_cases (eqb c 2) (eqb c 4) b))
    (λ x. ⊎_elim (λ y. no 3 2 (λ (e : ◌≡◌ {A = ℕ} 3 2). omega arith) x y) (λ y. no 3 4 (λ (e : ◌≡◌ {A = ℕ} 3 4). omega arith) x y) (or_cases (eqb c 2) (eqb c 4) b)) (or_cases (eqb c 1) (eqb c 3) a)
  where
    no : (m n : ℕ) → (m ≡ n → ⊥) → eqb c m ≡ true → eqb c n ≡ true → ⊥
    no m n z x y = z (sym (eqb-true c m x) ∙ eqb-true c n y)

-- no two literals of one variable are true
two_true : (t : List ℕ) (l m : ℕ) → l < m → l / 2 ≡ m / 2 → true_in t l ≡ true → true_in t m ≡ true → ⊥
unfolding true_in code_of
two_true t l m h e a b =
    let x : l % 2 ≡ 0 = omega arith in
    let n : m % 2 ≡ 0 → ⊥ = λ (z : m % 2 ≡ 0). omega arith in
    one_sign (get_or t (l / 2) 0)
    (sym (pick_yes _ _ (eq-eqb (l % 2) 0 x)) ∙ a)
    (ap (λ (i : ℕ). coded 2 4 (get_or t i 0)) e ∙ sym (pick_no _ _ (ne_eqb (m % 2) 0 n)) ∙ b)

module _ (s : GraphDivision) (log : List ℕ) (c : Cursor) (w : World) (r : Represents s log c w) (t : List ℕ) where
  abbrev ws : List ℕ
  ws = s.plan

  abbrev ends : List (List ℕ)
  ends = s.edges.ends

  abbrev d : Plan
  d = state_plan s

  abbrev places : ℕ
  places = 2 * variables_of ws

  abbrev lit : ℕ → ℕ
  lit p = unique_lit_at ws p

  lit_variable : (p : ℕ) → variable_at ws (p / 2) ≡ lit p / 2
  lit_variable p = halves (variable_at ws (p / 2)) p
    where
      halves : (v i : ℕ) → v ≡ (2 * v + i % 2) / 2
      halves v i = omega arith

  lit_known : (p : ℕ) → p < places → known ws (lit p / 2) ≡ true
  lit_known p h = ap (known ws) (sym (lit_variable p)) ∙ is_known ws ends r.proper (p / 2) (omega arith)

  lit_is : (p : ℕ) → p < places → lit_at ws p ≡ lit p
  unfolding lit_at
  lit_is p h = let k = known_small ws ends r.proper (lit p) (lit_known p h) in small (lit p) k
    where
      small : (l : ℕ) → l ≤ 8191 → l % 65536 ≡ l
      small l k = omega arith

  -- two of them that are true have two variables
  lit_other : (p q : ℕ) → p < q → q < places → true_in t (lit p) ≡ true → true_in t (lit q) ≡ true → eqb (lit p / 2) (lit q / 2) ≡ false
  lit_other p q h k a b =
      let m = rises (unique_lit_at ws) places (unique_rising ws ends r.proper) p q h k in
      ne_eqb (lit p / 2) (lit q / 2) (λ (e : lit p / 2 ≡ lit q / 2). two_true t (lit p) (lit q) m e a b)

  -- ---- the notifications so far
  -- what is noted on entry, and after the places below p
  abbrev start : Noting
  start = noting s.noted log c

  abbrev up_to : ℕ → Noting
  up_to p = noted_up_to ws t p start

  -- what is handed on stands from the start of this buffer on
  abbrev blank : List ℕ
  blank = replicate 8704 0

  abbrev way_of : Judgement → calls.Going → Rest → Way
  way_of x a b = way (progress x (length a.handed) b.len b.past) b.noted.noted a.table (sets blank 0 a.handed) b.words b.proposals b.left

  -- the state so far, and after noting y
  abbrev state_of : Noting → List ℕ → List ℕ → ℕ → Bool → GraphDivision
  state_of y words left len done = changed s y.noted (recorded ws words s.reasons) left len done

  abbrev sofar : Rest → GraphDivision
  sofar b = state_of b.noted b.words b.left b.len s.initialized

  -- the state so far represents the world so far; and there is room for what is handed on
  record Stands (a : calls.Going) (b : Rest) : Type 0 where
    up_past : b.noted ≡ up_to b.past
    represents : Represents (sofar b) b.noted.log b.noted.cursor a.world
    merges : length b.words ≡ 8772
    proposes : length b.proposals ≡ 8772
    room : length a.handed + unset (variable_at ws) (variables_of ws) a.table ≤ variables_of ws

  -- all is fine before place p
  record Ready (p : ℕ) (a : calls.Going) (b : Rest) : Type 0 where
    up_to_lem : b.noted ≡ up_to p
    long : length a.table ≡ length t
    -- of the literals from p on, those that stand stood on entry
    ahead : (q : ℕ) → p ≤ q → q < places → true_in t (lit q) ≡ true → has_variable (lit q / 2) a.world.standing ≡ has_variable (lit q / 2) w.standing

  -- the code's way and the definition's, before place p
  data Same (p : ℕ) (x : Way) (a : calls.Going) : Type 0 where
    goes : (b : Rest) → x ≡ way_of Fine a b → a.judgement ≡ look.fine → Stands a b → Ready p a b → Same p x a
    clashes : (n : ℕ) (b : Rest) → x ≡ way_of (Clash n) a b → a.judgement ≡ look.clash → Stands a b → Same p x a
    stops : (n : ℕ) → x.progress.judgement ≡ Stopped n → a.judgement ≡ look.stopped n → Same p x a

  same_by : {p : ℕ} {x z : Way} {a b : calls.Going} → x ≡ z → a ≡ b → Same p z b → Same p x a
  same_by {p} {x} {z} {a} {b} e f k = subst (λ (y : Way). Same p y a) (sym e) (subst (Same p z) (sym f) k)

  -- before the first
  same_start : Same 0 (entering s c t log) (calls.entry w t)
  unfolding entering calls.entry noted_up_to iter
  same_start = goes (record { noted = start; past = 0; words = replicate 8772 0; proposals = replicate 8772 0; left = s.last; len = s.last_len }) refl refl
      (record {
        up_past = refl;
        represents = subst (λ (rs : Reasons). Represents (changed s s.noted rs s.last s.last_len s.initialized) log c w) (sym (recorded_none ws 8772 s.reasons)) r;
        merges = length-replicate {A = ℕ} 8772 0;
        proposes = length-replicate {A = ℕ} 8772 0;
        room = omega (arith, unset_most (variable_at ws) (variables_of ws) t);
      })
      (record { up_to_lem = refl; long = refl; ahead = λ q a b e. refl })

  -- ---- an analysis from there: ls stands, y is noted, and the table is u
  module _ (a : calls.Going) (b : Rest) (k : Stands a b) (y : Noting) (ls u : List ℕ) (v : GoodLog ws y) (e : ls ≡ standing_of y) where
    abbrev found : Judged
    found = judged_in s y u b.proposals b.left

    so_analyzed : Analyzed (sofar b) a.world y ls u b.proposals b.left found (looked d ls u)
    so_analyzed = analyzed (sofar b) b.noted.log b.noted.cursor a.world k.represents y ls v e u b.proposals b.left (omega (arith, r.proper.few, k.proposes)) k.represents.room

    abbrev all_words : List ℕ
    all_words = merged ws found.proposals b.words

    -- what it records follows what was recorded
    so_merged : (left : List ℕ) (len : ℕ) (done : Bool) (z : World) → Represents (changed (sofar b) y.noted (recorded ws found.proposals (sofar b).reasons) left len done) y.log y.cursor z →
        Represents (state_of y all_words left len done) y.log y.cursor z
    so_merged left len done z =
        subst (λ (rs : Reasons). Represents (changed s y.noted rs left len done) y.log y.cursor z)
        (sym (recorded_merged ws found.proposals b.words s.reasons r.proper.few.0 (omega (arith, r.proper.few, k.merges))))

  -- ---- one notification more, of the literal at place p, which does not stand
  module _ (good : table_bad ws t ≡ false) (p : ℕ) (h : p < places) (due : true_in t (lit p) ≡ true) (a : calls.Going) (b : Rest) (k : Stands a b) (q : Ready p a b) (free : has_variable (lit p / 2) (standing_of start) ≡ false) where
    abbrev after : Noting
    after = note ws (lit p) b.noted

    abbrev ls : List ℕ
    ls = lit p ∷ a.world.standing

    abbrev lk : Looked
    lk = looked d ls a.table

    abbrev j : Judged
    j = judged_in s after a.table b.proposals b.left

    noted_valid : GoodLog ws after × (ls ≡ standing_of after)
    noted_valid =
        let f : has_variable (lit p / 2) (standing_of b.noted) ≡ false =
        ap (has_variable (lit p / 2)) (sym k.represents.standing) ∙ q.ahead p (omega arith) h due ∙ ap (has_variable (lit p / 2)) r.standing ∙ free in
        let (v, e) = note_valid ws ends r.proper b.noted k.represents.valid (lit p) (lit_known p h) f in
        (v, ap (λ (m : List ℕ). lit p ∷ m) k.represents.standing ∙ sym e)

    one_analyzed : Analyzed (sofar b) a.world after ls a.table b.proposals b.left j lk
    one_analyzed = so_analyzed a b k after ls a.table noted_valid.0 noted_valid.1

    -- what the code has then, where the list last left has length len
    abbrev next : ℕ → Rest
    next len = record { noted = after; past = p + 1; words = merged ws j.proposals b.words; proposals = j.proposals; left = j.left; len = len }

    after_next : after ≡ up_to (suc p)
    unfolding noted_up_to iter noted_at
    after_next = ap (note ws (lit p)) q.up_to_lem ∙ ap (λ (l : ℕ). note ws l (up_to p)) (sym (lit_is p h)) ∙ sym (pick_yes _ _ due)

    next_room : length (a.handed ++ lk.handed) + unset (variable_at ws) (variables_of ws) lk.table ≤ variables_of ws
    next_room =
        let x = length-append a.handed lk.handed in
        let y = looked_count (variable_at ws) (variables_of ws) d ls a.table (saw d ls a.table) (offered_listed ws ends r.proper t good (length a.table) q.long ls one_analyzed.consistent) in
        omega (arith, k.room)

    -- of a notification that is accepted
    next_stands : (z : look.Judgement) (len : ℕ) → calls.join_by a (lit p) lk z ≡ record { judgement = z; world = calls.noting a.world (lit p) lk; table = lk.table; handed = a.handed ++ lk.handed } →
        Represents (changed (sofar b) after.noted (recorded ws j.proposals (sofar b).reasons) j.left len s.initialized) after.log after.cursor (calls.noting a.world (lit p) lk) →
        Stands (calls.join_by a (lit p) lk z) (next len)
    next_stands z len e x = subst (λ (g : calls.Going). Stands g (next len)) (sym e) (record {
      up_past = after_next ∙ ap up_to (sym (add-one p));
      represents = so_merged a b k after ls a.table noted_valid.0 noted_valid.1 j.left len s.initialized _ x;
      merges = merged_length ws j.proposals b.words ∙ k.merges;
      proposes = one_analyzed.long ∙ k.proposes;
      room = next_room;
    })

    fine_ready : Ready (suc p) (calls.join_by a (lit p) lk look.fine) (next 0)
    unfolding calls.join_by calls.noting has_variable
    fine_ready = record {
      up_to_lem = after_next;
      long = (looked_marked d ls a.table lk refl).long ∙ q.long;
      ahead = λ i u v e. ap (λ (x : Bool). x || has_variable (lit i / 2) a.world.standing) (lit_other p i u v due e) ∙ q.ahead i (omega arith) v e;
    }

    abbrev before : Way
    before = way_of Fine a (record { noted = after; past = b.past; words = b.words; proposals = b.proposals; left = b.left; len = b.len })

    handed_fits : length a.handed + 2 * variables_of ws ≤ length (sets blank 0 a.handed)
    handed_fits = omega (arith, k.room, r.proper.few, length-sets blank 0 a.handed, length-replicate {A = ℕ} 8704 0)

    -- what is handed on follows what was handed on
    fine_way : lk.judgement ≡ look.fine → joined_by ws (p + 1) before j Fine ≡ way_of Fine (calls.join_by a (lit p) lk look.fine) (next 0)
    unfolding joined_by fine_by calls.join_by
    fine_way z =
        ap (fine_by ws (p + 1) before j) (one_analyzed.handed z (sets blank 0 a.handed) (length a.handed) handed_fits)
        ∙ ap₂ (λ (n : ℕ) (m : List ℕ). way (progress Fine n 0 (p + 1)) after.noted lk.table m (next 0).words j.proposals j.left)
        (sym (length-append a.handed lk.handed)) (sets_then blank a.handed lk.handed)

    -- and a conflict hands nothing on
    clash_way : (n : ℕ) → lk.judgement ≡ look.clash → joined_by ws (p + 1) before j (Clash n) ≡ way_of (Clash n) (calls.join_by a (lit p) lk look.clash) (next n)
    unfolding joined_by calls.join_by
    clash_way n z =
        let (u, v) = clash_still d ls a.table (saw d ls a.table) z in
        ap₂ (λ (m i : List ℕ). way (progress (Clash n) (length i) n (p + 1)) after.noted m (sets blank 0 i) (next n).words j.proposals j.left)
        (sym u) (sym (ap (λ (i : List ℕ). a.handed ++ i) v ∙ append-nil a.handed))

    joined_same : (z : look.Judgement) → lk.judgement ≡ z → Same (suc p) (joined_by ws (p + 1) before j (judging.answer_for z (length lk.left))) (calls.join_by a (lit p) lk z)
    unfolding joined_by judging.answer_for calls.join_by calls.noting stopping
    joined_same look.fine z = goes (next 0) (fine_way z) refl (next_stands look.fine 0 refl (one_analyzed.fine z)) fine_ready
    joined_same look.clash z = let n = length lk.left in clashes n (next n) (clash_way n z) refl (next_stands look.clash n refl (one_analyzed.clash z))
    joined_same (look.stopped n) z = stops n refl refl

  -- ---- place p, whatever its literal
  module _ (good : table_bad ws t ≡ false) (p : ℕ) (h : p < places) where
    abbrev turn : Way → Way
    turn x = notified_at ws ends t log c.used p x

    abbrev one_more : calls.Going → calls.Going
    one_more a = pick (true_in t (lit p)) (calls.one_by d (lit p) a a.judgement) a

    module _ (a : calls.Going) (b : Rest) (fine : a.judgement ≡ look.fine) (k : Stands a b) (q : Ready p a b) where
      abbrev here : Way
      here = way_of Fine a b

      abbrev stands : Bool
      stands = has_variable (lit p / 2) (standing_of start)

      abbrev halted : Way
      halted = way (stopping 10 here.progress) here.noted here.table here.list b.words b.proposals b.left

      -- here with these words noted
      abbrev noting_here : List ℕ → Way
      noting_here m = way here.progress m a.table here.list b.words b.proposals b.left

      -- the literal is tried out with no log
      turned : notified ws ends log c.used p here ≡ pick stands halted (joined ws ends (p + 1) (noting_here (note ws (lit p) b.noted).noted))
      unfolding notified
      turned =
          ap (λ (l : ℕ). pick (has_variable (l / 2) (standing_of start)) halted (joined ws ends (p + 1) (noting_here (tried_out ws l b.noted.noted)))) (lit_is p h)
          ∙ ap (λ (m : List ℕ). pick stands halted (joined ws ends (p + 1) (noting_here m))) (note_noted ws (lit p) (noting b.noted.noted (0 ∷ []) (record { used = 0; standing = 0 })) b.noted refl)

      stands_is : true_in t (lit p) ≡ true → calls.taken a.world (lit p) ≡ stands
      stands_is due = sym (taken_is a.world (lit p)) ∙ q.ahead p (omega arith) h due ∙ ap (has_variable (lit p / 2)) r.standing

      -- it is not its turn
      same_past : true_in t (lit p) ≡ false → Same (suc p) here a
      unfolding noted_up_to iter noted_at
      same_past n = goes b refl fine k (record { up_to_lem = q.up_to_lem ∙ sym (pick_no _ _ n); long = q.long; ahead = λ i u v e. q.ahead i (omega arith) v e })

      -- it stands
      same_halted : Same (suc p) halted (record { judgement = look.stopped 10; world = a.world; table = a.table; handed = a.handed })
      unfolding stopping
      same_halted = stops 10 refl refl

      same_joined : true_in t (lit p) ≡ true → stands ≡ false →
          Same (suc p) (joined ws ends (p + 1) (noting_here (note ws (lit p) b.noted).noted)) (calls.join_by a (lit p) (looked d (lit p ∷ a.world.standing) a.table) (looked d (lit p ∷ a.world.standing) a.table).judgement)
      unfolding joined
      same_joined due f =
          same_by (ap (joined_by ws (p + 1) (before good p h due a b k q f) (j good p h due a b k q f)) (one_analyzed good p h due a b k q f).judged.answer) refl
          (joined_same good p h due a b k q f _ refl)

      same_due : true_in t (lit p) ≡ true → Same (suc p) (notified ws ends log c.used p here) (calls.one_by d (lit p) a look.fine)
      unfolding calls.one_by
      same_due due = tested stands
          (λ (f : stands ≡ true). same_by (turned ∙ pick_yes _ _ f) (pick_yes _ _ (stands_is due ∙ f)) same_halted)
          (λ (f : stands ≡ false). same_by (turned ∙ pick_no _ _ f) (pick_no _ _ (stands_is due ∙ f)) (same_joined due f))

      same_turn : Same (suc p) (turn here) (one_more a)
      unfolding notified_at is_due
      same_turn = tested (true_in t (lit p))
          (λ (f : true_in t (lit p) ≡ true). same_by (pick_yes _ _ f) (pick_yes _ _ f ∙ ap (calls.one_by d (lit p) a) fine) (same_due f))
          (λ (f : true_in t (lit p) ≡ false). same_by (pick_no _ _ f) (pick_no _ _ f) (same_past f))

    -- a conflict or a refusal stays
    still : (a : calls.Going) (z : look.Judgement) → a.judgement ≡ z → calls.one_by d (lit p) a z ≡ a → one_more a ≡ a
    still a z e o = tested (true_in t (lit p)) (λ (f : true_in t (lit p) ≡ true). pick_yes _ _ f ∙ ap (calls.one_by d (lit p) a) e ∙ o) (λ (f : true_in t (lit p) ≡ false). pick_no _ _ f)

    same_step : (x : Way) (a : calls.Going) → Same p x a → Same (suc p) (turn x) (one_more a)
    unfolding notified_at is_due calls.one_by pick
    same_step x a (goes b e f k q) = same_by (ap turn e) refl (same_turn a b f k q)
    same_step x a (clashes n b e f k) = same_by (ap turn e) (still a look.clash f refl) (clashes n b refl f k)
    same_step x a (stops n e f) = same_by (pick_no _ _ (ap (λ (z : Judgement). is_due ws t z p) e)) (still a (look.stopped n) f refl) (stops n e f)

  same_all : table_bad ws t ≡ false → (n : ℕ) → n ≤ places →
      Same n (iter (notified_at ws ends t log c.used) n (entering s c t log)) (iter (λ p b. pick (true_in t (lit p)) (calls.one_by d (lit p) b b.judgement) b) n (calls.entry w t))
  unfolding iter
  same_all good zero h = same_start
  same_all good (suc n) h = same_step good n h _ _ (same_all good n (omega arith))

  -- ---- what is taken over
  module _ (list : List ℕ) (enough : places ≤ length list) where
    -- what is handed on is copied to the list
    handed_list : (m : List ℕ) → length m ≤ variables_of ws → (written (tab (word (sets blank 0 m)) (length m)) (out_of list 0)).text ≡ sets list 0 m
    handed_list m n =
        let b : length m ≤ length blank = omega (arith, r.proper.few, length-replicate {A = ℕ} 8704 0) in
        ap (λ (l : List ℕ). (written l (out_of list 0)).text) (tab_take (length m) (sets blank 0 m) (omega (arith, length-sets blank 0 m)) ∙ list_taken m blank b)
        ∙ ap (λ (o : Out). o.text) (written_fits m list 0 (omega arith))

    -- `taking` and `ended_by`, of any table, list so far and ending
    abbrev takes : List ℕ → List ℕ → Ending → Bool → Answer → Called
    takes u m f done a = taking s c t log f.words f.left f.progress done a u m list

    abbrev ended : List ℕ → List ℕ → Ending → Judgement → Called
    ended u m f z = ended_by s c t log f.words f.left f.progress z t u m list

    module _ (a : calls.Going) (b : Rest) (k : Stands a b) where
      -- the words and the list left may be those of the last pass
      took : (words proposals left : List ℕ) (x : Judgement) (len : ℕ) (done : Bool) (o : calls.Answer) (v : World) → Represents (state_of b.noted words left len done) b.noted.log b.noted.cursor v →
          SimulatesCalled s list (takes a.table (sets blank 0 a.handed) (ending (progress x (length a.handed) len b.past) words proposals left) done (answer_for o (length a.handed)))
          (record { answer = o; world = v; table = a.table; handed = a.handed })
      unfolding taking taken_over answer_of
      took words proposals left x len done o v z = record {
        call = record {
          answer = refl;
          represents = subst (λ (y : Noting). Represents (state_of y words left len done) y.log y.cursor v) k.up_past z;
          plan = refl;
          edges = refl;
        };
        table = refl;
        list = handed_list a.handed (omega (arith, k.room));
        fits = omega (arith, k.room);
      }

      -- ---- the last pass
      abbrev stood : List ℕ
      stood = a.world.standing

      abbrev last : Looked
      last = looked d stood (0 ∷ [])

      abbrev judged : Judged
      judged = judged_in s b.noted (0 ∷ []) b.proposals b.left

      last_analyzed : Analyzed (sofar b) a.world b.noted stood (0 ∷ []) b.proposals b.left judged last
      last_analyzed = so_analyzed a b k b.noted stood (0 ∷ []) k.represents.valid k.represents.standing

      abbrev once_more_as : Judgement → Ending
      once_more_as z = once_more_by ws (progress Fine (length a.handed) b.len b.past) b.words judged z

      abbrev ended_as : Judgement → Called
      ended_as z = ended a.table (sets blank 0 a.handed) (once_more_as z) (once_more_as z).progress.judgement

      over : (left : List ℕ) (len : ℕ) (done : Bool) (z : World) →
          Represents (changed (sofar b) b.noted.noted (recorded ws judged.proposals (sofar b).reasons) left len done) b.noted.log b.noted.cursor z →
          Represents (state_of b.noted (merged ws judged.proposals b.words) left len done) b.noted.log b.noted.cursor z
      over = so_merged a b k b.noted stood (0 ∷ []) k.represents.valid k.represents.standing

      last_ended : (z : look.Judgement) → last.judgement ≡ z → SimulatesCalled s list (ended_as (judging.answer_for z (length last.left))) (last_from w t a last z)
      unfolding once_more_by judging.answer_for ended_by last_from stopping answer_for
      last_ended look.fine z =
          took (merged ws judged.proposals b.words) judged.proposals judged.left Fine b.len true calls.consistent _
          (over judged.left b.len true _ (last_analyzed.kept z b.len a.world.last true k.represents.fits k.represents.last))
      last_ended look.clash z =
          let n = length last.left in
          took (merged ws judged.proposals b.words) judged.proposals judged.left (Clash n) n s.initialized calls.conflicting _
          (over judged.left n s.initialized _ (last_analyzed.clash z))
      last_ended (look.stopped n) z = refused_called s log c w r n t list

    -- ---- after the last place
    abbrev end_of : Way → Ending
    end_of x = last_pass ws ends x.noted x.progress x.words x.proposals x.left

    abbrev ends_as : Way → Called
    ends_as x = ended x.table x.list (end_of x) (end_of x).progress.judgement

    fine_ended : (a : calls.Going) (b : Rest) → Stands a b → SimulatesCalled s list (ends_as (way_of Fine a b)) (calls.finish_by d w t a look.fine)
    unfolding last_pass once_more pick calls.finish_by
    fine_ended a b k = called_by s list (ap (ended_as a b k) (last_analyzed a b k).judged.answer) (unset_looked d w t a) (last_ended a b k _ refl)

    clash_ended : (a : calls.Going) (n : ℕ) (b : Rest) → Stands a b → SimulatesCalled s list (ends_as (way_of (Clash n) a b)) (calls.finish_by d w t a look.clash)
    unfolding last_pass pick ended_by calls.finish_by answer_for
    clash_ended a n b k = took a b k b.words b.proposals b.left (Clash n) b.len s.initialized calls.conflicting a.world k.represents

    stop_ended : (x : Way) (n : ℕ) → x.progress.judgement ≡ Stopped n → ends_as x ≡ called (refuse n s c) t list log
    unfolding last_pass ended_by
    stop_ended x n e =
        ap (λ (f : Ending). ended x.table x.list f f.progress.judgement) (pick_no _ (ending x.progress x.words x.proposals x.left) (ap is_fine e))
        ∙ ap (ended x.table x.list (ending x.progress x.words x.proposals x.left)) e

    all_ended : (x : Way) (a : calls.Going) → Same places x a → SimulatesCalled s list (ends_as x) (calls.finish_by d w t a a.judgement)
    unfolding calls.finish_by
    all_ended x a (goes b e f k q) = called_by s list (ap ends_as e) (ap (calls.finish_by d w t a) f) (fine_ended a b k)
    all_ended x a (clashes n b e f k) = called_by s list (ap ends_as e) (ap (calls.finish_by d w t a) f) (clash_ended a n b k)
    all_ended x a (stops n e f) = called_by s list (stop_ended x n e) (ap (calls.finish_by d w t a) f) (refused_called s log c w r n t list)

    -- the literals that are entered, one after the other, are those of the places that are true
    abbrev gone : calls.Going
    gone = calls.propagate_all d (entered d t) (calls.entry w t)

    gone_is : gone ≡ iter (λ p b. pick (true_in t (lit p)) (calls.one_by d (lit p) b b.judgement) b) places (calls.entry w t)
    unfolding entered_places
    gone_is =
        ap (λ (l : List ℕ). calls.propagate_all d l (calls.entry w t)) (entered_is ws ends r.proper t)
        ∙ entered_iter d (unique_lit_at ws) (λ p. true_in t (unique_lit_at ws p)) places (calls.entry w t)

    begun_simulated : table_bad ws t ≡ false → SimulatesCalled s list (begun s c t log list) (calls.finish_by d w t gone gone.judgement)
    unfolding begun finished notifications.gone_through notifications.ended notified_all
    begun_simulated good =
        called_by s list refl (ap (λ (a : calls.Going). calls.finish_by d w t a a.judgement) gone_is) (all_ended _ _ (same_all good places (omega arith)))

-- ---- the call
module _ (s : GraphDivision) (log : List ℕ) (c : Cursor) (w : World) (r : Represents s log c w) (t list : List ℕ) where
  abbrev number : ℕ
  number = initialize_refusal s.plan s.edges.ends s.noted t (length list) log c s.initialized

  -- what the definition does where nothing is refused
  abbrev worked : calls.Outcome
  worked =
      let a = calls.propagate_all (state_plan s) (entered (state_plan s) t) (calls.entry w t) in
      calls.finish_by (state_plan s) w t a a.judgement

  defined : calls.on_initialize (state_plan s) w (table_room s.plan s.edges.ends s.noted (length list) log c) t ≡ refused_or number w t worked
  defined =
      initialize_call s.plan s.edges.ends r.proper s.noted log c w t (length list)
      ∙ ap (λ (b : Bool). refused_or (initialize_refusal s.plan s.edges.ends s.noted t (length list) log c b) w t worked) (sym r.done)

  accepted : number ≡ 0 → SimulatesCalled s list (begun s c t log list) worked
  unfolding list_short
  accepted e =
      let (g, _, _) = initialize_accepted s.plan s.edges.ends s.noted log c r.valid.words t (length list) s.initialized e in
      begun_simulated s log c w r t list (ltb-false (length list) (2 * variables_of s.plan) g.list) g.table

  pub initialize_simulated : SimulatesCalled s list (initialized s c t log list) (calls.on_initialize (state_plan s) w (table_room s.plan s.edges.ends s.noted (length list) log c) t)
  unfolding initialized refused_or
  initialize_simulated = tested (eqb number 0)
      (λ y. called_by s list (pick_yes _ _ y) (defined ∙ pick_yes _ _ y) (accepted (eqb-true number 0 y)))
      (λ y. called_by s list (pick_no _ _ y) (defined ∙ pick_no _ _ y) (refused_called s log c w r number t list))
