-- "gives the one answer fixed there", whole.
use mathlib.Core.Path.{◌≡◌, refl, sym, ap, ap₂, subst, ◌∙◌}
use mathlib.Core.Bool.{Bool, true, false, not, false≢true}
use mathlib.Core.List.{List, [], ◌∷◌}
use Prim.Native.Nat.{ℕ}
use lib.ListN.{length, take, drop, take-append-drop}
use borrow.Author.Tests.{eq-eqb}
use lib.Seq.{sets, take-length}
use Rattle.base.proofs.Loop.{pick_ind, tested}
use Rattle.base.proofs.Tests.{or_none}
use Rattle.noting.specs.Buffers.{log_short}
use Rattle.as_noted.specs.AsNoted.{AsNoted}
use Rattle.as_noted.proofs.Afresh.{as_noted}
use Rattle.division.specs.Plan.{Plan, Proper}
use Rattle.calls.specs.Calls as calls
use Rattle.calls.specs.Calls.{World, answer_list}
use Rattle.calls.specs.Marks.{Marked}
use Rattle.calls.specs.Refusals.{room_of, Applies}
use Rattle.calls.proofs.Marks.{call_marked}
use Rattle.calls.proofs.Refusals.{acceptances}
use Rattle.calls.proofs.Queries.{not_false, of_graph, Answered, denied, given, found, printed, answer_judged}
use Rattle.calls.proofs.View.{Did, away, added, agreed, clashed, took, asked, began, began_last, began_clash, did}
use Rattle.graph_division.specs.Answers.{number_of, values_of}
use Rattle.graph_division.specs.Outcomes.{answer_for, answer_of}
use Rattle.graph_division.specs.Runs.{Request, initialize, propagate, undo, ask, table_of, lent_list, tail_of, Kept, log_for, Reply, reply, keeping, room_for, call_of}
use Rattle.simulation.specs.Represents.{Represents, values_for}
use Rattle.simulation.proofs.Running.{with_tail}
use Rattle.claims.specs.Whole.{literals_of, written_by, written_of, Whole}
use Rattle.claims.specs.Conditions.{accepted}
use Rattle.claims.proofs.Replying.{accepted_is, At, at_proper, reply_at}
use Rattle.claims.proofs.Past.{reply_log}

pub table_same : (k : Kept) (q : Request) → calls.table_of (call_of k q) ≡ table_of q
unfolding call_of table_of calls.table_of
table_same k (initialize t list tail) = refl
table_same k (propagate lit pending t list tail) = refl
table_same k (undo lit tail) = refl
table_same k (ask q b tail) = refl

-- ---- what is written
unfoldable written_to : calls.Call → calls.Outcome → List ℕ
written_to (calls.initialize room t) o = o.handed
written_to (calls.propagate room t l pending) o = o.handed
written_to (calls.undo room l) o = []
written_to (calls.ask room q) o = answer_list o.answer

values_to : (k : Kept) (q : Request) (o : calls.Outcome) → values_for q o ≡ written_to (call_of k q) o
unfolding values_for written_to call_of
values_to k (initialize t list tail) o = refl
values_to k (propagate lit pending t list tail) o = refl
values_to k (undo lit tail) o = refl
values_to k (ask q b tail) o = refl

away_written : (c : calls.Call) (n : ℕ) (w : World) (t : List ℕ) → written_to c (calls.refuse n w t) ≡ []
unfolding written_to calls.refuse answer_list
away_written (calls.initialize room t) n w u = refl
away_written (calls.propagate room t l pending) n w u = refl
away_written (calls.undo room l) n w u = refl
away_written (calls.ask room q) n w u = refl

list_written : (a : calls.Answer) → answer_list a ≡ written_by a []
unfolding answer_list written_by
list_written calls.consistent = refl
list_written calls.conflicting = refl
list_written calls.noted = refl
list_written calls.undone = refl
list_written (calls.refused n) = refl
list_written (calls.reason ls) = refl
list_written (calls.found_run gs) = refl
list_written (calls.printed_page bs) = refl

did_written : (d : Plan) (w : World) {c : calls.Call} {o : calls.Outcome} → Did d w c o → written_to c o ≡ written_of o
unfolding written_to written_by calls.refuse calls.settled_by calls.tell calls.last_by calls.finish_by
did_written d w (away c n) = away_written c n w (calls.table_of c)
did_written d w (added room t l pending p f kn) = refl
did_written d w (agreed room t l pending p o e f q bt kn) = refl
did_written d w (clashed room t l pending p o e f q bt kn) = refl
did_written d w (took room l x xs e) = refl
did_written d w (asked room q) = list_written (calls.answer_to d w q)
did_written d w (began room t a s j v bt) = refl
did_written d w (began_last room t a s j c v bt) = refl
did_written d w (began_clash room t a s j bt) = refl

-- ---- the values of an answer, where what is written stands whole in the list
values_for_lem : (a : calls.Answer) (h l : List ℕ) → take (length (written_by a h)) l ≡ written_by a h →
    values_of (answer_for a (length h)) l ≡ values_of (answer_for a (length h)) (written_by a h)
unfolding values_of answer_for written_by
values_for_lem calls.consistent h l e = e ∙ sym (take-length h)
values_for_lem calls.conflicting h l e = refl
values_for_lem calls.noted h l e = refl
values_for_lem calls.undone h l e = refl
values_for_lem (calls.refused n) h l e = refl
values_for_lem (calls.reason ls) h l e = e ∙ sym (take-length ls)
values_for_lem (calls.found_run gs) h l e = e ∙ sym (take-length gs)
values_for_lem (calls.printed_page bs) h l e = e ∙ sym (take-length bs)

consistent_values : (a : calls.Answer) (h : List ℕ) → a ≡ calls.consistent → values_of (answer_for a (length h)) (written_by a h) ≡ h
unfolding values_of answer_for written_by
consistent_values a h e = ap (λ (x : calls.Answer). values_of (answer_for x (length h)) (written_by x h)) e ∙ take-length h

reason_values : (a : calls.Answer) (h ls : List ℕ) → a ≡ calls.reason ls → values_of (answer_for a (length h)) (written_by a h) ≡ ls
unfolding values_of answer_for written_by
reason_values a h ls e = ap (λ (x : calls.Answer). values_of (answer_for x (length h)) (written_by x h)) e ∙ take-length ls

run_values : (a : calls.Answer) (h gs : List ℕ) → a ≡ calls.found_run gs → values_of (answer_for a (length h)) (written_by a h) ≡ gs
unfolding values_of answer_for written_by
run_values a h gs e = ap (λ (x : calls.Answer). values_of (answer_for x (length h)) (written_by x h)) e ∙ take-length gs

-- a fetch that is accepted gives a list
told : (d : Plan) (w : World) (q : calls.Query) {a : calls.Answer} → of_graph q ≡ false → Answered d w q a → calls.accepted a ≡ true → a ≡ calls.reason (answer_list a)
unfolding calls.accepted answer_list
told d w q r (denied n e x f) t = absurd (false≢true (sym (ap calls.accepted e) ∙ t))
told d w q {a} r (given list e f) t = e ∙ ap calls.reason (sym (ap answer_list e))
told d w q r (found gs s e f) t = absurd (false≢true (sym r ∙ s))
told d w q r (printed bs s e f) t = absurd (false≢true (sym r ∙ s))

pub ask_told : (d : Plan) (w : World) (room : Bool) (q : calls.Query) → of_graph q ≡ false →
    let a = (calls.call d (calls.ask room q) w).answer in
    calls.accepted a ≡ true → a ≡ calls.reason (answer_list a)
unfolding calls.call calls.on_ask calls.tell calls.accepted
ask_told d w room q r = pick_ind (λ (a : calls.Answer). calls.accepted a ≡ true → a ≡ calls.reason (answer_list a)) (not room) (calls.refused 7) (calls.answer_to d w q)
    (λ _ e. absurd (false≢true e)) (λ _ e. told d w q r (answer_judged d w q (λ s. absurd (false≢true (sym r ∙ s)))) e)

-- ---- the log of a call that is accepted is long enough
room_long : (k : Kept) (q : Request) → room_of (call_of k q) ≡ true → log_short k.state.plan (length (log_for k (tail_of q))) ≡ false
unfolding call_of room_of room_for tail_of
room_long k (initialize t list tail) e = (or_none _ _ (not_false _ e)).0
room_long k (propagate lit pending t list tail) e = (or_none _ _ (not_false _ e)).0
room_long k (undo lit tail) e = not_false _ e
room_long k (ask q b tail) e = (or_none _ _ (not_false _ e)).0

accepted_room : (d : Plan) → Proper d → (w : World) (c : calls.Call) → calls.accepted (calls.call d c w).answer ≡ true → room_of c ≡ true
accepted_room d pr w c e = tested (room_of c) (λ t. t) (λ f. absurd ((acceptances d w c (λ _. pr)).0 e 7 (Applies.no_room c f)))

module _ (D : Plan) (k : Kept) (w : World) (a : At D k w) (q : Request) where
  abbrev o : calls.Outcome
  o = calls.call D (call_of k q) w

  written_is : values_for q o ≡ written_of o
  written_is = values_to k q o ∙ did_written D w (did D w (call_of k q))

  -- what is kept after it, with the log that it leaves, stands for the world
  reply_represents : accepted (reply k q).answer ≡ true → Represents (reply k q).state (reply k q).log (reply k q).cursor o.world
  unfolding keeping
  reply_represents e =
      let r = reply_at D k w a q in
      let y = reply k q in
      let room = accepted_room D (at_proper D k w a) w (call_of k q) (sym (accepted_is D (at_proper D k w a) w (call_of k q)) ∙ ap accepted (sym r.answer) ∙ e) in
      let long : log_short y.state.plan (length y.log) ≡ false =
      ap₂ log_short r.plan (reply_log k q).long ∙ room_long k q room in
      let whole = take-append-drop y.cursor.used y.log in
      subst (λ (m : List ℕ). Represents y.state m y.cursor o.world) whole
      (with_tail (keeping y) o.world r.keeps (drop y.cursor.used y.log) (ap (λ (m : List ℕ). log_short y.state.plan (length m)) whole ∙ long))

  reply_noted : number_of (reply k q).answer ≡ 0 →
      AsNoted (reply k q).state.plan (reply k q).state.noted (reply k q).log (reply k q).cursor o.world.standing
  unfolding accepted
  reply_noted e =
      let y = reply k q in
      let r = reply_represents (eq-eqb _ 0 e) in
      let v = r.valid in
      subst (AsNoted y.state.plan y.state.noted y.log y.cursor) (sym r.standing)
      ((as_noted y.state.plan y.state.edges.ends r.proper y.state.noted y.log y.cursor v.words v.long).0 v.passes)

  pub one_answer : Whole k q o
  unfolding answer_of
  one_answer =
      let r = reply_at D k w a q in
      record {
        answer = r.answer;
        values =
            ap (λ x. values_of x (reply k q).list) r.answer
            ∙ values_for_lem o.answer o.handed (reply k q).list (subst (λ (l : List ℕ). take (length l) (reply k q).list ≡ l) written_is r.whole);
        list = r.list ∙ ap (sets (lent_list q) 0) written_is;
        table = r.table;
        marked = subst (Marked (table_of q) o.handed) (sym r.table)
            (subst (λ (t : List ℕ). Marked t o.handed o.table) (table_same k q) (call_marked D w (call_of k q)));
        log = reply_log k q;
        noted = reply_noted;
      }

  -- the literals of a consistent answer, and of one that gives a list
  pub consistent_literals : o.answer ≡ calls.consistent → literals_of (reply k q) ≡ o.handed
  unfolding answer_of
  consistent_literals e = one_answer.values ∙ consistent_values o.answer o.handed e

  pub run_literals : (gs : List ℕ) → o.answer ≡ calls.found_run gs → literals_of (reply k q) ≡ gs
  unfolding answer_of
  run_literals gs e = one_answer.values ∙ run_values o.answer o.handed gs e

  pub reason_literals : (ls : List ℕ) → o.answer ≡ calls.reason ls → literals_of (reply k q) ≡ ls
  unfolding answer_of
  reason_literals ls e = one_answer.values ∙ reason_values o.answer o.handed ls e
