-- What a reply tells of the definition's outcome.
use mathlib.Core.Path.{◌≡◌, refl, sym, ap, ap₂, subst, ◌∙◌}
use mathlib.Core.Logic.{◌↔◌}
use mathlib.Core.Bool.{Bool, true, false, true≢false, false≢true}
use mathlib.Core.List.{List, [], ◌∷◌, ◌++◌}
use Prim.Native.Nat.{ℕ, ◌<◌, ◌≤◌}
use native.Mathlib.Omega.{arith}
use lib.ListN.{length}
use borrow.Author.Tests.{ne_eqb}
use Rattle.edge_table.specs.declared.EdgeTable.{EdgeTable}
use Rattle.division.specs.Plan.{Plan, Proper}
use Rattle.plan.specs.Plan.{plan_of}
use Rattle.plan.proofs.Abstract.{proper_plan}
use Rattle.calls.specs.Calls as calls
use Rattle.calls.specs.Calls.{World}
use Rattle.calls.specs.Refusals.{Stops, AppliesTo, Applies}
use Rattle.calls.proofs.Refusals.{refusals}
use Rattle.graph_division.specs.declared.Answer.{Answer}
use Rattle.graph_division.specs.declared.Answer.TheVariants.{Consistent, Conflict, Noted, Undone, Reason, Run, Page, Refused}
use Rattle.graph_division.specs.Answers.{number_of, is_consistent}
use Rattle.graph_division.specs.Runs.{Request, Kept, Reply, reply, keeping, after, call_of, calls_of}
use Rattle.claims.specs.Conditions.{accepted}
use Rattle.graph_division.specs.Outcomes.{answer_for, answer_of}
use Rattle.simulation.specs.Start.{state_plan}
use Rattle.simulation.specs.Represents.{RepresentsKept, Replies, Leads}
use Rattle.simulation.proofs.Running.{reply_is, after_leads}

-- ---- answers
unfoldable pub kind_of : Answer → ℕ
kind_of (Consistent n) = 0
kind_of Conflict = 1
kind_of Noted = 2
kind_of Undone = 3
kind_of (Reason n) = 4
kind_of (Run n) = 6
kind_of (Page n) = 7
kind_of (Refused n) = 5

unfoldable pub amount_of : Answer → ℕ
amount_of (Consistent n) = n
amount_of Conflict = 0
amount_of Noted = 0
amount_of Undone = 0
amount_of (Reason n) = n
amount_of (Run n) = n
amount_of (Page n) = n
amount_of (Refused n) = n

conflict_for : (a : calls.Answer) (n : ℕ) → answer_for a n ≡ Conflict → a ≡ calls.conflicting
unfolding answer_for kind_of
conflict_for calls.consistent n e = let z : ◌≡◌ {A = ℕ} 0 1 = ap kind_of e in absurd (omega arith)
conflict_for calls.conflicting n e = refl
conflict_for calls.noted n e = let z : ◌≡◌ {A = ℕ} 2 1 = ap kind_of e in absurd (omega arith)
conflict_for calls.undone n e = let z : ◌≡◌ {A = ℕ} 3 1 = ap kind_of e in absurd (omega arith)
conflict_for (calls.refused m) n e = let z : ◌≡◌ {A = ℕ} 5 1 = ap kind_of e in absurd (omega arith)
conflict_for (calls.reason ls) n e = let z : ◌≡◌ {A = ℕ} 4 1 = ap kind_of e in absurd (omega arith)
conflict_for (calls.found_run gs) n e = let z : ◌≡◌ {A = ℕ} 6 1 = ap kind_of e in absurd (omega arith)
conflict_for (calls.printed_page bs) n e = let z : ◌≡◌ {A = ℕ} 7 1 = ap kind_of e in absurd (omega arith)

refused_to : (a : calls.Answer) (n m : ℕ) → 0 < m → number_of (answer_for a n) ≡ m → a ≡ calls.refused m
unfolding answer_for number_of
refused_to calls.consistent n m h e = absurd (omega arith)
refused_to calls.conflicting n m h e = absurd (omega arith)
refused_to calls.noted n m h e = absurd (omega arith)
refused_to calls.undone n m h e = absurd (omega arith)
refused_to (calls.refused k) n m h e = ap calls.refused e
refused_to (calls.reason ls) n m h e = absurd (omega arith)
refused_to (calls.found_run gs) n m h e = absurd (omega arith)
refused_to (calls.printed_page bs) n m h e = absurd (omega arith)

consistent_to : (a : calls.Answer) (n : ℕ) → is_consistent (answer_for a n) ≡ true → a ≡ calls.consistent
unfolding answer_for
consistent_to calls.consistent n e = refl
consistent_to calls.conflicting n e = absurd (false≢true e)
consistent_to calls.noted n e = absurd (false≢true e)
consistent_to calls.undone n e = absurd (false≢true e)
consistent_to (calls.refused m) n e = absurd (false≢true e)
consistent_to (calls.reason ls) n e = absurd (false≢true e)
consistent_to (calls.found_run gs) n e = absurd (false≢true e)
consistent_to (calls.printed_page bs) n e = absurd (false≢true e)

-- a refusal's number is one of the table's, and never 0
query_range : {d : Plan} {w : World} {q : calls.Query} {n : ℕ} → AppliesTo d w q n → (0 < n) × (n ≤ 19)
query_range (AppliesTo.unknown_reason l k) = (omega arith, omega arith)
query_range (AppliesTo.no_reason l e) = (omega arith, omega arith)
query_range (AppliesTo.path_gone l r e g) = (omega arith, omega arith)
query_range (AppliesTo.no_run p q n) = (omega arith, omega arith)
query_range (AppliesTo.unknown_from p q n) = (omega arith, omega arith)
query_range (AppliesTo.unknown_to p q n) = (omega arith, omega arith)
query_range (AppliesTo.page_short len rs l h) = (omega arith, omega arith)

stops_range : {d : Plan} {ls t : List ℕ} {n : ℕ} → Stops d ls t n → (0 < n) × (n ≤ 19)
stops_range (Stops.at13 x) = (omega arith, omega arith)
stops_range (Stops.at14 x) = (omega arith, omega arith)

applies_range : {d : Plan} {w : World} {c : calls.Call} {n : ℕ} → Applies d w c n → (0 < n) × (n ≤ 19)
applies_range (Applies.no_room c e) = (omega arith, omega arith)
applies_range (Applies.bad_initialize room t x) = (omega arith, omega arith)
applies_range (Applies.bad_propagate room t l pending x) = (omega arith, omega arith)
applies_range (Applies.again room t e) = (omega arith, omega arith)
applies_range (Applies.unknown_propagate room t l pending x) = (omega arith, omega arith)
applies_range (Applies.unknown_undo room l x) = (omega arith, omega arith)
applies_range (Applies.stands room t l pending x) = (omega arith, omega arith)
applies_range (Applies.stands_later room t a l ls s x) = (omega arith, omega arith)
applies_range (Applies.not_newest room l x) = (omega arith, omega arith)
applies_range (Applies.stops room t l n x) = stops_range x
applies_range (Applies.stops_later room t a l ls n s x y) = stops_range y
applies_range (Applies.zero_last room t a s x) = (omega arith, omega arith)
applies_range (Applies.of_query room q n x) = query_range x

accepted_for : (a : calls.Answer) (n : ℕ) → (a ≡ calls.refused 0 → ⊥) → accepted (answer_for a n) ≡ calls.accepted a
unfolding accepted calls.accepted answer_for number_of
accepted_for calls.consistent n h = refl
accepted_for calls.conflicting n h = refl
accepted_for calls.noted n h = refl
accepted_for calls.undone n h = refl
accepted_for (calls.refused m) n h = ne_eqb m 0 (λ (e : m ≡ 0). h (ap calls.refused e))
accepted_for (calls.reason ls) n h = refl
accepted_for (calls.found_run gs) n h = refl
accepted_for (calls.printed_page bs) n h = refl

-- ---- the same of outcomes
pub conflict_back : (o : calls.Outcome) → answer_of o ≡ Conflict → o.answer ≡ calls.conflicting
unfolding answer_of
conflict_back o e = conflict_for o.answer (length o.handed) e

refused_for : (a : calls.Answer) (n m : ℕ) → answer_for a n ≡ Refused m → a ≡ calls.refused m
unfolding answer_for kind_of amount_of
refused_for calls.consistent n m e = let z : ◌≡◌ {A = ℕ} 0 5 = ap kind_of e in absurd (omega arith)
refused_for calls.conflicting n m e = let z : ◌≡◌ {A = ℕ} 1 5 = ap kind_of e in absurd (omega arith)
refused_for calls.noted n m e = let z : ◌≡◌ {A = ℕ} 2 5 = ap kind_of e in absurd (omega arith)
refused_for calls.undone n m e = let z : ◌≡◌ {A = ℕ} 3 5 = ap kind_of e in absurd (omega arith)
refused_for (calls.refused k) n m e = ap calls.refused (ap amount_of e)
refused_for (calls.reason ls) n m e = let z : ◌≡◌ {A = ℕ} 4 5 = ap kind_of e in absurd (omega arith)
refused_for (calls.found_run gs) n m e = let z : ◌≡◌ {A = ℕ} 6 5 = ap kind_of e in absurd (omega arith)
refused_for (calls.printed_page bs) n m e = let z : ◌≡◌ {A = ℕ} 7 5 = ap kind_of e in absurd (omega arith)

pub refused_range : (d : Plan) → Proper d → (w : World) (c : calls.Call) (m : ℕ) → answer_of (calls.call d c w) ≡ Refused m → (0 < m) × (m ≤ 19)
unfolding answer_of
refused_range d pr w c m e =
    let o = calls.call d c w in
    applies_range ((refusals d w c (λ _. pr) m).0 (refused_for o.answer (length o.handed) m e)).applies

pub refused_is : (o : calls.Outcome) (n : ℕ) → 0 < n → (number_of (answer_of o) ≡ n) ↔ (o.answer ≡ calls.refused n)
unfolding answer_of answer_for number_of
refused_is o n h = (refused_to o.answer (length o.handed) n h, λ e. ap (λ (a : calls.Answer). number_of (answer_for a (length o.handed))) e)

pub accepted_is : (d : Plan) → Proper d → (w : World) (c : calls.Call) → accepted (answer_of (calls.call d c w)) ≡ calls.accepted (calls.call d c w).answer
unfolding answer_of
accepted_is d pr w c =
    let o = calls.call d c w in
    accepted_for o.answer (length o.handed)
    (λ e. let (h, _) = applies_range ((refusals d w c (λ _. pr) 0).0 e).applies in omega arith)

pub consistent_is : (o : calls.Outcome) → (is_consistent (answer_of o) ≡ true) ↔ (o.answer ≡ calls.consistent)
unfolding answer_of answer_for
consistent_is o = (consistent_to o.answer (length o.handed), λ e. ap (λ (a : calls.Answer). is_consistent (answer_for a (length o.handed))) e)

-- ---- the plan stays D from call to call
module _ (D : Plan) where
  pub record At (k : Kept) (w : World) : Type 0 where
    pub represents : RepresentsKept k w
    pub plan : state_plan k.state ≡ D

  pub at_proper : (k : Kept) (w : World) → At k w → Proper D
  at_proper k w a = subst Proper a.plan (proper_plan _ _ a.represents.represents.proper)

  module _ (k : Kept) (w : World) (a : At k w) where
    pub reply_at : (q : Request) → Replies k q (reply k q) (calls.call D (call_of k q) w)
    reply_at q = subst (λ (d : Plan). Replies k q (reply k q) (calls.call d (call_of k q) w)) a.plan (reply_is k w a.represents q)

    pub next_at : (q : Request) → At (keeping (reply k q)) (calls.call D (call_of k q) w).world
    unfolding keeping
    next_at q = record { represents = (reply_at q).keeps; plan = ap₂ (λ (ws : List ℕ) (es : EdgeTable). plan_of ws es.ends) (reply_at q).plan (reply_at q).edges ∙ a.plan }

  pub after_at : (qs : List Request) (k : Kept) (w : World) → At k w → At (after k qs) (calls.after D w (calls_of k qs))
  unfolding after calls.after calls_of
  after_at [] k w a = a
  after_at (q ∷ qs) k w a = after_at qs (keeping (reply k q)) (calls.call D (call_of k q) w).world (next_at k w a q)
