-- Document 02, request 2, of the code.
use mathlib.Core.Path.{◌≡◌, refl, sym, ◌∙◌, ap, subst}
use mathlib.Core.Bool.{true}
use mathlib.Core.List.{List}
use Prim.Native.Nat.{ℕ}
use lib.ListN.{length}
use native.Mathlib.Omega.{arith}
use Rattle.division.specs.Plan.{Plan, Proper}
use Rattle.division.specs.Crossed.{CrossedPair}
use Rattle.calls.specs.Calls as calls
use Rattle.calls.specs.Refusals.{Stops, AppliesTo, Applies}
use Rattle.calls.specs.Crossed.{CrossedAnswer}
use Rattle.calls.proofs.Queries.{of_graph}
use Rattle.calls.proofs.Claim.{last_given}
use Rattle.calls.proofs.Crossed.{crossed_answer}
use Rattle.graph_division.specs.declared.Answer.TheVariants.{Conflict}
use Rattle.graph_division.specs.Outcomes.{answer_for, answer_of}
use Rattle.graph_division.specs.Runs.{last_left, Request, query_of, Kept, reply, keeping, after, call_of, calls_of}
use Rattle.claims.specs.Whole.{literals_of}
use Rattle.claims.specs.Conditions.{accepted, call_for, world_after, reply_to, asked_then, outcome_to}
use Rattle.claims.specs.Crossed.{MeetsCrossed, CrossedConflicts}
use Rattle.claims.proofs.Replying.{At, next_at}
use Rattle.claims.proofs.Lists as lists

-- no row of the table is 12's
query_not : {d : Plan} {w : calls.World} {q : calls.Query} {n : ℕ} → AppliesTo d w q n → n ≡ 12 → ⊥
query_not (AppliesTo.unknown_reason l k) z = omega arith
query_not (AppliesTo.no_reason l e) z = omega arith
query_not (AppliesTo.path_gone l r e g) z = omega arith
query_not (AppliesTo.no_run p q n) z = omega arith
query_not (AppliesTo.unknown_from p q n) z = omega arith
query_not (AppliesTo.unknown_to p q n) z = omega arith
query_not (AppliesTo.page_short len rs l h) z = omega arith

stops_not : {d : Plan} {ls t : List ℕ} {n : ℕ} → Stops d ls t n → n ≡ 12 → ⊥
stops_not (Stops.at13 x) z = omega arith
stops_not (Stops.at14 x) z = omega arith

applies_not : {d : Plan} {w : calls.World} {c : calls.Call} {n : ℕ} → Applies d w c n → n ≡ 12 → ⊥
applies_not (Applies.no_room c e) z = omega arith
applies_not (Applies.bad_initialize room t x) z = omega arith
applies_not (Applies.bad_propagate room t l pending x) z = omega arith
applies_not (Applies.again room t e) z = omega arith
applies_not (Applies.unknown_propagate room t l pending x) z = omega arith
applies_not (Applies.unknown_undo room l x) z = omega arith
applies_not (Applies.stands room t l pending x) z = omega arith
applies_not (Applies.stands_later room t a l ls s x) z = omega arith
applies_not (Applies.not_newest room l x) z = omega arith
applies_not (Applies.stops room t l n x) z = stops_not x z
applies_not (Applies.stops_later room t a l ls n s x y) z = stops_not y z
applies_not (Applies.zero_last room t a s x) z = omega arith
applies_not (Applies.of_query room q n x) z = query_not x z

module _ (D : Plan) (start : Kept) (a : At D start calls.built) (proper : Proper D) where
  -- what the definition's call does
  module _ (before : List Request) (q : Request) (ms : List ℕ) (x : MeetsCrossed start D before q ms) where
    crossed : CrossedAnswer D (world_after D start before) (call_for start before q) ms
    crossed = crossed_answer D proper (calls_of start before) (call_for start before q) ms x.analyzes x.works x.crosses

    conflicts : (reply_to start before q).answer ≡ Conflict
    unfolding answer_of answer_for
    conflicts =
        let n = length (outcome_to D start before q).handed in
        lists.answer_of_lem D start a before q ∙ ap (λ (y : calls.Answer). answer_for y n) crossed.answer

    listed : (b rest : List ℕ) → accepted (asked_then start before q last_left b rest).answer ≡ true →
        CrossedPair D ms (literals_of (asked_then start before q last_left b rest))
    unfolding call_of query_of of_graph
    listed b rest e =
        let k = after start before in
        let na = next_at D k (world_after D start before) (lists.at D start a before) q in
        subst (CrossedPair D ms)
        (last_given D _ _ _ (lists.ask_back D (keeping (reply k q)) (outcome_to D start before q).world na last_left b rest refl e))
        crossed.pair

  pub crossed_conflicts : CrossedConflicts start D
  crossed_conflicts = record {
    answers = conflicts;
    lists = λ before q ms b rest x e. listed before q ms x b rest e;
    stands = λ before q ms x. sym (lists.stands_then D start a proper before q) ∙ (crossed before q ms x).standing;
    retired = λ before q e. applies_not (((lists.condition_1 D start a).refuses before q 12 (omega arith)).0 e).applies refl;
  }
