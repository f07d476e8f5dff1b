-- What a query is answered after any list of requests, where 7 does not apply.
use mathlib.Core.Path.{◌≡◌, refl, ◌∙◌, ap}
use mathlib.Core.Bool.{true, not}
use mathlib.Core.List.{List, []}
use Prim.Native.Nat.{ℕ}
use lib.ListN.{length}
use lib.Seq.{sets}
use Rattle.base.proofs.Loop.{pick_no}
use Rattle.division.specs.Plan.{Plan}
use Rattle.calls.specs.Calls as calls
use Rattle.calls.specs.Refusals.{room_of}
use Rattle.graph_division.specs.Outcomes.{answer_for, answer_of}
use Rattle.graph_division.specs.Runs.{Query, Request, ask, lent_list, Kept, log_for, replied_fetched, reply, after}
use Rattle.graph_division.specs.Runs.{query_of, call_of}
use Rattle.claims.specs.Whole.{Whole, written_by}
use Rattle.claims.specs.Conditions.{reply_to, call_for, world_after, outcome_to}
use Rattle.claims.proofs.Replying.{At}
use Rattle.claims.proofs.Lists as lists

module _ (d : Plan) (start : Kept) (a : At d start calls.built) (before : List Request) (x : Query)
    (b rest : List ℕ) where
  abbrev q : Request
  q = ask x b rest

  abbrev o : calls.Outcome
  o = outcome_to d start before (ask x b rest)

  pub asked_answer : room_of (call_for start before (ask x b rest)) ≡ true →
      (outcome_to d start before (ask x b rest)).answer
      ≡ calls.answer_to d (world_after d start before) (query_of x (length b))
  unfolding call_of room_of calls.call calls.on_ask calls.tell
  asked_answer room = pick_no _ _ (ap not room)

  whole : Whole (after start before) q o
  whole = (lists.condition_1 d start a).answers before q

  none_handed : o.handed ≡ []
  unfolding call_of calls.call calls.on_ask calls.tell
  none_handed = refl

  pub answer_is : (y : calls.Answer) → (outcome_to d start before (ask x b rest)).answer ≡ y →
      (reply_to start before (ask x b rest)).answer ≡ answer_for y 0
  unfolding answer_of
  answer_is y h =
      whole.answer ∙ ap (λ (z : calls.Answer). answer_for z (length o.handed)) h
      ∙ ap (λ (l : List ℕ). answer_for y (length l)) none_handed

  pub buffer_is : (y : calls.Answer) → (outcome_to d start before (ask x b rest)).answer ≡ y →
      (reply_to start before (ask x b rest)).list ≡ sets b 0 (written_by y [])
  unfolding lent_list
  buffer_is y h =
      whole.list ∙ ap (λ (z : calls.Answer). sets b 0 (written_by z o.handed)) h
      ∙ ap (λ (l : List ℕ). sets b 0 (written_by y l)) none_handed

  -- it changes nothing but the buffer
  pub asked_quiet :
      let k = after start before in
      let r = reply k (ask x b rest) in
      (r.state ≡ k.state) × (r.cursor ≡ k.cursor) × (r.log ≡ log_for k rest)
  unfolding reply replied_fetched
  asked_quiet = (refl, refl, refl)
