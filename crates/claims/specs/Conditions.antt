-- The conditions of the order, over any list of requests to a propagator from a state that is freshly built, refused ones included.
use Rattle.std.specs.Prelude.{ℕ, ◌<◌, ◌≡◌, ◌↔◌, Bool, true, false, List, [], ◌∷◌, ◌++◌, eqb, ℤ, pos}
use Rattle.base.specs.Iter.{pick}
use Rattle.base.specs.Lists.{Every}
use Rattle.sat.specs.Literal.{Holds}
use Rattle.division.specs.Plan.{Plan}
use Rattle.division.specs.Division.{Valid, Describes}
use Rattle.division.specs.Reasons as abstract
use Rattle.division.specs.Analysis.{Proposal, Each}
use Rattle.division.specs.Noting.{In}
use Rattle.division.specs.Runs.{reason_of}
use Rattle.refusals.specs.Calls.{lit_given}
use Rattle.calls.specs.Table.{code_of, unset_in, entered}
use Rattle.calls.specs.Marks.{current_code}
use Rattle.calls.specs.Calls as calls
use Rattle.calls.specs.Calls.{World}
use Rattle.calls.specs.Refusals.{room_of, Applies, First}
use Rattle.calls.specs.Truths.{Walked, Recorded, Analyzes, Backed}
use Rattle.calls.specs.Claim.{add_up_to, tail, Covers}
use Rattle.graph_division.specs.declared.Answer.{Answer}
use Rattle.graph_division.specs.declared.Answer.TheVariants.{Consistent, Conflict, Noted, Undone, Reason, Refused}
use Rattle.graph_division.specs.New.{built}
use Rattle.graph_division.specs.Answers.{number_of, is_consistent}
use Rattle.graph_division.specs.Calls.{refuse}
use Rattle.graph_division.specs.Runs.{Query, reason_for, last_left, Request, initialize, propagate, undo, ask, table_of}
use Rattle.graph_division.specs.Runs.{lent_list, tail_of, Kept, log_for, Reply, replied, reply, keeping, after, call_of}
use Rattle.graph_division.specs.Runs.{calls_of}
use Rattle.simulation.specs.Start.{state_plan, just_built}
use Rattle.claims.specs.Whole.{literals_of, Whole}

-- "from the freshly built state": the state that is built of these numbers, with nothing in the log, and its plan
abbrev pub built_start : List ℤ → ℕ → List ℤ → ℕ → Bool → Bool → Kept
built_start vs n es m sameSize extraWalls = just_built (built vs n es m sameSize extraWalls)

abbrev pub built_plan : List ℤ → ℕ → List ℤ → ℕ → Bool → Bool → Plan
built_plan vs n es m sameSize extraWalls = state_plan (built_start vs n es m sameSize extraWalls).state

-- an answer whose number is 0 is accepted: no refusal has that number
unfoldable pub accepted : Answer → Bool
accepted a = eqb (number_of a) 0

-- Document 01, "Undo log": "For condition 3 the standing literals follow from the calls": "an accepted notification adds its literal, an
-- accepted undo takes the newest away; an accepted initialise adds, in rising order, the plan's literals true in the table on entry, up to
-- and with the first, if any, whose own analysis is a conflict"; the newest first
unfoldable pub counts : Plan → Request → List ℕ → List ℕ
counts d (initialize t list rest) ls = add_up_to d ls t (entered d t)
counts d (propagate lit pending t list rest) ls = lit_given lit ∷ ls
counts d (undo lit rest) ls = tail ls
counts d (ask q b rest) ls = ls

-- "every other call, refused ones included, leaves them"
unfoldable pub counted : Plan → Kept → List Request → List ℕ → List ℕ
counted d k [] ls = ls
counted d k (q ∷ qs) ls = counted d (keeping (reply k q)) qs (pick (accepted (reply k q).answer) (counts d q ls) ls)

-- Document 01, "Value table": "A handed-on literal is one that was unset; its entry becomes 3 or 4."
pub record HandsOn (k : Kept) (q : Request) (l : ℕ) : Type 0 where
  pub unset : unset_in (table_of q) l ≡ true
  pub set : code_of (reply k q).table l ≡ current_code l

-- a refused call or a query, as a fetch is
pub data Quiet (k : Kept) : Request → Type 0 where
  a_query : (q : Query) (b rest : List ℕ) → Quiet k (ask q b rest)
  turned_away : (q : Request) → accepted (reply k q).answer ≡ false → Quiet k q

pub data AllQuiet : Kept → List Request → Type 0 where
  done : {k : Kept} → AllQuiet k []
  next : {k : Kept} {q : Request} {qs : List Request} → Quiet k q → AllQuiet (keeping (reply k q)) qs → AllQuiet k (q ∷ qs)

-- the reply to a call that is refused: the number, and the state, the cursor and all that it was lent as before
unfoldable pub turned_away_with : Kept → Request → ℕ → Reply
turned_away_with k q n = replied (refuse n k.state k.cursor) (table_of q) (lent_list q) (log_for k (tail_of q))

-- the world of the definitions of crate calls after a list of requests
abbrev pub world_after : Plan → Kept → List Request → World
world_after d start before = calls.run d (calls_of start before)

-- a list of requests `before`, then request q: the reply, the definition's call and its outcome, and the reply to a query straight after it
abbrev pub reply_to : Kept → List Request → Request → Reply
reply_to start before q = reply (after start before) q

abbrev pub call_for : Kept → List Request → Request → calls.Call
call_for start before q = call_of (after start before) q

abbrev pub outcome_to : Plan → Kept → List Request → Request → calls.Outcome
outcome_to d start before q = calls.call d (call_for start before q) (world_after d start before)

abbrev pub asked_then : Kept → List Request → Request → Query → List ℕ → List ℕ → Reply
asked_then start before q x b rest = reply (keeping (reply_to start before q)) (ask x b rest)

-- what stands after them
abbrev pub standing_then : Plan → Kept → List Request → Request → List ℕ
standing_then d start before q = counted d start (before ++ (q ∷ [])) []

-- Condition 1, of the calls; that of building is crate builder's
pub record Condition1 (start : Kept) (d : Plan) : Type 0 where
  -- "Every call to which document 01 assigns no refusal number is accepted": none of the table's rows applies
  pub accepts : (before : List Request) (q : Request) →
      (number_of (reply_to start before q).answer ≡ 0) ↔ ((n : ℕ) → Applies d (world_after d start before) (call_for start before q) n → ⊥)
  -- "gives the one answer fixed there": the answer, and all that it was lent
  pub answers : (before : List Request) (q : Request) → Whole (after start before) q (outcome_to d start before q)
  -- "Every other call is refused with the number that 01 assigns": the first whose row applies
  pub refuses : (before : List Request) (q : Request) (n : ℕ) → 0 < n →
      (number_of (reply_to start before q).answer ≡ n) ↔ First d (world_after d start before) (call_for start before q) n
  -- "and the state and every lent buffer then hold what they held before"
  pub unchanged : (before : List Request) (q : Request) (n : ℕ) → 0 < n →
      number_of (reply_to start before q).answer ≡ n → reply_to start before q ≡ turned_away_with (after start before) q n

-- Condition 2, "The comments on CustomPropagator in sat.rs, as 01 reads them", of what the calls give
pub record Condition2 (start : Kept) (d : Plan) : Type 0 where
  -- the literals of a consistent answer are those handed on, in their order
  pub handed : (before : List Request) (q : Request) → is_consistent (reply_to start before q).answer ≡ true →
      literals_of (reply_to start before q) ≡ (outcome_to d start before q).handed
  -- "the table must show each", of any call, and shows no other
  pub shown : (before : List Request) (q : Request) (l : ℕ) → HandsOn (after start before) q l ↔ In (outcome_to d start before q).handed l
  -- the list that a conflict leaves, fetched straight after it: each literal stands, but a false proposal's negation, which is true in the table
  pub conflicts : (before : List Request) (q : Request) (b rest : List ℕ) → (reply_to start before q).answer ≡ Conflict →
      accepted (asked_then start before q last_left b rest).answer ≡ true →
      Backed (standing_then d start before q) (reply_to start before q).table (literals_of (asked_then start before q last_left b rest))
  -- a fetched reason, whatever was undone since: its literals stand, but those that the reason holds, which stood when it was recorded
  pub reasons : (before : List Request) (lit : ℤ) (b rest : List ℕ) →
      accepted (reply_to start before (ask (reason_for lit) b rest)).answer ≡ true →
      (r : abstract.Reason) × (reason_of (lit_given lit) (world_after d start before).reasons ≡ r ∷ []) ×
      Walked d (counted d start before []) r (literals_of (reply_to start before (ask (reason_for lit) b rest)))
  -- and each that a call records is one of an analysis that it made, and what it holds stood there
  pub recorded : (before : List Request) (q : Request) → (recent : List Proposal) ×
      ((world_after d start (before ++ (q ∷ []))).reasons ≡ recent ++ (world_after d start before).reasons) ×
      Each (λ l r. (ms : List ℕ) × Analyzes d (world_after d start before) (call_for start before q) ms × Recorded d ms l r) recent
  -- what a call hands on can be fetched, straight after it and until another call than a query is accepted, with a buffer and a log to which 7
  -- does not apply: "a vector of literals from which `p` can be propagated", all of which stand
  pub fetchable : (before : List Request) (q : Request) (amid : List Request) (lit : ℤ) (b rest : List ℕ) →
      HandsOn (after start before) q (lit_given lit) → AllQuiet (keeping (reply_to start before q)) amid →
      let k = after (keeping (reply_to start before q)) amid in
      room_of (call_of k (ask (reason_for lit) b rest)) ≡ true →
      (accepted (reply k (ask (reason_for lit) b rest)).answer ≡ true) ×
      Every (In (standing_then d start before q)) (literals_of (reply k (ask (reason_for lit) b rest)))

-- "for every list of these calls (initialise, notify, undo, fetch, refused ones included) from the freshly built state, whatever the table
-- holds at each of them", where start is that state and d its plan
pub record Condition3 (start : Kept) (d : Plan) : Type 0 where
  -- "no call answers a conflict whose listed literals", which a fetch straight after it gives, "all hold in some valid division"
  pub conflicts : (before : List Request) (q : Request) (b rest : List ℕ) → (reply_to start before q).answer ≡ Conflict →
      accepted (asked_then start before q last_left b rest).answer ≡ true →
      (σ : ℕ → Bool) → Valid d σ → Every (Holds σ) (literals_of (asked_then start before q last_left b rest)) → ⊥
  -- "no call hands on a literal that fails in a valid division where its reason, fetched before any later accepted call but a fetch, holds"
  pub handed : (before : List Request) (q : Request) (amid : List Request) (lit : ℤ) (b rest : List ℕ) →
      HandsOn (after start before) q (lit_given lit) → AllQuiet (keeping (reply_to start before q)) amid →
      let r = reply (after (keeping (reply_to start before q)) amid) (ask (reason_for lit) b rest) in
      accepted r.answer ≡ true → (σ : ℕ → Bool) → Valid d σ → Every (Holds σ) (literals_of r) → Holds σ (lit_given lit)
  -- "an accepted notification with nothing pending, after which every variable has a standing literal, is answered consistent exactly when
  -- the standing literals describe a valid division"
  pub exact : (before : List Request) (lit : ℤ) (t list rest : List ℕ) →
      let q = propagate lit (pos 0) t list rest in
      accepted (reply_to start before q).answer ≡ true → Covers d (standing_then d start before q) →
      (is_consistent (reply_to start before q).answer ≡ true) ↔ Describes d (standing_then d start before q)
