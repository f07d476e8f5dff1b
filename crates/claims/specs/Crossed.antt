-- Document 02, request 2, of the code: crossed bounds after any list of requests to a propagator from a state that is
-- freshly built, refused ones included.
use Rattle.std.specs.Prelude.{ℕ, ◌≡◌, true, List}
use Rattle.division.specs.Plan.{Plan}
use Rattle.division.specs.Crossed.{Crosses, CrossedPair}
use Rattle.division.specs.Noting.{note_all}
use Rattle.division.specs.Views.{view_of}
use Rattle.calls.specs.Refusals.{Works}
use Rattle.calls.specs.Truths.{Analyzes}
use Rattle.graph_division.specs.declared.Answer.TheVariants.{Conflict}
use Rattle.graph_division.specs.Answers.{number_of}
use Rattle.graph_division.specs.Runs.{last_left, Request, Kept}
use Rattle.claims.specs.Whole.{literals_of}
use Rattle.claims.specs.Conditions.{accepted, world_after, reply_to, call_for, asked_then, standing_then}

-- "Where 12 was given": none of 7 to 11 applies to request q, and one of its analyses, where ms stands, meets crossed
-- bounds
pub record MeetsCrossed (start : Kept) (d : Plan) (before : List Request) (q : Request) (ms : List ℕ) : Type 0 where
  pub works : Works d (world_after d start before) (call_for start before q)
  pub analyzes : Analyzes d (world_after d start before) (call_for start before q) ms
  pub crosses : Crosses d (note_all d ms) (view_of d (note_all d ms))

pub record CrossedConflicts (start : Kept) (d : Plan) : Type 0 where
  -- "the answer becomes a conflict"
  pub answers : (before : List Request) (q : Request) (ms : List ℕ) → MeetsCrossed start d before q ms →
      (reply_to start before q).answer ≡ Conflict
  -- "listing that pen's lower literal, then its upper literal", as a fetch straight after it gives them
  pub lists : (before : List Request) (q : Request) (ms b rest : List ℕ) → MeetsCrossed start d before q ms →
      accepted (asked_then start before q last_left b rest).answer ≡ true →
      CrossedPair d ms (literals_of (asked_then start before q last_left b rest))
  -- "The notification then stands."
  pub stands : (before : List Request) (q : Request) (ms : List ℕ) → MeetsCrossed start d before q ms →
      standing_then d start before q ≡ ms
  -- "Number 12 retires."
  pub retired : (before : List Request) (q : Request) → number_of (reply_to start before q).answer ≡ 12 → ⊥
