-- Document 02, request 5, of the code: what the analyses of a request propose, after any list of requests to a
-- propagator from a state that is freshly built, refused ones included.
use Rattle.std.specs.Prelude.{ℕ, ◌≡◌, ◌⊎◌, true}
use mathlib.Core.List.{List, [], ◌∷◌, ◌++◌, Memᴰ}
use Rattle.sat.specs.Literal.{negate}
use Rattle.division.specs.Plan.{Plan}
use Rattle.division.specs.Analysis.{Proposal}
use Rattle.division.specs.Noting.{In}
use Rattle.division.specs.Runs.{analysis}
use Rattle.calls.specs.Truths.{Analyzes}
use Rattle.graph_division.specs.Runs.{Request, Kept, after}
use Rattle.claims.specs.Conditions.{accepted, HandsOn, world_after, reply_to, call_for, standing_then}

-- an analysis of request q, where ms stands, makes proposal p. A notification with nothing pending has one analysis, an
-- initialise one for each literal that it notifies, then its last pass; one that ends in a conflict counts, and so do
-- those of a request that is then refused.
pub record Proposed (start : Kept) (d : Plan) (before : List Request) (q : Request) (ms : List ℕ) (p : Proposal) :
    Type 0 where
  pub analyzes : Analyzes d (world_after d start before) (call_for start before q) ms
  pub proposes : Memᴰ p (analysis d ms).props

-- literal l "stands", or its "negation stands", where ms does
abbrev pub EitherIn : List ℕ → ℕ → Type 0
EitherIn ms l = In ms l ⊎ In ms (negate l)

pub record NothingStandingProposed (start : Kept) (d : Plan) : Type 0 where
  -- "no accepted sequence of calls, under either option, proposes a literal that stands or whose negation stands"
  pub proposed : (before : List Request) (q : Request) (ms : List ℕ) (p : Proposal) →
      Proposed start d before q ms p → EitherIn ms p.lit → ⊥
  -- "take the branch out": an accepted request records every proposal
  pub recorded : (before : List Request) (q : Request) (ms : List ℕ) (p : Proposal) →
      Proposed start d before q ms p → accepted (reply_to start before q).answer ≡ true →
      Memᴰ p (world_after d start (before ++ (q ∷ []))).reasons
  -- what a caller sees of it, whatever the table holds: no literal that is handed on stands then, nor does its negation
  pub handed : (before : List Request) (q : Request) (l : ℕ) →
      HandsOn (after start before) q l → EitherIn (standing_then d start before q) l → ⊥
