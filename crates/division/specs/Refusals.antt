-- Document 01's refusal 13: when an analysis is turned away.
use Rattle.std.specs.Prelude.{ℕ, ◌<◌, ◌≡◌, true}
use Rattle.division.specs.Plan.{Plan, across}
use Rattle.division.specs.State.{State, crossed_at}
use Rattle.division.specs.Analysis.{View, going, same_size, step1, step2, step3, step4}

-- 13: "step 5 would propose from a fixed size 0"; it is reached where no step before it ends the analysis
pub record FixedZero (d : Plan) (s : State) (w : View) : Type 0 where
  pub on : d.disallow_adjacent_same_size_regions ≡ true
  pub clear : (step4 d s w (step3 d s w (step2 d s w (crossed_at d s) (step1 d s w)))).verdict ≡ going
  pub u : ℕ
  pub g : ℕ
  pub h : ℕ
  pub vertex : u < d.vertices
  pub first : g < d.edges
  pub second : h < g
  pub proposes : same_size d s w u g h ≡ true
  pub zero : w.low (w.did (across d u g)) ≡ 0
