-- States and views that agree on the vertices and edges of a plan: nothing else of them is looked at.
use Rattle.std.specs.Prelude.{ℕ, ◌<◌, ◌≡◌}
use Rattle.division.specs.Plan.{Plan}
use Rattle.division.specs.State.{State, state_of}
use Rattle.division.specs.Analysis.{View}

-- two states agree on the plan
pub record SameState (d : Plan) (s t : State) : Type 0 where
  pub edge : (g : ℕ) → g < d.edges → state_of s g ≡ state_of t g
  pub lower : (v : ℕ) → v < d.vertices → s.lower v ≡ t.lower v
  pub upper : (v : ℕ) → v < d.vertices → s.upper v ≡ t.upper v
  pub lower_lit : (v : ℕ) → v < d.vertices → s.lower_lit v ≡ t.lower_lit v
  pub upper_lit : (v : ℕ) → v < d.vertices → s.upper_lit v ≡ t.upper_lit v

-- two views agree on the plan's vertices
pub record SameView (d : Plan) (w x : View) : Type 0 where
  pub did : (v : ℕ) → v < d.vertices → w.did v ≡ x.did v
  pub pid : (v : ℕ) → v < d.vertices → w.pid v ≡ x.pid v
  pub dw : (r : ℕ) → r < d.vertices → w.dw r ≡ x.dw r
  pub pw : (r : ℕ) → r < d.vertices → w.pw r ≡ x.pw r
  pub up : (r : ℕ) → r < d.vertices → w.up r ≡ x.up r
  pub up_at : (r : ℕ) → r < d.vertices → w.up_at r ≡ x.up_at r
  pub low : (r : ℕ) → r < d.vertices → w.low r ≡ x.low r
  pub low_at : (r : ℕ) → r < d.vertices → w.low_at r ≡ x.low_at r
  pub members : (r : ℕ) → r < d.vertices → w.members r ≡ x.members r
  pub cells : (r : ℕ) → r < d.vertices → w.cells r ≡ x.cells r
