-- When a view is that of a state.
use Prim.Native.Nat.{ℕ, ◌<◌, ◌≤◌}
use mathlib.Core.Path.{◌≡◌}
use mathlib.Core.Logic.{◌↔◌}
use mathlib.Core.List.{Memᴰ}
use Rattle.base.specs.Lists.{Every}
use Rattle.division.specs.Plan.{Plan}
use Rattle.division.specs.State.{State, Same, Near, decided_weight, potential_weight}
use Rattle.division.specs.Analysis.{View}

pub record Cell (d : Plan) (w : View) (r p : ℕ) : Type 0 where
  pub vertex : p < d.vertices
  pub here : w.pid p ≡ r

-- vertex i has the bound of v's region
pub record Held (d : Plan) (w : View) (b : ℕ → ℕ) (v i x : ℕ) : Type 0 where
  pub vertex : i < d.vertices
  pub here : w.did i ≡ w.did v
  pub is : b i ≡ x

-- the view is that of the state
pub record Shows (d : Plan) (s : State) (w : View) : Type 0 where
  pub same : (p q : ℕ) → p < d.vertices → q < d.vertices → (w.did p ≡ w.did q) ↔ Same d s p q
  pub near : (p q : ℕ) → p < d.vertices → q < d.vertices → (w.pid p ≡ w.pid q) ↔ Near d s p q
  pub weight : (v : ℕ) → v < d.vertices → w.dw (w.did v) ≡ decided_weight d s v
  pub most : (v : ℕ) → v < d.vertices → w.pw (w.pid v) ≡ potential_weight d s v
  pub up : (v : ℕ) → v < d.vertices → w.up (w.did v) ≤ s.upper v
  pub up_at : (v : ℕ) → v < d.vertices → w.up (w.did v) < 2147483647 → Held d w s.upper v (w.up_at (w.did v)) (w.up (w.did v))
  pub low : (v : ℕ) → v < d.vertices → s.lower v ≤ w.low (w.did v)
  pub low_at : (v : ℕ) → v < d.vertices → 0 < w.low (w.did v) → Held d w s.lower v (w.low_at (w.did v)) (w.low (w.did v))
  pub label : (v : ℕ) → v < d.vertices → (w.did v < d.vertices) × (w.did (w.did v) ≡ w.did v)
  pub whole : (v : ℕ) → v < d.vertices → Memᴰ v (w.members (w.did v))
  pub only : (r : ℕ) → r < d.vertices → w.did r ≡ r → Every (λ p. (p < d.vertices) × (w.did p ≡ r)) (w.members r)
  pub cells : (r : ℕ) → Every (Cell d w r) (w.cells r)
