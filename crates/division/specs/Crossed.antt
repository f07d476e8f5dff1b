-- Document 02, request 2: a conflict of crossed bounds.
use Rattle.std.specs.Prelude.{ℕ, ◌<◌, ◌≤◌, ◌≡◌, Bool, List, [], ◌∷◌}
use Rattle.sat.specs.Literal.{Holds}
use Rattle.division.specs.Plan.{Plan}
use Rattle.division.specs.Division.{Valid}
use Rattle.division.specs.State.{State}
use Rattle.division.specs.Analysis.{View, going, step1}
use Rattle.division.specs.Noting.{note_all, In}

-- "Where 12 was given", document 01: "lower over upper for a pen, step 1 found no conflict"
pub record Crosses (d : Plan) (s : State) (w : View) : Type 0 where
  pub clear : (step1 d s w).verdict ≡ going
  pub v : ℕ
  pub vertex : v < d.vertices
  pub over : s.upper v < s.lower v

-- what such a conflict lists, where ls stands
pub record CrossedPair (d : Plan) (ls list : List ℕ) : Type 0 where
  pub vertex : ℕ
  pub known : vertex < d.vertices
  -- "the lowest pen whose bounds cross"
  pub crosses : (note_all d ls).upper vertex < (note_all d ls).lower vertex
  pub lowest : (u : ℕ) → u < vertex → (note_all d ls).lower u ≤ (note_all d ls).upper u
  -- "that pen's lower literal, then its upper literal": there are both
  pub low : ℕ
  pub high : ℕ
  pub lower_is : (note_all d ls).lower_lit vertex ≡ low ∷ []
  pub upper_is : (note_all d ls).upper_lit vertex ≡ high ∷ []
  pub lists : list ≡ low ∷ high ∷ []
  -- both stand
  pub low_stands : In ls low
  pub high_stands : In ls high
  -- "A user may rely on such a list as on every other conflict": no valid division has both
  pub sound : (σ : ℕ → Bool) → Valid d σ → Holds σ low → Holds σ high → ⊥
