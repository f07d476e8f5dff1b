-- Lists in rising order, and lists without doubles: so are those that calls propose and hand on.
use Rattle.std.specs.Prelude.{ℕ, ◌<◌, List, [], ◌∷◌}
use Rattle.base.specs.Lists.{Every}
use Rattle.division.specs.Noting.{In}

-- each number is below all that follow it
pub data Rising : List ℕ → Type 0 where
  none : Rising []
  more : {x : ℕ} {l : List ℕ} → Every (λ y. x < y) l → Rising l → Rising (x ∷ l)

-- none is there twice
pub data Distinct : List ℕ → Type 0 where
  alone : Distinct []
  with : {x : ℕ} {l : List ℕ} → (In l x → ⊥) → Distinct l → Distinct (x ∷ l)
