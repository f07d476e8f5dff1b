-- Noted words that agree where the plan uses them: what stands in the other places does not matter.
use Rattle.std.specs.Prelude.{◌≡◌, ◌⊎◌, List, ℕ, ◌-◌, ◌%◌, ◌≤◌, ◌<◌, length, get_or}
use Rattle.plan.specs.Words.{vertices_of, edges_of}
use Rattle.noting.specs.Note.{Noting}

-- the places of the plan's edges, and of its vertices' bounds and their literals
abbrev pub UsedPlace : List ℕ → ℕ → Type 0
UsedPlace ws i = (i < edges_of ws) ⊎ ((128 ≤ i) × (i < 384) × ((i - 128) % 64 < vertices_of ws))

-- noted words that agree in these places
pub record Alike (ws a b : List ℕ) : Type 0 where
  pub long : length a ≡ length b
  pub same : (i : ℕ) → UsedPlace ws i → get_or a i 0 ≡ get_or b i 0

-- the same log and cursor, and noted words that agree
pub record Twins (ws : List ℕ) (x y : Noting) : Type 0 where
  pub noted : Alike ws x.noted y.noted
  pub log : x.log ≡ y.log
  pub cursor : x.cursor ≡ y.cursor
