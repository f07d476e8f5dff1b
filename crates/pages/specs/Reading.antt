-- What is read from a line of a page.
use Rattle.std.specs.Prelude.{◌≡◌, List, [], ◌∷◌, ℕ, eqb, length, take, drop}
use Rattle.base.specs.Iter.{pick}
use Rattle.text.specs.Fields.{newline}
use Rattle.text.specs.Number.{decimal}
use Rattle.pages.specs.Line.{space, hyphen}

-- n bytes from place `from` on
unfoldable pub slice : ℕ → ℕ → List ℕ → List ℕ
slice from n bytes = take n (drop from bytes)

-- a field without the spaces before its text
unfoldable pub trimmed : List ℕ → List ℕ
trimmed [] = []
trimmed (x ∷ l) = pick (eqb x space) (trimmed l) (x ∷ l)

-- the number that a field of n bytes from place `from` on says
unfoldable pub field_at : ℕ → ℕ → List ℕ → ℕ
field_at from n bytes = decimal 0 (trimmed (slice from n bytes))

-- "Widths are 4, 4, 10, 10 and 10, right-aligned with spaces, then a newline, so 39 bytes": each field says its number,
-- and "An unlimited upper bound prints as `-`"
pub record LineReads (lowest count weight lower upper : ℕ) (bytes : List ℕ) : Type 0 where
  pub long : length bytes ≡ 39
  pub lowest_read : field_at 0 4 bytes ≡ lowest
  pub count_read : field_at 4 4 bytes ≡ count
  pub weight_read : field_at 8 10 bytes ≡ weight
  pub lower_read : field_at 18 10 bytes ≡ lower
  pub upper_read : (upper ≡ 2147483647 → ⊥) → field_at 28 10 bytes ≡ upper
  pub unlimited_read : upper ≡ 2147483647 → trimmed (slice 28 10 bytes) ≡ hyphen ∷ []
  pub end_read : slice 38 1 bytes ≡ newline ∷ []
