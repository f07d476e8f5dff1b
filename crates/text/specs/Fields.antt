-- "Tabs part fields, one record a line": a run of bytes cut at a separator.
use Rattle.std.specs.Prelude.{List, [], ◌∷◌, ℕ, suc, eqb}
use Rattle.base.specs.Iter.{pick}

abbrev pub tab : ℕ
tab = 9

abbrev pub newline : ℕ
newline = 10

-- b at the front of the first piece
unfoldable pub front : ℕ → List (List ℕ) → List (List ℕ)
front b [] = (b ∷ []) ∷ []
front b (p ∷ ps) = (b ∷ p) ∷ ps

-- the pieces between the separators: one more than there are separators, empty ones included
unfoldable pub split : ℕ → List ℕ → List (List ℕ)
split sep [] = [] ∷ []
split sep (b ∷ l) = pick (eqb b sep) ([] ∷ split sep l) (front b (split sep l))

-- the lines of an input: each newline ends one, and what follows the last newline is one more, if anything does
unfoldable pub lines_of : List ℕ → List (List ℕ)
lines_of [] = []
lines_of (b ∷ l) = pick (eqb b newline) ([] ∷ lines_of l) (front b (lines_of l))

-- how many bytes stand before the first separator
unfoldable pub upto : ℕ → List ℕ → ℕ
upto sep [] = 0
upto sep (b ∷ l) = pick (eqb b sep) 0 (suc (upto sep l))
