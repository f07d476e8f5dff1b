-- Loops over the first entries of a list.
use Rattle.std.specs.Prelude.{ℕ, zero, suc, ◌+◌, Bool, true, ◌&&◌, List, get_or, set}
use Rattle.base.specs.Iter.{iter}

-- entry i becomes f of its place and of what it was
unfoldable pub put : (ℕ → ℕ → ℕ) → ℕ → List ℕ → List ℕ
put f i l = set l i (f i (get_or l i 0))

-- the first n entries, each by f; the others stay
abbrev pub mapped : (ℕ → ℕ → ℕ) → ℕ → List ℕ → List ℕ
mapped f n l = iter (put f) n l

-- whether each of the first n passes the test
unfoldable pub every : (ℕ → Bool) → ℕ → Bool
every b zero = true
every b (suc n) = every b n && b n

-- word first + v of a list that was lent: the number of vertex v or of edge v
abbrev pub number_of : List ℕ → ℕ → ℕ → ℕ
number_of words first v = get_or words (first + v) 0
