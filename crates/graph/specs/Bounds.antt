-- What keeps a search within its arrays.
use Rattle.std.specs.Prelude.{ℕ, zero, suc, ◌+◌, ◌<◌, ◌≤◌, ◌≡◌, Bool, true, false, ◌&&◌, List, [], ltb, length, get_or}
use Rattle.base.specs.Iter.{pick}
use Rattle.graph.specs.Lists.{every}
use Rattle.graph.specs.Search.{Scan, reached_yet}

unfoldable pub bit : Bool → ℕ
bit true = 1
bit false = 0

-- how many of the first n are true
unfoldable pub ones : (ℕ → Bool) → ℕ → ℕ
ones b zero = 0
ones b (suc n) = ones b n + bit (b n)

-- the ends of edge g are below n
pub record Within (n : ℕ) (es : List (List ℕ)) (g : ℕ) : Type 0 where
  pub a : get_or (get_or es g []) 0 0 < n
  pub b : get_or (get_or es g []) 1 0 < n

-- n vertices and so many edges: they fit, and each edge's ends are vertices
pub record Fine (n edges : ℕ) (es : List (List ℕ)) : Type 0 where
  pub vertices : n ≤ 64
  pub fits : edges ≤ 128
  pub within : (g : ℕ) → g < edges → Within n es g

-- nothing is reached yet
pub record Fresh (s : Scan) : Type 0 where
  pub len : length s.words ≡ 256
  pub small : (i : ℕ) → i < 128 → get_or s.words i 0 < 64
  pub nothing : (q : ℕ) → reached_yet s q ≡ false
  pub zero : s.count ≡ 0

-- the count is that of the vertices reached, all of them below n; order and parents are vertices
pub record Ok (n : ℕ) (s : Scan) : Type 0 where
  pub len : length s.words ≡ 256
  pub small : (i : ℕ) → i < 128 → get_or s.words i 0 < 64
  pub full : ones (reached_yet s) 64 ≡ s.count
  pub low : (q : ℕ) → reached_yet s q ≡ true → q < n

-- whether the ends of edge g are below n
unfoldable pub ends_below : ℕ → List (List ℕ) → ℕ → Bool
ends_below n es g = ltb (get_or (get_or es g []) 0 0) n && ltb (get_or (get_or es g []) 1 0) n

-- whether a graph can be walked: it fits, each edge has a state, and each edge's ends are vertices
unfoldable pub walkable : List (List ℕ) → List ℕ → ℕ → ℕ → Bool
walkable es st edges vertices =
    pick (ltb 64 vertices) false (pick (ltb 128 edges) false (pick (ltb (length st) edges) false (every (ends_below vertices es) edges)))
