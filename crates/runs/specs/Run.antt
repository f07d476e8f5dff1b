-- Document 02, request 1: "A stockman names two pens and gets the run of gates, open or undecided, that joins them
-- with the fewest undecided ones. Among equals the run with fewer gates wins, then the one whose gate numbers,
-- compared from the first pen on, come first." The graph is that of the edges not disconnected: division's
-- `potential`.
use Rattle.std.specs.Prelude.{ℕ, ◌+◌, ◌<◌, ◌≤◌, ◌≡◌, List, [], ◌∷◌, eqb, length, get_or}
use Rattle.base.specs.Iter.{pick}
use Rattle.graph.specs.Search.{Graph}
use Rattle.graph.specs.Paths.{Leads}

-- the edges of the list, the first one first, lead from p to q
pub data Run (e : Graph) (edges : ℕ) : ℕ → List ℕ → ℕ → Type 0 where
  here : {p : ℕ} → Run e edges p [] p
  along : {p r q : ℕ} {l : List ℕ} (g : ℕ) → Leads e edges g p r → Run e edges r l q → Run e edges p (g ∷ l) q

-- 1 for an undecided edge
unfoldable pub is_undecided : Graph → ℕ → ℕ
is_undecided e g = pick (eqb (get_or e.state g 0) 0) 1 0

-- how many edges of a list are undecided
unfoldable pub undecided : Graph → List ℕ → ℕ
undecided e [] = 0
undecided e (g ∷ l) = is_undecided e g + undecided e l

-- (a, b) is at most (c, d), the first numbers compared first
pub record AtMost (a b c d : ℕ) : Type 0 where
  pub fewer : a ≤ c
  pub then : a ≡ c → b ≤ d

-- edge numbers, compared from the first on
pub data First : List ℕ → List ℕ → Type 0 where
  none : {m : List ℕ} → First [] m
  less : {g h : ℕ} {l m : List ℕ} → g < h → First (g ∷ l) (h ∷ m)
  same : {g : ℕ} {l m : List ℕ} → First l m → First (g ∷ l) (g ∷ m)

pub record Best (e : Graph) (edges p q : ℕ) (l : List ℕ) : Type 0 where
  -- "that joins them"
  pub run : Run e edges p l q
  -- "with the fewest undecided ones. Among equals the run with fewer gates wins"
  pub least : (m : List ℕ) → Run e edges p m q → AtMost (undecided e l) (length l) (undecided e m) (length m)
  -- "then the one whose gate numbers, compared from the first pen on, come first"
  pub first : (m : List ℕ) → Run e edges p m q → undecided e l ≡ undecided e m → length l ≡ length m → First l m
