-- The plan that `new` builds from numbers that no refusal applies to: document 01's Plan section, laid out in words.
use Rattle.std.specs.Prelude.{Bool, List, [], ◌∷◌, ℕ, pred, ◌+◌, ◌*◌, ◌%◌, min, eqb, ℤ, get_or, set, replicate}
use Rattle.base.specs.Iter.{iter, pick}
use Rattle.base.specs.Lists.{filled}
use Rattle.base.specs.Range.{to_nat}
use Rattle.plan.specs.Words.{built_mark}
use Rattle.builder.specs.Input.{weight_at, len_at, size_at, lit_at, edge_lit_at, left_at, right_at, refusal}
use Rattle.builder.specs.Index.{Indexing, indexed}

-- 1 for an option that is on, 0 for one that is off
abbrev pub flag : Bool → ℕ
flag b = pick b 1 0

-- rows of 32 words: the first `count v` of row v
unfoldable pub rows : ℕ → (ℕ → ℕ) → (ℕ → ℕ → ℕ) → ℕ → List ℕ → List ℕ
rows from count f n l = iter (λ v l. filled (from + 32 * v) (count v) (f v) l) n l

-- counts and options
unfoldable pub header : ℕ → ℕ → Bool → Bool → ℕ → ℕ
header n m sameSize extraWalls i = pick (eqb i 0) n (pick (eqb i 1) m (pick (eqb i 2) (flag sameSize) (flag extraWalls)))

-- counts, options, weights, domains and literals as they were given
unfoldable pub given : List ℤ → ℕ → List ℤ → ℕ → Bool → Bool → List ℕ
given vs n es m sameSize extraWalls =
    filled 4232 m (λ g. to_nat (edge_lit_at es g))
    (rows 2184 (λ v. pred (len_at vs v)) (λ v j. to_nat (lit_at vs v j)) n
    (rows 136 (len_at vs) (λ v j. to_nat (size_at vs v j)) n
    (filled 72 n (len_at vs)
    (filled 8 n (λ v. to_nat (weight_at vs v))
    (filled 0 4 (header n m sameSize extraWalls)
    (replicate 15241 0))))))

-- the index's words: the occurrences of the last variable end where all do
unfoldable pub closed : Indexing → List ℕ
closed a = set a.filing.words (6528 + a.count) a.filing.filed

-- and how many distinct variables and slots it has, with the mark of a plan that was built
unfoldable pub totals : Indexing → ℕ → ℕ
totals a i = pick (eqb i 0) a.count (pick (eqb i 1) a.filing.filed built_mark)

unfoldable pub with_index : List ℕ → List ℕ
with_index ws = filled 4360 10881 (λ i. get_or (closed (indexed ws)) i 0) (filled 4 3 (totals (indexed ws)) ws)

-- the plan's words; where the building is refused all are 0, the mark with them
unfoldable pub plan_words : List ℤ → ℕ → List ℤ → ℕ → Bool → Bool → List ℕ
plan_words vs n es m sameSize extraWalls =
    pick (eqb (refusal vs n es m) 0) (with_index (given vs n es m sameSize extraWalls)) (replicate 15241 0)

-- "held as an array of pairs of pen numbers": the edge table, with 0 0 past the last edge. An end is the number given modulo
-- 256, which is that number wherever it is a vertex.
unfoldable pub edge_step : List ℤ → ℕ → List (List ℕ) → List (List ℕ)
edge_step es g t = set t g (to_nat (left_at es g) % 256 ∷ to_nat (right_at es g) % 256 ∷ [])

unfoldable pub edge_table : List ℤ → ℕ → List (List ℕ)
edge_table es m = iter (edge_step es) (min m 128) (replicate 128 (0 ∷ 0 ∷ []))
