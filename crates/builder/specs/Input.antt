-- What a plan is built from, as numbers from outside, and document 01's refusals 1 to 6 of it ("Plan", "Verdicts turned away").
use Rattle.std.specs.Prelude.{Bool, not, ◌&&◌, ◌||◌, List, ℕ, pred, ◌+◌, ◌*◌, ◌-◌, ℤ, pos, eqb, ltb, get_or}
use Rattle.std.specs.Int.Signed.{lt_z}
use Rattle.base.specs.Iter.{pick}
use Rattle.base.specs.Lists.{some}
use Rattle.base.specs.Range.{in_range, to_nat}

-- The numbers come in two lists: vs describes n vertices (document 01's pens), es describes m edges (gates).

-- a vertex has 67 numbers: weight, how many sizes its domain has, how many size literals, 32 places for sizes, 32 for literals
abbrev pub weight_at : List ℤ → ℕ → ℤ
weight_at vs v = get_or vs (67 * v) (pos 0)

abbrev pub sizes_at : List ℤ → ℕ → ℤ
sizes_at vs v = get_or vs (67 * v + 1) (pos 0)

abbrev pub lits_at : List ℤ → ℕ → ℤ
lits_at vs v = get_or vs (67 * v + 2) (pos 0)

abbrev pub size_at : List ℤ → ℕ → ℕ → ℤ
size_at vs v j = get_or vs (67 * v + 3 + j) (pos 0)

abbrev pub lit_at : List ℤ → ℕ → ℕ → ℤ
lit_at vs v j = get_or vs (67 * v + 35 + j) (pos 0)

-- an edge has three: its two ends and its literal
abbrev pub left_at : List ℤ → ℕ → ℤ
left_at es g = get_or es (3 * g) (pos 0)

abbrev pub right_at : List ℤ → ℕ → ℤ
right_at es g = get_or es (3 * g + 1) (pos 0)

abbrev pub edge_lit_at : List ℤ → ℕ → ℤ
edge_lit_at es g = get_or es (3 * g + 2) (pos 0)

-- how many sizes a vertex has
abbrev pub len_at : List ℤ → ℕ → ℕ
len_at vs v = to_nat (sizes_at vs v)

-- 1: too many pens, gates or sizes. A count below 0 is no count either.
abbrev pub sizes_outside : List ℤ → ℕ → Bool
sizes_outside vs n = some (λ v. not (in_range (pos 32) (sizes_at vs v))) n

abbrev pub too_many : List ℤ → ℕ → ℕ → Bool
too_many vs n m = ltb 64 n || (ltb 128 m || sizes_outside vs n)

-- 2: weight outside its range
abbrev pub weight_outside : List ℤ → ℕ → Bool
weight_outside vs n = some (λ v. not (in_range (pos 1000000) (weight_at vs v))) n

-- 3: size outside its range, or not rising
unfoldable pub size_wrong : List ℤ → ℕ → ℕ → Bool
size_wrong vs v j = not (in_range (pos 1000000) (size_at vs v j)) || (ltb 0 j && not (lt_z (size_at vs v (j - 1)) (size_at vs v j)))

abbrev pub domain_wrong : List ℤ → ℕ → Bool
domain_wrong vs v = some (size_wrong vs v) (len_at vs v)

abbrev pub sizes_wrong : List ℤ → ℕ → Bool
sizes_wrong vs n = some (domain_wrong vs) n

-- 4: wrong number of size literals: a domain of k sizes, k at least 1, has k - 1; an empty one any number
unfoldable pub lit_count_wrong_at : List ℤ → ℕ → Bool
lit_count_wrong_at vs v = ltb 0 (len_at vs v) && not (in_range (pos 31) (lits_at vs v) && eqb (to_nat (lits_at vs v) + 1) (len_at vs v))

abbrev pub lit_count_wrong : List ℤ → ℕ → Bool
lit_count_wrong vs n = some (lit_count_wrong_at vs) n

-- 5: literal outside its range
abbrev pub size_lit_outside : List ℤ → ℕ → Bool
size_lit_outside vs v = some (λ j. not (in_range (pos 8191) (lit_at vs v j))) (pred (len_at vs v))

abbrev pub edge_lit_outside : List ℤ → ℕ → Bool
edge_lit_outside es m = some (λ g. not (in_range (pos 8191) (edge_lit_at es g))) m

abbrev pub lit_outside : List ℤ → ℕ → List ℤ → ℕ → Bool
lit_outside vs n es m = some (size_lit_outside vs) n || edge_lit_outside es m

-- 6: gate end is no pen
unfoldable pub is_vertex : ℕ → ℤ → Bool
is_vertex n e = in_range (pos 63) e && ltb (to_nat e) n

abbrev pub end_wrong : ℕ → List ℤ → ℕ → Bool
end_wrong n es m = some (λ g. not (is_vertex n (left_at es g) && is_vertex n (right_at es g))) m

-- "Building gives the lowest number that applies"; 0 where none does
unfoldable pub refusal : List ℤ → ℕ → List ℤ → ℕ → ℕ
refusal vs n es m =
    pick (too_many vs n m) 1
    (pick (weight_outside vs n) 2
    (pick (sizes_wrong vs n) 3
    (pick (lit_count_wrong vs n) 4
    (pick (lit_outside vs n es m) 5
    (pick (end_wrong n es m) 6
    0)))))
