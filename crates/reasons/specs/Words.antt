-- A reason as two words, so that an analysis can store what it proposes in a lent array: the kind and up to three numbers a
-- byte each and one of four bytes in the first, the four literals of the longest reason in the second.
use Rattle.std.specs.Prelude.{Bool, ◌&&◌, List, [], ◌∷◌, ℕ, ◌+◌, ◌*◌, ◌/◌, ◌%◌, ◌^◌, eqb, ltb, length, get_or, set}
use Rattle.std.specs.Int.Bits.{bit_or}
use Rattle.base.specs.Iter.{pick}
use Rattle.division.specs.Reasons.{Reason, edge_in_same_group, edge_between_different_groups, too_large_if_regions_are_merged, region_already_large, region_already_small, inconsistent_bounds_if_regions_are_merged, bound_propagation_within_region, adjacent_same_size_regions}
use Rattle.division.specs.Analysis.{Proposal}

-- what does not fit is cut off: a number to its lowest byte, x to its lowest two
unfoldable pub packed : ℕ → ℕ → ℕ → ℕ → ℕ → ℕ
packed kind a b c x = kind + 256 * (a % 256) + 65536 * (b % 256) + 16777216 * (c % 256) + 4294967296 * (x % 65536)

unfoldable pub packed_lits : ℕ → ℕ → ℕ → ℕ → ℕ
packed_lits a b c d = a % 65536 + 65536 * (b % 65536) + 4294967296 * (c % 65536) + 281474976710656 * (d % 65536)

-- a bound's literal, 65535 for none
unfoldable pub lit_word : List ℕ → ℕ
lit_word [] = 65535
lit_word (l ∷ ls) = l

unfoldable pub bit : Bool → ℕ
bit b = pick b 1 0

-- the first word: its kind is 0 for no reason
unfoldable pub first_word : Reason → ℕ
first_word (edge_in_same_group g) = packed 1 g 0 0 0
first_word (edge_between_different_groups h g flip) = packed 2 h g (bit flip) 0
first_word (too_large_if_regions_are_merged g ls) = packed 3 g 0 0 (lit_word ls)
first_word (region_already_large v) = packed 4 v 0 0 0
first_word (region_already_small v) = packed 5 v 0 0 0
first_word (inconsistent_bounds_if_regions_are_merged g a b flip) = packed 6 g a b (bit flip)
first_word (bound_propagation_within_region k u ls) = packed 7 k u 0 (lit_word ls)
first_word (adjacent_same_size_regions a la ua b lb ub u) = packed 8 a b u 0

-- the second
unfoldable pub second_word : Reason → ℕ
second_word (edge_in_same_group g) = 0
second_word (edge_between_different_groups h g flip) = 0
second_word (too_large_if_regions_are_merged g ls) = 0
second_word (region_already_large v) = 0
second_word (region_already_small v) = 0
second_word (inconsistent_bounds_if_regions_are_merged g a b flip) = 0
second_word (bound_propagation_within_region k u ls) = 0
second_word (adjacent_same_size_regions a la ua b lb ub u) = packed_lits (lit_word la) (lit_word ua) (lit_word lb) (lit_word ub)

-- whether bit i of a word is set
unfoldable pub has_bit : ℕ → ℕ → Bool
has_bit w i = eqb (w / 2 ^ i % 2) 1

-- the first 68 words are marks: bit p % 64 of word p / 64 is that of place p
unfoldable pub marked : ℕ → List ℕ → List ℕ
marked p words = set words (p / 64) (bit_or (get_or words (p / 64) 0) (2 ^ (p % 64)))

-- place p is marked and its words are x and y, if there is room for them; all else stays
unfoldable pub put : ℕ → ℕ → ℕ → List ℕ → List ℕ
put p x y words =
    pick (ltb (69 + 2 * p) (length words) && ltb p 4352) (set (set (marked p words) (68 + 2 * p) x) (69 + 2 * p) y) words

-- `register_propagation`, where `lit` is the literal's place among the distinct literals: the newest proposal stands first in
-- the list, and over what was there
unfoldable pub stored : List Proposal → List ℕ → List ℕ
stored [] words = words
stored (p ∷ ps) words = put p.lit (first_word p.why) (second_word p.why) (stored ps words)
