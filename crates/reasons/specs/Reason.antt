-- The Rust's `Reason`, read from its two words, and what it stands for.
use Rattle.std.specs.Prelude.{not, List, [], ◌∷◌, ◌≡◌, ℕ, ◌/◌, ◌%◌, ◌<◌, ◌≤◌, eqb, Option, None, Some}
use Rattle.base.specs.Iter.{pick}
use Rattle.sat.specs.declared.Lit.{Lit}
use Rattle.division.specs.Reasons as abstract
use Rattle.noting.specs.Words.{lits_of}
use Rattle.reasons.specs.Words.{packed, packed_lits, bit}
use Rattle.reasons.specs.declared.reason.Reason.{Reason}
use Rattle.reasons.specs.declared.reason.Reason.TheVariants.{NotPropagated, EdgeInSameGroup, EdgeBetweenDifferentGroups, TooLargeIfRegionsAreMerged, RegionAlreadyLarge, RegionAlreadySmall, InconsistentBoundsIfRegionsAreMerged, BoundPropagationWithinRegion, AdjacentSameSizeRegions}

-- the parts of a first word: the kind, three bytes, and two bytes
abbrev pub kind_of : ℕ → ℕ
kind_of w = w % 256

abbrev pub byte1 : ℕ → ℕ
byte1 w = w / 256 % 256

abbrev pub byte2 : ℕ → ℕ
byte2 w = w / 65536 % 256

abbrev pub byte3 : ℕ → ℕ
byte3 w = w / 16777216 % 256

abbrev pub half : ℕ → ℕ
half w = w / 4294967296 % 65536

-- the four parts of a second word
abbrev pub quarter0 : ℕ → ℕ
quarter0 w = w % 65536

abbrev pub quarter1 : ℕ → ℕ
quarter1 w = w / 65536 % 65536

abbrev pub quarter2 : ℕ → ℕ
quarter2 w = w / 4294967296 % 65536

abbrev pub quarter3 : ℕ → ℕ
quarter3 w = w / 281474976710656 % 65536

-- the literal of a bound, if it is due to one: in two bytes 65535 is none
unfoldable pub opt_of : ℕ → Option Lit
opt_of n = pick (eqb n 65535) None (Some (record { 0 = n }))

unfoldable pub opt_word : Option Lit → ℕ
opt_word (Some l) = l.0
opt_word None = 65535

-- and as a list of at most one
unfoldable pub lits_in : Option Lit → List ℕ
lits_in (Some l) = l.0 ∷ []
lits_in None = []

unfoldable pub opt_in : List ℕ → Option Lit
opt_in [] = None
opt_in (l ∷ ls) = Some (record { 0 = l })

unfoldable pub later_reason : ℕ → ℕ → ℕ → Reason
later_reason kind x y =
    pick (eqb kind 6) (InconsistentBoundsIfRegionsAreMerged (byte1 x) (byte2 x) (byte3 x) (not (eqb (half x) 0)))
    (pick (eqb kind 7) (BoundPropagationWithinRegion (opt_of (half x)) (byte1 x) (byte2 x))
    (pick (eqb kind 8) (AdjacentSameSizeRegions (byte1 x) (opt_of (quarter0 y)) (opt_of (quarter1 y)) (byte2 x) (opt_of (quarter2 y)) (opt_of (quarter3 y)) (byte3 x))
    NotPropagated))

-- the reason of two words
unfoldable pub reason_of : ℕ → ℕ → Reason
reason_of x y =
    pick (eqb (kind_of x) 1) (EdgeInSameGroup (byte1 x))
    (pick (eqb (kind_of x) 2) (EdgeBetweenDifferentGroups (byte1 x) (byte2 x) (not (eqb (byte3 x) 0)))
    (pick (eqb (kind_of x) 3) (TooLargeIfRegionsAreMerged (byte1 x) (opt_of (half x)))
    (pick (eqb (kind_of x) 4) (RegionAlreadyLarge (byte1 x))
    (pick (eqb (kind_of x) 5) (RegionAlreadySmall (byte1 x))
    (later_reason (kind_of x) x y)))))

-- and back: the first word
unfoldable pub first_word_of : Reason → ℕ
first_word_of NotPropagated = 0
first_word_of (EdgeInSameGroup g) = packed 1 g 0 0 0
first_word_of (EdgeBetweenDifferentGroups h g flip) = packed 2 h g (bit flip) 0
first_word_of (TooLargeIfRegionsAreMerged g l) = packed 3 g 0 0 (opt_word l)
first_word_of (RegionAlreadyLarge v) = packed 4 v 0 0 0
first_word_of (RegionAlreadySmall v) = packed 5 v 0 0 0
first_word_of (InconsistentBoundsIfRegionsAreMerged g a b flip) = packed 6 g a b (bit flip)
first_word_of (BoundPropagationWithinRegion l k u) = packed 7 k u 0 (opt_word l)
first_word_of (AdjacentSameSizeRegions a la ua b lb ub u) = packed 8 a b u 0

-- the second
unfoldable pub second_word_of : Reason → ℕ
second_word_of NotPropagated = 0
second_word_of (EdgeInSameGroup g) = 0
second_word_of (EdgeBetweenDifferentGroups h g flip) = 0
second_word_of (TooLargeIfRegionsAreMerged g l) = 0
second_word_of (RegionAlreadyLarge v) = 0
second_word_of (RegionAlreadySmall v) = 0
second_word_of (InconsistentBoundsIfRegionsAreMerged g a b flip) = 0
second_word_of (BoundPropagationWithinRegion l k u) = 0
second_word_of (AdjacentSameSizeRegions a la ua b lb ub u) = packed_lits (opt_word la) (opt_word ua) (opt_word lb) (opt_word ub)

-- the reason that is meant, none for `NotPropagated`
unfoldable pub meaning : Reason → List abstract.Reason
meaning NotPropagated = []
meaning (EdgeInSameGroup g) = abstract.edge_in_same_group g ∷ []
meaning (EdgeBetweenDifferentGroups h g flip) = abstract.edge_between_different_groups h g flip ∷ []
meaning (TooLargeIfRegionsAreMerged g l) = abstract.too_large_if_regions_are_merged g (lits_in l) ∷ []
meaning (RegionAlreadyLarge v) = abstract.region_already_large v ∷ []
meaning (RegionAlreadySmall v) = abstract.region_already_small v ∷ []
meaning (InconsistentBoundsIfRegionsAreMerged g a b flip) = abstract.inconsistent_bounds_if_regions_are_merged g a b flip ∷ []
meaning (BoundPropagationWithinRegion l k u) = abstract.bound_propagation_within_region k u (lits_in l) ∷ []
meaning (AdjacentSameSizeRegions a la ua b lb ub u) = abstract.adjacent_same_size_regions a (lits_in la) (lits_in ua) b (lits_in lb) (lits_in ub) u ∷ []

-- a literal that two bytes hold
abbrev pub Held : Option Lit → Type 0
Held (Some l) = l.0 < 65535
Held None = Unit {0}

-- each number fits its part of the words
abbrev pub InRange : Reason → Type 0
InRange NotPropagated = Unit {0}
InRange (EdgeInSameGroup g) = g < 256
InRange (EdgeBetweenDifferentGroups h g flip) = (h < 256) × (g < 256)
InRange (TooLargeIfRegionsAreMerged g l) = (g < 256) × Held l
InRange (RegionAlreadyLarge v) = v < 256
InRange (RegionAlreadySmall v) = v < 256
InRange (InconsistentBoundsIfRegionsAreMerged g a b flip) = (g < 256) × (a < 256) × (b < 256)
InRange (BoundPropagationWithinRegion l k u) = Held l × (k < 256) × (u < 256)
InRange (AdjacentSameSizeRegions a la ua b lb ub u) = (a < 256) × (b < 256) × (u < 256) × Held la × Held ua × Held lb × Held ub

-- a bound's literal as a number that two bytes hold
pub record OneLit (ls : List ℕ) : Type 0 where
  pub lit : ℕ
  pub small : lit ≤ 65535
  pub is : ls ≡ lits_of lit

-- a reason whose numbers fit its words
abbrev pub Fits : abstract.Reason → Type 0
Fits (abstract.edge_in_same_group g) = g < 256
Fits (abstract.edge_between_different_groups h g flip) = (h < 256) × (g < 256)
Fits (abstract.too_large_if_regions_are_merged g ls) = (g < 256) × OneLit ls
Fits (abstract.region_already_large v) = v < 256
Fits (abstract.region_already_small v) = v < 256
Fits (abstract.inconsistent_bounds_if_regions_are_merged g a b flip) = (g < 256) × (a < 256) × (b < 256)
Fits (abstract.bound_propagation_within_region k u ls) = (k < 256) × (u < 256) × OneLit ls
Fits (abstract.adjacent_same_size_regions a la ua b lb ub u) = (a < 256) × (b < 256) × (u < 256) × OneLit la × OneLit ua × OneLit lb × OneLit ub

-- the code's reason for one that is meant
unfoldable pub coded : abstract.Reason → Reason
coded (abstract.edge_in_same_group g) = EdgeInSameGroup g
coded (abstract.edge_between_different_groups h g flip) = EdgeBetweenDifferentGroups h g flip
coded (abstract.too_large_if_regions_are_merged g ls) = TooLargeIfRegionsAreMerged g (opt_in ls)
coded (abstract.region_already_large v) = RegionAlreadyLarge v
coded (abstract.region_already_small v) = RegionAlreadySmall v
coded (abstract.inconsistent_bounds_if_regions_are_merged g a b flip) = InconsistentBoundsIfRegionsAreMerged g a b flip
coded (abstract.bound_propagation_within_region k u ls) = BoundPropagationWithinRegion (opt_in ls) k u
coded (abstract.adjacent_same_size_regions a la ua b lb ub u) = AdjacentSameSizeRegions a (opt_in la) (opt_in ua) b (opt_in lb) (opt_in ub) u
