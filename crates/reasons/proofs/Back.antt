-- A reason's words read back as the reason, and as what it stands for.
use mathlib.Core.Path.{◌≡◌, refl, sym, ◌∙◌, ap, ap₂, subst}
use mathlib.Core.Logic.{◌≢◌}
use mathlib.Core.Bool.{Bool, true, false, not}
use mathlib.Core.List.{List, [], ◌∷◌}
use Prim.Native.Nat.{ℕ, ◌+◌, ◌*◌, ◌/◌, ◌%◌, ◌<◌, ◌≤◌}
use native.Mathlib.Omega.{arith}
use mir.Val.{bool_byte}
use lib.Dec.{eqb}
use borrow.Author.Tests.{eq-eqb, ne_eqb, eqb-false}
use Rattle.base.specs.Iter.{pick}
use Rattle.base.proofs.Loop.{pick_yes, pick_no, tested}
use Rattle.sat.specs.declared.Lit.{Lit}
use Rattle.division.specs.Reasons as abstract
use Rattle.std.specs.Prelude.{Option, None, Some}
use Rattle.noting.specs.Words.{lits_of}
use Rattle.reasons.specs.Words.{packed, packed_lits, lit_word, bit, first_word, second_word}
use Rattle.reasons.specs.Reason.{opt_of, opt_word, lits_in, opt_in, Held, kind_of, byte1, byte2, byte3, half, quarter0, quarter1, quarter2, quarter3, later_reason, reason_of, first_word_of, second_word_of, meaning, InRange, OneLit, Fits, coded}
use Rattle.reasons.specs.declared.reason.Reason.{Reason}
use Rattle.reasons.specs.declared.reason.Reason.TheVariants.{NotPropagated, EdgeInSameGroup, EdgeBetweenDifferentGroups, TooLargeIfRegionsAreMerged, RegionAlreadyLarge, RegionAlreadySmall, InconsistentBoundsIfRegionsAreMerged, BoundPropagationWithinRegion, AdjacentSameSizeRegions}

-- a bool as a number
pub bool_bit : (b : Bool) → bool_byte b ≡ bit b
unfolding bit pick
bool_bit true = refl
bool_bit false = refl

-- ---- the parts of a word
record Parts (w k a b c x : ℕ) : Type 0 where
  kind : kind_of w ≡ k
  one : byte1 w ≡ a
  two : byte2 w ≡ b
  three : byte3 w ≡ c
  half : half w ≡ x

module _ (k a b c x : ℕ) (hk : k < 256) (ha : a < 256) (hb : b < 256) (hc : c < 256) (hx : x < 65536) where
  sum_is : packed k a b c x ≡ k + 256 * a + 65536 * b + 16777216 * c + 4294967296 * x
  unfolding packed
  sum_is =
      let p : a % 256 ≡ a = omega arith in
      let q : b % 256 ≡ b = omega arith in
      let r : c % 256 ≡ c = omega arith in
      let s : x % 65536 ≡ x = omega arith in
      omega arith

  kind_is : kind_of (packed k a b c x) ≡ k
  kind_is = ap kind_of sum_is ∙ omega arith

  byte1_is : byte1 (packed k a b c x) ≡ a
  byte1_is =
      let w : ℕ = k + 256 * a + 65536 * b + 16777216 * c + 4294967296 * x in
      let q : w / 256 ≡ a + 256 * b + 65536 * c + 16777216 * x = omega arith in
      let r : (a + 256 * b + 65536 * c + 16777216 * x) % 256 ≡ a = omega arith in
      ap byte1 sum_is ∙ ap (λ (m : ℕ). m % 256) q ∙ r

  byte2_is : byte2 (packed k a b c x) ≡ b
  byte2_is =
      let w : ℕ = k + 256 * a + 65536 * b + 16777216 * c + 4294967296 * x in
      let q : w / 65536 ≡ b + 256 * c + 65536 * x = omega arith in
      let r : (b + 256 * c + 65536 * x) % 256 ≡ b = omega arith in
      ap byte2 sum_is ∙ ap (λ (m : ℕ). m % 256) q ∙ r

  byte3_is : byte3 (packed k a b c x) ≡ c
  byte3_is =
      let w : ℕ = k + 256 * a + 65536 * b + 16777216 * c + 4294967296 * x in
      let q : w / 16777216 ≡ c + 256 * x = omega arith in
      let r : (c + 256 * x) % 256 ≡ c = omega arith in
      ap byte3 sum_is ∙ ap (λ (m : ℕ). m % 256) q ∙ r

  half_is : half (packed k a b c x) ≡ x
  half_is =
      let w : ℕ = k + 256 * a + 65536 * b + 16777216 * c + 4294967296 * x in
      let q : w / 4294967296 ≡ x = omega arith in
      let r : x % 65536 ≡ x = omega arith in
      ap half sum_is ∙ ap (λ (m : ℕ). m % 65536) q ∙ r

  parts : Parts (packed k a b c x) k a b c x
  parts = record { kind = kind_is; one = byte1_is; two = byte2_is; three = byte3_is; half = half_is }

module _ (a b c d : ℕ) (ha : a < 65536) (hb : b < 65536) (hc : c < 65536) (hd : d < 65536) where
  lits_is : packed_lits a b c d ≡ a + 65536 * b + 4294967296 * c + 281474976710656 * d
  unfolding packed_lits
  lits_is =
      let p : a % 65536 ≡ a = omega arith in
      let q : b % 65536 ≡ b = omega arith in
      let r : c % 65536 ≡ c = omega arith in
      let s : d % 65536 ≡ d = omega arith in
      omega arith

  quarter0_is : quarter0 (packed_lits a b c d) ≡ a
  quarter0_is = ap quarter0 lits_is ∙ omega arith

  quarter1_is : quarter1 (packed_lits a b c d) ≡ b
  quarter1_is =
      let w : ℕ = a + 65536 * b + 4294967296 * c + 281474976710656 * d in
      let q : w / 65536 ≡ b + 65536 * c + 4294967296 * d = omega arith in
      let r : (b + 65536 * c + 4294967296 * d) % 65536 ≡ b = omega arith in
      ap quarter1 lits_is ∙ ap (λ (m : ℕ). m % 65536) q ∙ r

  quarter2_is : quarter2 (packed_lits a b c d) ≡ c
  quarter2_is =
      let w : ℕ = a + 65536 * b + 4294967296 * c + 281474976710656 * d in
      let q : w / 4294967296 ≡ c + 65536 * d = omega arith in
      let r : (c + 65536 * d) % 65536 ≡ c = omega arith in
      ap quarter2 lits_is ∙ ap (λ (m : ℕ). m % 65536) q ∙ r

  quarter3_is : quarter3 (packed_lits a b c d) ≡ d
  quarter3_is =
      let w : ℕ = a + 65536 * b + 4294967296 * c + 281474976710656 * d in
      let q : w / 281474976710656 ≡ d = omega arith in
      let r : d % 65536 ≡ d = omega arith in
      ap quarter3 lits_is ∙ ap (λ (m : ℕ). m % 65536) q ∙ r

-- ---- the reason of a word of each kind
module _ (x y : ℕ) where
  kind_1 : kind_of x ≡ 1 → reason_of x y ≡ EdgeInSameGroup (byte1 x)
  unfolding reason_of pick
  kind_1 e = rw e

  kind_2 : kind_of x ≡ 2 → reason_of x y ≡ EdgeBetweenDifferentGroups (byte1 x) (byte2 x) (not (eqb (byte3 x) 0))
  unfolding reason_of pick
  kind_2 e = rw e

  kind_3 : kind_of x ≡ 3 → reason_of x y ≡ TooLargeIfRegionsAreMerged (byte1 x) (opt_of (half x))
  unfolding reason_of pick
  kind_3 e = rw e

  kind_4 : kind_of x ≡ 4 → reason_of x y ≡ RegionAlreadyLarge (byte1 x)
  unfolding reason_of pick
  kind_4 e = rw e

  kind_5 : kind_of x ≡ 5 → reason_of x y ≡ RegionAlreadySmall (byte1 x)
  unfolding reason_of pick
  kind_5 e = rw e

  kind_6 : kind_of x ≡ 6 → reason_of x y ≡ InconsistentBoundsIfRegionsAreMerged (byte1 x) (byte2 x) (byte3 x) (not (eqb (half x) 0))
  unfolding reason_of later_reason pick
  kind_6 e = rw e

  kind_7 : kind_of x ≡ 7 → reason_of x y ≡ BoundPropagationWithinRegion (opt_of (half x)) (byte1 x) (byte2 x)
  unfolding reason_of later_reason pick
  kind_7 e = rw e

  kind_8 : kind_of x ≡ 8 → reason_of x y ≡ AdjacentSameSizeRegions (byte1 x) (opt_of (quarter0 y)) (opt_of (quarter1 y)) (byte2 x) (opt_of (quarter2 y)) (opt_of (quarter3 y)) (byte3 x)
  unfolding reason_of later_reason pick
  kind_8 e = rw e

bit_back : (b : Bool) → not (eqb (bit b) 0) ≡ b
unfolding bit pick
bit_back true = refl
bit_back false = refl

bit_small : (b : Bool) → bit b < 256
unfolding bit pick
bit_small true = omega arith
bit_small false = omega arith

-- a bound's literal, stored and read
opt_small : (o : Option Lit) → Held o → opt_word o < 65536
unfolding opt_word
opt_small (Some l) h = omega (arith, h)
opt_small None h = omega arith

opt_back : (o : Option Lit) → Held o → opt_of (opt_word o) ≡ o
unfolding opt_of opt_word
opt_back (Some l) h = pick_no _ _ (ne_eqb l.0 65535 (λ (e : l.0 ≡ 65535). omega (arith, h)))
opt_back None h = pick_yes _ _ (eq-eqb 65535 65535 refl)

-- the same, from what was read
opt_read : (o : Option Lit) (n : ℕ) → Held o → n ≡ opt_word o → opt_of n ≡ o
opt_read o n h e = ap opt_of e ∙ opt_back o h

none_back : reason_of 0 0 ≡ NotPropagated
unfolding reason_of later_reason pick
none_back = refl

-- a code's reason, stored and read
pub reason_back : (r : Reason) → InRange r → reason_of (first_word_of r) (second_word_of r) ≡ r
unfolding first_word_of second_word_of
reason_back NotPropagated h = none_back
reason_back (EdgeInSameGroup g) h =
    let p = parts 1 g 0 0 0 (omega arith) h (omega arith) (omega arith) (omega arith) in
    kind_1 _ 0 p.kind ∙ ap EdgeInSameGroup p.one
reason_back (EdgeBetweenDifferentGroups h g flip) (m, n) =
    let p = parts 2 h g (bit flip) 0 (omega arith) m n (bit_small flip) (omega arith) in
    let f = ap (λ (i : ℕ). not (eqb i 0)) p.three ∙ bit_back flip in
    kind_2 _ 0 p.kind ∙ cc
reason_back (TooLargeIfRegionsAreMerged g l) (m, n) =
    let p = parts 3 g 0 0 (opt_word l) (omega arith) m (omega arith) (omega arith) (opt_small l n) in
    kind_3 _ 0 p.kind ∙ ap₂ TooLargeIfRegionsAreMerged p.one (opt_read l _ n p.half)
reason_back (RegionAlreadyLarge v) h =
    let p = parts 4 v 0 0 0 (omega arith) h (omega arith) (omega arith) (omega arith) in
    kind_4 _ 0 p.kind ∙ ap RegionAlreadyLarge p.one
reason_back (RegionAlreadySmall v) h =
    let p = parts 5 v 0 0 0 (omega arith) h (omega arith) (omega arith) (omega arith) in
    kind_5 _ 0 p.kind ∙ ap RegionAlreadySmall p.one
reason_back (InconsistentBoundsIfRegionsAreMerged g a b flip) (m, n, o) =
    let p = parts 6 g a b (bit flip) (omega arith) m n o (omega (arith, bit_small flip)) in
    let f = ap (λ (i : ℕ). not (eqb i 0)) p.half ∙ bit_back flip in
    kind_6 _ 0 p.kind ∙ cc
reason_back (BoundPropagationWithinRegion l k u) (m, n, o) =
    let p = parts 7 k u 0 (opt_word l) (omega arith) n o (omega arith) (opt_small l m) in
    let e = opt_read l _ m p.half in
    kind_7 _ 0 p.kind ∙ cc
reason_back (AdjacentSameSizeRegions a la ua b lb ub u) (m, n, o, hla, hua, hlb, hub) =
    let p = parts 8 a b u 0 (omega arith) m n o (omega arith) in
    let q0 = opt_read la _ hla (quarter0_is (opt_word la) (opt_word ua) (opt_word lb) (opt_word ub) (opt_small la hla) (opt_small ua hua) (opt_small lb hlb) (opt_small ub hub)) in
    let q1 = opt_read ua _ hua (quarter1_is (opt_word la) (opt_word ua) (opt_word lb) (opt_word ub) (opt_small la hla) (opt_small ua hua) (opt_small lb hlb) (opt_small ub hub)) in
    let q2 = opt_read lb _ hlb (quarter2_is (opt_word la) (opt_word ua) (opt_word lb) (opt_word ub) (opt_small la hla) (opt_small ua hua) (opt_small lb hlb) (opt_small ub hub)) in
    let q3 = opt_read ub _ hub (quarter3_is (opt_word la) (opt_word ua) (opt_word lb) (opt_word ub) (opt_small la hla) (opt_small ua hua) (opt_small lb hlb) (opt_small ub hub)) in
    kind_8 _ _ p.kind ∙ cc

-- ---- what is meant
lit_back : (ls : List ℕ) → OneLit ls → (lits_in (opt_in ls) ≡ ls) × Held (opt_in ls)
unfolding lits_of lits_in opt_in
lit_back ls o = subst (λ (m : List ℕ). (lits_in (opt_in m) ≡ m) × Held (opt_in m)) (sym o.is) (tested (eqb o.lit 65535)
    (λ e. subst (λ (m : List ℕ). (lits_in (opt_in m) ≡ m) × Held (opt_in m)) (sym (pick_yes _ _ e)) (refl, tt))
    (λ e. subst (λ (m : List ℕ). (lits_in (opt_in m) ≡ m) × Held (opt_in m)) (sym (pick_no _ _ e)) (refl, omega (arith, o.small, eqb-false o.lit 65535 e))))

word_in : (ls : List ℕ) → lit_word ls ≡ opt_word (opt_in ls)
unfolding lit_word opt_word opt_in
word_in [] = refl
word_in (l ∷ ls) = refl

coded_first : (r : abstract.Reason) → first_word r ≡ first_word_of (coded r)
unfolding first_word first_word_of coded
coded_first (abstract.edge_in_same_group g) = refl
coded_first (abstract.edge_between_different_groups h g flip) = refl
coded_first (abstract.too_large_if_regions_are_merged g ls) = ap (packed 3 g 0 0) (word_in ls)
coded_first (abstract.region_already_large v) = refl
coded_first (abstract.region_already_small v) = refl
coded_first (abstract.inconsistent_bounds_if_regions_are_merged g a b flip) = refl
coded_first (abstract.bound_propagation_within_region k u ls) = ap (packed 7 k u 0) (word_in ls)
coded_first (abstract.adjacent_same_size_regions a la ua b lb ub u) = refl

coded_second : (r : abstract.Reason) → second_word r ≡ second_word_of (coded r)
unfolding second_word second_word_of coded
coded_second (abstract.edge_in_same_group g) = refl
coded_second (abstract.edge_between_different_groups h g flip) = refl
coded_second (abstract.too_large_if_regions_are_merged g ls) = refl
coded_second (abstract.region_already_large v) = refl
coded_second (abstract.region_already_small v) = refl
coded_second (abstract.inconsistent_bounds_if_regions_are_merged g a b flip) = refl
coded_second (abstract.bound_propagation_within_region k u ls) = refl
coded_second (abstract.adjacent_same_size_regions a la ua b lb ub u) =
    let e₁ = word_in la in
    let e₂ = word_in ua in
    let e₃ = word_in lb in
    let e₄ = word_in ub in
    cc

coded_range : (r : abstract.Reason) → Fits r → InRange (coded r)
unfolding coded
coded_range (abstract.edge_in_same_group g) h = h
coded_range (abstract.edge_between_different_groups h g flip) k = k
coded_range (abstract.too_large_if_regions_are_merged g ls) (h, o) = (h, (lit_back ls o).1)
coded_range (abstract.region_already_large v) h = h
coded_range (abstract.region_already_small v) h = h
coded_range (abstract.inconsistent_bounds_if_regions_are_merged g a b flip) h = h
coded_range (abstract.bound_propagation_within_region k u ls) (h, i, o) = ((lit_back ls o).1, h, i)
coded_range (abstract.adjacent_same_size_regions a la ua b lb ub u) (h, i, j, la₁, ua₁, lb₁, ub₁) = (h, i, j, (lit_back la la₁).1, (lit_back ua ua₁).1, (lit_back lb lb₁).1, (lit_back ub ub₁).1)

-- the code's reason means the one that it is for
pub coded_means : (r : abstract.Reason) → Fits r → meaning (coded r) ≡ r ∷ []
unfolding coded meaning
coded_means (abstract.edge_in_same_group g) h = refl
coded_means (abstract.edge_between_different_groups h g flip) k = refl
coded_means (abstract.too_large_if_regions_are_merged g ls) (h, o) = ap (λ (l : List ℕ). abstract.too_large_if_regions_are_merged g l ∷ []) (lit_back ls o).0
coded_means (abstract.region_already_large v) h = refl
coded_means (abstract.region_already_small v) h = refl
coded_means (abstract.inconsistent_bounds_if_regions_are_merged g a b flip) h = refl
coded_means (abstract.bound_propagation_within_region k u ls) (h, i, o) = ap (λ (l : List ℕ). abstract.bound_propagation_within_region k u l ∷ []) (lit_back ls o).0
coded_means (abstract.adjacent_same_size_regions a la ua b lb ub u) (h, i, j, la₁, ua₁, lb₁, ub₁) =
    let e₁ = (lit_back la la₁).0 in
    let e₂ = (lit_back ua ua₁).0 in
    let e₃ = (lit_back lb lb₁).0 in
    let e₄ = (lit_back ub ub₁).0 in
    cc

-- the words of a reason whose numbers fit read as the code's reason for it
pub coded_back : (r : abstract.Reason) → Fits r → reason_of (first_word r) (second_word r) ≡ coded r
coded_back r f = ap₂ reason_of (coded_first r) (coded_second r) ∙ reason_back (coded r) (coded_range r f)

-- and so mean it
pub meaning_back : (r : abstract.Reason) → Fits r → meaning (reason_of (first_word r) (second_word r)) ≡ r ∷ []
meaning_back r f = ap meaning (coded_back r f) ∙ coded_means r f

-- ---- a stored reason is never a word 0
kind_of_lem : (k a b c x : ℕ) → k < 256 → kind_of (packed k a b c x) ≡ k
unfolding packed
kind_of_lem k a b c x h = omega arith

pub kind_some : (r : abstract.Reason) → (1 ≤ kind_of (first_word r)) × (kind_of (first_word r) ≤ 8)
unfolding first_word
kind_some (abstract.edge_in_same_group g) = let e = kind_of_lem 1 g 0 0 0 (omega arith) in (omega arith, omega arith)
kind_some (abstract.edge_between_different_groups h g flip) = let e = kind_of_lem 2 h g (bit flip) 0 (omega arith) in (omega arith, omega arith)
kind_some (abstract.too_large_if_regions_are_merged g ls) = let e = kind_of_lem 3 g 0 0 (lit_word ls) (omega arith) in (omega arith, omega arith)
kind_some (abstract.region_already_large v) = let e = kind_of_lem 4 v 0 0 0 (omega arith) in (omega arith, omega arith)
kind_some (abstract.region_already_small v) = let e = kind_of_lem 5 v 0 0 0 (omega arith) in (omega arith, omega arith)
kind_some (abstract.inconsistent_bounds_if_regions_are_merged g a b flip) = let e = kind_of_lem 6 g a b (bit flip) (omega arith) in (omega arith, omega arith)
kind_some (abstract.bound_propagation_within_region k u ls) = let e = kind_of_lem 7 k u 0 (lit_word ls) (omega arith) in (omega arith, omega arith)
kind_some (abstract.adjacent_same_size_regions a la ua b lb ub u) = let e = kind_of_lem 8 a b u 0 (omega arith) in (omega arith, omega arith)

pub first_some : (r : abstract.Reason) → first_word r ≢ 0
first_some r e = let z : kind_of (first_word r) ≡ 0 = ap kind_of e in omega (arith, kind_some r)
