-- A set's bits: one for each member, the lowest for the lowest member.
use Prim.Native.Nat.{ℕ, zero, suc, ◌+◌, ◌-◌, ◌*◌, ◌/◌, ◌%◌, ◌^◌, ◌<◌, ◌≤◌}
use native.Mathlib.Nat.{pow-suc}
use lib.Pow.{pow_mono}
use native.Mathlib.Omega.{arith}
use mathlib.Core.Path.{◌≡◌, refl, sym, ◌∙◌, ap, ap₂}
use mathlib.Core.Bool.{Bool, true, false}
use mir.Val.{bool_byte}
use lib.Count.{count_trailing_zeros, under}
use Rattle.base.specs.Iter.{pick}
use Rattle.base.proofs.Loop.{pick_yes, pick_no}
use Rattle.pages.specs.Sets.{bits}

pub one_le : (b : Bool) → pick {A = ℕ} b 1 0 ≤ 1
unfolding pick
one_le true = omega arith
one_le false = omega arith

-- a test as a number
pub bit_of : (b : Bool) → bool_byte b ≡ pick b 1 0
unfolding pick
bit_of true = refl
bit_of false = refl

module _ (b : ℕ → Bool) where
  pub bits_small : (v k : ℕ) → bits b v k < 2 ^ k
  unfolding bits
  bits_small v zero = omega arith
  bits_small v (suc k) =
      let h = bits_small (suc v) k in
      let o = one_le (b v) in
      let p : 2 ^ suc k ≡ 2 ^ k * 2 = pow-suc 2 k in
      omega arith

  pub bits_more : (v k : ℕ) → bits b v (suc k) ≡ pick (b v) 1 0 + 2 * bits b (suc v) k
  unfolding bits
  bits_more v k = refl

  pub low_bit : (v k : ℕ) → bits b v (suc k) % 2 ≡ pick (b v) 1 0
  low_bit v k = let o = one_le (b v) in let e = bits_more v k in omega arith

  pub rest_bits : (v k : ℕ) → bits b v (suc k) / 2 ≡ bits b (suc v) k
  rest_bits v k = let o = one_le (b v) in let e = bits_more v k in omega arith

  -- the lowest member is v + i
  pub trailing_lowest : (v k K i : ℕ) → k ≤ K → i < k → b (v + i) ≡ true →
      ((j : ℕ) → j < i → b (v + j) ≡ false) → count_trailing_zeros K (bits b v k) ≡ i
  unfolding count_trailing_zeros
  trailing_lowest v zero K i h l t n = absurd (omega arith)
  trailing_lowest v (suc k) zero i h l t n = absurd (omega arith)
  trailing_lowest v (suc k) (suc K) zero h l t n =
      let z : v + 0 ≡ v = omega arith in
      ap (λ (x : ℕ). under x (count_trailing_zeros K (bits b v (suc k) / 2))) (low_bit v k ∙ pick_yes _ _ (sym (ap b z) ∙ t))
  trailing_lowest v (suc k) (suc K) (suc i) h l t n =
      let z : v + 0 ≡ v = omega arith in
      let y : v + suc i ≡ suc v + i = omega arith in
      ap (λ (x : ℕ). under x (count_trailing_zeros K (bits b v (suc k) / 2)))
      (low_bit v k ∙ pick_no _ _ (sym (ap b z) ∙ n 0 (omega arith)))
      ∙ ap suc (ap (count_trailing_zeros K) (rest_bits v k)
      ∙ trailing_lowest (suc v) k K i (omega arith) (omega arith) (sym (ap b y) ∙ t)
      (λ j m. let x : v + suc j ≡ suc v + j = omega arith in sym (ap b x) ∙ n (suc j) (omega arith)))

  -- ---- the loop, from the highest vertex down
  pub record Down (n set v : ℕ) : Type 0 where
    pub below : v ≤ n
    pub is : set ≡ bits b v (n - v)

  pub down_start : (n : ℕ) → Down n 0 n
  unfolding bits
  down_start n = record { below = omega arith; is = let e : 0 ≡ n - n = omega arith in ap (bits b n) e }

  pub down_small : (n set v : ℕ) → n ≤ 64 → 0 < v → Down n set v → set < 9223372036854775808
  down_small n set v h p w =
      let s = bits_small v (n - v) in
      let m : 2 ^ (n - v) ≤ 2 ^ 63 = pow_mono {i = n - v} {j = 63} (omega (arith, w.below)) in
      let x : 2 ^ 63 ≡ 9223372036854775808 = refl in
      omega (arith, w.is)

  pub down_next : (n set v bit : ℕ) → 0 < v → bit ≡ pick (b (v - 1)) 1 0 → Down n set v → Down n (2 * set + bit) (v - 1)
  down_next n set v bit p e w =
      let k = n - v in
      let a : suc (v - 1) ≡ v = omega arith in
      let c : n - (v - 1) ≡ suc (n - v) = omega (arith, w.below) in
      let m = bits_more (v - 1) (n - v) in
      let q : bits b (suc (v - 1)) (n - v) ≡ set = ap (λ (x : ℕ). bits b x (n - v)) a ∙ sym w.is in
      let y : 2 * set + bit ≡ bits b (v - 1) (suc (n - v)) = omega arith in
      record { below = omega (arith, w.below); is = y ∙ ap (bits b (v - 1)) (sym c) }

  pub down_done : (n set v : ℕ) → v ≤ 0 → Down n set v → set ≡ bits b 0 n
  down_done n set v h w =
      let z : v ≡ 0 = omega arith in
      let y : n - v ≡ n = omega arith in
      w.is ∙ ap₂ (bits b) z y
