-- Numbers with a sign in bytes, as the code comes to them.
use Prim.Native.Nat.{ℕ, zero, suc, ◌-◌, ◌*◌, ◌≤◌, ◌<◌}
use native.Mathlib.Omega.{arith}
use native.Mathlib.Nat.{not-suc-le-zero, le_of_suc-le-suc, zero-add}
use mathlib.Core.Path.{◌≡◌, refl, sym, ap, subst, ◌∙◌}
use mathlib.Core.Bool.{true, false}
use mathlib.Core.List.{List, [], ◌∷◌}
use lib.Dec.{ltb, eqb}
use lib.IntN.{ℤ, pos, negsuc, ◌-ℤ◌}
use lib.ListN.{length, get_or, set, replicate}
use borrow.Author.Tests.{ltb-true, ltb-false, lt-ltb, le-ltb}
use mir.Syntax.{w32}
use mir.Val.{to_z, of_z, SFits}
use mir.Facts.{to_z_pos, to_z-neg}
use Rattle.base.specs.Iter.{iter}
use Rattle.base.proofs.Range.{reads_back}
use Rattle.base.proofs.Loop.{pick_ind, pick_yes, pick_no}
use Rattle.builder.specs.Input.{refusal}
use Rattle.base.specs.Bytes.{word_at}
use Rattle.byte_calls.specs.Host.{build_code, short}
use Rattle.byte_calls.specs.Build.{BuiltIn}
use Rattle.byte_calls.specs.Numbers.{signed_of, int_at, numbers_in}
use Rattle.byte_calls.proofs.Coding.{fitted_neg}

-- 32 bits in two's complement
pub signed_is : (w : ℕ) → w < 4294967296 → to_z w32 w ≡ signed_of w
unfolding signed_of
signed_is w h = pick_ind (λ (z : ℤ). to_z w32 w ≡ z) (ltb w 2147483648) (pos w) (negsuc (4294967295 - w))
    (λ (t : ltb w 2147483648 ≡ true). let k = ltb-true w 2147483648 t in to_z_pos w32 {n = w} (omega arith))
    (λ (t : ltb w 2147483648 ≡ false).
    let k = ltb-false w 2147483648 t in
    let e : w ≡ 4294967296 - suc (4294967295 - w) = omega arith in
    ap (to_z w32) e ∙ to_z-neg w32 (4294967295 - w) (omega arith))

signed_back : (w : ℕ) → to_z w32 (of_z w32 (signed_of w)) ≡ signed_of w
unfolding signed_of
signed_back w = pick_ind (λ (z : ℤ). to_z w32 (of_z w32 z) ≡ z) (ltb w 2147483648) (pos w) (negsuc (4294967295 - w))
    (λ (t : ltb w 2147483648 ≡ true). reads_back (pos w) (omega (arith, ltb-true w 2147483648 t)))
    (λ (t : ltb w 2147483648 ≡ false). reads_back (negsuc (4294967295 - w)) (omega (arith, ltb-false w 2147483648 t)))

pub int_is : (b : List ℕ) (i w : ℕ) (z : ℤ) → z ≡ signed_of w → w ≡ word_at b (4 * i) → to_z w32 (of_z w32 z) ≡ int_at b i
unfolding int_at
int_is b i w z e f = ap (λ (y : ℤ). to_z w32 (of_z w32 y)) e ∙ (signed_back w ∙ ap signed_of f)

pub int_back : (b : List ℕ) (i : ℕ) (z : ℤ) → z ≡ int_at b i → to_z w32 (of_z w32 z) ≡ int_at b i
unfolding int_at
int_back b i z e = ap (λ (y : ℤ). to_z w32 (of_z w32 y)) e ∙ signed_back (word_at b (4 * i))

-- the numbers that are read are those in the bytes
pub numbers_read : (n : ℕ) (b : List ℕ) (z x : List ℤ) → z ≡ replicate n (pos 0) → x ≡ iter (λ i l. set l i (int_at b i)) n z → x ≡ numbers_in n b
unfolding numbers_in
numbers_read n b z x e f = f ∙ ap (iter (λ i l. set l i (int_at b i)) n) e

-- building's number is handed on
pub build_back : (vs : List ℤ) (n : ℕ) (es : List ℤ) (m : ℕ) (state : List ℕ) (vs' es' : List ℤ) (z : ℤ) → vs ≡ vs' → es ≡ es' → z ≡ build_code vs n es m state →
    to_z w32 (of_z w32 z) ≡ build_code vs' n es' m state
unfolding build_code
build_back vs n es m state vs' es' z p q e =
    ap (λ (y : ℤ). to_z w32 (of_z w32 y)) e
    ∙ (pick_ind (λ (z : ℤ). to_z w32 (of_z w32 z) ≡ z) (eqb (refusal vs n es m) 0) _ _
    (λ _. pick_ind (λ (z : ℤ). to_z w32 (of_z w32 z) ≡ z) (ltb (length state) 133440) short (pos 0) (λ _. reads_back short (omega arith)) (λ _. reads_back (pos 0) (omega arith)))
    (λ _. fitted_neg (refusal vs n es m) _ refl)
    ∙ (λ i. build_code (p i) n (q i) m state))

pub built_back : (vs : List ℤ) (n : ℕ) (es : List ℤ) (m : ℕ) (x y x' y' : ℤ) (b c : List ℕ) (vs' es' : List ℤ) → vs ≡ vs' → es ≡ es' → x ≡ x' → y ≡ y' → BuiltIn vs n es m x y b c → BuiltIn vs' n es' m x' y' b c
built_back vs n es m x y x' y' b c vs' es' p q r s h =
    subst (λ (v : List ℤ). BuiltIn v n es' m x' y' b c) p
    (subst (λ (v : List ℤ). BuiltIn vs n v m x' y' b c) q
    (subst (λ (v : ℤ). BuiltIn vs n es m v y' b c) r
    (subst (λ (v : ℤ). BuiltIn vs n es m x v b c) s h)))
