-- "Building gives the lowest number that applies": refused with k exactly when k is the lowest of 1 to 6 that applies.
use mathlib.Core.Path.{◌≡◌, refl, sym, subst, ◌∙◌}
use mathlib.Core.Bool.{Bool, true, false, true≢false}
use mathlib.Core.List.{List}
use Prim.Native.Nat.{ℕ, zero, suc, ◌<◌, ◌≤◌}
use native.Mathlib.Omega.{arith}
use native.Mathlib.Nat.{eq-or-lt_of_le}
use mathlib.Core.Logic.{⊎_elim}
use lib.IntN.{ℤ}
use Rattle.base.specs.Iter.{pick}
use Rattle.base.specs.Refusal.{number_or_0, refusal_with}
use Rattle.base.proofs.Loop.{pick_yes, pick_no, tested}
use Rattle.base.proofs.Tests.{le_or_lt}
use Rattle.builder.specs.Input.{too_many, weight_outside, sizes_wrong, lit_count_wrong, lit_outside, end_wrong, refusal}
use Rattle.builder.specs.Applies.{applies, Clean, Lowest}
use lib.Dec.{eqb}

-- the first of a row of tests that passes, counted from 1, or 0
unfoldable first6 : Bool → Bool → Bool → Bool → Bool → Bool → ℕ
first6 a b c d e f = pick a 1 (pick b 2 (pick c 3 (pick d 4 (pick e 5 (pick f 6 0)))))

numbered6 : (a b c d e f : Bool) → number_or_0 (refusal_with (first6 a b c d e f)) ≡ first6 a b c d e f
unfolding first6 pick
numbered6 true b c d e f = refl
numbered6 false true c d e f = refl
numbered6 false false true d e f = refl
numbered6 false false false true e f = refl
numbered6 false false false false true f = refl
numbered6 false false false false false true = refl
numbered6 false false false false false false = refl

none6 : (a b c d e f : Bool) → first6 a b c d e f ≡ 0 → (a ≡ false) × (b ≡ false) × (c ≡ false) × (d ≡ false) × (e ≡ false) × (f ≡ false)
unfolding first6 pick
none6 true b c d e f z = absurd (omega arith)
none6 false true c d e f z = absurd (omega arith)
none6 false false true d e f z = absurd (omega arith)
none6 false false false true e f z = absurd (omega arith)
none6 false false false false true f z = absurd (omega arith)
none6 false false false false false true z = absurd (omega arith)
none6 false false false false false false z = (refl, refl, refl, refl, refl, refl)

pub clean : (vs : List ℤ) (n : ℕ) (es : List ℤ) (m : ℕ) → refusal vs n es m ≡ 0 → Clean vs n es m
unfolding refusal first6
clean vs n es m z =
    let (a, b, c, d, e, f) = none6 (too_many vs n m) (weight_outside vs n) (sizes_wrong vs n) (lit_count_wrong vs n) (lit_outside vs n es m) (end_wrong n es m) z in
    record { counts = a; weights = b; sizes = c; lit_counts = d; lits = e; ends = f }

-- the six tests by their numbers
unfoldable test6 : Bool → Bool → Bool → Bool → Bool → Bool → ℕ → Bool
test6 a b c d e f k = pick (eqb k 1) a (pick (eqb k 2) b (pick (eqb k 3) c (pick (eqb k 4) d (pick (eqb k 5) e (pick (eqb k 6) f false)))))

lowest6 : (a b c d e f : Bool) → 0 < first6 a b c d e f → Lowest (test6 a b c d e f) (first6 a b c d e f)
unfolding first6 test6 pick
lowest6 true b c d e f z = record { passes = refl; below = λ j h. let q : j ≡ 0 = omega arith in rw q }
lowest6 false true c d e f z = record { passes = refl; below = below2 }
  where
    below2 : (j : ℕ) → j < 2 → test6 false true c d e f j ≡ false
    below2 zero h = refl
    below2 (suc zero) h = refl
    below2 (suc (suc j)) h = absurd (omega arith)
lowest6 false false true d e f z = record { passes = refl; below = below3 }
  where
    below3 : (j : ℕ) → j < 3 → test6 false false true d e f j ≡ false
    below3 zero h = refl
    below3 (suc zero) h = refl
    below3 (suc (suc zero)) h = refl
    below3 (suc (suc (suc j))) h = absurd (omega arith)
lowest6 false false false true e f z = record { passes = refl; below = below4 }
  where
    below4 : (j : ℕ) → j < 4 → test6 false false false true e f j ≡ false
    below4 zero h = refl
    below4 (suc zero) h = refl
    below4 (suc (suc zero)) h = refl
    below4 (suc (suc (suc zero))) h = refl
    below4 (suc (suc (suc (suc j)))) h = absurd (omega arith)
lowest6 false false false false true f z = record { passes = refl; below = below5 }
  where
    below5 : (j : ℕ) → j < 5 → test6 false false false false true f j ≡ false
    below5 zero h = refl
    below5 (suc zero) h = refl
    below5 (suc (suc zero)) h = refl
    below5 (suc (suc (suc zero))) h = refl
    below5 (suc (suc (suc (suc zero)))) h = refl
    below5 (suc (suc (suc (suc (suc j))))) h = absurd (omega arith)
lowest6 false false false false false true z = record { passes = refl; below = below6 }
  where
    below6 : (j : ℕ) → j < 6 → test6 false false false false false true j ≡ false
    below6 zero h = refl
    below6 (suc zero) h = refl
    below6 (suc (suc zero)) h = refl
    below6 (suc (suc (suc zero))) h = refl
    below6 (suc (suc (suc (suc zero)))) h = refl
    below6 (suc (suc (suc (suc (suc zero))))) h = refl
    below6 (suc (suc (suc (suc (suc (suc j)))))) h = absurd (omega arith)
lowest6 false false false false false false z = absurd (omega arith)

test6_none : (k : ℕ) → test6 false false false false false false k ≡ false
unfolding test6
test6_none k = go (eqb k 1) (go (eqb k 2) (go (eqb k 3) (go (eqb k 4) (go (eqb k 5) (go (eqb k 6) refl)))))
  where
    go : {x : Bool} (t : Bool) → x ≡ false → pick t false x ≡ false
    go t e = tested t (λ q. pick_yes _ _ q) (λ q. pick_no _ _ q ∙ e)

-- where none is refused, none applies
pub clean_none : {vs : List ℤ} {n : ℕ} {es : List ℤ} {m : ℕ} → Clean vs n es m → (k : ℕ) → applies vs n es m k ≡ false
unfolding applies test6
clean_none {vs} {n} {es} {m} c k =
    (λ i. test6 (c.counts i) (c.weights i) (c.sizes i) (c.lit_counts i) (c.lits i) (c.ends i) k) ∙ test6_none k

module _ (vs : List ℤ) (n : ℕ) (es : List ℤ) (m : ℕ) where
  -- the refusal with the number that is answered has that number
  pub numbered : number_or_0 (refusal_with (refusal vs n es m)) ≡ refusal vs n es m
  unfolding refusal first6
  numbered = numbered6 (too_many vs n m) (weight_outside vs n) (sizes_wrong vs n) (lit_count_wrong vs n) (lit_outside vs n es m) (end_wrong n es m)

  -- what is answered is the lowest that applies
  pub refused : 0 < refusal vs n es m → Lowest (applies vs n es m) (refusal vs n es m)
  unfolding refusal first6 applies test6
  refused h = lowest6 (too_many vs n m) (weight_outside vs n) (sizes_wrong vs n) (lit_count_wrong vs n) (lit_outside vs n es m) (end_wrong n es m) h

  -- and the lowest that applies is answered
  pub answered : (k : ℕ) → Lowest (applies vs n es m) k → refusal vs n es m ≡ k
  answered k p = compare (refusal vs n es m) refl
    where
      compare : (r : ℕ) → refusal vs n es m ≡ r → refusal vs n es m ≡ k
      compare zero e = absurd (true≢false (sym p.passes ∙ clean_none (clean vs n es m e) k))
      compare (suc r) e =
          let q = refused (subst (λ (i : ℕ). 0 < i) (sym e) (omega arith)) in
          ⊎_elim
          (λ (l : refusal vs n es m ≤ k). ⊎_elim (λ (z : refusal vs n es m ≡ k). z) (λ (z : refusal vs n es m < k). absurd (true≢false (sym q.passes ∙ p.below (refusal vs n es m) z))) (eq-or-lt_of_le {n = refusal vs n es m} {m = k} l))
          (λ (l : k < refusal vs n es m). absurd (true≢false (sym p.passes ∙ q.below k l)))
          (le_or_lt (refusal vs n es m) k)
