-- The digits of a number: by the quotient, and how many there are.
use mathlib.Core.Path.{◌≡◌, refl, sym, ap, ap₂, ◌∙◌}
use mathlib.Core.List.{List, [], ◌∷◌, ◌++◌}
use Prim.Native.Nat.{ℕ, zero, suc, ◌+◌, ◌*◌, ◌/◌, ◌%◌, ◌^◌, ◌≤◌, ◌<◌}
use native.Mathlib.Nat.{pow-suc}
use native.Mathlib.Omega.{arith}
use lib.Dec.{ltb}
use lib.ListN.{length, length-append}
use borrow.Author.Tests.{lt-ltb, le-ltb, ltb-true, ltb-false}
use Rattle.base.proofs.Loop.{pick_yes, pick_no, tested}
use Rattle.text_writer.specs.Digits.{digits_of, digits}

-- any bound above n serves
enough : (f g n : ℕ) → n < f → n < g → digits_of f n ≡ digits_of g n
unfolding digits_of
enough zero g n a b = absurd (omega arith)
enough (suc f) zero n a b = absurd (omega arith)
enough (suc f) (suc g) n a b = tested (ltb n 10)
    (λ t. pick_yes _ _ t ∙ sym (pick_yes _ _ t))
    (λ t.
    let h = ltb-false n 10 t in
    pick_no _ _ t
    ∙ ap (λ (l : List ℕ). l ++ ((48 + n % 10) ∷ [])) (enough f g (n / 10) (omega arith) (omega arith))
    ∙ sym (pick_no _ _ t))

pub digits_small : (n : ℕ) → n < 10 → digits n ≡ (48 + n) ∷ []
unfolding digits digits_of
digits_small n h = pick_yes _ _ (lt-ltb n 10 h)

pub digits_large : (n : ℕ) → 10 ≤ n → digits n ≡ digits (n / 10) ++ ((48 + n % 10) ∷ [])
unfolding digits digits_of
digits_large n h =
    pick_no _ _ (le-ltb n 10 h)
    ∙ ap (λ (l : List ℕ). l ++ ((48 + n % 10) ∷ [])) (enough n (suc (n / 10)) (n / 10) (omega arith) (omega arith))

pub digits_large_length : (n : ℕ) → 10 ≤ n → length (digits n) ≡ length (digits (n / 10)) + 1
digits_large_length n h = ap length (digits_large n h) ∙ length-append (digits (n / 10)) ((48 + n % 10) ∷ [])

-- the last k digits of n, with zeros before its first one where k is more than it has
unfoldable pub last_digits : ℕ → ℕ → List ℕ
last_digits zero n = []
last_digits (suc k) n = last_digits k (n / 10) ++ ((48 + n % 10) ∷ [])

pub length_last : (k n : ℕ) → length (last_digits k n) ≡ k
unfolding last_digits
length_last zero n = refl
length_last (suc k) n =
    omega (arith, length-append (last_digits k (n / 10)) ((48 + n % 10) ∷ []), length_last k (n / 10))

digits_last_of : (k n : ℕ) → length (digits n) ≡ k → last_digits k n ≡ digits n
unfolding last_digits
digits_last_of zero n e = tested (ltb n 10)
    (λ t. absurd (omega (arith, ap length (digits_small n (ltb-true n 10 t)))))
    (λ t. absurd (omega (arith, digits_large_length n (ltb-false n 10 t))))
digits_last_of (suc k) n e = tested (ltb n 10)
    (λ t.
    let h = ltb-true n 10 t in
    let z : k ≡ 0 = omega (arith, ap length (digits_small n h)) in
    let v : 48 + n % 10 ≡ 48 + n = omega arith in
    ap₂ (λ (j d : ℕ). last_digits j (n / 10) ++ (d ∷ [])) z v ∙ sym (digits_small n h))
    (λ t.
    let h = ltb-false n 10 t in
    ap (λ (l : List ℕ). l ++ ((48 + n % 10) ∷ [])) (digits_last_of k (n / 10) (omega (arith, digits_large_length n h)))
    ∙ sym (digits_large n h))

-- as many of the last as there are
pub digits_last : (n : ℕ) → last_digits (length (digits n)) n ≡ digits n
digits_last n = digits_last_of (length (digits n)) n refl

-- a number below 10 ^ (k + 1) has at most k + 1 digits
pub digits_few : (k n : ℕ) → n < 10 ^ suc k → length (digits n) ≤ suc k
digits_few zero n h = let z : n < 10 = h in omega (arith, ap length (digits_small n z))
digits_few (suc k) n h = tested (ltb n 10)
    (λ t. omega (arith, ap length (digits_small n (ltb-true n 10 t))))
    (λ t.
    let g : n < 10 ^ suc k * 10 = rw (pow-suc 10 (suc k)) at h in
    let ih : length (digits (n / 10)) ≤ suc k = digits_few k (n / 10) (omega arith) in
    omega (arith, digits_large_length n (ltb-false n 10 t)))
