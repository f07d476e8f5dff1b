-- No answer's line is longer than the buffer that the program lends: each number is a u32, of at most 10 digits.
use Rattle.base.proofs.Tests.{le_or_lt}
use lib.Seq.{take_all}
use mathlib.Core.Logic.{⊎_elim}
use mathlib.Core.Path.{◌≡◌, refl, sym, ap, ◌∙◌}
use mathlib.Core.List.{List, [], ◌∷◌, ◌++◌}
use Prim.Native.Nat.{ℕ, zero, suc, ◌+◌, ◌*◌, ◌≤◌, ◌<◌, min}
use native.Mathlib.Omega.{arith}
use lib.ListN.{length, get_or, take, length-append}
use Rattle.text_writer.specs.Digits.{digits}
use Rattle.text_writer.specs.Written.{tabbed_one, tabbed, answer_line}
use Rattle.text_writer.proofs.Decimals.{digits_few}

-- every entry is a u32
abbrev pub Words : List ℕ → Type 0
Words xs = (i : ℕ) → get_or xs i 0 < 4294967296

one_few : (x : ℕ) → x < 4294967296 → length (tabbed_one x) ≤ 11
unfolding tabbed_one
one_few x h = let d : length (digits x) ≤ 10 = digits_few 9 x (omega arith) in omega arith

tabbed_few : (n : ℕ) (xs : List ℕ) → Words xs → length (tabbed (take n xs)) ≤ 11 * length xs
unfolding tabbed
tabbed_few zero xs h = omega arith
tabbed_few (suc n) [] h = omega arith
tabbed_few (suc n) (x ∷ xs) h =
    let a = one_few x (h 0) in
    let b = tabbed_few n xs (λ i. h (suc i)) in
    omega (arith, length-append (tabbed_one x) (tabbed (take n xs)))

pub answer_few : (letter n : ℕ) (xs : List ℕ) → Words xs → length xs ≤ 4352 → length (answer_line letter (take n xs)) ≤ 65536
unfolding answer_line
answer_few letter n xs h k =
    let b = tabbed_few n xs h in
    omega (arith, length-append (tabbed (take n xs)) (10 ∷ []))

pub refusal_few : (letter x : ℕ) → x < 4294967296 → length (answer_line letter (x ∷ [])) ≤ 65536
unfolding answer_line tabbed
refusal_few letter x h =
    let a = one_few x h in
    omega (arith, length-append (tabbed_one x) [], length-append (tabbed_one x ++ []) (10 ∷ []))

-- no more than there are
pub take_min : (n k : ℕ) (xs : List ℕ) → k ≡ min n (length xs) → take k xs ≡ take n xs
take_min n k xs e = ⊎_elim
    (λ (h : n ≤ length xs). let q : k ≡ n = omega arith in ap (λ (j : ℕ). take j xs) q)
    (λ (h : length xs < n). take_all k xs (omega arith) ∙ sym (take_all n xs (omega arith)))
    (le_or_lt n (length xs))
