-- Bytes put into a buffer, one run after the other.
use mathlib.Core.Path.{◌≡◌, refl, sym, ap, ap₂, ◌∙◌}
use mathlib.Core.List.{List, [], ◌∷◌, ◌++◌, append_assoc, append-nil}
use Prim.Native.Nat.{ℕ, suc, ◌+◌, ◌-◌, ◌/◌, ◌%◌, ◌≤◌, ◌<◌}
use native.Mathlib.Omega.{arith}
use native.Mathlib.Numerals.{add-one}
use lib.Dec.{leb}
use lib.ListN.{length, take, drop, set, get_or, length-append, length-drop, length-set}
use lib.ListN.{take-append-drop, drop_of_length-le}
use lib.Seq.{append_snoc, set_split, take_at, drop_at, drop-drop, drop-append-add, length-take-le, drop-cons}
use lib.Seq.{take-set-le}
use borrow.Author.Tests.{le-leb, lt-leb, leb-true, leb-false}
use Rattle.base.proofs.Loop.{pick_yes, pick_no, tested}
use Rattle.std.specs.Prelude.{None, Some}
use Rattle.text.specs.Fields.{newline}
use Rattle.text_writer.specs.Digits.{digits}
use Rattle.text_writer.specs.Written.{put, after, next, tabbed_one, tabbed, answer_line}
use Rattle.text_writer.proofs.Decimals.{last_digits, length_last, digits_last}

head_long : (buf xs : List ℕ) (at : ℕ) → at + length xs ≤ length buf → length (take at buf ++ xs) ≡ at + length xs
head_long buf xs at h = length-append (take at buf) xs ∙ ap (λ (n : ℕ). n + length xs) (length-take-le at buf (omega arith))

pub length_put : (buf xs : List ℕ) (at : ℕ) → at + length xs ≤ length buf → length (put buf at xs) ≡ length buf
unfolding put
length_put buf xs at h =
    length-append (take at buf ++ xs) (drop (at + length xs) buf)
    ∙ ap₂ ◌+◌ (head_long buf xs at h) (length-drop (at + length xs) buf)
    ∙ omega arith

pub put_none : (buf : List ℕ) (at : ℕ) → put buf at [] ≡ buf
unfolding put
put_none buf at =
    let z : at + 0 ≡ at = omega arith in
    ap₂ ◌++◌ (append-nil (take at buf)) (ap (λ (n : ℕ). drop n buf) z) ∙ take-append-drop at buf

-- one byte
pub put_one : (buf : List ℕ) (at v : ℕ) → at < length buf → set buf at v ≡ put buf at (v ∷ [])
unfolding put
put_one buf at v h = rw add-one (set_split buf at v h ∙ sym (append_snoc (take at buf) v (drop (suc at) buf)))

-- a second run where the first ends
pub put_put : (buf xs ys : List ℕ) (at p : ℕ) → p ≡ at + length xs → at + length xs ≤ length buf → put (put buf at xs) p ys ≡ put buf at (xs ++ ys)
unfolding put
put_put buf xs ys at p e h =
    let front = take at buf ++ xs in
    let back = drop (at + length xs) buf in
    let k = head_long buf xs at h in
    let z : p + length ys ≡ length front + length ys = omega arith in
    let w : at + length xs + length ys ≡ at + length (xs ++ ys) = omega (arith, length-append xs ys) in
    ap₂ (λ (a b : List ℕ). a ++ ys ++ b)
    (take_at front back p (k ∙ sym e))
    (ap (λ (n : ℕ). drop n (front ++ back)) z ∙ drop-append-add front back (length ys) ∙ drop-drop (length ys) (at + length xs) buf ∙ ap (λ (n : ℕ). drop n buf) w)
    ∙ ap (λ (a : List ℕ). a ++ drop (at + length (xs ++ ys)) buf) (append_assoc (take at buf) xs ys)

-- one byte after a run that stands
pub put_last : (buf xs m : List ℕ) (at p v : ℕ) → p ≡ at + length xs → p < length buf → m ≡ put buf at xs → set m p v ≡ put buf at (xs ++ (v ∷ []))
put_last buf xs m at p v e h g =
    let k = length_put buf xs at (omega arith) in
    ap (λ (b : List ℕ). set b p v) g
    ∙ put_one (put buf at xs) p v (omega arith)
    ∙ put_put buf xs (v ∷ []) at p e (omega arith)

-- one byte behind a run that is still to be put
pub put_before : (buf xs : List ℕ) (at p v : ℕ) → p ≡ at + length xs → p < length buf →
    put (set buf p v) at xs ≡ put buf at (xs ++ (v ∷ []))
unfolding put
put_before buf xs at p v e h =
    let s : drop (at + length xs) (set buf p v) ≡ v ∷ drop (suc p) buf =
    ap (λ (n : ℕ). drop n (set buf p v)) (sym e)
    ∙ ap (drop p) (set_split buf p v h)
    ∙ drop_at (take p buf) (v ∷ drop (suc p) buf) p (length-take-le p buf (omega arith)) in
    let z : suc p ≡ at + length (xs ++ (v ∷ [])) = omega (arith, length-append xs (v ∷ [])) in
    ap₂ (λ (a b : List ℕ). a ++ xs ++ b) (take-set-le at buf p v (omega arith)) s
    ∙ sym (append_snoc (take at buf ++ xs) v (drop (suc p) buf))
    ∙ ap₂ (λ (a b : List ℕ). a ++ b) (append_assoc (take at buf) xs (v ∷ [])) (ap (λ (n : ℕ). drop n buf) z)

-- ---- what a caller is told
module _ (buf bytes : List ℕ) (at : ℕ) where
  pub fitted : at + length bytes ≤ length buf → (next buf at bytes ≡ Some (at + length bytes)) × (after buf at bytes ≡ put buf at bytes)
  unfolding next after
  fitted h = (pick_yes _ _ (le-leb _ _ h), pick_yes _ _ (le-leb _ _ h))

  pub refused : length buf < at + length bytes → (next buf at bytes ≡ None) × (after buf at bytes ≡ buf)
  unfolding next after
  refused h = (pick_no _ _ (lt-leb _ _ h), pick_no _ _ (lt-leb _ _ h))

-- ---- a number's digits, the last one first
-- the digits from p on stand; with those of `quotient` from `at` up to p the buffer is what it is to be
pub record Backward (n : ℕ) (buf₀ : List ℕ) (at : ℕ) (buf : List ℕ) (p quotient : ℕ) : Type 0 where
  pub long : length buf ≡ length buf₀
  pub to : p ≤ at + length (digits n)
  pub whole : put buf at (last_digits (p - at) quotient) ≡ put buf₀ at (digits n)

module _ (n : ℕ) (buf₀ : List ℕ) (at : ℕ) where
  pub backward_start : (p : ℕ) → p ≡ at + length (digits n) → Backward n buf₀ at buf₀ p n
  backward_start p e =
      let z : p - at ≡ length (digits n) = omega arith in
      record {
        long = refl;
        to = omega arith;
        whole = ap (put buf₀ at) (ap (λ (k : ℕ). last_digits k n) z ∙ digits_last n);
      }

  pub backward_step : (buf : List ℕ) (p quotient : ℕ) → at < p → at + length (digits n) ≤ length buf₀ →
      Backward n buf₀ at buf p quotient →
      Backward n buf₀ at (set buf (p - 1) (48 + quotient % 10)) (p - 1) (quotient / 10)
  unfolding last_digits
  backward_step buf p quotient h f w =
      let k = p - 1 - at in
      let z : p - at ≡ suc k = omega arith in
      let e : p - 1 ≡ at + length (last_digits k (quotient / 10)) = omega (arith, length_last k (quotient / 10)) in
      let inside : p - 1 < length buf = omega (arith, w.long, w.to) in
      record {
        long = length-set buf (p - 1) (48 + quotient % 10) ∙ w.long;
        to = omega (arith, w.to);
        whole = put_before buf (last_digits k (quotient / 10)) at (p - 1) (48 + quotient % 10) e inside
            ∙ sym (ap (λ (j : ℕ). put buf at (last_digits j quotient)) z)
            ∙ w.whole;
      }

  pub backward_done : (buf : List ℕ) (p quotient : ℕ) → p ≤ at → Backward n buf₀ at buf p quotient →
      buf ≡ put buf₀ at (digits n)
  unfolding last_digits
  backward_done buf p quotient h w =
      let z : p - at ≡ 0 = omega arith in
      sym (put_none buf at) ∙ sym (ap (λ (j : ℕ). put buf at (last_digits j quotient)) z) ∙ w.whole

-- ---- an answer's numbers
pub tabbed_long : (n : ℕ) → length (tabbed_one n) ≡ length (digits n) + 1
unfolding tabbed_one
tabbed_long n = omega arith

pub tabbed_next : (ns : List ℕ) (i : ℕ) → i < length ns → tabbed (drop i ns) ≡ tabbed_one (get_or ns i 0) ++ tabbed (drop (i + 1) ns)
unfolding tabbed
tabbed_next ns i h = ap tabbed (drop-cons ns i 0 h) ∙ (rw add-one)

pub tabbed_next_long : (ns : List ℕ) (i : ℕ) → i < length ns → length (tabbed (drop i ns)) ≡ length (digits (get_or ns i 0)) + 1 + length (tabbed (drop (i + 1) ns))
tabbed_next_long ns i h =
    ap length (tabbed_next ns i h) ∙ length-append (tabbed_one (get_or ns i 0)) (tabbed (drop (i + 1) ns)) ∙ ap (λ (n : ℕ). n + length (tabbed (drop (i + 1) ns))) (tabbed_long (get_or ns i 0))

pub tabbed_end : (ns : List ℕ) (i : ℕ) → length ns ≤ i → tabbed (drop i ns) ≡ []
unfolding tabbed
tabbed_end ns i h = ap tabbed (drop_of_length-le ns h)

pub answer_long : (letter : ℕ) (ns : List ℕ) → length (answer_line letter ns) ≡ length (tabbed ns) + 2
unfolding answer_line
answer_long letter ns = omega (arith, length-append (tabbed ns) (newline ∷ []))

-- the letter, the numbers and the newline, put one after the other
pub answer_put : (buf : List ℕ) (letter : ℕ) (ns : List ℕ) (at p : ℕ) (m : List ℕ) → at + (length (tabbed ns) + 2) ≤ length buf →
    m ≡ put (set buf at letter) (at + 1) (tabbed ns) → p ≡ at + 1 + length (tabbed ns) → set m p newline ≡ put buf at (answer_line letter ns)
unfolding answer_line
answer_put buf letter ns at p m h e q =
    let first = put_one buf at letter (omega arith) in
    let joined : m ≡ put buf at (letter ∷ tabbed ns) =
    e ∙ ap (λ (b : List ℕ). put b (at + 1) (tabbed ns)) first ∙ put_put buf (letter ∷ []) (tabbed ns) at (at + 1) refl (omega arith) in
    let long = length_put buf (letter ∷ tabbed ns) at (omega arith) in
    ap (λ (b : List ℕ). set b p newline) joined
    ∙ put_one (put buf at (letter ∷ tabbed ns)) p newline (omega arith)
    ∙ put_put buf (letter ∷ tabbed ns) (newline ∷ []) at p (omega arith) (omega arith)

-- number i is next, at p of the buffer, which is buf by now
pub record Run (ns buf₀ : List ℕ) (at : ℕ) (buf : List ℕ) (p i : ℕ) : Type 0 where
  pub long : length buf ≡ length buf₀
  pub place : p + length (tabbed (drop i ns)) ≡ at + length (tabbed ns)
  pub rest : put buf p (tabbed (drop i ns)) ≡ put buf₀ at (tabbed ns)

module _ (ns buf₀ : List ℕ) (at : ℕ) (buf buf' : List ℕ) (p q i : ℕ) (h : i < length ns) (f : at + length (tabbed ns) ≤ length buf₀) where
  pub run_step : q ≡ p + length (tabbed_one (get_or ns i 0)) → buf' ≡ put buf p (tabbed_one (get_or ns i 0)) → Run ns buf₀ at buf p i → Run ns buf₀ at buf' q (i + 1)
  run_step e g w =
      let n = get_or ns i 0 in
      let k = tabbed_next_long ns i h in
      let t = tabbed_long n in
      let room : p + length (tabbed_one n) ≤ length buf = omega (arith, w.long, w.place) in
      record {
        long = ap length g ∙ length_put buf (tabbed_one n) p room ∙ w.long;
        place = omega (arith, w.place);
        rest = ap (λ (b : List ℕ). put b q (tabbed (drop (i + 1) ns))) g
            ∙ put_put buf (tabbed_one n) (tabbed (drop (i + 1) ns)) p q e room
            ∙ ap (put buf p) (sym (tabbed_next ns i h))
            ∙ w.rest;
      }

pub run_done : (ns buf₀ : List ℕ) (at : ℕ) (buf : List ℕ) (p i : ℕ) → length ns ≤ i → Run ns buf₀ at buf p i →
    (p ≡ at + length (tabbed ns)) × (buf ≡ put buf₀ at (tabbed ns))
run_done ns buf₀ at buf p i h w =
    let e = tabbed_end ns i h in
    (omega (arith, w.place, ap length e), sym (put_none buf p) ∙ ap (put buf p) (sym e) ∙ w.rest)
