-- Cutting at separators, as code walks: the first piece, and what is left after it.
use mathlib.Core.Path.{◌≡◌, refl, sym, ap, ap₂, ◌∙◌}
use mathlib.Core.List.{List, [], ◌∷◌}
use Prim.Native.Nat.{ℕ, suc, ◌+◌, ◌-◌, ◌≤◌, ◌<◌}
use native.Mathlib.Omega.{arith}
use native.Mathlib.Numerals.{add-one}
use lib.Dec.{eqb}
use lib.ListN.{length, take, drop, get_or, drop_of_length-le, length-drop}
use lib.Seq.{drop-cons, drop-drop}
use borrow.Author.Tests.{eq-eqb, ne_eqb}
use Rattle.base.proofs.Loop.{pick_yes, pick_no, tested}
use Rattle.text.specs.Fields.{newline, front, split, lines_of, upto}
use Rattle.text.specs.Steps.{more}

-- ---- where a piece ends
module _ (sep : ℕ) (l : List ℕ) (i : ℕ) where
  pub ends_here : i < length l → get_or l i 0 ≡ sep → upto sep (drop i l) ≡ 0
  unfolding upto
  ends_here h e = ap (upto sep) (drop-cons l i 0 h) ∙ pick_yes _ _ (eq-eqb (get_or l i 0) sep e)

  pub ends_later : i < length l → (get_or l i 0 ≡ sep → ⊥) → upto sep (drop i l) ≡ suc (upto sep (drop (i + 1) l))
  unfolding upto
  ends_later h e = ap (upto sep) (drop-cons l i 0 h) ∙ pick_no _ _ (ne_eqb (get_or l i 0) sep e) ∙ (rw add-one)

  pub ends_past : length l ≤ i → upto sep (drop i l) ≡ 0
  unfolding upto
  ends_past h = ap (upto sep) (drop_of_length-le l h)

pub upto_within : (sep : ℕ) (l : List ℕ) → upto sep l ≤ length l
unfolding upto
upto_within sep [] = omega arith
upto_within sep (b ∷ l) = tested (eqb b sep)
    (λ t. rw (pick_yes 0 (suc (upto sep l)) t) (omega arith))
    (λ t. rw (pick_no 0 (suc (upto sep l)) t) (omega (arith, upto_within sep l)))

-- ---- the first piece and the others
pub split_first : (sep : ℕ) (l : List ℕ) → split sep l ≡ take (upto sep l) l ∷ more sep (drop (upto sep l) l)
unfolding split upto more front
split_first sep [] = refl
split_first sep (b ∷ l) = tested (eqb b sep)
    (λ t. pick_yes _ _ t ∙ ap (λ (u : ℕ). take u (b ∷ l) ∷ more sep (drop u (b ∷ l))) (sym (pick_yes _ _ t)))
    (λ t. pick_no _ _ t ∙ ap (front b) (split_first sep l) ∙ ap (λ (u : ℕ). take u (b ∷ l) ∷ more sep (drop u (b ∷ l))) (sym (pick_no _ _ t)))

pub more_step : (sep : ℕ) (l : List ℕ) (i : ℕ) → i < length l →
    more sep (drop i l) ≡ take (upto sep (drop (i + 1) l)) (drop (i + 1) l) ∷ more sep (drop (i + 1 + upto sep (drop (i + 1) l)) l)
unfolding more
more_step sep l i h =
    ap (more sep) (drop-cons l i 0 h)
    ∙ ap (λ (k : ℕ). split sep (drop k l)) (sym (add-one i))
    ∙ split_first sep (drop (i + 1) l)
    ∙ ap (λ (t : List ℕ). take (upto sep (drop (i + 1) l)) (drop (i + 1) l) ∷ more sep t) (drop-drop (upto sep (drop (i + 1) l)) (i + 1) l)

pub more_none : (sep : ℕ) (l : List ℕ) (i : ℕ) → length l ≤ i → more sep (drop i l) ≡ []
unfolding more
more_none sep l i h = ap (more sep) (drop_of_length-le l h)

-- where a piece ends is in the list
pub upto_in : (sep : ℕ) (l : List ℕ) (i : ℕ) → i ≤ length l → i + upto sep (drop i l) ≤ length l
upto_in sep l i h = let p = upto_within sep (drop i l) in omega (arith, length-drop i l)

-- the next piece as code has it, from `i + 1` to its end e
pub more_at : (sep : ℕ) (l : List ℕ) (i e : ℕ) → i < length l → e ≡ i + 1 + upto sep (drop (i + 1) l) →
    more sep (drop i l) ≡ take (e - (i + 1)) (drop (i + 1) l) ∷ more sep (drop e l)
more_at sep l i e h p =
    let z : upto sep (drop (i + 1) l) ≡ e - (i + 1) = omega arith in
    more_step sep l i h
    ∙ ap₂ (λ (u k : ℕ). take u (drop (i + 1) l) ∷ more sep (drop k l)) z (sym p)

-- ---- the first line and the others
lines_first : (b : ℕ) (l : List ℕ) →
    lines_of (b ∷ l) ≡ take (upto newline (b ∷ l)) (b ∷ l) ∷ lines_of (drop (suc (upto newline (b ∷ l))) (b ∷ l))
unfolding lines_of upto front
lines_first b [] = tested (eqb b newline)
    (λ t. pick_yes _ _ t ∙ ap (λ (u : ℕ). take u (b ∷ []) ∷ lines_of (drop (suc u) (b ∷ []))) (sym (pick_yes _ _ t)))
    (λ t. pick_no _ _ t ∙ ap (λ (u : ℕ). take u (b ∷ []) ∷ lines_of (drop (suc u) (b ∷ []))) (sym (pick_no _ _ t)))
lines_first b (x ∷ l) = tested (eqb b newline)
    (λ t. pick_yes _ _ t ∙ ap (λ (u : ℕ). take u (b ∷ x ∷ l) ∷ lines_of (drop (suc u) (b ∷ x ∷ l))) (sym (pick_yes _ _ t)))
    (λ t.
    pick_no _ _ t ∙ ap (front b) (lines_first x l)
    ∙ ap (λ (u : ℕ). take u (b ∷ x ∷ l) ∷ lines_of (drop (suc u) (b ∷ x ∷ l))) (sym (pick_no _ _ t)))

lines_open : (l : List ℕ) → 0 < length l → lines_of l ≡ take (upto newline l) l ∷ lines_of (drop (suc (upto newline l)) l)
lines_open [] h = absurd (omega arith)
lines_open (b ∷ l) h = lines_first b l

-- the next line as code has it, from i to its end e
pub lines_at : (l : List ℕ) (i e : ℕ) → i < length l → e ≡ i + upto newline (drop i l) →
    lines_of (drop i l) ≡ take (e - i) (drop i l) ∷ lines_of (drop (e + 1) l)
lines_at l i e h p =
    let u = upto newline (drop i l) in
    let y : u ≡ e - i = omega arith in
    let z : i + suc u ≡ e + 1 = omega arith in
    lines_open (drop i l) (omega (arith, length-drop i l))
    ∙ ap₂ (λ (n : ℕ) (d : List ℕ). take n (drop i l) ∷ lines_of d) y
    (drop-drop (suc u) i l ∙ ap (λ (k : ℕ). drop k l) z)

pub lines_none : (l : List ℕ) (i : ℕ) → length l ≤ i → lines_of (drop i l) ≡ []
unfolding lines_of
lines_none l i h = ap lines_of (drop_of_length-le l h)
