-- The search in the distinct variables: its steps over plain variables.
use mathlib.Core.Path.{◌≡◌, refl, sym, ap, ◌∙◌}
use mathlib.Core.Bool.{true, false}
use mathlib.Core.List.{List}
use Prim.Native.Nat.{ℕ, ◌+◌, ◌-◌, ◌/◌, ◌≤◌, ◌<◌}
use native.Mathlib.Omega.{arith}
use lib.Dec.{ltb}
use borrow.Author.Tests.{lt-ltb, le-ltb, ltb-true}
use Rattle.base.proofs.Loop.{pick_ind, pick_yes, pick_no}
use Rattle.plan.specs.Words.{variable_at}
use Rattle.noting.specs.declared.note.Span.{Span}
use Rattle.noting.specs.Note.{halved, searched_in, place_from_first, place_from_last, is_at, place_in}

module _ (ws : List ℕ) (x i : ℕ) (p : Span) where
  abbrev mid : ℕ
  mid = p.low + (p.high - p.low) / 2

  pub halve_up : (y : ℕ) → y ≡ variable_at ws mid → p.low < p.high → y < x → record { low = mid + 1; high = p.high } ≡ halved ws x i p
  unfolding halved
  halve_up y e h k = sym (pick_yes _ _ (lt-ltb _ _ h) ∙ pick_yes _ _ (lt-ltb (variable_at ws mid) x (omega arith)))

  pub halve_down : (y : ℕ) → y ≡ variable_at ws mid → p.low < p.high → x ≤ y → record { low = p.low; high = mid } ≡ halved ws x i p
  unfolding halved
  halve_down y e h k = sym (pick_yes _ _ (lt-ltb _ _ h) ∙ pick_no _ _ (le-ltb (variable_at ws mid) x (omega arith)))

  pub halve_done : p.high ≤ p.low → p ≡ halved ws x i p
  unfolding halved
  halve_done h = sym (pick_no _ _ (le-ltb _ _ h))

  pub halve_same : halved ws x 0 p ≡ halved ws x i p
  unfolding halved
  halve_same = refl

  pub halve_within : (m : ℕ) → (p.low ≤ m) × (p.high ≤ m) → ((halved ws x i p).low ≤ m) × ((halved ws x i p).high ≤ m)
  unfolding halved
  halve_within m h =
      pick_ind (λ (q : Span). (q.low ≤ m) × (q.high ≤ m)) (ltb p.low p.high) _ _
      (λ e. let k = ltb-true p.low p.high e in
      pick_ind (λ (q : Span). (q.low ≤ m) × (q.high ≤ m)) (ltb (variable_at ws mid) x) _ _ (λ _. (omega arith, h.1)) (λ _. (h.0, omega arith)))
      (λ _. h)

module _ (ws : List ℕ) (x a b : ℕ) (first : a ≡ place_from_first ws x) (last : b ≡ place_from_last ws x) where
  pub place_first : is_at ws a x ≡ true → a ≡ place_in ws x
  unfolding place_in
  place_first t = first ∙ sym (pick_yes _ _ (ap (λ (k : ℕ). is_at ws k x) (sym first) ∙ t))

  pub place_last : is_at ws a x ≡ false → is_at ws b x ≡ true → b ≡ place_in ws x
  unfolding place_in
  place_last f t =
      last ∙ sym (pick_no _ _ (ap (λ (k : ℕ). is_at ws k x) (sym first) ∙ f) ∙ pick_yes _ _ (ap (λ (k : ℕ). is_at ws k x) (sym last) ∙ t))

  pub place_halved : is_at ws a x ≡ false → is_at ws b x ≡ false → searched_in ws x ≡ place_in ws x
  unfolding place_in
  place_halved f g = sym (pick_no _ _ (ap (λ (k : ℕ). is_at ws k x) (sym first) ∙ f) ∙ pick_no _ _ (ap (λ (k : ℕ). is_at ws k x) (sym last) ∙ g))
