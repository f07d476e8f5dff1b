-- A proper plan's words stand for a proper plan, and its distinct literals are exactly its literals and their negations, rising.
use mathlib.Core.Path.{◌≡◌, ap, ◌∙◌}
use mathlib.Core.Logic.{⊎_elim}
use mathlib.Core.Bool.{true}
use mathlib.Core.List.{List}
use Prim.Native.Nat.{ℕ, suc, ◌+◌, ◌*◌, ◌/◌, ◌%◌, ◌<◌}
use native.Mathlib.Omega.{arith}
use Rattle.base.proofs.Loop.{eq_or_not}
use Rattle.division.specs.Plan.{Proper}
use Rattle.plan.specs.Words.{variables_of, lit_of, place_of, variable_at, start_at, occurrence_at, unique_lit_at}
use Rattle.plan.specs.Plan.{plan_of}
use Rattle.plan.specs.Check.{used_slot}
use Rattle.plan.specs.Proper.{ProperWords}

module _ (ws : List ℕ) (ends : List (List ℕ)) (p : ProperWords ws ends) where
  pub proper_plan : Proper (plan_of ws ends)
  proper_plan = record {
    fine = p.fine;
    light = p.light;
    entries = p.entries;
    rising = p.rising;
  }

  -- ---- the distinct literals
  -- a literal of the plan has its place there
  pub unique_has : (s : ℕ) → used_slot ws s ≡ true → (place_of ws s < 2 * variables_of ws) × (unique_lit_at ws (place_of ws s) ≡ lit_of ws s)
  unique_has s u =
      let f = p.filed s u in
      let v = f.variable in
      (omega (arith, f.known), omega (arith, f.sign))

  -- and so does its negation
  pub unique_pairs : (k : ℕ) → k < variables_of ws → (unique_lit_at ws (2 * k) ≡ 2 * variable_at ws k) × (unique_lit_at ws (2 * k + 1) ≡ 2 * variable_at ws k + 1)
  unique_pairs k h =
      let a : 2 * k / 2 ≡ k = omega arith in
      let b : (2 * k + 1) / 2 ≡ k = omega arith in
      (ap (λ (i : ℕ). 2 * variable_at ws i + 2 * k % 2) a ∙ omega arith, ap (λ (i : ℕ). 2 * variable_at ws i + (2 * k + 1) % 2) b ∙ omega arith)

  -- each distinct variable is that of a literal of the plan
  pub unique_only : (k : ℕ) → k < variables_of ws → (s : ℕ) × (used_slot ws s ≡ true) × (lit_of ws s / 2 ≡ variable_at ws k)
  unique_only k h =
      let l = p.listed k h in
      (occurrence_at ws (start_at ws k), l.used (start_at ws k) (omega arith) l.some, l.own (start_at ws k) (omega arith) l.some)

  -- they rise strictly
  pub unique_rising : (i : ℕ) → suc i < 2 * variables_of ws → unique_lit_at ws i < unique_lit_at ws (suc i)
  unique_rising i h = ⊎_elim
      (λ (e : i % 2 ≡ 0).
      let a : suc i / 2 ≡ i / 2 = omega arith in
      let b : suc i % 2 ≡ 1 = omega arith in
      omega (arith, ap (variable_at ws) a))
      (λ (e : i % 2 ≡ 0 → ⊥).
      let o : i % 2 ≡ 1 = ⊎_elim (λ (x : i % 2 ≡ 1). x) (λ (x : i % 2 ≡ 1 → ⊥). absurd (e (even i x))) (eq_or_not (i % 2) 1) in
      let a : suc i / 2 ≡ suc (i / 2) = omega arith in
      let b : suc i % 2 ≡ 0 = omega arith in
      omega (arith, ap (variable_at ws) a, p.distinct (i / 2) (omega arith)))
      (eq_or_not (i % 2) 0)
    where
      even : (n : ℕ) → (n % 2 ≡ 1 → ⊥) → n % 2 ≡ 0
      even n x = ⊎_elim (λ (y : n % 2 ≡ 0). y) (λ (y : n % 2 ≡ 0 → ⊥). absurd (x (omega arith))) (eq_or_not (n % 2) 0)
