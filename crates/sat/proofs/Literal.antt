-- Laws of literals: making one and taking it apart again, and what holds of its negation.
use Prim.Native.Nat.{ℕ, ◌+◌, ◌-◌, ◌*◌, ◌/◌, ◌%◌, ◌<◌}
use native.Mathlib.Omega.{arith}
use mathlib.Core.Path.{◌≡◌, refl, sym, ◌∙◌, ap}
use mathlib.Core.Logic.{⊎_elim}
use mathlib.Core.Bool.{Bool, true, false, not, true≢false, not-not}
use lib.Dec.{eqb}
use borrow.Author.Tests.{eq-eqb, ne_eqb}
use Rattle.base.specs.Iter.{pick}
use Rattle.base.proofs.Loop.{pick_yes, pick_no, eq_or_not}
use Rattle.sat.specs.Literal.{literal, variable, is_negated, negate, value, Holds}

-- document 01's variables give back their number and their sign
pub literal_variable : (v : ℕ) (negated : Bool) → v < 4096 → variable (literal v negated) ≡ v
unfolding literal pick
literal_variable v true h = omega arith
literal_variable v false h = omega arith

pub literal_sign : (v : ℕ) (negated : Bool) → v < 4096 → is_negated (literal v negated) ≡ negated
unfolding literal pick
literal_sign v true h = eq-eqb ((2 * (v % 32768) + 1) % 2) 1 (omega arith)
literal_sign v false h = ne_eqb ((2 * (v % 32768) + 0) % 2) 1 (λ (e : (2 * (v % 32768) + 0) % 2 ≡ 1). omega arith)

-- and every literal is that of its variable and its sign
pub variable_literal : (l : ℕ) → l < 8192 → literal (variable l) (is_negated l) ≡ l
unfolding literal
variable_literal l h = ⊎_elim
    (λ (e : l % 2 ≡ 1). ap (λ (k : ℕ). 2 * (l / 2 % 32768) + k) (pick_yes 1 0 (eq-eqb (l % 2) 1 e)) ∙ omega arith)
    (λ (e : l % 2 ≡ 1 → ⊥). ap (λ (k : ℕ). 2 * (l / 2 % 32768) + k) (pick_no 1 0 (ne_eqb (l % 2) 1 e)) ∙ even e)
    (eq_or_not (l % 2) 1)
  where
    even : (l % 2 ≡ 1 → ⊥) → 2 * (l / 2 % 32768) + 0 ≡ l
    even e = let z : l % 2 ≡ 0 = ⊎_elim (λ (a : l % 2 ≡ 0). a) (λ (a : l % 2 ≡ 0 → ⊥). absurd (e (omega arith))) (eq_or_not (l % 2) 0) in omega arith

even_negate : (σ : ℕ → Bool) (l : ℕ) → l % 2 ≡ 0 → value σ (negate l) ≡ not (value σ l)
unfolding value negate
even_negate σ l h =
    let a : eqb (l % 2) 0 ≡ true = eq-eqb _ _ h in
    let b : eqb ((l + 1) % 2) 0 ≡ false = ne_eqb _ _ (λ (k : (l + 1) % 2 ≡ 0). omega arith) in
    let c : (l + 1) / 2 ≡ l / 2 = omega arith in
    rw (pick_yes (l + 1) (l - 1) a, pick_yes (σ (l / 2)) (not (σ (l / 2))) a, pick_no _ _ b, c) refl

odd_negate : (σ : ℕ → Bool) (l : ℕ) → (l % 2 ≡ 0 → ⊥) → value σ (negate l) ≡ not (value σ l)
unfolding value negate
odd_negate σ l h =
    let a : eqb (l % 2) 0 ≡ false = ne_eqb _ _ h in
    let b : eqb ((l - 1) % 2) 0 ≡ true = eq-eqb ((l - 1) % 2) 0 (omega arith) in
    let c : (l - 1) / 2 ≡ l / 2 = omega arith in
    rw (pick_no (l + 1) (l - 1) a, pick_no (σ (l / 2)) (not (σ (l / 2))) a, pick_yes _ _ b, c) (sym (not-not _))

pub value_negate : (σ : ℕ → Bool) (l : ℕ) → value σ (negate l) ≡ not (value σ l)
value_negate σ l = ⊎_elim (even_negate σ l) (odd_negate σ l) (eq_or_not (l % 2) 0)

even_twice : (l : ℕ) → l % 2 ≡ 0 → negate (negate l) ≡ l
unfolding negate
even_twice l h =
    let b : eqb ((l + 1) % 2) 0 ≡ false = ne_eqb _ _ (λ (k : (l + 1) % 2 ≡ 0). omega arith) in
    rw (pick_yes (l + 1) (l - 1) (eq-eqb _ _ h), pick_no _ _ b) (omega arith)

odd_twice : (l : ℕ) → (l % 2 ≡ 0 → ⊥) → negate (negate l) ≡ l
unfolding negate
odd_twice l h =
    let b : eqb ((l - 1) % 2) 0 ≡ true = eq-eqb ((l - 1) % 2) 0 (omega arith) in
    rw (pick_no (l + 1) (l - 1) (ne_eqb _ _ h), pick_yes _ _ b) (omega arith)

pub negate_twice : (l : ℕ) → negate (negate l) ≡ l
negate_twice l = ⊎_elim (even_twice l) (odd_twice l) (eq_or_not (l % 2) 0)

pub negate_holds : (σ : ℕ → Bool) (l : ℕ) → (Holds σ l → ⊥) → Holds σ (negate l)
negate_holds σ l n = value_negate σ l ∙ go (value σ l) n
  where
    go : (t : Bool) → (t ≡ true → ⊥) → not t ≡ true
    go true n = absurd (n refl)
    go false n = refl

pub negate_fails : (σ : ℕ → Bool) (l : ℕ) → Holds σ (negate l) → Holds σ l → ⊥
negate_fails σ l a b = true≢false (sym a ∙ value_negate σ l ∙ ap not b)

-- a literal and its negation have one variable
pub variable_negate : (l : ℕ) → variable (negate l) ≡ variable l
unfolding negate
variable_negate l = ⊎_elim
    (λ (e : l % 2 ≡ 0). ap variable (pick_yes (l + 1) (l - 1) (eq-eqb (l % 2) 0 e)) ∙ omega arith)
    (λ (e : l % 2 ≡ 0 → ⊥). ap variable (pick_no (l + 1) (l - 1) (ne_eqb (l % 2) 0 e)) ∙ omega arith)
    (eq_or_not (l % 2) 0)
