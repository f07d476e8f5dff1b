-- Literals of different variables, all the plan's.
use mathlib.Core.Path.{◌≡◌, refl, sym, ap, ◌∙◌}
use mathlib.Core.Logic.{⊎_elim}
use mathlib.Core.Bool.{false}
use mathlib.Core.List.Memᴰ
use mathlib.Core.List.{List, [], ◌∷◌}
use Prim.Native.Nat.{ℕ, ◌/◌}
use lib.Dec.{eqb}
use borrow.Author.Tests.{eqb-false}
use Rattle.base.proofs.Tests.{or_none}
use Rattle.sat.specs.Literal.{negate}
use Rattle.division.specs.Noting.{In, Consistent}
use Rattle.noting.specs.Standing.{has_variable, OneEach, one}
use Rattle.noting.proofs.Vertex.{negate_other}

pub member_variable : (x a : ℕ) (ls : List ℕ) → In ls a → a / 2 ≡ x → has_variable x ls ≡ false → ⊥
unfolding has_variable
member_variable x a [] m e h = absurd (Memᴰ.not-nil m)
member_variable x a (l ∷ ls) m e h =
    let (p, q) = or_none (eqb (l / 2) x) _ h in
    ⊎_elim (λ (z : a ≡ l). eqb-false (l / 2) x p (ap (λ (n : ℕ). n / 2) (sym z) ∙ e)) (λ z. member_variable x a ls z e q) (Memᴰ.cases_cons m)

distinct_same : (ls : List ℕ) → OneEach ls → (a b : ℕ) → In ls a → In ls b → a / 2 ≡ b / 2 → a ≡ b
distinct_same [] d a b m n e = absurd (Memᴰ.not-nil m)
distinct_same (l ∷ ls) (one h d) a b m n e = ⊎_elim
    (λ (p : a ≡ l). ⊎_elim (λ (q : b ≡ l). p ∙ sym q) (λ q. absurd (member_variable (l / 2) b ls q (sym e ∙ ap (λ (k : ℕ). k / 2) p) h)) (Memᴰ.cases_cons n))
    (λ p. ⊎_elim (λ (q : b ≡ l). absurd (member_variable (l / 2) a ls p (e ∙ ap (λ (k : ℕ). k / 2) q) h)) (λ q. distinct_same ls d a b p q e) (Memᴰ.cases_cons n))
    (Memᴰ.cases_cons m)

-- never both signs
pub never_both : (ls : List ℕ) → OneEach ls → Consistent ls
never_both ls d l m n = let (a, b) = negate_other l (negate l) refl in a (distinct_same ls d l (negate l) m n b)
