-- Refusals 10 and 11 as the calls ask them, from what the log says stands.
use mathlib.Core.Path.{◌≡◌, refl, sym, ap, ap₂, ◌∙◌}
use mathlib.Core.Logic.{⊎_elim}
use mathlib.Core.Bool.{Bool, true, false, not, ◌||◌}
use mathlib.Core.List.{List, [], ◌∷◌}
use Prim.Native.Nat.{ℕ, ◌/◌, ◌<◌}
use native.Mathlib.Omega.{arith}
use lib.Dec.{eqb}
use borrow.Author.Tests.{eq-eqb, ne_eqb, eqb-true, eqb-false}
use Rattle.base.specs.Iter.{pick}
use Rattle.base.proofs.Loop.{pick_yes, tested, eq_or_not}
use Rattle.base.proofs.Tests.{or_yes, or_next, or_both, not_false}
use Rattle.sat.specs.Literal.{negate}
use Rattle.noting.specs.Standing.{has_variable, newest, not_newest}
use Rattle.noting.proofs.Vertex.{one_variable, negate_other}
use Rattle.calls.specs.Table.{has}
use Rattle.calls.specs.Calls.{World, Outcome, refuse, taken, take_back}
use Rattle.calls.specs.Claim.{tail}
use Rattle.refusals.specs.Calls.{taken_back}

-- a literal of l's variable is l or its negation
same_variable : (x l : ℕ) → eqb (x / 2) (l / 2) ≡ (eqb x l || eqb x (negate l))
same_variable x l = tested (eqb (x / 2) (l / 2))
    (λ t. let e : x / 2 ≡ l / 2 = eqb-true _ _ t in t ∙ ⊎_elim
    (λ (q : x ≡ l). or_yes (eqb x (negate l)) (eq-eqb x l q))
    (λ (q : x ≡ l → ⊥). or_next {a = eqb x l} (eqb x (negate l)) true (ne_eqb x l q) (sym (eq-eqb x (negate l) (one_variable l x (sym e) (λ (z : l ≡ x). q (sym z))))))
    (eq_or_not x l))
    (λ t. let n : x / 2 ≡ l / 2 → ⊥ = eqb-false _ _ t in
    t ∙ sym (or_both (ne_eqb x l (λ (q : x ≡ l). n (ap (λ (i : ℕ). i / 2) q))) (ne_eqb x (negate l) (λ (q : x ≡ negate l). n (sym (negate_other l x q).1)))))

pub stands_is : (l : ℕ) (ls : List ℕ) → has_variable (l / 2) ls ≡ (has ls l || has ls (negate l))
unfolding has_variable has
stands_is l [] = refl
stands_is l (x ∷ xs) = ap₂ (λ (a b : Bool). a || b) (same_variable x l) (stands_is l xs) ∙ swap (eqb x l) (eqb x (negate l)) (has xs l) (has xs (negate l))
  where
    swap : (a b c d : Bool) → ((a || b) || (c || d)) ≡ ((a || c) || (b || d))
    swap true b c d = refl
    swap false true true d = refl
    swap false true false d = refl
    swap false false c d = refl

-- 10, "literal to be notified, or its negation, stands"
pub taken_is : (w : World) (l : ℕ) → has_variable (l / 2) w.standing ≡ taken w l
unfolding taken
taken_is w l = stands_is l w.standing

pick_not : (b : Bool) (o q : Outcome) → pick b o q ≡ pick (not b) q o
unfolding pick
pick_not true o q = refl
pick_not false o q = refl

-- 11, "undo not of the newest standing"
pub newest_is : (w : World) (l : ℕ) (ls : List ℕ) → l < 65535 → take_back w l ls ≡ pick (not_newest l ls) (refuse 11 w []) (taken_back w ls)
unfolding not_newest newest take_back taken_back tail
newest_is w l [] h = sym (pick_yes _ _ (ap not (ne_eqb 65535 l (λ (e : 65535 ≡ l). omega arith))))
newest_is w l (x ∷ xs) h = pick_not (eqb x l) _ _

pub newest_there : (l : ℕ) (ls : List ℕ) → l < 65535 → not_newest l ls ≡ false → (xs : List ℕ) × (ls ≡ l ∷ xs)
unfolding not_newest newest
newest_there l [] h e = absurd (let z : 65535 ≡ l = eqb-true 65535 l (not_false (eqb 65535 l) e) in omega arith)
newest_there l (x ∷ xs) h e = (xs, ap (λ (n : ℕ). n ∷ xs) (eqb-true x l (not_false (eqb x l) e)))

pub there_newest : (l : ℕ) (xs : List ℕ) → not_newest l (l ∷ xs) ≡ false
unfolding not_newest newest
there_newest l xs = ap not (eq-eqb l l refl)
