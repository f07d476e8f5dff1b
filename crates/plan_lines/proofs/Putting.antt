-- Each function's result, over plain variables.
use mathlib.Core.Path.{◌≡◌, refl, sym, ap, ap₂, ◌∙◌}
use mathlib.Core.List.{List}
use Prim.Native.Nat.{ℕ, ◌+◌, ◌*◌, ◌-◌, ◌≤◌, ◌<◌, min}
use native.Mathlib.Omega.{arith}
use lib.Dec.{ltb}
use lib.IntN.{ℤ, pos}
use lib.ListN.{set}
use borrow.Author.Tests.{ltb-true, ltb-false, lt-ltb, le-ltb, le-leb, lt-leb}
use Rattle.base.proofs.Loop.{pick_yes, pick_no, pick_ind}
use Rattle.plan_lines.specs.Lines.{as_number, head_put, lits_put, numbers_put, vertex_put, edge_put}

pub as_number_min : (n k : ℕ) → k ≡ min n 1000000 → pos k ≡ as_number n
unfolding as_number
as_number_min n k e = pick_ind (λ (z : ℤ). pos k ≡ z) (ltb n 1000000) (pos n) (pos 1000000)
    (λ t. let h = ltb-true n 1000000 t in let q : k ≡ n = omega arith in ap pos q)
    (λ t. let h = ltb-false n 1000000 t in let q : k ≡ 1000000 = omega arith in ap pos q)

pub edge_put_lem : (u v l u' v' l' : ℤ) (g : ℕ) (es : List ℤ) → g < 128 → u' ≡ u → v' ≡ v → l' ≡ l →
    set (set (set es (3 * g) u') (3 * g + 1) v') (3 * g + 2) l' ≡ edge_put u v l g es
unfolding edge_put
edge_put_lem u v l u' v' l' g es h a b c = (λ i. set (set (set es (3 * g) (a i)) (3 * g + 1) (b i)) (3 * g + 2) (c i)) ∙ sym (pick_yes _ _ (lt-ltb g 128 h))

pub head_put_lem : (w w' s r : ℤ) (k n m v : ℕ) (vs : List ℤ) → w' ≡ w → s ≡ as_number k → m ≡ n - k → r ≡ as_number m →
    set (set (set vs (67 * v) w') (67 * v + 1) s) (67 * v + 2) r ≡ head_put w k n v vs
unfolding head_put
head_put_lem w w' s r k n m v vs a b d e = λ i. set (set (set vs (67 * v) (a i)) (67 * v + 1) (b i)) (67 * v + 2) ((e ∙ ap as_number d) i)
