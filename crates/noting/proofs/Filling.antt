-- First and last sizes stored a vertex at a time are the first sizes stored, then the last ones.
use mathlib.Core.Path.{◌≡◌, refl, sym, ap, ap₂, ◌∙◌}
use mathlib.Core.List.{List}
use Prim.Native.Nat.{ℕ, zero, suc, ◌+◌, ◌<◌}
use native.Mathlib.Omega.{arith}
use native.Mathlib.Numerals.{add-one}
use lib.ListN.{set}
use lib.Seq.{set_comm}
use Rattle.base.specs.Iter.{iter}
use Rattle.base.specs.Lists.{filled}

-- a store before a run of stores
store_first : (f : ℕ → ℕ) (a j x n : ℕ) (m : List ℕ) → j < a → set (filled a n f m) j x ≡ filled a n f (set m j x)
unfolding filled iter
store_first f a j x zero m h = refl
store_first f a j x (suc n) m h =
    set_comm (filled a n f m) (a + n) j (f n) x (λ (e : a + n ≡ j). omega arith)
    ∙ ap (λ (l : List ℕ). set l (a + n) (f n)) (store_first f a j x n m h)

filled_more : (f : ℕ → ℕ) (a n : ℕ) (m : List ℕ) → filled a (n + 1) f m ≡ set (filled a n f m) (a + n) (f n)
unfolding filled iter
filled_more f a n m = ap (λ (k : ℕ). filled a k f m) (add-one n)

pub filled_none : (f g : ℕ → ℕ) (a b : ℕ) (m : List ℕ) → m ≡ filled b 0 g (filled a 0 f m)
unfolding filled iter
filled_none f g a b m = refl

pub filled_both : (f g : ℕ → ℕ) (a b n : ℕ) (m l : List ℕ) (x y : ℕ) → a + n < b → l ≡ filled b n g (filled a n f m) → x ≡ f n → y ≡ g n → set (set l (a + n) x) (b + n) y ≡ filled b (n + 1) g (filled a (n + 1) f m)
filled_both f g a b n m l x y h e hx hy =
    ap (λ (k : List ℕ). set (set k (a + n) x) (b + n) y) e
    ∙ ap₂ (λ (u v : ℕ). set (set (filled b n g (filled a n f m)) (a + n) u) (b + n) v) hx hy
    ∙ ap (λ (k : List ℕ). set k (b + n) (g n)) (store_first g b (a + n) (f n) n (filled a n f m) h ∙ ap (filled b n g) (sym (filled_more f a n m)))
    ∙ sym (filled_more g b n (filled a (n + 1) f m))
