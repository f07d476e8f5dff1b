-- The first entries of a list, and those that are left of them.
use Prim.Native.Nat.{ℕ, zero, suc, ◌+◌, ◌-◌, ◌<◌, ◌≤◌}
use native.Mathlib.Omega.{arith}
use native.Mathlib.Numerals.{add-one}
use mathlib.Core.Path.{◌≡◌, refl, ap, ap₂, ◌∙◌}
use mathlib.Core.List.{List, [], ◌∷◌, ◌++◌}
use lib.ListN.{length, get_or, set}
use lib.Seq.{get_or-set_same, get_or-set_other}
use Rattle.base.specs.Lists.{tab}
use Rattle.plan.specs.Words.{word}

pub tab_same : (f g : ℕ → ℕ) (n : ℕ) → ((i : ℕ) → i < n → f i ≡ g i) → tab f n ≡ tab g n
unfolding tab
tab_same f g zero h = refl
tab_same f g (suc n) h = ap₂ (λ (x : ℕ) (l : List ℕ). x ∷ l) (h 0 (omega arith)) (tab_same (λ i. f (suc i)) (λ i. g (suc i)) n (λ i k. h (suc i) (omega arith)))

-- one entry stored anew
pub tab_set : (f g : ℕ → ℕ) (n r : ℕ) → ((k : ℕ) → (k ≡ r → ⊥) → f k ≡ g k) → set (tab f n) r (g r) ≡ tab g n
unfolding tab
tab_set f g zero r h = refl
tab_set f g (suc n) zero h = ap (λ (l : List ℕ). g 0 ∷ l) (tab_same _ _ n (λ i k. h (suc i) (λ (e : suc i ≡ 0). omega arith)))
tab_set f g (suc n) (suc r) h = ap₂ (λ (x : ℕ) (l : List ℕ). x ∷ l) (h 0 (λ (e : 0 ≡ suc r). omega arith))
    (tab_set (λ i. f (suc i)) (λ i. g (suc i)) n r (λ k m. h (suc k) (λ (e : suc k ≡ suc r). m (omega arith))))

pub tab_most : (f : ℕ → ℕ) (n r m : ℕ) → ((k : ℕ) → f k ≤ m) → get_or (tab f n) r 0 ≤ m
unfolding tab
tab_most f zero r m h = omega arith
tab_most f (suc n) zero m h = h 0
tab_most f (suc n) (suc r) m h = tab_most (λ i. f (suc i)) n r m (λ k. h (suc k))

-- from place i on
abbrev pub rest : (ℕ → ℕ) → ℕ → ℕ → List ℕ
rest f n i = tab (λ k. f (i + k)) (n - i)

pub rest_zero : (f : ℕ → ℕ) (n : ℕ) → tab f n ≡ rest f n 0
rest_zero f n = let e : n ≡ n - 0 = omega arith in ap (tab f) e ∙ tab_same _ _ (n - 0) (λ i h. let z : i ≡ 0 + i = omega arith in ap f z)

pub rest_more : (f : ℕ → ℕ) (n i : ℕ) → i < n → rest f n i ≡ f i ∷ rest f n (i + 1)
unfolding tab
rest_more f n i h =
    let e : n - i ≡ suc (n - (i + 1)) = omega arith in
    let z : i + 0 ≡ i = omega arith in
    ap (tab (λ k. f (i + k))) e ∙
    ap₂ (λ (x : ℕ) (l : List ℕ). x ∷ l) (ap f z) (tab_same _ _ (n - (i + 1)) (λ k l. let y : i + suc k ≡ i + 1 + k = omega arith in ap f y))

pub rest_end : (f : ℕ → ℕ) (n i : ℕ) → n ≤ i → rest f n i ≡ []
unfolding tab
rest_end f n i h = let e : n - i ≡ 0 = omega arith in ap (tab (λ k. f (i + k))) e

-- one more at the end
tab_suc : (f : ℕ → ℕ) (n : ℕ) → tab f (suc n) ≡ tab f n ++ (f n ∷ [])
unfolding tab
tab_suc f zero = refl
tab_suc f (suc n) = ap (λ (l : List ℕ). f 0 ∷ l) (tab_suc (λ i. f (suc i)) n)

pub tab_last : (f : ℕ → ℕ) (n : ℕ) → tab f (n + 1) ≡ tab f n ++ (f n ∷ [])
tab_last f n = rw add-one (tab_suc f n)

-- one more stored
pub tab_stored : (l : List ℕ) (n x : ℕ) → n < length l → tab (word (set l n x)) (n + 1) ≡ tab (word l) n ++ (x ∷ [])
tab_stored l n x h =
    tab_last (word (set l n x)) n ∙
    ap₂ (λ (a : List ℕ) (y : ℕ). a ++ (y ∷ [])) (tab_same _ _ n (λ i k. get_or-set_other l n i x 0 (λ (e : i ≡ n). omega arith))) (get_or-set_same l n x 0 h)
