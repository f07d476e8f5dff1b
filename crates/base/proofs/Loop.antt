-- Laws of a loop, of a choice by a test, and of a list after a store.
use Prim.Native.Nat.{ℕ, zero, suc, ◌+◌, ◌<◌, ◌≤◌}
use native.Mathlib.Nat.{le_step, lt-suc_self, le_antisymm, not-suc-le-zero, le_of_suc-le-suc}
use native.Mathlib.Numerals.{add-one}
use native.Mathlib.Decide.{ℕ_discrete}
use mathlib.Core.Path.{◌≡◌, refl, sym, ◌∙◌, ap}
use mathlib.Core.Logic.{◌⊎◌, inl, inr}
use mathlib.Core.Bool.{Bool, true, false, false≢true}
use mathlib.Core.List.{List, [], ◌∷◌}
use lib.ListN.{length, get_or, set}
use lib.Seq.{get_or-set_other}
use Rattle.base.specs.Iter.{iter, pick}

pub iter_ind : {A : Type 0} (P : ℕ → A → Type 0) (f : ℕ → A → A) (a : A) (n : ℕ) → P 0 a →
    ((i : ℕ) (x : A) → i < n → P i x → P (suc i) (f i x)) → P n (iter f n a)
unfolding iter
iter_ind P f a zero z s = z
iter_ind P f a (suc n) z s = s n (iter f n a) (lt-suc_self n) (iter_ind P f a n z (λ i x h p. s i x (le_step h) p))

pub iter_zero : {A : Type 0} (f : ℕ → A → A) (a : A) → a ≡ iter f 0 a
unfolding iter
iter_zero f a = refl

-- one turn more, as code counts
pub iter_more : {A : Type 0} (f : ℕ → A → A) (a : A) (n : ℕ) (x y : A) → x ≡ iter f n a → y ≡ f n x → y ≡ iter f (n + 1) a
unfolding iter
iter_more f a n x y e h = rw add-one (h ∙ ap (f n) e)

pub pick_ind : {A : Type 0} (P : A → Type 0) (b : Bool) (x y : A) → (b ≡ true → P x) → (b ≡ false → P y) → P (pick b x y)
unfolding pick
pick_ind P true x y f g = f refl
pick_ind P false x y f g = g refl

pub pick_yes : {A : Type 0} {b : Bool} (x y : A) → b ≡ true → pick b x y ≡ x
unfolding pick
pick_yes x y e = ap (λ (t : Bool). pick t x y) e

pub pick_no : {A : Type 0} {b : Bool} (x y : A) → b ≡ false → pick b x y ≡ y
unfolding pick
pick_no x y e = ap (λ (t : Bool). pick t x y) e

-- a test is true or false, with the equation at hand
pub tested {ℓ} : {X : Type ℓ} (b : Bool) → (b ≡ true → X) → (b ≡ false → X) → X
tested true f g = f refl
tested false f g = g refl

pub eq_or_not : (m n : ℕ) → (m ≡ n) ⊎ (m ≡ n → ⊥)
eq_or_not m n = elim (ℕ_discrete m n) [ yes e ↦ inl e | no f ↦ inr f ]

-- what stands in a list after a store stood there before, or is what was stored
pub set_cases : {A : Type 0} (l : List A) (q r : ℕ) (a d x : A) → get_or (set l q a) r d ≡ x → (r ≡ q) ⊎ (get_or l r d ≡ x)
set_cases l q r a d x h = elim (ℕ_discrete r q) [ yes e ↦ inl e | no f ↦ inr (sym (get_or-set_other l q r a d f) ∙ h) ]

-- the loop is left
pub iter_done : {A : Type 0} (f : ℕ → A → A) (a : A) (n m : ℕ) (x : A) → x ≡ iter f n a → n ≤ m → m ≤ n → x ≡ iter f m a
iter_done f a n m x e h k = e ∙ ap (λ i. iter f i a) (le_antisymm h k)

pub true_or : (b : Bool) → (b ≡ true) ⊎ (b ≡ true → ⊥)
true_or true = inl refl
true_or false = inr (λ e. false≢true e)

-- within a list the default does not matter
pub get_d_any : {A : Type 0} (l : List A) (i : ℕ) (a b : A) → i < length l → get_or l i a ≡ get_or l i b
get_d_any [] i a b h = absurd (not-suc-le-zero h)
get_d_any (x ∷ l) zero a b h = refl
get_d_any (x ∷ l) (suc i) a b h = get_d_any l i a b (le_of_suc-le-suc h)
