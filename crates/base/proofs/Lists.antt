-- Laws of lists that are gathered in a loop, and of what holds of every element.
use Prim.Native.Nat.{ℕ, zero, suc, ◌<◌}
use native.Mathlib.Omega.{arith}
use native.Mathlib.Nat.{le_step, lt-suc_self, not-suc-le-zero, le_of_suc-le-suc, eq-or-lt_of_le}
use mathlib.Core.Path.{◌≡◌, refl, subst}
use mathlib.Core.Logic.{⊎_elim}
use mathlib.Core.List.{List, [], ◌∷◌, ◌++◌}
use lib.ListN.{get_or}
use Rattle.base.specs.Lists.{Every, none, more, collect, tab}

pub every_map : {P Q : ℕ → Type 0} {l : List ℕ} → ((q : ℕ) → P q → Q q) → Every P l → Every Q l
every_map f none = none
every_map f (more p e) = more (f _ p) (every_map f e)

pub every_left : {P : ℕ → Type 0} (a b : List ℕ) → Every P (a ++ b) → Every P a
every_left [] b e = none
every_left (x ∷ a) b (more p e) = more p (every_left a b e)

pub every_right : {P : ℕ → Type 0} (a b : List ℕ) → Every P (a ++ b) → Every P b
every_right [] b e = e
every_right (x ∷ a) b (more p e) = every_right a b e

pub every_append : {P : ℕ → Type 0} (a b : List ℕ) → Every P a → Every P b → Every P (a ++ b)
every_append [] b x y = y
every_append (z ∷ a) b (more p x) y = more p (every_append a b x y)

pub every_head : {P : ℕ → Type 0} {x : ℕ} {l : List ℕ} → Every P (x ∷ l) → P x
every_head (more p e) = p

pub every_only : {P : ℕ → Type 0} {x : ℕ} {l : List ℕ} → l ≡ x ∷ [] → Every P l → P x
every_only {P} q e = every_head (subst (Every P) q e)

pub every_collect : {P : ℕ → Type 0} (f : ℕ → List ℕ) (n i : ℕ) → i < n → Every P (collect f n) → Every P (f i)
unfolding collect
every_collect f zero i h e = absurd (not-suc-le-zero h)
every_collect {P} f (suc n) i h e =
    ⊎_elim (λ k. rw k (every_right (collect f n) (f n) e)) (λ k. every_collect f n i k (every_left (collect f n) (f n) e)) (eq-or-lt_of_le {n = i} {m = n} (omega arith))

pub collect_every : {P : ℕ → Type 0} (f : ℕ → List ℕ) (n : ℕ) → ((i : ℕ) → i < n → Every P (f i)) → Every P (collect f n)
unfolding collect
collect_every f zero h = none
collect_every f (suc n) h = every_append (collect f n) (f n) (collect_every f n (λ i k. h i (le_step k))) (h n (lt-suc_self n))

pub tab_at : (f : ℕ → ℕ) (n i : ℕ) → i < n → get_or (tab f n) i 0 ≡ f i
unfolding tab
tab_at f zero i h = absurd (not-suc-le-zero h)
tab_at f (suc n) zero h = refl
tab_at f (suc n) (suc i) h = tab_at (λ k. f (suc k)) n i (le_of_suc-le-suc h)
