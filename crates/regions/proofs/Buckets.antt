-- The buckets of one pass hold what each region has.
use Prim.Native.Nat.{ℕ, zero, suc, ◌+◌, ◌*◌, ◌<◌, ◌≤◌}
use native.Mathlib.Nat.{not-suc-le-zero}
use native.Mathlib.Omega.{arith}
use mathlib.Core.Path.{◌≡◌, refl, sym, ◌∙◌, ap, subst}
use mathlib.Core.Logic.{⊎_elim}
use mathlib.Core.Bool.{true, false}
use mathlib.Core.List.{List, [], ◌∷◌}
use lib.Dec.{eqb, ltb}
use lib.ListN.{length, get_or, set, length-set}
use lib.Seq.{get_or-set_same, get_or-set_other}
use borrow.Author.Tests.{eq-eqb, ne_eqb, ltb-true, ltb-false}
use Rattle.base.specs.Iter.{iter, pick}
use Rattle.base.proofs.Loop.{iter_ind, iter_done, eq_or_not, pick_yes, pick_no}
use Rattle.graph.specs.Lists.{put, mapped, every}
use Rattle.base.specs.Lists.{total}
use Rattle.regions.specs.Labels.{label_of}
use Rattle.regions.specs.Buckets.{labels_below, weight_of, pour, poured, weighable}
use Rattle.graph.specs.Lists.{number_of}
use Rattle.graph.proofs.Lists.{mapped_at, mapped_length, every_at, and_both, and_no, and_no'}
use Rattle.graph.proofs.Mark.{set_keeps}
use Rattle.graph.proofs.Walkable.{pick_false}

-- each bucket after v vertices
record Pours (l : List ℕ) (w : ℕ → ℕ) (a : List ℕ) (v : ℕ) (x : List ℕ) : Type 0 where
  len : length x ≡ length a
  is : (r : ℕ) → get_or x r 0 ≡ get_or a r 0 + weight_of l w v r

pour_step : (l : List ℕ) (w : ℕ → ℕ) (a : List ℕ) (v : ℕ) (x : List ℕ) → label_of l v < length a → Pours l w a v x → Pours l w a (suc v) (pour l w v x)
unfolding pour total weight_of
pour_step l w a v x h p = record {
  len = length-set x (label_of l v) _ ∙ p.len;
  is = λ r.
      ⊎_elim (λ (e : r ≡ label_of l v).
      let z : pick (eqb (label_of l v) r) (w v) 0 ≡ w v = pick_yes (w v) 0 (eq-eqb (label_of l v) r (sym e)) in
      let y : get_or (set x (label_of l v) (get_or x (label_of l v) 0 + w v)) r 0 ≡ get_or x (label_of l v) 0 + w v =
      ap (λ j. get_or (set x (label_of l v) (get_or x (label_of l v) 0 + w v)) j 0) e ∙ get_or-set_same x (label_of l v) (get_or x (label_of l v) 0 + w v) 0 (omega (arith, p.len)) in
      let u : get_or x (label_of l v) 0 ≡ get_or x r 0 = ap (λ j. get_or x j 0) (sym e) in
      omega (arith, p.is r))
      (λ (e : r ≡ label_of l v → ⊥).
      let z : pick (eqb (label_of l v) r) (w v) 0 ≡ 0 = pick_no (w v) 0 (ne_eqb (label_of l v) r (λ f. e (sym f))) in
      omega (arith, get_or-set_other x (label_of l v) r (get_or x (label_of l v) 0 + w v) 0 e, p.is r))
      (eq_or_not r (label_of l v));
}

-- the weight at each label
pub poured_weight : (l : List ℕ) (w : ℕ → ℕ) (n : ℕ) (a : List ℕ) → n ≤ length a → ((v : ℕ) → v < n → label_of l v < n) → (r : ℕ) → r < n → get_or (poured l w n a) r 0 ≡ weight_of l w n r
unfolding poured weight_of total
poured_weight l w n a h low r k =
    let z = mapped (λ _ _. 0) n a in
    let len : length z ≡ length a = mapped_length (λ _ _. 0) a n in
    let p = iter_ind (Pours l w z) (pour l w) z n (record { len = refl; is = λ q. omega arith }) (λ v x lt p. pour_step l w z v x (omega (arith, low v lt)) p) in
    omega (arith, p.is r, mapped_at (λ _ _. 0) a r n h k)

-- no bucket holds more than 1,000,000 for each vertex passed
set_zero : (l : List ℕ) (k : ℕ) → get_or (set l k 0) k 0 ≡ 0
set_zero [] k = refl
set_zero (x ∷ l) zero = refl
set_zero (x ∷ l) (suc k) = set_zero l k

pub emptied : (n : ℕ) (a : List ℕ) (r : ℕ) → r < n → get_or (mapped (λ _ _. 0) n a) r 0 ≡ 0
unfolding put
emptied n a r h =
    iter_ind (λ k x. r < k → get_or x r 0 ≡ 0) (put (λ _ _. 0)) a n (λ k. absurd (not-suc-le-zero k))
    (λ k x _ p lt. ⊎_elim (λ (e : r ≡ k). subst (λ j. get_or (set x k 0) j 0 ≡ 0) (sym e) (set_zero x k)) (λ (e : r ≡ k → ⊥). get_or-set_other x k r 0 0 e ∙ p (omega arith)) (eq_or_not r k)) h

pub pour_small : (l : List ℕ) (w : ℕ → ℕ) (n m : ℕ) (a : List ℕ) → ((v : ℕ) → v < m → w v ≤ 1000000) → ((v : ℕ) → v < m → label_of l v < n) →
    (r : ℕ) → r < n → get_or (iter (pour l w) m (mapped (λ _ _. 0) n a)) r 0 ≤ m * 1000000
unfolding pour
pour_small l w n m a light low =
    iter_ind (λ k x. (r : ℕ) → r < n → get_or x r 0 ≤ k * 1000000) (pour l w) (mapped (λ _ _. 0) n a) m (λ r h. omega (arith, emptied n a r h))
    (λ k x lt p r h. set_keeps (λ y. y ≤ suc k * 1000000) x (label_of l k) r (get_or x (label_of l k) 0 + w k) (omega (arith, p (label_of l k) (low k lt), light k lt)) (omega (arith, p r h)))

-- one vertex more, as code has it
pub pour_as : (l : List ℕ) (w : ℕ → ℕ) (v : ℕ) (x : List ℕ) (r : ℕ) → r ≡ label_of l v → set x r (get_or x r 0 + w v) ≡ pour l w v x
unfolding pour
pour_as l w v x r e = ap (λ (j : ℕ). set x j (get_or x j 0 + w v)) e

pub pour_fits : (l : List ℕ) (w : ℕ → ℕ) (n v : ℕ) (a s₀ s : List ℕ) (r : ℕ) → n ≤ 64 → ((q : ℕ) → q < n → w q ≤ 1000000) → ((q : ℕ) → q < n → label_of l q < n) →
    s₀ ≡ mapped (λ _ _. 0) n a → s ≡ iter (pour l w) v s₀ → v < n → r ≡ label_of l v → get_or s r 0 + w v ≤ 64000000
pour_fits l w n v a s₀ s r h light low z e k i =
    let x : r < n = omega (arith, low v k) in
    let y : get_or s r 0 ≡ get_or (iter (pour l w) v (mapped (λ _ _. 0) n a)) r 0 = ap (λ (t : List ℕ). get_or t r 0) (e ∙ ap (iter (pour l w) v) z) in
    omega (arith, light v k, pour_small l w n v a (λ q h. light q (omega arith)) (λ q h. low q (omega arith)) r x)

pub poured_done : (l : List ℕ) (w : ℕ → ℕ) (n v : ℕ) (a s₀ s : List ℕ) → s₀ ≡ mapped (λ _ _. 0) n a → s ≡ iter (pour l w) v s₀ → v ≤ n → n ≤ v → s ≡ poured l w n a
unfolding poured
poured_done l w n v a s₀ s z e h k = iter_done _ _ _ _ _ e h k ∙ ap (iter (pour l w) n) z

-- what the tests tell
pub labels_known : (l words : List ℕ) (first n : ℕ) → labels_below l words first n ≡ true → (n ≤ 64) × (first + n ≤ length words) × ((v : ℕ) → v < n → label_of l v < n)
unfolding labels_below
labels_known l words first n e =
    let a = pick_false _ _ e in
    let b = pick_false _ _ a.1 in
    (ltb-false 64 n a.0, ltb-false _ _ b.0, λ v h. ltb-true _ _ (every_at (λ v. ltb (label_of l v) n) n b.1 v h))

pub light_known : (words : List ℕ) (first n : ℕ) → every (λ v. ltb (number_of words first v) 1000001) n ≡ true → (v : ℕ) → v < n → number_of words first v ≤ 1000000
light_known words first n e v h = omega (arith, ltb-true (number_of words first v) 1000001 (every_at (λ v. ltb (number_of words first v) 1000001) n e v h))

pub weighable_yes : (l words : List ℕ) (first n : ℕ) → labels_below l words first n ≡ true → every (λ v. ltb (number_of words first v) 1000001) n ≡ true → weighable l words first n ≡ true
unfolding weighable
weighable_yes l words first n a b = and_both _ _ a b

pub weighable_heavy : (l words : List ℕ) (first n : ℕ) → every (λ v. ltb (number_of words first v) 1000001) n ≡ false → weighable l words first n ≡ false
unfolding weighable
weighable_heavy l words first n e = and_no (labels_below l words first n) _ e

pub weighable_no : (l words : List ℕ) (first n : ℕ) → labels_below l words first n ≡ false → weighable l words first n ≡ false
unfolding weighable
weighable_no l words first n e = and_no' _ _ e
