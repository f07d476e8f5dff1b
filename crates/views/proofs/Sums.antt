-- The lower bounds of the vertices, added at their potential regions' labels; separate ranges of a region need no more.
use Prim.Native.Nat.{ℕ, zero, suc, ◌+◌, ◌*◌, ◌<◌, ◌≤◌}
use native.Mathlib.Omega.{arith}
use native.Mathlib.Numerals.{add-one}
use mathlib.Core.Path.{◌≡◌, refl, ap, ◌∙◌}
use mathlib.Core.Bool.{Bool, true, false, ◌&&◌}
use mathlib.Core.List.{List, [], ◌∷◌, ◌++◌}
use lib.Dec.{eqb, ltb}
use lib.ListN.{get_or, set, replicate}
use borrow.Author.Tests.{eq-eqb, ne_eqb, ltb-true, ltb-false}
use Rattle.base.specs.Iter.{pick}
use Rattle.base.specs.Lists.{tab, collect, total}
use Rattle.base.proofs.Lists.{tab_at}
use Rattle.base.proofs.Loop.{pick_ind, pick_yes, pick_no}
use Rattle.division.specs.Plan.{Plan}
use Rattle.division.specs.State.{State}
use Rattle.division.specs.Views.{insert, sorted, cells_of}
use Rattle.division.specs.Conflicts.{sum_lower, greedy}
use Rattle.noting.specs.Words.{lower_of, state_of}
use Rattle.views.specs.Words.{potential_region_of}
use Rattle.views.specs.Cells.{lower_bound_sum, lower_bound_sums}
use Rattle.views.proofs.Separated.{capped_few}
use Rattle.views.proofs.Taken.{tab_same, tab_set, tab_most}

-- ---- the loop that adds them up
module _ (id low : ℕ → ℕ) (n : ℕ) where
  pub sum_at : ℕ → ℕ → ℕ
  sum_at v r = total (λ i. eqb (id i) r) low v

  pub record Summing (sums : List ℕ) (v : ℕ) : Type 0 where
    pub room : n ≤ 64
    pub within : v ≤ n
    pub small : (r : ℕ) → sum_at v r ≤ v * 4294967295
    pub is : sums ≡ tab (sum_at v) 64

  sum_more : (v r : ℕ) → sum_at (v + 1) r ≡ sum_at v r + pick (eqb (id v) r) (low v) 0
  unfolding sum_at total
  sum_more v r = rw add-one refl

  pub sum_begins : n ≤ 64 → Summing (replicate 64 0) 0
  unfolding sum_at total tab
  sum_begins h = record { room = h; within = omega arith; small = λ r. omega arith; is = refl }

  pub sum_fits : (sums : List ℕ) (v r x : ℕ) → Summing sums v → v < n → x ≤ 4294967295 → get_or sums r 0 + x < 18446744073709551616
  sum_fits sums v r x p h k =
      let e = ap (λ (l : List ℕ). get_or l r 0) p.is in
      omega (arith, e, tab_most (sum_at v) 64 r _ p.small, p.room)

  module _ (sums : List ℕ) (v r x : ℕ) (p : Summing sums v) (h : v < n) (er : r ≡ id v) (ex : x ≡ low v) (k : x ≤ 4294967295) where
    same : (q : ℕ) → (q ≡ r → ⊥) → sum_at v q ≡ sum_at (v + 1) q
    same q m = let e = pick_no {b = eqb (id v) q} (low v) 0 (ne_eqb (id v) q (λ (z : id v ≡ q). m (omega arith))) in omega (arith, sum_more v q)

    more : sum_at v r + x ≡ sum_at (v + 1) r
    more = let e = pick_yes {b = eqb (id v) r} (low v) 0 (eq-eqb (id v) r (omega arith)) in omega (arith, sum_more v r)

    small_more : (q : ℕ) → sum_at (v + 1) q ≤ (v + 1) * 4294967295
    small_more q =
        let e = pick_ind (λ (y : ℕ). y ≤ 4294967295) (eqb (id v) q) (low v) 0 (λ _. omega arith) (λ _. omega arith) in
        omega (arith, sum_more v q, p.small q, e)

    added : pick (ltb r 64) (set sums r (get_or sums r 0 + x)) sums ≡ tab (sum_at (v + 1)) 64
    added = pick_ind (λ (l : List ℕ). l ≡ tab (sum_at (v + 1)) 64) (ltb r 64) _ _
        (λ t.
        let at = tab_at (sum_at v) 64 r (ltb-true r 64 t) in
        ap (λ (l : List ℕ). set l r (get_or l r 0 + x)) p.is ∙ ap (λ (y : ℕ). set (tab (sum_at v) 64) r (y + x)) at ∙
        ap (λ (y : ℕ). set (tab (sum_at v) 64) r y) more ∙ tab_set (sum_at v) (sum_at (v + 1)) 64 r same)
        (λ t. let g = ltb-false r 64 t in p.is ∙ tab_same _ _ 64 (λ q l. same q (λ (e : q ≡ r). omega arith)))

    pub sum_adds : (sums' : List ℕ) → sums' ≡ pick (ltb r 64) (set sums r (get_or sums r 0 + x)) sums → Summing sums' (v + 1)
    sum_adds sums' e = record { room = p.room; within = omega arith; small = small_more; is = e ∙ added }

  pub sum_ends : (sums : List ℕ) (v : ℕ) → Summing sums v → n ≤ v → sums ≡ tab (λ r. total (λ i. eqb (id i) r) low n) 64
  unfolding sum_at
  sum_ends sums v p h = let e : v ≡ n = omega (arith, p.within) in p.is ∙ ap (λ (k : ℕ). tab (λ r. total (λ i. eqb (id i) r) low k) 64) e

-- ---- separate ranges are some of the region's
module _ (s : State) where
  greedy_sum : (cur : ℕ) (ps : List ℕ) → sum_lower s (greedy s cur ps) ≤ sum_lower s ps
  unfolding greedy sum_lower
  greedy_sum cur [] = omega arith
  greedy_sum cur (p ∷ ps) =
      let a = greedy_sum (s.upper p) ps in
      let b = greedy_sum cur ps in
      pick_ind (λ (x : List ℕ). sum_lower s x ≤ s.lower p + sum_lower s ps) (ltb cur (s.lower p)) _ _ (λ _. omega arith) (λ _. omega arith)

  insert_sum : (p : ℕ) (ps : List ℕ) → sum_lower s (insert s p ps) ≡ s.lower p + sum_lower s ps
  unfolding insert sum_lower
  insert_sum p [] = refl
  insert_sum p (q ∷ ps) =
      let a = insert_sum p ps in
      pick_ind (λ (x : List ℕ). sum_lower s x ≡ s.lower p + (s.lower q + sum_lower s ps)) _ _ _ (λ _. refl) (λ _. omega arith)

  sorted_sum : (ps : List ℕ) → sum_lower s (sorted s ps) ≡ sum_lower s ps
  unfolding sorted sum_lower
  sorted_sum [] = refl
  sorted_sum (p ∷ ps) = insert_sum p (sorted s ps) ∙ ap (λ (x : ℕ). s.lower p + x) (sorted_sum ps)

  append_sum : (ps qs : List ℕ) → sum_lower s (ps ++ qs) ≡ sum_lower s ps + sum_lower s qs
  unfolding sum_lower
  append_sum [] qs = omega arith
  append_sum (p ∷ ps) qs = let e = append_sum ps qs in omega arith

  one_sum : (b t : Bool) (p : ℕ) → sum_lower s (pick (b && t) (p ∷ []) []) ≤ pick b (s.lower p) 0
  unfolding pick sum_lower
  one_sum true true p = omega arith
  one_sum true false p = omega arith
  one_sum false t p = omega arith

  collect_sum : (b t : ℕ → Bool) (n : ℕ) → sum_lower s (collect (λ p. pick (b p && t p) (p ∷ []) []) n) ≤ total b s.lower n
  unfolding collect total sum_lower
  collect_sum b t zero = omega arith
  collect_sum b t (suc n) =
      omega (arith, append_sum (collect (λ p. pick (b p && t p) (p ∷ []) []) n) (pick (b n && t n) (n ∷ []) []), collect_sum b t n, one_sum (b n) (t n) n)

  separate_most : (d : Plan) (id : ℕ → ℕ) (r : ℕ) → sum_lower s (greedy s 0 (cells_of d s id r)) ≤ total (λ v. eqb (id v) r) s.lower d.vertices
  unfolding cells_of
  separate_most d id r =
      let c = collect (λ p. pick (eqb (id p) r && ltb 0 (d.domain_len p)) (p ∷ []) []) d.vertices in
      omega (arith, greedy_sum 0 (sorted s c), sorted_sum c, collect_sum (λ p. eqb (id p) r) (λ p. ltb 0 (d.domain_len p)) d.vertices)

pub needed_most : (noted view : List ℕ) (d : Plan) (r : ℕ) → d.vertices ≤ 64 →
    sum_lower (state_of noted) (greedy (state_of noted) 0 (cells_of d (state_of noted) (potential_region_of view) r)) ≤ lower_bound_sum noted view d.vertices r
unfolding lower_bound_sum
needed_most noted view d r h =
    let e = ap (total (λ v. eqb (potential_region_of view v) r) (lower_of noted)) (capped_few d.vertices h) in
    omega (arith, separate_most (state_of noted) d (potential_region_of view) r, e)

-- an entry of them
pub sums_at : (noted view sums : List ℕ) (n m r : ℕ) → sums ≡ lower_bound_sums noted view n → n ≡ m → r < 64 → get_or sums r 0 ≡ lower_bound_sum noted view m r
unfolding lower_bound_sums
sums_at noted view sums n m r e f h = ap (λ (l : List ℕ). get_or l r 0) e ∙ tab_at (lower_bound_sum noted view n) 64 r h ∙ ap (λ (k : ℕ). lower_bound_sum noted view k r) f
