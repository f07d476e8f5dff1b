-- How long the lists are.
use Prim.Native.Nat.{ℕ, zero, suc, ◌+◌, ◌<◌, ◌≤◌, zero-le, pred}
use native.Mathlib.Omega.{arith}
use native.Mathlib.Nat.{le_refl, le_step, lt-suc_self, le_trans, not-suc-le-zero}
use mathlib.Core.Path.{◌≡◌, refl, sym, ◌∙◌, ap}
use mathlib.Core.Logic.{◌⊎◌, ◌≢◌, inl, inr, ⊎_elim}
use mathlib.Core.Bool.{Bool, true, false, not, ◌&&◌, true≢false}
use mathlib.Core.List.{List, [], ◌∷◌}
use lib.Dec.{eqb, ltb}
use lib.ListN.{length, get_or, length-append, length-map}
use borrow.Author.Tests.{lt-ltb, ltb-true, eqb-true, eq-eqb, ne_eqb, not-true}
use Rattle.base.specs.Iter.{pick}
use Rattle.base.specs.Lists.{Every, none, more, collect, total}
use Rattle.base.proofs.Loop.{pick_yes, pick_ind}
use Rattle.base.proofs.Tests.{and_left, and_right, or_cases}
use Rattle.base.proofs.Lists.{every_map}
use Rattle.graph.specs.Search.{Scan, at, edge_to, searched}
use Rattle.graph.specs.Paths.{Leads}
use Rattle.graph.proofs.Base.{Parent}
use Rattle.graph.proofs.Bfs.{Pop, pop_all}
use Rattle.graph.proofs.Keep.{blank_fresh}
use Rattle.graph.proofs.Mark.{lt_cases}
use Rattle.division.specs.Plan.{Plan, Proper, left, right}
use Rattle.division.specs.Regions.{within}
use Rattle.division.specs.State.{decided, State, potential, Same}
use Rattle.division.specs.Reasons.{connected_path, decided_region, leaves, potential_region, Reason, list_of}
use Rattle.division.specs.Conflicts.{spans, Conflict, conflict_list}
use Rattle.division.specs.Noted.{Bounded}
use Rattle.division.proofs.Noted.{low_one, high_one}
use Rattle.division.specs.Explained.{Explains, by_in_group, by_between, by_too_large, by_large, by_small, by_mismatch, by_spread_low, by_spread_high, by_same_size}
use Rattle.division.specs.Proposed.{Spaced, IsConflict, is_disconnected, is_crossing, is_over, is_under, is_crowded, is_apart}
use Rattle.division.proofs.Walk.{finds, joined_below}
use Rattle.division.proofs.Sums.{total_parts}

zero_one : ◌≡◌ {A = ℕ} 0 1 → ⊥
zero_one e = omega arith

unfoldable pub sum : (ℕ → ℕ) → ℕ → ℕ
sum f zero = 0
sum f (suc n) = sum f n + f n

pub length_collect : (f : ℕ → List ℕ) (n : ℕ) → length (collect f n) ≡ sum (λ i. length (f i)) n
unfolding collect sum
length_collect f zero = refl
length_collect f (suc n) = length-append (collect f n) (f n) ∙ ap (λ k. k + length (f n)) (length_collect f n)

pub sum_le : (f g : ℕ → ℕ) (n : ℕ) → ((i : ℕ) → i < n → f i ≤ g i) → sum f n ≤ sum g n
unfolding sum
sum_le f g zero h = zero-le
sum_le f g (suc n) h = omega (arith, sum_le f g n (λ i k. h i (le_step k)), h n (lt-suc_self n))

sum_add : (f g : ℕ → ℕ) (n : ℕ) → sum (λ i. f i + g i) n ≡ sum f n + sum g n
unfolding sum
sum_add f g zero = refl
sum_add f g (suc n) = omega (arith, sum_add f g n)

sum_zero : (n : ℕ) → sum (λ i. 0) n ≡ 0
unfolding sum
sum_zero zero = refl
sum_zero (suc n) = omega (arith, sum_zero n)

pub sum_ones : (n : ℕ) → sum (λ i. 1) n ≡ n
unfolding sum
sum_ones zero = refl
sum_ones (suc n) = omega (arith, sum_ones n)

sum_swap : (c : ℕ → ℕ → ℕ) (m n : ℕ) → sum (λ p. sum (λ g. c p g) m) n ≡ sum (λ g. sum (λ p. c p g) n) m
unfolding sum
sum_swap c m zero = sym (sum_zero m)
sum_swap c m (suc n) = omega (arith, sum_swap c m n, sum_add (λ g. sum (λ p. c p g) n) (c n) m)

one_true : (b : Bool) → pick {A = ℕ} b 1 0 ≡ 1 → b ≡ true
unfolding pick
one_true true e = refl
one_true false e = absurd (zero_one e)

sum_some : (f : ℕ → ℕ) (n i : ℕ) → i < n → f i ≡ 1 → 1 ≤ sum f n
unfolding sum
sum_some f zero i h e = absurd (not-suc-le-zero h)
sum_some f (suc n) i h e = ⊎_elim (λ l. omega (arith, sum_some f n i l e)) (λ (q : i ≡ n). let z : f n ≡ 1 = sym (ap f q) ∙ e in omega arith) (lt_cases i n (omega arith))

-- at most one of them is one
pub sum_once : (f : ℕ → ℕ) (n : ℕ) → ((i : ℕ) → f i ≤ 1) → ((i j : ℕ) → f i ≡ 1 → f j ≡ 1 → i ≡ j) → sum f n ≤ 1
unfolding sum
sum_once f zero a o = zero-le
sum_once f (suc n) a o = go (f n) refl (sum_once f n a o)
  where
    zeros : (m : ℕ) → m ≤ n → f n ≡ 1 → sum f m ≡ 0
    zeros zero h e = refl
    zeros (suc m) h e =
        let x : f m ≢ 1 = λ w. let z : m ≡ n = o m n w e in omega arith in
        omega (arith, zeros m (omega arith) e, a m)

    go : (k : ℕ) → f n ≡ k → sum f n ≤ 1 → sum f n + f n ≤ 1
    go zero e r = omega arith
    go (suc k) e r =
        let x : f n ≡ 1 = omega (arith, a n) in
        omega (arith, zeros n (le_refl n) x)

-- a path is shorter than there are vertices
pub path_short : (d : Plan) (s : State) (k : Proper d) (u v : ℕ) → u < d.vertices → Same d s u v → length (connected_path d s u v) < d.vertices
unfolding connected_path
path_short d s k u v h j = let f = finds d k s.edge_state false u h in simp length-map (f.short v (f.all v j.0 j.1))

pub decided_short : (d : Plan) (s : State) (k : Proper d) (u : ℕ) → u < d.vertices → length (decided_region d s u) < d.vertices
unfolding decided_region
decided_short d s k u h = let f = finds d k s.edge_state false u h in rw (length_collect, sum_ones) (omega (arith, f.few))

-- The edges by which the vertices of a region were reached are different ones, so no more than there are.
module _ (d : Plan) (s : State) (k : Proper d) (u : ℕ) (hu : u < d.vertices) where
  abbrev r : Scan
  r = searched (decided d s) d.edges d.vertices u

  pop : Pop (decided d s) d.edges d.vertices u d.vertices r
  pop = pop_all (decided d s) d.edges d.vertices u k.fine _ blank_fresh hu

  abbrev by : ℕ → ℕ
  by i = edge_to r (at r i)

  parent : (i : ℕ) → 0 < i → i < r.count → Parent (decided d s) d.edges pop.lev r i
  parent i z c = ⊎_elim (λ (e : i ≡ 0). absurd (omega arith)) (λ p. p) (pop.base.parent i c)

  -- two vertices that were reached by one edge are one
  by_once : (i j : ℕ) → 0 < i → i < r.count → 0 < j → j < r.count → by i ≡ by j → i ≡ j
  by_once i j zi ci zj cj e =
      let p = parent i zi ci in
      let q = parent j zj cj in
      let same : at r i ≡ at r j → i ≡ j = pop.base.once i j ci cj in
      let turned : at r p.j ≡ at r j → at r i ≡ at r q.j → i ≡ j =
      λ a b. let x = pop.base.once p.j j (omega (arith, p.before)) cj a in
      let y = pop.base.once i q.j ci (omega (arith, q.before)) b in
      absurd (omega (arith, p.before, q.before)) in
      let lq : Leads (decided d s) d.edges (by i) (at r q.j) (at r j) = rw e q.leads in
      ⊎_elim
      (λ x. ⊎_elim (λ y. same (sym x.1 ∙ y.1)) (λ y. turned (sym x.0 ∙ y.1) (sym x.1 ∙ y.0)) lq.ends)
      (λ x. ⊎_elim (λ y. turned (sym x.0 ∙ y.1) (sym x.1 ∙ y.0)) (λ y. same (sym x.1 ∙ y.1)) lq.ends)
      p.leads.ends

  -- one, where the vertex at place i + 1 was reached by edge g
  reaching : ℕ → ℕ → ℕ
  reaching g i = pick (ltb (suc i) r.count && eqb (by (suc i)) g) 1 0

  reaching_most : (g i : ℕ) → reaching g i ≤ 1
  unfolding reaching
  reaching_most g i = pick_ind (λ x. x ≤ 1) _ _ _ (λ _. le_refl 1) (λ _. zero-le)

  reaching_once : (g i j : ℕ) → reaching g i ≡ 1 → reaching g j ≡ 1 → i ≡ j
  unfolding reaching
  reaching_once g i j a b =
      let x = one_true (ltb (suc i) r.count && eqb (by (suc i)) g) a in
      let y = one_true (ltb (suc j) r.count && eqb (by (suc j)) g) b in
      let z : suc i ≡ suc j = by_once (suc i) (suc j) (omega arith) (ltb-true _ _ (and_left _ _ x)) (omega arith) (ltb-true _ _ (and_left _ _ y))
      (eqb-true _ _ (and_right (ltb (suc i) r.count) _ x) ∙ sym (eqb-true _ _ (and_right (ltb (suc j) r.count) _ y))) in
      omega arith

  -- and each was reached by some edge
  reaching_some : (i : ℕ) → suc i < r.count → 1 ≤ sum (λ g. reaching g i) d.edges
  unfolding reaching
  reaching_some i c =
      sum_some (λ g. pick (ltb (suc i) r.count && eqb (by (suc i)) g) 1 0) d.edges (by (suc i)) (parent (suc i) (omega arith) c).leads.known
      (pick_yes 1 0 (rw (lt-ltb (suc i) r.count c, eq-eqb (by (suc i)) (by (suc i)) refl) refl))

  pub decided_few : length (decided_region d s u) ≤ d.edges
  unfolding decided_region
  decided_few = rw length_collect
      (le_trans (sum_le _ (λ i. sum (λ g. reaching g i) d.edges) (pred r.count) (λ i h. reaching_some i (omega arith)))
      (rw (sum_swap (λ i g. reaching g i) d.edges (pred r.count))
      (le_trans (sum_le _ (λ g. 1) d.edges (λ g h. sum_once _ (pred r.count) (reaching_most g) (reaching_once g))) (rw sum_ones (le_refl _)))))

-- which end of edge g is p, and the other end was not reached
leaves_end : (d : Plan) (s : State) (seen : ℕ → Bool) (p g : ℕ) → leaves d s seen p g ≡ true → ((left d g ≡ p) × (seen (right d g) ≡ false)) ⊎ ((right d g ≡ p) × (seen (left d g) ≡ false))
unfolding leaves
leaves_end d s seen p g e =
    ⊎_elim (λ x. inl (eqb-true _ _ (and_left _ _ x), not-true _ (and_right (eqb (left d g) p) _ x)))
    (λ x. inr (eqb-true _ _ (and_left _ _ x), not-true _ (and_right (eqb (right d g) p) _ x)))
    (or_cases _ _ (and_right (eqb (get_or s.edge_state g 0) 1) _ e))

-- one, where p was reached and edge g leaves from it
leaving : Plan → State → (ℕ → Bool) → ℕ → ℕ → ℕ
leaving d s seen p g = pick (seen p) (pick (leaves d s seen p g) 1 0) 0

leaving_most : (d : Plan) (s : State) (seen : ℕ → Bool) (p g : ℕ) → leaving d s seen p g ≤ 1
unfolding leaving
leaving_most d s seen p g = pick_ind (λ x. x ≤ 1) _ _ _ (λ _. pick_ind (λ x. x ≤ 1) _ _ _ (λ _. le_refl 1) (λ _. zero-le)) (λ _. zero-le)

leaving_both : (d : Plan) (s : State) (seen : ℕ → Bool) (p g : ℕ) → leaving d s seen p g ≡ 1 → (seen p ≡ true) × (leaves d s seen p g ≡ true)
unfolding leaving pick
leaving_both d s seen p g = go (seen p) (leaves d s seen p g)
  where
    go : (a b : Bool) → pick {A = ℕ} a (pick b 1 0) 0 ≡ 1 → (a ≡ true) × (b ≡ true)
    go true true e = (refl, refl)
    go true false e = absurd (zero_one e)
    go false b e = absurd (zero_one e)

leaving_once : (d : Plan) (s : State) (seen : ℕ → Bool) (g p q : ℕ) → leaving d s seen p g ≡ 1 → leaving d s seen q g ≡ 1 → p ≡ q
leaving_once d s seen g p q a b =
    let x = leaving_both d s seen p g a in
    let y = leaving_both d s seen q g b in
    ⊎_elim
    (λ u. ⊎_elim (λ v. sym u.0 ∙ v.0) (λ v. absurd (true≢false (sym x.0 ∙ ap seen (sym u.0) ∙ v.1))) (leaves_end d s seen q g y.1))
    (λ u. ⊎_elim (λ v. absurd (true≢false (sym x.0 ∙ ap seen (sym u.0) ∙ v.1))) (λ v. sym u.0 ∙ v.0) (leaves_end d s seen q g y.1))
    (leaves_end d s seen p g x.1)

row : (d : Plan) (s : State) (seen : ℕ → Bool) (p : ℕ) →
    length (pick (seen p) (collect (λ g. pick (leaves d s seen p g) (d.edge_lit g ∷ []) []) d.edges) []) ≤ sum (λ g. leaving d s seen p g) d.edges
unfolding leaving pick
row d s seen p = go (seen p)
  where
    one : (b : Bool) (l : ℕ) → length (pick b (l ∷ []) []) ≤ pick b 1 0
    one true l = le_refl 1
    one false l = le_refl 0

    go : (t : Bool) → length (pick t (collect (λ g. pick (leaves d s seen p g) (d.edge_lit g ∷ []) []) d.edges) []) ≤ sum (λ g. pick t (pick (leaves d s seen p g) 1 0) 0) d.edges
    go true = rw length_collect (sum_le _ _ d.edges (λ g h. one (leaves d s seen p g) (d.edge_lit g)))
    go false = zero-le

-- each edge leaves a potential region once
pub potential_short : (d : Plan) (s : State) (u : ℕ) → length (potential_region d s u) ≤ d.edges
unfolding potential_region
potential_short d s u =
    let seen = within d (potential d s) u in
    rw length_collect (le_trans (sum_le _ (λ p. sum (λ g. leaving d s seen p g) d.edges) d.vertices (λ p h. row d s seen p))
    (rw (sum_swap (leaving d s seen) d.edges d.vertices) (le_trans (sum_le _ (λ g. 1) d.edges (λ g h. sum_once _ d.vertices (λ p. leaving_most d s seen p g) (λ p q. leaving_once d s seen g p q)))
    (rw sum_ones (le_refl _)))))

pub spans_short : (d : Plan) (s : State) (b : Bounded d s) (ps : List ℕ) → Every (λ p. p < d.vertices) ps → length (spans s ps) ≤ length ps + length ps
unfolding spans
spans_short d s b [] x = zero-le
spans_short d s b (p ∷ ps) (more h x) =
    simp length-append (omega (arith, low_one d p (b.low p h), high_one d p (b.high p h), spans_short d s b ps x))

-- a reason fits a buffer of edges + 2 vertices + 3, which leaves one for the negation of a false proposal
pub reason_fits : (d : Plan) (s : State) (k : Proper d) (b : Bounded d s) (l : ℕ) (r : Reason) → Explains d s l r → length (list_of d s r) < d.edges + d.vertices + d.vertices + 3
unfolding list_of
reason_fits d s k b l r (by_in_group g h e a) = omega (arith, path_short d s k _ _ (k.fine.within g h).a a)
reason_fits d s k b l r (by_between i g f hi h e u v) =
    simp length-append (omega (arith, path_short d s k _ _ (k.fine.within i hi).a u, path_short d s k _ _ (k.fine.within i hi).b v))
reason_fits d s k b l r (by_too_large g ls w c h e hw u v m) =
    simp length-append (omega (arith, decided_short d s k _ (k.fine.within g h).a, decided_short d s k _ (k.fine.within g h).b, high_one d w v))
reason_fits d s k b l r (by_large v j h m e u) = omega (arith, decided_short d s k v h)
reason_fits d s k b l r (by_small v j h m e u) = omega (arith, potential_short d s v)
reason_fits d s k b l r (by_mismatch g p q f h e hp hq u v m) =
    simp length-append (omega (
      arith,
      path_short d s k _ _ (pick_ind (λ x. x < d.vertices) f _ _ (λ _. (k.fine.within g h).b) (λ _. (k.fine.within g h).a)) u,
      path_short d s k _ _ (pick_ind (λ x. x < d.vertices) f _ _ (λ _. (k.fine.within g h).a) (λ _. (k.fine.within g h).b)) v,
      high_one d p (b.high p hp),
      low_one d q (b.low q hq),
    ))
reason_fits d s k b l r (by_spread_low p u ls c j hp hu m e v w i) = simp length-append (omega (arith, path_short d s k p u hp v, low_one d p w))
reason_fits d s k b l r (by_spread_high p u ls c j hp hu m e v w i) = simp length-append (omega (arith, path_short d s k p u hp v, high_one d p w))
reason_fits d s k b l r (by_same_size p lp up q lq uq u g o h e hp hq hu xa ya xb yb) =
    simp length-append (omega (arith, decided_few d s k p hp, decided_short d s k q hq, decided_short d s k u hu))

total_one : (p n : ℕ) → p < n → 1 ≤ total (λ i. eqb i p) (λ i. 1) n
unfolding total
total_one p zero h = absurd (not-suc-le-zero h)
total_one p (suc n) h =
    ⊎_elim (λ l. omega (arith, total_one p n l)) (λ (e : p ≡ n). let z : pick {A = ℕ} (eqb n p) 1 0 ≡ 1 = pick_yes _ _ (eq-eqb n p (sym e)) in omega arith) (lt_cases p n (omega arith))

total_all : (c : ℕ → Bool) (n : ℕ) → total c (λ i. 1) n ≤ n
unfolding total
total_all c zero = zero-le
total_all c (suc n) = omega (arith, total_all c n, pick_ind {A = ℕ} (λ x. x ≤ 1) (c n) 1 0 (λ _. le_refl 1) (λ _. zero-le))

still : (c : Bool) (p q : ℕ) → (q ≡ p → ⊥) → c ≡ true → (c && not (eqb q p)) ≡ true
still c p q h e = rw (e, ne_eqb q p h) refl

-- ranges that lie apart are of different vertices, so no more than there are
module _ (s : State) (n : ℕ) where
  stills : (c : ℕ → Bool) (p : ℕ) (ps : List ℕ) → s.lower p ≤ s.upper p → Every (λ q. s.upper p < s.lower q) ps → Every (λ q. c q ≡ true) ps →
      Every (λ q. (c q && not (eqb q p)) ≡ true) ps
  stills c p [] l a x = none
  stills c p (q ∷ ps) l (more u a) (more y x) = more (still (c q) p q (λ e. let z : s.lower q ≡ s.lower p = ap s.lower e in omega arith) y) (stills c p ps l a x)

  spaced_few : (c : ℕ → Bool) (ps : List ℕ) → Every (λ p. p < n) ps → Every (λ p. s.lower p ≤ s.upper p) ps → Every (λ p. c p ≡ true) ps → Spaced s ps →
      length ps ≤ total c (λ i. 1) n
  spaced_few c [] h l x a = zero-le
  spaced_few c (p ∷ ps) (more i h) (more m l) (more y x) (Spaced.more u a) =
      omega (arith, total_one p n i, total_parts (λ j. eqb j p) c (λ j. 1) n (λ j hj e. rw (eqb-true j p e) y), spaced_few (λ j. c j && not (eqb j p)) ps h l (stills c p ps m u x) a)

-- a conflict's list fits a buffer of edges + 2 vertices + 4
pub conflict_fits : (d : Plan) (s : State) (k : Proper d) (b : Bounded d s) → (c : Conflict) → IsConflict d s c →
    length (conflict_list d s c) ≤ d.edges + d.vertices + d.vertices + 4
unfolding conflict_list
conflict_fits d s k b c (is_disconnected g h t j) = simp length-append (omega (arith, path_short d s k _ _ (k.fine.within g h).a j))
conflict_fits d s k b c (is_crossing v h l) = simp length-append (omega (arith, low_one d v (b.low v h), high_one d v (b.high v h)))
conflict_fits d s k b c (is_over v h l) = simp length-append (omega (arith, decided_short d s k v h, high_one d v (b.high v h)))
conflict_fits d s k b c (is_under v h l) = simp length-append (omega (arith, potential_short d s v, low_one d v (b.low v h)))
conflict_fits d s k b c (is_crowded r ps h n m a l) =
    let e : Every (λ p. p < d.vertices) ps = every_map (λ q j. joined_below k.fine h j) n in
    simp length-append (omega (
      arith,
      potential_short d s r,
      spans_short d s b ps e,
      spaced_few s d.vertices (λ _. true) ps e m (every_map (λ q j. refl) n) a,
      total_all (λ _. true) d.vertices,
    ))
conflict_fits d s k b c (is_apart p q hp hq j l) =
    simp length-append (omega (arith, path_short d s k p q hp j, low_one d p (b.low p hp), high_one d q (b.high q hq)))
