-- What the lists are.
use Prim.Native.Nat.{ℕ, zero, suc, pred, ◌+◌, ◌<◌, ◌≤◌, zero-le, suc-le-suc}
use native.Mathlib.Nat.{not-suc-le-zero, le_of_suc-le-suc, lt-suc_self, le_step, ne_of_lt, le_of_eq}
use native.Mathlib.Omega.{arith}
use mathlib.Core.Path.{◌≡◌, refl, sym, ◌∙◌, ap, subst}
use mathlib.Core.Logic.{◌⊎◌, inl, inr, ⊎_elim}
use mathlib.Core.Bool.{Bool, true, false, not, ◌&&◌, ◌||◌, true≢false}
use mathlib.Core.List.{List, [], ◌∷◌, ◌++◌, map}
use lib.Dec.{eqb}
use lib.ListN.{length, get_or, length-append, length-map}
use borrow.Author.Tests.{eqb-true, eq-eqb}
use Rattle.base.specs.Iter.{pick}
use Rattle.base.specs.Lists.{Every, none, more, collect, tab}
use Rattle.base.proofs.Loop.{pick_ind, pick_yes, eq_or_not, tested}
use Rattle.base.proofs.Lists.{every_collect, collect_every, every_head, every_map, tab_at}
use Rattle.base.proofs.Tests.{and_left, and_right, or_cases}
use Rattle.sat.specs.Literal.{negate}
use Rattle.graph.specs.Search.{Graph, at, edge_to, reached_yet, end_a, end_b, searched}
use Rattle.graph.specs.Bounds.{Fine, bit, ones}
use Rattle.graph.specs.Paths.{Joined, Found, climb}
use Rattle.graph.proofs.Found.{found}
use Rattle.graph.proofs.Bfs.{pop_all}
use Rattle.graph.proofs.Keep.{blank_fresh}
use Rattle.graph.proofs.Lists.{and_both}
use Rattle.walks.specs.Walk.{path_back, path_list, tree_list, decided_list, leads_out, leaves, walls_of, border_list, potential_list, order_list, member_list}
use Rattle.walks.specs.Lists.{PathFrom, TreeOf, Border, BorderOf, MembersOf}

-- the length of a list of one for each turn
one_length : (f : ℕ → ℕ) (n : ℕ) → length (collect (λ i. f i ∷ []) n) ≡ n
unfolding collect
one_length f zero = refl
one_length f (suc n) = let x : length (f n ∷ []) ≡ 1 = refl in omega (arith, length-append (collect (λ i. f i ∷ []) n) (f n ∷ []), one_length f n)

-- the entry of a turn
get_d_left : (a b : List ℕ) (i : ℕ) → i < length a → get_or (a ++ b) i 0 ≡ get_or a i 0
get_d_left a b i h = lib.ListN.get_or-append a b 0 i h

one_at : (f : ℕ → ℕ) (n i : ℕ) → i < n → get_or (collect (λ i. f i ∷ []) n) i 0 ≡ f i
unfolding collect
one_at f zero i h = absurd (not-suc-le-zero h)
one_at f (suc n) i h =
    ⊎_elim (λ (e : i ≡ n). subst (λ j. get_or (collect (λ i. f i ∷ []) n ++ (f n ∷ [])) j 0 ≡ f j) (sym e)
    (subst (λ j. get_or (collect (λ i. f i ∷ []) n ++ (f n ∷ [])) j 0 ≡ f n) (one_length f n) (lib.Seq.get_or-append_seam (collect (λ i. f i ∷ []) n) (f n) [] 0)))
    (λ (e : i ≡ n → ⊥). let k : i < n = omega arith in get_d_left (collect (λ i. f i ∷ []) n) (f n ∷ []) i (omega (arith, one_length f n)) ∙ one_at f n i k)
    (eq_or_not i n)

tab_length : (f : ℕ → ℕ) (n : ℕ) → length (tab f n) ≡ n
unfolding tab
tab_length f zero = refl
tab_length f (suc n) = ap suc (tab_length (λ i. f (suc i)) n)

-- each element has a place
every_placed : (l : List ℕ) → Every (λ x. (i : ℕ) × (i < length l) × (get_or l i 0 ≡ x)) l
every_placed [] = none
every_placed (x ∷ l) = more (0, suc-le-suc zero-le, refl) (every_map (λ q (i, k, y). (suc i, suc-le-suc k, y)) (every_placed l))

ones_zero : (b : ℕ → Bool) (n : ℕ) → ((q : ℕ) → q < n → b q ≡ false) → ones b n ≡ 0
unfolding ones bit
ones_zero b zero h = refl
ones_zero b (suc n) h = let x : bit (b n) ≡ 0 = ap bit (h n (lt-suc_self n)) in omega (arith, ones_zero b n (λ q k. h q (le_step k)))

-- where at most one is true
ones_once : (b : ℕ → Bool) (n : ℕ) → ((p q : ℕ) → b p ≡ true → b q ≡ true → p ≡ q) → ones b n ≤ 1
unfolding ones bit
ones_once b zero h = zero-le
ones_once b (suc n) h =
    tested (b n)
    (λ t. let x : bit (b n) ≡ 1 = ap bit t in omega (arith, ones_zero b n (λ q k. tested (b q) (λ s. absurd (ne_of_lt k (h q n s t))) (λ s. s))))
    (λ t. let x : bit (b n) ≡ 0 = ap bit t in omega (arith, ones_once b n h))

-- how many are listed where a turn lists at most one
length_bits : (a b : ℕ → Bool) (x n : ℕ) → length (collect (λ p. pick (a p) (pick (b p) (x ∷ []) []) []) n) ≡ ones (λ p. a p && b p) n
unfolding collect ones pick bit
length_bits a b x zero = refl
length_bits a b x (suc n) =
    omega (arith, length-append (collect (λ p. pick (a p) (pick (b p) (x ∷ []) []) []) n) (pick (a n) (pick (b n) (x ∷ []) []) []), length_bits a b x n, one (a n) (b n))
  where
    one : (s t : Bool) → length (pick s (pick t (x ∷ []) []) []) ≡ bit (s && t)
    one true true = refl
    one true false = refl
    one false t = refl

-- lists of two parts in each turn
length_parts : (r : ℕ → Bool) (f g : ℕ → List ℕ) (n : ℕ) →
    length (collect (λ p. pick (r p) (f p ++ g p) []) n) ≡ length (collect (λ p. pick (r p) (f p) []) n) + length (collect (λ p. pick (r p) (g p) []) n)
unfolding collect pick
length_parts r f g zero = refl
length_parts r f g (suc n) =
    omega (
      arith,
      length-append (collect (λ p. pick (r p) (f p ++ g p) []) n) (pick (r n) (f n ++ g n) []),
      length-append (collect (λ p. pick (r p) (f p) []) n) (pick (r n) (f n) []),
      length-append (collect (λ p. pick (r p) (g p) []) n) (pick (r n) (g n) []),
      length_parts r f g n,
      one (r n),
    )
  where
    one : (t : Bool) → length (pick t (f n ++ g n) []) ≡ length (pick t (f n) []) + length (pick t (g n) [])
    one true = length-append (f n) (g n)
    one false = refl

or_right : (a b : Bool) → b ≡ true → (a || b) ≡ true
or_right true b e = refl
or_right false b e = e

not_yes : (t : Bool) → t ≡ false → not t ≡ true
not_yes t e = ap not e

-- an edge that is left by a vertex: which end the vertex is
leaves_cases : (e : Graph) (r : ℕ → Bool) (p g : ℕ) → leaves e r p g ≡ true →
    (get_or e.state g 0 ≡ 1) × (((end_a e g ≡ p) × (not (r (end_b e g)) ≡ true)) ⊎ ((end_b e g ≡ p) × (not (r (end_a e g)) ≡ true)))
unfolding leaves leads_out
leaves_cases e r p g l =
    let one = eqb (end_a e g) p && not (r (end_b e g)) in
    let two = eqb (end_b e g) p && not (r (end_a e g)) in (
      eqb-true _ _ (and_left (eqb (get_or e.state g 0) 1) (one || two) l),
      ⊎_elim (λ w. inl (eqb-true _ _ (and_left (eqb (end_a e g) p) (not (r (end_b e g))) w), and_right (eqb (end_a e g) p) (not (r (end_b e g))) w))
          (λ w. inr (eqb-true _ _ (and_left (eqb (end_b e g) p) (not (r (end_a e g))) w), and_right (eqb (end_b e g) p) (not (r (end_a e g))) w))
          (or_cases one two (and_right (eqb (get_or e.state g 0) 1) (one || two) l)),
    )

leaves_left : (e : Graph) (r : ℕ → Bool) (g : ℕ) → get_or e.state g 0 ≡ 1 → r (end_b e g) ≡ false → leaves e r (end_a e g) g ≡ true
unfolding leaves leads_out
leaves_left e r g s t = simp (eq-eqb (get_or e.state g 0) 1 s, eq-eqb (end_a e g) (end_a e g) refl, t)

leaves_right : (e : Graph) (r : ℕ → Bool) (g : ℕ) → get_or e.state g 0 ≡ 1 → r (end_a e g) ≡ false → leaves e r (end_b e g) g ≡ true
unfolding leaves leads_out
leaves_right e r g s t =
    and_both (eqb (get_or e.state g 0) 1) _ (eq-eqb (get_or e.state g 0) 1 s)
    (or_right (eqb (end_a e g) (end_b e g) && not (r (end_b e g))) (eqb (end_b e g) (end_b e g) && not (r (end_a e g))) (and_both (eqb (end_b e g) (end_b e g)) (not (r (end_a e g))) (eq-eqb (end_b e g) (end_b e g) refl) (not_yes (r (end_a e g)) t)))

-- only one of the vertices that were reached leaves by an edge
leaves_once : (e : Graph) (r : ℕ → Bool) (g p q : ℕ) → (r p && leaves e r p g) ≡ true → (r q && leaves e r q g) ≡ true → p ≡ q
leaves_once e r g p q x y =
    let rp = and_left (r p) (leaves e r p g) x in
    let rq = and_left (r q) (leaves e r q g) y in
    ⊎_elim (λ v. ⊎_elim (λ w. sym v.0 ∙ w.0) (λ w. absurd (clash (end_a e g) p rp v.0 w.1)) (leaves_cases e r q g (and_right (r q) (leaves e r q g) y)).1)
    (λ v. ⊎_elim (λ w. absurd (clash (end_a e g) q rq w.0 v.1)) (λ w. sym v.0 ∙ w.0) (leaves_cases e r q g (and_right (r q) (leaves e r q g) y)).1)
    (leaves_cases e r p g (and_right (r p) (leaves e r p g) x)).1
  where
    clash : (a p : ℕ) → r p ≡ true → a ≡ p → not (r a) ≡ true → ⊥
    clash a p h i t = true≢false (sym t ∙ ap not (ap r i ∙ h))

-- an edge is listed at most once
border_few : (lits : ℕ → ℕ) (e : Graph) (r : ℕ → Bool) (n k : ℕ) → length (border_list lits e k n r) ≤ k
unfolding border_list walls_of collect
border_few lits e r n zero = le_of_eq (nothing n)
  where
    nothing : (n : ℕ) → length (collect (λ p. pick (r p) [] []) n) ≡ 0
    nothing zero = refl
    nothing (suc n) = omega (arith, length-append (collect (λ p. pick (r p) [] []) n) (pick (r n) [] []), nothing n, empty (r n))
      where
        empty : (t : Bool) → length {A = ℕ} (pick t [] []) ≡ 0
        empty t = pick_ind (λ (l : List ℕ). length l ≡ 0) t [] [] (λ _. refl) (λ _. refl)
border_few lits e r n (suc k) =
    omega (
      arith,
      length_parts r (λ p. collect (λ g. pick (leaves e r p g) (lits g ∷ []) []) k) (λ p. pick (leaves e r p k) (lits k ∷ []) []) n,
      border_few lits e r n k,
      length_bits r (λ p. leaves e r p k) (lits k) n,
      ones_once (λ p. r p && leaves e r p k) n (leaves_once e r k),
    )

module _ (e : Graph) (edges vertices u : ℕ) (f : Fine vertices edges e.ends) (h : u < vertices) where
  fd : Found e edges vertices u (searched e edges vertices u)
  fd = found e edges vertices u f h

  -- what is reached is what is joined
  pub reached_joined : (q : ℕ) → reached_yet (searched e edges vertices u) q ≡ true → Joined e edges u q
  reached_joined q t = (climb (searched e edges vertices u) u vertices q, fd.path q t)

  pub joined_reached : (q : ℕ) → Joined e edges u q → reached_yet (searched e edges vertices u) q ≡ true
  joined_reached q j = fd.all q j.0 j.1

  pub path_from : (lits : ℕ → ℕ) (v : ℕ) → Joined e edges u v → PathFrom lits e edges vertices u v (path_list lits e edges vertices u v)
  unfolding path_list path_back
  path_from lits v j =
      let gs = climb (searched e edges vertices u) u vertices v in
      let t = joined_reached v j in
      let len : length (map (λ g. negate (lits g)) gs) ≡ length gs = length-map gs (λ g. negate (lits g)) in
      record {
        along = (gs, fd.path v t, refl);
        short = omega (arith, fd.short v t);
        least = λ hs c. omega (arith, fd.least v hs c);
      }

  pub tree_of : (lits : ℕ → ℕ) → TreeOf lits e edges (searched e edges vertices u) (decided_list lits e edges vertices u)
  unfolding decided_list tree_list
  tree_of lits =
      let s = searched e edges vertices u in
      let p = pop_all e edges vertices u f _ blank_fresh h in
      record {
        count = one_length (λ i. negate (lits (edge_to s (at s (suc i))))) (pred s.count);
        entry = λ i k. one_at (λ i. negate (lits (edge_to s (at s (suc i))))) (pred s.count) i (before i s.count k);
        joins = λ i k. ⊎_elim (λ (z : suc i ≡ 0). absurd (never i z)) (λ w. (w.j, le_of_suc-le-suc w.before, w.leads)) (p.base.parent (suc i) k);
      }
    where
      never : (i : ℕ) → suc i ≡ 0 → ⊥
      never i z = omega arith

      before : (i n : ℕ) → suc i < n → i < pred n
      before i zero k = absurd (not-suc-le-zero k)
      before i (suc n) k = le_of_suc-le-suc k

  pub members_of : MembersOf e edges u (member_list e edges vertices u)
  unfolding member_list order_list
  members_of =
      let s = searched e edges vertices u in
      let len : length (tab (at s) s.count) ≡ s.count = tab_length (at s) s.count in
      let get : (i : ℕ) → i < length (tab (at s) s.count) → get_or (tab (at s) s.count) i 0 ≡ at s i = λ i k. tab_at (at s) s.count i (omega arith) in
      record {
        only = λ i k. subst (Joined e edges u) (sym (get i k)) (reached_joined (at s i) (fd.only i (omega arith)));
        all = λ q j. let (i, k, y) = fd.listed q (joined_reached q j) in let m : i < length (tab (at s) s.count) = omega arith in (i, m, get i m ∙ y);
        once = λ i j ki kj x. fd.once i j (omega arith) (omega arith) (sym (get i ki) ∙ x ∙ get j kj);
      }

  unseen : (q : ℕ) → not (reached_yet (searched e edges vertices u) q) ≡ true → Joined e edges u q → ⊥
  unseen q t j = true≢false (sym t ∙ ap not (joined_reached q j))

  apart : (q : ℕ) → (Joined e edges u q → ⊥) → reached_yet (searched e edges vertices u) q ≡ false
  apart q h = tested (reached_yet (searched e edges vertices u) q) (λ t. absurd (h (reached_joined q t))) (λ t. t)

  -- an edge that leaves is of the border
  leaves_border : (p g : ℕ) → g < edges → reached_yet (searched e edges vertices u) p ≡ true → leaves e (reached_yet (searched e edges vertices u)) p g ≡ true → Border e edges u g
  leaves_border p g k t l =
      let r = reached_yet (searched e edges vertices u) in
      let w = leaves_cases e r p g l in
      record {
        known = k;
        shut = w.0;
        out = ⊎_elim (λ v. inl (reached_joined (end_a e g) (subst (λ q. r q ≡ true) (sym v.0) t), unseen (end_b e g) v.1))
            (λ v. inr (reached_joined (end_b e g) (subst (λ q. r q ≡ true) (sym v.0) t), unseen (end_a e g) v.1)) w.1;
      }

  -- what holds of all that is listed holds of an edge that vertex p leaves by
  listed : (lits : ℕ → ℕ) (P : ℕ → Type 0) (p g : ℕ) → p < vertices → g < edges → reached_yet (searched e edges vertices u) p ≡ true → leaves e (reached_yet (searched e edges vertices u)) p g ≡ true →
      Every P (potential_list lits e edges vertices u) → P (lits g)
  unfolding potential_list border_list walls_of
  listed lits P p g hp hg t l a =
      let r = reached_yet (searched e edges vertices u) in
      let b = every_collect (λ p. pick (r p) (collect (λ g. pick (leaves e r p g) (lits g ∷ []) []) edges) []) vertices p hp a in
      let c = every_collect (λ g. pick (leaves e r p g) (lits g ∷ []) []) edges g hg (subst (Every P) (pick_yes _ _ t) b) in
      every_head (subst (Every P) (pick_yes _ _ l) c)

  border_only : (lits : ℕ → ℕ) → Every (λ x. (g : ℕ) × Border e edges u g × (x ≡ lits g)) (potential_list lits e edges vertices u)
  unfolding potential_list border_list walls_of
  border_only lits =
      let r = reached_yet (searched e edges vertices u) in
      collect_every (λ p. pick (r p) (collect (λ g. pick (leaves e r p g) (lits g ∷ []) []) edges) []) vertices
      (λ p _. pick_ind (Every (λ x. (g : ℕ) × Border e edges u g × (x ≡ lits g))) (r p) _ []
      (λ t. collect_every (λ g. pick (leaves e r p g) (lits g ∷ []) []) edges
      (λ g k. pick_ind (Every (λ x. (g : ℕ) × Border e edges u g × (x ≡ lits g))) (leaves e r p g) (lits g ∷ []) [] (λ l. more (g, leaves_border p g k t l, refl) none) (λ _. none))) (λ _. none))

  border_all : (lits : ℕ → ℕ) (g : ℕ) → Border e edges u g → (i : ℕ) × (i < length (potential_list lits e edges vertices u)) × (get_or (potential_list lits e edges vertices u) i 0 ≡ lits g)
  border_all lits g b =
      let r = reached_yet (searched e edges vertices u) in
      let l = potential_list lits e edges vertices u in
      let w = f.within g b.known in
      ⊎_elim (λ v. listed lits (λ x. (i : ℕ) × (i < length l) × (get_or l i 0 ≡ x)) (end_a e g) g w.a b.known (joined_reached (end_a e g) v.0) (leaves_left e r g b.shut (apart (end_b e g) v.1)) (every_placed l))
      (λ v. listed lits (λ x. (i : ℕ) × (i < length l) × (get_or l i 0 ≡ x)) (end_b e g) g w.b b.known (joined_reached (end_b e g) v.0) (leaves_right e r g b.shut (apart (end_a e g) v.1)) (every_placed l))
      b.out

  pub border_of : (lits : ℕ → ℕ) → BorderOf lits e edges u (potential_list lits e edges vertices u)
  unfolding potential_list
  border_of lits = record { only = border_only lits; all = border_all lits; few = border_few lits e (reached_yet (searched e edges vertices u)) vertices edges }
