-- The loops that write the lists: what is left to write, written, gives the whole.
use Prim.Native.Nat.{ℕ, zero, suc, pred, ◌+◌, ◌-◌, ◌<◌, ◌≤◌}
use native.Mathlib.Nat.{not-suc-le-zero}
use native.Mathlib.Numerals.{add-one}
use native.Mathlib.Omega.{arith}
use mathlib.Core.Path.{◌≡◌, refl, sym, ◌∙◌, ap}
use mathlib.Core.Bool.{Bool, true, false, true≢false, false≢true}
use mathlib.Core.List.{List, [], ◌∷◌, map}
use lib.Dec.{eqb}
use lib.ListN.{length, get_or}
use borrow.Author.Tests.{eq-eqb, ne_eqb}
use Rattle.base.specs.Iter.{iter, pick}
use Rattle.base.specs.Lists.{collect}
use Rattle.base.proofs.Loop.{iter_done}
use Rattle.sat.specs.Literal.{negate}
use Rattle.graph.specs.Search.{Scan, scan_of, Graph, end_a, end_b, at, parent_of, edge_to}
use Rattle.graph.specs.Paths.{climb}
use Rattle.walks.specs.Written.{Out, pushed, written}
use Rattle.walks.specs.Walk.{path_back, tree_list, leads_out, leaves, wall_at, walls_of, side_at, border_list, order_list}
use Rattle.walks.proofs.Written.{pushed_length, written_length, written_collect, written_tab}

-- a path is at its end
pub path_here : (lits : ℕ → ℕ) (s : Scan) (start n p : ℕ) (o w : Out) → p ≡ start → w ≡ written (path_back lits s start n p) o → w ≡ o
unfolding path_back climb pick written
path_here lits s start zero p o w e h = h
path_here lits s start (suc n) p o w e h = simp (eq-eqb p start e) at h

pub path_none : (lits : ℕ → ℕ) (s : Scan) (start n p : ℕ) (o w : Out) → n ≤ 0 → w ≡ written (path_back lits s start n p) o → w ≡ o
unfolding path_back climb written
path_none lits s start zero p o w e h = h
path_none lits s start (suc n) p o w e h = absurd (not-suc-le-zero e)

-- one edge of a path
pub path_step : (lits : ℕ → ℕ) (s : Scan) (start n p : ℕ) (o o' w : Out) (x y : ℕ) → 0 < n → (p ≡ start → ⊥) → y ≡ lits (edge_to s p) → x ≡ negate y → o' ≡ pushed x o →
    w ≡ written (path_back lits s start n p) o → w ≡ written (path_back lits s start (n - 1) (parent_of s p)) o'
unfolding path_back climb pick written
path_step lits s start zero p o o' w x y h f e i k g = absurd (not-suc-le-zero h)
path_step lits s start (suc n) p o o' w x y h f e i k g =
    let z : suc n - 1 ≡ n = omega arith in
    (simp (ne_eqb p start f) at g) ∙ ap (written (path_back lits s start n (parent_of s p))) (ap (λ (t : ℕ). pushed t o) (ap negate (sym e) ∙ sym i) ∙ sym k) ∙
    ap (λ (m : ℕ). written (path_back lits s start m (parent_of s p)) o') (sym z)

-- the number of vertices reached has no part in a path
pub path_count : (lits : ℕ → ℕ) (words : List ℕ) (c d start n p : ℕ) → path_back lits (scan_of words c) start n p ≡ path_back lits (scan_of words d) start n p
unfolding path_back climb
path_count lits words c d start zero p = refl
path_count lits words c d start (suc n) p = ap (λ (l : List ℕ). map (λ g. negate (lits g)) (pick (eqb p start) [] (get_or words (128 + p) 0 ∷ l))) (same n (get_or words (64 + p) 0))
  where
    same : (n p : ℕ) → climb (scan_of words c) start n p ≡ climb (scan_of words d) start n p
    same zero p = refl
    same (suc n) p = ap (λ (l : List ℕ). pick (eqb p start) [] (get_or words (128 + p) 0 ∷ l)) (same n (get_or words (64 + p) 0))

-- the edge by which the vertex at place i + 1 was reached
unfoldable pub tree_at : (ℕ → ℕ) → Scan → ℕ → Out → Out
tree_at lits s i o = written (negate (lits (edge_to s (at s (suc i)))) ∷ []) o

pub tree_step : (lits : ℕ → ℕ) (s : Scan) (i : ℕ) (o o' : Out) (x y : ℕ) → y ≡ lits (edge_to s (at s (i + 1))) → x ≡ negate y → o' ≡ pushed x o → o' ≡ tree_at lits s i o
unfolding tree_at written
tree_step lits s i o o' x y e h k = k ∙ ap (λ (t : ℕ). pushed t o) (h ∙ ap negate (e ∙ ap (λ (j : ℕ). lits (edge_to s (at s j))) (add-one i)))

pub tree_done : (lits : ℕ → ℕ) (s : Scan) (i last : ℕ) (o o' : Out) → last ≡ s.count - 1 → o' ≡ iter (tree_at lits s) i o → i ≤ last → last ≤ i → o' ≡ written (tree_list lits s) o
unfolding tree_list tree_at
tree_done lits s i last o o' z e h k =
    let m : last ≡ pred s.count = z ∙ less s.count in
    iter_done _ _ _ _ _ e h k ∙ written_collect (λ i. negate (lits (edge_to s (at s (suc i)))) ∷ []) last o ∙ ap (λ (n : ℕ). written (collect (λ i. negate (lits (edge_to s (at s (suc i)))) ∷ []) n) o) m
  where
    less : (n : ℕ) → n - 1 ≡ pred n
    less zero = refl
    less (suc n) = omega arith

-- the loop over a vertex's edges, the loop over the vertices, and the loop over the order are left
pub walls_done : (lits : ℕ → ℕ) (e : Graph) (edges : ℕ) (seen : ℕ → Bool) (p k : ℕ) (o o' : Out) → o' ≡ iter (wall_at lits e seen p) k o → k ≤ edges → edges ≤ k → o' ≡ written (walls_of lits e edges seen p) o
unfolding wall_at walls_of
walls_done lits e edges seen p k o o' h i j = iter_done _ _ _ _ _ h i j ∙ written_collect (λ g. pick (leaves e seen p g) (lits g ∷ []) []) edges o

pub border_done : (lits : ℕ → ℕ) (e : Graph) (edges vertices : ℕ) (seen : ℕ → Bool) (k : ℕ) (o o' : Out) → o' ≡ iter (side_at lits e edges seen) k o → k ≤ vertices → vertices ≤ k →
    o' ≡ written (border_list lits e edges vertices seen) o
unfolding side_at border_list
border_done lits e edges vertices seen k o o' h i j = iter_done _ _ _ _ _ h i j ∙ written_collect (λ p. pick (seen p) (walls_of lits e edges seen p) []) vertices o

pub order_done : (s : Scan) (k : ℕ) (o o' : Out) → o' ≡ iter (λ i x. pushed (at s i) x) k o → k ≤ s.count → s.count ≤ k → o' ≡ written (order_list s) o
unfolding order_list
order_done s k o o' h i j = iter_done _ _ _ _ _ h i j ∙ written_tab (at s) s.count o

-- a choice of what to write
pub written_yes : (b : Bool) (l : List ℕ) (o o' : Out) → b ≡ true → o' ≡ written l o → o' ≡ written (pick b l []) o
unfolding pick
written_yes true l o o' e h = h
written_yes false l o o' e h = absurd (false≢true e)

pub written_no : (b : Bool) (l : List ℕ) (o : Out) → b ≡ false → o ≡ written (pick b l []) o
unfolding pick written
written_no true l o e = absurd (true≢false e)
written_no false l o e = refl

pub pushed_as : (x y : ℕ) (o o' : Out) → x ≡ y → o' ≡ pushed x o → o' ≡ pushed y o
pushed_as x y o o' e h = h ∙ ap (λ (z : ℕ). pushed z o) e
