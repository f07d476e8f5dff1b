-- A search stays within its arrays.
use Prim.Native.Nat.{ℕ, zero, suc, ◌+◌, ◌-◌, ◌<◌, ◌≤◌}
use native.Mathlib.Nat.{lt_of_lt_of_le, add-zero, add-suc}
use native.Mathlib.Omega.{arith}
use mathlib.Core.Path.{◌≡◌, refl, sym, ◌∙◌, ap, subst}
use mathlib.Core.Bool.{true≢false}
use mathlib.Core.List.{List}
use borrow.Author.Tests.{le-ltb, lt-ltb, ltb-true}
use lib.Dec.{eqb}
use lib.ListN.{get_or, replicate}
use Rattle.base.specs.Iter.{iter, pick}
use Rattle.graph.specs.Search.{Scan, at, reached_yet, Graph, marked, reached, visited, walked, popped, drained, blank, searched_on, searched}
use Rattle.graph.specs.Bounds.{Ok, Within, Fine, Fresh}
use Rattle.base.proofs.Loop.{iter_ind, pick_ind}
use Rattle.graph.proofs.Ones.{ones_below, ones_none}
use Rattle.graph.proofs.Mark.{marked_ok}

pub reached_ok : (n p g q : ℕ) (s : Scan) → n ≤ 64 → q < n → p < 64 → Ok n s → Ok n (reached p g q s)
unfolding reached
reached_ok n p g q s h l k o = pick_ind (Ok n) (reached_yet s q) s (marked p g q s) (λ _. o) (λ e. marked_ok p g q s n o (omega arith) e l k)

pub visited_ok : (n : ℕ) (e : Graph) (p g : ℕ) (s : Scan) → n ≤ 64 → Within n e.ends g → p < 64 → Ok n s → Ok n (visited e p g s)
unfolding visited
visited_ok n e p g s h w k o =
    pick_ind (Ok n) _ _ _
    (λ _. pick_ind (Ok n) _ _ _ (λ _. reached_ok n p g _ s h w.b k o)
    (λ _. pick_ind (Ok n) _ _ _ (λ _. reached_ok n p g _ s h w.a k o) (λ _. o)))
    (λ _. o)

pub fine_less : {n edges k : ℕ} {es : List (List ℕ)} → Fine n edges es → k ≤ edges → Fine n k es
fine_less f h = record { vertices = f.vertices; fits = omega arith; within = λ g l. f.within g (omega arith) }

pub walk_ok : (n edges : ℕ) (e : Graph) (p : ℕ) (s : Scan) → Fine n edges e.ends → p < 64 → Ok n s → Ok n (iter (visited e p) edges s)
walk_ok n edges e p s f h o = iter_ind (λ _ x. Ok n x) (visited e p) s edges o (λ g x l k. visited_ok n e p g x f.vertices (f.within g l) h k)

-- with more vertices
pub ok_up : {n m : ℕ} {s : Scan} → n ≤ m → Ok n s → Ok m s
ok_up h o = record { len = o.len; small = o.small; full = o.full; low = λ q e. lt_of_lt_of_le (o.low q e) h }

pub fine_up : {n m edges : ℕ} {es : List (List ℕ)} → n ≤ m → m ≤ 64 → Fine n edges es → Fine m edges es
fine_up h k f = record {
  vertices = k;
  fits = f.fits;
  within = λ g l. let w = f.within g l in record { a = omega arith; b = omega arith };
}

-- no more are reached than there are vertices
pub ok_count : {n : ℕ} {s : Scan} → Ok n s → s.count ≤ n
ok_count {n} {s} o = omega (arith, ones_below (reached_yet s) 64 n o.low, o.full)

-- what stands in the order is a vertex
pub at_low : {n : ℕ} {s : Scan} (h : ℕ) → n ≤ 64 → Ok n s → h < s.count → at s h < 64
at_low h l o k = o.small h (omega (arith, ok_count o))

pub popped_ok : (n edges : ℕ) (e : Graph) (h : ℕ) (s : Scan) → Fine n edges e.ends → Ok n s → Ok n (popped e edges h s)
unfolding popped
popped_ok n edges e h s f o = pick_ind (Ok n) _ _ _ (λ t. walk_ok n edges e _ s f (at_low h f.vertices o (ltb-true _ _ t)) o) (λ _. o)

pub drained_ok : (n edges : ℕ) (e : Graph) (k : ℕ) (s : Scan) → Fine n edges e.ends → Ok n s → Ok n (drained e edges k s)
drained_ok n edges e k s f o = iter_ind (λ _ x. Ok n x) (popped e edges) s k o (λ h x l p. popped_ok n edges e h x f p)

pub fresh_ok : (n : ℕ) (s : Scan) → Fresh s → Ok n s
fresh_ok n s f = record {
  len = f.len;
  small = f.small;
  full = ones_none (reached_yet s) 64 f.nothing ∙ sym f.zero;
  low = λ q e. absurd (true≢false (sym e ∙ f.nothing q));
}

zeros : (k i : ℕ) → get_or {A = ℕ} (replicate k 0) i 0 ≡ 0
zeros zero i = refl
zeros (suc k) zero = refl
zeros (suc k) (suc i) = zeros k i

pub blank_fresh : Fresh blank
unfolding blank
blank_fresh = record {
  len = refl;
  small = λ i h. omega (arith, zeros 256 i);
  nothing = λ q. ap (λ x. eqb x 1) (zeros 256 (192 + q));
  zero = refl;
}

pub begun_ok : (n start : ℕ) (s : Scan) → n ≤ 64 → start < n → Fresh s → Ok n (reached start 0 start s)
begun_ok n start s h l f = reached_ok n start 0 start s h l (omega arith) (fresh_ok n s f)

-- past the end of the order nothing is popped
pub popped_none : (e : Graph) (edges h : ℕ) (s : Scan) → s.count ≤ h → popped e edges h s ≡ s
unfolding popped pick
popped_none e edges h s l = simp (le-ltb h s.count l)

pub popped_some : (e : Graph) (edges h : ℕ) (s : Scan) → h < s.count → popped e edges h s ≡ walked e edges (at s h) s
unfolding popped pick
popped_some e edges h s l = simp (lt-ltb h s.count l)

pub drained_stop : (e : Graph) (edges h k : ℕ) (s : Scan) → (drained e edges h s).count ≤ h → drained e edges (h + k) s ≡ drained e edges h s
unfolding iter
drained_stop e edges h zero s l = rw add-zero
drained_stop e edges h (suc k) s l =
    rw add-suc (ap (popped e edges (h + k)) (drained_stop e edges h k s l) ∙ popped_none e edges (h + k) (drained e edges h s) (omega arith))

pub drained_full : (e : Graph) (edges h : ℕ) (s : Scan) → h ≤ 64 → (drained e edges h s).count ≤ h → drained e edges 64 s ≡ drained e edges h s
drained_full e edges h s l k = let x : h + (64 - h) ≡ 64 = omega arith in subst (λ n. drained e edges n s ≡ drained e edges h s) x (drained_stop e edges h (64 - h) s k)

-- a search that starts in words of zeros
pub begins : (e : Graph) (edges n start : ℕ) (s x : Scan) → s ≡ blank → x ≡ reached start 0 start s → drained e edges n x ≡ searched e edges n start
unfolding searched_on
begins e edges n start s x z h = ap (drained e edges n) (h ∙ ap (reached start 0 start) z)
