-- What the search finds: the theorem.
use Prim.Native.Nat.{ℕ, zero, suc, ◌<◌, ◌≤◌, zero-le}
use native.Mathlib.Nat.{lt_of_lt_of_le, le_trans}
use native.Mathlib.Omega.{arith}
use mathlib.Core.Path.{◌≡◌, subst}
use mathlib.Core.Logic.{⊎_elim}
use mathlib.Core.List.{List, ◌∷◌}
use lib.ListN.{length}
use borrow.Author.Tests.{eqb-true, eqb-false}
use Rattle.graph.specs.Search.{Scan, at, parent_of, edge_to, Graph, searched, searched_on}
use Rattle.graph.specs.Bounds.{Fine, Fresh}
use Rattle.graph.specs.Paths.{Chain, here, there, Seen, climb, Found}
use Rattle.base.proofs.Loop.{pick_ind}
use Rattle.graph.proofs.Keep.{ok_count, blank_fresh}
use Rattle.graph.proofs.Base.{Hit, Parent, Base}
use Rattle.graph.proofs.Bfs.{Done, pop_all}

-- a chain back to the start, no longer than the level
pub record Climbs (e : Graph) (edges start : ℕ) (lev i q : ℕ) (l : List ℕ) : Type 0 where
  pub chain : Chain e edges start l q
  pub level : length l ≤ lev
  pub place : length l ≤ i

module _ (e : Graph) (edges vertices start : ℕ) (lev : ℕ → ℕ) (s : Scan) (b : Base e edges vertices start lev s) where
  climbs_more : (n i : ℕ) (p : Parent e edges lev s i) → Climbs e edges start (lev p.j) p.j (at s p.j) (climb s start n (at s p.j)) →
      Climbs e edges start (lev i) i (at s i) (edge_to s (at s i) ∷ climb s start n (parent_of s (at s i)))
  climbs_more n i p c =
      subst (λ x. Climbs e edges start (lev i) i (at s i) (edge_to s (at s i) ∷ climb s start n x)) p.vertex
      (record {
        chain = there _ c.chain p.leads;
        level = omega (arith, p.level, c.level);
        place = omega (arith, p.before, c.place);
      })

  pub climbs : (n i : ℕ) → i ≤ n → i < s.count → Climbs e edges start (lev i) i (at s i) (climb s start n (at s i))
  unfolding climb
  climbs zero i h k =
      let z : i ≡ 0 = omega arith in
      record { chain = rw (z, b.first) here; level = zero-le; place = zero-le }
  climbs (suc n) i h k =
      pick_ind (Climbs e edges start (lev i) i (at s i)) _ _ _
      (λ t. record { chain = rw (eqb-true (at s i) start t) here; level = zero-le; place = zero-le })
      (λ t. ⊎_elim (λ (z : i ≡ 0). absurd (eqb-false (at s i) start t (rw z b.first))) (λ p. climbs_more n i p (climbs n p.j (omega (arith, p.before)) (omega (arith, p.before)))) (b.parent i k))

  -- a chain leads to a vertex that was reached, at no higher level than it has edges
  pub chain_hit : ((i : ℕ) → i < s.count → Done e edges lev s i edges) → {l : List ℕ} {q : ℕ} → Chain e edges start l q → Hit lev s q (length l)
  chain_hit d here = record { k = 0; lt = b.some; is = b.first; near = omega (arith, b.flat) }
  chain_hit d (there {q = q} {r = r} g c l) =
      let h = chain_hit d c in
      let m : Hit lev s r (suc (lev h.k)) = d h.k h.lt g r l.known (rw h.is l) in
      record { k = m.k; lt = m.lt; is = m.is; near = omega (arith, m.near, h.near) }

pub found_on : (e : Graph) (edges vertices start : ℕ) (o : Scan) → Fine vertices edges e.ends → start < vertices → Fresh o → Found e edges vertices start (searched_on e edges vertices start o)
found_on e edges vertices start o f h fr =
    let s = searched_on e edges vertices start o in
    let p = pop_all e edges vertices start f o fr h in
    let b = p.base in
    let few : s.count ≤ vertices = ok_count b.ok in
    let hit : (l : List ℕ) (q : ℕ) → Chain e edges start l q → Hit p.lev s q (length l) =
    λ l q c. chain_hit e edges vertices start p.lev s b (λ i k. p.past i (lt_of_lt_of_le k few) k) c in
    let up : (i : ℕ) → i < s.count → Climbs e edges start (p.lev i) i (at s i) (climb s start vertices (at s i)) = λ i k. climbs e edges vertices start p.lev s b vertices i (omega arith) k in
    record {
      few = few;
      below = b.ok.low;
      all = λ q l c. let m = hit l q c in subst (Seen s) m.is (b.only m.k m.lt);
      listed = b.listed;
      only = b.only;
      once = b.once;
      path = λ q t. let (i, k, x) = b.listed q t in subst (λ q. Chain e edges start (climb s start vertices q) q) x (up i k).chain;
      short = λ q t. let (i, k, x) = b.listed q t in subst (λ q. length (climb s start vertices q) < vertices) x (omega (arith, (up i k).place));
      least = λ q l c. let m = hit l q c in subst (λ q. length (climb s start vertices q) ≤ length l) m.is (le_trans (up m.k m.lt).level m.near);
    }

pub found : (e : Graph) (edges vertices start : ℕ) → Fine vertices edges e.ends → start < vertices → Found e edges vertices start (searched e edges vertices start)
found e edges vertices start f h = found_on e edges vertices start _ f h blank_fresh
