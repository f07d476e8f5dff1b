-- What holds of a search at every step, and how it is kept where one vertex more is marked.
use Prim.Native.Nat.{ℕ, suc, ◌+◌, ◌<◌, ◌≤◌}
use native.Mathlib.Nat.{lt_of_lt_of_le, le_refl}
use native.Mathlib.Omega.{arith}
use mathlib.Core.Path.{◌≡◌, refl, sym, ◌∙◌, ap, subst}
use mathlib.Core.Logic.{◌⊎◌, inl, inr, ⊎_elim}
use mathlib.Core.Bool.{false}
use Rattle.graph.specs.Search.{Scan, at, parent_of, edge_to, reached_yet, Graph, marked}
use Rattle.graph.specs.Bounds.{Ok, Fine}
use Rattle.graph.specs.Paths.{Leads, Seen}
use Rattle.graph.proofs.Keep.{at_low}
use Rattle.graph.proofs.Mark.{marked_ok, lt_cases, up, up_old, up_new, count_marked, at_old, at_new, vertex_old, vertex_new, edge_old, edge_new, seen_cases, seen_new, seen_old, other}

-- vertex q stands at a place whose level is at most n
pub record Hit (lev : ℕ → ℕ) (s : Scan) (q n : ℕ) : Type 0 where
  pub k : ℕ
  pub lt : k < s.count
  pub is : at s k ≡ q
  pub near : lev k ≤ n

-- the vertex at place i was reached from one before it
pub record Parent (e : Graph) (edges : ℕ) (lev : ℕ → ℕ) (s : Scan) (i : ℕ) : Type 0 where
  pub j : ℕ
  pub before : j < i
  pub vertex : at s j ≡ parent_of s (at s i)
  pub level : lev i ≡ suc (lev j)
  pub leads : Leads e edges (edge_to s (at s i)) (at s j) (at s i)

pub record Base (e : Graph) (edges vertices start : ℕ) (lev : ℕ → ℕ) (s : Scan) : Type 0 where
  pub ok : Ok vertices s
  pub some : 0 < s.count
  pub first : at s 0 ≡ start
  pub flat : lev 0 ≡ 0
  pub listed : (q : ℕ) → Seen s q → (i : ℕ) × (i < s.count) × (at s i ≡ q)
  pub only : (i : ℕ) → i < s.count → Seen s (at s i)
  pub once : (i j : ℕ) → i < s.count → j < s.count → at s i ≡ at s j → i ≡ j
  pub parent : (i : ℕ) → i < s.count → (i ≡ 0) ⊎ Parent e edges lev s i
  pub mono : (i j : ℕ) → i ≤ j → j < s.count → lev i ≤ lev j

-- the first places are the same
pub record Ext (lev : ℕ → ℕ) (s : Scan) (lev' : ℕ → ℕ) (s' : Scan) : Type 0 where
  pub more : s.count ≤ s'.count
  pub same : (i : ℕ) → i < s.count → at s' i ≡ at s i
  pub level : (i : ℕ) → i < s.count → lev' i ≡ lev i

pub hit_ext : {lev lev' : ℕ → ℕ} {s s' : Scan} {q n : ℕ} → Ext lev s lev' s' → Hit lev s q n → Hit lev' s' q n
hit_ext x h = record {
  k = h.k;
  lt = lt_of_lt_of_le h.lt x.more;
  is = x.same h.k h.lt ∙ h.is;
  near = rw (x.level h.k h.lt) h.near;
}

-- an edge leads to a vertex
pub leads_below : {n edges g p q : ℕ} {e : Graph} → Fine n edges e.ends → Leads e edges g p q → q < n
leads_below {n} {edges} {g} f l =
    ⊎_elim (λ w. subst (λ k. k < n) w.1 (f.within g l.known).b) (λ w. subst (λ k. k < n) w.1 (f.within g l.known).a) l.ends

module _ (e : Graph) (edges vertices start : ℕ) (lev : ℕ → ℕ) (s : Scan) (h g q : ℕ) (f : Fine vertices edges e.ends) (b : Base e edges vertices start lev s)
    (hc : h < s.count) (near : (i : ℕ) → i < s.count → lev i ≤ suc (lev h)) (l : Leads e edges g (at s h) q) (fresh : reached_yet s q ≡ false) where
  abbrev t : Scan
  t = marked (at s h) g q s

  abbrev lev' : ℕ → ℕ
  lev' = up lev s.count (suc (lev h))

  below : q < 64
  below = omega (arith, leads_below f l, f.vertices)

  count_t : t.count ≡ s.count + 1
  count_t = count_marked (at s h) g q s

  old : (i : ℕ) → i < s.count → at t i ≡ at s i
  old i k = at_old (at s h) g q s vertices b.ok below fresh i k

  new : at t s.count ≡ q
  new = at_new (at s h) g q s vertices b.ok below fresh

  -- a place of the longer order
  place : (P : ℕ → Type 0) → ((i : ℕ) → i < s.count → P i) → P s.count → (i : ℕ) → i < t.count → P i
  place P f z i k = ⊎_elim (λ l. f i l) (λ x. subst P (sym x) z) (lt_cases i s.count (omega (arith, count_t)))

  pub marked_ext : Ext lev s lev' t
  marked_ext = record {
    more = omega (arith, count_t);
    same = old;
    level = λ i k. up_old lev s.count (suc (lev h)) i k;
  }

  differs : (i : ℕ) → i < s.count → at s i ≡ q → ⊥
  differs i k = other (at s h) g q s vertices b.ok below fresh (at s i) (b.only i k)

  t_listed : (r : ℕ) → Seen t r → (i : ℕ) × (i < t.count) × (at t i ≡ r)
  t_listed r w =
      ⊎_elim (λ x. (s.count, omega (arith, count_t), new ∙ sym x))
      (λ x. let (i, k, y) = b.listed r x in (i, omega (arith, count_t), old i k ∙ y))
      (seen_cases (at s h) g q s vertices b.ok below fresh r w)

  t_only : (i : ℕ) → i < t.count → Seen t (at t i)
  t_only =
      place (λ i. Seen t (at t i)) (λ i k. rw (old i k) (seen_old (at s h) g q s vertices b.ok below fresh (at s i) (b.only i k)))
      (rw new (seen_new (at s h) g q s vertices b.ok below fresh))

  t_once : (i j : ℕ) → i < t.count → j < t.count → at t i ≡ at t j → i ≡ j
  t_once i j ki kj =
      place (λ i. at t i ≡ at t j → i ≡ j)
      (λ i ki. place (λ j. at t i ≡ at t j → i ≡ j) (λ j kj x. b.once i j ki kj (sym (old i ki) ∙ x ∙ old j kj))
      (λ x. absurd (differs i ki (sym (old i ki) ∙ x ∙ new))) j kj)
      (place (λ j. at t s.count ≡ at t j → s.count ≡ j) (λ j kj x. absurd (differs j kj (sym (old j kj) ∙ sym x ∙ new))) (λ x. refl) j kj)
      i ki

  parent_old : (i : ℕ) → i < s.count → Parent e edges lev s i → Parent e edges lev' t i
  parent_old i k p =
      let kj : p.j < s.count = omega (arith, p.before) in
      record {
        j = p.j;
        before = p.before;
        vertex = rw (old p.j kj, old i k, vertex_old (at s h) g q s vertices b.ok below fresh (at s i) (at_low i f.vertices b.ok k) (differs i k)) p.vertex;
        level = up_old lev s.count (suc (lev h)) i k ∙ p.level ∙ ap suc (sym (up_old lev s.count (suc (lev h)) p.j kj));
        leads = rw (old p.j kj, old i k, edge_old (at s h) g q s vertices b.ok below fresh (at s i) (at_low i f.vertices b.ok k) (differs i k)) p.leads;
      }

  parent_new : Parent e edges lev' t s.count
  parent_new = record {
    j = h;
    before = hc;
    vertex = rw (new, old h hc, vertex_new (at s h) g q s vertices b.ok below fresh);
    level = up_new lev s.count (suc (lev h)) ∙ ap suc (sym (up_old lev s.count (suc (lev h)) h hc));
    leads = rw (new, old h hc, edge_new (at s h) g q s vertices b.ok below fresh) l;
  }

  t_parent : (i : ℕ) → i < t.count → (i ≡ 0) ⊎ Parent e edges lev' t i
  t_parent =
      place (λ i. (i ≡ 0) ⊎ Parent e edges lev' t i) (λ i k. ⊎_elim (λ z. inl z) (λ p. inr (parent_old i k p)) (b.parent i k)) (inr parent_new)

  t_mono : (i j : ℕ) → i ≤ j → j < t.count → lev' i ≤ lev' j
  t_mono i j ij kj =
      place (λ j. i ≤ j → lev' i ≤ lev' j)
      (λ j kj ij. rw (up_old lev s.count (suc (lev h)) j kj, up_old lev s.count (suc (lev h)) i (omega arith)) (b.mono i j ij kj))
      (λ ij. place (λ i. lev' i ≤ lev' s.count) (λ i ki. rw (up_new, up_old lev s.count (suc (lev h)) i ki) (near i ki)) (le_refl _) i (omega (arith, count_t)))
      j kj ij

  pub marked_base : Base e edges vertices start lev' t
  marked_base = record {
    ok = marked_ok (at s h) g q s vertices b.ok below fresh (leads_below f l) (at_low h f.vertices b.ok hc);
    some = omega (arith, count_t);
    first = old 0 b.some ∙ b.first;
    flat = up_old lev s.count (suc (lev h)) 0 b.some ∙ b.flat;
    listed = t_listed;
    only = t_only;
    once = t_once;
    parent = t_parent;
    mono = t_mono;
  }
