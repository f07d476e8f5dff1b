-- Steps 2 and 3, a vertex's or an edge's turn by cases.
use Prim.Native.Nat.{ℕ, pred, ◌+◌, ◌<◌, ◌≤◌, min}
use native.Mathlib.Numerals.{add-one}
use mathlib.Core.Path.{◌≡◌, refl, sym}
use mathlib.Core.Bool.{true, false}
use mathlib.Core.List.{List, [], ◌∷◌}
use lib.Dec.{eqb, ltb}
use borrow.Author.Tests.{eqb-true, lt-ltb, le-ltb}
use Rattle.std.specs.Prelude.{Err}
use Rattle.base.specs.Iter.{pick}
use Rattle.base.proofs.Loop.{pick_ind}
use Rattle.sat.specs.Literal.{negate}
use Rattle.division.specs.Plan.{Plan}
use Rattle.division.specs.State.{State}
use Rattle.division.specs.Analysis.{View, place, loose, uncrossed, overfull, raises, merges, cuts, propose, ends, lid, rid}
use Rattle.noting.specs.Words.{lits_of}
use Rattle.reasons.specs.declared.Stop.TheVariants.{Over, Under, Crossing}
use Rattle.reasons.specs.Words.{packed, lit_word, put, first_word, second_word, stored}
use Rattle.reasons.specs.Verdicts.{Going, verdict_of, begun, ran, ran_of}
use Rattle.analysis.proofs.Pass.{Follows}
use Rattle.analysis.proofs.Shapes.{proposes, may_end, ends_or_proposes}

-- a bound's literal, as words hold it
pub lit_word_lem : (x : ℕ) → lit_word (lits_of x) ≡ x
unfolding lits_of lit_word
lit_word_lem x = pick_ind (λ l. lit_word l ≡ x) (eqb x 65535) [] (x ∷ []) (λ e. sym (eqb-true x 65535 e)) (λ _. refl)

module _ (d : Plan) (s : State) (w : View) (v : ℕ) (a : List ℕ) where
  pub uncrossed_not : d.vertices ≤ v → ran Going a ≡ ran_of (uncrossed d s w v begun) a
  unfolding ran_of stored verdict_of uncrossed pick
  uncrossed_not h = simp (le-ltb _ _ h)

  pub uncrossed_is : v < d.vertices → ran (Err (Crossing v)) a ≡ ran_of (uncrossed d s w v begun) a
  unfolding ran_of stored verdict_of uncrossed ends pick
  uncrossed_is h = simp (lt-ltb _ _ h)

  pub overfull_not : w.dw (w.did v) ≤ s.upper v → ran Going a ≡ ran_of (overfull d s w v begun) a
  unfolding ran_of stored verdict_of overfull pick
  overfull_not h = simp (le-ltb _ _ h)

  pub overfull_is : s.upper v < w.dw (w.did v) → ran (Err (Over v)) a ≡ ran_of (overfull d s w v begun) a
  unfolding ran_of stored verdict_of overfull ends pick
  overfull_is h = simp (lt-ltb _ _ h)

  pub raises_bare : d.domain_len v ≤ 0 → ran Going a ≡ ran_of (raises d s w v begun) a
  unfolding ran_of stored verdict_of raises pick
  raises_bare h = simp (le-ltb _ _ h)

  pub raises_met : 0 < d.domain_len v → w.dw (w.did v) ≤ s.lower v → ran Going a ≡ ran_of (raises d s w v begun) a
  unfolding ran_of stored verdict_of raises pick
  raises_met h k = simp (lt-ltb _ _ h, le-ltb _ _ k)

  -- the code's weight y, place p and word x
  pub raises_some : (y p x : ℕ) → 0 < d.domain_len v → s.lower v < w.dw (w.did v) → y ≡ w.dw (w.did v) →
      p ≡ d.dom_lit v (pred (place (d.domain v) y (d.domain_len v))) → x ≡ packed 4 v 0 0 0 → ran Going (put p x 0 a) ≡ ran_of (raises d s w v begun) a
  unfolding ran_of stored verdict_of raises propose pick first_word second_word
  raises_some y p x h k e q z = simp (lt-ltb _ _ h, lt-ltb _ _ k, z, q, e)

  pub cuts_bare : d.domain_len v ≡ 0 → ran Going a ≡ ran_of (cuts d s w v begun) a
  unfolding ran_of stored verdict_of cuts pick
  cuts_bare e = simp e

  pub cuts_under : 0 < d.domain_len v → w.pw (w.pid v) < s.lower v → ran (Err (Under v)) a ≡ ran_of (cuts d s w v begun) a
  unfolding ran_of stored verdict_of cuts ends pick
  cuts_under h k = simp (lt-ltb _ _ h, lt-ltb _ _ k)

  pub cuts_met : 0 < d.domain_len v → s.lower v ≤ w.pw (w.pid v) → s.upper v ≤ w.pw (w.pid v) → ran Going a ≡ ran_of (cuts d s w v begun) a
  unfolding ran_of stored verdict_of cuts pick
  cuts_met h k l = simp (lt-ltb _ _ h, le-ltb _ _ k, le-ltb _ _ l)

  pub cuts_some : (y q p x : ℕ) → 0 < d.domain_len v → s.lower v ≤ w.pw (w.pid v) → w.pw (w.pid v) < s.upper v → y ≡ w.pw (w.pid v) →
      q ≡ d.dom_lit v (pred (place (d.domain v) (y + 1) (d.domain_len v))) → p ≡ negate q → x ≡ packed 5 v 0 0 0 → ran Going (put p x 0 a) ≡ ran_of (cuts d s w v begun) a
  unfolding ran_of stored verdict_of cuts propose pick first_word second_word
  cuts_some y q p x h k l e u n z = simp (lt-ltb _ _ h, le-ltb _ _ k, lt-ltb _ _ l, z, n, u, e, add-one)

module _ (d : Plan) (s : State) (w : View) (g : ℕ) (a : List ℕ) where
  pub merges_not : loose d s w g ≡ false → ran Going a ≡ ran_of (merges d s w g begun) a
  unfolding ran_of stored verdict_of merges pick
  merges_not e = simp e

  pub merges_fit : (u v : ℕ) → loose d s w g ≡ true → u ≡ lid d s w g → v ≡ rid d s w g → ltb (min (w.up u) (w.up v)) (w.dw u + w.dw v) ≡ false →
      ran Going a ≡ ran_of (merges d s w g begun) a
  unfolding ran_of stored verdict_of merges pick
  merges_fit u v e p q h = simp (e, ← p, ← q, h)

  -- the code's regions u and v, the vertex y with the lesser bound, that bound's literal l, place and word
  pub merges_some : (u v y l p x : ℕ) → loose d s w g ≡ true → u ≡ lid d s w g → v ≡ rid d s w g → ltb (min (w.up u) (w.up v)) (w.dw u + w.dw v) ≡ true →
      y ≡ pick (ltb (w.up u) (w.up v)) (w.up_at u) (w.up_at v) → s.upper_lit y ≡ lits_of l → p ≡ d.edge_lit g → x ≡ packed 3 g 0 0 l →
      ran Going (put p x 0 a) ≡ ran_of (merges d s w g begun) a
  unfolding ran_of stored verdict_of merges propose pick first_word second_word
  merges_some u v y l p x e m n h q o k z = simp (e, ← m, ← n, h, ← q, o, lit_word_lem, k, z)

pub uncrossed_follows : (d : Plan) (s : State) (w : View) (v : ℕ) → Follows (uncrossed d s w v)
unfolding uncrossed
uncrossed_follows d s w v = may_end _ _

pub overfull_follows : (d : Plan) (s : State) (w : View) (v : ℕ) → Follows (overfull d s w v)
unfolding overfull
overfull_follows d s w v = may_end _ _

pub raises_follows : (d : Plan) (s : State) (w : View) (v : ℕ) → Follows (raises d s w v)
unfolding raises
raises_follows d s w v = proposes _ _ _

pub merges_follows : (d : Plan) (s : State) (w : View) (g : ℕ) → Follows (merges d s w g)
unfolding merges
merges_follows d s w g = proposes _ _ _

pub cuts_follows : (d : Plan) (s : State) (w : View) (v : ℕ) → Follows (cuts d s w v)
unfolding cuts
cuts_follows d s w v = ends_or_proposes _ _ _ _ _ _
