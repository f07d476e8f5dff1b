-- Step 4, a vertex's or an edge's turn by cases.
use Prim.Native.Nat.{ℕ, pred, ◌+◌, ◌<◌, ◌≤◌}
use native.Mathlib.Numerals.{add-one}
use mathlib.Core.Path.{◌≡◌, refl}
use mathlib.Core.Bool.{Bool, true, false}
use mathlib.Core.List.{List}
use lib.Dec.{ltb}
use borrow.Author.Tests.{lt-ltb, le-ltb}
use Rattle.base.specs.Iter.{pick}
use Rattle.sat.specs.Literal.{negate}
use Rattle.division.specs.Plan.{Plan}
use Rattle.division.specs.State.{State}
use Rattle.division.specs.Reasons.{Reason, inconsistent_bounds_if_regions_are_merged}
use Rattle.division.specs.Analysis.{View, place, loose, parts, spreads_low, spreads_high, spreads, propose, lid, rid}
use Rattle.noting.specs.Words.{lits_of}
use Rattle.reasons.specs.Words.{packed, bit, put, first_word, second_word, stored}
use Rattle.reasons.specs.Verdicts.{Going, verdict_of, begun, ran, ran_of}
use Rattle.analysis.proofs.Pass.{Follows}
use Rattle.analysis.proofs.Shapes.{proposes, proposes_twice}
use Rattle.analysis.proofs.Bounds.{lit_word_lem}

-- two proposals for one literal, each under a test
twice : (x y : Bool) (l : ℕ) (r q : Reason) (a : List ℕ) →
    ran Going (pick y (put l (first_word q) (second_word q) (pick x (put l (first_word r) (second_word r) a) a)) (pick x (put l (first_word r) (second_word r) a) a)) ≡
    ran_of (pick y (propose l q (pick x (propose l r begun) begun)) (pick x (propose l r begun) begun)) a
unfolding ran_of stored verdict_of propose pick
twice true true l r q a = refl
twice true false l r q a = refl
twice false true l r q a = refl
twice false false l r q a = refl

module _ (d : Plan) (s : State) (w : View) (g : ℕ) (a : List ℕ) where
  pub parts_not : loose d s w g ≡ false → ran Going a ≡ ran_of (parts d s w g begun) a
  unfolding ran_of stored verdict_of parts pick
  parts_not e = simp e

  -- the code's regions u and v, and what its two turns leave
  pub parts_some : (u v : ℕ) (b c : List ℕ) → loose d s w g ≡ true → u ≡ lid d s w g → v ≡ rid d s w g →
      b ≡ pick (ltb (w.up v) (w.low u)) (put (d.edge_lit g) (packed 6 g (w.up_at v) (w.low_at u) 1) 0 a) a →
      c ≡ pick (ltb (w.up u) (w.low v)) (put (d.edge_lit g) (packed 6 g (w.up_at u) (w.low_at v) 0) 0 b) b →
      ran Going c ≡ ran_of (parts d s w g begun) a
  unfolding parts first_word second_word bit pick
  parts_some u v b c e m n h k =
      simp (e, ← m, ← n, k, h)
      (twice (ltb (w.up v) (w.low u)) (ltb (w.up u) (w.low v)) (d.edge_lit g) (inconsistent_bounds_if_regions_are_merged g (w.up_at v) (w.low_at u) true)
      (inconsistent_bounds_if_regions_are_merged g (w.up_at u) (w.low_at v) false) a)

module _ (d : Plan) (s : State) (w : View) (v : ℕ) (a : List ℕ) where
  pub spreads_low_bare : d.domain_len v ≤ 0 → ran Going a ≡ ran_of (spreads_low d s w v begun) a
  unfolding ran_of stored verdict_of spreads_low pick
  spreads_low_bare h = simp (le-ltb _ _ h)

  pub spreads_low_met : (r y : ℕ) → 0 < d.domain_len v → r ≡ w.did v → y ≡ w.low r → y ≤ s.lower v → ran Going a ≡ ran_of (spreads_low d s w v begun) a
  unfolding ran_of stored verdict_of spreads_low pick
  spreads_low_met r y h e f k = simp (lt-ltb _ _ h, ← e, ← f, le-ltb _ _ k)

  -- the code's region r, bound y, vertex k that has it, that bound's literal l, place p and word x
  pub spreads_low_some : (r y k l p x : ℕ) → 0 < d.domain_len v → s.lower v < w.low r → r ≡ w.did v → y ≡ w.low r → k ≡ w.low_at r → s.lower_lit k ≡ lits_of l →
      p ≡ d.dom_lit v (pred (place (d.domain v) y (d.domain_len v))) → x ≡ packed 7 k v 0 l → ran Going (put p x 0 a) ≡ ran_of (spreads_low d s w v begun) a
  unfolding ran_of stored verdict_of spreads_low propose pick first_word second_word
  spreads_low_some r y k l p x h m e f i o q z = simp (lt-ltb _ _ h, ← e, lt-ltb _ _ m, ← i, o, lit_word_lem, z, q, f)

  pub spreads_high_bare : d.domain_len v ≤ 0 → ran Going a ≡ ran_of (spreads_high d s w v begun) a
  unfolding ran_of stored verdict_of spreads_high pick
  spreads_high_bare h = simp (le-ltb _ _ h)

  pub spreads_high_met : (r y : ℕ) → 0 < d.domain_len v → r ≡ w.did v → y ≡ w.up r → s.upper v ≤ y → ran Going a ≡ ran_of (spreads_high d s w v begun) a
  unfolding ran_of stored verdict_of spreads_high pick
  spreads_high_met r y h e f k = simp (lt-ltb _ _ h, ← e, ← f, le-ltb _ _ k)

  pub spreads_high_some : (r y k l n p x : ℕ) → 0 < d.domain_len v → w.up r < s.upper v → r ≡ w.did v → y ≡ w.up r → k ≡ w.up_at r → s.upper_lit k ≡ lits_of l →
      n ≡ d.dom_lit v (pred (place (d.domain v) (y + 1) (d.domain_len v))) → p ≡ negate n → x ≡ packed 7 k v 0 l → ran Going (put p x 0 a) ≡ ran_of (spreads_high d s w v begun) a
  unfolding ran_of stored verdict_of spreads_high propose pick first_word second_word
  spreads_high_some r y k l n p x h m e f i o q j z = simp (lt-ltb _ _ h, ← e, lt-ltb _ _ m, ← i, o, lit_word_lem, z, j, q, f, add-one)

pub parts_follows : (d : Plan) (s : State) (w : View) (g : ℕ) → Follows (parts d s w g)
unfolding parts
parts_follows d s w g = proposes_twice _ _ _ _ _ _

pub spreads_high_follows : (d : Plan) (s : State) (w : View) (v : ℕ) → Follows (spreads_high d s w v)
unfolding spreads_high
spreads_high_follows d s w v = proposes _ _ _

pub spreads_follows : (d : Plan) (s : State) (w : View) (v : ℕ) → Follows (spreads d s w v)
unfolding spreads spreads_high spreads_low
spreads_follows d s w v = proposes_twice _ _ _ _ _ _
