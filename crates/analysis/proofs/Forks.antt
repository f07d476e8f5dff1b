-- Step 5, the turn of two edges at a vertex by cases.
use Prim.Native.Nat.{ℕ, zero, suc, ◌+◌}
use mathlib.Core.Path.{◌≡◌, refl, sym, ap, ap₂, ◌∙◌}
use mathlib.Core.Bool.{Bool, true, false, ◌&&◌, false≢true}
use mathlib.Core.List.{List}
use lib.Dec.{eqb}
use borrow.Author.Tests.{ne_eqb}
use Rattle.std.specs.Prelude.{Err}
use Rattle.base.specs.Iter.{iter, pick}
use Rattle.division.specs.Plan.{Plan, touches, across}
use Rattle.division.specs.State.{State}
use Rattle.division.specs.Analysis.{View, loose, forks, same_size, same_size_reason, parted, parts_at, guarded, still, propose, ends}
use Rattle.noting.specs.Words.{lits_of}
use Rattle.reasons.specs.declared.Stop.TheVariants.{ZeroSize}
use Rattle.reasons.specs.Words.{packed, packed_lits, put, first_word, second_word, stored}
use Rattle.reasons.specs.Verdicts.{Going, verdict_of, begun, ran, ran_of}
use Rattle.analysis.specs.SameSize.{leads_to_fixed, one_size}
use Rattle.analysis.proofs.Pass.{Follows, follows, pass_regular}
use Rattle.analysis.proofs.Shapes.{ends_or_proposes_both}
use Rattle.analysis.proofs.Bounds.{lit_word_lem}

module _ (d : Plan) (s : State) (w : View) (u g h : ℕ) where
  -- the code's regions x and y, the weight z of u's own, and its test
  pub same_are : (x y z : ℕ) (b : Bool) → forks d s w u g h ≡ true → x ≡ w.did (across d u g) → y ≡ w.did (across d u h) → z ≡ w.dw (w.did u) →
      b ≡ one_size (w.low x) (w.up x) (w.low y) (w.up y) (w.dw x + w.dw y + z) → b ≡ same_size d s w u g h
  unfolding same_size one_size
  same_are x y z b e k l m t = simp (e, ← k, ← l, ← m) t

  module _ (a : List ℕ) where
    pub parted_not : same_size d s w u g h ≡ false → ran Going a ≡ ran_of (parted d s w u g h begun) a
    unfolding ran_of stored verdict_of parted pick
    parted_not e = simp e

    pub parted_zero : same_size d s w u g h ≡ true → w.low (w.did (across d u g)) ≡ 0 → ran (Err ZeroSize) a ≡ ran_of (parted d s w u g h begun) a
    unfolding ran_of stored verdict_of parted ends pick
    parted_zero e z = simp (e, z)

    -- the code's places p and q and words x and y
    pub parted_some : (p q x y : ℕ) → same_size d s w u g h ≡ true → (w.low (w.did (across d u g)) ≡ 0 → ⊥) → p ≡ d.edge_lit g → q ≡ d.edge_lit h →
        x ≡ first_word (same_size_reason d s w u g h) → y ≡ second_word (same_size_reason d s w u g h) → ran Going (put q x y (put p x y a)) ≡ ran_of (parted d s w u g h begun) a
    unfolding ran_of stored verdict_of parted propose pick
    parted_some p q x y e z i j k l = simp (e, ne_eqb _ _ z, i, j, k, l)

  -- the words of the reason, where the code's regions are x and y and their bound literals as words hold them
  pub same_first : (a b x : ℕ) → a ≡ across d u g → b ≡ across d u h → x ≡ packed 8 a b u 0 → x ≡ first_word (same_size_reason d s w u g h)
  unfolding same_size_reason first_word
  same_first a b x e f i = i ∙ ap₂ (λ (p q : ℕ). packed 8 p q u 0) e f

  pub same_second : (x y la ua lb ub z : ℕ) → x ≡ w.did (across d u g) → y ≡ w.did (across d u h) → s.lower_lit (w.low_at x) ≡ lits_of la → s.upper_lit (w.up_at x) ≡ lits_of ua →
      s.lower_lit (w.low_at y) ≡ lits_of lb → s.upper_lit (w.up_at y) ≡ lits_of ub → z ≡ packed_lits la ua lb ub → z ≡ second_word (same_size_reason d s w u g h)
  unfolding same_size_reason second_word
  same_second x y la ua lb ub z e f i j k l m = simp (← e, ← f, i, j, k, l, lit_word_lem) m

and_false : (b : Bool) → (b && false) ≡ false
and_false true = refl
and_false false = refl

module _ (d : Plan) (s : State) (w : View) (u g : ℕ) where
  -- the edge's own part of the test
  needs_fixed : (h : ℕ) → leads_to_fixed d s w u g ≡ false → same_size d s w u g h ≡ false
  unfolding leads_to_fixed same_size forks
  needs_fixed h e = cases (touches d u g) (loose d s w g) (eqb (w.low (w.did (across d u g))) (w.up (w.did (across d u g)))) _ _ _ _ _ e
    where
      cases : (t l f m n o p q : Bool) → (t && (l && f)) ≡ false → (((t && m) && ((l && n) && o)) && ((f && p) && q)) ≡ false
      cases true true true m n o p q e = absurd (false≢true (sym e))
      cases true true false m n o p q e = and_false ((true && m) && ((true && n) && o))
      cases true false f m n o p q e = ap (◌&& ((f && p) && q)) (and_false m)
      cases false l f m n o p q e = refl

  pub parted_none : (n : ℕ) → leads_to_fixed d s w u g ≡ false → iter (guarded (parted d s w u g)) n begun ≡ begun
  unfolding iter guarded parted still pick
  parted_none zero e = refl
  parted_none (suc n) e = simp (parted_none n e, needs_fixed n e)

  pub parted_follows : (h : ℕ) → Follows (parted d s w u g h)
  unfolding parted
  parted_follows h = ends_or_proposes_both _ _ _ _ _ _ _

  pub part_from_follows : Follows (iter (guarded (parted d s w u g)) g)
  part_from_follows = follows _ (pass_regular (parted d s w u g) parted_follows g)

pub parts_at_follows : (d : Plan) (s : State) (w : View) (u : ℕ) → Follows (parts_at d s w u)
unfolding parts_at
parts_at_follows d s w u = follows _ (pass_regular (λ g. iter (guarded (parted d s w u g)) g) (part_from_follows d s w u) d.edges)
