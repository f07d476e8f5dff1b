-- Steps 3 and 4, a region's turn by cases; and the search of a region's vertices only where its bounds do not meet.
use Prim.Native.Nat.{ℕ, zero, suc, ◌<◌, ◌≤◌}
use native.Mathlib.Omega.{arith}
use mathlib.Core.Path.{◌≡◌, refl, sym, ap, ◌∙◌}
use mathlib.Core.Logic.{⊎_elim}
use mathlib.Core.Bool.{true, ◌&&◌}
use mathlib.Core.List.{List, []}
use lib.Dec.{eqb, ltb}
use borrow.Author.Tests.{eq-eqb, ne_eqb, lt-ltb, le-ltb, ltb-false, eqb-true, ltb-true}
use Rattle.std.specs.Prelude.{Err}
use Rattle.base.specs.Iter.{iter, pick}
use Rattle.base.proofs.Loop.{pick_yes, pick_no, tested, eq_or_not}
use Rattle.base.proofs.Tests.{and_left, and_right}
use Rattle.division.specs.Plan.{Plan}
use Rattle.division.specs.State.{State, crossed_at}
use Rattle.division.specs.Conflicts.{sum_lower, greedy}
use Rattle.division.specs.Analysis.{View, Out, best, crowds, meets, ends, still, guarded, step4, step5, analyzed, spreads, parts}
use Rattle.graph.specs.Bounds.{walkable}
use Rattle.plan.specs.Words.{vertices_of, edges_of}
use Rattle.noting.specs.Words.{state_of}
use Rattle.views.specs.declared.members.Extremes.{Extremes}
use Rattle.views.specs.Members.{reaches, members_from, higher, lesser, extremes}
use Rattle.reasons.specs.declared.Stop.TheVariants.{Crowded, Apart}
use Rattle.reasons.specs.Words.{stored}
use Rattle.reasons.specs.Verdicts.{Verdict, Going, verdict_of, begun, ran, ran_of}
use Rattle.analysis.specs.First.{meets_first, step4_first, analyzed_first}
use Rattle.analysis.proofs.Pass.{Follows}
use Rattle.analysis.proofs.Shapes.{may_end, may_end_under}

module _ (d : Plan) (s : State) (w : View) (r : ℕ) (a : List ℕ) where
  pub crowds_other : (w.pid r ≡ r → ⊥) → ran Going a ≡ ran_of (crowds d s w r begun) a
  unfolding ran_of stored verdict_of crowds pick
  crowds_other n = simp (ne_eqb _ _ n)

  -- the code's sum z
  pub crowds_fit : (z : ℕ) → w.pid r ≡ r → z ≡ sum_lower s (greedy s 0 (w.cells r)) → z ≤ w.pw r → ran Going a ≡ ran_of (crowds d s w r begun) a
  unfolding ran_of stored verdict_of crowds pick
  crowds_fit z e h k = simp (eq-eqb _ _ e, ← h, le-ltb _ _ k)

  pub crowds_over : (z : ℕ) → w.pid r ≡ r → z ≡ sum_lower s (greedy s 0 (w.cells r)) → w.pw r < z → ran (Err (Crowded r)) a ≡ ran_of (crowds d s w r begun) a
  unfolding ran_of stored verdict_of crowds ends pick
  crowds_over z e h k = simp (eq-eqb _ _ e, ← h, lt-ltb _ _ k)

  -- what they need is no more than the region weighs, whether or not r is a label
  pub crowds_light : sum_lower s (greedy s 0 (w.cells r)) ≤ w.pw r → ran Going a ≡ ran_of (crowds d s w r begun) a
  crowds_light k = ⊎_elim (λ e. crowds_fit _ e refl k) crowds_other (eq_or_not (w.pid r) r)

  pub meets_other : (w.did r ≡ r → ⊥) → ran Going a ≡ ran_of (meets d s w r begun) a
  unfolding ran_of stored verdict_of meets pick
  meets_other n = simp (ne_eqb _ _ n)

  abbrev x : ℕ
  x = best (λ c b. ltb (s.lower b) (s.lower c)) r (w.members r)

  abbrev y : ℕ
  y = best (λ c b. ltb (s.upper c) (s.upper b)) r (w.members r)

  -- the code's vertices p and q
  pub meets_met : (p q : ℕ) → w.did r ≡ r → p ≡ x → q ≡ y → s.lower p ≤ s.upper q → ran Going a ≡ ran_of (meets d s w r begun) a
  unfolding ran_of stored verdict_of meets pick
  meets_met p q e h k l = simp (eq-eqb _ _ e, ← h, ← k, le-ltb _ _ l)

  pub meets_apart : (p q : ℕ) → w.did r ≡ r → p ≡ x → q ≡ y → s.upper q < s.lower p → ran (Err (Apart p q)) a ≡ ran_of (meets d s w r begun) a
  unfolding ran_of stored verdict_of meets ends pick
  meets_apart p q e h k l = simp (eq-eqb _ _ e, ← h, ← k, lt-ltb _ _ l)

  pub first_met : w.low r ≤ w.up r → ran Going a ≡ ran_of (meets_first d s w r begun) a
  unfolding ran_of stored verdict_of meets_first pick
  first_met l = simp (le-ltb _ _ l)

  pub first_not : (v : Verdict) → w.up r < w.low r → ran v a ≡ ran_of (meets d s w r begun) a → ran v a ≡ ran_of (meets_first d s w r begun) a
  unfolding meets_first
  first_not v l e = e ∙ ap (λ o. ran_of o a) (sym (pick_yes _ _ (lt-ltb _ _ l)))

-- the vertices that the search answers
module _ (ws : List ℕ) (es : List (List ℕ)) (ns : List ℕ) (r : ℕ) (e : Extremes) (h : e ≡ extremes ws es ns r) (walks : walkable es ns (edges_of ws) (vertices_of ws) ≡ true) (l : r < vertices_of ws) where
  walked : reaches ws es ns r ≡ true
  unfolding reaches
  walked = pick_yes _ _ walks ∙ lt-ltb _ _ l

  pub found_lower : e.lower_bound_idx ≡ best (higher (state_of ns)) r (members_from ws es ns r)
  unfolding extremes
  found_lower = ap (λ (z : Extremes). z.lower_bound_idx) (h ∙ pick_yes _ _ walked)

  pub found_upper : e.upper_bound_idx ≡ best (lesser (state_of ns)) r (members_from ws es ns r)
  unfolding extremes
  found_upper = ap (λ (z : Extremes). z.upper_bound_idx) (h ∙ pick_yes _ _ walked)

pub crowds_follows : (d : Plan) (s : State) (w : View) (r : ℕ) → Follows (crowds d s w r)
unfolding crowds
crowds_follows d s w r = may_end _ _

pub meets_first_follows : (d : Plan) (s : State) (w : View) (r : ℕ) → Follows (meets_first d s w r)
unfolding meets_first meets
meets_first_follows d s w r = may_end_under _ _ _

-- the search only where the region's bounds do not meet, if a conflict is never elsewhere
module _ (d : Plan) (s : State) (w : View)
    (first : (r : ℕ) → r < d.vertices → w.did r ≡ r → s.upper (y d s w r []) < s.lower (x d s w r []) → w.up r < w.low r) where
  meets_first_lem : (r : ℕ) (o : Out) → r < d.vertices → meets_first d s w r o ≡ meets d s w r o
  unfolding meets_first meets
  meets_first_lem r o h = tested (ltb (w.up r) (w.low r)) (λ t. pick_yes _ _ t)
      (λ t. pick_no _ _ t ∙ sym (tested (eqb (w.did r) r && ltb (s.upper (y d s w r [])) (s.lower (x d s w r [])))
      (λ u.
      let z = first r h (eqb-true _ _ (and_left _ _ u)) (ltb-true _ _ (and_right (eqb (w.did r) r) _ u)) in
      absurd (omega (arith, z, ltb-false (w.up r) (w.low r) t)))
      (λ u. pick_no _ _ u)))

  pass_same : (n : ℕ) (o : Out) → n ≤ d.vertices → iter (guarded (meets_first d s w)) n o ≡ iter (guarded (meets d s w)) n o
  unfolding iter guarded
  pass_same zero o h = refl
  pass_same (suc n) o h =
      ap (guarded (meets_first d s w) n) (pass_same n o (omega (arith, h))) ∙
      ap (λ q. pick (still (iter (guarded (meets d s w)) n o).verdict) q (iter (guarded (meets d s w)) n o)) (meets_first_lem n (iter (guarded (meets d s w)) n o) h)

  step4_same : (o : Out) → step4_first d s w o ≡ step4 d s w o
  unfolding step4_first step4
  step4_same o = ap (λ q. iter (guarded (spreads d s w)) d.vertices (iter (guarded (parts d s w)) d.edges q)) (pass_same d.vertices o (omega arith))

  pub analyzed_first_lem : analyzed_first d s w (crossed_at d s) ≡ analyzed d s w
  unfolding analyzed_first analyzed
  analyzed_first_lem = ap (step5 d s w) (step4_same _)
