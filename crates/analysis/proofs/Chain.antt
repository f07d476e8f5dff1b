-- The passes of each step one after the other, and the steps.
use Prim.Native.Nat.{ℕ}
use mathlib.Core.Path.{◌≡◌, refl, sym, ap, ◌∙◌}
use mathlib.Core.Bool.{Bool, true, false}
use mathlib.Core.List.{List}
use Rattle.std.specs.Prelude.{Err}
use Rattle.base.specs.Iter.{iter, pick}
use Rattle.base.proofs.Loop.{pick_yes, pick_no}
use Rattle.division.specs.Plan.{Plan}
use Rattle.division.specs.State.{State}
use Rattle.division.specs.Analysis as abstract
use Rattle.division.specs.Analysis.{View, Out, guarded, inside, matched, uncrossed, overfull, raises, merges, cuts, crowds, parts, spreads, parts_at, step1, step2, step3, step5}
use Rattle.reasons.specs.declared.Stop.{Stop}
use Rattle.reasons.specs.Verdicts.{Verdict, Going, begun, ran, ran_of}
use Rattle.analysis.specs.First.{meets_first, step4_first, analyzed_first}
use Rattle.analysis.proofs.Pass.{Regular, follows, same_regular, then_regular, guarded_goes, guarded_regular, pass_regular, ran_none, ran_after, ran_ended}
use Rattle.analysis.proofs.Matching.{matched_follows}
use Rattle.analysis.proofs.Bounds.{uncrossed_follows, overfull_follows, raises_follows, merges_follows, cuts_follows}
use Rattle.analysis.proofs.Spreading.{parts_follows, spreads_follows}
use Rattle.analysis.proofs.Forks.{parts_at_follows}
use Rattle.analysis.proofs.Meeting.{crowds_follows, meets_first_follows}

-- code that goes on
pub ran_next : (f : Out → Out) → Regular f → (o : Out) (a b c : List ℕ) (q : Verdict) → ran Going b ≡ ran_of o a → ran q c ≡ ran_of (f begun) b → ran q c ≡ ran_of (f o) a
ran_next f u o a b c q e h = ran_after f (follows f u) o a b c q e h

optional : (b : Bool) (f : Out → Out) → Regular f → Regular (λ o. pick b (f o) o)
unfolding pick
optional true f u = u
optional false f u = same_regular

module _ (d : Plan) (s : State) (w : View) where
  abbrev matched_pass : Regular (iter (guarded (matched d s w)) d.edges)
  matched_pass = pass_regular _ (matched_follows d s w) d.edges

  abbrev overfull_pass : Regular (iter (guarded (overfull d s w)) d.vertices)
  overfull_pass = pass_regular _ (overfull_follows d s w) d.vertices

  abbrev raises_pass : Regular (iter (guarded (raises d s w)) d.vertices)
  raises_pass = pass_regular _ (raises_follows d s w) d.vertices

  abbrev merges_pass : Regular (iter (guarded (merges d s w)) d.edges)
  merges_pass = pass_regular _ (merges_follows d s w) d.edges

  abbrev crowds_pass : Regular (iter (guarded (crowds d s w)) d.vertices)
  crowds_pass = pass_regular _ (crowds_follows d s w) d.vertices

  abbrev parts_pass : Regular (iter (guarded (parts d s w)) d.edges)
  parts_pass = pass_regular _ (parts_follows d s w) d.edges

  abbrev spreads_pass : Regular (iter (guarded (spreads d s w)) d.vertices)
  spreads_pass = pass_regular _ (spreads_follows d s w) d.vertices

  pub step2_regular : (v : ℕ) → Regular (step2 d s w v)
  unfolding step2
  step2_regular v =
      then_regular
      (λ o. iter (guarded (raises d s w)) d.vertices (iter (guarded (overfull d s w)) d.vertices (guarded (uncrossed d s w) v o)))
      (iter (guarded (merges d s w)) d.edges)
      (then_regular (λ o. iter (guarded (overfull d s w)) d.vertices (guarded (uncrossed d s w) v o))
      (iter (guarded (raises d s w)) d.vertices)
      (then_regular (guarded (uncrossed d s w) v) (iter (guarded (overfull d s w)) d.vertices)
      (guarded_regular _ v (uncrossed_follows d s w v)) overfull_pass) raises_pass) merges_pass

  pub step3_regular : Regular (step3 d s w)
  unfolding step3
  step3_regular = then_regular (iter (guarded (cuts d s w)) d.vertices) (iter (guarded (crowds d s w)) d.vertices) (pass_regular _ (cuts_follows d s w) d.vertices) crowds_pass

  pub step4_regular : Regular (step4_first d s w)
  unfolding step4_first
  step4_regular =
      then_regular (λ o. iter (guarded (parts d s w)) d.edges (iter (guarded (meets_first d s w)) d.vertices o)) (iter (guarded (spreads d s w)) d.vertices)
      (then_regular (iter (guarded (meets_first d s w)) d.vertices) (iter (guarded (parts d s w)) d.edges) (pass_regular _ (meets_first_follows d s w) d.vertices) parts_pass) spreads_pass

  pub step5_regular : Regular (step5 d s w)
  unfolding step5
  step5_regular = optional d.disallow_adjacent_same_size_regions _ (pass_regular _ (parts_at_follows d s w) d.vertices)

  module _ (a b c : List ℕ) where
    pub step1_walls : d.allow_extra_walls ≡ true → ran Going a ≡ ran_of (step1 d s w) a
    unfolding step1 abstract.begun iter
    step1_walls e = ran_none (inside d s w) a ∙ ap (λ o. ran_of o a) (sym (pick_yes _ _ e))

    pub step1_ended : {x : Stop} → d.allow_extra_walls ≡ false → ran (Err x) b ≡ ran_of (iter (guarded (inside d s w)) d.edges begun) a → ran (Err x) b ≡ ran_of (step1 d s w) a
    unfolding step1 abstract.begun
    step1_ended {x} e h = ran_ended _ matched_pass _ a b x h ∙ ap (λ o. ran_of o a) (sym (pick_no _ _ e))

    pub step1_done : d.allow_extra_walls ≡ false → ran Going b ≡ ran_of (iter (guarded (inside d s w)) d.edges begun) a →
        ran Going c ≡ ran_of (iter (guarded (matched d s w)) d.edges begun) b → ran Going c ≡ ran_of (step1 d s w) a
    unfolding step1 abstract.begun
    step1_done e h k = ran_next _ matched_pass _ a b c Going h k ∙ ap (λ o. ran_of o a) (sym (pick_no _ _ e))

    crossed_first : {q : Verdict} (v : ℕ) → ran q a ≡ ran_of (uncrossed d s w v begun) a → ran q a ≡ ran_of (guarded (uncrossed d s w) v begun) a
    crossed_first v h = h ∙ ap (λ o. ran_of o a) (sym (guarded_goes (uncrossed d s w) v begun refl))

    pub step2_crossed : {x : Stop} → (v : ℕ) → ran (Err x) a ≡ ran_of (uncrossed d s w v begun) a → ran (Err x) a ≡ ran_of (step2 d s w v begun) a
    unfolding step2
    step2_crossed {x} v h =
        ran_ended _ merges_pass _ a a x (ran_ended _ raises_pass _ a a x (ran_ended _ overfull_pass _ a a x (crossed_first v h)))

    pub step2_over : {x : Stop} → (v : ℕ) → ran Going a ≡ ran_of (uncrossed d s w v begun) a →
        ran (Err x) a ≡ ran_of (iter (guarded (overfull d s w)) d.vertices begun) a → ran (Err x) a ≡ ran_of (step2 d s w v begun) a
    unfolding step2
    step2_over {x} v h k =
        ran_ended _ merges_pass _ a a x
        (ran_ended _ raises_pass _ a a x (ran_next _ overfull_pass _ a a a (Err x) (crossed_first v h) k))

    pub step2_done : (v : ℕ) → ran Going a ≡ ran_of (uncrossed d s w v begun) a →
        ran Going a ≡ ran_of (iter (guarded (overfull d s w)) d.vertices begun) a →
        ran Going b ≡ ran_of (iter (guarded (raises d s w)) d.vertices begun) a →
        ran Going c ≡ ran_of (iter (guarded (merges d s w)) d.edges begun) b → ran Going c ≡ ran_of (step2 d s w v begun) a
    unfolding step2
    step2_done v h k i j =
        ran_next _ merges_pass _ a b c Going
        (ran_next _ raises_pass _ a a b Going (ran_next _ overfull_pass _ a a a Going (crossed_first v h) k) i) j

    pub step3_under : {x : Stop} → ran (Err x) b ≡ ran_of (iter (guarded (cuts d s w)) d.vertices begun) a → ran (Err x) b ≡ ran_of (step3 d s w begun) a
    unfolding step3
    step3_under {x} h = ran_ended _ crowds_pass _ a b x h

    pub step3_done : {r : Verdict} → ran Going b ≡ ran_of (iter (guarded (cuts d s w)) d.vertices begun) a →
        ran r b ≡ ran_of (iter (guarded (crowds d s w)) d.vertices begun) b → ran r b ≡ ran_of (step3 d s w begun) a
    unfolding step3
    step3_done {r} h k = ran_next _ crowds_pass _ a b b r h k

    pub step4_apart : {x : Stop} → ran (Err x) a ≡ ran_of (iter (guarded (meets_first d s w)) d.vertices begun) a → ran (Err x) a ≡ ran_of (step4_first d s w begun) a
    unfolding step4_first
    step4_apart {x} h = ran_ended _ spreads_pass _ a a x (ran_ended _ parts_pass _ a a x h)

    pub step4_done : ran Going a ≡ ran_of (iter (guarded (meets_first d s w)) d.vertices begun) a →
        ran Going b ≡ ran_of (iter (guarded (parts d s w)) d.edges begun) a → ran Going c ≡ ran_of (iter (guarded (spreads d s w)) d.vertices begun) b → ran Going c ≡ ran_of (step4_first d s w begun) a
    unfolding step4_first
    step4_done h k i = ran_next _ spreads_pass _ a b c Going (ran_next _ parts_pass _ a a b Going h k) i

    pub step5_off : d.disallow_adjacent_same_size_regions ≡ false → ran Going a ≡ ran_of (step5 d s w begun) a
    unfolding step5 iter
    step5_off e = ran_none (inside d s w) a ∙ ap (λ o. ran_of o a) (sym (pick_no _ _ e))

    pub step5_on : {r : Verdict} → d.disallow_adjacent_same_size_regions ≡ true → ran r b ≡ ran_of (iter (guarded (parts_at d s w)) d.vertices begun) a → ran r b ≡ ran_of (step5 d s w begun) a
    unfolding step5
    step5_on {r} e h = h ∙ ap (λ o. ran_of o a) (sym (pick_yes _ _ e))

    -- the analysis that ends with step 1, 2, 3 or 4, or with step 5
    pub ends_1 : {x : Stop} → (v : ℕ) → ran (Err x) b ≡ ran_of (step1 d s w) a → ran (Err x) b ≡ ran_of (analyzed_first d s w v) a
    unfolding analyzed_first
    ends_1 {x} v h =
        ran_ended _ step5_regular _ a b x
        (ran_ended _ step4_regular _ a b x (ran_ended _ step3_regular _ a b x (ran_ended _ (step2_regular v) _ a b x h)))

    pub ends_2 : {x : Stop} → (v : ℕ) → ran (Err x) b ≡ ran_of (step2 d s w v (step1 d s w)) a → ran (Err x) b ≡ ran_of (analyzed_first d s w v) a
    unfolding analyzed_first
    ends_2 {x} v h = ran_ended _ step5_regular _ a b x (ran_ended _ step4_regular _ a b x (ran_ended _ step3_regular _ a b x h))

    pub ends_3 : {x : Stop} → (v : ℕ) → ran (Err x) b ≡ ran_of (step3 d s w (step2 d s w v (step1 d s w))) a → ran (Err x) b ≡ ran_of (analyzed_first d s w v) a
    unfolding analyzed_first
    ends_3 {x} v h = ran_ended _ step5_regular _ a b x (ran_ended _ step4_regular _ a b x h)

    pub ends_4 : {x : Stop} → (v : ℕ) → ran (Err x) b ≡ ran_of (step4_first d s w (step3 d s w (step2 d s w v (step1 d s w)))) a →
        ran (Err x) b ≡ ran_of (analyzed_first d s w v) a
    unfolding analyzed_first
    ends_4 {x} v h = ran_ended _ step5_regular _ a b x h

    pub ends_5 : {r : Verdict} → (v : ℕ) → ran Going b ≡ ran_of (step4_first d s w (step3 d s w (step2 d s w v (step1 d s w)))) a →
        ran r c ≡ ran_of (step5 d s w begun) b → ran r c ≡ ran_of (analyzed_first d s w v) a
    unfolding analyzed_first
    ends_5 {r} v h k = ran_next _ step5_regular _ a b c r h k
