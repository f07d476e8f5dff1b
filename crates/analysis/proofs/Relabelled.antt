-- An analysis of the plan with other names for its literals proposes the same under those names.
use Prim.Native.Nat.{ℕ, zero, suc}
use mathlib.Core.Path.{◌≡◌, refl, ap, ◌∙◌}
use mathlib.Core.Bool.{Bool, true, false}
use Rattle.base.specs.Iter.{iter, pick}
use Rattle.sat.specs.Literal.{negate}
use Rattle.division.specs.Plan.{Plan, touches, across}
use Rattle.division.specs.State.{State, crossed_at}
use Rattle.division.specs.Reasons.{Reason}
use Rattle.division.specs.Analysis.{View, Verdict, Out, still, propose, ends, guarded, inside, matches, loose, matched, uncrossed, overfull, raises, merges, cuts, crowds, meets, parts, spreads_low, spreads_high, spreads, forks, same_size, same_size_reason, parted, parts_at, begun, step1, step2, step3, step4, step5, analyzed}
use Rattle.analysis.specs.Relabel.{relabel, relabelled, relabelled_plan}

module _ (φ : ℕ → ℕ) where
  abbrev re : Out → Out
  re = relabelled φ

  proposes_re : (b : Bool) (l m : ℕ) (r : Reason) → m ≡ φ l → (o : Out) → pick b (propose m r (re o)) (re o) ≡ re (pick b (propose l r o) o)
  unfolding relabelled relabel pick propose
  proposes_re true l m r e o = ap (λ i. propose i r (re o)) e
  proposes_re false l m r e o = refl

  ends_re : (b : Bool) (x : Verdict) (o : Out) → pick b (ends x (re o)) (re o) ≡ re (pick b (ends x o) o)
  unfolding relabelled pick ends
  ends_re true x o = refl
  ends_re false x o = refl

  both_re : (b c e : Bool) (x : Verdict) (l m : ℕ) (r : Reason) → m ≡ φ l → (o : Out) →
      pick b (pick c (ends x (re o)) (pick e (propose m r (re o)) (re o))) (re o) ≡ re (pick b (pick c (ends x o) (pick e (propose l r o) o)) o)
  unfolding pick ends relabelled
  both_re true true e x l m r h o = refl
  both_re true false e x l m r h o = proposes_re e l m r h o
  both_re false c e x l m r h o = refl

  pair_re : (b c : Bool) (x : Verdict) (k l : ℕ) (r q : Reason) (o : Out) →
      pick b (pick c (ends x (re o)) (propose (φ k) r (propose (φ l) q (re o)))) (re o) ≡ re (pick b (pick c (ends x o) (propose k r (propose l q o))) o)
  unfolding pick ends propose relabelled relabel
  pair_re true true x k l r q o = refl
  pair_re true false x k l r q o = refl
  pair_re false c x k l r q o = refl

  twice_re : (b c : Bool) (l : ℕ) (r q : Reason) (o : Out) →
      pick c (propose (φ l) q (pick b (propose (φ l) r (re o)) (re o))) (pick b (propose (φ l) r (re o)) (re o)) ≡
      re (pick c (propose l q (pick b (propose l r o) o)) (pick b (propose l r o) o))
  unfolding pick propose relabelled relabel
  twice_re true true l r q o = refl
  twice_re true false l r q o = refl
  twice_re false true l r q o = refl
  twice_re false false l r q o = refl

  picks_re : (b : Bool) (x y z u : Out) → x ≡ re y → z ≡ re u → pick b x z ≡ re (pick b y u)
  unfolding pick
  picks_re true x y z u e h = e
  picks_re false x y z u e h = h

  guarded_re : (f h : ℕ → Out → Out) (i : ℕ) (o : Out) → h i (re o) ≡ re (f i o) → guarded h i (re o) ≡ re (guarded f i o)
  unfolding guarded relabelled
  guarded_re f h i o e = picks_re (still o.verdict) (h i (re o)) (f i o) (re o) o e refl

  iter_re : (f h : ℕ → Out → Out) → ((i : ℕ) (o : Out) → h i (re o) ≡ re (f i o)) → (n : ℕ) (o : Out) → iter h n (re o) ≡ re (iter f n o)
  unfolding iter
  iter_re f h e zero o = refl
  iter_re f h e (suc n) o = ap (h n) (iter_re f h e n o) ∙ e n (iter f n o)

  pass_re : (f h : ℕ → Out → Out) → ((i : ℕ) (o : Out) → h i (re o) ≡ re (f i o)) → (n : ℕ) (o : Out) → iter (guarded h) n (re o) ≡ re (iter (guarded f) n o)
  pass_re f h e n o = iter_re (guarded f) (guarded h) (λ i q. guarded_re f h i q (e i q)) n o

  module _ (neg : (l : ℕ) → negate (φ l) ≡ φ (negate l)) (d : Plan) (s : State) (w : View) where
    abbrev d' : Plan
    d' = relabelled_plan φ d

    inside_re : (g : ℕ) (o : Out) → inside d' s w g (re o) ≡ re (inside d s w g o)
    unfolding inside
    inside_re g o = both_re _ _ _ _ _ _ _ (neg (d.edge_lit g)) o

    matched_re : (g : ℕ) (o : Out) → matched d' s w g (re o) ≡ re (matched d s w g o)
    unfolding matched matches loose
    matched_re g o = proposes_re _ _ _ _ refl o

    uncrossed_re : (v : ℕ) (o : Out) → uncrossed d' s w v (re o) ≡ re (uncrossed d s w v o)
    unfolding uncrossed
    uncrossed_re v o = ends_re _ _ o

    overfull_re : (v : ℕ) (o : Out) → overfull d' s w v (re o) ≡ re (overfull d s w v o)
    unfolding overfull
    overfull_re v o = ends_re _ _ o

    raises_re : (v : ℕ) (o : Out) → raises d' s w v (re o) ≡ re (raises d s w v o)
    unfolding raises
    raises_re v o = proposes_re _ _ _ _ refl o

    merges_re : (g : ℕ) (o : Out) → merges d' s w g (re o) ≡ re (merges d s w g o)
    unfolding merges loose
    merges_re g o = proposes_re _ _ _ _ refl o

    cuts_re : (v : ℕ) (o : Out) → cuts d' s w v (re o) ≡ re (cuts d s w v o)
    unfolding cuts
    cuts_re v o = both_re _ _ _ _ _ _ _ (neg _) o

    crowds_re : (r : ℕ) (o : Out) → crowds d' s w r (re o) ≡ re (crowds d s w r o)
    unfolding crowds
    crowds_re r o = ends_re _ _ o

    meets_re : (r : ℕ) (o : Out) → meets d' s w r (re o) ≡ re (meets d s w r o)
    unfolding meets
    meets_re r o = ends_re _ _ o

    parts_re : (g : ℕ) (o : Out) → parts d' s w g (re o) ≡ re (parts d s w g o)
    unfolding parts loose
    parts_re g o = twice_re _ _ _ _ _ o

    low_re : (v : ℕ) (o : Out) → spreads_low d' s w v (re o) ≡ re (spreads_low d s w v o)
    unfolding spreads_low
    low_re v o = proposes_re _ _ _ _ refl o

    high_re : (v : ℕ) (o : Out) → spreads_high d' s w v (re o) ≡ re (spreads_high d s w v o)
    unfolding spreads_high
    high_re v o = proposes_re _ _ _ _ (neg _) o

    spreads_re : (v : ℕ) (o : Out) → spreads d' s w v (re o) ≡ re (spreads d s w v o)
    unfolding spreads
    spreads_re v o = ap (spreads_high d' s w v) (low_re v o) ∙ high_re v (spreads_low d s w v o)

    parted_re : (u g h : ℕ) (o : Out) → parted d' s w u g h (re o) ≡ re (parted d s w u g h o)
    unfolding parted same_size forks same_size_reason loose touches across
    parted_re u g h o = pair_re _ _ _ _ _ _ _ o

    parts_at_re : (u : ℕ) (o : Out) → parts_at d' s w u (re o) ≡ re (parts_at d s w u o)
    unfolding parts_at
    parts_at_re u o = pass_re _ _ (λ g q. pass_re (parted d s w u g) (parted d' s w u g) (parted_re u g) g q) d.edges o

    begun_re : begun d' s w ≡ re (begun d s w)
    unfolding begun relabelled
    begun_re = refl

    step1_re : step1 d' s w ≡ re (step1 d s w)
    unfolding step1
    step1_re =
        picks_re d.allow_extra_walls _ (begun d s w) _ _ begun_re
        (ap (iter (guarded (matched d' s w)) d.edges) (ap (iter (guarded (inside d' s w)) d.edges) begun_re ∙ pass_re _ _ inside_re d.edges (begun d s w)) ∙ pass_re _ _ matched_re d.edges _)

    step2_re : (v : ℕ) (o : Out) → step2 d' s w v (re o) ≡ re (step2 d s w v o)
    unfolding step2
    step2_re v o =
        ap (iter (guarded (merges d' s w)) d.edges)
        (ap (iter (guarded (raises d' s w)) d.vertices)
        (ap (iter (guarded (overfull d' s w)) d.vertices) (guarded_re (uncrossed d s w) (uncrossed d' s w) v o (uncrossed_re v o)) ∙ pass_re _ _ overfull_re d.vertices _) ∙ pass_re _ _ raises_re d.vertices _) ∙
        pass_re _ _ merges_re d.edges _

    step3_re : (o : Out) → step3 d' s w (re o) ≡ re (step3 d s w o)
    unfolding step3
    step3_re o = ap (iter (guarded (crowds d' s w)) d.vertices) (pass_re _ _ cuts_re d.vertices o) ∙ pass_re _ _ crowds_re d.vertices _

    step4_re : (o : Out) → step4 d' s w (re o) ≡ re (step4 d s w o)
    unfolding step4
    step4_re o =
        ap (iter (guarded (spreads d' s w)) d.vertices)
        (ap (iter (guarded (parts d' s w)) d.edges) (pass_re _ _ meets_re d.vertices o) ∙ pass_re _ _ parts_re d.edges _) ∙ pass_re _ _ spreads_re d.vertices _

    step5_re : (o : Out) → step5 d' s w (re o) ≡ re (step5 d s w o)
    unfolding step5
    step5_re o = picks_re d.disallow_adjacent_same_size_regions _ _ _ o (pass_re _ _ parts_at_re d.vertices o) refl

    pub analyzed_re : analyzed d' s w ≡ re (analyzed d s w)
    unfolding analyzed crossed_at
    analyzed_re =
        ap (step5 d' s w) (ap (step4 d' s w) (ap (step3 d' s w) (ap (step2 d' s w (crossed_at d s)) step1_re ∙ step2_re _ _) ∙ step3_re _) ∙ step4_re _) ∙ step5_re _
