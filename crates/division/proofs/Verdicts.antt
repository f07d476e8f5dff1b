-- When an analysis ends because bounds cross, and when it ends in a refusal: a fixed size 0 (13).
use Prim.Native.Nat.{ℕ, zero, suc, ◌<◌}
use native.Mathlib.Omega.{arith}
use native.Mathlib.Nat.{not-suc-le-zero}
use mathlib.Core.Path.{◌≡◌, refl, sym, ◌∙◌, ap, subst}
use mathlib.Core.Logic.{◌⊎◌, inl, inr, ⊎_elim}
use mathlib.Core.Bool.{Bool, true, false, true≢false}
use borrow.Author.Tests.{eqb-true, eq-eqb, lt-ltb}
use Rattle.base.specs.Iter.{iter}
use Rattle.base.proofs.Loop.{iter_ind, pick_ind, pick_yes, pick_no, tested}
use Rattle.graph.proofs.Mark.{lt_cases}
use Rattle.division.specs.Plan.{Plan, across}
use Rattle.division.specs.State.{State, crossed_at}
use Rattle.division.specs.Conflicts.{Conflict, crossing}
use Rattle.division.specs.Analysis.{View, Verdict, going, conflict, zero_size, Out, still, propose, ends, guarded, inside, matched, uncrossed, overfull, raises, merges, cuts, crowds, meets, parts, spreads_low, spreads_high, spreads, same_size, parted, parts_at, begun, step1, step2, step3, step4, step5, analyzed}
use Rattle.division.specs.Refusals.{FixedZero}
use Rattle.division.specs.Crossed.{Crosses}
use Rattle.division.proofs.Views.{crossed_known}
use Rattle.division.proofs.Phases.{still_going, going_still}

-- a loop that has stopped stays as it is
stuck : (f : ℕ → Out → Out) (n : ℕ) (o : Out) → still o.verdict ≡ false → iter (guarded f) n o ≡ o
unfolding iter guarded
stuck f zero o e = refl
stuck f (suc n) o e = let q = stuck f n o e in pick_no _ _ (ap (λ (x : Out). still x.verdict) q ∙ e) ∙ q

-- step 2 past the crossed bounds
unfoldable rest2 : Plan → State → View → Out → Out
rest2 d s w o = iter (guarded (merges d s w)) d.edges (iter (guarded (raises d s w)) d.vertices (iter (guarded (overfull d s w)) d.vertices o))

unfoldable bounds2 : Plan → State → View → Out → Out
bounds2 d s w o = guarded (uncrossed d s w) (crossed_at d s) o

-- a verdict that only one kind of turn can give
module _ (b : Verdict → Bool) where
  abbrev Not : Out → Type 0
  Not o = b o.verdict ≡ false

  loop_not : (f : ℕ → Out → Out) (n : ℕ) (o : Out) → ((i : ℕ) (x : Out) → Not x → Not (f i x)) → Not o → Not (iter (guarded f) n o)
  unfolding guarded
  loop_not f n o k e = iter_ind (λ _ x. Not x) (guarded f) o n e (λ i x _ p. pick_ind Not _ _ _ (λ _. k i x p) (λ _. p))

  module _ (d : Plan) (s : State) (w : View) (bc : (c : Conflict) → b (conflict c) ≡ false) where
    inside_not : (i : ℕ) (x : Out) → Not x → Not (inside d s w i x)
    unfolding inside propose ends
    inside_not i x e = pick_ind Not _ _ _ (λ _. pick_ind Not _ _ _ (λ _. bc _) (λ _. pick_ind Not _ _ _ (λ _. e) (λ _. e))) (λ _. e)

    matched_not : (i : ℕ) (x : Out) → Not x → Not (matched d s w i x)
    unfolding matched propose
    matched_not i x e = pick_ind Not _ _ _ (λ _. e) (λ _. e)

    overfull_not : (i : ℕ) (x : Out) → Not x → Not (overfull d s w i x)
    unfolding overfull ends
    overfull_not i x e = pick_ind Not _ _ _ (λ _. bc _) (λ _. e)

    raises_not : (i : ℕ) (x : Out) → Not x → Not (raises d s w i x)
    unfolding raises propose
    raises_not i x e = pick_ind Not _ _ _ (λ _. e) (λ _. e)

    merges_not : (i : ℕ) (x : Out) → Not x → Not (merges d s w i x)
    unfolding merges propose
    merges_not i x e = pick_ind Not _ _ _ (λ _. e) (λ _. e)

    cuts_not : (i : ℕ) (x : Out) → Not x → Not (cuts d s w i x)
    unfolding cuts propose ends
    cuts_not i x e = pick_ind Not _ _ _ (λ _. pick_ind Not _ _ _ (λ _. bc _) (λ _. pick_ind Not _ _ _ (λ _. e) (λ _. e))) (λ _. e)

    crowds_not : (i : ℕ) (x : Out) → Not x → Not (crowds d s w i x)
    unfolding crowds ends
    crowds_not i x e = pick_ind Not _ _ _ (λ _. bc _) (λ _. e)

    meets_not : (i : ℕ) (x : Out) → Not x → Not (meets d s w i x)
    unfolding meets ends
    meets_not i x e = pick_ind Not _ _ _ (λ _. bc _) (λ _. e)

    parts_not : (i : ℕ) (x : Out) → Not x → Not (parts d s w i x)
    unfolding parts propose
    parts_not i x e = let z = pick_ind Not _ _ _ (λ _. e) (λ _. e) in pick_ind Not _ _ _ (λ _. z) (λ _. z)

    spreads_low_not : (i : ℕ) (x : Out) → Not x → Not (spreads_low d s w i x)
    unfolding spreads_low propose
    spreads_low_not i x e = pick_ind Not _ _ _ (λ _. e) (λ _. e)

    spreads_not : (i : ℕ) (x : Out) → Not x → Not (spreads d s w i x)
    unfolding spreads spreads_high propose
    spreads_not i x e = let z = spreads_low_not i x e in pick_ind Not _ _ _ (λ _. z) (λ _. z)

    step1_not : b going ≡ false → Not (step1 d s w)
    unfolding step1 begun
    step1_not g = pick_ind Not _ _ _ (λ _. g) (λ _. loop_not _ _ _ matched_not (loop_not _ _ _ inside_not g))

    rest2_not : (o : Out) → Not o → Not (rest2 d s w o)
    unfolding rest2
    rest2_not o e = loop_not _ _ _ merges_not (loop_not _ _ _ raises_not (loop_not _ _ _ overfull_not e))

    step3_not : (o : Out) → Not o → Not (step3 d s w o)
    unfolding step3
    step3_not o e = loop_not _ _ _ crowds_not (loop_not _ _ _ cuts_not e)

    step4_not : (o : Out) → Not o → Not (step4 d s w o)
    unfolding step4
    step4_not o e = loop_not _ _ _ spreads_not (loop_not _ _ _ parts_not (loop_not _ _ _ meets_not e))

    parted_not : b zero_size ≡ false → (u g i : ℕ) (x : Out) → Not x → Not (parted d s w u g i x)
    unfolding parted propose ends
    parted_not z u g i x e = pick_ind Not _ _ _ (λ _. pick_ind Not _ _ _ (λ _. z) (λ _. e)) (λ _. e)

    parts_at_not : b zero_size ≡ false → (u : ℕ) (x : Out) → Not x → Not (parts_at d s w u x)
    unfolding parts_at
    parts_at_not z u x e = loop_not _ _ _ (λ g y f. loop_not _ _ _ (parted_not z u g) f) e

    step5_not : b zero_size ≡ false → (o : Out) → Not o → Not (step5 d s w o)
    unfolding step5
    step5_not z o e = pick_ind Not _ _ _ (λ _. loop_not _ _ _ (parts_at_not z) e) (λ _. e)

    bounds2_not : (o : Out) → Not o → Not (bounds2 d s w o)
    unfolding bounds2 guarded uncrossed ends
    bounds2_not o e = pick_ind Not _ _ _ (λ _. pick_ind Not _ _ _ (λ _. bc _) (λ _. e)) (λ _. e)

-- a loop that only a turn with verdict z can stop
module _ (z : Verdict) (zs : still z ≡ false) where
  abbrev Fine : Out → Type 0
  Fine x = (x.verdict ≡ going) ⊎ (x.verdict ≡ z)

  loop_fine : (f : ℕ → Out → Out) (n : ℕ) (o : Out) → ((i : ℕ) (x : Out) → x.verdict ≡ going → Fine (f i x)) → Fine o → Fine (iter (guarded f) n o)
  unfolding guarded
  loop_fine f n o k e = iter_ind (λ _ x. Fine x) (guarded f) o n e (λ i x _ p. pick_ind Fine _ _ _ (λ t. k i x (still_going _ t)) (λ _. p))

  -- where turn i would stop it, it is stopped
  hit : (f : ℕ → Out → Out) (n i : ℕ) → i < n → ((j : ℕ) (x : Out) → x.verdict ≡ going → Fine (f j x)) → ((x : Out) → x.verdict ≡ going → (f i x).verdict ≡ z) →
      (o : Out) → Fine o → (iter (guarded f) n o).verdict ≡ z
  unfolding iter guarded
  hit f zero i h k t o e = absurd (not-suc-le-zero h)
  hit f (suc n) i h k t o e = ⊎_elim
      (λ l. let q = hit f n i l k t o e in ap (λ (x : Out). x.verdict) (pick_no (f n m) m (ap still q ∙ zs)) ∙ q)
      (λ l. ⊎_elim (λ q. ap (λ (x : Out). x.verdict) (pick_yes (f n m) m (going_still _ q)) ∙ subst (λ j. (f j m).verdict ≡ z) l (t m q))
      (λ q. ap (λ (x : Out). x.verdict) (pick_no (f n m) m (ap still q ∙ zs)) ∙ q) (loop_fine f n o k e))
      (lt_cases i n (omega arith))
    where
      m : Out
      m = iter (guarded f) n o

unfoldable is_zero : Verdict → Bool
is_zero going = false
is_zero (conflict c) = false
is_zero zero_size = true

zero_not : (c : Conflict) → is_zero (conflict c) ≡ false
unfolding is_zero
zero_not c = refl

module _ (d : Plan) (s : State) (w : View) where
  rest2_stuck : (o : Out) → still o.verdict ≡ false → rest2 d s w o ≡ o
  unfolding rest2
  rest2_stuck o e =
      ap (λ (x : Out). iter (guarded (merges d s w)) d.edges (iter (guarded (raises d s w)) d.vertices x)) (stuck (overfull d s w) d.vertices o e) ∙
      ap (λ (x : Out). iter (guarded (merges d s w)) d.edges x) (stuck (raises d s w) d.vertices o e) ∙ stuck (merges d s w) d.edges o e

  step3_stuck : (o : Out) → still o.verdict ≡ false → step3 d s w o ≡ o
  unfolding step3
  step3_stuck o e = ap (λ (x : Out). iter (guarded (crowds d s w)) d.vertices x) (stuck (cuts d s w) d.vertices o e) ∙ stuck (crowds d s w) d.vertices o e

  step4_stuck : (o : Out) → still o.verdict ≡ false → step4 d s w o ≡ o
  unfolding step4
  step4_stuck o e =
      ap (λ (x : Out). iter (guarded (spreads d s w)) d.vertices (iter (guarded (parts d s w)) d.edges x)) (stuck (meets d s w) d.vertices o e) ∙
      ap (λ (x : Out). iter (guarded (spreads d s w)) d.vertices x) (stuck (parts d s w) d.edges o e) ∙ stuck (spreads d s w) d.vertices o e

  step5_stuck : (o : Out) → still o.verdict ≡ false → step5 d s w o ≡ o
  unfolding step5
  step5_stuck o e = pick_ind (λ (x : Out). x ≡ o) _ _ _ (λ _. stuck (parts_at d s w) d.vertices o e) (λ _. refl)

  abbrev later : Out → Out
  later o = step5 d s w (step4 d s w (step3 d s w (rest2 d s w o)))

  later_stuck : (o : Out) → still o.verdict ≡ false → later o ≡ o
  later_stuck o e =
      ap (λ (x : Out). step5 d s w (step4 d s w (step3 d s w x))) (rest2_stuck o e) ∙ ap (λ (x : Out). step5 d s w (step4 d s w x)) (step3_stuck o e) ∙
      ap (step5 d s w) (step4_stuck o e) ∙ step5_stuck o e

  is_later : analyzed d s w ≡ later (bounds2 d s w (step1 d s w))
  unfolding analyzed step2 rest2 bounds2
  is_later = refl

  -- where 12 was given there is the conflict of the lowest vertex whose bounds cross
  pub crosses_verdict : Crosses d s w → (analyzed d s w).verdict ≡ conflict (crossing (crossed_at d s))
  unfolding still guarded uncrossed ends bounds2
  crosses_verdict c = ap (λ (x : Out). x.verdict) (is_later ∙ later_stuck _ (ap still z)) ∙ z
    where
      known : crossed_at d s < d.vertices
      known = crossed_known d s c.v c.vertex c.over

      z : (bounds2 d s w (step1 d s w)).verdict ≡ conflict (crossing (crossed_at d s))
      z = ap (λ (x : Out). x.verdict) (pick_yes _ _ (going_still _ c.clear) ∙ pick_yes _ _ (lt-ltb _ _ known))

  abbrev four : Out
  four = step4 d s w (step3 d s w (step2 d s w (crossed_at d s) (step1 d s w)))

  abbrev Zeroed : Type 0
  Zeroed = (u : ℕ) × (g : ℕ) × (h : ℕ) × (u < d.vertices) × (g < d.edges) × (h < g) × (same_size d s w u g h ≡ true) × (w.low (w.did (across d u g)) ≡ 0)

  four_not : is_zero four.verdict ≡ false
  unfolding step2 is_zero rest2 bounds2
  four_not =
      step4_not is_zero d s w zero_not _ (step3_not is_zero d s w zero_not _ (rest2_two (bounds2_not is_zero d s w zero_not _ (step1_not is_zero d s w zero_not refl))))
    where
      rest2_two : is_zero (bounds2 d s w (step1 d s w)).verdict ≡ false → is_zero (step2 d s w (crossed_at d s) (step1 d s w)).verdict ≡ false
      rest2_two e = rest2_not is_zero d s w zero_not (bounds2 d s w (step1 d s w)) e

  abbrev Sees : Out → Type 0
  Sees x = is_zero x.verdict ≡ true → Zeroed

  loop_sees : (f : ℕ → Out → Out) (n : ℕ) (o : Out) → ((i : ℕ) (x : Out) → i < n → Sees x → Sees (f i x)) → Sees o → Sees (iter (guarded f) n o)
  unfolding guarded
  loop_sees f n o k e = iter_ind (λ _ x. Sees x) (guarded f) o n e (λ i x h p. pick_ind Sees _ _ _ (λ _. k i x h p) (λ _. p))

  parted_sees : (u g h : ℕ) (x : Out) → u < d.vertices → g < d.edges → h < g → Sees x → Sees (parted d s w u g h x)
  unfolding parted propose ends
  parted_sees u g h x hu hg hh e = pick_ind Sees _ _ _ (λ t. pick_ind Sees _ _ _ (λ z _. (u, g, h, hu, hg, hh, t, eqb-true _ _ z)) (λ _. e)) (λ _. e)

  parts_at_sees : (o : Out) → Sees o → Sees (iter (guarded (parts_at d s w)) d.vertices o)
  unfolding parts_at
  parts_at_sees o e = loop_sees _ _ _ (λ u x hu p. loop_sees _ _ _ (λ g y hg q. loop_sees _ _ _ (λ h z hh r. parted_sees u g h z hu hg hh r) q) p) e

  -- 13
  pub verdict_zero : (analyzed d s w).verdict ≡ zero_size → FixedZero d s w
  unfolding is_zero analyzed step5
  verdict_zero e = tested d.disallow_adjacent_same_size_regions on_case (λ t. absurd (true≢false (sym is ∙ ap (λ (x : Out). is_zero x.verdict) (off t) ∙ four_not)))
    where
      is : is_zero (analyzed d s w).verdict ≡ true
      is = ap is_zero e

      off : d.disallow_adjacent_same_size_regions ≡ false → analyzed d s w ≡ four
      off t = pick_no _ _ t

      on : d.disallow_adjacent_same_size_regions ≡ true → analyzed d s w ≡ iter (guarded (parts_at d s w)) d.vertices four
      on t = pick_yes _ _ t

      stopped : still four.verdict ≡ false → analyzed d s w ≡ four
      stopped t = step5_stuck four t

      on_case : d.disallow_adjacent_same_size_regions ≡ true → FixedZero d s w
      on_case t = tested (still four.verdict)
          (λ y. let (u, g, h, hu, hg, hh, p, z) = parts_at_sees four (λ q. absurd (true≢false (sym q ∙ four_not))) (sym (ap (λ (x : Out). is_zero x.verdict) (on t)) ∙ is) in
          record { on = t; clear = still_going _ y; u = u; g = g; h = h; vertex = hu; first = hg; second = hh; proposes = p; zero = z })
          (λ y. absurd (true≢false (sym is ∙ ap (λ (x : Out). is_zero x.verdict) (stopped y) ∙ four_not)))

  pub zero_verdict : FixedZero d s w → (analyzed d s w).verdict ≡ zero_size
  unfolding still parted propose ends parts_at analyzed step5
  zero_verdict c = is
    where
      parted_fine : (u g h : ℕ) (x : Out) → x.verdict ≡ going → Fine zero_size refl (parted d s w u g h x)
      parted_fine u g h x e = pick_ind (Fine zero_size refl) _ _ _ (λ _. pick_ind (Fine zero_size refl) _ _ _ (λ _. inr refl) (λ _. inl e)) (λ _. inl e)

      row_fine : (u g : ℕ) (x : Out) → x.verdict ≡ going → Fine zero_size refl (iter (guarded (parted d s w u g)) g x)
      row_fine u g x e = loop_fine zero_size refl (parted d s w u g) g x (parted_fine u g) (inl e)

      at_fine : (u : ℕ) (x : Out) → x.verdict ≡ going → Fine zero_size refl (parts_at d s w u x)
      at_fine u x e = loop_fine zero_size refl (λ g. iter (guarded (parted d s w u g)) g) d.edges x (row_fine u) (inl e)

      stops : (x : Out) → x.verdict ≡ going → (parted d s w c.u c.g c.h x).verdict ≡ zero_size
      stops x e = ap (λ (y : Out). y.verdict) (pick_yes _ _ c.proposes ∙ pick_yes _ _ (eq-eqb _ _ c.zero))

      row_stops : (x : Out) → x.verdict ≡ going → (iter (guarded (parted d s w c.u c.g)) c.g x).verdict ≡ zero_size
      row_stops x e = hit zero_size refl (parted d s w c.u c.g) c.g c.h c.second (parted_fine c.u c.g) stops x (inl e)

      at_stops : (x : Out) → x.verdict ≡ going → (parts_at d s w c.u x).verdict ≡ zero_size
      at_stops x e = hit zero_size refl (λ g. iter (guarded (parted d s w c.u g)) g) d.edges c.g c.first (row_fine c.u) row_stops x (inl e)

      is : (analyzed d s w).verdict ≡ zero_size
      is = ap (λ (x : Out). x.verdict) (pick_yes _ _ c.on) ∙ hit zero_size refl (parts_at d s w) d.vertices c.u c.vertex at_fine at_stops four (inl c.clear)
