-- Step 1, an edge's turn by cases.
use Prim.Native.Nat.{ℕ, zero, suc, ◌-◌, ◌<◌, ◌≤◌}
use native.Mathlib.Omega.{arith}
use native.Mathlib.Numerals.{unary_clauses}
use mathlib.Core.Path.{◌≡◌, refl, sym, ap, ◌∙◌, subst}
use mathlib.Core.Logic.{inl, inr}
use mathlib.Core.Bool.{Bool, true, false, not, ◌&&◌}
use mathlib.Core.List.{List, []}
use lib.Dec.{eqb, ltb}
use lib.ListN.{get_or}
use borrow.Author.Tests.{eq-eqb, ne_eqb, eqb-false, lt-ltb, le-ltb, ltb-true}
use Rattle.std.specs.Prelude.{Err}
use Rattle.base.specs.Iter.{iter, pick}
use Rattle.base.proofs.Loop.{pick_yes, pick_no, pick_ind, eq_or_not, tested}
use Rattle.base.proofs.Tests.{and_no}
use Rattle.sat.specs.Literal.{negate}
use Rattle.division.specs.Plan.{Plan}
use Rattle.division.specs.State.{State, state_of}
use Rattle.division.specs.Regions.{lowest}
use Rattle.division.proofs.Views.{lowest_zero}
use Rattle.division.specs.Analysis.{View, Out, still, guarded, inside, matches, loose, matched, propose, ends, lid, rid}
use Rattle.reasons.specs.declared.Stop.TheVariants.{DisconnectedInside}
use Rattle.analysis.specs.First.{disconnected_end}
use Rattle.reasons.specs.Words.{packed, bit, put, first_word, second_word, stored}
use Rattle.reasons.specs.Verdicts.{Going, verdict_of, begun, ran, ran_of}
use Rattle.analysis.proofs.Pass.{Follows}
use Rattle.analysis.proofs.Shapes.{proposes, ends_or_proposes}

and_true : (b : Bool) → (b && true) ≡ b
and_true true = refl
and_true false = refl

and_false : (b : Bool) → (b && false) ≡ false
and_false true = refl
and_false false = refl

module _ (d : Plan) (s : State) (w : View) (g : ℕ) (a : List ℕ) where
  pub inside_between : (lid d s w g ≡ rid d s w g → ⊥) → ran Going a ≡ ran_of (inside d s w g begun) a
  unfolding ran_of stored verdict_of inside pick
  inside_between n = simp (ne_eqb _ _ n)

  pub inside_shut : lid d s w g ≡ rid d s w g → state_of s g ≡ 1 → ran (Err (DisconnectedInside g)) a ≡ ran_of (inside d s w g begun) a
  unfolding ran_of stored verdict_of inside ends pick
  inside_shut e x = simp (eq-eqb _ _ e, eq-eqb _ _ x)

  pub inside_open : (p x : ℕ) → lid d s w g ≡ rid d s w g → state_of s g ≡ 0 → p ≡ negate (d.edge_lit g) → x ≡ packed 1 g 0 0 0 →
      ran Going (put p x 0 a) ≡ ran_of (inside d s w g begun) a
  unfolding ran_of stored verdict_of inside propose pick first_word second_word
  inside_open p x e o h k = simp (eq-eqb _ _ e, o, h, k)

  pub inside_else : lid d s w g ≡ rid d s w g → (state_of s g ≡ 1 → ⊥) → (state_of s g ≡ 0 → ⊥) → ran Going a ≡ ran_of (inside d s w g begun) a
  unfolding ran_of stored verdict_of inside pick
  inside_else e n m = simp (eq-eqb _ _ e, ne_eqb _ _ n, ne_eqb _ _ m)

  pub loose_no : (state_of s g ≡ 0 → ⊥) → false ≡ loose d s w g
  unfolding loose
  loose_no n = sym (ap (λ b. not (eqb (lid d s w g) (rid d s w g)) && b) (ne_eqb _ _ n) ∙ and_false (not (eqb (lid d s w g) (rid d s w g))))

  pub matches_no : (h : ℕ) → (state_of s h ≡ 1 → ⊥) → false ≡ matches d s w g h
  unfolding matches
  matches_no h n = simp (ne_eqb _ _ n)

  pub matched_not : loose d s w g ≡ false → ran Going a ≡ ran_of (matched d s w g begun) a
  unfolding ran_of stored verdict_of matched pick
  matched_not e = simp e

  pub matched_none : loose d s w g ≡ true → d.edges ≤ lowest (matches d s w g) d.edges → ran Going a ≡ ran_of (matched d s w g begun) a
  unfolding ran_of stored verdict_of matched pick
  matched_none e h = simp (e, le-ltb _ _ h)

  pub matched_some : (h p x : ℕ) (b : Bool) → loose d s w g ≡ true → h ≡ lowest (matches d s w g) d.edges → h < d.edges → b ≡ eqb (lid d s w g) (rid d s w h) → p ≡ d.edge_lit g →
      x ≡ packed 2 h g (bit b) 0 → ran Going (put p x 0 a) ≡ ran_of (matched d s w g begun) a
  unfolding ran_of stored verdict_of matched propose pick first_word second_word
  matched_some h p x b e k l f q y = simp (e, y, f, q, lt-ltb _ _ l, ← k)

pub inside_follows : (d : Plan) (s : State) (w : View) (g : ℕ) → Follows (inside d s w g)
unfolding inside
inside_follows d s w g = ends_or_proposes _ _ _ _ _ _

pub matched_follows : (d : Plan) (s : State) (w : View) (g : ℕ) → Follows (matched d s w g)
unfolding matched
matched_follows d s w g = proposes _ _ _

-- the last disconnected edge, as the loop finds it
pub end_none : (noted : List ℕ) (n k : ℕ) → k ≤ 0 → disconnected_end noted k ≡ disconnected_end noted n → 0 ≡ disconnected_end noted n
unfolding disconnected_end
end_none noted n zero h e = e
end_none noted n (suc k) h e = absurd (omega (arith, h))

end_here : (noted : List ℕ) (k : ℕ) → eqb (get_or noted k 0) 1 ≡ true → disconnected_end noted (suc k) ≡ suc k
unfolding disconnected_end
end_here noted k t = pick_yes _ _ t

end_not : (noted : List ℕ) (k : ℕ) → eqb (get_or noted k 0) 1 ≡ false → disconnected_end noted (suc k) ≡ disconnected_end noted k
unfolding disconnected_end
end_not noted k t = pick_no _ _ t

pub end_found : (noted : List ℕ) (n k : ℕ) → 0 < k → eqb (get_or noted (k - 1) 0) 1 ≡ true → disconnected_end noted k ≡ disconnected_end noted n → k ≡ disconnected_end noted n
end_found noted n zero h t e = absurd (omega (arith, h))
end_found noted n (suc k) h t e = sym (end_here noted k (simp unary_clauses at t)) ∙ e

pub end_next : (noted : List ℕ) (n k : ℕ) → 0 < k → eqb (get_or noted (k - 1) 0) 1 ≡ false → disconnected_end noted k ≡ disconnected_end noted n → disconnected_end noted (k - 1) ≡ disconnected_end noted n
end_next noted n zero h t e = absurd (omega (arith, h))
end_next noted n (suc k) h t e = simp unary_clauses (sym (end_not noted k (simp unary_clauses at t)) ∙ e)

pub end_low : (noted : List ℕ) (n : ℕ) → disconnected_end noted n ≤ n
unfolding disconnected_end
end_low noted zero = omega arith
end_low noted (suc n) = pick_ind (λ i. i ≤ suc n) (eqb (get_or noted n 0) 1) (suc n) (disconnected_end noted n) (λ _. omega arith) (λ _. omega (arith, end_low noted n))

-- past it no edge is disconnected
end_past : (noted : List ℕ) (n i : ℕ) → disconnected_end noted n ≤ i → i < n → get_or noted i 0 ≡ 1 → ⊥
end_past noted zero i h l e = absurd (omega (arith, l))
end_past noted (suc n) i h l e = tested (eqb (get_or noted n 0) 1)
    (λ t. omega (arith, end_here noted n t, h, l))
    (λ t. elim (eq_or_not i n) [
      | inl k ↦ eqb-false (get_or noted n 0) 1 t (ap (λ j. get_or noted j 0) (sym k) ∙ e)
      | inr k ↦ end_past noted n i (omega (arith, end_not noted n t, h)) (omega (arith, l, k)) e
    ])

-- so a search may end there: what it finds is the lowest of all, and where it finds none there is none
lowest_stays : (t : ℕ → Bool) (h n : ℕ) → h ≡ lowest t n → h < n → h ≡ lowest t (suc n)
unfolding lowest
lowest_stays t h n e l = e ∙ sym (pick_yes _ _ (ap (λ i. ltb i n) (sym e) ∙ lt-ltb h n l))

lowest_up : (t : ℕ → Bool) (m n : ℕ) → m ≤ n → lowest t m < m → lowest t m ≡ lowest t n
lowest_up t m zero h l = ap (lowest t) (omega (arith, h))
lowest_up t m (suc n) h l =
    elim (eq_or_not m (suc n)) [
      | inl k ↦ ap (lowest t) k
      | inr k ↦ lowest_stays t (lowest t m) n (lowest_up t m n (omega (arith, h, k)) l) (omega (arith, h, k, l))
    ]

lowest_nowhere : (t : ℕ → Bool) (m n : ℕ) → m ≤ n → ((i : ℕ) → m ≤ i → i < n → t i ≡ false) → m ≤ lowest t m → n ≤ lowest t n
unfolding lowest
lowest_nowhere t m zero h f l = omega arith
lowest_nowhere t m (suc n) h f l =
    elim (eq_or_not m (suc n)) [
      | inl k ↦ subst (λ i. i ≤ lowest t i) k l
      | inr k ↦
          let z = lowest_nowhere t m n (omega (arith, h, k)) (λ i a b. f i a (omega (arith, b))) l in
          subst (λ i. suc n ≤ i) (sym (pick_no _ _ (le-ltb (lowest t n) n z) ∙ pick_no _ _ (f n (omega (arith, h, k)) (omega arith)))) (omega arith)
    ]

module _ (d : Plan) (s : State) (w : View) (g : ℕ) (end : ℕ) (e : end ≡ disconnected_end s.edge_state d.edges) where
  not_past : (i : ℕ) → end ≤ i → i < d.edges → matches d s w g i ≡ false
  not_past i h l = sym (matches_no d s w g [] i (end_past s.edge_state d.edges i (subst (λ j. j ≤ i) e h) l))

  low : end ≤ d.edges
  low = subst (λ j. j ≤ d.edges) (sym e) (end_low s.edge_state d.edges)

  pub end_some : (h : ℕ) → h ≡ lowest (matches d s w g) end → h < end → (h ≡ lowest (matches d s w g) d.edges) × (h < d.edges)
  end_some h k l = (k ∙ lowest_up (matches d s w g) end d.edges low (subst (λ j. j < end) k l), omega (arith, l, low))

  pub end_nothing : (h : ℕ) → h ≡ lowest (matches d s w g) end → end ≤ h → d.edges ≤ lowest (matches d s w g) d.edges
  end_nothing h k l = lowest_nowhere (matches d s w g) end d.edges low not_past (subst (λ j. end ≤ j) k l)

-- where no edge is disconnected the pass proposes nothing
module _ (d : Plan) (s : State) (w : View) (e : 0 ≡ disconnected_end s.edge_state d.edges) where
  matched_same : (g : ℕ) (o : Out) → matched d s w g o ≡ o
  unfolding matched
  matched_same g o = pick_no _ _ (ap (λ b. loose d s w g && b) (le-ltb _ _ (end_nothing d s w g 0 e 0 (sym (lowest_zero _)) (omega arith))) ∙ and_false (loose d s w g))

  none_matched : (n : ℕ) → iter (guarded (matched d s w)) n begun ≡ begun
  unfolding iter guarded
  none_matched zero = refl
  none_matched (suc n) = ap (guarded (matched d s w) n) (none_matched n) ∙ pick_ind (λ o. o ≡ begun) (still begun.verdict) (matched d s w n begun) begun (λ _. matched_same n begun) (λ _. refl)

  pub ran_nothing : (n : ℕ) (a : List ℕ) → ran Going a ≡ ran_of (iter (guarded (matched d s w)) n begun) a
  unfolding ran_of verdict_of stored
  ran_nothing n a = ap (λ o. ran_of o a) (sym (none_matched n))

-- where a search finds nothing no number passes
lowest_hit : (t : ℕ → Bool) (i : ℕ) → t i ≡ true → lowest t (suc i) < suc i
unfolding lowest
lowest_hit t i y = pick_ind (λ r. r < suc i) (ltb (lowest t i) i) (lowest t i) (pick (t i) i (suc i)) (λ b. omega (arith, ltb-true (lowest t i) i b)) (λ _. subst (λ r. r < suc i) (sym (pick_yes i (suc i) y)) (omega arith))

lowest_passed : (t : ℕ → Bool) (n : ℕ) → lowest t n ≡ n → (i : ℕ) → i < n → t i ≡ false
lowest_passed t n e i l = tested (t i) (λ y. absurd (omega (arith, lowest_hit t i y, lowest_up t (suc i) n (omega (arith, l)) (lowest_hit t i y), e, l))) (λ f. f)

-- where every edge is decided the pass proposes nothing
module _ (d : Plan) (s : State) (w : View) (e : lowest (λ h. eqb (state_of s h) 0) d.edges ≡ d.edges) where
  decided_same : (g : ℕ) → g < d.edges → (o : Out) → matched d s w g o ≡ o
  unfolding matched
  decided_same g l o = pick_no _ _ (sym (and_no _ (sym (loose_no d s w g [] (eqb-false (state_of s g) 0 (lowest_passed _ d.edges e g l))))))

  none_undecided : (n : ℕ) → n ≤ d.edges → iter (guarded (matched d s w)) n begun ≡ begun
  unfolding iter guarded
  none_undecided zero l = refl
  none_undecided (suc n) l = ap (guarded (matched d s w) n) (none_undecided n (omega (arith, l))) ∙ pick_ind (λ o. o ≡ begun) (still begun.verdict) (matched d s w n begun) begun (λ _. decided_same n (omega (arith, l)) begun) (λ _. refl)

  pub ran_decided : (a : List ℕ) → ran Going a ≡ ran_of (iter (guarded (matched d s w)) d.edges begun) a
  unfolding ran_of verdict_of stored
  ran_decided a = ap (λ o. ran_of o a) (sym (none_undecided d.edges (omega arith)))
