-- Of a proper plan: the analysis by places is the analysis by literals, each literal under its place's name.
use mathlib.Core.Path.{◌≡◌, refl, sym, ap, ◌∙◌}
use mathlib.Core.Bool.{true}
use mathlib.Core.List.{List}
use Prim.Native.Nat.{ℕ, ◌+◌, ◌-◌, ◌*◌, ◌/◌, ◌%◌, ◌<◌}
use native.Mathlib.Omega.{arith}
use lib.Dec.{eqb, ltb}
use borrow.Author.Tests.{ltb-true, eqb-true, eqb-false, eq-eqb, ne_eqb}
use Rattle.base.proofs.Loop.{pick_ind, pick_yes, pick_no, tested}
use Rattle.base.proofs.Tests.{and_left, and_right}
use Rattle.sat.specs.Literal.{negate}
use Rattle.division.specs.State.{State}
use Rattle.division.specs.Analysis.{View, analyzed}
use Rattle.plan.specs.Words.{variables_of, variable_at, unique_lit_at, edge_lit_of, dom_lit_of}
use Rattle.plan.specs.Plan.{plan_of}
use Rattle.plan.specs.Proper.{ProperWords}
use Rattle.noting.specs.Note.{place_in, known}
use Rattle.noting.proofs.Indexed.{place_found}
use Rattle.analysis.specs.Placed.{place_of_lit, place_for, edge_place_of, dom_place_of, placed}
use Rattle.analysis.specs.Relabel.{relabelled, relabelled_plan}
use Rattle.analysis.proofs.Relabelled.{analyzed_re}

even_place : (k r : ℕ) → r ≡ 0 → negate (2 * k + r) ≡ 2 * k + 1
unfolding negate
even_place k r e = let z : (2 * k + r) % 2 ≡ 0 = omega (arith, e) in pick_yes _ _ (eq-eqb _ _ z) ∙ omega (arith, e)

odd_place : (k r : ℕ) → r ≡ 1 → negate (2 * k + r) ≡ 2 * k + 0
unfolding negate
odd_place k r e = let z : (2 * k + r) % 2 ≡ 0 → ⊥ = λ (x : (2 * k + r) % 2 ≡ 0). omega (arith, e, x) in pick_no _ _ (ne_eqb _ _ z) ∙ omega (arith, e)

-- the two signs of a variable have places side by side
pub negate_place : (ws : List ℕ) (l : ℕ) → negate (place_of_lit ws l) ≡ place_of_lit ws (negate l)
unfolding place_of_lit negate
negate_place ws l = tested (eqb (l % 2) 0)
    (λ t.
    let e = eqb-true (l % 2) 0 t in
    let a : (l + 1) / 2 ≡ l / 2 = omega (arith, e) in
    let b : (l + 1) % 2 ≡ 1 = omega (arith, e) in
    even_place (place_in ws (l / 2) % 2147483648) (l % 2) e
    ∙ (ap (λ i. 2 * (place_in ws i % 2147483648) + 1) (sym a) ∙ ap (λ i. 2 * (place_in ws ((l + 1) / 2) % 2147483648) + i) (sym b))
    ∙ ap (λ i. 2 * (place_in ws (i / 2) % 2147483648) + i % 2) (sym (pick_yes (l + 1) (l - 1) t)))
    (λ t.
    let n = eqb-false (l % 2) 0 t in
    let e : l % 2 ≡ 1 = omega (arith, n) in
    let a : (l - 1) / 2 ≡ l / 2 = omega (arith, e) in
    let b : (l - 1) % 2 ≡ 0 = omega (arith, e) in
    odd_place (place_in ws (l / 2) % 2147483648) (l % 2) e
    ∙ (ap (λ i. 2 * (place_in ws i % 2147483648) + 0) (sym a) ∙ ap (λ i. 2 * (place_in ws ((l - 1) / 2) % 2147483648) + i) (sym b))
    ∙ ap (λ i. 2 * (place_in ws (i / 2) % 2147483648) + i % 2) (sym (pick_no (l + 1) (l - 1) t)))

module _ (ws : List ℕ) (ends : List (List ℕ)) (p : ProperWords ws ends) where
  -- a place of the distinct literals is that of its literal
  pub unique_place : (q : ℕ) → q / 2 < variables_of ws → place_of_lit ws (unique_lit_at ws q) ≡ q
  unfolding place_of_lit
  unique_place q h =
      let a : (2 * variable_at ws (q / 2) + q % 2) / 2 ≡ variable_at ws (q / 2) = omega arith in
      let b : (2 * variable_at ws (q / 2) + q % 2) % 2 ≡ q % 2 = omega arith in
      let f = ap (place_in ws) a ∙ place_found ws ends p (q / 2) h in
      omega (arith, f, b, h, p.few.0)

  -- the index and the search agree
  pub place_for_lem : (q l : ℕ) → place_for ws q l ≡ place_of_lit ws l
  unfolding place_for
  place_for_lem q l = pick_ind (λ i. i ≡ place_of_lit ws l) _ q (place_of_lit ws l)
      (λ t. sym (unique_place q (ltb-true _ _ (and_left _ _ t))) ∙ ap (place_of_lit ws) (eqb-true _ _ (and_right (ltb (q / 2) (variables_of ws)) _ t)))
      (λ _. refl)

  edge_place : (g : ℕ) → edge_place_of ws g ≡ place_of_lit ws (edge_lit_of ws g)
  unfolding edge_place_of
  edge_place g = place_for_lem _ _

  dom_place : (v j : ℕ) → dom_place_of ws v j ≡ place_of_lit ws (dom_lit_of ws v j)
  unfolding dom_place_of
  dom_place v j = place_for_lem _ _

  pub placed_is : placed ws ends ≡ relabelled_plan (place_of_lit ws) (plan_of ws ends)
  placed_is = λ i. record {
    vertices = (plan_of ws ends).vertices;
    edges = (plan_of ws ends).edges;
    ends = ends;
    edge_lit = λ g. edge_place g i;
    weight = (plan_of ws ends).weight;
    domain_len = (plan_of ws ends).domain_len;
    domain = (plan_of ws ends).domain;
    dom_lit = λ v j. dom_place v j i;
    disallow_adjacent_same_size_regions = (plan_of ws ends).disallow_adjacent_same_size_regions;
    allow_extra_walls = (plan_of ws ends).allow_extra_walls;
  }

  -- a literal of the plan is that of its place
  pub place_back : (l : ℕ) → known ws (l / 2) ≡ true → (place_of_lit ws l < 2 * variables_of ws) × (unique_lit_at ws (place_of_lit ws l) ≡ l)
  unfolding known place_of_lit
  place_back l k =
      let h = ltb-true (place_in ws (l / 2)) (variables_of ws) (and_left _ _ k) in
      let v = eqb-true (variable_at ws (place_in ws (l / 2))) (l / 2) (and_right (ltb (place_in ws (l / 2)) (variables_of ws)) _ k) in
      let m : place_in ws (l / 2) % 2147483648 ≡ place_in ws (l / 2) = omega (arith, h, p.few.0) in
      let a : (2 * (place_in ws (l / 2) % 2147483648) + l % 2) / 2 ≡ place_in ws (l / 2) = omega (arith, m) in
      let b : (2 * (place_in ws (l / 2) % 2147483648) + l % 2) % 2 ≡ l % 2 = omega arith in
      (omega (arith, m, h), ap (λ i. 2 * variable_at ws i + (2 * (place_in ws (l / 2) % 2147483648) + l % 2) % 2) a ∙ omega (arith, v, b))

  pub analyzed_placed : (s : State) (w : View) → analyzed (placed ws ends) s w ≡ relabelled (place_of_lit ws) (analyzed (plan_of ws ends) s w)
  analyzed_placed s w = ap (λ d. analyzed d s w) placed_is ∙ analyzed_re (place_of_lit ws) (negate_place ws) (plan_of ws ends) s w
