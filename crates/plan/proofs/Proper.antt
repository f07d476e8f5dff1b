-- Whatever passes the plan's own test is proper.
use mathlib.Core.Path.{◌≡◌, sym, ap, subst, ◌∙◌}
use mathlib.Core.Bool.{true, false, not, ◌&&◌}
use mathlib.Core.List.{List, []}
use Prim.Native.Nat.{ℕ, suc, ◌+◌, ◌-◌, ◌*◌, ◌/◌, ◌%◌, ◌≤◌, ◌<◌}
use native.Mathlib.Omega.{arith}
use native.Mathlib.Numerals.{add-one}
use lib.Dec.{eqb, ltb, leb}
use lib.ListN.{get_or}
use borrow.Author.Tests.{ltb-false, ltb-true, leb-false, eqb-true, lt-ltb}
use Rattle.base.specs.Lists.{some}
use Rattle.base.proofs.Loop.{pick_yes, pick_no, tested}
use Rattle.base.proofs.Tests.{or_none, not_false, and_rest, and_left, and_right}
use Rattle.base.proofs.Some.{some_none}
use Rattle.graph.specs.Bounds.{Within}
use Rattle.plan.specs.Words.{vertices_of, edges_of, variables_of, slots_of, weight_of, domain_len_of, domain_of, lit_of, place_of, position_of, variable_at, start_at, occurrence_at}
use Rattle.plan.specs.Check.{counts_bad, used_slot, entry_bad, vertex_bad, edge_bad, occurrence_bad, variable_order_bad, variable_bad, slot_count, starts_bad, plan_bad}
use Rattle.plan.specs.Proper.{Listed, ProperWords}
use Rattle.plan.proofs.Passed.{sized}
use Rattle.plan.proofs.Once.{all_filed}

module _ (ws : List ℕ) where
  -- the entry before one that is not the first
  less_one : (j : ℕ) → suc j - 1 ≡ j
  less_one j = omega arith

  module _ (v : ℕ) (e : vertex_bad ws v ≡ false) where
    parts : (ltb 1000000 (weight_of ws v) ≡ false) × (ltb 32 (domain_len_of ws v) ≡ false) × (some (entry_bad ws v) (domain_len_of ws v) ≡ false)
    unfolding vertex_bad
    parts =
        let (a, e₁) = or_none (ltb 1000000 (weight_of ws v)) _ e in
        let (b, c) = or_none (ltb 32 (domain_len_of ws v)) _ e₁ in
        (a, b, c)

    pub vertex_light : weight_of ws v ≤ 1000000
    vertex_light = ltb-false 1000000 (weight_of ws v) parts.0

    pub vertex_short : domain_len_of ws v ≤ 32
    vertex_short = ltb-false 32 (domain_len_of ws v) parts.1

    pub vertex_entries : (j : ℕ) → j < domain_len_of ws v → domain_of ws v j ≤ 1000000
    unfolding entry_bad
    vertex_entries j h = ltb-false 1000000 (domain_of ws v j) (or_none (ltb 1000000 (domain_of ws v j)) _ (some_none (entry_bad ws v) (domain_len_of ws v) parts.2 j h)).0

    pub vertex_rising : (j : ℕ) → suc j < domain_len_of ws v → domain_of ws v j < domain_of ws v (suc j)
    unfolding entry_bad
    vertex_rising j h =
        let bad = (or_none (ltb 1000000 (domain_of ws v (suc j))) _ (some_none (entry_bad ws v) (domain_len_of ws v) parts.2 (suc j) h)).1 in
        let z = leb-false (domain_of ws v (suc j)) (domain_of ws v (suc j - 1)) (and_rest _ _ (lt-ltb 0 (suc j) (omega arith)) bad) in
        subst (λ (i : ℕ). domain_of ws v i < domain_of ws v (suc j)) (less_one j) z

  module _ (k : ℕ) (e : variable_bad ws k ≡ false) where
    variable_parts : (variable_order_bad ws k ≡ false) × (leb (start_at ws (k + 1)) (start_at ws k) ≡ false) × (ltb (slots_of ws) (start_at ws (k + 1)) ≡ false) × (some (λ i. occurrence_bad ws k (start_at ws k + i)) (start_at ws (k + 1) - start_at ws k) ≡ false)
    unfolding variable_bad
    variable_parts =
        let (a, e₁) = or_none (variable_order_bad ws k) _ e in
        let (b, e₂) = or_none (leb (start_at ws (k + 1)) (start_at ws k)) _ e₁ in
        let (c, d) = or_none (ltb (slots_of ws) (start_at ws (k + 1))) _ e₂ in
        (a, b, c, d)

    next : start_at ws (k + 1) ≡ start_at ws (suc k)
    next = ap (start_at ws) (add-one k)

    -- occurrence i of variable k
    at : (i : ℕ) → start_at ws k ≤ i → i < start_at ws (suc k) → occurrence_bad ws k i ≡ false
    at i h l =
        let r : start_at ws k + (i - start_at ws k) ≡ i = omega arith in
        subst (λ (n : ℕ). occurrence_bad ws k n ≡ false) r
        (some_none (λ i. occurrence_bad ws k (start_at ws k + i)) (start_at ws (k + 1) - start_at ws k) variable_parts.3 (i - start_at ws k) (omega (arith, next)))

    -- and what its test leaves
    record Met (i : ℕ) : Type 0 where
      used : used_slot ws (occurrence_at ws i) ≡ true
      own : lit_of ws (occurrence_at ws i) / 2 ≡ variable_at ws k
      place : place_of ws (occurrence_at ws i) ≡ 2 * k + lit_of ws (occurrence_at ws i) % 2
      position : position_of ws (occurrence_at ws i) ≡ i
      rest : (ltb (start_at ws k) i && leb (occurrence_at ws i) (occurrence_at ws (i - 1))) ≡ false

    met : (i : ℕ) → start_at ws k ≤ i → i < start_at ws (suc k) → Met i
    unfolding occurrence_bad
    met i h l =
        let o : ℕ = occurrence_at ws i in
        let (a, e₁) = or_none (not (used_slot ws o)) _ (at i h l) in
        let (b, e₂) = or_none (not (eqb (lit_of ws o / 2) (variable_at ws k))) _ e₁ in
        let (c, e₃) = or_none (not (eqb (place_of ws o) (2 * k + lit_of ws o % 2))) _ e₂ in
        let (d, e₄) = or_none (not (eqb (position_of ws o) i)) _ e₃ in
        record {
          used = not_false _ a;
          own = eqb-true _ _ (not_false _ b);
          place = eqb-true _ _ (not_false _ c);
          position = eqb-true _ _ (not_false _ d);
          rest = e₄;
        }

    pub listed : Listed ws k
    unfolding variable_order_bad
    listed = record {
      range = ltb-false 4095 (variable_at ws k) (or_none (ltb 4095 (variable_at ws k)) _ variable_parts.0).0;
      some = omega (arith, next, leb-false (start_at ws (k + 1)) (start_at ws k) variable_parts.1);
      last = omega (arith, next, ltb-false (slots_of ws) (start_at ws (k + 1)) variable_parts.2);
      used = λ i h l. (met i h l).used;
      own = λ i h l. (met i h l).own;
      rising = λ i h l.
          let z = leb-false (occurrence_at ws (suc i)) (occurrence_at ws (suc i - 1)) (and_rest _ _ (lt-ltb (start_at ws k) (suc i) (omega arith)) (met (suc i) (omega arith) l).rest) in
          subst (λ (n : ℕ). occurrence_at ws n < occurrence_at ws (suc i)) (less_one i) z;
    }

    pub backward : (i : ℕ) → start_at ws k ≤ i → i < start_at ws (suc k) → (place_of ws (occurrence_at ws i) ≡ 2 * k + lit_of ws (occurrence_at ws i) % 2) × (position_of ws (occurrence_at ws i) ≡ i)
    backward i h l = ((met i h l).place, (met i h l).position)

  pub distinct : (k : ℕ) → variable_bad ws (suc k) ≡ false → variable_at ws k < variable_at ws (suc k)
  unfolding variable_order_bad
  distinct k e =
      let bad = (or_none (ltb 4095 (variable_at ws (suc k))) _ (variable_parts (suc k) e).0).1 in
      let z = leb-false (variable_at ws (suc k)) (variable_at ws (suc k - 1)) (and_rest _ _ (lt-ltb 0 (suc k) (omega arith)) bad) in
      subst (λ (n : ℕ). variable_at ws n < variable_at ws (suc k)) (less_one k) z

-- a slot in use is a size literal's or an edge's
pub slot_cases {ℓ} : {X : Type ℓ} (ws : List ℕ) (s : ℕ) → used_slot ws s ≡ true →
    ((v j : ℕ) → v < vertices_of ws → suc j < domain_len_of ws v → s ≡ 32 * v + j → X) → ((g : ℕ) → g < edges_of ws → s ≡ 2048 + g → X) → X
unfolding used_slot
slot_cases ws s u f g = tested (ltb s 2048)
    (λ t.
    let e = sym (pick_yes _ _ t) ∙ u in
    let a = ltb-true (s / 32) (vertices_of ws) (and_left (ltb (s / 32) (vertices_of ws)) (ltb (s % 32 + 1) (domain_len_of ws (s / 32))) e) in
    let b = ltb-true (s % 32 + 1) (domain_len_of ws (s / 32)) (and_right (ltb (s / 32) (vertices_of ws)) (ltb (s % 32 + 1) (domain_len_of ws (s / 32))) e) in
    f (s / 32) (s % 32) a (omega arith) (omega arith))
    (λ t.
    let e = sym (pick_no _ _ t) ∙ u in
    let a = ltb-true (s - 2048) (edges_of ws) e in
    let h = ltb-false s 2048 t in
    g (s - 2048) a (omega arith))

module _ (ws : List ℕ) (ends : List (List ℕ)) (ok : plan_bad ws ends ≡ false) where
  tests : (counts_bad ws ≡ false) × (some (vertex_bad ws) (vertices_of ws) ≡ false) × (some (edge_bad ws ends) (edges_of ws) ≡ false) × (some (variable_bad ws) (variables_of ws) ≡ false) × (starts_bad ws ≡ false)
  unfolding plan_bad
  tests =
      let (a, e₁) = or_none (counts_bad ws) _ ok in
      let (b, e₂) = or_none (some (vertex_bad ws) (vertices_of ws)) _ e₁ in
      let (c, e₃) = or_none (some (edge_bad ws ends) (edges_of ws)) _ e₂ in
      let (d, e) = or_none (some (variable_bad ws) (variables_of ws)) _ e₃ in
      (a, b, c, d, e)

  vertex : (v : ℕ) → v < vertices_of ws → vertex_bad ws v ≡ false
  vertex = some_none (vertex_bad ws) (vertices_of ws) tests.1

  variable : (k : ℕ) → k < variables_of ws → variable_bad ws k ≡ false
  variable = some_none (variable_bad ws) (variables_of ws) tests.3

  edge : (g : ℕ) → g < edges_of ws → Within (vertices_of ws) ends g
  unfolding edge_bad
  edge g h =
      let (a, b) = or_none (leb (vertices_of ws) (get_or (get_or ends g []) 0 0)) _ (some_none (edge_bad ws ends) (edges_of ws) tests.2 g h) in
      record { a = leb-false _ _ a; b = leb-false _ _ b }

  starts : (start_at ws 0 ≡ 0) × (start_at ws (variables_of ws) ≡ slots_of ws) × (slot_count ws ≡ slots_of ws)
  unfolding starts_bad
  starts =
      let (a, e) = or_none (not (eqb (start_at ws 0) 0)) _ tests.4 in
      let (b, c) = or_none (not (eqb (start_at ws (variables_of ws)) (slots_of ws))) _ e in
      (eqb-true _ _ (not_false _ a), eqb-true _ _ (not_false _ b), eqb-true _ _ (not_false _ c))

  pub proper : ProperWords ws ends
  proper =
      let s = sized ws tests.0 in
      record {
        fine = record { vertices = s.vertices; fits = s.edges; within = edge };
        options = (s.same_size, s.extra_walls);
        mark = s.mark;
        light = λ v h. vertex_light ws v (vertex v h);
        short = λ v h. vertex_short ws v (vertex v h);
        entries = λ v j h l. vertex_entries ws v (vertex v h) j l;
        rising = λ v j h l. vertex_rising ws v (vertex v h) j l;
        filed = all_filed ws s.vertices s.edges (λ v h. vertex_short ws v (vertex v h)) starts.0 starts.1 starts.2 (λ k h. listed ws k (variable k h)) (λ k i h. backward ws k (variable k h) i);
        few = (s.variables, s.slots);
        distinct = λ k h. distinct ws k (variable (suc k) h);
        listed = λ k h. listed ws k (variable k h);
        first = starts.0;
        end = starts.1;
        count = sym starts.2;
      }
