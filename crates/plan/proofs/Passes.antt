-- Whatever is proper passes the plan's own test.
use mathlib.Core.Path.{◌≡◌, sym, ap, subst, ◌∙◌}
use mathlib.Core.Bool.{true, false, not}
use mathlib.Core.List.{List}
use Prim.Native.Nat.{ℕ, zero, suc, ◌+◌, ◌-◌, ◌*◌, ◌/◌, ◌%◌, ◌≤◌, ◌<◌}
use native.Mathlib.Omega.{arith}
use native.Mathlib.Numerals.{add-one}
use lib.Dec.{eqb, ltb, leb}
use borrow.Author.Tests.{ltb-true, lt-ltb, le-ltb, lt-leb, eq-eqb}
use Rattle.base.proofs.Loop.{pick_yes, pick_no}
use Rattle.base.proofs.Tests.{or_both, and_either, and_next}
use Rattle.base.proofs.Some.{some_all}
use Rattle.plan.specs.Words.{vertices_of, edges_of, variables_of, slots_of, domain_len_of, domain_of, lit_of, place_of, position_of, variable_at, start_at, occurrence_at}
use Rattle.plan.specs.Check.{counts_bad, used_slot, entry_bad, vertex_bad, edge_bad, occurrence_bad, variable_order_bad, variable_bad, starts_bad, plan_bad}
use Rattle.plan.specs.Proper.{ProperWords}
use Rattle.plan.proofs.Once.{located, rises_from}

-- a test for equality that passes, as the plan's own test asks it
same : (a b : ℕ) → a ≡ b → not (eqb a b) ≡ false
same a b e = ap not (eq-eqb a b e)

pub size_slot : (ws : List ℕ) (v j : ℕ) → v < 64 → j < 31 → v < vertices_of ws → suc j < domain_len_of ws v → used_slot ws (32 * v + j) ≡ true
unfolding used_slot
size_slot ws v j a b h l =
    let q : (32 * v + j) / 32 ≡ v = omega arith in
    let r : (32 * v + j) % 32 ≡ j = omega arith in
    pick_yes _ _ (lt-ltb (32 * v + j) 2048 (omega arith))
    ∙ sym (and_next (ltb ((32 * v + j) % 32 + 1) (domain_len_of ws ((32 * v + j) / 32))) true (lt-ltb ((32 * v + j) / 32) (vertices_of ws) (omega arith))
    (sym (lt-ltb _ _ (subst (λ (i : ℕ). (32 * v + j) % 32 + 1 < domain_len_of ws i) (sym q) (omega arith)))))

pub edge_slot : (ws : List ℕ) (g : ℕ) → g < edges_of ws → used_slot ws (2048 + g) ≡ true
unfolding used_slot
edge_slot ws g h = pick_no _ _ (le-ltb (2048 + g) 2048 (omega arith)) ∙ lt-ltb (2048 + g - 2048) (edges_of ws) (omega arith)

module _ (ws : List ℕ) (ends : List (List ℕ)) (p : ProperWords ws ends) where
  entry : (v j : ℕ) → v < vertices_of ws → j < domain_len_of ws v → entry_bad ws v j ≡ false
  unfolding entry_bad
  entry v j h l = or_both (le-ltb _ _ (p.entries v j h l)) (and_either {a = ltb 0 j} {b = leb (domain_of ws v j) (domain_of ws v (j - 1))} (λ t. lt-leb _ _ (go j l (ltb-true 0 j t))))
    where
      go : (i : ℕ) → i < domain_len_of ws v → 0 < i → domain_of ws v (i - 1) < domain_of ws v i
      go zero b z = absurd (omega arith)
      go (suc i) b z = let e : suc i - 1 ≡ i = omega arith in subst (λ (n : ℕ). domain_of ws v n < domain_of ws v (suc i)) (sym e) (p.rising v i h b)

  vertex : (v : ℕ) → v < vertices_of ws → vertex_bad ws v ≡ false
  unfolding vertex_bad
  vertex v h =
      or_both (le-ltb _ _ (p.light v h)) (or_both (le-ltb _ _ (p.short v h)) (some_all (entry_bad ws v) (domain_len_of ws v) (λ j l. entry v j h l)))

  edge : (g : ℕ) → g < edges_of ws → edge_bad ws ends g ≡ false
  unfolding edge_bad
  edge g h = or_both (lt-leb _ _ (p.fine.within g h).a) (lt-leb _ _ (p.fine.within g h).b)

  one_place : (i j : ℕ) → i < variables_of ws → j < variables_of ws → variable_at ws i ≡ variable_at ws j → i ≡ j
  one_place i j a b e = rises_from (variable_at ws) 0 (variables_of ws) (λ i a b. p.distinct i b) i j (omega arith) a (omega arith) b e

  module _ (k : ℕ) (h : k < variables_of ws) where
    one_occurrence : (i j : ℕ) → start_at ws k ≤ i → i < start_at ws (suc k) → start_at ws k ≤ j → j < start_at ws (suc k) → occurrence_at ws i ≡ occurrence_at ws j → i ≡ j
    one_occurrence i j a b c d e = rises_from (occurrence_at ws) (start_at ws k) (start_at ws (suc k)) (p.listed k h).rising i j a b c d e

    next : start_at ws (k + 1) ≡ start_at ws (suc k)
    next = ap (start_at ws) (add-one k)

    order : variable_order_bad ws k ≡ false
    unfolding variable_order_bad
    order = or_both (le-ltb _ _ (p.listed k h).range) (and_either (λ t. lt-leb _ _ (go k h (ltb-true 0 k t))))
      where
        go : (i : ℕ) → i < variables_of ws → 0 < i → variable_at ws (i - 1) < variable_at ws i
        go zero b z = absurd (omega arith)
        go (suc i) b z = let e : suc i - 1 ≡ i = omega arith in subst (λ (n : ℕ). variable_at ws n < variable_at ws (suc i)) (sym e) (p.distinct i b)

    -- the place of an occurrence's slot, and its position
    place : (i : ℕ) → start_at ws k ≤ i → i < start_at ws (suc k) → place_of ws (occurrence_at ws i) ≡ 2 * k + lit_of ws (occurrence_at ws i) % 2
    place i a b =
        let f = p.filed (occurrence_at ws i) ((p.listed k h).used i a b) in
        let e : place_of ws (occurrence_at ws i) / 2 ≡ k = one_place _ k f.known h (f.variable ∙ (p.listed k h).own i a b) in
        omega (arith, f.sign)

    position : (i : ℕ) → start_at ws k ≤ i → i < start_at ws (suc k) → position_of ws (occurrence_at ws i) ≡ i
    position i a b =
        let o : ℕ = occurrence_at ws i in
        let f = p.filed o ((p.listed k h).used i a b) in
        let j : ℕ = position_of ws o in
        let (m, c, d, e) = located (start_at ws) (variables_of ws) j (omega (arith, p.first)) (omega (arith, p.end, f.within)) in
        let v : variable_at ws m ≡ variable_at ws k = sym ((p.listed m c).own j d e) ∙ ap (λ (q : ℕ). lit_of ws q / 2) f.there ∙ (p.listed k h).own i a b in
        let z : m ≡ k = one_place m k c h v in
        let d' : start_at ws k ≤ j = subst (λ (q : ℕ). start_at ws q ≤ j) z d in
        let e' : j < start_at ws (suc k) = subst (λ (q : ℕ). j < start_at ws (suc q)) z e in
        one_occurrence j i d' e' a b f.there

    occurrence : (i : ℕ) → start_at ws k ≤ i → i < start_at ws (suc k) → occurrence_bad ws k i ≡ false
    unfolding occurrence_bad
    occurrence i a b =
        or_both (ap not ((p.listed k h).used i a b)) (or_both (same _ _ ((p.listed k h).own i a b)) (or_both (same _ _ (place i a b)) (or_both (same _ _ (position i a b)) (and_either (λ t. lt-leb _ _ (go i b (ltb-true (start_at ws k) i t)))))))
      where
        go : (i : ℕ) → i < start_at ws (suc k) → start_at ws k < i → occurrence_at ws (i - 1) < occurrence_at ws i
        go zero b z = absurd (omega arith)
        go (suc i) b z = let e : suc i - 1 ≡ i = omega arith in subst (λ (n : ℕ). occurrence_at ws n < occurrence_at ws (suc i)) (sym e) ((p.listed k h).rising i (omega arith) b)

    variable : variable_bad ws k ≡ false
    unfolding variable_bad
    variable =
        or_both order (or_both (lt-leb (start_at ws (k + 1)) (start_at ws k) (omega (arith, next, (p.listed k h).some)))
        (or_both (le-ltb (slots_of ws) (start_at ws (k + 1)) (omega (arith, next, (p.listed k h).last)))
        (some_all (λ i. occurrence_bad ws k (start_at ws k + i)) (start_at ws (k + 1) - start_at ws k) (λ i l. occurrence (start_at ws k + i) (omega arith) (omega (arith, next))))))

  pub passes : plan_bad ws ends ≡ false
  unfolding plan_bad counts_bad starts_bad
  passes =
      or_both (or_both (le-ltb _ _ p.fine.vertices) (or_both (le-ltb _ _ p.fine.fits) (or_both (le-ltb _ _ p.few.0) (or_both (le-ltb _ _ p.few.1)
      (or_both (le-ltb _ _ p.options.0) (or_both (le-ltb _ _ p.options.1) (same _ _ p.mark)))))))
      (or_both (some_all (vertex_bad ws) (vertices_of ws) vertex) (or_both (some_all (edge_bad ws ends) (edges_of ws) edge)
      (or_both (some_all (variable_bad ws) (variables_of ws) variable)
      (or_both (same _ _ p.first) (or_both (same _ _ p.end) (same _ _ (sym p.count)))))))
