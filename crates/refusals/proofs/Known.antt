-- Refusal 9 on a proper plan's words is the plan's: the search finds a literal's variable exactly if the plan knows the literal.
use mathlib.Core.Path.{◌≡◌, sym, ap, ◌∙◌}
use mathlib.Core.Bool.{true, false, true≢false}
use mathlib.Core.List.{List}
use Prim.Native.Nat.{ℕ, suc, ◌+◌, ◌*◌, ◌/◌, ◌≤◌, ◌<◌}
use native.Mathlib.Omega.{arith}
use lib.Dec.{ltb}
use borrow.Author.Tests.{ltb-true, eqb-true}
use Rattle.base.proofs.Loop.{tested}
use Rattle.base.proofs.Tests.{and_left, and_right}
use Rattle.plan.specs.Words.{vertices_of, edges_of, variables_of, domain_len_of, lit_of, edge_lit_of, dom_lit_of, place_of, variable_at}
use Rattle.plan.specs.Plan.{plan_of}
use Rattle.plan.specs.Proper.{ProperWords}
use Rattle.plan.proofs.Abstract.{unique_only}
use Rattle.plan.proofs.Passes.{edge_slot}
use Rattle.plan.proofs.Proper.{slot_cases}
use Rattle.noting.specs.Note.{place_in, known}
use Rattle.noting.proofs.Indexed.{is_known}
use Rattle.noting.proofs.Noted.{edge_lit}
use Rattle.noting.proofs.Vertex.{slot_used, slot_lit}
use Rattle.calls.specs.Table.{knows}
use Rattle.calls.specs.Refusals.{Known, of_edge, of_domain}
use Rattle.calls.proofs.Known.{edge_known, size_known, known as which-known}

module _ (ws : List ℕ) (ends : List (List ℕ)) (p : ProperWords ws ends) where
  -- the variable of a slot in use is one of the distinct ones
  pub edge_place : (g : ℕ) → g < edges_of ws → (k : ℕ) × (k < variables_of ws) × (variable_at ws k ≡ edge_lit_of ws g / 2)
  edge_place g h =
      let f = p.filed (2048 + g) (edge_slot ws g h) in
      (place_of ws (2048 + g) / 2, f.known, f.variable ∙ ap (λ (i : ℕ). i / 2) (edge_lit ws ends p 0 (omega arith) g h))

  pub size_place : (v j : ℕ) → v < vertices_of ws → suc j < domain_len_of ws v → (k : ℕ) × (k < variables_of ws) × (variable_at ws k ≡ dom_lit_of ws v j / 2)
  size_place v j h i =
      let f = p.filed (32 * v + j) (slot_used ws ends p 0 (omega arith) v h j i) in
      (place_of ws (32 * v + j) / 2, f.known, f.variable ∙ ap (λ (n : ℕ). n / 2) (slot_lit ws ends p 0 (omega arith) v h j i))

  -- a variable that the search finds is one of the distinct ones
  pub known_place : (x : ℕ) → known ws x ≡ true → (k : ℕ) × (k < variables_of ws) × (variable_at ws k ≡ x)
  unfolding known
  known_place x e = (place_in ws x, ltb-true _ _ (and_left (ltb (place_in ws x) (variables_of ws)) _ e), eqb-true _ _ (and_right (ltb (place_in ws x) (variables_of ws)) _ e))

  at_known : (x k : ℕ) → k < variables_of ws → variable_at ws k ≡ x → known ws x ≡ true
  at_known x k h e = ap (known ws) (sym e) ∙ is_known ws ends p k h

  -- the literals of a distinct variable are known to the plan
  pub place_knows : (k l : ℕ) → k < variables_of ws → variable_at ws k ≡ l / 2 → knows (plan_of ws ends) l ≡ true
  place_knows k l h e =
      let (s, u, o) = unique_only ws ends p k h in
      let q : l / 2 ≡ lit_of ws s / 2 = sym (o ∙ e) in
      slot_cases ws s u
      (λ v j a b (z : s ≡ 32 * v + j). size_known (plan_of ws ends) l v j a b (q ∙ ap (λ (i : ℕ). lit_of ws i / 2) z ∙ ap (λ (i : ℕ). i / 2) (slot_lit ws ends p 0 (omega arith) v a j b)))
      (λ g a (z : s ≡ 2048 + g). edge_known (plan_of ws ends) l g a (q ∙ ap (λ (i : ℕ). lit_of ws i / 2) z ∙ ap (λ (i : ℕ). i / 2) (edge_lit ws ends p 0 (omega arith) g a)))

  pub knows_place : (l : ℕ) → knows (plan_of ws ends) l ≡ true → (k : ℕ) × (k < variables_of ws) × (variable_at ws k ≡ l / 2)
  knows_place l e = by (which-known (plan_of ws ends) l e)
    where
      by : Known (plan_of ws ends) l → (k : ℕ) × (k < variables_of ws) × (variable_at ws k ≡ l / 2)
      by (of_edge g h q) = let (k, a, b) = edge_place g h in (k, a, b ∙ sym q)
      by (of_domain v j h i q) = let (k, a, b) = size_place v j h i in (k, a, b ∙ sym q)

  pub known_is : (l : ℕ) → known ws (l / 2) ≡ knows (plan_of ws ends) l
  known_is l = tested (knows (plan_of ws ends) l)
      (λ t. let (k, a, b) = knows_place l t in at_known (l / 2) k a b ∙ sym t)
      (λ t. tested (known ws (l / 2))
      (λ u. let (k, a, b) = known_place (l / 2) u in absurd (true≢false (sym (place_knows k l a b) ∙ t)))
      (λ u. u ∙ sym t))

  -- what the plan knows is a literal
  pub knows_range : (l : ℕ) → knows (plan_of ws ends) l ≡ true → l ≤ 8191
  knows_range l e = let (k, a, b) = knows_place l e in omega (arith, (p.listed k a).range)

  pub outside_unknown : (l : ℕ) → 8191 < l → knows (plan_of ws ends) l ≡ false
  outside_unknown l h = tested (knows (plan_of ws ends) l) (λ t. absurd (let r = knows_range l t in omega arith)) (λ t. t)
