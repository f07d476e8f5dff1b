-- Refusal 7's test of the value table on a proper plan's words is the plan's.
use mathlib.Core.Path.{◌≡◌, refl, sym, ap, ap₂, ◌∙◌}
use mathlib.Core.Logic.{⊎_elim}
use mathlib.Core.Bool.{Bool, true, false, ◌||◌}
use mathlib.Core.List.{List, [], ◌∷◌}
use Prim.Native.Nat.{ℕ, zero, suc, pred, ◌-◌, ◌*◌, ◌/◌, ◌≤◌, ◌<◌}
use native.Mathlib.Omega.{arith}
use native.Mathlib.Nat.{eq-or-lt_of_le}
use lib.Dec.{ltb}
use lib.ListN.{length, get_or}
use borrow.Author.Tests.{ltb-true, ltb-false}
use Rattle.base.specs.Lists.{some}
use Rattle.base.proofs.Loop.{pick_ind}
use Rattle.plan.specs.Words.{vertices_of, edges_of, variables_of, domain_len_of, edge_lit_of, dom_lit_of, variable_at}
use Rattle.plan.specs.Plan.{plan_of}
use Rattle.plan.specs.Proper.{ProperWords}
use Rattle.noting.specs.Buffers.{table_len, code_bad, table_bad}
use Rattle.noting.proofs.Rising.{rises}
use Rattle.calls.specs.Table.{most, variables, too_high, bad_table}
use Rattle.calls.proofs.Count.{known_below}
use Rattle.refusals.proofs.Known.{edge_place, size_place, place_knows}

-- the first test of a list that passes
or_first : (t : ℕ → Bool) (n : ℕ) → some t (suc n) ≡ (t 0 || some (λ i. t (suc i)) n)
unfolding some
or_first t zero = or_swap (t 0)
  where
    or_swap : (a : Bool) → (false || a) ≡ (a || false)
    or_swap true = refl
    or_swap false = refl
or_first t (suc n) = ap (λ (b : Bool). b || t (suc n)) (or_first t n) ∙ or_assoc (t 0) _ _
  where
    or_assoc : (a b c : Bool) → ((a || b) || c) ≡ (a || (b || c))
    or_assoc true b c = refl
    or_assoc false b c = refl

pub high_is : (t : List ℕ) → some (code_bad t) (length t) ≡ too_high t
unfolding too_high code_bad some
high_is [] = refl
high_is (c ∷ t) = or_first (λ i. ltb 4 (get_or (c ∷ t) i 0)) (length t) ∙ ap (λ (b : Bool). ltb 4 c || b) (high_is t)

most_under : (f : ℕ → ℕ) (n m : ℕ) → ((i : ℕ) → i < n → f i ≤ m) → most f n ≤ m
unfolding most
most_under f zero m h = omega arith
most_under f (suc n) m h = pick_ind (λ z. z ≤ m) (ltb (most f n) (f n)) (f n) (most f n) (λ _. h n (omega arith)) (λ _. most_under f n m (λ i k. h i (omega arith)))

above_pred : (n j : ℕ) → j < pred n → suc j < n
above_pred zero j h = absurd (omega arith)
above_pred (suc n) j h = omega arith

module _ (ws : List ℕ) (ends : List (List ℕ)) (p : ProperWords ws ends) where
  -- a distinct variable is under the table's length
  under : (k : ℕ) → k < variables_of ws → variable_at ws k < table_len ws
  unfolding table_len
  under k h =
      pick_ind (λ z. variable_at ws k < z) (ltb 0 (variables_of ws)) _ _
      (λ _. ⊎_elim
      (λ (e : k ≡ variables_of ws - 1). let v : variable_at ws k ≡ variable_at ws (variables_of ws - 1) = ap (variable_at ws) e in omega arith)
      (λ (l : k < variables_of ws - 1). let r = rises (variable_at ws) (variables_of ws) p.distinct k (variables_of ws - 1) l (omega arith) in omega arith)
      (eq-or-lt_of_le {n = k} {m = variables_of ws - 1} (omega arith)))
      (λ t. absurd (let z = ltb-false 0 (variables_of ws) t in omega arith))

  variables_under : variables (plan_of ws ends) ≤ table_len ws
  unfolding variables
  variables_under =
      pick_ind (λ z. z ≤ table_len ws) (ltb (most (λ g. suc (edge_lit_of ws g / 2)) (edges_of ws)) (most (λ v. most (λ j. suc (dom_lit_of ws v j / 2)) (pred (domain_len_of ws v))) (vertices_of ws))) _ _
      (λ _. most_under (λ v. most (λ j. suc (dom_lit_of ws v j / 2)) (pred (domain_len_of ws v))) (vertices_of ws) (table_len ws)
      (λ v h. most_under (λ j. suc (dom_lit_of ws v j / 2)) (pred (domain_len_of ws v)) (table_len ws)
      (λ j i. let (k, a, b) = size_place ws ends p v j h (above_pred (domain_len_of ws v) j i) in let u = under k a in omega arith)))
      (λ _. most_under (λ g. suc (edge_lit_of ws g / 2)) (edges_of ws) (table_len ws)
      (λ g h. let (k, a, b) = edge_place ws ends p g h in let u = under k a in omega arith))

  len_under : table_len ws ≤ variables (plan_of ws ends)
  unfolding table_len
  len_under =
      pick_ind (λ z. z ≤ variables (plan_of ws ends)) (ltb 0 (variables_of ws)) _ _
      (λ t.
      let h = ltb-true 0 (variables_of ws) t in
      let k = variables_of ws - 1 in
      let e : 2 * variable_at ws k / 2 ≡ variable_at ws k = omega arith in
      let b = known_below (plan_of ws ends) (2 * variable_at ws k) (place_knows ws ends p k (2 * variable_at ws k) (omega arith) (sym e)) in
      omega arith)
      (λ _. omega arith)

  pub table_len_is : table_len ws ≡ variables (plan_of ws ends)
  table_len_is = let a = variables_under in let b = len_under in omega arith

  pub bad_table_lem : (t : List ℕ) → table_bad ws t ≡ bad_table (plan_of ws ends) t
  unfolding table_bad bad_table
  bad_table_lem t = ap₂ (λ (n : ℕ) (b : Bool). ltb (length t) n || b) table_len_is (high_is t)
