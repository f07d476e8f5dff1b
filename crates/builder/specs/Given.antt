-- Words and an edge table that stand for the plan that was given, number by number.
use Rattle.std.specs.Prelude.{◌≡◌, Bool, List, [], ℕ, pred, ◌<◌, ℤ, get_or}
use Rattle.base.specs.Range.{to_nat}
use Rattle.plan.specs.Words.{vertices_of, edges_of, same_size_of, extra_walls_of, weight_of, domain_len_of, domain_of, dom_lit_of, edge_lit_of}
use Rattle.builder.specs.Input.{weight_at, len_at, size_at, lit_at, left_at, right_at, edge_lit_at}

pub record Given (vs : List ℤ) (n : ℕ) (es : List ℤ) (m : ℕ) (a b : Bool) (ws : List ℕ) (ends : List (List ℕ)) : Type 0 where
  pub vertices : vertices_of ws ≡ n
  pub edges : edges_of ws ≡ m
  pub weight : (v : ℕ) → v < n → weight_of ws v ≡ to_nat (weight_at vs v)
  pub domain_len : (v : ℕ) → v < n → domain_len_of ws v ≡ len_at vs v
  pub domain : (v j : ℕ) → v < n → j < len_at vs v → domain_of ws v j ≡ to_nat (size_at vs v j)
  pub dom_lit : (v j : ℕ) → v < n → j < pred (len_at vs v) → dom_lit_of ws v j ≡ to_nat (lit_at vs v j)
  pub edge_lit : (g : ℕ) → g < m → edge_lit_of ws g ≡ to_nat (edge_lit_at es g)
  pub left : (g : ℕ) → g < m → get_or (get_or ends g []) 0 0 ≡ to_nat (left_at es g)
  pub right : (g : ℕ) → g < m → get_or (get_or ends g []) 1 0 ≡ to_nat (right_at es g)
  pub same_size : same_size_of ws ≡ a
  pub extra_walls : extra_walls_of ws ≡ b
