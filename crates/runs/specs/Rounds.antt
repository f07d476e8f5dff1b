-- How far each vertex is from the last one, by rounds over the edge table. Word q is how many undecided edges vertex q
-- is away, word 64 + q how many edges, and word 128 + q is 1 where it is reached.
use Rattle.std.specs.Prelude.{ℕ, suc, ◌+◌, ◌≡◌, Bool, true, not, ◌&&◌, ◌||◌, List, eqb, ltb, get_or, set, replicate}
use Rattle.base.specs.Iter.{iter, pick}
use Rattle.graph.specs.Search.{Graph, is_open, end_a, end_b}
use Rattle.graph.specs.Paths.{Leads}
use Rattle.runs.specs.Run.{AtMost, is_undecided}

-- undecided edges, edges, and whether the vertex is reached at all
pub record Far : Type 0 where
  pub und : ℕ → ℕ
  pub len : ℕ → ℕ
  pub seen : ℕ → Bool

abbrev pub far_of : List ℕ → Far
far_of w = record { und = λ q. get_or w q 0; len = λ q. get_or w (64 + q) 0; seen = λ q. eqb (get_or w (128 + q) 0) 1 }

-- (a, b) is less than (c, d), the first numbers compared first
abbrev pub less_by : ℕ → ℕ → ℕ → ℕ → Bool
less_by a b c d = ltb a c || (eqb a c && ltb b d)

-- vertex p is nearer by edge g from vertex r than it was
unfoldable pub nearer : Graph → ℕ → ℕ → ℕ → Far → Bool
nearer e g p r f =
    f.seen r &&
    (not (f.seen p) || less_by (is_undecided e g + f.und r) (suc (f.len r)) (f.und p) (f.len p))

unfoldable pub stored : ℕ → ℕ → ℕ → List ℕ → List ℕ
stored p a b w = set (set (set w p a) (64 + p) b) (128 + p) 1

unfoldable pub relaxed : Graph → ℕ → ℕ → ℕ → List ℕ → List ℕ
relaxed e g p r w =
    pick (nearer e g p r (far_of w)) (stored p (is_undecided e g + get_or w r 0) (suc (get_or w (64 + r) 0)) w) w

-- edge g both ways
unfoldable pub relaxed_edge : Graph → ℕ → List ℕ → List ℕ
relaxed_edge e g w = pick (is_open e g) (relaxed e g (end_a e g) (end_b e g) (relaxed e g (end_b e g) (end_a e g) w)) w

unfoldable pub round : Graph → ℕ → List ℕ → List ℕ
round e edges w = iter (relaxed_edge e) edges w

-- as many rounds as there are vertices, from vertex q
unfoldable pub distances : Graph → ℕ → ℕ → ℕ → List ℕ
distances e edges vertices q = iter (λ _ w. round e edges w) vertices (stored q 0 0 (replicate 192 0))

-- what distances from vertex q are that no edge makes shorter
pub record Settled (e : Graph) (edges q : ℕ) (f : Far) : Type 0 where
  pub start : f.seen q ≡ true
  pub start_und : f.und q ≡ 0
  pub start_len : f.len q ≡ 0
  -- no edge makes a distance shorter
  pub edge_seen : (g p r : ℕ) → Leads e edges g p r → f.seen r ≡ true → f.seen p ≡ true
  pub edge : (g p r : ℕ) → Leads e edges g p r → f.seen r ≡ true →
      AtMost (f.und p) (f.len p) (is_undecided e g + f.und r) (suc (f.len r))
  -- and each distance is due to an edge
  pub due : (p : ℕ) → f.seen p ≡ true → (p ≡ q → ⊥) →
      (g : ℕ) × (r : ℕ) × Leads e edges g p r × (f.seen r ≡ true) ×
      (f.und p ≡ is_undecided e g + f.und r) × (f.len p ≡ suc (f.len r))
