-- What step 5 asks of one edge of a pair, tested once for all pairs of the edge.
use Rattle.std.specs.Prelude.{Bool, ◌&&◌, ℕ, eqb, ltb}
use Rattle.division.specs.Plan.{Plan, touches, across}
use Rattle.division.specs.State.{State}
use Rattle.division.specs.Analysis.{View, loose}

-- edge g leads from vertex u to another region, of a fixed size
unfoldable pub leads_to_fixed : Plan → State → View → ℕ → ℕ → Bool
leads_to_fixed d s w u g = touches d u g && (loose d s w g && eqb (w.low (w.did (across d u g))) (w.up (w.did (across d u g))))

-- two regions with bounds la to ua and lb to ub have one and the same fixed size, less than m
unfoldable pub one_size : ℕ → ℕ → ℕ → ℕ → ℕ → Bool
one_size la ua lb ub m = (eqb la ua && eqb lb ub) && (eqb la lb && ltb la m)
