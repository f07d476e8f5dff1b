-- `analyze` on any words: what it computes first, then the five steps. Vertex v is what applying a literal told of crossed bounds.
use Rattle.std.specs.Prelude.{◌≡◌, true, List, ℕ, ◌≤◌, Err, replicate}
use Rattle.base.specs.Iter.{pick}
use Rattle.graph.specs.Bounds.{walkable}
use Rattle.plan.specs.Words.{vertices_of, edges_of}
use Rattle.views.specs.Compute.{Computed, compute_view}
use Rattle.reasons.specs.declared.Stop.TheVariants.{Unfit}
use Rattle.reasons.specs.Verdicts.{Ran, ran, ran_of}
use Rattle.analysis.specs.Placed.{words, on}
use Rattle.analysis.specs.First.{analyzed_first}

-- words whose graph can be walked
pub record Fit (ws : List ℕ) (es : List (List ℕ)) (noted : List ℕ) : Type 0 where
  pub vertices : vertices_of ws ≤ 64
  pub edges : edges_of ws ≤ 128
  pub walks : walkable es noted (edges_of ws) (vertices_of ws) ≡ true

unfoldable pub analyze_by : List ℕ → List (List ℕ) → List ℕ → ℕ → List ℕ → Computed → Ran
analyze_by ws es noted v proposals c =
    pick c.done (ran_of (on analyzed_first (words ws es noted c.words) v) proposals) (ran (Err Unfit) proposals)

unfoldable pub analyze_words : List ℕ → List (List ℕ) → List ℕ → ℕ → List ℕ → Ran
analyze_words ws es noted v proposals = analyze_by ws es noted v proposals (compute_view ws es noted (replicate 512 0))
