-- `GraphDivision::new`: the plan inside a fresh state, or the lowest refusal that applies (document 01, "Plan", "Building gives the
-- lowest number that applies").
use Rattle.std.specs.Prelude.{Bool, false, List, ℕ, ℤ, replicate}
use Rattle.base.specs.Refusal.{refusal_with}
use Rattle.builder.specs.Input.{refusal}
use Rattle.builder.specs.Build.{plan_words, edge_table}
use Rattle.noting.specs.Words.{fresh}
use Rattle.recorded.specs.Recorded.{no_reasons}
use Rattle.graph_division.specs.declared.GraphDivision.{GraphDivision}
use Rattle.graph_division.specs.declared.Built.{Built}

-- where a refusal applies the plan's words are all 0, and no call accepts that state: each is refused with 7 (refused-no-plan of
-- proofs/NoPlan)
unfoldable pub built : List ℤ → ℕ → List ℤ → ℕ → Bool → Bool → Built
built vs n es m sameSize extraWalls = record {
  refusal = refusal_with (refusal vs n es m);
  state = record {
    plan = plan_words vs n es m sameSize extraWalls;
    edges = record { ends = edge_table es m };
    noted = fresh (plan_words vs n es m sameSize extraWalls) (replicate 384 0);
    reasons = no_reasons;
    last = replicate 260 0;
    last_len = 0;
    initialized = false;
  };
}
