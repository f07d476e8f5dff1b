-- The abstract plan that a plan's words and its edge table stand for.
use Rattle.std.specs.Prelude.{List, ℕ}
use Rattle.division.specs.Plan.{Plan}
use Rattle.plan.specs.Words.{vertices_of, edges_of, same_size_of, extra_walls_of, weight_of, domain_len_of, domain_of, dom_lit_of, edge_lit_of}

abbrev pub plan_of : List ℕ → List (List ℕ) → Plan
plan_of ws ends = record {
  vertices = vertices_of ws;
  edges = edges_of ws;
  ends = ends;
  edge_lit = edge_lit_of ws;
  weight = weight_of ws;
  domain_len = domain_len_of ws;
  domain = domain_of ws;
  dom_lit = dom_lit_of ws;
  disallow_adjacent_same_size_regions = same_size_of ws;
  allow_extra_walls = extra_walls_of ws;
}
