-- Literals under other names: what an analysis proposes does not hang on how the literals are numbered.
use Rattle.std.specs.Prelude.{map, ℕ}
use Rattle.division.specs.Plan.{Plan}
use Rattle.division.specs.Analysis.{Proposal, Out}

unfoldable pub relabel : (ℕ → ℕ) → Proposal → Proposal
relabel φ p = record { lit = φ p.lit; why = p.why }

unfoldable pub relabelled : (ℕ → ℕ) → Out → Out
relabelled φ o = record { verdict = o.verdict; props = map (relabel φ) o.props }

-- the plan with φ l for each literal l
abbrev pub relabelled_plan : (ℕ → ℕ) → Plan → Plan
relabelled_plan φ d = record {
  vertices = d.vertices;
  edges = d.edges;
  ends = d.ends;
  edge_lit = λ g. φ (d.edge_lit g);
  weight = d.weight;
  domain_len = d.domain_len;
  domain = d.domain;
  dom_lit = λ v j. φ (d.dom_lit v j);
  disallow_adjacent_same_size_regions = d.disallow_adjacent_same_size_regions;
  allow_extra_walls = d.allow_extra_walls;
}
