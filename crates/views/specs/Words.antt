-- The view words: what an analysis computes first, of the regions of a state. A region is named by its label, its lowest
-- vertex. Every field is a total function of its index, 0 where the index is past 63.
use Rattle.std.specs.Prelude.{List, ℕ}
use Rattle.plan.specs.Words.{entry}
use Rattle.division.specs.Plan.{Plan}
use Rattle.division.specs.State.{State, decided}
use Rattle.division.specs.Analysis.{View}
use Rattle.division.specs.Views.{members_of, cells_of}

-- the labels of a vertex's decided and of its potential region
abbrev pub decided_region_of : List ℕ → ℕ → ℕ
decided_region_of = entry 0 64

abbrev pub potential_region_of : List ℕ → ℕ → ℕ
potential_region_of = entry 64 64

-- the weights of the decided and of the potential region with a label
abbrev pub decided_weight_of : List ℕ → ℕ → ℕ
decided_weight_of = entry 128 64

abbrev pub potential_weight_of : List ℕ → ℕ → ℕ
potential_weight_of = entry 192 64

-- the least upper and the greatest lower bound of a decided region, each followed by the lowest vertex that has it
abbrev pub upper_bound_of : List ℕ → ℕ → ℕ
upper_bound_of = entry 256 64

abbrev pub upper_bound_at : List ℕ → ℕ → ℕ
upper_bound_at = entry 320 64

abbrev pub lower_bound_of : List ℕ → ℕ → ℕ
lower_bound_of = entry 384 64

abbrev pub lower_bound_at : List ℕ → ℕ → ℕ
lower_bound_at = entry 448 64

-- the view that the words stand for, of plan d in state s
abbrev pub shown : Plan → State → List ℕ → View
shown d s view = record {
  did = decided_region_of view;
  pid = potential_region_of view;
  dw = decided_weight_of view;
  pw = potential_weight_of view;
  up = upper_bound_of view;
  up_at = upper_bound_at view;
  low = lower_bound_of view;
  low_at = lower_bound_at view;
  members = members_of d (decided d s);
  cells = cells_of d s (potential_region_of view);
}
