-- What the public walks answer, on any input.
use Rattle.std.specs.Prelude.{ℕ, ◌+◌, Bool, true, false, List, ltb, length, Option, None, Some}
use Rattle.base.specs.Iter.{pick}
use Rattle.walks.specs.declared.Shape.{Shape}
use Rattle.graph.specs.Search.{graph, searched, reached_yet}
use Rattle.graph.specs.Bounds.{walkable}
use Rattle.walks.specs.Written.{Out, written}
use Rattle.graph.specs.Lists.{number_of}
use Rattle.walks.specs.Walk.{path_list, decided_list, potential_list, member_list}

-- what is answered, and the buffer then
pub record Answer : Type 0 where
  pub listed : Option ℕ
  pub text : List ℕ

abbrev pub answer_of : Option ℕ → List ℕ → Answer
answer_of r t = record { listed = r; text = t }

-- the list is written, and the answer is the place past it
unfoldable pub given : List ℕ → Out → Answer
given l o = answer_of (Some (written l o).place) (written l o).text

-- there is no list, and the buffer stays
unfoldable pub missing : Out → Answer
missing o = answer_of None o.text

-- whether the graph can be walked from vertex u
unfoldable pub startable : List (List ℕ) → List ℕ → Shape → ℕ → Bool
startable es st z u = pick (walkable es st z.num_edges z.num_vertices) (ltb u z.num_vertices) false

-- and each edge has a literal
unfoldable pub ready : List (List ℕ) → List ℕ → List ℕ → Shape → ℕ → Bool
ready es st lits z u = pick (startable es st z u) (pick (ltb (length lits) (z.first_lit + z.num_edges)) false true) false

-- `reason_connected_path`: there is a list where v is a vertex that is joined to u
unfoldable pub connected_path : List (List ℕ) → List ℕ → List ℕ → Shape → ℕ → ℕ → Out → Answer
connected_path es st lits z u v o =
    let e = graph es st false in
    pick (ready es st lits z u)
    (pick (ltb v z.num_vertices)
    (pick (reached_yet (searched e z.num_edges z.num_vertices u) v) (given (path_list (number_of lits z.first_lit) e z.num_edges z.num_vertices u v) o) (missing o)) (missing o)) (missing o)

-- `reason_decided_region`
unfoldable pub decided_region : List (List ℕ) → List ℕ → List ℕ → Shape → ℕ → Out → Answer
decided_region es st lits z u o =
    pick (ready es st lits z u) (given (decided_list (number_of lits z.first_lit) (graph es st false) z.num_edges z.num_vertices u) o) (missing o)

-- `reason_potential_region`
unfoldable pub potential_region : List (List ℕ) → List ℕ → List ℕ → Shape → ℕ → Out → Answer
potential_region es st lits z u o =
    pick (ready es st lits z u) (given (potential_list (number_of lits z.first_lit) (graph es st true) z.num_edges z.num_vertices u) o) (missing o)

-- the vertices of u's region, in the order of the search from u
unfoldable pub region_vertices : List (List ℕ) → List ℕ → Bool → Shape → ℕ → Out → Answer
region_vertices es st potential z u o = pick (startable es st z u) (given (member_list (graph es st potential) z.num_edges z.num_vertices u) o) (missing o)
