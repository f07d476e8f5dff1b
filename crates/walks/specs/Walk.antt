-- The lists that the Rust makes by walking the graph. `lits` gives the literal of each edge.
use Rattle.std.specs.Prelude.{ℕ, suc, pred, Bool, not, ◌&&◌, ◌||◌, List, [], ◌∷◌, map, eqb, get_or}
use Rattle.base.specs.Iter.{pick}
use Rattle.base.specs.Lists.{collect, tab}
use Rattle.sat.specs.Literal.{negate}
use Rattle.graph.specs.Search.{Graph, end_a, end_b, Scan, searched, at, edge_to, reached_yet}
use Rattle.graph.specs.Paths.{climb}
use Rattle.walks.specs.Written.{Out, written}

-- a word of a list that was lent
abbrev pub word_at : List ℕ → ℕ → ℕ
word_at words g = get_or words g 0

-- The Rust's `reason_connected_path`: the literals of the connected edges on the way from u to v, from v back to u.
-- The Rust stops its search when it takes v from the queue, and may queue u a second time. Neither changes the list: the parent of
-- a vertex is set once, when it is first reached, and by the time v is taken v and all that its path goes through have theirs; u, queued
-- again, finds each of its neighbours reached. Here u counts as reached from the start, and every vertex is taken.
unfoldable pub path_back : (ℕ → ℕ) → Scan → ℕ → ℕ → ℕ → List ℕ
path_back lits s u vertices v = map (λ g. negate (lits g)) (climb s u vertices v)

unfoldable pub path_list : (ℕ → ℕ) → Graph → ℕ → ℕ → ℕ → ℕ → List ℕ
path_list lits e edges vertices u v = path_back lits (searched e edges vertices u) u vertices v

-- The Rust's `reason_decided_region`: the literals of the connected edges by which the vertices of u's region were reached, in that order.
unfoldable pub tree_list : (ℕ → ℕ) → Scan → List ℕ
tree_list lits s = collect (λ i. negate (lits (edge_to s (at s (suc i)))) ∷ []) (pred s.count)

unfoldable pub decided_list : (ℕ → ℕ) → Graph → ℕ → ℕ → ℕ → List ℕ
decided_list lits e edges vertices u = tree_list lits (searched e edges vertices u)

-- whether one end is vertex p and the other was not reached
unfoldable pub leads_out : (ℕ → Bool) → ℕ → ℕ → ℕ → Bool
leads_out seen one other p = eqb one p && not (seen other)

-- whether edge g is disconnected and leads from vertex p out of what was reached
unfoldable pub leaves : Graph → (ℕ → Bool) → ℕ → ℕ → Bool
leaves e seen p g = eqb (get_or e.state g 0) 1 && (leads_out seen (end_a e g) (end_b e g) p || leads_out seen (end_b e g) (end_a e g) p)

-- the literals of the edges that lead from vertex p out of what was reached
unfoldable pub walls_of : (ℕ → ℕ) → Graph → ℕ → (ℕ → Bool) → ℕ → List ℕ
walls_of lits e edges seen p = collect (λ g. pick (leaves e seen p g) (lits g ∷ []) []) edges

-- those of every vertex that was reached, in rising order
unfoldable pub border_list : (ℕ → ℕ) → Graph → ℕ → ℕ → (ℕ → Bool) → List ℕ
border_list lits e edges vertices seen = collect (λ p. pick (seen p) (walls_of lits e edges seen p) []) vertices

-- The Rust's `reason_potential_region`: the literals of the disconnected edges that leave what u can be joined to.
unfoldable pub potential_list : (ℕ → ℕ) → Graph → ℕ → ℕ → ℕ → List ℕ
potential_list lits e edges vertices u = border_list lits e edges vertices (reached_yet (searched e edges vertices u))

-- one edge and one vertex of it, written
unfoldable pub wall_at : (ℕ → ℕ) → Graph → (ℕ → Bool) → ℕ → ℕ → Out → Out
wall_at lits e seen p g o = written (pick (leaves e seen p g) (lits g ∷ []) []) o

unfoldable pub side_at : (ℕ → ℕ) → Graph → ℕ → (ℕ → Bool) → ℕ → Out → Out
side_at lits e edges seen p o = written (pick (seen p) (walls_of lits e edges seen p) []) o

-- A region of the Rust's `Regions`: the vertices of u's region in the order of the search from u, the lowest one there.
unfoldable pub order_list : Scan → List ℕ
order_list s = tab (at s) s.count

unfoldable pub member_list : Graph → ℕ → ℕ → ℕ → List ℕ
member_list e edges vertices u = order_list (searched e edges vertices u)
