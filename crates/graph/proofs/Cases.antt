-- Small graphs, computed.
use mathlib.Core.Path.{◌≡◌, refl}
use mathlib.Core.Bool.{false}
use mathlib.Core.List.{[], ◌∷◌}
use lib.ListN.{take}
use Rattle.base.specs.Iter.{iter, pick}
use Rattle.graph.specs.Search.{Graph, graph, passes, marked, reached, visited, popped, blank, searched, searched_on}
use Rattle.graph.specs.Paths.{climb}

line : Graph
line = graph ((0 ∷ 1 ∷ []) ∷ (1 ∷ 2 ∷ []) ∷ (2 ∷ 3 ∷ []) ∷ (0 ∷ 3 ∷ []) ∷ []) (2 ∷ 2 ∷ 0 ∷ 1 ∷ []) false

small : (searched line 4 4 0).count ≡ 3
unfolding line searched_on popped visited reached marked passes iter pick blank
small = refl

order : take 3 (searched line 4 4 2).words ≡ 2 ∷ 1 ∷ 0 ∷ []
unfolding line searched_on popped visited reached marked passes iter pick blank
order = refl

path : climb (searched line 4 4 0) 0 4 2 ≡ 1 ∷ 0 ∷ []
unfolding line searched_on popped visited reached marked passes iter pick blank climb
path = refl
