-- The breadth-first search, as a definition that computes.
use Rattle.std.specs.Prelude.{ℕ, ◌+◌, Bool, true, false, not, List, [], eqb, ltb, get_or, set, replicate}
use Rattle.base.specs.Iter.{iter, pick}

-- A search under way: how many vertices were reached, and in 256 words how. The vertices in the order in which they were reached
-- stand from word 0 on; the vertex that q was reached from is word 64 + q, the edge is word 128 + q, and word 192 + q is 1 if q was reached.
pub record Scan : Type 0 where
  pub words : List ℕ
  pub count : ℕ

abbrev pub scan_of : List ℕ → ℕ → Scan
scan_of w c = record { words = w; count = c }

-- the vertex at place i of the order
abbrev pub at : Scan → ℕ → ℕ
at s i = get_or s.words i 0

-- the vertex and the edge that q was reached by
abbrev pub parent_of : Scan → ℕ → ℕ
parent_of s q = get_or s.words (64 + q) 0

abbrev pub edge_to : Scan → ℕ → ℕ
edge_to s q = get_or s.words (128 + q) 0

-- whether q was reached
abbrev pub reached_yet : Scan → ℕ → Bool
reached_yet s q = eqb (get_or s.words (192 + q) 0) 1

-- vertex q is reached, from p by edge g
unfoldable pub marked : ℕ → ℕ → ℕ → Scan → Scan
marked p g q s = record {
  words = set (set (set (set s.words s.count q) (64 + q) p) (128 + q) g) (192 + q) 1;
  count = s.count + 1;
}

-- the same where it was not reached before
unfoldable pub reached : ℕ → ℕ → ℕ → Scan → Scan
reached p g q s = pick (reached_yet s q) s (marked p g q s)

-- whether an edge in this state can be passed: 0 undecided, 1 disconnected (document 01: shut), 2 connected (open)
unfoldable pub passes : Bool → ℕ → Bool
passes true x = not (eqb x 1)
passes false x = eqb x 2

-- the edges, their states, and whether an undecided one counts as open
pub record Graph : Type 0 where
  pub ends : List (List ℕ)
  pub state : List ℕ
  pub potential : Bool

abbrev pub graph : List (List ℕ) → List ℕ → Bool → Graph
graph es st po = record { ends = es; state = st; potential = po }

abbrev pub end_a : Graph → ℕ → ℕ
end_a e g = get_or (get_or e.ends g []) 0 0

abbrev pub end_b : Graph → ℕ → ℕ
end_b e g = get_or (get_or e.ends g []) 1 0

abbrev pub is_open : Graph → ℕ → Bool
is_open e g = passes e.potential (get_or e.state g 0)

-- edge g, seen from vertex p
unfoldable pub visited : Graph → ℕ → ℕ → Scan → Scan
visited e p g s =
    pick (is_open e g)
    (pick (eqb (end_a e g) p) (reached p g (end_b e g) s)
    (pick (eqb (end_b e g) p) (reached p g (end_a e g) s) s))
    s

-- every edge in order, seen from vertex p
abbrev pub walked : Graph → ℕ → ℕ → Scan → Scan
walked e edges p s = iter (visited e p) edges s

-- the vertex at place h of the order, if that many were reached
unfoldable pub popped : Graph → ℕ → ℕ → Scan → Scan
popped e edges h s = pick (ltb h s.count) (walked e edges (at s h) s) s

-- the loop over the order: each vertex is at one place below the number of vertices
abbrev pub drained : Graph → ℕ → ℕ → Scan → Scan
drained e edges vertices s = iter (popped e edges) vertices s

-- nothing is reached yet
unfoldable pub blank : Scan
blank = record { words = replicate 256 0; count = 0 }

-- all that is reached from a vertex, in arrays that were lent
unfoldable pub searched_on : Graph → ℕ → ℕ → ℕ → Scan → Scan
searched_on e edges vertices start s = drained e edges vertices (reached start 0 start s)

abbrev pub searched : Graph → ℕ → ℕ → ℕ → Scan
searched e edges vertices start = searched_on e edges vertices start blank
