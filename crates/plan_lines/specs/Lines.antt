-- The plan's lines as the numbers that a plan is built from (document 01, "Text lines": O, P and G).
use Rattle.std.specs.Prelude.{Bool, true, false, List, [], ◌∷◌, ℕ, ◌+◌, ◌*◌, ◌-◌, ltb, leb, ℤ, pos, length, get_or, set, replicate}
use Rattle.base.specs.Iter.{iter, pick}
use Rattle.text.specs.declared.Line.{Line}
use Rattle.text.specs.declared.Line.TheVariants.{O, P, G, «V», I, N, U, R, RLast, Malformed}
use Rattle.text.specs.Fields.{lines_of}
use Rattle.text.specs.Lines.{read_line, numbers_from, over}
use Rattle.plan_lines.specs.declared.Counts.{Counts}

-- a count stops far past every limit
unfoldable pub one_more : ℕ → ℕ
one_more n = pick (ltb n 1000000) (n + 1) n

unfoldable pub as_number : ℕ → ℤ
as_number n = pick (ltb n 1000000) (pos n) (pos 1000000)

-- 32 numbers from place `at` on
unfoldable pub row_put : ℕ → List ℤ → List ℤ → List ℤ
row_put at xs vs = iter (λ j (l : List ℤ). set l (at + j) (get_or xs j (pos 0))) 32 vs

-- the line's numbers from number `from` on, as many as there are, and 0 in the other places
unfoldable pub numbers_put : List ℕ → ℕ → ℕ → List ℤ → List ℤ
numbers_put line from at vs = row_put at (over (numbers_from from line) (replicate 32 (pos 0))) vs

-- weight w, k sizes, and what is left of the n numbers after k is literals
unfoldable pub head_put : ℤ → ℕ → ℕ → ℕ → List ℤ → List ℤ
head_put w k n v vs = set (set (set vs (67 * v) w) (67 * v + 1) (as_number k)) (67 * v + 2) (as_number (n - k))

-- more than 32 sizes are refused, and their literals are not looked at
unfoldable pub lits_put : List ℕ → ℕ → ℕ → List ℤ → List ℤ
lits_put line k v vs = pick (leb k 32) (numbers_put line (2 + k) (67 * v + 35) vs) vs

-- a vertex past the array is only counted
unfoldable pub vertex_put : List ℕ → ℤ → ℕ → ℕ → ℕ → List ℤ → List ℤ
vertex_put line w k n v vs = pick (ltb v 64) (lits_put line k v (numbers_put line 2 (67 * v + 3) (head_put w k n v vs))) vs

unfoldable pub edge_put : ℤ → ℤ → ℤ → ℕ → List ℤ → List ℤ
edge_put u v l g es = pick (ltb g 128) (set (set (set es (3 * g) u) (3 * g + 1) v) (3 * g + 2) l) es

-- how much was read, and both arrays
pub record Draft : Type 0 where
  pub counts : Counts
  pub vertices : List ℤ
  pub edges : List ℤ

abbrev pub drafted : Counts → List ℤ → List ℤ → Draft
drafted c vs es = record { counts = c; vertices = vs; edges = es }

abbrev pub counts : ℕ → ℕ → Bool → Bool → Counts
counts n m s e = record { vertices = n; edges = m; same_size = s; extra_walls = e }

-- one line more; one that is none of O, P and G changes nothing
unfoldable pub taken : List ℕ → Line → Draft → Draft
taken line (O s e) d = drafted (counts d.counts.vertices d.counts.edges s e) d.vertices d.edges
taken line (P w k n) d =
    drafted
    (counts (one_more d.counts.vertices) d.counts.edges d.counts.same_size d.counts.extra_walls)
    (vertex_put line w k n d.counts.vertices d.vertices)
    d.edges
taken line (G u v l) d =
    drafted
    (counts d.counts.vertices (one_more d.counts.edges) d.counts.same_size d.counts.extra_walls)
    d.vertices
    (edge_put u v l d.counts.edges d.edges)
taken line («V» v c) d = d
taken line I d = d
taken line (N l p) d = d
taken line (U l) d = d
taken line (R l) d = d
taken line RLast d = d
taken line Malformed d = d

unfoldable pub is_plan_line : Line → Bool
is_plan_line (O s e) = true
is_plan_line (P w k n) = true
is_plan_line (G u v l) = true
is_plan_line («V» v c) = false
is_plan_line I = false
is_plan_line (N l p) = false
is_plan_line (U l) = false
is_plan_line (R l) = false
is_plan_line RLast = false
is_plan_line Malformed = false

-- and where the next line starts
pub record Reading : Type 0 where
  pub draft : Draft
  pub at : ℕ

abbrev pub reading_of : Counts → List ℤ → List ℤ → ℕ → Reading
reading_of c vs es at = record { draft = drafted c vs es; at = at }

-- where the line after one that ends at e starts: the input's end, if there is none
unfoldable pub next_line : ℕ → ℕ → ℕ
next_line e len = pick (ltb e len) (e + 1) len

-- the lines of an input of `len` bytes, up to the first that is none of O, P and G
unfoldable pub reading : ℕ → List (List ℕ) → Reading → Reading
reading len [] r = r
reading len (l ∷ ls) r =
    pick (is_plan_line (read_line l))
    (reading len ls (record { draft = taken l (read_line l) r.draft; at = next_line (r.at + length l) len }))
    r

-- "The plan is built at the first other letter or at the end": options off, where there is no O
unfoldable pub taken_lines : List ℕ → List ℤ → List ℤ → Reading
taken_lines input vs es = reading (length input) (lines_of input) (reading_of (counts 0 0 false false) vs es 0)
