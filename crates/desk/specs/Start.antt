-- The program's start (document 01, "Text lines"): "17 is answered before any building", and the plan is built of the first lines.
use Rattle.std.specs.Prelude.{false, List, ℕ, ℤ, pos, length, replicate, Some}
use Rattle.base.specs.Iter.{pick}
use Rattle.base.specs.declared.refusal.Refusal.TheVariants.{LineMalformed}
use Rattle.text.specs.Input.{well_formed}
use Rattle.plan_lines.specs.Lines.{Reading, taken_lines}
use Rattle.graph_division.specs.declared.Built.{Built}
use Rattle.graph_division.specs.New.{built}
use Rattle.desk.specs.declared.start.Started.{Started}

-- both arrays before any line
unfoldable pub no_vertices : List ℤ
no_vertices = replicate 4288 (pos 0)

unfoldable pub no_edges : List ℤ
no_edges = replicate 384 (pos 0)

unfoldable pub built_of : Reading → Built
built_of r =
    let c = r.draft.counts in
    built r.draft.vertices c.vertices r.draft.edges c.edges c.same_size c.extra_walls

unfoldable pub started_by : List ℕ → Started
started_by input =
    let r = taken_lines input no_vertices no_edges in
    record { refusal = (built_of r).refusal; state = (built_of r).state; calls_at = r.at }

-- nothing of a malformed input is read: the state is that of an empty plan, and no line follows
unfoldable pub malformed : ℕ → Started
malformed len = record { refusal = Some LineMalformed; state = (built no_vertices 0 no_edges 0 false false).state; calls_at = len }

unfoldable pub started : List ℕ → Started
started input = pick (well_formed input) (started_by input) (malformed (length input))
