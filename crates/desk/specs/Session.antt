-- The whole program (document 01, "Text lines"): the bytes of its output, for the bytes of its input.
use Rattle.std.specs.Prelude.{List, [], ◌∷◌, ◌++◌, ℕ, eqb, drop, replicate}
use Rattle.base.specs.Iter.{pick}
use Rattle.base.specs.Refusal.{number_or_0}
use Rattle.undo_log.specs.declared.Cursor.{Cursor}
use Rattle.text.specs.Fields.{lines_of}
use Rattle.text.specs.Lines.{read_line}
use Rattle.text_writer.specs.Written.{answer_line}
use Rattle.graph_division.specs.declared.GraphDivision.{GraphDivision}
use Rattle.desk.specs.Start.{started}
use Rattle.desk.specs.Obey.{Desk, desk, obeyed}

-- before the first call: nothing noted, and every variable that a line can name unset. The log has room for every plan.
unfoldable pub at_first : GraphDivision → Desk
at_first s = desk s (record { used = 0; standing = 0 }) (replicate 4096 0) (replicate 4352 0)

-- what lines print, one after another
unfoldable pub spoken : List (List ℕ) → Desk → List ℕ
spoken [] d = []
spoken (l ∷ ls) d = let t = obeyed (read_line l) d in t.bytes ++ spoken ls t.desk

-- "After 1 to 6 or 17 the program ends": a malformed input and a plan that is refused print the number, any other input what its lines past the plan's do
unfoldable pub session : List ℕ → List ℕ
session input =
    let s = started input in
    pick (eqb (number_or_0 s.refusal) 0) (spoken (lines_of (drop s.calls_at input)) (at_first s.state)) (answer_line 69 (number_or_0 s.refusal ∷ []))
