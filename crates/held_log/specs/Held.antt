-- The undo log by value, as the calls' definitions have it: words, one a record, and a cursor.
use Rattle.std.specs.Prelude.{List, map, ℕ, replicate}
use Rattle.undo_log.specs.Log.{word_of}
use Rattle.lent_log.specs.Records.{no_record}
use Rattle.graph_division.specs.declared.Outcome.{Outcome}
use Rattle.graph_division.specs.Calls.{outcome}
use Rattle.held_log.specs.declared.UndoLog.{UndoLog}
use Rattle.held_log.specs.declared.Held.{Held}

-- no record in use, and nothing stands
unfoldable pub empty : UndoLog
empty = record { records = replicate 4352 no_record; cursor = record { used = 0; standing = 0 } }

abbrev pub words : UndoLog → List ℕ
words l = map word_of l.records

-- what a call gives, as an outcome of the flat calls
abbrev pub outcome_of : Held → Outcome
outcome_of h = outcome h.state h.log.cursor h.answer
