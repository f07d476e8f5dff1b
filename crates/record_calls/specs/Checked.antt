-- The calls on records: those of graph_division's specs, behind the plan's own test. They load the log into 4352 words, and push what
-- these words got on the lent log; that this is enough is known of a plan that passes its own test, and of no other.
use Rattle.std.specs.Prelude.{List, ℕ, ℤ}
use Rattle.base.specs.Iter.{pick}
use Rattle.undo_log.specs.declared.Cursor.{Cursor}
use Rattle.plan.specs.Check.{plan_bad}
use Rattle.graph_division.specs.declared.GraphDivision.{GraphDivision}
use Rattle.graph_division.specs.declared.Outcome.{Outcome}
use Rattle.graph_division.specs.declared.Answer.TheVariants.{Refused}
use Rattle.graph_division.specs.Calls.{Called, called, refuse, propagated, undone, Fetched, fetched, reason_fetched, last_fetched}
use Rattle.graph_division.specs.Initialize.{initialized}
use Rattle.graph_division.specs.Runs.{Query, asked}

-- x, or `away` where the state's plan fails its own test
unfoldable pub checked : {A : Type 0} → GraphDivision → A → A → A
checked s away x = pick (plan_bad s.plan s.edges.ends) away x

abbrev pub checked_initialized : GraphDivision → Cursor → List ℕ → List ℕ → List ℕ → Called
checked_initialized s c t log list = checked s (called (refuse 7 s c) t list log) (initialized s c t log list)

abbrev pub checked_propagated : GraphDivision → Cursor → ℤ → ℤ → List ℕ → List ℕ → List ℕ → Called
checked_propagated s c lit pending t list log = checked s (called (refuse 7 s c) t list log) (propagated s c lit pending t list log)

abbrev pub checked_undone : GraphDivision → Cursor → ℤ → List ℕ → Outcome
checked_undone s c lit log = checked s (refuse 7 s c) (undone s c lit log)

abbrev pub checked_reason : GraphDivision → Cursor → List ℕ → ℤ → List ℕ → Fetched
checked_reason s c log lit b = checked s (fetched (Refused 7) b) (reason_fetched s c log lit b)

abbrev pub checked_last : GraphDivision → Cursor → List ℕ → List ℕ → Fetched
checked_last s c log b = checked s (fetched (Refused 7) b) (last_fetched s c log b)

abbrev pub checked_asked : GraphDivision → Cursor → List ℕ → Query → List ℕ → Fetched
checked_asked s c log q b = checked s (fetched (Refused 7) b) (asked s c log q b)
