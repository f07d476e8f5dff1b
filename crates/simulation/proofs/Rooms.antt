-- Where state, log and cursor represent a world, the room of a call depends on the lengths of the lent buffers alone.
use mathlib.Core.Path.{◌≡◌, ap}
use mathlib.Core.Bool.{Bool, true, false, not, ◌||◌}
use mathlib.Core.List.{List}
use Prim.Native.Nat.{ℕ}
use Rattle.undo_log.specs.declared.Cursor.{Cursor}
use Rattle.noting.specs.Buffers.{list_short, reason_short}
use Rattle.calls.specs.Calls.{World}
use Rattle.refusals.specs.Refusals.{state_bad}
use Rattle.refusals.specs.Calls.{table_room, state_room, fetch_room}
use Rattle.refusals.proofs.State.{valid_good}
use Rattle.graph_division.specs.declared.GraphDivision.{GraphDivision}
use Rattle.simulation.specs.Represents.{Represents}

module _ (s : GraphDivision) (log : List ℕ) (c : Cursor) (w : World) (r : Represents s log c w) where
  pub state_good : state_bad s.plan s.edges.ends s.noted log c ≡ false
  state_good = valid_good s.plan s.edges.ends s.noted log c r.proper r.valid

  pub state_room_lem : state_room s.plan s.edges.ends s.noted log c ≡ true
  unfolding state_room
  state_room_lem = ap not state_good

  pub table_room_lem : (n : ℕ) → table_room s.plan s.edges.ends s.noted n log c ≡ not (list_short s.plan n)
  unfolding table_room
  table_room_lem n = ap (λ (b : Bool). not (b || list_short s.plan n)) state_good

  pub fetch_room_lem : (n : ℕ) → fetch_room s.plan s.edges.ends s.noted n log c ≡ not (reason_short s.plan n)
  unfolding fetch_room
  fetch_room_lem n = ap (λ (b : Bool). not (b || reason_short s.plan n)) state_good
