use mathlib.Core.Path.{◌≡◌, refl, sym, ap, ap₂, subst, ◌∙◌}
use Prim.Native.Nat.{ℕ, ◌≤◌, ◌<◌, ◌+◌, ◌-◌, ◌*◌, ◌/◌, ◌%◌}
use native.Mathlib.Omega.{arith}
use lib.ListN.{length, length-set, get_or, set, replicate}
use mathlib.Core.List.{List, ◌∷◌, []}
use Rattle.base.specs.Iter.{iter}
use Rattle.base.proofs.Loop.{iter_zero, iter_more, iter_done}
use Rattle.byte_calls.specs.Stores.{put_ends, put_edges}
use Rattle.byte_calls.proofs.Building.{put_ends_length}
use Rattle.byte_calls.proofs.build.store_edges.Given as goal

abbrev pub invariant-loop-g : goal.invariant-loop-g
invariant-loop-g l = l.state ≡ iter (put_ends l.table) l.g l.initial.state
