use mathlib.Core.Path.{◌≡◌, refl, sym, ap, ap₂, subst, ◌∙◌}
use Prim.Native.Nat.{ℕ, ◌≤◌, ◌<◌, ◌+◌, ◌-◌, ◌*◌, ◌/◌, ◌%◌}
use native.Mathlib.Omega.{arith}
use lib.ListN.{length, length-set, get_or, set, replicate}
use mathlib.Core.List.{List, ◌∷◌, []}
use borrow.Author.Rules.{rules}
use Rattle.byte_calls.specs.Stores.{put_ends}
use Rattle.byte_calls.proofs.build.store_ends.Goals as goal

pub bounds-state-g-2 : goal.bounds-state-g-2
bounds-state-g-2 c = simp length-set (omega arith)

pub returns : goal.returns
unfolding put_ends
returns c = search rules
