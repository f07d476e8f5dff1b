use mathlib.Core.Path.{◌≡◌, refl, sym, ap, ap₂, subst, ◌∙◌}
use Prim.Native.Nat.{ℕ, ◌≤◌, ◌<◌, ◌+◌, ◌-◌, ◌*◌, ◌/◌, ◌%◌}
use native.Mathlib.Omega.{arith}
use lib.ListN.{length, length-set, get_or, set, replicate}
use mathlib.Core.List.{List, ◌∷◌, []}
use Rattle.byte_calls.specs.Layout.{ends_at, ends_in, state_in, plan_in, reasons_in, reason_in, reason_word_in, cursor_in, log_in, buffer_in}
use Rattle.base.specs.Bytes.{words_in}
use Rattle.byte_calls.proofs.Filling.{ends_more, filled_more, read_words_in, cap_most, cap_less}
use Rattle.base.specs.Iter.{iter}
use Rattle.base.proofs.Loop.{iter_zero, iter_more, iter_done}
use Rattle.byte_calls.proofs.decode.read_edges.Given as goal

abbrev pub invariant-loop-g : goal.invariant-loop-g
invariant-loop-g l = l.table ≡ iter (λ g t. set t g (ends_at l.state g)) l.g (replicate 128 (0 ∷ 0 ∷ []))
