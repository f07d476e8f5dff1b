use mathlib.Core.Path.{◌≡◌, refl, sym, ap, ap₂, ◌∙◌}
use Prim.Native.Nat.{ℕ, ◌≤◌, ◌<◌, ◌+◌, ◌-◌, ◌*◌, ◌/◌, ◌%◌}
use native.Mathlib.Omega.{arith}
use Rattle.base.specs.Bytes.{word_at, long_at, put_half, put_word, put_long, put_halves, put_words, put_longs}
use Rattle.byte_calls.specs.Stores.{put_reason, put_reasons, put_last, put_noted, put_cursor, put_list, put_log}
use Rattle.base.proofs.Loop.{pick_yes, pick_no}
use lib.ListN.{length, length-set, get_or, set}
use Rattle.byte_calls.proofs.Filling.{cap_most, put_reason_idle, put_reason_length}
use Rattle.base.specs.Iter.{iter}
use Rattle.base.proofs.Loop.{iter_zero, iter_more, iter_done}
use Rattle.noting.specs.Words.{capped}
use Rattle.plan.specs.Words.{variables_of}
use Rattle.sweep.proofs.Next.{next_told, next_turn}
use borrow.Author.Rules.{rules}
use Rattle.byte_calls.proofs.store.store_reasons.Given as goal

abbrev pub invariant-loop-p : goal.invariant-loop-p
invariant-loop-p l = (l.p ≤ l.n) × (l.state ≡ iter (put_reason l.proposals) l.p l.initial.state) × (length l.state ≡ length l.initial.state)

abbrev pub decreases-loop-p : goal.decreases-loop-p
decreases-loop-p l = l.n - l.p
