use mathlib.Core.Path.{ap, ◌∙◌}
use Prim.Native.Nat.{ℕ, ◌-◌}
use native.Mathlib.Omega.{arith}
use Rattle.base.specs.Bytes.{put_longs}
use Rattle.byte_calls.specs.Stores.{put_log}
use Rattle.byte_calls.proofs.Filling.{capped_min, none_put}
use Rattle.byte_calls.proofs.store.store_log.Goals as goal

pub returns-then-from-end : goal.returns-then-from-end
unfolding put_log
returns-then-from-end c = c.write_longs.ensures ∙ ap (λ (k : ℕ). put_longs c.args.records.now c.args.from (k - c.args.from) c.args.bytes.now) (capped_min _ _ _ c.min-end.ensures)

pub returns-else-from-end : goal.returns-else-from-end
unfolding put_log
returns-else-from-end c = none_put c.args.records.now c.args.from _ c.args.bytes.now (omega (arith, capped_min _ _ _ c.min-end.ensures))
