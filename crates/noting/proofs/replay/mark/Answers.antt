use mathlib.Core.Path.{ap, ◌∙◌}
use Prim.Native.Nat.{ℕ, ◌/◌, ◌%◌}
use native.Mathlib.Omega.{arith}
use lib.Bits.{bit_or}
use lib.ListN.{get_or, set, length-set}
use Rattle.noting.specs.Following.{marks_of}
use Rattle.noting.proofs.Marks.{bit_of, mark_set}
use Rattle.noting.proofs.replay.mark.Goals as goal

pub returns-then-k-lt2176 : goal.returns-then-k-lt2176
returns-then-k-lt2176 c =
    let m = c.args.marks.now in
    let k = c.args.k in (
      ap (λ (w : ℕ). marks_of (set m (k / 64) (bit_or (get_or m (k / 64) 0) w))) (bit_of (k % 64) (omega arith)) ∙ mark_set m k c.if-k-lt2176.true c.requires,
      length-set m (k / 64) _ ∙ c.requires,
    )
