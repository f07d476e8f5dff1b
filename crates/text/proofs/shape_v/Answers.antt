use Rattle.std.proofs.Common.{arith, sym}
use Rattle.text.proofs.Shapes.{within_size}
use Rattle.text.proofs.shape_v.Goals as goal

pub overflow_cast-result : goal.overflow_cast-result
overflow_cast-result c =
    let h = within_size 4095 c.args.s.a (sym c.if-not-is_within.ensures) in
    record { fits = omega arith }

pub overflow_cast-result-2 : goal.overflow_cast-result-2
overflow_cast-result-2 c =
    let h = within_size 4 c.args.s.b (sym c.if-not-is_within-2.ensures) in
    record { fits = omega arith }
