use mathlib.Core.Path.{ap}
use native.Mathlib.Omega.{arith}
use lib.ListN.{length}
use Rattle.text_writer.proofs.Decimals.{digits_small, digits_large_length, digits_few}
use Rattle.text_writer.proofs.count_digits.Goals as goal

pub loop-rest-init : goal.loop-rest-init
loop-rest-init c = omega arith

pub overflow_add-k : goal.overflow_add-k
overflow_add-k c =
    let a = c.args in
    let f = c.ranges.n.fits in
    omega (arith, digits_few 9 a.n (omega arith))

pub loop-rest-smaller : goal.loop-rest-smaller
loop-rest-smaller c = omega arith

pub loop-rest-preserved : goal.loop-rest-preserved
loop-rest-preserved c = omega (arith, digits_large_length c.loop-rest.rest c.loop-rest-test.true)

pub returns : goal.returns
returns c = omega (arith, ap length (digits_small c.loop-rest.rest c.loop-rest-test.false))
