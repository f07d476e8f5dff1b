use Rattle.std.proofs.Common.{arith, refl, get_or}
use Rattle.text_writer.proofs.Putting.{run_step, run_done, tabbed_next_long, tabbed_long}
use Rattle.text_writer.proofs.write_all_tabbed.Goals as goal

pub loop-n-init : goal.loop-n-init
loop-n-init c = record { long = refl; place = refl; rest = refl }

pub write_tabbed-p-requires : goal.write_tabbed-p-requires
write_tabbed-p-requires c =
    let l = c.loop-n in
    let a = c.args in
    omega (arith, l.invariant.long, l.invariant.place, tabbed_next_long a.numbers.now l.n-index c.loop-n-test.true, tabbed_long (get_or a.numbers.now l.n-index 0))

pub loop-n-preserved : goal.loop-n-preserved
loop-n-preserved c =
    let l = c.loop-n in
    let a = c.args in
    let w = c.write_tabbed-p in
    run_step a.numbers.now a.buf.now a.at l.buf w.new.buf l.p w.result l.n-index c.loop-n-test.true (omega arith) w.ensures.0 w.ensures.1 l.invariant

pub returns : goal.returns
returns c =
    let l = c.loop-n in
    let a = c.args in
    run_done a.numbers.now a.buf.now a.at l.buf l.p l.n-index c.loop-n-test.false l.invariant
