use native.Mathlib.Omega.{arith}
use Rattle.pages.specs.Lines.{figures_of}
use Rattle.pages.proofs.Fields.{lined_none, room_next, lined_next, lined_done}
use Rattle.pages.proofs.write_lines.Goals as goal

pub loop-r-init : goal.loop-r-init
loop-r-init c = lined_none _ _ _

pub write_region-at-requires : goal.write_region-at-requires
write_region-at-requires c =
    let a = c.args in
    let p = c.requires in
    let l = c.loop-r in
    let t = figures_of a.labels.now a.weights.now a.lowers.now a.uppers.now in
    let k = room_next t a.n a.page.now l.page l.at l.r (omega arith) p.1 l.invariant in
    (p.0, omega (arith, p.0), k)

pub loop-r-preserved : goal.loop-r-preserved
loop-r-preserved c =
    let l = c.loop-r in
    let a = c.args in
    let p = c.requires in
    let w = c.write_region-at.ensures in
    let t = figures_of a.labels.now a.weights.now a.lowers.now a.uppers.now in
    let next = lined_next t a.n a.page.now l.page l.at l.r (omega arith) p.1 l.invariant in
    next _ _ w.0 w.1 w.2

pub returns : goal.returns
returns c = lined_done _ _ _ _ _ _ c.loop-r-test.false c.loop-r.invariant
