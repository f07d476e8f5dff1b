use Rattle.std.proofs.Common.{ℕ, ◌||◌, ◌+◌, ◌*◌, ◌/◌, ◌%◌, ◌∙◌, ap, arith, eqb, get_or}
use Rattle.noting.proofs.Forwards.{stands_none, stands_or}
use Rattle.noting.proofs.stands.variable_in.Goals as goal

pub loop-i-init : goal.loop-i-init
loop-i-init c = stands_none _ _

pub loop-i-preserved : goal.loop-i-preserved
loop-i-preserved c =
    let l = c.loop-i in
    let a = c.args in
    let w = get_or a.log.now l.i 0 % 4294967296 in
    ap (λ (x : ℕ). l.found || eqb (65536 * (w % 256) + w / 131072) x) c.from.ensures ∙ stands_or a.log.now a.x l.i l.found (omega arith) l.invariant
