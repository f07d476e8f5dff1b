use Rattle.std.proofs.Common.{arith, sym, ◌∙◌}
use Rattle.text.proofs.Runs.{too_few, too_many, enough}
use Rattle.text.proofs.read_sized.Goals as goal
use Rattle.text.proofs.read_sized.Goals.{then-n-lt1-via-then-n-lt1, then-n-lt1-via-else-n-lt1+then-n-gt9}

pub returns-then-n-lt1 : goal.returns-then-n-lt1
returns-then-n-lt1 c =
    let a = c.args in
    elim c.then-n-lt1.branch [
      | then-n-lt1-via-then-n-lt1 w ↦ c.nothing.ensures ∙ sym (too_few a.minus a.s.now a.from w.if-n-lt1.true)
      | then-n-lt1-via-else-n-lt1+then-n-gt9 w ↦ c.nothing.ensures ∙ sym (too_many a.minus a.s.now a.from w.if-n-gt9.true)
    ]

pub returns : goal.returns
returns c =
    let a = c.args in
    c.read_digits.ensures ∙ sym (enough a.minus a.s.now a.from (omega arith) c.if-n-gt9.false)
