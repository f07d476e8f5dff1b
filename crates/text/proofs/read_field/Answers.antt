use Rattle.std.proofs.Common.{arith, sym, ◌∙◌, length}
use borrow.Author.Tests.{eqb-true, eqb-false}
use Rattle.text.proofs.Runs.{field_empty, field_minus, field_plain}
use Rattle.text.proofs.read_field.Goals as goal

pub returns-then-is_empty : goal.returns-then-is_empty
returns-then-is_empty c = c.nothing.ensures ∙ sym (field_empty c.args.s.now (eqb-true _ _ (sym c.if-is_empty.ensures)))

pub returns-then-s-eq45 : goal.returns-then-s-eq45
returns-then-s-eq45 c = c.read_sized.ensures ∙ sym (field_minus c.args.s.now (omega (arith, eqb-false (length c.args.s.now) 0 (sym c.if-is_empty.ensures))) c.if-s-eq45.true)

pub returns : goal.returns
returns c = c.read_sized-2.ensures ∙ sym (field_plain c.args.s.now (omega (arith, eqb-false (length c.args.s.now) 0 (sym c.if-is_empty.ensures))) c.if-s-eq45.false)
