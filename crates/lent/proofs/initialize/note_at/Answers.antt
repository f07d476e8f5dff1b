use Rattle.lent.proofs.Saved.{note_yes, note_no}
use borrow.Author.Rules.{rules}
use Rattle.lent.proofs.initialize.note_at.Goals as goal

pub returns-then-is_true : goal.returns-then-is_true
returns-then-is_true c = note_yes _ _ _ _ _ _ c.unique_lit.ensures c.is_true.ensures c.if-is_true.true _ _ c.lit_at.ensures c.note.ensures.0

pub returns : goal.returns
returns c = note_no _ _ _ _ _ _ c.unique_lit.ensures c.is_true.ensures c.if-is_true.false
