use Rattle.byte_calls.proofs.Coding.{code_back}
use mathlib.Core.Path.{◌≡◌, refl, sym, ap, ap₂, ◌∙◌}
use Rattle.byte_calls.specs.Codes.{fitted, answer_code, given_by}
use borrow.Author.Rules.{rules}
use Rattle.byte_calls.proofs.codes.code_of.Goals as goal

pub returns-in-Consistent : goal.returns-in-Consistent
unfolding answer_code
returns-in-Consistent c = code_back c.args.answer _ (c.count_code.ensures ∙ sym (ap answer_code (c.in-Consistent.is)))

pub returns-in-Conflict : goal.returns-in-Conflict
unfolding answer_code
returns-in-Conflict c = sym (ap answer_code (c.in-Conflict.is))

pub returns-in-Noted : goal.returns-in-Noted
unfolding answer_code
returns-in-Noted c = sym (ap answer_code (c.in-Noted.is))

pub returns-in-Undone : goal.returns-in-Undone
unfolding answer_code
returns-in-Undone c = sym (ap answer_code (c.in-Undone.is))

pub returns-in-Reason : goal.returns-in-Reason
unfolding answer_code
returns-in-Reason c = code_back c.args.answer _ (c.count_code-in-Reason.ensures ∙ sym (ap answer_code (c.in-Reason.is)))

pub returns-in-Run : goal.returns-in-Run
unfolding answer_code
returns-in-Run c = code_back c.args.answer _ (c.count_code-in-Run.ensures ∙ sym (ap answer_code (c.in-Run.is)))

pub returns-in-Page : goal.returns-in-Page
unfolding answer_code
returns-in-Page c = code_back c.args.answer _ (c.count_code-in-Page.ensures ∙ sym (ap answer_code (c.in-Page.is)))

pub returns-in-Refused : goal.returns-in-Refused
unfolding answer_code
returns-in-Refused c = code_back c.args.answer _ (c.refusal_code.ensures ∙ sym (ap answer_code (c.in-Refused.is)))
