-- What the code answers where a call of crate calls has an outcome.
use Rattle.std.specs.Prelude.{ℕ, length}
use Rattle.calls.specs.Calls as calls
use Rattle.graph_division.specs.declared.Answer.{Answer}
use Rattle.graph_division.specs.declared.Answer.TheVariants as answer

-- what the code answers for an answer of the definition, where n literals are handed on
unfoldable pub answer_for : calls.Answer → ℕ → Answer
answer_for calls.consistent n = answer.Consistent n
answer_for calls.conflicting n = answer.Conflict
answer_for calls.noted n = answer.Noted
answer_for calls.undone n = answer.Undone
answer_for (calls.refused m) n = answer.Refused m
answer_for (calls.reason ls) n = answer.Reason (length ls)
answer_for (calls.found_run gs) n = answer.Run (length gs)
answer_for (calls.printed_page bytes) n = answer.Page (length bytes)

unfoldable pub answer_of : calls.Outcome → Answer
answer_of o = answer_for o.answer (length o.handed)
