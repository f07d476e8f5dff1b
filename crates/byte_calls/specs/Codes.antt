-- Answers as numbers: how many literals there are, edges of a run, or bytes of a page, minus the number of a refusal,
-- -100 for a conflict and -101 for a literal only noted.
use Rattle.std.specs.Prelude.{Bool, true, false, ℕ, ℤ, pos, negsuc, neg_ℤ}
use Rattle.noting.specs.Words.{capped}
use Rattle.graph_division.specs.declared.Answer.{Answer}
use Rattle.graph_division.specs.declared.Answer.TheVariants.{Consistent, Conflict, Noted, Undone, Reason, Run, Page, Refused}

-- a number of 31 bits
unfoldable pub fitted : ℕ → ℕ
fitted n = capped n 2147483647

unfoldable pub answer_code : Answer → ℤ
answer_code (Consistent handed) = pos (fitted handed)
answer_code Conflict = negsuc 99
answer_code Noted = negsuc 100
answer_code Undone = pos 0
answer_code (Reason len) = pos (fitted len)
answer_code (Run len) = pos (fitted len)
answer_code (Page len) = pos (fitted len)
answer_code (Refused number) = neg_ℤ (pos (fitted number))

-- how many literals, edges of a run, or bytes of a page, the answer says are in the list or the buffer
abbrev pub given_by : Answer → ℕ
given_by (Consistent handed) = handed
given_by Conflict = 0
given_by Noted = 0
given_by Undone = 0
given_by (Reason len) = len
given_by (Run len) = len
given_by (Page len) = len
given_by (Refused number) = 0
