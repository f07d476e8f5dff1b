-- Document 01: "If an answer is an enum, a definition gives this paper's number and values for each of its cases."
use Rattle.std.specs.Prelude.{Bool, true, false, List, [], ℕ, take}
use Rattle.graph_division.specs.declared.Answer.{Answer}
use Rattle.graph_division.specs.declared.Answer.TheVariants.{Consistent, Conflict, Noted, Undone, Reason, Run, Page, Refused}

-- the number of the refusal, 0 for a call that is accepted
unfoldable pub number_of : Answer → ℕ
number_of (Consistent handed) = 0
number_of Conflict = 0
number_of Noted = 0
number_of Undone = 0
number_of (Reason len) = 0
number_of (Run len) = 0
number_of (Page len) = 0
number_of (Refused number) = number

-- what the answer gives, where l is the list or the buffer that the call was lent, after it: the literals handed on,
-- those of the reason, the numbers of the run's edges, or the bytes of the page
unfoldable pub values_of : Answer → List ℕ → List ℕ
values_of (Consistent handed) l = take handed l
values_of Conflict l = []
values_of Noted l = []
values_of Undone l = []
values_of (Reason len) l = take len l
values_of (Run len) l = take len l
values_of (Page len) l = take len l
values_of (Refused number) l = []

abbrev pub is_refused : Answer → Bool
is_refused (Consistent handed) = false
is_refused Conflict = false
is_refused Noted = false
is_refused Undone = false
is_refused (Reason len) = false
is_refused (Run len) = false
is_refused (Page len) = false
is_refused (Refused number) = true

abbrev pub is_consistent : Answer → Bool
is_consistent (Consistent handed) = true
is_consistent Conflict = false
is_consistent Noted = false
is_consistent Undone = false
is_consistent (Reason len) = false
is_consistent (Run len) = false
is_consistent (Page len) = false
is_consistent (Refused number) = false
