-- What the program prints for an answer (document 01, "Text lines").
use Rattle.std.specs.Prelude.{List, [], ◌∷◌, ℕ, Option, None, Some}
use Rattle.text_writer.specs.Written.{after, next, answer_line}
use Rattle.graph_division.specs.declared.Answer.{Answer}
use Rattle.graph_division.specs.declared.Answer.TheVariants.{Consistent, Conflict, Noted, Undone, Reason, Run, Page, Refused}
use Rattle.graph_division.specs.Answers.{number_of, values_of}

-- "C with handed-on literals, X conflict, L noted, R with a reason, E with a number; U accepted prints C". No line asks
-- for a run or a page.
unfoldable pub letter_of : Answer → ℕ
letter_of (Consistent handed) = 67
letter_of Conflict = 88
letter_of Noted = 76
letter_of Undone = 67
letter_of (Reason len) = 82
letter_of (Run len) = 82
letter_of (Page len) = 82
letter_of (Refused number) = 69

-- the numbers after the letter, where l is the list that the call was lent
unfoldable pub numbers_in : Answer → List ℕ → List ℕ
numbers_in (Consistent handed) l = values_of (Consistent handed) l
numbers_in Conflict l = []
numbers_in Noted l = []
numbers_in Undone l = []
numbers_in (Reason len) l = values_of (Reason len) l
numbers_in (Run len) l = values_of (Run len) l
numbers_in (Page len) l = values_of (Page len) l
numbers_in (Refused number) l = number ∷ []

unfoldable pub line_of : Answer → List ℕ → List ℕ
line_of a l = answer_line (letter_of a) (numbers_in a l)

-- how many bytes were written
unfoldable pub count_of : Option ℕ → ℕ
count_of (Some n) = n
count_of None = 0

-- a number of bytes, and the buffer that has them at its start
pub record Printed : Type 0 where
  pub count : ℕ
  pub out : List ℕ

abbrev pub written : ℕ → List ℕ → Printed
written n out = record { count = n; out = out }

-- bytes written into a buffer, which keeps what it held where they do not fit
unfoldable pub printing : List ℕ → List ℕ → Printed
printing bytes out = written (count_of (next out 0 bytes)) (after out 0 bytes)
