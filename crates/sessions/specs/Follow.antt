-- The lines of a text as the lines of crate calls, and what these print as bytes.
use Rattle.std.specs.Prelude.{List, [], ◌∷◌, ◌++◌, ℕ, eqb, pos, replicate}
use Rattle.base.specs.Iter.{pick}
use Rattle.base.specs.Range.{in_range}
use Rattle.division.specs.Plan.{Plan}
use Rattle.refusals.specs.Calls.{lit_given}
use Rattle.calls.specs.Calls as calls
use Rattle.calls.specs.Lines as lines
use Rattle.text.specs.declared.Line.{Line}
use Rattle.text.specs.declared.Line.TheVariants.{O, P, G, «V», I, N, U, R, RLast, Malformed}
use Rattle.text.specs.Lines.{read_line}
use Rattle.text_writer.specs.Written.{answer_line}

-- the bytes of a line that crate calls prints as numbers
unfoldable pub bytes_of : List ℕ → List ℕ
bytes_of [] = []
bytes_of (k ∷ ns) = answer_line (pick (eqb k 0) 67 (pick (eqb k 1) 88 (pick (eqb k 2) 76 (pick (eqb k 3) 82 69)))) ns

-- the bytes of printed lines, the newest first in the list
unfoldable pub said : List (List ℕ) → List ℕ
said [] = []
said (l ∷ ls) = said ls ++ bytes_of l

-- a line of the text as a line of crate calls
unfoldable pub follow : Plan → Line → lines.Desk → lines.Desk
follow d («V» v c) a = lines.obey d (lines.value v c) a
follow d I a = lines.obey d lines.init a
follow d (N lit p) a = lines.obey d (pick (in_range (pos 0) p) (lines.told (lit_given lit)) (lines.only (lit_given lit))) a
follow d (U lit) a = lines.obey d (lines.back (lit_given lit)) a
follow d (R lit) a = lines.obey d (lines.why (lit_given lit)) a
follow d RLast a = lines.obey d lines.last a
follow d (O s e) a = a
follow d (P w k n) a = a
follow d (G u v l) a = a
follow d Malformed a = a

-- lines of the text, in order
unfoldable pub follow_all : Plan → List (List ℕ) → lines.Desk → lines.Desk
follow_all d [] a = a
follow_all d (l ∷ ls) a = follow_all d ls (follow d (read_line l) a)

-- what the lines of crate calls begin with: a table of 4096 zeros, as the program has it
abbrev pub begin : lines.Desk
begin = record { world = calls.built; table = replicate 4096 0; printed = [] }
