-- "Any other shape is malformed, as are .. O past the first line, and P or G after V, I, N, U or R": the whole input.
use Rattle.std.specs.Prelude.{List, [], ◌∷◌, Bool, true, false, not, ℕ, leb, length}
use Rattle.base.specs.Iter.{pick}
use Rattle.text.specs.declared.Line.{Line}
use Rattle.text.specs.declared.Line.TheVariants.{O, P, G, «V», I, N, U, R, RLast, Malformed}
use Rattle.text.specs.Fields.{lines_of}
use Rattle.text.specs.Lines.{read_line}

-- whether a line may stand here: O only as the first line, P and G only before any V, I, N, U or R
abbrev pub admitted : Bool → Bool → Line → Bool
admitted first called (O s e) = first
admitted first called (P w k n) = not called
admitted first called (G u v l) = not called
admitted first called («V» v c) = true
admitted first called I = true
admitted first called (N l p) = true
admitted first called (U l) = true
admitted first called (R l) = true
admitted first called RLast = true
admitted first called Malformed = false

-- whether the plan's lines have ended with this one or before: called says whether before
abbrev pub calls : Bool → Line → Bool
calls called (O s e) = called
calls called (P w k n) = called
calls called (G u v l) = called
calls called («V» v c) = true
calls called I = true
calls called (N l p) = true
calls called (U l) = true
calls called (R l) = true
calls called RLast = true
calls called Malformed = true

-- lines that are well formed and in order
unfoldable pub in_order : Bool → Bool → List (List ℕ) → Bool
in_order first called [] = true
in_order first called (l ∷ ls) = pick (admitted first called (read_line l)) (in_order false (calls called (read_line l)) ls) false

-- an input of at most 1 MiB (a longer one is malformed) whose lines are; the empty one is well formed
unfoldable pub well_formed : List ℕ → Bool
well_formed input = pick (leb (length input) 1048576) (in_order true false (lines_of input)) false
