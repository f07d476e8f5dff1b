-- The papers' numbers of the refusals: document 01, "Verdicts turned away", and "like each later new number, joins 01's table".
use Rattle.std.specs.Prelude.{ℕ, eqb, Option, None, Some}
use Rattle.base.specs.Iter.{pick}
use Rattle.base.specs.declared.refusal.Refusal.{Refusal}
use Rattle.base.specs.declared.refusal.Refusal.TheVariants.{TooMany, WeightOutside, SizeWrong, LitCountWrong, LitOutside, EndWrong, StateBad, AlreadyInitialized, UnknownLit, Standing, NotNewest, ZeroSize, NoneCurrent, NoReason, PathGone, LineMalformed, NoRun, PageShort}

abbrev pub number : Refusal → ℕ
number TooMany = 1
number WeightOutside = 2
number SizeWrong = 3
number LitCountWrong = 4
number LitOutside = 5
number EndWrong = 6
number StateBad = 7
number AlreadyInitialized = 8
number UnknownLit = 9
number Standing = 10
number NotNewest = 11
number ZeroSize = 13
number NoneCurrent = 14
number NoReason = 15
number PathGone = 16
number LineMalformed = 17
number NoRun = 18
number PageShort = 19

-- the number of the refusal that applies, 0 where none does
abbrev pub number_or_0 : Option Refusal → ℕ
number_or_0 None = 0
number_or_0 (Some r) = number r

-- the refusal with a number of the tables; any other number but 0 counts as 7
abbrev pub refusal_with : ℕ → Option Refusal
refusal_with n =
    pick (eqb n 0) None (Some
    (pick (eqb n 1) TooMany (pick (eqb n 2) WeightOutside (pick (eqb n 3) SizeWrong (pick (eqb n 4) LitCountWrong
    (pick (eqb n 5) LitOutside (pick (eqb n 6) EndWrong (pick (eqb n 8) AlreadyInitialized (pick (eqb n 9) UnknownLit
    (pick (eqb n 10) Standing (pick (eqb n 11) NotNewest (pick (eqb n 13) ZeroSize (pick (eqb n 14) NoneCurrent
    (pick (eqb n 15) NoReason (pick (eqb n 16) PathGone (pick (eqb n 17) LineMalformed (pick (eqb n 18) NoRun
    (pick (eqb n 19) PageShort StateBad))))))))))))))))))
