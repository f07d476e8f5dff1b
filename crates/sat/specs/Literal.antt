-- Document 01, "Literal": variable v gives literal 2v, and 2v + 1 for its negation; literals run from 0 to 8191.
use Rattle.std.specs.Prelude.{◌≡◌, Bool, true, false, not, ℕ, ◌+◌, ◌-◌, ◌*◌, ◌/◌, ◌%◌, eqb, ℤ, pos, Option, None, Some}
use Rattle.base.specs.Iter.{pick}
use Rattle.base.specs.Range.{in_range, to_nat}
use Rattle.sat.specs.declared.Var.{Var}
use Rattle.sat.specs.declared.Lit.{Lit}

-- variable v gives literal 2v, and 2v + 1 for its negation. A variable is a u16, and so is its double: of a number past
-- document 01's variables the highest bit is lost.
unfoldable pub literal : ℕ → Bool → ℕ
literal v negated = 2 * (v % 32768) + pick negated 1 0

-- a literal knows its variable and its sign
abbrev pub variable : ℕ → ℕ
variable l = l / 2

abbrev pub is_negated : ℕ → Bool
is_negated l = eqb (l % 2) 1

abbrev pub is_positive : ℕ → Bool
is_positive l = eqb (l % 2) 0

abbrev pub sign : ℕ → ℕ
sign l = l % 2

-- the other literal of its variable: 2v + 1 for 2v, 2v for 2v + 1
unfoldable pub negate : ℕ → ℕ
negate l = pick (eqb (l % 2) 0) (l + 1) (l - 1)

-- the literal that a number from outside stands for, if it is one
unfoldable pub lit_of : ℤ → Option Lit
lit_of n = pick (in_range (pos 8191) n) (Some (record { 0 = to_nat n })) None

-- the variable that a number from outside stands for, if it is one
unfoldable pub var_of : ℤ → Option Var
var_of n = pick (in_range (pos 4095) n) (Some (record { 0 = to_nat n })) None

-- Document 01, "Valid division": literal 2v holds where variable v is true, 2v + 1 where it is false.
unfoldable pub value : (ℕ → Bool) → ℕ → Bool
value σ l = pick (eqb (l % 2) 0) (σ (l / 2)) (not (σ (l / 2)))

abbrev pub Holds : (ℕ → Bool) → ℕ → Type 0
Holds σ l = value σ l ≡ true
