-- "A number is 1 to 9 digits, a minus before it allowed."
use Rattle.std.specs.Prelude.{List, [], ◌∷◌, Bool, true, false, ℕ, ◌+◌, ◌-◌, ◌*◌, ℤ, pos, neg_ℤ, leb, eqb, length, Option, None, Some}
use Rattle.base.specs.Iter.{pick}
use Rattle.text.specs.declared.Field.{Field}

-- every byte is a digit
unfoldable pub all_digits : List ℕ → Bool
all_digits [] = true
all_digits (b ∷ l) = pick (leb 48 b) (pick (leb b 57) (all_digits l) false) false

-- the number that digits are, in base ten, after those that made v
unfoldable pub decimal : ℕ → List ℕ → ℕ
decimal v [] = v
decimal v (b ∷ l) = decimal (v * 10 + (b - 48)) l

-- what is no number
unfoldable pub none : Field
none = record { ok = false; minus = false; size = 0 }

-- digits, however many, after those that made v
unfoldable pub digits_field : Bool → ℕ → List ℕ → Field
digits_field minus v l = pick (all_digits l) (record { ok = true; minus = minus; size = decimal v l }) none

-- 1 to 9 of them
unfoldable pub sized : Bool → List ℕ → Field
sized minus l = pick (leb 1 (length l)) (pick (leb (length l) 9) (digits_field minus 0 l) none) none

-- a field, with or without a minus
unfoldable pub field_of : List ℕ → Field
field_of [] = none
field_of (b ∷ l) = pick (eqb b 45) (sized true l) (sized false (b ∷ l))

-- its value; 0 for what is no number
unfoldable pub number_of : Field → ℤ
number_of f = pick f.minus (neg_ℤ (pos f.size)) (pos f.size)

unfoldable pub read_number : List ℕ → Option ℤ
read_number l = pick (field_of l).ok (Some (number_of (field_of l))) None
