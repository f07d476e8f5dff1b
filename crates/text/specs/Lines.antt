-- The shape of one line: its letter, and the numbers that follow, parted by tabs.
use Rattle.std.specs.Prelude.{List, [], ◌∷◌, map, Bool, true, false, ℕ, ◌-◌, ℤ, pos, leb, eqb, length, get_or, drop}
use Rattle.std.specs.Int.Signed.{le_z}
use Rattle.base.specs.Iter.{pick}
use Rattle.text.specs.declared.Field.{Field}
use Rattle.text.specs.declared.Seen.{Seen}
use Rattle.text.specs.declared.Line.{Line}
use Rattle.text.specs.declared.Line.TheVariants.{O, P, G, «V», I, N, U, R, RLast, Malformed}
use Rattle.text.specs.Fields.{tab, split}
use Rattle.text.specs.Number.{none, field_of, number_of}

-- every field is a number
unfoldable pub all_numbers : List Field → Bool
all_numbers [] = true
all_numbers (f ∷ fs) = pick f.ok (all_numbers fs) false

-- what a shape goes by: whether all are numbers, how many there are, and the first three
unfoldable pub seen_of : List Field → Seen
seen_of fs = record { ok = all_numbers fs; count = length fs; a = get_or fs 0 none; b = get_or fs 1 none; c = get_or fs 2 none }

-- a number from 0 to most; a minus before 0 changes nothing
unfoldable pub within : ℕ → Field → Bool
within most f = pick (le_z (pos 0) (number_of f)) (le_z (number_of f) (pos most)) false

-- "O: same-size, extra-walls (0 or 1)"
unfoldable pub shape_o : Seen → Line
shape_o s =
    pick (eqb s.count 2)
    (pick (within 1 s.a)
    (pick (within 1 s.b) (O (eqb s.a.size 1) (eqb s.b.size 1)) Malformed)
    Malformed)
    Malformed

-- "P: weight, k, sizes, literals"; k below 0 and fewer than k sizes are malformed. How many numbers follow k is kept.
unfoldable pub shape_p : Seen → Line
shape_p s =
    pick (leb 2 s.count)
    (pick (within (s.count - 2) s.b) (P (number_of s.a) s.b.size (s.count - 2)) Malformed)
    Malformed

-- "G: pen, pen, literal"
unfoldable pub shape_g : Seen → Line
shape_g s = pick (eqb s.count 3) (G (number_of s.a) (number_of s.b) (number_of s.c)) Malformed

-- "V: variable, code"; "V takes variable 0 to 4095 and code 0 to 4"
unfoldable pub shape_v : Seen → Line
shape_v s =
    pick (eqb s.count 2)
    (pick (within 4095 s.a) (pick (within 4 s.b) («V» s.a.size s.b.size) Malformed) Malformed)
    Malformed

-- "I"
unfoldable pub shape_i : Seen → Line
shape_i s = pick (eqb s.count 0) I Malformed

-- "N: literal, pending"
unfoldable pub shape_n : Seen → Line
shape_n s = pick (eqb s.count 2) (N (number_of s.a) (number_of s.b)) Malformed

-- "U: literal"
unfoldable pub shape_u : Seen → Line
shape_u s = pick (eqb s.count 1) (U (number_of s.a)) Malformed

-- "R: literal", the other form is `asks_last`
unfoldable pub shape_r : Seen → Line
shape_r s = pick (eqb s.count 1) (R (number_of s.a)) Malformed

-- by the letter: O, P, G, V, I, N, U, R
unfoldable pub by_letter : ℕ → Seen → Line
by_letter letter s =
    pick (eqb letter 79) (shape_o s)
    (pick (eqb letter 80) (shape_p s)
    (pick (eqb letter 71) (shape_g s)
    (pick (eqb letter 86) (shape_v s)
    (pick (eqb letter 73) (shape_i s)
    (pick (eqb letter 78) (shape_n s)
    (pick (eqb letter 85) (shape_u s)
    (pick (eqb letter 82) (shape_r s)
    Malformed)))))))

-- the first field is the letter, one byte, and each other one a number
unfoldable pub shaped : List (List ℕ) → Line
shaped [] = Malformed
shaped (f ∷ fs) =
    pick (eqb (length f) 1)
    (pick (all_numbers (map field_of fs)) (by_letter (get_or f 0 0) (seen_of (map field_of fs))) Malformed)
    Malformed

-- "R: literal or `-`": the line `R`, a tab, `-`
unfoldable pub asks_last : List ℕ → Bool
asks_last l =
    pick (eqb (length l) 3)
    (pick (eqb (get_or l 0 0) 82) (pick (eqb (get_or l 1 0) tab) (eqb (get_or l 2 0) 45) false) false)
    false

unfoldable pub read_line : List ℕ → Line
read_line l = pick (asks_last l) RLast (shaped (split tab l))

-- all but the first
unfoldable pub rest : List (List ℕ) → List (List ℕ)
rest [] = []
rest (f ∷ fs) = fs

-- the numbers of a line, in their order; a field that is no number counts as 0
unfoldable pub numbers_of : List ℕ → List ℤ
numbers_of l = map number_of (map field_of (rest (split tab l)))

-- from number `from` on, the first after the letter being number 0
unfoldable pub numbers_from : ℕ → List ℕ → List ℤ
numbers_from from l = drop from (numbers_of l)

-- xs over the first entries of a buffer, as many as fit; the others keep what they held
unfoldable pub over : List ℤ → List ℤ → List ℤ
over [] out = out
over (x ∷ xs) [] = []
over (x ∷ xs) (y ∷ out) = x ∷ over xs out
