-- Lines of the order's own examples, by evaluation.
use mathlib.Core.Path.{◌≡◌, refl}
use mathlib.Core.List.{List, [], ◌∷◌}
use mathlib.Core.Bool.{true, false}
use Prim.Native.Nat.{ℕ}
use lib.IntN.{pos, negsuc}
use Rattle.base.specs.Iter.{pick}
use Rattle.text.specs.declared.Line.TheVariants.{O, P, G, «V», I, N, U, RLast, Malformed}
use Rattle.text.specs.Fields.{split, front, lines_of}
use Rattle.text.specs.Number.{none, all_digits, decimal, digits_field, sized, field_of, number_of}
use Rattle.text.specs.Lines.{all_numbers, seen_of, within, shape_o, shape_p, shape_g, shape_v, shape_i, shape_n, shape_u, shape_r, by_letter, asks_last, shaped, read_line}
use Rattle.text.specs.Input.{in_order, well_formed}

-- every definition that reading a line or an input rests on, under one name
unfoldable reading : Unit {0}
unfolding well_formed in_order lines_of read_line asks_last shaped split front all_numbers seen_of by_letter shape_o shape_p shape_g shape_v shape_i shape_n shape_u shape_r within field_of sized digits_field all_digits decimal number_of none pick
reading = tt

-- `O`, 0, 1
pub options : read_line (79 ∷ 9 ∷ 48 ∷ 9 ∷ 49 ∷ []) ≡ O false true
unfolding reading
options = refl

-- `P`, 3, 2, 3, 7, 0: two sizes and a literal
pub vertex : read_line (80 ∷ 9 ∷ 51 ∷ 9 ∷ 50 ∷ 9 ∷ 51 ∷ 9 ∷ 55 ∷ 9 ∷ 48 ∷ []) ≡ P (pos 3) 2 3
unfolding reading
vertex = refl

-- P alone: the example of refusal 17
pub vertex_alone : read_line (80 ∷ []) ≡ Malformed
unfolding reading
vertex_alone = refl

-- `G`, 0, 1, 4
pub edge : read_line (71 ∷ 9 ∷ 48 ∷ 9 ∷ 49 ∷ 9 ∷ 52 ∷ []) ≡ G (pos 0) (pos 1) (pos 4)
unfolding reading
edge = refl

-- the largest variable and code
pub code_four : read_line (86 ∷ 9 ∷ 52 ∷ 48 ∷ 57 ∷ 53 ∷ 9 ∷ 52 ∷ []) ≡ «V» 4095 4
unfolding reading
code_four = refl

-- a code of 5
pub code_five : read_line (86 ∷ 9 ∷ 48 ∷ 9 ∷ 53 ∷ []) ≡ Malformed
unfolding reading
code_five = refl

-- `I`
pub initialise : read_line (73 ∷ []) ≡ I
unfolding reading
initialise = refl

-- `N`, 5, -1
pub pending : read_line (78 ∷ 9 ∷ 53 ∷ 9 ∷ 45 ∷ 49 ∷ []) ≡ N (pos 5) (negsuc 0)
unfolding reading
pending = refl

-- `U`, -0
pub undo : read_line (85 ∷ 9 ∷ 45 ∷ 48 ∷ []) ≡ U (pos 0)
unfolding reading
undo = refl

-- `R`, `-`
pub last_list : read_line (82 ∷ 9 ∷ 45 ∷ []) ≡ RLast
unfolding reading
last_list = refl

-- a trailing tab
pub trailing_tab : read_line (82 ∷ 9 ∷ 48 ∷ 9 ∷ []) ≡ Malformed
unfolding reading
trailing_tab = refl

-- the input of example G
unfoldable pub example_g : List ℕ
example_g = 79 ∷ 9 ∷ 48 ∷ 9 ∷ 48 ∷ 10 ∷ 80 ∷ 9 ∷ 51 ∷ 9 ∷ 50 ∷ 9 ∷ 51 ∷ 9 ∷ 55 ∷ 9 ∷ 48 ∷ 10 ∷ 80 ∷ 9 ∷ 52 ∷ 9 ∷ 50 ∷ 9 ∷ 52 ∷ 9 ∷ 55 ∷ 9 ∷ 50 ∷ 10 ∷ 71 ∷ 9 ∷ 48 ∷ 9 ∷ 49 ∷ 9 ∷ 52 ∷ 10 ∷ 73 ∷ 10 ∷ 78 ∷ 9 ∷ 48 ∷ 9 ∷ 48 ∷ 10 ∷ 78 ∷ 9 ∷ 52 ∷ 9 ∷ 48 ∷ 10 ∷ 82 ∷ 9 ∷ 45 ∷ 10 ∷ 85 ∷ 9 ∷ 52 ∷ 10 ∷ 85 ∷ 9 ∷ 48 ∷ 10 ∷ 78 ∷ 9 ∷ 53 ∷ 9 ∷ 48 ∷ 10 ∷ 82 ∷ 9 ∷ 48 ∷ 10 ∷ []

pub example_g_well : well_formed example_g ≡ true
unfolding example_g reading
example_g_well = refl

-- P after I
unfoldable pub late_vertex : List ℕ
late_vertex = 73 ∷ 10 ∷ 80 ∷ 9 ∷ 49 ∷ 9 ∷ 48 ∷ []

pub late_vertex_refused : well_formed late_vertex ≡ false
unfolding late_vertex reading
late_vertex_refused = refl
