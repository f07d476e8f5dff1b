-- Document 02, request 3: the text of a line, "lowest pen, pens in the region, heads, greatest lower bound, least upper
-- bound".
use Rattle.std.specs.Prelude.{ℕ, ◌-◌, List, [], ◌∷◌, ◌++◌, eqb, length, replicate}
use Rattle.base.specs.Iter.{pick}
use Rattle.text.specs.Fields.{newline}
use Rattle.text_writer.specs.Digits.{digits}

abbrev pub space : ℕ
space = 32

abbrev pub hyphen : ℕ
hyphen = 45

-- "right-aligned with spaces"
unfoldable pub field : ℕ → List ℕ → List ℕ
field width text = replicate (width - length text) space ++ text

-- "An unlimited upper bound prints as `-`."
unfoldable pub upper_text : ℕ → List ℕ
upper_text x = pick (eqb x 2147483647) (hyphen ∷ []) (digits x)

-- "lowest pen, pens in the region", "Widths are 4, 4"
unfoldable pub head_text : ℕ → ℕ → List ℕ
head_text lowest count = field 4 (digits lowest) ++ field 4 (digits count)

-- "heads, greatest lower bound, least upper bound", "10, 10 and 10"
unfoldable pub numbers_text : ℕ → ℕ → ℕ → List ℕ
numbers_text weight lower upper = field 10 (digits weight) ++ (field 10 (digits lower) ++ field 10 (upper_text upper))

-- "then a newline"
unfoldable pub line : ℕ → ℕ → ℕ → ℕ → ℕ → List ℕ
line lowest count weight lower upper = head_text lowest count ++ (numbers_text weight lower upper ++ (newline ∷ []))
