-- `on_bytes::build`: its number is `build_code` of specs/Host.antt; here stand the state's bytes after it.
use Rattle.std.specs.Prelude.{Bool, not, ◌||◌, List, ℕ, ltb, eqb, ℤ, pos, length}
use Rattle.base.specs.Range.{in_range}
use Rattle.builder.specs.Input.{refusal}
use Rattle.graph_division.specs.New.{built}
use Rattle.byte_calls.specs.After.{BytesAfter}

-- an option other than 0 counts as 1
abbrev pub is_on : ℤ → Bool
is_on o = not (in_range (pos 0) o)

-- 1 to 6, or 7 for a state that is shorter than its layout
unfoldable pub build_refused : List ℤ → ℕ → List ℤ → ℕ → List ℕ → Bool
build_refused vs n es m state = not (eqb (refusal vs n es m) 0) || ltb (length state) 133440

-- where it is not refused, they are those of the state that `GraphDivision::new` builds from the same numbers
abbrev pub BuiltIn : List ℤ → ℕ → List ℤ → ℕ → ℤ → ℤ → List ℕ → List ℕ → Type 0
BuiltIn vs n es m sameSize extraWalls before after = BytesAfter (build_refused vs n es m before) (built vs n es m (is_on sameSize) (is_on extraWalls)).state before after
