-- A list that is written to a buffer.
use Rattle.std.specs.Prelude.{ℕ, ◌+◌, List, [], ◌∷◌, ltb, length, set}
use Rattle.base.specs.Iter.{pick}

-- a buffer, and the place where the next word goes
pub record Out : Type 0 where
  pub text : List ℕ
  pub place : ℕ

abbrev pub out_of : List ℕ → ℕ → Out
out_of t n = record { text = t; place = n }

-- one word more, if there is room
unfoldable pub pushed : ℕ → Out → Out
pushed x o = pick (ltb o.place (length o.text)) (out_of (set o.text o.place x) (o.place + 1)) o

-- the words of a list in order, as many as there is room for; all else stays
unfoldable pub written : List ℕ → Out → Out
written [] o = o
written (x ∷ l) o = written l (pushed x o)
