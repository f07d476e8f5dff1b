-- Single steps, which only the contracts of inner functions cite: no public contract rests on these.
use Rattle.std.specs.Prelude.{List, [], ◌∷◌, false, ℕ, ◌+◌, ◌-◌, ◌<◌, ℤ, leb, eqb, set}
use Rattle.base.specs.Iter.{pick}
use Rattle.text.specs.declared.Field.{Field}
use Rattle.text.specs.declared.Seen.{Seen}
use Rattle.text.specs.Fields.{split}

-- the pieces after the first: l starts at the separator that ends it, or is empty
unfoldable pub more : ℕ → List ℕ → List (List ℕ)
more sep [] = []
more sep (b ∷ l) = split sep l

-- one field more
unfoldable pub see_next : Seen → Field → Seen
see_next s f =
    record {
      ok = pick s.ok f.ok false;
      count = s.count + 1;
      a = pick (eqb s.count 0) f s.a;
      b = pick (eqb s.count 1) f s.b;
      c = pick (eqb s.count 2) f s.c;
    }

-- what holds of the first three, so that each fits an i32
pub record Fitting (s : Seen) : Type 0 where
  pub a : s.a.size < 1000000000
  pub b : s.b.size < 1000000000
  pub c : s.c.size < 1000000000

-- number j of a line into a buffer that takes those from number `from` on
unfoldable pub store : ℕ → ℕ → ℤ → List ℤ → List ℤ
store from j x out = pick (leb from j) (set out (j - from) x) out
