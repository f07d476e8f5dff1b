-- Document 01, "Analysis": the proposals of an analysis, in rising order, against the value table. A place is that of a literal
-- among the plan's distinct literals, both signs, which rise: 0 up to twice the distinct variables.
use Rattle.std.specs.Prelude.{Bool, ◌&&◌, List, ℕ, ◌*◌, ◌/◌, ◌%◌, ltb, leb, get_or}
use Rattle.base.specs.Iter.{iter, pick}
use Rattle.base.specs.Lists.{filled}
use Rattle.division.specs.Regions.{lowest}
use Rattle.calls.specs.Table.{false_in, unset_in, enter}
use Rattle.walks.specs.Written.{Out, out_of, pushed}
use Rattle.plan.specs.Words.{variables_of, unique_lit_at}
use Rattle.reasons.specs.Words.{has_bit}

-- a place is proposed where its mark is set
unfoldable pub proposed_at : List ℕ → ℕ → Bool
proposed_at words p = ltb p 4352 && has_bit (get_or words (p / 64) 0) (p % 64)

-- the lowest proposed place from `from` on, or n where there is none below n
unfoldable pub next_proposed : List ℕ → ℕ → ℕ → ℕ
next_proposed words from n = lowest (λ p. leb from p && proposed_at words p) n

-- an analysis starts with no marks; the words of the places stay
unfoldable pub cleared : List ℕ → List ℕ
cleared words = filled 0 68 (λ i. 0) words

-- "proposals are sorted, doubles dropped; the first whose value is false": its place, or that past the last
unfoldable pub false_at : List ℕ → List ℕ → List ℕ → ℕ → Bool
false_at ws words t p = proposed_at words p && false_in t (unique_lit_at ws p)

unfoldable pub first_false_at : List ℕ → List ℕ → List ℕ → ℕ
first_false_at ws words t = lowest (false_at ws words t) (2 * variables_of ws)

-- the value table, and the list of what is handed on
pub record Handed : Type 0 where
  pub table : List ℕ
  pub out : Out

abbrev pub handing : List ℕ → List ℕ → ℕ → Handed
handing t list at = record { table = t; out = out_of list at }

-- "A handed-on literal is one that was unset; its entry becomes 3 or 4." A word of the list has 32 bits.
unfoldable pub handed : ℕ → Handed → Handed
handed l h = pick (unset_in h.table l) (record { table = enter h.table l; out = pushed (l % 4294967296) h.out }) h

unfoldable pub handed_at : List ℕ → List ℕ → ℕ → Handed → Handed
handed_at ws words p h = pick (proposed_at words p) (handed (unique_lit_at ws p) h) h

-- in rising order, each one unset when its turn comes: "If p and its negation are both proposed, the lower is handed on."
unfoldable pub handed_on : List ℕ → List ℕ → Handed → Handed
handed_on ws words h = iter (handed_at ws words) (2 * variables_of ws) h
