-- The same tests in the words of the calls: the abstract call that a call with numbers from outside stands for.
use Rattle.std.specs.Prelude.{Bool, not, ◌||◌, List, [], ℕ, ◌*◌, eqb, ℤ, pos}
use Rattle.base.specs.Iter.{pick}
use Rattle.base.specs.Range.{in_range, to_nat}
use Rattle.undo_log.specs.declared.Cursor.{Cursor}
use Rattle.plan.specs.Words.{variables_of, unique_lit_at}
use Rattle.noting.specs.Buffers.{list_short, reason_short}
use Rattle.calls.specs.Table.{true_in, rising}
use Rattle.calls.specs.Calls.{World, undone, Outcome, refuse}
use Rattle.calls.specs.Claim.{tail}
use Rattle.refusals.specs.Refusals.{state_bad}

-- the literal that a number from outside is; 8192, which no plan knows, for one that is none
unfoldable pub lit_given : ℤ → ℕ
lit_given l = pick (in_range (pos 8191) l) (to_nat l) 8192

-- the room of a call: whether what it is lent, but for the table, passes 7. Of a call with a table the list's length is n,
-- of a fetch the reason buffer's.
unfoldable pub table_room : List ℕ → List (List ℕ) → List ℕ → ℕ → List ℕ → Cursor → Bool
table_room ws ends noted n log c = not (state_bad ws ends noted log c || list_short ws n)

unfoldable pub state_room : List ℕ → List (List ℕ) → List ℕ → List ℕ → Cursor → Bool
state_room ws ends noted log c = not (state_bad ws ends noted log c)

unfoldable pub fetch_room : List ℕ → List (List ℕ) → List ℕ → ℕ → List ℕ → Cursor → Bool
fetch_room ws ends noted n log c = not (state_bad ws ends noted log c || reason_short ws n)

-- refused with number n, or the outcome where n is 0
unfoldable pub refused_or : ℕ → World → List ℕ → Outcome → Outcome
refused_or n w t o = pick (eqb n 0) o (refuse n w t)

-- what an accepted undo leaves, where ls stood
unfoldable pub taken_back : World → List ℕ → Outcome
taken_back w ls = record {
  answer = undone;
  world = record { standing = tail ls; reasons = w.reasons; last = w.last; done = w.done };
  table = [];
  handed = [];
}

-- the places of the distinct literals that are true in the table, rising
unfoldable pub entered_places : List ℕ → List ℕ → List ℕ
entered_places ws t = rising (λ p. true_in t (unique_lit_at ws p)) 0 (2 * variables_of ws)
