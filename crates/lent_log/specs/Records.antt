-- The undo log as a list of records, oldest first. Each definition is joined to the flat one in proofs/Words.antt.
use Rattle.std.specs.Prelude.{Bool, true, false, ◌&&◌, List, ℕ, ◌+◌, ◌-◌, ltb, leb, length, get_or, set, Option, None, Some}
use Rattle.base.specs.Iter.{iter, pick}
use Rattle.undo_log.specs.declared.Record.{Record}
use Rattle.undo_log.specs.declared.Cursor.{Cursor}
use Rattle.undo_log.specs.Log.{word_of, record_of, moved_to}

-- what stands past the end of a log; its word is 0
abbrev pub no_record : Record
no_record = record { kind = 0; index = 0; bound = 0; lit = 0 }

-- a push: whether there was room, the log and the cursor after it
pub record Pushing : Type 0 where
  pub room : Bool
  pub log : List Record
  pub cursor : Cursor

abbrev pub pushing : Bool → List Record → Cursor → Pushing
pushing b log c = record { room = b; log = log; cursor = c }

unfoldable pub push_record : List Record → Cursor → Record → Pushing
push_record log c r =
    pick (ltb c.used (length log))
    (pushing true (set log c.used r) (moved_to c (c.used + 1)))
    (pushing false log c)

-- some records are used, and no more than there are
unfoldable pub has_newest : ℕ → ℕ → Bool
has_newest used len = ltb 0 used && leb used len

-- a pop: the newest record, if there is one, and the cursor after it
pub record Popping : Type 0 where
  pub newest : Option Record
  pub cursor : Cursor

abbrev pub popping : Option Record → Cursor → Popping
popping x c = record { newest = x; cursor = c }

unfoldable pub pop_record : List Record → Cursor → Popping
pop_record log c =
    pick (has_newest c.used (length log))
    (popping (Some (get_or log (c.used - 1) no_record)) (moved_to c (c.used - 1)))
    (popping None c)

unfoldable pub least : ℕ → ℕ → ℕ → ℕ
least a b c = pick (ltb b a) (pick (ltb c b) c b) (pick (ltb c a) c a)

-- the words of the first n records, as many as there are and as there is room for
unfoldable pub loaded : List Record → ℕ → List ℕ → List ℕ
loaded log n words = iter (λ i ws. set ws i (word_of (get_or log i no_record))) (least n (length log) (length words)) words

-- a log and its cursor
pub record Lent : Type 0 where
  pub log : List Record
  pub cursor : Cursor

abbrev pub lent : List Record → Cursor → Lent
lent log c = record { log = log; cursor = c }

-- one record more, if there is room
abbrev pub pushed_on : Record → Lent → Lent
pushed_on r x = lent (push_record x.log x.cursor r).log (push_record x.log x.cursor r).cursor

-- the records of the words from the cursor's place up to place e, one after the other
unfoldable pub pushed_run : List ℕ → ℕ → Lent → Lent
pushed_run words e x = iter (λ i y. pushed_on (record_of (get_or words (x.cursor.used + i) 0)) y) (e - x.cursor.used) x

-- the cursor after as many pops as there are records in use past place e
unfoldable pub popped_to : List Record → ℕ → Cursor → Cursor
popped_to log e c = iter (λ _ d. (pop_record log d).cursor) (c.used - e) c
