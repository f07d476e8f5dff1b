-- Document 01, "Undo log": a lent run of records (kind, index, old bound, old literal) and a small cursor (records used,
-- notifications standing). The log is a list of records, oldest first; the flat form has one word a record.
use Rattle.std.specs.Prelude.{Bool, ◌&&◌, List, map, ℕ, ◌+◌, ◌-◌, ◌*◌, ◌/◌, ◌%◌, ltb, leb, length, get_or, set, take, Option, None, Some}
use Rattle.base.specs.Iter.{pick}
use Rattle.undo_log.specs.declared.Record.{Record}
use Rattle.undo_log.specs.declared.Cursor.{Cursor}

-- a record as one word: kind and index a byte each, the literal two, the bound four
unfoldable pub word_of : Record → ℕ
word_of r = r.kind + 256 * r.index + 65536 * r.lit + 4294967296 * r.bound

-- and back
unfoldable pub record_of : ℕ → Record
record_of w = record { kind = w % 256; index = w / 256 % 256; bound = w / 4294967296 % 4294967296; lit = w / 65536 % 65536 }

-- the log that the first n words stand for, oldest record first
unfoldable pub log_of : List ℕ → ℕ → List Record
log_of words n = map record_of (take n words)

-- the cursor with n records used
abbrev pub moved_to : Cursor → ℕ → Cursor
moved_to c n = record { used = n; standing = c.standing }

-- a record is pushed where the cursor is before the end of the words
abbrev pub has_room : List ℕ → Cursor → Bool
has_room words c = ltb c.used (length words)

unfoldable pub push_words : List ℕ → Cursor → Record → List ℕ
push_words words c r = pick (has_room words c) (set words c.used (word_of r)) words

unfoldable pub push_answer : List ℕ → Cursor → Option Cursor
push_answer words c = pick (has_room words c) (Some (moved_to c (c.used + 1))) None

-- the newest record is taken where there is one: some are used, and no more than there are words
unfoldable pub pop_answer : List ℕ → Cursor → Option (Record × Cursor)
pop_answer words c =
    pick (ltb 0 c.used && leb c.used (length words))
    (Some (record_of (get_or words (c.used - 1) 0), moved_to c (c.used - 1)))
    None
