-- The Rust's `undo_internal`, on the log's records, the newest first.
use Rattle.std.specs.Prelude.{List, [], ◌∷◌, ℕ, zero, suc, ◌-◌, eqb, length, get_or}
use Rattle.base.specs.Iter.{pick}
use Rattle.undo_log.specs.declared.Record.{Record}
use Rattle.undo_log.specs.Log.{record_of}
use Rattle.noting.specs.Note.{Noting, noting, effect, applied}

-- the first n records of the log, the newest first
unfoldable pub records_of : List ℕ → ℕ → List Record
records_of log zero = []
records_of log (suc n) = record_of (get_or log n 0) ∷ records_of log n

-- a record is taken back: a bound and its literal as recorded; document 01, "undo always gives undecided"
unfoldable pub restored : Record → List ℕ → List ℕ
restored r noted = applied (effect r.kind r.index (pick (eqb r.kind 1) 0 r.bound)) r.lit noted

-- the noted words after the records are taken back to and with the newest notification's first
unfoldable pub undone : List Record → List ℕ → List ℕ
undone [] noted = noted
undone (r ∷ rs) noted = pick (eqb r.kind 0) noted (undone rs (restored r noted))

-- how many records are left then
unfoldable pub kept : List Record → ℕ
kept [] = 0
kept (r ∷ rs) = pick (eqb r.kind 0) (length rs) (kept rs)

-- Undoing moves the cursor back; the records stay in the log as they are.
unfoldable pub undo : Noting → Noting
undo x =
    noting
    (undone (records_of x.log x.cursor.used) x.noted)
    x.log
    (record { used = kept (records_of x.log x.cursor.used); standing = x.cursor.standing - 1 })
