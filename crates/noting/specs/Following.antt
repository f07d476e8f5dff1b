-- What the functions that follow the log say of their parts. No refusal is defined by these.
use Rattle.std.specs.Prelude.{◌≡◌, Bool, true, false, not, ◌&&◌, List, ℕ, ◌+◌, ◌/◌, ◌%◌, ◌^◌, eqb, length, get_or}
use Rattle.base.specs.Iter.{pick}
use Rattle.base.specs.Lists.{tab, filled}
use Rattle.plan.specs.Words.{vertices_of}
use Rattle.noting.specs.declared.note.Effect.{Effect}
use Rattle.noting.specs.Words.{capped, first_size, last_size}
use Rattle.noting.specs.Note.{undo_record, applied}
use Rattle.noting.specs.Undo.{records_of}
use Rattle.noting.specs.Standing.{standing}
use Rattle.noting.specs.Replay.{Followed, followed, place, holds_at, Replayed, replay}

-- an effect of literal l whose record is to stand in the log
unfoldable pub follow_effect : List ℕ → ℕ → ℕ → Effect → Followed → Followed
follow_effect log used l e x =
    pick (holds_at log used x.place.at (undo_record x.noted e))
    (followed (applied e l x.noted) (place true (x.place.at + 1)))
    (followed x.noted (place false x.place.at))

-- word `from + i` is another
unfoldable pub word_differs : List ℕ → List ℕ → ℕ → ℕ → Bool
word_differs a b from i = not (eqb (get_or a (from + i) 0) (get_or b (from + i) 0))

-- the marks, kept as bits: mark k is bit k % 64 of word k / 64
unfoldable pub mark_in : List ℕ → ℕ → ℕ
mark_in words k = get_or words (k / 64) 0 / 2 ^ (k % 64) % 2

unfoldable pub marks_of : List ℕ → List ℕ
marks_of words = tab (mark_in words) 2176

-- the bounds before any notification and their literals; all of `fresh` but the edges
unfoldable pub fresh_bounds : List ℕ → List ℕ → List ℕ
fresh_bounds ws noted =
    filled 256 (capped (vertices_of ws) 64) (λ v. 65535)
    (filled 320 (capped (vertices_of ws) 64) (λ v. 65535)
    (filled 192 (capped (vertices_of ws) 64) (last_size ws)
    (filled 128 (capped (vertices_of ws) 64) (first_size ws) noted)))

-- the answer of a replay from x on where n notifications are said to stand; its words are told where they are compared
pub record Replays (ws log : List ℕ) (used n : ℕ) (x : Replayed) (r : Bool) (noted : List ℕ) : Type 0 where
  pub answer : r ≡ ((replay ws log used x).follow.place.ok && eqb (length (standing (records_of log used))) n)
  pub words : r ≡ true → noted ≡ (replay ws log used x).follow.noted
