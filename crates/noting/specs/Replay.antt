-- Refusal 7, "log, cursor, gates and bounds other than noting the log's literals afresh, oldest first, would give": the log's
-- literals are noted afresh, and each record that noting would push is to stand in the log already.
use Rattle.std.specs.Prelude.{Bool, true, false, not, ◌&&◌, ◌||◌, List, ℕ, ◌+◌, ◌-◌, ◌/◌, eqb, ltb, length, get_or, set, replicate}
use Rattle.base.specs.Iter.{iter, pick}
use Rattle.base.specs.Lists.{some}
use Rattle.undo_log.specs.declared.Record.{Record}
use Rattle.undo_log.specs.declared.Cursor.{Cursor}
use Rattle.undo_log.specs.Log.{record_of, word_of}
use Rattle.plan.specs.Words.{vertices_of, edges_of, start_at, occurrence_at}
use Rattle.noting.specs.declared.replay.Place.{Place}
use Rattle.noting.specs.Words.{edge_state_of, lower_of, upper_of, lower_lit_of, upper_lit_of, fresh}
use Rattle.noting.specs.Note.{effect_of, undo_record, applied, boundary, place_in, known}
use Rattle.noting.specs.Undo.{records_of}
use Rattle.noting.specs.Standing.{standing}

abbrev pub place : Bool → ℕ → Place
place ok at = record { ok = ok; at = at }

-- record r stands at place `at`, which is before the cursor
unfoldable pub holds_at : List ℕ → ℕ → ℕ → Record → Bool
holds_at log used at r = ltb at used && eqb (get_or log at 0) (word_of r)

-- the words noted afresh so far, and how far the log agrees
pub record Followed : Type 0 where
  pub noted : List ℕ
  pub place : Place

abbrev pub followed : List ℕ → Place → Followed
followed noted p = record { noted = noted; place = p }

-- slot s of literal l's variable
unfoldable pub follow_slot : List ℕ → List ℕ → ℕ → ℕ → ℕ → Followed → Followed
follow_slot ws log used l s x =
    pick x.place.ok
    (pick (eqb (effect_of ws x.noted l s).kind 0) x
    (pick (holds_at log used x.place.at (undo_record x.noted (effect_of ws x.noted l s)))
    (followed (applied (effect_of ws x.noted l s) l x.noted) (place true (x.place.at + 1)))
    (followed x.noted (place false x.place.at))))
    x

-- every occurrence of distinct variable k
unfoldable pub follow_at : List ℕ → List ℕ → ℕ → ℕ → ℕ → Followed → Followed
follow_at ws log used l k x = iter (λ i y. follow_slot ws log used l (occurrence_at ws (start_at ws k + i)) y) (start_at ws (k + 1) - start_at ws k) x

-- and which distinct variables have stood: 1 for each
pub record Replayed : Type 0 where
  pub marks : List ℕ
  pub follow : Followed

abbrev pub replayed : List ℕ → List ℕ → Place → Replayed
replayed marks noted p = record { marks = marks; follow = followed noted p }

unfoldable pub marked : List ℕ → ℕ → Bool
marked marks k = not (ltb k 2176 && eqb (get_or marks k 0) 0)

unfoldable pub set_mark : ℕ → List ℕ → List ℕ
set_mark k marks = pick (ltb k 2176) (set marks k 1) marks

-- the literal that the record at place `at` would be of
abbrev pub lit_at : List ℕ → ℕ → ℕ
lit_at log at = (record_of (get_or log at 0)).lit

-- a notification starts there: its literal is known to the plan, and neither it nor its negation stood before
unfoldable pub opens : List ℕ → List ℕ → List ℕ → ℕ → Bool
opens ws marks log at =
    eqb (get_or log at 0) (word_of (boundary (lit_at log at)))
    && (known ws (lit_at log at / 2)
    && not (marked marks (place_in ws (lit_at log at / 2))))

-- one notification of the log; past the cursor, nothing
unfoldable pub replay_level : List ℕ → List ℕ → ℕ → Replayed → Replayed
replay_level ws log used x =
    pick (x.follow.place.ok && ltb x.follow.place.at used)
    (pick (opens ws x.marks log x.follow.place.at)
    (record {
      marks = set_mark (place_in ws (lit_at log x.follow.place.at / 2)) x.marks;
      follow = follow_at ws log used (lit_at log x.follow.place.at) (place_in ws (lit_at log x.follow.place.at / 2)) (followed x.follow.noted (place true (x.follow.place.at + 1)));
    })
    (replayed x.marks x.follow.noted (place false x.follow.place.at)))
    x

unfoldable pub replay : List ℕ → List ℕ → ℕ → Replayed → Replayed
replay ws log used x = iter (λ _ y. replay_level ws log used y) used x

-- an edge of the plan, a vertex of the plan, is noted otherwise
unfoldable pub edge_differs : List ℕ → List ℕ → ℕ → Bool
edge_differs a b g = not (eqb (edge_state_of a g) (edge_state_of b g))

unfoldable pub vertex_differs : List ℕ → List ℕ → ℕ → Bool
vertex_differs a b v =
    not (eqb (lower_of a v) (lower_of b v))
    || (not (eqb (upper_of a v) (upper_of b v))
    || (not (eqb (lower_lit_of a v) (lower_lit_of b v))
    || not (eqb (upper_lit_of a v) (upper_lit_of b v))))

unfoldable pub noted_differs : List ℕ → List ℕ → List ℕ → Bool
noted_differs ws a b = some (edge_differs a b) (edges_of ws) || some (vertex_differs a b) (vertices_of ws)

-- the log's literals noted afresh
unfoldable pub afresh : List ℕ → List ℕ → ℕ → Replayed
afresh ws log used = replay ws log used (replayed (replicate 2176 0) (fresh ws (replicate 384 0)) (place true 0))

-- the last part of refusal 7
unfoldable pub log_bad : List ℕ → List ℕ → List ℕ → Cursor → Bool
log_bad ws noted log c =
    ltb (length log) c.used
    || (not (eqb (length (standing (records_of log c.used))) c.standing)
    || (not (afresh ws log c.used).follow.place.ok
    || noted_differs ws (afresh ws log c.used).follow.noted noted))
