-- The Rust's `notify` on the noted words and the undo log. Only the occurrences of the literal's variable are looked at.
use Rattle.std.specs.Prelude.{Bool, ◌&&◌, List, ℕ, ◌+◌, ◌-◌, ◌/◌, ◌%◌, eqb, ltb, length, set}
use Rattle.base.specs.Iter.{iter, pick}
use Rattle.undo_log.specs.declared.Record.{Record}
use Rattle.undo_log.specs.declared.Cursor.{Cursor}
use Rattle.undo_log.specs.Log.{push_words, has_room, moved_to}
use Rattle.plan.specs.Words.{variables_of, domain_of, lit_of, variable_at, start_at, occurrence_at}
use Rattle.plan.specs.Check.{used_slot}
use Rattle.noting.specs.declared.note.Effect.{Effect}
use Rattle.noting.specs.declared.note.Span.{Span}
use Rattle.noting.specs.Words.{lower_of, upper_of, lower_lit_of, upper_lit_of}

-- what a literal says of one vertex or edge: `LiteralInfo` of the Rust. The kinds are the undo log's; 0 is nothing.
abbrev pub effect : ℕ → ℕ → ℕ → Effect
effect k i x = record { kind = k; index = i; value = x }

abbrev pub nothing : Effect
nothing = effect 0 0 0

-- Document 01, "literal j true means size at least entry j+1, false means at most entry j"; a bound is set only where it tightens
unfoldable pub size_effect : List ℕ → List ℕ → Bool → ℕ → ℕ → Effect
size_effect ws noted holds v j =
    pick holds
    (pick (ltb (lower_of noted v) (domain_of ws v (j + 1))) (effect 2 v (domain_of ws v (j + 1))) nothing)
    (pick (ltb (domain_of ws v j) (upper_of noted v)) (effect 3 v (domain_of ws v j)) nothing)

-- Document 01, "true is shut, false is open"
unfoldable pub edge_effect : Bool → ℕ → Effect
edge_effect holds g = effect 1 g (pick holds 1 2)

-- what literal l does at slot s, whose literal is l or its negation
unfoldable pub effect_of : List ℕ → List ℕ → ℕ → ℕ → Effect
effect_of ws noted l s =
    pick (ltb s 2048) (size_effect ws noted (eqb (lit_of ws s) l) (s / 32) (s % 32))
    (pick (ltb s 2176) (edge_effect (eqb (lit_of ws s) l) (s - 2048)) nothing)

-- the record that an effect leaves: what stood there before, of an edge nothing (it was undecided)
unfoldable pub undo_record : List ℕ → Effect → Record
undo_record noted e = record {
  kind = e.kind;
  index = e.index;
  bound = pick (eqb e.kind 2) (lower_of noted e.index) (pick (eqb e.kind 3) (upper_of noted e.index) 0);
  lit = pick (eqb e.kind 2) (lower_lit_of noted e.index % 65536) (pick (eqb e.kind 3) (upper_lit_of noted e.index % 65536) 65535);
}

-- bound x of vertex v, due to literal l
unfoldable pub bound_set : ℕ → ℕ → ℕ → ℕ → List ℕ → List ℕ
bound_set from v x l noted = pick (ltb v 64) (set (set noted (from + v) x) (from + 128 + v) l) noted

unfoldable pub edge_set : ℕ → ℕ → List ℕ → List ℕ
edge_set g x noted = pick (ltb g 128) (set noted g x) noted

-- the noted words after an effect that is due to literal l
unfoldable pub applied : Effect → ℕ → List ℕ → List ℕ
applied e l noted =
    pick (eqb e.kind 1) (edge_set e.index e.value noted)
    (pick (eqb e.kind 2) (bound_set 128 e.index e.value l noted)
    (pick (eqb e.kind 3) (bound_set 192 e.index e.value l noted) noted))

-- what a notification changes
pub record Noting : Type 0 where
  pub noted : List ℕ
  pub log : List ℕ
  pub cursor : Cursor

abbrev pub noting : List ℕ → List ℕ → Cursor → Noting
noting noted log cursor = record { noted = noted; log = log; cursor = cursor }

-- the cursor with a records used and b notifications standing
abbrev pub cursor_at : ℕ → ℕ → Cursor
cursor_at a b = record { used = a; standing = b }

-- the cursor after a push; a full log keeps it
unfoldable pub pushed_to : List ℕ → Cursor → Cursor
pushed_to log c = pick (has_room log c) (moved_to c (c.used + 1)) c

-- slot s of literal l's variable is noted: its record is pushed, then its effect applied
unfoldable pub note_slot : List ℕ → ℕ → ℕ → Noting → Noting
note_slot ws l s x =
    pick (eqb (effect_of ws x.noted l s).kind 0) x
    (noting
    (applied (effect_of ws x.noted l s) l x.noted)
    (push_words x.log x.cursor (undo_record x.noted (effect_of ws x.noted l s)))
    (pushed_to x.log x.cursor))

-- Document 01, "A notification's first record holds its literal"
abbrev pub boundary : ℕ → Record
boundary l = record { kind = 0; index = 0; bound = 0; lit = l }

-- one more notification stands; never more of them than the log has words
unfoldable pub one_more : List ℕ → Cursor → Cursor
one_more log c = record { used = c.used; standing = pick (ltb c.standing (length log)) (c.standing + 1) c.standing }

unfoldable pub level_pushed : ℕ → Noting → Noting
level_pushed l x = noting x.noted (push_words x.log x.cursor (boundary l)) (one_more x.log (pushed_to x.log x.cursor))

-- the distinct variables, halved: those below `low` are less than x, those from `high` on are not
unfoldable pub halved : List ℕ → ℕ → ℕ → Span → Span
halved ws x _ p =
    pick (ltb p.low p.high)
    (pick (ltb (variable_at ws (p.low + (p.high - p.low) / 2)) x)
    (record { low = p.low + (p.high - p.low) / 2 + 1; high = p.high })
    (record { low = p.low; high = p.low + (p.high - p.low) / 2 }))
    p

-- variable x's place among the distinct variables; there are at most 2176, so 12 halvings leave one
unfoldable pub searched_in : List ℕ → ℕ → ℕ
searched_in ws x = (iter (halved ws x) 12 (record { low = 0; high = variables_of ws })).low

-- Most plans' variables are one run of numbers or two: where x is if no number is missing from the first variable to x, and if none
-- is missing from x to the last
abbrev pub place_from_first : List ℕ → ℕ → ℕ
place_from_first ws x = x - variable_at ws 0

abbrev pub place_from_last : List ℕ → ℕ → ℕ
place_from_last ws x = variables_of ws - 1 - (variable_at ws (variables_of ws - 1) - x)

-- distinct variable k is x
abbrev pub is_at : List ℕ → ℕ → ℕ → Bool
is_at ws k x = ltb k (variables_of ws) && eqb (variable_at ws k) x

-- A place is looked up, and searched where neither look finds x. On a plan that passes its own test this is the place that the search
-- finds: theorem `place_searched`.
unfoldable pub place_in : List ℕ → ℕ → ℕ
place_in ws x =
    pick (is_at ws (place_from_first ws x) x) (place_from_first ws x)
    (pick (is_at ws (place_from_last ws x) x) (place_from_last ws x)
    (searched_in ws x))

-- Refusal 9, "literal unknown to the plan": whether variable x is one of the plan's
unfoldable pub known : List ℕ → ℕ → Bool
known ws x = ltb (place_in ws x) (variables_of ws) && eqb (variable_at ws (place_in ws x)) x

-- `notify`: the boundary, then each occurrence of the literal's variable, in order
unfoldable pub note_at : List ℕ → ℕ → ℕ → Noting → Noting
note_at ws l k x = iter (λ i y. note_slot ws l (occurrence_at ws (start_at ws k + i)) y) (start_at ws (k + 1) - start_at ws k) x

unfoldable pub note : List ℕ → ℕ → Noting → Noting
note ws l x = pick (known ws (l / 2)) (note_at ws l (place_in ws (l / 2)) (level_pushed l x)) (level_pushed l x)

-- The same with no index of the plan: slot s is in use, and its literal is variable x's
unfoldable pub is_of : List ℕ → ℕ → ℕ → Bool
is_of ws x s = used_slot ws s && eqb (lit_of ws s / 2) x

-- and each slot of the literal's variable is noted, in rising order: size literals by vertex and entry, then edges
unfoldable pub note_lit : List ℕ → ℕ → Noting → Noting
note_lit ws l x = iter (λ s y. pick (is_of ws (l / 2) s) (note_slot ws l s y) y) 2176 (level_pushed l x)
