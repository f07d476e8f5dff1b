-- What a literal wants to be noted, and what noting it does at one slot.
use Rattle.std.specs.Prelude.{◌≡◌, true, List, ℕ, ◌+◌, ◌-◌, ◌/◌, ◌%◌, ◌≤◌, ◌<◌, eqb, length}
use Rattle.base.specs.Iter.{pick}
use Rattle.plan.specs.Words.{vertices_of, domain_of, lit_of, start_at}
use Rattle.plan.specs.Check.{used_slot}
use Rattle.noting.specs.declared.note.Effect.{Effect}
use Rattle.noting.specs.Words.{edge_state_of, lower_of, upper_of, lower_lit_of, upper_lit_of}
use Rattle.noting.specs.Note.{Noting, effect, nothing, place_in, known, is_of}

-- slot s has no effect, decides an edge, or tightens a bound
pub data Effective (ws noted : List ℕ) (l s : ℕ) : Effect → Type 0 where
  idle : Effective ws noted l s nothing
  edge : 2048 ≤ s → s < 2176 → Effective ws noted l s (effect 1 (s - 2048) (pick (eqb (lit_of ws s) l) 1 2))
  low : s < 2048 → lower_of noted (s / 32) < domain_of ws (s / 32) (s % 32 + 1) → Effective ws noted l s (effect 2 (s / 32) (domain_of ws (s / 32) (s % 32 + 1)))
  high : s < 2048 → domain_of ws (s / 32) (s % 32) < upper_of noted (s / 32) → Effective ws noted l s (effect 3 (s / 32) (domain_of ws (s / 32) (s % 32)))

-- the sizes that a slot in use may set fit a u32
abbrev pub SizesFit : List ℕ → Type 0
SizesFit ws = (s : ℕ) → used_slot ws s ≡ true → s < 2048 → (domain_of ws (s / 32) (s % 32) < 4294967296) × (domain_of ws (s / 32) (s % 32 + 1) < 4294967296)

-- the vertices' bounds fit their words, and what they are due to are literals, or none
pub record BoundsFit (ws noted : List ℕ) : Type 0 where
  pub lower : (v : ℕ) → v < vertices_of ws → v < 64 → lower_of noted v < 4294967296
  pub upper : (v : ℕ) → v < vertices_of ws → v < 64 → upper_of noted v < 4294967296
  pub lower_lit : (v : ℕ) → v < vertices_of ws → v < 64 → lower_lit_of noted v < 65536
  pub upper_lit : (v : ℕ) → v < vertices_of ws → v < 64 → upper_lit_of noted v < 65536

-- how many occurrences variable x has
unfoldable pub occurrences : List ℕ → ℕ → ℕ
occurrences ws x = pick (known ws x) (start_at ws (place_in ws x + 1) - start_at ws (place_in ws x)) 0

-- what a literal wants to be noted: room in the log, and that its edges are undecided
pub record Ready (ws : List ℕ) (l : ℕ) (x : Noting) : Type 0 where
  pub lit : l < 65536
  pub sizes : SizesFit ws
  pub bounds : BoundsFit ws x.noted
  pub room : x.cursor.used + 1 + occurrences ws (l / 2) ≤ length x.log
  pub counted : x.cursor.standing ≤ x.cursor.used
  pub undecided : (s : ℕ) → is_of ws (l / 2) s ≡ true → 2048 ≤ s → edge_state_of x.noted (s - 2048) ≡ 0
