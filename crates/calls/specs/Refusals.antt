-- Document 01, "Verdicts turned away": when each number from 7 to 16, and 18 and 19 of document 02, applies to a call
-- in a world. The numbers 1 to 6 are the builder's and 17 is the reader's.
use Rattle.std.specs.Prelude.{ℕ, suc, ◌*◌, ◌<◌, ◌≡◌, ◌⊎◌, Bool, true, false, List, [], ◌∷◌, length, get_or}
use Rattle.base.specs.Lists.{Every}
use Rattle.sat.specs.Literal.{variable, negate}
use Rattle.division.specs.Plan.{Plan}
use Rattle.division.specs.State.{potential}
use Rattle.division.specs.Reasons.{Reason}
use Rattle.division.specs.Analysis.{going}
use Rattle.division.specs.Refusals.{FixedZero}
use Rattle.division.specs.Noting.{note_all, In}
use Rattle.division.specs.Views.{view_of}
use Rattle.division.specs.Runs.{analysis, reason_of}
use Rattle.runs.specs.Run.{Run}
use Rattle.calls.specs.Table.{code_of, variables, entered}
use Rattle.calls.specs.Look.{fine, looked, offers, first_false, false_list, gone}
use Rattle.calls.specs.Calls.{World, Query, reason_for, run_between, page, Call, initialize}
use Rattle.calls.specs.Calls.{propagate, undo, ask, Going, join_by, entry}
use Rattle.calls.specs.Page.{Listing, Lowest}

unfoldable pub room_of : Call → Bool
room_of (initialize room t) = room
room_of (propagate room t l pending) = room
room_of (undo room l) = room
room_of (ask room q) = room

-- 7: "table shorter than largest variable + 1 (0 with none), any entry of it over 4"
pub data BadTable (d : Plan) (t : List ℕ) : Type 0 where
  short : length t < variables d → BadTable d t
  high : (i : ℕ) → i < length t → 4 < get_or t i 0 → BadTable d t

-- 9: a literal is known to the plan if it, or its negation, is an edge's or a size literal of a vertex with a domain
pub data Known (d : Plan) (l : ℕ) : Type 0 where
  of_edge : (g : ℕ) → g < d.edges → variable l ≡ variable (d.edge_lit g) → Known d l
  of_domain : (v j : ℕ) → v < d.vertices → suc j < d.domain_len v → variable l ≡ variable (d.dom_lit v j) → Known d l

-- 10: "literal to be notified, or its negation, stands"
abbrev pub Stands : World → ℕ → Type 0
Stands w l = In w.standing l ⊎ In w.standing (negate l)

-- 13, of the analysis where ls stands; 12 is no longer given (document 02, request 2)
abbrev pub ZeroAt : Plan → List ℕ → Type 0
ZeroAt d ls = FixedZero d (note_all d ls) (view_of d (note_all d ls))

-- 14: "false proposal, no entry of its list (negation included) coded 3 or 4"
pub record NotCurrent (d : Plan) (ls t : List ℕ) : Type 0 where
  pub clear : (analysis d ls).verdict ≡ going
  pub p : ℕ
  pub first : first_false t (offers (analysis d ls)) ≡ p ∷ []
  pub none : Every (λ l. (code_of t l ≡ 3 → ⊥) × (code_of t l ≡ 4 → ⊥)) (false_list d ls (analysis d ls) p)

-- the work of a notification after which ls stands, with table t, is refused with this number
pub data Stops (d : Plan) (ls t : List ℕ) : ℕ → Type 0 where
  at13 : ZeroAt d ls → Stops d ls t 13
  at14 : NotCurrent d ls t → Stops d ls t 14

-- how far initialize comes: what it has done, and the literals that it has still to notify
pub data Stage (d : Plan) (w : World) (t : List ℕ) : Going → List ℕ → Type 0 where
  first : Stage d w t (entry w t) (entered d t)
  next : {a : Going} {l : ℕ} {ls : List ℕ} → Stage d w t a (l ∷ ls) → (Stands a.world l → ⊥) → (looked d (l ∷ a.world.standing) a.table).judgement ≡ fine →
      Stage d w t (join_by a l (looked d (l ∷ a.world.standing) a.table) fine) ls

-- the table of refusals, of a query
pub data AppliesTo (d : Plan) (w : World) : Query → ℕ → Type 0 where
  -- 9: "literal unknown to the plan"
  unknown_reason : (l : ℕ) → (Known d l → ⊥) → AppliesTo d w (reason_for l) 9
  -- 15: "no reason recorded"
  no_reason : (l : ℕ) → reason_of l w.reasons ≡ [] → AppliesTo d w (reason_for l) 15
  -- 16: "recorded path gone"
  path_gone : (l : ℕ) (r : Reason) → reason_of l w.reasons ≡ r ∷ [] → gone d (note_all d w.standing) r ≡ true → AppliesTo d w (reason_for l) 16
  -- 18: "when every run between the pens has a shut gate": no edges that are not disconnected lead from p to q
  no_run : (p q : ℕ) → ((l : List ℕ) → Run (potential d (note_all d w.standing)) d.edges p l q → ⊥) →
      AppliesTo d w (run_between p q) 18
  -- "or one pen is unknown"
  unknown_from : (p q : ℕ) → (p < d.vertices → ⊥) → AppliesTo d w (run_between p q) 18
  unknown_to : (p q : ℕ) → (q < d.vertices → ⊥) → AppliesTo d w (run_between p q) 18
  -- 19: "when the page buffer is under 39 bytes a region"
  page_short : (len : ℕ) (rs : List ℕ) → Listing (Lowest d (note_all d w.standing)) rs → len < 39 * length rs →
      AppliesTo d w (page len) 19

-- and of any call
pub data Applies (d : Plan) (w : World) : Call → ℕ → Type 0 where
  -- 7; what it asks of the other buffers is the room
  no_room : (c : Call) → room_of c ≡ false → Applies d w c 7
  bad_initialize : (room : Bool) (t : List ℕ) → BadTable d t → Applies d w (initialize room t) 7
  bad_propagate : (room : Bool) (t : List ℕ) (l : ℕ) (pending : Bool) → BadTable d t → Applies d w (propagate room t l pending) 7
  -- 8: "initialise after one that was consistent"
  again : (room : Bool) (t : List ℕ) → w.done ≡ true → Applies d w (initialize room t) 8
  -- 9: "literal unknown to the plan"
  unknown_propagate : (room : Bool) (t : List ℕ) (l : ℕ) (pending : Bool) → (Known d l → ⊥) → Applies d w (propagate room t l pending) 9
  unknown_undo : (room : Bool) (l : ℕ) → (Known d l → ⊥) → Applies d w (undo room l) 9
  -- 10, which initialize tests literal by literal
  stands : (room : Bool) (t : List ℕ) (l : ℕ) (pending : Bool) → Stands w l → Applies d w (propagate room t l pending) 10
  stands_later : (room : Bool) (t : List ℕ) (a : Going) (l : ℕ) (ls : List ℕ) → Stage d w t a (l ∷ ls) → Stands a.world l → Applies d w (initialize room t) 10
  -- 11: "undo not of the newest standing"
  not_newest : (room : Bool) (l : ℕ) → ((ls : List ℕ) → w.standing ≡ l ∷ ls → ⊥) → Applies d w (undo room l) 11
  -- 13 and 14, in the work of a notification with nothing pending, and of initialize's
  stops : (room : Bool) (t : List ℕ) (l n : ℕ) → Stops d (l ∷ w.standing) t n → Applies d w (propagate room t l false) n
  stops_later : (room : Bool) (t : List ℕ) (a : Going) (l : ℕ) (ls : List ℕ) (n : ℕ) → Stage d w t a (l ∷ ls) → (Stands a.world l → ⊥) → Stops d (l ∷ a.world.standing) a.table n →
      Applies d w (initialize room t) n
  -- 13 in initialize's last pass
  zero_last : (room : Bool) (t : List ℕ) (a : Going) → Stage d w t a [] → ZeroAt d a.world.standing → Applies d w (initialize room t) 13
  -- those of a query
  of_query : (room : Bool) (q : Query) (n : ℕ) → AppliesTo d w q n → Applies d w (ask room q) n

-- "A call tests 7 to 11 in that order, then works": none of them applies
abbrev pub Works : Plan → World → Call → Type 0
Works d w c = (n : ℕ) → n < 12 → Applies d w c n → ⊥

-- the first number that applies
pub record First (d : Plan) (w : World) (c : Call) (n : ℕ) : Type 0 where
  pub applies : Applies d w c n
  pub least : (m : ℕ) → m < n → Applies d w c m → ⊥
