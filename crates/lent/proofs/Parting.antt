-- What holds of every state that lent arrays are made the parts of holds of the state that they are the parts of; and a call over words and
-- lists of zeros is graph_division's.
use mathlib.Core.Path.{◌≡◌, refl, subst}
use mathlib.Core.Bool.{Bool}
use mathlib.Core.List.{List}
use Prim.Native.Nat.{ℕ}
use lib.IntN.{ℤ}
use lib.ListN.{replicate}
use Rattle.undo_log.specs.declared.Cursor.{Cursor}
use Rattle.recorded.specs.declared.Reasons.{Reasons}
use Rattle.refusals.specs.Refusals.{lit_number}
use Rattle.graph_division.specs.declared.GraphDivision.{GraphDivision}
use Rattle.graph_division.specs.Calls.{settled, propagated, recorded_for, reason_fetched}
use Rattle.graph_division.specs.Initialize.{entering, finished, begun, initialized}
use Rattle.lent.specs.Lent.{state_of, Parts, settled_over, propagated_over, entering_over, finished_over, begun_over, initialized_over, reason_fetched_by}

module _ {ws : List ℕ} {ends : List (List ℕ)} {noted : List ℕ} (P : GraphDivision → Type 0) where
  pub of_parts : ((rs : Reasons) (last : List ℕ) (len : ℕ) (b : Bool) → P (state_of ws ends noted rs last len b)) → (s : GraphDivision) → Parts s ws ends noted → P s
  of_parts h s p =
      subst P (λ i. state_of (p.plan i) (p.edges i) (p.noted i) s.reasons s.last s.last_len s.initialized)
      (h s.reasons s.last s.last_len s.initialized)

  -- where the list last left is lent too
  pub of_last : {last : List ℕ} {len : ℕ} → ((rs : Reasons) (b : Bool) → P (state_of ws ends noted rs last len b)) →
      (s : GraphDivision) → Parts s ws ends noted → last ≡ s.last → len ≡ s.last_len → P s
  of_last h s p e f =
      subst P (λ i. state_of (p.plan i) (p.edges i) (p.noted i) s.reasons (e i) (f i) s.initialized)
      (h s.reasons s.initialized)

  -- and whether an initialise was consistent
  pub of_all : {last : List ℕ} {len : ℕ} {b : Bool} → ((rs : Reasons) → P (state_of ws ends noted rs last len b)) →
      (s : GraphDivision) → Parts s ws ends noted → last ≡ s.last → len ≡ s.last_len → b ≡ s.initialized → P s
  of_all h s p e f g =
      subst P (λ i. state_of (p.plan i) (p.edges i) (p.noted i) s.reasons (e i) (f i) (g i))
      (h s.reasons)

pub over_zeros : (s : GraphDivision) (c : Cursor) (lit pending : ℤ) (t list log : List ℕ) →
    propagated_over s c (replicate 8772 0) (replicate 260 0) lit pending t list log ≡ propagated s c lit pending t list log
unfolding propagated_over propagated settled_over settled
over_zeros s c lit pending t list log = refl

pub begun_over_zeros : (s : GraphDivision) (c : Cursor) (t log list : List ℕ) → initialized_over s c (replicate 8772 0) t log list ≡ initialized s c t log list
unfolding initialized_over initialized begun_over begun finished_over finished entering_over entering
begun_over_zeros s c t log list = refl

pub of_recorded : (s : GraphDivision) (c : Cursor) (log : List ℕ) (lit : ℤ) (b : List ℕ) → reason_fetched_by s c log lit (recorded_for s (lit_number lit)) b ≡ reason_fetched s c log lit b
unfolding reason_fetched_by reason_fetched
of_recorded s c log lit b = refl
