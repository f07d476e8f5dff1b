-- Words that are no plan: with them each call is refused with 7, whatever else it is given.
use Rattle.std.specs.Prelude.{◌≡◌, Bool, true, List, ℕ, ℤ}
use Rattle.undo_log.specs.declared.Cursor.{Cursor}
use Rattle.refusals.specs.Refusals.{state_bad, initialize_refusal, propagate_refusal, undo_refusal, fetch_refusal}

pub record NoPlan (ws : List ℕ) : Type 0 where
  pub initialize : (ends : List (List ℕ)) (noted t : List ℕ) (n : ℕ) (log : List ℕ) (c : Cursor) (initialized : Bool) → initialize_refusal ws ends noted t n log c initialized ≡ 7
  pub propagate : (ends : List (List ℕ)) (noted t : List ℕ) (n : ℕ) (log : List ℕ) (c : Cursor) (l : ℤ) → propagate_refusal ws ends noted t n log c l ≡ 7
  pub undo : (ends : List (List ℕ)) (noted log : List ℕ) (c : Cursor) (l : ℤ) → undo_refusal ws ends noted log c l ≡ 7
  pub fetch : (ends : List (List ℕ)) (noted : List ℕ) (n : ℕ) (log : List ℕ) (c : Cursor) → fetch_refusal ws ends noted n log c ≡ 7
  pub page : (ends : List (List ℕ)) (noted log : List ℕ) (c : Cursor) → state_bad ws ends noted log c ≡ true
