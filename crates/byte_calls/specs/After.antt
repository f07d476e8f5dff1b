-- What the state's bytes stand for after a call: `StateAfter` of specs/Host.antt without its condition, since the list that a call leaves
-- has at most 260 literals (proofs/LastList.antt).
use Rattle.std.specs.Prelude.{Bool, true, false, ◌||◌, ◌≡◌, List, ℕ}
use Rattle.graph_division.specs.declared.GraphDivision.{GraphDivision}
use Rattle.graph_division.specs.declared.Outcome.{Outcome}
use Rattle.graph_division.specs.Answers.{is_refused}
use Rattle.byte_calls.specs.Layout.{state_in}
use Rattle.byte_calls.specs.Stores.{BytesKept}

-- as they were where a call is refused, else those of state s; the bytes past the layout stay
pub record BytesAfter (refused : Bool) (s : GraphDivision) (before after : List ℕ) : Type 0 where
  pub same : refused ≡ true → after ≡ before
  pub is : refused ≡ false → state_in after ≡ s
  pub kept : BytesKept before after

-- after a call with outcome y, refused too where the state or the cursor is too short
abbrev pub Leaves : Bool → Outcome → List ℕ → List ℕ → Type 0
Leaves short y before after = BytesAfter (short || is_refused y.answer) y.state before after
