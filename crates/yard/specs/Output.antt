-- What the program's functions are given, and what they leave.
use Rattle.std.specs.Prelude.{◌≡◌, List, ℕ, ◌≤◌, length, None, Some}
use Rattle.base.specs.declared.refusal.Refusal.{Refusal}
use Rattle.desk.specs.declared.start.Started.{Started}
use Rattle.desk.specs.Start.{started}
use Rattle.desk.specs.Session.{session}
use Rattle.yard.specs.declared.output.Shown.{Shown}

-- standard output was given all of the session's bytes. Whether a write of them failed is the system's, and free.
abbrev pub AllTold : Shown → List ℕ → Type 0
AllTold r input = r.told ≡ length (session input)

-- the start of this input, with refusal r and without one
pub record Refusing (r : Refusal) (input : List ℕ) : Type 0 where
  pub refusal : (started input).refusal ≡ Some r

pub record Obeying (s : Started) (input : List ℕ) : Type 0 where
  pub start : s ≡ started input
  pub accepted : s.refusal ≡ None
  pub few : length input ≤ 1048577
