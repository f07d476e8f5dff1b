-- Runs of notifications and analyses, what they recorded, and what a recorded reason is worth.
use Rattle.std.specs.Prelude.{ℕ, ◌+◌, ◌<◌, ◌≤◌, Bool, List, [], ◌∷◌, ◌++◌, eqb, length}
use Rattle.base.specs.Iter.{pick}
use Rattle.base.specs.Lists.{Every}
use Rattle.sat.specs.Literal.{negate, Holds}
use Rattle.division.specs.Plan.{Plan, Plain}
use Rattle.division.specs.Division.{Valid}
use Rattle.division.specs.Reasons.{Reason, list_of}
use Rattle.division.specs.Analysis.{Proposal, Out, analyzed}
use Rattle.division.specs.Noting.{note_all, In}
use Rattle.division.specs.Views.{view_of}

-- the analysis of the standing literals
abbrev pub analysis : Plan → List ℕ → Out
analysis d ls = analyzed d (note_all d ls) (view_of d (note_all d ls))

-- the list of a reason that is fetched where ms stands
abbrev pub fetched : Plan → List ℕ → Reason → List ℕ
fetched d ms r = list_of d (note_all d ms) r

-- what a conflict list is worth
pub record Refutes (d : Plan) (ls list : List ℕ) : Type 0 where
  -- all of it stands
  pub stands : Every (In ls) list
  pub fits : length list ≤ d.edges + d.vertices + d.vertices + 4
  -- and no valid division agrees with it
  pub sound : (σ : ℕ → Bool) → Valid d σ → Every (Holds σ) list → ⊥

-- what a reason of literal l is worth that is fetched where ms stands
pub record Justifies (d : Plan) (ms : List ℕ) (l : ℕ) (r : Reason) : Type 0 where
  -- all of the list stands
  pub stands : Every (In ms) (fetched d ms r)
  pub fits : length (fetched d ms r) < d.edges + d.vertices + d.vertices + 3
  -- and, both options off, every valid division that agrees with it agrees with the literal
  pub sound : Plain d → (σ : ℕ → Bool) → Valid d σ → Every (Holds σ) (fetched d ms r) → Holds σ l
  -- so none agrees with it and with the literal's negation
  pub refuted : Plain d → (σ : ℕ → Bool) → Valid d σ → Every (Holds σ) (fetched d ms r ++ (negate l ∷ [])) → ⊥

-- the newest reason that is recorded for a literal; a list of at most one
unfoldable pub reason_of : ℕ → List Proposal → List Reason
reason_of l [] = []
reason_of l (p ∷ ps) = pick (eqb l p.lit) (p.why ∷ []) (reason_of l ps)

-- notifications and analyses, with nothing undone: what stands after them, and what they recorded, the newest first
pub data Run (d : Plan) : List ℕ → List Proposal → Type 0 where
  start : (ls : List ℕ) → Run d ls []
  note : {ls : List ℕ} {ps : List Proposal} (l : ℕ) → Run d ls ps → Run d (l ∷ ls) ps
  look : {ls : List ℕ} {ps : List Proposal} → Run d ls ps → Run d ls ((analysis d ls).props ++ ps)
