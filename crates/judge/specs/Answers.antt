-- What a judgement has to do with the definition's: crate calls' `looked`.
use Rattle.std.specs.Prelude.{◌≡◌, List, map, ℕ, length, take}
use Rattle.std.proofs.lemmas.List.Edits.{sets}
use Rattle.calls.specs.Look as calls
use Rattle.division.specs.Plan.{Plan}
use Rattle.division.specs.Analysis.{Proposal}
use Rattle.division.specs.Runs.{analysis}
use Rattle.reasons.specs.Words.{stored}
use Rattle.analysis.specs.Placed.{place_of_lit}
use Rattle.analysis.specs.Relabel.{relabel}
use Rattle.sweep.specs.Sweep.{cleared}
use Rattle.judge.specs.Judge.{Judged}
use Rattle.judge.specs.declared.Judgement.{Judgement}
use Rattle.judge.specs.declared.Judgement.TheVariants.{Fine, Clash, Stopped}

-- the code's judgement for the definition's, where n literals are left
unfoldable pub answer_for : calls.Judgement → ℕ → Judgement
answer_for calls.fine n = Fine
answer_for calls.clash n = Clash n
answer_for (calls.stopped m) n = Stopped m

-- buffer l and what it holds after it, where m is the list that the definition leaves: after a refusal anything
abbrev pub Leaves : calls.Judgement → List ℕ → List ℕ → List ℕ → Type 0
Leaves calls.fine m l after = after ≡ l
Leaves calls.clash m l after = (after ≡ sets l 0 m) × (take (length m) after ≡ m)
Leaves (calls.stopped n) m l after = Unit {0}

-- what the records of the definition are, where it does not refuse
abbrev pub Keeps : {A : Type 0} → calls.Judgement → A → A → Type 0
Keeps calls.fine a b = a ≡ b
Keeps calls.clash a b = a ≡ b
Keeps (calls.stopped n) a b = Unit {0}

-- the proposals, each at its literal's place
abbrev pub at_places : List ℕ → List Proposal → List Proposal
at_places ws ps = map (relabel (place_of_lit ws)) ps

-- x is what the definition says of ls, which stands, and table t
pub record JudgedBy (ws : List ℕ) (d : Plan) (ls t proposals l : List ℕ) (x : Judged) : Type 0 where
  pub answer : x.judgement ≡ answer_for (calls.looked d ls t).judgement (length (calls.looked d ls t).left)
  pub leaves : Leaves (calls.looked d ls t).judgement (calls.looked d ls t).left l x.left
  -- the proposals' words are those of the analysis, refused or not
  pub words : x.proposals ≡ stored (at_places ws (analysis d ls).props) (cleared proposals)
  pub records : Keeps (calls.looked d ls t).judgement (calls.looked d ls t).records (analysis d ls).props
