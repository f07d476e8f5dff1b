-- An analysis over words names each literal by its place; these are its proposals with the literals themselves.
use Rattle.std.specs.Prelude.{◌≡◌, Bool, true, false, List, [], ◌∷◌, map, ℕ, ◌+◌, ◌*◌, ◌≤◌, ◌<◌, length}
use Rattle.base.specs.Lists.{Every}
use Rattle.division.specs.Reasons.{Reason}
use Rattle.division.specs.Analysis.{Verdict, Proposal, Out}
use Rattle.plan.specs.Words.{variables_of, unique_lit_at}
use Rattle.sweep.specs.Sweep.{proposed_at}

unfoldable pub relit : List ℕ → Proposal → Proposal
relit ws p = record { lit = unique_lit_at ws p.lit; why = p.why }

unfoldable pub relits : List ℕ → List Proposal → List Proposal
relits ws ps = map (relit ws) ps

abbrev pub relit_out : List ℕ → Verdict → List Proposal → Out
relit_out ws v ps = record { verdict = v; props = relits ws ps }

-- the places of the proposals
abbrev pub places : List Proposal → List ℕ
places ps = map (λ p. p.lit) ps

-- words without marks, with room for all places
pub record Blank (ws words : List ℕ) : Type 0 where
  pub few : variables_of ws ≤ 2176
  pub long : 68 + 4 * variables_of ws ≤ length words
  pub none : (p : ℕ) → proposed_at words p ≡ false

-- each proposal's place is one of the distinct literals'
abbrev pub Inside : List ℕ → List Proposal → Type 0
Inside ws ps = Every (λ p. p < 2 * variables_of ws) (places ps)

-- whether there is a reason
unfoldable pub some : List Reason → Bool
some [] = false
some (r ∷ rs) = true
