-- Noted words that stand for what standing literals give, and the analysis of them.
use mathlib.Core.Path.{◌≡◌, ap, ◌∙◌}
use mathlib.Core.List.{List}
use Prim.Native.Nat.{ℕ, ◌≤◌}
use native.Mathlib.Omega.{arith}
use lib.ListN.{length}
use Rattle.division.specs.Plan.{Proper}
use Rattle.division.specs.Analysis.{Out, analyzed}
use Rattle.division.specs.Noting.{note_all, Consistent}
use Rattle.division.specs.Runs.{analysis}
use Rattle.division.specs.Views.{view_of}
use Rattle.division.specs.Agree.{SameState}
use Rattle.division.proofs.Alike.{analysis_same}
use Rattle.plan.specs.Plan.{plan_of}
use Rattle.plan.specs.Proper.{ProperWords}
use Rattle.plan.proofs.Abstract.{proper_plan}
use Rattle.noting.specs.Words.{state_of, crossed_in}
use Rattle.noting.specs.Note.{Noting}
use Rattle.noting.proofs.Distinct.{never_both}
use Rattle.noting.proofs.Replaying.{standing_distinct}
use Rattle.noting.specs.Standing.{standing_of}
use Rattle.noting.specs.Good.{GoodLog}
use Rattle.noting.proofs.Valid.{valid_state}
use Rattle.reasons.specs.Verdicts.{ran_of}
use Rattle.lists.specs.Within.{Held}
use Rattle.analysis.specs.Placed.{place_of_lit}
use Rattle.analysis.specs.Relabel.{relabelled}
use Rattle.analysis.specs.Analyze.{analyze_words}
use Rattle.analysis.proofs.Analyzing.{analyzed_words}

pub record Agrees (ws : List ℕ) (ends : List (List ℕ)) (noted ls : List ℕ) : Type 0 where
  pub held : Held ws ends noted
  pub len : length noted ≡ 384
  pub state : SameState (plan_of ws ends) (state_of noted) (note_all (plan_of ws ends) ls)
  pub consistent : Consistent ls

-- what passes refusal 7 does
pub valid_agrees : (ws : List ℕ) (ends : List (List ℕ)) → ProperWords ws ends → 4360 ≤ length ws → (x : Noting) → GoodLog ws x → Agrees ws ends x.noted (standing_of x)
valid_agrees ws ends p long x v = record {
  held = record { proper = p; words = long; states = omega (arith, v.words) };
  len = v.words;
  state = valid_state ws ends p x v;
  consistent = never_both (standing_of x) (standing_distinct ws ends p x.noted x.log x.cursor v.passes);
}

module _ (ws : List ℕ) (ends : List (List ℕ)) (noted ls : List ℕ) (k : Agrees ws ends noted ls) where
  pub proper : Proper (plan_of ws ends)
  proper = proper_plan ws ends k.held.proper

  pub analysis_is : analyzed (plan_of ws ends) (state_of noted) (view_of (plan_of ws ends) (state_of noted)) ≡ analysis (plan_of ws ends) ls
  analysis_is = analysis_same (plan_of ws ends) proper (state_of noted) (note_all (plan_of ws ends) ls) k.state

  -- what `analyze` leaves is the analysis of the standing literals, each proposal at its literal's place
  pub ran_is : (proposals : List ℕ) →
      analyze_words ws ends noted (crossed_in ws noted) proposals
      ≡ ran_of (relabelled (place_of_lit ws) (analysis (plan_of ws ends) ls)) proposals
  ran_is proposals = analyzed_words ws ends k.held.proper noted k.len proposals ∙ ap (λ (o : Out). ran_of (relabelled (place_of_lit ws) o) proposals) analysis_is
