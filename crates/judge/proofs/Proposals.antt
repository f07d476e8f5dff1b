-- The proposals' words after an analysis: those of the proposals of the standing literals' analysis, each at its literal's place. These are what
-- crate sweep's theorems ask for.
use mathlib.Core.Path.{◌≡◌, refl, sym, ap, ap₂, ◌∙◌}
use mathlib.Core.List.{List, [], ◌∷◌, map}
use Prim.Native.Nat.{ℕ, ◌+◌, ◌*◌, ◌/◌, ◌<◌, ◌≤◌}
use native.Mathlib.Omega.{arith}
use mathlib.Core.Bool.{true}
use lib.ListN.{length}
use Rattle.base.specs.Lists.{Every}
use Rattle.division.specs.Reasons.{Reason}
use Rattle.division.specs.Analysis.{Verdict, Proposal, Each, nothing, also}
use Rattle.division.specs.Runs as runs
use Rattle.division.specs.Runs.{analysis}
use Rattle.calls.specs.Look.{in_order, offers}
use Rattle.plan.specs.Words.{variables_of, unique_lit_at}
use Rattle.plan.specs.Plan.{plan_of}
use Rattle.plan.specs.Proper.{ProperWords}
use Rattle.noting.specs.Note.{known}
use Rattle.reasons.specs.Words.{stored}
use Rattle.reasons.specs.Reason.{Fits}
use Rattle.reasons.proofs.Stored.{reason_at, or_else, stored_means}
use Rattle.analysis.specs.Relabel.{relabel}
use Rattle.analysis.proofs.Places.{place_back}
use Rattle.sweep.specs.Sweep.{proposed_at, cleared}
use Rattle.sweep.specs.Relit.{relit, relits, relit_out, Blank, Inside, some}
use Rattle.sweep.proofs.Stored.{cleared_blank, proposed_some}
use Rattle.sweep.proofs.Swept.{reason_relit}
use Rattle.judge.specs.Answers.{at_places}
use Rattle.judge.proofs.Agrees.{Agrees}
use Rattle.judge.proofs.Known.{each_known, each_fits}

module _ (ws : List ℕ) (ends : List (List ℕ)) (p : ProperWords ws ends) where
  places_inside : (ps : List Proposal) → Each (λ l r. known ws (l / 2) ≡ true) ps → Inside ws (at_places ws ps)
  unfolding relabel
  places_inside [] nothing = Every.none
  places_inside (q ∷ ps) (also h e) = Every.more (place_back ws ends p q.lit h).0 (places_inside ps e)

  relits_back : (ps : List Proposal) → Each (λ l r. known ws (l / 2) ≡ true) ps → relits ws (at_places ws ps) ≡ ps
  unfolding relits relit relabel
  relits_back [] nothing = refl
  relits_back (q ∷ ps) (also h e) = ap₂ (λ (l : ℕ) (qs : List Proposal). record { lit = l; why = q.why } ∷ qs) (place_back ws ends p q.lit h).1 (relits_back ps e)

fits_placed : (ws : List ℕ) (ps : List Proposal) → Each (λ l r. Fits r) ps → Each (λ l r. Fits r) (at_places ws ps)
unfolding relabel
fits_placed ws [] nothing = nothing
fits_placed ws (q ∷ ps) (also h e) = also h (fits_placed ws ps e)

module _ (ws : List ℕ) (ends : List (List ℕ)) (noted ls : List ℕ) (k : Agrees ws ends noted ls) where
  abbrev ps : List Proposal
  ps = (analysis (plan_of ws ends) ls).props

  -- each proposed literal is known to the plan
  pub judged_inside : Inside ws (at_places ws ps)
  judged_inside = places_inside ws ends k.held.proper ps (each_known ws ends k.held.proper ls k.consistent)

  pub judged_relits : relits ws (at_places ws ps) ≡ ps
  judged_relits = relits_back ws ends k.held.proper ps (each_known ws ends k.held.proper ls k.consistent)

  pub judged_offers : (v : Verdict) → offers (relit_out ws v (at_places ws ps)) ≡ offers (analysis (plan_of ws ends) ls)
  unfolding offers
  judged_offers v = ap (λ (qs : List Proposal). in_order (map (λ q. q.lit) qs)) judged_relits

  -- the words of a place that is proposed are those of its literal's newest reason; the others stay
  module _ (words : List ℕ) (long : 68 + 4 * variables_of ws ≤ length words) where
    abbrev zeros : List ℕ
    zeros = cleared words

    pub judged_blank : Blank ws zeros
    judged_blank = cleared_blank ws words k.held.proper.few.0 long

    reason_of_place : (q : ℕ) → q < 2 * variables_of ws → runs.reason_of (unique_lit_at ws q) ps ≡ runs.reason_of q (at_places ws ps)
    reason_of_place q h =
        ap (runs.reason_of (unique_lit_at ws q)) (sym judged_relits) ∙ reason_relit ws ends k.held.proper (at_places ws ps) q judged_inside h

    pub judged_reasons : (q : ℕ) → q < 2 * variables_of ws →
        reason_at (stored (at_places ws ps) zeros) q ≡ or_else (runs.reason_of (unique_lit_at ws q) ps) (reason_at zeros q)
    judged_reasons q h =
        let b = judged_blank in
        let l = b.long in
        let f = b.few in
        stored_means (at_places ws ps) zeros q (omega arith) (omega arith) (fits_placed ws ps (each_fits ws ends k.held.proper ls k.consistent))
        ∙ ap (λ (m : List Reason). or_else m (reason_at zeros q)) (sym (reason_of_place q h))

    -- the places that are proposed are those of the literals that have a reason
    pub judged_proposed : (q : ℕ) → q < 2 * variables_of ws →
        proposed_at (stored (at_places ws ps) zeros) q ≡ some (runs.reason_of (unique_lit_at ws q) ps)
    judged_proposed q h =
        proposed_some ws zeros judged_blank (at_places ws ps) q judged_inside h ∙ ap some (sym (reason_of_place q h))
