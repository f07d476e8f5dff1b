-- The lowest false proposal: its reason's list and its negation stand whole from place 0 of the buffer on.
use mathlib.Core.Path.{◌≡◌, sym, ap, ap₂, ◌∙◌, subst}
use mathlib.Core.Bool.{true, false}
use mathlib.Core.List.{List, [], ◌∷◌, ◌++◌}
use Prim.Native.Nat.{ℕ, ◌+◌, ◌*◌, ◌/◌, ◌%◌, ◌<◌, ◌≤◌}
use native.Mathlib.Omega.{arith}
use lib.Dec.{ltb}
use lib.ListN.{length, get_or, length-append}
use lib.Seq.{sets}
use borrow.Author.Tests.{ltb-true, ltb-false}
use Rattle.base.specs.Iter.{pick}
use Rattle.base.proofs.Loop.{pick_yes, pick_no}
use Rattle.sat.specs.Literal.{negate}
use Rattle.division.specs.Plan.{Plan}
use Rattle.division.specs.State.{State}
use Rattle.division.specs.Reasons.{Reason, edge_in_same_group, edge_between_different_groups, too_large_if_regions_are_merged, region_already_large, region_already_small, inconsistent_bounds_if_regions_are_merged, bound_propagation_within_region, adjacent_same_size_regions, list_of}
use Rattle.division.specs.Analysis.{Proposal, going}
use Rattle.division.specs.Noting.{note_all}
use Rattle.division.specs.Runs as runs
use Rattle.division.specs.Runs.{analysis, Justifies}
use Rattle.division.proofs.Alike.{Names, list_same}
use Rattle.division.proofs.Whole.{each_found, reasons, reason_there}
use Rattle.calls.specs.Table.{some_current}
use Rattle.calls.specs.Look.{offers, first_false, list_for, false_list, gone}
use Rattle.calls.proofs.Alike.{gone_same}
use Rattle.calls.proofs.Looks.{offer_in, first_in}
use Rattle.calls.proofs.Fetchable.{each_map}
use Rattle.plan.specs.Words.{vertices_of, edges_of, variables_of, unique_lit_at}
use Rattle.plan.specs.Plan.{plan_of}
use Rattle.noting.specs.Words.{state_of}
use Rattle.reasons.specs.Words.{stored}
use Rattle.reasons.specs.Reason.{reason_of}
use Rattle.reasons.proofs.Stored.{reason_at, or_else}
use Rattle.walks.specs.Written.{out_of}
use Rattle.walks.specs.Answers.{given}
use Rattle.lists.specs.Parts.{and_word}
use Rattle.lists.specs.Within.{Within}
use Rattle.lists.proofs.Walks.{word_given}
use Rattle.lists.proofs.Fits.{proposed_within}
use Rattle.lists.proofs.Lists.{reason_listed}
use Rattle.sweep.specs.Sweep.{cleared, first_false_at}
use Rattle.sweep.proofs.Against.{false_none, false_some}
use Rattle.judge.specs.Judge.{listing, negation_at, judge_current, of_false, false_lits, judge_false, judge_proposals}
use Rattle.judge.specs.declared.Judgement.TheVariants.{Fine, Clash, Stopped}
use Rattle.judge.specs.Answers.{at_places}
use Rattle.judge.proofs.Agrees.{Agrees, proper}
use Rattle.judge.proofs.Known.{each_proposed, proposed_there}
use Rattle.judge.proofs.Proposals.{judged_inside, judged_offers, judged_blank, judged_reasons}
use Rattle.judge.proofs.Conflicts.{given_whole, list_taken}

pub within_names : (d : Plan) (r : Reason) → Within d r → Names d r
within_names d (edge_in_same_group g) h = tt
within_names d (edge_between_different_groups i g f) h = tt
within_names d (too_large_if_regions_are_merged g ls) h = tt
within_names d (region_already_large v) h = tt
within_names d (region_already_small v) h = tt
within_names d (inconsistent_bounds_if_regions_are_merged g a b f) (h, i, j) = (i, j)
within_names d (bound_propagation_within_region p u ls) h = tt
within_names d (adjacent_same_size_regions a la ua b lb ub u) h = tt

module _ (ws : List ℕ) (ends : List (List ℕ)) (noted ls : List ℕ) (k : Agrees ws ends noted ls) (proposals : List ℕ) (room : 68 + 4 * variables_of ws ≤ length proposals) where
  abbrev d : Plan
  d = plan_of ws ends

  abbrev s : State
  s = state_of noted

  abbrev u : State
  u = note_all d ls

  abbrev ps : List Proposal
  ps = (analysis d ls).props

  -- the proposals' words after the analysis
  abbrev words : List ℕ
  words = stored (at_places ws ps) (cleared proposals)

  -- the list of a place's reason is the one that the definition gives
  module _ (q : ℕ) (h : q < 2 * variables_of ws) (r : Reason) (e : runs.reason_of (unique_lit_at ws q) ps ≡ r ∷ []) where
    within : Within d r
    within = each_found (unique_lit_at ws q) r ps (each_map (proposed_within d u) (each_proposed ws ends k.held.proper ls k.consistent)) e

    there : gone d s r ≡ false
    there =
        gone_same d (proper ws ends noted ls k) s u k.state r
        ∙ each_found (unique_lit_at ws q) r ps (each_map (proposed_there d (proper ws ends noted ls k) u) (each_proposed ws ends k.held.proper ls k.consistent)) e

    negation_is : negation_at ws q ≡ negate (unique_lit_at ws q)
    unfolding negation_at
    negation_is =
        let v = (k.held.proper.listed (q / 2) (omega arith)).range in
        let z : unique_lit_at ws q % 4294967296 ≡ unique_lit_at ws q = omega arith in
        ap negate z

    lits_are : (l : List ℕ) → false_lits ws ends noted words q l ≡ given (list_of d u r ++ (negate (unique_lit_at ws q) ∷ [])) (out_of l 0)
    unfolding false_lits or_else
    lits_are l =
        ap₂ and_word negation_is
        (reason_listed ws ends noted k.held (reason_of (get_or words (68 + 2 * q) 0) (get_or words (69 + 2 * q) 0)) r (out_of l 0)
        (judged_reasons ws ends noted ls k proposals room q h ∙ ap (λ (m : List Reason). or_else m (reason_at (cleared proposals) q)) e) within there
        ∙ ap (λ (m : List ℕ). given m (out_of l 0)) (list_same d (proper ws ends noted ls k) s u k.state r (within_names d r within)))
        ∙ word_given (negate (unique_lit_at ws q)) (list_of d u r) (out_of l 0)

    false_is : false_list d ls (analysis d ls) (unique_lit_at ws q) ≡ list_of d u r ++ (negate (unique_lit_at ws q) ∷ [])
    unfolding false_list list_for
    false_is = ap (λ (z : List Reason). list_for d ls z ++ (negate (unique_lit_at ws q) ∷ [])) e

    false_short : length (list_of d u r ++ (negate (unique_lit_at ws q) ∷ [])) ≤ edges_of ws + 2 * vertices_of ws + 4
    false_short =
        let j : Justifies d ls (unique_lit_at ws q) r = each_found (unique_lit_at ws q) r ps (reasons d (proper ws ends noted ls k) ls k.consistent ls k.consistent (λ _ m. m)) e in
        simp length-append (omega (arith, j.fits))

  module _ (t l : List ℕ) (long : edges_of ws + 2 * vertices_of ws + 4 ≤ length l) where
    abbrev at : ℕ
    at = first_false_at ws words t

    abbrev list : List ℕ
    list = false_list d ls (analysis d ls) (unique_lit_at ws at)

    firsts : at < 2 * variables_of ws → first_false t (offers (analysis d ls)) ≡ unique_lit_at ws at ∷ []
    firsts h =
        ap (first_false t) (sym (judged_offers ws ends noted ls k going))
        ∙ (false_some ws ends k.held.proper (cleared proposals) (judged_blank ws ends noted ls k proposals room) going (at_places ws ps) (judged_inside ws ends noted ls k) t h).0

    -- no proposal is false
    pub fine_found : ltb at (2 * variables_of ws) ≡ false → (first_false t (offers (analysis d ls)) ≡ []) × (judge_proposals ws ends noted t words l ≡ listing Fine l)
    unfolding judge_proposals
    fine_found e = (
      ap (first_false t) (sym (judged_offers ws ends noted ls k going))
          ∙ false_none ws ends k.held.proper (cleared proposals) (judged_blank ws ends noted ls k proposals room) going (at_places ws ps) (judged_inside ws ends noted ls k) t (ltb-false at (2 * variables_of ws) e),
      pick_no _ _ e,
    )

    -- the first one that is
    pub false_found : ltb at (2 * variables_of ws) ≡ true →
        (first_false t (offers (analysis d ls)) ≡ unique_lit_at ws at ∷ []) × (length list ≤ length l)
        × (judge_proposals ws ends noted t words l ≡ listing (pick (some_current t list) (Clash (length list)) (Stopped 14)) (sets l 0 list))
    unfolding judge_proposals judge_false of_false judge_current
    false_found e =
        let h = ltb-true at (2 * variables_of ws) e in
        let f = firsts h in
        let (r, y) = reason_there (unique_lit_at ws at) ps (offer_in (analysis d ls) (unique_lit_at ws at) (first_in t (unique_lit_at ws at) [] _ f)) in
        let i = false_is at h r y in
        let z : length list ≤ length l = subst (λ (m : List ℕ). length m ≤ length l) (sym i) (omega (arith, false_short at h r y)) in (
          f,
          z,
          pick_yes _ _ e
              ∙ ap (of_false t) (lits_are at h r y l ∙ ap (λ (m : List ℕ). given m (out_of l 0)) (sym i) ∙ given_whole list l z)
              ∙ ap (λ (m : List ℕ). listing (pick (some_current t m) (Clash (length list)) (Stopped 14)) (sets l 0 list)) (list_taken list l z),
        )
