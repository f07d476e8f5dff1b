-- The returns of the functions, by cases.
use mathlib.Core.Path.{◌≡◌, sym, ap, ap₂, ◌∙◌, refl}
use mathlib.Core.Bool.{Bool, true, false}
use mathlib.Core.List.{List}
use Prim.Native.Nat.{ℕ, ◌+◌, ◌*◌, ◌<◌, ◌≤◌}
use lib.Dec.{ltb}
use lib.ListN.{get_or, replicate}
use borrow.Author.Tests.{lt-ltb, le-ltb}
use Rattle.base.specs.Iter.{pick}
use Rattle.base.proofs.Loop.{pick_yes, pick_no}
use Rattle.plan.specs.Words.{variables_of}
use Rattle.views.specs.Compute.{Computed, compute_view}
use Rattle.views.specs.Cells.{Chosen, separate_ranges}
use Rattle.std.specs.Prelude.{Err}
use Rattle.reasons.specs.declared.Stop.{Stop}
use Rattle.reasons.specs.declared.Stop.TheVariants.{DisconnectedInside, Over, Under, Crowded, Apart, Crossing, ZeroSize, Unfit}
use Rattle.reasons.specs.declared.reason.Reason.{Reason}
use Rattle.reasons.specs.Verdicts.{Verdict, Ran}
use Rattle.reasons.specs.Reason.{reason_of}
use Rattle.std.specs.Prelude.{Option}
use Rattle.walks.specs.Written.{out_of}
use Rattle.walks.specs.Answers.{Answer, answer_of}
use Rattle.lists.specs.Parts.{and_word}
use Rattle.lists.specs.Lists.{reason_lits}
use Rattle.lists.specs.Conflicts.{chosen_of}
use Rattle.analysis.specs.Analyze.{analyze_words}
use Rattle.sweep.specs.Sweep.{cleared, first_false_at}
use Rattle.judge.specs.Judge.{Listing, listing, judged_of, judge_current, of_false, negation_at, judge_chosen, judge_conflict, ranges_of, crowded_by, judge_crowded, false_lits, judge_false, judge_proposals, judge_found, has_room, with_words, judge_ran, judge_told}
use Rattle.judge.specs.declared.Judgement.{Judgement}
use Rattle.judge.specs.declared.Judgement.TheVariants.{Fine, Stopped}

module _ (ws : List ℕ) (es : List (List ℕ)) (noted : List ℕ) where
  pub crowded_some : (r : ℕ) (l : List ℕ) (y : Computed) (c : Chosen) (x : Listing) → y ≡ compute_view ws es noted (replicate 512 0) → y.done ≡ true →
      c ≡ separate_ranges ws noted y.words r (replicate 64 0) → x ≡ judge_chosen ws es noted (Err (Crowded r)) (chosen_of c.list c.count) l → x ≡ judge_crowded ws es noted r l
  unfolding judge_crowded crowded_by ranges_of
  crowded_some r l y c x e h k z =
      z ∙ ap (λ (q : Chosen). judge_chosen ws es noted (Err (Crowded r)) (ranges_of ws es noted q) l) k ∙ sym (pick_yes _ _ h) ∙ ap (crowded_by ws es noted r l) e

  pub crowded_unfit : (r : ℕ) (l : List ℕ) (y : Computed) → y ≡ compute_view ws es noted (replicate 512 0) → y.done ≡ false → listing (Stopped 7) l ≡ judge_crowded ws es noted r l
  unfolding judge_crowded crowded_by
  crowded_unfit r l y e h = sym (pick_no _ _ h) ∙ ap (crowded_by ws es noted r l) e

  pub false_by : (words l : List ℕ) (p : ℕ) (why : Reason) (n : ℕ) (a b : Answer) → why ≡ reason_of (get_or words (68 + 2 * p) 0) (get_or words (69 + 2 * p) 0) →
      a ≡ reason_lits ws es noted why (out_of l 0) → n ≡ negation_at ws p → b ≡ and_word n a → b ≡ false_lits ws es noted words p l
  unfolding false_lits
  false_by words l p why n a b e h k z = z ∙ ap₂ and_word k (h ∙ ap (λ (r : Reason). reason_lits ws es noted r (out_of l 0)) e)

  pub false_of : (t words l : List ℕ) (p : ℕ) (r : Option ℕ) (m : List ℕ) (j : Judgement) → answer_of r m ≡ false_lits ws es noted words p l → j ≡ judge_current t r m →
      listing j m ≡ judge_false ws es noted t words p l
  unfolding judge_false of_false
  false_of t words l p r m j e h = ap (λ (x : Judgement). listing x m) h ∙ ap (of_false t) e

  module _ (t words l : List ℕ) (p : ℕ) (e : p ≡ first_false_at ws words t) where
    pub proposals_false : (x : Listing) → p < 2 * variables_of ws → x ≡ judge_false ws es noted t words p l → x ≡ judge_proposals ws es noted t words l
    unfolding judge_proposals
    proposals_false x h z =
        z ∙ sym (pick_yes _ (listing Fine l) (lt-ltb p (2 * variables_of ws) h))
        ∙ ap (λ (q : ℕ). pick (ltb q (2 * variables_of ws)) (judge_false ws es noted t words q l) (listing Fine l)) e

    pub proposals_fine : 2 * variables_of ws ≤ p → listing Fine l ≡ judge_proposals ws es noted t words l
    unfolding judge_proposals
    proposals_fine h =
        sym (pick_no (judge_false ws es noted t words p l) _ (le-ltb p (2 * variables_of ws) h))
        ∙ ap (λ (q : ℕ). pick (ltb q (2 * variables_of ws)) (judge_false ws es noted t words q l) (listing Fine l)) e

  pub found_arm : (t words l : List ℕ) (v w : Verdict) (x : Listing) → v ≡ w → x ≡ judge_found ws es noted t w words l → x ≡ judge_found ws es noted t v words l
  found_arm t words l v w x e h = h ∙ sym (ap (λ (y : Verdict). judge_found ws es noted t y words l) e)

  -- any other end of an analysis is a conflict without separate ranges
  pub found_other : (t words l : List ℕ) (s : Stop) → ((r : ℕ) → s ≡ Crowded r → ⊥) → (s ≡ ZeroSize → ⊥) → (s ≡ Unfit → ⊥) →
      judge_conflict ws es noted (Err s) l ≡ judge_found ws es noted t (Err s) words l
  unfolding judge_found
  found_other t words l (DisconnectedInside g) f h k = refl
  found_other t words l (Over v) f h k = refl
  found_other t words l (Under v) f h k = refl
  found_other t words l (Crowded r) f h k = absurd (f r refl)
  found_other t words l (Apart a b) f h k = refl
  found_other t words l (Crossing v) f h k = refl
  found_other t words l ZeroSize f h k = absurd (h refl)
  found_other t words l Unfit f h k = absurd (k refl)

  module _ (t p l : List ℕ) (b : Bool) (r : b ≡ has_room ws p l) where
    pub judge_some : (v : ℕ) (q : Ran) (x : Listing) → b ≡ true → q ≡ analyze_words ws es noted v (cleared p) →
        x ≡ judge_found ws es noted t q.verdict q.words l → with_words q.words x ≡ judge_told ws es noted v t p l
    unfolding judge_told judge_ran
    judge_some v q x h e z = ap (with_words q.words) z ∙ ap (judge_ran ws es noted t l) e ∙ sym (pick_yes _ _ (sym r ∙ h))

    pub judge_short : (v : ℕ) → b ≡ false → judged_of (Stopped 7) p l ≡ judge_told ws es noted v t p l
    unfolding judge_told
    judge_short v h = sym (pick_no _ _ (sym r ∙ h))
