-- After an analysis is recorded, the reason at each place is the newest: the analysis's, else the one that was there.
use mathlib.Core.Path.{◌≡◌, refl, sym, ap, ap₂, ◌∙◌}
use mathlib.Core.Logic.{⊎_elim}
use mathlib.Core.Bool.{Bool, true, false}
use mathlib.Core.List.{List, [], ◌∷◌, ◌++◌}
use Prim.Native.Nat.{ℕ, zero, suc, ◌+◌, ◌*◌, ◌<◌, ◌≤◌}
use native.Mathlib.Omega.{arith}
use native.Mathlib.Nat.{eq-or-lt_of_le}
use lib.Dec.{eqb, ltb}
use lib.ListN.{length, get_or, set, length-set}
use lib.Seq.{get_or-set_same, get_or-set_other}
use borrow.Author.Tests.{lt-ltb}
use Rattle.base.specs.Iter.{iter, pick}
use Rattle.base.proofs.Loop.{pick_yes, pick_no, tested}
use Rattle.division.specs.Reasons as abstract
use Rattle.division.specs.Analysis.{Proposal}
use Rattle.division.specs.Runs as runs
use Rattle.division.specs.Runs.{analysis}
use Rattle.plan.specs.Words.{variables_of, unique_lit_at}
use Rattle.plan.specs.Plan.{plan_of}
use Rattle.noting.specs.Words.{capped}
use Rattle.reasons.specs.declared.reason.Reason.TheVariants.{NotPropagated}
use Rattle.reasons.specs.Words.{stored}
use Rattle.reasons.specs.Reason.{reason_of, meaning}
use Rattle.reasons.proofs.Stored.{or_else}
use Rattle.recorded.specs.declared.Recorded.{Recorded}
use Rattle.recorded.specs.declared.Reasons.{Reasons}
use Rattle.recorded.specs.Recorded.{holding, reason_at, newest, recorded}
use Rattle.sweep.specs.Sweep.{cleared, proposed_at}
use Rattle.sweep.specs.Relit.{some}
use Rattle.judge.specs.Answers.{at_places}
use Rattle.judge.proofs.Agrees.{Agrees}
use Rattle.judge.proofs.Proposals.{judged_proposed, judged_reasons}

abbrev none : Recorded
none = holding NotPropagated

-- ---- the loop
module _ (words : List ℕ) (at : List Recorded) where
  abbrev loop : ℕ → List Recorded
  loop n = iter (λ p l. set l p (newest words p (get_or l p none))) n at

  loop_length : (n : ℕ) → length (loop n) ≡ length at
  unfolding iter
  loop_length zero = refl
  loop_length (suc n) = length-set (loop n) n _ ∙ loop_length n

  loop_out : (n p : ℕ) → n ≤ p → get_or (loop n) p none ≡ get_or at p none
  unfolding iter
  loop_out zero p h = refl
  loop_out (suc n) p h = get_or-set_other (loop n) n p _ none (λ (e : p ≡ n). omega arith) ∙ loop_out n p (omega arith)

  loop_in : (n p : ℕ) → p < n → n ≤ length at → get_or (loop n) p none ≡ newest words p (get_or at p none)
  unfolding iter
  loop_in zero p h k = absurd (omega arith)
  loop_in (suc n) p h k = ⊎_elim
      (λ (e : p ≡ n).
      ap (λ (i : ℕ). get_or (loop (suc n)) i none) e
      ∙ get_or-set_same (loop n) n _ none (omega (arith, loop_length n))
      ∙ ap (newest words n) (loop_out n n (omega arith))
      ∙ ap (λ (i : ℕ). newest words i (get_or at i none)) (sym e))
      (λ (b : p < n). get_or-set_other (loop n) n p _ none (λ (e : p ≡ n). omega arith) ∙ loop_in n p b (omega arith))
      (eq-or-lt_of_le {n = p} {m = n} (omega arith))

newest_means : (b : Bool) (a c : Recorded) → meaning (pick b a c).reason ≡ pick b (meaning a.reason) (meaning c.reason)
unfolding pick
newest_means true a c = refl
newest_means false a c = refl

module _ (ws words : List ℕ) (rs : Reasons) (few : variables_of ws ≤ 2176) (long : length rs.at ≡ 4352) where
  capped_is : capped (2 * variables_of ws) 4352 ≤ 4352
  unfolding capped
  capped_is = tested (ltb (2 * variables_of ws) 4352) (λ t. let e = pick_yes (2 * variables_of ws) 4352 t in omega arith) (λ t. let e = pick_no (2 * variables_of ws) 4352 t in omega arith)

  below_capped : (p : ℕ) → p < 2 * variables_of ws → p < capped (2 * variables_of ws) 4352
  unfolding capped
  below_capped p h = tested (ltb (2 * variables_of ws) 4352) (λ t. let e = pick_yes (2 * variables_of ws) 4352 t in omega arith) (λ t. let e = pick_no (2 * variables_of ws) 4352 t in omega arith)

  pub recorded_length : length (recorded ws words rs).at ≡ 4352
  unfolding recorded
  recorded_length = loop_length words rs.at (capped (2 * variables_of ws) 4352) ∙ long

  recorded_means : (p : ℕ) → p < 2 * variables_of ws →
      meaning (reason_at (recorded ws words rs) p) ≡ pick (proposed_at words p) (meaning (reason_of (get_or words (68 + 2 * p) 0) (get_or words (69 + 2 * p) 0))) (meaning (reason_at rs p))
  unfolding reason_at recorded newest
  recorded_means p h =
      let t = lt-ltb p 4352 (omega arith) in
      ap meaning (pick_yes _ _ t)
      ∙ ap (λ (r : Recorded). meaning r.reason) (loop_in words rs.at (capped (2 * variables_of ws) 4352) p (below_capped p h) (omega (arith, capped_is)))
      ∙ newest_means (proposed_at words p) _ _
      ∙ ap (λ (m : List abstract.Reason). pick (proposed_at words p) (meaning (reason_of (get_or words (68 + 2 * p) 0) (get_or words (69 + 2 * p) 0))) m) (ap meaning (sym (pick_yes _ _ t)))

-- ---- the newest of two lists of reasons
reason_over : (l : ℕ) (ps old : List Proposal) → runs.reason_of l (ps ++ old) ≡ or_else (runs.reason_of l ps) (runs.reason_of l old)
unfolding or_else runs.reason_of
reason_over l [] old = refl
reason_over l (q ∷ ps) old = tested (eqb l q.lit)
    (λ t. pick_yes _ _ t ∙ ap (λ (m : List abstract.Reason). or_else m (runs.reason_of l old)) (sym (pick_yes (q.why ∷ []) (runs.reason_of l ps) t)))
    (λ t. pick_no _ _ t ∙ reason_over l ps old ∙ ap (λ (m : List abstract.Reason). or_else m (runs.reason_of l old)) (sym (pick_no (q.why ∷ []) (runs.reason_of l ps) t)))

over_picked : (ms rest old : List abstract.Reason) → pick (some ms) (or_else ms rest) old ≡ or_else ms old
unfolding some or_else pick
over_picked [] rest old = refl
over_picked (r ∷ rs) rest old = refl

module _ (ws : List ℕ) (ends : List (List ℕ)) (noted ls : List ℕ) (k : Agrees ws ends noted ls) (proposals : List ℕ) (room : 68 + 4 * variables_of ws ≤ length proposals) where
  abbrev ps : List Proposal
  ps = (analysis (plan_of ws ends) ls).props

  abbrev after : List ℕ
  after = stored (at_places ws ps) (cleared proposals)

  pub recorded_newest : (rs : Reasons) → length rs.at ≡ 4352 → (old : List Proposal) (p : ℕ) → p < 2 * variables_of ws → meaning (reason_at rs p) ≡ runs.reason_of (unique_lit_at ws p) old →
      meaning (reason_at (recorded ws after rs) p) ≡ runs.reason_of (unique_lit_at ws p) (ps ++ old)
  recorded_newest rs long old p h e =
      let l = unique_lit_at ws p in
      recorded_means ws after rs k.held.proper.few.0 long p h
      ∙ ap₂ (λ (b : Bool) (m : List abstract.Reason). pick b m (meaning (reason_at rs p))) (judged_proposed ws ends noted ls k proposals room p h) (judged_reasons ws ends noted ls k proposals room p h)
      ∙ over_picked (runs.reason_of l ps) _ (meaning (reason_at rs p))
      ∙ ap (or_else (runs.reason_of l ps)) e
      ∙ sym (reason_over l ps old)
