-- The reason that is read from the bytes is the one recorded in the state that they stand for.
use Prim.Native.Nat.{ℕ, ◌+◌, ◌*◌}
use mathlib.Core.Path.{◌≡◌, refl, sym, ap, ◌∙◌}
use mathlib.Core.Bool.{true, false}
use mathlib.Core.List.{List}
use lib.Dec.{ltb}
use lib.IntN.{ℤ}
use borrow.Author.Tests.{ltb-true}
use Rattle.base.specs.Iter.{pick}
use Rattle.base.proofs.Loop.{pick_yes, pick_no, tested}
use Rattle.analysis.specs.Placed.{place_of_lit}
use Rattle.reasons.specs.declared.reason.Reason.{Reason}
use Rattle.reasons.specs.declared.reason.Reason.TheVariants.{NotPropagated}
use Rattle.reasons.specs.Reason.{reason_of, later_reason, kind_of}
use Rattle.recorded.specs.declared.Recorded.{Recorded}
use Rattle.recorded.specs.Recorded.{holding, reason_at}
use Rattle.refusals.specs.Refusals.{lit_number}
use Rattle.graph_division.specs.Calls.{recorded_for}
use Rattle.base.specs.Bytes.{long_at}
use Rattle.byte_calls.specs.Layout.{plan_in, tab_of, reason_in, reason_word_in, reasons_in, state_in}
use Rattle.byte_calls.proofs.Standing.{tab_of_at}

no_reason : NotPropagated ≡ reason_of 0 0
unfolding reason_of later_reason pick
no_reason = refl

-- the reason recorded at a place is that of its two words
recorded_at : (b : List ℕ) (p : ℕ) → reason_of (reason_word_in b 63808 p) (reason_word_in b 63816 p) ≡ reason_at (reasons_in b) p
unfolding reason_at reasons_in reason_in reason_word_in
recorded_at b p = tested (ltb p 4352)
    (λ (t : ltb p 4352 ≡ true). (λ i. reason_of (pick_yes (long_at b (63808 + 16 * p)) 0 t i) (pick_yes (long_at b (63816 + 16 * p)) 0 t i))
    ∙ (ap (λ (r : Recorded). r.reason) (sym (tab_of_at (reason_in b) 4352 p (holding NotPropagated) (ltb-true p 4352 t))) ∙ sym (pick_yes _ _ t)))
    (λ (t : ltb p 4352 ≡ false). (λ i. reason_of (pick_no (long_at b (63808 + 16 * p)) 0 t i) (pick_no (long_at b (63816 + 16 * p)) 0 t i)) ∙ (sym no_reason ∙ sym (pick_no _ _ t)))

-- what is read at the literal's place is the reason recorded for it
pub reason_is : (b ws : List ℕ) (l p x y : ℕ) (lit : ℤ) (r : Reason) → ws ≡ plan_in b → l ≡ lit_number lit → p ≡ place_of_lit ws l → x ≡ reason_word_in b 63808 p → y ≡ reason_word_in b 63816 p →
    r ≡ reason_of x y → r ≡ recorded_for (state_in b) (lit_number lit)
unfolding state_in recorded_for
reason_is b ws l p x y lit r w m q g h k =
    k ∙ ((λ i. reason_of (g i) (h i)) ∙ (recorded_at b p ∙ ap (reason_at (reasons_in b)) (q ∙ (λ i. place_of_lit (w i) (m i)))))
