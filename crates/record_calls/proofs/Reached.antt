-- Of a plan that passes its own test, refusal 7 of the loaded words is refusal 7 of the whole log: of a log only its length and what
-- is up to the cursor matter.
use mathlib.Core.Path.{◌≡◌, refl, sym, ap, ap₂, ◌∙◌}
use mathlib.Core.Logic.{⊎_elim}
use mathlib.Core.Bool.{Bool, true, false, not, ◌||◌, ◌&&◌, true≢false, false≢true}
use mathlib.Core.List.{List}
use Prim.Native.Nat.{ℕ, ◌*◌, ◌<◌, ◌≤◌}
use native.Mathlib.Omega.{arith}
use lib.Dec.{leb, ltb}
use Rattle.std.proofs.lemmas.Bool.Decides.{nat_tests}
use lib.ListN.{length, get_or}
use borrow.Author.Tests.{ltb-true, ltb-false, le-ltb}
use Rattle.base.proofs.Loop.{tested}
use Rattle.base.proofs.Tests.{or_none, or_cases, not_false}
use Rattle.undo_log.specs.declared.Cursor.{Cursor}
use Rattle.plan.specs.Words.{slots_of}
use Rattle.plan.specs.Check.{counts_bad, plan_bad}
use Rattle.plan.specs.Proper.{ProperWords}
use Rattle.plan.proofs.Proper.{proper}
use Rattle.noting.specs.Replay.{log_bad}
use Rattle.noting.specs.Buffers.{log_short}
use Rattle.noting.proofs.Preserved.{passes_other}
use Rattle.noting.proofs.Replaying.{passed_logged, log_fits}
use Rattle.noting.proofs.Room.{log_holds}
use Rattle.refusals.specs.Refusals.{state_bad}
use Rattle.record_calls.specs.Reach.{reaches}

not_true : (t : Bool) → not t ≡ true → t ≡ false
not_true true e = absurd (false≢true e)
not_true false e = refl

-- one test after the other, as the code makes them
all_four : (p s a b : Bool) → (((not p && not s) && not a) && not b) ≡ not (p || (s || (a || b)))
all_four true s a b = refl
all_four false true a b = refl
all_four false false true b = refl
all_four false false false b = refl

within : (m n : ℕ) → leb m n ≡ not (ltb n m)
within m n = grind (arith, nat_tests)

module _ (ws : List ℕ) (ends : List (List ℕ)) (noted : List ℕ) (c : Cursor) where
  pub reaches_by : (len : ℕ) (x y z : Bool) → x ≡ (not (plan_bad ws ends) && not (log_short ws len)) → y ≡ (x && leb c.used len) → z ≡ (y && leb c.used 4352) → z ≡ reaches ws ends len c
  unfolding reaches
  reaches_by len x y z e f g =
      g ∙ ap₂ (λ (a b : Bool). a && b) (f ∙ ap₂ (λ (a b : Bool). a && b) e (within c.used len)) (within c.used 4352) ∙ all_four (plan_bad ws ends) (log_short ws len) (ltb len c.used) (ltb 4352 c.used)

  pub reached_passes : (len : ℕ) → reaches ws ends len c ≡ true → plan_bad ws ends ≡ false
  unfolding reaches
  reached_passes len e = (or_none (plan_bad ws ends) _ (not_true _ e)).0

  pub reached_proper : (len : ℕ) → reaches ws ends len c ≡ true → ProperWords ws ends
  reached_proper len e = proper ws ends (reached_passes len e)

  pub reached : (len : ℕ) → reaches ws ends len c ≡ true → (log_short ws len ≡ false) × (c.used ≤ len) × (c.used ≤ 4352)
  unfolding reaches
  reached len e =
      let (a, f) = or_none (log_short ws len) _ (or_none (plan_bad ws ends) _ (not_true _ e)).1 in
      let (b, d) = or_none (ltb len c.used) (ltb 4352 c.used) f in
      (a, ltb-false len c.used b, ltb-false 4352 c.used d)

  -- a proper plan's log fits 4352 words
  wide : ProperWords ws ends → (n : ℕ) → n ≡ 4352 → log_short ws n ≡ false
  unfolding log_short
  wide p n e = le-ltb n (2 * slots_of ws) (omega (arith, p.few.1))

  pub state_same : (v w : List ℕ) → reaches ws ends (length w) c ≡ true → length v ≡ 4352 → ((i : ℕ) → i < c.used → get_or v i 0 ≡ get_or w i 0) → state_bad ws ends noted v c ≡ state_bad ws ends noted w c
  unfolding state_bad
  state_same v w r long same =
      let p = reached_proper (length w) r in
      ap (λ (b : Bool). counts_bad ws || b)
      (ap₂ (λ (a b : Bool). a || b) (wide p (length v) long ∙ sym (reached (length w) r).0) (logs p))
    where
      logs : ProperWords ws ends → log_bad ws noted v c ≡ log_bad ws noted w c
      logs p = tested (log_bad ws noted w c)
          (λ t. tested (log_bad ws noted v c) (λ u. u ∙ sym t) (λ u. absurd (true≢false (sym t ∙ passes_other ws ends p noted v w c (reached (length w) r).1 (λ i h. sym (same i h)) u))))
          (λ t. passes_other ws ends p noted w v c (omega (arith, long, (reached (length w) r).2)) same t ∙ sym t)

  -- what cannot be loaded is refused with 7
  pub state_out : (w : List ℕ) → plan_bad ws ends ≡ false → reaches ws ends (length w) c ≡ false → state_bad ws ends noted w c ≡ true
  unfolding state_bad reaches
  state_out w fine e = tested (counts_bad ws) (λ t. ap (λ (b : Bool). b || (log_short ws (length w) || log_bad ws noted w c)) t)
      (λ t.
      ap (λ (b : Bool). b || (log_short ws (length w) || log_bad ws noted w c)) t
      ∙ tested (log_short ws (length w) || log_bad ws noted w c) (λ u. u)
      (λ u. let (x, y) = or_none (log_short ws (length w)) (log_bad ws noted w c) u in absurd (passed (proper ws ends fine) x y)))
    where
      passed : ProperWords ws ends → log_short ws (length w) ≡ false → log_bad ws noted w c ≡ false → ⊥
      passed p s g = ⊎_elim (λ x. true≢false (sym x ∙ fine)) (λ x. ⊎_elim
          (λ x. true≢false (sym x ∙ s))
          (λ x. ⊎_elim
          (λ y. let h = ltb-true (length w) c.used y in let k = log_fits ws ends p noted w c g in omega arith)
          (λ y. let h = ltb-true 4352 c.used y in let k = log_holds ws ends p w (passed_logged ws ends p noted w c g) in omega (arith, p.few.1))
          (or_cases (ltb (length w) c.used) (ltb 4352 c.used) x))
          (or_cases (log_short ws (length w)) _ x))
          (or_cases (plan_bad ws ends) _ (not_false _ e))
