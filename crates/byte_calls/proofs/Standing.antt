-- What the state's bytes stand for after its words are written: the parts that are not written are as they were.
use Prim.Native.Nat.{ℕ, zero, suc, ◌+◌, ◌-◌, ◌*◌, ◌/◌, ◌%◌, ◌≤◌, ◌<◌}
use native.Mathlib.Omega.{arith}
use native.Mathlib.Nat.{not-suc-le-zero, le_of_suc-le-suc, eq-or-lt_of_le, zero-add, le_step, lt-suc_self}
use native.Mathlib.Decide.{ℕ_discrete}
use mathlib.Core.Path.{◌≡◌, refl, sym, ap, ap₂, subst, ◌∙◌}
use mathlib.Core.Bool.{Bool, true, false, not}
use mathlib.Core.Logic.{◌⊎◌, inl, inr, ⊎_elim}
use mathlib.Core.List.{List, [], ◌∷◌}
use lib.Dec.{eqb}
use lib.ListN.{length, get_or, set, replicate, length-set, length-replicate}
use lib.Seq.{get_or-set_same, get_or-set_other, ext_get_or}
use Rattle.base.specs.Iter.{iter, pick}
use Rattle.base.specs.Lists.{filled}
use Rattle.base.proofs.Filled.{filled_length, filled_in}
use Rattle.base.proofs.Loop.{pick_ind, pick_yes, pick_no, tested}
use Rattle.noting.specs.Words.{capped}
use Rattle.plan.specs.Words.{variables_of}
use Rattle.sweep.specs.Sweep.{proposed_at}
use Rattle.reasons.specs.Reason.{reason_of}
use Rattle.reasons.specs.declared.reason.Reason.TheVariants.{NotPropagated}
use Rattle.recorded.specs.declared.Recorded.{Recorded}
use Rattle.recorded.specs.declared.Reasons.{Reasons}
use Rattle.recorded.specs.Recorded.{holding, newest, recorded}
use Rattle.recorded.proofs.Recording.{reasons_eq}
use Rattle.base.specs.Bytes.{word_at, long_at, put_word, put_long, put_words}
use Rattle.byte_calls.specs.Layout.{plan_in, ends_at, ends_in, tab_of, reason_in, reasons_in}
use Rattle.base.specs.Bytes.{words_in}
use Rattle.byte_calls.specs.Stores.{put_reason, put_reasons}
use Rattle.byte_calls.proofs.Filling.{capped_most, put_reason_length}
use Rattle.base.proofs.Bytes.{put_long_length, iter_length}
use Rattle.base.proofs.Bytes.{Agree, agree_word, agree_long, agree_then, put_long_agrees, put_long_in}

pub iter_same : {A : Type 0} (f g : ℕ → A → A) (n : ℕ) (a : A) → ((i : ℕ) (x : A) → i < n → f i x ≡ g i x) → iter f n a ≡ iter g n a
unfolding iter
iter_same f g zero a h = refl
iter_same f g (suc n) a h = h n (iter f n a) (lt-suc_self n) ∙ ap (g n) (iter_same f g n a (λ i x k. h i x (le_step k)))

pub filled_same : (f g : ℕ → ℕ) (a n : ℕ) (l : List ℕ) → ((i : ℕ) → i < n → f i ≡ g i) → filled a n f l ≡ filled a n g l
unfolding filled
filled_same f g a n l h = iter_same _ _ n l (λ i x k. ap (set x (a + i)) (h i k))

module _ (b c : List ℕ) where
  pub ends_same : Agree 60964 61220 b c → ends_in b ≡ ends_in c
  unfolding ends_in ends_at
  ends_same h =
      iter_same (λ g t. set t g (ends_at b g)) (λ g t. set t g (ends_at c g)) 128 _
      (λ g t k. ap (set t g) (λ i. h.at (60964 + 2 * g) (omega arith) (omega arith) i ∷ h.at (60965 + 2 * g) (omega arith) (omega arith) i ∷ []))

  pub words_same : (a n : ℕ) → Agree a (a + 4 * n) b c → words_in b a n ≡ words_in c a n
  unfolding words_in
  words_same a n h = filled_same _ _ 0 n (replicate n 0) (λ i k. agree_word (a + 4 * i) h (omega arith) (omega arith))

  pub plan_same : Agree 0 60964 b c → plan_in b ≡ plan_in c
  unfolding plan_in
  plan_same h = words_same 0 15241 h

  pub words_read : (a n : ℕ) → ((i : ℕ) → i < n → word_at b (a + 4 * i) ≡ get_or c i 0) → length c ≡ n → words_in b a n ≡ c
  unfolding words_in
  words_read a n h r = ext_get_or 0 _ _ (filled_length 0 _ (replicate n 0) n ∙ (length-replicate n 0 ∙ sym r))
      (λ i k. let l : i < n = omega (arith, filled_length 0 (λ i. word_at b (a + 4 * i)) (replicate n 0) n, length-replicate {A = ℕ} n 0) in
      ap (λ (j : ℕ). get_or (filled 0 n (λ i. word_at b (a + 4 * i)) (replicate n 0)) j 0) (sym (zero-add i))
      ∙ (filled_in 0 (λ i. word_at b (a + 4 * i)) (replicate n 0) n i l (omega (arith, length-replicate {A = ℕ} n 0)) ∙ h i l))

-- a table of a function
pub tab_of_length : {A : Type 0} (f : ℕ → A) (n : ℕ) → length (tab_of f n) ≡ n
unfolding tab_of
tab_of_length f zero = refl
tab_of_length f (suc n) = ap suc (tab_of_length (λ i. f (suc i)) n)

pub tab_of_at : {A : Type 0} (f : ℕ → A) (n i : ℕ) (d : A) → i < n → get_or (tab_of f n) i d ≡ f i
unfolding tab_of
tab_of_at f zero i d h = absurd (not-suc-le-zero h)
tab_of_at f (suc n) zero d h = refl
tab_of_at f (suc n) (suc i) d h = tab_of_at (λ k. f (suc k)) n i d (le_of_suc-le-suc h)

pub tab_of_same : {A : Type 0} (f g : ℕ → A) (n : ℕ) → ((i : ℕ) → i < n → f i ≡ g i) → tab_of f n ≡ tab_of g n
unfolding tab_of
tab_of_same f g zero h = refl
tab_of_same f g (suc n) h = λ i. h 0 (omega arith) i ∷ tab_of_same (λ k. f (suc k)) (λ k. g (suc k)) n (λ k l. h (suc k) (omega arith)) i

pub reasons_same : (b c : List ℕ) → Agree 63808 133440 b c → reasons_in b ≡ reasons_in c
unfolding reasons_in reason_in
reasons_same b c h = reasons_eq _ _ (tab_of_same _ _ 4352 (λ p k. λ i. holding (reason_of (agree_long (63808 + 16 * p) h (omega arith) (omega arith) i) (agree_long (63816 + 16 * p) h (omega arith) (omega arith) i))))
