-- What the state's bytes stand for after a call has written its words.
use Prim.Native.Nat.{ℕ, zero, suc, ◌+◌, ◌-◌, ◌*◌, ◌/◌, ◌%◌, ◌≤◌, ◌<◌}
use native.Mathlib.Omega.{arith}
use native.Mathlib.Nat.{not-suc-le-zero, eq-or-lt_of_le}
use mathlib.Core.Path.{◌≡◌, refl, sym, ap, ap₂, subst, ◌∙◌}
use mathlib.Core.Bool.{Bool, true, false, not}
use mathlib.Core.Logic.{◌⊎◌, inl, inr, ⊎_elim}
use mathlib.Core.List.{List, [], ◌∷◌}
use lib.Dec.{eqb, ltb}
use lib.ListN.{length, get_or, set, length-set}
use lib.Seq.{get_or-set_same, get_or-set_other, ext_get_or}
use borrow.Author.Tests.{ltb-true, ltb-false}
use Rattle.base.specs.Iter.{iter, pick}
use Rattle.base.proofs.Loop.{pick_ind, pick_yes, pick_no, tested}
use Rattle.noting.specs.Words.{capped}
use Rattle.plan.specs.Words.{variables_of, words_of}
use Rattle.plan.proofs.Reading.{words_in_lem}
use Rattle.sweep.specs.Sweep.{proposed_at}
use Rattle.judge.specs.declared.Judgement.TheVariants.{Fine}
use Rattle.judge.specs.Judge.{judged_of}
use Rattle.reasons.specs.Reason.{reason_of}
use Rattle.reasons.specs.declared.reason.Reason.TheVariants.{NotPropagated}
use Rattle.recorded.specs.declared.Recorded.{Recorded}
use Rattle.recorded.specs.declared.Reasons.{Reasons}
use Rattle.recorded.specs.Recorded.{holding, newest, recorded}
use Rattle.recorded.proofs.Recording.{reasons_eq}
use Rattle.graph_division.specs.Calls.{with_noted, with_judged}
use Rattle.lent.specs.Lent.{state_of}
use Rattle.base.specs.Bytes.{word_at, long_at, put_word, put_long, put_words}
use Rattle.byte_calls.specs.Layout.{plan_in, ends_in, tab_of, reason_in, reasons_in, state_in}
use Rattle.base.specs.Bytes.{words_in}
use Rattle.byte_calls.specs.Stores.{put_reason, put_reasons, put_last, put_noted}
use Rattle.byte_calls.proofs.Filling.{capped_most, put_reason_length, put_reasons_length, put_last_length}
use Rattle.base.proofs.Bytes.{put_long_length, put_word_length, put_words_length, iter_length}
use Rattle.base.proofs.Bytes.{Agree, agree_word, agree_long, agree_then, agree_part, put_word_agrees, put_word_in, put_long_agrees, put_long_in, put_words_agrees, put_words_in}
use Rattle.byte_calls.proofs.Standing.{plan_same, ends_same, words_same, words_read, tab_of_length, tab_of_at, reasons_same}

abbrev none : Recorded
none = holding NotPropagated

agree_reason : (b c : List ℕ) (p : ℕ) → Agree (63808 + 16 * p) (63824 + 16 * p) b c → reason_in b p ≡ reason_in c p
unfolding reason_in
agree_reason b c p h = λ i. holding (reason_of (agree_long (63808 + 16 * p) h (omega arith) (omega arith) i) (agree_long (63816 + 16 * p) h (omega arith) (omega arith) i))

module _ (words : List ℕ) where
  put_reason_agrees : (q : ℕ) (b : List ℕ) (lo hi : ℕ) → (hi ≤ 63808 + 16 * q) ⊎ (63824 + 16 * q ≤ lo) → Agree lo hi (put_reason words q b) b
  unfolding put_reason
  put_reason_agrees q b lo hi h = pick_ind (λ (c : List ℕ). Agree lo hi c b) (proposed_at words q) _ b
      (λ (t : proposed_at words q ≡ true). agree_then
      (put_long_agrees (63816 + 16 * q) (get_or words (69 + 2 * q) 0) (put_long (63808 + 16 * q) (get_or words (68 + 2 * q) 0) b) lo hi (⊎_elim (λ (k : hi ≤ 63808 + 16 * q). inl (omega arith)) (λ (k : 63824 + 16 * q ≤ lo). inr (omega arith)) h))
      (put_long_agrees (63808 + 16 * q) (get_or words (68 + 2 * q) 0) b lo hi (⊎_elim (λ (k : hi ≤ 63808 + 16 * q). inl k) (λ (k : 63824 + 16 * q ≤ lo). inr (omega arith)) h)))
      (λ (t : proposed_at words q ≡ false). record { at = λ i l u. refl })

  pub put_reasons_agrees : (n : ℕ) (b : List ℕ) (lo hi : ℕ) → (hi ≤ 63808) ⊎ (63808 + 16 * n ≤ lo) → Agree lo hi (iter (put_reason words) n b) b
  unfolding iter
  put_reasons_agrees zero b lo hi h = record { at = λ i l u. refl }
  put_reasons_agrees (suc n) b lo hi h = agree_then
      (put_reason_agrees n (iter (put_reason words) n b) lo hi (⊎_elim (λ (k : hi ≤ 63808). inl (omega arith)) (λ (k : 63808 + 16 * suc n ≤ lo). inr (omega arith)) h))
      (put_reasons_agrees n b lo hi (⊎_elim (λ (k : hi ≤ 63808). inl k) (λ (k : 63808 + 16 * suc n ≤ lo). inr (omega arith)) h))

  -- the words of each place read back, where they are proposed
  module _ (small : (i : ℕ) → get_or words i 0 < 18446744073709551616) where
    both_in : (p : ℕ) (b : List ℕ) → 63824 + 16 * p ≤ length b →
        reason_in (put_long (63816 + 16 * p) (get_or words (69 + 2 * p) 0) (put_long (63808 + 16 * p) (get_or words (68 + 2 * p) 0) b)) p ≡ holding (reason_of (get_or words (68 + 2 * p) 0) (get_or words (69 + 2 * p) 0))
    unfolding reason_in
    both_in p b r =
        let first : long_at (put_long (63816 + 16 * p) (get_or words (69 + 2 * p) 0) (put_long (63808 + 16 * p) (get_or words (68 + 2 * p) 0) b)) (63808 + 16 * p) ≡ get_or words (68 + 2 * p) 0 =
        agree_long (63808 + 16 * p) (put_long_agrees (63816 + 16 * p) (get_or words (69 + 2 * p) 0) (put_long (63808 + 16 * p) (get_or words (68 + 2 * p) 0) b) (63808 + 16 * p) (63816 + 16 * p) (inl (omega arith))) (omega arith) (omega arith)
        ∙ put_long_in (63808 + 16 * p) (get_or words (68 + 2 * p) 0) b (small (68 + 2 * p)) (omega arith) in
        let second : long_at (put_long (63816 + 16 * p) (get_or words (69 + 2 * p) 0) (put_long (63808 + 16 * p) (get_or words (68 + 2 * p) 0) b)) (63816 + 16 * p) ≡ get_or words (69 + 2 * p) 0 =
        put_long_in (63816 + 16 * p) (get_or words (69 + 2 * p) 0) (put_long (63808 + 16 * p) (get_or words (68 + 2 * p) 0) b) (small (69 + 2 * p)) (omega (arith, put_long_length (63808 + 16 * p) (get_or words (68 + 2 * p) 0) b)) in
        λ i. holding (reason_of (first i) (second i))

    reason_here : (p : ℕ) (b : List ℕ) → 63824 + 16 * p ≤ length b → reason_in (put_reason words p b) p ≡ newest words p (reason_in b p)
    unfolding put_reason newest
    reason_here p b r = tested (proposed_at words p)
        (λ (t : proposed_at words p ≡ true). ap (λ (c : List ℕ). reason_in c p) (pick_yes _ _ t) ∙ (both_in p b r ∙ sym (pick_yes _ _ t)))
        (λ (t : proposed_at words p ≡ false). ap (λ (c : List ℕ). reason_in c p) (pick_no _ _ t) ∙ sym (pick_no _ _ t))

    reason_there : (q p : ℕ) (b : List ℕ) → (p < q) ⊎ (q < p) → reason_in (put_reason words q b) p ≡ reason_in b p
    reason_there q p b h = agree_reason _ b p (put_reason_agrees q b (63808 + 16 * p) (63824 + 16 * p) (⊎_elim (λ (k : p < q). inl (omega arith)) (λ (k : q < p). inr (omega arith)) h))

    reasons_out : (n p : ℕ) (b : List ℕ) → n ≤ p → reason_in (iter (put_reason words) n b) p ≡ reason_in b p
    unfolding iter
    reasons_out zero p b h = refl
    reasons_out (suc n) p b h = reason_there n p (iter (put_reason words) n b) (inr (omega arith)) ∙ reasons_out n p b (omega arith)

    reasons_in_lem : (n p : ℕ) (b : List ℕ) → p < n → 63808 + 16 * n ≤ length b → reason_in (iter (put_reason words) n b) p ≡ newest words p (reason_in b p)
    unfolding iter
    reasons_in_lem zero p b h r = absurd (not-suc-le-zero h)
    reasons_in_lem (suc n) p b h r = ⊎_elim
        (λ (e : p ≡ n). subst (λ (q : ℕ). reason_in (put_reason words n (iter (put_reason words) n b)) q ≡ newest words q (reason_in b q)) (sym e)
        (reason_here n (iter (put_reason words) n b) (omega (arith, iter_length (put_reason words) (put_reason_length words) n b)) ∙ ap (newest words n) (reasons_out n n b (omega arith))))
        (λ (k : p < n). reason_there n p (iter (put_reason words) n b) (inl k) ∙ reasons_in_lem n p b k (omega arith))
        (eq-or-lt_of_le {n = p} {m = n} (omega arith))

  -- what is recorded at each place
  abbrev noting_one : ℕ → List Recorded → List Recorded
  noting_one p l = set l p (newest words p (get_or l p none))

  recorded_length : (n : ℕ) (l : List Recorded) → length (iter noting_one n l) ≡ length l
  unfolding iter
  recorded_length zero l = refl
  recorded_length (suc n) l = length-set (iter noting_one n l) n (newest words n (get_or (iter noting_one n l) n none)) ∙ recorded_length n l

  recorded_out : (n p : ℕ) (l : List Recorded) → n ≤ p → get_or (iter noting_one n l) p none ≡ get_or l p none
  unfolding iter
  recorded_out zero p l h = refl
  recorded_out (suc n) p l h = get_or-set_other (iter noting_one n l) n p (newest words n (get_or (iter noting_one n l) n none)) none (λ (e : p ≡ n). omega arith) ∙ recorded_out n p l (omega arith)

  recorded_in : (n p : ℕ) (l : List Recorded) → p < n → n ≤ length l → get_or (iter noting_one n l) p none ≡ newest words p (get_or l p none)
  unfolding iter
  recorded_in zero p l h r = absurd (not-suc-le-zero h)
  recorded_in (suc n) p l h r = ⊎_elim
      (λ (e : p ≡ n). subst (λ (q : ℕ). get_or (noting_one n (iter noting_one n l)) q none ≡ newest words q (get_or l q none)) (sym e)
      (get_or-set_same (iter noting_one n l) n (newest words n (get_or (iter noting_one n l) n none)) none (omega (arith, recorded_length n l)) ∙ ap (newest words n) (recorded_out n n l (omega arith))))
      (λ (k : p < n). get_or-set_other (iter noting_one n l) n p (newest words n (get_or (iter noting_one n l) n none)) none (λ (e : p ≡ n). omega arith) ∙ recorded_in n p l k (omega arith))
      (eq-or-lt_of_le {n = p} {m = n} (omega arith))

  pub reasons_stored : ((i : ℕ) → get_or words i 0 < 18446744073709551616) → (ws b : List ℕ) → 133440 ≤ length b → reasons_in (put_reasons ws words b) ≡ recorded ws words (reasons_in b)
  unfolding reasons_in put_reasons recorded
  reasons_stored small ws b r =
      let n : ℕ = capped (2 * variables_of ws) 4352 in
      let m : n ≤ 4352 = capped_most (2 * variables_of ws) 4352 in
      reasons_eq _ _ (ext_get_or none _ _ (tab_of_length _ 4352 ∙ sym (recorded_length n (tab_of (reason_in b) 4352) ∙ tab_of_length (reason_in b) 4352))
      (λ p k. let l : p < 4352 = omega (arith, tab_of_length (reason_in (iter (put_reason words) n b)) 4352) in
      tab_of_at (reason_in (iter (put_reason words) n b)) 4352 p none l
      ∙ tested (ltb p n)
      (λ (t : ltb p n ≡ true). reasons_in_lem small n p b (ltb-true p n t) (omega arith) ∙ (ap (newest words p) (sym (tab_of_at (reason_in b) 4352 p none l)) ∙ sym (recorded_in n p (tab_of (reason_in b) 4352) (ltb-true p n t) (omega (arith, tab_of_length (reason_in b) 4352)))))
      (λ (t : ltb p n ≡ false). reasons_out small n p b (ltb-false p n t) ∙ (sym (tab_of_at (reason_in b) 4352 p none l) ∙ sym (recorded_out n p (tab_of (reason_in b) 4352) (ltb-false p n t))))))

module _ (noted b : List ℕ) where
  noted_in_agrees : (lo hi : ℕ) → (hi ≤ 61220) ⊎ (62756 ≤ lo) → Agree lo hi (put_noted noted b) b
  unfolding put_noted
  noted_in_agrees lo hi h = put_words_agrees 61220 noted b 384 lo hi h

  noted_read : ((i : ℕ) → get_or noted i 0 < 4294967296) → length noted ≡ 384 → 133440 ≤ length b → words_in (put_noted noted b) 61220 384 ≡ noted
  unfolding put_noted
  noted_read small r s = words_read (put_words 61220 noted 384 b) noted 61220 384 (λ i k. put_words_in 61220 noted b small 384 i k (omega arith)) r

  -- only the noted words are written
  pub noted_stored : ((i : ℕ) → get_or noted i 0 < 4294967296) → length noted ≡ 384 → 133440 ≤ length b → state_in (put_noted noted b) ≡ with_noted noted (state_in b)
  unfolding state_in with_noted
  noted_stored small r s = λ i. state_of
      (plan_same (put_noted noted b) b (noted_in_agrees 0 60964 (inl (omega arith))) i)
      (ends_same (put_noted noted b) b (noted_in_agrees 60964 61220 (inl (omega arith))) i)
      (noted_read small r s i)
      (reasons_same (put_noted noted b) b (noted_in_agrees 63808 133440 (inr (omega arith))) i)
      (words_same (put_noted noted b) b 62764 260 (noted_in_agrees 62764 63804 (inr (omega arith))) i)
      (agree_word 62756 (noted_in_agrees 62756 62760 (inr (omega arith))) (omega arith) (omega arith) i)
      (not (eqb (agree_word 62760 (noted_in_agrees 62760 62764 (inr (omega arith))) (omega arith) (omega arith) i) 0))

module _ (left : List ℕ) (len : ℕ) (b : List ℕ) where
  last_agrees : (lo hi : ℕ) → (hi ≤ 62756) ⊎ (63804 ≤ lo) → Agree lo hi (put_last left len b) b
  unfolding put_last
  last_agrees lo hi h = agree_then
      (put_words_agrees 62764 left (put_word 62756 (len % 4294967296) b) 260 lo hi (⊎_elim (λ (k : hi ≤ 62756). inl (omega arith)) (λ (k : 63804 ≤ lo). inr (omega arith)) h))
      (put_word_agrees 62756 (len % 4294967296) b lo hi (⊎_elim (λ (k : hi ≤ 62756). inl k) (λ (k : 63804 ≤ lo). inr (omega arith)) h))

  between_agrees : Agree 62760 62764 (put_last left len b) b
  unfolding put_last
  between_agrees = agree_then
      (put_words_agrees 62764 left (put_word 62756 (len % 4294967296) b) 260 62760 62764 (inl (omega arith)))
      (put_word_agrees 62756 (len % 4294967296) b 62760 62764 (inr (omega arith)))

  len_read : len < 4294967296 → 133440 ≤ length b → word_at (put_last left len b) 62756 ≡ len
  unfolding put_last
  len_read h s =
      let m : len % 4294967296 ≡ len = omega arith in
      agree_word 62756 (put_words_agrees 62764 left (put_word 62756 (len % 4294967296) b) 260 62756 62760 (inl (omega arith))) (omega arith) (omega arith)
      ∙ (put_word_in 62756 (len % 4294967296) b (omega arith) (omega arith) ∙ m)

  last_read : ((i : ℕ) → get_or left i 0 < 4294967296) → length left ≡ 260 → 133440 ≤ length b → words_in (put_last left len b) 62764 260 ≡ left
  unfolding put_last
  last_read small r s = words_read (put_words 62764 left 260 (put_word 62756 (len % 4294967296) b)) left 62764 260
      (λ i k. put_words_in 62764 left (put_word 62756 (len % 4294967296) b) small 260 i k (omega (arith, put_word_length 62756 (len % 4294967296) b))) r

-- the plan is as it was once the list is stored
pub plan_after_last : (left : List ℕ) (len : ℕ) (b : List ℕ) → 133440 ≤ length b → words_of (put_last left len b) ≡ plan_in b
unfolding plan_in
plan_after_last left len b r =
    words_in_lem (put_last left len b) (omega (arith, put_last_length left len b))
    ∙ words_same (put_last left len b) b 0 15241 (last_agrees left len b 0 60964 (inl (omega arith)))

-- an analysis is accepted
module _ (ws words left noted : List ℕ) (len : ℕ) (b : List ℕ) where
  abbrev b1 : List ℕ
  b1 = put_last left len b

  abbrev b2 : List ℕ
  b2 = put_reasons ws words b1

  abbrev b3 : List ℕ
  b3 = put_noted noted b2

  two_agrees : (lo hi : ℕ) → hi ≤ 63808 → Agree lo hi b2 b1
  unfolding put_reasons
  two_agrees lo hi h = put_reasons_agrees words (capped (2 * variables_of ws) 4352) b1 lo hi (inl h)

  three_agrees : (lo hi : ℕ) → hi ≤ 63808 → (hi ≤ 61220) ⊎ (62756 ≤ lo) → Agree lo hi b3 b1
  three_agrees lo hi h k = agree_then (noted_in_agrees noted b2 lo hi k) (two_agrees lo hi h)

  all_agrees : (hi : ℕ) → hi ≤ 61220 → Agree 0 hi b3 b
  all_agrees hi h = agree_then (three_agrees 0 hi (omega arith) (inl h)) (last_agrees left len b 0 hi (inl (omega arith)))

  pub judged_stored : ws ≡ plan_in b → ((i : ℕ) → get_or words i 0 < 18446744073709551616) → ((i : ℕ) → get_or left i 0 < 4294967296) → ((i : ℕ) → get_or noted i 0 < 4294967296) →
      length left ≡ 260 → length noted ≡ 384 → len < 4294967296 → 133440 ≤ length b → state_in b3 ≡ with_judged noted (judged_of Fine words left) len (state_in b)
  unfolding state_in with_judged
  judged_stored e f g h p q r s =
      let l1 : 133440 ≤ length b1 = omega (arith, put_last_length left len b) in
      let l2 : 133440 ≤ length b2 = omega (arith, put_reasons_length ws words b1) in
      λ i. state_of
      (plan_same b3 b (all_agrees 60964 (omega arith)) i)
      (ends_same b3 b (agree_part (all_agrees 61220 (omega arith)) (omega arith) (omega arith)) i)
      (noted_read noted b2 h q l2 i)
      ((reasons_same b3 b2 (noted_in_agrees noted b2 63808 133440 (inr (omega arith)))
      ∙ (reasons_stored words f ws b1 l1 ∙ (λ j. recorded (e j) words (reasons_same b1 b (last_agrees left len b 63808 133440 (inr (omega arith))) j)))) i)
      ((words_same b3 b1 62764 260 (three_agrees 62764 63804 (omega arith) (inr (omega arith))) ∙ last_read left len b g p s) i)
      ((agree_word 62756 (three_agrees 62756 62760 (omega arith) (inr (omega arith))) (omega arith) (omega arith) ∙ len_read left len b r s) i)
      (not (eqb (agree_word 62760 (agree_then (three_agrees 62760 62764 (omega arith) (inr (omega arith))) (between_agrees left len b)) (omega arith) (omega arith) i) 0))
