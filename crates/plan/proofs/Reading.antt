-- Words that are lent as bytes.
use Prim.Native.Nat.{ℕ, ◌+◌, ◌*◌, ◌<◌, ◌≤◌}
use native.Mathlib.Omega.{arith}
use native.Mathlib.Nat.{zero-add, eq-or-lt_of_le}
use mathlib.Core.Path.{◌≡◌, sym, ap, subst, ◌∙◌}
use mathlib.Core.Logic.{⊎_elim}
use mathlib.Core.List.{List}
use lib.ListN.{length, get_or, replicate, length-replicate, get_or-replicate}
use borrow.Author.Tests.{lt-ltb, le-ltb}
use Rattle.base.specs.Lists.{filled}
use Rattle.base.specs.Bytes.{word_at, words_in, put_word, put_words}
use Rattle.base.proofs.Loop.{pick_yes, pick_no, iter_more}
use Rattle.base.proofs.Filled.{filled_in}
use Rattle.base.proofs.Bytes.{put_words_small, put_words_length}
use Rattle.plan.specs.Words.{word, words_of}

module _ (b : List ℕ) where
  pub words_in_lem : 60964 ≤ length b → words_of b ≡ words_in b 0 15241
  unfolding words_of
  words_in_lem r = pick_no _ _ (le-ltb (length b) 60964 r)

  pub word_in : 60964 ≤ length b → (i : ℕ) → i < 15241 → word (words_of b) i ≡ word_at b (4 * i)
  unfolding words_in
  word_in r i l =
      ap (λ (ws : List ℕ). get_or ws i 0) (words_in_lem r)
      ∙ (ap (λ (j : ℕ). get_or (filled 0 15241 (λ k. word_at b (0 + 4 * k)) (replicate 15241 0)) j 0) (sym (zero-add i))
      ∙ (filled_in 0 (λ k. word_at b (0 + 4 * k)) (replicate 15241 0) 15241 i l (omega (arith, length-replicate {A = ℕ} 15241 0))
      ∙ ap (word_at b) (zero-add (4 * i))))

  pub word_none : length b < 60964 → (i : ℕ) → i < 15241 → word (words_of b) i ≡ 0
  unfolding words_of
  word_none r i l = ap (λ (ws : List ℕ). get_or ws i 0) (pick_yes _ _ (lt-ltb (length b) 60964 r)) ∙ get_or-replicate 15241 i 0 0 l

-- one word more is put
pub put_more : (ws b c d : List ℕ) (i x : ℕ) → c ≡ put_words 0 ws i b → x ≡ get_or ws i 0 → d ≡ put_word (4 * i) x c → d ≡ put_words 0 ws (i + 1) b
unfolding put_words
put_more ws b c d i x e h k =
    iter_more _ _ _ _ _ e (k ∙ (λ j. put_word (sym (zero-add (4 * i)) j) (h j) c))

-- what is put reads back
pub put_back : (ws b c : List ℕ) → length b ≡ 60964 → ((i : ℕ) → i < 15241 → get_or ws i 0 < 4294967296) → c ≡ put_words 0 ws 15241 b →
    (i : ℕ) → i < 15241 → word (words_of c) i ≡ word ws i
put_back ws b c r small e i l =
    let n : length c ≡ 60964 = ap length e ∙ (put_words_length 0 ws 15241 b ∙ r) in
    word_in c (omega (arith, n)) i l
    ∙ (ap (λ (d : List ℕ). word_at d (4 * i)) e
    ∙ (ap (word_at (put_words 0 ws 15241 b)) (sym (zero-add (4 * i)))
    ∙ put_words_small 0 ws b 15241 small i l (omega (arith, r))))

-- one entry more is small
pub small_more : (ws : List ℕ) (i x : ℕ) → ((j : ℕ) → j < i → get_or ws j 0 < 4294967296) → x ≡ get_or ws i 0 → x < 4294967296 →
    (j : ℕ) → j < i + 1 → get_or ws j 0 < 4294967296
small_more ws i x f e h j l = ⊎_elim
    (λ (k : j ≡ i). subst (λ (n : ℕ). get_or ws n 0 < 4294967296) (sym k) (subst (λ (n : ℕ). n < 4294967296) e h))
    (λ (k : j < i). f j k)
    (eq-or-lt_of_le {n = j} {m = i} (omega arith))
