-- Numbers that are written read back, and what stands elsewhere stays.
use Prim.Native.Nat.{ℕ, zero, suc, ◌+◌, ◌*◌, ◌/◌, ◌%◌, ◌≤◌, ◌<◌}
use native.Mathlib.Omega.{arith}
use native.Mathlib.Nat.{not-suc-le-zero, eq-or-lt_of_le}
use mathlib.Core.Path.{◌≡◌, refl, sym, ap, ◌∙◌}
use mathlib.Core.Logic.{◌⊎◌, inl, inr, ⊎_elim}
use mathlib.Core.List.{List}
use lib.ListN.{length, get_or, set, length-set}
use lib.Seq.{get_or-set_same, get_or-set_other}
use Rattle.base.specs.Iter.{iter}
use Rattle.base.specs.Bytes.{word_at, long_at, put_half, put_word, put_long, put_halves, put_words, put_longs}

pub put_half_length : (a x : ℕ) (b : List ℕ) → length (put_half a x b) ≡ length b
unfolding put_half
put_half_length a x b = simp length-set refl

pub put_word_length : (a x : ℕ) (b : List ℕ) → length (put_word a x b) ≡ length b
unfolding put_word
put_word_length a x b = simp length-set refl

pub put_long_length : (a x : ℕ) (b : List ℕ) → length (put_long a x b) ≡ length b
unfolding put_long
put_long_length a x b = put_word_length _ _ _ ∙ put_word_length _ _ _

pub iter_length : (f : ℕ → List ℕ → List ℕ) → ((i : ℕ) (b : List ℕ) → length (f i b) ≡ length b) → (n : ℕ) (b : List ℕ) → length (iter f n b) ≡ length b
unfolding iter
iter_length f h zero b = refl
iter_length f h (suc n) b = h n (iter f n b) ∙ iter_length f h n b

pub put_halves_length : (l : List ℕ) (n : ℕ) (b : List ℕ) → length (put_halves l n b) ≡ length b
unfolding put_halves
put_halves_length l n b = iter_length _ (λ i c. put_half_length _ _ c) n b

pub put_words_length : (a : ℕ) (l : List ℕ) (n : ℕ) (b : List ℕ) → length (put_words a l n b) ≡ length b
unfolding put_words
put_words_length a l n b = iter_length _ (λ i c. put_word_length _ _ c) n b

pub put_longs_length : (l : List ℕ) (from n : ℕ) (b : List ℕ) → length (put_longs l from n b) ≡ length b
unfolding put_longs
put_longs_length l from n b = iter_length _ (λ i c. put_long_length _ _ c) n b

-- the bytes from lo up to hi are the same
pub record Agree (lo hi : ℕ) (b c : List ℕ) : Type 0 where
  pub at : (i : ℕ) → lo ≤ i → i < hi → get_or b i 0 ≡ get_or c i 0

pub agree_word : {lo hi : ℕ} {b c : List ℕ} (a : ℕ) → Agree lo hi b c → lo ≤ a → a + 4 ≤ hi → word_at b a ≡ word_at c a
unfolding word_at
agree_word a h l u = λ i. h.at a l (omega arith) i + 256 * h.at (a + 1) (omega arith) (omega arith) i + 65536 * h.at (a + 2) (omega arith) (omega arith) i + 16777216 * h.at (a + 3) (omega arith) (omega arith) i

pub agree_long : {lo hi : ℕ} {b c : List ℕ} (a : ℕ) → Agree lo hi b c → lo ≤ a → a + 8 ≤ hi → long_at b a ≡ long_at c a
unfolding long_at
agree_long a h l u = λ i. agree_word a h l (omega arith) i + 4294967296 * agree_word (a + 4) h (omega arith) (omega arith) i

pub agree_then : {lo hi : ℕ} {b c d : List ℕ} → Agree lo hi b c → Agree lo hi c d → Agree lo hi b d
agree_then f g = record { at = λ i l u. f.at i l u ∙ g.at i l u }

pub agree_part : {lo hi lo' hi' : ℕ} {b c : List ℕ} → Agree lo hi b c → lo ≤ lo' → hi' ≤ hi → Agree lo' hi' b c
agree_part f p q = record { at = λ i l u. f.at i (omega arith) (omega arith) }

module _ (a x : ℕ) (b : List ℕ) where
  parts : x < 4294967296 → x % 256 + 256 * (x / 256 % 256) + 65536 * (x / 65536 % 256) + 16777216 * (x / 16777216 % 256) ≡ x
  parts h =
      let p : x / 256 / 256 ≡ x / 65536 = omega arith in
      let q : x / 65536 / 256 ≡ x / 16777216 = omega arith in
      let r : x / 16777216 < 256 = omega arith in
      let s : x / 16777216 % 256 ≡ x / 16777216 = omega arith in
      omega (arith, p, q, r, s)

  abbrev w1 : List ℕ
  w1 = set b a (x % 256)

  abbrev w2 : List ℕ
  w2 = set w1 (a + 1) (x / 256 % 256)

  abbrev w3 : List ℕ
  w3 = set w2 (a + 2) (x / 65536 % 256)

  abbrev w4 : List ℕ
  w4 = set w3 (a + 3) (x / 16777216 % 256)

  put_word_other : (i : ℕ) → (i < a) ⊎ (a + 4 ≤ i) → get_or (put_word a x b) i 0 ≡ get_or b i 0
  unfolding put_word
  put_word_other i h =
      get_or-set_other w3 (a + 3) i (x / 16777216 % 256) 0 (λ (e : i ≡ a + 3). ⊎_elim (λ (k : i < a). omega arith) (λ (k : a + 4 ≤ i). omega arith) h)
      ∙ (get_or-set_other w2 (a + 2) i (x / 65536 % 256) 0 (λ (e : i ≡ a + 2). ⊎_elim (λ (k : i < a). omega arith) (λ (k : a + 4 ≤ i). omega arith) h)
      ∙ (get_or-set_other w1 (a + 1) i (x / 256 % 256) 0 (λ (e : i ≡ a + 1). ⊎_elim (λ (k : i < a). omega arith) (λ (k : a + 4 ≤ i). omega arith) h)
      ∙ get_or-set_other b a i (x % 256) 0 (λ (e : i ≡ a). ⊎_elim (λ (k : i < a). omega arith) (λ (k : a + 4 ≤ i). omega arith) h)))

  pub put_word_agrees : (lo hi : ℕ) → (hi ≤ a) ⊎ (a + 4 ≤ lo) → Agree lo hi (put_word a x b) b
  put_word_agrees lo hi h = record { at = λ i l u. put_word_other i (⊎_elim (λ (k : hi ≤ a). inl (omega arith)) (λ (k : a + 4 ≤ lo). inr (omega arith)) h) }

  byte3 : a + 4 ≤ length b → get_or w4 (a + 3) 0 ≡ x / 16777216 % 256
  byte3 r = get_or-set_same w3 (a + 3) _ 0 (simp length-set (omega arith))

  byte2 : a + 4 ≤ length b → get_or w4 (a + 2) 0 ≡ x / 65536 % 256
  byte2 r = get_or-set_other w3 (a + 3) (a + 2) _ 0 (λ (e : a + 2 ≡ a + 3). omega arith) ∙ get_or-set_same w2 (a + 2) _ 0 (simp length-set (omega arith))

  byte1 : a + 4 ≤ length b → get_or w4 (a + 1) 0 ≡ x / 256 % 256
  byte1 r =
      get_or-set_other w3 (a + 3) (a + 1) _ 0 (λ (e : a + 1 ≡ a + 3). omega arith)
      ∙ (get_or-set_other w2 (a + 2) (a + 1) _ 0 (λ (e : a + 1 ≡ a + 2). omega arith) ∙ get_or-set_same w1 (a + 1) _ 0 (simp length-set (omega arith)))

  byte0 : a + 4 ≤ length b → get_or w4 a 0 ≡ x % 256
  byte0 r =
      get_or-set_other w3 (a + 3) a _ 0 (λ (e : a ≡ a + 3). omega arith)
      ∙ (get_or-set_other w2 (a + 2) a _ 0 (λ (e : a ≡ a + 2). omega arith)
      ∙ (get_or-set_other w1 (a + 1) a _ 0 (λ (e : a ≡ a + 1). omega arith) ∙ get_or-set_same b a _ 0 (omega arith)))

  pub put_word_in : x < 4294967296 → a + 4 ≤ length b → word_at (put_word a x b) a ≡ x
  unfolding word_at put_word
  put_word_in h r = (λ i. byte0 r i + 256 * byte1 r i + 65536 * byte2 r i + 16777216 * byte3 r i) ∙ parts h

module _ (a x : ℕ) (b : List ℕ) where
  pub put_long_agrees : (lo hi : ℕ) → (hi ≤ a) ⊎ (a + 8 ≤ lo) → Agree lo hi (put_long a x b) b
  unfolding put_long
  put_long_agrees lo hi h = agree_then
      (put_word_agrees (a + 4) (x / 4294967296 % 4294967296) (put_word a (x % 4294967296) b) lo hi (⊎_elim (λ (k : hi ≤ a). inl (omega arith)) (λ (k : a + 8 ≤ lo). inr (omega arith)) h))
      (put_word_agrees a (x % 4294967296) b lo hi (⊎_elim (λ (k : hi ≤ a). inl k) (λ (k : a + 8 ≤ lo). inr (omega arith)) h))

  halves : x < 18446744073709551616 → x % 4294967296 + 4294967296 * (x / 4294967296 % 4294967296) ≡ x
  halves h =
      let r : x / 4294967296 < 4294967296 = omega arith in
      let s : x / 4294967296 % 4294967296 ≡ x / 4294967296 = omega arith in
      omega (arith, r, s)

  abbrev l1 : List ℕ
  l1 = put_word a (x % 4294967296) b

  abbrev l2 : List ℕ
  l2 = put_word (a + 4) (x / 4294967296 % 4294967296) l1

  high : a + 8 ≤ length b → word_at l2 (a + 4) ≡ x / 4294967296 % 4294967296
  high r = put_word_in (a + 4) (x / 4294967296 % 4294967296) l1 (omega arith) (omega (arith, put_word_length a (x % 4294967296) b))

  low : a + 8 ≤ length b → word_at l2 a ≡ x % 4294967296
  low r =
      agree_word a (put_word_agrees (a + 4) (x / 4294967296 % 4294967296) l1 a (a + 4) (inl (omega arith))) (omega arith) (omega arith)
      ∙ put_word_in a (x % 4294967296) b (omega arith) (omega arith)

  pub put_long_in : x < 18446744073709551616 → a + 8 ≤ length b → long_at (put_long a x b) a ≡ x
  unfolding long_at put_long
  put_long_in h r = (λ i. low r i + 4294967296 * high r i) ∙ halves h

module _ (a : ℕ) (l b : List ℕ) where
  pub put_words_agrees : (n lo hi : ℕ) → (hi ≤ a) ⊎ (a + 4 * n ≤ lo) → Agree lo hi (put_words a l n b) b
  unfolding put_words iter
  put_words_agrees zero lo hi h = record { at = λ i k u. refl }
  put_words_agrees (suc n) lo hi h = agree_then
      (put_word_agrees (a + 4 * n) (get_or l n 0) (put_words a l n b) lo hi (⊎_elim (λ (k : hi ≤ a). inl (omega arith)) (λ (k : a + 4 * suc n ≤ lo). inr (omega arith)) h))
      (put_words_agrees n lo hi (⊎_elim (λ (k : hi ≤ a). inl k) (λ (k : a + 4 * suc n ≤ lo). inr (omega arith)) h))

  pub put_words_small : (n : ℕ) → ((i : ℕ) → i < n → get_or l i 0 < 4294967296) → (i : ℕ) → i < n → a + 4 * n ≤ length b → word_at (put_words a l n b) (a + 4 * i) ≡ get_or l i 0
  unfolding put_words iter
  put_words_small zero f i h r = absurd (not-suc-le-zero h)
  put_words_small (suc n) f i h r = ⊎_elim
      (λ (e : i ≡ n). ap (λ (j : ℕ). word_at (put_word (a + 4 * n) (get_or l n 0) (put_words a l n b)) (a + 4 * j)) e ∙ (put_word_in (a + 4 * n) (get_or l n 0) (put_words a l n b) (f n (omega arith)) (omega (arith, put_words_length a l n b)) ∙ ap (λ (j : ℕ). get_or l j 0) (sym e)))
      (λ (k : i < n). agree_word (a + 4 * i) (put_word_agrees (a + 4 * n) (get_or l n 0) (put_words a l n b) (a + 4 * i) (a + 4 * i + 4) (inl (omega arith))) (omega arith) (omega arith) ∙ put_words_small n (λ j q. f j (omega arith)) i k (omega arith))
      (eq-or-lt_of_le {n = i} {m = n} (omega arith))

  pub put_words_in : ((i : ℕ) → get_or l i 0 < 4294967296) → (n i : ℕ) → i < n → a + 4 * n ≤ length b → word_at (put_words a l n b) (a + 4 * i) ≡ get_or l i 0
  put_words_in f n i h r = put_words_small n (λ j q. f j) i h r
