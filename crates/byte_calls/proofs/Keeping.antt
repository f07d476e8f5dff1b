-- What a call writes stands inside the layout: the bytes past it stay.
use Prim.Native.Nat.{ℕ, ◌+◌, ◌-◌, ◌*◌, ◌%◌, ◌≤◌, ◌<◌}
use native.Mathlib.Omega.{arith}
use mathlib.Core.Path.{◌≡◌, refl, sym, ap, subst, ◌∙◌}
use mathlib.Core.Logic.{inr}
use mathlib.Core.List.{List}
use lib.ListN.{length, get_or, drop, length-drop}
use lib.Seq.{get_or-drop, ext_get_or}
use Rattle.noting.specs.Words.{capped}
use Rattle.plan.specs.Words.{variables_of}
use Rattle.base.specs.Bytes.{put_word, put_words}
use Rattle.byte_calls.specs.Stores.{BytesKept, put_reasons, put_last, put_noted}
use Rattle.byte_calls.proofs.Filling.{capped_most, put_reasons_length}
use Rattle.base.proofs.Bytes.{put_word_length, put_words_length}
use Rattle.base.proofs.Bytes.{Agree, put_word_agrees, put_words_agrees}
use Rattle.byte_calls.proofs.Storing.{put_reasons_agrees}

-- the bytes from a place on, where they agree
drop_same : (k : ℕ) (b c : List ℕ) → length b ≡ length c → ((i : ℕ) → k ≤ i → i < length b → get_or b i 0 ≡ get_or c i 0) → drop k b ≡ drop k c
drop_same k b c e h = ext_get_or 0 _ _ (length-drop k b ∙ (ap (λ (n : ℕ). n - k) e ∙ sym (length-drop k c)))
    (λ i l. get_or-drop k b i 0 ∙ (h (k + i) (omega arith) (omega (arith, length-drop k b)) ∙ sym (get_or-drop k c i 0)))

pub kept_by : (b c : List ℕ) → length c ≡ length b → ((hi : ℕ) → Agree 133440 hi c b) → BytesKept b c
kept_by b c e h = record { size = e; past = drop_same 133440 c b e (λ i l u. (h (length c)).at i l u) }

pub kept_same : (b : List ℕ) → BytesKept b b
kept_same b = record { size = refl; past = refl }

pub kept_then : {b c d : List ℕ} → BytesKept b c → BytesKept c d → BytesKept b d
kept_then f g = record { size = g.size ∙ f.size; past = g.past ∙ f.past }

-- each store
pub word_kept : (a x : ℕ) (b : List ℕ) → a + 4 ≤ 133440 → BytesKept b (put_word a x b)
word_kept a x b h = kept_by b (put_word a x b) (put_word_length a x b) (λ hi. put_word_agrees a x b 133440 hi (inr h))

pub words_kept : (a : ℕ) (l : List ℕ) (n : ℕ) (b : List ℕ) → a + 4 * n ≤ 133440 → BytesKept b (put_words a l n b)
words_kept a l n b h = kept_by b (put_words a l n b) (put_words_length a l n b) (λ hi. put_words_agrees a l b n 133440 hi (inr h))

last_kept : (left : List ℕ) (len : ℕ) (b : List ℕ) → BytesKept b (put_last left len b)
unfolding put_last
last_kept left len b = kept_then (word_kept 62756 (len % 4294967296) b (omega arith)) (words_kept 62764 left 260 (put_word 62756 (len % 4294967296) b) (omega arith))

reasons_agree : (ws words b : List ℕ) (hi : ℕ) → Agree 133440 hi (put_reasons ws words b) b
unfolding put_reasons
reasons_agree ws words b hi = put_reasons_agrees words (capped (2 * variables_of ws) 4352) b 133440 hi (inr (omega (arith, capped_most (2 * variables_of ws) 4352)))

reasons_kept : (ws words b : List ℕ) → BytesKept b (put_reasons ws words b)
reasons_kept ws words b = kept_by b (put_reasons ws words b) (put_reasons_length ws words b) (reasons_agree ws words b)

-- as the code comes to them
pub noted_kept : (noted b c : List ℕ) → c ≡ put_noted noted b → BytesKept b c
unfolding put_noted
noted_kept noted b c e = subst (BytesKept b) (sym e) (words_kept 61220 noted 384 b (omega arith))

pub judged_kept : (ws words left noted : List ℕ) (len : ℕ) (b b1 b2 c : List ℕ) → b1 ≡ put_last left len b → b2 ≡ put_reasons ws words b1 → c ≡ put_noted noted b2 → BytesKept b c
judged_kept ws words left noted len b b1 b2 c e f g = kept_then (subst (BytesKept b) (sym e) (last_kept left len b)) (kept_then (subst (BytesKept b1) (sym f) (reasons_kept ws words b1)) (noted_kept noted b2 c g))

pub mark_kept : (b c : List ℕ) → c ≡ put_word 62760 1 b → BytesKept b c
mark_kept b c e = subst (BytesKept b) (sym e) (word_kept 62760 1 b (omega arith))
