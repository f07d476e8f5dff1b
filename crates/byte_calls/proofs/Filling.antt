-- Loops over lists and over bytes: one turn more, and lengths.
use Prim.Native.Nat.{ℕ, zero, suc, ◌+◌, ◌-◌, ◌*◌, ◌/◌, ◌%◌, ◌≤◌, ◌<◌, min}
use native.Mathlib.Numerals.{add-one}
use mathlib.Core.Path.{◌≡◌, refl, sym, ap, ap₂, ◌∙◌}
use mathlib.Core.Bool.{Bool, true, false}
use lib.Dec.{ltb}
use native.Mathlib.Omega.{arith}
use borrow.Author.Tests.{lt-ltb, le-ltb, ltb-true, ltb-false}
use Rattle.noting.specs.Words.{capped}
use mathlib.Core.List.{List, ◌∷◌, [], ◌++◌}
use native.Mathlib.Nat.{zero-add}
use lib.ListN.{length, get_or, set, take, drop, replicate, length-set, length-replicate}
use lib.Seq.{ext_get_or}
use mathlib.Core.Logic.{inl, inr, ⊎_elim}
use Rattle.std.proofs.lemmas.List.{length-append, length-take, length-drop, get_or-take, get_or-drop, get_or_append_left, get_or-append_right, get_or-replicate}
use Rattle.base.proofs.Filled.{filled_length, filled_in, filled_out}
use Rattle.base.proofs.Tests.{le_or_lt}
use borrow.Rule.Slice.PartMut.{put_mid}
use mir.Syntax.{w32}
use Rattle.std.specs.Int.{to_le_bytes}
use Rattle.base.specs.Iter.{iter, pick}
use Rattle.base.specs.Lists.{filled}
use Rattle.base.proofs.Bytes.{put_half_length, put_word_length, put_long_length, iter_length, put_halves_length, put_words_length, put_longs_length}
use Rattle.base.proofs.Loop.{iter_ind, iter_zero, pick_ind, pick_yes, pick_no, tested}
use Rattle.sweep.specs.Sweep.{proposed_at}
use Rattle.base.specs.Bytes.{word_at, put_half, put_word, put_long, put_halves, put_words, put_longs}
use Rattle.byte_calls.specs.Layout.{ends_at, used_entries}
use Rattle.base.specs.Bytes.{words_in}
use Rattle.byte_calls.specs.Stores.{put_reason, put_reasons, put_last, put_noted}

pub filled_more : (f : ℕ → ℕ) (a i k : ℕ) (l x : List ℕ) (v : ℕ) → x ≡ filled a i f l → k ≡ a + i → v ≡ f i → set x k v ≡ filled a (i + 1) f l
unfolding filled iter
filled_more f a i k l x v e q h = rw add-one (λ j. set (e j) (q j) (h j))

-- nothing is stored of a place that is not proposed
pub put_reason_idle : (words : List ℕ) (p : ℕ) (b : List ℕ) → proposed_at words p ≡ false → b ≡ put_reason words p b
unfolding put_reason
put_reason_idle words p b e = sym (pick_no _ _ e)

pub put_reason_length : (words : List ℕ) (p : ℕ) (b : List ℕ) → length (put_reason words p b) ≡ length b
unfolding put_reason
put_reason_length words p b =
    pick_ind (λ (x : List ℕ). length x ≡ length b) (proposed_at words p) _ b (λ (t : proposed_at words p ≡ _). put_long_length _ _ _ ∙ put_long_length _ _ _) (λ (t : proposed_at words p ≡ _). refl)

pub put_reasons_length : (ws words b : List ℕ) → length (put_reasons ws words b) ≡ length b
unfolding put_reasons
put_reasons_length ws words b = iter_length _ (put_reason_length words) _ b

pub put_last_length : (left : List ℕ) (len : ℕ) (b : List ℕ) → length (put_last left len b) ≡ length b
unfolding put_last
put_last_length left len b = put_words_length _ _ _ _ ∙ put_word_length _ _ _

pub put_noted_length : (noted b : List ℕ) → length (put_noted noted b) ≡ length b
unfolding put_noted
put_noted_length noted b = put_words_length _ _ _ _

pub capped_most : (n m : ℕ) → capped n m ≤ m
unfolding capped
capped_most n m = pick_ind (λ (i : ℕ). i ≤ m) (ltb n m) n m (λ (t : ltb n m ≡ true). omega (arith, ltb-true n m t)) (λ (t : ltb n m ≡ false). omega arith)

pub capped_less : (n m : ℕ) → capped n m ≤ n
unfolding capped
capped_less n m = pick_ind (λ (i : ℕ). i ≤ n) (ltb n m) n m (λ (t : ltb n m ≡ true). omega arith) (λ (t : ltb n m ≡ false). omega (arith, ltb-false n m t))

pub capped_min : (r n m : ℕ) → r ≡ min n m → r ≡ capped n m
unfolding capped
capped_min r n m e = pick_ind (λ (k : ℕ). r ≡ k) (ltb n m) n m (λ (t : ltb n m ≡ true). omega (arith, e, ltb-true n m t)) (λ (t : ltb n m ≡ false). omega (arith, e, ltb-false n m t))

pub cap_most : (r n m : ℕ) → r ≡ capped n m → r ≤ m
cap_most r n m e = omega (arith, e, capped_most n m)

pub cap_less : (r n m : ℕ) → r ≡ capped n m → r ≤ n
cap_less r n m e = omega (arith, e, capped_less n m)

pub read_words_in : (b : List ℕ) (a n : ℕ) (x y : List ℕ) → y ≡ replicate n 0 → x ≡ filled 0 n (λ i. word_at b (a + 4 * (0 + i))) y → x ≡ words_in b a n
unfolding words_in
read_words_in b a n x y r e = e ∙ (λ j. filled 0 n (λ i. word_at b (a + 4 * zero-add i j)) (r j))

pub ends_more : (b : List ℕ) (g n : ℕ) (t : List (List ℕ)) (z : List (List ℕ)) → t ≡ iter (λ g t. set t g (ends_at b g)) g z →
    set t g (get_or b (60964 + 2 * g) 0 ∷ get_or b (60965 + 2 * g) 0 ∷ []) ≡ iter (λ g t. set t g (ends_at b g)) (g + 1) z
unfolding iter ends_at
ends_more b g n t z e = rw add-one (ap (λ (t : List (List ℕ)). set t g (get_or b (60964 + 2 * g) 0 ∷ get_or b (60965 + 2 * g) 0 ∷ [])) e)

pub room_is : (n : ℕ) → used_entries n ≡ capped n 4352
unfolding used_entries
room_is n = refl

pub none_put : (l : List ℕ) (from to : ℕ) (b : List ℕ) → to ≤ from → b ≡ put_longs l from (to - from) b
unfolding put_longs
none_put l from to b h = let e : 0 ≡ to - from = omega arith in iter_zero (λ (i : ℕ) (b : List ℕ). put_long (8 * (from + i)) (get_or l (from + i) 0) b) b ∙ ap (λ (k : ℕ). iter (λ (i : ℕ) (b : List ℕ). put_long (8 * (from + i)) (get_or l (from + i) 0) b) k b) e

pub capped_is : (n m : ℕ) → n ≤ m → capped n m ≡ n
unfolding capped
capped_is n m h = tested (ltb n m)
    (λ (t : ltb n m ≡ true). pick_yes n m t)
    (λ (t : ltb n m ≡ false). let e : m ≡ n = omega (arith, ltb-false n m t) in pick_no n m t ∙ e)

-- ---- bytes that are copied into a part of a slice
two : (a : ℕ) (b : List ℕ) (p q : ℕ) → a + 2 ≤ length b → take a b ++ (p ∷ q ∷ drop 2 (drop a b)) ≡ set (set b a p) (suc a) q
two zero [] p q h = absurd (omega arith)
two zero (x ∷ []) p q h = absurd (omega arith)
two zero (x ∷ y ∷ b) p q h = refl
two (suc a) [] p q h = absurd (omega arith)
two (suc a) (x ∷ b) p q h = ap (λ (l : List ℕ). x ∷ l) (two a b p q (omega arith))

four : (a : ℕ) (b : List ℕ) (p q r s : ℕ) → a + 4 ≤ length b → take a b ++ (p ∷ q ∷ r ∷ s ∷ drop 4 (drop a b)) ≡ set (set (set (set b a p) (suc a) q) (suc (suc a)) r) (suc (suc (suc a))) s
four zero [] p q r s h = absurd (omega arith)
four zero (x ∷ []) p q r s h = absurd (omega arith)
four zero (x ∷ y ∷ []) p q r s h = absurd (omega arith)
four zero (x ∷ y ∷ z ∷ []) p q r s h = absurd (omega arith)
four zero (x ∷ y ∷ z ∷ v ∷ b) p q r s h = refl
four (suc a) [] p q r s h = absurd (omega arith)
four (suc a) (x ∷ b) p q r s h = ap (λ (l : List ℕ). x ∷ l) (four a b p q r s (omega arith))

pub half_put : (a x : ℕ) (b ys : List ℕ) → a + 2 ≤ length b → ys ≡ take 2 (to_le_bytes w32 x) → put_mid a (a + 2 - a) b ys ≡ put_half a x b
unfolding put_half
half_put a x b ys h e =
    let k : a + 2 - a ≡ 2 = omega arith in
    let i : suc a ≡ a + 1 = omega arith in
    (λ j. put_mid a (k j) b (e j)) ∙ (two a b (x % 256) (x / 256 % 256) h ∙ ap (λ (m : ℕ). set (set b a (x % 256)) m (x / 256 % 256)) i)

pub word_put : (a x : ℕ) (b ys : List ℕ) → a + 4 ≤ length b → ys ≡ to_le_bytes w32 x → put_mid a (a + 4 - a) b ys ≡ put_word a x b
unfolding put_word
word_put a x b ys h e =
    let k : a + 4 - a ≡ 4 = omega arith in
    let i : suc a ≡ a + 1 = omega arith in
    let i2 : suc (suc a) ≡ a + 2 = omega arith in
    let i3 : suc (suc (suc a)) ≡ a + 3 = omega arith in
    (λ j. put_mid a (k j) b (e j))
    ∙ (four a b (x % 256) (x / 256 % 256) (x / 65536 % 256) (x / 16777216 % 256) h
    ∙ (λ j. set (set (set (set b a (x % 256)) (i j) (x / 256 % 256)) (i2 j) (x / 65536 % 256)) (i3 j) (x / 16777216 % 256)))

pub zeros_put : (a n : ℕ) (b ys : List ℕ) → a + n ≤ length b → (k : ℕ) → k ≡ n → ys ≡ replicate k 0 → put_mid a n b ys ≡ filled a n (λ i. 0) b
zeros_put a n b ys h k e r =
    let f : ℕ → ℕ = λ i. 0 in
    let rest : List ℕ = drop n (drop a b) in
    let t : length (take a b) ≡ a = omega (arith, length-take a b) in
    let m : length ys ≡ n = omega (arith, ap length r, length-replicate {A = ℕ} k 0) in
    let whole : length (put_mid a n b ys) ≡ length b = omega (arith, length-append (take a b) (ys ++ rest), length-append ys rest, length-drop n (drop a b), length-drop a b) in
    ext_get_or 0 (put_mid a n b ys) (filled a n f b) (whole ∙ sym (filled_length a f b n))
    (λ i q.
    ⊎_elim
    (λ (g : a ≤ i).
    get_or-append_right (take a b) (ys ++ rest) a i 0 t g
    ∙ ⊎_elim
    (λ (u : n ≤ i - a).
    let v : a + (n + (i - a - n)) ≡ i = omega arith in
    get_or-append_right ys rest n (i - a) 0 m u ∙ get_or-drop n (drop a b) (i - a - n) 0 ∙ get_or-drop a b (n + (i - a - n)) 0 ∙ ap (λ (j : ℕ). get_or b j 0) v
    ∙ sym (filled_out a f b n i (inr (omega arith))))
    (λ (u : i - a < n).
    let v : a + (i - a) ≡ i = omega arith in
    get_or_append_left ys rest 0 (i - a) (omega arith) ∙ ap (λ (y : List ℕ). get_or y (i - a) 0) r ∙ get_or-replicate {A = ℕ} k (i - a) 0 0 (omega arith)
    ∙ sym (ap (λ (j : ℕ). get_or (filled a n f b) j 0) (sym v) ∙ filled_in a f b n (i - a) u h))
    (le_or_lt n (i - a)))
    (λ (g : i < a). get_or_append_left (take a b) (ys ++ rest) 0 i (omega arith) ∙ get_or-take a b i 0 g ∙ sym (filled_out a f b n i (inl g)))
    (le_or_lt a i))
