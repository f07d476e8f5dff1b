-- The bytes that building leaves stand for the state that `new` builds.
use Prim.Native.Nat.{ℕ, zero, suc, ◌+◌, ◌-◌, ◌*◌, ◌%◌, ◌≤◌, ◌<◌}
use native.Mathlib.Omega.{arith}
use native.Mathlib.Nat.{not-suc-le-zero, eq-or-lt_of_le, zero-add}
use mathlib.Core.Path.{◌≡◌, refl, sym, ap, ap₂, subst, ◌∙◌}
use mathlib.Core.Bool.{Bool, true, false, not, ◌||◌, true≢false}
use mathlib.Core.Logic.{◌⊎◌, inl, inr, ⊎_elim}
use mathlib.Core.List.{List, [], ◌∷◌}
use lib.Dec.{eqb, ltb}
use lib.IntN.{ℤ}
use lib.ListN.{length, get_or, set, replicate, length-set, length-replicate, get_or-replicate}
use lib.Seq.{get_or-set_same, get_or-set_other, ext_get_or}
use Rattle.base.specs.Iter.{iter, pick}
use Rattle.base.specs.Lists.{filled}
use Rattle.base.specs.Range.{to_nat}
use Rattle.base.proofs.Filled.{filled_length, filled_in, filled_out}
use Rattle.base.proofs.Loop.{iter_ind, eq_or_not}
use Rattle.reasons.specs.Reason.{reason_of, later_reason}
use Rattle.reasons.specs.declared.reason.Reason.TheVariants.{NotPropagated}
use Rattle.recorded.specs.declared.Recorded.{Recorded}
use Rattle.recorded.specs.Recorded.{holding, no_reasons}
use Rattle.recorded.proofs.Recording.{reasons_eq}
use Rattle.builder.specs.Input.{left_at, right_at, refusal}
use Rattle.builder.specs.Build.{plan_words, edge_step, edge_table}
use Rattle.noting.specs.Words.{fresh}
use Rattle.graph_division.specs.declared.GraphDivision.{GraphDivision}
use Rattle.graph_division.specs.New.{built}
use Rattle.graph_division.specs.Calls.{with_noted}
use Rattle.lent.specs.Lent.{state_of}
use Rattle.base.specs.Bytes.{word_at, long_at, put_words}
use Rattle.byte_calls.specs.Layout.{plan_in, ends_at, ends_in, reason_in, reasons_in, state_in}
use Rattle.base.specs.Bytes.{words_in}
use Rattle.byte_calls.specs.After.{BytesAfter}
use Rattle.byte_calls.specs.Stores.{BytesKept, put_noted, put_ends, put_edges, cleared}
use Rattle.byte_calls.specs.Build.{build_refused}
use Rattle.base.proofs.Bytes.{iter_length}
use Rattle.base.proofs.Bytes.{Agree, agree_word, agree_then, agree_part, put_words_agrees, put_words_in}
use Rattle.byte_calls.proofs.Keeping.{kept_by, kept_same, kept_then, words_kept, noted_kept}
use Rattle.byte_calls.proofs.Standing.{words_same, words_read, tab_of_length, tab_of_at}
use Rattle.builder.proofs.Length.{plan_words_length}

-- ---- the edge table
abbrev pair_of : List ℕ → List ℕ
pair_of l = get_or l 0 0 ∷ get_or l 1 0 ∷ []

-- every element is a pair
abbrev Pairs : List (List ℕ) → Type 0
Pairs t = (length t ≡ 128) × ((g : ℕ) → g < 128 → get_or t g [] ≡ pair_of (get_or t g []))

abbrev given_pair : List ℤ → ℕ → List ℕ
given_pair es g = to_nat (left_at es g) % 256 ∷ to_nat (right_at es g) % 256 ∷ []

step_pairs : (es : List ℤ) (i : ℕ) (t : List (List ℕ)) → Pairs t → Pairs (edge_step es i t)
unfolding edge_step
step_pairs es i t h = (
  length-set t i (given_pair es i) ∙ h.0,
  λ g l. ⊎_elim
      (λ (e : g ≡ i).
      let q : get_or (set t i (given_pair es i)) g [] ≡ given_pair es i = ap (λ (j : ℕ). get_or (set t i (given_pair es i)) j []) e ∙ get_or-set_same t i (given_pair es i) [] (omega (arith, h.0)) in
      q ∙ sym (ap pair_of q))
      (λ (f : g ≡ i → ⊥).
      let q : get_or (set t i (given_pair es i)) g [] ≡ get_or t g [] = get_or-set_other t i g (given_pair es i) [] f in
      q ∙ (h.1 g l ∙ sym (ap pair_of q)))
      (eq_or_not g i),
)

table_pairs : (es : List ℤ) (m : ℕ) → Pairs (edge_table es m)
unfolding edge_table
table_pairs es m = iter_ind (λ i t. Pairs t) (edge_step es) (replicate 128 (0 ∷ 0 ∷ [])) _
    (length-replicate {A = List ℕ} 128 (0 ∷ 0 ∷ []), λ g l. let q : get_or (replicate 128 (0 ∷ 0 ∷ [])) g [] ≡ 0 ∷ 0 ∷ [] = get_or-replicate {A = List ℕ} 128 g (0 ∷ 0 ∷ []) [] l in q ∙ sym (ap pair_of q))
    (λ i t l h. step_pairs es i t h)

module _ {A : Type 0} (f : ℕ → A) (d : A) (t : List A) where
  abbrev storing : ℕ → List A → List A
  storing g t = set t g (f g)

  stored_length : (n : ℕ) → length (iter storing n t) ≡ length t
  unfolding iter
  stored_length zero = refl
  stored_length (suc n) = length-set (iter storing n t) n (f n) ∙ stored_length n

  stored_in : (n g : ℕ) → g < n → n ≤ length t → get_or (iter storing n t) g d ≡ f g
  unfolding iter
  stored_in zero g h l = absurd (not-suc-le-zero h)
  stored_in (suc n) g h l = ⊎_elim
      (λ (e : g ≡ n). ap (λ (j : ℕ). get_or (set (iter storing n t) n (f n)) j d) e ∙ (get_or-set_same (iter storing n t) n (f n) d (omega (arith, stored_length n)) ∙ ap f (sym e)))
      (λ (k : g < n). get_or-set_other (iter storing n t) n g (f n) d (λ (e : g ≡ n). omega arith) ∙ stored_in n g k (omega arith))
      (eq-or-lt_of_le {n = g} {m = n} (omega arith))

module _ (t : List (List ℕ)) where
  pub put_ends_length : (g : ℕ) (b : List ℕ) → length (put_ends t g b) ≡ length b
  unfolding put_ends
  put_ends_length g b = simp length-set refl

  pub put_edges_length : (b : List ℕ) → length (put_edges t b) ≡ length b
  unfolding put_edges
  put_edges_length b = iter_length (put_ends t) put_ends_length 128 b

  put_ends_agrees : (g : ℕ) (b : List ℕ) (lo hi : ℕ) → (hi ≤ 60964 + 2 * g) ⊎ (60966 + 2 * g ≤ lo) → Agree lo hi (put_ends t g b) b
  unfolding put_ends
  put_ends_agrees g b lo hi h = record {
    at = λ i l u.
        get_or-set_other (set b (60964 + 2 * g) (get_or (get_or t g []) 0 0)) (60965 + 2 * g) i (get_or (get_or t g []) 1 0) 0 (λ (e : i ≡ 60965 + 2 * g). ⊎_elim (λ (k : hi ≤ 60964 + 2 * g). omega arith) (λ (k : 60966 + 2 * g ≤ lo). omega arith) h)
        ∙ get_or-set_other b (60964 + 2 * g) i (get_or (get_or t g []) 0 0) 0 (λ (e : i ≡ 60964 + 2 * g). ⊎_elim (λ (k : hi ≤ 60964 + 2 * g). omega arith) (λ (k : 60966 + 2 * g ≤ lo). omega arith) h);
  }

  edges_agree : (n : ℕ) (b : List ℕ) (lo hi : ℕ) → (hi ≤ 60964) ⊎ (60964 + 2 * n ≤ lo) → Agree lo hi (iter (put_ends t) n b) b
  unfolding iter
  edges_agree zero b lo hi h = record { at = λ i l u. refl }
  edges_agree (suc n) b lo hi h = agree_then
      (put_ends_agrees n (iter (put_ends t) n b) lo hi (⊎_elim (λ (k : hi ≤ 60964). inl (omega arith)) (λ (k : 60964 + 2 * suc n ≤ lo). inr (omega arith)) h))
      (edges_agree n b lo hi (⊎_elim (λ (k : hi ≤ 60964). inl k) (λ (k : 60964 + 2 * suc n ≤ lo). inr (omega arith)) h))

  put_edges_agrees : (b : List ℕ) (lo hi : ℕ) → (hi ≤ 60964) ⊎ (61220 ≤ lo) → Agree lo hi (put_edges t b) b
  unfolding put_edges
  put_edges_agrees b lo hi h = edges_agree 128 b lo hi h

  ends_here : (g : ℕ) (b : List ℕ) → 60966 + 2 * g ≤ length b → ends_at (put_ends t g b) g ≡ pair_of (get_or t g [])
  unfolding put_ends ends_at
  ends_here g b r =
      let x : ℕ = get_or (get_or t g []) 0 0 in
      let y : ℕ = get_or (get_or t g []) 1 0 in
      let p : get_or (set (set b (60964 + 2 * g) x) (60965 + 2 * g) y) (60964 + 2 * g) 0 ≡ x =
      get_or-set_other (set b (60964 + 2 * g) x) (60965 + 2 * g) (60964 + 2 * g) y 0 (λ (e : 60964 + 2 * g ≡ 60965 + 2 * g). omega arith) ∙ get_or-set_same b (60964 + 2 * g) x 0 (omega arith) in
      let q : get_or (set (set b (60964 + 2 * g) x) (60965 + 2 * g) y) (60965 + 2 * g) 0 ≡ y =
      get_or-set_same (set b (60964 + 2 * g) x) (60965 + 2 * g) y 0 (omega (arith, length-set b (60964 + 2 * g) x)) in
      λ i. p i ∷ q i ∷ []

  ends_agree : (b c : List ℕ) (g : ℕ) → Agree (60964 + 2 * g) (60966 + 2 * g) b c → ends_at b g ≡ ends_at c g
  unfolding ends_at
  ends_agree b c g h = λ i. h.at (60964 + 2 * g) (omega arith) (omega arith) i ∷ h.at (60965 + 2 * g) (omega arith) (omega arith) i ∷ []

  ends_in_lem : (n g : ℕ) (b : List ℕ) → g < n → 60964 + 2 * n ≤ length b → ends_at (iter (put_ends t) n b) g ≡ pair_of (get_or t g [])
  unfolding iter
  ends_in_lem zero g b h r = absurd (not-suc-le-zero h)
  ends_in_lem (suc n) g b h r = ⊎_elim
      (λ (e : g ≡ n). subst (λ (q : ℕ). ends_at (put_ends t n (iter (put_ends t) n b)) q ≡ pair_of (get_or t q [])) (sym e)
      (ends_here n (iter (put_ends t) n b) (omega (arith, iter_length (put_ends t) put_ends_length n b))))
      (λ (k : g < n). ends_agree (put_ends t n (iter (put_ends t) n b)) (iter (put_ends t) n b) g (put_ends_agrees n (iter (put_ends t) n b) (60964 + 2 * g) (60966 + 2 * g) (inl (omega arith))) ∙ ends_in_lem n g b k (omega arith))
      (eq-or-lt_of_le {n = g} {m = n} (omega arith))

  edges_read : (b c : List ℕ) → Pairs t → 133440 ≤ length b → Agree 60964 61220 c (put_edges t b) → ends_in c ≡ t
  unfolding put_edges ends_in
  edges_read b c h r a = ext_get_or [] _ t (stored_length (ends_at c) [] (replicate 128 (0 ∷ 0 ∷ [])) 128 ∙ (length-replicate {A = List ℕ} 128 (0 ∷ 0 ∷ []) ∙ sym h.0))
      (λ g k. let l : g < 128 = omega (arith, stored_length (ends_at c) [] (replicate 128 (0 ∷ 0 ∷ [])) 128, length-replicate {A = List ℕ} 128 (0 ∷ 0 ∷ [])) in
      stored_in (ends_at c) [] (replicate 128 (0 ∷ 0 ∷ [])) 128 g l (omega (arith, length-replicate {A = List ℕ} 128 (0 ∷ 0 ∷ [])))
      ∙ (ends_agree c (iter (put_ends t) 128 b) g (agree_part a (omega arith) (omega arith)) ∙ (ends_in_lem 128 g b l (omega arith) ∙ sym (h.1 g l))))

-- ---- bytes that are 0
module _ (b : List ℕ) (r : 133440 ≤ length b) where
  cleared_agrees : (lo hi : ℕ) → (hi ≤ 62756) ⊎ (133440 ≤ lo) → Agree lo hi (cleared b) b
  unfolding cleared
  cleared_agrees lo hi h = record { at = λ i l u. filled_out 62756 (λ j. 0) b 70684 i (⊎_elim (λ (k : hi ≤ 62756). inl (omega arith)) (λ (k : 133440 ≤ lo). inr (omega arith)) h) }

  zero_byte : (i : ℕ) → 62756 ≤ i → i < 133440 → get_or (cleared b) i 0 ≡ 0
  unfolding cleared
  zero_byte i l u = let e : 62756 + (i - 62756) ≡ i = omega arith in
      ap (λ (j : ℕ). get_or (filled 62756 70684 (λ j. 0) b) j 0) (sym e) ∙ filled_in 62756 (λ j. 0) b 70684 (i - 62756) (omega arith) (omega arith)

  zero_word : (a : ℕ) → 62756 ≤ a → a + 4 ≤ 133440 → word_at (cleared b) a ≡ 0
  unfolding word_at
  zero_word a l u = λ i. zero_byte a l (omega arith) i + 256 * zero_byte (a + 1) (omega arith) (omega arith) i + 65536 * zero_byte (a + 2) (omega arith) (omega arith) i + 16777216 * zero_byte (a + 3) (omega arith) (omega arith) i

  zero_long : (a : ℕ) → 62756 ≤ a → a + 8 ≤ 133440 → long_at (cleared b) a ≡ 0
  unfolding long_at
  zero_long a l u = λ i. zero_word a l (omega arith) i + 4294967296 * zero_word (a + 4) (omega arith) (omega arith) i

  no_list : words_in (cleared b) 62764 260 ≡ replicate 260 0
  no_list = words_read (cleared b) (replicate 260 0) 62764 260 (λ i k. zero_word (62764 + 4 * i) (omega arith) (omega arith) ∙ sym (get_or-replicate {A = ℕ} 260 i 0 0 k)) (length-replicate {A = ℕ} 260 0)

  no_reason : (p : ℕ) → p < 4352 → reason_in (cleared b) p ≡ holding NotPropagated
  unfolding reason_in reason_of later_reason pick
  no_reason p k = λ i. holding (reason_of (zero_long (63808 + 16 * p) (omega arith) (omega arith) i) (zero_long (63816 + 16 * p) (omega arith) (omega arith) i))

  none_recorded : reasons_in (cleared b) ≡ no_reasons
  unfolding reasons_in no_reasons
  none_recorded = reasons_eq _ _ (ext_get_or (holding NotPropagated) _ _ (tab_of_length (reason_in (cleared b)) 4352 ∙ sym (length-replicate {A = Recorded} 4352 (holding NotPropagated)))
      (λ p k. let l : p < 4352 = omega (arith, tab_of_length (reason_in (cleared b)) 4352) in
      tab_of_at (reason_in (cleared b)) 4352 p (holding NotPropagated) l ∙ (no_reason p l ∙ sym (get_or-replicate {A = Recorded} 4352 p (holding NotPropagated) (holding NotPropagated) l))))

-- ---- all of it
module _ (ws noted : List ℕ) (t : List (List ℕ)) (b c : List ℕ) (r : 133440 ≤ length b)
    (words : (i : ℕ) → i < 15241 → word_at b (4 * i) ≡ get_or ws i 0) (notes : words_in b 61220 384 ≡ noted) (e : c ≡ cleared (put_edges t b)) where
  abbrev b1 : List ℕ
  b1 = put_edges t b

  abbrev b2 : List ℕ
  b2 = cleared b1

  long : 133440 ≤ length b1
  long = omega (arith, put_edges_length t b)

  low_agrees : (lo hi : ℕ) → hi ≤ 60964 → Agree lo hi b2 b
  low_agrees lo hi h = agree_then (cleared_agrees b1 long lo hi (inl (omega arith))) (put_edges_agrees t b lo hi (inl h))

  mid_agrees : Agree 61220 62756 b2 b
  mid_agrees = agree_then (cleared_agrees b1 long 61220 62756 (inl (omega arith))) (put_edges_agrees t b 61220 62756 (inr (omega arith)))

  plan_stored : length ws ≡ 15241 → plan_in b2 ≡ ws
  unfolding plan_in
  plan_stored u = words_read b2 ws 0 15241
      (λ i k. ap (word_at b2) (zero-add (4 * i)) ∙ (agree_word (4 * i) (low_agrees 0 60964 (omega arith)) (omega arith) (omega arith) ∙ words i k)) u

  pub state_stored : length ws ≡ 15241 → Pairs t → state_in c ≡ state_of ws t noted no_reasons (replicate 260 0) 0 false
  unfolding state_in
  state_stored u h = ap state_in e ∙ (λ i. state_of
      (plan_stored u i)
      (edges_read t b b2 h r (cleared_agrees b1 long 60964 61220 (inl (omega arith))) i)
      ((words_same b2 b 61220 384 mid_agrees ∙ notes) i)
      (none_recorded b1 long i)
      (no_list b1 long i)
      (zero_word b1 long 62756 (omega arith) (omega arith) i)
      (not (eqb (zero_word b1 long 62760 (omega arith) (omega arith) i) 0)))

  pub bytes_kept : BytesKept b c
  unfolding cleared
  bytes_kept = subst (BytesKept b) (sym e) (kept_by b b2 (filled_length 62756 (λ i. 0) b1 70684 ∙ put_edges_length t b)
      (λ hi. agree_then (cleared_agrees b1 long 133440 hi (inr (omega arith))) (put_edges_agrees t b 133440 hi (inr (omega arith)))))

pub built_state : (vs : List ℤ) (n : ℕ) (es : List ℤ) (m : ℕ) (x y : Bool) (ws noted : List ℕ) (t : List (List ℕ)) (b c : List ℕ) → refusal vs n es m ≡ 0 →
    ws ≡ plan_words vs n es m x y → noted ≡ fresh ws (replicate 384 0) → t ≡ edge_table es m → 133440 ≤ length b →
    ((i : ℕ) → i < 15241 → word_at b (4 * i) ≡ get_or ws i 0) → words_in b 61220 384 ≡ noted → c ≡ cleared (put_edges t b) → state_in c ≡ (built vs n es m x y).state
unfolding built
built_state vs n es m x y ws noted t b c z p q h r words notes e =
    state_stored ws noted t b c r words notes e
    (ap length p ∙ plan_words_length vs n es m x y)
    (subst Pairs (sym h) (table_pairs es m))
    ∙ (λ i. state_of (p i) (h i) ((q ∙ ap (λ (ws : List ℕ). fresh ws (replicate 384 0)) p) i) no_reasons (replicate 260 0) 0 false)

-- ---- as the code comes to it
pub plan_reads : (ws b : List ℕ) → ((i : ℕ) → get_or ws i 0 < 4294967296) → 133440 ≤ length b → (i : ℕ) → i < 15241 → word_at (put_words 0 ws 15241 b) (4 * i) ≡ get_or ws i 0
plan_reads ws b small r i k = ap (word_at (put_words 0 ws 15241 b)) (sym (zero-add (4 * i))) ∙ put_words_in 0 ws b small 15241 i k (omega arith)

pub words_stored : (ws noted b c : List ℕ) → ((i : ℕ) → i < 15241 → word_at b (4 * i) ≡ get_or ws i 0) → c ≡ put_noted noted b → state_in c ≡ with_noted noted (state_in b) →
    ((i : ℕ) → i < 15241 → word_at c (4 * i) ≡ get_or ws i 0) × (words_in c 61220 384 ≡ noted)
unfolding put_noted state_in with_noted
words_stored ws noted b c h e q = (
  λ i k. ap (λ (x : List ℕ). word_at x (4 * i)) e ∙ (agree_word (4 * i) (put_words_agrees 61220 noted b 384 0 60964 (inl (omega arith))) (omega arith) (omega arith) ∙ h i k),
  ap (λ (s : GraphDivision). s.noted) q,
)

module _ (vs : List ℤ) (n : ℕ) (es : List ℤ) (m : ℕ) (x y : Bool) (ws noted z : List ℕ) (t : List (List ℕ)) (b b1 b2 c : List ℕ) where
  pub build_after : refusal vs n es m ≡ 0 → 133440 ≤ length b → ws ≡ plan_words vs n es m x y → z ≡ replicate 384 0 → noted ≡ fresh ws z → t ≡ edge_table es m →
      b1 ≡ put_noted noted (put_words 0 ws 15241 b) → ((i : ℕ) → i < 15241 → word_at b1 (4 * i) ≡ get_or ws i 0) → words_in b1 61220 384 ≡ noted → b2 ≡ put_edges t b1 → c ≡ cleared b2 →
      BytesAfter false (built vs n es m x y).state b c
  build_after r l p d q h e words notes f g =
      let k : BytesKept b b1 = kept_then (words_kept 0 ws 15241 b (omega arith)) (noted_kept noted (put_words 0 ws 15241 b) b1 e) in
      let k1 : 133440 ≤ length b1 = omega (arith, k.size) in
      let e2 : c ≡ cleared (put_edges t b1) = g ∙ ap cleared f in
      record {
        same = λ (k : false ≡ true). absurd (true≢false (sym k));
        is = λ k. built_state vs n es m x y ws noted t b1 c r p (q ∙ ap (fresh ws) d) h k1 words notes e2;
        kept = kept_then k (bytes_kept ws noted t b1 c k1 words notes e2);
      }

-- what is tested first
module _ (vs : List ℤ) (n : ℕ) (es : List ℤ) (m : ℕ) (b : List ℕ) where
  pub wrong_refused : eqb (refusal vs n es m) 0 ≡ false → build_refused vs n es m b ≡ true
  unfolding build_refused
  wrong_refused e = ap (λ (t : Bool). not t || ltb (length b) 133440) e

  pub short_refused : eqb (refusal vs n es m) 0 ≡ true → ltb (length b) 133440 ≡ true → build_refused vs n es m b ≡ true
  unfolding build_refused
  short_refused e f = ap₂ (λ (t u : Bool). not t || u) e f

  pub not_refused : eqb (refusal vs n es m) 0 ≡ true → ltb (length b) 133440 ≡ false → build_refused vs n es m b ≡ false
  unfolding build_refused
  not_refused e f = ap₂ (λ (t u : Bool). not t || u) e f

pub refused_after : (t : Bool) (s : GraphDivision) (b : List ℕ) → t ≡ true → BytesAfter t s b b
refused_after t s b e = record { same = λ k. refl; is = λ (k : t ≡ false). absurd (true≢false (sym e ∙ k)); kept = kept_same b }

pub accepted_after : (t : Bool) (s u : GraphDivision) (b c : List ℕ) → t ≡ false → s ≡ u → BytesAfter false s b c → BytesAfter t u b c
accepted_after t s u b c e f h = subst (λ (t : Bool). BytesAfter t u b c) (sym e) (subst (λ (s : GraphDivision). BytesAfter false s b c) f h)
