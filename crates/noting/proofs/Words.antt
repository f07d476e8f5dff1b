-- Comparing the noted words run by run says what comparing edges and vertices says.
use mathlib.Core.Path.{◌≡◌, refl, sym, ap, ap₂, ◌∙◌}
use mathlib.Core.Bool.{Bool, true, false, not, ◌||◌}
use mathlib.Core.List.{List}
use mathlib.Core.Logic.{⊎_elim}
use Prim.Native.Nat.{ℕ, zero, suc, ◌+◌, ◌≤◌, ◌<◌}
use native.Mathlib.Omega.{arith}
use lib.Dec.{eqb, ltb}
use lib.ListN.{get_or}
use borrow.Author.Tests.{lt-ltb, le-ltb, ltb-false, eq-eqb}
use Rattle.base.specs.Lists.{some}
use Rattle.base.proofs.Loop.{pick_ind, pick_yes, pick_no}
use Rattle.base.proofs.Tests.{or_both, le_or_lt}
use Rattle.plan.specs.Words.{vertices_of, edges_of}
use Rattle.noting.specs.Words.{edge_state_of, bound_at, capped}
use Rattle.noting.proofs.Sizes.{capped_le}
use Rattle.noting.specs.Replay.{edge_differs, vertex_differs, noted_differs}
use Rattle.noting.specs.Following.{word_differs}

some_alike : (t u : ℕ → Bool) (n : ℕ) → ((i : ℕ) → i < n → t i ≡ u i) → some t n ≡ some u n
unfolding some
some_alike t u zero f = refl
some_alike t u (suc n) f = ap₂ ◌||◌ (some_alike t u n (λ i h. f i (omega arith))) (f n (omega arith))

or_swap : (a b c d : Bool) → ((a || b) || (c || d)) ≡ ((a || c) || (b || d))
or_swap true b c d = refl
or_swap false true true d = refl
or_swap false true false d = refl
or_swap false false true d = refl
or_swap false false false d = refl

some_or : (t u : ℕ → Bool) (n : ℕ) → some (λ i. t i || u i) n ≡ (some t n || some u n)
unfolding some
some_or t u zero = refl
some_or t u (suc n) = ap (λ (b : Bool). b || (t n || u n)) (some_or t u n) ∙ or_swap (some t n) (some u n) (t n) (u n)

or_no : (a : Bool) → a ≡ (a || false)
or_no true = refl
or_no false = refl

some_rest : (t : ℕ → Bool) (m n : ℕ) → m ≤ n → ((i : ℕ) → m ≤ i → t i ≡ false) → some t m ≡ some t n
unfolding some
some_rest t zero zero h f = refl
some_rest t (suc m) zero h f = absurd (omega arith)
some_rest t m (suc n) h f =
    ⊎_elim
    (λ (k : m ≤ n). some_rest t m n k f ∙ or_no (some t n) ∙ ap (λ (b : Bool). some t n || b) (sym (f n k)))
    (λ (k : n < m). let e : m ≡ suc n = omega arith in ap (some t) e)
    (le_or_lt m n)

some_capped : (t : ℕ → Bool) (n m : ℕ) → ((i : ℕ) → m ≤ i → t i ≡ false) → some t n ≡ some t (capped n m)
unfolding capped
some_capped t n m f =
    pick_ind (λ (k : ℕ). some t n ≡ some t k) (ltb n m) n m (λ _. refl) (λ h. sym (some_rest t m n (ltb-false n m h) f))

-- one word more

module _ (a b : List ℕ) where
  edge_past : (g : ℕ) → 128 ≤ g → edge_differs a b g ≡ false
  unfolding edge_differs edge_state_of
  edge_past g h = ap not (eq-eqb _ _ (pick_no _ _ (le-ltb g 128 h) ∙ sym (pick_no _ _ (le-ltb g 128 h))))

  edge_word : (g : ℕ) → g < 128 → edge_differs a b g ≡ word_differs a b 0 g
  unfolding edge_differs edge_state_of word_differs
  edge_word g h =
      let z : g ≡ 0 + g = omega arith in
      ap not (ap₂ eqb (pick_yes _ _ (lt-ltb g 128 h) ∙ ap (λ (i : ℕ). get_or a i 0) z) (pick_yes _ _ (lt-ltb g 128 h) ∙ ap (λ (i : ℕ). get_or b i 0) z))

  bound_past : (from past v : ℕ) → 64 ≤ v → not (eqb (bound_at from past a v) (bound_at from past b v)) ≡ false
  unfolding bound_at
  bound_past from past v h = ap not (eq-eqb _ _ (pick_no _ _ (le-ltb v 64 h) ∙ sym (pick_no _ _ (le-ltb v 64 h))))

  bound_word : (from past v : ℕ) → v < 64 → not (eqb (bound_at from past a v) (bound_at from past b v)) ≡ word_differs a b from v
  unfolding bound_at word_differs
  bound_word from past v h = ap not (ap₂ eqb (pick_yes _ _ (lt-ltb v 64 h)) (pick_yes _ _ (lt-ltb v 64 h)))

  vertex_past : (v : ℕ) → 64 ≤ v → vertex_differs a b v ≡ false
  unfolding vertex_differs
  vertex_past v h = or_both (bound_past 128 0 v h) (or_both (bound_past 192 0 v h) (or_both (bound_past 256 65535 v h) (bound_past 320 65535 v h)))

  vertex_words : (v : ℕ) → v < 64 → vertex_differs a b v ≡ (word_differs a b 128 v || (word_differs a b 192 v || (word_differs a b 256 v || word_differs a b 320 v)))
  unfolding vertex_differs
  vertex_words v h = ap₂ ◌||◌ (bound_word 128 0 v h) (ap₂ ◌||◌ (bound_word 192 0 v h) (ap₂ ◌||◌ (bound_word 256 65535 v h) (bound_word 320 65535 v h)))

  abbrev D : ℕ → ℕ → Bool
  D from = word_differs a b from

  module _ (ws : List ℕ) (edges n : ℕ) (he : edges ≡ capped (edges_of ws) 128) (hn : n ≡ capped (vertices_of ws) 64) where
    edges_differ : some (edge_differs a b) (edges_of ws) ≡ some (D 0) edges
    edges_differ =
        some_capped (edge_differs a b) (edges_of ws) 128 edge_past
        ∙ ap (some (edge_differs a b)) (sym he)
        ∙ some_alike (edge_differs a b) (D 0) edges (λ g h. edge_word g (omega (arith, he, capped_le (edges_of ws) 128)))

    vertices_differ : some (vertex_differs a b) (vertices_of ws) ≡ (some (D 128) n || (some (D 192) n || (some (D 256) n || some (D 320) n)))
    vertices_differ =
        some_capped (vertex_differs a b) (vertices_of ws) 64 vertex_past
        ∙ ap (some (vertex_differs a b)) (sym hn)
        ∙ some_alike (vertex_differs a b) (λ v. D 128 v || (D 192 v || (D 256 v || D 320 v))) n (λ v h. vertex_words v (omega (arith, hn, capped_le (vertices_of ws) 64)))
        ∙ some_or (D 128) (λ v. D 192 v || (D 256 v || D 320 v)) n
        ∙ ap (λ (c : Bool). some (D 128) n || c) (some_or (D 192) (λ v. D 256 v || D 320 v) n ∙ ap (λ (c : Bool). some (D 192) n || c) (some_or (D 256) (D 320) n))

    pub words_compared : (some (D 0) edges || (some (D 128) n || (some (D 192) n || (some (D 256) n || some (D 320) n)))) ≡ noted_differs ws a b
    unfolding noted_differs
    words_compared = sym (ap₂ ◌||◌ edges_differ vertices_differ)
