-- The plan of a state that was built, where the words that were given are laid out part by part: so that a case can be evaluated.
use mathlib.Core.Path.{◌≡◌, refl, sym, ap, subst, ◌∙◌}
use mathlib.Core.Logic.{◌⊎◌, inl, inr}
use mathlib.Core.Bool.{Bool, true, false}
use mathlib.Core.List.{List, [], ◌∷◌, ◌++◌}
use Prim.Native.Nat.{ℕ, ◌+◌, ◌*◌, ◌≤◌, ◌<◌}
use native.Mathlib.Omega.{arith}
use lib.Dec.{eqb, ltb}
use lib.IntN.{ℤ}
use lib.ListN.{length, get_or, replicate, length-append, length-replicate, get_or-append, get_or-eq_default}
use lib.Seq.{get_or-append-add}
use borrow.Author.Tests.{ltb-true, ltb-false}
use Rattle.base.specs.Iter.{pick}
use Rattle.base.proofs.Loop.{pick_yes, pick_no, tested}
use Rattle.division.specs.Plan.{Plan}
use Rattle.plan.specs.Words.{word, entry, cell}
use Rattle.plan.specs.Plan.{plan_of}
use Rattle.builder.specs.Input.{refusal}
use Rattle.builder.specs.Build.{given, with_index, plan_words, edge_table}
use Rattle.builder.proofs.Given.{kept_word, entry_same}
use Rattle.graph_division.specs.New.{built}
use Rattle.simulation.specs.Start.{state_plan}

-- ---- the index is none of the plan
cell_same : (from : ℕ) (ws us : List ℕ) (v j : ℕ) → (v < 64 → j < 32 → word ws (from + 32 * v + j) ≡ word us (from + 32 * v + j)) → cell from ws v j ≡ cell from us v j
unfolding cell
cell_same from ws us v j h = tested (ltb v 64)
    (λ t. pick_yes _ _ t
    ∙ tested (ltb j 32) (λ u. pick_yes _ _ u ∙ h (ltb-true v 64 t) (ltb-true j 32 u) ∙ sym (pick_yes _ _ u)) (λ u. pick_no _ _ u ∙ sym (pick_no _ _ u))
    ∙ sym (pick_yes _ _ t))
    (λ t. pick_no _ _ t ∙ sym (pick_no _ _ t))

module _ (ws us : List ℕ) (ends : List (List ℕ)) (k : (i : ℕ) → i < 4360 → (i < 4) ⊎ (7 ≤ i) → word ws i ≡ word us i) where
  pub same_plan : plan_of ws ends ≡ plan_of us ends
  same_plan i = record {
    vertices = k 0 (omega arith) (inl (omega arith)) i;
    edges = k 1 (omega arith) (inl (omega arith)) i;
    ends = ends;
    edge_lit = λ g. entry_same 4232 128 ws us g (λ (h : g < 128). k (4232 + g) (omega arith) (inr (omega arith))) i;
    weight = λ v. entry_same 8 64 ws us v (λ (h : v < 64). k (8 + v) (omega arith) (inr (omega arith))) i;
    domain_len = λ v. entry_same 72 64 ws us v (λ (h : v < 64). k (72 + v) (omega arith) (inr (omega arith))) i;
    domain = λ v j. cell_same 136 ws us v j (λ (h : v < 64) (l : j < 32). k (136 + 32 * v + j) (omega arith) (inr (omega arith))) i;
    dom_lit = λ v j. cell_same 2184 ws us v j (λ (h : v < 64) (l : j < 32). k (2184 + 32 * v + j) (omega arith) (inr (omega arith))) i;
    disallow_adjacent_same_size_regions = eqb (k 2 (omega arith) (inl (omega arith)) i) 1;
    allow_extra_walls = eqb (k 3 (omega arith) (inl (omega arith)) i) 1;
  }

-- ---- words laid out part by part
after : (k : ℕ) (xs ys : List ℕ) (n : ℕ) → length xs ≡ k → get_or (xs ++ ys) (k + n) 0 ≡ get_or ys n 0
after k xs ys n e = ap (λ (j : ℕ). get_or (xs ++ ys) (j + n) 0) (sym e) ∙ get_or-append-add xs ys n 0

-- entry i of n
listed : (n : ℕ) (ws xs : List ℕ) (from i : ℕ) → length xs ≡ n → (i < n → word ws (from + i) ≡ get_or xs i 0) → entry from n ws i ≡ get_or xs i 0
unfolding entry
listed n ws xs from i e h = tested (ltb i n)
    (λ t. pick_yes _ _ t ∙ h (ltb-true i n t))
    (λ t. pick_no _ _ t ∙ sym (get_or-eq_default xs 0 (omega (arith, ltb-false i n t))))

-- rows of 32
unfoldable pub grid : List ℕ → ℕ → ℕ → ℕ
grid xs v j = pick (ltb v 64) (pick (ltb j 32) (get_or xs (32 * v + j) 0) 0) 0

gridded : (ws xs : List ℕ) (from v j : ℕ) → (v < 64 → j < 32 → word ws (from + 32 * v + j) ≡ get_or xs (32 * v + j) 0) → cell from ws v j ≡ grid xs v j
unfolding cell grid
gridded ws xs from v j h = tested (ltb v 64)
    (λ t. pick_yes _ _ t
    ∙ tested (ltb j 32) (λ u. pick_yes _ _ u ∙ h (ltb-true v 64 t) (ltb-true j 32 u) ∙ sym (pick_yes _ _ u)) (λ u. pick_no _ _ u ∙ sym (pick_no _ _ u))
    ∙ sym (pick_yes _ _ t))
    (λ t. pick_no _ _ t ∙ sym (pick_no _ _ t))

-- a plan in parts: weights, lengths of domains, sizes, size literals, edge literals, ends
pub record Parts : Type 0 where
  pub vertices : ℕ
  pub edges : ℕ
  pub same_size : ℕ
  pub extra_walls : ℕ
  pub weights : List ℕ
  pub lens : List ℕ
  pub sizes : List ℕ
  pub lits : List ℕ
  pub edge_lits : List ℕ
  pub ends : List (List ℕ)

unfoldable pub plan_is : Parts → Plan
plan_is x = record {
  vertices = x.vertices;
  edges = x.edges;
  ends = x.ends;
  edge_lit = λ g. get_or x.edge_lits g 0;
  weight = λ v. get_or x.weights v 0;
  domain_len = λ v. get_or x.lens v 0;
  domain = grid x.sizes;
  dom_lit = grid x.lits;
  disallow_adjacent_same_size_regions = eqb x.same_size 1;
  allow_extra_walls = eqb x.extra_walls 1;
}

unfoldable pub words_is : Parts → List ℕ
words_is x = (x.vertices ∷ x.edges ∷ x.same_size ∷ x.extra_walls ∷ 0 ∷ 0 ∷ 0 ∷ 0 ∷ []) ++ (x.weights ++ (x.lens ++ (x.sizes ++ (x.lits ++ (x.edge_lits ++ replicate 10881 0)))))

pub record Sized (x : Parts) : Type 0 where
  pub weights : length x.weights ≡ 64
  pub lens : length x.lens ≡ 64
  pub sizes : length x.sizes ≡ 2048
  pub lits : length x.lits ≡ 2048
  pub edge_lits : length x.edge_lits ≡ 128

pub words_length : (x : Parts) → Sized x → length (words_is x) ≡ 15241
unfolding words_is
words_length x s =
    let e₅ : length (x.edge_lits ++ replicate 10881 0) ≡ 11009 = length-append x.edge_lits (replicate 10881 0) ∙ omega (arith, s.edge_lits, length-replicate {A = ℕ} 10881 0) in
    let e₄ : length (x.lits ++ (x.edge_lits ++ replicate 10881 0)) ≡ 13057 = length-append x.lits (x.edge_lits ++ replicate 10881 0) ∙ omega (arith, s.lits, e₅) in
    let e₃ : length (x.sizes ++ (x.lits ++ (x.edge_lits ++ replicate 10881 0))) ≡ 15105 = length-append x.sizes (x.lits ++ (x.edge_lits ++ replicate 10881 0)) ∙ omega (arith, s.sizes, e₄) in
    let e₂ : length (x.lens ++ (x.sizes ++ (x.lits ++ (x.edge_lits ++ replicate 10881 0)))) ≡ 15169 = length-append x.lens (x.sizes ++ (x.lits ++ (x.edge_lits ++ replicate 10881 0))) ∙ omega (arith, s.lens, e₃) in
    length-append (x.vertices ∷ x.edges ∷ x.same_size ∷ x.extra_walls ∷ 0 ∷ 0 ∷ 0 ∷ 0 ∷ []) (x.weights ++ (x.lens ++ (x.sizes ++ (x.lits ++ (x.edge_lits ++ replicate 10881 0)))))
    ∙ omega (arith, length-append x.weights (x.lens ++ (x.sizes ++ (x.lits ++ (x.edge_lits ++ replicate 10881 0)))), s.weights, e₂)

module _ (x : Parts) (s : Sized x) where
  abbrev w : List ℕ
  w = words_is x

  abbrev head : List ℕ
  head = x.vertices ∷ x.edges ∷ x.same_size ∷ x.extra_walls ∷ 0 ∷ 0 ∷ 0 ∷ 0 ∷ []

  abbrev t₅ : List ℕ
  t₅ = x.edge_lits ++ replicate 10881 0

  abbrev t₄ : List ℕ
  t₄ = x.lits ++ t₅

  abbrev t₃ : List ℕ
  t₃ = x.sizes ++ t₄

  abbrev t₂ : List ℕ
  t₂ = x.lens ++ t₃

  abbrev t₁ : List ℕ
  t₁ = x.weights ++ t₂

  at₁ : (i : ℕ) → word w (8 + i) ≡ get_or t₁ i 0
  unfolding words_is
  at₁ i = after 8 head t₁ i refl

  at₂ : (i : ℕ) → word w (72 + i) ≡ get_or t₂ i 0
  at₂ i = let e : 72 + i ≡ 8 + (64 + i) = omega arith in ap (word w) e ∙ at₁ (64 + i) ∙ after 64 x.weights t₂ i s.weights

  at₃ : (i : ℕ) → word w (136 + i) ≡ get_or t₃ i 0
  at₃ i = let e : 136 + i ≡ 72 + (64 + i) = omega arith in ap (word w) e ∙ at₂ (64 + i) ∙ after 64 x.lens t₃ i s.lens

  at₄ : (i : ℕ) → word w (2184 + i) ≡ get_or t₄ i 0
  at₄ i = let e : 2184 + i ≡ 136 + (2048 + i) = omega arith in ap (word w) e ∙ at₃ (2048 + i) ∙ after 2048 x.sizes t₄ i s.sizes

  at₅ : (i : ℕ) → word w (4232 + i) ≡ get_or t₅ i 0
  at₅ i = let e : 4232 + i ≡ 2184 + (2048 + i) = omega arith in ap (word w) e ∙ at₄ (2048 + i) ∙ after 2048 x.lits t₅ i s.lits

  pub parts_plan : plan_of w x.ends ≡ plan_is x
  unfolding plan_is words_is
  parts_plan i = record {
    vertices = x.vertices;
    edges = x.edges;
    ends = x.ends;
    edge_lit = λ g. listed 128 w x.edge_lits 4232 g s.edge_lits (λ (h : g < 128). at₅ g ∙ get_or-append x.edge_lits (replicate 10881 0) 0 g (omega (arith, s.edge_lits))) i;
    weight = λ v. listed 64 w x.weights 8 v s.weights (λ (h : v < 64). at₁ v ∙ get_or-append x.weights t₂ 0 v (omega (arith, s.weights))) i;
    domain_len = λ v. listed 64 w x.lens 72 v s.lens (λ (h : v < 64). at₂ v ∙ get_or-append x.lens t₃ 0 v (omega (arith, s.lens))) i;
    domain = λ v j. gridded w x.sizes 136 v j (λ (h : v < 64) (l : j < 32).
        let e : 136 + 32 * v + j ≡ 136 + (32 * v + j) = omega arith in
        ap (word w) e ∙ at₃ (32 * v + j) ∙ get_or-append x.sizes t₄ 0 (32 * v + j) (omega (arith, s.sizes))) i;
    dom_lit = λ v j. gridded w x.lits 2184 v j (λ (h : v < 64) (l : j < 32).
        let e : 2184 + 32 * v + j ≡ 2184 + (32 * v + j) = omega arith in
        ap (word w) e ∙ at₄ (32 * v + j) ∙ get_or-append x.lits t₅ 0 (32 * v + j) (omega (arith, s.lits))) i;
    disallow_adjacent_same_size_regions = eqb x.same_size 1;
    allow_extra_walls = eqb x.extra_walls 1;
  }

-- the plan that is built is the one of these parts, where they are what was given
pub built_plan : (vs : List ℤ) (n : ℕ) (es : List ℤ) (m : ℕ) (p e : Bool) (x : Parts) → Sized x → length (words_is x) ≡ 15241 →
    refusal vs n es m ≡ 0 → given vs n es m p e ≡ words_is x → edge_table es m ≡ x.ends → state_plan (built vs n es m p e).state ≡ plan_is x
unfolding built plan_words
built_plan vs n es m p e x s len z g t =
    (λ i. plan_of (pick_yes (with_index (given vs n es m p e)) (replicate 15241 0) (ap (λ (k : ℕ). eqb k 0) z) i) (t i))
    ∙ ap (λ (ws : List ℕ). plan_of (with_index ws) x.ends) g
    ∙ same_plan (with_index (words_is x)) (words_is x) x.ends (kept_word (words_is x) len)
    ∙ parts_plan x s
