-- The view's eight rows of 64 words, stored one after the other: each stands in its place.
use Prim.Native.Nat.{ℕ, ◌+◌, ◌<◌, ◌≤◌}
use native.Mathlib.Omega.{arith}
use mathlib.Core.Path.{◌≡◌, refl, ap, ◌∙◌}
use mathlib.Core.Logic.{◌⊎◌, inl, inr}
use mathlib.Core.List.{List}
use lib.ListN.{length, get_or}
use Rattle.base.specs.Lists.{filled}
use Rattle.plan.specs.Words.{word}
use Rattle.views.specs.declared.compute.Regions.{Regions}
use Rattle.views.specs.declared.compute.Bounds.{Bounds}
use Rattle.views.specs.Compute.{with_regions, with_bounds}
use Rattle.base.proofs.Filled.{filled_length, filled_in, filled_out}

module _ (d p : Regions) (u l : Bounds) (view : List ℕ) (room : length view ≡ 512) where
  abbrev pub rows : List ℕ
  rows = with_bounds 384 l (with_bounds 256 u (with_regions 64 p (with_regions 0 d view)))

  x1 : List ℕ
  x1 = filled 0 64 (word d.labels) view

  x2 : List ℕ
  x2 = filled 128 64 (word d.weights) x1

  x3 : List ℕ
  x3 = filled 64 64 (word p.labels) x2

  x4 : List ℕ
  x4 = filled 192 64 (word p.weights) x3

  x5 : List ℕ
  x5 = filled 256 64 (word u.bounds) x4

  x6 : List ℕ
  x6 = filled 320 64 (word u.holders) x5

  x7 : List ℕ
  x7 = filled 384 64 (word l.bounds) x6

  x8 : List ℕ
  x8 = filled 448 64 (word l.holders) x7

  rows_are : rows ≡ x8
  unfolding with_bounds with_regions x1 x2 x3 x4 x5 x6 x7 x8
  rows_are = refl

  l1 : length x1 ≡ 512
  unfolding x1
  l1 = filled_length 0 _ view 64 ∙ room

  l2 : length x2 ≡ 512
  unfolding x2
  l2 = filled_length 128 _ x1 64 ∙ l1

  l3 : length x3 ≡ 512
  unfolding x3
  l3 = filled_length 64 _ x2 64 ∙ l2

  l4 : length x4 ≡ 512
  unfolding x4
  l4 = filled_length 192 _ x3 64 ∙ l3

  l5 : length x5 ≡ 512
  unfolding x5
  l5 = filled_length 256 _ x4 64 ∙ l4

  l6 : length x6 ≡ 512
  unfolding x6
  l6 = filled_length 320 _ x5 64 ∙ l5

  l7 : length x7 ≡ 512
  unfolding x7
  l7 = filled_length 384 _ x6 64 ∙ l6

  -- the later rows leave the earlier ones
  p8 : (k : ℕ) → k < 448 → get_or x8 k 0 ≡ get_or x7 k 0
  unfolding x8
  p8 k h = filled_out 448 _ x7 64 k (inl h)

  p7 : (k : ℕ) → k < 384 → get_or x8 k 0 ≡ get_or x6 k 0
  unfolding x7
  p7 k h = p8 k (omega arith) ∙ filled_out 384 _ x6 64 k (inl h)

  p6 : (k : ℕ) → k < 320 → get_or x8 k 0 ≡ get_or x5 k 0
  unfolding x6
  p6 k h = p7 k (omega arith) ∙ filled_out 320 _ x5 64 k (inl h)

  p5 : (k : ℕ) → k < 256 → get_or x8 k 0 ≡ get_or x4 k 0
  unfolding x5
  p5 k h = p6 k (omega arith) ∙ filled_out 256 _ x4 64 k (inl h)

  p4 : (k : ℕ) → k < 192 → get_or x8 k 0 ≡ get_or x3 k 0
  unfolding x4
  p4 k h = p5 k (omega arith) ∙ filled_out 192 _ x3 64 k (inl h)

  p3 : (k : ℕ) → k < 192 → (k < 64) ⊎ (128 ≤ k) → get_or x8 k 0 ≡ get_or x2 k 0
  unfolding x3
  p3 k h i = p4 k h ∙ filled_out 64 _ x2 64 k i

  p2 : (k : ℕ) → k < 64 → get_or x8 k 0 ≡ get_or x1 k 0
  unfolding x2
  p2 k h = p3 k (omega arith) (inl h) ∙ filled_out 128 _ x1 64 k (inl (omega arith))

  module _ (i : ℕ) (h : i < 64) where
    pub row_0 : get_or rows (0 + i) 0 ≡ word d.labels i
    unfolding x1
    row_0 = ap (λ (z : List ℕ). get_or z (0 + i) 0) rows_are ∙ p2 (0 + i) (omega arith) ∙ filled_in 0 (word d.labels) view 64 i h (omega arith)

    pub row_128 : get_or rows (128 + i) 0 ≡ word d.weights i
    unfolding x2
    row_128 = ap (λ (z : List ℕ). get_or z (128 + i) 0) rows_are ∙ p3 (128 + i) (omega arith) (inr (omega arith)) ∙ filled_in 128 (word d.weights) x1 64 i h (omega (arith, l1))

    pub row_64 : get_or rows (64 + i) 0 ≡ word p.labels i
    unfolding x3
    row_64 = ap (λ (z : List ℕ). get_or z (64 + i) 0) rows_are ∙ p4 (64 + i) (omega arith) ∙ filled_in 64 (word p.labels) x2 64 i h (omega (arith, l2))

    pub row_192 : get_or rows (192 + i) 0 ≡ word p.weights i
    unfolding x4
    row_192 = ap (λ (z : List ℕ). get_or z (192 + i) 0) rows_are ∙ p5 (192 + i) (omega arith) ∙ filled_in 192 (word p.weights) x3 64 i h (omega (arith, l3))

    pub row_256 : get_or rows (256 + i) 0 ≡ word u.bounds i
    unfolding x5
    row_256 = ap (λ (z : List ℕ). get_or z (256 + i) 0) rows_are ∙ p6 (256 + i) (omega arith) ∙ filled_in 256 (word u.bounds) x4 64 i h (omega (arith, l4))

    pub row_320 : get_or rows (320 + i) 0 ≡ word u.holders i
    unfolding x6
    row_320 = ap (λ (z : List ℕ). get_or z (320 + i) 0) rows_are ∙ p7 (320 + i) (omega arith) ∙ filled_in 320 (word u.holders) x5 64 i h (omega (arith, l5))

    pub row_384 : get_or rows (384 + i) 0 ≡ word l.bounds i
    unfolding x7
    row_384 = ap (λ (z : List ℕ). get_or z (384 + i) 0) rows_are ∙ p8 (384 + i) (omega arith) ∙ filled_in 384 (word l.bounds) x6 64 i h (omega (arith, l6))

    pub row_448 : get_or rows (448 + i) 0 ≡ word l.holders i
    unfolding x8
    row_448 = ap (λ (z : List ℕ). get_or z (448 + i) 0) rows_are ∙ filled_in 448 (word l.holders) x7 64 i h (omega (arith, l7))
