-- A page reads of a table what it says of the vertices there are, so tables that agree on these have the same page.
use Prim.Native.Nat.{ℕ, zero, suc, ◌+◌, ◌*◌, ◌<◌, ◌≤◌}
use native.Mathlib.Omega.{arith}
use native.Mathlib.Nat.{le_step, lt-suc_self}
use mathlib.Core.Path.{◌≡◌, refl, sym, ap, ap₂, ◌∙◌}
use mathlib.Core.Bool.{Bool}
use mathlib.Core.List.{List, [], ◌++◌}
use lib.Dec.{eqb, ltb}
use lib.ListN.{length}
use lib.Seq.{sets, sets-eq}
use Rattle.base.specs.Iter.{pick}
use Rattle.base.specs.Lists.{collect, total}
use Rattle.text_writer.specs.Written.{put}
use Rattle.std.specs.Prelude.{Ok, Err}
use Rattle.pages.specs.declared.PageError.TheVariants.{TooSmall, Unknown}
use Rattle.pages.specs.Sets.{bits, set_of}
use Rattle.pages.specs.Lines.{set_line, Figures, region_line, is_label, num_regions, line_of, page_text}
use Rattle.pages.specs.Lines.{page_buffer, printed_in}

-- two tables agree on n vertices
pub record SameFigures (n : ℕ) (t u : Figures) : Type 0 where
  pub label : (v : ℕ) → v < n → t.label v ≡ u.label v
  pub weight : (r : ℕ) → r < n → t.weight r ≡ u.weight r
  pub lower : (r : ℕ) → r < n → t.lower r ≡ u.lower r
  pub upper : (r : ℕ) → r < n → t.upper r ≡ u.upper r

total_same : (b c : ℕ → Bool) (w : ℕ → ℕ) (n : ℕ) → ((i : ℕ) → i < n → b i ≡ c i) → total b w n ≡ total c w n
unfolding total
total_same b c w zero h = refl
total_same b c w (suc n) h =
    ap₂ (λ (x : ℕ) (y : Bool). x + pick y (w n) 0) (total_same b c w n (λ i k. h i (le_step k))) (h n (lt-suc_self n))

collect_same : (f g : ℕ → List ℕ) (n : ℕ) → ((i : ℕ) → i < n → f i ≡ g i) → collect f n ≡ collect g n
unfolding collect
collect_same f g zero h = refl
collect_same f g (suc n) h = ap₂ ◌++◌ (collect_same f g n (λ i k. h i (le_step k))) (h n (lt-suc_self n))

bits_same : (b c : ℕ → Bool) (v k : ℕ) → ((i : ℕ) → v ≤ i → i < v + k → b i ≡ c i) → bits b v k ≡ bits c v k
unfolding bits
bits_same b c v zero h = refl
bits_same b c v (suc k) h =
    ap₂ (λ (x : Bool) (y : ℕ). pick x 1 0 + 2 * y) (h v (omega arith) (omega arith))
    (bits_same b c (suc v) k (λ i l m. h i (omega arith) (omega arith)))

module _ (n : ℕ) (t u : Figures) (q : SameFigures n t u) where
  set_same : (r : ℕ) → set_of t.label n r ≡ set_of u.label n r
  unfolding set_of
  set_same r = bits_same _ _ 0 n (λ i l m. ap (λ (x : ℕ). eqb x r) (q.label i (omega arith)))

  region_line_same : (r : ℕ) → r < n → region_line t n r ≡ region_line u n r
  unfolding region_line
  region_line_same r h =
      ap₂ (λ (x y : ℕ). set_line x y (t.lower r) (t.upper r)) (set_same r) (q.weight r h)
      ∙ ap₂ (set_line (set_of u.label n r) (u.weight r)) (q.lower r h) (q.upper r h)

  label_same : (r : ℕ) → r < n → is_label t.label r ≡ is_label u.label r
  label_same r h = ap (λ (x : ℕ). eqb x r) (q.label r h)

  pub regions_same : num_regions t.label n ≡ num_regions u.label n
  unfolding num_regions
  regions_same = total_same _ _ _ n label_same

  pub page_same : page_text t n ≡ page_text u n
  unfolding page_text line_of
  page_same =
      collect_same _ _ n (λ r h. ap₂ (λ (x : Bool) (y : List ℕ). pick x y []) (label_same r h) (region_line_same r h))

  -- and are answered the same
  pub printed_same : (b : List ℕ) → printed_in t n b ≡ printed_in u n b
  unfolding printed_in
  printed_same b =
      ap₂ (λ (k : ℕ) (l : List ℕ). pick (ltb 64 n) (page_buffer (Err Unknown) b)
      (pick (ltb (length b) (39 * k)) (page_buffer (Err TooSmall) b) (page_buffer (Ok (39 * k)) (put b 0 l))))
      regions_same page_same

-- the bytes stand from the buffer's start on, where they fit
pub put_sets : (b l : List ℕ) → length l ≤ length b → put b 0 l ≡ sets b 0 l
unfolding put
put_sets b l h = sym (sets-eq l b 0 (omega arith))
