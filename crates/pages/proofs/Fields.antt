-- Fields put one after the other.
use Prim.Native.Nat.{ℕ, zero, suc, ◌+◌, ◌-◌, ◌*◌, ◌<◌, ◌≤◌}
use native.Mathlib.Omega.{arith}
use native.Mathlib.Numerals.{add-one}
use mathlib.Core.Path.{◌≡◌, refl, sym, ◌∙◌, ap, ap₂, subst}
use mathlib.Core.List.{List, [], ◌∷◌, ◌++◌, append_assoc}
use lib.Dec.{eqb}
use lib.ListN.{length, set, replicate, length-append, length-replicate}
use lib.Count.{ones, count_trailing_zeros, ones-le, trailing_le}
use borrow.Author.Tests.{eq-eqb, ne_eqb, eqb-true, eqb-false, lt-ltb, le-ltb}
use Rattle.base.specs.Iter.{pick}
use Rattle.base.specs.Lists.{collect, total}
use Rattle.base.proofs.Loop.{pick_yes, pick_no, pick_ind, tested}
use Rattle.text_writer.specs.Digits.{digits}
use Rattle.text_writer.specs.Written.{put, after}
use Rattle.text_writer.proofs.Decimals.{digits_few}
use Rattle.text_writer.proofs.Putting.{length_put, put_none, put_one, put_put, put_last, fitted}
use Rattle.pages.specs.Line.{field, upper_text, head_text, numbers_text, line}
use Rattle.pages.specs.Lines.{set_line, Figures, region_line, is_label}
use Rattle.pages.specs.Lines.{num_regions, line_of, page_text, page_buffer, printed_in}
use Rattle.std.specs.Prelude.{Ok, Err}
use Rattle.pages.specs.declared.PageError.TheVariants.{TooSmall, Unknown}

-- ---- spaces

-- ---- one field
pub field_long : (w : ℕ) (t : List ℕ) → length t ≤ w → length (field w t) ≡ w
unfolding field
field_long w t h =
    let k = w - length t in
    omega (arith, length-append (replicate k 32) t, length-replicate {A = ℕ} k 32)

-- a second run of bytes where the first ends
pub and_then : (buf b c xs ys : List ℕ) (at p : ℕ) → b ≡ put buf at xs → c ≡ put b p ys → p ≡ at + length xs →
    at + length xs ≤ length buf → c ≡ put buf at (xs ++ ys)
and_then buf b c xs ys at p h k e l = k ∙ ap (λ (x : List ℕ). put x p ys) h ∙ put_put buf xs ys at p e l

pub put_long : (buf b xs : List ℕ) (at : ℕ) → b ≡ put buf at xs → at + length xs ≤ length buf → length b ≡ length buf
put_long buf b xs at h l = ap length h ∙ length_put buf xs at l

module _ (n w gap at : ℕ) (buf b c : List ℕ) (e : gap ≡ w - length (digits n)) (h : length (digits n) ≤ w)
    (l : at + w ≤ length buf) (i : b ≡ put buf at (replicate gap 32)) where
  pub gap_long : length b ≡ length buf
  gap_long = put_long buf b (replicate gap 32) at i (omega (arith, length-replicate {A = ℕ} gap 32))

  pub fielded : c ≡ after b (at + gap) (digits n) → c ≡ put buf at (field w (digits n))
  unfolding field
  fielded k =
      let r = length-replicate {A = ℕ} gap 32 in
      let m = k ∙ (fitted b (digits n) (at + gap) (omega (arith, gap_long))).1 in
      and_then buf b c (replicate gap 32) (digits n) at (at + gap) i m (omega arith) (omega arith)
      ∙ ap (λ (j : ℕ). put buf at (replicate j 32 ++ digits n)) e

-- ---- an upper bound
pub upper_some : (x : ℕ) → (x ≡ 2147483647 → ⊥) → upper_text x ≡ digits x
unfolding upper_text
upper_some x n = pick_no _ _ (ne_eqb _ _ n)

pub upper_none : (x : ℕ) → x ≡ 2147483647 → upper_text x ≡ 45 ∷ []
unfolding upper_text
upper_none x e = pick_yes _ _ (eq-eqb _ _ e)

pub upper_few : (x : ℕ) → x < 4294967296 → length (upper_text x) ≤ 10
unfolding upper_text
upper_few x h = pick_ind (λ (t : List ℕ). length t ≤ 10) _ _ _ (λ _. omega arith) (λ _. digits_few 9 x (omega arith))

pub hyphen_put : (x at : ℕ) (buf b : List ℕ) → x ≡ 2147483647 → at + 10 ≤ length buf →
    b ≡ put buf at (replicate 9 32) → set b (at + 9) 45 ≡ put buf at (field 10 (upper_text x))
unfolding field
hyphen_put x at buf b e l i =
    let k = put_long buf b (replicate 9 32) at i (omega arith) in
    put_last buf (replicate 9 32) b at (at + 9) 45 refl (omega arith) i
    ∙ ap (λ (t : List ℕ). put buf at (replicate (10 - length t) 32 ++ t)) (sym (upper_none x e))

-- ---- a line
pub lowest_few : (s : ℕ) → length (digits (count_trailing_zeros 64 s)) ≤ 4
lowest_few s = digits_few 3 (count_trailing_zeros 64 s) (omega (arith, trailing_le 64 s))

pub count_few : (s : ℕ) → s < 18446744073709551616 → length (digits (ones s)) ≤ 4
count_few s h = digits_few 3 (ones s) (omega (arith, ones-le 64 s h))

pub word_few : (x : ℕ) → x < 4294967296 → length (digits x) ≤ 10
word_few x h = digits_few 9 x (omega arith)

pub head_long : (a c : ℕ) → length (digits a) ≤ 4 → length (digits c) ≤ 4 → length (head_text a c) ≡ 8
unfolding head_text
head_long a c h k =
    let x = field 4 (digits a) in
    let y = field 4 (digits c) in
    omega (arith, length-append x y, field_long 4 (digits a) h, field_long 4 (digits c) k)

pub numbers_long : (w lo up : ℕ) → w < 4294967296 → lo < 4294967296 → up < 4294967296 →
    length (numbers_text w lo up) ≡ 30
unfolding numbers_text
numbers_long w lo up h k l =
    let x = field 10 (digits w) in
    let y = field 10 (digits lo) in
    let z = field 10 (upper_text up) in
    omega (
      arith,
      length-append x (y ++ z),
      length-append y z,
      field_long 10 (digits w) (word_few w h),
      field_long 10 (digits lo) (word_few lo k),
      field_long 10 (upper_text up) (upper_few up l),
    )

-- every line has 39 bytes
pub line_long : (a c w lo up : ℕ) → length (digits a) ≤ 4 → length (digits c) ≤ 4 → w < 4294967296 →
    lo < 4294967296 → up < 4294967296 → length (line a c w lo up) ≡ 39
unfolding line
line_long a c w lo up f g h k l =
    omega (
      arith,
      length-append (head_text a c) (numbers_text w lo up ++ (10 ∷ [])),
      length-append (numbers_text w lo up) (10 ∷ []),
      head_long a c f g,
      numbers_long w lo up h k l,
    )

pub set_line_long : (s w lo up : ℕ) → s < 18446744073709551616 → w < 4294967296 → lo < 4294967296 →
    up < 4294967296 → length (set_line s w lo up) ≡ 39
unfolding set_line
set_line_long s w lo up g h k l = line_long _ _ w lo up (lowest_few s) (count_few s g) h k l

pub head_put_lem : (a c at : ℕ) (buf b d : List ℕ) → length (digits a) ≤ 4 → at + 8 ≤ length buf →
    b ≡ put buf at (field 4 (digits a)) → d ≡ put b (at + 4) (field 4 (digits c)) → d ≡ put buf at (head_text a c)
unfolding head_text
head_put_lem a c at buf b d h l i k =
    let f = field_long 4 (digits a) h in
    and_then buf b d (field 4 (digits a)) (field 4 (digits c)) at (at + 4) i k (omega arith) (omega arith)

pub numbers_put : (w lo up at : ℕ) (buf b c d : List ℕ) → w < 4294967296 → lo < 4294967296 →
    at + 30 ≤ length buf → b ≡ put buf at (field 10 (digits w)) → c ≡ put b (at + 10) (field 10 (digits lo)) →
    d ≡ put c (at + 20) (field 10 (upper_text up)) → d ≡ put buf at (numbers_text w lo up)
unfolding numbers_text
numbers_put w lo up at buf b c d h k l i j m =
    let x = field 10 (digits w) in
    let y = field 10 (digits lo) in
    let z = field 10 (upper_text up) in
    let f = field_long 10 (digits w) (word_few w h) in
    let g = field_long 10 (digits lo) (word_few lo k) in
    let a = length-append x y in
    let t = and_then buf b c x y at (at + 10) i j (omega arith) (omega arith) in
    and_then buf c d (x ++ y) z at (at + 20) t m (omega arith) (omega arith) ∙ ap (put buf at) (append_assoc x y z)

pub line_put : (s w lo up at : ℕ) (buf b c : List ℕ) → at + 39 ≤ length buf →
    length (head_text (count_trailing_zeros 64 s) (ones s)) ≡ 8 → length (numbers_text w lo up) ≡ 30 →
    b ≡ put buf at (head_text (count_trailing_zeros 64 s) (ones s)) → c ≡ put b (at + 8) (numbers_text w lo up) →
    set c (at + 38) 10 ≡ put buf at (set_line s w lo up)
unfolding set_line line
line_put s w lo up at buf b c l f g i j =
    let h = head_text (count_trailing_zeros 64 s) (ones s) in
    let m = numbers_text w lo up in
    let a = length-append h m in
    let t = and_then buf b c h m at (at + 8) i j (omega arith) (omega arith) in
    let k = put_long buf c (h ++ m) at t (omega arith) in
    let n = put_one c (at + 38) 10 (omega arith) in
    and_then buf c _ (h ++ m) (10 ∷ []) at (at + 38) t n (omega arith) (omega arith)
    ∙ ap (put buf at) (append_assoc h m (10 ∷ []))

-- ---- regions
pub label_yes : (label : ℕ → ℕ) (r : ℕ) → label r ≡ r → pick {A = ℕ} (is_label label r) 1 0 ≡ 1
label_yes label r e = pick_yes _ _ (eq-eqb _ _ e)

pub label_no : (label : ℕ → ℕ) (r : ℕ) → (label r ≡ r → ⊥) → pick {A = ℕ} (is_label label r) 1 0 ≡ 0
label_no label r n = pick_no _ _ (ne_eqb _ _ n)

pub line_yes : (t : Figures) (n r : ℕ) → t.label r ≡ r → line_of t n r ≡ region_line t n r
unfolding line_of
line_yes t n r e = pick_yes _ _ (eq-eqb _ _ e)

pub line_no : (t : Figures) (n r : ℕ) → (t.label r ≡ r → ⊥) → line_of t n r ≡ []
unfolding line_of
line_no t n r e = pick_no _ _ (ne_eqb _ _ e)

pub regions_none : (label : ℕ → ℕ) → 0 ≡ num_regions label 0
unfolding num_regions total
regions_none label = refl

pub regions_more : (label : ℕ → ℕ) (r x y : ℕ) → x ≡ num_regions label r → y ≡ pick (is_label label r) 1 0 →
    x + y ≡ num_regions label (r + 1)
unfolding num_regions total
regions_more label r x y h k = ap₂ ◌+◌ h k ∙ ap (num_regions label) (sym (add-one r))

one_region : (label : ℕ → ℕ) (r : ℕ) → pick {A = ℕ} (is_label label r) 1 0 ≤ 1
one_region label r = pick_ind (λ (x : ℕ). x ≤ 1) _ _ _ (λ _. omega arith) (λ _. omega arith)

pub regions_few : (label : ℕ → ℕ) (r : ℕ) → num_regions label r ≤ r
unfolding num_regions total
regions_few label zero = omega arith
regions_few label (suc r) = omega (arith, regions_few label r, one_region label r)

below : (r n : ℕ) → r ≤ suc n → (r ≡ suc n → ⊥) → r ≤ n
below r n h z = omega arith

pub regions_mono : (label : ℕ → ℕ) (r n : ℕ) → r ≤ n → num_regions label r ≤ num_regions label n
unfolding num_regions total
regions_mono label r zero h = let z : r ≡ 0 = omega arith in omega (arith, ap (num_regions label) z)
regions_mono label r (suc n) h = tested (eqb r (suc n))
    (λ t. omega (arith, ap (num_regions label) (eqb-true r (suc n) t)))
    (λ t. let z = eqb-false r (suc n) t in omega (arith, regions_mono label r n (below r n h z)))

-- ---- the loop over the regions
abbrev pub lines : Figures → ℕ → ℕ → List ℕ
lines t n r = collect (line_of t n) r

pub record Lined (t : Figures) (n : ℕ) (page₀ page : List ℕ) (at r : ℕ) : Type 0 where
  pub most : r ≤ n
  pub place : at ≡ 39 * num_regions t.label r
  pub counted : length (lines t n r) ≡ 39 * num_regions t.label r
  pub is : page ≡ put page₀ 0 (lines t n r)
  pub long : length page ≡ length page₀

pub lined_none : (t : Figures) (n : ℕ) (page : List ℕ) → Lined t n page page 0 0
unfolding collect num_regions total
lined_none t n page = record {
  most = omega arith;
  place = refl;
  counted = refl;
  is = sym (put_none page 0);
  long = refl;
}

module _ (t : Figures) (n : ℕ) (page₀ page : List ℕ) (at r : ℕ) (h : r < n)
    (l : 39 * num_regions t.label n ≤ length page₀) (s : Lined t n page₀ page at r) where
  pub room_next : at + 39 * pick (is_label t.label r) 1 0 ≤ length page
  room_next =
      let m = regions_mono t.label (r + 1) n (omega arith) in
      let a = regions_more t.label r _ _ refl refl in
      omega (arith, s.place, s.long)

  pub lined_next : (page' : List ℕ) (at' : ℕ) → at' ≡ at + 39 * pick (is_label t.label r) 1 0 →
      page' ≡ put page at (line_of t n r) → length (line_of t n r) ≡ 39 * pick (is_label t.label r) 1 0 →
      Lined t n page₀ page' at' (r + 1)
  unfolding collect
  lined_next page' at' e i k =
      let a = regions_more t.label r _ _ refl refl in
      let c = length-append (lines t n r) (line_of t n r) in
      let z = ap (λ (j : ℕ). length (lines t n j)) (add-one r) in
      let m = regions_mono t.label (r + 1) n (omega arith) in
      let x : at ≡ 0 + length (lines t n r) = omega (arith, s.place, s.counted) in
      let y : 0 + length (lines t n r) ≤ length page₀ = omega (arith, s.counted) in
      record {
        most = omega arith;
        place = omega (arith, s.place);
        counted = omega (arith, s.counted);
        is = and_then page₀ page page' (lines t n r) (line_of t n r) 0 at s.is i x y
            ∙ ap (λ (j : ℕ). put page₀ 0 (lines t n j)) (sym (add-one r));
        long = put_long page page' (line_of t n r) at i (omega (arith, room_next)) ∙ s.long;
      }

pub lined_done : (t : Figures) (n : ℕ) (page₀ page : List ℕ) (at r : ℕ) → n ≤ r → Lined t n page₀ page at r →
    page ≡ put page₀ 0 (page_text t n)
unfolding page_text
lined_done t n page₀ page at r h s =
    let z : r ≡ n = omega (arith, s.most) in s.is ∙ ap (λ (j : ℕ). put page₀ 0 (lines t n j)) z

-- ---- the answer
module _ (t : Figures) (n : ℕ) (p : List ℕ) where
  pub page_unknown : 64 < n → page_buffer (Err Unknown) p ≡ printed_in t n p
  unfolding printed_in
  page_unknown h = sym (pick_yes _ _ (lt-ltb _ _ h))

  pub page_small : (k : ℕ) → k ≡ num_regions t.label n → n ≤ 64 → length p < 39 * k →
      page_buffer (Err TooSmall) p ≡ printed_in t n p
  unfolding printed_in
  page_small k e h l =
      let small = lt-ltb _ _ (subst (λ (x : ℕ). length p < 39 * x) e l) in
      sym (pick_no _ _ (le-ltb _ _ h) ∙ pick_yes _ _ small)

  pub page_told : (k : ℕ) (p' : List ℕ) → k ≡ num_regions t.label n → n ≤ 64 → 39 * k ≤ length p →
      p' ≡ put p 0 (page_text t n) → page_buffer (Ok (39 * k)) p' ≡ printed_in t n p
  unfolding printed_in
  page_told k p' e h l i =
      let fits = le-ltb _ _ (subst (λ (x : ℕ). 39 * x ≤ length p) e l) in
      ap₂ (λ (x : ℕ) (y : List ℕ). page_buffer (Ok (39 * x)) y) e i
      ∙ sym (pick_no _ _ (le-ltb _ _ h) ∙ pick_no _ _ fits)
