-- What a page says can be read back from it.
use Prim.Native.Nat.{ℕ, zero, suc, ◌-◌, ◌+◌, ◌^◌, ◌<◌, ◌≤◌}
use native.Mathlib.Omega.{arith}
use mathlib.Core.Path.{◌≡◌, refl, sym, ◌∙◌, ap}
use mathlib.Core.Bool.{true, false≢true}
use mathlib.Core.List.{List, [], ◌∷◌, ◌++◌, append_assoc}
use lib.Dec.{eqb, leb}
use lib.Pow.{pow_mono}
use lib.ListN.{length, take, drop, replicate, length-append}
use lib.Count.{count_trailing_zeros}
use borrow.Author.Tests.{eq-eqb, ne_eqb, leb-true}
use Rattle.base.proofs.Loop.{pick_yes, pick_no, tested}
use Rattle.text.specs.Number.{all_digits, decimal}
use Rattle.text_writer.specs.Digits.{digits}
use Rattle.text_writer.proofs.RoundTrip.{all_digits_lem, value_digits}
use Rattle.pages.specs.Sets.{set_of}
use Rattle.pages.specs.Line.{field, upper_text, head_text, numbers_text, line}
use Rattle.pages.specs.Reading.{slice, trimmed, field_at, LineReads}
use Rattle.pages.proofs.Sets.{bits_small, trailing_lowest}
use Rattle.pages.proofs.Fields.{field_long, word_few, upper_few, upper_some, upper_none, line_long}

-- ---- a set of up to 64 vertices is a word of 64 bits
pub set_small : (label : ℕ → ℕ) (n r : ℕ) → n ≤ 64 → set_of label n r < 18446744073709551616
unfolding set_of
set_small label n r h =
    let s = bits_small (λ v. eqb (label v) r) 0 n in
    let m : 2 ^ n ≤ 2 ^ 64 = pow_mono {i = n} {j = 64} h in
    let x : 2 ^ 64 ≡ 18446744073709551616 = refl in
    omega arith

-- ---- the first field, where no vertex has a label above it
pub lowest_read : (label : ℕ → ℕ) (n r : ℕ) → n ≤ 64 → r < n → ((v : ℕ) → v < n → label v ≤ v) → label r ≡ r →
    count_trailing_zeros 64 (set_of label n r) ≡ r
unfolding set_of
lowest_read label n r h k w e = trailing_lowest (λ v. eqb (label v) r) 0 n 64 r h k
    (let z : 0 + r ≡ r = omega arith in eq-eqb _ _ (ap label z ∙ e))
    (λ j l. let z : 0 + j ≡ j = omega arith in
    ne_eqb _ _ (λ (x : label (0 + j) ≡ r). omega (arith, w j (omega arith), ap label z)))

-- ---- a field gives its number back
trim_text : (l : List ℕ) → all_digits l ≡ true → trimmed l ≡ l
unfolding trimmed all_digits
trim_text [] h = refl
trim_text (x ∷ l) h = tested (leb 48 x)
    (λ t. let z = leb-true 48 x t in pick_no _ _ (ne_eqb x 32 (λ (y : x ≡ 32). omega arith)))
    (λ t. absurd (false≢true (sym (pick_no _ _ t) ∙ h)))

trim_spaces : (k : ℕ) (l : List ℕ) → trimmed l ≡ l → trimmed (replicate k 32 ++ l) ≡ l
unfolding trimmed
trim_spaces zero l h = h
trim_spaces (suc k) l h = pick_yes _ _ (eq-eqb 32 32 refl) ∙ trim_spaces k l h

pub field_read : (w n : ℕ) → decimal 0 (trimmed (field w (digits n))) ≡ n
unfolding field
field_read w n =
    let t = digits n in
    ap (decimal 0) (trim_spaces (w - length t) t (trim_text t (all_digits_lem n))) ∙ value_digits n

pub hyphen_read : (w x : ℕ) → x ≡ 2147483647 → trimmed (field w (upper_text x)) ≡ 45 ∷ []
unfolding field trimmed
hyphen_read w x e =
    ap (λ (t : List ℕ). trimmed (replicate (w - length t) 32 ++ t)) (upper_none x e)
    ∙ trim_spaces (w - 1) (45 ∷ []) (pick_no _ _ (ne_eqb 45 32 (λ (y : ◌≡◌ {A = ℕ} 45 32). omega arith)))

-- the fields of a line, each as wide as it must be
pub columns : (a c w lo up : ℕ) → line a c w lo up ≡ field 4 (digits a) ++ (field 4 (digits c) ++
    (field 10 (digits w) ++ (field 10 (digits lo) ++ (field 10 (upper_text up) ++ (10 ∷ [])))))
unfolding line head_text numbers_text
columns a c w lo up =
    let f = field 4 (digits a) in
    let g = field 4 (digits c) in
    let x = field 10 (digits w) in
    let y = field 10 (digits lo) in
    let z = field 10 (upper_text up) in
    append_assoc f g ((x ++ (y ++ z)) ++ (10 ∷ []))
    ∙ ap (λ (l : List ℕ). f ++ (g ++ l))
    (append_assoc x (y ++ z) (10 ∷ []) ∙ ap (λ (l : List ℕ). x ++ l) (append_assoc y z (10 ∷ [])))

-- ---- a line is read back
take_front : (a b : List ℕ) → take (length a) (a ++ b) ≡ a
take_front [] b = refl
take_front (x ∷ a) b = ap (λ (l : List ℕ). x ∷ l) (take_front a b)

drop_front : (a b : List ℕ) → drop (length a) (a ++ b) ≡ b
drop_front [] b = refl
drop_front (x ∷ a) b = drop_front a b

-- n bytes after the first `from`
between : (from n : ℕ) (a f b : List ℕ) → length a ≡ from → length f ≡ n → slice from n (a ++ (f ++ b)) ≡ f
unfolding slice
between from n a f b h k =
    ap (take n) (ap (λ (j : ℕ). drop j (a ++ (f ++ b))) (sym h) ∙ drop_front a (f ++ b))
    ∙ ap (λ (j : ℕ). take j (f ++ b)) (sym k) ∙ take_front f b

module _ (a c w lo up : ℕ) (ha : length (digits a) ≤ 4) (hc : length (digits c) ≤ 4) (hw : w < 4294967296)
    (hl : lo < 4294967296) (hu : up < 4294967296) where
  abbrev lowest : List ℕ
  lowest = field 4 (digits a)

  abbrev count : List ℕ
  count = field 4 (digits c)

  abbrev weight : List ℕ
  weight = field 10 (digits w)

  abbrev lower : List ℕ
  lower = field 10 (digits lo)

  abbrev upper : List ℕ
  upper = field 10 (upper_text up)

  abbrev end : List ℕ
  end = 10 ∷ []

  -- what stands before the third field, the fourth, the fifth and the newline
  abbrev first8 : List ℕ
  first8 = lowest ++ count

  abbrev first18 : List ℕ
  first18 = first8 ++ weight

  abbrev first28 : List ℕ
  first28 = first18 ++ lower

  abbrev first38 : List ℕ
  first38 = first28 ++ upper

  is_4 : length lowest ≡ 4
  is_4 = field_long 4 (digits a) ha

  is_8 : length first8 ≡ 8
  is_8 = omega (arith, length-append lowest count, is_4, field_long 4 (digits c) hc)

  is_18 : length first18 ≡ 18
  is_18 = omega (arith, length-append first8 weight, is_8, field_long 10 (digits w) (word_few w hw))

  is_28 : length first28 ≡ 28
  is_28 = omega (arith, length-append first18 lower, is_18, field_long 10 (digits lo) (word_few lo hl))

  is_38 : length first38 ≡ 38
  is_38 = omega (arith, length-append first28 upper, is_28, field_long 10 (upper_text up) (upper_few up hu))

  at_4 : line a c w lo up ≡ lowest ++ (count ++ (weight ++ (lower ++ (upper ++ end))))
  at_4 = columns a c w lo up

  at_8 : line a c w lo up ≡ first8 ++ (weight ++ (lower ++ (upper ++ end)))
  at_8 = at_4 ∙ sym (append_assoc lowest count (weight ++ (lower ++ (upper ++ end))))

  at_18 : line a c w lo up ≡ first18 ++ (lower ++ (upper ++ end))
  at_18 = at_8 ∙ sym (append_assoc first8 weight (lower ++ (upper ++ end)))

  at_28 : line a c w lo up ≡ first28 ++ (upper ++ end)
  at_28 = at_18 ∙ sym (append_assoc first18 lower (upper ++ end))

  at_38 : line a c w lo up ≡ first38 ++ (end ++ [])
  at_38 = at_28 ∙ sym (append_assoc first28 upper end)

  -- a field with what stands before it and after it
  placed : (from n : ℕ) (before f after : List ℕ) → line a c w lo up ≡ before ++ (f ++ after) →
      length before ≡ from → length f ≡ n → slice from n (line a c w lo up) ≡ f
  placed from n before f after e h k = ap (slice from n) e ∙ between from n before f after h k

  lowest_is : slice 0 4 (line a c w lo up) ≡ lowest
  lowest_is = placed 0 4 [] lowest (count ++ (weight ++ (lower ++ (upper ++ end)))) at_4 refl is_4

  count_is : slice 4 4 (line a c w lo up) ≡ count
  count_is = placed 4 4 lowest count (weight ++ (lower ++ (upper ++ end))) at_4 is_4 (field_long 4 (digits c) hc)

  weight_is : slice 8 10 (line a c w lo up) ≡ weight
  weight_is = placed 8 10 first8 weight (lower ++ (upper ++ end)) at_8 is_8 (field_long 10 (digits w) (word_few w hw))

  lower_is : slice 18 10 (line a c w lo up) ≡ lower
  lower_is = placed 18 10 first18 lower (upper ++ end) at_18 is_18 (field_long 10 (digits lo) (word_few lo hl))

  upper_is : slice 28 10 (line a c w lo up) ≡ upper
  upper_is = placed 28 10 first28 upper end at_28 is_28 (field_long 10 (upper_text up) (upper_few up hu))

  said : {x y : List ℕ} → x ≡ y → decimal 0 (trimmed x) ≡ decimal 0 (trimmed y)
  said e = ap (λ (t : List ℕ). decimal 0 (trimmed t)) e

  pub reads_back : LineReads a c w lo up (line a c w lo up)
  unfolding field_at
  reads_back = record {
    long = line_long a c w lo up ha hc hw hl hu;
    lowest_read = said lowest_is ∙ field_read 4 a;
    count_read = said count_is ∙ field_read 4 c;
    weight_read = said weight_is ∙ field_read 10 w;
    lower_read = said lower_is ∙ field_read 10 lo;
    upper_read = λ n. said (upper_is ∙ ap (field 10) (upper_some up n)) ∙ field_read 10 up;
    unlimited_read = λ e. ap trimmed upper_is ∙ hyphen_read 10 up e;
    end_read = placed 38 1 first38 end [] at_38 is_38 refl;
  }
