-- Numbers put into a buffer one by one lie over its first entries, as many as fit.
use mathlib.Core.Path.{◌≡◌, refl, sym, ap, ap₂, ◌∙◌}
use mathlib.Core.List.{List, [], ◌∷◌, ◌++◌, map}
use Prim.Native.Nat.{ℕ, zero, suc, ◌+◌, ◌-◌, ◌≤◌, ◌<◌}
use native.Mathlib.Omega.{arith}
use lib.IntN.{ℤ, pos}
use lib.Dec.{leb, ltb}
use lib.ListN.{length, take, drop, set, length-set, length-drop, take-append-drop, drop_of_length-le}
use lib.Seq.{take_all, drop-cons, append_snoc, take-suc-set, drop-set-lt, set_out}
use borrow.Author.Tests.{le-leb, lt-leb, ltb-true, ltb-false}
use Rattle.base.proofs.Loop.{pick_yes, pick_no, pick_ind, tested}
use Rattle.text.specs.declared.Field.{Field}
use Rattle.text.specs.Fields.{tab, upto}
use Rattle.text.specs.Number.{field_of, number_of}
use Rattle.text.specs.Lines.{rest, numbers_of, numbers_from, over}
use Rattle.text.specs.Steps.{more, store}
use Rattle.text.proofs.Cut.{split_first, more_at, more_none}

-- what is left, number by number, the first of them number j
unfoldable pub fill : ℕ → ℕ → List ℤ → List ℤ → List ℤ
fill from j out [] = out
fill from j out (x ∷ xs) = fill from (j + 1) (store from j x out) xs

pub length_store : (from j : ℕ) (x : ℤ) (out : List ℤ) → length (store from j x out) ≡ length out
unfolding store
length_store from j x out =
    pick_ind (λ (l : List ℤ). length l ≡ length out) (leb from j) _ _ (λ t. length-set out (j - from) x) (λ t. refl)

module _ (from j : ℕ) (x : ℤ) (out : List ℤ) where
  pub store_before : j < from → store from j x out ≡ out
  unfolding store
  store_before h = pick_no _ _ (lt-leb from j h)

  pub store_at : from ≤ j → store from j x out ≡ set out (j - from) x
  unfolding store
  store_at h = pick_yes _ _ (le-leb from j h)

over_full : (xs : List ℤ) → over xs [] ≡ []
unfolding over
over_full [] = refl
over_full (x ∷ xs) = refl

-- one number more, at place p
one_more : (p : ℕ) (x : ℤ) (xs out : List ℤ) → take (suc p) (set out p x) ++ over xs (drop (suc p) (set out p x)) ≡ take p out ++ over (x ∷ xs) (drop p out)
unfolding over
one_more p x xs out = tested (ltb p (length out))
    (λ t.
    let h = ltb-true p (length out) t in
    ap₂ (λ (a b : List ℤ). a ++ over xs b) (take-suc-set out p x h) (drop-set-lt (suc p) out p x (omega arith))
    ∙ append_snoc (take p out) x (over xs (drop (suc p) out))
    ∙ ap (λ (d : List ℤ). take p out ++ over (x ∷ xs) d) (sym (drop-cons out p (pos 0) h)))
    (λ t.
    let h = ltb-false p (length out) t in
    ap (λ (l : List ℤ). take (suc p) l ++ over xs (drop (suc p) l)) (set_out out p x h)
    ∙ ap₂ (λ (a b : List ℤ). a ++ over xs b) (take_all (suc p) out (omega arith)) (drop_of_length-le out {i = suc p} (omega arith))
    ∙ ap (λ (b : List ℤ). out ++ b) (over_full xs)
    ∙ sym (ap₂ (λ (a b : List ℤ). a ++ over (x ∷ xs) b) (take_all p out h) (drop_of_length-le out h)))

late : (from j p : ℕ) (xs out : List ℤ) → j ≡ from + p → fill from j out xs ≡ take p out ++ over xs (drop p out)
unfolding fill over
late from j p [] out e = sym (take-append-drop p out)
late from j p (x ∷ xs) out e =
    let z : j - from ≡ p = omega arith in
    ap (λ (l : List ℤ). fill from (j + 1) l xs) (store_at from j x out (omega arith) ∙ ap (λ (k : ℕ). set out k x) z)
    ∙ late from (j + 1) (suc p) xs (set out p x) (omega arith)
    ∙ one_more p x xs out

early : (from j d : ℕ) (xs out : List ℤ) → from ≡ j + d → fill from j out xs ≡ over (drop d xs) out
unfolding fill over
early from j zero xs out e = late from j 0 xs out (omega arith)
early from j (suc d) [] out e = refl
early from j (suc d) (x ∷ xs) out e =
    ap (λ (l : List ℤ). fill from (j + 1) l xs) (store_before from j x out (omega arith))
    ∙ early from (j + 1) d xs out (omega arith)

pub fill_over : (from : ℕ) (xs out : List ℤ) → fill from 0 out xs ≡ over (drop from xs) out
fill_over from xs out = early from 0 from xs out (omega arith)

pub fill_end : (from j : ℕ) (out : List ℤ) → fill from j out [] ≡ out
unfolding fill
fill_end from j out = refl

-- ---- the walk
unfoldable pub left : List ℕ → ℕ → List ℤ
left l i = map number_of (map field_of (more tab (drop i l)))

pub left_all : (l : List ℕ) (e : ℕ) → e ≡ upto tab l → left l e ≡ numbers_of l
unfolding left numbers_of rest
left_all l e h =
    ap (λ (u : ℕ). map number_of (map field_of (more tab (drop u l)))) h
    ∙ sym (ap (λ (ps : List (List ℕ)). map number_of (map field_of (rest ps))) (split_first tab l))

pub left_none : (l : List ℕ) (i : ℕ) → length l ≤ i → left l i ≡ []
unfolding left
left_none l i h = ap (λ (ps : List (List ℕ)). map number_of (map field_of ps)) (more_none tab l i h)

module _ (l : List ℕ) (i e : ℕ) (f : Field) (h : i < length l) (p : e ≡ i + 1 + upto tab (drop (i + 1) l)) (q : f ≡ field_of (take (e - (i + 1)) (drop (i + 1) l))) where
  pub left_step : left l i ≡ number_of f ∷ left l e
  unfolding left
  left_step =
      ap (λ (ps : List (List ℕ)). map number_of (map field_of ps)) (more_at tab l i e h p)
      ∙ ap (λ (g : Field). number_of g ∷ map number_of (map field_of (more tab (drop e l)))) (sym q)

-- number j is next, at i of the line, and out is the buffer by now
pub record Walk (line : List ℕ) (from : ℕ) (out₀ out : List ℤ) (i j : ℕ) : Type 0 where
  pub within : i ≤ length line
  pub fewer : j ≤ i
  pub long : length out ≡ length out₀
  pub count : j + length (left line i) ≡ length (numbers_of line)
  pub filled : fill from j out (left line i) ≡ fill from 0 out₀ (numbers_of line)

pub walk_start : (line : List ℕ) (from : ℕ) (out : List ℤ) (e : ℕ) → e ≤ length line → e ≡ upto tab line → Walk line from out out e 0
walk_start line from out e w h =
    let a = left_all line e h in
    record {
      within = w;
      fewer = omega arith;
      long = refl;
      count = omega (arith, ap length a);
      filled = ap (fill from 0 out) a;
    }

module _ (line : List ℕ) (from : ℕ) (out₀ out out' : List ℤ) (i j e : ℕ) (f : Field) (h : i < length line) (p : e ≡ i + 1 + upto tab (drop (i + 1) line)) (q : f ≡ field_of (take (e - (i + 1)) (drop (i + 1) line))) where
  pub walk_step : e ≤ length line → out' ≡ store from j (number_of f) out → Walk line from out₀ out i j → Walk line from out₀ out' e (j + 1)
  unfolding fill
  walk_step n s w =
      let a = left_step line i e f h p q in
      record {
        within = n;
        fewer = omega (arith, w.fewer);
        long = ap length s ∙ length_store from j (number_of f) out ∙ w.long;
        count = omega (arith, ap length a, w.count);
        filled = ap (λ (l : List ℤ). fill from (j + 1) l (left line e)) s ∙ sym (ap (fill from j out) a) ∙ w.filled;
      }

module _ (line : List ℕ) (from : ℕ) (out₀ out : List ℤ) (i j : ℕ) (h : length line ≤ i) (w : Walk line from out₀ out i j) where
  pub walk_count : j ≡ length (numbers_of line)
  walk_count = omega (arith, w.count, ap length (left_none line i h))

  pub walk_length : length (numbers_from from line) ≡ j - from
  unfolding numbers_from
  walk_length = length-drop from (numbers_of line) ∙ ap (λ (k : ℕ). k - from) (sym walk_count)

  pub walk_filled : out ≡ over (numbers_from from line) out₀
  unfolding numbers_from
  walk_filled =
      sym (fill_end from j out) ∙ ap (fill from j out) (sym (left_none line i h)) ∙ w.filled ∙ fill_over from (numbers_of line) out₀
