-- Which variables stand, the log read forwards, a word at a time.
use mathlib.Core.Path.{◌≡◌, refl, sym, ap, ap₂, ◌∙◌}
use mathlib.Core.Bool.{Bool, true, false, ◌||◌}
use mathlib.Core.List.{List}
use mathlib.Core.Logic.{⊎_elim}
use Prim.Native.Nat.{ℕ, zero, suc, ◌+◌, ◌-◌, ◌*◌, ◌/◌, ◌%◌, ◌≤◌, ◌<◌}
use native.Mathlib.Omega.{arith}
use lib.ListN.{length, get_or, get_or-eq_default}
use lib.Dec.{eqb}
use borrow.Author.Tests.{eqb-true}
use Rattle.std.proofs.lemmas.Bool.{eqb-false}
use Rattle.base.proofs.Loop.{eq_or_not, tested}
use Rattle.base.proofs.Tests.{le_or_lt}
use Rattle.undo_log.specs.declared.Record.{Record}
use Rattle.undo_log.specs.Log.{record_of}
use Rattle.noting.specs.Undo.{records_of}
use Rattle.noting.specs.Standing.{standing, has_variable}
use Rattle.noting.proofs.Back.{standing_none, variable_none, standing_on, variable_found, variable_on}

or_true : (a : Bool) → (a || true) ≡ true
or_true true = refl
or_true false = refl

or_false : (a : Bool) → (a || false) ≡ a
or_false true = refl
or_false false = refl

-- a word's kind and variable as one number, which is a variable's where the kind is 0
abbrev key : ℕ → ℕ
key w = 65536 * (w % 4294967296 % 256) + w % 4294967296 / 131072

low_word : (w : ℕ) → w % 4294967296 ≡ w % 256 + 256 * (w / 256 % 256) + 65536 * (w / 65536 % 65536)
low_word w =
    let f : w / 65536 / 65536 ≡ w / 4294967296 = omega arith in
    let g : w / 256 / 256 ≡ w / 65536 = omega arith in
    omega arith

low_kind : (m k i l : ℕ) → k < 256 → m ≡ k + 256 * i + 65536 * l → m % 256 ≡ k
low_kind m k i l h e = let f : m ≡ k + 256 * (i + 256 * l) = omega arith in omega arith

low_lit : (m k i l : ℕ) → k < 256 → i < 256 → m ≡ k + 256 * i + 65536 * l → m / 131072 ≡ l / 2
low_lit m k i l h j e = omega arith

key_is : (w : ℕ) → key w ≡ 65536 * (record_of w).kind + (record_of w).lit / 2
unfolding record_of
key_is w =
    ap₂ (λ (a b : ℕ). 65536 * a + b)
    (low_kind (w % 4294967296) (w % 256) (w / 256 % 256) (w / 65536 % 65536) (omega arith) (low_word w))
    (low_lit (w % 4294967296) (w % 256) (w / 256 % 256) (w / 65536 % 65536) (omega arith) (omega arith) (low_word w))

key_kind : (w x : ℕ) → x < 65536 → key w ≡ x → (record_of w).kind ≡ 0
key_kind w x h e = let f = sym (key_is w) ∙ e in omega (arith, f)

key_lit : (w x : ℕ) → x < 65536 → key w ≡ x → (record_of w).lit / 2 ≡ x
key_lit w x h e = let f = sym (key_is w) ∙ e in omega (arith, f)

key_of : (w x : ℕ) → (record_of w).kind ≡ 0 → (record_of w).lit / 2 ≡ x → key w ≡ x
key_of w x k e = let f : 65536 * (record_of w).kind + (record_of w).lit / 2 ≡ x = omega arith in key_is w ∙ f

module _ (log : List ℕ) (x : ℕ) where
  abbrev stands : ℕ → Bool
  stands n = has_variable x (standing (records_of log n))

  pub stands_none : false ≡ stands 0
  stands_none = sym (variable_none x _ (standing_none log 0 (omega arith)))

  module _ (i : ℕ) where
    abbrev r : Record
    r = record_of (get_or log (i + 1 - 1) 0)

    back : i + 1 - 1 ≡ i
    back = omega arith

    there : r ≡ record_of (get_or log i 0)
    there = ap (λ (n : ℕ). record_of (get_or log n 0)) back

    pub stands_found : x < 65536 → key (get_or log i 0) ≡ x → true ≡ stands (i + 1)
    stands_found h e =
        variable_found log (i + 1) (omega arith) r refl x
        (ap (λ (s : Record). s.kind) there ∙ key_kind (get_or log i 0) x h e)
        (ap (λ (s : Record). s.lit / 2) there ∙ key_lit (get_or log i 0) x h e)

    pub stands_on : (found : Bool) → found ≡ stands i → (key (get_or log i 0) ≡ x → ⊥) → found ≡ stands (i + 1)
    stands_on found q n =
        q ∙ ap stands (sym back)
        ∙ ⊎_elim
        (λ (z : r.kind ≡ 0). variable_on log (i + 1) (omega arith) r refl x z (λ (e : r.lit / 2 ≡ x). n (key_of (get_or log i 0) x (sym (ap (λ (s : Record). s.kind) there) ∙ z) (sym (ap (λ (s : Record). s.lit / 2) there) ∙ e))))
        (λ (z : r.kind ≡ 0 → ⊥). ap (has_variable x) (standing_on log (i + 1) (omega arith) r refl z))
        (eq_or_not r.kind 0)

    pub stands_or : (found : Bool) → x < 65536 → found ≡ stands i → (found || eqb (key (get_or log i 0)) x) ≡ stands (i + 1)
    stands_or found h q = tested (eqb (key (get_or log i 0)) x)
        (λ e. ap (λ (b : Bool). found || b) e ∙ or_true found ∙ stands_found h (eqb-true (key (get_or log i 0)) x e))
        (λ e. ap (λ (b : Bool). found || b) e ∙ or_false found ∙ stands_on found q (eqb-false (key (get_or log i 0)) x e))

-- past the log's end are zero words, which start notifications of literal 0
module _ (log : List ℕ) where
  zero_kind : (n : ℕ) → length log ≤ n → (record_of (get_or log n 0)).kind ≡ 0
  unfolding record_of
  zero_kind n h = let e : get_or log n 0 ≡ 0 = get_or-eq_default log 0 h in omega arith

  zero_lit : (n : ℕ) → length log ≤ n → (record_of (get_or log n 0)).lit / 2 ≡ 0
  unfolding record_of
  zero_lit n h = let e : get_or log n 0 ≡ 0 = get_or-eq_default log 0 h in omega arith

  pub past_found : (x m : ℕ) → length log < m → x ≡ 0 → true ≡ has_variable x (standing (records_of log m))
  past_found x m h z =
      variable_found log m (omega arith) (record_of (get_or log (m - 1) 0)) refl x (zero_kind (m - 1) (omega arith)) (zero_lit (m - 1) (omega arith) ∙ sym z)

  pub past_on : (x : ℕ) → (x ≡ 0 → ⊥) → (m : ℕ) → length log ≤ m → has_variable x (standing (records_of log (length log))) ≡ has_variable x (standing (records_of log m))
  past_on x z zero h = let e : length log ≡ 0 = omega arith in ap (λ (n : ℕ). has_variable x (standing (records_of log n))) e
  past_on x z (suc m) h =
      ⊎_elim
      (λ (k : length log ≤ m).
      let b : m ≡ suc m - 1 = omega arith in
      past_on x z m k ∙ ap (λ (n : ℕ). has_variable x (standing (records_of log n))) b
      ∙ variable_on log (suc m) (omega arith) (record_of (get_or log (suc m - 1) 0)) refl x (zero_kind (suc m - 1) (omega arith)) (λ (e : (record_of (get_or log (suc m - 1) 0)).lit / 2 ≡ x). z (sym e ∙ zero_lit (suc m - 1) (omega arith))))
      (λ (k : m < length log). let e : length log ≡ suc m = omega arith in ap (λ (n : ℕ). has_variable x (standing (records_of log n))) e)
      (le_or_lt (length log) m)
