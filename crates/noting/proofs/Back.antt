-- The log read backwards: what is left from here is what was left from the start.
use mathlib.Core.Path.{◌≡◌, refl, sym, ap, ap₂, ◌∙◌}
use mathlib.Core.Bool.{true, false}
use mathlib.Core.List.{List, [], ◌∷◌}
use Prim.Native.Nat.{ℕ, zero, suc, ◌-◌, ◌/◌, ◌≤◌, ◌<◌}
use native.Mathlib.Omega.{arith}
use lib.ListN.{length, get_or}
use borrow.Author.Tests.{eq-eqb, ne_eqb}
use Rattle.base.proofs.Loop.{pick_yes, pick_no}
use Rattle.base.proofs.Tests.{or_yes, or_next}
use Rattle.undo_log.specs.declared.Record.{Record}
use Rattle.undo_log.specs.declared.Cursor.{Cursor}
use Rattle.undo_log.specs.Log.{record_of}
use Rattle.noting.specs.Note.{noting}
use Rattle.noting.specs.Undo.{records_of, restored, undone, kept, undo}
use Rattle.noting.specs.Standing.{standing, has_variable, newest}

pub records_length : (log : List ℕ) (n : ℕ) → length (records_of log n) ≡ n
unfolding records_of
records_length log zero = refl
records_length log (suc n) = ap suc (records_length log n)

-- nothing is left
pub undone_none : (log noted : List ℕ) (n : ℕ) → n ≤ 0 → (undone (records_of log n) noted ≡ noted) × (kept (records_of log n) ≡ n)
unfolding records_of undone kept
undone_none log noted zero h = (refl, refl)
undone_none log noted (suc n) h = absurd (omega arith)

pub standing_none : (log : List ℕ) (n : ℕ) → n ≤ 0 → standing (records_of log n) ≡ []
unfolding records_of standing
standing_none log zero h = refl
standing_none log (suc n) h = absurd (omega arith)

pub variable_none : (x : ℕ) (ls : List ℕ) → ls ≡ [] → has_variable x ls ≡ false
unfolding has_variable
variable_none x ls e = ap (has_variable x) e

pub newest_none : (ls : List ℕ) → ls ≡ [] → newest ls ≡ 65535
unfolding newest
newest_none ls e = ap newest e

module _ (log : List ℕ) (n : ℕ) (h : 0 < n) (r : Record) (e : r ≡ record_of (get_or log (n - 1) 0)) where
  pub records_less : records_of log n ≡ r ∷ records_of log (n - 1)
  unfolding records_of
  records_less =
      let m : n ≡ suc (n - 1) = omega arith in
      ap (records_of log) m ∙ ap (λ (s : Record). s ∷ records_of log (n - 1)) (sym e)

  pub back_stop : (noted : List ℕ) → r.kind ≡ 0 → (noted ≡ undone (records_of log n) noted) × (n - 1 ≡ kept (records_of log n))
  unfolding undone kept
  back_stop noted z = (
    sym (ap (λ (rs : List Record). undone rs noted) records_less ∙ pick_yes _ _ (eq-eqb r.kind 0 z)),
    sym (ap kept records_less ∙ pick_yes _ _ (eq-eqb r.kind 0 z) ∙ records_length log (n - 1)),
  )

  pub back_on : (noted : List ℕ) → (r.kind ≡ 0 → ⊥) → (undone (records_of log (n - 1)) (restored r noted) ≡ undone (records_of log n) noted) × (kept (records_of log (n - 1)) ≡ kept (records_of log n))
  unfolding undone kept
  back_on noted z = (
    sym (ap (λ (rs : List Record). undone rs noted) records_less ∙ pick_no _ _ (ne_eqb r.kind 0 z)),
    sym (ap kept records_less ∙ pick_no _ _ (ne_eqb r.kind 0 z)),
  )

  pub standing_more : r.kind ≡ 0 → standing (records_of log n) ≡ r.lit ∷ standing (records_of log (n - 1))
  unfolding standing
  standing_more z = ap standing records_less ∙ pick_yes _ _ (eq-eqb r.kind 0 z)

  pub standing_on : (r.kind ≡ 0 → ⊥) → standing (records_of log (n - 1)) ≡ standing (records_of log n)
  unfolding standing
  standing_on z = sym (ap standing records_less ∙ pick_no _ _ (ne_eqb r.kind 0 z))

  pub variable_found : (x : ℕ) → r.kind ≡ 0 → r.lit / 2 ≡ x → true ≡ has_variable x (standing (records_of log n))
  unfolding has_variable
  variable_found x z q = or_yes _ (eq-eqb (r.lit / 2) x q) ∙ sym (ap (has_variable x) (standing_more z))

  pub variable_on : (x : ℕ) → r.kind ≡ 0 → (r.lit / 2 ≡ x → ⊥) → has_variable x (standing (records_of log (n - 1))) ≡ has_variable x (standing (records_of log n))
  unfolding has_variable
  variable_on x z q = or_next _ _ (ne_eqb (r.lit / 2) x q) refl ∙ sym (ap (has_variable x) (standing_more z))

  pub newest_found : r.kind ≡ 0 → r.lit ≡ newest (standing (records_of log n))
  unfolding newest
  newest_found z = sym (ap newest (standing_more z))

pub undo_is : (noted log noted₁ : List ℕ) (c : Cursor) (used left : ℕ) → noted₁ ≡ undone (records_of log c.used) noted → used ≡ kept (records_of log c.used) → left ≡ c.standing - 1 → noting noted₁ log (record { used = used; standing = left }) ≡ undo (noting noted log c)
unfolding undo
undo_is noted log noted₁ c used left hn hu hl =
    ap (λ (a : List ℕ). noting a log (at used left)) hn
    ∙ ap₂ (λ (a b : ℕ). noting (undone (records_of log c.used) noted) log (at a b)) hu hl
  where
    at : ℕ → ℕ → Cursor
    at a b = record { used = a; standing = b }
