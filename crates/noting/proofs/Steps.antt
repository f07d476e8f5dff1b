-- One step of code each, over plain variables.
use mathlib.Core.Path.{◌≡◌, sym, ap, ap₂, ◌∙◌}
use mathlib.Core.Bool.{Bool, true, false}
use mathlib.Core.List.{List}
use Prim.Native.Nat.{ℕ, ◌+◌, ◌/◌, ◌≤◌, ◌<◌}
use native.Mathlib.Omega.{arith}
use lib.ListN.{length}
use borrow.Author.Tests.{eq-eqb, ne_eqb, lt-ltb, le-ltb}
use Rattle.base.proofs.Loop.{pick_yes, pick_no}
use Rattle.undo_log.specs.declared.Record.{Record}
use Rattle.undo_log.specs.declared.Cursor.{Cursor}
use Rattle.undo_log.specs.Log.{push_words}
use Rattle.noting.specs.declared.note.Effect.{Effect}
use Rattle.noting.specs.Note.{Noting, noting, undo_record, applied, effect_of, note_slot, pushed_to, boundary, one_more, level_pushed, place_in, known, note_at, note}

module _ (ws noted log : List ℕ) (c : Cursor) (l s : ℕ) (e : Effect) (h : e ≡ effect_of ws noted l s) where
  pub slot_idle : e.kind ≡ 0 → noting noted log c ≡ note_slot ws l s (noting noted log c)
  unfolding note_slot
  slot_idle k = sym (pick_yes _ _ (eq-eqb (effect_of ws noted l s).kind 0 (sym (ap (λ (x : Effect). x.kind) h) ∙ k)))

  pub slot_noted : (e.kind ≡ 0 → ⊥) → (r : Record) (d : Cursor) (log₁ noted₁ : List ℕ) → r ≡ undo_record noted e → d ≡ pushed_to log c → log₁ ≡ push_words log c r → noted₁ ≡ applied e l noted → noting noted₁ log₁ d ≡ note_slot ws l s (noting noted log c)
  unfolding note_slot
  slot_noted k r d log₁ noted₁ hr hd hl hn =
      let z : noting noted₁ log₁ d ≡ noting (applied (effect_of ws noted l s) l noted) (push_words log c (undo_record noted (effect_of ws noted l s))) (pushed_to log c) = cc in
      z ∙ sym (pick_no _ _ (ne_eqb (effect_of ws noted l s).kind 0 (λ (q : (effect_of ws noted l s).kind ≡ 0). k (ap (λ (x : Effect). x.kind) h ∙ q))))

module _ (log : List ℕ) (c : Cursor) where
  pub one_more_lem : (d : Cursor) → d ≡ c → d.standing < length log → record { used = d.used; standing = d.standing + 1 } ≡ one_more log c
  unfolding one_more
  one_more_lem d e h =
      ap (λ (x : Cursor). record { used = x.used; standing = x.standing + 1 }) e
      ∙ ap (λ (n : ℕ). record { used = c.used; standing = n }) (sym (pick_yes (c.standing + 1) c.standing (lt-ltb c.standing (length log) (omega (arith, ap (λ (x : Cursor). x.standing) e)))))

  pub no_more : (d : Cursor) → d ≡ c → length log ≤ d.standing → d ≡ one_more log c
  unfolding one_more
  no_more d e h =
      e ∙ ap (λ (n : ℕ). record { used = c.used; standing = n }) (sym (pick_no (c.standing + 1) c.standing (le-ltb c.standing (length log) (omega (arith, ap (λ (x : Cursor). x.standing) e)))))

module _ (ws noted log : List ℕ) (c : Cursor) (l : ℕ) (log₁ : List ℕ) (d : Cursor) (hd : d ≡ one_more log (pushed_to log c)) (hl : log₁ ≡ push_words log c (boundary l)) where
  level_pushed_lem : noting noted log₁ d ≡ level_pushed l (noting noted log c)
  unfolding level_pushed
  level_pushed_lem = ap₂ (λ (a : List ℕ) (b : Cursor). noting noted a b) hl hd

  pub note_known : (t : Bool) → t ≡ known ws (l / 2) → t ≡ true → (k : ℕ) → k ≡ place_in ws (l / 2) → (x : Noting) → x ≡ note_at ws l k (noting noted log₁ d) → x ≡ note ws l (noting noted log c)
  unfolding note
  note_known t ht y k hk x hx =
      hx ∙ ap (note_at ws l k) level_pushed_lem ∙ ap (λ (n : ℕ). note_at ws l n (level_pushed l (noting noted log c))) hk
      ∙ sym (pick_yes _ _ (sym ht ∙ y))

  pub note_unknown : (t : Bool) → t ≡ known ws (l / 2) → t ≡ false → noting noted log₁ d ≡ note ws l (noting noted log c)
  unfolding note
  note_unknown t ht y = level_pushed_lem ∙ sym (pick_no _ _ (sym ht ∙ y))
