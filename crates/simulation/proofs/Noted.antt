-- What is noted does not depend on the log: a literal is tried out with no log, and gives the same words.
use mathlib.Core.Path.{◌≡◌, refl, sym, ap, ◌∙◌}
use mathlib.Core.Bool.{Bool, true, false}
use mathlib.Core.List.{List}
use Prim.Native.Nat.{ℕ, zero, suc, ◌/◌}
use lib.Dec.{eqb}
use Rattle.base.specs.Iter.{iter, pick}
use Rattle.undo_log.specs.declared.Cursor.{Cursor}
use Rattle.noting.specs.Note.{Noting, effect_of, applied, note_slot, level_pushed, place_in, known, note_at, note}
use Rattle.graph_division.specs.declared.GraphDivision.{GraphDivision}
use Rattle.graph_division.specs.Calls.{noted_in, tried_out}

pick_noted : (b : Bool) (x y : Noting) → (pick b x y).noted ≡ pick b x.noted y.noted
unfolding pick
pick_noted true x y = refl
pick_noted false x y = refl

module _ (ws : List ℕ) (l : ℕ) where
  -- a slot's part in the words
  abbrev slot_in : ℕ → List ℕ → List ℕ
  slot_in s noted = pick (eqb (effect_of ws noted l s).kind 0) noted (applied (effect_of ws noted l s) l noted)

  slot_noted : (s : ℕ) (x y : Noting) → x.noted ≡ y.noted → (note_slot ws l s x).noted ≡ (note_slot ws l s y).noted
  unfolding note_slot
  slot_noted s x y e = pick_noted _ _ _ ∙ ap (slot_in s) e ∙ sym (pick_noted _ _ _)

  loop_noted : (at : ℕ → ℕ) (n : ℕ) (x y : Noting) → x.noted ≡ y.noted → (iter (λ i z. note_slot ws l (at i) z) n x).noted ≡ (iter (λ i z. note_slot ws l (at i) z) n y).noted
  unfolding iter
  loop_noted at zero x y e = e
  loop_noted at (suc n) x y e = slot_noted (at n) _ _ (loop_noted at n x y e)

  pub note_noted : (x y : Noting) → x.noted ≡ y.noted → (note ws l x).noted ≡ (note ws l y).noted
  unfolding note note_at level_pushed pick
  note_noted x y e = go (known ws (l / 2))
    where
      go : (b : Bool) → (pick b (note_at ws l (place_in ws (l / 2)) (level_pushed l x)) (level_pushed l x)).noted ≡ (pick b (note_at ws l (place_in ws (l / 2)) (level_pushed l y)) (level_pushed l y)).noted
      go true = loop_noted _ _ _ _ e
      go false = e

pub tried_out_is : (s : GraphDivision) (c : Cursor) (l : ℕ) (log : List ℕ) → tried_out s c l ≡ (noted_in s c l log).noted
unfolding tried_out noted_in
tried_out_is s c l log = note_noted s.plan l _ _ refl
