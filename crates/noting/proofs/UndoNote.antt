-- Undoing what was noted gives everything back.
use mathlib.Core.Path.{◌≡◌, refl, sym, ap, ap₂, ◌∙◌}
use mathlib.Core.Bool.{true}
use mathlib.Core.List.{List, ◌∷◌}
use Prim.Native.Nat.{ℕ, zero, suc, ◌+◌, ◌-◌, ◌≤◌, ◌<◌}
use native.Mathlib.Omega.{arith}
use native.Mathlib.Nat.{le_step, lt-suc_self}
use native.Mathlib.Numerals.{add-one}
use lib.Dec.{eqb}
use lib.ListN.{length, get_or, set}
use lib.Seq.{get_or-set_same, get_or-set_other}
use borrow.Author.Tests.{lt-ltb, eqb-false, ne_eqb}
use Rattle.base.specs.Iter.{iter}
use Rattle.base.proofs.Loop.{pick_ind, pick_yes, pick_no, iter_ind}
use Rattle.undo_log.specs.declared.Record.{Record}
use Rattle.undo_log.specs.declared.Cursor.{Cursor}
use Rattle.undo_log.specs.Log.{record_of, word_of, push_words, moved_to}
use Rattle.undo_log.proofs.Words.{InRange, word_back}
use Rattle.plan.specs.Check.{used_slot}
use Rattle.noting.specs.declared.note.Effect.{Effect}
use Rattle.noting.specs.Words.{edge_state_of}
use Rattle.noting.specs.Note.{Noting, noting, effect_of, undo_record, applied, pushed_to, note_slot}
use Rattle.noting.specs.Undo.{records_of, restored, undone, kept}
use Rattle.noting.specs.Ready.{Effective, BoundsFit, SizesFit}
use Rattle.noting.proofs.Effects.{effective, restore_applied}
use Rattle.noting.proofs.After.{applied_bounds, applied_edge, record_fits}
use Rattle.noting.proofs.Pushing.{push_length}

-- what stands past the records does not matter
pub records_same : (a b : List ℕ) (n : ℕ) → ((i : ℕ) → i < n → get_or a i 0 ≡ get_or b i 0) → records_of a n ≡ records_of b n
unfolding records_of
records_same a b zero h = refl
records_same a b (suc n) h = ap₂ (λ (w : ℕ) (rs : List Record). record_of w ∷ rs) (h n (lt-suc_self n)) (records_same a b n (λ i k. h i (le_step k)))

module _ (log : List ℕ) (c : Cursor) (r : Record) (room : c.used < length log) where
  -- a push with room
  pub push_set : push_words log c r ≡ set log c.used (word_of r)
  unfolding push_words
  push_set = pick_yes _ _ (lt-ltb _ _ room)

  pub push_moves : pushed_to log c ≡ moved_to c (c.used + 1)
  unfolding pushed_to
  push_moves = pick_yes _ _ (lt-ltb _ _ room)

  pub records_push : InRange r → records_of (push_words log c r) (c.used + 1) ≡ r ∷ records_of log c.used
  unfolding records_of
  records_push ok =
      ap (records_of (push_words log c r)) (add-one c.used)
      ∙ ap (λ (m : List ℕ). records_of m (suc c.used)) push_set
      ∙ ap₂ (λ (s : Record) (rs : List Record). s ∷ rs)
      (ap record_of (get_or-set_same log c.used (word_of r) 0 room) ∙ word_back r ok)
      (records_same (set log c.used (word_of r)) log c.used (λ i h. get_or-set_other log c.used i (word_of r) 0 (λ (e : i ≡ c.used). omega arith)))

-- slots at 0, at 1, up to at (n - 1), rising, are noted for literal l; the noted words were x, and n records are left to write
module _ (ws : List ℕ) (l : ℕ) (at : ℕ → ℕ) (n : ℕ) (wl : l < 65536) (fw : SizesFit ws) (rising : (i j : ℕ) → i < j → j < n → at i < at j) (inUse : (i : ℕ) → i < n → used_slot ws (at i) ≡ true) (noted : List ℕ) (used standing : ℕ) where
  -- after i slots
  pub record At (i : ℕ) (y : Noting) : Type 0 where
    pub bounds : BoundsFit ws y.noted
    pub room : y.cursor.used + (n - i) ≤ length y.log
    pub undecided : (j : ℕ) → i ≤ j → j < n → 2048 ≤ at j → at j < 2176 → edge_state_of y.noted (at j - 2048) ≡ 0
    pub same : undone (records_of y.log y.cursor.used) y.noted ≡ noted
    pub left : kept (records_of y.log y.cursor.used) ≡ used
    pub stands : y.cursor.standing ≡ standing

  module _ (i : ℕ) (h : i < n) (y : Noting) (p : At i y) where
    abbrev e : Effect
    e = effect_of ws y.noted l (at i)

    abbrev r : Record
    r = undo_record y.noted e

    t : Effective ws y.noted l (at i) e
    t = effective ws y.noted l (at i)

    free : y.cursor.used < length y.log
    free = omega (arith, p.room)

    kind_of_lem : r.kind ≡ e.kind
    unfolding undo_record
    kind_of_lem = refl

    rest : At (suc i) y
    rest = record {
      bounds = p.bounds;
      room = omega (arith, p.room);
      undecided = λ j k m a b. p.undecided j (omega arith) m a b;
      same = p.same;
      left = p.left;
      stands = p.stands;
    }

    back : restored r (applied e l y.noted) ≡ y.noted
    back = restore_applied ws y.noted l (at i) p.bounds (inUse i h) (λ a b. p.undecided i (omega arith) h a b) e t

    abbrev z : Noting
    z = noting (applied e l y.noted) (push_words y.log y.cursor r) (pushed_to y.log y.cursor)

    used_next : z.cursor.used ≡ y.cursor.used + 1
    used_next = ap (λ (c : Cursor). c.used) (push_moves y.log y.cursor r free)

    records_next : records_of z.log z.cursor.used ≡ r ∷ records_of y.log y.cursor.used
    records_next =
        ap (records_of z.log) used_next ∙ records_push y.log y.cursor r free (record_fits ws y.noted l (at i) wl fw (inUse i h) p.bounds e t)

    next : (e.kind ≡ 0 → ⊥) → At (suc i) z
    unfolding undone kept
    next k = record {
      bounds = applied_bounds ws y.noted l (at i) wl fw (inUse i h) p.bounds e t;
      room = omega (arith, p.room, used_next, push_length y.log y.cursor r);
      undecided = λ j a b c d. applied_edge ws y.noted l (at i) (at j - 2048) (λ f (q : at j - 2048 ≡ at i - 2048). omega (arith, rising i j (omega arith) b)) e t ∙ p.undecided j (omega arith) b c d;
      same = ap (λ (rs : List Record). undone rs z.noted) records_next ∙ pick_no _ _ (ne_eqb r.kind 0 (λ (q : r.kind ≡ 0). k (sym kind_of_lem ∙ q))) ∙ ap (undone (records_of y.log y.cursor.used)) back ∙ p.same;
      left = ap kept records_next ∙ pick_no _ _ (ne_eqb r.kind 0 (λ (q : r.kind ≡ 0). k (sym kind_of_lem ∙ q))) ∙ p.left;
      stands = ap (λ (c : Cursor). c.standing) (push_moves y.log y.cursor r free) ∙ p.stands;
    }

    pub step : At (suc i) (note_slot ws l (at i) y)
    unfolding note_slot
    step = pick_ind (At (suc i)) (eqb e.kind 0) y z (λ _. rest) (λ q. next (eqb-false _ _ q))

  pub all : (x : Noting) → At 0 x → At n (iter (λ i y. note_slot ws l (at i) y) n x)
  all x p = iter_ind At _ x n p (λ i y h q. step i h y q)
