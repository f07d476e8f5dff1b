-- Two logs that agree up to the cursor, and have room, get the same records: what is noted, the cursor, and what is pushed are
-- the same, and all else of each log stays.
use mathlib.Core.Path.{◌≡◌, refl, sym, ap, ap₂, subst, ◌∙◌}
use mathlib.Core.Logic.{inl, inr, ⊎_elim}
use mathlib.Core.Bool.{Bool, true, false}
use mathlib.Core.List.{List}
use Prim.Native.Nat.{ℕ, zero, suc, ◌+◌, ◌-◌, ◌/◌, ◌<◌, ◌≤◌}
use native.Mathlib.Omega.{arith}
use native.Mathlib.Nat.{eq-or-lt_of_le}
use lib.Dec.{eqb}
use lib.ListN.{length, get_or, set, length-set}
use lib.Seq.{get_or-set_same, get_or-set_other, ext_get_or}
use borrow.Author.Tests.{lt-ltb}
use Rattle.base.specs.Iter.{iter}
use Rattle.base.specs.Lists.{filled}
use Rattle.base.proofs.Loop.{pick_yes, pick_no}
use Rattle.base.proofs.Tests.{le_or_lt}
use Rattle.base.proofs.Filled.{filled_length, filled_in, filled_out}
use Rattle.undo_log.specs.declared.Record.{Record}
use Rattle.undo_log.specs.declared.Cursor.{Cursor}
use Rattle.undo_log.specs.Log.{word_of, push_words}
use Rattle.plan.specs.Words.{start_at, occurrence_at}
use Rattle.noting.specs.Note.{Noting, noting, effect_of, undo_record, applied, boundary, pushed_to, one_more, note_slot, level_pushed, place_in, known, note_at, note}
use Rattle.noting.proofs.UndoNote.{push_set, push_moves}

-- v and w are the logs before, a is the cursor's place then; x is what became of the one, y of the other
pub record Alike (v w : List ℕ) (a : ℕ) (x y : Noting) : Type 0 where
  pub noted : x.noted ≡ y.noted
  pub cursor : x.cursor ≡ y.cursor
  pub low : a ≤ x.cursor.used
  pub counts : x.cursor.standing ≤ x.cursor.used
  pub long_x : length x.log ≡ length v
  pub long_y : length y.log ≡ length w
  pub same : (i : ℕ) → i < x.cursor.used → get_or y.log i 0 ≡ get_or x.log i 0
  pub past : (i : ℕ) → x.cursor.used ≤ i → get_or y.log i 0 ≡ get_or w i 0
  pub before : (i : ℕ) → i < a → get_or y.log i 0 ≡ get_or w i 0

module _ (v w : List ℕ) (a : ℕ) where
  pub alike_start : (noted : List ℕ) (c : Cursor) → c.used ≡ a → c.standing ≤ c.used → ((i : ℕ) → i < c.used → get_or w i 0 ≡ get_or v i 0) → Alike v w a (noting noted v c) (noting noted w c)
  alike_start noted c e s h = record { noted = refl; cursor = refl; low = omega arith; counts = s; long_x = refl; long_y = refl; same = h; past = λ i k. refl; before = λ i k. refl }

  -- one record more in both, where there is room in both; the words noted are then m
  module _ (x y : Noting) (h : Alike v w a x y) (r : Record) (m : List ℕ) (in-v : x.cursor.used < length v) (in-w : x.cursor.used < length w) where
    abbrev u : ℕ
    u = x.cursor.used

    -- the cursor then, with n standing
    abbrev on : ℕ → Cursor
    on n = record { used = u + 1; standing = n }

    abbrev x' : ℕ → Noting
    x' n = noting m (set x.log u (word_of r)) (on n)

    abbrev y' : ℕ → Noting
    y' n = noting m (set y.log u (word_of r)) (on n)

    abbrev k : ℕ
    k = x.cursor.standing

    alike_set : (n : ℕ) → n ≤ u + 1 → Alike v w a (x' n) (y' n)
    alike_set n few = record {
      noted = refl;
      cursor = refl;
      low = omega (arith, h.low);
      counts = few;
      long_x = length-set x.log u (word_of r) ∙ h.long_x;
      long_y = length-set y.log u (word_of r) ∙ h.long_y;
      same = λ i k. ⊎_elim
          (λ (e : i ≡ u). ap (λ (j : ℕ). get_or (set y.log u (word_of r)) j 0) e ∙ get_or-set_same y.log u (word_of r) 0 (omega (arith, h.long_y)) ∙ sym (get_or-set_same x.log u (word_of r) 0 (omega (arith, h.long_x))) ∙ sym (ap (λ (j : ℕ). get_or (set x.log u (word_of r)) j 0) e))
          (λ (l : i < u). get_or-set_other y.log u i (word_of r) 0 (λ (e : i ≡ u). omega arith) ∙ h.same i l ∙ sym (get_or-set_other x.log u i (word_of r) 0 (λ (e : i ≡ u). omega arith)))
          (eq-or-lt_of_le {n = i} {m = u} (omega arith));
      past = λ i k. get_or-set_other y.log u i (word_of r) 0 (λ (e : i ≡ u). omega arith) ∙ h.past i (omega arith);
      before = λ i k. get_or-set_other y.log u i (word_of r) 0 (λ (e : i ≡ u). omega (arith, h.low)) ∙ h.before i k;
    }

    pushed_x : noting m (push_words x.log x.cursor r) (pushed_to x.log x.cursor) ≡ x' k
    pushed_x = ap₂ (noting m) (push_set x.log x.cursor r (omega (arith, h.long_x))) (push_moves x.log x.cursor r (omega (arith, h.long_x)))

    pushed_y : noting m (push_words y.log y.cursor r) (pushed_to y.log y.cursor) ≡ y' k
    pushed_y =
        ap (λ (d : Cursor). noting m (push_words y.log d r) (pushed_to y.log d)) (sym h.cursor)
        ∙ ap₂ (noting m) (push_set y.log x.cursor r (omega (arith, h.long_y))) (push_moves y.log x.cursor r (omega (arith, h.long_y)))

    alike_push : Alike v w a (noting m (push_words x.log x.cursor r) (pushed_to x.log x.cursor)) (noting m (push_words y.log y.cursor r) (pushed_to y.log y.cursor))
    alike_push = subst (λ (z : Noting). Alike v w a z (noting m (push_words y.log y.cursor r) (pushed_to y.log y.cursor))) (sym pushed_x) (subst (Alike v w a (x' k)) (sym pushed_y) (alike_set k (omega (arith, h.counts))))

    moves_one : (noting m (push_words x.log x.cursor r) (pushed_to x.log x.cursor)).cursor.used ≡ u + 1
    moves_one = ap (λ (z : Noting). z.cursor.used) pushed_x

  module _ (ws : List ℕ) (l : ℕ) where
    -- a slot is noted in both
    slot_alike : (s : ℕ) (x y : Noting) → Alike v w a x y → x.cursor.used < length v → x.cursor.used < length w →
        Alike v w a (note_slot ws l s x) (note_slot ws l s y) × ((note_slot ws l s x).cursor.used ≤ x.cursor.used + 1)
    unfolding note_slot
    slot_alike s x y h in-v in-w = go (eqb (effect_of ws x.noted l s).kind 0) refl
      where
        e : Noting → Record
        e z = undo_record z.noted (effect_of ws z.noted l s)

        more : Noting → List ℕ → Noting
        more z n = noting (applied (effect_of ws n l s) l n) (push_words z.log z.cursor (undo_record n (effect_of ws n l s))) (pushed_to z.log z.cursor)

        go : (b : Bool) → eqb (effect_of ws x.noted l s).kind 0 ≡ b →
            Alike v w a (note_slot ws l s x) (note_slot ws l s y) × ((note_slot ws l s x).cursor.used ≤ x.cursor.used + 1)
        go true q =
            let q' : eqb (effect_of ws y.noted l s).kind 0 ≡ true = ap (λ (n : List ℕ). eqb (effect_of ws n l s).kind 0) (sym h.noted) ∙ q in (
              subst (λ (z : Noting). Alike v w a z (note_slot ws l s y)) (sym (pick_yes _ _ q)) (subst (Alike v w a x) (sym (pick_yes _ _ q')) h),
              subst (λ (z : Noting). z.cursor.used ≤ x.cursor.used + 1) (sym (pick_yes _ _ q)) (omega arith),
            )
        go false q =
            let q' : eqb (effect_of ws y.noted l s).kind 0 ≡ false = ap (λ (n : List ℕ). eqb (effect_of ws n l s).kind 0) (sym h.noted) ∙ q in
            let r = e x in
            let m = applied (effect_of ws x.noted l s) l x.noted in (
              subst (λ (z : Noting). Alike v w a z (note_slot ws l s y)) (sym (pick_no _ _ q)) (subst (Alike v w a (more x x.noted)) (ap (more y) h.noted ∙ sym (pick_no _ _ q')) (alike_push x y h r m in-v in-w)),
              subst (λ (z : Noting). z.cursor.used ≤ x.cursor.used + 1) (sym (pick_no _ _ q)) (omega (arith, moves_one x y h r m in-v in-w)),
            )

    -- a notification's first record
    level_alike : (x y : Noting) → Alike v w a x y → x.cursor.used < length v → x.cursor.used < length w →
        Alike v w a (level_pushed l x) (level_pushed l y) × ((level_pushed l x).cursor.used ≡ x.cursor.used + 1)
    unfolding level_pushed one_more
    level_alike x y h in-v in-w =
        let r = boundary l in
        let m = x.noted in
        let n : ℕ = x.cursor.standing in
        let opened : (log : List ℕ) → x.cursor.used < length log → level_pushed l (noting m log x.cursor) ≡ noting m (set log x.cursor.used (word_of r)) (record { used = x.cursor.used + 1; standing = n + 1 }) =
        λ log g.
        ap₂ (λ (z : List ℕ) (d : Cursor). noting m z (one_more log d)) (push_set log x.cursor r g) (push_moves log x.cursor r g)
        ∙ ap (λ (i : ℕ). noting m (set log x.cursor.used (word_of r)) (record { used = x.cursor.used + 1; standing = i })) (pick_yes _ _ (lt-ltb n (length log) (omega (arith, h.counts)))) in
        let ex = opened x.log (omega (arith, h.long_x)) in
        let ey : level_pushed l y ≡ noting m (set y.log x.cursor.used (word_of r)) (record { used = x.cursor.used + 1; standing = n + 1 }) =
        (λ i. level_pushed l (noting (sym h.noted i) y.log (sym h.cursor i))) ∙ opened y.log (omega (arith, h.long_y)) in (
          subst (λ (z : Noting). Alike v w a z (level_pushed l y)) (sym ex) (subst (Alike v w a _) (sym ey) (alike_set x y h r m in-v in-w (n + 1) (omega (arith, h.counts)))),
          ap (λ (z : Noting). z.cursor.used) ex,
        )

    -- n slots, where there is room for a record of each in both
    slots_alike : (at : ℕ → ℕ) (n : ℕ) (x y : Noting) → Alike v w a x y → x.cursor.used + n ≤ length v → x.cursor.used + n ≤ length w →
        Alike v w a (iter (λ i z. note_slot ws l (at i) z) n x) (iter (λ i z. note_slot ws l (at i) z) n y) × ((iter (λ i z. note_slot ws l (at i) z) n x).cursor.used ≤ x.cursor.used + n)
    unfolding iter
    slots_alike at zero x y h in-v in-w = (h, omega arith)
    slots_alike at (suc n) x y h in-v in-w =
        let b = slots_alike at n x y h (omega arith) (omega arith) in
        let g = slot_alike (at n) _ _ b.0 (omega (arith, b.1)) (omega (arith, b.1)) in
        (g.0, omega (arith, g.1, b.1))

    -- a literal known to the plan is noted in both
    pub note_alike : (x y : Noting) → Alike v w a x y → known ws (l / 2) ≡ true →
        x.cursor.used + 1 + (start_at ws (place_in ws (l / 2) + 1) - start_at ws (place_in ws (l / 2))) ≤ length v →
        x.cursor.used + 1 + (start_at ws (place_in ws (l / 2) + 1) - start_at ws (place_in ws (l / 2))) ≤ length w →
        Alike v w a (note ws l x) (note ws l y) × ((note ws l x).cursor.used ≤ x.cursor.used + 1 + (start_at ws (place_in ws (l / 2) + 1) - start_at ws (place_in ws (l / 2))))
    unfolding note note_at
    note_alike x y h k in-v in-w =
        let b = level_alike x y h (omega arith) (omega arith) in
        let g = slots_alike (λ i. occurrence_at ws (start_at ws (place_in ws (l / 2)) + i)) (start_at ws (place_in ws (l / 2) + 1) - start_at ws (place_in ws (l / 2))) _ _ b.0 (omega (arith, b.1)) (omega (arith, b.1)) in (
          subst (λ (z : Noting). Alike v w a z (note ws l y)) (sym (pick_yes _ _ k)) (subst (Alike v w a _) (sym (pick_yes _ _ k)) g.0),
          subst (λ (z : Noting). z.cursor.used ≤ x.cursor.used + 1 + (start_at ws (place_in ws (l / 2) + 1) - start_at ws (place_in ws (l / 2)))) (sym (pick_yes _ _ k)) (omega (arith, g.1, b.1)),
        )

-- then the one log is the other's records, stored from a on
pub alike_stored : (v w : List ℕ) (a : ℕ) (x y : Noting) → Alike v w a x y → x.cursor.used ≤ length w → y.log ≡ filled a (x.cursor.used - a) (λ i. get_or x.log (a + i) 0) w
alike_stored v w a x y h fits = ext_get_or 0 _ _ (h.long_y ∙ sym (filled_length a f w n)) each
  where
    n : ℕ
    n = x.cursor.used - a

    f : ℕ → ℕ
    f i = get_or x.log (a + i) 0

    ends : a + n ≡ x.cursor.used
    ends = omega (arith, h.low)

    each : (i : ℕ) → i < length y.log → get_or y.log i 0 ≡ get_or (filled a n f w) i 0
    each i _ = ⊎_elim
        (λ (k : a ≤ i). ⊎_elim
        (λ (j : x.cursor.used ≤ i). h.past i j ∙ sym (filled_out a f w n i (inr (omega (arith, ends)))))
        (λ (j : i < x.cursor.used).
        let q : a + (i - a) ≡ i = omega arith in
        h.same i j ∙ sym (ap (λ (m : ℕ). get_or (filled a n f w) m 0) (sym q) ∙ filled_in a f w n (i - a) (omega (arith, ends)) (omega (arith, ends)) ∙ ap (λ (m : ℕ). get_or x.log m 0) q))
        (le_or_lt x.cursor.used i))
        (λ (k : i < a). h.before i k ∙ sym (filled_out a f w n i (inl k)))
        (le_or_lt a i)
