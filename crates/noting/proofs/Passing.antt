-- Every log that noting gives passes the last part of refusal 7.
use mathlib.Core.Path.{◌≡◌, refl, sym, ap, ◌∙◌}
use mathlib.Core.Bool.{true, false, not}
use mathlib.Core.List.{List, [], ◌∷◌}
use Prim.Native.Nat.{ℕ, zero, suc, ◌+◌, ◌-◌, ◌/◌, ◌≤◌, ◌<◌}
use native.Mathlib.Omega.{arith}
use lib.Dec.{eqb, ltb}
use lib.ListN.{length, get_or, replicate, length-set, get_or-replicate}
use lib.Seq.{get_or-set_other}
use borrow.Author.Tests.{lt-ltb, le-ltb, eq-eqb, eqb-false}
use Rattle.base.specs.Iter.{iter}
use Rattle.base.proofs.Loop.{pick_ind}
use Rattle.base.proofs.Tests.{and_next, or_none, or_both}
use Rattle.undo_log.specs.declared.Record.{Record}
use Rattle.undo_log.specs.declared.Cursor.{Cursor}
use Rattle.undo_log.specs.Log.{record_of, word_of}
use Rattle.undo_log.proofs.Words.{word_back}
use Rattle.plan.specs.Words.{variable_at}
use Rattle.plan.specs.Proper.{ProperWords}
use Rattle.noting.specs.Words.{fresh}
use Rattle.noting.specs.Note.{boundary, place_in, known}
use Rattle.noting.specs.Standing.{has_variable, AllKnown}
use Rattle.noting.specs.Replay.{Replayed, replayed, place, marked, set_mark, lit_at, replay_level, replay, noted_differs, afresh, log_bad}
use Rattle.noting.proofs.Follow.{opens_known, level_past, level_yes}
use Rattle.noting.specs.Logged.{Logged}
use Rattle.noting.proofs.Logged.{one_on, one_other, logged_length, logged_good, known_place, known_small, zeros_length}
use Rattle.noting.proofs.Room.{logged_known}

-- the marks that replaying the literals leaves
unfoldable marks_of : List ℕ → List ℕ → List ℕ
marks_of ws [] = replicate 2176 0
marks_of ws (l ∷ ls) = set_mark (place_in ws (l / 2)) (marks_of ws ls)

-- turns that change nothing
stays : {A : Type 0} (f : A → A) (x : A) (n m : ℕ) → f (iter (λ _ y. f y) n x) ≡ iter (λ _ y. f y) n x → iter (λ _ y. f y) (m + n) x ≡ iter (λ _ y. f y) n x
unfolding iter
stays f x n zero e = ap (λ (i : ℕ). iter (λ _ y. f y) i x) zero_plus
  where
    zero_plus : zero + n ≡ n
    zero_plus = omega arith
stays f x n (suc m) e = ap (λ (i : ℕ). iter (λ _ y. f y) i x) next ∙ ap f (stays f x n m e) ∙ e
  where
    next : suc m + n ≡ suc (m + n)
    next = omega arith

module _ (ws : List ℕ) (ends : List (List ℕ)) (p : ProperWords ws ends) where
  marks_length : (ls : List ℕ) → length (marks_of ws ls) ≡ 2176
  unfolding marks_of set_mark
  marks_length [] = zeros_length 2176
  marks_length (l ∷ ls) = pick_ind (λ (m : List ℕ). length m ≡ 2176) (ltb (place_in ws (l / 2)) 2176) _ _ (λ _. length-set (marks_of ws ls) (place_in ws (l / 2)) 1 ∙ marks_length ls) (λ _. marks_length ls)

  -- a variable that does not stand has no mark
  module _ (x : ℕ) (k : known ws x ≡ true) where
    within : place_in ws x < 2176
    within = omega (arith, (known_place ws ends p x k).0, p.few.0)

    mark_none : (ls : List ℕ) → AllKnown ws ls → has_variable x ls ≡ false → get_or (marks_of ws ls) (place_in ws x) 0 ≡ 0
    unfolding marks_of set_mark has_variable
    mark_none [] AllKnown.none h = get_or-replicate 2176 (place_in ws x) 0 0 within
    mark_none (l ∷ ls) (AllKnown.one b a) h =
        let (c, d) = or_none (eqb (l / 2) x) _ h in
        let ne : place_in ws x ≡ place_in ws (l / 2) → ⊥ = λ (q : place_in ws x ≡ place_in ws (l / 2)). eqb-false (l / 2) x c (sym (known_place ws ends p (l / 2) b).1 ∙ ap (variable_at ws) (sym q) ∙ (known_place ws ends p x k).1) in
        pick_ind (λ (m : List ℕ). get_or m (place_in ws x) 0 ≡ 0) (ltb (place_in ws (l / 2)) 2176) _ _
        (λ _. get_or-set_other (marks_of ws ls) (place_in ws (l / 2)) (place_in ws x) 1 0 ne ∙ mark_none ls a d) (λ _. mark_none ls a d)

    unmarked : (ls : List ℕ) → AllKnown ws ls → has_variable x ls ≡ false → marked (marks_of ws ls) (place_in ws x) ≡ false
    unfolding marked
    unmarked ls a h = ap not (sym (and_next _ _ (lt-ltb (place_in ws x) 2176 within) (sym (eq-eqb _ _ (mark_none ls a h)))))

  module _ (log : List ℕ) where
    lit_there : (l at : ℕ) → known ws (l / 2) ≡ true → get_or log at 0 ≡ word_of (boundary l) → l ≡ lit_at log at
    lit_there l at k b =
        let s = known_small ws ends p l k in
        sym (ap (λ (w : ℕ). (record_of w).lit) b ∙ ap (λ (r : Record). r.lit) (word_back (boundary l) (record { kind = omega arith; index = omega arith; bound = omega arith; lit = omega arith })))

    -- one turn for each literal
    replays : (used : ℕ) {ls : List ℕ} {at : ℕ} {noted : List ℕ} → at ≤ used → Logged ws log ls at noted →
        iter (λ _ y. replay_level ws log used y) (length ls) (replayed (replicate 2176 0) (fresh ws (replicate 384 0)) (place true 0)) ≡ replayed (marks_of ws ls) noted (place true at)
    unfolding iter marks_of
    replays used w Logged.none = refl
    replays used w (Logged.one {ls = ls} {at = at} {noted = noted} {l = l} {to = to} {after = after} x k h b f) =
        let (a, _) = one_on ws log l at to noted after f in
        let e = lit_there l at k b in
        ap (replay_level ws log used) (replays used (omega arith) x)
        ∙ sym (level_yes ws log (marks_of ws ls) noted used (place true at) refl (omega arith) true
        (opens_known ws (marks_of ws ls) log at l (get_or log at 0) (word_of (boundary l)) e refl refl b (known ws (l / 2)) refl k (place_in ws (l / 2)) refl (marked (marks_of ws ls) (place_in ws (l / 2))) refl true (sym (ap not (unmarked (l / 2) k ls (logged_known ws log x) h))))
        refl l (place_in ws (l / 2)) e refl (set_mark (place_in ws (l / 2)) (marks_of ws ls)) after (place true to) refl
        (sym (one_other ws log log l at to used noted after (λ i q. refl) w f)))

    -- and no turn after the last changes anything
    afresh_logged : {ls : List ℕ} {at : ℕ} {noted : List ℕ} → Logged ws log ls at noted → afresh ws log at ≡ replayed (marks_of ws ls) noted (place true at)
    unfolding afresh replay
    afresh_logged {ls} {at} {noted} x =
        let z = replays at (omega arith) x in
        let n : at ≡ at - length ls + length ls = omega (arith, logged_length ws log x) in
        ap (λ (i : ℕ). iter (λ _ y. replay_level ws log at y) i (replayed (replicate 2176 0) (fresh ws (replicate 384 0)) (place true 0))) n
        ∙ stays (replay_level ws log at) (replayed (replicate 2176 0) (fresh ws (replicate 384 0)) (place true 0)) (length ls) (at - length ls)
        (ap (replay_level ws log at) z ∙ sym (level_past ws log (marks_of ws ls) noted at (place true at) refl (omega arith)) ∙ sym z)
        ∙ z

    -- what noting gives passes
    pub logged_passes : (now : List ℕ) (c : Cursor) {ls : List ℕ} {noted : List ℕ} → Logged ws log ls c.used noted → c.used ≤ length log → length ls ≡ c.standing → noted_differs ws noted now ≡ false → log_bad ws now log c ≡ false
    unfolding log_bad
    logged_passes now c {ls} {noted} x fits count d =
        let a = afresh_logged x in
        or_both (le-ltb (length log) c.used fits)
        (or_both (ap not (eq-eqb _ _ (ap length (logged_good ws ends p log x).1 ∙ count)))
        (or_both (ap (λ (y : Replayed). not y.follow.place.ok) a)
        (ap (λ (y : Replayed). noted_differs ws y.follow.noted now) a ∙ d)))
