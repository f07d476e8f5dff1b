-- There is always room: the records of literals of different variables fit a log of 2 × (edges + size literals) words.
use mathlib.Core.Path.{◌≡◌, refl, sym, ap, ap₂, subst, ◌∙◌}
use mathlib.Core.Logic.{⊎_elim}
use mathlib.Core.Bool.{Bool, true, false}
use mathlib.Core.List.{List, [], ◌∷◌}
use Prim.Native.Nat.{ℕ, zero, suc, ◌+◌, ◌-◌, ◌*◌, ◌/◌, ◌≤◌, ◌<◌}
use native.Mathlib.Omega.{arith}
use native.Mathlib.Numerals.{add-one}
use lib.Dec.{eqb, ltb}
use lib.ListN.{length}
use borrow.Author.Tests.{lt-ltb, le-ltb, ltb-true, ltb-false, eqb-false}
use Rattle.base.specs.Iter.{pick}
use Rattle.base.proofs.Loop.{pick_ind, pick_yes, pick_no, eq_or_not}
use Rattle.base.proofs.Tests.{or_none, le_or_lt}
use Rattle.undo_log.specs.declared.Cursor.{Cursor}
use Rattle.plan.specs.Words.{variables_of, slots_of, variable_at, start_at}
use Rattle.plan.specs.Proper.{ProperWords}
use Rattle.noting.specs.Note.{place_in, known}
use Rattle.noting.specs.Undo.{records_of}
use Rattle.noting.specs.Standing.{standing, has_variable, OneEach, AllKnown}
use Rattle.noting.specs.Replay.{log_bad}
use Rattle.noting.specs.Buffers.{log_short}
use Rattle.noting.specs.Ready.{occurrences}
use Rattle.noting.specs.Logged.{Logged}
use Rattle.noting.proofs.Logged.{one_on, known_place}
use Rattle.noting.proofs.Replaying.{passed_logged}

-- the occurrences of all the literals' variables, and of those whose place is below n
unfoldable whole : List ℕ → List ℕ → ℕ
whole ws [] = 0
whole ws (l ∷ ls) = occurrences ws (l / 2) + whole ws ls

unfoldable placed : List ℕ → ℕ → List ℕ → ℕ
placed ws n [] = 0
placed ws n (l ∷ ls) = pick (ltb (place_in ws (l / 2)) n) (occurrences ws (l / 2)) 0 + placed ws n ls

pub logged_distinct : (ws log : List ℕ) {ls : List ℕ} {at : ℕ} {noted : List ℕ} → Logged ws log ls at noted → OneEach ls
logged_distinct ws log Logged.none = OneEach.none
logged_distinct ws log (Logged.one x k h b f) = OneEach.one h (logged_distinct ws log x)

pub logged_known : (ws log : List ℕ) {ls : List ℕ} {at : ℕ} {noted : List ℕ} → Logged ws log ls at noted → AllKnown ws ls
logged_known ws log Logged.none = AllKnown.none
logged_known ws log (Logged.one x k h b f) = AllKnown.one k (logged_known ws log x)

module _ (ws : List ℕ) (ends : List (List ℕ)) (p : ProperWords ws ends) where
  occurrences_of : (x : ℕ) → known ws x ≡ true → occurrences ws x ≡ start_at ws (place_in ws x + 1) - start_at ws (place_in ws x)
  unfolding occurrences
  occurrences_of x k = pick_yes _ _ k

  -- a known variable occurs
  occurs : (x : ℕ) → known ws x ≡ true → 1 ≤ occurrences ws x
  occurs x k =
      let (a, _) = known_place ws ends p x k in
      let s = (p.listed (place_in ws x) a).some in
      let e : start_at ws (place_in ws x + 1) ≡ start_at ws (suc (place_in ws x)) = ap (start_at ws) (add-one (place_in ws x)) in
      omega (arith, occurrences_of x k)

  -- no literal's place is n
  placed_same : (n : ℕ) (ls : List ℕ) → AllKnown ws ls → has_variable (variable_at ws n) ls ≡ false → placed ws (suc n) ls ≡ placed ws n ls
  unfolding placed has_variable
  placed_same n [] AllKnown.none h = refl
  placed_same n (l ∷ ls) (AllKnown.one k a) h =
      let (b, c) = or_none (eqb (l / 2) (variable_at ws n)) _ h in
      let (_, e) = known_place ws ends p (l / 2) k in
      ap₂ (λ (i j : ℕ). i + j) (other l (λ (q : place_in ws (l / 2) ≡ n). eqb-false (l / 2) (variable_at ws n) b (sym e ∙ ap (variable_at ws) q))) (placed_same n ls a c)
    where
      other : (l : ℕ) → (place_in ws (l / 2) ≡ n → ⊥) → pick (ltb (place_in ws (l / 2)) (suc n)) (occurrences ws (l / 2)) 0 ≡ pick (ltb (place_in ws (l / 2)) n) (occurrences ws (l / 2)) 0
      other l ne = ⊎_elim
          (λ (q : n ≤ place_in ws (l / 2)). pick_no _ _ (le-ltb (place_in ws (l / 2)) (suc n) (⊎_elim (λ (z : place_in ws (l / 2) ≤ n). absurd (ne (omega arith))) (λ (z : n < place_in ws (l / 2)). z) (le_or_lt (place_in ws (l / 2)) n))) ∙ sym (pick_no _ _ (le-ltb (place_in ws (l / 2)) n q)))
          (λ (q : place_in ws (l / 2) < n). pick_yes _ _ (lt-ltb (place_in ws (l / 2)) (suc n) (omega arith)) ∙ sym (pick_yes _ _ (lt-ltb (place_in ws (l / 2)) n q)))
          (le_or_lt n (place_in ws (l / 2)))

  -- at most one literal's place is n
  placed_more : (n : ℕ) (ls : List ℕ) → OneEach ls → AllKnown ws ls → placed ws (suc n) ls ≤ placed ws n ls + (start_at ws (suc n) - start_at ws n)
  unfolding placed
  placed_more n [] OneEach.none AllKnown.none = omega arith
  placed_more n (l ∷ ls) (OneEach.one h d) (AllKnown.one k a) =
      let (_, e) = known_place ws ends p (l / 2) k in
      ⊎_elim
      (λ (q : place_in ws (l / 2) ≡ n).
      let u : placed ws (suc n) ls ≡ placed ws n ls = placed_same n ls a (subst (λ (x : ℕ). has_variable x ls ≡ false) (sym e ∙ ap (variable_at ws) q) h) in
      let o : occurrences ws (l / 2) ≡ start_at ws (suc n) - start_at ws n = occurrences_of (l / 2) k ∙ ap (λ (i : ℕ). start_at ws (i + 1) - start_at ws i) q ∙ ap (λ (i : ℕ). start_at ws i - start_at ws n) (add-one n) in
      omega (arith, pick_le (ltb (place_in ws (l / 2)) (suc n)) (occurrences ws (l / 2))))
      (λ (q : place_in ws (l / 2) ≡ n → ⊥).
      let u = placed_more n ls d a in
      omega (arith, other l q))
      (eq_or_not (place_in ws (l / 2)) n)
    where
      pick_le : (b : Bool) (x : ℕ) → pick b x 0 ≤ x
      pick_le b x = pick_ind (λ (z : ℕ). z ≤ x) b x 0 (λ _. omega arith) (λ _. omega arith)

      other : (l : ℕ) → (place_in ws (l / 2) ≡ n → ⊥) → pick (ltb (place_in ws (l / 2)) (suc n)) (occurrences ws (l / 2)) 0 ≤ pick (ltb (place_in ws (l / 2)) n) (occurrences ws (l / 2)) 0
      other l ne =
          pick_ind (λ (z : ℕ). z ≤ pick (ltb (place_in ws (l / 2)) n) (occurrences ws (l / 2)) 0) (ltb (place_in ws (l / 2)) (suc n)) _ _
          (λ t. let b = ltb-true (place_in ws (l / 2)) (suc n) t in
          let y : pick (ltb (place_in ws (l / 2)) n) (occurrences ws (l / 2)) 0 ≡ occurrences ws (l / 2) = pick_yes _ _ (lt-ltb (place_in ws (l / 2)) n (⊎_elim (λ (z : n ≤ place_in ws (l / 2)). absurd (ne (omega arith))) (λ (z : place_in ws (l / 2) < n). z) (le_or_lt n (place_in ws (l / 2))))) in
          omega arith)
          (λ _. omega arith)

  placed_none : (ls : List ℕ) → placed ws 0 ls ≡ 0
  unfolding placed
  placed_none [] = refl
  placed_none (l ∷ ls) = ap₂ (λ (i j : ℕ). i + j) (pick_no _ _ (le-ltb (place_in ws (l / 2)) 0 (omega arith))) (placed_none ls)

  placed_few : (n : ℕ) (ls : List ℕ) → n ≤ variables_of ws → OneEach ls → AllKnown ws ls → placed ws n ls ≤ start_at ws n
  placed_few zero ls h d a = omega (arith, placed_none ls)
  placed_few (suc n) ls h d a = let s = (p.listed n (omega arith)).some in omega (arith, placed_few n ls (omega arith) d a, placed_more n ls d a)

  placed_all : (ls : List ℕ) → AllKnown ws ls → placed ws (variables_of ws) ls ≡ whole ws ls
  unfolding placed whole
  placed_all [] AllKnown.none = refl
  placed_all (l ∷ ls) (AllKnown.one k a) = ap₂ (λ (i j : ℕ). i + j) (pick_yes _ _ (lt-ltb _ _ (known_place ws ends p (l / 2) k).0)) (placed_all ls a)

  whole_few : (ls : List ℕ) → OneEach ls → AllKnown ws ls → whole ws ls ≤ slots_of ws
  whole_few ls d a = omega (arith, placed_all ls a, placed_few (variables_of ws) ls (omega arith) d a, p.end)

  whole_many : (ls : List ℕ) → AllKnown ws ls → length ls ≤ whole ws ls
  unfolding whole
  whole_many [] AllKnown.none = omega arith
  whole_many (l ∷ ls) (AllKnown.one k a) = omega (arith, whole_many ls a, occurs (l / 2) k)

  -- a notification has its first record, and one for each occurrence at most
  logged_few : (log : List ℕ) {ls : List ℕ} {at : ℕ} {noted : List ℕ} → Logged ws log ls at noted → at ≤ length ls + whole ws ls
  unfolding whole
  logged_few log Logged.none = omega arith
  logged_few log (Logged.one {at = at} {noted = noted} {l = l} {to = to} {after = after} x k h b f) =
      let (_, u) = one_on ws log l at to noted after f in
      omega (arith, occurrences_of (l / 2) k, logged_few log x)

  -- a log of 2 × (edges + size literals) words holds every log that noting gives
  pub log_holds : (log : List ℕ) {ls : List ℕ} {at : ℕ} {noted : List ℕ} → Logged ws log ls at noted → at ≤ 2 * slots_of ws
  log_holds log {ls} x = omega (arith, logged_few log x, whole_few ls (logged_distinct ws log x) (logged_known ws log x), whole_many ls (logged_known ws log x))

  -- and one more notification
  pub logged_room : (log : List ℕ) {ls : List ℕ} {at : ℕ} {noted : List ℕ} → Logged ws log ls at noted → log_short ws (length log) ≡ false → (l : ℕ) → known ws (l / 2) ≡ true → has_variable (l / 2) ls ≡ false → at + 1 + occurrences ws (l / 2) ≤ length log
  unfolding log_short whole
  logged_room log {ls} x long l k h =
      let a = logged_known ws log x in
      let d = logged_distinct ws log x in
      let m = ltb-false (length log) (2 * slots_of ws) long in
      omega (arith, logged_few log x, whole_few (l ∷ ls) (OneEach.one h d) (AllKnown.one k a), whole_many (l ∷ ls) (AllKnown.one k a))

-- There is room in the log wherever refusals 7, 9 and 10 do not apply.
pub room : (ws : List ℕ) (ends : List (List ℕ)) → ProperWords ws ends → (noted log : List ℕ) (c : Cursor) → log_bad ws noted log c ≡ false → log_short ws (length log) ≡ false →
    (l : ℕ) → known ws (l / 2) ≡ true → has_variable (l / 2) (standing (records_of log c.used)) ≡ false → c.used + 1 + occurrences ws (l / 2) ≤ length log
room ws ends p noted log c e long l k h = logged_room ws ends p log (passed_logged ws ends p noted log c e) long l k h
