-- What a judgement of the definition leaves, where it is fine and where it is a conflict; the first words of a list; and how many
-- literals are handed on.
use mathlib.Core.Path.{◌≡◌, refl, sym, ap, subst, ◌∙◌}
use mathlib.Core.Logic.{⊎_elim}
use mathlib.Core.Bool.{Bool, true, false, false≢true}
use mathlib.Core.List.Memᴰ
use mathlib.Core.List.{List, [], ◌∷◌}
use Prim.Native.Nat.{ℕ, zero, suc, ◌+◌, ◌/◌, ◌<◌, ◌≤◌, min}
use native.Mathlib.Omega.{arith}
use native.Mathlib.Nat.{eq-or-lt_of_le}
use lib.Dec.{eqb, ltb}
use lib.ListN.{length, get_or, take, length-take}
use lib.Seq.{get_or-set_other}
use Rattle.base.specs.Iter.{pick}
use Rattle.base.specs.Lists.{tab}
use Rattle.base.proofs.Loop.{pick_ind, pick_yes, pick_no, tested, eq_or_not}
use Rattle.plan.specs.Words.{word, variable_at, variables_of}
use Rattle.division.specs.Plan.{Plan}
use Rattle.plan.specs.Plan.{plan_of}
use Rattle.plan.specs.Proper.{ProperWords}
use Rattle.division.specs.Noting.{In, Consistent}
use Rattle.division.specs.Runs.{analysis}
use Rattle.calls.specs.Table.{code_of, unset_in, enter}
use Rattle.calls.specs.Look.{Judgement, fine, clash, stopped, Looked, offers, hand_on, enter_all, stop, clashes, offered}
use Rattle.calls.proofs.View.{Saw, saw_stop, saw_conflict, saw_false, saw_fine}
use Rattle.calls.proofs.Marks.{marked_set, enter_same, enter_long}
use Rattle.noting.specs.Buffers.{table_bad, table_len}
use Rattle.division.proofs.Whole.{reason_there, each_found}
use Rattle.calls.proofs.Looks.{offer_in}
use Rattle.refusals.proofs.Known.{known_place, place_knows}
use Rattle.judge.proofs.Known.{each_known}
use Rattle.calls.proofs.Count.{known_below}
use borrow.Author.Tests.{ltb-false}
use Rattle.base.proofs.Tests.{or_none}
use Rattle.refusals.proofs.Tables.{table_len_is}

unfoldable is_fine : Judgement → Bool
is_fine fine = true
is_fine clash = false
is_fine (stopped n) = false

unfoldable is_clash : Judgement → Bool
is_clash fine = false
is_clash clash = true
is_clash (stopped n) = false

module _ (d : Plan) (ls t : List ℕ) where
  pub fine_left : {o : Looked} → Saw d ls t o → o.judgement ≡ fine → o.left ≡ []
  unfolding stop clashes offered is_fine
  fine_left (saw_stop n) e = absurd (false≢true (ap is_fine e))
  fine_left (saw_conflict c v) e = absurd (false≢true (ap is_fine e))
  fine_left (saw_false p ps f h) e = absurd (false≢true (ap is_fine e))
  fine_left (saw_fine v) e = refl

  pub clash_still : {o : Looked} → Saw d ls t o → o.judgement ≡ clash → (o.table ≡ t) × (o.handed ≡ [])
  unfolding stop clashes offered is_clash
  clash_still (saw_stop n) e = absurd (false≢true (ap is_clash e))
  clash_still (saw_conflict c v) e = (refl, refl)
  clash_still (saw_false p ps f h) e = (refl, refl)
  clash_still (saw_fine v) e = absurd (false≢true (ap is_clash e))

pub tab_take : (n : ℕ) (l : List ℕ) → n ≤ length l → tab (word l) n ≡ take n l
unfolding tab
tab_take zero l h = refl
tab_take (suc n) [] h = absurd (omega arith)
tab_take (suc n) (x ∷ xs) h = ap (λ (r : List ℕ). x ∷ r) (tab_take n xs (omega arith))

-- a list that stands whole at the start of another is no longer
pub taken_short : (m l : List ℕ) → take (length m) l ≡ m → length m ≤ length l
taken_short m l e = let f : length m ≡ min (length m) (length l) = ap length (sym e) ∙ length-take (length m) l in omega arith

-- ---- how many are handed on
-- of variables v 0, v 1, up to v (n - 1), how many are unset in the table
unfoldable pub unset : (ℕ → ℕ) → ℕ → List ℕ → ℕ
unset v zero t = 0
unset v (suc n) t = unset v n t + pick (eqb (get_or t (v n) 0) 0) 1 0

pub unset_most : (v : ℕ → ℕ) (n : ℕ) (t : List ℕ) → unset v n t ≤ n
unfolding unset
unset_most v zero t = omega arith
unset_most v (suc n) t = let a = unset_most v n t in pick_ind (λ (i : ℕ). unset v n t + i ≤ suc n) (eqb (get_or t (v n) 0) 0) 1 0 (λ _. omega arith) (λ _. omega arith)

-- the literal's variable is one of them, and the table has an entry for it
pub record Listed (v : ℕ → ℕ) (n : ℕ) (long : ℕ) (p : ℕ) : Type 0 where
  pub place : ℕ
  pub known : place < n
  pub is : v place ≡ p / 2
  pub within : p / 2 < long

module _ (v : ℕ → ℕ) (t : List ℕ) (p : ℕ) (h : p / 2 < length t) where
  -- the literal's own entry is set then, all others stay
  entry_own : eqb (get_or (enter t p) (p / 2) 0) 0 ≡ false
  unfolding unset_in code_of
  entry_own = marked_set (enter t p) p (enter_same t p h)

  entry_set : (i : ℕ) → i ≡ p / 2 → eqb (get_or (enter t p) i 0) 0 ≡ false
  entry_set i e = ap (λ (k : ℕ). eqb (get_or (enter t p) k 0) 0) e ∙ entry_own

  entry_still : (i : ℕ) → (i ≡ p / 2 → ⊥) → get_or (enter t p) i 0 ≡ get_or t i 0
  unfolding enter
  entry_still i e = get_or-set_other t (p / 2) i _ 0 e

  entry_less : (i : ℕ) → pick (eqb (get_or (enter t p) i 0) 0) 1 0 ≤ pick (eqb (get_or t i 0) 0) 1 0
  entry_less i = ⊎_elim
      (λ (e : i ≡ p / 2). subst (λ (k : ℕ). k ≤ pick (eqb (get_or t i 0) 0) 1 0) (sym (pick_no 1 0 (entry_set i e))) (omega arith))
      (λ (e : i ≡ p / 2 → ⊥). subst (λ (k : ℕ). pick (eqb k 0) 1 0 ≤ pick (eqb (get_or t i 0) 0) 1 0) (sym (entry_still i e)) (omega arith))
      (eq_or_not i (p / 2))

  entered_less : (n : ℕ) → unset v n (enter t p) ≤ unset v n t
  unfolding unset
  entered_less zero = omega arith
  entered_less (suc n) = let a = entered_less n in let b = entry_less (v n) in omega arith

  entered_fewer : unset_in t p ≡ true → (n k : ℕ) → k < n → v k ≡ p / 2 → suc (unset v n (enter t p)) ≤ unset v n t
  unfolding unset unset_in code_of
  entered_fewer u zero k b e = absurd (omega arith)
  entered_fewer u (suc n) k b e = ⊎_elim
      (λ (q : k ≡ n).
      let z : v n ≡ p / 2 = ap v (sym q) ∙ e in
      let a = entered_less n in
      let x = pick_no {A = ℕ} 1 0 (entry_set (v n) z) in
      let y = pick_yes {A = ℕ} 1 0 (ap (λ (i : ℕ). eqb (get_or t i 0) 0) z ∙ u) in
      omega arith)
      (λ (q : k < n). let a = entered_fewer u n k q e in let b = entry_less (v n) in omega arith)
      (eq-or-lt_of_le {n = k} {m = n} (omega arith))

-- each that is handed on was unset, and is set then
hand_count : (v : ℕ → ℕ) (n : ℕ) (t ps : List ℕ) → ((p : ℕ) → In ps p → Listed v n (length t) p) → length (hand_on t ps) + unset v n (enter_all t ps) ≤ unset v n t
unfolding hand_on enter_all
hand_count v n t [] f = omega arith
hand_count v n t (p ∷ ps) f = tested (unset_in t p)
    (λ u.
    let k = f p (Memᴰ.head refl) in
    let a = hand_count v n (enter t p) ps (λ q m. subst (λ (i : ℕ). Listed v n i q) (sym (enter_long t p)) (f q (Memᴰ.tail m))) in
    let b = entered_fewer v t p k.within u n k.place k.known k.is in
    let x = ap length (pick_yes (p ∷ hand_on (enter t p) ps) (hand_on t ps) u) in
    let y = ap (unset v n) (pick_yes (enter_all (enter t p) ps) (enter_all t ps) u) in
    omega arith)
    (λ u.
    let a = hand_count v n t ps (λ q m. f q (Memᴰ.tail m)) in
    let x = ap length (pick_no (p ∷ hand_on (enter t p) ps) (hand_on t ps) u) in
    let y = ap (unset v n) (pick_no (enter_all (enter t p) ps) (enter_all t ps) u) in
    omega arith)

pub looked_count : (v : ℕ → ℕ) (n : ℕ) (d : Plan) (ls t : List ℕ) {o : Looked} → Saw d ls t o → ((p : ℕ) → In (offers (analysis d ls)) p → Listed v n (length t) p) →
    length o.handed + unset v n o.table ≤ unset v n t
unfolding stop clashes offered
looked_count v n d ls t (saw_stop k) f = omega arith
looked_count v n d ls t (saw_conflict c e) f = omega arith
looked_count v n d ls t (saw_false p ps e h) f = omega arith
looked_count v n d ls t (saw_fine e) f = hand_count v n t (offers (analysis d ls)) f

-- the variables of the literals that an analysis proposes have their entries in a table that refusal 7 leaves
pub offered_listed : (ws : List ℕ) (ends : List (List ℕ)) → ProperWords ws ends → (t : List ℕ) → table_bad ws t ≡ false → (n : ℕ) → n ≡ length t → (ls : List ℕ) → Consistent ls → (l : ℕ) →
    In (offers (analysis (plan_of ws ends) ls)) l → Listed (variable_at ws) (variables_of ws) n l
unfolding table_bad
offered_listed ws ends p t good n e ls k l m =
    let d = plan_of ws ends in
    let (y, q) = reason_there l (analysis d ls).props (offer_in (analysis d ls) l m) in
    let (i, a, v) = known_place ws ends p (l / 2) (each_found l y (analysis d ls).props (each_known ws ends p ls k) q) in
    let b = known_below d l (place_knows ws ends p i l a v) in
    let z = ltb-false (length t) (table_len ws) (or_none (ltb (length t) (table_len ws)) _ good).0 in
    record { place = i; known = a; is = v; within = omega (arith, table_len_is ws ends p) }
