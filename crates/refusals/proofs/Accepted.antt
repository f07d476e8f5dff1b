-- What a call knows where no test refuses it.
use mathlib.Core.Path.{◌≡◌, refl}
use mathlib.Core.Bool.{Bool, true, false, ◌||◌}
use mathlib.Core.List.{List, ◌∷◌}
use Prim.Native.Nat.{ℕ, ◌/◌, ◌≤◌, ◌<◌}
use native.Mathlib.Omega.{arith}
use lib.IntN.{ℤ, pos}
use lib.ListN.{length}
use Rattle.base.specs.Iter.{pick}
use Rattle.base.specs.Range.{in_range}
use Rattle.base.proofs.Range.{in_range_nat}
use Rattle.base.proofs.Tests.{or_none, and_right, not_false}
use Rattle.undo_log.specs.declared.Cursor.{Cursor}
use Rattle.plan.specs.Check.{variables_high}
use Rattle.noting.specs.Note.{noting, known}
use Rattle.noting.specs.Standing.{has_variable, not_newest, standing_of}
use Rattle.noting.specs.Buffers.{table_bad, list_short, reason_short}
use Rattle.noting.specs.Good.{GoodLog}
use Rattle.refusals.specs.Refusals.{state_bad, table_state_bad, lit_number, unknown_lit, literal_refusal, initialize_refusal, propagate_refusal, undo_refusal, fetch_refusal}
use Rattle.refusals.specs.Calls.{lit_given}
use Rattle.refusals.proofs.Standing.{newest_there}
use Rattle.refusals.proofs.State.{good_state}
use Rattle.refusals.proofs.Numbers.{given_inside, number_given, known_inside}

pub pick_zero : (b : Bool) (k m : ℕ) → 0 < k → pick b k m ≡ 0 → (b ≡ false) × (m ≡ 0)
unfolding pick
pick_zero true k m h e = absurd (omega arith)
pick_zero false k m h e = (refl, e)

-- of the literal: it is known, and its number is the one given
pub record KnownLit (ws : List ℕ) (l : ℤ) : Type 0 where
  pub is_known : known ws (lit_number l / 2) ≡ true
  pub number : lit_number l ≡ lit_given l
  pub range : lit_number l ≤ 8191

pub literal_known : (ws : List ℕ) (l : ℤ) → unknown_lit ws l ≡ false → KnownLit ws l
unfolding unknown_lit
literal_known ws l e = record {
  is_known = and_right (in_range (pos 8191) l) (known ws (lit_number l / 2)) (not_false _ e);
  number = number_given ws l e;
  range = let i = known_inside ws l e in omega (arith, number_given ws l e, given_inside l i, in_range_nat 8191 l i);
}

pub literal_accepted : (ws : List ℕ) (l : ℤ) → literal_refusal ws l ≡ 0 → KnownLit ws l
unfolding literal_refusal
literal_accepted ws l e = literal_known ws l (pick_zero (unknown_lit ws l) 9 0 (omega arith) e).0

-- of the log, the cursor and the noted words, of a table and of a list of n entries
pub record GoodTable (ws noted t : List ℕ) (n : ℕ) (log : List ℕ) (c : Cursor) : Type 0 where
  pub state : GoodLog ws (noting noted log c)
  pub list : list_short ws n ≡ false
  pub table : table_bad ws t ≡ false

module _ (ws : List ℕ) (ends : List (List ℕ)) (noted log : List ℕ) (c : Cursor) (len : length noted ≡ 384) where
  pub state_accepted : state_bad ws ends noted log c ≡ false → GoodLog ws (noting noted log c)
  state_accepted e = good_state ws ends noted log c e len

  table_accepted : (t : List ℕ) (n : ℕ) → table_state_bad ws ends noted t n log c ≡ false → GoodTable ws noted t n log c
  unfolding table_state_bad
  table_accepted t n e =
      let (a, f) = or_none (state_bad ws ends noted log c) _ e in
      let (b, g) = or_none (list_short ws n) (table_bad ws t) f in
      record { state = state_accepted a; list = b; table = g }

  pub initialize_accepted : (t : List ℕ) (n : ℕ) (initialized : Bool) → initialize_refusal ws ends noted t n log c initialized ≡ 0 →
      GoodTable ws noted t n log c × (variables_high ws ≡ false) × (initialized ≡ false)
  unfolding initialize_refusal
  initialize_accepted t n initialized e =
      let (a, f) = pick_zero (table_state_bad ws ends noted t n log c) 7 _ (omega arith) e in
      let (b, g) = pick_zero (variables_high ws) 7 _ (omega arith) f in
      (table_accepted t n a, b, (pick_zero initialized 8 0 (omega arith) g).0)

  pub propagate_accepted : (t : List ℕ) (n : ℕ) (l : ℤ) → propagate_refusal ws ends noted t n log c l ≡ 0 →
      GoodTable ws noted t n log c × KnownLit ws l × (has_variable (lit_number l / 2) (standing_of (noting noted log c)) ≡ false)
  unfolding propagate_refusal
  propagate_accepted t n l e =
      let (a, f) = pick_zero (table_state_bad ws ends noted t n log c) 7 _ (omega arith) e in
      let (b, g) = pick_zero (unknown_lit ws l) 9 _ (omega arith) f in
      (table_accepted t n a, literal_known ws l b, (pick_zero (has_variable (lit_number l / 2) (standing_of (noting noted log c))) 10 0 (omega arith) g).0)

  pub undo_accepted : (l : ℤ) → undo_refusal ws ends noted log c l ≡ 0 →
      GoodLog ws (noting noted log c) × KnownLit ws l × ((ls : List ℕ) × (standing_of (noting noted log c) ≡ lit_number l ∷ ls))
  unfolding undo_refusal
  undo_accepted l e =
      let (a, f) = pick_zero (state_bad ws ends noted log c) 7 _ (omega arith) e in
      let (b, g) = pick_zero (unknown_lit ws l) 9 _ (omega arith) f in
      let k = literal_known ws l b in
      (state_accepted a, k, newest_there (lit_number l) (standing_of (noting noted log c)) (omega (arith, k.range)) (pick_zero (not_newest (lit_number l) (standing_of (noting noted log c))) 11 0 (omega arith) g).0)

  pub fetch_accepted : (n : ℕ) → fetch_refusal ws ends noted n log c ≡ 0 → GoodLog ws (noting noted log c) × (reason_short ws n ≡ false)
  unfolding fetch_refusal
  fetch_accepted n e =
      let (a, b) = or_none (state_bad ws ends noted log c) (reason_short ws n) (pick_zero (state_bad ws ends noted log c || reason_short ws n) 7 0 (omega arith) e).0 in
      (state_accepted a, b)
