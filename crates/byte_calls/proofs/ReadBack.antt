-- Decode and encode are inverse on what the calls make: the cursor, the log and the literals that a call writes are read back as such.
use Prim.Native.Nat.{ℕ, zero, suc, ◌+◌, ◌-◌, ◌*◌, ◌/◌, ◌%◌, ◌≤◌, ◌<◌}
use native.Mathlib.Omega.{arith}
use native.Mathlib.Nat.{not-suc-le-zero, eq-or-lt_of_le, zero-add}
use mathlib.Core.Path.{◌≡◌, refl, sym, ap, subst, ◌∙◌}
use mathlib.Core.Bool.{Bool, true, false, ◌||◌}
use mathlib.Core.Logic.{◌⊎◌, inl, inr, ⊎_elim}
use mathlib.Core.List.{List}
use lib.Dec.{ltb, eqb}
use lib.IntN.{ℤ, pos}
use borrow.Author.Tests.{ltb-true, ltb-false, eqb-true}
use lib.ListN.{length, get_or, set, replicate, length-set, length-replicate}
use lib.Seq.{get_or-set_same, get_or-set_other, get_or-take}
use Rattle.base.specs.Iter.{iter, pick}
use Rattle.base.specs.Lists.{filled}
use Rattle.base.proofs.Filled.{filled_length, filled_in}
use Rattle.base.specs.Range.{in_range}
use Rattle.base.proofs.Loop.{pick_yes, pick_no, pick_ind, iter_ind, tested}
use Rattle.base.proofs.Tests.{or_none}
use Rattle.undo_log.specs.declared.Cursor.{Cursor}
use Rattle.noting.specs.Words.{capped}
use Rattle.noting.specs.Note.{Noting, noting}
use Rattle.noting.specs.Undo.{records_of, kept, undo}
use Rattle.noting.specs.Buffers.{log_short}
use Rattle.noting.specs.Replay.{log_bad}
use Rattle.plan.specs.Check.{counts_bad, plan_bad}
use Rattle.plan.specs.Words.{variables_of, unique_lit_at}
use Rattle.plan.specs.Proper.{ProperWords}
use Rattle.plan.proofs.Proper.{proper}
use Rattle.sweep.specs.Sweep.{Handed, handing, handed, handed_at, handed_on}
use Rattle.walks.specs.Written.{Out, pushed}
use Rattle.refusals.specs.Refusals.{lit_number, state_bad, table_state_bad, initialize_refusal, propagate_refusal, undo_refusal}
use Rattle.refusals.proofs.Accepted.{pick_zero}
use Rattle.judge.specs.declared.Judgement.{Judgement}
use Rattle.judge.specs.declared.Judgement.TheVariants.{Fine, Clash, Stopped}
use Rattle.judge.specs.Judge.{Judged}
use Rattle.graph_division.specs.declared.GraphDivision.{GraphDivision}
use Rattle.graph_division.specs.declared.Outcome.{Outcome}
use Rattle.graph_division.specs.declared.Answer.TheVariants as answer
use Rattle.graph_division.specs.Calls.{Called, called, outcome, refuse, with_noted, noted_in, adding, accepting, handing_on, settled_by, settled, propagated, undone}
use Rattle.graph_division.specs.Initialize.{noted_at, noted_up_to, taken_over, taking, ended_by, begun, initialized}
use Rattle.notifications.specs.declared.Progress.{Progress}
use Rattle.notifications.specs.Notifications.{lit_at}
use Rattle.graph_division.specs.Answers.{is_refused}
use Rattle.byte_calls.specs.Host.{left_by, left_of, initialized_in, propagated_in, back_of, back_by, undone_in}
use Rattle.base.specs.Bytes.{word_at, long_at, put_half, put_word, put_long, put_halves, put_longs}
use Rattle.byte_calls.specs.Layout.{plan_in, state_in, cursor_in, used_entries, records_in, log_in, list_in}
use Rattle.base.specs.Bytes.{words_in}
use Rattle.byte_calls.specs.Stores.{put_cursor, put_list, put_log}
use Rattle.byte_calls.proofs.Filling.{capped_most, capped_less, room_is}
use Rattle.base.proofs.Bytes.{put_halves_length, put_word_length, put_longs_length}
use Rattle.base.proofs.Bytes.{Agree, agree_word, agree_long, agree_then, put_word_agrees, put_word_in, put_long_agrees, put_long_in}
use Rattle.byte_calls.proofs.Filling.{capped_is}
use Rattle.byte_calls.proofs.Leaving.{room_length, list_room}
use Rattle.byte_calls.proofs.LastList.{Bytes, word_fits}
use Rattle.byte_calls.proofs.Fitting.{Under, set_under, none_under, take_under, Kept, plan_under, words_under, log_under, note_kept, number_under, undo_less}

cap_yes : (n m : ℕ) → ltb n m ≡ true → capped n m ≡ n
unfolding capped
cap_yes n m t = pick_yes n m t

cap_no : (n m : ℕ) → ltb n m ≡ false → capped n m ≡ m
unfolding capped
cap_no n m t = pick_no n m t

-- the cursor, where its numbers fit their 4 bytes
pub cursor_back : (d : Cursor) (b : List ℕ) → d.used < 4294967296 → d.standing < 4294967296 → 8 ≤ length b → cursor_in (put_cursor d b) ≡ d
unfolding cursor_in put_cursor
cursor_back d b u s r =
    let x : ℕ = d.used % 4294967296 in
    let y : ℕ = d.standing % 4294967296 in
    let ex : x ≡ d.used = omega arith in
    let ey : y ≡ d.standing = omega arith in
    let p : word_at (put_word 4 y (put_word 0 x b)) 0 ≡ d.used =
    agree_word 0 (put_word_agrees 4 y (put_word 0 x b) 0 4 (inl (omega arith))) (omega arith) (omega arith) ∙ (put_word_in 0 x b (omega arith) (omega arith) ∙ ex) in
    let q : word_at (put_word 4 y (put_word 0 x b)) 4 ≡ d.standing =
    put_word_in 4 y (put_word 0 x b) (omega arith) (omega (arith, put_word_length 0 x b)) ∙ ey in
    λ i. record { used = p i; standing = q i }

-- the log's words from number `from` on
module _ (l b : List ℕ) (from : ℕ) where
  longs_agree : (n lo hi : ℕ) → (hi ≤ 8 * from) ⊎ (8 * (from + n) ≤ lo) → Agree lo hi (put_longs l from n b) b
  unfolding put_longs iter
  longs_agree zero lo hi h = record { at = λ i k u. refl }
  longs_agree (suc n) lo hi h = agree_then
      (put_long_agrees (8 * (from + n)) (get_or l (from + n) 0) (put_longs l from n b) lo hi (⊎_elim (λ (k : hi ≤ 8 * from). inl (omega arith)) (λ (k : 8 * (from + suc n) ≤ lo). inr (omega arith)) h))
      (longs_agree n lo hi (⊎_elim (λ (k : hi ≤ 8 * from). inl k) (λ (k : 8 * (from + suc n) ≤ lo). inr (omega arith)) h))

  longs_in : ((i : ℕ) → get_or l i 0 < 18446744073709551616) → (n i : ℕ) → i < n → 8 * (from + n) ≤ length b → long_at (put_longs l from n b) (8 * (from + i)) ≡ get_or l (from + i) 0
  unfolding put_longs iter
  longs_in f zero i h r = absurd (not-suc-le-zero h)
  longs_in f (suc n) i h r = ⊎_elim
      (λ (e : i ≡ n). ap (λ (j : ℕ). long_at (put_long (8 * (from + n)) (get_or l (from + n) 0) (put_longs l from n b)) (8 * (from + j))) e ∙ (put_long_in (8 * (from + n)) (get_or l (from + n) 0) (put_longs l from n b) (f (from + n)) (omega (arith, put_longs_length l from n b)) ∙ ap (λ (j : ℕ). get_or l (from + j) 0) (sym e)))
      (λ (k : i < n). agree_long (8 * (from + i)) (put_long_agrees (8 * (from + n)) (get_or l (from + n) 0) (put_longs l from n b) (8 * (from + i)) (8 * (from + i) + 8) (inl (omega arith))) (omega arith) (omega arith) ∙ longs_in f n i k (omega arith))
      (eq-or-lt_of_le {n = i} {m = n} (omega arith))

-- a record that is decoded is the one that stands in the bytes
record_in : (c : Cursor) (log : List ℕ) (i : ℕ) → i < c.used → i < used_entries (length log / 8) → get_or (log_in c log) i 0 ≡ long_at log (8 * i)
unfolding log_in records_in
record_in c log i h r =
    let room : ℕ = used_entries (length log / 8) in
    let n : ℕ = capped c.used room in
    let l : i < n = tested (ltb c.used room)
    (λ (t : ltb c.used room ≡ true). subst (λ (k : ℕ). i < k) (sym (cap_yes c.used room t)) h)
    (λ (t : ltb c.used room ≡ false). subst (λ (k : ℕ). i < k) (sym (cap_no c.used room t)) r) in
    let m : used_entries (length log / 8) ≤ 4352 = omega (arith, room_is (length log / 8), capped_most (length log / 8) 4352) in
    get_or-take room (filled 0 n (λ j. long_at log (8 * j)) (replicate 4352 0)) i 0 r
    ∙ (ap (λ (j : ℕ). get_or (filled 0 n (λ j. long_at log (8 * j)) (replicate 4352 0)) j 0) (sym (zero-add i))
    ∙ filled_in 0 (λ j. long_at log (8 * j)) (replicate 4352 0) n i l (omega (arith, capped_most c.used room, length-replicate {A = ℕ} 4352 0)))

-- the log up to the cursor, where its records are those that were decoded up to the cursor before, and new ones
pub log_back : (c d : Cursor) (records log : List ℕ) → ((i : ℕ) → get_or records i 0 < 18446744073709551616) → length records ≡ used_entries (length log / 8) →
    ((i : ℕ) → i < c.used → get_or records i 0 ≡ get_or (log_in c log) i 0) → d.used ≤ length records →
    (i : ℕ) → i < d.used → get_or (log_in d (put_log records c.used d.used log)) i 0 ≡ get_or records i 0
unfolding put_log
log_back c d records log small len old fits i h =
    let room : used_entries (length log / 8) ≤ length log / 8 = omega (arith, room_is (length log / 8), capped_less (length log / 8) 4352) in
    let e : capped d.used (length records) ≡ d.used = capped_is d.used (length records) fits in
    let n : ℕ = capped d.used (length records) - c.used in
    let after : List ℕ = put_longs records c.used n log in
    let same : length after ≡ length log = put_longs_length records c.used n log in
    let r : i < used_entries (length log / 8) = omega arith in
    record_in d after i h (subst (λ (k : ℕ). i < used_entries (k / 8)) (sym same) r)
    ∙ tested (ltb i c.used)
    (λ (t : ltb i c.used ≡ true). let k : i < c.used = ltb-true i c.used t in
    agree_long (8 * i) (longs_agree records log c.used n (8 * i) (8 * i + 8) (inl (omega arith))) (omega arith) (omega arith) ∙ (sym (record_in c log i k r) ∙ sym (old i k)))
    (λ (t : ltb i c.used ≡ false). let k : c.used ≤ i = ltb-false i c.used t in
    let q : c.used + (i - c.used) ≡ i = omega arith in
    subst (λ (j : ℕ). long_at after (8 * j) ≡ get_or records j 0) q (longs_in records log c.used small n (i - c.used) (omega arith) (omega arith)))

-- the two bytes of literal i of a list
unfoldable pub half_at : List ℕ → ℕ → ℕ
half_at b i = get_or b (2 * i) 0 + 256 * get_or b (2 * i + 1) 0

module _ (a x : ℕ) (b : List ℕ) where
  half_other : (i : ℕ) → (i < a) ⊎ (a + 2 ≤ i) → get_or (put_half a x b) i 0 ≡ get_or b i 0
  unfolding put_half
  half_other i h =
      get_or-set_other (set b a (x % 256)) (a + 1) i (x / 256 % 256) 0 (λ (e : i ≡ a + 1). ⊎_elim (λ (k : i < a). omega arith) (λ (k : a + 2 ≤ i). omega arith) h)
      ∙ get_or-set_other b a i (x % 256) 0 (λ (e : i ≡ a). ⊎_elim (λ (k : i < a). omega arith) (λ (k : a + 2 ≤ i). omega arith) h)

  half_in : x < 65536 → a + 2 ≤ length b → get_or (put_half a x b) a 0 + 256 * get_or (put_half a x b) (a + 1) 0 ≡ x
  unfolding put_half
  half_in h r =
      let p : get_or (set (set b a (x % 256)) (a + 1) (x / 256 % 256)) a 0 ≡ x % 256 =
      get_or-set_other (set b a (x % 256)) (a + 1) a (x / 256 % 256) 0 (λ (e : a ≡ a + 1). omega arith) ∙ get_or-set_same b a (x % 256) 0 (omega arith) in
      let q : get_or (set (set b a (x % 256)) (a + 1) (x / 256 % 256)) (a + 1) 0 ≡ x / 256 % 256 =
      get_or-set_same (set b a (x % 256)) (a + 1) (x / 256 % 256) 0 (omega (arith, length-set b a (x % 256))) in
      let s : x / 256 % 256 ≡ x / 256 = omega arith in
      omega (arith, p, q, s)

halves_back : (l b : List ℕ) → ((i : ℕ) → get_or l i 0 < 65536) → (n i : ℕ) → i < n → 2 * n ≤ length b → half_at (put_halves l n b) i ≡ get_or l i 0
unfolding put_halves iter half_at
halves_back l b small zero i h r = absurd (not-suc-le-zero h)
halves_back l b small (suc n) i h r = ⊎_elim
    (λ (e : i ≡ n). subst (λ (j : ℕ). get_or (put_half (2 * n) (get_or l n 0) (put_halves l n b)) (2 * j) 0 + 256 * get_or (put_half (2 * n) (get_or l n 0) (put_halves l n b)) (2 * j + 1) 0 ≡ get_or l j 0) (sym e)
    (half_in (2 * n) (get_or l n 0) (put_halves l n b) (small n) (omega (arith, put_halves_length l n b))))
    (λ (k : i < n). (λ j. half_other (2 * n) (get_or l n 0) (put_halves l n b) (2 * i) (inl (omega arith)) j + 256 * half_other (2 * n) (get_or l n 0) (put_halves l n b) (2 * i + 1) (inl (omega arith)) j)
    ∙ halves_back l b small n i k (omega arith))
    (eq-or-lt_of_le {n = i} {m = n} (omega arith))

-- the literals of a list, where they fit their 2 bytes: as many as are given and as the list has
pub list_back : (l b : List ℕ) (n : ℕ) → ((i : ℕ) → get_or l i 0 < 65536) → 2 * length l ≤ length b → (i : ℕ) → i < n → i < length l → half_at (put_list l n b) i ≡ get_or l i 0
unfolding put_list
list_back l b n small r i h k = halves_back l b small (capped n (length l)) i
    (tested (ltb n (length l))
    (λ (t : ltb n (length l) ≡ true). subst (λ (m : ℕ). i < m) (sym (cap_yes n (length l) t)) h)
    (λ (t : ltb n (length l) ≡ false). subst (λ (m : ℕ). i < m) (sym (cap_no n (length l) t)) k))
    (omega (arith, capped_most n (length l)))

-- ---- what calls make
-- Of a call over bytes: the cursor's bytes after it are read as the cursor of the outcome, and the log's up to it as the records up to it.
pub record ReadsBack (c : Cursor) (y : Called) (list log cursor : List ℕ) : Type 0 where
  pub cursor_is : cursor_in (left_of c y list log cursor).cursor ≡ y.outcome.cursor
  pub log_is : (i : ℕ) → i < y.outcome.cursor.used → get_or (log_in y.outcome.cursor (left_of c y list log cursor).log) i 0 ≡ get_or y.log i 0

log_length : (c : Cursor) (log : List ℕ) → length (log_in c log) ≡ used_entries (length log / 8)
unfolding log_in records_in
log_length c log = room_length (length log / 8) (records_in c log) (filled_length 0 _ (replicate 4352 0) _ ∙ length-replicate {A = ℕ} 4352 0)

room_few : (n : ℕ) → used_entries n ≤ 4352
room_few n = omega (arith, room_is n, capped_most n 4352)

-- 7, "cursor past the log", does not apply
cursor_within : (ws : List ℕ) (ends : List (List ℕ)) (noted log : List ℕ) (c : Cursor) → state_bad ws ends noted log c ≡ false → c.used ≤ length log
unfolding state_bad log_bad
cursor_within ws ends noted log c e =
    let p = (or_none (counts_bad ws) (log_short ws (length log) || log_bad ws noted log c) e).1 in
    let q = (or_none (log_short ws (length log)) (log_bad ws noted log c) p).1 in
    ltb-false (length log) c.used (or_none (ltb (length log) c.used) _ q).0

propagate_within : (ws : List ℕ) (ends : List (List ℕ)) (noted t : List ℕ) (n : ℕ) (log : List ℕ) (c : Cursor) (lit : ℤ) → propagate_refusal ws ends noted t n log c lit ≡ 0 → c.used ≤ length log
unfolding propagate_refusal table_state_bad
propagate_within ws ends noted t n log c lit e = cursor_within ws ends noted log c (or_none (state_bad ws ends noted log c) _ (pick_zero (table_state_bad ws ends noted t n log c) 7 _ (omega arith) e).0).0

initialize_within : (ws : List ℕ) (ends : List (List ℕ)) (noted t : List ℕ) (n : ℕ) (log : List ℕ) (c : Cursor) (b : Bool) → initialize_refusal ws ends noted t n log c b ≡ 0 → c.used ≤ length log
unfolding initialize_refusal table_state_bad
initialize_within ws ends noted t n log c b e = cursor_within ws ends noted log c (or_none (state_bad ws ends noted log c) _ (pick_zero (table_state_bad ws ends noted t n log c) 7 _ (omega arith) e).0).0

undo_within : (ws : List ℕ) (ends : List (List ℕ)) (noted log : List ℕ) (c : Cursor) (lit : ℤ) → undo_refusal ws ends noted log c lit ≡ 0 → c.used ≤ length log
unfolding undo_refusal
undo_within ws ends noted log c lit e = cursor_within ws ends noted log c (pick_zero (state_bad ws ends noted log c) 7 _ (omega arith) e).0

module _ (state t list log cursor : List ℕ) (lit pending : ℤ) (hs : Bytes state) (hl : Bytes log) (hc : Bytes cursor) (long : 8 ≤ length cursor) where
  abbrev c : Cursor
  c = cursor_in cursor

  abbrev s : GraphDivision
  s = state_in state

  abbrev records : List ℕ
  records = log_in c log

  few : length records ≤ 4352
  few = omega (arith, log_length c log, room_few (length log / 8))

  start : Kept c records records c
  unfolding cursor_in
  start = record {
    long = refl;
    old = λ i k. refl;
    further = omega arith;
    used = word_fits cursor 0 hc;
    standing = word_fits cursor 4 hc;
    room = λ k. k;
    words = log_under c log hl;
  }

  -- the literal is noted
  noted_kept : (l : ℕ) → l < 65536 → Kept c records (noted_in s c l records).log (noted_in s c l records).cursor
  unfolding noted_in state_in
  noted_kept l h = (note_kept c records few (plan_in state) (plan_under state hs) l h (noting (words_in state 61220 384) records c) (start, words_under state 61220 384 hs)).0

  kept_back : (d : Cursor) (after : List ℕ) → c.used ≤ length records → Kept c records after d →
      (cursor_in (put_cursor d cursor) ≡ d) × ((i : ℕ) → i < d.used → get_or (log_in d (put_log after c.used d.used log)) i 0 ≡ get_or after i 0)
  kept_back d after r k = (
    cursor_back d cursor k.used k.standing long,
    log_back c d after log k.words (k.long ∙ log_length c log) k.old (omega (arith, k.room r, k.long)),
  )

  refused_back : (n : ℕ) (t' l : List ℕ) → ReadsBack c (called (refuse n s c) t' l records) list log cursor
  unfolding refuse left_of left_by pick
  refused_back n t' l = record { cursor_is = refl; log_is = λ i k. refl }

  module _ (l : ℕ) (small : l < 65536) (r : c.used ≤ length records) where
    noted_back : (t' list' : List ℕ) → ReadsBack c (adding s c l t' list' records) list log cursor
    unfolding adding left_of left_by pick
    noted_back t' list' = let k = kept_back (noted_in s c l records).cursor (noted_in s c l records).log r (noted_kept l small) in record { cursor_is = k.0; log_is = k.1 }

    settled_by_back : (j : Judged) (x : Judgement) (t' list' : List ℕ) → ReadsBack c (settled_by s c l j x t' list' records) list log cursor
    unfolding settled_by handing_on accepting left_of left_by pick
    settled_by_back j Fine t' list' = let k = kept_back (noted_in s c l records).cursor (noted_in s c l records).log r (noted_kept l small) in record { cursor_is = k.0; log_is = k.1 }
    settled_by_back j (Clash n) t' list' = let k = kept_back (noted_in s c l records).cursor (noted_in s c l records).log r (noted_kept l small) in record { cursor_is = k.0; log_is = k.1 }
    settled_by_back j (Stopped n) t' list' = refused_back n t' list'

    settled_back : (t' list' : List ℕ) → ReadsBack c (settled s c l t' list' records) list log cursor
    unfolding settled
    settled_back t' list' = settled_by_back _ _ t' list'

  -- `on_bytes::propagate`, accepted or refused
  pub propagate_reads_back : ReadsBack c (propagated_in state t list log cursor lit pending) list log cursor
  unfolding propagated_in propagated propagate_refusal
  propagate_reads_back = pick_ind (λ (y : Called). ReadsBack c y list log cursor) (eqb (propagate_refusal s.plan s.edges.ends s.noted t (length (list_in list)) records c lit) 0) _ _
      (λ (e : eqb (propagate_refusal s.plan s.edges.ends s.noted t (length (list_in list)) records c lit) 0 ≡ true).
      let r : c.used ≤ length records = propagate_within s.plan s.edges.ends s.noted t (length (list_in list)) records c lit (eqb-true _ 0 e) in
      pick_ind (λ (y : Called). ReadsBack c y list log cursor) (in_range (pos 0) pending) _ _
      (λ _. settled_back (lit_number lit) (number_under lit) r t (list_in list))
      (λ _. noted_back (lit_number lit) (number_under lit) r t (list_in list)))
      (λ _. refused_back _ t (list_in list))

-- `on_bytes::initialize`, accepted or refused
module _ (state t list log cursor : List ℕ) (hs : Bytes state) (hl : Bytes log) (hc : Bytes cursor) (long : 8 ≤ length cursor) where
  abbrev c₁ : Cursor
  c₁ = cursor_in cursor

  abbrev s₁ : GraphDivision
  s₁ = state_in state

  abbrev r₁ : List ℕ
  r₁ = log_in c₁ log

  lit_under : (ws : List ℕ) (p : ℕ) → lit_at ws p < 65536
  unfolding lit_at
  lit_under ws p = omega arith

  -- the literals that are true in the table are noted, one after the other
  abbrev Going : Noting → Type 0
  Going x = Kept c₁ r₁ x.log x.cursor × Under 4294967296 x.noted

  up_to_kept : (past : ℕ) → Going (noted_up_to s₁.plan t past (noting s₁.noted r₁ c₁))
  unfolding noted_up_to noted_at state_in
  up_to_kept past = iter_ind (λ i x. Going x) (noted_at s₁.plan t) (noting s₁.noted r₁ c₁) past
      (start state t list log cursor (pos 0) (pos 0) hs hl hc long, words_under state 61220 384 hs)
      (λ p x l u. pick_ind Going _ _ _ (λ _. note_kept c₁ r₁ (few state t list log cursor (pos 0) (pos 0) hs hl hc long) (plan_in state) (plan_under state hs) (lit_at (plan_in state) p) (lit_under (plan_in state) p) x u) (λ _. u))

  ended_back : c₁.used ≤ length r₁ → (words left : List ℕ) (x : Progress) (y : Judgement) (back after handed : List ℕ) → ReadsBack c₁ (ended_by s₁ c₁ t r₁ words left x y back after handed (list_in list)) list log cursor
  unfolding ended_by taking taken_over left_of left_by pick
  ended_back r words left x Fine back after handed = let k = kept_back state t list log cursor (pos 0) (pos 0) hs hl hc long _ _ r (up_to_kept x.past).0 in record { cursor_is = k.0; log_is = k.1 }
  ended_back r words left x (Clash n) back after handed = let k = kept_back state t list log cursor (pos 0) (pos 0) hs hl hc long _ _ r (up_to_kept x.past).0 in record { cursor_is = k.0; log_is = k.1 }
  ended_back r words left x (Stopped n) back after handed = refused_back state t list log cursor (pos 0) (pos 0) hs hl hc long n back (list_in list)

  pub initialize_reads_back : ReadsBack c₁ (initialized_in state t list log cursor) list log cursor
  unfolding initialized_in initialized begun
  initialize_reads_back = pick_ind (λ (y : Called). ReadsBack c₁ y list log cursor) (eqb (initialize_refusal s₁.plan s₁.edges.ends s₁.noted t (length (list_in list)) r₁ c₁ s₁.initialized) 0) _ _
      (λ (e : eqb (initialize_refusal s₁.plan s₁.edges.ends s₁.noted t (length (list_in list)) r₁ c₁ s₁.initialized) 0 ≡ true).
      ended_back (initialize_within s₁.plan s₁.edges.ends s₁.noted t (length (list_in list)) r₁ c₁ s₁.initialized (eqb-true _ 0 e)) _ _ _ _ t _ _)
      (λ _. refused_back state t list log cursor (pos 0) (pos 0) hs hl hc long _ t (list_in list))

-- the literals that are handed on are those of the plan
module _ (ws : List ℕ) (ends : List (List ℕ)) (k : ProperWords ws ends) where
  unique_under : (p : ℕ) → p < 2 * variables_of ws → unique_lit_at ws p < 65536
  unique_under p h = omega (arith, (k.listed (p / 2) (omega arith)).range)

  -- and the list is as long as it was
  abbrev Lits : ℕ → List ℕ → Type 0
  Lits n l = Under 65536 l × (length l ≡ n)

  at_under : (n : ℕ) (words : List ℕ) (p : ℕ) (x : Handed) → p < 2 * variables_of ws → Lits n x.out.text → Lits n (handed_at ws words p x).out.text
  unfolding handed_at handed pushed
  at_under n words p x l v =
      let small = unique_under p l in
      pick_ind (λ (y : Handed). Lits n y.out.text) _ _ _
      (λ _. pick_ind (λ (y : Handed). Lits n y.out.text) _ _ _
      (λ _. pick_ind (λ (o : Out). Lits n o.text) _ _ _
      (λ _. (set_under 65536 x.out.text x.out.place (unique_lit_at ws p % 4294967296) v.0 (omega arith), length-set x.out.text x.out.place (unique_lit_at ws p % 4294967296) ∙ v.1)) (λ _. v))
      (λ _. v))
      (λ _. v)

  handed_under : (n : ℕ) (words : List ℕ) (h : Handed) → Lits n h.out.text → Lits n (handed_on ws words h).out.text
  unfolding handed_on
  handed_under n words h u = iter_ind (λ i (x : Handed). Lits n x.out.text) (handed_at ws words) h (2 * variables_of ws) u (λ p x l v. at_under n words p x l v)

-- `on_bytes::propagate`, where the plan passes its own test: the literals handed on are read back from the list's bytes
module _ (state t list log cursor : List ℕ) (lit pending : ℤ) (passes : plan_bad (state_in state).plan (state_in state).edges.ends ≡ false) where
  abbrev Handing : Called → Type 0
  Handing y = Under 65536 y.list × (length y.list ≡ length (list_in list))

  blank_under : Under 65536 (list_in list) × (length (list_in list) ≡ length (list_in list))
  unfolding list_in
  blank_under = (take_under 65536 (used_entries (length list / 2)) (replicate 4352 0) (omega arith) (none_under 65536 4352 (omega arith)), refl)

  settled_under : (ends : List (List ℕ)) (s : GraphDivision) (c : Cursor) → ProperWords s.plan ends → (l : ℕ) (j : Judged) (x : Judgement) (records : List ℕ) → Handing (settled_by s c l j x t (list_in list) records)
  unfolding settled_by handing_on accepting
  settled_under ends s c k l j Fine records = handed_under s.plan ends k (length (list_in list)) j.proposals (handing t (list_in list) 0) blank_under
  settled_under ends s c k l j (Clash n) records = blank_under
  settled_under ends s c k l j (Stopped n) records = blank_under

  given_under : Handing (propagated_in state t list log cursor lit pending)
  unfolding propagated_in propagated settled adding
  given_under =
      let s = state_in state in
      let c = cursor_in cursor in
      pick_ind Handing (eqb (propagate_refusal s.plan s.edges.ends s.noted t (length (list_in list)) (log_in c log) c lit) 0) _ _
      (λ _.
      pick_ind Handing (in_range (pos 0) pending) _ _
      (λ _. settled_under s.edges.ends s c (proper s.plan s.edges.ends passes) (lit_number lit) _ _ (log_in c log))
      (λ _. blank_under))
      (λ _. blank_under)

  pub handed_reads_back : (n i : ℕ) → i < n → i < length (propagated_in state t list log cursor lit pending).list →
      half_at (put_list (propagated_in state t list log cursor lit pending).list n list) i ≡ get_or (propagated_in state t list log cursor lit pending).list i 0
  handed_reads_back n i h k = list_back (propagated_in state t list log cursor lit pending).list list n given_under.0 (omega (arith, given_under.1, list_room list)) i h k

-- `on_bytes::undo`: the log's bytes stay, and are read up to the cursor after it as they were before
module _ (state log cursor : List ℕ) (lit : ℤ) (hc : Bytes cursor) (long : 8 ≤ length cursor) where
  abbrev UndoBack : Outcome → Type 0
  UndoBack y = (cursor_in (back_by y cursor).cursor ≡ y.cursor) × ((i : ℕ) → i < y.cursor.used → get_or (log_in y.cursor log) i 0 ≡ get_or (log_in (cursor_in cursor) log) i 0)

  shorter : (d : Cursor) → d.used ≤ word_at cursor 0 → word_at cursor 0 ≤ length (log_in (cursor_in cursor) log) → (i : ℕ) → i < d.used → get_or (log_in d log) i 0 ≡ get_or (log_in (cursor_in cursor) log) i 0
  unfolding cursor_in
  shorter d h r i k =
      let l : i < used_entries (length log / 8) = omega (arith, log_length (cursor_in cursor) log) in
      record_in d log i k l ∙ sym (record_in (cursor_in cursor) log i (omega arith) l)

  undone_back : word_at cursor 0 ≤ length (log_in (cursor_in cursor) log) → (noted : List ℕ) →
      UndoBack (outcome (with_noted (undo (noting noted (log_in (cursor_in cursor) log) (cursor_in cursor))).noted (state_in state)) (undo (noting noted (log_in (cursor_in cursor) log) (cursor_in cursor))).cursor answer.Undone)
  unfolding back_by back_of pick undo cursor_in
  undone_back r noted =
      let n : ℕ = word_at cursor 0 in
      let d : Cursor = record { used = kept (records_of (log_in (cursor_in cursor) log) n); standing = word_at cursor 4 - 1 } in
      let u : d.used ≤ n = undo_less (log_in (cursor_in cursor) log) n in
      (cursor_back d cursor (omega (arith, word_fits cursor 0 hc)) (omega (arith, word_fits cursor 4 hc)) long, shorter d u r)

  refused_same : (n : ℕ) → UndoBack (refuse n (state_in state) (cursor_in cursor))
  unfolding back_by back_of pick refuse
  refused_same n = (refl, λ i k. refl)

  pub undo_reads_back : UndoBack (undone_in state log cursor lit)
  unfolding undone_in undone refuse cursor_in
  undo_reads_back = pick_ind UndoBack (eqb (undo_refusal (state_in state).plan (state_in state).edges.ends (state_in state).noted (log_in (cursor_in cursor) log) (cursor_in cursor) lit) 0) _ _
      (λ (e : eqb (undo_refusal (state_in state).plan (state_in state).edges.ends (state_in state).noted (log_in (cursor_in cursor) log) (cursor_in cursor) lit) 0 ≡ true).
      undone_back (undo_within (state_in state).plan (state_in state).edges.ends (state_in state).noted (log_in (cursor_in cursor) log) (cursor_in cursor) lit (eqb-true _ 0 e)) (state_in state).noted)
      (λ _. refused_same _)
