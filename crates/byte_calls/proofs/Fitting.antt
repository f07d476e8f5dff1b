-- What a call makes of bytes fits its bytes again: words of 32 bits, records of 64, and a cursor of two words of 32.
use Prim.Native.Nat.{ℕ, zero, suc, ◌+◌, ◌-◌, ◌*◌, ◌/◌, ◌%◌, ◌≤◌, ◌<◌}
use native.Mathlib.Omega.{arith}
use mathlib.Core.Path.{◌≡◌, refl, sym, ap, subst, ◌∙◌}
use mathlib.Core.Bool.{Bool, true, false}
use mathlib.Core.List.{List, [], ◌∷◌}
use lib.Dec.{eqb, ltb}
use lib.IntN.{ℤ, pos}
use lib.ListN.{length, get_or, set, take, replicate, length-set}
use lib.Seq.{get_or-set_other}
use borrow.Author.Tests.{ltb-true}
use Rattle.base.specs.Iter.{pick}
use Rattle.base.specs.Lists.{filled}
use Rattle.base.specs.Range.{in_range}
use Rattle.base.proofs.Loop.{iter_ind, pick_ind, pick_yes, pick_no, tested}
use Rattle.base.proofs.Range.{in_range_nat}
use Rattle.undo_log.specs.declared.Record.{Record}
use Rattle.undo_log.specs.declared.Cursor.{Cursor}
use Rattle.undo_log.specs.Log.{word_of, push_words, has_room, moved_to}
use Rattle.plan.specs.Words.{cell, occurrence_at, start_at}
use Rattle.noting.specs.declared.note.Effect.{Effect}
use Rattle.noting.specs.Words.{capped, bound_at, lower_of, upper_of, lower_lit_of, upper_lit_of}
use Rattle.noting.specs.Note.{Noting, size_effect, edge_effect, effect_of, undo_record, bound_set, edge_set, applied, pushed_to, note_slot, boundary, one_more, level_pushed, note_at, note}
use Rattle.noting.specs.Undo.{records_of, kept}
use Rattle.refusals.specs.Refusals.{lit_number}
use Rattle.base.specs.Bytes.{word_at, long_at}
use Rattle.byte_calls.specs.Layout.{plan_in, used_entries, records_in, log_in}
use Rattle.base.specs.Bytes.{words_in}
use Rattle.byte_calls.proofs.LastList.{Bytes, word_fits}

-- kind and index of a byte each, a literal of two and a bound of four
packed : (k i l b : ℕ) → k < 256 → i < 256 → l < 65536 → b < 4294967296 → k + 256 * i + 65536 * l + 4294967296 * b < 18446744073709551616
packed k i l b hk hi hl hb = omega arith

-- every entry is less than k
abbrev pub Under : ℕ → List ℕ → Type 0
Under k l = (i : ℕ) → get_or l i 0 < k

module _ (k : ℕ) where
  pub set_under : (l : List ℕ) (p v : ℕ) → Under k l → v < k → Under k (set l p v)
  set_under [] p v h q i = h i
  set_under (x ∷ l) zero v h q zero = q
  set_under (x ∷ l) zero v h q (suc i) = h (suc i)
  set_under (x ∷ l) (suc p) v h q zero = h 0
  set_under (x ∷ l) (suc p) v h q (suc i) = set_under l p v (λ j. h (suc j)) q i

  pub none_under : (n : ℕ) → 0 < k → Under k (replicate n 0)
  none_under zero h i = h
  none_under (suc n) h zero = h
  none_under (suc n) h (suc i) = none_under n h i

  pub take_under : (n : ℕ) (l : List ℕ) → 0 < k → Under k l → Under k (take n l)
  take_under zero l z h i = z
  take_under (suc n) [] z h i = z
  take_under (suc n) (x ∷ l) z h zero = h 0
  take_under (suc n) (x ∷ l) z h (suc i) = take_under n l z (λ j. h (suc j)) i

  filled_under : (a n : ℕ) (f : ℕ → ℕ) (l : List ℕ) → ((i : ℕ) → f i < k) → Under k l → Under k (filled a n f l)
  unfolding filled
  filled_under a n f l g h = iter_ind (λ i x. Under k x) (λ i x. set x (a + i) (f i)) l n h (λ i x r u. set_under x (a + i) (f i) u (g i))

-- ---- what bytes are decoded to
pub words_under : (b : List ℕ) (a n : ℕ) → Bytes b → Under 4294967296 (words_in b a n)
unfolding words_in
words_under b a n h = filled_under 4294967296 0 n (λ i. word_at b (a + 4 * i)) (replicate n 0) (λ i. word_fits b (a + 4 * i) h) (none_under 4294967296 n (omega arith))

pub plan_under : (b : List ℕ) → Bytes b → Under 4294967296 (plan_in b)
unfolding plan_in
plan_under b h = words_under b 0 15241 h

long_fits : (b : List ℕ) (a : ℕ) → Bytes b → long_at b a < 18446744073709551616
unfolding long_at
long_fits b a h = omega (arith, word_fits b a h, word_fits b (a + 4) h)

pub log_under : (c : Cursor) (log : List ℕ) → Bytes log → Under 18446744073709551616 (log_in c log)
unfolding log_in records_in
log_under c log h = take_under 18446744073709551616 (used_entries (length log / 8)) (records_in c log) (omega arith)
    (filled_under 18446744073709551616 0 (capped c.used (used_entries (length log / 8))) (λ i. long_at log (8 * i)) (replicate 4352 0) (λ i. long_fits log (8 * i) h) (none_under 18446744073709551616 4352 (omega arith)))

-- ---- a notification
record Effected (e : Effect) : Type 0 where
  kind : e.kind < 256
  index : e.index < 256
  value : e.value < 4294967296

module _ (ws noted : List ℕ) (hw : Under 4294967296 ws) (hn : Under 4294967296 noted) where
  cell_under : (from v j : ℕ) → cell from ws v j < 4294967296
  unfolding cell
  cell_under from v j = pick_ind (λ (x : ℕ). x < 4294967296) _ _ _ (λ _. pick_ind (λ (x : ℕ). x < 4294967296) _ _ _ (λ _. hw _) (λ _. omega arith)) (λ _. omega arith)

  bound_under : (from v : ℕ) → bound_at from 0 noted v < 4294967296
  unfolding bound_at
  bound_under from v = pick_ind (λ (x : ℕ). x < 4294967296) _ _ _ (λ _. hn _) (λ _. omega arith)

  none_effected : Effected (record { kind = 0; index = 0; value = 0 })
  none_effected = record { kind = omega arith; index = omega arith; value = omega arith }

  size_effected : (holds : Bool) (v j : ℕ) → v < 256 → Effected (size_effect ws noted holds v j)
  unfolding size_effect
  size_effected holds v j h = pick_ind Effected _ _ _
      (λ _. pick_ind Effected _ _ _ (λ _. record { kind = omega arith; index = h; value = cell_under 136 v (j + 1) }) (λ _. none_effected))
      (λ _. pick_ind Effected _ _ _ (λ _. record { kind = omega arith; index = h; value = cell_under 136 v j }) (λ _. none_effected))

  edge_effected : (holds : Bool) (g : ℕ) → g < 256 → Effected (edge_effect holds g)
  unfolding edge_effect
  edge_effected holds g h = record { kind = omega arith; index = h; value = pick_ind (λ (x : ℕ). x < 4294967296) _ _ _ (λ _. omega arith) (λ _. omega arith) }

  effected : (l s : ℕ) → Effected (effect_of ws noted l s)
  unfolding effect_of
  effected l s = pick_ind Effected (ltb s 2048) _ _
      (λ (t : ltb s 2048 ≡ true). let h : s / 32 < 256 = omega (arith, ltb-true s 2048 t) in size_effected _ (s / 32) (s % 32) h)
      (λ _. pick_ind Effected (ltb s 2176) _ _ (λ (t : ltb s 2176 ≡ true). let h : s - 2048 < 256 = omega (arith, ltb-true s 2176 t) in edge_effected _ (s - 2048) h) (λ _. none_effected))

  record_under : (e : Effect) → Effected e → word_of (undo_record noted e) < 18446744073709551616
  unfolding word_of undo_record
  record_under e h =
      let b : pick (eqb e.kind 2) (lower_of noted e.index) (pick (eqb e.kind 3) (upper_of noted e.index) 0) < 4294967296 =
      pick_ind (λ (x : ℕ). x < 4294967296) _ _ _ (λ _. bound_under 128 e.index) (λ _. pick_ind (λ (x : ℕ). x < 4294967296) _ _ _ (λ _. bound_under 192 e.index) (λ _. omega arith)) in
      let l : pick (eqb e.kind 2) (lower_lit_of noted e.index % 65536) (pick (eqb e.kind 3) (upper_lit_of noted e.index % 65536) 65535) < 65536 =
      pick_ind (λ (x : ℕ). x < 65536) _ _ _ (λ _. omega arith) (λ _. pick_ind (λ (x : ℕ). x < 65536) _ _ _ (λ _. omega arith) (λ _. omega arith)) in
      packed e.kind e.index _ _ h.kind h.index l b

  bound_set_under : (from v x l : ℕ) → x < 4294967296 → l < 4294967296 → Under 4294967296 (bound_set from v x l noted)
  unfolding bound_set
  bound_set_under from v x l h k = pick_ind (Under 4294967296) _ _ _
      (λ _. set_under 4294967296 (set noted (from + v) x) (from + 128 + v) l (set_under 4294967296 noted (from + v) x hn h) k) (λ _. hn)

  applied_under : (e : Effect) (l : ℕ) → Effected e → l < 4294967296 → Under 4294967296 (applied e l noted)
  unfolding applied edge_set
  applied_under e l h k = pick_ind (Under 4294967296) _ _ _
      (λ _. pick_ind (Under 4294967296) _ _ _ (λ _. set_under 4294967296 noted e.index e.value hn h.value) (λ _. hn))
      (λ _. pick_ind (Under 4294967296) _ _ _ (λ _. bound_set_under 128 e.index e.value l h.value k)
      (λ _. pick_ind (Under 4294967296) _ _ _ (λ _. bound_set_under 192 e.index e.value l h.value k) (λ _. hn)))

-- of a log and a cursor, beside those before: what was used stays, and all fits
pub record Kept (c₀ : Cursor) (log₀ : List ℕ) (log : List ℕ) (c : Cursor) : Type 0 where
  pub long : length log ≡ length log₀
  pub old : (i : ℕ) → i < c₀.used → get_or log i 0 ≡ get_or log₀ i 0
  pub further : c₀.used ≤ c.used
  pub used : c.used < 4294967296
  pub standing : c.standing < 4294967296
  pub room : c₀.used ≤ length log₀ → c.used ≤ length log₀
  pub words : Under 18446744073709551616 log

module _ (c₀ : Cursor) (log₀ : List ℕ) (few : length log₀ ≤ 4352) where
  push_kept : (log : List ℕ) (c : Cursor) (r : Record) → word_of r < 18446744073709551616 → Kept c₀ log₀ log c → Kept c₀ log₀ (push_words log c r) (pushed_to log c)
  unfolding push_words pushed_to
  push_kept log c r w h = tested (ltb c.used (length log))
      (λ (t : ltb c.used (length log) ≡ true).
      let l : c.used < length log = ltb-true c.used (length log) t in
      subst (λ (x : List ℕ). Kept c₀ log₀ x (pick (has_room log c) (moved_to c (c.used + 1)) c)) (sym (pick_yes (set log c.used (word_of r)) log t))
      (subst (λ (d : Cursor). Kept c₀ log₀ (set log c.used (word_of r)) d) (sym (pick_yes (moved_to c (c.used + 1)) c t)) (record {
        long = length-set log c.used (word_of r) ∙ h.long;
        old = λ i k. get_or-set_other log c.used i (word_of r) 0 (λ (e : i ≡ c.used). omega (arith, h.further)) ∙ h.old i k;
        further = omega (arith, h.further);
        used = omega (arith, h.long);
        standing = h.standing;
        room = λ k. omega (arith, h.long);
        words = set_under 18446744073709551616 log c.used (word_of r) h.words w;
      })))
      (λ (t : ltb c.used (length log) ≡ false).
      subst (λ (x : List ℕ). Kept c₀ log₀ x (pick (has_room log c) (moved_to c (c.used + 1)) c)) (sym (pick_no (set log c.used (word_of r)) log t))
      (subst (λ (d : Cursor). Kept c₀ log₀ log d) (sym (pick_no (moved_to c (c.used + 1)) c t)) h))

  more_kept : (log : List ℕ) (c : Cursor) (n : List ℕ) → length n ≡ length log₀ → Kept c₀ log₀ log c → Kept c₀ log₀ log (one_more n c)
  unfolding one_more
  more_kept log c n e h = record {
    long = h.long;
    old = h.old;
    further = h.further;
    used = h.used;
    standing = pick_ind (λ (x : ℕ). x < 4294967296) (ltb c.standing (length n)) _ _ (λ (t : ltb c.standing (length n) ≡ true). omega (arith, ltb-true c.standing (length n) t)) (λ _. h.standing);
    room = h.room;
    words = h.words;
  }

  module _ (ws : List ℕ) (hw : Under 4294967296 ws) (l : ℕ) (hl : l < 65536) where
    -- and of the noted words
    abbrev All : Noting → Type 0
    All x = Kept c₀ log₀ x.log x.cursor × Under 4294967296 x.noted

    slot_kept : (s : ℕ) (x : Noting) → All x → All (note_slot ws l s x)
    unfolding note_slot
    slot_kept s x (h, u) = pick_ind All _ _ _ (λ _. (h, u))
        (λ _. let e = effected ws x.noted hw u l s in (
          push_kept x.log x.cursor (undo_record x.noted (effect_of ws x.noted l s)) (record_under ws x.noted hw u (effect_of ws x.noted l s) e) h,
          applied_under ws x.noted hw u (effect_of ws x.noted l s) l e (omega arith),
        ))

    boundary_under : word_of (boundary l) < 18446744073709551616
    unfolding word_of
    boundary_under = omega arith

    level_kept : (x : Noting) → All x → All (level_pushed l x)
    unfolding level_pushed
    level_kept x (h, u) = (more_kept _ _ x.log h.long (push_kept x.log x.cursor (boundary l) boundary_under h), u)

    at_kept : (k : ℕ) (x : Noting) → All x → All (note_at ws l k x)
    unfolding note_at
    at_kept k x h = iter_ind (λ i y. All y) (λ i y. note_slot ws l (occurrence_at ws (start_at ws k + i)) y) x _ h (λ i y r u. slot_kept _ y u)

    pub note_kept : (x : Noting) → All x → All (note ws l x)
    unfolding note
    note_kept x h = pick_ind All _ _ _ (λ _. at_kept _ _ (level_kept x h)) (λ _. level_kept x h)

pub number_under : (lit : ℤ) → lit_number lit < 65536
unfolding lit_number
number_under lit = pick_ind (λ (x : ℕ). x < 65536) (in_range (pos 8191) lit) _ _ (λ (t : in_range (pos 8191) lit ≡ true). omega (arith, in_range_nat 8191 lit t)) (λ _. omega arith)

-- ---- an undo
records_length : (log : List ℕ) (n : ℕ) → length (records_of log n) ≡ n
unfolding records_of
records_length log zero = refl
records_length log (suc n) = ap suc (records_length log n)

kept_few : (rs : List Record) → kept rs ≤ length rs
unfolding kept
kept_few [] = omega arith
kept_few (r ∷ rs) = pick_ind (λ (x : ℕ). x ≤ suc (length rs)) _ _ _ (λ _. omega arith) (λ _. omega (arith, kept_few rs))

pub undo_less : (log : List ℕ) (n : ℕ) → kept (records_of log n) ≤ n
undo_less log n = omega (arith, kept_few (records_of log n), records_length log n)
