-- The words that are loaded, and the records that are pushed, read as words of the whole log; where the cursor is after pushes and pops.
use mathlib.Core.Path.{◌≡◌, refl, sym, ap, ap₂, ◌∙◌}
use mathlib.Core.Logic.{⊎_elim}
use mathlib.Core.Bool.{Bool, true, ◌&&◌}
use mathlib.Core.List.{List, map}
use Prim.Native.Nat.{ℕ, zero, suc, ◌+◌, ◌-◌, ◌<◌, ◌≤◌, ◌^◌}
use native.Mathlib.Omega.{arith}
use native.Mathlib.Nat.{not-suc-le-zero, eq-or-lt_of_le}
use lib.ListN.{length, get_or, set, length-set}
use lib.Seq.{get_or-set_same, get_or-set_other}
use borrow.Author.Tests.{lt-ltb, le-leb}
use Rattle.base.specs.Iter.{iter}
use Rattle.base.specs.Lists.{filled}
use Rattle.base.proofs.Loop.{pick_yes}
use Rattle.undo_log.specs.declared.Record.{Record}
use Rattle.undo_log.specs.declared.Cursor.{Cursor}
use Rattle.undo_log.specs.Log.{word_of, record_of, moved_to}
use Rattle.undo_log.proofs.Words.{record_back}
use Rattle.lent_log.specs.Records.{no_record, least, loaded, Pushing, pushing, push_record, Popping, has_newest, pop_record}
use Rattle.lent_log.specs.Records.{Lent, lent, pushed_on, pushed_run, popped_to}
use Rattle.lent_log.proofs.Bounds.{least_first}
use Rattle.lent_log.proofs.Words.{word_at, map_set}

-- each word fits its type
abbrev pub AllFit : List ℕ → Type 0
AllFit words = (i : ℕ) → get_or words i 0 < 2 ^ 64

-- a log of `len` records has room from the cursor on up to place e
abbrev pub Within : Cursor → ℕ → ℕ → Type 0
Within c len e = (c.used ≤ e) × (e - c.used ≤ len - c.used)

-- a push where there is room, a pop where there is a record
push_there : (log : List Record) (c : Cursor) (r : Record) → c.used < length log → push_record log c r ≡ pushing true (set log c.used r) (moved_to c (c.used + 1))
unfolding push_record
push_there log c r h = pick_yes _ _ (lt-ltb c.used (length log) h)

pop_there : (log : List Record) (c : Cursor) → 0 < c.used → c.used ≤ length log → (pop_record log c).cursor ≡ moved_to c (c.used - 1)
unfolding pop_record has_newest
pop_there log c h k = ap (λ (x : Popping). x.cursor) (pick_yes _ _ (ap₂ (λ (a b : Bool). a && b) (lt-ltb 0 c.used h) (le-leb c.used (length log) k)))

-- words stored from the start on
module _ (f : ℕ → ℕ) (l : List ℕ) where
  abbrev stored : ℕ → List ℕ
  stored n = iter (λ i ws. set ws i (f i)) n l

  stored_length : (n : ℕ) → length (stored n) ≡ length l
  unfolding iter
  stored_length zero = refl
  stored_length (suc n) = length-set (stored n) n (f n) ∙ stored_length n

  stored_in : (n i : ℕ) → i < n → n ≤ length l → get_or (stored n) i 0 ≡ f i
  unfolding iter
  stored_in zero i h r = absurd (not-suc-le-zero h)
  stored_in (suc n) i h r = ⊎_elim
      (λ (e : i ≡ n). ap (λ (j : ℕ). get_or (set (stored n) n (f n)) j 0) e ∙ get_or-set_same (stored n) n (f n) 0 (omega (arith, stored_length n)) ∙ ap f (sym e))
      (λ (k : i < n). get_or-set_other (stored n) n i (f n) 0 (λ (e : i ≡ n). omega arith) ∙ stored_in n i k (omega arith))
      (eq-or-lt_of_le {n = i} {m = n} (omega arith))

module _ (log : List Record) (n : ℕ) (blank : List ℕ) where
  pub loaded_length : length (loaded log n blank) ≡ length blank
  unfolding loaded
  loaded_length = stored_length (λ i. word_of (get_or log i no_record)) blank (least n (length log) (length blank))

  pub loaded_in : n ≤ length log → n ≤ length blank → (i : ℕ) → i < n → get_or (loaded log n blank) i 0 ≡ get_or (map word_of log) i 0
  unfolding loaded
  loaded_in h k i l =
      ap (λ (m : ℕ). get_or (stored (λ j. word_of (get_or log j no_record)) blank m) i 0) (least_first n (length log) (length blank) h k)
      ∙ stored_in (λ j. word_of (get_or log j no_record)) blank n i l k
      ∙ sym (word_at log i)

-- records pushed on the log, one by one, where there is room for them
module _ (words : List ℕ) (c : Cursor) (log : List Record) where
  abbrev word : ℕ → ℕ
  word i = get_or words (c.used + i) 0

  abbrev pushes : ℕ → Lent
  pushes n = iter (λ i y. pushed_on (record_of (word i)) y) n (lent log c)

  record Ran (n : ℕ) : Type 0 where
    moved : (pushes n).cursor ≡ moved_to c (c.used + n)
    long : length (pushes n).log ≡ length log
    there : AllFit words → map word_of (pushes n).log ≡ filled c.used n word (map word_of log)

  ran : (n : ℕ) → n ≤ length log - c.used → Ran n
  unfolding iter filled
  ran zero h = let z : c.used ≡ c.used + 0 = omega arith in record { moved = ap (moved_to c) z; long = refl; there = λ _. refl }
  ran (suc n) h =
      let b = ran n (omega arith) in
      let r = record_of (word n) in
      let at : (pushes n).cursor.used ≡ c.used + n = ap (λ (d : Cursor). d.used) b.moved in
      let e = push_there (pushes n).log (pushes n).cursor r (omega (arith, at, b.long)) in
      let on : c.used + n + 1 ≡ c.used + suc n = omega arith in
      record {
        moved = ap (λ (x : Pushing). x.cursor) e ∙ ap (λ (d : Cursor). moved_to d (d.used + 1)) b.moved ∙ ap (moved_to c) on;
        long = ap (λ (x : Pushing). length x.log) e ∙ length-set (pushes n).log (pushes n).cursor.used r ∙ b.long;
        there = λ fits.
            ap (λ (x : Pushing). map word_of x.log) e
            ∙ map_set (pushes n).log (pushes n).cursor.used r
            ∙ ap₂ (λ (l : List ℕ) (i : ℕ). set l i (word_of r)) (b.there fits) at
            ∙ ap (set (filled c.used n word (map word_of log)) (c.used + n)) (record_back (word n) (fits (c.used + n)));
      }

  -- up to place e
  module _ (e : ℕ) (h : Within c (length log) e) where
    pub pushed_there : AllFit words → map word_of (pushed_run words e (lent log c)).log ≡ filled c.used (e - c.used) word (map word_of log)
    unfolding pushed_run
    pushed_there = (ran (e - c.used) h.1).there

    pub pushed_moved : (pushed_run words e (lent log c)).cursor ≡ moved_to c e
    unfolding pushed_run
    pushed_moved = let z : c.used + (e - c.used) ≡ e = omega (arith, h.0) in (ran (e - c.used) h.1).moved ∙ ap (moved_to c) z

-- nothing is pushed where the cursor did not move
pub pushed_none : (words : List ℕ) (c : Cursor) (log : List Record) → pushed_run words c.used (lent log c) ≡ lent log c
unfolding pushed_run iter
pushed_none words c log = let none : c.used - c.used ≡ 0 = omega arith in ap (pushes words c log) none

-- records popped off the log, one by one, as many as n
module _ (log : List Record) (c : Cursor) where
  abbrev pops : ℕ → Cursor
  pops n = iter (λ _ d. (pop_record log d).cursor) n c

  pops_moved : (n : ℕ) → n ≤ c.used → c.used ≤ length log → pops n ≡ moved_to c (c.used - n)
  unfolding iter
  pops_moved zero h k = let z : c.used ≡ c.used - 0 = omega arith in ap (moved_to c) z
  pops_moved (suc n) h k =
      let b = pops_moved n (omega arith) k in
      let at : (pops n).used ≡ c.used - n = ap (λ (d : Cursor). d.used) b in
      let on : c.used - n - 1 ≡ c.used - suc n = omega arith in
      pop_there log (pops n) (omega (arith, at)) (omega (arith, at)) ∙ ap (λ (d : Cursor). moved_to d (d.used - 1)) b ∙ ap (moved_to c) on

  -- down to place e
  pub popped_moved : (e : ℕ) → e ≤ c.used → c.used ≤ length log → popped_to log e c ≡ moved_to c e
  unfolding popped_to
  popped_moved e h k = let z : c.used - (c.used - e) ≡ e = omega arith in pops_moved (c.used - e) (omega arith) k ∙ ap (moved_to c) z

  pub popped_none : popped_to log c.used c ≡ c
  unfolding popped_to iter
  popped_none = let none : c.used - c.used ≡ 0 = omega arith in ap pops none
