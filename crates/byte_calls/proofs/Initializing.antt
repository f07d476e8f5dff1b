-- An initialise over bytes is the one of the state that they stand for.
use Prim.Native.Nat.{ℕ, ◌≤◌, ◌<◌}
use native.Mathlib.Omega.{arith}
use mathlib.Core.Path.{◌≡◌, refl, sym, ap, ◌∙◌, subst}
use mathlib.Core.Bool.{true, false, not, true≢false}
use mathlib.Core.Logic.{inl, inr}
use mathlib.Core.List.{List, []}
use lib.Dec.{eqb}
use lib.IntN.{ℤ}
use lib.ListN.{length, replicate, length-replicate}
use Rattle.base.proofs.Filled.{filled_length}
use Rattle.base.proofs.Loop.{pick_yes, pick_no, tested}
use Rattle.undo_log.specs.declared.Cursor.{Cursor}
use Rattle.graph_division.specs.declared.GraphDivision.{GraphDivision}
use Rattle.graph_division.specs.declared.Answer.{Answer}
use Rattle.graph_division.specs.declared.Answer.TheVariants.{Consistent, Conflict, Noted, Undone, Reason, Run, Page, Refused}
use Rattle.graph_division.specs.Calls.{Called}
use Rattle.lent.specs.declared.Done.{Done}
use Rattle.lent.specs.Lent.{state_of, state_after, called_of, with_initialized, begun_after, begun_of}
use Rattle.base.specs.Bytes.{put_word}
use Rattle.graph_division.specs.Answers.{is_refused, is_consistent}
use Rattle.byte_calls.specs.Layout.{state_in, cursor_in}
use Rattle.base.specs.Bytes.{words_in}
use Rattle.byte_calls.specs.Stores.{BytesKept}
use Rattle.byte_calls.specs.Host.{Left, left_with, left_by, left_of, StateAfter, AfterOf, initialized_in, host_initialized, too_short, short}
use Rattle.base.proofs.Bytes.{agree_word, put_word_agrees, put_word_in}
use Rattle.byte_calls.proofs.Standing.{plan_same, ends_same, words_same, reasons_same}
use Rattle.byte_calls.proofs.Keeping.{kept_then}
use Rattle.byte_calls.proofs.Leaving.{leaves}

-- only the mark is written
pub mark_stored : (b : List ℕ) → 133440 ≤ length b → state_in (put_word 62760 1 b) ≡ with_initialized (state_in b)
unfolding state_in with_initialized
mark_stored b r = λ i. state_of
    (plan_same (put_word 62760 1 b) b (put_word_agrees 62760 1 b 0 60964 (inl (omega arith))) i)
    (ends_same (put_word 62760 1 b) b (put_word_agrees 62760 1 b 60964 61220 (inl (omega arith))) i)
    (words_same (put_word 62760 1 b) b 61220 384 (put_word_agrees 62760 1 b 61220 62756 (inl (omega arith))) i)
    (reasons_same (put_word 62760 1 b) b (put_word_agrees 62760 1 b 63808 133440 (inr (omega arith))) i)
    (words_same (put_word 62760 1 b) b 62764 260 (put_word_agrees 62760 1 b 62764 63804 (inr (omega arith))) i)
    (agree_word 62756 (put_word_agrees 62760 1 b 62756 62760 (inl (omega arith))) (omega arith) (omega arith) i)
    (not (eqb (put_word_in 62760 1 b (omega arith) (omega arith) i) 0))

pub words_fit : (m : ℕ) (b l : List ℕ) (a n : ℕ) → m ≡ length l → l ≡ words_in b a n → m ≡ n
unfolding words_in
words_fit m b l a n q e = q ∙ (ap length e ∙ (filled_length 0 _ (replicate n 0) n ∙ length-replicate {A = ℕ} n 0))

refused_open : (a : Answer) → is_refused a ≡ true → is_consistent a ≡ false
refused_open (Consistent handed) e = absurd (true≢false (sym e))
refused_open Conflict e = refl
refused_open Noted e = refl
refused_open Undone e = refl
refused_open (Reason len) e = refl
refused_open (Run len) e = refl
refused_open (Page len) e = refl
refused_open (Refused number) e = refl

-- an initialise on what is decoded, and what it leaves
module _ (s : GraphDivision) (c : Cursor) (noted words lefts : List ℕ) (d : Done) (t lits records : List ℕ) (y : Called) (e : begun_of s noted words lefts d t lits records ≡ y) where
  pub begun_leaves : (list log cursor list' log' cursor' : List ℕ) (r : ℤ) → left_with r [] list' log' cursor' ≡ left_by d.answer c d.cursor [] lits records list log cursor →
      left_with r t list' log' cursor' ≡ left_of c y list log cursor
  unfolding left_of called_of begun_of
  begun_leaves list log cursor list' log' cursor' r h =
      leaves s c noted words lefts d t lits records (called_of s noted words lefts d t lits records) refl list log cursor list' log' cursor' r h
      ∙ ap (λ (y : Called). left_of c y list log cursor) e

  -- b are the state's bytes before it, m with what it changed, b' with the mark
  module _ (b m b' : List ℕ) (q : s ≡ state_in b)
      (f : is_refused d.answer ≡ true → m ≡ b)
      (g : is_refused d.answer ≡ false → (state_after (state_in b) noted words lefts d).last_len < 4294967296 → state_in m ≡ state_after (state_in b) noted words lefts d)
      (j : is_consistent d.answer ≡ true → state_in b' ≡ with_initialized (state_in m))
      (k : is_consistent d.answer ≡ false → b' ≡ m)
      (l : BytesKept b m) (o : BytesKept m b') where
    changed : is_refused d.answer ≡ false → (state_after s noted words lefts d).last_len < 4294967296 → state_in m ≡ state_after s noted words lefts d
    changed n h = g n (subst (λ (s : GraphDivision). (state_after s noted words lefts d).last_len < 4294967296) q h) ∙ ap (λ (s : GraphDivision). state_after s noted words lefts d) (sym q)

    marked : is_refused d.answer ≡ false → (begun_after s noted words lefts d).last_len < 4294967296 → state_in b' ≡ begun_after s noted words lefts d
    unfolding begun_after with_initialized
    marked n h = tested (is_consistent d.answer)
        (λ (u : is_consistent d.answer ≡ true).
        j u ∙ (ap with_initialized (changed n (subst (λ (s : GraphDivision). s.last_len < 4294967296) (pick_yes _ _ u) h)) ∙ sym (pick_yes _ _ u)))
        (λ (u : is_consistent d.answer ≡ false).
        ap state_in (k u) ∙ (changed n (subst (λ (s : GraphDivision). s.last_len < 4294967296) (pick_no _ _ u) h) ∙ sym (pick_no _ _ u)))

    pub begun_state : AfterOf false y.outcome b b'
    unfolding begun_of
    begun_state = subst (λ (y : Called). StateAfter (is_refused y.outcome.answer) y.outcome.state b b') e
        (record { same = λ n. k (refused_open d.answer n) ∙ f n; is = marked; kept = kept_then l o })

-- what is tested first
module _ (state t list log cursor : List ℕ) where
  pub begun_short : too_short state cursor ≡ true → left_with short t list log cursor ≡ host_initialized state t list log cursor
  unfolding host_initialized
  begun_short e = sym (pick_yes _ _ e)

  pub begun_long : (x : Left) → too_short state cursor ≡ false → x ≡ left_of (cursor_in cursor) (initialized_in state t list log cursor) list log cursor → x ≡ host_initialized state t list log cursor
  unfolding host_initialized
  begun_long x e h = h ∙ sym (pick_no _ _ e)
