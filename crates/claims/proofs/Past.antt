-- What a call does to the log that it is lent, on any state, log and cursor: it writes only between the cursor before and the cursor after.
use mathlib.Core.Path.{◌≡◌, refl, sym, ap, ◌∙◌}
use mathlib.Core.Logic.{◌⊎◌, inl, inr}
use mathlib.Core.Bool.{Bool, true, false}
use mathlib.Core.List.{List}
use Prim.Native.Nat.{ℕ, zero, suc, ◌+◌, ◌<◌, ◌≤◌}
use native.Mathlib.Omega.{arith}
use lib.Dec.{eqb, ltb}
use lib.IntN.{ℤ, pos}
use lib.ListN.{length, get_or, set}
use lib.Seq.{get_or-set_other}
use borrow.Author.Tests.{ltb-true}
use Rattle.base.specs.Iter.{iter, pick}
use Rattle.base.proofs.Loop.{pick_no, pick_ind, tested}
use Rattle.undo_log.specs.declared.Record.{Record}
use Rattle.undo_log.specs.declared.Cursor.{Cursor}
use Rattle.undo_log.specs.Log.{word_of, push_words}
use Rattle.noting.specs.Note.{Noting, noting, pushed_to, one_more, note_slot, level_pushed, note_at, note}
use Rattle.noting.proofs.Pushing.{push_length}
use Rattle.noting.proofs.UndoNote.{push_set, push_moves}
use Rattle.judge.specs.declared.Judgement.{Judgement}
use Rattle.judge.specs.declared.Judgement.TheVariants.{Fine, Clash, Stopped}
use Rattle.judge.specs.Judge.{Judged}
use Rattle.notifications.specs.declared.Progress.{Progress}
use Rattle.graph_division.specs.declared.GraphDivision.{GraphDivision}
use Rattle.graph_division.specs.Calls.{Called, called, refuse, noted_in, adding, accepting, handing_on, settled_by, settled, propagated, undone}
use Rattle.graph_division.specs.Initialize.{noted_at, noted_up_to, taken_over, taking, ended_by, begun, initialized}
use Rattle.graph_division.specs.Runs.{Request, initialize, propagate, undo, ask, tail_of, Kept, log_for, Reply, replied, replied_called, replied_fetched, reply}
use Rattle.claims.specs.Whole.{Logs}

pub logs_same : (c d : Cursor) (l : List ℕ) → Logs c l d l
logs_same c d l = record { long = refl; before = λ i h. refl; past = λ i h. refl }

-- and the cursor does not go back
record Moves (x z : Noting) : Type 0 where
  pub up : x.cursor.used ≤ z.cursor.used
  pub logs : Logs x.cursor x.log z.cursor z.log

stays : (x : Noting) → Moves x x
stays x = record { up = omega arith; logs = logs_same _ _ _ }

then : (x y z : Noting) → Moves x y → Moves y z → Moves x z
then x y z a b = record {
  up = omega (arith, a.up, b.up);
  logs = record {
    long = b.logs.long ∙ a.logs.long;
    before = λ i h. b.logs.before i (omega (arith, a.up)) ∙ a.logs.before i h;
    past = λ i h. b.logs.past i h ∙ a.logs.past i (omega (arith, b.up));
  };
}

-- a push, with or without room
push_moved : (x : Noting) (r : Record) (m : List ℕ) (d : Cursor) → d.used ≡ (pushed_to x.log x.cursor).used → Moves x (noting m (push_words x.log x.cursor r) d)
unfolding push_words pushed_to
push_moved x r m d e = tested (ltb x.cursor.used (length x.log)) yes no
  where
    yes : ltb x.cursor.used (length x.log) ≡ true → Moves x (noting m (push_words x.log x.cursor r) d)
    yes t =
        let room = ltb-true x.cursor.used (length x.log) t in
        let u : (pushed_to x.log x.cursor).used ≡ x.cursor.used + 1 = ap (λ (c : Cursor). c.used) (push_moves x.log x.cursor r room) in
        let off : (i : ℕ) → (i ≡ x.cursor.used → ⊥) → get_or (push_words x.log x.cursor r) i 0 ≡ get_or x.log i 0 =
        λ i h. ap (λ (l : List ℕ). get_or l i 0) (push_set x.log x.cursor r room) ∙ get_or-set_other x.log x.cursor.used i (word_of r) 0 h in
        record {
          up = omega arith;
          logs = record {
            long = push_length x.log x.cursor r;
            before = λ i h. off i (λ (z : i ≡ x.cursor.used). omega arith);
            past = λ i h. off i (λ (z : i ≡ x.cursor.used). omega arith);
          };
        }

    no : ltb x.cursor.used (length x.log) ≡ false → Moves x (noting m (push_words x.log x.cursor r) d)
    no t =
        let u : (pushed_to x.log x.cursor).used ≡ x.cursor.used = ap (λ (c : Cursor). c.used) (pick_no _ _ t) in
        let off : (i : ℕ) → get_or (push_words x.log x.cursor r) i 0 ≡ get_or x.log i 0 = λ i. ap (λ (l : List ℕ). get_or l i 0) (pick_no _ _ t) in
        record { up = omega arith; logs = record { long = push_length x.log x.cursor r; before = λ i h. off i; past = λ i h. off i } }

slot_moved : (ws : List ℕ) (l s : ℕ) (x : Noting) → Moves x (note_slot ws l s x)
unfolding note_slot
slot_moved ws l s x = pick_ind (Moves x) _ _ _ (λ _. stays x) (λ _. push_moved x _ _ _ refl)

level_moved : (l : ℕ) (x : Noting) → Moves x (level_pushed l x)
unfolding level_pushed one_more
level_moved l x = push_moved x _ _ _ refl

loop_moved : (f : ℕ → Noting → Noting) → ((i : ℕ) (y : Noting) → Moves y (f i y)) → (n : ℕ) (x : Noting) → Moves x (iter f n x)
unfolding iter
loop_moved f h zero x = stays x
loop_moved f h (suc n) x = then x (iter f n x) _ (loop_moved f h n x) (h n (iter f n x))

note_moved : (ws : List ℕ) (l : ℕ) (x : Noting) → Moves x (note ws l x)
unfolding note note_at
note_moved ws l x =
    pick_ind (Moves x) _ _ _
    (λ _. then x (level_pushed l x) _ (level_moved l x) (loop_moved _ (λ i y. slot_moved ws l _ y) _ (level_pushed l x)))
    (λ _. level_moved l x)

upto_moved : (ws t : List ℕ) (past : ℕ) (x : Noting) → Moves x (noted_up_to ws t past x)
unfolding noted_up_to noted_at
upto_moved ws t past x = loop_moved _ (λ p y. pick_ind (Moves y) _ _ _ (λ _. note_moved ws _ y) (λ _. stays y)) past x

module _ (s : GraphDivision) (c : Cursor) (log : List ℕ) where
  Keeps : Called → Type 0
  Keeps x = Logs c log x.outcome.cursor x.log

  settled_keeps : (l : ℕ) (j : Judged) (v : Judgement) (t list : List ℕ) → Keeps (settled_by s c l j v t list log)
  unfolding Keeps settled_by handing_on accepting noted_in refuse
  settled_keeps l j Fine t list = (note_moved s.plan l (noting s.noted log c)).logs
  settled_keeps l j (Clash n) t list = (note_moved s.plan l (noting s.noted log c)).logs
  settled_keeps l j (Stopped n) t list = logs_same _ _ _

  propagated_keeps : (lit pending : ℤ) (t list : List ℕ) → Keeps (propagated s c lit pending t list log)
  unfolding Keeps propagated settled adding noted_in refuse
  propagated_keeps lit pending t list =
      pick_ind Keeps _ _ _
      (λ _. pick_ind Keeps _ _ _ (λ _. settled_keeps _ _ _ t list) (λ _. (note_moved s.plan _ (noting s.noted log c)).logs))
      (λ _. logs_same _ _ _)

  ended_keeps : (t words left : List ℕ) (x : Progress) (v : Judgement) (back u m list : List ℕ) → Keeps (ended_by s c t log words left x v back u m list)
  unfolding Keeps ended_by taking taken_over refuse
  ended_keeps t words left x Fine back u m list = (upto_moved s.plan t x.past (noting s.noted log c)).logs
  ended_keeps t words left x (Clash n) back u m list = (upto_moved s.plan t x.past (noting s.noted log c)).logs
  ended_keeps t words left x (Stopped n) back u m list = logs_same _ _ _

  initialized_keeps : (t list : List ℕ) → Keeps (initialized s c t log list)
  unfolding Keeps initialized begun refuse
  initialized_keeps t list = pick_ind Keeps _ _ _ (λ _. ended_keeps t _ _ _ _ _ _ _ list) (λ _. logs_same _ _ _)

-- "Entries past those a call writes, log records past the cursor included, keep what they held."
pub reply_log : (k : Kept) (q : Request) → Logs k.cursor (log_for k (tail_of q)) (reply k q).cursor (reply k q).log
unfolding reply replied_called replied replied_fetched tail_of Keeps
reply_log k (initialize t list tail) = initialized_keeps k.state k.cursor (log_for k tail) t list
reply_log k (propagate lit pending t list tail) = propagated_keeps k.state k.cursor (log_for k tail) lit pending t list
reply_log k (undo lit tail) = logs_same _ _ _
reply_log k (ask q b tail) = logs_same _ _ _
