-- What a call over bytes answers and leaves is the reply to a request on what the bytes stand for, and the bytes that are kept then stand for
-- what is kept of it.
use mathlib.Core.Path.{◌≡◌, refl, sym, ap, ap₂, subst, ◌∙◌}
use mathlib.Core.Bool.{Bool, true, false, false≢true}
use mathlib.Core.List.{List, [], ◌∷◌}
use Prim.Native.Nat.{ℕ, ◌*◌, ◌/◌, ◌<◌, ◌≤◌, min}
use native.Mathlib.Omega.{arith}
use lib.Dec.{ltb}
use lib.IntN.{ℤ}
use lib.ListN.{length, get_or, take, length-take, take-append-drop, replicate, length-replicate}
use lib.Seq.{get_or-take, ext_get_or}
use borrow.Author.Tests.{le-ltb, ltb-false}
use Rattle.base.specs.Iter.{iter, pick}
use Rattle.base.proofs.Loop.{pick_yes, pick_no, pick_ind, tested}
use Rattle.base.proofs.Tests.{or_both}
use Rattle.base.proofs.Filled.{filled_length}
use Rattle.undo_log.specs.declared.Cursor.{Cursor}
use Rattle.noting.specs.Words.{capped}
use Rattle.graph_division.specs.declared.GraphDivision.{GraphDivision}
use Rattle.graph_division.specs.declared.Outcome.{Outcome}
use Rattle.graph_division.specs.declared.Answer.{Answer}
use Rattle.graph_division.specs.declared.Answer.TheVariants.{Consistent, Conflict, Noted, Undone, Reason, Run, Page, Refused}
use Rattle.graph_division.specs.Calls.{Called, propagated, undone, Fetched, reason_fetched, last_fetched, refuse}
use Rattle.graph_division.specs.Initialize.{initialized}
use Rattle.graph_division.specs.Runs.{Query, reason_for, last_left, run_between, page, Request, initialize, propagate, undo, ask, tail_of, Kept, kept, log_for, Reply, replied, replied_called, replied_fetched, asked, reply, keeping}
use Rattle.claims.specs.Conditions.{turned_away_with}
use Rattle.claims.proofs.Refusing.{refused_unchanged}
use Rattle.claims.proofs.Past.{reply_log}
use Rattle.graph_division.specs.Answers.{is_refused}
use Rattle.byte_calls.specs.Codes.{answer_code, given_by}
use Rattle.byte_calls.specs.Layout.{state_in, cursor_in, used_entries, records_in, log_in, list_in}
use Rattle.byte_calls.specs.Stores.{put_list, put_log}
use Rattle.base.specs.Bytes.{put_halves}
use Rattle.byte_calls.specs.Host.{Left, too_short, left_by, left_of, propagated_in, host_propagated, initialized_in, host_initialized, Back, back, undone_in, back_of, back_by, host_undone, given_in, host_reason, host_last, host_run, page_back, page_in, host_page}
use Rattle.byte_calls.specs.After.{Leaves}
use Rattle.base.proofs.Bytes.{put_longs_length}
use Rattle.byte_calls.proofs.Leaving.{room_length}
use Rattle.byte_calls.proofs.ReadBack.{ReadsBack, propagate_reads_back, initialize_reads_back, undo_reads_back}
use Rattle.host_claims.specs.HostRuns.{kept_in, tail_in, Bytes, is_page, entries_in, bytes_after, host_asked}

-- left, with the state's bytes after it, is the reply to request q where k is kept
pub record HostReplies (k : Kept) (q : Request) (list : List ℕ) (l : Left) (after : List ℕ) : Type 0 where
  pub code : l.code ≡ answer_code (reply k q).answer
  pub table : l.table ≡ (reply k q).table
  pub literals : l.list ≡ put_list (reply k q).list (given_by (reply k q).answer) list
  pub keeps : kept_in after l.cursor l.log ≡ keeping (reply k q)

log_length : (c : Cursor) (log : List ℕ) → length (log_in c log) ≡ used_entries (length log / 8)
unfolding log_in records_in
log_length c log = room_length (length log / 8) (records_in c log) (filled_length 0 _ (replicate 4352 0) _ ∙ length-replicate {A = ℕ} 4352 0)

refused_number : (a : Answer) → is_refused a ≡ true → (n : ℕ) × (a ≡ Refused n)
refused_number (Consistent h) e = absurd (false≢true e)
refused_number Conflict e = absurd (false≢true e)
refused_number Noted e = absurd (false≢true e)
refused_number Undone e = absurd (false≢true e)
refused_number (Reason n) e = absurd (false≢true e)
refused_number (Run n) e = absurd (false≢true e)
refused_number (Page n) e = absurd (false≢true e)
refused_number (Refused n) e = (n, refl)

cap_none : (m : ℕ) → capped 0 m ≡ 0
unfolding capped
cap_none m = tested (ltb 0 m) (λ e. pick_yes _ _ e) (λ e. pick_no _ _ e ∙ none m e)
  where
    none : (m : ℕ) → ltb 0 m ≡ false → m ≡ 0
    none m e = omega (arith, ltb-false 0 m e)

-- no literal is written
put_none : (l b : List ℕ) → put_list l 0 b ≡ b
unfolding put_list put_halves iter
put_none l b = ap (λ (n : ℕ). put_halves l n b) (cap_none (length l))

list_by : (a : Answer) (c d : Cursor) (t lits records list log cursor : List ℕ) → (left_by a c d t lits records list log cursor).list ≡ put_list lits (given_by a) list
unfolding left_by pick
list_by (Consistent h) c d t lits records list log cursor = refl
list_by Conflict c d t lits records list log cursor = refl
list_by Noted c d t lits records list log cursor = refl
list_by Undone c d t lits records list log cursor = refl
list_by (Reason n) c d t lits records list log cursor = refl
list_by (Run n) c d t lits records list log cursor = refl
list_by (Page n) c d t lits records list log cursor = refl
list_by (Refused n) c d t lits records list log cursor = sym (put_none lits list)

code_by : (a : Answer) (c d : Cursor) (t lits records list log cursor : List ℕ) → (left_by a c d t lits records list log cursor).code ≡ answer_code a
unfolding left_by
code_by a c d t lits records list log cursor = pick_ind (λ (z : Left). z.code ≡ answer_code a) (is_refused a) _ _ (λ _. refl) (λ _. refl)

table_by : (a : Answer) (c d : Cursor) (t lits records list log cursor : List ℕ) → (left_by a c d t lits records list log cursor).table ≡ t
unfolding left_by
table_by a c d t lits records list log cursor = pick_ind (λ (z : Left). z.table ≡ t) (is_refused a) _ _ (λ _. refl) (λ _. refl)

log_by : (a : Answer) (c d : Cursor) (t lits records list log cursor : List ℕ) → length (left_by a c d t lits records list log cursor).log ≡ length log
unfolding left_by put_log
log_by a c d t lits records list log cursor =
    pick_ind (λ (z : Left). length z.log ≡ length log) (is_refused a) _ _ (λ _. refl) (λ _. put_longs_length records c.used _ log)

-- two lists of one length that agree below n have the same first n
take_same : (n : ℕ) (a b : List ℕ) → length a ≡ length b → ((i : ℕ) → i < n → get_or a i 0 ≡ get_or b i 0) → take n a ≡ take n b
take_same n a b e h =
    ext_get_or 0 (take n a) (take n b) (length-take n a ∙ ap (min n) e ∙ sym (length-take n b))
    (λ i k. let m : i < n = omega (arith, length-take n a) in get_or-take n a i 0 m ∙ h i m ∙ sym (get_or-take n b i 0 m))

whole : (state cursor log : List ℕ) → log_for (kept_in state cursor log) (tail_in cursor log) ≡ log_in (cursor_in cursor) log
whole state cursor log = take-append-drop (cursor_in cursor).used (log_in (cursor_in cursor) log)

enough : (state cursor : List ℕ) → 133440 ≤ length state → 8 ≤ length cursor → too_short state cursor ≡ false
unfolding too_short
enough state cursor ls lc = or_both (le-ltb (length state) 133440 ls) (le-ltb (length cursor) 8 lc)

-- a state after a call that left the bytes so
state_left : (k : Kept) (q : Request) (y : Outcome) (state after : List ℕ) → k.state ≡ state_in state → (reply k q).answer ≡ y.answer → (reply k q).state ≡ y.state →
    Leaves false y state after → state_in after ≡ y.state
unfolding turned_away_with refuse replied
state_left k q y state after b e f s = tested (is_refused y.answer)
    (λ t. let (n, g) = refused_number y.answer t in
    ap state_in (s.same t) ∙ sym b ∙ sym (ap (λ (z : Reply). z.state) (refused_unchanged k q n (e ∙ g))) ∙ f)
    (λ t. s.is t)

-- of a call that is lent a table and a list, whose outcome in words is y
module _ (state list log cursor : List ℕ) (q : Request) (y : Called) where
  abbrev c : Cursor
  c = cursor_in cursor

  abbrev k : Kept
  k = kept_in state cursor log

  abbrev l : Left
  l = left_of c y list log cursor

  module _ (r : reply k q ≡ replied_called y) (long : length y.log ≡ length (log_in c log)) (b : ReadsBack c y list log cursor) (after : List ℕ) (s : Leaves false y.outcome state after) where
    answer_is : y.outcome.answer ≡ (reply k q).answer
    unfolding replied_called replied
    answer_is = ap (λ (z : Reply). z.answer) (sym r)

    state_is : state_in after ≡ y.outcome.state
    unfolding replied_called replied
    state_is = state_left k q y.outcome state after refl (sym answer_is) (ap (λ (z : Reply). z.state) r) s

    log_is_in : take (cursor_in l.cursor).used (log_in (cursor_in l.cursor) l.log) ≡ take y.outcome.cursor.used y.log
    unfolding left_of
    log_is_in =
        ap (λ (d : Cursor). take d.used (log_in d l.log)) b.cursor_is
        ∙ take_same y.outcome.cursor.used (log_in y.outcome.cursor l.log) y.log
        (log_length y.outcome.cursor l.log
        ∙ ap (λ (n : ℕ). used_entries (n / 8)) (log_by y.outcome.answer c y.outcome.cursor y.table y.list y.log list log cursor)
        ∙ sym (log_length c log) ∙ sym long)
        b.log_is

    replies : HostReplies k q list l after
    unfolding left_of replied_called replied keeping
    replies = record {
      code = code_by _ c _ _ _ _ list log cursor ∙ ap answer_code answer_is;
      table = table_by _ c _ _ _ _ list log cursor ∙ ap (λ (z : Reply). z.table) (sym r);
      literals = list_by _ c _ _ _ _ list log cursor
          ∙ ap₂ (λ (x : List ℕ) (a : Answer). put_list x (given_by a) list) (ap (λ (z : Reply). z.list) (sym r)) answer_is;
      keeps = (λ i. kept (state_is i) (b.cursor_is i) (log_is_in i)) ∙ ap keeping (sym r);
    }

module _ (state t list log cursor after : List ℕ) (hs : Bytes state) (hl : Bytes log) (hc : Bytes cursor) (ls : 133440 ≤ length state) (lc : 8 ≤ length cursor) where
  abbrev kk : Kept
  kk = kept_in state cursor log

  long_enough : too_short state cursor ≡ false
  long_enough = enough state cursor ls lc

  -- `zuntjev_propagate`
  module _ (lit pending : ℤ) where
    abbrev qp : Request
    qp = propagate lit pending t (list_in list) (tail_in cursor log)

    abbrev yp : Called
    yp = propagated_in state t list log cursor lit pending

    propagate_words : reply kk qp ≡ replied_called yp
    unfolding reply propagated_in
    propagate_words = ap (λ (m : List ℕ). replied_called (propagated (state_in state) (cursor_in cursor) lit pending t (list_in list) m)) (whole state cursor log)

    propagate_long : length yp.log ≡ length (log_in (cursor_in cursor) log)
    unfolding replied_called replied tail_of
    propagate_long = sym (ap (λ (z : Reply). length z.log) propagate_words) ∙ (reply_log kk qp).long ∙ ap length (whole state cursor log)

    pub propagate_replies : Leaves (too_short state cursor) yp.outcome state after → HostReplies kk qp list (host_propagated state t list log cursor lit pending) after
    unfolding host_propagated
    propagate_replies s =
        subst (λ (z : Left). HostReplies kk qp list z after) (sym (pick_no _ _ long_enough))
        (replies state list log cursor qp yp propagate_words propagate_long (propagate_reads_back state t list log cursor lit pending hs hl hc lc) after
        (subst (λ (b : Bool). Leaves b yp.outcome state after) long_enough s))

  -- `zuntjev_initialize`
  abbrev qi : Request
  qi = initialize t (list_in list) (tail_in cursor log)

  abbrev yi : Called
  yi = initialized_in state t list log cursor

  initialize_words : reply kk qi ≡ replied_called yi
  unfolding reply initialized_in
  initialize_words = ap (λ (m : List ℕ). replied_called (initialized (state_in state) (cursor_in cursor) t m (list_in list))) (whole state cursor log)

  initialize_long : length yi.log ≡ length (log_in (cursor_in cursor) log)
  unfolding replied_called replied tail_of
  initialize_long = sym (ap (λ (z : Reply). length z.log) initialize_words) ∙ (reply_log kk qi).long ∙ ap length (whole state cursor log)

  pub initialize_replies : Leaves (too_short state cursor) yi.outcome state after → HostReplies kk qi list (host_initialized state t list log cursor) after
  unfolding host_initialized
  initialize_replies s =
      subst (λ (z : Left). HostReplies kk qi list z after) (sym (pick_no _ _ long_enough))
      (replies state list log cursor qi yi initialize_words initialize_long (initialize_reads_back state t list log cursor hs hl hc lc) after
      (subst (λ (b : Bool). Leaves b yi.outcome state after) long_enough s))

-- what a query answers, and its bytes then
abbrev pub back_with : Bool → Fetched → List ℕ → Back
back_with ofPage y buffer = back (answer_code y.answer) (bytes_after ofPage y.buffer (given_by y.answer) buffer)

-- the queries, of bytes that are long enough
pub asked_given : (state log cursor : List ℕ) → too_short state cursor ≡ false → (q : Query) (buffer : List ℕ) →
    host_asked state log cursor q buffer ≡ back_with (is_page q) (asked (state_in state) (cursor_in cursor) (log_in (cursor_in cursor) log) q (entries_in q buffer)) buffer
unfolding host_asked host_reason host_last host_run host_page page_in page_back given_in asked is_page entries_in bytes_after pick
asked_given state log cursor e (reason_for lit) buffer = pick_no _ _ e
asked_given state log cursor e last_left buffer = pick_no _ _ e
asked_given state log cursor e (run_between from to) buffer = pick_no _ _ e
asked_given state log cursor e page buffer = pick_no _ _ e

module _ (state log cursor : List ℕ) (hc : Bytes cursor) (ls : 133440 ≤ length state) (lc : 8 ≤ length cursor) where
  abbrev k₁ : Kept
  k₁ = kept_in state cursor log

  abbrev c₁ : Cursor
  c₁ = cursor_in cursor

  -- `zuntjev_undo`
  module _ (lit : ℤ) (after : List ℕ) where
    abbrev q₁ : Request
    q₁ = undo lit (tail_in cursor log)

    abbrev y₁ : Outcome
    y₁ = undone_in state log cursor lit

    undo_words : reply k₁ q₁ ≡ replied y₁ [] [] (log_in c₁ log)
    unfolding reply undone_in
    undo_words = ap (λ (m : List ℕ). replied (undone (state_in state) c₁ lit m) [] [] m) (whole state cursor log)

    undo_answer : y₁.answer ≡ (reply k₁ q₁).answer
    unfolding replied
    undo_answer = ap (λ (z : Reply). z.answer) (sym undo_words)

    back_code : (a : Answer) (d : Cursor) → (back_of a d cursor).code ≡ answer_code a
    unfolding back_of
    back_code a d = refl

    pub undo_code : (host_undone state log cursor lit).code ≡ answer_code (reply k₁ q₁).answer
    unfolding host_undone back_by
    undo_code = ap (λ (z : Back). z.code) (pick_no _ _ (enough state cursor ls lc)) ∙ back_code _ _ ∙ ap answer_code undo_answer

    module _ (s : Leaves (too_short state cursor) y₁ state after) where
      undo_state : state_in after ≡ y₁.state
      unfolding replied
      undo_state = state_left k₁ q₁ y₁ state after refl (sym undo_answer) (ap (λ (z : Reply). z.state) undo_words)
          (subst (λ (b : Bool). Leaves b y₁ state after) (enough state cursor ls lc) s)

      undo_log : take y₁.cursor.used (log_in y₁.cursor log) ≡ take y₁.cursor.used (log_in c₁ log)
      undo_log = take_same y₁.cursor.used (log_in y₁.cursor log) (log_in c₁ log) (log_length y₁.cursor log ∙ sym (log_length c₁ log))
          (undo_reads_back state log cursor lit hc lc).1

      pub undo_keeps : kept_in after (host_undone state log cursor lit).cursor log ≡ keeping (reply k₁ q₁)
      unfolding host_undone keeping replied
      undo_keeps =
          ap (λ (z : Back). kept_in after z.cursor log) (pick_no _ _ (enough state cursor ls lc))
          ∙ ap (λ (d : Cursor). kept (state_in after) d (take d.used (log_in d log))) (undo_reads_back state log cursor lit hc lc).0
          ∙ ap₂ (λ (x : GraphDivision) (m : List ℕ). kept x y₁.cursor m) undo_state undo_log
          ∙ ap keeping (sym undo_words)

  -- the fetches: the number and the buffer's bytes; nothing else changes
  module _ (q : Query) (buffer : List ℕ) where
    abbrev q₂ : Request
    q₂ = ask q (entries_in q buffer) (tail_in cursor log)

    ask_words : reply k₁ q₂ ≡ replied_fetched k₁ (log_for k₁ (tail_in cursor log)) (asked (state_in state) c₁ (log_in c₁ log) q (entries_in q buffer))
    unfolding reply
    ask_words = ap (λ (m : List ℕ). replied_fetched k₁ (log_for k₁ (tail_in cursor log)) (asked (state_in state) c₁ m q (entries_in q buffer))) (whole state cursor log)

    pub ask_replies : host_asked state log cursor q buffer ≡
        back (answer_code (reply k₁ q₂).answer) (bytes_after (is_page q) (reply k₁ q₂).list (given_by (reply k₁ q₂).answer) buffer)
    unfolding replied_fetched
    ask_replies =
        asked_given state log cursor (enough state cursor ls lc) q buffer
        ∙ ap (λ (z : Reply). back (answer_code z.answer) (bytes_after (is_page q) z.list (given_by z.answer) buffer)) (sym ask_words)

    pub ask_table : [] ≡ (reply k₁ q₂).table
    unfolding replied_fetched
    ask_table = ap (λ (z : Reply). z.table) (sym ask_words)

    pub ask_keeps : keeping (reply k₁ q₂) ≡ k₁
    unfolding keeping replied_fetched
    ask_keeps = ap keeping ask_words ∙ ap (λ (m : List ℕ). kept (state_in state) c₁ (take c₁.used m)) (whole state cursor log)
