-- What a call leaves in the bytes that it was lent.
use Prim.Native.Nat.{ℕ, ◌+◌, ◌*◌, ◌/◌, ◌-◌, ◌≤◌, ◌<◌}
use native.Mathlib.Omega.{arith}
use mathlib.Core.Path.{◌≡◌, refl, sym, ap, ◌∙◌, subst}
use mathlib.Core.Bool.{Bool, true, false, true≢false, ◌||◌}
use lib.Dec.{ltb}
use borrow.Author.Tests.{ltb-false}
use Rattle.base.proofs.Tests.{or_none}
use mathlib.Core.List.{List, []}
use lib.IntN.{ℤ}
use mir.Syntax.{w32}
use mir.Val.{to_z, of_z}
use lib.ListN.{length, take, drop, replicate, length-replicate}
use Rattle.noting.specs.Words.{capped}
use lib.Seq.{length-take-le}
use Rattle.base.specs.Iter.{pick}
use Rattle.base.specs.Lists.{filled}
use Rattle.base.proofs.Filled.{filled_length}
use Rattle.base.proofs.Loop.{pick_yes, pick_no, pick_ind, tested}
use Rattle.plan.specs.Words.{words_of}
use Rattle.plan.proofs.Reading.{words_in_lem}
use Rattle.undo_log.specs.declared.Cursor.{Cursor}
use Rattle.recorded.specs.declared.Reasons.{Reasons}
use Rattle.graph_division.specs.declared.GraphDivision.{GraphDivision}
use Rattle.graph_division.specs.declared.Outcome.{Outcome}
use Rattle.graph_division.specs.declared.Answer.{Answer}
use Rattle.graph_division.specs.Calls.{Called, called, outcome, propagated, undone, reason_fetched, last_fetched, run_fetched}
use Rattle.lent.specs.declared.Done.{Done}
use Rattle.lent.specs.Lent.{Parts, state_after, called_of}
use Rattle.base.specs.Bytes.{word_at, long_at}
use Rattle.graph_division.specs.Answers.{is_refused}
use Rattle.byte_calls.specs.Codes.{answer_code, given_by}
use Rattle.byte_calls.specs.Layout.{Decoded, decoded, decoded_in, plan_in, ends_in, reasons_in, state_in, cursor_in, used_entries, records_in, log_in, list_in, buffer_in}
use Rattle.base.specs.Bytes.{words_in}
use Rattle.byte_calls.specs.Stores.{BytesKept, put_cursor, put_list, put_log}
use Rattle.byte_calls.specs.Host.{Left, left_with, left_by, left_of, StateAfter, AfterOf, propagated_in, host_propagated, too_short, short, Back, back, back_by, undone_in, host_undone, given_in, host_reason, host_last, host_run, page_in, host_page}
use Rattle.byte_calls.proofs.Coding.{code_back}
use Rattle.byte_calls.proofs.Filling.{capped_most, capped_less, room_is}
use Rattle.byte_calls.proofs.Keeping.{kept_same}

pub is_left : (a : Answer) (c d : Cursor) (lits records list log cursor : List ℕ) (r : ℤ) → r ≡ answer_code a → is_refused a ≡ true →
    left_with r [] list log cursor ≡ left_by a c d [] lits records list log cursor
unfolding left_by
is_left a c d lits records list log cursor r e t = ap (λ (z : ℤ). left_with z [] list log cursor) e ∙ sym (pick_yes _ _ t)

pub is_kept : (a : Answer) (c d : Cursor) (lits records list log cursor list' log' cursor' : List ℕ) (r : ℤ) → r ≡ answer_code a → is_refused a ≡ false →
    list' ≡ put_list lits (given_by a) list → log' ≡ put_log records c.used d.used log → cursor' ≡ put_cursor d cursor →
    left_with r [] list' log' cursor' ≡ left_by a c d [] lits records list log cursor
unfolding left_by
is_kept a c d lits records list log cursor list' log' cursor' r e t f g h = (λ i. left_with (e i) [] (f i) (g i) (h i)) ∙ sym (pick_no _ _ t)

-- the table stands beside it
with_table : (a : Answer) (c d : Cursor) (t lits records list log cursor : List ℕ) (x : Left) → x ≡ left_by a c d [] lits records list log cursor →
    left_with x.code t x.list x.log x.cursor ≡ left_by a c d t lits records list log cursor
unfolding left_by
with_table a c d t lits records list log cursor x e = ap (λ (x : Left). left_with x.code t x.list x.log x.cursor) e
    ∙ tested (is_refused a)
    (λ (b : is_refused a ≡ true). ap (λ (x : Left). left_with x.code t x.list x.log x.cursor) (pick_yes _ _ b) ∙ sym (pick_yes _ _ b))
    (λ (b : is_refused a ≡ false). ap (λ (x : Left). left_with x.code t x.list x.log x.cursor) (pick_no _ _ b) ∙ sym (pick_no _ _ b))

-- a call on what is decoded, and what it leaves
module _ (s : GraphDivision) (c : Cursor) (words props lefts : List ℕ) (d : Done) (t lits records : List ℕ) (y : Called) (e : called_of s words props lefts d t lits records ≡ y) where
  pub leaves : (list log cursor list' log' cursor' : List ℕ) (r : ℤ) → left_with r [] list' log' cursor' ≡ left_by d.answer c d.cursor [] lits records list log cursor →
      left_with r t list' log' cursor' ≡ left_of c y list log cursor
  unfolding left_of called_of
  leaves list log cursor list' log' cursor' r h =
      with_table d.answer c d.cursor t lits records list log cursor (left_with r [] list' log' cursor') h
      ∙ ap (λ (y : Called). left_of c y list log cursor) e

  pub state_left : (b b' : List ℕ) → s ≡ state_in b → (is_refused d.answer ≡ true → b' ≡ b) →
      (is_refused d.answer ≡ false → (state_after (state_in b) words props lefts d).last_len < 4294967296 → state_in b' ≡ state_after (state_in b) words props lefts d) →
      BytesKept b b' → AfterOf false y.outcome b b'
  unfolding called_of
  state_left b b' q f g k = subst (λ (y : Called). StateAfter (is_refused y.outcome.answer) y.outcome.state b b') e
      (record { same = f; is = λ n h. g n (subst (λ (s : GraphDivision). (state_after s words props lefts d).last_len < 4294967296) q h) ∙ ap (λ (s : GraphDivision). state_after s words props lefts d) (sym q); kept = k })

-- lists and logs are as long as the bytes have room for
pub room_length : (n : ℕ) (l : List ℕ) → length l ≡ 4352 → length (take (used_entries n) l) ≡ used_entries n
room_length n l e = length-take-le (used_entries n) l (omega (arith, room_is n, capped_most n 4352))

pub list_room : (list : List ℕ) → 2 * length (list_in list) ≤ length list
unfolding list_in
list_room list = omega (arith, room_length (length list / 2) (replicate 4352 0) (length-replicate {A = ℕ} 4352 0), room_is (length list / 2), capped_less (length list / 2) 4352)

pub log_room : (c : Cursor) (log : List ℕ) → 8 * length (log_in c log) ≤ length log
unfolding log_in records_in
log_room c log = omega (arith, room_length (length log / 8) (records_in c log) (filled_length 0 _ (replicate 4352 0) _ ∙ length-replicate {A = ℕ} 4352 0), room_is (length log / 8), capped_less (length log / 8) 4352)

pub list_fits : (n : ℕ) (l list : List ℕ) → n ≡ length l → l ≡ list_in list → 2 * n ≤ length list
list_fits n l list e q = omega (arith, e, ap length q, list_room list)

pub log_fits : (c : Cursor) (n : ℕ) (l log : List ℕ) → n ≡ length l → l ≡ log_in c log → 8 * n ≤ length log
log_fits c n l log e q = omega (arith, e, ap length q, log_room c log)

left_code : (c : Cursor) (y : Called) (list log cursor : List ℕ) → (left_of c y list log cursor).code ≡ answer_code y.outcome.answer
unfolding left_of left_by
left_code c y list log cursor = tested (is_refused y.outcome.answer)
    (λ (b : is_refused y.outcome.answer ≡ true). ap (λ (x : Left). x.code) (pick_yes _ _ b))
    (λ (b : is_refused y.outcome.answer ≡ false). ap (λ (x : Left). x.code) (pick_no _ _ b))

-- the number is handed on
pub left_back : (c : Cursor) (y : Called) (list log cursor t list' log' cursor' : List ℕ) (z : ℤ) → left_with z t list' log' cursor' ≡ left_of c y list log cursor →
    left_with (to_z w32 (of_z w32 z)) t list' log' cursor' ≡ left_of c y list log cursor
left_back c y list log cursor t list' log' cursor' z e =
    let q : z ≡ answer_code y.outcome.answer = ap (λ (x : Left). x.code) e ∙ left_code c y list log cursor in
    ap (λ (r : ℤ). left_with r t list' log' cursor') (code_back y.outcome.answer z q ∙ sym q) ∙ e

-- what is decoded is the parts of the state that the bytes stand for
pub parts_in : (b : List ℕ) {ws : List ℕ} {ends : List (List ℕ)} {noted : List ℕ} → ws ≡ plan_in b → ends ≡ ends_in b → noted ≡ words_in b 61220 384 → Parts (state_in b) ws ends noted
unfolding state_in
parts_in b p q r = record { plan = p; edges = q; noted = r }

-- the parts that are lent of what is decoded
pub part_fits : (r n m : ℕ) → r ≡ used_entries n → m ≡ 4352 → r ≤ m
part_fits r n m e q = omega (arith, e, room_is n, capped_most n 4352)

pub lits_long : (l : List ℕ) → l ≡ replicate 4352 0 → length l ≡ 4352
lits_long l e = ap length e ∙ length-replicate {A = ℕ} 4352 0

no_less : (r : ℕ) → r - 0 ≡ r
no_less r = omega arith

pub lits_part : (r n : ℕ) (l list : List ℕ) → n ≡ length list / 2 → r ≡ used_entries n → l ≡ replicate 4352 0 → take (r - 0) (drop 0 l) ≡ list_in list
unfolding list_in
lits_part r n l list m e q = λ i. take ((no_less r ∙ (e ∙ ap used_entries m)) i) (q i)

-- the plan is read where it is
pub plan_here : (b : List ℕ) → 133440 ≤ length b → words_of b ≡ plan_in b
unfolding plan_in
plan_here b r = words_in_lem b (omega arith)

pub records_read : (log : List ℕ) {c d : Cursor} {l z : List ℕ} → z ≡ replicate 4352 0 → c ≡ d →
    l ≡ filled 0 (capped c.used (used_entries (length log / 8))) (λ i. long_at log (8 * i)) z → l ≡ records_in d log
unfolding records_in
records_read log {c} q e h =
    h ∙ ap (filled 0 (capped c.used (used_entries (length log / 8))) (λ i. long_at log (8 * i))) q ∙ ap (λ (c : Cursor). records_in c log) e

pub all_decoded : (b log cursor : List ℕ) {ns rs : List ℕ} {c : Cursor} →
    ns ≡ words_in b 61220 384 → rs ≡ records_in (cursor_in cursor) log → c ≡ cursor_in cursor → decoded ns rs c ≡ decoded_in b log cursor
unfolding decoded_in
all_decoded b log cursor n r c = λ i. decoded (n i) (r i) (c i)

pub zeros_length : {l : List ℕ} (n : ℕ) → l ≡ replicate n 0 → length l ≡ n
zeros_length n e = ap length e ∙ length-replicate {A = ℕ} n 0

-- what `decode` gives, part by part
module _ (b log cursor : List ℕ) {ns rs : List ℕ} {c : Cursor} (e : decoded ns rs c ≡ decoded_in b log cursor) where
  pub noted_decoded : ns ≡ words_in b 61220 384
  unfolding decoded_in
  noted_decoded = ap (λ (d : Decoded). d.noted) e

  pub cursor_decoded : c ≡ cursor_in cursor
  unfolding decoded_in
  cursor_decoded = ap (λ (d : Decoded). d.cursor) e

  all_records : rs ≡ records_in (cursor_in cursor) log
  unfolding decoded_in
  all_records = ap (λ (d : Decoded). d.records) e

  pub records_length : length rs ≡ 4352
  unfolding records_in
  records_length = ap length all_records ∙ (filled_length 0 _ (replicate 4352 0) _ ∙ length-replicate {A = ℕ} 4352 0)

  pub records_in_lem : {r : ℕ} → r ≡ used_entries (length log / 8) → take (r - 0) (drop 0 rs) ≡ log_in (cursor_in cursor) log
  unfolding log_in
  records_in_lem {r} q = λ i. take ((no_less r ∙ q) i) (all_records i)

  pub records_decoded : {r : ℕ} → r ≡ used_entries (length log / 8) → take (r - 0) (drop 0 rs) ≡ log_in c log
  records_decoded q = records_in_lem q ∙ ap (λ (d : Cursor). log_in d log) (sym cursor_decoded)

pub propagated_read : (state t list log cursor : List ℕ) {lit m pending n : ℤ} → lit ≡ m → pending ≡ n →
    propagated_in state t list log cursor lit pending ≡ propagated_in state t list log cursor m n
propagated_read state t list log cursor p q = λ i. propagated_in state t list log cursor (p i) (q i)

pub after_is : (y z : Called) (b b' : List ℕ) → y ≡ z → AfterOf false y.outcome b b' → AfterOf false z.outcome b b'
after_is y z b b' e h = subst (λ (y : Called). StateAfter (is_refused y.outcome.answer) y.outcome.state b b') e h

-- a reason buffer's part
pub buffer_part : (r n : ℕ) (l b : List ℕ) → n ≡ length b / 2 → r ≡ capped n 260 → l ≡ replicate 260 0 → take (r - 0) (drop 0 l) ≡ buffer_in b
unfolding buffer_in
buffer_part r n l b m e q = λ i. take ((no_less r ∙ (e ∙ ap (λ (k : ℕ). capped k 260) m)) i) (q i)

pub buffer_fits : (r n m : ℕ) → r ≡ capped n 260 → m ≡ 260 → r ≤ m
buffer_fits r n m e q = omega (arith, e, capped_most n 260)

pub buffer_long : (l : List ℕ) → l ≡ replicate 260 0 → length l ≡ 260
buffer_long l e = ap length e ∙ length-replicate {A = ℕ} 260 0

pub buffer_room : (b : List ℕ) → 2 * length (buffer_in b) ≤ length b
unfolding buffer_in
buffer_room b = omega (arith, length-take-le (capped (length b / 2) 260) (replicate {A = ℕ} 260 0) (omega (arith, capped_most (length b / 2) 260, length-replicate {A = ℕ} 260 0)), capped_less (length b / 2) 260)

pub buffer_less : (l b : List ℕ) → l ≡ buffer_in b → 2 * length l ≤ length b
buffer_less l b e = subst (λ (x : List ℕ). 2 * length x ≤ length b) (sym e) (buffer_room b)

-- what is tested first
pub short_is : (state cursor : List ℕ) → too_short state cursor ≡ false → (133440 ≤ length state) × (8 ≤ length cursor)
unfolding too_short
short_is state cursor e =
    let (p, q) = or_none (ltb (length state) 133440) (ltb (length cursor) 8) e in
    (ltb-false (length state) 133440 p, ltb-false (length cursor) 8 q)

module _ (state t list log cursor : List ℕ) (lit pending : ℤ) where
  pub short_left : too_short state cursor ≡ true → left_with short t list log cursor ≡ host_propagated state t list log cursor lit pending
  unfolding host_propagated
  short_left e = sym (pick_yes _ _ e)

  pub long_left : (x : Left) → too_short state cursor ≡ false → x ≡ left_of (cursor_in cursor) (propagated_in state t list log cursor lit pending) list log cursor →
      x ≡ host_propagated state t list log cursor lit pending
  unfolding host_propagated
  long_left x e h = h ∙ sym (pick_no _ _ e)

pub short_state : (y : Outcome) (b : List ℕ) (s : Bool) → s ≡ true → AfterOf s y b b
short_state y b s e = record { same = λ h. refl; is = λ (h : (s || is_refused y.answer) ≡ false) k. absurd (true≢false (sym (ap (λ (t : Bool). t || is_refused y.answer) e) ∙ h)); kept = kept_same b }

pub long_state : (y : Outcome) (b b' : List ℕ) (s : Bool) → s ≡ false → AfterOf false y b b' → AfterOf s y b b'
long_state y b b' s e h = subst (λ (t : Bool). AfterOf t y b b') (sym e) h

module _ (state log cursor : List ℕ) (lit : ℤ) where
  pub short_back : too_short state cursor ≡ true → back short cursor ≡ host_undone state log cursor lit
  unfolding host_undone
  short_back e = sym (pick_yes _ _ e)

  pub long_back : (x : Back) → too_short state cursor ≡ false → x ≡ back_by (undone_in state log cursor lit) cursor → x ≡ host_undone state log cursor lit
  unfolding host_undone
  long_back x e h = h ∙ sym (pick_no _ _ e)

  pub short_reason : (buffer : List ℕ) → too_short state cursor ≡ true → back short buffer ≡ host_reason state log cursor lit buffer
  unfolding host_reason
  short_reason buffer e = sym (pick_yes _ _ e)

  pub long_reason : (buffer : List ℕ) (x : Back) → too_short state cursor ≡ false →
      x ≡ given_in (reason_fetched (state_in state) (cursor_in cursor) (log_in (cursor_in cursor) log) lit (buffer_in buffer)) buffer → x ≡ host_reason state log cursor lit buffer
  unfolding host_reason
  long_reason buffer x e h = h ∙ sym (pick_no _ _ e)

module _ (state log cursor : List ℕ) where
  pub short_last : (buffer : List ℕ) → too_short state cursor ≡ true → back short buffer ≡ host_last state log cursor buffer
  unfolding host_last
  short_last buffer e = sym (pick_yes _ _ e)

  pub long_last : (buffer : List ℕ) (x : Back) → too_short state cursor ≡ false →
      x ≡ given_in (last_fetched (state_in state) (cursor_in cursor) (log_in (cursor_in cursor) log) (buffer_in buffer)) buffer → x ≡ host_last state log cursor buffer
  unfolding host_last
  long_last buffer x e h = h ∙ sym (pick_no _ _ e)

  module _ (from to : ℤ) where
    pub short_run : (buffer : List ℕ) → too_short state cursor ≡ true → back short buffer ≡ host_run state log cursor from to buffer
    unfolding host_run
    short_run buffer e = sym (pick_yes _ _ e)

    pub long_run : (buffer : List ℕ) (x : Back) → too_short state cursor ≡ false →
        x ≡ given_in (run_fetched (state_in state) (cursor_in cursor) (log_in (cursor_in cursor) log) from to (buffer_in buffer)) buffer → x ≡ host_run state log cursor from to buffer
    unfolding host_run
    long_run buffer x e h = h ∙ sym (pick_no _ _ e)

  pub short_page : (buffer : List ℕ) → too_short state cursor ≡ true → back short buffer ≡ host_page state log cursor buffer
  unfolding host_page
  short_page buffer e = sym (pick_yes _ _ e)

  pub long_page : (buffer : List ℕ) (x : Back) → too_short state cursor ≡ false → x ≡ page_in state log cursor buffer →
      x ≡ host_page state log cursor buffer
  unfolding host_page
  long_page buffer x e h = h ∙ sym (pick_no _ _ e)
