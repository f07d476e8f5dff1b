-- An undo over bytes is the undo of the state that they stand for.
use Prim.Native.Nat.{ℕ, ◌+◌, ◌*◌, ◌/◌, ◌≤◌, ◌<◌}
use mathlib.Core.Path.{◌≡◌, refl, sym, ap, ◌∙◌, subst}
use mathlib.Core.Bool.{Bool, true, false, true≢false}
use mathlib.Core.List.{List}
use lib.IntN.{ℤ}
use lib.ListN.{length, get_or}
use mir.Syntax.{w32}
use mir.Val.{to_z, of_z}
use Rattle.base.proofs.Loop.{pick_yes, pick_no, tested}
use Rattle.undo_log.specs.declared.Cursor.{Cursor}
use Rattle.graph_division.specs.declared.GraphDivision.{GraphDivision}
use Rattle.graph_division.specs.declared.Outcome.{Outcome}
use Rattle.graph_division.specs.declared.Answer.{Answer}
use Rattle.graph_division.specs.Calls.{outcome, with_noted, undone, Fetched, fetched, reason_fetched, last_fetched, run_fetched, page_fetched}
use Rattle.graph_division.specs.Answers.{is_refused}
use Rattle.byte_calls.specs.Codes.{answer_code}
use Rattle.byte_calls.specs.Layout.{state_in}
use Rattle.byte_calls.specs.Stores.{BytesKept, put_cursor, put_noted}
use Rattle.byte_calls.specs.Host.{Back, back, back_of, back_by, given_in, page_back, StateAfter, AfterOf}
use Rattle.byte_calls.proofs.Coding.{code_back}
use Rattle.byte_calls.proofs.Storing.{noted_stored}
use Rattle.byte_calls.proofs.Keeping.{kept_same}

module _ (s : GraphDivision) (noted : List ℕ) (d : Cursor) (a : Answer) (y : Outcome) (e : outcome (with_noted noted s) d a ≡ y) (b : List ℕ) (q : s ≡ state_in b) where
  pub undo_left : (cursor : List ℕ) (z : ℤ) → z ≡ answer_code a → is_refused a ≡ true → back (to_z w32 (of_z w32 z)) cursor ≡ back_by y cursor
  unfolding back_by back_of
  undo_left cursor z h t = (λ i. back (code_back a z h i) (sym (pick_yes cursor (put_cursor d cursor) t) i)) ∙ ap (λ (y : Outcome). back_by y cursor) e

  pub undo_kept : (cursor cursor' : List ℕ) (z : ℤ) → z ≡ answer_code a → is_refused a ≡ false → cursor' ≡ put_cursor d cursor → back (to_z w32 (of_z w32 z)) cursor' ≡ back_by y cursor
  unfolding back_by back_of
  undo_kept cursor cursor' z h t k = (λ i. back (code_back a z h i) ((k ∙ sym (pick_no cursor (put_cursor d cursor) t)) i)) ∙ ap (λ (y : Outcome). back_by y cursor) e

  pub state_same : is_refused a ≡ true → AfterOf false y b b
  state_same t = subst (λ (y : Outcome). StateAfter (is_refused y.answer) y.state b b) e
      (record { same = λ n. refl; is = λ (n : is_refused a ≡ false) h. absurd (true≢false (sym t ∙ n)); kept = kept_same b })

  pub state_stored : (b' : List ℕ) → is_refused a ≡ false → state_in b' ≡ with_noted noted (state_in b) → BytesKept b b' → AfterOf false y b b'
  state_stored b' t h l = subst (λ (y : Outcome). StateAfter (is_refused y.answer) y.state b b') e
      (record { same = λ (n : is_refused a ≡ true). absurd (true≢false (sym n ∙ t)); is = λ n k. h ∙ ap (with_noted noted) (sym q); kept = l })

back_code : (y : Outcome) (cursor : List ℕ) → (back_by y cursor).code ≡ answer_code y.answer
unfolding back_by back_of
back_code y cursor = refl

-- the number is handed on
pub undo_back : (y : Outcome) (cursor cursor' : List ℕ) (z : ℤ) → back z cursor' ≡ back_by y cursor → back (to_z w32 (of_z w32 z)) cursor' ≡ back_by y cursor
undo_back y cursor cursor' z e =
    let q : z ≡ answer_code y.answer = ap (λ (x : Back). x.code) e ∙ back_code y cursor in
    ap (λ (r : ℤ). back r cursor') (code_back y.answer z q ∙ sym q) ∙ e

given_code : (y : Fetched) (buffer : List ℕ) → (given_in y buffer).code ≡ answer_code y.answer
unfolding given_in
given_code y buffer = refl

pub given_back : (y : Fetched) (buffer buffer' : List ℕ) (z : ℤ) → back z buffer' ≡ given_in y buffer → back (to_z w32 (of_z w32 z)) buffer' ≡ given_in y buffer
given_back y buffer buffer' z e =
    let q : z ≡ answer_code y.answer = ap (λ (x : Back). x.code) e ∙ given_code y buffer in
    ap (λ (r : ℤ). back r buffer') (code_back y.answer z q ∙ sym q) ∙ e

-- a page's bytes are the buffer's own
pub page_back_lem : (a : Answer) (buffer : List ℕ) (y : Fetched) (z : ℤ) → z ≡ answer_code a → fetched a buffer ≡ y →
    back (to_z w32 (of_z w32 z)) buffer ≡ page_back y
unfolding page_back
page_back_lem a buffer y z e h = ap (λ (r : ℤ). back r buffer) (code_back a z e) ∙ ap page_back h

page_code : (y : Fetched) → (page_back y).code ≡ answer_code y.answer
unfolding page_back
page_code y = refl

pub page_again : (y : Fetched) (buffer : List ℕ) (z : ℤ) → back z buffer ≡ page_back y →
    back (to_z w32 (of_z w32 z)) buffer ≡ page_back y
page_again y buffer z e =
    let q : z ≡ answer_code y.answer = ap (λ (x : Back). x.code) e ∙ page_code y in
    ap (λ (r : ℤ). back r buffer) (code_back y.answer z q ∙ sym q) ∙ e

pub undo_after : (y z : Outcome) (b b' : List ℕ) → y ≡ z → AfterOf false y b b' → AfterOf false z b b'
undo_after y z b b' e h = subst (λ (y : Outcome). StateAfter (is_refused y.answer) y.state b b') e h

-- the calls on what was decoded are those on what the bytes stand for
pub undone_read : (s : GraphDivision) {c d : Cursor} {lit m : ℤ} {records log : List ℕ} → c ≡ d → lit ≡ m → records ≡ log →
    undone s c lit records ≡ undone s d m log
undone_read s p q r = λ i. undone s (p i) (q i) (r i)

pub reason_read : (s : GraphDivision) {c d : Cursor} {records log out b : List ℕ} {lit m : ℤ} → c ≡ d → records ≡ log → lit ≡ m → out ≡ b →
    reason_fetched s c records lit out ≡ reason_fetched s d log m b
reason_read s p r q o = λ i. reason_fetched s (p i) (r i) (q i) (o i)

pub last_read : (s : GraphDivision) {c d : Cursor} {records log out b : List ℕ} → c ≡ d → records ≡ log → out ≡ b →
    last_fetched s c records out ≡ last_fetched s d log b
last_read s p r o = λ i. last_fetched s (p i) (r i) (o i)

pub run_read : (s : GraphDivision) {c d : Cursor} {records log out b : List ℕ} {from to p q : ℤ} → c ≡ d → records ≡ log → from ≡ p → to ≡ q → out ≡ b →
    run_fetched s c records from to out ≡ run_fetched s d log p q b
run_read s e r f t o = λ i. run_fetched s (e i) (r i) (f i) (t i) (o i)

pub page_read : (s : GraphDivision) (b : List ℕ) {c d : Cursor} {records log : List ℕ} → c ≡ d → records ≡ log →
    page_fetched s c records b ≡ page_fetched s d log b
page_read s b p r = λ i. page_fetched s (p i) (r i) b
