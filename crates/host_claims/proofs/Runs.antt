-- Any list of the host's calls leads where their requests do, and each answers as its request is replied to.
--     host_made      one call
--     host_runs      where a list of calls leads
--     host_fits      a number of literals is no more than the list or the reason buffer has entries
--     short_refused  a state or a cursor that is shorter than its layout
--     fetch_fits     the number of a fetch on any bytes whatever, a damaged state's included
use mathlib.Core.Path.{◌≡◌, refl, sym, ap, ap₂, subst, ◌∙◌}
use mathlib.Core.Bool.{Bool, true, false, ◌||◌, false≢true}
use mathlib.Core.List.{List, [], ◌∷◌}
use Prim.Native.Nat.{ℕ, ◌+◌, ◌*◌, ◌/◌, ◌≤◌, zero-le}
use native.Mathlib.Omega.{arith}
use lib.IntN.{ℤ, pos, negsuc}
use borrow.Author.Tests.{eqb-true, ltb-true, ltb-false}
use lib.ListN.{length, take, length-take, length-set, replicate, length-replicate}
use lib.Seq.{length-sets, length-take-le, take-length}
use Rattle.base.specs.Iter.{iter, pick}
use Rattle.base.proofs.Loop.{pick_yes, pick_no, pick_ind, tested}
use Rattle.base.proofs.Tests.{or_none}
use Rattle.undo_log.specs.declared.Cursor.{Cursor}
use Rattle.plan.specs.Words.{vertices_of, edges_of}
use Rattle.noting.specs.Buffers.{reason_short}
use Rattle.walks.specs.Written.{Out, out_of, pushed, written}
use Rattle.walks.specs.Answers as walks
use Rattle.walks.specs.Answers.{given, missing}
use Rattle.walks.proofs.Written.{written_length}
use Rattle.runs.specs.Walk.{listed, run_listed}
use Rattle.pages.specs.Lines.{Figures}
use Rattle.pages.specs.Lines as lines
use Rattle.pages.proofs.Fields.{regions_few}
use Rattle.std.specs.Prelude.{Option, None, Some}
use Rattle.refusals.specs.Refusals.{state_bad, fetch_refusal}
use Rattle.refusals.proofs.Accepted.{pick_zero}
use Rattle.noting.specs.Words.{capped}
use Rattle.calls.specs.Calls as calls
use Rattle.graph_division.specs.declared.Outcome.{Outcome}
use Rattle.graph_division.specs.declared.GraphDivision.{GraphDivision}
use Rattle.graph_division.specs.declared.Answer.{Answer}
use Rattle.graph_division.specs.declared.Answer.TheVariants.{Consistent, Conflict, Noted, Undone, Reason, Run, Page, Refused}
use Rattle.graph_division.specs.Calls.{Fetched, reason_over, copied, reason_given, giving, reason_fetched, last_fetched, run_answer, best_listed, run_fetched}
use Rattle.graph_division.specs.Calls.{page_answer, figures_in, page_printed, page_fetched}
use Rattle.graph_division.specs.Answers.{values_of, is_refused}
use Rattle.graph_division.specs.Outcomes.{answer_for, answer_of}
use Rattle.graph_division.specs.Runs.{Query, reason_for, last_left, run_between, page, Request, initialize, propagate, undo}
use Rattle.graph_division.specs.Runs.{ask, lent_list, Kept, Reply, replied, replied_fetched, asked, reply, keeping, after}
use Rattle.claims.specs.Whole.{written_by, written_of, Whole}
use Rattle.base.specs.Bytes.{put_halves}
use Rattle.byte_calls.specs.Codes.{fitted, answer_code, given_by}
use Rattle.byte_calls.specs.Layout.{state_in, cursor_in, log_in, list_in, buffer_in}
use Rattle.byte_calls.specs.Stores.{put_list}
use Rattle.byte_calls.specs.Host.{Left, left_with, too_short, host_initialized, host_propagated, Back, back, host_undone, host_reason, host_last, host_run, host_page}
use Rattle.byte_calls.proofs.Filling.{capped_most, capped_less}
use Rattle.byte_calls.proofs.Leaving.{list_room}
use Rattle.host_claims.specs.HostRuns.{kept_in, tail_in, LentFor, Said, saying, is_page, asks_page, entry_bytes, entries_in, bytes_after, host_asked, HostMade, initializes, propagates, undoes, asks, AllHostMade, none, next, HostAnswers, ShortRefused}
use Rattle.host_claims.proofs.Signed.{up, up_negated, up_is}
use Rattle.host_claims.proofs.Replies.{HostReplies, initialize_replies, propagate_replies, undo_code, undo_keeps, ask_replies, ask_table, ask_keeps, asked_given}

-- one call: it answers as its request is replied to where h is kept, and what it keeps is what is kept of that reply
pub record Made (h : Kept) (q : Request) (list : List ℕ) (x : Said) (k' : Kept) : Type 0 where
  pub answers : HostAnswers h q list x
  pub keeps : k' ≡ keeping (reply h q)

-- of a list in words, two bytes an entry
pub in_words : {ofPage : Bool} → ofPage ≡ false → (entries : List ℕ) (n : ℕ) (bytes : List ℕ) → bytes_after ofPage entries n bytes ≡ put_list entries n bytes
unfolding bytes_after
in_words e entries n bytes = pick_no _ _ e

made_left : (k h : Kept) (q : Request) (r : ℤ) (list state' t' list' log' cursor' : List ℕ) (l : Left) → asks_page q ≡ false → h ≡ k → left_with r t' list' log' cursor' ≡ l →
    HostReplies h q list l state' → Made k q list (saying r t' list') (kept_in state' cursor' log')
made_left k h q r list state' t' list' log' cursor' l g e f y =
    let z : HostReplies k q list (left_with r t' list' log' cursor') state' =
    subst (λ (x : Kept). HostReplies x q list (left_with r t' list' log' cursor') state') e (subst (λ (x : Left). HostReplies h q list x state') (sym f) y) in
    record { answers = record { code = z.code; table = z.table; literals = z.literals ∙ sym (in_words g _ _ list) }; keeps = z.keeps }

-- nothing is written where there is nothing
put_empty : (n : ℕ) → put_list [] n [] ≡ []
unfolding put_list put_halves iter
put_empty n = ap (λ (m : ℕ). put_halves [] m []) (none_left (capped n 0) (capped_most n 0))
  where
    none_left : (m : ℕ) → m ≤ 0 → m ≡ 0
    none_left m h = omega arith

-- a call that is lent neither table nor list has none
undo_none : (h : Kept) (lit : ℤ) (tail : List ℕ) → ((reply h (undo lit tail)).table ≡ []) × ((reply h (undo lit tail)).list ≡ [])
unfolding reply replied
undo_none h lit tail = (refl, refl)

pub host_made : {k k' : Kept} {q : Request} {list : List ℕ} {x : Said} → HostMade k q list x k' → Made k q list x k'
unfolding asks_page
host_made (initializes r state t list log cursor state' t' list' log' cursor' p e s) =
    made_left _ (kept_in state cursor log) _ r list state' t' list' log' cursor' _ refl p.stands e
    (initialize_replies state t list log cursor state' p.state_bytes p.log_bytes p.cursor_bytes p.state_long p.cursor_long s)
host_made (propagates r lit pending state t list log cursor state' t' list' log' cursor' p e s) =
    made_left _ (kept_in state cursor log) _ r list state' t' list' log' cursor' _ refl p.stands e
    (propagate_replies state t list log cursor state' p.state_bytes p.log_bytes p.cursor_bytes p.state_long p.cursor_long lit pending s)
host_made {k} (undoes r lit state log cursor state' cursor' p e s) =
    let h = kept_in state cursor log in
    let q = undo lit (tail_in cursor log) in
    let (t, l) = undo_none k lit (tail_in cursor log) in
    record {
      answers = record {
        code = ap (λ (z : Back). z.code) e ∙ undo_code state log cursor p.cursor_bytes p.state_long p.cursor_long lit state'
            ∙ ap (λ (x : Kept). answer_code (reply x q).answer) p.stands;
        table = sym t;
        literals = sym (in_words refl _ _ [] ∙ ap (λ (x : List ℕ). put_list x (given_by (reply k q).answer) []) l ∙ put_empty _);
      };
      keeps =
          ap (λ (z : Back). kept_in state' z.cursor log) e ∙ undo_keeps state log cursor p.cursor_bytes p.state_long p.cursor_long lit state' s
          ∙ ap (λ (x : Kept). keeping (reply x q)) p.stands;
    }
host_made {k} (asks r q state log cursor buffer buffer' p e) =
    let h = kept_in state cursor log in
    let x = ask q (entries_in q buffer) (tail_in cursor log) in
    let f = e ∙ ask_replies state log cursor p.cursor_bytes p.state_long p.cursor_long q buffer
    ∙ ap (λ (y : Kept). back (answer_code (reply y x).answer) (bytes_after (is_page q) (reply y x).list (given_by (reply y x).answer) buffer)) p.stands in
    record {
      answers = record {
        code = ap (λ (z : Back). z.code) f;
        table = ask_table state log cursor p.cursor_bytes p.state_long p.cursor_long q buffer ∙ ap (λ (y : Kept). (reply y x).table) p.stands;
        literals = ap (λ (z : Back). z.cursor) f;
      };
      keeps = sym (ask_keeps state log cursor p.cursor_bytes p.state_long p.cursor_long q buffer) ∙ ap (λ (y : Kept). keeping (reply y x)) p.stands;
    }

pub host_runs : {k k' : Kept} {qs : List Request} → AllHostMade k qs k' → k' ≡ after k qs
unfolding after
host_runs none = refl
host_runs (next {qs = qs} m ms) = host_runs ms ∙ ap (λ (h : Kept). after h qs) (host_made m).keeps

-- ---- the number and the entries
taken_fits : (h l : List ℕ) → take (length h) l ≡ take (length h) h → length h ≤ length l
taken_fits h l e =
    let a = ap length (e ∙ take-length h) in
    omega (arith, a, length-take (length h) l)

fitted_less : (n : ℕ) → fitted n ≤ n
unfolding fitted
fitted_less n = capped_less n 2147483647

fits_for : (a : calls.Answer) (h l : List ℕ) → values_of (answer_for a (length h)) l ≡ values_of (answer_for a (length h)) (written_by a h) → up (answer_code (answer_for a (length h))) ≤ length l
unfolding values_of answer_for written_by answer_code up
fits_for calls.consistent h l e = omega (arith, taken_fits h l e, fitted_less (length h))
fits_for calls.conflicting h l e = zero-le
fits_for calls.noted h l e = zero-le
fits_for calls.undone h l e = zero-le
fits_for (calls.refused n) h l e = let z = up_negated (fitted n) in omega (arith, z)
fits_for (calls.reason ls) h l e = omega (arith, taken_fits ls l e, fitted_less (length ls))
fits_for (calls.found_run gs) h l e = omega (arith, taken_fits gs l e, fitted_less (length gs))
fits_for (calls.printed_page bs) h l e = omega (arith, taken_fits bs l e, fitted_less (length bs))

answer_fits : (k : Kept) (q : Request) (o : calls.Outcome) → Whole k q o → up (answer_code (reply k q).answer) ≤ length (lent_list q)
unfolding answer_of
answer_fits k q o w =
    let e = ap (λ (x : Answer). values_of x (reply k q).list) (sym w.answer) ∙ w.values in
    let a = ap (λ (x : Answer). up (answer_code x)) w.answer in
    let b = ap length w.list ∙ length-sets (lent_list q) 0 (written_of o) in
    omega (arith, a, b, fits_for o.answer o.handed (reply k q).list e)

buffer_room : (b : List ℕ) → 2 * length (buffer_in b) ≤ length b
unfolding buffer_in
buffer_room b =
    let m = capped (length b / 2) 260 in
    let e = length-take-le m (replicate {A = ℕ} 260 0) (omega (arith, capped_most (length b / 2) 260, length-replicate {A = ℕ} 260 0)) in
    omega (arith, e, capped_less (length b / 2) 260)

-- the entries of a query's buffer are no more than its bytes have
entries_room : (q : Query) (b : List ℕ) → entry_bytes (is_page q) * length (entries_in q b) ≤ length b
unfolding entry_bytes entries_in
entries_room q b = tested (is_page q)
    (λ t. let a : pick {A = ℕ} (is_page q) 1 2 ≡ 1 = pick_yes _ _ t in
    let z = ap length (pick_yes b (buffer_in b) t) in
    subst (λ (m : ℕ). m * length (pick (is_page q) b (buffer_in b)) ≤ length b) (sym a) (omega arith))
    (λ t. let a : pick {A = ℕ} (is_page q) 1 2 ≡ 2 = pick_no _ _ t in
    let z = ap length (pick_no b (buffer_in b) t) in
    subst (λ (m : ℕ). m * length (pick (is_page q) b (buffer_in b)) ≤ length b) (sym a) (omega (arith, buffer_room b)))

pub made_room : {k k' : Kept} {q : Request} {list : List ℕ} {x : Said} → HostMade k q list x k' → entry_bytes (asks_page q) * length (lent_list q) ≤ length list
unfolding lent_list asks_page entry_bytes pick
made_room (initializes r state t list log cursor state' t' list' log' cursor' p e s) = list_room list
made_room (propagates r lit pending state t list log cursor state' t' list' log' cursor' p e s) = list_room list
made_room (undoes r lit state log cursor state' cursor' p e s) = zero-le
made_room (asks r q state log cursor buffer buffer' p e) = entries_room q buffer

-- fewer entries take no more bytes
each_fits : (ofPage : Bool) (n m l : ℕ) → n ≤ m → entry_bytes ofPage * m ≤ l → entry_bytes ofPage * n ≤ l
unfolding entry_bytes pick
each_fits true n m l h k = omega arith
each_fits false n m l h k = omega arith

pub host_fits : {h k k' : Kept} {q : Request} {list : List ℕ} {x : Said} (o : calls.Outcome) → Whole h q o → HostAnswers h q list x → HostMade k q list x k' →
    (n : ℕ) → x.code ≡ pos n → entry_bytes (asks_page q) * n ≤ length list
host_fits {h} {q = q} o w a m n e =
    let z = up_is (answer_code (reply h q).answer) n (sym a.code ∙ e) in
    each_fits (asks_page q) n _ _ (omega (arith, z, answer_fits h q o w)) (made_room m)

-- ---- bytes that are too short
short_asked : (state log cursor : List ℕ) → too_short state cursor ≡ true → (q : Query) (b : List ℕ) → host_asked state log cursor q b ≡ back (negsuc 6) b
unfolding host_asked host_reason host_last host_run host_page
short_asked state log cursor e (reason_for lit) b = pick_yes _ _ e
short_asked state log cursor e last_left b = pick_yes _ _ e
short_asked state log cursor e (run_between from to) b = pick_yes _ _ e
short_asked state log cursor e page b = pick_yes _ _ e

pub short_refused : (state log cursor : List ℕ) → too_short state cursor ≡ true → ShortRefused state log cursor
unfolding host_initialized host_propagated host_undone
short_refused state log cursor e = record {
  on_initialize = λ t list. pick_yes _ _ e;
  on_propagate = λ lit pending t list. pick_yes _ _ e;
  on_undo = λ lit. pick_yes _ _ e;
  on_ask = short_asked state log cursor e;
  states = λ y state' s. s.same (ap (λ (b : Bool). b || is_refused y.answer) e);
}

-- ---- a fetch on any bytes
up_code : (a : Answer) → up (answer_code a) ≤ given_by a
unfolding up answer_code
up_code (Consistent n) = fitted_less n
up_code Conflict = zero-le
up_code Noted = zero-le
up_code Undone = zero-le
up_code (Reason n) = fitted_less n
up_code (Run n) = fitted_less n
up_code (Page n) = fitted_less n
up_code (Refused n) = let z = up_negated (fitted n) in omega (arith, z)

abbrev Within : List ℕ → Fetched → Type 0
Within b x = given_by x.answer ≤ length b

copied_within : (ws l : List ℕ) (n : ℕ) (b : List ℕ) → reason_short ws (length b) ≡ false → Within b (copied ws l n b)
unfolding copied reason_over reason_short
copied_within ws l n b e = pick_ind (Within b) _ _ _ (λ _. zero-le) (λ u.
    let x = ltb-false (edges_of ws + 2 * vertices_of ws + 4) n u in
    let y = ltb-false (length b) (edges_of ws + 2 * vertices_of ws + 4) e in
    let z : n ≤ length b = omega arith in z)

given_within : (ws l : List ℕ) (x : Option ℕ) (b : List ℕ) → reason_short ws (length b) ≡ false → Within b (reason_given ws l x b)
unfolding reason_given
given_within ws l (Some n) b e = copied_within ws l n b e
given_within ws l None b e = zero-le

room_for : (ws : List ℕ) (ends : List (List ℕ)) (noted log : List ℕ) (n : ℕ) (c : Cursor) → fetch_refusal ws ends noted n log c ≡ 0 → reason_short ws n ≡ false
unfolding fetch_refusal
room_for ws ends noted log n c e =
    (or_none (state_bad ws ends noted log c) (reason_short ws n) (pick_zero (state_bad ws ends noted log c || reason_short ws n) 7 0 (omega arith) e).0).1

-- a run goes no further than its buffer
pushed_place : (x : ℕ) (o : Out) → o.place ≤ length o.text → (pushed x o).place ≤ length (pushed x o).text
unfolding pushed
pushed_place x o h = pick_ind (λ (z : Out). z.place ≤ length z.text) _ _ _
    (λ t. let k = ltb-true o.place (length o.text) t in omega (arith, length-set o.text o.place x)) (λ _. h)

written_place : (l : List ℕ) (o : Out) → o.place ≤ length o.text → (written l o).place ≤ length (written l o).text
unfolding written
written_place [] o h = h
written_place (x ∷ l) o h = written_place l (pushed x o) (pushed_place x o h)

listed_within : (x : List (List ℕ)) (b : List ℕ) → given_by (run_answer (listed x (out_of b 0)).listed) ≤ length b
unfolding listed given missing
listed_within [] b = zero-le
listed_within (l ∷ ls) b = let z = written_place l (out_of b 0) zero-le in omega (arith, z, written_length l (out_of b 0))

run_within : (s : GraphDivision) (from to : ℤ) (b : List ℕ) → given_by (run_answer (best_listed s from to b).listed) ≤ length b
unfolding best_listed run_listed missing
run_within s from to b = pick_ind (λ (a : walks.Answer). given_by (run_answer a.listed) ≤ length b) _ _ _ (λ _. listed_within _ b) (λ _. zero-le)

-- a page goes no further than its buffer, and has at most 64 lines
page_within : (t : Figures) (n : ℕ) (b : List ℕ) → (given_by (page_answer (lines.printed_in t n b).printed) ≤ length b) × (given_by (page_answer (lines.printed_in t n b).printed) ≤ 2496)
unfolding lines.printed_in
page_within t n b = pick_ind Fits _ _ _ (λ _. (zero-le, zero-le))
    (λ u. pick_ind Fits _ _ _ (λ _. (zero-le, zero-le))
    (λ v. (ltb-false (length b) (39 * lines.num_regions t.label n) v, omega (arith, ltb-false 64 n u, regions_few t.label n))))
  where
    Fits : lines.PageBuffer → Type 0
    Fits a = (given_by (page_answer a.printed) ≤ length b) × (given_by (page_answer a.printed) ≤ 2496)

-- whatever the state, the log and the cursor are
pub asked_within : (s : GraphDivision) (c : Cursor) (log : List ℕ) (q : Query) (b : List ℕ) → given_by (asked s c log q b).answer ≤ length b
unfolding asked reason_fetched last_fetched run_fetched page_fetched page_printed giving
asked_within s c log (reason_for lit) b =
    pick_ind (Within b) _ _ _
    (λ t. pick_ind (Within b) _ _ _
    (λ _. pick_ind (Within b) _ _ _ (λ _. zero-le) (λ _. given_within s.plan _ _ b (room_for s.plan s.edges.ends s.noted log (length b) c (eqb-true _ 0 t))))
    (λ _. zero-le))
    (λ _. zero-le)
asked_within s c log last_left b =
    pick_ind (Within b) _ _ _
    (λ t. copied_within s.plan _ _ b (room_for s.plan s.edges.ends s.noted log (length b) c (eqb-true _ 0 t)))
    (λ _. zero-le)
asked_within s c log (run_between from to) b = pick_ind (Within b) _ _ _ (λ _. run_within s from to b) (λ _. zero-le)
asked_within s c log page b = pick_ind (Within b) _ _ _ (λ _. zero-le) (λ _. (page_within (figures_in s) (vertices_of s.plan) b).0)

-- a page is short, whatever its buffer
pub page_few : (h : Kept) (q : Request) → asks_page q ≡ true → given_by (reply h q).answer ≤ 2496
unfolding asks_page is_page reply replied_fetched asked page_fetched page_printed
page_few h (initialize t list tail) e = absurd (false≢true e)
page_few h (propagate lit pending t list tail) e = absurd (false≢true e)
page_few h (undo lit tail) e = absurd (false≢true e)
page_few h (ask (reason_for lit) b tail) e = absurd (false≢true e)
page_few h (ask last_left b tail) e = absurd (false≢true e)
page_few h (ask (run_between from to) b tail) e = absurd (false≢true e)
page_few h (ask page b tail) e =
    pick_ind (λ (x : Fetched). given_by x.answer ≤ 2496) _ _ _ (λ _. zero-le)
    (λ _. (page_within (figures_in h.state) (vertices_of h.state.plan) b).1)

none_fits : (ofPage : Bool) (l : ℕ) → entry_bytes ofPage * 0 ≤ l
unfolding entry_bytes pick
none_fits true l = zero-le
none_fits false l = zero-le

-- a query's number, on any bytes whatever, is no more than its buffer has entries
pub fetch_fits : (state log cursor : List ℕ) (q : Query) (buffer : List ℕ) (n : ℕ) → (host_asked state log cursor q buffer).code ≡ pos n →
    entry_bytes (is_page q) * n ≤ length buffer
unfolding up
fetch_fits state log cursor q buffer n e = tested (too_short state cursor)
    (λ t. let z : n ≡ 0 = up_is (negsuc 6) n (sym (ap (λ (z : Back). z.code) (short_asked state log cursor t q buffer)) ∙ e) in each_fits (is_page q) n 0 (length buffer) (omega arith) (none_fits (is_page q) (length buffer)))
    (λ t.
    let x = asked (state_in state) (cursor_in cursor) (log_in (cursor_in cursor) log) q (entries_in q buffer) in
    let z = up_is (answer_code x.answer) n (sym (ap (λ (z : Back). z.code) (asked_given state log cursor t q buffer)) ∙ e) in
    let w = asked_within (state_in state) (cursor_in cursor) (log_in (cursor_in cursor) log) q (entries_in q buffer) in
    each_fits (is_page q) n (length (entries_in q buffer)) (length buffer) (omega (arith, z, up_code x.answer, w)) (entries_room q buffer))
