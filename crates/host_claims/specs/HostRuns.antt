-- Any list of the C host's calls on bytes, refused ones included, each as its contract in crate byte_calls has it, and the conditions of the
-- order of them.
use Rattle.std.specs.Prelude.{◌≡◌, ◌↔◌, Bool, true, false, List, [], ◌∷◌, ℕ, ◌+◌, ◌*◌, ◌<◌, ◌≤◌, ℤ, pos, negsuc, neg_ℤ, length, get_or, take, drop}
use Rattle.base.specs.Iter.{pick}
use Rattle.base.specs.Lists.{tab, Every}
use Rattle.sat.specs.Literal.{Holds}
use Rattle.division.specs.Plan.{Plan}
use Rattle.division.specs.Division.{Valid, Describes}
use Rattle.refusals.specs.Calls.{lit_given}
use Rattle.calls.specs.Table.{unset_in}
use Rattle.calls.specs.Table as tables
use Rattle.calls.specs.Marks.{current_code}
use Rattle.calls.specs.Claim.{Covers}
use Rattle.graph_division.specs.declared.Outcome.{Outcome}
use Rattle.graph_division.specs.declared.Answer.{Answer}
use Rattle.graph_division.specs.declared.Answer.TheVariants.{Conflict, Noted, Refused}
use Rattle.graph_division.specs.Answers.{number_of}
use Rattle.graph_division.specs.Runs.{Query, reason_for, last_left, run_between, page, Request, initialize, propagate}
use Rattle.graph_division.specs.Runs.{undo, ask, table_of, Kept, kept, reply, after}
use Rattle.claims.specs.Whole.{literals_of}
use Rattle.claims.specs.Conditions.{AllQuiet, standing_then, Condition1, Condition2, Condition3}
use Rattle.claims.specs.Runs.{RunsBetween}
use Rattle.claims.specs.Crossed.{CrossedConflicts}
use Rattle.claims.specs.Pages.{Pages}
use Rattle.claims.specs.Standing.{NothingStandingProposed}
use Rattle.byte_calls.specs.Codes.{answer_code, given_by}
use Rattle.byte_calls.specs.Layout.{state_in, cursor_in, log_in, list_in, buffer_in}
use Rattle.byte_calls.specs.Stores.{put_list}
use Rattle.byte_calls.specs.Host.{left_with, too_short, initialized_in, host_initialized, propagated_in, host_propagated}
use Rattle.byte_calls.specs.Host.{Back, back, undone_in, host_undone, host_reason, host_last, host_run, host_page}
use Rattle.byte_calls.specs.After.{Leaves}

-- what the bytes of a state, of a cursor and of a log keep from call to call, and the log's entries from the cursor on
abbrev pub kept_in : List ℕ → List ℕ → List ℕ → Kept
kept_in state cursor log = kept (state_in state) (cursor_in cursor) (take (cursor_in cursor).used (log_in (cursor_in cursor) log))

abbrev pub tail_in : List ℕ → List ℕ → List ℕ
tail_in cursor log = drop (cursor_in cursor).used (log_in (cursor_in cursor) log)

-- every entry of a lent `[u8]` is one
abbrev pub Bytes : List ℕ → Type 0
Bytes b = (i : ℕ) → get_or b i 0 < 256

-- Document 01, "each later one" gets "the state, the cursor and the log up to it as the call before left them": a call where k is kept is lent
-- bytes that stand for it, a state and a cursor as long as their layouts; the log past the cursor may hold anything
pub record LentFor (k : Kept) (state log cursor : List ℕ) : Type 0 where
  pub state_bytes : Bytes state
  pub log_bytes : Bytes log
  pub cursor_bytes : Bytes cursor
  pub state_long : 133440 ≤ length state
  pub cursor_long : 8 ≤ length cursor
  pub stands : kept_in state cursor log ≡ k

-- a call's number, and the bytes of the table and of the list, or of the reason buffer, after it; none of what it is not lent
pub record Said : Type 0 where
  pub code : ℤ
  pub table : List ℕ
  pub list : List ℕ

abbrev pub saying : ℤ → List ℕ → List ℕ → Said
saying r table list = record { code = r; table = table; list = list }

-- a page's buffer holds its bytes; every other list or buffer has two bytes an entry
unfoldable pub is_page : Query → Bool
is_page (reason_for lit) = false
is_page last_left = false
is_page (run_between from to) = false
is_page page = true

unfoldable pub asks_page : Request → Bool
asks_page (initialize t list tail) = false
asks_page (propagate lit pending t list tail) = false
asks_page (undo lit tail) = false
asks_page (ask q b tail) = is_page q

-- how many bytes an entry has
unfoldable pub entry_bytes : Bool → ℕ
entry_bytes ofPage = pick ofPage 1 2

-- the entries of a query's buffer before it
unfoldable pub entries_in : Query → List ℕ → List ℕ
entries_in q buffer = pick (is_page q) buffer (buffer_in buffer)

-- a buffer's bytes after a call that left these entries and gives the first n of them
unfoldable pub bytes_after : Bool → List ℕ → ℕ → List ℕ → List ℕ
bytes_after ofPage entries n bytes = pick ofPage entries (put_list entries n bytes)

-- the two fetches, the run and the page
unfoldable pub host_asked : List ℕ → List ℕ → List ℕ → Query → List ℕ → Back
host_asked state log cursor (reason_for lit) buffer = host_reason state log cursor lit buffer
host_asked state log cursor last_left buffer = host_last state log cursor buffer
host_asked state log cursor (run_between from to) buffer = host_run state log cursor from to buffer
host_asked state log cursor page buffer = host_page state log cursor buffer

-- a call of the host with its contract, where k is kept: the request that it is, the bytes of its list or its buffer
-- before it, what it says, and what its bytes keep then. The primed ones are the bytes after it.
pub data HostMade (k : Kept) : Request → List ℕ → Said → Kept → Type 0 where
  initializes : (r : ℤ) (state t list log cursor state' t' list' log' cursor' : List ℕ) → LentFor k state log cursor →
      left_with r t' list' log' cursor' ≡ host_initialized state t list log cursor →
      Leaves (too_short state cursor) (initialized_in state t list log cursor).outcome state state' →
      HostMade k (initialize t (list_in list) (tail_in cursor log)) list (saying r t' list') (kept_in state' cursor' log')
  propagates : (r lit pending : ℤ) (state t list log cursor state' t' list' log' cursor' : List ℕ) → LentFor k state log cursor →
      left_with r t' list' log' cursor' ≡ host_propagated state t list log cursor lit pending →
      Leaves (too_short state cursor) (propagated_in state t list log cursor lit pending).outcome state state' →
      HostMade k (propagate lit pending t (list_in list) (tail_in cursor log)) list (saying r t' list') (kept_in state' cursor' log')
  undoes : (r lit : ℤ) (state log cursor state' cursor' : List ℕ) → LentFor k state log cursor →
      back r cursor' ≡ host_undone state log cursor lit →
      Leaves (too_short state cursor) (undone_in state log cursor lit) state state' →
      HostMade k (undo lit (tail_in cursor log)) [] (saying r [] []) (kept_in state' cursor' log)
  asks : (r : ℤ) (q : Query) (state log cursor buffer buffer' : List ℕ) → LentFor k state log cursor →
      back r buffer' ≡ host_asked state log cursor q buffer →
      HostMade k (ask q (entries_in q buffer) (tail_in cursor log)) buffer (saying r [] buffer') (kept_in state cursor log)

-- a list of them
pub data AllHostMade : Kept → List Request → Kept → Type 0 where
  none : {k : Kept} → AllHostMade k [] k
  next : {k mid end : Kept} {q : Request} {qs : List Request} {list : List ℕ} {x : Said} →
      HostMade k q list x mid → AllHostMade mid qs end → AllHostMade k (q ∷ qs) end

-- number and bytes are those of the reply to request q where k is kept: the answer's number, the table, and the
-- literals, or the edges of the run, two bytes each, or the page's bytes, from the start of the list or the buffer on;
-- all else of it stays
pub record HostAnswers (k : Kept) (q : Request) (list : List ℕ) (x : Said) : Type 0 where
  pub code : x.code ≡ answer_code (reply k q).answer
  pub table : x.table ≡ (reply k q).table
  pub literals : x.list ≡ bytes_after (asks_page q) (reply k q).list (given_by (reply k q).answer) list

-- number r tells answer a: -100 a conflict, -101 a literal that is only noted, any other below 0 the number of a refusal; else the call is
-- accepted
pub record Tells (r : ℤ) (a : Answer) : Type 0 where
  pub conflict : r ≡ negsuc 99 → a ≡ Conflict
  pub noted : r ≡ negsuc 100 → a ≡ Noted
  pub refused : (n : ℕ) → 0 < n → n < 100 → r ≡ neg_ℤ (pos n) → a ≡ Refused n
  pub accepted : (n : ℕ) → r ≡ pos n → number_of a ≡ 0

-- the first n literals, or edges of a run, that stand in the bytes, two each, the lower byte first
unfoldable pub literals_at : List ℕ → ℕ → List ℕ
literals_at b n = tab (λ i. get_or b (2 * i) 0 + 256 * get_or b (2 * i + 1) 0) n

-- or the first n bytes of a page
unfoldable pub values_at : Bool → List ℕ → ℕ → List ℕ
values_at ofPage b n = pick ofPage (take n b) (literals_at b n)

-- a call that is lent a state or a cursor shorter than its layout: 7, and every byte stays
pub record ShortRefused (state log cursor : List ℕ) : Type 0 where
  pub on_initialize : (t list : List ℕ) → host_initialized state t list log cursor ≡ left_with (negsuc 6) t list log cursor
  pub on_propagate : (lit pending : ℤ) (t list : List ℕ) → host_propagated state t list log cursor lit pending ≡ left_with (negsuc 6) t list log cursor
  pub on_undo : (lit : ℤ) → host_undone state log cursor lit ≡ back (negsuc 6) cursor
  pub on_ask : (q : Query) (b : List ℕ) → host_asked state log cursor q b ≡ back (negsuc 6) b
  pub states : (y : Outcome) (state' : List ℕ) → Leaves (too_short state cursor) y state state' → state' ≡ state

-- a literal's code in a table
abbrev pub entry_of : List ℕ → ℕ → ℕ
entry_of t l = tables.code_of t l

-- a number that is no refusal's
abbrev pub IsAccepted : ℤ → Type 0
IsAccepted r = (n : ℕ) → 0 < n → n < 100 → r ≡ neg_ℤ (pos n) → ⊥

-- Condition 3 of numbers and bytes: start is what the built bytes keep, d their plan
pub record BytesCondition3 (start : Kept) (d : Plan) : Type 0 where
  -- "no call answers a conflict", -100, "whose listed literals", which `zuntjev_calc_last` straight after it gives, "all hold in some valid
  -- division"
  pub conflicts : {qs : List Request} {k mid end : Kept} {q : Request} {list b rest buffer : List ℕ} {x y : Said} →
      AllHostMade start qs k → HostMade k q list x mid → x.code ≡ negsuc 99 →
      HostMade mid (ask last_left b rest) buffer y end → (n : ℕ) → y.code ≡ pos n →
      (σ : ℕ → Bool) → Valid d σ → Every (Holds σ) (literals_at y.list n) → ⊥
  -- "no call hands on a literal", which was unset and whose entry becomes 3 or 4, "that fails in a valid division where its reason, fetched
  -- before any later accepted call but a fetch, holds"
  pub handed : {qs amid : List Request} {k mid late end : Kept} {q : Request} {list b rest buffer : List ℕ} {x y : Said} {lit : ℤ} →
      AllHostMade start qs k → HostMade k q list x mid →
      unset_in (table_of q) (lit_given lit) ≡ true → entry_of x.table (lit_given lit) ≡ current_code (lit_given lit) →
      AllHostMade mid amid late → AllQuiet mid amid →
      HostMade late (ask (reason_for lit) b rest) buffer y end → (n : ℕ) → y.code ≡ pos n →
      (σ : ℕ → Bool) → Valid d σ → Every (Holds σ) (literals_at y.list n) → Holds σ (lit_given lit)
  -- "an accepted notification with nothing pending, after which every variable has a standing literal, is answered consistent exactly when the
  -- standing literals describe a valid division"
  pub exact : {qs : List Request} {k end : Kept} {lit : ℤ} {t l rest list : List ℕ} {x : Said} →
      let q = propagate lit (pos 0) t l rest in
      AllHostMade start qs k → HostMade k q list x end → IsAccepted x.code → Covers d (standing_then d start qs q) →
      ((n : ℕ) × (x.code ≡ pos n)) ↔ Describes d (standing_then d start qs q)

-- the conditions of the order, of the host's calls: start is what the built bytes keep, d their plan, and the options are as given
pub record HostConditions (sameSize extraWalls : ℤ) (start : Kept) (d : Plan) : Type 0 where
  -- after any list of calls, each answers, and leaves in its bytes, what the reply to its request after their requests does
  pub answers : {qs : List Request} {k k' : Kept} {q : Request} {list : List ℕ} {x : Said} →
      AllHostMade start qs k → HostMade k q list x k' → HostAnswers (after start qs) q list x
  pub tells : {qs : List Request} {k k' : Kept} {q : Request} {list : List ℕ} {x : Said} →
      AllHostMade start qs k → HostMade k q list x k' → Tells x.code (reply (after start qs) q).answer
  -- and a number of literals, of edges or of bytes is no more than the list or the buffer has entries
  pub fits : {qs : List Request} {k k' : Kept} {q : Request} {list : List ℕ} {x : Said} →
      AllHostMade start qs k → HostMade k q list x k' → (n : ℕ) → x.code ≡ pos n →
      entry_bytes (asks_page q) * n ≤ length list
  -- the literals that it gives, handed on or fetched, the edges of its run, or the bytes of its page, are read from
  -- those bytes, as many as the number says
  pub reads : {qs : List Request} {k k' : Kept} {q : Request} {list : List ℕ} {x : Said} →
      AllHostMade start qs k → HostMade k q list x k' → (n : ℕ) → x.code ≡ pos n →
      values_at (asks_page q) x.list n ≡ literals_of (reply (after start qs) q)
  -- of these replies the conditions speak, and document 02, requests 1, 2, 3 and 5
  pub runs_between : RunsBetween start d
  pub crossed_conflicts : CrossedConflicts start d
  pub pages : Pages start d
  pub nothing_standing_proposed : NothingStandingProposed start d
  pub condition_1 : Condition1 start d
  pub condition_2 : Condition2 start d
  -- "Both options off"
  pub condition_3 : sameSize ≡ pos 0 → extraWalls ≡ pos 0 → Condition3 start d
  -- and so of numbers and bytes
  pub of_bytes : sameSize ≡ pos 0 → extraWalls ≡ pos 0 → BytesCondition3 start d
