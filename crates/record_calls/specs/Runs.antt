-- Any list of calls on records, as their contracts have them: each is lent what a request of graph_division's specs/Runs is, but the
-- log as records. proofs/Runs.antt says that they reply as the flat calls do.
use Rattle.std.specs.Prelude.{◌≡◌, List, [], ◌∷◌, ◌++◌, map, ℕ, ℤ, take}
use Rattle.undo_log.specs.declared.Record.{Record}
use Rattle.undo_log.specs.declared.Cursor.{Cursor}
use Rattle.undo_log.specs.Log.{word_of}
use Rattle.graph_division.specs.declared.GraphDivision.{GraphDivision}
use Rattle.graph_division.specs.declared.Outcome.{Outcome}
use Rattle.graph_division.specs.declared.Answer.{Answer}
use Rattle.graph_division.specs.Calls.{called, fetched}
use Rattle.graph_division.specs.Runs.{Query, Request, initialize, propagate, undo, ask, kept, Reply, replied, replied_fetched}
use Rattle.graph_division.specs.Runs as flat
use Rattle.record_calls.specs.Checked.{checked_initialized, checked_propagated, checked_undone, checked_asked}

-- what is kept from call to call: the state, the cursor, and the records up to it
pub record Kept : Type 0 where
  pub state : GraphDivision
  pub cursor : Cursor
  pub records : List Record

-- the same with the records' words
abbrev pub in_words : Kept → flat.Kept
in_words k = kept k.state k.cursor (map word_of k.records)

-- the words of the log that a call is lent, `rest` from the cursor on
abbrev pub log_words : Kept → List Record → List ℕ
log_words k rest = map word_of (k.records ++ rest)

-- what is kept of a state, a cursor and a log
abbrev pub keeping : GraphDivision → Cursor → List Record → Kept
keeping s c log = record { state = s; cursor = c; records = take c.used log }

-- a call with its contract: the request, what it replies, and what is kept then
pub data Made (k : Kept) : Request → Reply → Kept → Type 0 where
  initializes : (t list t' list' : List ℕ) (rest log' : List Record) (r : Outcome) →
      called r t' list' (map word_of log') ≡ checked_initialized k.state k.cursor t (log_words k rest) list →
      Made k (initialize t list (map word_of rest)) (replied r t' list' (map word_of log')) (keeping r.state r.cursor log')
  propagates : (lit pending : ℤ) (t list t' list' : List ℕ) (rest log' : List Record) (r : Outcome) →
      called r t' list' (map word_of log') ≡ checked_propagated k.state k.cursor lit pending t list (log_words k rest) →
      Made k (propagate lit pending t list (map word_of rest)) (replied r t' list' (map word_of log')) (keeping r.state r.cursor log')
  undoes : (lit : ℤ) (rest : List Record) (r : Outcome) → r ≡ checked_undone k.state k.cursor lit (log_words k rest) →
      Made k (undo lit (map word_of rest)) (replied r [] [] (log_words k rest)) (keeping r.state r.cursor (k.records ++ rest))
  asks : (q : Query) (b b' : List ℕ) (rest : List Record) (a : Answer) → fetched a b' ≡ checked_asked k.state k.cursor (log_words k rest) q b →
      Made k (ask q b (map word_of rest)) (replied_fetched (in_words k) (log_words k rest) (fetched a b')) (keeping k.state k.cursor (k.records ++ rest))

-- a list of them
pub data AllMade : Kept → List Request → Kept → Type 0 where
  none : {k : Kept} → AllMade k [] k
  next : {k mid end : Kept} {q : Request} {qs : List Request} {y : Reply} → Made k q y mid → AllMade mid qs end → AllMade k (q ∷ qs) end
