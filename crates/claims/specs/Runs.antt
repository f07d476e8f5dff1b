-- Document 02, request 1, of the code: the run between two pens after any list of requests to a propagator from a
-- state that is freshly built, refused ones included.
use Rattle.std.specs.Prelude.{ℕ, ◌<◌, ◌≤◌, ◌≡◌, ◌↔◌, true, List, [], ℤ, pos, length}
use Rattle.std.proofs.lemmas.List.Edits.{sets}
use Rattle.graph.specs.Search.{Graph}
use Rattle.division.specs.Plan.{Plan}
use Rattle.division.specs.State.{potential}
use Rattle.division.specs.Noting.{note_all}
use Rattle.runs.specs.Run.{Run, Best}
use Rattle.calls.specs.Refusals.{room_of}
use Rattle.graph_division.specs.declared.Answer.TheVariants as answer
use Rattle.graph_division.specs.Answers.{number_of}
use Rattle.graph_division.specs.Runs.{run_between, Request, ask, Kept, log_for, Reply, reply, after}
use Rattle.claims.specs.Conditions.{counted, reply_to, call_for}

-- the edges, connected or undecided, where the literals stand that follow from the requests
abbrev pub graph_after : Plan → Kept → List Request → Graph
graph_after d start before = potential d (note_all d (counted d start before []))

-- "one pen is unknown": no vertex has this number
abbrev pub Unknown : Plan → ℤ → Type 0
Unknown d v = (p : ℕ) → p < d.vertices → v ≡ pos p → ⊥

-- 18: "when every run between the pens has a shut gate, or one pen is unknown"
pub data NoRun (d : Plan) (e : Graph) (from to : ℤ) : Type 0 where
  unknown_from : Unknown d from → NoRun d e from to
  unknown_to : Unknown d to → NoRun d e from to
  all_shut : (p q : ℕ) → from ≡ pos p → to ≡ pos q → ((l : List ℕ) → Run e d.edges p l q → ⊥) → NoRun d e from to

-- a reply that gives the run: "The gate numbers go, in order from the first pen, into a buffer"; all else of it stays
pub record GivesRun (d : Plan) (e : Graph) (from to : ℤ) (b : List ℕ) (r : Reply) : Type 0 where
  pub p : ℕ
  pub q : ℕ
  pub from_is : from ≡ pos p
  pub to_is : to ≡ pos q
  pub edges : List ℕ
  pub best : Best e d.edges p q edges
  pub answer : r.answer ≡ answer.Run (length edges)
  pub buffer : r.list ≡ sets b 0 edges
  -- no vertex is met twice
  pub few : length edges < d.vertices
  pub fits : length edges ≤ length b

pub record RunsBetween (start : Kept) (d : Plan) : Type 0 where
  -- where 7 does not apply: the best run
  pub given : (before : List Request) (from to : ℤ) (b rest : List ℕ) →
      let q = ask (run_between from to) b rest in
      room_of (call_for start before q) ≡ true → (NoRun d (graph_after d start before) from to → ⊥) →
      GivesRun d (graph_after d start before) from to b (reply_to start before q)
  -- or 18
  pub refused : (before : List Request) (from to : ℤ) (b rest : List ℕ) →
      let q = ask (run_between from to) b rest in
      room_of (call_for start before q) ≡ true →
      (number_of (reply_to start before q).answer ≡ 18) ↔ NoRun d (graph_after d start before) from to
  -- "Two equal pens give an empty run."
  pub equal : (before : List Request) (p : ℕ) (b rest : List ℕ) →
      let q = ask (run_between (pos p) (pos p)) b rest in
      room_of (call_for start before q) ≡ true → p < d.vertices →
      ((reply_to start before q).answer ≡ answer.Run 0) × ((reply_to start before q).list ≡ b)
  -- "Otherwise it is read-only"
  pub quiet : (before : List Request) (from to : ℤ) (b rest : List ℕ) →
      let k = after start before in
      let r = reply k (ask (run_between from to) b rest) in
      (r.state ≡ k.state) × (r.cursor ≡ k.cursor) × (r.log ≡ log_for k rest)
