-- Document 02, request 3, of the code: the page after any list of requests to a propagator from a state that is freshly
-- built, refused ones included.
use Rattle.std.specs.Prelude.{ℕ, ◌*◌, ◌<◌, ◌≤◌, ◌≡◌, ◌↔◌, true, List, [], length}
use Rattle.std.proofs.lemmas.List.Edits.{sets}
use Rattle.division.specs.Plan.{Plan}
use Rattle.division.specs.State.{State}
use Rattle.division.specs.Noting.{note_all}
use Rattle.calls.specs.Page.{Listing, Lowest, PageOf}
use Rattle.calls.specs.Refusals.{room_of}
use Rattle.graph_division.specs.declared.Answer.TheVariants as answer
use Rattle.graph_division.specs.Answers.{number_of}
use Rattle.graph_division.specs.Runs.{page, Request, ask, Kept, log_for, Reply, reply, after}
use Rattle.claims.specs.Conditions.{counted, reply_to, call_for}

-- edge states and bounds where the literals stand that follow from the requests
abbrev pub state_after : Plan → Kept → List Request → State
state_after d start before = note_all d (counted d start before [])

-- 19: "when the page buffer is under 39 bytes a region"
pub record PageShort (d : Plan) (s : State) (b : List ℕ) : Type 0 where
  pub regions : List ℕ
  pub listing : Listing (Lowest d s) regions
  pub short : length b < 39 * length regions

-- a reply that gives the page, from the buffer's start on; all else of it stays
pub record GivesPage (d : Plan) (s : State) (b : List ℕ) (r : Reply) : Type 0 where
  pub bytes : List ℕ
  pub page : PageOf d s bytes
  pub answer : r.answer ≡ answer.Page (length bytes)
  pub buffer : r.list ≡ sets b 0 bytes
  pub fits : length bytes ≤ length b

pub record Pages (start : Kept) (d : Plan) : Type 0 where
  -- where 7 does not apply: the page
  pub given : (before : List Request) (b rest : List ℕ) →
      room_of (call_for start before (ask page b rest)) ≡ true → (PageShort d (state_after d start before) b → ⊥) →
      GivesPage d (state_after d start before) b (reply_to start before (ask page b rest))
  -- or 19
  pub refused : (before : List Request) (b rest : List ℕ) → room_of (call_for start before (ask page b rest)) ≡ true →
      (number_of (reply_to start before (ask page b rest)).answer ≡ 19) ↔ PageShort d (state_after d start before) b
  -- a plan without vertices has an empty page, whatever the buffer
  pub empty : (before : List Request) (b rest : List ℕ) → room_of (call_for start before (ask page b rest)) ≡ true →
      d.vertices ≡ 0 → ((reply_to start before (ask page b rest)).answer ≡ answer.Page 0) ×
      ((reply_to start before (ask page b rest)).list ≡ b)
  -- it changes nothing but the buffer
  pub quiet : (before : List Request) (b rest : List ℕ) →
      let k = after start before in
      let r = reply k (ask page b rest) in
      (r.state ≡ k.state) × (r.cursor ≡ k.cursor) × (r.log ≡ log_for k rest)
