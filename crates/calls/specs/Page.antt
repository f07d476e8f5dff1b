-- Document 02, request 3: what a page says of the state that the standing literals give.
use Rattle.std.specs.Prelude.{ℕ, ◌*◌, ◌<◌, ◌≤◌, ◌≡◌, ◌↔◌, List, [], ◌∷◌, ◌++◌, length}
use Rattle.division.specs.Plan.{Plan}
use Rattle.division.specs.Division.{Weight}
use Rattle.division.specs.State.{State, Same}
use Rattle.division.specs.Noting.{In}
use Rattle.pages.specs.Line.{line}
use Rattle.pages.specs.Reading.{LineReads}
use Rattle.calls.specs.Order.{Rising}

-- l has exactly the numbers that meet P, each once, rising
pub record Listing (P : ℕ → Type 0) (l : List ℕ) : Type 0 where
  pub rising : Rising l
  pub exactly : (x : ℕ) → In l x ↔ P x

-- vertex p is in the region of vertex r: "pens joined by open gates"
pub record Member (d : Plan) (s : State) (r p : ℕ) : Type 0 where
  pub known : p < d.vertices
  pub joined : Same d s r p

-- vertex r is the lowest of its region; a region is told by it
pub record Lowest (d : Plan) (s : State) (r : ℕ) : Type 0 where
  pub known : r < d.vertices
  pub least : (p : ℕ) → Member d s r p → r ≤ p

-- "pens in the region, heads, greatest lower bound, least upper bound", of the region of vertex r
pub record RegionFields (d : Plan) (s : State) (r count weight lower upper : ℕ) : Type 0 where
  pub members : List ℕ
  pub listing : Listing (Member d s r) members
  pub counted : count ≡ length members
  pub weighs : Weight d (Same d s r) weight
  pub above : (p : ℕ) → Member d s r p → s.lower p ≤ lower
  pub greatest : (p : ℕ) × Member d s r p × (s.lower p ≡ lower)
  pub below : (p : ℕ) → Member d s r p → upper ≤ s.upper p
  pub least : (p : ℕ) × Member d s r p × (s.upper p ≡ upper)

-- the lines of the regions whose lowest vertices are listed, in this order: each begins with "lowest pen", and gives
-- its five fields back
pub data PageLines (d : Plan) (s : State) : List ℕ → List ℕ → Type 0 where
  none : PageLines d s [] []
  next : {r count weight lower upper : ℕ} {rs bytes : List ℕ} → RegionFields d s r count weight lower upper →
      LineReads r count weight lower upper (line r count weight lower upper) → PageLines d s rs bytes →
      PageLines d s (r ∷ rs) (line r count weight lower upper ++ bytes)

-- "Print one line for each region, in order of its lowest pen"
pub record PageOf (d : Plan) (s : State) (bytes : List ℕ) : Type 0 where
  pub regions : List ℕ
  pub listing : Listing (Lowest d s) regions
  pub lines : PageLines d s regions bytes
  pub long : length bytes ≡ 39 * length regions
