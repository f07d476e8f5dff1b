-- Document 02, request 2: the answer where bounds cross.
use Rattle.std.specs.Prelude.{ℕ, ◌≡◌, Bool, List, []}
use Rattle.division.specs.Plan.{Plan}
use Rattle.division.specs.Crossed.{CrossedPair}
use Rattle.calls.specs.Calls.{World, Call, propagate, conflicting, call}

-- "Where 12 was given, the answer becomes a conflict listing that pen's lower literal, then its upper literal.": call c
-- in world w, whose analysis where ms stands finds crossed bounds
pub record CrossedAnswer (d : Plan) (w : World) (c : Call) (ms : List ℕ) : Type 0 where
  pub answer : (call d c w).answer ≡ conflicting
  -- "The notification then stands."
  pub standing : (call d c w).world.standing ≡ ms
  pub pair : CrossedPair d ms (call d c w).world.last
  -- and a notification hands nothing on
  pub nothing : (room : Bool) (t : List ℕ) (l : ℕ) (pending : Bool) → c ≡ propagate room t l pending →
      (call d c w).handed ≡ []
