-- What the conditions of the order start from: the state that is built, with nothing in the log, and its plan.
use Rattle.std.specs.Prelude.{[]}
use Rattle.division.specs.Plan.{Plan}
use Rattle.plan.specs.Plan.{plan_of}
use Rattle.graph_division.specs.declared.GraphDivision.{GraphDivision}
use Rattle.graph_division.specs.declared.Built.{Built}
use Rattle.graph_division.specs.Runs.{Kept, kept}

-- the plan that the words of a state stand for
abbrev pub state_plan : GraphDivision → Plan
state_plan s = plan_of s.plan s.edges.ends

-- a state that is built, with a cursor of zeros and nothing in the log
abbrev pub just_built : Built → Kept
just_built b = kept b.state (record { used = 0; standing = 0 }) []
