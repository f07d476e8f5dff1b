-- `check::check`: the plan's own test, over the bytes of a state alone. It is no call of a list: log and cursor are not lent to it.
use Rattle.std.specs.Prelude.{List, ℕ, ltb, ℤ, pos, negsuc, length}
use Rattle.base.specs.Iter.{pick}
use Rattle.plan.specs.Check.{plan_bad}
use Rattle.byte_calls.specs.Layout.{plan_in, ends_in}
use Rattle.byte_calls.specs.Host.{short}

-- -7 for a state that is shorter than its layout, or whose words and edges are no plan that a building gives
unfoldable pub check_code : List ℕ → ℤ
check_code state = pick (ltb (length state) 133440) short (pick (plan_bad (plan_in state) (ends_in state)) short (pos 0))
