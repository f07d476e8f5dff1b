use Rattle.std.proofs.Common.{◌≡◌, Bool, ℕ}
use Rattle.views.proofs.Ties.{Choosing}
use Rattle.views.proofs.members.best.Given as goal

abbrev pub invariant-loop-x : goal.invariant-loop-x
invariant-loop-x g l = goal.F-IsAlwaysCallable g l.is_better
    × ((t : ℕ → ℕ → Bool) → ((c a : ℕ) (r : Bool) → goal.F-post g l.is_better c a r → r ≡ t c a) → Choosing t l.vertices l.region l.a l.x-index)
