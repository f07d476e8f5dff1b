use mathlib.Core.Path.{◌≡◌, ap, ◌∙◌}
use mathlib.Core.Bool.{Bool, not}
use mathlib.Core.List.{List}
use Prim.Native.Nat.{ℕ}
use Rattle.plan.specs.Words.{words_of}
use Rattle.plan.specs.Check.{plan_bad}
use borrow.Author.Rules.{rules}
use Rattle.by_value.proofs.check.check.Goals as goal

passing : (ws b : List ℕ) (ends es : List (List ℕ)) (r : Bool) → words_of b ≡ ws → es ≡ ends → r ≡ not (plan_bad (words_of b) es) → r ≡ not (plan_bad ws ends)
passing ws b ends es r w e f = f ∙ (λ i. not (plan_bad (w i) (e i)))

pub returns : goal.returns
returns c = passing _ _ _ _ _ c.plan_bytes-plan.ensures c.table_of-edges.ensures c.plan_ok.ensures
