use mathlib.Core.Path.{◌≡◌, ap, ap₂, ◌∙◌}
use mathlib.Core.Bool.{Bool, not, not-not}
use mathlib.Core.List.{List}
use Prim.Native.Nat.{ℕ}
use Rattle.plan.specs.Words.{words_of}
use Rattle.plan.specs.Check.{plan_bad}
use Rattle.byte_calls.specs.Layout.{plan_in, ends_in}
use Rattle.byte_calls.proofs.Leaving.{plan_here}
use borrow.Author.Rules.{rules}
use Rattle.byte_calls.proofs.check.plan_bad.Goals as goal

fails : (b : List ℕ) (es : List (List ℕ)) (r : Bool) → words_of b ≡ plan_in b → es ≡ ends_in b → r ≡ not (plan_bad (words_of b) es) →
    not r ≡ plan_bad (plan_in b) (ends_in b)
fails b es r w f g = ap not g ∙ not-not _ ∙ ap₂ plan_bad w f

pub returns : goal.returns
returns c = fails _ _ _ (plan_here _ c.requires) c.read_edges.ensures c.plan_ok.ensures
