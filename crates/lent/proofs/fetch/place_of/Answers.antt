use mathlib.Core.Path.{◌≡◌, refl, sym, ap, ap₂, ◌∙◌}
use native.Mathlib.Omega.{arith}
use Prim.Native.Nat.{ℕ, ◌+◌, ◌*◌, ◌%◌}
use Rattle.analysis.specs.Placed.{place_of_lit}
use Rattle.noting.specs.Note.{place_in}
use borrow.Author.Rules.{rules}
use Rattle.plan.specs.Words.{words_of}
use Rattle.lent.proofs.fetch.place_of.Goals as goal

pub returns : goal.returns
unfolding place_of_lit
returns c =
    ap₂ (λ (k s : ℕ). 2 * (k % 2147483648) + s)
    (c.place_in-k.ensures ∙ ap (place_in (words_of c.args.plan.now)) c.variable.ensures)
    c.sign.ensures
