use mathlib.Core.Path.{◌≡◌, refl, sym, ap, ap₂, subst, ◌∙◌}
use Prim.Native.Nat.{ℕ, ◌≤◌, ◌<◌, ◌+◌, ◌-◌, ◌*◌, ◌/◌, ◌%◌}
use native.Mathlib.Omega.{arith}
use lib.ListN.{length, length-set, get_or, set, replicate}
use mathlib.Core.List.{List, ◌∷◌, []}
use Rattle.base.specs.Bytes.{put_words}
use Rattle.byte_calls.specs.Stores.{put_noted}
use Rattle.byte_calls.proofs.Building.{words_stored}
use borrow.Author.Rules.{rules}
use Rattle.byte_calls.proofs.build.store_words.Goals as goal

pub returns : goal.returns
returns c =
    let read = words_stored c.args.plan.now c.args.noted.now _ _ c.store_plan.ensures.1 c.store_noted.ensures.0 c.store_noted.ensures.1 in
    (c.store_noted.ensures.0 ∙ ap (put_noted _) c.store_plan.ensures.0, read.0, read.1)
