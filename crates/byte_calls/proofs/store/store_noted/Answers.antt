use mathlib.Core.Path.{◌≡◌, refl, sym, ap, ap₂, subst, ◌∙◌}
use Prim.Native.Nat.{ℕ, ◌≤◌, ◌<◌, ◌+◌, ◌-◌, ◌*◌, ◌/◌, ◌%◌}
use native.Mathlib.Omega.{arith}
use lib.ListN.{length, length-set, get_or, set, replicate}
use mathlib.Core.List.{List, ◌∷◌, []}
use Rattle.base.specs.Bytes.{put_words}
use Rattle.byte_calls.specs.Stores.{put_noted}
use Rattle.byte_calls.specs.Layout.{state_in}
use Rattle.byte_calls.proofs.Storing.{noted_stored}
use borrow.Author.Rules.{rules}
use Rattle.byte_calls.proofs.store.store_noted.Goals as goal

pub returns : goal.returns
unfolding put_noted
returns c = (c.write_words.ensures, ap state_in c.write_words.ensures ∙ noted_stored c.args.noted.now c.args.state.now (λ i. omega (arith, c.shared_slice_known-1.given i)) c.requires.1 c.requires.0)
