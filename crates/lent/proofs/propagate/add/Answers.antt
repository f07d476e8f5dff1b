use mathlib.Core.Path.{◌≡◌, refl, sym, ap, ap₂, ◌∙◌}
use Rattle.lent.specs.Lent.{state_of, state_after, called_of}
use Rattle.graph_division.specs.Calls.{with_noted, with_judged, refuse, tried_out}
use Rattle.base.specs.Iter.{pick}
use Rattle.lent.proofs.Lending.{noted_only}
use borrow.Author.Rules.{rules}
use Rattle.plan.specs.Words.{words_of}
use Rattle.lent.proofs.propagate.add.Goals as goal

pub returns : goal.returns
unfolding called_of state_after pick with_noted with_judged refuse tried_out
returns c = λ ends rs last len b proposals left t list. noted_only (state_of (words_of c.args.plan.now) ends c.args.noted.now rs last len b) c.args.cursor c.args.lit _ t list _ _ _ c.note-added.ensures.0
