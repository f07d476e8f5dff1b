use Rattle.std.proofs.Common.{rules}
use Rattle.plan.specs.Words.{words_of, weight_of}
use Rattle.views.specs.Compute.{weight_words}
use Rattle.views.proofs.compute.weight_words.Goals as goal

pub returns : goal.returns
unfolding weight_words
returns c = c.fill.ensures (weight_of (words_of c.args.plan.now)) (λ i x h p. search rules)
