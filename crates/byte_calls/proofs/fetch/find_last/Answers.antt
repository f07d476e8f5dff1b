use mathlib.Core.Path.{◌∙◌}
use Rattle.byte_calls.specs.Layout.{state_in}
use Rattle.byte_calls.proofs.Filling.{read_words_in}
use Rattle.byte_calls.proofs.Leaving.{plan_here, parts_in}
use borrow.Author.Rules.{rules}
use Rattle.byte_calls.proofs.fetch.find_last.Goals as goal

pub returns : goal.returns
unfolding state_in
returns c =
    let a = c.args in
    let p = c.requires in
    c.calc_last.ensures (state_in a.state.now) (parts_in a.state.now (plan_here a.state.now p.0) p.1 p.2) (read_words_in a.state.now 62764 260 _ _ c.no_list-last.ensures c.read_words.ensures) c.word_at-len.ensures
