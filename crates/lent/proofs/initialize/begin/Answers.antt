use mathlib.Core.Path.{refl}
use lib.ListN.{replicate}
use Rattle.lent.proofs.Begun.{begin_by}
use Rattle.lent.specs.Lent.{state_of}
use borrow.Author.Rules.{rules}
use Rattle.plan.specs.Words.{words_of}
use Rattle.lent.proofs.initialize.begin.Goals as goal

pub returns : goal.returns
returns c =
    let a = c.args in
    λ rs b r.
    begin_by (state_of (words_of a.plan.now) a.edges a.noted.now rs a.left.now a.last_len b) a.cursor a.table.now a.log.now a.list.now _ _ (replicate 8704 0) _ _ _ _ r refl c.save-entry.ensures refl c.no_words-proposals.ensures c.go_through-x.ensures
    (c.finish.ensures a.edges rs a.left.now a.last_len b _ _)
