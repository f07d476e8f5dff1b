use mathlib.Core.Path.{sym, ap, ◌∙◌}
use native.Mathlib.Omega.{arith}
use Rattle.division.specs.Regions.{lowest}
use Rattle.division.proofs.Views.{lowest_zero, lowest_more, lowest_here, lowest_left}
use Rattle.noting.specs.Words.{capped, crossed_in}
use Rattle.noting.proofs.note.crossed.Goals as goal

pub loop-v-init : goal.loop-v-init
loop-v-init c = lowest_zero _

pub returns-then-crosses : goal.returns-then-crosses
unfolding crossed_in
returns-then-crosses c =
    let e = c.capped-n.ensures ∙ ap (λ k. capped k 64) c.num_vertices.ensures in
    lowest_here _ _ _ c.loop-v.invariant (sym c.crosses.ensures ∙ c.if-crosses.true) c.loop-v-test.true
    ∙ ap (lowest _) e

pub loop-v-preserved : goal.loop-v-preserved
loop-v-preserved c = (lowest_more _ _ c.loop-v.invariant (sym c.crosses.ensures ∙ c.if-crosses.false))

pub returns : goal.returns
unfolding crossed_in
returns c =
    let e = c.capped-n.ensures ∙ ap (λ k. capped k 64) c.num_vertices.ensures in
    lowest_left _ _ _ c.loop-v.invariant (omega arith) (omega arith) ∙ ap (lowest _) e
