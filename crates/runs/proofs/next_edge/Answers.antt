use mathlib.Core.Bool.{true}
use mathlib.Core.Path.{◌≡◌, sym, ap, ◌∙◌}
use native.Mathlib.Omega.{arith}
use Rattle.graph.specs.Search.{graph}
use Rattle.division.specs.Regions.{lowest}
use Rattle.runs.specs.Rounds.{far_of}
use Rattle.runs.specs.Walk.{onward}
use Rattle.division.proofs.Views.{lowest_zero, lowest_more, lowest_here}
use Rattle.runs.proofs.next_edge.Goals as goal

pub loop-g-init : goal.loop-g-init
loop-g-init c = lowest_zero _

pub leads_on-requires : goal.leads_on-requires
leads_on-requires c = let p = c.requires in (omega (arith, p.0.fits), omega arith, p.2, p.0.within _ (omega arith), p.3)

pub returns-then-leads_on : goal.returns-then-leads_on
returns-then-leads_on c =
    let a = c.args in
    let t = onward (graph a.edges.now a.state.now true) (far_of a.far.now) a.p in
    lowest_here t _ _ c.loop-g.invariant (sym c.leads_on.ensures ∙ c.if-leads_on.true) (omega arith)

pub loop-g-preserved : goal.loop-g-preserved
loop-g-preserved c =
    let a = c.args in
    let t = onward (graph a.edges.now a.state.now true) (far_of a.far.now) a.p in
    lowest_more t _ c.loop-g.invariant (sym c.if-leads_on.ensures)

pub returns : goal.returns
returns c =
    let a = c.args in
    let l = c.loop-g in
    let z : l.g ≡ a.num_edges = omega arith in
    sym (ap (lowest (onward (graph a.edges.now a.state.now true) (far_of a.far.now) a.p)) (sym z) ∙ l.invariant ∙ z)
