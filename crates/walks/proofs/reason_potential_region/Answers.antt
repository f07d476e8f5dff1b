use mathlib.Core.Path.{refl, sym, ◌∙◌}
use native.Mathlib.Omega.{arith}
use Rattle.walks.proofs.Answers.{ready_known, left_border, given_as}
use Rattle.walks.specs.Answers.{potential_region, missing}
use Rattle.graph.specs.Search.{blank}
use Rattle.base.proofs.Loop.{pick_yes, pick_no}
use Rattle.walks.proofs.reason_potential_region.Goals as goal

pub overflow_cast-u : goal.overflow_cast-u
overflow_cast-u c = let k = (ready_known _ _ _ _ _ (sym c.if-ready.ensures)).0 in omega (arith, k.start, k.fine.vertices)

pub search-requires : goal.search-requires
unfolding blank
search-requires c = let k = (ready_known _ _ _ _ _ (sym c.if-ready.ensures)).0 in (k.fine, k.states, k.start, refl)

pub write_border-requires : goal.write_border-requires
write_border-requires c = let k = (ready_known _ _ _ _ _ (sym c.if-ready.ensures)).0 in (k.fine, k.states)

pub returns-then-ready : goal.returns-then-ready
unfolding potential_region
returns-then-ready c =
    let a = c.args in
    given_as _ _ _ _ c.write_border.ensures (left_border _ _ _ _ _ _ a.lits.now a.shape.first_lit c.search.ensures) ∙
    sym (pick_yes _ _ (sym c.if-ready.ensures))

pub returns : goal.returns
unfolding potential_region missing
returns c = sym (pick_no _ _ (sym c.if-ready.ensures))

pub offset_bounds-lits-shape : goal.offset_bounds-lits-shape
offset_bounds-lits-shape c = omega (arith, (ready_known _ _ _ _ _ (sym c.if-ready.ensures)).1)

pub slice_bounds-write_border-count : goal.slice_bounds-write_border-count
slice_bounds-write_border-count c = omega (arith, (ready_known _ _ _ _ _ (sym c.if-ready.ensures)).1)

pub slice_bounds-write_border-start : goal.slice_bounds-write_border-start
slice_bounds-write_border-start c = omega (arith, (ready_known _ _ _ _ _ (sym c.if-ready.ensures)).1)
