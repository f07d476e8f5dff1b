use mathlib.Core.Path.{refl, sym, ◌∙◌}
use native.Mathlib.Omega.{arith}
use Rattle.walks.proofs.Answers.{ready_known, left_small, left_count, left_some, left_tree, given_as}
use Rattle.walks.specs.Answers.{decided_region, missing}
use Rattle.graph.specs.Search.{blank}
use Rattle.base.proofs.Loop.{pick_yes, pick_no}
use Rattle.walks.proofs.reason_decided_region.Goals as goal

pub overflow_cast-u : goal.overflow_cast-u
overflow_cast-u c = let k = (ready_known _ _ _ _ _ (sym c.if-ready.ensures)).0 in omega (arith, k.start, k.fine.vertices)

pub search-count-requires : goal.search-count-requires
unfolding blank
search-count-requires c = let k = (ready_known _ _ _ _ _ (sym c.if-ready.ensures)).0 in (k.fine, k.states, k.start, refl)

pub write_tree-requires : goal.write_tree-requires
write_tree-requires c =
    let k = (ready_known _ _ _ _ _ (sym c.if-ready.ensures)).0 in
    let x = c.search-count.ensures in
    (left_some _ _ _ _ _ _ k.fine k.start x, left_count _ _ _ _ _ _ k.fine k.start x, left_small _ _ _ _ _ _ k.fine k.start x)

pub returns-then-ready : goal.returns-then-ready
unfolding decided_region
returns-then-ready c =
    let a = c.args in
    given_as _ _ _ _ c.write_tree.ensures (left_tree _ _ _ _ _ _ a.lits.now a.shape.first_lit c.search-count.ensures) ∙
    sym (pick_yes _ _ (sym c.if-ready.ensures))

pub returns : goal.returns
unfolding decided_region missing
returns c = sym (pick_no _ _ (sym c.if-ready.ensures))

pub offset_bounds-lits-shape : goal.offset_bounds-lits-shape
offset_bounds-lits-shape c = omega (arith, (ready_known _ _ _ _ _ (sym c.if-ready.ensures)).1)

pub slice_bounds-write_tree-count : goal.slice_bounds-write_tree-count
slice_bounds-write_tree-count c = omega (arith, (ready_known _ _ _ _ _ (sym c.if-ready.ensures)).1)

pub slice_bounds-write_tree-start : goal.slice_bounds-write_tree-start
slice_bounds-write_tree-start c = omega (arith, (ready_known _ _ _ _ _ (sym c.if-ready.ensures)).1)
