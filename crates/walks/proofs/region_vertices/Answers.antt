use mathlib.Core.Path.{refl, sym, ◌∙◌, ap}
use native.Mathlib.Omega.{arith}
use Rattle.walks.proofs.Answers.{startable_known, left_count, given_as}
use Rattle.walks.specs.Answers.{region_vertices, missing}
use Rattle.walks.specs.Walk.{member_list, order_list}
use Rattle.graph.specs.Search.{blank}
use Rattle.base.proofs.Loop.{pick_yes, pick_no}
use Rattle.walks.proofs.region_vertices.Goals as goal

pub overflow_cast-u : goal.overflow_cast-u
overflow_cast-u c = let k = startable_known _ _ _ _ (sym c.if-startable.ensures) in omega (arith, k.start, k.fine.vertices)

pub search-count-requires : goal.search-count-requires
unfolding blank
search-count-requires c = let k = startable_known _ _ _ _ (sym c.if-startable.ensures) in (k.fine, k.states, k.start, refl)

pub write_order-requires : goal.write_order-requires
write_order-requires c = let k = startable_known _ _ _ _ (sym c.if-startable.ensures) in left_count _ _ _ _ _ _ k.fine k.start c.search-count.ensures

pub returns-then-startable : goal.returns-then-startable
unfolding region_vertices member_list
returns-then-startable c = given_as _ _ _ _ c.write_order.ensures (ap order_list c.search-count.ensures) ∙ sym (pick_yes _ _ (sym c.if-startable.ensures))

pub returns : goal.returns
unfolding region_vertices missing
returns c = sym (pick_no _ _ (sym c.if-startable.ensures))
