use borrow.Author.Tests.{lt-ltb, le-ltb, eq-eqb, ne_eqb}
use mathlib.Core.Path.{refl, sym, ◌∙◌}
use native.Mathlib.Omega.{arith}
use Rattle.walks.proofs.Answers.{ready_known, left_small, left_path, left_yet, given_as}
use Rattle.walks.specs.Answers.{connected_path, missing}
use Rattle.graph.specs.Search.{blank}
use Rattle.base.proofs.Loop.{pick_yes, pick_no}
use Rattle.walks.proofs.reason_connected_path.Goals as goal
use Rattle.walks.proofs.reason_connected_path.Goals.{else-ready-via-then-ready+else-v-shape, else-ready-via-else-ready}

pub overflow_cast-u : goal.overflow_cast-u
overflow_cast-u c = let k = (ready_known _ _ _ _ _ (sym c.if-ready.ensures)).0 in omega (arith, k.start, k.fine.vertices)

pub search-requires : goal.search-requires
unfolding blank
search-requires c = let k = (ready_known _ _ _ _ _ (sym c.if-ready.ensures)).0 in (k.fine, k.states, k.start, refl)

pub overflow_add-v : goal.overflow_add-v
overflow_add-v c = let k = (ready_known _ _ _ _ _ (sym c.if-ready.ensures)).0 in omega (arith, k.fine.vertices)

pub bounds-scan-v : goal.bounds-scan-v
bounds-scan-v c = let k = (ready_known _ _ _ _ _ (sym c.if-ready.ensures)).0 in omega (arith, k.fine.vertices)

pub overflow_cast-u-then-scan-v-eq1 : goal.overflow_cast-u-then-scan-v-eq1
overflow_cast-u-then-scan-v-eq1 c = let k = (ready_known _ _ _ _ _ (sym c.if-ready.ensures)).0 in omega (arith, k.start, k.fine.vertices)

pub overflow_cast-v : goal.overflow_cast-v
overflow_cast-v c = let k = (ready_known _ _ _ _ _ (sym c.if-ready.ensures)).0 in omega (arith, k.fine.vertices)

pub write_path-requires : goal.write_path-requires
write_path-requires c =
    let k = (ready_known _ _ _ _ _ (sym c.if-ready.ensures)).0 in
    (omega (arith, k.fine.vertices), left_small _ _ _ _ _ _ k.fine k.start c.search.ensures)

pub returns-then-scan-v-eq1 : goal.returns-then-scan-v-eq1
unfolding connected_path
returns-then-scan-v-eq1 c =
    let a = c.args in
    given_as _ _ _ _ c.write_path.ensures (left_path _ _ _ _ _ _ a.lits.now a.shape.first_lit c.search.ensures a.v) ∙
    sym (pick_yes _ _ (sym c.if-ready.ensures) ∙ pick_yes _ _ (lt-ltb _ _ c.if-v-shape.true) ∙
    pick_yes _ _ (sym (left_yet _ _ _ _ _ _ a.v c.search.ensures) ∙ eq-eqb _ _ c.if-scan-v-eq1.true))

pub returns-else-scan-v-eq1 : goal.returns-else-scan-v-eq1
unfolding connected_path missing
returns-else-scan-v-eq1 c =
    let a = c.args in
    sym (pick_yes _ _ (sym c.if-ready.ensures) ∙ pick_yes _ _ (lt-ltb _ _ c.if-v-shape.true) ∙
    pick_no _ _ (sym (left_yet _ _ _ _ _ _ a.v c.search.ensures) ∙ ne_eqb _ _ c.if-scan-v-eq1.false))

pub returns-else-ready : goal.returns-else-ready
unfolding connected_path missing
returns-else-ready c = elim c.else-ready.branch [
  | else-ready-via-then-ready+else-v-shape w ↦
      sym (pick_yes _ _ (sym w.if-ready.ensures) ∙ pick_no _ _ (le-ltb _ _ w.if-v-shape.false))
  | else-ready-via-else-ready w ↦ sym (pick_no _ _ (sym w.if-ready.ensures))
]

pub offset_bounds-lits-shape : goal.offset_bounds-lits-shape
offset_bounds-lits-shape c = omega (arith, (ready_known _ _ _ _ _ (sym c.if-ready.ensures)).1)

pub slice_bounds-write_path-count : goal.slice_bounds-write_path-count
slice_bounds-write_path-count c = omega (arith, (ready_known _ _ _ _ _ (sym c.if-ready.ensures)).1)

pub slice_bounds-write_path-start : goal.slice_bounds-write_path-start
slice_bounds-write_path-start c = omega (arith, (ready_known _ _ _ _ _ (sym c.if-ready.ensures)).1)
