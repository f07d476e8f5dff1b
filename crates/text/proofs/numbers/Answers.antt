use mathlib.Core.Path.{◌≡◌, sym, subst}
use Prim.Native.Nat.{◌+◌, ◌≤◌, ◌<◌}
use native.Mathlib.Omega.{arith}
use lib.ListN.{length}
use Rattle.text.specs.declared.Field.{Field}
use Rattle.text.specs.Fields.{tab, upto}
use Rattle.text.proofs.Cut.{upto_within, upto_in}
use Rattle.text.proofs.Runs.{field_small}
use Rattle.text.proofs.Filling.{walk_start, walk_step, walk_length, walk_filled}
use Rattle.text.proofs.numbers.Goals as goal
use Rattle.text.proofs.numbers.Goals.{After-end_at-e}

pub loop-at-init : goal.loop-at-init
loop-at-init c =
    let a = c.args in
    let e : c.end_at-at.result ≡ upto tab a.line.now = omega (arith, c.end_at-at.ensures) in
    walk_start a.line.now a.from a.out.now c.end_at-at.result (omega (arith, upto_within tab a.line.now)) e

pub overflow_add-start : goal.overflow_add-start
overflow_add-start c = omega arith

-- the field ends within the line
inside : (c : After-end_at-e) → c.end_at-e.result ≤ length c.args.line.now
inside c =
    let l = c.args.line.now in
    let i = c.loop-at.at in
    omega (arith, c.end_at-e.ensures, upto_in tab l (i + 1) (omega arith))

pub slice_bounds-read_field-count : goal.slice_bounds-read_field-count
slice_bounds-read_field-count c = omega (arith, c.end_at-e.ensures)

pub slice_bounds-read_field-start : goal.slice_bounds-read_field-start
slice_bounds-read_field-start c = omega (arith, c.end_at-e.ensures, inside (goal.at.slice_bounds-read_field-start c).After-end_at-e)

pub slice_bounds-read_field-end : goal.slice_bounds-read_field-end
slice_bounds-read_field-end c = omega (arith, c.end_at-e.ensures, inside (goal.at.slice_bounds-read_field-end c).After-end_at-e)

pub store_number-requires : goal.store_number-requires
store_number-requires c =
    subst (λ (f : Field). f.size < 1000000000) (sym c.read_field-f.ensures)
    (field_small _)

pub overflow_add-j : goal.overflow_add-j
overflow_add-j c =
    let l = c.loop-at in
    omega (arith, l.invariant.fewer)

pub loop-at-smaller : goal.loop-at-smaller
loop-at-smaller c = omega (arith, c.end_at-e.ensures, inside (goal.at.loop-at-smaller c).After-end_at-e)

pub loop-at-preserved : goal.loop-at-preserved
loop-at-preserved c =
    let l = c.loop-at in
    let a = c.args in
    let f = c.read_field-f in
    walk_step a.line.now a.from a.out.now l.out c.store_number.new.out l.at l.j c.end_at-e.result f.result
    (omega arith) c.end_at-e.ensures f.ensures (inside (goal.at.loop-at-preserved c).After-end_at-e) c.store_number.ensures l.invariant

pub shape_of-out : goal.shape_of-out
shape_of-out c = c.loop-at.invariant.long

pub returns : goal.returns
returns c =
    let l = c.loop-at in
    let a = c.args in (
      omega (arith, walk_length a.line.now a.from a.out.now l.out l.at l.j c.loop-at-test.false l.invariant),
      walk_filled a.line.now a.from a.out.now l.out l.at l.j c.loop-at-test.false l.invariant,
    )
