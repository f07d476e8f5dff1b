use mathlib.Core.Path.{sym, ap, ◌∙◌}
use mathlib.Core.List.{List, map}
use Prim.Native.Nat.{ℕ, ◌+◌, ◌≤◌}
use native.Mathlib.Omega.{arith}
use lib.ListN.{length, drop}
use Rattle.text.specs.declared.Seen.{Seen}
use Rattle.text.specs.Fields.{tab}
use Rattle.text.specs.Number.{field_of}
use Rattle.text.specs.Steps.{more}
use Rattle.text.proofs.Cut.{upto_in, more_none}
use Rattle.text.proofs.Seeing.{look, look_all, look_end, see_step, counted, none_counted}
use Rattle.text.proofs.see_from.Goals as goal
use Rattle.text.proofs.see_from.Goals.{After-end_at-e}

pub loop-at-init : goal.loop-at-init
loop-at-init c =
    let a = c.args in
    let e = c.see_none-s.ensures in
    let fs = map field_of (more tab (drop a.end a.line.now)) in
    (omega arith, omega (arith, none_counted c.see_none-s.result e), ap (λ (s : Seen). look s fs) e ∙ look_all fs)

pub overflow_add-from : goal.overflow_add-from
overflow_add-from c = omega arith

-- the field ends within the line
inside : (c : After-end_at-e) → c.end_at-e.result ≤ length c.args.line.now
inside c =
    let l = c.args.line.now in
    let i = c.loop-at.at in
    omega (arith, c.end_at-e.ensures, upto_in tab l (i + 1) (omega arith))

pub slice_bounds-read_field-count : goal.slice_bounds-read_field-count
slice_bounds-read_field-count c = omega (arith, c.end_at-e.ensures)

pub slice_bounds-read_field-start : goal.slice_bounds-read_field-start
slice_bounds-read_field-start c = omega (arith, c.end_at-e.ensures, inside (goal.at.slice_bounds-read_field-start c).After-end_at-e)

pub slice_bounds-read_field-end : goal.slice_bounds-read_field-end
slice_bounds-read_field-end c = omega (arith, c.end_at-e.ensures, inside (goal.at.slice_bounds-read_field-end c).After-end_at-e)

pub see_next-s-requires : goal.see_next-s-requires
see_next-s-requires c = omega arith

pub loop-at-smaller : goal.loop-at-smaller
loop-at-smaller c = omega (arith, c.end_at-e.ensures, inside (goal.at.loop-at-smaller c).After-end_at-e)

pub loop-at-preserved : goal.loop-at-preserved
loop-at-preserved c =
    let l = c.loop-at in
    let a = c.args in
    let f = c.read_field-f in
    let n = counted l.s c.see_next-s.result f.result a.line.now l.at c.end_at-e.result c.see_next-s.ensures in (
      inside (goal.at.loop-at-preserved c).After-end_at-e,
      omega (arith, n, l.invariant.1, c.end_at-e.ensures),
      see_step l.s c.see_next-s.result f.result a.line.now l.at c.end_at-e.result (omega arith) c.end_at-e.ensures f.ensures c.see_next-s.ensures
          ∙ l.invariant.2,
    )

pub returns : goal.returns
returns c =
    let l = c.loop-at in
    let a = c.args in
    sym (look_end l.s)
    ∙ ap (λ (ps : List (List ℕ)). look l.s (map field_of ps)) (sym (more_none tab a.line.now l.at c.loop-at-test.false))
    ∙ l.invariant.2
