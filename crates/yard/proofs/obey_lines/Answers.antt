use mathlib.Core.Path.{◌≡◌, sym, ap, ap₂, subst, ◌∙◌}
use mathlib.Core.List.{List}
use native.Mathlib.Omega.{arith}
use Prim.Native.Nat.{ℕ, ◌+◌, ◌≤◌}
use lib.ListN.{length, take, drop, replicate, length-replicate}
use Rattle.text.specs.Fields.{newline}
use Rattle.text.proofs.Cut.{upto_in}
use Rattle.desk.specs.Obey.{Desk, desk, held}
use Rattle.desk.specs.Session.{session, at_first}
use Rattle.desk.proofs.Answering.{printed_within}
use Rattle.desk.proofs.Speaking.{Left, first_left, none_left, line_shown, line_few, line_left}
use borrow.Author.Rules.{rules}
use Rattle.yard.proofs.obey_lines.Given.{Over}
use Rattle.yard.proofs.obey_lines.Goals as goal
use Rattle.yard.proofs.obey_lines.Goals.{After-line_end-e, After-obey-o}

pub loop-at-init : goal.loop-at-init
unfolding at_first
loop-at-init g c =
    let a = c.args in
    let p = c.requires in (
      p.few,
      length-replicate {A = ℕ} 4096 0,
      length-replicate {A = ℕ} 4352 0,
      length-replicate {A = ℕ} 65536 0,
      subst (λ (k : ℕ). Left a.input.now k a.started.calls_at (desk a.started.state (record { used = 0; standing = 0 }) (replicate 4096 0) (replicate 4352 0))) (sym c.nothing-shown.ensures)
          (first_left a.input.now a.started p.start p.accepted),
    )

-- the line ends within the input
inside : (g : Over) (c : After-line_end-e g) → c.line_end-e.result ≤ length c.args.input.now
inside g c =
    let l = c.args.input.now in
    let i = c.loop-at.at in
    omega (arith, c.line_end-e.ensures, upto_in newline l i (omega arith))

pub slice_bounds-obey-count : goal.slice_bounds-obey-count
slice_bounds-obey-count g c = omega arith

pub slice_bounds-obey-start : goal.slice_bounds-obey-start
slice_bounds-obey-start g c = omega (arith, c.line_end-e.ensures, inside g (goal.at.slice_bounds-obey-start g c).After-line_end-e)

pub slice_bounds-obey-end-in-loop-at-2 : goal.slice_bounds-obey-end-in-loop-at-2
slice_bounds-obey-end-in-loop-at-2 g c = omega (arith, c.line_end-e.ensures, inside g (goal.at.slice_bounds-obey-end-in-loop-at-2 g c).After-line_end-e)

-- what the line prints is what comes next, and what is left after it
shown : (g : Over) (c : After-obey-o g) →
    take c.obey-o.result.printed c.obey-o.new.out
    ≡ take c.obey-o.result.printed (drop c.loop-at.shown.told (session c.args.input.now))
shown g c =
    let l = c.loop-at in
    let e = c.line_end-e in
    let z = c.obey-o.new in
    line_shown c.args.input.now l.shown.told l.at e.result (desk l.o.state l.o.cursor l.table l.log) l.invariant.4 (omega arith) e.ensures
    (held c.obey-o.result z.table z.log z.out) l.out c.obey-o.ensures l.invariant.3

few : (g : Over) (c : After-obey-o g) → c.obey-o.result.printed ≤ 65536
few g c =
    let l = c.loop-at in
    let e = c.line_end-e in
    let z = c.obey-o.new in
    line_few c.args.input.now l.shown.told l.at e.result (desk l.o.state l.o.cursor l.table l.log) l.invariant.4 (omega arith) e.ensures
    (held c.obey-o.result z.table z.log z.out) l.out c.obey-o.ensures l.invariant.3

left : (g : Over) (c : After-obey-o g) →
    Left c.args.input.now (c.loop-at.shown.told + c.obey-o.result.printed) (c.line_end-e.result + 1) (desk c.obey-o.result.state c.obey-o.result.cursor c.obey-o.new.table c.obey-o.new.log)
left g c =
    let l = c.loop-at in
    let e = c.line_end-e in
    let z = c.obey-o.new in
    line_left c.args.input.now l.shown.told l.at e.result (desk l.o.state l.o.cursor l.table l.log) l.invariant.4 (omega arith) e.ensures
    (held c.obey-o.result z.table z.log z.out) l.out c.obey-o.ensures l.invariant.3

pub show-shown-requires : goal.show-shown-requires
show-shown-requires g c =
    let l = c.loop-at in
    (omega (arith, printed_within _ _ _ c.obey-o.ensures), shown g (goal.at.show-shown-requires g c).After-obey-o, omega (arith, few g (goal.at.show-shown-requires g c).After-obey-o, l.invariant.4.few, l.invariant.0))

pub overflow_add-at : goal.overflow_add-at
overflow_add-at g c = omega (arith, inside g (goal.at.overflow_add-at g c).After-line_end-e)

pub loop-at-smaller : goal.loop-at-smaller
loop-at-smaller g c = omega arith

pub loop-at-preserved : goal.loop-at-preserved
loop-at-preserved g c =
    let l = c.loop-at in
    let o = c.obey-o in (
      l.invariant.0,
      search rules,
      search rules,
      search rules,
      subst (λ (k : ℕ). Left c.args.input.now k (c.line_end-e.result + 1) (desk o.result.state o.result.cursor o.new.table o.new.log))
          (sym c.show-shown.ensures) (left g (goal.at.loop-at-preserved g c).After-obey-o),
    )

pub returns : goal.returns
returns g c = none_left _ _ _ _ c.loop-at.invariant.4 (omega arith)
