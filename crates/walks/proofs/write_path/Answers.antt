use mathlib.Core.Path.{◌≡◌, sym}
use native.Mathlib.Omega.{arith}
use Rattle.std.proofs.Common.{◌+◌, ◌-◌, ◌≡◌}
use Rattle.walks.proofs.Walk.{path_here, path_none, path_step}
use Rattle.walks.proofs.write_path.Goals as goal

pub returns-then-p-start : goal.returns-then-p-start
returns-then-p-start c = sym (path_here _ _ _ _ _ _ _ c.if-p-start.true c.loop.invariant.0)

pub loop-preserved : goal.loop-preserved
loop-preserved c =
    let e : c.args.num_vertices - (c.loop.counter + 1) ≡ c.args.num_vertices - c.loop.counter - 1 = omega arith in
    let i : c.from-i.result ≡ c.loop.p = c.from-i.ensures in (
      rw (e, i) (path_step _ _ _ _ _ _ _ _ _ _ (omega arith) c.if-p-start.false (rw i at c.edge_lit.ensures) c.negation.ensures c.push-n.ensures c.loop.invariant.0),
      c.requires.1 _ (omega arith),
    )

pub returns : goal.returns
returns c = sym (path_none _ _ _ _ _ _ _ (omega arith) c.loop.invariant.0)
