use mathlib.Core.Path.{◌≡◌, sym, ap, ◌∙◌}
use mathlib.Core.Bool.{true}
use mathlib.Core.List.{List}
use Prim.Native.Nat.{ℕ, ◌<◌}
use native.Mathlib.Omega.{arith}
use Rattle.graph.specs.Search.{graph}
use Rattle.graph.specs.Bounds.{Fine}
use Rattle.division.specs.Regions.{lowest}
use Rattle.walks.specs.Written.{out_of, written}
use Rattle.runs.specs.Rounds.{Far, far_of, Settled}
use Rattle.runs.specs.Walk.{onward, walked, run_from}
use Rattle.runs.proofs.Next.{Going, going_first, next_known, going_next, going_done}
use Rattle.runs.proofs.write_run.Goals as goal

-- the next edge is one of the table
known : {es : List (List ℕ)} {st : List ℕ} {edges q : ℕ} {f : Far} → Fine 64 edges es → Settled (graph es st true) edges q f →
    {n from : ℕ} {b₀ b : List ℕ} {at p i g : ℕ} → i < n → Going (graph es st true) edges n f from b₀ b at p i →
    g ≡ lowest (onward (graph es st true) f p) edges → g < edges
known fine w h k x = next_known _ _ _ _ _ fine w _ _ _ _ _ _ _ _ h k x

pub loop-init : goal.loop-init
loop-init c = let p = c.requires in going_first _ _ _ _ _ p.0 p.4.1 _ _ _ p.2 p.5 (sym p.6)

pub next_edge-g-requires : goal.next_edge-g-requires
next_edge-g-requires c = let p = c.requires in (p.0, p.1, c.loop.invariant.low, p.3)

pub overflow_cast-g : goal.overflow_cast-g
overflow_cast-g c =
    let p = c.requires in
    let l = c.loop in
    omega (arith, p.0.fits, known p.0 p.4.1 (omega arith) l.invariant c.next_edge-g.ensures)

pub other_end-p-requires : goal.other_end-p-requires
other_end-p-requires c =
    let p = c.requires in
    let l = c.loop in
    omega (arith, p.0.fits, known p.0 p.4.1 (omega arith) l.invariant c.next_edge-g.ensures)

pub loop-preserved : goal.loop-preserved
loop-preserved c =
    let p = c.requires in
    let l = c.loop in
    going_next _ _ _ _ _ p.0 p.4.1 _ _ _ _ _ _ _ _ _ (omega arith) l.invariant c.next_edge-g.ensures
    c.other_end-p.ensures _ _ c.push-at.ensures

pub returns : goal.returns
unfolding run_from
returns c =
    let a = c.args in
    let p = c.requires in
    let e = graph a.edges.now a.state.now true in
    going_done _ _ _ _ _ _ _ _ _ _ (omega arith) c.loop.invariant
    ∙ ap (λ (j : ℕ). written (walked e a.num_edges (far_of a.far.now) j a.from) (out_of a.buffer.now 0)) p.6
