use native.Mathlib.Omega.{arith}
use mathlib.Core.Path.{sym, subst, ◌∙◌}
use Rattle.graph.proofs.Keep.{fresh_ok, begun_ok, blank_fresh, begins}
use Rattle.graph.specs.Bounds.{Ok, Fresh}
use Rattle.walks.proofs.search.search.Goals as goal

pub reach-n-requires : goal.reach-n-requires
reach-n-requires c = let p = c.requires in (omega (arith, p.0.vertices), subst (Ok 64) (sym p.3) (fresh_ok 64 _ blank_fresh))

pub drain-requires : goal.drain-requires
drain-requires c =
    let p = c.requires in
    (p.0, p.1, subst (Ok _) (sym c.reach-n.ensures) (begun_ok _ _ _ p.0.vertices p.2 (subst Fresh (sym p.3) blank_fresh)))

pub returns : goal.returns
returns c = c.drain.ensures ∙ begins _ _ _ _ _ _ c.requires.3 c.reach-n.ensures
