use mathlib.Core.Bool.{false≢true}
use mathlib.Core.Path.{◌≡◌}
use mathlib.Core.Bool.{true, false}
use Rattle.views.proofs.Ties.{members_past, members_missing}
use Rattle.plan.specs.Words.{words_of}
use Rattle.views.proofs.members.list_members.Goals as goal

pub returns-in-Some : goal.returns-in-Some
returns-in-Some c = members_past (words_of c.args.plan.now) c.args.edges c.args.noted.now c.args.region _ c.num_vertices.ensures c.num_edges.ensures _ _ c.region_vertices-listed.ensures _ c.in-Some.is

pub returns-in-None : goal.returns-in-None
returns-in-None c = (members_missing (words_of c.args.plan.now) c.args.edges c.args.noted.now c.args.region _ c.num_vertices.ensures c.num_edges.ensures _ _ c.region_vertices-listed.ensures c.in-None.is, λ (e : false ≡ true). absurd (false≢true e))
