use mathlib.Core.Path.{◌≡◌, refl, sym, ap, ap₂, ◌∙◌}
use mathlib.Core.Bool.{false}
use Rattle.std.specs.Prelude.{Some}
use Rattle.base.specs.declared.refusal.Refusal.TheVariants.{LineMalformed}
use Rattle.graph_division.specs.New.{built}
use Rattle.desk.specs.Start.{malformed, no_vertices, no_edges}
use borrow.Author.Rules.{rules}
use Rattle.desk.proofs.start.refuse_input.Goals as goal

pub returns : goal.returns
unfolding malformed no_vertices no_edges
returns c = λ i. record { refusal = Some LineMalformed; state = ((c.new-b.ensures ∙ (λ j. built (c.no_vertices-vertices.ensures j) 0 (c.no_edges-edges.ensures j) 0 false false)) i).state; calls_at = c.args.len }
