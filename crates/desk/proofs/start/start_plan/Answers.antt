use mathlib.Core.Path.{◌≡◌, refl, sym, ap, ap₂, ◌∙◌}
use Rattle.plan_lines.specs.Lines.{Reading, taken_lines}
use Rattle.desk.specs.Start.{started_by, built_of, no_vertices, no_edges}
use borrow.Author.Rules.{rules}
use Rattle.desk.proofs.start.start_plan.Goals as goal

pub returns : goal.returns
unfolding started_by built_of no_vertices no_edges
returns c =
    let r = c.take_lines-p.ensures ∙ (λ i. taken_lines c.args.input.now (c.no_vertices-vertices.ensures i) (c.no_edges-edges.ensures i)) in
    let b = c.new-b.ensures ∙ ap built_of r in
    λ i. record { refusal = (b i).refusal; state = (b i).state; calls_at = (r i).at }
