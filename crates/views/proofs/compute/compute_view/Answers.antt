use mathlib.Core.Path.{◌∙◌}
use Rattle.plan.specs.Words.{words_of}
use Rattle.views.proofs.Computing.{view_walked, view_not}
use Rattle.views.proofs.compute.compute_view.Goals as goal

pub returns-then-compute_both : goal.returns-then-compute_both
returns-then-compute_both c = c.store_view.ensures ∙ view_walked (words_of c.args.plan.now) c.args.edges c.args.noted.now c.args.view.now _ _ _ _ _ _ c.num_vertices-vertices.ensures c.num_edges-num_edges.ensures c.weight_words-words.ensures c.compute_both.ensures c.if-compute_both.true

pub returns : goal.returns
returns c = view_not (words_of c.args.plan.now) c.args.edges c.args.noted.now c.args.view.now _ _ _ c.num_vertices-vertices.ensures c.num_edges-num_edges.ensures c.compute_both.ensures.0 c.if-compute_both.false
