use Rattle.views.proofs.Computing.{regions_walked, regions_not}
use Rattle.plan.specs.Words.{words_of}
use Rattle.views.proofs.compute.compute.Goals as goal

pub returns-then-walked : goal.returns-then-walked
returns-then-walked c = regions_walked (words_of c.args.plan.now) c.args.edges c.args.noted.now c.args.potential _ _ _ _ _ _ _ c.num_vertices-vertices.ensures c.num_edges-num_edges.ensures c.weight_words-words.ensures c.compute_regions-walked.ensures c.region_weights-added.ensures c.if-walked.true

pub returns-else-walked : goal.returns-else-walked
returns-else-walked c = rw c.if-walked.false (regions_not (words_of c.args.plan.now) c.args.edges c.args.noted.now c.args.potential _ _ _ _ _ _ _ c.num_vertices-vertices.ensures c.num_edges-num_edges.ensures c.weight_words-words.ensures c.compute_regions-walked.ensures c.region_weights-added.ensures c.if-walked.false)
