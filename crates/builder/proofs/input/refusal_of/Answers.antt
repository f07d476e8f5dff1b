use Rattle.std.proofs.Common.{◌∙◌, sym}
use Rattle.builder.proofs.Refusal.{counted}
use Rattle.builder.proofs.input.refusal_of.Goals as goal

pub sizes_wrong-requires : goal.sizes_wrong-requires
sizes_wrong-requires c = let r = counted _ _ _ (sym c.too_many.ensures ∙ c.if-too_many.false) in (r.vertices, r.sizes)

pub refused_lits-requires : goal.refused_lits-requires
refused_lits-requires c = let r = counted _ _ _ (sym c.too_many.ensures ∙ c.if-too_many.false) in (r.vertices, r.edges, r.sizes)
