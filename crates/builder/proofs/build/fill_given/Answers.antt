use Rattle.std.proofs.Common.{rules, ℕ, pred, ◌∙◌, ap}
use Rattle.base.specs.Lists.{filled}
use Rattle.base.specs.Range.{to_nat}
use Rattle.builder.specs.Build.{rows, header, given}
use Rattle.builder.specs.Input.{weight_at, len_at, size_at, lit_at, edge_lit_at}
use Rattle.builder.proofs.build.fill_given.Goals as goal

pub returns : goal.returns
unfolding given
returns c =
    let a = c.args in
    let vs = a.vertices.now in
    let weights = λ (v : ℕ). to_nat (weight_at vs v) in
    let lits = λ (g : ℕ). to_nat (edge_lit_at a.edges.now g) in
    c.fill-3.ensures lits (λ i x h p. search rules) ∙ ap (filled 4232 a.m lits)
    (c.fill_dom_lits.ensures ∙ ap (rows 2184 (λ v. pred (len_at vs v)) (λ v j. to_nat (lit_at vs v j)) a.n)
    (c.fill_domains.ensures ∙ ap (rows 136 (len_at vs) (λ v j. to_nat (size_at vs v j)) a.n)
    (c.fill-2.ensures (len_at vs) (λ i x h p. search rules) ∙ ap (filled 72 a.n (len_at vs))
    (c.fill.ensures weights (λ i x h p. search rules) ∙ ap (filled 8 a.n weights)
    (c.fill_header.ensures ∙ ap (filled 0 4 (header a.n a.m a.options.disallow_adjacent_same_size_regions a.options.allow_extra_walls)) c.requires.3)))))
