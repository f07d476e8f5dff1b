use Rattle.std.proofs.Common.{ℕ, ◌∙◌, ap, arith}
use Rattle.std.proofs.lemmas.Grind.{common_steps}
use Rattle.noting.specs.Words.{capped}
use Rattle.noting.proofs.Sizes.{capped_le}
use Rattle.noting.proofs.Words.{words_compared}
use Rattle.plan.specs.Words.{words_of}
use Rattle.noting.proofs.replay.noted_differs.Goals as goal

pub words_differ-requires : goal.words_differ-requires
words_differ-requires c = omega (arith, capped_le c.num_edges.result 128, c.capped-edges.ensures)

pub words_differ-requires-else-words_differ : goal.words_differ-requires-else-words_differ
words_differ-requires-else-words_differ c = omega (arith, capped_le c.num_vertices.result 64, c.capped-n.ensures)

pub words_differ-requires-else-words_differ-2 : goal.words_differ-requires-else-words_differ-2
words_differ-requires-else-words_differ-2 c = omega (arith, capped_le c.num_vertices.result 64, c.capped-n.ensures)

pub words_differ-requires-else-words_differ-3 : goal.words_differ-requires-else-words_differ-3
words_differ-requires-else-words_differ-3 c = omega (arith, capped_le c.num_vertices.result 64, c.capped-n.ensures)

pub words_differ-requires-else-words_differ-4 : goal.words_differ-requires-else-words_differ-4
words_differ-requires-else-words_differ-4 c = omega (arith, capped_le c.num_vertices.result 64, c.capped-n.ensures)

pub returns-then-words_differ-4 : goal.returns-then-words_differ-4
returns-then-words_differ-4 c =
    let a = c.args in
    let whole = words_compared a.a.now a.b.now (words_of a.plan.now) _ _ (c.capped-edges.ensures ∙ ap (λ (m : ℕ). capped m 128) c.num_edges.ensures) (c.capped-n.ensures ∙ ap (λ (m : ℕ). capped m 64) c.num_vertices.ensures) in
    rw (← whole) (grind (arith, common_steps))

pub returns-else-words_differ-4 : goal.returns-else-words_differ-4
returns-else-words_differ-4 c =
    let a = c.args in
    let whole = words_compared a.a.now a.b.now (words_of a.plan.now) _ _ (c.capped-edges.ensures ∙ ap (λ (m : ℕ). capped m 128) c.num_edges.ensures) (c.capped-n.ensures ∙ ap (λ (m : ℕ). capped m 64) c.num_vertices.ensures) in
    rw (← whole) (grind (arith, common_steps))
