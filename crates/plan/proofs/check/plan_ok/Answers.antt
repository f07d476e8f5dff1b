use Rattle.std.proofs.Common.{rules, arith, ◌≡◌, ◌≤◌, ◌∙◌, sym}
use Rattle.std.proofs.lemmas.Grind.{common_steps}
use Rattle.std.proofs.iter.Serving.{serving}
use Rattle.base.specs.Lists.{some}
use Rattle.base.proofs.Some.{any_below}
use Rattle.plan.specs.Check.{vertex_bad, edge_bad, variable_bad, plan_bad}
use Rattle.plan.specs.Words.{words_of}
use Rattle.plan.proofs.Passed.{Sized, sized, counts}
use Rattle.plan.proofs.check.plan_ok.Goals as goal
use Rattle.plan.proofs.check.plan_ok.Goals.{then-any-2, else-any-2, then-any-3, else-any-3}

pub any-requires-clause-callable : goal.any-requires-clause-callable
any-requires-clause-callable c =
    let s : Sized (words_of c.args.plan.now) = sized _ (sym c.counts_bad.ensures ∙ c.if-counts_bad.false) in
    let n : c.num_vertices.result ≤ 64 = omega arith in
    grind serving

pub returns-then-any : goal.returns-then-any
unfolding plan_bad
returns-then-any c =
    let t = vertex_bad (words_of c.args.plan.now) in
    let e : c.any.result ≡ some t c.num_vertices.result = any_below t _ _ _ _ c.any.ensures.ran (λ x b q e. search rules) in
    grind (arith, common_steps)

pub any-requires-2-clause-callable : goal.any-requires-2-clause-callable
any-requires-2-clause-callable c =
    let s : Sized (words_of c.args.plan.now) = sized _ (sym c.counts_bad.ensures ∙ c.if-counts_bad.false) in
    let n : c.num_edges.result ≤ 128 = omega arith in
    grind serving

pub any-requires-else-any-2-clause-callable : goal.any-requires-else-any-2-clause-callable
any-requires-else-any-2-clause-callable c =
    let s : Sized (words_of c.args.plan.now) = sized _ (sym c.counts_bad.ensures ∙ c.if-counts_bad.false) in
    let n : c.num_variables.result ≤ 2176 = omega arith in
    grind serving

pub starts_bad-requires : goal.starts_bad-requires
starts_bad-requires c =
    let t = vertex_bad (words_of c.args.plan.now) in
    let e : c.any.result ≡ some t c.num_vertices.result = any_below t _ _ _ _ c.any.ensures.ran (λ x b q e. search rules) in
    counts _ (sym c.counts_bad.ensures ∙ c.if-counts_bad.false) (cc (e, c.num_vertices.ensures, c.if-any.false))

pub returns : goal.returns
unfolding plan_bad
returns c =
    let ws = words_of c.args.plan.now in
    let vertices : c.any.result ≡ some (vertex_bad ws) c.num_vertices.result = any_below _ _ _ _ _ c.any.ensures.ran (λ x b q e. search rules) in
    let edges : c.any-2.result ≡ some (edge_bad ws c.args.edges.now) c.num_edges.result = any_below _ _ _ _ _ c.any-2.ensures.ran (λ x b q e. search rules) in
    elim c.if-any-3.branch [
      | then-any-3 w ↦ elim c.if-any-2.branch [
        | then-any-2 v ↦ grind (arith, common_steps)
        | else-any-2 v ↦
            let variables : v.any-else-any-2.result ≡ some (variable_bad ws) v.num_variables.result = any_below _ _ _ _ _ v.any-else-any-2.ensures.ran (λ x b q e. search rules) in
            grind (arith, common_steps)
      ]
      | else-any-3 w ↦ elim c.if-any-2.branch [
        | then-any-2 v ↦ grind (arith, common_steps)
        | else-any-2 v ↦
            let variables : v.any-else-any-2.result ≡ some (variable_bad ws) v.num_variables.result = any_below _ _ _ _ _ v.any-else-any-2.ensures.ran (λ x b q e. search rules) in
            grind (arith, common_steps)
      ]
    ]
