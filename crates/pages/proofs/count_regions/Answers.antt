use Rattle.std.proofs.Common.{arith, ap, ◌∙◌, ◌≡◌, ◌≤◌, ℕ, get_or}
use lib.Dec.{eqb}
use mir.Val.{bool_byte}
use Rattle.pages.specs.Lines.{num_regions}
use Rattle.pages.proofs.Sets.{bit_of, one_le}
use Rattle.pages.proofs.Fields.{regions_none, regions_more, regions_few}
use Rattle.pages.proofs.count_regions.Goals as goal

pub loop-r-init : goal.loop-r-init
loop-r-init c = regions_none _

pub overflow_add-count : goal.overflow_add-count
overflow_add-count c =
    let l = c.loop-r in
    let label : ℕ → ℕ = λ v. get_or c.args.labels.now v 0 in
    let one : c.from-count.result ≤ 1 = omega (arith, c.from-count.ensures ∙ bit_of _, one_le (eqb c.from.result l.r)) in
    omega (arith, regions_few label l.r)

pub loop-r-preserved : goal.loop-r-preserved
loop-r-preserved c =
    let l = c.loop-r in
    let label : ℕ → ℕ = λ v. get_or c.args.labels.now v 0 in
    regions_more label l.r l.count c.from-count.result l.invariant (c.from-count.ensures ∙ ap (λ (x : ℕ). bool_byte (eqb x l.r)) c.from.ensures ∙ bit_of _)

pub returns : goal.returns
returns c =
    let l = c.loop-r in
    let z : l.r ≡ c.args.n = omega arith in
    l.invariant ∙ ap (num_regions (λ v. get_or c.args.labels.now v 0)) z
