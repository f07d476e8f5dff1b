use Rattle.std.proofs.Common.{List, ℕ, ◌≡◌, ◌≤◌, ◌+◌, ◌∙◌, ap, arith, get_or, set, rules}
use Rattle.base.specs.Lists.{filled}
use Rattle.builder.specs.declared.index.Counted.{Counted}
use Rattle.builder.specs.Index.{indexed}
use Rattle.builder.proofs.BuildCases.{indexed_few, index_is}
use Rattle.builder.proofs.build.fill_index.Goals as goal

few : (ws : List ℕ) (r : Counted) → r ≡ record { variables = (indexed ws).count; slots = (indexed ws).filing.filed } → (r.variables ≤ 2176) × (r.slots ≤ 2176)
few ws r e =
    let n = indexed_few ws in
    let v = ap (λ (c : Counted). c.variables) e in
    let s = ap (λ (c : Counted). c.slots) e in
    (omega arith, omega arith)

pub overflow_cast-index : goal.overflow_cast-index
overflow_cast-index c = omega (arith, few _ _ c.index_variables-variables.ensures.1)

pub overflow_add-index : goal.overflow_add-index
overflow_add-index c = omega (arith, few _ _ c.index_variables-variables.ensures.1)

pub offset_bounds-index-variables : goal.offset_bounds-index-variables
offset_bounds-index-variables c = omega (arith, few _ _ c.index_variables-variables.ensures.1)

pub bounds-index-variables : goal.bounds-index-variables
bounds-index-variables c = omega (arith, few _ _ c.index_variables-variables.ensures.1)

pub fill_totals-requires : goal.fill_totals-requires
fill_totals-requires c = few _ _ c.index_variables-variables.ensures.1

pub returns : goal.returns
returns c =
    let e = c.index_variables-variables.ensures in
    let r = c.index_variables-variables.result in
    let words = λ (i : ℕ). get_or (set c.index_variables-variables.new.index (6528 + r.variables) r.slots) i 0 in
    c.fill.ensures words (λ i x h p. search rules) ∙ ap (filled 4360 10881 words) c.fill_totals.ensures
    ∙ index_is c.args.plan.now _ r.variables r.slots e.0 (ap (λ (c : Counted). c.variables) e.1) (ap (λ (c : Counted). c.slots) e.1)
