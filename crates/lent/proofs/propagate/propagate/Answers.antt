use Rattle.std.proofs.Common.{◌≡◌, ◌∙◌, sym, ap, refl, length}
use Rattle.std.specs.Prelude.{pos}
use mir.Facts.{to_z-of_z}
use Rattle.base.specs.Iter.{pick}
use Rattle.base.specs.Range.{in_range}
use Rattle.base.proofs.Numbered.{number_not_0}
use Rattle.plan.specs.Words.{words_of}
use Rattle.refusals.specs.Refusals.{lit_number, propagate_refusal}
use Rattle.graph_division.specs.Calls.{with_noted, with_judged, refuse, tried_out}
use Rattle.lent.specs.declared.Done.{Done}
use Rattle.lent.specs.Lent.{state_of, state_after, called_of}
use Rattle.lent.proofs.Lending.{is_settled, is_added, is_refused}
use Rattle.lent.proofs.Parting.{of_parts}
use Rattle.lent.proofs.propagate.propagate.Goals as goal

pub returns-in-Some : goal.returns-in-Some
unfolding called_of state_after pick with_noted with_judged refuse tried_out
returns-in-Some c =
    let a = c.args in
    of_parts _
    (λ rs last len b.
    let s = state_of (words_of a.plan.now) a.edges a.noted.now rs last len b in
    ap (λ (d : Done). called_of s a.noted.now a.proposals.now a.left.now d a.table.now a.list.now a.log.now) c.refused.ensures
    ∙ is_refused s a.cursor a.proposals.now a.left.now _ _ a.table.now a.list.now a.log.now _ (c.in-Some.ensures ∙ ap (propagate_refusal (words_of a.plan.now) a.edges a.noted.now a.table.now (length a.list.now) a.log.now a.cursor) (to_z-of_z c.ranges.lit))
    (number_not_0 c.in-Some.refusal _ refl))

pub returns : goal.returns
returns c =
    let a = c.args in
    of_parts _
    (λ rs last len b.
    is_added (state_of (words_of a.plan.now) a.edges a.noted.now rs last len b) a.cursor a.proposals.now a.left.now _ _ a.table.now a.list.now a.log.now _ (c.in_default.ensures ∙ ap (propagate_refusal (words_of a.plan.now) a.edges a.noted.now a.table.now (length a.list.now) a.log.now a.cursor) (to_z-of_z c.ranges.lit)) _ _ (c.lit_number-l.ensures ∙ ap lit_number (to_z-of_z c.ranges.lit)) refl (sym (c.in_range.ensures ∙ ap (in_range (pos 0)) (to_z-of_z c.ranges.num_pending_propagations)) ∙ c.if-in_range.false) (c.add.ensures a.edges rs last len b _ _ _ _))

pub returns-then-in_range : goal.returns-then-in_range
returns-then-in_range c =
    let a = c.args in
    of_parts _
    (λ rs last len b.
    is_settled (state_of (words_of a.plan.now) a.edges a.noted.now rs last len b) a.cursor a.proposals.now a.left.now _ _ a.table.now a.list.now a.log.now _ (c.in_default.ensures ∙ ap (propagate_refusal (words_of a.plan.now) a.edges a.noted.now a.table.now (length a.list.now) a.log.now a.cursor) (to_z-of_z c.ranges.lit)) _ _ (c.lit_number-l.ensures ∙ ap lit_number (to_z-of_z c.ranges.lit)) refl (sym (c.in_range.ensures ∙ ap (in_range (pos 0)) (to_z-of_z c.ranges.num_pending_propagations)) ∙ c.if-in_range.true) (c.settle.ensures rs last len b))
