use Rattle.std.proofs.Common.{◌∙◌, ap, refl}
use mir.Facts.{to_z-of_z}
use Rattle.base.proofs.Numbered.{number_not_0}
use Rattle.plan.specs.Words.{words_of}
use Rattle.refusals.specs.Refusals.{literal_refusal}
use Rattle.lent.specs.Lent.{state_of}
use Rattle.lent.proofs.Parting.{of_parts}
use Rattle.lent.proofs.Fetching.{reason_refused, lit_refused, reason_found}
use Rattle.lent.proofs.fetch.calc_reason.Goals as goal

pub returns-in-Some : goal.returns-in-Some
returns-in-Some c =
    let a = c.args in
    of_parts _ (λ rs last len b. reason_refused (state_of (words_of a.plan.now) a.edges a.noted.now rs last len b) _ _ _ _ (c.number.ensures ∙ c.in-Some.ensures) _ _
    (number_not_0 c.in-Some.refusal _ c.number.ensures))

pub returns-in-Some-literal_refusal : goal.returns-in-Some-literal_refusal
returns-in-Some-literal_refusal c =
    let a = c.args in
    let n = c.number-in-Some-literal_refusal in
    let x = c.in-Some-literal_refusal in
    let m = n.ensures ∙ (x.ensures ∙ ap (literal_refusal (words_of a.plan.now)) (to_z-of_z c.ranges.lit)) in
    of_parts _ (λ rs last len b. lit_refused (state_of (words_of a.plan.now) a.edges a.noted.now rs last len b) _ _ _ _ c.in_default.ensures a.lit _ _ m refl
    (number_not_0 x.refusal _ n.ensures))

pub returns : goal.returns
returns c =
    let a = c.args in
    let m = c.in_default-literal_refusal.ensures ∙ ap (literal_refusal (words_of a.plan.now)) (to_z-of_z c.ranges.lit) in
    of_parts _ (λ rs last len b. reason_found (state_of (words_of a.plan.now) a.edges a.noted.now rs last len b) _ _ _ _ c.in_default.ensures a.lit _ _ _ m refl refl (c.calc.ensures rs last len b))
