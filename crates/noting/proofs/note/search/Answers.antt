use mathlib.Core.Path.{refl, sym, ◌∙◌}
use Rattle.noting.proofs.Place.{place_first, place_last, place_halved}
use Rattle.plan.specs.Words.{words_of}
use Rattle.noting.proofs.note.search.Goals as goal

pub returns-then-is_variable : goal.returns-then-is_variable
returns-then-is_variable c =
    let a = c.args in
    let f = c.place_from_first-a in
    (place_first (words_of a.plan.now) a.x f.result _ f.ensures.0 refl (sym c.is_variable.ensures ∙ c.if-is_variable.true), f.ensures.1)

pub returns-then-is_variable-2 : goal.returns-then-is_variable-2
returns-then-is_variable-2 c =
    let a = c.args in
    let f = c.place_from_first-a in
    let g = c.place_from_last-b in (
      place_last (words_of a.plan.now) a.x f.result g.result f.ensures.0 g.ensures.0 (sym c.is_variable.ensures ∙ c.if-is_variable.false) (sym c.is_variable-2.ensures ∙ c.if-is_variable-2.true),
      g.ensures.1,
    )

pub returns : goal.returns
returns c =
    let a = c.args in
    let f = c.place_from_first-a in
    let g = c.place_from_last-b in (
      c.halve_all.ensures.0 ∙ place_halved (words_of a.plan.now) a.x f.result g.result f.ensures.0 g.ensures.0 (sym c.is_variable.ensures ∙ c.if-is_variable.false) (sym c.is_variable-2.ensures ∙ c.if-is_variable-2.false),
      c.halve_all.ensures.1,
    )
