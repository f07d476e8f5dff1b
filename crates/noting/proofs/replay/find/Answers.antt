use mathlib.Core.Path.{refl, sym, ◌∙◌}
use native.Mathlib.Omega.{arith}
use Rattle.noting.proofs.Follow.{find_yes, find_no}
use Rattle.noting.proofs.Place.{place_first}
use Rattle.plan.specs.Words.{words_of}
use Rattle.noting.proofs.replay.find.Goals as goal

pub returns-then-is_variable : goal.returns-then-is_variable
returns-then-is_variable c =
    let a = c.args in
    let f = c.place_from_first-a in
    let t = sym c.is_variable.ensures ∙ c.if-is_variable.true in
    (find_yes (words_of a.plan.now) f.result a.x (place_first (words_of a.plan.now) a.x f.result _ f.ensures.0 refl t) t, f.ensures.1)

pub returns-then-is_variable-2 : goal.returns-then-is_variable-2
returns-then-is_variable-2 c =
    let a = c.args in
    let k = c.search-k in
    (find_yes (words_of a.plan.now) k.result a.x k.ensures.0 (sym c.is_variable-2.ensures ∙ c.if-is_variable-2.true), k.ensures.1)

pub returns : goal.returns
returns c =
    let a = c.args in
    let k = c.search-k in
    (find_no (words_of a.plan.now) k.result a.x k.ensures.0 (sym c.is_variable-2.ensures ∙ c.if-is_variable-2.false), omega arith)
