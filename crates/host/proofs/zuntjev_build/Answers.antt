use mathlib.Core.Path.{◌∙◌}
use mir.Syntax.{w32}
use mir.Facts.{to_z-of_z}
use Rattle.host.proofs.Handing.{built_handed}
use borrow.Author.Rules.{rules}
use Rattle.host.proofs.zuntjev_build.Goals as goal

pub returns : goal.returns
returns c =
    let f = c.build in
    let given = c.ranges in
    let number = to_z-of_z {w = w32} {z = f.result} (record { sfits = f.type_inv }) in
    record { value = number ∙ f.ensures.value; built_in = built_handed _ _ _ _ _ _ _ _ _ _ (to_z-of_z given.same_size) (to_z-of_z given.extra_walls) f.ensures.built_in }
