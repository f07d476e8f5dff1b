use mathlib.Core.Path.{sym, ap, ◌∙◌, subst}
use Prim.Native.Nat.{◌<◌}
use mir.Syntax.{w32}
use mir.Facts.{to_z-of_z}
use Rattle.base.proofs.Loop.{pick_yes, pick_no}
use Rattle.text.specs.declared.Field.{Field}
use Rattle.std.specs.Prelude.{Some}
use Rattle.text.specs.Number.{number_of, read_number}
use Rattle.text.proofs.Runs.{field_small}
use Rattle.text.proofs.read_number.Goals as goal

pub signed-requires : goal.signed-requires
signed-requires c = subst (λ (f : Field). f.size < 1000000000) (sym c.read_field-f.ensures) (field_small c.args.field.now)

pub returns-then-f : goal.returns-then-f
unfolding read_number
returns-then-f c =
    let e = c.read_field-f.ensures in
    ap Some (to_z-of_z {w = w32} (record { sfits = c.signed.type_inv }) ∙ c.signed.ensures ∙ ap number_of e)
    ∙ sym (pick_yes _ _ (sym (ap (λ (f : Field). f.ok) e) ∙ c.if-f.true))

pub returns : goal.returns
unfolding read_number
returns c =
    let e = c.read_field-f.ensures in
    sym (pick_no _ _ (sym (ap (λ (f : Field). f.ok) e) ∙ c.if-f.false))
