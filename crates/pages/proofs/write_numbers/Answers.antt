use native.Mathlib.Omega.{arith}
use Rattle.pages.proofs.Fields.{word_few, numbers_long, numbers_put, put_long, field_long}
use Rattle.pages.specs.Line.{field}
use Rattle.text_writer.specs.Digits.{digits}
use Rattle.pages.proofs.write_numbers.Goals as goal

pub write_field-requires : goal.write_field-requires
write_field-requires c =
    let f = c.ranges.weight.fits in
    (word_few c.args.weight (omega arith), omega (arith, c.requires))

pub write_field-requires-2 : goal.write_field-requires-2
write_field-requires-2 c =
    let a = c.args in
    let f = c.ranges.weight.fits in
    let g = c.ranges.lower.fits in
    let t = digits a.weight in
    let l = field_long 10 t (word_few a.weight (omega arith)) in
    let k = put_long a.buf.now _ (field 10 t) a.at c.write_field.ensures (omega (arith, l, c.requires)) in
    (word_few a.lower (omega arith), omega (arith, k, c.requires))

pub returns : goal.returns
returns c =
    let a = c.args in
    let f = c.ranges.weight.fits in
    let g = c.ranges.lower.fits in
    let h = c.ranges.upper.fits in
    let x = c.write_field.ensures in
    let y = c.write_field-2.ensures in
    let z = c.write_upper.ensures.0 in (
      numbers_put a.weight a.lower a.upper a.at _ _ _ _ (omega arith) (omega arith) c.requires x y z,
      numbers_long a.weight a.lower a.upper (omega arith) (omega arith) (omega arith),
    )
