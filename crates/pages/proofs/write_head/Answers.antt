use lib.Count.{count_trailing_zeros}
use native.Mathlib.Omega.{arith}
use Rattle.pages.proofs.Fields.{lowest_few, count_few, head_long, head_put_lem, put_long, field_long}
use Rattle.pages.specs.Line.{field}
use Rattle.text_writer.specs.Digits.{digits}
use Rattle.pages.proofs.write_head.Goals as goal

pub write_field-requires : goal.write_field-requires
write_field-requires c = (lowest_few c.args.set, omega (arith, c.requires))

pub write_field-requires-2 : goal.write_field-requires-2
write_field-requires-2 c =
    let a = c.args in
    let f = c.ranges.set.fits in
    let t = digits (count_trailing_zeros 64 a.set) in
    let l = field_long 4 t (lowest_few a.set) in
    let k = put_long a.buf.now _ (field 4 t) a.at c.write_field.ensures (omega (arith, l, c.requires)) in
    (count_few a.set (omega arith), omega (arith, k, c.requires))

pub returns : goal.returns
returns c =
    let a = c.args in
    let f = c.ranges.set.fits in (
      head_put_lem _ _ a.at a.buf.now _ _ (lowest_few a.set) c.requires c.write_field.ensures c.write_field-2.ensures,
      head_long _ _ (lowest_few a.set) (count_few a.set (omega arith)),
    )
