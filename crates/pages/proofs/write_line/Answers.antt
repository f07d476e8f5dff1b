use mathlib.Core.Path.{◌∙◌}
use Prim.Native.Nat.{◌+◌}
use native.Mathlib.Omega.{arith}
use Rattle.pages.proofs.Fields.{set_line_long, line_put, put_long}
use Rattle.pages.specs.Line.{head_text, numbers_text}
use lib.ListN.{length-set}
use lib.Count.{ones, count_trailing_zeros}
use Rattle.pages.proofs.write_line.Goals as goal

pub shape_of-buf : goal.shape_of-buf
shape_of-buf c =
    let a = c.args in
    let h = c.write_head.ensures in
    let m = c.write_numbers in
    let n = m.ensures in
    let b = c.write_head.new.buf in
    let d = m.new.buf in
    let t = head_text (count_trailing_zeros 64 a.set) (ones a.set) in
    let u = numbers_text a.weight a.lower a.upper in
    let x = put_long a.buf.now b t a.at h.0 (omega (arith, h.1, c.requires)) in
    let y = put_long b d u (a.at + 8) n.0 (omega (arith, n.1, x, c.requires)) in
    length-set d (a.at + 38) 10 ∙ y ∙ x

pub returns : goal.returns
returns c =
    let a = c.args in
    let t = c.ranges in
    let f = t.set.fits in
    let g = t.weight.fits in
    let k = t.lower.fits in
    let l = t.upper.fits in
    let h = c.write_head.ensures in
    let n = c.write_numbers.ensures in (
      line_put a.set a.weight a.lower a.upper a.at _ _ _ c.requires h.1 n.1 h.0 n.0,
      set_line_long a.set a.weight a.lower a.upper (omega arith) (omega arith) (omega arith) (omega arith),
    )
