use mathlib.Core.Path.{sym, ap, ◌∙◌}
use Prim.Native.Nat.{ℕ}
use native.Mathlib.Omega.{arith}
use Rattle.pages.proofs.Fields.{word_few, upper_few, upper_some, hyphen_put}
use Rattle.pages.specs.Line.{field}
use Rattle.text_writer.specs.Written.{put}
use mathlib.Core.List.{List}
use Rattle.pages.proofs.write_upper.Goals as goal

pub returns-then-n-eq2147483647 : goal.returns-then-n-eq2147483647
returns-then-n-eq2147483647 c =
    let a = c.args in
    let f = c.ranges.n.fits in
    let w = c.write_spaces.ensures in
    (hyphen_put a.n a.at a.buf.now _ c.if-n-eq2147483647.true c.requires w, upper_few a.n (omega arith))

pub write_field-requires : goal.write_field-requires
write_field-requires c =
    let f = c.ranges.n.fits in
    (word_few c.args.n (omega arith), c.requires)

pub returns : goal.returns
returns c =
    let a = c.args in
    let f = c.ranges.n.fits in
    let w = c.write_field.ensures in
    let e = sym (upper_some a.n c.if-n-eq2147483647.false) in
    (w ∙ ap (λ (x : List ℕ). put a.buf.now a.at (field 10 x)) e, upper_few a.n (omega arith))
