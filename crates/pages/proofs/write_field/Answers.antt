use mathlib.Core.Path.{◌≡◌, ap}
use Prim.Native.Nat.{ℕ, ◌-◌}
use Rattle.pages.proofs.Fields.{fielded}
use lib.ListN.{length}
use Rattle.text_writer.specs.Digits.{digits}
use Rattle.pages.proofs.write_field.Goals as goal

pub returns : goal.returns
returns c =
    let d = c.count_digits in
    let a = c.args in
    let p = c.requires in
    let e : a.width - d.result ≡ a.width - length (digits a.n) = ap (λ (j : ℕ). a.width - j) d.ensures in
    let n = c.write_number.ensures in
    fielded a.n a.width _ a.at a.buf.now _ _ e p.0 p.1 c.write_spaces.ensures n.1
