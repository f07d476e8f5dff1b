use mathlib.Core.Path.{sym, ap, ◌∙◌}
use Prim.Native.Nat.{ℕ, ◌+◌, ◌≤◌}
use lib.Dec.{leb}
use lib.ListN.{length}
use borrow.Author.Tests.{leb-true, leb-false}
use Rattle.std.specs.Prelude.{Some}
use Rattle.text_writer.specs.Digits.{digits}
use Rattle.text_writer.proofs.Putting.{fitted, refused}
use Rattle.text_writer.proofs.write_number.Goals as goal
use Rattle.text_writer.proofs.write_number.Goals.{Else-not-fits}

pub returns-then-not-fits : goal.returns-then-not-fits
returns-then-not-fits c =
    let a = c.args in
    let told = refused a.buf.now (digits a.n) a.at (leb-false _ _ (sym (ap (λ (k : ℕ). leb (a.at + k) (length a.buf.now)) c.count_digits-k.ensures) ∙ sym c.fits.ensures ∙ c.if-not-fits.true)) in
    (sym told.0, sym told.1)

-- what the test showed
room : (c : Else-not-fits) → c.args.at + length (digits c.args.n) ≤ length c.args.buf.now
room c =
    let a = c.args in
    leb-true _ _ (sym (ap (λ (k : ℕ). leb (a.at + k) (length a.buf.now)) c.count_digits-k.ensures) ∙ sym c.fits.ensures ∙ c.if-not-fits.false)

pub write_digits-requires : goal.write_digits-requires
write_digits-requires c = room (goal.at.write_digits-requires c).Else-not-fits

pub returns : goal.returns
returns c =
    let a = c.args in
    let w = c.write_digits in
    let told = fitted a.buf.now (digits a.n) a.at (room (goal.at.returns c).Else-not-fits) in
    (ap Some w.ensures.0 ∙ sym told.0, w.ensures.1 ∙ sym told.1)
