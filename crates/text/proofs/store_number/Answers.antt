use Rattle.std.proofs.Common.{arith, sym, ap, ◌∙◌, ◌-◌, set}
use mir.Syntax.{w32}
use mir.Facts.{to_z-of_z}
use lib.Seq.{set_out}
use Rattle.text.specs.Number.{number_of}
use Rattle.text.proofs.Filling.{store_before, store_at}
use Rattle.text.proofs.store_number.Goals as goal
use Rattle.text.proofs.store_number.Goals.{else-from-j-via-else-from-j, else-from-j-via-then-from-j+else-j-from}

pub returns-then-j-from : goal.returns-then-j-from
returns-then-j-from c =
    let a = c.args in
    ap (set a.out.now (a.j - a.from)) (to_z-of_z {w = w32} (record { sfits = c.signed.type_inv }) ∙ c.signed.ensures)
    ∙ sym (store_at a.from a.j (number_of a.f) a.out.now (omega arith))

pub returns-else-from-j : goal.returns-else-from-j
returns-else-from-j c =
    let a = c.args in
    elim c.else-from-j.branch [
      | else-from-j-via-else-from-j w ↦ sym (store_before a.from a.j (number_of a.f) a.out.now (omega arith))
      | else-from-j-via-then-from-j+else-j-from w ↦
          sym (store_at a.from a.j (number_of a.f) a.out.now (omega arith) ∙ set_out a.out.now (a.j - a.from) (number_of a.f) w.if-j-from.false)
    ]
