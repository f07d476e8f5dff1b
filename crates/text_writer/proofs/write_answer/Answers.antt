use mathlib.Core.Path.{◌≡◌, sym, ap, ◌∙◌}
use Prim.Native.Nat.{◌+◌, ◌-◌, ◌≤◌, ◌<◌}
use native.Mathlib.Omega.{arith}
use lib.ListN.{length, length-set}
use borrow.Author.Tests.{leb-true, leb-false}
use Rattle.std.specs.Prelude.{Some}
use Rattle.text_writer.specs.Written.{tabbed, answer_line}
use Rattle.text_writer.proofs.Putting.{fitted, refused, answer_long, answer_put}
use Rattle.text_writer.proofs.write_answer.Goals as goal
use Rattle.text_writer.proofs.write_answer.Goals.{Else-not-fits, Else-not-has_room, then-not-fits-via-then-not-fits, then-not-fits-via-else-not-fits+then-not-has_room}

-- what the two tests showed
two : (c : Else-not-fits) → c.args.at + 2 ≤ length c.args.buf.now
two c = leb-true _ _ (sym c.fits.ensures ∙ c.if-not-fits.false)

room : (c : Else-not-has_room) → c.args.at + (length (tabbed c.args.numbers.now) + 2) ≤ length c.args.buf.now
room c =
    let a = c.args in
    let h : length (tabbed a.numbers.now) ≤ length a.buf.now - a.at - 2 = leb-true _ _ (sym c.has_room.ensures ∙ c.if-not-has_room.false) in
    let two : a.at + 2 ≤ length a.buf.now = leb-true _ _ (sym c.fits.ensures ∙ c.if-not-fits.false) in
    omega arith

pub returns-then-not-fits : goal.returns-then-not-fits
returns-then-not-fits c =
    let a = c.args in
    let line = answer_line a.letter a.numbers.now in
    elim c.then-not-fits.branch [
      | then-not-fits-via-then-not-fits w ↦
          let short : length a.buf.now < a.at + 2 = leb-false _ _ (sym w.if-not-fits.ensures) in
          let told = refused a.buf.now line a.at (omega (arith, answer_long a.letter a.numbers.now)) in
          (sym told.0, sym told.1)
      | then-not-fits-via-else-not-fits+then-not-has_room w ↦
          let two : a.at + 2 ≤ length a.buf.now = leb-true _ _ (sym w.if-not-fits.ensures) in
          let short : length a.buf.now - a.at - 2 < length (tabbed a.numbers.now) = leb-false _ _ (sym w.if-not-has_room.ensures) in
          let told = refused a.buf.now line a.at (omega (arith, answer_long a.letter a.numbers.now)) in
          (sym told.0, sym told.1)
    ]

pub overflow_sub-buf : goal.overflow_sub-buf
overflow_sub-buf c = omega (arith, two (goal.at.overflow_sub-buf c).Else-not-fits)

pub bounds-buf-at : goal.bounds-buf-at
bounds-buf-at c = omega (arith, room (goal.at.bounds-buf-at c).Else-not-has_room)

pub overflow_add-at : goal.overflow_add-at
overflow_add-at c = omega (arith, room (goal.at.overflow_add-at c).Else-not-has_room)

pub write_all_tabbed-p-requires : goal.write_all_tabbed-p-requires
write_all_tabbed-p-requires c = simp length-set (omega (arith, room (goal.at.write_all_tabbed-p-requires c).Else-not-has_room))

pub bounds-buf-p : goal.bounds-buf-p
bounds-buf-p c =
    let w = c.write_all_tabbed-p in
    omega (arith, w.ensures.0, room (goal.at.bounds-buf-p c).Else-not-has_room, w.auto.buf, length-set c.args.buf.now c.args.at c.args.letter)

pub overflow_add-result : goal.overflow_add-result
overflow_add-result c =
    let w = c.write_all_tabbed-p in
    omega (arith, w.ensures.0, room (goal.at.overflow_add-result c).Else-not-has_room)

pub returns : goal.returns
returns c =
    let w = c.write_all_tabbed-p in
    let a = c.args in
    let ns = a.numbers.now in
    let h = room (goal.at.returns c).Else-not-has_room in
    let n = answer_long a.letter ns in
    let told = fitted a.buf.now (answer_line a.letter ns) a.at (omega arith) in
    let e : w.result + 1 ≡ a.at + length (answer_line a.letter ns) = omega (arith, w.ensures.0) in (
      ap Some e ∙ sym told.0,
      answer_put a.buf.now a.letter ns a.at w.result w.new.buf h w.ensures.1 w.ensures.0 ∙ sym told.1,
    )
