use mathlib.Core.Logic.{⊎_elim}
use mathlib.Core.Path.{◌≡◌, refl, sym, ap, ◌∙◌}
use mathlib.Core.List.{List, []}
use Prim.Native.Nat.{ℕ}
use mir.Syntax.{w32}
use mir.Facts.{to_z-of_z}
use borrow.Author.Rules.{rules, sfits_of}
use Rattle.desk.specs.Obey.{desk, turn, valued, notified, taken_back, reason_asked, obeyed}
use Rattle.desk.proofs.Answering.{told_along, told_line, asked, silent}
use borrow.Author.Rules.{rules}
use Rattle.desk.proofs.obey_read.Goals as goal

pub returns-in-V : goal.returns-in-V
unfolding obeyed valued
returns-in-V c =
    let a = c.args in
    told_line _ (desk a.s a.cursor a.table.now a.log.now) a.out.now _ _ c.in-V.is
    (told_along _ a.out.now _ _ (ap (λ (t : List ℕ). turn (desk a.s a.cursor t a.log.now) []) c.store.ensures) (silent _ a.s a.cursor _ a.log.now a.out.now c.stay.ensures))

pub returns-in-N : goal.returns-in-N
unfolding obeyed valued
returns-in-N c =
    let a = c.args in
    told_line _ (desk a.s a.cursor a.table.now a.log.now) a.out.now _ _ c.in-N.is
    (told_along _ a.out.now _ _ (λ i. notified (desk a.s a.cursor a.table.now a.log.now) (to_z-of_z {w = w32} {z = c.in-N.lit} (sfits_of (c.in-N.known_told-in-N-1-own.given.0.1)) i) (to_z-of_z {w = w32} {z = c.in-N.pending} (sfits_of (c.in-N.known_told-in-N-1-own.given.1.0.1)) i)) c.notify.ensures)

pub returns-in-U : goal.returns-in-U
unfolding obeyed valued
returns-in-U c =
    let a = c.args in
    told_line _ (desk a.s a.cursor a.table.now a.log.now) a.out.now _ _ c.in-U.is
    (told_along _ a.out.now _ _ (λ i. taken_back (desk a.s a.cursor a.table.now a.log.now) (to_z-of_z {w = w32} {z = c.in-U.lit} (sfits_of (c.in-U.known_told-in-U-1-own.given.0.1)) i)) c.take_back.ensures)

pub returns-in-R : goal.returns-in-R
unfolding obeyed valued
returns-in-R c =
    let a = c.args in
    told_line _ (desk a.s a.cursor a.table.now a.log.now) a.out.now _ _ c.in-R.is
    (asked _ a.s a.cursor a.table.now a.log.now a.out.now _ _ _ _ c.stay-in-R.ensures (λ i. reason_asked a.s a.cursor a.log.now (to_z-of_z {w = w32} {z = c.in-R.lit} (sfits_of (c.in-R.known_told-in-R-1-own.given.0.1)) i)) c.ask_reason.ensures)

pub returns-in-RLast : goal.returns-in-RLast
unfolding obeyed valued
returns-in-RLast c =
    let a = c.args in
    told_line _ (desk a.s a.cursor a.table.now a.log.now) a.out.now _ _ c.in-RLast.is
    (asked _ a.s a.cursor a.table.now a.log.now a.out.now _ _ _ _ c.stay-in-RLast.ensures refl c.ask_last.ensures)

pub returns-in-I : goal.returns-in-I
unfolding obeyed valued
returns-in-I c =
    let a = c.args in
    told_line _ (desk a.s a.cursor a.table.now a.log.now) a.out.now _ _ c.in-I.is c.begin.ensures

pub returns-in-O : goal.returns-in-O
unfolding obeyed valued
returns-in-O c =
    let a = c.args in
    let d = desk a.s a.cursor a.table.now a.log.now in
    let idle = silent _ a.s a.cursor a.table.now a.log.now a.out.now c.stay-in-O.ensures in
    ⊎_elim (λ p. told_line _ d a.out.now _ _ p.2 idle)
    (⊎_elim (λ p. told_line _ d a.out.now _ _ p.3 idle) (⊎_elim (λ p. told_line _ d a.out.now _ _ p.3 idle) (λ e. told_line _ d a.out.now _ _ e idle))) c.in-O.is
