use mathlib.Core.Path.{◌≡◌, sym, ap, ◌∙◌, subst}
use native.Mathlib.Omega.{arith}
use lib.ListN.{drop, get_or}
use Rattle.text.specs.declared.Seen.{Seen}
use Rattle.text.specs.Fields.{tab, upto}
use Rattle.text.specs.Lines.{by_letter}
use Rattle.text.specs.Steps.{more, Fitting}
use Rattle.text.proofs.Cut.{upto_within}
use Rattle.text.proofs.Shapes.{line_last, line_letter, line_field, line_shaped, fitting}
use Rattle.text.proofs.read_line.Goals as goal

pub returns-then-asks_last : goal.returns-then-asks_last
returns-then-asks_last c = line_last c.args.line.now (sym c.if-asks_last.ensures)

pub returns-then-end_at-ne1 : goal.returns-then-end_at-ne1
returns-then-end_at-ne1 c =
    line_letter c.args.line.now (sym c.if-asks_last.ensures)
    (λ (h : upto tab c.args.line.now ≡ 1). c.if-end_at-ne1.true (omega (arith, c.end_at.ensures)))

pub see_from-s-requires : goal.see_from-s-requires
see_from-s-requires c = omega (arith, c.end_at.ensures, upto_within tab c.args.line.now)

pub bounds-line-0 : goal.bounds-line-0
bounds-line-0 c = omega (arith, c.end_at.ensures, upto_within tab c.args.line.now)

pub by_letter-requires : goal.by_letter-requires
by_letter-requires c = subst Fitting (sym c.see_from-s.ensures) (fitting (more tab (drop 1 c.args.line.now)))

pub returns-then-s : goal.returns-then-s
returns-then-s c =
    let l = c.args.line.now in
    let e = c.see_from-s.ensures in
    let u : upto tab l ≡ 1 = omega (arith, c.end_at.ensures) in
    c.by_letter.ensures
    ∙ ap (by_letter (get_or l 0 0)) e
    ∙ line_shaped l (sym c.if-asks_last.ensures) u (sym (ap (λ (s : Seen). s.ok) e) ∙ c.if-s.true)

pub returns : goal.returns
returns c =
    let l = c.args.line.now in
    let e = c.see_from-s.ensures in
    let u : upto tab l ≡ 1 = omega (arith, c.end_at.ensures) in
    line_field l (sym c.if-asks_last.ensures) u (sym (ap (λ (s : Seen). s.ok) e) ∙ c.if-s.false)
