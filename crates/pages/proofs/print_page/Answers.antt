use native.Mathlib.Omega.{arith}
use lib.ListN.{get_or}
use Rattle.pages.specs.Lines.{figures_of}
use Rattle.pages.proofs.Fields.{regions_few, page_unknown, page_small, page_told}
use Rattle.pages.proofs.print_page.Goals as goal

pub returns-then-n-gt64 : goal.returns-then-n-gt64
returns-then-n-gt64 c =
    let a = c.args in
    let t = figures_of a.labels.now a.weights.now a.lowers.now a.uppers.now in
    page_unknown t a.n a.page.now c.if-n-gt64.true

pub overflow_mul-size : goal.overflow_mul-size
overflow_mul-size c =
    let a = c.args in
    let k = regions_few (λ v. get_or a.labels.now v 0) a.n in
    omega (arith, k, c.count_regions-size.ensures, c.if-n-gt64.false)

pub returns-then-page-size : goal.returns-then-page-size
returns-then-page-size c =
    let a = c.args in
    let t = figures_of a.labels.now a.weights.now a.lowers.now a.uppers.now in
    let k = c.count_regions-size.ensures in
    page_small t a.n a.page.now _ k c.if-n-gt64.false c.if-page-size.true

pub returns : goal.returns
returns c =
    let a = c.args in
    let t = figures_of a.labels.now a.weights.now a.lowers.now a.uppers.now in
    let k = c.count_regions-size.ensures in
    let w = c.write_lines.ensures in
    page_told t a.n a.page.now _ _ k c.if-n-gt64.false c.if-page-size.false w
