use mathlib.Core.Path.{◌≡◌, sym, ap, ◌∙◌}
use Prim.Native.Nat.{ℕ, ◌*◌}
use native.Mathlib.Omega.{arith}
use lib.ListN.{length, get_or}
use Rattle.base.specs.Iter.{pick}
use Rattle.text_writer.specs.Written.{put}
use Rattle.text_writer.proofs.Putting.{put_none}
use Rattle.pages.specs.Lines.{set_line, figures_of, region_line, is_label, line_of}
use Rattle.pages.proofs.Fields.{label_yes, label_no, line_yes, line_no}
use Rattle.pages.proofs.write_region.Goals as goal

pub write_line-requires : goal.write_line-requires
write_line-requires c =
    let a = c.args in
    let k = sym c.from.ensures ∙ c.if-from-r.true in
    let z = label_yes (λ v. get_or a.labels.now v 0) a.r k in
    omega (arith, c.requires.2)

pub returns-then-from-r : goal.returns-then-from-r
unfolding region_line
returns-then-from-r c =
    let a = c.args in
    let t = figures_of a.labels.now a.weights.now a.lowers.now a.uppers.now in
    let k = sym c.from.ensures ∙ c.if-from-r.true in
    let z = label_yes t.label a.r k in
    let w = c.write_line.ensures in
    let x = c.region_set-set in
    let e : set_line x.result (t.weight a.r) (t.lower a.r) (t.upper a.r) ≡ line_of t a.n a.r =
    ap (λ (s : ℕ). set_line s (t.weight a.r) (t.lower a.r) (t.upper a.r)) x.ensures
    ∙ sym (line_yes t a.n a.r k) in
    let v : 39 ≡ 39 * pick (is_label t.label a.r) 1 0 = omega arith in
    (omega arith, w.0 ∙ ap (put a.page.now a.at) e, ap length (sym e) ∙ w.1 ∙ v)

pub returns : goal.returns
returns c =
    let a = c.args in
    let t = figures_of a.labels.now a.weights.now a.lowers.now a.uppers.now in
    let n : t.label a.r ≡ a.r → ⊥ = λ z. c.if-from-r.false (c.from.ensures ∙ z) in
    let z = label_no t.label a.r n in
    let e = line_no t a.n a.r n in
    let v : 0 ≡ 39 * pick (is_label t.label a.r) 1 0 = omega arith in
    (omega arith, sym (put_none a.page.now a.at) ∙ ap (put a.page.now a.at) (sym e), ap length e ∙ v)
