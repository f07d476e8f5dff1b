use mathlib.Core.Path.{◌≡◌, sym, ap, subst, ◌∙◌}
use mathlib.Core.List.{[], ◌∷◌}
use Prim.Native.Nat.{ℕ}
use native.Mathlib.Omega.{arith}
use lib.ListN.{length, take, drop, length-replicate}
use Rattle.text_writer.specs.Written.{answer_line}
use Rattle.desk.specs.Session.{session}
use Rattle.desk.proofs.Printing.{written_within}
use Rattle.desk.proofs.Speaking.{Shows, shows, refusal_shown}
use Rattle.yard.proofs.refuse.Given.{Over}
use Rattle.yard.proofs.refuse.Goals as goal
use Rattle.yard.proofs.refuse.Goals.{After-print_refusal-n}

shown : (g : Over) (c : After-print_refusal-n g) →
    (take c.print_refusal-n.result c.print_refusal-n.new.out ≡ take c.print_refusal-n.result (drop 0 (session c.args.input.now)))
    × (c.print_refusal-n.result ≡ length (session c.args.input.now))
shown g c =
    let a = c.args in
    let k = c.print_refusal-n in
    refusal_shown a.input.now k.result k.new.out a.refusal c.requires.refusal
    (subst (λ (m : ℕ). Shows k.result k.new.out (answer_line 69 (m ∷ []))) c.number.ensures
    (shows (answer_line 69 (c.number.result ∷ [])) _ k.new.out k.result (omega (arith, k.ensures.1, length-replicate {A = ℕ} 65536 0)) k.ensures.0))

pub show-requires : goal.show-requires
show-requires g c =
    let z : c.nothing.result.told ≡ 0 = c.nothing.ensures in (
      omega (arith, written_within _ _ _ _ c.print_refusal-n.ensures.0),
      (shown g (goal.at.show-requires g c).After-print_refusal-n).0 ∙ ap (λ (k : ℕ). take c.print_refusal-n.result (drop k (session c.args.input.now))) (sym z),
      omega (arith, written_within _ _ _ _ c.print_refusal-n.ensures.0),
    )

pub returns : goal.returns
returns g c =
    let z : c.nothing.result.told ≡ 0 = c.nothing.ensures in
    let e = (shown g (goal.at.returns g c).After-print_refusal-n).1 in
    omega (arith, c.show.ensures)
