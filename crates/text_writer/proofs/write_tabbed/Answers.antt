use mathlib.Core.Path.{refl, ap, ◌∙◌}
use mathlib.Core.List.{List, [], ◌∷◌}
use Prim.Native.Nat.{ℕ, ◌+◌}
use native.Mathlib.Omega.{arith}
use lib.ListN.{length-set}
use Rattle.text_writer.specs.Digits.{digits}
use Rattle.text_writer.specs.Written.{put, tabbed_one}
use Rattle.text_writer.proofs.Putting.{tabbed_long, put_one, put_put}
use Rattle.text_writer.proofs.write_tabbed.Goals as goal

pub bounds-buf-at : goal.bounds-buf-at
bounds-buf-at c = omega (arith, tabbed_long c.args.n)

pub write_digits-requires : goal.write_digits-requires
write_digits-requires c = simp length-set (omega (arith, tabbed_long c.args.n))

pub returns : goal.returns
unfolding tabbed_one
returns c =
    let a = c.args in
    let w = c.write_digits in
    let n = tabbed_long a.n in (
      omega (arith, w.ensures.0),
      w.ensures.1
          ∙ ap (λ (b : List ℕ). put b (a.at + 1) (digits a.n)) (put_one a.buf.now a.at 9 (omega arith))
          ∙ put_put a.buf.now (9 ∷ []) (digits a.n) a.at (a.at + 1) refl (omega arith),
    )
