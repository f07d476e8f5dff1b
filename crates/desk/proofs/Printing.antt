-- An answer's line in the buffer, over plain variables.
use mathlib.Core.Path.{◌≡◌, refl, sym, ap, ap₂, subst, ◌∙◌}
use mathlib.Core.Bool.{Bool}
use mathlib.Core.List.{List, []}
use Prim.Native.Nat.{ℕ, ◌+◌, ◌≤◌}
use lib.Dec.{leb}
use native.Mathlib.Omega.{arith}
use lib.ListN.{length}
use borrow.Author.Tests.{le-leb, leb-true}
use Rattle.base.specs.Iter.{pick}
use Rattle.base.proofs.Loop.{pick_yes, pick_no, tested}
use Rattle.std.specs.Prelude.{Option, None, Some}
use Rattle.text_writer.specs.Written.{put, after, next, answer_line}
use Rattle.desk.specs.Print.{Printed, written, printing, count_of}

pub no_bytes : (out : List ℕ) → written 0 out ≡ printing [] out
unfolding printing next after put count_of pick
no_bytes out = ap (λ (b : Bool). written (count_of (pick b (Some 0) None)) (pick b out out)) (sym (le-leb 0 (length out) (omega arith)))

-- what the writer answers and leaves, where it was given the numbers xs
pub answered : (letter n : ℕ) (w : Option ℕ) (xs ns out out' : List ℕ) → n ≡ count_of w →
    (w ≡ next out 0 (answer_line letter xs)) × (out' ≡ after out 0 (answer_line letter xs)) → xs ≡ ns →
    written n out' ≡ printing (answer_line letter ns) out
unfolding printing
answered letter n w xs ns out out' e p x =
    ap₂ written (e ∙ ap count_of p.0) p.1 ∙ ap (λ (l : List ℕ). printing (answer_line letter l) out) x

pub count_within : (bytes out : List ℕ) → (printing bytes out).count ≤ length out
unfolding printing next count_of
count_within bytes out = tested (leb (0 + length bytes) (length out))
    (λ t. subst (λ (w : Option ℕ). count_of w ≤ length out) (sym (pick_yes _ _ t)) (leb-true (0 + length bytes) (length out) t))
    (λ t. subst (λ (w : Option ℕ). count_of w ≤ length out) (sym (pick_no _ _ t)) (omega arith))

pub written_within : (n : ℕ) (out' out bytes : List ℕ) → written n out' ≡ printing bytes out → n ≤ length out
written_within n out' out bytes e = subst (λ (p : Printed). p.count ≤ length out) (sym e) (count_within bytes out)
