-- Lists that are written one after the other, and what stands in the buffer then.
use Prim.Native.Nat.{ℕ, zero, suc, ◌+◌, ◌<◌, ◌≤◌}
use native.Mathlib.Nat.{not-suc-le-zero}
use native.Mathlib.Numerals.{add-one}
use native.Mathlib.Omega.{arith}
use mathlib.Core.Path.{◌≡◌, refl, sym, ◌∙◌, ap, ap₂, subst}
use mathlib.Core.List.{List, [], ◌∷◌, ◌++◌, append-nil, append_assoc}
use lib.ListN.{length, set, length-set}
use lib.Seq.{sets}
use borrow.Author.Tests.{lt-ltb}
use Rattle.base.specs.Iter.{iter}
use Rattle.base.specs.Lists.{collect, tab}
use Rattle.base.proofs.Loop.{pick_yes, pick_ind}
use Rattle.walks.specs.Written.{Out, out_of, pushed, written}

pub written_append : (a b : List ℕ) (o : Out) → written (a ++ b) o ≡ written b (written a o)
unfolding written
written_append [] b o = refl
written_append (x ∷ a) b o = written_append a b (pushed x o)

-- one word
pub written_one : (x : ℕ) (o : Out) → written (x ∷ []) o ≡ pushed x o
unfolding written
written_one x o = refl

-- a loop that writes a list in each turn
pub written_collect : (f : ℕ → List ℕ) (n : ℕ) (o : Out) → iter (λ i x. written (f i) x) n o ≡ written (collect f n) o
unfolding iter collect written
written_collect f zero o = refl
written_collect f (suc n) o = ap (written (f n)) (written_collect f n o) ∙ sym (written_append (collect f n) (f n) o)

collect_front : (f : ℕ → List ℕ) (n : ℕ) → collect f (suc n) ≡ f 0 ++ collect (λ i. f (suc i)) n
unfolding collect
collect_front f zero = sym (append-nil (f 0))
collect_front f (suc n) = ap (λ (l : List ℕ). l ++ f (suc n)) (collect_front f n) ∙ append_assoc (f 0) (collect (λ i. f (suc i)) n) (f (suc n))

tab_collect : (f : ℕ → ℕ) (n : ℕ) → collect (λ i. f i ∷ []) n ≡ tab f n
unfolding tab collect
tab_collect f zero = refl
tab_collect f (suc n) = collect_front (λ i. f i ∷ []) n ∙ ap (λ (l : List ℕ). f 0 ∷ l) (tab_collect (λ i. f (suc i)) n)

-- a list of which each place is written in its turn
pub written_tab : (f : ℕ → ℕ) (n : ℕ) (o : Out) → iter (λ i x. pushed (f i) x) n o ≡ written (tab f n) o
unfolding written
written_tab f n o = written_collect (λ i. f i ∷ []) n o ∙ ap (λ (l : List ℕ). written l o) (tab_collect f n)

pub pushed_length : (x : ℕ) (o : Out) → length (pushed x o).text ≡ length o.text
unfolding pushed
pushed_length x o = pick_ind (λ (y : Out). length y.text ≡ length o.text) _ _ _ (λ _. length-set o.text o.place x) (λ _. refl)

pub written_length : (l : List ℕ) (o : Out) → length (written l o).text ≡ length o.text
unfolding written
written_length [] o = refl
written_length (x ∷ l) o = written_length l (pushed x o) ∙ pushed_length x o

pub pushed_room : (x : ℕ) (t : List ℕ) (n : ℕ) → n < length t → pushed x (out_of t n) ≡ out_of (set t n x) (n + 1)
unfolding pushed
pushed_room x t n h = pick_yes _ _ (lt-ltb n (length t) h)

-- where there is room, all of the list stands from the place on, and the answer is the place past it
pub written_fits : (l t : List ℕ) (n : ℕ) → n + length l ≤ length t → written l (out_of t n) ≡ out_of (sets t n l) (n + length l)
unfolding written
written_fits [] t n h = ap (out_of t) (sym (native.Mathlib.Nat.add-zero n))
written_fits (x ∷ l) t n h =
    ap (written l) (pushed_room x t n (omega arith)) ∙ written_fits l (set t n x) (n + 1) (subst (λ k. n + 1 + length l ≤ k) (sym (length-set t n x)) (omega arith)) ∙
    ap₂ out_of (ap (λ (k : ℕ). sets (set t n x) k l) (add-one n)) (omega arith)
