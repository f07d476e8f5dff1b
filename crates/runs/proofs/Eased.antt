-- One edge, case by case as the code goes.
use Prim.Native.Nat.{ℕ, zero, suc, ◌+◌, ◌<◌, ◌≤◌}
use native.Mathlib.Omega.{arith}
use native.Mathlib.Numerals.{add-one}
use mathlib.Core.Path.{◌≡◌, refl, sym, ◌∙◌, ap, ap₂}
use mathlib.Core.Logic.{⊎_elim}
use mathlib.Core.Bool.{Bool, true, false, not, ◌&&◌, ◌||◌, true≢false}
use mathlib.Core.List.{List}
use lib.ListN.{get_or}
use borrow.Author.Tests.{eq-eqb, ne_eqb}
use Rattle.base.specs.Iter.{iter}
use Rattle.base.proofs.Loop.{pick_yes, pick_no, iter_more, iter_done}
use Rattle.base.proofs.Tests.{and_no, or_none, le_or_lt}
use Rattle.graph.specs.Search.{Graph, is_open, end_a, end_b}
use Rattle.graph.specs.Bounds.{Fine}
use Rattle.runs.specs.Run.{is_undecided}
use Rattle.runs.specs.Rounds.{far_of, less_by, nearer, stored, relaxed, relaxed_edge, round, distances}
use Rattle.runs.specs.Small.{blank}

pub both : {a b : Bool} → a ≡ true → b ≡ true → (a && b) ≡ true
both {a} {b} e f = ap (λ (x : Bool). x && b) e ∙ f

pub second : {a b : Bool} → a ≡ true → (a && b) ≡ b
second {a} {b} e = ap (λ (x : Bool). x && b) e

pub otherwise : {a b : Bool} → a ≡ false → (a || b) ≡ b
otherwise {a} {b} e = ap (λ (x : Bool). x || b) e

pub changed : {A : Type 0} → true ≡ false → A
changed e = absurd (true≢false e)

module _ (e : Graph) (g p r : ℕ) (w : List ℕ) where
  -- what is stored where vertex p is nearer
  pub relaxed_yes : (k b : ℕ) (w' : List ℕ) → nearer e g p r (far_of w) ≡ true → k ≡ is_undecided e g → b ≡ get_or w (64 + r) 0 + 1 →
      w' ≡ stored p (k + get_or w r 0) b w → w' ≡ relaxed e g p r w
  unfolding relaxed
  relaxed_yes k b w' t u v h = h ∙ ap₂ (λ (x y : ℕ). stored p (x + get_or w r 0) y w) u (v ∙ add-one _) ∙ sym (pick_yes _ _ t)

  pub relaxed_no : nearer e g p r (far_of w) ≡ false → w ≡ relaxed e g p r w
  unfolding relaxed
  relaxed_no t = sym (pick_no _ _ t)

  pub from_unseen : (get_or w (128 + r) 0 ≡ 1 → ⊥) → nearer e g p r (far_of w) ≡ false
  unfolding nearer
  from_unseen n = sym (and_no _ (ne_eqb _ _ n))

  pub new : get_or w (128 + r) 0 ≡ 1 → (get_or w (128 + p) 0 ≡ 1 → ⊥) → nearer e g p r (far_of w) ≡ true
  unfolding nearer
  new s n = both (eq-eqb _ _ s) (ap (λ (x : Bool). not x || less_by (is_undecided e g + get_or w r 0) (suc (get_or w (64 + r) 0)) (get_or w p 0) (get_or w (64 + p) 0)) (ne_eqb _ _ n))

  pub compared : (k b : ℕ) (x : Bool) → get_or w (128 + r) 0 ≡ 1 → get_or w (128 + p) 0 ≡ 1 → k ≡ is_undecided e g → b ≡ get_or w (64 + r) 0 + 1 →
      x ≡ less_by (k + get_or w r 0) b (get_or w p 0) (get_or w (64 + p) 0) → nearer e g p r (far_of w) ≡ x
  unfolding nearer
  compared k b x s q u v h =
      second (eq-eqb _ _ s)
      ∙ ap (λ (y : Bool). not y || less_by (is_undecided e g + get_or w r 0) (suc (get_or w (64 + r) 0)) (get_or w p 0) (get_or w (64 + p) 0)) (eq-eqb _ _ q)
      ∙ ap₂ (λ (i j : ℕ). less_by (i + get_or w r 0) j (get_or w p 0) (get_or w (64 + p) 0)) (sym u) (sym (v ∙ add-one _)) ∙ sym h

-- an edge, both ways
module _ (e : Graph) (g a b : ℕ) (ea : a ≡ end_a e g) (eb : b ≡ end_b e g) where
  pub both_ways : (w x y : List ℕ) (o : Bool) → o ≡ is_open e g → o ≡ true → x ≡ relaxed e g b a w → y ≡ relaxed e g a b x → y ≡ relaxed_edge e g w
  unfolding relaxed_edge
  both_ways w x y o t u h k =
      k ∙ ap (relaxed e g a b) h ∙ ap₂ (λ (i j : ℕ). relaxed e g i j (relaxed e g j i w)) ea eb ∙ sym (pick_yes _ _ (sym t ∙ u))

pub shut_edge : (e : Graph) (g : ℕ) (w : List ℕ) (o : Bool) → o ≡ is_open e g → o ≡ false → w ≡ relaxed_edge e g w
unfolding relaxed_edge
shut_edge e g w o t u = sym (pick_no _ _ (sym t ∙ u))

pub or_swap : (a b : Bool) → (a || b) ≡ (b || a)
or_swap true true = refl
or_swap true false = refl
or_swap false true = refl
or_swap false false = refl

-- nothing changed by two that changed nothing
pub neither : (w x y : List ℕ) (m n o : Bool) → o ≡ (m || n) → (m ≡ false → x ≡ w) → (n ≡ false → y ≡ x) → o ≡ false → y ≡ w
neither w x y m n o h f k z = let q = or_none m n (sym h ∙ z) in k q.1 ∙ f q.0

-- a round that changes nothing is the last
pub still : {A : Type 0} (f : ℕ → A → A) (a : A) (i n : ℕ) (x : A) → ((j : ℕ) → x ≡ f j x) → x ≡ iter f i a → i ≤ n → x ≡ iter f n a
unfolding iter
still f a i zero x s e h = iter_done f a i zero x e h (omega arith)
still f a i (suc n) x s e h = ⊎_elim
    (λ (l : i ≤ n). s n ∙ ap (f n) (still f a i n x s e l))
    (λ (l : n < i). let z : i ≡ suc n = omega arith in e ∙ ap (λ (j : ℕ). iter f j a) z)
    (le_or_lt i n)

pub fine_64 : (n edges : ℕ) (es : List (List ℕ)) → Fine n edges es → Fine 64 edges es
fine_64 n edges es f = record {
  vertices = omega arith;
  fits = f.fits;
  within = λ g h. record { a = omega (arith, (f.within g h).a, f.vertices); b = omega (arith, (f.within g h).b, f.vertices) };
}

-- ---- the rounds so far
unfoldable pub rounds_of : Graph → ℕ → ℕ → ℕ → List ℕ
rounds_of e edges q i = iter (λ _ w. round e edges w) i (stored q 0 0 blank)

module _ (e : Graph) (edges q : ℕ) where
  pub rounds_none : (w x : List ℕ) → w ≡ blank → x ≡ stored q 0 0 w → x ≡ rounds_of e edges q 0
  unfolding rounds_of iter
  rounds_none w x h k = k ∙ ap (stored q 0 0) h

  pub rounds_more : (i : ℕ) (w x : List ℕ) → w ≡ rounds_of e edges q i → x ≡ round e edges w → x ≡ rounds_of e edges q (i + 1)
  unfolding rounds_of
  rounds_more i w x h k = iter_more _ _ i w x h k

  pub rounds_done : (i n : ℕ) (w : List ℕ) → w ≡ rounds_of e edges q i → i ≤ n → n ≤ i → w ≡ distances e edges n q
  unfolding rounds_of distances blank
  rounds_done i n w h k l = iter_done _ _ i n w h k l

  pub rounds_still : (i n : ℕ) (w x : List ℕ) → w ≡ rounds_of e edges q i → x ≡ round e edges w → x ≡ w → i ≤ n → x ≡ distances e edges n q
  unfolding rounds_of distances blank
  rounds_still i n w x h k z l = z ∙ still _ _ i n w (λ j. sym z ∙ k) h l
