-- The notifications of initialize, literal after literal, as a loop over the places of the plan's distinct literals.
use mathlib.Core.Path.{◌≡◌, refl, sym, ap, ◌∙◌}
use mathlib.Core.Bool.{Bool, true, false}
use mathlib.Core.List.{List, [], ◌∷◌, map}
use Prim.Native.Nat.{ℕ, zero, suc, ◌+◌}
use native.Mathlib.Omega.{arith}
use Rattle.base.specs.Iter.{iter, pick}
use Rattle.division.specs.Plan.{Plan}
use Rattle.calls.specs.Table.{rising}
use Rattle.calls.specs.Calls.{Going, one_by, propagate_all}

module _ (d : Plan) (f : ℕ → ℕ) (g : ℕ → Bool) where
  -- the literal of place p, if it is one of those
  abbrev one : ℕ → Going → Going
  one p b = pick (g p) (one_by d (f p) b b.judgement) b

  -- the first step of a loop taken out
  first_out : (h : ℕ → Going → Going) (n : ℕ) (a : Going) → iter (λ i b. h (suc i) b) n (h 0 a) ≡ iter h (suc n) a
  unfolding iter
  first_out h zero a = refl
  first_out h (suc n) a = ap (h (suc n)) (first_out h n a)

  same_steps : (h k : ℕ → Going → Going) → ((i : ℕ) (b : Going) → h i b ≡ k i b) → (n : ℕ) (a : Going) → iter h n a ≡ iter k n a
  unfolding iter
  same_steps h k e zero a = refl
  same_steps h k e (suc n) a = e n (iter h n a) ∙ ap (k n) (same_steps h k e n a)

  -- the places from `at` on
  from : (n at : ℕ) (a : Going) → propagate_all d (map f (rising g at n)) a ≡ iter (λ i b. one (at + i) b) n a
  unfolding rising propagate_all iter pick
  from zero at a = refl
  from (suc n) at a =
      chosen (g at) a
      ∙ from n (suc at) (one at a)
      ∙ same_steps (λ i b. one (suc at + i) b) (λ i b. one (at + suc i) b) (λ i b. let e : suc at + i ≡ at + suc i = omega arith in ap (λ (p : ℕ). one p b) e) n (one at a)
      ∙ ap (iter (λ i b. one (at + suc i) b) n) (let e : at ≡ at + 0 = omega arith in ap (λ (p : ℕ). one p a) e)
      ∙ first_out (λ i b. one (at + i) b) n a
    where
      chosen : (b : Bool) (x : Going) → propagate_all d (map f (pick b (at ∷ rising g (suc at) n) (rising g (suc at) n))) x ≡ propagate_all d (map f (rising g (suc at) n)) (pick b (one_by d (f at) x x.judgement) x)
      chosen true x = refl
      chosen false x = refl

  pub entered_iter : (n : ℕ) (a : Going) → propagate_all d (map f (rising g 0 n)) a ≡ iter one n a
  entered_iter n a = from n 0 a ∙ same_steps (λ i b. one (0 + i) b) one (λ i b. let e : 0 + i ≡ i = omega arith in ap (λ (p : ℕ). one p b) e) n a
