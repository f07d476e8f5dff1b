-- Rising sequences: a loop over one is a loop over every number that tests whether it is there.
use mathlib.Core.Path.{◌≡◌, refl, sym, ap, subst, ◌∙◌}
use mathlib.Core.Logic.{◌⊎◌, inl, inr, ⊎_elim}
use mathlib.Core.Bool.{Bool, true, false, true≢false}
use Prim.Native.Nat.{ℕ, zero, suc, ◌≤◌, ◌<◌}
use native.Mathlib.Omega.{arith}
use native.Mathlib.Nat.{eq-or-lt_of_le}
use Rattle.base.specs.Iter.{iter, pick}
use Rattle.base.proofs.Loop.{pick_yes, pick_no, tested, eq_or_not}
use Rattle.base.proofs.Tests.{le_or_lt}

-- rising step by step, rising
pub rises : (f : ℕ → ℕ) (n : ℕ) → ((i : ℕ) → suc i < n → f i < f (suc i)) → (i j : ℕ) → i < j → j < n → f i < f j
rises f n h i zero a b = absurd (omega arith)
rises f n h i (suc j) a b = ⊎_elim
    (λ (e : i ≡ j). subst (λ (k : ℕ). f k < f (suc j)) (sym e) (h j b))
    (λ (k : i < j). let p = rises f n h i j k (omega arith) in let q = h j b in omega arith)
    (eq-or-lt_of_le {n = i} {m = j} (omega arith))

-- of two places of one value, neither is first
pub rises_once : (f : ℕ → ℕ) (n : ℕ) → ((i j : ℕ) → i < j → j < n → f i < f j) → (i j : ℕ) → i < n → j < n → f i ≡ f j → i ≡ j
rises_once f n r i j a b e = ⊎_elim (λ q. q) (λ q. ⊎_elim
    (λ (h : i < j). absurd (let p = r i j h b in omega arith))
    (λ (h : j ≤ i). absurd (let k : j < i = less (λ (z : i ≡ j). q z) h in let p = r j i k a in omega arith))
    (lt_or i j)) (eq_or_not i j)
  where
    lt_or : (i j : ℕ) → (i < j) ⊎ (j ≤ i)
    lt_or i j = ⊎_elim (λ (h : j ≤ i). inr h) (λ (h : i < j). inl h) (le_or_lt j i)

    less : (i ≡ j → ⊥) → j ≤ i → j < i
    less q h = ⊎_elim (λ (z : j ≡ i). absurd (q (sym z))) (λ (z : j < i). z) (eq-or-lt_of_le {n = j} {m = i} h)

-- where a number falls among starting places
pub locate : (f : ℕ → ℕ) (m p : ℕ) → f 0 ≤ p → p < f m → (k : ℕ) × (k < m) × (f k ≤ p) × (p < f (suc k))
locate f zero p a b = absurd (omega arith)
locate f (suc m) p a b = ⊎_elim
    (λ (h : f m ≤ p). (m, omega arith, h, b))
    (λ (h : p < f m). let (k, c, d, e) = locate f m p a h in (k, omega arith, d, e))
    (le_or_lt (f m) p)

module _ {A : Type 0} (f : ℕ → A → A) (x : A) (at : ℕ → ℕ) (n : ℕ) (rising : (i j : ℕ) → i < j → j < n → at i < at j) (b : ℕ → Bool)
    (there : (s : ℕ) → b s ≡ true → (i : ℕ) × (i < n) × (at i ≡ s)) (is : (i : ℕ) → i < n → b (at i) ≡ true) where
  -- the first c of the sequence lie below m, the others do not
  record Passed (m : ℕ) : Type 0 where
    c : ℕ
    few : c ≤ n
    under : (i : ℕ) → i < c → at i < m
    over : (i : ℕ) → c ≤ i → i < n → m ≤ at i
    same : iter (λ s y. pick (b s) (f s y) y) m x ≡ iter (λ i y. f (at i) y) c x

  missing : (m : ℕ) → Passed m → b m ≡ false → Passed (suc m)
  unfolding iter
  missing m p e = record {
    c = p.c;
    few = p.few;
    under = λ i h. let z = p.under i h in omega arith;
    over = λ i h k. ⊎_elim (λ (q : m ≡ at i). absurd (true≢false (sym (is i k) ∙ ap b (sym q) ∙ e))) (λ (q : m < at i). q) (eq-or-lt_of_le {n = m} {m = at i} (p.over i h k));
    same = pick_no _ _ e ∙ p.same;
  }

  -- a number that is there is the next of the sequence
  next : (m : ℕ) (p : Passed m) (i : ℕ) → i < n → at i ≡ m → i ≡ p.c
  next m p i h q = ⊎_elim
      (λ (z : p.c ≤ i). ⊎_elim (λ (w : p.c ≡ i). sym w) (λ (w : p.c < i). absurd (let a = p.over p.c (omega arith) (omega arith) in let d = rising p.c i w h in omega arith)) (eq-or-lt_of_le {n = p.c} {m = i} z))
      (λ (z : i < p.c). absurd (let a = p.under i z in omega arith))
      (le_or_lt p.c i)

  found : (m : ℕ) (p : Passed m) (i : ℕ) → i < n → at i ≡ m → b m ≡ true → Passed (suc m)
  unfolding iter
  found m p i h q e =
      let eq : i ≡ p.c = next m p i h q in
      let qc : at p.c ≡ m = ap at (sym eq) ∙ q in
      record {
        c = suc p.c;
        few = omega arith;
        under = λ j k. ⊎_elim (λ (z : j ≡ p.c). let w : at j ≡ at p.c = ap at z in omega arith) (λ (z : j < p.c). let w = p.under j z in omega arith) (eq-or-lt_of_le {n = j} {m = p.c} (omega arith));
        over = λ j a k. let d = rising p.c j (omega arith) k in omega arith;
        same = pick_yes _ _ e ∙ ap (f m) p.same ∙ ap (λ (s : ℕ). f s (iter (λ i y. f (at i) y) p.c x)) (sym qc);
      }

  pass : (m : ℕ) → Passed m
  unfolding iter
  pass zero = record { c = 0; few = omega arith; under = λ i h. absurd (omega arith); over = λ i h k. omega arith; same = refl }
  pass (suc m) = tested (b m) (λ e. let (i, h, q) = there m e in found m (pass m) i h q e) (missing m (pass m))

  pub loop_over : (m : ℕ) → ((i : ℕ) → i < n → at i < m) → iter (λ i y. f (at i) y) n x ≡ iter (λ s y. pick (b s) (f s y) y) m x
  loop_over m h =
      let p = pass m in
      let e : n ≡ p.c = ⊎_elim (λ (z : p.c ≡ n). sym z) (λ (z : p.c < n). absurd (let a = p.over p.c (omega arith) z in let d = h p.c z in omega arith)) (eq-or-lt_of_le {n = p.c} {m = n} p.few) in
      ap (λ (c : ℕ). iter (λ i y. f (at i) y) c x) e ∙ sym p.same
