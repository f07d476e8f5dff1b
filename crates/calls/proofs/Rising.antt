-- Lists that rise are told by their members; a sweep over the numbers from a on gives such a list.
use Prim.Native.Nat.{ℕ, zero, suc, ◌+◌, ◌<◌, ◌≤◌}
use native.Mathlib.Omega.{arith}
use mathlib.Core.Path.{◌≡◌, refl, sym, ◌∙◌, ap, subst}
use mathlib.Core.Logic.{◌⊎◌, ⊎_elim, ◌↔◌}
use mathlib.Core.Bool.{Bool, true, false, true≢false}
use mathlib.Core.List.{List, [], ◌∷◌, ◌++◌, append_assoc, append-nil}
use mathlib.Core.List.Memᴰ
use lib.ListN.{length}
use Rattle.base.specs.Iter.{pick}
use Rattle.base.specs.Lists.{Every, collect, total}
use Rattle.base.proofs.Loop.{pick_ind, pick_yes, pick_no, tested, eq_or_not}
use Rattle.base.proofs.Lists.{every_map}
use Rattle.division.specs.Noting.{In}
use Rattle.calls.specs.Table.{rising}
use Rattle.calls.specs.Order.{Rising}
use Rattle.calls.specs.Page.{Listing}

pub every_in : (P : ℕ → Type 0) (x : ℕ) (ls : List ℕ) → Every P ls → In ls x → P x
every_in P x [] e m = absurd (Memᴰ.not-nil m)
every_in P x (y ∷ ys) (Every.more p e) m =
    ⊎_elim (λ q. subst P (sym q) p) (λ n. every_in P x ys e n) (Memᴰ.cases_cons m)

-- lists that rise and have the same members are the same
pub rising_same : (a b : List ℕ) → Rising a → Rising b → ((x : ℕ) → In a x → In b x) →
    ((x : ℕ) → In b x → In a x) → a ≡ b
rising_same [] [] r s f g = refl
rising_same [] (y ∷ b) r s f g = absurd (Memᴰ.not-nil (g y (Memᴰ.head refl)))
rising_same (x ∷ a) [] r s f g = absurd (Memᴰ.not-nil (f x (Memᴰ.head refl)))
rising_same (x ∷ a) (y ∷ b) (Rising.more e r) (Rising.more i s) f g =
    joined (rising_same a b r s (λ z m. past_f z m) (λ z m. past_g z m))
  where
    same : x ≡ y
    same =
        ⊎_elim (λ q. q)
        (λ m. ⊎_elim (λ q. sym q)
        (λ n. absurd (clear (every_in (λ z. y < z) x b i m) (every_in (λ z. x < z) y a e n)))
        (Memᴰ.cases_cons (g y (Memᴰ.head refl))))
        (Memᴰ.cases_cons (f x (Memᴰ.head refl)))
      where
        clear : y < x → x < y → ⊥
        clear h k = omega arith

    past_f : (z : ℕ) → In a z → In b z
    past_f z m =
        ⊎_elim (λ q. absurd (clear q (every_in (λ u. x < u) z a e m))) (λ n. n)
        (Memᴰ.cases_cons (f z (Memᴰ.tail m)))
      where
        clear : z ≡ y → x < z → ⊥
        clear q h = let w = same in omega (arith, w)

    past_g : (z : ℕ) → In b z → In a z
    past_g z m =
        ⊎_elim (λ q. absurd (clear q (every_in (λ u. y < u) z b i m))) (λ n. n)
        (Memᴰ.cases_cons (g z (Memᴰ.tail m)))
      where
        clear : z ≡ x → y < z → ⊥
        clear q h = let w = same in omega (arith, w)

    joined : a ≡ b → x ∷ a ≡ y ∷ b
    joined q = let w = same in cc

pub swept_every : (t : ℕ → Bool) (a n : ℕ) → Every (λ x. (a ≤ x) × (t x ≡ true)) (rising t a n)
unfolding rising
swept_every t a zero = Every.none
swept_every t a (suc n) =
    let rest = every_map up (swept_every t (suc a) n) in
    pick_ind (Every (λ x. (a ≤ x) × (t x ≡ true))) _ _ _ (λ e. Every.more (omega arith, e) rest) (λ _. rest)
  where
    up : (x : ℕ) → (suc a ≤ x) × (t x ≡ true) → (a ≤ x) × (t x ≡ true)
    up x p = let h = p.0 in (omega arith, p.1)

pub swept_rising : (t : ℕ → Bool) (a n : ℕ) → Rising (rising t a n)
unfolding rising
swept_rising t a zero = Rising.none
swept_rising t a (suc n) =
    let rest = swept_rising t (suc a) n in
    pick_ind Rising _ _ _ (λ _. Rising.more (every_map (λ x p. p.0) (swept_every t (suc a) n)) rest) (λ _. rest)

pub swept_in : (t : ℕ → Bool) (a n x : ℕ) → a ≤ x → x < a + n → t x ≡ true → In (rising t a n) x
unfolding rising
swept_in t a zero x h k e = absurd (omega arith)
swept_in t a (suc n) x h k e =
    pick_ind (λ (z : List ℕ). In z x) (t a) _ _
    (λ _. ⊎_elim (λ (q : x ≡ a). Memᴰ.head q)
    (λ (q : x ≡ a → ⊥). Memᴰ.tail (swept_in t (suc a) n x (omega arith) (omega arith) e)) (eq_or_not x a))
    (λ f. swept_in t (suc a) n x (other f) (omega arith) e)
  where
    other : t a ≡ false → suc a ≤ x
    other f =
        ⊎_elim (λ (q : x ≡ a). absurd (true≢false (sym e ∙ ap t q ∙ f))) (λ (q : x ≡ a → ⊥). omega arith)
        (eq_or_not x a)

pub swept_below : (t : ℕ → Bool) (a n : ℕ) → Every (λ x. x < a + n) (rising t a n)
unfolding rising
swept_below t a zero = Every.none
swept_below t a (suc n) =
    let rest = every_map over (swept_below t (suc a) n) in
    pick_ind (Every (λ x. x < a + suc n)) _ _ _ (λ _. Every.more (omega arith) rest) (λ _. rest)
  where
    over : (x : ℕ) → x < suc a + n → x < a + suc n
    over x h = omega arith

-- a sweep over all numbers that may meet P, by a test for it, lists those that do
pub swept_listing : (t : ℕ → Bool) (n : ℕ) (P : ℕ → Type 0) → ((x : ℕ) → P x → x < n) →
    ((x : ℕ) → x < n → (t x ≡ true) ↔ P x) → Listing P (rising t 0 n)
swept_listing t n P low f = record { rising = swept_rising t 0 n; exactly = λ x. (to x, from x) }
  where
    to : (x : ℕ) → In (rising t 0 n) x → P x
    to x m =
        let h : x < 0 + n = every_in (λ y. y < 0 + n) x _ (swept_below t 0 n) m in
        (f x (omega arith)).0 (every_in (λ y. (0 ≤ y) × (t y ≡ true)) x _ (swept_every t 0 n) m).1

    from : (x : ℕ) → P x → In (rising t 0 n) x
    from x p = let h = low x p in swept_in t 0 n x (omega arith) (omega arith) ((f x h).1 p)

-- and there is one such list
pub listing_same : {P : ℕ → Type 0} {a b : List ℕ} → Listing P a → Listing P b → a ≡ b
listing_same {a = a} {b = b} x y =
    rising_same a b x.rising y.rising (λ z m. (y.exactly z).1 ((x.exactly z).0 m))
    (λ z m. (x.exactly z).1 ((y.exactly z).0 m))

-- how many there are, by the first that is looked at
pub swept_more : (t : ℕ → Bool) (a n : ℕ) → length (rising t a (suc n)) ≡ pick (t a) 1 0 + length (rising t (suc a) n)
unfolding rising
swept_more t a n = tested (t a)
    (λ e. let z : pick {A = ℕ} (t a) 1 0 ≡ 1 = pick_yes _ _ e in ap length (pick_yes _ _ e) ∙ omega arith)
    (λ e. let z : pick {A = ℕ} (t a) 1 0 ≡ 0 = pick_no _ _ e in ap length (pick_no _ _ e) ∙ omega arith)

total_from : (t : ℕ → Bool) (a n : ℕ) → total t (λ _. 1) (a + n) ≡ total t (λ _. 1) a + length (rising t a n)
unfolding total rising
total_from t a zero = let z : a + 0 ≡ a = omega arith in ap (total t (λ _. 1)) z ∙ omega arith
total_from t a (suc n) =
    let z : a + suc n ≡ suc a + n = omega arith in
    ap (total t (λ _. 1)) z ∙ omega (arith, total_from t (suc a) n, swept_more t a n)

pub swept_total : (t : ℕ → Bool) (n : ℕ) → total t (λ _. 1) n ≡ length (rising t 0 n)
unfolding total
swept_total t n = let z : n ≡ 0 + n = omega arith in ap (total t (λ _. 1)) z ∙ total_from t 0 n ∙ omega arith

-- the lists of some numbers, one after the other
unfoldable pub strung : (ℕ → List ℕ) → List ℕ → List ℕ
strung f [] = []
strung f (x ∷ l) = f x ++ strung f l

-- what is gathered from those that pass the test
module _ (t : ℕ → Bool) (f : ℕ → List ℕ) where
  abbrev gathered : ℕ → List ℕ
  gathered n = collect (λ x. pick (t x) (f x) []) n

  strung_more : (a n : ℕ) → pick (t a) (f a) [] ++ strung f (rising t (suc a) n) ≡ strung f (rising t a (suc n))
  unfolding rising strung
  strung_more a n =
      let rest = strung f (rising t (suc a) n) in
      tested (t a) (λ e. ap (λ (l : List ℕ). l ++ rest) (pick_yes _ _ e) ∙ sym (ap (strung f) (pick_yes _ _ e)))
      (λ e. ap (λ (l : List ℕ). l ++ rest) (pick_no _ _ e) ∙ sym (ap (strung f) (pick_no _ _ e)))

  gathered_from : (a n : ℕ) → gathered (a + n) ≡ gathered a ++ strung f (rising t a n)
  unfolding collect rising strung
  gathered_from a zero = let z : a + 0 ≡ a = omega arith in ap gathered z ∙ sym (append-nil (gathered a))
  gathered_from a (suc n) =
      let z : a + suc n ≡ suc a + n = omega arith in
      ap gathered z ∙ gathered_from (suc a) n
      ∙ append_assoc (gathered a) (pick (t a) (f a) []) (strung f (rising t (suc a) n))
      ∙ ap (λ (l : List ℕ). gathered a ++ l) (strung_more a n)

  pub swept_collect : (n : ℕ) → gathered n ≡ strung f (rising t 0 n)
  unfolding collect
  swept_collect n = let z : n ≡ 0 + n = omega arith in ap gathered z ∙ gathered_from 0 n
