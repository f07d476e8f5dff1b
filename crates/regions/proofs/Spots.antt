-- The bounds of one pass are those of each region.
use Prim.Native.Nat.{ℕ, suc, ◌<◌, ◌≤◌}
use native.Mathlib.Nat.{not-suc-le-zero, lt-suc_self, le_step, le_refl}
use native.Mathlib.Omega.{arith}
use mathlib.Core.Path.{◌≡◌, refl, sym, ◌∙◌, ap, ap₂, subst}
use mathlib.Core.Logic.{inl, inr, ⊎_elim}
use mathlib.Core.Bool.{Bool, true, false, ◌&&◌}
use mathlib.Core.List.{List}
use lib.Dec.{eqb}
use lib.ListN.{length, get_or, set, length-set}
use lib.Seq.{get_or-set_same, get_or-set_other}
use borrow.Author.Tests.{eq-eqb, ne_eqb, ltb-true, ltb-false, eqb-true, lt-ltb, le-ltb}
use Rattle.base.specs.Iter.{iter, pick}
use Rattle.base.proofs.Loop.{iter_ind, iter_done, pick_ind, eq_or_not, pick_no}
use Rattle.graph.specs.Lists.{mapped}
use Rattle.regions.specs.Labels.{label_of}
use Rattle.regions.specs.Buckets.{Spot, spot, tighter, loosest, tightest, Tightest, least_in, most_in, Marks, marks, claim, claimed}
use Rattle.graph.proofs.Lists.{mapped_at, mapped_length, and_no'}
use Rattle.base.proofs.Tests.{and_left, and_right}

-- the loop over the vertices is left
pub claimed_done : (upper : Bool) (l : List ℕ) (b : ℕ → ℕ) (n v t : ℕ) (a : Marks) (b₀ h₀ : List ℕ) (x : Marks) → t ≡ loosest upper → b₀ ≡ mapped (λ _ _. t) n a.bounds →
    h₀ ≡ mapped (λ _ _. 0) n a.holders → x ≡ iter (claim upper l b) v (marks b₀ h₀) → v ≤ n → n ≤ v → x ≡ claimed upper l b n a
unfolding claimed
claimed_done upper l b n v t a b₀ h₀ x e p q h i j =
    iter_done _ _ _ _ _ h i j ∙ ap (iter (claim upper l b) n) (ap₂ marks (p ∙ ap (λ (t : ℕ). mapped (λ _ _. t) n a.bounds) e) q)

-- the mark of region r
abbrev pub spot_at : Marks → ℕ → Spot
spot_at x r = spot (get_or x.bounds r 0) (get_or x.holders r 0)

-- one vertex, seen from region r
step : Bool → List ℕ → (ℕ → ℕ) → ℕ → ℕ → Spot → Spot
step upper l b r v a = pick (eqb (label_of l v) r && tighter upper (b v) a.bound) (spot (b v) v) a

spot_eq : {a b c d : ℕ} → a ≡ b → c ≡ d → spot a c ≡ spot b d
spot_eq p q = ap₂ spot p q

claim_len : (upper : Bool) (l : List ℕ) (b : ℕ → ℕ) (v : ℕ) (x : Marks) → (length (claim upper l b v x).bounds ≡ length x.bounds) × (length (claim upper l b v x).holders ≡ length x.holders)
unfolding claim
claim_len upper l b v x =
    pick_ind (λ (y : Marks). (length y.bounds ≡ length x.bounds) × (length y.holders ≡ length x.holders)) _ _ _ (λ _. (length-set x.bounds (label_of l v) (b v), length-set x.holders (label_of l v) v)) (λ _. (refl, refl))

and_same : (a b : Bool) → a ≡ true → (a && b) ≡ b
and_same a b e = rw e refl

spot_claim : (upper : Bool) (l : List ℕ) (b : ℕ → ℕ) (v : ℕ) (x : Marks) (r : ℕ) → label_of l v < length x.bounds → label_of l v < length x.holders →
    spot_at (claim upper l b v x) r ≡ step upper l b r v (spot_at x r)
unfolding claim step pick
spot_claim upper l b v x r h hp = ⊎_elim same other (eq_or_not r (label_of l v))
  where
    on : (f : Bool) → spot_at (pick f (marks (set x.bounds (label_of l v) (b v)) (set x.holders (label_of l v) v)) x) (label_of l v) ≡ pick f (spot (b v) v) (spot_at x (label_of l v))
    on true = spot_eq (get_or-set_same x.bounds (label_of l v) (b v) 0 h) (get_or-set_same x.holders (label_of l v) v 0 hp)
    on false = refl

    same : r ≡ label_of l v → spot_at (pick (tighter upper (b v) (get_or x.bounds (label_of l v) 0)) (marks (set x.bounds (label_of l v) (b v)) (set x.holders (label_of l v) v)) x) r ≡ pick (eqb (label_of l v) r && tighter upper (b v) (get_or x.bounds r 0)) (spot (b v) v) (spot_at x r)
    same e = rw (e, and_same (eqb (label_of l v) (label_of l v)) (tighter upper (b v) (get_or x.bounds (label_of l v) 0)) (eq-eqb (label_of l v) (label_of l v) refl)) (on (tighter upper (b v) (get_or x.bounds (label_of l v) 0)))

    off : (f : Bool) → (r ≡ label_of l v → ⊥) → spot_at (pick f (marks (set x.bounds (label_of l v) (b v)) (set x.holders (label_of l v) v)) x) r ≡ spot_at x r
    off true e = spot_eq (get_or-set_other x.bounds (label_of l v) r (b v) 0 e) (get_or-set_other x.holders (label_of l v) r v 0 e)
    off false e = refl

    other : (r ≡ label_of l v → ⊥) → spot_at (pick (tighter upper (b v) (get_or x.bounds (label_of l v) 0)) (marks (set x.bounds (label_of l v) (b v)) (set x.holders (label_of l v) v)) x) r ≡ pick (eqb (label_of l v) r && tighter upper (b v) (get_or x.bounds r 0)) (spot (b v) v) (spot_at x r)
    other e =
        off (tighter upper (b v) (get_or x.bounds (label_of l v) 0)) e ∙
        sym (pick_no (spot (b v) v) (spot_at x r) (and_no' (eqb (label_of l v) r) (tighter upper (b v) (get_or x.bounds r 0)) (ne_eqb (label_of l v) r (λ f. e (sym f)))))

record Claims (upper : Bool) (l : List ℕ) (b : ℕ → ℕ) (a : Marks) (v : ℕ) (x : Marks) : Type 0 where
  len : length x.bounds ≡ length a.bounds
  len_h : length x.holders ≡ length a.holders
  is : (r : ℕ) → spot_at x r ≡ iter (step upper l b r) v (spot_at a r)

claim_step : (upper : Bool) (l : List ℕ) (b : ℕ → ℕ) (a : Marks) (v : ℕ) (x : Marks) → label_of l v < length a.bounds → label_of l v < length a.holders → Claims upper l b a v x →
    Claims upper l b a (suc v) (claim upper l b v x)
unfolding iter
claim_step upper l b a v x h hp p = record {
  len = (claim_len upper l b v x).0 ∙ p.len;
  len_h = (claim_len upper l b v x).1 ∙ p.len_h;
  is = λ r. spot_claim upper l b v x r (omega (arith, p.len)) (omega (arith, p.len_h)) ∙ ap (step upper l b r v) (p.is r);
}

-- the mark at each label
pub claimed_spot : (upper : Bool) (l : List ℕ) (b : ℕ → ℕ) (n : ℕ) (a : Marks) → n ≤ length a.bounds → n ≤ length a.holders → ((v : ℕ) → v < n → label_of l v < n) → (r : ℕ) → r < n →
    spot_at (claimed upper l b n a) r ≡ tightest upper l b r n
unfolding claimed tightest step iter
claimed_spot upper l b n a h hp low r k =
    let z = marks (mapped (λ _ _. loosest upper) n a.bounds) (mapped (λ _ _. 0) n a.holders) in
    let e : length z.bounds ≡ length a.bounds = mapped_length (λ _ _. loosest upper) a.bounds n in
    let f : length z.holders ≡ length a.holders = mapped_length (λ _ _. 0) a.holders n in
    let p = iter_ind (Claims upper l b z) (claim upper l b) z n (record { len = refl; len_h = refl; is = λ q. refl })
    (λ v x lt p. claim_step upper l b z v x (omega (arith, low v lt)) (omega (arith, low v lt)) p) in
    p.is r ∙ ap (iter (step upper l b r) n) (spot_eq (mapped_at (λ _ _. loosest upper) a.bounds r n h k) (mapped_at (λ _ _. 0) a.holders r n hp k))

-- a bound that is tighter than y is tighter than one that y is as tight as
over : (upper : Bool) (x y c : ℕ) → tighter upper x y ≡ false → tighter upper c y ≡ true → (tighter upper x c ≡ false) × (tighter upper c x ≡ true)
unfolding tighter pick
over true x y c e f = let h = ltb-false x y e in let k = ltb-true c y f in (le-ltb x c (omega (arith, h, k)), lt-ltb c x (omega (arith, h, k)))
over false x y c e f = let h = ltb-false y x e in let k = ltb-true y c f in (le-ltb c x (omega (arith, h, k)), lt-ltb x c (omega (arith, h, k)))

itself : (upper : Bool) (x : ℕ) → tighter upper x x ≡ false
unfolding tighter pick
itself true x = le-ltb x x (le_refl x)
itself false x = le-ltb x x (le_refl x)

module _ (upper : Bool) (l : List ℕ) (b : ℕ → ℕ) (r : ℕ) where
  -- vertex k is of the region, and its bound is tighter
  taken : (k : ℕ) (a : Spot) → label_of l k ≡ r → tighter upper (b k) a.bound ≡ true → Tightest upper l b r k a → Tightest upper l b r (suc k) (spot (b k) k)
  taken k a e t w = record {
    tight = λ v h i. ⊎_elim (λ (x : v ≡ k). subst (λ v. tighter upper (b v) (b k) ≡ false) (sym x) (itself upper (b k)))
        (λ (x : v ≡ k → ⊥). (over upper (b v) a.bound (b k) (w.tight v (omega arith) i) t).0) (eq_or_not v k);
    held = inr (record {
      known = lt-suc_self k;
      inside = e;
      is = refl;
      first = λ v h i. (over upper (b v) a.bound (b k) (w.tight v h i) t).1;
    });
  }

  -- vertex k is not, or its bound is not
  kept : (k : ℕ) (a : Spot) → (label_of l k ≡ r → tighter upper (b k) a.bound ≡ false) → Tightest upper l b r k a → Tightest upper l b r (suc k) a
  kept k a e w = record {
    tight = λ v h i. ⊎_elim (λ (x : v ≡ k). subst (λ v. label_of l v ≡ r → tighter upper (b v) a.bound ≡ false) (sym x) e i)
        (λ (x : v ≡ k → ⊥). w.tight v (omega arith) i) (eq_or_not v k);
    held = ⊎_elim (λ x. inl x) (λ x. inr (record { known = le_step x.known; inside = x.inside; is = x.is; first = x.first })) w.held;
  }

  -- the bound of a region is the tightest of its vertices
  pub tightest_is : (n : ℕ) → Tightest upper l b r n (tightest upper l b r n)
  unfolding tightest
  tightest_is n =
      iter_ind (Tightest upper l b r) _ (spot (loosest upper) 0) n
      (record { tight = λ v h. absurd (not-suc-le-zero h); held = inl refl })
      (λ k a _ w. pick_ind (Tightest upper l b r (suc k)) _ _ _
      (λ t. taken k a (eqb-true (label_of l k) r (and_left (eqb (label_of l k) r) (tighter upper (b k) a.bound) t)) (and_right (eqb (label_of l k) r) (tighter upper (b k) a.bound) t) w)
      (λ t. kept k a (λ i. sym (and_same (eqb (label_of l k) r) (tighter upper (b k) a.bound) (eq-eqb (label_of l k) r i)) ∙ t) w))

pub tightest_least : (l : List ℕ) (b : ℕ → ℕ) (r n : ℕ) → tightest true l b r n ≡ least_in (label_of l) b r n
unfolding tightest least_in tighter loosest pick
tightest_least l b r n = refl

pub tightest_most : (l : List ℕ) (b : ℕ → ℕ) (r n : ℕ) → tightest false l b r n ≡ most_in (label_of l) b r n
unfolding tightest most_in tighter loosest pick
tightest_most l b r n = refl
