-- The literals of the proposed places, in rising order, are the offers of the analysis: places rise with their literals.
use Prim.Native.Nat.{ℕ, zero, suc, ◌+◌, ◌*◌, ◌<◌}
use native.Mathlib.Omega.{arith}
use native.Mathlib.Nat.{not-suc-le-zero}
use mathlib.Core.Path.{◌≡◌, refl, sym, ap, ap₂, ◌∙◌}
use mathlib.Core.Logic.{⊎_elim}
use mathlib.Core.Bool.{Bool, true, false}
use mathlib.Core.List.{List, [], ◌∷◌, map}
use lib.Dec.{eqb, ltb}
use borrow.Author.Tests.{lt-ltb, le-ltb, eq-eqb, ne_eqb}
use Rattle.base.specs.Iter.{pick}
use Rattle.base.specs.Lists.{Every}
use Rattle.base.proofs.Loop.{pick_ind, eq_or_not}
use Rattle.base.proofs.Tests.{le_or_lt}
use Rattle.division.specs.Reasons.{Reason}
use Rattle.division.specs.Analysis.{Verdict, Proposal}
use Rattle.division.specs.Runs.{reason_of}
use Rattle.calls.specs.Table.{rising, has}
use Rattle.calls.specs.Look.{put, in_order, offers}
use Rattle.calls.proofs.Order.{swept_order}
use Rattle.plan.specs.Words.{variables_of, unique_lit_at}
use Rattle.plan.specs.Proper.{ProperWords}
use Rattle.plan.proofs.Abstract.{unique_rising}
use Rattle.reasons.specs.Words.{stored}
use Rattle.sweep.specs.Sweep.{proposed_at}
use Rattle.sweep.specs.Relit.{relit, relits, relit_out, places, Blank, Inside}
use Rattle.sweep.proofs.Stored.{proposed}

push_map : (f : ℕ → ℕ) (a b : Bool) (x y z : List ℕ) → pick a (map f x) (pick b (map f y) (map f z)) ≡ map f (pick a x (pick b y z))
unfolding pick
push_map f true b x y z = refl
push_map f false true x y z = refl
push_map f false false x y z = refl

put_every : (P : ℕ → Type 0) (p : ℕ) (ps : List ℕ) → P p → Every P ps → Every P (put p ps)
unfolding put
put_every P p [] a e = Every.more a Every.none
put_every P p (q ∷ qs) a (Every.more b e) =
    pick_ind (Every P) _ _ _ (λ _. Every.more b e) (λ _. pick_ind (Every P) _ _ _ (λ _. Every.more a (Every.more b e)) (λ _. Every.more b (put_every P p qs a e)))

order_every : (P : ℕ → Type 0) (ps : List ℕ) → Every P ps → Every P (in_order ps)
unfolding in_order
order_every P [] e = Every.none
order_every P (p ∷ ps) (Every.more a e) = put_every P p (in_order ps) a (order_every P ps e)

-- a function that rises below n
module _ (f : ℕ → ℕ) (n : ℕ) (m : (i j : ℕ) → i < j → j < n → f i < f j) where
  same_order : (p q : ℕ) → p < n → q < n → (eqb (f p) (f q) ≡ eqb p q) × (ltb (f p) (f q) ≡ ltb p q)
  same_order p q h k = ⊎_elim
      (λ (e : p ≡ q). (eq-eqb (f p) (f q) (ap f e) ∙ sym (eq-eqb p q e), le-ltb (f p) (f q) (let z : f p ≡ f q = ap f e in omega arith) ∙ sym (le-ltb p q (omega arith))))
      (λ (d : p ≡ q → ⊥). ⊎_elim
      (λ (l : p < q).
      let z = m p q l k in
      (ne_eqb (f p) (f q) (λ (e : f p ≡ f q). omega arith) ∙ sym (ne_eqb p q d), lt-ltb (f p) (f q) z ∙ sym (lt-ltb p q l)))
      (λ (l : q < suc p).
      let z = m q p (omega arith) h in
      (ne_eqb (f p) (f q) (λ (e : f p ≡ f q). omega arith) ∙ sym (ne_eqb p q d), le-ltb (f p) (f q) (omega arith) ∙ sym (le-ltb p q (omega arith))))
      (le_or_lt (suc p) q))
      (eq_or_not p q)

  map_put : (p : ℕ) (qs : List ℕ) → p < n → Every (λ q. q < n) qs → put (f p) (map f qs) ≡ map f (put p qs)
  unfolding put
  map_put p [] h e = refl
  map_put p (q ∷ qs) h (Every.more k e) =
      let o = same_order p q h k in
      ap₂ (λ (a b : Bool). pick a (f q ∷ map f qs) (pick b (f p ∷ (f q ∷ map f qs)) (f q ∷ put (f p) (map f qs)))) o.0 o.1
      ∙ ap (λ (r : List ℕ). pick (eqb p q) (f q ∷ map f qs) (pick (ltb p q) (f p ∷ (f q ∷ map f qs)) (f q ∷ r))) (map_put p qs h e)
      ∙ push_map f (eqb p q) (ltb p q) (q ∷ qs) (p ∷ (q ∷ qs)) (q ∷ put p qs)

  pub map_order : (ps : List ℕ) → Every (λ q. q < n) ps → in_order (map f ps) ≡ map f (in_order ps)
  unfolding in_order
  map_order [] e = refl
  map_order (p ∷ ps) (Every.more h e) = ap (put (f p)) (map_order ps e) ∙ map_put p (in_order ps) h (order_every (λ q. q < n) ps e)

pub rising_same_test : (t u : ℕ → Bool) (n a : ℕ) → ((x : ℕ) → x < a + n → t x ≡ u x) → rising t a n ≡ rising u a n
unfolding rising
rising_same_test t u zero a h = refl
rising_same_test t u (suc n) a h =
    ap₂ (λ (b : Bool) (r : List ℕ). pick b (a ∷ r) r) (h a (omega arith)) (rising_same_test t u n (suc a) (λ x k. h x (omega arith)))

places_relits : (ws : List ℕ) (ps : List Proposal) → places (relits ws ps) ≡ map (unique_lit_at ws) (places ps)
unfolding relits relit
places_relits ws [] = refl
places_relits ws (p ∷ ps) = ap (λ (l : List ℕ). unique_lit_at ws p.lit ∷ l) (places_relits ws ps)

module _ (ws : List ℕ) (ends : List (List ℕ)) (w : ProperWords ws ends) where
  -- the distinct literals rise
  pub unique_mono : (i j : ℕ) → i < j → j < 2 * variables_of ws → unique_lit_at ws i < unique_lit_at ws j
  unique_mono i zero l h = absurd (not-suc-le-zero l)
  unique_mono i (suc j) l h = ⊎_elim
      (λ (e : i ≡ j). let z : unique_lit_at ws i ≡ unique_lit_at ws j = ap (unique_lit_at ws) e in let r = unique_rising ws ends w j h in omega arith)
      (λ (d : i ≡ j → ⊥). let r = unique_rising ws ends w j h in let s = unique_mono i j (omega arith) (omega arith) in omega arith)
      (eq_or_not i j)

  -- a literal's newest reason is that of its place
  pub reason_relit : (ps : List Proposal) (p : ℕ) → Inside ws ps → p < 2 * variables_of ws → reason_of (unique_lit_at ws p) (relits ws ps) ≡ reason_of p ps
  unfolding reason_of relits relit
  reason_relit [] p i h = refl
  reason_relit (q ∷ ps) p (Every.more l i) h =
      ap₂ (λ (b : Bool) (r : List Reason). pick b (q.why ∷ []) r) (same_order (unique_lit_at ws) (2 * variables_of ws) unique_mono p q.lit h l).0 (reason_relit ps p i h)

  module _ (zeros : List ℕ) (b : Blank ws zeros) where
    -- the proposed places, rising
    pub swept_places : (ps : List Proposal) → Inside ws ps → rising (proposed_at (stored ps zeros)) 0 (2 * variables_of ws) ≡ in_order (places ps)
    swept_places ps i =
        rising_same_test (proposed_at (stored ps zeros)) (has (places ps)) (2 * variables_of ws) 0 (λ x h. proposed ws zeros b ps x i (omega arith))
        ∙ swept_order (places ps) (2 * variables_of ws) i

    -- and their literals
    pub swept : (v : Verdict) (ps : List Proposal) → Inside ws ps → map (unique_lit_at ws) (rising (proposed_at (stored ps zeros)) 0 (2 * variables_of ws)) ≡ offers (relit_out ws v ps)
    unfolding offers
    swept v ps i =
        ap (map (unique_lit_at ws)) (swept_places ps i)
        ∙ sym (map_order (unique_lit_at ws) (2 * variables_of ws) unique_mono (places ps) i)
        ∙ ap in_order (sym (places_relits ws ps))
