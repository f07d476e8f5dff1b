-- The sweeps against the value table: the lowest false place is that of the first false offer, and what is handed on is what
-- the definition hands on of the offers.
use Prim.Native.Nat.{ℕ, zero, suc, ◌+◌, ◌*◌, ◌/◌, ◌%◌, ◌<◌, ◌≤◌}
use native.Mathlib.Omega.{arith}
use native.Mathlib.Nat.{zero-add, add-zero}
use mathlib.Core.Path.{◌≡◌, refl, sym, ap, ap₂, ◌∙◌, subst}
use mathlib.Core.Logic.{⊎_elim}
use mathlib.Core.Bool.{Bool, true, false, ◌&&◌}
use mathlib.Core.List.{List, [], ◌∷◌, ◌++◌, map}
use lib.Dec.{ltb}
use lib.ListN.{length, length-map}
use lib.Seq.{sets}
use borrow.Author.Tests.{lt-ltb, le-ltb}
use Rattle.base.specs.Iter.{iter, pick}
use Rattle.base.specs.Lists.{Every}
use Rattle.base.proofs.Loop.{pick_ind, pick_yes, pick_no, eq_or_not, tested}
use Rattle.base.proofs.Tests.{and_left, and_right, and_rest}
use Rattle.division.specs.Analysis.{Verdict, Proposal}
use Rattle.division.specs.Noting.{In}
use Rattle.division.specs.Regions.{lowest}
use Rattle.division.proofs.Phases.{lowest_true}
use Rattle.calls.specs.Table.{rising, false_in, unset_in, enter}
use Rattle.calls.specs.Look.{offers, first_false, hand_on, enter_all}
use Rattle.walks.specs.Written.{Out, out_of, pushed, written}
use Rattle.walks.proofs.Written.{written_fits}
use Rattle.plan.specs.Words.{variables_of, unique_lit_at}
use Rattle.plan.specs.Proper.{ProperWords}
use Rattle.reasons.specs.Words.{stored}
use Rattle.sweep.specs.Sweep.{proposed_at, false_at, first_false_at, Handed, handing, handed, handed_at, handed_on}
use Rattle.sweep.specs.Relit.{relit_out, places, Blank, Inside}
use Rattle.sweep.proofs.Loops.{lowest_below, lowest_le}
use Rattle.sweep.proofs.Stored.{proposed_in}
use Rattle.sweep.proofs.Swept.{swept}

-- ---- the first that is false
module _ (t : List ℕ) (f : ℕ → ℕ) (b : ℕ → Bool) where
  abbrev bad : ℕ → Bool
  bad q = b q && false_in t (f q)

  first_here : (a n : ℕ) → bad a ≡ true → first_false t (map f (rising b a (suc n))) ≡ f a ∷ []
  unfolding first_false rising
  first_here a n e = ap (λ (l : List ℕ). first_false t (map f l)) (pick_yes _ _ (and_left (b a) _ e)) ∙ pick_yes _ _ (and_right (b a) _ e)

  first_later : (a n : ℕ) → bad a ≡ false → first_false t (map f (rising b a (suc n))) ≡ first_false t (map f (rising b (suc a) n))
  unfolding first_false rising
  first_later a n e = tested (b a)
      (λ h. ap (λ (l : List ℕ). first_false t (map f l)) (pick_yes _ _ h) ∙ pick_no _ _ (and_rest (b a) _ h e))
      (λ h. ap (λ (l : List ℕ). first_false t (map f l)) (pick_no _ _ h))

  first_none : (a : ℕ) → first_false t (map f (rising b a 0)) ≡ []
  unfolding first_false rising
  first_none a = refl

  first_from : (n a p : ℕ) → a ≤ p → p ≤ a + n → ((q : ℕ) → q < p → bad q ≡ false) → (p < a + n → bad p ≡ true) → first_false t (map f (rising b a n)) ≡ pick (ltb p (a + n)) (f p ∷ []) []
  first_from zero a p h k l e = first_none a ∙ sym (pick_no _ _ (le-ltb p (a + 0) (omega arith)))
  first_from (suc n) a p h k l e = ⊎_elim
      (λ (q : a ≡ p).
      let z : p < a + suc n = omega arith in
      first_here a n (subst (λ (x : ℕ). bad x ≡ true) (sym q) (e z)) ∙ ap (λ (x : ℕ). f x ∷ []) q ∙ sym (pick_yes _ _ (lt-ltb p (a + suc n) z)))
      (λ (q : a ≡ p → ⊥).
      let z : suc a + n ≡ a + suc n = omega arith in
      first_later a n (l a (omega arith)) ∙ first_from n (suc a) p (omega arith) (omega arith) l (λ (y : p < suc a + n). e (omega arith)) ∙ ap (λ (x : ℕ). pick (ltb p x) (f p ∷ []) []) z)
      (eq_or_not a p)

-- ---- handing on, over a list of literals
unfoldable hand_all : List ℕ → Handed → Handed
hand_all [] h = h
hand_all (l ∷ ls) h = hand_all ls (handed l h)

hand_append : (ls ms : List ℕ) (h : Handed) → hand_all (ls ++ ms) h ≡ hand_all ms (hand_all ls h)
unfolding hand_all
hand_append [] ms h = refl
hand_append (l ∷ ls) ms h = hand_append ls ms (handed l h)

-- each one unset when its turn comes
hand_all_lem : (ls : List ℕ) (h : Handed) → Every (λ l. l < 4294967296) ls → hand_all ls h ≡ record { table = enter_all h.table ls; out = written (hand_on h.table ls) h.out }
unfolding hand_all handed hand_on enter_all written
hand_all_lem [] h e = refl
hand_all_lem (l ∷ ls) h (Every.more k e) = tested (unset_in h.table l)
    (λ u.
    let m : l % 4294967296 ≡ l = omega arith in
    ap (hand_all ls) (pick_yes _ _ u)
    ∙ hand_all_lem ls (record { table = enter h.table l; out = pushed (l % 4294967296) h.out }) e
    ∙ ap (λ (x : ℕ). handings (enter_all (enter h.table l) ls) (written (hand_on (enter h.table l) ls) (pushed x h.out))) m
    ∙ sym (ap₂ (λ (x y : List ℕ). handings x (written y h.out)) (pick_yes (enter_all (enter h.table l) ls) (enter_all h.table ls) u) (pick_yes (l ∷ hand_on (enter h.table l) ls) (hand_on h.table ls) u)))
    (λ u.
    ap (hand_all ls) (pick_no _ _ u)
    ∙ hand_all_lem ls h e
    ∙ sym (ap₂ (λ (x y : List ℕ). handings x (written y h.out)) (pick_no (enter_all (enter h.table l) ls) (enter_all h.table ls) u) (pick_no (l ∷ hand_on (enter h.table l) ls) (hand_on h.table ls) u)))
  where
    handings : List ℕ → Out → Handed
    handings t o = record { table = t; out = o }

rising_last : (t : ℕ → Bool) (n a : ℕ) → rising t a (suc n) ≡ rising t a n ++ pick (t (a + n)) ((a + n) ∷ []) []
unfolding rising pick
rising_last t zero a = ap (λ (x : ℕ). pick (t x) (x ∷ []) []) (sym (add-zero a))
rising_last t (suc n) a =
    let z : suc a + n ≡ a + suc n = omega arith in
    ap (λ (l : List ℕ). pick (t a) (a ∷ l) l) (rising_last t n (suc a) ∙ ap (λ (x : ℕ). rising t (suc a) n ++ pick (t x) (x ∷ []) []) z)
    ∙ spread (t a) (rising t (suc a) n) (pick (t (a + suc n)) ((a + suc n) ∷ []) [])
  where
    spread : (b : Bool) (l r : List ℕ) → pick b (a ∷ (l ++ r)) (l ++ r) ≡ pick b (a ∷ l) l ++ r
    spread true l r = refl
    spread false l r = refl

map_append : (f : ℕ → ℕ) (l r : List ℕ) → map f (l ++ r) ≡ map f l ++ map f r
map_append f [] r = refl
map_append f (x ∷ l) r = ap (λ (m : List ℕ). f x ∷ m) (map_append f l r)

module _ (ws words : List ℕ) where
  -- the loop over the places hands on the literals of those that are proposed
  hand_places : (n : ℕ) (h : Handed) → iter (handed_at ws words) n h ≡ hand_all (map (unique_lit_at ws) (rising (proposed_at words) 0 n)) h
  unfolding iter rising hand_all handed_at
  hand_places zero h = refl
  hand_places (suc n) h =
      ap (handed_at ws words n) (hand_places n h)
      ∙ last (hand_all (map (unique_lit_at ws) (rising (proposed_at words) 0 n)) h)
      ∙ sym (hand_append (map (unique_lit_at ws) (rising (proposed_at words) 0 n)) (map (unique_lit_at ws) (pick (proposed_at words n) (n ∷ []) [])) h)
      ∙ ap (λ (l : List ℕ). hand_all l h) (sym (map_append (unique_lit_at ws) (rising (proposed_at words) 0 n) (pick (proposed_at words n) (n ∷ []) [])))
      ∙ ap (λ (l : List ℕ). hand_all (map (unique_lit_at ws) l) h) (sym (rising_last (proposed_at words) n 0 ∙ ap (λ (x : ℕ). rising (proposed_at words) 0 n ++ pick (proposed_at words x) (x ∷ []) []) (zero-add n)))
    where
      last : (y : Handed) → handed_at ws words n y ≡ hand_all (map (unique_lit_at ws) (pick (proposed_at words n) (n ∷ []) [])) y
      last y = tested (proposed_at words n)
          (λ e. pick_yes _ _ e ∙ sym (ap (λ (l : List ℕ). hand_all (map (unique_lit_at ws) l) y) (pick_yes _ _ e)))
          (λ e. pick_no _ _ e ∙ sym (ap (λ (l : List ℕ). hand_all (map (unique_lit_at ws) l) y) (pick_no _ _ e)))

every_rising : (P : ℕ → Type 0) (f : ℕ → ℕ) (t : ℕ → Bool) (n a : ℕ) → ((x : ℕ) → x < a + n → P (f x)) → Every P (map f (rising t a n))
unfolding rising
every_rising P f t zero a h = Every.none
every_rising P f t (suc n) a h =
    let r = every_rising P f t n (suc a) (λ x k. h x (omega arith)) in
    pick_ind (λ (l : List ℕ). Every P (map f l)) _ _ _ (λ _. Every.more (h a (omega arith)) r) (λ _. r)

rising_length : (t : ℕ → Bool) (n a : ℕ) → length (rising t a n) ≤ n
unfolding rising
rising_length t zero a = omega arith
rising_length t (suc n) a = let r = rising_length t n (suc a) in pick_ind (λ (l : List ℕ). length l ≤ suc n) _ _ _ (λ _. omega arith) (λ _. omega arith)

hand_length : (ls t : List ℕ) → length (hand_on t ls) ≤ length ls
unfolding hand_on
hand_length [] t = omega arith
hand_length (l ∷ ls) t =
    let r = hand_length ls (enter t l) in
    let s = hand_length ls t in
    pick_ind (λ (m : List ℕ). length m ≤ suc (length ls)) _ _ _ (λ _. omega arith) (λ _. omega arith)

module _ (ws : List ℕ) (ends : List (List ℕ)) (w : ProperWords ws ends) (zeros : List ℕ) (b : Blank ws zeros) (v : Verdict) (ps : List Proposal) (i : Inside ws ps) where
  -- `first_false` is the place of the first false offer, or past the last place
  pub first_false_is : (t : List ℕ) →
      first_false t (offers (relit_out ws v ps)) ≡ pick (ltb (first_false_at ws (stored ps zeros) t) (2 * variables_of ws)) (unique_lit_at ws (first_false_at ws (stored ps zeros) t) ∷ []) []
  unfolding first_false_at false_at
  first_false_is t =
      let n = 2 * variables_of ws in
      let at = lowest (false_at ws (stored ps zeros) t) n in
      let h = lowest_le (false_at ws (stored ps zeros) t) n in
      ap (first_false t) (sym (swept ws ends w zeros b v ps i))
      ∙ first_from t (unique_lit_at ws) (proposed_at (stored ps zeros)) n 0 at (omega arith) (omega arith) (lowest_below (false_at ws (stored ps zeros) t) n)
      (λ (l : at < 0 + n). lowest_true (false_at ws (stored ps zeros) t) n (omega arith))
      ∙ ap (λ (x : ℕ). pick (ltb at x) (unique_lit_at ws at ∷ []) []) (zero-add n)

  pub false_none : (t : List ℕ) → 2 * variables_of ws ≤ first_false_at ws (stored ps zeros) t → first_false t (offers (relit_out ws v ps)) ≡ []
  false_none t h = first_false_is t ∙ pick_no _ _ (le-ltb (first_false_at ws (stored ps zeros) t) (2 * variables_of ws) h)

  pub false_some : (t : List ℕ) → first_false_at ws (stored ps zeros) t < 2 * variables_of ws →
      (first_false t (offers (relit_out ws v ps)) ≡ unique_lit_at ws (first_false_at ws (stored ps zeros) t) ∷ []) × In (places ps) (first_false_at ws (stored ps zeros) t)
  unfolding first_false_at false_at
  false_some t h = (
    first_false_is t ∙ pick_yes _ _ (lt-ltb (first_false_at ws (stored ps zeros) t) (2 * variables_of ws) h),
    proposed_in ws zeros b ps _ i h (and_left _ _ (lowest_true (false_at ws (stored ps zeros) t) (2 * variables_of ws) h)),
  )

  -- a literal of the plan has 13 bits
  unique_small : (p : ℕ) → p < 2 * variables_of ws → unique_lit_at ws p < 4294967296
  unique_small p h = let l = (w.listed (p / 2) (omega arith)).range in omega arith

  pub offers_small : Every (λ l. l < 4294967296) (offers (relit_out ws v ps))
  offers_small =
      subst (Every (λ l. l < 4294967296)) (swept ws ends w zeros b v ps i)
      (every_rising (λ l. l < 4294967296) (unique_lit_at ws) (proposed_at (stored ps zeros)) (2 * variables_of ws) 0 (λ x h. unique_small x (omega arith)))

  -- at most one offer for each place
  pub offers_few : length (offers (relit_out ws v ps)) ≤ 2 * variables_of ws
  offers_few =
      let r = rising_length (proposed_at (stored ps zeros)) (2 * variables_of ws) 0 in
      subst (λ (l : List ℕ). length l ≤ 2 * variables_of ws) (swept ws ends w zeros b v ps i)
      (subst (λ (n : ℕ). n ≤ 2 * variables_of ws) (sym (length-map (rising (proposed_at (stored ps zeros)) 0 (2 * variables_of ws)) (unique_lit_at ws))) r)

  -- `hand_on` hands on of the offers what the definition does: as much as there is room for, and nothing else changes
  pub handed_is : (t list : List ℕ) (at : ℕ) →
      handed_on ws (stored ps zeros) (handing t list at) ≡ record { table = enter_all t (offers (relit_out ws v ps)); out = written (hand_on t (offers (relit_out ws v ps))) (out_of list at) }
  unfolding handed_on
  handed_is t list at =
      hand_places ws (stored ps zeros) (2 * variables_of ws) (handing t list at)
      ∙ ap (λ (l : List ℕ). hand_all l (handing t list at)) (swept ws ends w zeros b v ps i)
      ∙ hand_all_lem (offers (relit_out ws v ps)) (handing t list at) offers_small

  -- with room for all distinct literals, all of it
  pub handed_all : (t list : List ℕ) (at : ℕ) → at + 2 * variables_of ws ≤ length list →
      handed_on ws (stored ps zeros) (handing t list at) ≡
      handing (enter_all t (offers (relit_out ws v ps))) (sets list at (hand_on t (offers (relit_out ws v ps)))) (at + length (hand_on t (offers (relit_out ws v ps))))
  handed_all t list at h =
      let s = hand_length (offers (relit_out ws v ps)) t in
      let r = offers_few in
      handed_is t list at
      ∙ ap (λ (o : Out). record { table = enter_all t (offers (relit_out ws v ps)); out = o }) (written_fits (hand_on t (offers (relit_out ws v ps))) list at (omega arith))
