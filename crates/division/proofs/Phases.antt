-- A loop of the analysis: what it keeps, and what it makes sure of where it goes on.
use Prim.Native.Nat.{ℕ, zero, suc, ◌<◌, ◌≤◌}
use native.Mathlib.Omega.{arith}
use native.Mathlib.Nat.{le_refl, le_trans, not-suc-le-zero}
use mathlib.Core.Path.{◌≡◌, refl, sym, ◌∙◌, subst}
use mathlib.Core.Logic.{◌⊎◌, ⊎_elim}
use mathlib.Core.Bool.{Bool, true, false, true≢false, false≢true}
use mathlib.Core.List.Memᴰ
use mathlib.Core.List.{List, [], ◌∷◌, Memᴰ}
use lib.Dec.{ltb}
use borrow.Author.Tests.{ltb-true, ltb-false}
use Rattle.base.specs.Iter.{iter, pick}
use Rattle.base.specs.Lists.{Every, none, more}
use Rattle.base.proofs.Loop.{iter_ind, pick_ind}
use Rattle.graph.proofs.Mark.{lt_cases}
use Rattle.division.specs.Plan.{Plan}
use Rattle.division.specs.State.{State}
use Rattle.division.specs.Reasons.{Reason}
use Rattle.division.specs.Conflicts.{Conflict}
use Rattle.division.specs.Analysis.{Verdict, going, conflict, zero_size, Out, still, propose, ends, guarded, best, also}
use Rattle.division.specs.Regions.{lowest}
use Rattle.division.specs.Proposed.{IsConflict, Proposes, right_conflict, right_zero, Good}

pub record Inv (d : Plan) (s : State) (F : Type 0) (o : Out) : Type 0 where
  pub good : Good d s o
  pub fact : o.verdict ≡ going → F

pub still_going : (v : Verdict) → still v ≡ true → v ≡ going
unfolding still
still_going going e = refl
still_going (conflict c) e = absurd (false≢true e)
still_going zero_size e = absurd (false≢true e)

pub going_still : (v : Verdict) → v ≡ going → still v ≡ true
unfolding still
going_still v e = rw e refl

pub conflict_ends : (c : Conflict) → conflict c ≡ going → ⊥
unfolding still
conflict_ends c e = false≢true (going_still (conflict c) e)

pub zero_ends : zero_size ≡ going → ⊥
unfolding still
zero_ends e = false≢true (going_still zero_size e)

module _ (d : Plan) (s : State) where
  -- a loop that makes sure of G at each of its turns
  pub phase : (F : Type 0) (G : ℕ → Type 0) (f : ℕ → Out → Out) (n : ℕ) (o : Out) → Inv d s F o →
      ((i : ℕ) (x : Out) → i < n → F → Good d s x → Inv d s (G i) (f i x)) → Inv d s (F × ((i : ℕ) → i < n → G i)) (iter (guarded f) n o)
  unfolding guarded
  phase F G f n o inv go =
      iter_ind (λ i x. Inv d s (F × ((j : ℕ) → j < i → G j)) x) (guarded f) o n
      (record { good = inv.good; fact = λ e. (inv.fact e, λ j h. absurd (not-suc-le-zero h)) })
      (λ i x h p. pick_ind (Inv d s (F × ((j : ℕ) → j < suc i → G j))) (still x.verdict) (f i x) x
      (λ t. let e = still_going _ t in
      let q = go i x h (p.fact e).0 p.good in
      record { good = q.good; fact = λ r. ((p.fact e).0, λ j k. ⊎_elim (λ l. (p.fact e).1 j l) (λ l. subst G (sym l) (q.fact r)) (lt_cases j i (omega arith))) })
      (λ t. record { good = p.good; fact = λ e. absurd (true≢false (sym (going_still _ e) ∙ t)) }))

  -- a loop that only proposes
  pub phase0 : (F : Type 0) (f : ℕ → Out → Out) (n : ℕ) (o : Out) → Inv d s F o →
      ((i : ℕ) (x : Out) → i < n → F → Good d s x → Good d s (f i x)) → Inv d s F (iter (guarded f) n o)
  phase0 F f n o inv go =
      let p = phase F (λ _. Unit {0}) f n o inv (λ i x h a g. record { good = go i x h a g; fact = λ _. tt }) in
      record { good = p.good; fact = λ e. (p.fact e).0 }

  pub add : {o : Out} (l : ℕ) (r : Reason) → Proposes d s l r → Good d s o → Good d s (propose l r o)
  unfolding propose
  add l r p g = record { props = also p g.props; right = g.right }

  pub keep : {G : Type 0} {o : Out} → Good d s o → G → Inv d s G o
  keep g x = record { good = g; fact = λ _. x }

  pub clash : {G : Type 0} {o : Out} (c : Conflict) → IsConflict d s c → Good d s o → Inv d s G (ends (conflict c) o)
  unfolding ends
  clash c f g = record { good = record { props = g.props; right = right_conflict c f }; fact = λ e. absurd (conflict_ends c e) }

  pub zeroed : {G : Type 0} {o : Out} → d.disallow_adjacent_same_size_regions ≡ true → Good d s o → Inv d s G (ends zero_size o)
  unfolding ends
  zeroed e g = record { good = record { props = g.props; right = right_zero e }; fact = λ e. absurd (zero_ends e) }

pub lowest_true : (t : ℕ → Bool) (n : ℕ) → lowest t n < n → t (lowest t n) ≡ true
unfolding lowest
lowest_true t zero h = absurd (not-suc-le-zero h)
lowest_true t (suc n) h =
    pick_ind (λ x. x < suc n → t x ≡ true) _ _ _ (λ e h. lowest_true t n (ltb-true _ _ e))
    (λ e. pick_ind (λ x. x < suc n → t x ≡ true) _ _ _ (λ a h. a) (λ a h. absurd (omega arith))) h

pub every_mem : {P : ℕ → Type 0} {q : ℕ} {l : List ℕ} → Every P l → Memᴰ q l → P q
every_mem none m = absurd (Memᴰ.not-nil m)
every_mem {P} (more p e) m = ⊎_elim (λ z. subst P (sym z) p) (λ z. every_mem e z) (Memᴰ.cases_cons m)

pub best_has : (P : ℕ → Type 0) (t : ℕ → ℕ → Bool) (a : ℕ) (cs : List ℕ) → P a → Every P cs → P (best t a cs)
unfolding best
best_has P t a [] x e = x
best_has P t a (c ∷ cs) x (more y e) = best_has P t (pick (t c a) c a) cs (pick_ind P _ _ _ (λ _. y) (λ _. x)) e

module _ (f : ℕ → ℕ) where
  pub best_max_first : (a : ℕ) (cs : List ℕ) → f a ≤ f (best (λ c b. ltb (f b) (f c)) a cs)
  unfolding best
  best_max_first a [] = le_refl _
  best_max_first a (c ∷ cs) =
      let r = pick (ltb (f a) (f c)) c a in
      let h : f a ≤ f r = pick_ind (λ x. f a ≤ f x) (ltb (f a) (f c)) c a (λ t. omega (arith, ltb-true (f a) (f c) t)) (λ t. le_refl _) in
      le_trans h (best_max_first r cs)

  pub best_max : (a : ℕ) (cs : List ℕ) (q : ℕ) → Memᴰ q cs → f q ≤ f (best (λ c b. ltb (f b) (f c)) a cs)
  unfolding best
  best_max a [] q m = absurd (Memᴰ.not-nil m)
  best_max a (c ∷ cs) q m =
      let r = pick (ltb (f a) (f c)) c a in
      let h : f c ≤ f r = pick_ind (λ x. f c ≤ f x) (ltb (f a) (f c)) c a (λ t. le_refl _) (λ t. ltb-false _ _ t) in
      ⊎_elim (λ e. rw e (le_trans h (best_max_first r cs))) (λ w. best_max r cs q w) (Memᴰ.cases_cons m)

  pub best_min_first : (a : ℕ) (cs : List ℕ) → f (best (λ c b. ltb (f c) (f b)) a cs) ≤ f a
  unfolding best
  best_min_first a [] = le_refl _
  best_min_first a (c ∷ cs) =
      let r = pick (ltb (f c) (f a)) c a in
      let h : f r ≤ f a = pick_ind (λ x. f x ≤ f a) (ltb (f c) (f a)) c a (λ t. omega (arith, ltb-true (f c) (f a) t)) (λ t. le_refl _) in
      le_trans (best_min_first r cs) h

  pub best_min : (a : ℕ) (cs : List ℕ) (q : ℕ) → Memᴰ q cs → f (best (λ c b. ltb (f c) (f b)) a cs) ≤ f q
  unfolding best
  best_min a [] q m = absurd (Memᴰ.not-nil m)
  best_min a (c ∷ cs) q m =
      let r = pick (ltb (f c) (f a)) c a in
      let h : f r ≤ f c = pick_ind (λ x. f x ≤ f c) (ltb (f c) (f a)) c a (λ t. le_refl _) (λ t. ltb-false _ _ t) in
      ⊎_elim (λ e. rw e (le_trans (best_min_first r cs) h)) (λ w. best_min r cs q w) (Memᴰ.cases_cons m)
