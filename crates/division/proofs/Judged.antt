-- The analysis: what it proposes follows its rules, a conflict is one, and where it goes on to the end all tests have passed.
use Prim.Native.Nat.{ℕ, ◌<◌, ◌≤◌}
use native.Mathlib.Omega.{arith}
use mathlib.Core.Path.{◌≡◌, refl, subst, sym, ◌∙◌}
use mathlib.Core.Logic.{◌↔◌}
use mathlib.Core.Bool.{true≢false, Bool, false}
use Rattle.base.specs.Lists.{Every}
use Rattle.base.proofs.Lists.{every_map}
use Rattle.base.proofs.Loop.{pick_ind}
use Rattle.sat.specs.Literal.{Holds}
use Rattle.division.specs.Plan.{Plain, Plan, Proper, left, right}
use Rattle.division.specs.State.{State, Same, decided_weight, potential_weight, state_of}
use Rattle.division.specs.Conflicts.{Conflict, conflict_list}
use Rattle.division.specs.Analysis.{View, Verdict, going, conflict, inside, matched, uncrossed, overfull, raises, merges, cuts, crowds, meets, parts, spreads, parts_at, begun, step1, step2, step3, step4, step5, analyzed, nothing}
use Rattle.division.specs.Together.{Computed}
use Rattle.division.specs.Noted.{Bounded, Noted}
use Rattle.division.specs.Proposed.{Full, Right, right_going, right_conflict, right_zero, Good}
use Rattle.division.proofs.Shown.{Shows}
use Rattle.division.proofs.Sound.{low_sound, high_sound}
use Rattle.division.proofs.Conflicts.{conflict_sound}
use Rattle.division.proofs.Stands.{conflict_stands}
use Rattle.division.proofs.Exact.{passed_valid}
use Rattle.division.proofs.Phases.{Inv, phase, phase0}
use Rattle.division.proofs.Judge.{inside_turn, matched_turn, uncrossed_turn, overfull_turn, raises_turn, merges_turn, cuts_turn, crowds_turn, meets_turn, parts_turn, spreads_turn, parts_at_turn}

-- what all the tests make sure of
pub record Tested (d : Plan) (s : State) : Type 0 where
  pub edges : d.allow_extra_walls ≡ false → (g : ℕ) → g < d.edges → state_of s g ≡ 1 → Same d s (left d g) (right d g) → ⊥
  pub bounds : (v : ℕ) → v < d.vertices → s.lower v ≤ s.upper v
  pub high : (v : ℕ) → v < d.vertices → decided_weight d s v ≤ s.upper v
  pub low : (v : ℕ) → v < d.vertices → 0 < d.domain_len v → s.lower v ≤ potential_weight d s v
  pub meet : (p q : ℕ) → p < d.vertices → q < d.vertices → Same d s p q → s.lower p ≤ s.upper q

module _ (d : Plan) (s : State) (w : View) (k : Proper d) (b : Bounded d s) (y : Shows d s w) where
  abbrev G1 : ℕ → Type 0
  G1 g = state_of s g ≡ 1 → Same d s (left d g) (right d g) → ⊥

  abbrev G2 : ℕ → Type 0
  G2 v = s.lower v ≤ s.upper v

  abbrev G3 : ℕ → Type 0
  G3 v = decided_weight d s v ≤ s.upper v

  abbrev G4 : ℕ → Type 0
  G4 v = 0 < d.domain_len v → s.lower v ≤ potential_weight d s v

  abbrev G5 : ℕ → Type 0
  G5 r = (p q : ℕ) → p < d.vertices → q < d.vertices → w.did r ≡ r → w.did p ≡ r → w.did q ≡ r → s.lower p ≤ s.upper q

  abbrev F1 : Type 0
  F1 = d.allow_extra_walls ≡ false → Unit {0} × ((g : ℕ) → g < d.edges → G1 g)

  abbrev F2 : Type 0
  F2 = F1 × ((v : ℕ) → v < d.vertices → G2 v)

  abbrev F3 : Type 0
  F3 = F2 × ((v : ℕ) → v < d.vertices → G3 v)

  abbrev F4 : Type 0
  F4 = F3 × ((v : ℕ) → v < d.vertices → G4 v)

  abbrev F5 : Type 0
  F5 = F4 × ((r : ℕ) → r < d.vertices → G5 r)

  start : Inv d s (Unit {0}) (begun d s w)
  unfolding begun
  start = record { good = record { props = nothing; right = right_going }; fact = λ _. tt }

  meeting : F5 → (p q : ℕ) → p < d.vertices → q < d.vertices → w.did p ≡ w.did q → s.lower p ≤ s.upper q
  meeting f p q hp hq e = let l = y.label q hq in f.1 (w.did q) l.0 p q hp hq l.1 e refl

  walled : Inv d s F1 (step1 d s w)
  unfolding step1
  walled =
      pick_ind (Inv d s F1) _ _ _ (λ t. record { good = start.good; fact = λ _ e. absurd (true≢false (sym t ∙ e)) })
      (λ t. let i1 = phase d s (Unit {0}) G1 (inside d s w) d.edges (begun d s w) start (λ g o h f x. inside_turn d s w k b y g o h x) in
      let i2 = phase0 d s _ (matched d s w) d.edges _ i1 (λ g o h f x. matched_turn d s w k b y g o h x) in
      record { good = i2.good; fact = λ e _. i2.fact e })

  through : Inv d s F5 (analyzed d s w)
  unfolding analyzed step2 step3 step4 step5
  through =
      let i3 = uncrossed_turn d s w k b y (step1 d s w) walled in
      let i4 = phase d s F2 G3 (overfull d s w) d.vertices _ i3 (λ v o h f x. overfull_turn d s w k b y v o h x) in
      let i5 = phase0 d s F3 (raises d s w) d.vertices _ i4 (λ v o h f x. raises_turn d s w k b y v o h (f.1 v h) x) in
      let i6 = phase0 d s F3 (merges d s w) d.edges _ i5 (λ g o h f x. merges_turn d s w k b y g o h x) in
      let i7 = phase d s F3 G4 (cuts d s w) d.vertices _ i6 (λ v o h f x. cuts_turn d s w k b y v o h x) in
      let i8 = phase0 d s F4 (crowds d s w) d.vertices _ i7 (λ r o h f x. crowds_turn d s w k b y r o h f.0.0.1 x) in
      let i9 = phase d s F4 G5 (meets d s w) d.vertices _ i8 (λ r o h f x. meets_turn d s w k b y r o h x) in
      let i10 = phase0 d s F5 (parts d s w) d.edges _ i9 (λ g o h f x. parts_turn d s w k b y g o h x) in
      let i11 = phase0 d s F5 (spreads d s w) d.vertices _ i10 (λ v o h f x. spreads_turn d s w k b y (meeting f) v o h x) in
      pick_ind (Inv d s F5) _ _ _ (λ t. phase0 d s F5 (parts_at d s w) d.vertices _ i11 (λ u o h f x. parts_at_turn d s w k b y t u o h x)) (λ t. i11)

  -- whatever the verdict, each proposal follows its rule and a conflict is one
  pub analyzed_good : Good d s (analyzed d s w)
  analyzed_good = through.good

  -- where there is no conflict, all tests have passed
  pub analyzed_tested : (analyzed d s w).verdict ≡ going → Tested d s
  analyzed_tested e =
      let f = through.fact e in
      record {
        edges = λ e. (f.0.0.0.0 e).1;
        bounds = f.0.0.0.1;
        high = f.0.0.1;
        low = f.0.1;
        meet = λ p q hp hq j. meeting f p q hp hq ((y.same p q hp hq).1 j);
      }

  module _ (Stands : ℕ → Type 0) (σ : ℕ → Bool) (n : Noted d Stands s) (full : Full d Stands σ) (pl : Plain d) where
    tested_valid : Tested d s → Computed d σ
    tested_valid t = passed_valid d Stands s σ k n full t.bounds (record { edges = t.edges pl.walls; high = λ v h z. t.high v h; low = t.low })

    ended : (v : Verdict) → Right d s v → Computed d σ → v ≡ going
    ended v right_going z = refl
    ended v (right_conflict c f) z = absurd (conflict_sound d s σ k b z c f (every_map full.holds (conflict_stands d Stands s k n c f)))
    ended v (right_zero o) z = absurd (true≢false (sym o ∙ pl.sizes))

    -- a full assignment is judged exactly
    pub judged : ((analyzed d s w).verdict ≡ going) ↔ Computed d σ
    judged = (λ e. tested_valid (analyzed_tested e), λ z. ended _ analyzed_good.right z)

  -- no valid division agrees with the list of the analysis's conflict
  pub analyzed_sound : (c : Conflict) → (analyzed d s w).verdict ≡ conflict c → (σ : ℕ → Bool) → Computed d σ → Every (Holds σ) (conflict_list d s c) → ⊥
  analyzed_sound c e σ z x = go (subst (Right d s) e analyzed_good.right)
    where
      go : Right d s (conflict c) → ⊥
      go (right_conflict c f) = conflict_sound d s σ k b z c f x
