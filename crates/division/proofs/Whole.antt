-- The claim whole: for a proper plan, any standing literals of which none stands beside its negation,
-- and the analysis of the state that noting them gives.
use Prim.Native.Nat.{ℕ, ◌+◌}
use mathlib.Core.Path.{◌≡◌, refl, sym, ap, subst, subst₂}
use mathlib.Core.Logic.{◌↔◌, ⊎_elim}
use mathlib.Core.Bool.{Bool, true, false}
use mathlib.Core.List.Memᴰ
use mathlib.Core.List.{List, [], ◌∷◌, ◌++◌, map}
use lib.ListN.{length}
use lib.Dec.{eqb}
use native.Mathlib.Omega.{arith}
use borrow.Author.Tests.{eqb-true, eqb-false}
use Rattle.base.specs.Iter.{pick}
use Rattle.base.proofs.Loop.{pick_ind}
use Rattle.sat.specs.Literal.{negate}
use Rattle.division.specs.Plan.{Plan, Proper, Plain}
use Rattle.division.specs.Division.{Valid}
use Rattle.division.specs.State.{State}
use Rattle.division.specs.Reasons.{Reason}
use Rattle.division.specs.Conflicts.{Conflict, conflict_list}
use Rattle.division.specs.Analysis.{going, conflict, Proposal, Each, nothing, also}
use Rattle.division.specs.Noting.{note_all, In, Consistent}
use Rattle.division.specs.Views.{view_of}
use Rattle.division.specs.Runs.{analysis, Refutes, Justifies, reason_of, Run, start, note, look}
use Rattle.division.proofs.Divided.{valid_computed, computed_valid}
use Rattle.division.specs.Noted.{Noted}
use Rattle.division.specs.Proposed.{Proposes, Full, Right, right_conflict, Good}
use Rattle.division.proofs.Conflicts.{conflict_sound}
use Rattle.division.proofs.Stands.{conflict_stands}
use Rattle.division.proofs.Rules.{silent, full_silent}
use Rattle.division.proofs.Fetch.{reason_explained, reason_sound, reason_stands, false_reason_sound}
use Rattle.division.proofs.Fits.{reason_fits, conflict_fits}
use Rattle.division.proofs.Judged.{analyzed_good, judged}
use Rattle.division.proofs.Views.{shows}
use Rattle.division.proofs.Noting.{noted_all}

each_map : {P Q : ℕ → Reason → Type 0} {l : List Proposal} → ((x : ℕ) (r : Reason) → P x r → Q x r) → Each P l → Each Q l
each_map f nothing = nothing
each_map f (also p e) = also (f _ _ p) (each_map f e)

each_append : {P : ℕ → Reason → Type 0} {a b : List Proposal} → Each P a → Each P b → Each P (a ++ b)
each_append nothing y = y
each_append (also p x) y = also p (each_append x y)

-- what is found is of the list
pub each_found : {P : ℕ → Reason → Type 0} (l : ℕ) (r : Reason) (ps : List Proposal) → Each P ps → reason_of l ps ≡ r ∷ [] → P l r
unfolding reason_of
each_found l r [] x e = absurd (nil_cons e)
  where
    nil_cons : {A : Type 0} {a : A} → [] ≡ a ∷ [] → ⊥
    nil_cons q = let z : ◌≡◌ {A = ℕ} 0 1 = ap length q in omega arith
each_found {P} l r (p ∷ ps) (also y x) e =
    pick_ind (λ (z : List Reason). z ≡ r ∷ [] → P l r) (eqb l p.lit) (p.why ∷ []) (reason_of l ps)
    (λ t q. subst₂ P (sym (eqb-true _ _ t)) (head q) y) (λ t q. each_found l r ps x q) e
  where
    head : {a b : Reason} → a ∷ [] ≡ b ∷ [] → a ≡ b
    head q = cc

module _ (d : Plan) (k : Proper d) (ls : List ℕ) (c : Consistent ls) where
  abbrev s : State
  s = note_all d ls

  n : Noted d (In ls) s
  n = noted_all d ls c

  good : Good d s (analysis d ls)
  good = analyzed_good d s (view_of d s) k n.bounded (shows d k s)

  -- every conflict list
  pub conflicts : (x : Conflict) → (analysis d ls).verdict ≡ conflict x → Refutes d ls (conflict_list d s x)
  conflicts x e = go (subst (Right d s) e good.right)
    where
      go : Right d s (conflict x) → Refutes d ls (conflict_list d s x)
      go (right_conflict x f) = record { stands = conflict_stands d (In ls) s k n x f; fits = conflict_fits d s k n.bounded x f; sound = λ σ z w. conflict_sound d s σ k n.bounded (valid_computed d σ k z) x f w }

  -- neither a literal that is proposed nor its negation stands, under either option
  pub nothing_standing_proposed : Each (λ l r. (In ls l → ⊥) × (In ls (negate l) → ⊥)) (analysis d ls).props
  nothing_standing_proposed = each_map (λ l r p. silent d (In ls) s n l r p) good.props

  -- every reason, where at least as much stands when it is fetched
  pub reasons : (ms : List ℕ) → Consistent ms → ((l : ℕ) → In ls l → In ms l) → Each (Justifies d ms) (analysis d ls).props
  reasons ms cm sub =
      let m = noted_all d ms cm in
      each_map (λ l r p. record {
        stands = reason_stands d k (In ls) (In ms) s (note_all d ms) n m sub l r p;
        fits = reason_fits d (note_all d ms) k m.bounded l r (reason_explained d k (In ls) (In ms) s (note_all d ms) n m sub l r p);
        sound = λ pl σ z. reason_sound d k (In ls) (In ms) s (note_all d ms) n m sub pl l r p σ (valid_computed d σ k z);
        refuted = λ pl σ z. false_reason_sound d k (In ls) (In ms) s (note_all d ms) n m sub pl l r p σ (valid_computed d σ k z);
      }) good.props

  -- a full assignment is judged exactly: no conflict and no crossed bounds where the division is valid, and only there
  pub exactly : Plain d → (σ : ℕ → Bool) → Full d (In ls) σ → ((analysis d ls).verdict ≡ going) ↔ Valid d σ
  exactly pl σ f =
      let j = judged d s (view_of d s) k n.bounded (shows d k s) (In ls) σ n f pl in
      (λ e. computed_valid d σ k (j.0 e), λ z. j.1 (valid_computed d σ k z))

  -- and nothing is proposed then
  pub nothing_left : (σ : ℕ → Bool) → Full d (In ls) σ → (analysis d ls).props ≡ []
  nothing_left σ f = go good.props
    where
      go : {l : List Proposal} → Each (Proposes d s) l → l ≡ []
      go nothing = refl
      go (also p e) = absurd (full_silent d (In ls) s n σ f _ _ p)

-- whatever was recorded in a run justifies its literal wherever at least as much stands, as it does to the run's end
pub run_justified : (d : Plan) (k : Proper d) {ls : List ℕ} {ps : List Proposal} → Run d ls ps → (ms : List ℕ) → Consistent ms → ((l : ℕ) → In ls l → In ms l) → Each (Justifies d ms) ps
run_justified d k (start ls) ms c sub = nothing
run_justified d k (note l r) ms c sub = run_justified d k r ms c (λ x m. sub x (Memᴰ.tail m))
run_justified d k (look {ls = ls} r) ms c sub =
    each_append (reasons d k ls (λ l a b. c l (sub l a) (sub (negate l) b)) ms c sub) (run_justified d k r ms c sub)

-- a reason that a run recorded, fetched at its end
pub run_fetched : (d : Plan) (k : Proper d) {ls : List ℕ} {ps : List Proposal} → Run d ls ps → Consistent ls → (l : ℕ) (r : Reason) → reason_of l ps ≡ r ∷ [] → Justifies d ls l r
run_fetched d k {ls} {ps} u c l r e = each_found l r ps (run_justified d k u ls c (λ x m. m)) e

-- a literal that is proposed has a reason
pub reason_there : (l : ℕ) (ps : List Proposal) → In (map (λ p. p.lit) ps) l → (r : Reason) × (reason_of l ps ≡ r ∷ [])
unfolding reason_of
reason_there l [] m = absurd (Memᴰ.not-nil m)
reason_there l (p ∷ ps) m =
    pick_ind (λ (z : List Reason). (r : Reason) × (z ≡ r ∷ [])) (eqb l p.lit) (p.why ∷ []) (reason_of l ps) (λ t. (p.why, refl))
    (λ t. reason_there l ps (⊎_elim (λ e. absurd (eqb-false _ _ t e)) (λ z. z) (Memᴰ.cases_cons m)))

-- which older records do not change
pub reason_newer : (l : ℕ) (r : Reason) (ps qs : List Proposal) → reason_of l ps ≡ r ∷ [] → reason_of l (ps ++ qs) ≡ r ∷ []
unfolding reason_of pick
reason_newer l r [] qs e = absurd (no_reason e)
  where
    no_reason : {a : Reason} → [] ≡ a ∷ [] → ⊥
    no_reason q = let z : ◌≡◌ {A = ℕ} 0 1 = ap length q in omega arith
reason_newer l r (p ∷ ps) qs e = go (eqb l p.lit) e (λ q. reason_newer l r ps qs q)
  where
    go : (t : Bool) → pick t (p.why ∷ []) (reason_of l ps) ≡ r ∷ [] → (reason_of l ps ≡ r ∷ [] → reason_of l (ps ++ qs) ≡ r ∷ []) → pick t (p.why ∷ []) (reason_of l (ps ++ qs)) ≡ r ∷ []
    go true q f = q
    go false q f = f q

-- each literal that an analysis proposes, whatever was recorded before it: the reason recorded for it justifies it there
pub proposed_justified : (d : Plan) (k : Proper d) (ls : List ℕ) → Consistent ls → (old : List Proposal) (l : ℕ) → In (map (λ p. p.lit) (analysis d ls).props) l →
    (r : Reason) × (reason_of l ((analysis d ls).props ++ old) ≡ r ∷ []) × Justifies d ls l r
proposed_justified d k ls c old l m =
    let (r, e) = reason_there l (analysis d ls).props m in
    (r, reason_newer l r (analysis d ls).props old e, each_found l r (analysis d ls).props (reasons d k ls c ls c (λ x y. y)) e)
