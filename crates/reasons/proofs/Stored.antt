-- What an analysis stores reads back: the newest reason of each literal.
use mathlib.Core.Path.{◌≡◌, refl, sym, ◌∙◌, ap, ap₂, subst}
use mathlib.Core.Bool.{Bool, true, false}
use mathlib.Core.List.{List, [], ◌∷◌}
use Prim.Native.Nat.{ℕ, ◌+◌, ◌*◌, ◌/◌, ◌<◌, ◌≤◌}
use native.Mathlib.Omega.{arith}
use lib.Dec.{eqb, ltb}
use lib.ListN.{length, get_or, set, length-set}
use lib.Seq.{get_or-set_same, get_or-set_other}
use borrow.Author.Tests.{ltb-true, eqb-true, eqb-false}
use Rattle.base.specs.Iter.{pick}
use Rattle.base.proofs.Loop.{pick_yes, pick_no, pick_ind, tested}
use Rattle.base.proofs.Tests.{and_right}
use Rattle.division.specs.Plan.{Plan, Proper}
use Rattle.division.specs.State.{State}
use Rattle.division.specs.Reasons as abstract
use Rattle.division.specs.Analysis.{Proposal, Each, nothing, also}
use Rattle.division.specs.Runs as runs
use Rattle.division.specs.Proposed.{Proposes, rule_in_group, rule_between, rule_too_large, rule_large, rule_small, rule_mismatch, rule_spread_low, rule_spread_high, rule_same_size}
use Rattle.reasons.specs.Words.{marked, put, stored, first_word, second_word}
use Rattle.reasons.specs.Reason.{reason_of, meaning, OneLit, Fits}
use Rattle.reasons.proofs.Back.{meaning_back}
use Rattle.reasons.proofs.Marks.{stores}

-- the numbers of a proposal's reason fit its words, where those of the bounds' literals do
pub proposed_fits : (d : Plan) (s : State) → Proper d → ((v : ℕ) → v < d.vertices → OneLit (s.lower_lit v) × OneLit (s.upper_lit v)) →
    (l : ℕ) (r : abstract.Reason) → Proposes d s l r → Fits r
proposed_fits d s k o l r (rule_in_group g h z j) = omega (arith, k.fine.fits)
proposed_fits d s k o l r (rule_between h g flip hh hg y z i j) = (omega (arith, k.fine.fits), omega (arith, k.fine.fits))
proposed_fits d s k o l r (rule_too_large g w h hw z n i j) = (omega (arith, k.fine.fits), (o w hw).1)
proposed_fits d s k o l r (rule_large v j h a b c) = omega (arith, k.fine.vertices)
proposed_fits d s k o l r (rule_small v j h a b c) = omega (arith, k.fine.vertices)
proposed_fits d s k o l r (rule_mismatch g a b flip h ha hb z i j m) = (omega (arith, k.fine.fits), omega (arith, k.fine.vertices), omega (arith, k.fine.vertices))
proposed_fits d s k o l r (rule_spread_low p u j hp hu i a b c) = (omega (arith, k.fine.vertices), omega (arith, k.fine.vertices), (o p hp).0)
proposed_fits d s k o l r (rule_spread_high p u j hp hu i a b c) = (omega (arith, k.fine.vertices), omega (arith, k.fine.vertices), (o p hp).1)
proposed_fits d s k o l r (rule_same_size a la ua b lb ub u g x h z ha hla hua hb hlb hub hu) = (
  omega (arith, k.fine.vertices),
  omega (arith, k.fine.vertices),
  omega (arith, k.fine.vertices),
  (o la hla).0,
  (o ua hua).1,
  (o lb hlb).0,
  (o ub hub).1,
)

-- ---- the reason of place p
abbrev pub reason_at : List ℕ → ℕ → List abstract.Reason
reason_at words p = meaning (reason_of (get_or words (68 + 2 * p) 0) (get_or words (69 + 2 * p) 0))

pub put_length : (p x y : ℕ) (words : List ℕ) → length (put p x y words) ≡ length words
unfolding put marked
put_length p x y words = pick_ind (λ (l : List ℕ). length l ≡ length words) _ _ _ (λ _. simp length-set) (λ _. refl)

pub stored_length : (ps : List Proposal) (words : List ℕ) → length (stored ps words) ≡ length words
unfolding stored
stored_length [] words = refl
stored_length (q ∷ ps) words = put_length q.lit (first_word q.why) (second_word q.why) (stored ps words) ∙ stored_length ps words

module _ (x y : ℕ) (words : List ℕ) where
  pub put_same : (p : ℕ) → 69 + 2 * p < length words → p < 4352 →
      (get_or (put p x y words) (68 + 2 * p) 0 ≡ x) × (get_or (put p x y words) (69 + 2 * p) 0 ≡ y)
  unfolding marked
  put_same p h k =
      let m = marked p words in
      let w = set m (68 + 2 * p) x in
      let t = stores p x y words h k in
      let n : length m ≡ length words = simp length-set in
      let l : 69 + 2 * p < length w = omega (arith, n, length-set m (68 + 2 * p) x) in (
        ap (λ (v : List ℕ). get_or v (68 + 2 * p) 0) t
            ∙ get_or-set_other w (69 + 2 * p) (68 + 2 * p) y 0 (λ (e : 68 + 2 * p ≡ 69 + 2 * p). omega arith)
            ∙ get_or-set_same m (68 + 2 * p) x 0 (omega (arith, n)),
        ap (λ (v : List ℕ). get_or v (69 + 2 * p) 0) t ∙ get_or-set_same w (69 + 2 * p) y 0 l,
      )

  pub put_other : (p i : ℕ) → 68 ≤ i → (i ≡ 68 + 2 * p → ⊥) → (i ≡ 69 + 2 * p → ⊥) → get_or (put p x y words) i 0 ≡ get_or words i 0
  unfolding put marked
  put_other p i m a b =
      pick_ind (λ (v : List ℕ). get_or v i 0 ≡ get_or words i 0) _ _ _
      (λ t.
      let k = ltb-true p 4352 (and_right (ltb (69 + 2 * p) (length words)) (ltb p 4352) t) in
      get_or-set_other (set (marked p words) (68 + 2 * p) x) (69 + 2 * p) i y 0 b
      ∙ get_or-set_other (marked p words) (68 + 2 * p) i x 0 a
      ∙ get_or-set_other words (p / 64) i _ 0 (λ (e : i ≡ p / 64). omega arith))
      (λ _. refl)

-- the first list, the second where it is empty
unfoldable pub or_else : List abstract.Reason → List abstract.Reason → List abstract.Reason
or_else [] ms = ms
or_else (r ∷ rs) ms = r ∷ rs

else_pick : (b : Bool) (r : abstract.Reason) (rs ms : List abstract.Reason) →
    pick b (r ∷ []) (or_else rs ms) ≡ or_else (pick b (r ∷ []) rs) ms
unfolding or_else pick
else_pick true r rs ms = refl
else_pick false r rs ms = refl

put_means : (r : abstract.Reason) (words : List ℕ) (q p : ℕ) → Fits r → 69 + 2 * p < length words → p < 4352 →
    reason_at (put q (first_word r) (second_word r) words) p ≡ pick (eqb p q) (r ∷ []) (reason_at words p)
put_means r words q p f h k = tested (eqb p q)
    (λ t.
    let e = eqb-true p q t in
    let w = subst (λ (i : ℕ). (get_or (put i (first_word r) (second_word r) words) (68 + 2 * p) 0 ≡ first_word r) × (get_or (put i (first_word r) (second_word r) words) (69 + 2 * p) 0 ≡ second_word r)) e (put_same (first_word r) (second_word r) words p h k) in
    ap₂ (λ (a : ℕ) (b : ℕ). meaning (reason_of a b)) w.0 w.1 ∙ meaning_back r f ∙ sym (pick_yes _ _ t))
    (λ t.
    let n : p ≡ q → ⊥ = eqb-false p q t in
    let w : List ℕ = put q (first_word r) (second_word r) words in
    ap₂ (λ (a : ℕ) (b : ℕ). meaning (reason_of a b))
    (put_other (first_word r) (second_word r) words q (68 + 2 * p) (omega arith) (λ (e : 68 + 2 * p ≡ 68 + 2 * q). n (omega arith)) (λ (e : 68 + 2 * p ≡ 69 + 2 * q). omega arith))
    (put_other (first_word r) (second_word r) words q (69 + 2 * p) (omega arith) (λ (e : 69 + 2 * p ≡ 68 + 2 * q). omega arith) (λ (e : 69 + 2 * p ≡ 69 + 2 * q). n (omega arith))) ∙
    sym (pick_no _ _ t))

-- place p has the reason that was proposed last, as division's `reason_of` finds it, else what it had
pub stored_means : (ps : List Proposal) (words : List ℕ) (p : ℕ) → 69 + 2 * p < length words → p < 4352 → Each (λ l r. Fits r) ps →
    reason_at (stored ps words) p ≡ or_else (runs.reason_of p ps) (reason_at words p)
unfolding stored runs.reason_of or_else
stored_means [] words p h k nothing = refl
stored_means (q ∷ ps) words p h k (also f e) =
    let l : 69 + 2 * p < length (stored ps words) = omega (arith, stored_length ps words) in
    put_means q.why (stored ps words) q.lit p f l k
    ∙ ap (λ (m : List abstract.Reason). pick (eqb p q.lit) (q.why ∷ []) m) (stored_means ps words p h k e)
    ∙ else_pick (eqb p q.lit) q.why (runs.reason_of p ps) (reason_at words p)
