-- The literals that an analysis proposes are the plan's, and so have their places; the numbers of their reasons fit words.
use mathlib.Core.Path.{◌≡◌, refl, sym, ap, ap₂, ◌∙◌}
use mathlib.Core.Bool.{Bool, true, false, not, ◌||◌}
use mathlib.Core.List.{List, [], ◌∷◌}
use Prim.Native.Nat.{ℕ, suc, ◌+◌, ◌*◌, ◌/◌, ◌<◌}
use native.Mathlib.Omega.{arith}
use borrow.Author.Tests.{eq-eqb, ne_eqb}
use Rattle.base.specs.Iter.{pick}
use Rattle.base.proofs.Loop.{pick_yes, pick_no, pick_ind}
use Rattle.sat.proofs.Literal.{variable_negate}
use Rattle.sat.specs.Literal.{negate}
use Rattle.division.specs.Plan.{Plan, Proper, left, right}
use Rattle.division.specs.State.{State, Same}
use Rattle.division.specs.Reasons.{Reason}
use Rattle.division.specs.Noting.{note_all, In, Consistent}
use Rattle.division.specs.Runs.{analysis}
use Rattle.division.proofs.Walk.{joined_within}
use Rattle.division.specs.Noted.{Lower, Upper}
use Rattle.division.proofs.Noting.{noted_all}
use Rattle.division.proofs.Fetch.{reason_explained}
use Rattle.division.specs.Analysis.{Each}
use Rattle.division.specs.Proposed.{Proposes, rule_in_group, rule_between, rule_too_large, rule_large, rule_small, rule_mismatch, rule_spread_low, rule_spread_high, rule_same_size}
use Rattle.calls.specs.Table.{knows}
use Rattle.calls.specs.Look.{unjoined, gone}
use Rattle.calls.specs.Refusals.{Known, of_edge, of_domain}
use Rattle.calls.proofs.Known as calls
use Rattle.calls.proofs.Fetchable.{each_map, good, is_known}
use Rattle.plan.specs.Words.{vertices_of, edges_of, lit_of, place_of, edge_lit_of, dom_lit_of, domain_len_of}
use Rattle.plan.specs.Check.{used_slot}
use Rattle.plan.specs.Plan.{plan_of}
use Rattle.plan.specs.Proper.{ProperWords}
use Rattle.plan.proofs.Abstract.{proper_plan}
use Rattle.plan.proofs.Passes.{edge_slot}
use Rattle.noting.specs.Words.{lits_of}
use Rattle.noting.specs.Note.{known}
use Rattle.noting.proofs.Indexed as index
use Rattle.noting.proofs.Logged.{known_small}
use Rattle.noting.proofs.Noted.{edge_lit}
use Rattle.noting.proofs.Vertex.{slot_used, slot_lit}
use Rattle.reasons.specs.Reason.{OneLit, Fits}
use Rattle.reasons.proofs.Stored.{proposed_fits}

module _ (ws : List ℕ) (ends : List (List ℕ)) (p : ProperWords ws ends) where
  -- a slot's variable is one of the distinct ones
  slot_known : (s l : ℕ) → used_slot ws s ≡ true → l / 2 ≡ lit_of ws s / 2 → known ws (l / 2) ≡ true
  slot_known s l u e = let f = p.filed s u in ap (known ws) (e ∙ sym f.variable) ∙ index.is_known ws ends p (place_of ws s / 2) f.known

  edge_known : (g l : ℕ) → g < edges_of ws → l / 2 ≡ edge_lit_of ws g / 2 → known ws (l / 2) ≡ true
  edge_known g l h e = slot_known (2048 + g) l (edge_slot ws g h) (e ∙ ap (λ (a : ℕ). a / 2) (sym (edge_lit ws ends p 0 (omega arith) g h)))

  size_known : (v j l : ℕ) → v < vertices_of ws → suc j < domain_len_of ws v → l / 2 ≡ dom_lit_of ws v j / 2 → known ws (l / 2) ≡ true
  size_known v j l h m e = slot_known (32 * v + j) l (slot_used ws ends p 0 (omega arith) v h j m) (e ∙ ap (λ (a : ℕ). a / 2) (sym (slot_lit ws ends p 0 (omega arith) v h j m)))

  -- refusal 9's test on words passes every literal that the plan knows
  pub knows_known : (l : ℕ) → knows (plan_of ws ends) l ≡ true → known ws (l / 2) ≡ true
  knows_known l e = go (calls.known (plan_of ws ends) l e)
    where
      go : Known (plan_of ws ends) l → known ws (l / 2) ≡ true
      go (of_edge g h q) = edge_known g l h q
      go (of_domain v j h m q) = size_known v j l h m q

  -- ---- a bound's literal
  no_lit : (ls : List ℕ) → ls ≡ [] → OneLit ls
  unfolding lits_of
  no_lit ls e = record { lit = 65535; small = omega arith; is = e ∙ sym (pick_yes _ _ (eq-eqb 65535 65535 refl)) }

  one_lit : (ls : List ℕ) (l : ℕ) → known ws (l / 2) ≡ true → ls ≡ l ∷ [] → OneLit ls
  unfolding lits_of
  one_lit ls l h e = let s = known_small ws ends p l h in record { lit = l; small = omega arith; is = e ∙ sym (pick_no _ _ (ne_eqb l 65535 (λ (q : l ≡ 65535). omega arith))) }

  low_lit : (v b : ℕ) (ls : List ℕ) → v < vertices_of ws → Lower (plan_of ws ends) v b ls → OneLit ls
  low_lit v b ls h (Lower.free a e q) = no_lit ls q
  low_lit v b ls h (Lower.least a e q) = no_lit ls q
  low_lit v b ls h (Lower.lit j a e q) = one_lit ls (dom_lit_of ws v j) (size_known v j _ h a refl) q

  high_lit : (v b : ℕ) (ls : List ℕ) → v < vertices_of ws → Upper (plan_of ws ends) v b ls → OneLit ls
  high_lit v b ls h (Upper.free a e q) = no_lit ls q
  high_lit v b ls h (Upper.last i a e q) = no_lit ls q
  high_lit v b ls h (Upper.lit j a e q) = one_lit ls (negate (dom_lit_of ws v j)) (size_known v j _ h a (variable_negate _)) q

  module _ (ls : List ℕ) (c : Consistent ls) where
    abbrev d : Plan
    d = plan_of ws ends

    abbrev t : State
    t = note_all d ls

    pub each_proposed : Each (Proposes d t) (analysis d ls).props
    each_proposed = (good d (proper_plan ws ends p) ls c).props

    pub each_known : Each (λ l r. known ws (l / 2) ≡ true) (analysis d ls).props
    each_known =
        let k = proper_plan ws ends p in
        let n = noted_all d ls c in
        each_map (λ l r x. knows_known l (is_known d k t l r (reason_explained d k (In ls) (In ls) t t n n (λ _ m. m) l r x))) each_proposed

    pub each_fits : Each (λ l r. Fits r) (analysis d ls).props
    each_fits =
        let b = (noted_all d ls c).bounded in
        each_map (proposed_fits d t (proper_plan ws ends p) (λ v h. (low_lit v _ _ h (b.low v h), high_lit v _ _ h (b.high v h)))) each_proposed

-- ---- the path of a reason that is proposed is there
module _ (d : Plan) (k : Proper d) (s : State) where
  there : (u v : ℕ) → u < d.vertices → Same d s u v → unjoined d s u v ≡ false
  unfolding unjoined
  there u v h j = ap not (joined_within d k s.edge_state false u h v j)

  near : (g : ℕ) (flip : Bool) → g < d.edges → pick flip (right d g) (left d g) < d.vertices
  near g flip h = pick_ind (λ x. x < d.vertices) flip _ _ (λ _. (k.fine.within g h).b) (λ _. (k.fine.within g h).a)

  far : (g : ℕ) (flip : Bool) → g < d.edges → pick flip (left d g) (right d g) < d.vertices
  far g flip h = pick_ind (λ x. x < d.vertices) flip _ _ (λ _. (k.fine.within g h).a) (λ _. (k.fine.within g h).b)

  pub proposed_there : (l : ℕ) (r : Reason) → Proposes d s l r → gone d s r ≡ false
  unfolding gone
  proposed_there l r (rule_in_group g h z j) = there _ _ (k.fine.within g h).a j
  proposed_there l r (rule_between i g flip hi hg y z a b) = ap₂ ◌||◌ (there _ _ (k.fine.within i hi).a a) (there _ _ (k.fine.within i hi).b b)
  proposed_there l r (rule_too_large g w h hw z n i j) = refl
  proposed_there l r (rule_large v j h a b c) = refl
  proposed_there l r (rule_small v j h a b c) = refl
  proposed_there l r (rule_mismatch g a b flip h ha hb z i j m) = ap₂ ◌||◌ (there _ _ (near g flip h) i) (there _ _ (far g flip h) j)
  proposed_there l r (rule_spread_low p u j hp hu i a b c) = there _ _ hp i
  proposed_there l r (rule_spread_high p u j hp hu i a b c) = there _ _ hp i
  proposed_there l r (rule_same_size a la ua b lb ub u g x h z ha hla hua hb hlb hub hu) = refl
