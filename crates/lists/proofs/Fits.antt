-- Every list of a reason fits a reason buffer of edges + 2 × vertices + 4, and stands in it whole.
use Prim.Native.Nat.{ℕ, ◌+◌, ◌*◌, ◌<◌, ◌≤◌, zero-le}
use native.Mathlib.Omega.{arith}
use mathlib.Core.Path.{◌≡◌, ap, subst}
use mathlib.Core.Bool.{false}
use mathlib.Core.List.{List, [], ◌∷◌}
use lib.ListN.{length, length-append}
use lib.Seq.{sets}
use borrow.Author.Tests.{not-false}
use Rattle.base.proofs.Loop.{pick_ind}
use Rattle.base.proofs.Tests.{or_none}
use Rattle.sat.specs.declared.Lit.{Lit}
use Rattle.division.specs.Plan.{Plan}
use Rattle.division.specs.State.{State}
use Rattle.division.specs.Reasons as abstract
use Rattle.division.proofs.Walk.{within_joined}
use Rattle.division.proofs.Fits.{path_short, decided_short, decided_few, potential_short}
use Rattle.division.specs.Proposed.{Proposes, rule_in_group, rule_between, rule_too_large, rule_large, rule_small, rule_mismatch, rule_spread_low, rule_spread_high, rule_same_size}
use Rattle.division.specs.Explained.{Explains, by_in_group, by_between, by_too_large, by_large, by_small, by_mismatch, by_spread_low, by_spread_high, by_same_size}
use Rattle.calls.specs.Look.{unjoined, gone}
use Rattle.plan.specs.Words.{vertices_of, edges_of}
use Rattle.plan.specs.Plan.{plan_of}
use Rattle.plan.proofs.Abstract.{proper_plan}
use Rattle.std.specs.Prelude.{Option, None, Some}
use Rattle.noting.specs.Words.{state_of, lits_of, lower_lit_of, upper_lit_of}
use Rattle.reasons.specs.Reason.{lits_in, meaning}
use Rattle.reasons.specs.declared.reason.Reason.{Reason}
use Rattle.reasons.specs.declared.reason.Reason.TheVariants.{NotPropagated, EdgeInSameGroup, EdgeBetweenDifferentGroups, TooLargeIfRegionsAreMerged, RegionAlreadyLarge, RegionAlreadySmall, InconsistentBoundsIfRegionsAreMerged, BoundPropagationWithinRegion, AdjacentSameSizeRegions}
use Rattle.walks.specs.Written.{Out, out_of}
use Rattle.walks.specs.Answers.{answer_of, given}
use Rattle.walks.proofs.Written.{written_fits}
use Rattle.lists.specs.Within.{Held, Within}
use Rattle.lists.proofs.Walks.{near_in, far_in}

-- where there is room, the list stands whole from the place on, and the answer is the place past it
pub given_fits : (l t : List ℕ) (n : ℕ) → n + length l ≤ length t → given l (out_of t n) ≡ answer_of (Some (n + length l)) (sets t n l)
unfolding given
given_fits l t n h = ap (λ (x : Out). answer_of (Some x.place) x.text) (written_fits l t n h)

-- a reason that an analysis records names edges and vertices of the plan
pub explained_within : (d : Plan) (s : State) (l : ℕ) (r : abstract.Reason) → Explains d s l r → Within d r
explained_within d s l r (by_in_group g h e j) = h
explained_within d s l r (by_between i g f hi h e a b) = (hi, h)
explained_within d s l r (by_too_large g ls w b h e hw a u m) = h
explained_within d s l r (by_large v j h m e a) = h
explained_within d s l r (by_small v j h m e a) = h
explained_within d s l r (by_mismatch g p q f h e hp hq a b m) = (h, hp, hq)
explained_within d s l r (by_spread_low p u ls b j hp hu m e a w i) = (hp, hu)
explained_within d s l r (by_spread_high p u ls b j hp hu m e a w i) = (hp, hu)
explained_within d s l r (by_same_size p lp up q lq uq u g o h e hp hq hu xa ya xb yb) = (hp, hq, hu)

-- the same of a proposal
pub proposed_within : (d : Plan) (s : State) (l : ℕ) (r : abstract.Reason) → Proposes d s l r → Within d r
proposed_within d s l r (rule_in_group g h z j) = h
proposed_within d s l r (rule_between h g flip hh hg y z i j) = (hh, hg)
proposed_within d s l r (rule_too_large g w h hw z n i j) = h
proposed_within d s l r (rule_large v j h a b c) = h
proposed_within d s l r (rule_small v j h a b c) = h
proposed_within d s l r (rule_mismatch g a b flip h ha hb z i j m) = (h, ha, hb)
proposed_within d s l r (rule_spread_low p u j hp hu i a b c) = (hp, hu)
proposed_within d s l r (rule_spread_high p u j hp hu i a b c) = (hp, hu)
proposed_within d s l r (rule_same_size a la ua b lb ub u g x h z ha hla hua hb hlb hub hu) = (ha, hb, hu)

pub one_opt : (x : Option Lit) → length (lits_in x) ≤ 1
unfolding lits_in
one_opt (Some l) = omega arith
one_opt None = omega arith

pub one_lit : (x : ℕ) → length (lits_of x) ≤ 1
unfolding lits_of
one_lit x = pick_ind (λ (l : List ℕ). length l ≤ 1) _ _ _ (λ _. zero-le) (λ _. omega arith)

module _ (ws : List ℕ) (es : List (List ℕ)) (noted : List ℕ) (k : Held ws es noted) where
  abbrev d : Plan
  d = plan_of ws es

  abbrev s : State
  s = state_of noted

  pub path_fits : (u v : ℕ) → u < vertices_of ws → unjoined d s u v ≡ false → length (abstract.connected_path d s u v) < vertices_of ws
  unfolding unjoined
  path_fits u v h e = let p = proper_plan ws es k.proper in path_short d s p u v h (within_joined d p noted false u h v (not-false _ e))

  pub decided_fits : (u : ℕ) → u < vertices_of ws → length (abstract.decided_region d s u) < vertices_of ws
  decided_fits u h = decided_short d s (proper_plan ws es k.proper) u h

  abbrev Short : List abstract.Reason → Type 0
  Short [] = Unit {0}
  Short (q ∷ qs) = Within d q → gone d s q ≡ false → length (abstract.list_of d s q) ≤ edges_of ws + 2 * vertices_of ws + 4

  short : (r : Reason) → Short (meaning r)
  unfolding meaning abstract.list_of gone
  short NotPropagated = tt
  short (EdgeInSameGroup g) = λ h e. omega (arith, path_fits _ _ (k.proper.fine.within g h).a e)
  short (EdgeBetweenDifferentGroups h g flip) = λ (i, j) e.
      let n = or_none _ _ e in
      simp length-append (omega (arith, path_fits _ _ (k.proper.fine.within h i).a n.0, path_fits _ _ (k.proper.fine.within h i).b n.1))
  short (TooLargeIfRegionsAreMerged g l) = λ h e.
      simp length-append (omega (arith, decided_fits _ (k.proper.fine.within g h).a, decided_fits _ (k.proper.fine.within g h).b, one_opt l))
  short (RegionAlreadyLarge v) = λ h e. omega (arith, decided_fits v h)
  short (RegionAlreadySmall v) = λ h e. omega (arith, potential_short d s v)
  short (InconsistentBoundsIfRegionsAreMerged g a b flip) = λ (h, i, j) e.
      let n = or_none _ _ e in
      simp length-append (omega (arith, path_fits _ _ (near_in ws es noted k g flip h) n.0, path_fits _ _ (far_in ws es noted k g flip h) n.1, one_lit (upper_lit_of noted a), one_lit (lower_lit_of noted b)))
  short (BoundPropagationWithinRegion l p u) = λ (h, i) e. simp length-append (omega (arith, path_fits p u h e, one_opt l))
  short (AdjacentSameSizeRegions a la ua b lb ub u) = λ (h, i, j) e.
      simp length-append
      (omega (arith, decided_few d s (proper_plan ws es k.proper) a h, decided_fits b i, decided_fits u j, one_opt la, one_opt ua, one_opt lb, one_opt ub))

  -- Refusal 7, "reason buffer under gates + 2 × pens + 4": there is room in any that is not
  pub reason_fits : (r : Reason) (q : abstract.Reason) → meaning r ≡ q ∷ [] → Within d q → gone d s q ≡ false → length (abstract.list_of d s q) ≤ edges_of ws + 2 * vertices_of ws + 4
  reason_fits r q e = subst Short e (short r)
