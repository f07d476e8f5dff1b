-- `get_reason_lits`, part by part.
use Rattle.std.specs.Prelude.{Bool, false, List, ℕ, Option}
use Rattle.sat.specs.declared.Lit.{Lit}
use Rattle.plan.specs.Words.{edge_lit_of}
use Rattle.noting.specs.Words.{lower_lit_of, upper_lit_of}
use Rattle.reasons.specs.declared.reason.Reason.{Reason}
use Rattle.reasons.specs.declared.reason.Reason.TheVariants.{NotPropagated, EdgeInSameGroup, EdgeBetweenDifferentGroups, TooLargeIfRegionsAreMerged, RegionAlreadyLarge, RegionAlreadySmall, InconsistentBoundsIfRegionsAreMerged, BoundPropagationWithinRegion, AdjacentSameSizeRegions}
use Rattle.walks.specs.Written.{Out}
use Rattle.walks.specs.Answers.{Answer, missing}
use Rattle.lists.specs.Parts.{ends_from, ends_of, path, decided, potential, inside, two_paths, two_regions, three_regions, and_word, and_lit, and_opt}

module _ (ws : List ℕ) (es : List (List ℕ)) (noted : List ℕ) where
  unfoldable pub between : ℕ → ℕ → Bool → Out → Answer
  between h g flip o =
      let d = ends_of es h false in
      let e = ends_of es g flip in
      and_word (edge_lit_of ws h) (two_paths ws es noted (ends_from d.u e.u) (ends_from d.v e.v) o)

  unfoldable pub too_large : ℕ → Option Lit → Out → Answer
  too_large g l o =
      let e = ends_of es g false in
      and_opt l (two_regions ws es noted e.u e.v o)

  -- the upper bound of a and the lower bound of b
  unfoldable pub mismatched : ℕ → ℕ → ℕ → Bool → Out → Answer
  mismatched g a b flip o =
      let e = ends_of es g flip in
      and_lit (lower_lit_of noted b) (and_lit (upper_lit_of noted a) (two_paths ws es noted (ends_from e.u a) (ends_from e.v b) o))

  unfoldable pub spread : ℕ → ℕ → Option Lit → Out → Answer
  spread k u l o = and_opt l (path ws es noted (ends_from k u) o)

  unfoldable pub same_sized : ℕ → Option Lit → Option Lit → ℕ → Option Lit → Option Lit → ℕ → Out → Answer
  same_sized a la ua b lb ub u o = and_opt ub (and_opt lb (and_opt ua (and_opt la (three_regions ws es noted a b u o))))

  -- `get_reason_lits`; no reason has no list
  unfoldable pub reason_lits : Reason → Out → Answer
  reason_lits NotPropagated o = missing o
  reason_lits (EdgeInSameGroup g) o = inside ws es noted g o
  reason_lits (EdgeBetweenDifferentGroups h g flip) o = between h g flip o
  reason_lits (TooLargeIfRegionsAreMerged g l) o = too_large g l o
  reason_lits (RegionAlreadyLarge v) o = decided ws es noted v o
  reason_lits (RegionAlreadySmall v) o = potential ws es noted v o
  reason_lits (InconsistentBoundsIfRegionsAreMerged g a b flip) o = mismatched g a b flip o
  reason_lits (BoundPropagationWithinRegion l k u) o = spread k u l o
  reason_lits (AdjacentSameSizeRegions a la ua b lb ub u) o = same_sized a la ua b lb ub u o

  -- of one kind of reason only
  unfoldable pub mismatch : Reason → Out → Answer
  mismatch NotPropagated o = missing o
  mismatch (EdgeInSameGroup g) o = missing o
  mismatch (EdgeBetweenDifferentGroups h g flip) o = missing o
  mismatch (TooLargeIfRegionsAreMerged g l) o = missing o
  mismatch (RegionAlreadyLarge v) o = missing o
  mismatch (RegionAlreadySmall v) o = missing o
  mismatch (InconsistentBoundsIfRegionsAreMerged g a b flip) o = mismatched g a b flip o
  mismatch (BoundPropagationWithinRegion l k u) o = missing o
  mismatch (AdjacentSameSizeRegions a la ua b lb ub u) o = missing o

  unfoldable pub same_size : Reason → Out → Answer
  same_size NotPropagated o = missing o
  same_size (EdgeInSameGroup g) o = missing o
  same_size (EdgeBetweenDifferentGroups h g flip) o = missing o
  same_size (TooLargeIfRegionsAreMerged g l) o = missing o
  same_size (RegionAlreadyLarge v) o = missing o
  same_size (RegionAlreadySmall v) o = missing o
  same_size (InconsistentBoundsIfRegionsAreMerged g a b flip) o = missing o
  same_size (BoundPropagationWithinRegion l k u) o = missing o
  same_size (AdjacentSameSizeRegions a la ua b lb ub u) o = same_sized a la ua b lb ub u o
