-- What `reason_lits` writes: the list of the reason, where its paths are there, and none where one is gone.
use Prim.Native.Nat.{ℕ, ◌<◌}
use mathlib.Core.Path.{◌≡◌, refl, ◌∙◌, ap, ap₂, subst}
use mathlib.Core.Bool.{Bool, true, false, ◌||◌, false≢true}
use mathlib.Core.List.{List, [], ◌∷◌, ◌++◌, append_assoc}
use Rattle.base.specs.Iter.{pick}
use Rattle.base.proofs.Tests.{or_none}
use Rattle.sat.specs.declared.Lit.{Lit}
use Rattle.division.specs.Plan.{Plan, left, right}
use Rattle.division.specs.State.{State}
use Rattle.division.specs.Reasons as abstract
use Rattle.calls.specs.Look.{unjoined, gone}
use Rattle.plan.specs.Words.{vertices_of, edges_of, edge_lit_of}
use Rattle.plan.specs.Plan.{plan_of}
use Rattle.std.specs.Prelude.{Option, None}
use Rattle.noting.specs.Words.{state_of, lits_of, lower_lit_of, upper_lit_of}
use Rattle.reasons.specs.Reason.{lits_in, meaning}
use Rattle.reasons.specs.declared.reason.Reason.{Reason}
use Rattle.reasons.specs.declared.reason.Reason.TheVariants.{NotPropagated, EdgeInSameGroup, EdgeBetweenDifferentGroups, TooLargeIfRegionsAreMerged, RegionAlreadyLarge, RegionAlreadySmall, InconsistentBoundsIfRegionsAreMerged, BoundPropagationWithinRegion, AdjacentSameSizeRegions}
use Rattle.walks.specs.Written.{Out, written}
use Rattle.walks.specs.Answers.{Answer, given}
use Rattle.lists.specs.declared.Ends.{Ends}
use Rattle.lists.specs.Parts.{ends_from, then, path, inside, two_paths, two_regions, three_regions, and_word, and_lit, and_opt}
use Rattle.lists.specs.Lists.{between, too_large, mismatched, spread, same_sized, reason_lits}
use Rattle.lists.specs.Within.{Held, Within}
use Rattle.lists.proofs.Walks.{then_given, word_given, opt_given, lit_given, then_lost, word_lost, opt_lost, lit_lost, next_lost, path_there, path_gone_lem, decided_there, potential_there, near, far, ends_are, near_in, far_in}

-- a literal after what was given
pub word_after : (x : ℕ) (a : Answer) (l m : List ℕ) (o : Out) → a ≡ given l o → l ++ (x ∷ []) ≡ m → and_word x a ≡ given m o
word_after x a l m o e q = ap (and_word x) e ∙ word_given x l o ∙ ap (λ (n : List ℕ). given n o) q

opt_after : (x : Option Lit) (a : Answer) (l m : List ℕ) (o : Out) → a ≡ given l o → l ++ lits_in x ≡ m → and_opt x a ≡ given m o
opt_after x a l m o e q = ap (and_opt x) e ∙ opt_given x l o ∙ ap (λ (n : List ℕ). given n o) q

pub lit_after : (x : ℕ) (a : Answer) (l m : List ℕ) (o : Out) → a ≡ given l o → l ++ lits_of x ≡ m → and_lit x a ≡ given m o
lit_after x a l m o e q = ap (and_lit x) e ∙ lit_given x l o ∙ ap (λ (n : List ℕ). given n o) q

then_after : (a : Answer) (f : Out → Answer) (l m : List ℕ) (o : Out) → a ≡ given l o → f (written l o) ≡ given m (written l o) → then a f ≡ given (l ++ m) o
then_after a f l m o e q = ap (λ (x : Answer). then x f) e ∙ then_given l m o f q

-- a test that is met, or the next one
or_next_cases : {X : Type 0} (a b : Bool) → (a || b) ≡ true → (a ≡ true → X) → (a ≡ false → b ≡ true → X) → X
or_next_cases true b e f g = f refl
or_next_cases false b e f g = g refl e

module _ (ws : List ℕ) (es : List (List ℕ)) (noted : List ℕ) (k : Held ws es noted) where
  abbrev d : Plan
  d = plan_of ws es

  abbrev s : State
  s = state_of noted

  -- ---- the parts
  pub inside_there : (g : ℕ) (o : Out) → g < edges_of ws → unjoined d s (left d g) (right d g) ≡ false → inside ws es noted g o ≡ given (abstract.connected_path d s (left d g) (right d g)) o
  unfolding inside pick
  inside_there g o h e = ap (λ (p : Ends). path ws es noted p o) (ends_are ws es noted k g false h) ∙ path_there ws es noted k _ _ o (k.proper.fine.within g h).a (k.proper.fine.within g h).b e

  pub inside_gone : (g : ℕ) (o : Out) → g < edges_of ws → unjoined d s (left d g) (right d g) ≡ true → (inside ws es noted g o).listed ≡ None
  unfolding inside pick
  inside_gone g o h e =
      ap (λ (p : Ends). (path ws es noted p o).listed) (ends_are ws es noted k g false h) ∙ path_gone_lem ws es noted k _ _ o (k.proper.fine.within g h).a (k.proper.fine.within g h).b e

  module _ (u v w x : ℕ) (o : Out) (hu : u < vertices_of ws) (hv : v < vertices_of ws) (hw : w < vertices_of ws) (hx : x < vertices_of ws) where
    paths_there : (unjoined d s u v || unjoined d s w x) ≡ false → two_paths ws es noted (ends_from u v) (ends_from w x) o ≡ given (abstract.connected_path d s u v ++ abstract.connected_path d s w x) o
    unfolding two_paths
    paths_there e =
        let n = or_none (unjoined d s u v) _ e in
        then_after _ _ _ _ o (path_there ws es noted k u v o hu hv n.0) (path_there ws es noted k w x _ hw hx n.1)

    paths_gone : (unjoined d s u v || unjoined d s w x) ≡ true → (two_paths ws es noted (ends_from u v) (ends_from w x) o).listed ≡ None
    unfolding two_paths
    paths_gone e = or_next_cases (unjoined d s u v) _ e
        (λ a. then_lost _ _ (path_gone_lem ws es noted k u v o hu hv a))
        (λ a b. next_lost _ o _ _ (path_there ws es noted k u v o hu hv a) (path_gone_lem ws es noted k w x _ hw hx b))

  regions_there : (u v : ℕ) (o : Out) → u < vertices_of ws → v < vertices_of ws → two_regions ws es noted u v o ≡ given (abstract.decided_region d s u ++ abstract.decided_region d s v) o
  unfolding two_regions
  regions_there u v o hu hv = then_after _ _ _ _ o (decided_there ws es noted k u o hu) (decided_there ws es noted k v _ hv)

  three_there : (a b u : ℕ) (o : Out) → a < vertices_of ws → b < vertices_of ws → u < vertices_of ws →
      three_regions ws es noted a b u o ≡ given ((abstract.decided_region d s a ++ abstract.decided_region d s b) ++ abstract.decided_region d s u) o
  unfolding three_regions
  three_there a b u o ha hb hu = then_after _ _ _ _ o (regions_there a b o ha hb) (decided_there ws es noted k u _ hu)

  -- the ends that the code reads are the edge's
  between_ends : (h g : ℕ) (flip : Bool) (o : Out) → h < edges_of ws → g < edges_of ws →
      between ws es noted h g flip o ≡ and_word (edge_lit_of ws h) (two_paths ws es noted (ends_from (left d h) (near ws es noted k g flip)) (ends_from (right d h) (far ws es noted k g flip)) o)
  unfolding between pick
  between_ends h g flip o hh hg =
      ap₂ (λ (p : Ends) (q : Ends). and_word (edge_lit_of ws h) (two_paths ws es noted (ends_from p.u q.u) (ends_from p.v q.v) o)) (ends_are ws es noted k h false hh) (ends_are ws es noted k g flip hg)

  large_ends : (g : ℕ) (l : Option Lit) (o : Out) → g < edges_of ws → too_large ws es noted g l o ≡ and_opt l (two_regions ws es noted (left d g) (right d g) o)
  unfolding too_large pick
  large_ends g l o h = ap (λ (p : Ends). and_opt l (two_regions ws es noted p.u p.v o)) (ends_are ws es noted k g false h)

  mismatch_ends : (g a b : ℕ) (flip : Bool) (o : Out) → g < edges_of ws →
      mismatched ws es noted g a b flip o ≡ and_lit (lower_lit_of noted b) (and_lit (upper_lit_of noted a) (two_paths ws es noted (ends_from (near ws es noted k g flip) a) (ends_from (far ws es noted k g flip) b) o))
  unfolding mismatched
  mismatch_ends g a b flip o h =
      ap (λ (p : Ends). and_lit (lower_lit_of noted b) (and_lit (upper_lit_of noted a) (two_paths ws es noted (ends_from p.u a) (ends_from p.v b) o))) (ends_are ws es noted k g flip h)

  -- ---- the list of a reason
  abbrev Writes : Reason → Out → List abstract.Reason → Type 0
  Writes r o [] = Unit {0}
  Writes r o (q ∷ qs) = Within d q → gone d s q ≡ false → reason_lits ws es noted r o ≡ given (abstract.list_of d s q) o

  writes : (r : Reason) (o : Out) → Writes r o (meaning r)
  unfolding meaning reason_lits abstract.list_of gone spread same_sized
  writes NotPropagated o = tt
  writes (EdgeInSameGroup g) o = λ h e. inside_there g o h e
  writes (EdgeBetweenDifferentGroups h g flip) o = λ (i, j) e.
      between_ends h g flip o i j ∙
      word_after _ _ _ _ o (paths_there _ _ _ _ o (k.proper.fine.within h i).a (near_in ws es noted k g flip j) (k.proper.fine.within h i).b (far_in ws es noted k g flip j) e) (simp append_assoc)
  writes (TooLargeIfRegionsAreMerged g l) o = λ h e.
      large_ends g l o h ∙ opt_after _ _ _ _ o (regions_there _ _ o (k.proper.fine.within g h).a (k.proper.fine.within g h).b) (simp append_assoc)
  writes (RegionAlreadyLarge v) o = λ h e. decided_there ws es noted k v o h
  writes (RegionAlreadySmall v) o = λ h e. potential_there ws es noted k v o h
  writes (InconsistentBoundsIfRegionsAreMerged g a b flip) o = λ (h, i, j) e.
      mismatch_ends g a b flip o h ∙
      lit_after _ _ _ _ o (lit_after _ _ _ _ o (paths_there _ _ _ _ o (near_in ws es noted k g flip h) i (far_in ws es noted k g flip h) j e) refl) (simp append_assoc)
  writes (BoundPropagationWithinRegion l p u) o = λ (h, i) e. opt_after _ _ _ _ o (path_there ws es noted k p u o h i e) refl
  writes (AdjacentSameSizeRegions a la ua b lb ub u) o = λ (h, i, j) e.
      opt_after _ _ _ _ o (opt_after _ _ _ _ o (opt_after _ _ _ _ o (opt_after _ _ _ _ o (three_there a b u o h i j) refl) refl) refl) (simp append_assoc)

  -- `get_reason_lits` gives the list of the reason where its paths are there
  pub reason_listed : (r : Reason) (q : abstract.Reason) (o : Out) → meaning r ≡ q ∷ [] → Within d q → gone d s q ≡ false → reason_lits ws es noted r o ≡ given (abstract.list_of d s q) o
  reason_listed r q o e = subst (Writes r o) e (writes r o)

  abbrev Misses : Reason → Out → List abstract.Reason → Type 0
  Misses r o [] = Unit {0}
  Misses r o (q ∷ qs) = Within d q → gone d s q ≡ true → (reason_lits ws es noted r o).listed ≡ None

  misses : (r : Reason) (o : Out) → Misses r o (meaning r)
  unfolding meaning reason_lits gone spread
  misses NotPropagated o = tt
  misses (EdgeInSameGroup g) o = λ h e. inside_gone g o h e
  misses (EdgeBetweenDifferentGroups h g flip) o = λ (i, j) e.
      ap (λ (a : Answer). a.listed) (between_ends h g flip o i j) ∙
      word_lost _ _ (paths_gone _ _ _ _ o (k.proper.fine.within h i).a (near_in ws es noted k g flip j) (k.proper.fine.within h i).b (far_in ws es noted k g flip j) e)
  misses (TooLargeIfRegionsAreMerged g l) o = λ h e. absurd (false≢true e)
  misses (RegionAlreadyLarge v) o = λ h e. absurd (false≢true e)
  misses (RegionAlreadySmall v) o = λ h e. absurd (false≢true e)
  misses (InconsistentBoundsIfRegionsAreMerged g a b flip) o = λ (h, i, j) e.
      ap (λ (a : Answer). a.listed) (mismatch_ends g a b flip o h) ∙
      lit_lost _ _ (lit_lost _ _ (paths_gone _ _ _ _ o (near_in ws es noted k g flip h) i (far_in ws es noted k g flip h) j e))
  misses (BoundPropagationWithinRegion l p u) o = λ (h, i) e. opt_lost _ _ (path_gone_lem ws es noted k p u o h i e)
  misses (AdjacentSameSizeRegions a la ua b lb ub u) o = λ h e. absurd (false≢true e)

  -- Refusal 16, "recorded path gone": then there is none
  pub reason_missing : (r : Reason) (q : abstract.Reason) (o : Out) → meaning r ≡ q ∷ [] → Within d q → gone d s q ≡ true → (reason_lits ws es noted r o).listed ≡ None
  reason_missing r q o e = subst (Misses r o) e (misses r o)

-- Refusal 15, "no reason recorded"
pub reason_none : (ws : List ℕ) (es : List (List ℕ)) (noted : List ℕ) (o : Out) → (reason_lits ws es noted NotPropagated o).listed ≡ None
unfolding reason_lits Rattle.walks.specs.Answers.missing
reason_none ws es noted o = refl
