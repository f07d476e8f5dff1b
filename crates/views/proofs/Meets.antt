-- Step 4 may test a region's two bounds first and search only then: where the vertices that it would name do not meet, the bounds do not.
use Prim.Native.Nat.{ℕ, ◌<◌, ◌≤◌}
use native.Mathlib.Omega.{arith}
use mathlib.Core.Path.{◌≡◌, sym, ◌∙◌, subst}
use mathlib.Core.Bool.{true, false}
use mathlib.Core.List.{List}
use lib.Dec.{ltb}
use lib.ListN.{length}
use borrow.Author.Tests.{lt-ltb}
use Rattle.base.specs.Lists.{Every}
use Rattle.base.proofs.Loop.{pick_yes}
use Rattle.graph.proofs.Walkable.{fine_walkable}
use Rattle.plan.specs.Words.{vertices_of, edges_of}
use Rattle.plan.specs.Proper.{ProperWords}
use Rattle.noting.specs.Words.{state_of}
use Rattle.division.specs.Plan.{Plan}
use Rattle.division.specs.State.{State, decided}
use Rattle.division.specs.Views.{members_of, view_of}
use Rattle.division.specs.Analysis.{View, best}
use Rattle.division.proofs.Phases.{best_has}
use Rattle.division.proofs.Shown.{Shows}
use Rattle.division.proofs.Views.{shows}
use Rattle.division.specs.Agree.{SameView}
use Rattle.views.specs.Words.{decided_region_of, upper_bound_of, lower_bound_of, shown}
use Rattle.views.specs.Compute.{compute_view}
use Rattle.views.specs.Members.{reaches, higher, lesser, extremes}
use Rattle.views.proofs.Viewed.{plan_with, proper_with, viewed_same}
use Rattle.views.proofs.Ties.{extremes_at}

module _ (ws : List ℕ) (ends : List (List ℕ)) (p : ProperWords ws ends) (noted : List ℕ) (len : length noted ≡ 384) (edgeLit : ℕ → ℕ) (domLit : ℕ → ℕ → ℕ) where
  abbrev d : Plan
  d = plan_with ws ends edgeLit domLit

  abbrev s : State
  s = state_of noted

  -- the vertices that `meets` names
  abbrev pub lower_vertex : ℕ → ℕ
  lower_vertex r = best (higher s) r (members_of d (decided d s) r)

  abbrev pub upper_vertex : ℕ → ℕ
  upper_vertex r = best (lesser s) r (members_of d (decided d s) r)

  -- they are found
  pub extremes_are : (r : ℕ) → r < vertices_of ws → extremes ws ends noted r ≡ extremes_at true (lower_vertex r) (upper_vertex r)
  unfolding extremes reaches members_of
  extremes_are r h =
      pick_yes _ _ (pick_yes (ltb r (vertices_of ws)) false (fine_walkable ends noted (edges_of ws) (vertices_of ws) p.fine (omega (arith, p.fine.fits))) ∙ lt-ltb r (vertices_of ws) h)

  abbrev x : View
  x = view_of d s

  module _ (r : ℕ) (h : r < vertices_of ws) (own : x.did r ≡ r) where
    k : Shows d s x
    k = shows d (proper_with ws ends p noted len edgeLit domLit) s

    inside : Every (λ q. (q < vertices_of ws) × (x.did q ≡ r)) (x.members r)
    inside = k.only r h own

    -- a region's bounds are at least as tight as those of any vertex of it
    up_tight : (q : ℕ) → (q < vertices_of ws) × (x.did q ≡ r) → x.up r ≤ s.upper q
    up_tight q z = subst (λ (i : ℕ). x.up i ≤ s.upper q) z.1 (k.up q z.0)

    low_tight : (q : ℕ) → (q < vertices_of ws) × (x.did q ≡ r) → s.lower q ≤ x.low r
    low_tight q z = subst (λ (i : ℕ). s.lower q ≤ x.low i) z.1 (k.low q z.0)

    tight : s.upper (upper_vertex r) < s.lower (lower_vertex r) → x.up r < x.low r
    unfolding view_of
    tight l =
        omega (
          arith,
          up_tight (upper_vertex r) (best_has (λ q. (q < vertices_of ws) × (x.did q ≡ r)) (lesser s) r (x.members r) (h, own) inside),
          low_tight (lower_vertex r) (best_has (λ q. (q < vertices_of ws) × (x.did q ≡ r)) (higher s) r (x.members r) (h, own) inside),
        )

  -- for any words that show the state's view
  pub bounds_first : (w : List ℕ) → SameView d (shown d s w) x → (r : ℕ) → r < vertices_of ws → decided_region_of w r ≡ r →
      s.upper (upper_vertex r) < s.lower (lower_vertex r) → upper_bound_of w r < lower_bound_of w r
  bounds_first w q r h own l = omega (arith, q.up r h, q.low r h, tight r h (sym (q.did r h) ∙ own) l)

  -- and so for those that `compute_view` leaves
  pub computed_bounds_first : (view : List ℕ) → length view ≡ 512 → (r : ℕ) → r < vertices_of ws → decided_region_of (compute_view ws ends noted view).words r ≡ r →
      s.upper (upper_vertex r) < s.lower (lower_vertex r) → upper_bound_of (compute_view ws ends noted view).words r < lower_bound_of (compute_view ws ends noted view).words r
  computed_bounds_first view room = bounds_first (compute_view ws ends noted view).words (viewed_same ws ends p noted len edgeLit domLit view room)
