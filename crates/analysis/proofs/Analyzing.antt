-- What `analyze` leaves: on a proper plan's words, division's analysis.
use mathlib.Core.Path.{◌≡◌, refl, sym, ap, ◌∙◌}
use mathlib.Core.Bool.{true, false, false≢true}
use mathlib.Core.List.{List}
use Prim.Native.Nat.{ℕ}
use lib.ListN.{length, replicate, length-replicate}
use Rattle.base.specs.Iter.{pick}
use Rattle.base.proofs.Loop.{pick_yes, tested}
use Rattle.graph.specs.Bounds.{walkable}
use Rattle.graph.proofs.Walkable.{walkable_fine}
use Rattle.plan.specs.Words.{vertices_of, edges_of}
use Rattle.views.specs.Compute.{regions_from, compute_view}
use Rattle.plan.specs.Plan.{plan_of}
use Rattle.plan.specs.Proper.{ProperWords}
use Rattle.division.specs.State.{State, crossed_at}
use Rattle.division.specs.Regions.{within, region_label}
use Rattle.division.specs.Views.{weight_of, members_of, cells_of, view_of}
use Rattle.division.specs.Analysis.{analyzed}
use Rattle.noting.specs.Words.{state_of, crossed_in}
use Rattle.noting.proofs.Crossed.{crossed_is}
use Rattle.views.specs.Words.{shown}
use Rattle.views.proofs.Viewed.{viewed, viewed_done}
use Rattle.views.proofs.Meets.{computed_bounds_first}
use Rattle.reasons.specs.Verdicts.{ran_of}
use Rattle.analysis.specs.Placed.{place_of_lit, edge_place_of, dom_place_of, placed}
use Rattle.analysis.specs.First.{analyzed_first}
use Rattle.analysis.specs.Relabel.{relabelled}
use Rattle.analysis.specs.Analyze.{Fit, analyze_by, analyze_words}
use Rattle.analysis.proofs.Meeting.{analyzed_first_lem}
use Rattle.analysis.proofs.Places.{analyzed_placed}

not_walked : (ws : List ℕ) (es : List (List ℕ)) (noted view : List ℕ) → walkable es noted (edges_of ws) (vertices_of ws) ≡ false → (compute_view ws es noted view).done ≡ false
unfolding compute_view regions_from pick
not_walked ws es noted view t = simp t

-- what could be computed can be walked
walked : (ws : List ℕ) (es : List (List ℕ)) (noted view : List ℕ) → (compute_view ws es noted view).done ≡ true → walkable es noted (edges_of ws) (vertices_of ws) ≡ true
walked ws es noted view e = tested (walkable es noted (edges_of ws) (vertices_of ws)) (λ t. t) (λ t. absurd (false≢true (sym (not_walked ws es noted view t) ∙ e)))

pub fit : (ws : List ℕ) (es : List (List ℕ)) (noted view : List ℕ) → (compute_view ws es noted view).done ≡ true → Fit ws es noted
fit ws es noted view e =
    let w = walked ws es noted view e in
    let f = (walkable_fine es noted (edges_of ws) (vertices_of ws) w).0 in
    record { vertices = f.vertices; edges = f.fits; walks = w }

-- regions, weights, bounds and orders do not hang on the literals
view_placed : (ws : List ℕ) (ends : List (List ℕ)) (s : State) → view_of (placed ws ends) s ≡ view_of (plan_of ws ends) s
unfolding view_of region_label within weight_of members_of cells_of
view_placed ws ends s = refl

module _ (ws : List ℕ) (ends : List (List ℕ)) (p : ProperWords ws ends) (noted : List ℕ) (len : length noted ≡ 384) where
  abbrev s : State
  s = state_of noted

  abbrev zeros : List ℕ
  zeros = replicate 512 0

  room : length zeros ≡ 512
  room = length-replicate {0} {A = ℕ} 512 0

  abbrev view : List ℕ
  view = (compute_view ws ends noted zeros).words

  by_places : analyzed_first (placed ws ends) s (shown (placed ws ends) s view) (crossed_at (placed ws ends) s)
      ≡ analyzed (placed ws ends) s (view_of (placed ws ends) s)
  by_places =
      analyzed_first_lem (placed ws ends) s (shown (placed ws ends) s view) (computed_bounds_first ws ends p noted len (edge_place_of ws) (dom_place_of ws) zeros room)
      ∙ (viewed ws ends p noted len (edge_place_of ws) (dom_place_of ws) zeros room).1

  told : crossed_in ws noted ≡ crossed_at (placed ws ends) s
  unfolding crossed_at
  told = crossed_is ws ends noted p.fine.vertices

  -- the words that `analyze` leaves are those of the definition's proposals, each at its literal's place
  pub analyzed_words : (proposals : List ℕ) →
      analyze_words ws ends noted (crossed_in ws noted) proposals
      ≡ ran_of (relabelled (place_of_lit ws) (analyzed (plan_of ws ends) s (view_of (plan_of ws ends) s))) proposals
  unfolding analyze_words analyze_by
  analyzed_words proposals =
      pick_yes _ _ (viewed_done ws ends p noted len (edge_place_of ws) (dom_place_of ws) zeros room)
      ∙ ap (λ v. ran_of (analyzed_first (placed ws ends) s (shown (placed ws ends) s view) v) proposals) told
      ∙ ap (λ o. ran_of o proposals) (by_places ∙ (analyzed_placed ws ends p s (view_of (placed ws ends) s) ∙ ap (λ w. relabelled (place_of_lit ws) (analyzed (plan_of ws ends) s w)) (view_placed ws ends s)))
