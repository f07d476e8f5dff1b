-- A conflict's list stands whole from place 0 of the buffer on.
use mathlib.Core.Path.{◌≡◌, refl, sym, ap, ◌∙◌, subst}
use mathlib.Core.Bool.{false, not}
use mathlib.Core.List.{List, []}
use Prim.Native.Nat.{ℕ, ◌+◌, ◌*◌, ◌<◌, ◌≤◌}
use native.Mathlib.Omega.{arith}
use native.Mathlib.Nat.{zero-add}
use lib.Dec.{ltb}
use lib.ListN.{length, get_or, take, replicate, length-replicate}
use lib.Seq.{sets, sets-eq, take-append_seam}
use borrow.Author.Tests.{ltb-false}
use Rattle.base.specs.Lists.{tab}
use Rattle.base.proofs.Loop.{pick_yes, pick_no, tested}
use Rattle.division.specs.Plan.{Plan}
use Rattle.division.specs.State.{State}
use Rattle.division.specs.Conflicts.{greedy, Conflict, disconnected_inside, crossing, over, under, crowded, apart, conflict_list}
use Rattle.division.specs.Analysis.{Out, conflict}
use Rattle.division.specs.Noting.{note_all}
use Rattle.division.specs.Runs.{analysis}
use Rattle.division.specs.Views.{view_of}
use Rattle.division.proofs.Alike.{within_same, conflict_same}
use Rattle.division.specs.Proposed.{IsConflict, is_crowded, Right, right_conflict}
use Rattle.division.proofs.Whole.{conflicts}
use Rattle.calls.specs.Look.{unjoined}
use Rattle.calls.proofs.Fetchable.{good}
use Rattle.plan.specs.Words.{vertices_of, edges_of, edge_lit_of, dom_lit_of}
use Rattle.plan.specs.Plan.{plan_of}
use Rattle.noting.specs.Words.{state_of}
use Rattle.views.specs.Compute.{compute_view}
use Rattle.views.specs.Cells.{Chosen, separate_ranges}
use Rattle.views.proofs.Viewed.{viewed_done, viewed_same}
use Rattle.views.proofs.Separated.{separated}
use Rattle.reasons.specs.Verdicts.{verdict_of}
use Rattle.std.specs.Prelude.{Some}
use Rattle.walks.specs.Written.{out_of}
use Rattle.walks.specs.Answers.{answer_of, given}
use Rattle.lists.specs.Conflicts as lists
use Rattle.lists.specs.Conflicts.{num_chosen, path_gone}
use Rattle.lists.proofs.Fits.{given_fits}
use Rattle.lists.proofs.Conflicts.{conflict_listed, conflict_coded, conflict_there}
use Rattle.judge.specs.Judge.{listing, listed, of_list, judge_chosen, judge_conflict, ranges_of, crowded_by, judge_crowded, judge_found}
use Rattle.judge.specs.declared.Judgement.TheVariants.{Clash}
use Rattle.judge.proofs.Agrees.{Agrees, proper, analysis_is}
use Rattle.judge.proofs.Ranges.{ranges_are}

-- where there is room, a list stands whole from place 0 on, and the answer is its length
pub given_whole : (m l : List ℕ) → length m ≤ length l → given m (out_of l 0) ≡ answer_of (Some (length m)) (sets l 0 m)
given_whole m l h = given_fits m l 0 (omega arith) ∙ ap (λ (n : ℕ). answer_of (Some n) (sets l 0 m)) (zero-add (length m))

pub list_taken : (m l : List ℕ) → length m ≤ length l → take (length m) (sets l 0 m) ≡ m
list_taken m l h = ap (take (length m)) (sets-eq m l 0 (omega arith)) ∙ take-append_seam m _

module _ (ws : List ℕ) (ends : List (List ℕ)) (noted ls : List ℕ) (k : Agrees ws ends noted ls) where
  abbrev d : Plan
  d = plan_of ws ends

  abbrev s : State
  s = state_of noted

  abbrev u : State
  u = note_all d ls

  is_conflict : (c : Conflict) → (analysis d ls).verdict ≡ conflict c → IsConflict d u c
  is_conflict c e = go (subst (Right d u) e (good d (proper ws ends noted ls k) ls k.consistent).right)
    where
      go : Right d u (conflict c) → IsConflict d u c
      go (right_conflict c f) = f

  -- paths are there in the noted state as in that of the standing literals
  unjoined_same : (a b : ℕ) → unjoined d s a b ≡ unjoined d u a b
  unfolding unjoined
  unjoined_same a b = ap not (within_same d (proper ws ends noted ls k) s u k.state false a b)

  path_same : (c : Conflict) → path_gone d s c ≡ path_gone d u c
  unfolding path_gone
  path_same (disconnected_inside g) = unjoined_same _ _
  path_same (crossing v) = refl
  path_same (over v) = refl
  path_same (under v) = refl
  path_same (crowded r ps) = refl
  path_same (apart a b) = unjoined_same a b

  -- ---- the vertices of separate ranges, found again
  abbrev view : List ℕ
  view = (compute_view ws ends noted (replicate 512 0)).words

  abbrev found : ℕ → Chosen
  found r = separate_ranges ws noted view r (replicate 64 0)

  few : (n : ℕ) → n ≤ 64 → num_chosen n ≡ n
  unfolding num_chosen
  few n h = tested (ltb n 64) (λ e. pick_yes n 64 e) (λ e. let z = ltb-false n 64 e in pick_no n 64 e ∙ omega arith)

  crowded_within : (r : ℕ) (ps : List ℕ) → IsConflict d u (crowded r ps) → r < vertices_of ws
  crowded_within r ps (is_crowded _ _ h n m a l) = h

  found_ranges : (r : ℕ) (ps : List ℕ) → (analysis d ls).verdict ≡ conflict (crowded r ps) → ranges_of ws ends noted (found r) ≡ ps
  unfolding ranges_of lists.chosen_of
  found_ranges r ps e =
      let p = k.held.proper in
      let c = separated ws ends p.fine.vertices noted view (replicate 64 0) (length-replicate {0} {A = ℕ} 64 0) r (edge_lit_of ws) (dom_lit_of ws) in
      let h = crowded_within r ps (is_conflict (crowded r ps) e) in
      ap (tab (λ i. get_or (found r).list i 0)) (few (found r).count c.few)
      ∙ c.taken
      ∙ ap (greedy s 0) ((viewed_same ws ends p noted k.len (edge_lit_of ws) (dom_lit_of ws) (replicate 512 0) (length-replicate {0} {A = ℕ} 512 0)).cells r h)
      ∙ sym (ranges_are d s (view_of d s) r ps (ap (λ (o : Out). o.verdict) (analysis_is ws ends noted ls k) ∙ e))

  module _ (l : List ℕ) (long : edges_of ws + 2 * vertices_of ws + 4 ≤ length l) (c : Conflict) (e : (analysis d ls).verdict ≡ conflict c) where
    abbrev leaves : List ℕ
    leaves = conflict_list d u c

    pub conflict_short : length leaves ≤ length l
    conflict_short = let f = (conflicts d (proper ws ends noted ls k) ls k.consistent c e).fits in omega arith

    chosen_found : (ps : List ℕ) → lists.Chosen c ps → judge_chosen ws ends noted (verdict_of (conflict c)) ps l ≡ listing (Clash (length leaves)) (sets l 0 leaves)
    unfolding judge_chosen of_list listed
    chosen_found ps h =
        let f = is_conflict c e in
        let (w, g) = conflict_there d u (proper ws ends noted ls k) c f in
        ap of_list
        (conflict_listed ws ends noted k.held (verdict_of (conflict c)) ps c (out_of l 0) (conflict_coded c ps h) w (path_same c ∙ g)
        ∙ ap (λ (m : List ℕ). given m (out_of l 0)) (conflict_same d (proper ws ends noted ls k) s u k.state c f)
        ∙ given_whole leaves l conflict_short)

  -- a conflict of the analysis is judged to be one, and its list stands in the buffer
  pub conflict_found : (t words l : List ℕ) → edges_of ws + 2 * vertices_of ws + 4 ≤ length l → (c : Conflict) → (analysis d ls).verdict ≡ conflict c →
      judge_found ws ends noted t (verdict_of (conflict c)) words l ≡ listing (Clash (length (conflict_list d u c))) (sets l 0 (conflict_list d u c))
  unfolding judge_found verdict_of judge_conflict judge_crowded crowded_by
  conflict_found t words l long (disconnected_inside g) e = chosen_found l long (disconnected_inside g) e [] tt
  conflict_found t words l long (crossing v) e = chosen_found l long (crossing v) e [] tt
  conflict_found t words l long (over v) e = chosen_found l long (over v) e [] tt
  conflict_found t words l long (under v) e = chosen_found l long (under v) e [] tt
  conflict_found t words l long (crowded r ps) e =
      pick_yes _ _ (viewed_done ws ends k.held.proper noted k.len (edge_lit_of ws) (dom_lit_of ws) (replicate 512 0) (length-replicate {0} {A = ℕ} 512 0))
      ∙ chosen_found l long (crowded r ps) e (ranges_of ws ends noted (found r)) (found_ranges r ps e)
  conflict_found t words l long (apart a b) e = chosen_found l long (apart a b) e [] tt
