-- A call that answers a run asked for it, and the run is the best one.
use Prim.Native.Nat.{ℕ, ◌<◌}
use native.Mathlib.Omega.{arith}
use mathlib.Core.Path.{◌≡◌, refl, ap, subst}
use mathlib.Core.Bool.{false≢true}
use mathlib.Core.List.{List, [], ◌∷◌}
use Rattle.graph.specs.Search.{Graph}
use Rattle.division.specs.Plan.{Plan, Proper}
use Rattle.division.specs.State.{potential}
use Rattle.division.specs.Noting.{note_all, In}
use Rattle.runs.specs.Walk.{best_run}
use Rattle.runs.proofs.Given.{IsBest, given_best, run_edges}
use Rattle.calls.specs.Calls.{World, Query, reason_for, last_left, run_between, page, Call, found_run, give_run, answer_to}
use Rattle.calls.specs.Calls.{call}
use Rattle.calls.proofs.Queries.{answer_kind, is_found}
use Rattle.calls.proofs.Rising.{every_in}
use Rattle.claims.proofs.Asked.{given_kind, call_asked}

same_run : {g h : List ℕ} → found_run g ≡ found_run h → g ≡ h
same_run q = cc

module _ (d : Plan) (pr : Proper d) (w : World) where
  abbrev e : Graph
  e = potential d (note_all d w.standing)

  record FoundRun (gs : List ℕ) : Type 0 where
    p : ℕ
    q : ℕ
    best : IsBest (potential d (note_all d w.standing)) d.edges d.vertices pr.fine p q gs

  asked_found : (q : Query) (gs : List ℕ) → given_kind q ≡ 6 → answer_to d w q ≡ found_run gs → FoundRun gs
  unfolding given_kind answer_to give_run answer_kind
  asked_found (reason_for l) gs k x = absurd (omega arith)
  asked_found last_left gs k x = absurd (omega arith)
  asked_found (run_between p q) gs k x = by (best_run e d.edges d.vertices p q) refl x
    where
      by : (y : List (List ℕ)) → best_run e d.edges d.vertices p q ≡ y → give_run y ≡ found_run gs → FoundRun gs
      by [] y z = absurd (false≢true (ap is_found z))
      by (hs ∷ rest) y z =
          let i = (given_best e d.edges d.vertices pr.fine p q hs rest y).0 in
          record {
            p = p;
            q = q;
            best = subst (IsBest e d.edges d.vertices pr.fine p q) (same_run z) i;
          }
  asked_found (page len) gs k x = absurd (omega arith)

  -- each of its edges is the plan's
  pub found_edges : (c : Call) (gs : List ℕ) → (call d c w).answer ≡ found_run gs → (g : ℕ) → In gs g → g < d.edges
  unfolding answer_kind
  found_edges c gs x g i =
      let a = call_asked d w c (found_run gs) x (omega arith) in
      let f = asked_found a.query gs a.kind a.answer in
      every_in (λ h. h < d.edges) g gs (run_edges gs f.best.best.run) i
