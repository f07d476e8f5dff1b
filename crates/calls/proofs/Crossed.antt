-- Where 12 was given, a call now answers with a conflict.
use Prim.Native.Nat.{ℕ}
use mathlib.Core.Path.{◌≡◌, refl, sym, ◌∙◌, ap, subst}
use mathlib.Core.Bool.{Bool, true, false, true≢false}
use mathlib.Core.List.{List, []}
use Rattle.division.specs.Plan.{Plan, Proper}
use Rattle.division.specs.Conflicts.{Conflict, conflict_list}
use Rattle.division.specs.Analysis.{conflict}
use Rattle.division.specs.Noting.{note_all}
use Rattle.division.specs.Views.{view_of}
use Rattle.division.specs.Runs.{analysis}
use Rattle.division.specs.Crossed.{Crosses, CrossedPair}
use Rattle.division.proofs.Crossed.{crossed}
use Rattle.calls.specs.Look.{clash, Looked, clashes, looked_by, looked}
use Rattle.calls.specs.Calls.{World, Call, initialize, propagate, undo, ask, conflicting, Outcome, call, run}
use Rattle.calls.specs.Calls.{noting, settled_by, settled, join_by, last_by, finish_by}
use Rattle.calls.specs.Refusals.{Works}
use Rattle.calls.specs.Truths.{Analyzes, of_propagate, of_initialize, of_last}
use Rattle.calls.specs.Crossed.{CrossedAnswer}
use Rattle.calls.proofs.Refusals.{propagate_works, initialize_works, stage_runs, clashed_at, none_left}
use Rattle.calls.proofs.Refusals.{finished, last_pass}
use Rattle.calls.proofs.Stands.{run_consistent}
use Rattle.calls.proofs.Truths.{analyzes_consistent}

-- an analysis that ends in a conflict leaves the conflict's list, whatever the table holds
looked_clashes : (d : Plan) (ls t : List ℕ) (x : Conflict) → (analysis d ls).verdict ≡ conflict x →
    looked d ls t ≡ clashes (analysis d ls) t (conflict_list d (note_all d ls) x)
unfolding looked looked_by
looked_clashes d ls t x e = ap (looked_by d ls t (analysis d ls)) e

unfoldable begins : Call → Bool
begins (initialize room t) = true
begins (propagate room t l pending) = false
begins (undo room l) = false
begins (ask room q) = false

module _ (d : Plan) (w : World) (x : Conflict) where
  -- what an outcome has, its call has
  from_outcome : {c : Call} {ms : List ℕ} {o : Outcome} → call d c w ≡ o → o.answer ≡ conflicting →
      o.world.standing ≡ ms → CrossedPair d ms o.world.last → (begins c ≡ false → o.handed ≡ []) →
      CrossedAnswer d w c ms
  unfolding begins
  from_outcome {ms = ms} q a s p h = record {
    answer = ap (λ (z : Outcome). z.answer) q ∙ a;
    standing = ap (λ (z : Outcome). z.world.standing) q ∙ s;
    pair = subst (λ (z : Outcome). CrossedPair d ms z.world.last) (sym q) p;
    nothing = λ _ _ _ _ e. ap (λ (z : Outcome). z.handed) q ∙ h (ap begins e);
  }

  -- the answer to a call of which an analysis ends in that conflict
  clashing : {c : Call} {ms : List ℕ} → Analyzes d w c ms → Works d w c → (analysis d ms).verdict ≡ conflict x →
      CrossedPair d ms (conflict_list d (note_all d ms) x) → CrossedAnswer d w c ms
  unfolding settled settled_by noting clashes join_by last_by finish_by begins
  clashing {ms = ms} (of_propagate room t l pending f n) k e p =
      let q = ap (λ (z : Looked). settled_by w t l z z.judgement) (looked_clashes d ms t x e) in
      from_outcome (propagate_works d w room t l pending f k ∙ q) refl refl p (λ _. refl)
  clashing {ms = ms} (of_initialize room t a l ls s n) k e p =
      let o = looked_clashes d ms a.table x e in
      let r = stage_runs d w t s in
      let i = clashed_at d w t a l ls r.fine_yet n (ap (λ (z : Looked). z.judgement) o) in
      let q = ap (finished d w t) (r.rest ∙ i ∙ ap (λ (z : Looked). join_by a l z clash) o) in
      from_outcome (initialize_works d w t room k ∙ q) refl refl p (λ z. absurd (true≢false z))
  clashing (of_last room t a s) k e p =
      let r = stage_runs d w t s in
      let q = ap (finished d w t) (r.rest ∙ none_left d w t a) ∙ last_pass d w t a _ r.fine_yet e in
      from_outcome (initialize_works d w t room k ∙ q) refl refl p (λ z. absurd (true≢false z))

-- Document 02, request 2, of any call after any list of calls: where it works and an analysis of it finds crossed
-- bounds, "the answer becomes a conflict listing that pen's lower literal, then its upper literal. The notification
-- then stands."
pub crossed_answer : (d : Plan) → Proper d → (before : List Call) (c : Call) (ms : List ℕ) →
    Analyzes d (run d before) c ms → Works d (run d before) c → Crosses d (note_all d ms) (view_of d (note_all d ms)) →
    CrossedAnswer d (run d before) c ms
crossed_answer d k before c ms a f x =
    let (v, e, p, _) = crossed d k ms (analyzes_consistent d k a (run_consistent d before)) x in
    clashing d (run d before) _ a f e p
