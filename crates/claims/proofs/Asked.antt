-- Only a query is answered a list, a run or a page, and only the one that asks for it.
use Prim.Native.Nat.{ℕ, ◌≤◌}
use native.Mathlib.Omega.{arith}
use mathlib.Core.Path.{◌≡◌, refl, sym, subst}
use mathlib.Core.Bool.{Bool}
use mathlib.Core.List.{List, [], ◌∷◌}
use Rattle.base.proofs.Loop.{pick_ind}
use Rattle.division.specs.Plan.{Plan}
use Rattle.division.specs.Reasons.{Reason}
use Rattle.calls.specs.Calls.{World, Query, reason_for, last_left, run_between, page, Call, ask, Answer, Outcome, refuse}
use Rattle.calls.specs.Calls.{settled_by, give_reason, give_run, give_page, answer_to, tell, last_by, finish_by, call}
use Rattle.calls.proofs.Queries.{answer_kind}
use Rattle.calls.proofs.View.{Did, away, added, agreed, clashed, took, asked, began, began_last, began_clash, did}

-- the kind of answer that a query gets where it is not refused
unfoldable pub given_kind : Query → ℕ
given_kind (reason_for l) = 5
given_kind last_left = 5
given_kind (run_between p q) = 6
given_kind (page len) = 7

module _ (d : Plan) (w : World) where
  -- refused, or of this kind
  abbrev OfKind : ℕ → Answer → Type 0
  OfKind n a = 5 ≤ answer_kind a → n ≡ answer_kind a

  reason_kind : (rs : List Reason) → OfKind 5 (give_reason d w rs)
  unfolding give_reason answer_kind
  reason_kind [] h = absurd (omega arith)
  reason_kind (r ∷ rs) h = pick_ind (OfKind 5) _ _ _ (λ _ k. absurd (omega arith)) (λ _ _. refl) h

  run_kind : (gs : List (List ℕ)) → OfKind 6 (give_run gs)
  unfolding give_run answer_kind
  run_kind [] h = absurd (omega arith)
  run_kind (g ∷ gs) h = refl

  asked_kind : (q : Query) → OfKind (given_kind q) (answer_to d w q)
  unfolding given_kind answer_to give_page answer_kind
  asked_kind (reason_for l) h = pick_ind (OfKind 5) _ _ _ (λ _ k. absurd (omega arith)) (λ _. reason_kind _) h
  asked_kind last_left h = refl
  asked_kind (run_between p q) h = run_kind _ h
  asked_kind (page len) h = pick_ind (OfKind 7) _ _ _ (λ _ k. absurd (omega arith)) (λ _ _. refl) h

  pub record Asks (c : Call) (a : Answer) : Type 0 where
    pub room : Bool
    pub query : Query
    pub is : c ≡ ask room query
    pub kind : given_kind query ≡ answer_kind a
    pub answer : answer_to d w query ≡ a

  did_asked : {c : Call} {o : Outcome} → Did d w c o → 5 ≤ answer_kind o.answer → Asks c o.answer
  unfolding answer_kind refuse settled_by tell last_by finish_by
  did_asked (away c n) h = absurd (omega arith)
  did_asked (added room t l pending p f kn) h = absurd (omega arith)
  did_asked (agreed room t l pending p o y f q bt kn) h = absurd (omega arith)
  did_asked (clashed room t l pending p o y f q bt kn) h = absurd (omega arith)
  did_asked (took room l y ys f) h = absurd (omega arith)
  did_asked (asked room q) h = record { room = room; query = q; is = refl; kind = asked_kind q h; answer = refl }
  did_asked (began room t a s j v bt) h = absurd (omega arith)
  did_asked (began_last room t a s j c v bt) h = absurd (omega arith)
  did_asked (began_clash room t a s j bt) h = absurd (omega arith)

  pub call_asked : (c : Call) (a : Answer) → (call d c w).answer ≡ a → 5 ≤ answer_kind a → Asks c a
  call_asked c a e h =
      subst (Asks c) e (did_asked (did d w c) (subst (λ (x : Answer). 5 ≤ answer_kind x) (sym e) h))
