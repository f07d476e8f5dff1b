-- Each query is refused with the first number of its rows that applies, or gives a list, a run or a page where none
-- does.
use Prim.Native.Nat.{ℕ, ◌*◌, ◌<◌}
use native.Mathlib.Omega.{arith}
use mathlib.Core.Path.{◌≡◌, refl, sym, ◌∙◌, ap, subst}
use mathlib.Core.Bool.{Bool, true, false, not, true≢false, false≢true}
use mathlib.Core.List.{List, [], ◌∷◌}
use lib.Dec.{eqb, ltb}
use lib.ListN.{length}
use borrow.Author.Tests.{ltb-true, ltb-false}
use Rattle.base.proofs.Loop.{pick_ind, tested}
use Rattle.division.specs.Plan.{Plan, Proper}
use Rattle.division.specs.State.{State, potential}
use Rattle.division.specs.Reasons.{Reason}
use Rattle.division.specs.Analysis.{Proposal}
use Rattle.division.specs.Noting.{note_all}
use Rattle.division.specs.Runs.{reason_of}
use Rattle.graph.specs.Search.{Graph}
use Rattle.runs.specs.Walk.{best_run}
use Rattle.runs.proofs.Given.{given_best, none_joined}
use Rattle.pages.specs.Lines.{num_regions}
use Rattle.calls.specs.Look.{gone}
use Rattle.calls.specs.Calls.{World, Query, reason_for, last_left, run_between, page}
use Rattle.calls.specs.Calls.{give_reason, give_run, region_figures, give_page, answer_to, Answer, consistent}
use Rattle.calls.specs.Calls.{conflicting, noted, undone, refused, reason, found_run, printed_page}
use Rattle.calls.specs.Refusals.{Known, AppliesTo}
use Rattle.calls.proofs.Known.{known, unknown}
use Rattle.calls.proofs.View.{not_not}
use Rattle.calls.proofs.Page.{lowest_list, regions_counted}

pub not_false : (b : Bool) → not b ≡ true → b ≡ false
not_false true e = absurd (false≢true e)
not_false false e = refl

-- at most one reason is found
pub one_reason : (l : ℕ) (ps : List Proposal) (r : Reason) (rs : List Reason) → reason_of l ps ≡ r ∷ rs → rs ≡ []
unfolding reason_of
one_reason l [] r rs e = absurd (nil_cons e)
  where
    nil_cons : {x : Reason} {k : List Reason} → [] ≡ x ∷ k → ⊥
    nil_cons q = let z : ◌≡◌ {A = ℕ} 0 _ = ap length q in omega arith
one_reason l (p ∷ ps) r rs e = pick_ind (λ (z : List Reason). z ≡ r ∷ rs → rs ≡ []) (eqb l p.lit) (p.why ∷ []) (reason_of l ps) (λ _ q. tails q) (λ _ q. one_reason l ps r rs q) e
  where
    tails : {a b : Reason} {k m : List Reason} → a ∷ k ≡ b ∷ m → m ≡ k
    tails q = cc

-- which answer it is, by a number of its own
unfoldable pub answer_kind : Answer → ℕ
answer_kind consistent = 0
answer_kind conflicting = 1
answer_kind noted = 2
answer_kind undone = 3
answer_kind (refused n) = 4
answer_kind (reason ls) = 5
answer_kind (found_run gs) = 6
answer_kind (printed_page bytes) = 7

abbrev pub is_conflict : Answer → Bool
is_conflict a = eqb (answer_kind a) 1

abbrev pub is_reason : Answer → Bool
is_reason a = eqb (answer_kind a) 5

abbrev pub is_found : Answer → Bool
is_found a = eqb (answer_kind a) 6

-- what is asked for is found in the plan's graph: a run, or the regions of a page
unfoldable pub of_graph : Query → Bool
of_graph (reason_for l) = false
of_graph last_left = false
of_graph (run_between p q) = true
of_graph (page len) = true

-- how a query is judged
pub data Answered (d : Plan) (w : World) (q : Query) (a : Answer) : Type 0 where
  denied : (n : ℕ) → a ≡ refused n → AppliesTo d w q n → ((m : ℕ) → m < n → AppliesTo d w q m → ⊥) → Answered d w q a
  given : (list : List ℕ) → a ≡ reason list → ((n : ℕ) → AppliesTo d w q n → ⊥) → Answered d w q a
  found : (gs : List ℕ) → of_graph q ≡ true → a ≡ found_run gs → ((n : ℕ) → AppliesTo d w q n → ⊥) → Answered d w q a
  printed : (bytes : List ℕ) → of_graph q ≡ true → a ≡ printed_page bytes → ((n : ℕ) → AppliesTo d w q n → ⊥) →
      Answered d w q a

module _ (d : Plan) (w : World) where
  -- 7 comes first
  pub query_late : {q : Query} {n : ℕ} → AppliesTo d w q n → 7 < n
  query_late (AppliesTo.unknown_reason l k) = omega arith
  query_late (AppliesTo.no_reason l e) = omega arith
  query_late (AppliesTo.path_gone l r e g) = omega arith
  query_late (AppliesTo.no_run p q n) = omega arith
  query_late (AppliesTo.unknown_from p q n) = omega arith
  query_late (AppliesTo.unknown_to p q n) = omega arith
  query_late (AppliesTo.page_short len rs l h) = omega arith

  nil_cons : {x : Reason} {k : List Reason} → [] ≡ x ∷ k → ⊥
  nil_cons q = let z : ◌≡◌ {A = ℕ} 0 _ = ap length q in omega arith

  heads : {a b : Reason} {k m : List Reason} → a ∷ k ≡ b ∷ m → a ≡ b
  heads q = cc

  below9 : {l m : ℕ} → m < 9 → AppliesTo d w (reason_for l) m → ⊥
  below9 h (AppliesTo.unknown_reason l x) = omega arith
  below9 h (AppliesTo.no_reason l x) = omega arith
  below9 h (AppliesTo.path_gone l r x y) = omega arith

  below15 : {l m : ℕ} → Known d l → m < 15 → AppliesTo d w (reason_for l) m → ⊥
  below15 k h (AppliesTo.unknown_reason l x) = x k
  below15 k h (AppliesTo.no_reason l x) = omega arith
  below15 k h (AppliesTo.path_gone l r x y) = omega arith

  -- where there is a reason only 16 is left
  only16 : {l m : ℕ} {r : Reason} {rs : List Reason} → Known d l → reason_of l w.reasons ≡ r ∷ rs → AppliesTo d w (reason_for l) m → (m ≡ 16) × (gone d (note_all d w.standing) r ≡ true)
  only16 k q (AppliesTo.unknown_reason l x) = absurd (x k)
  only16 k q (AppliesTo.no_reason l x) = absurd (nil_cons (sym x ∙ q))
  only16 k q (AppliesTo.path_gone l r x y) = (refl, ap (gone d (note_all d w.standing)) (heads (sym q ∙ x)) ∙ y)

  -- of a run only 18
  only18 : {p q m : ℕ} → AppliesTo d w (run_between p q) m → m ≡ 18
  only18 (AppliesTo.no_run p q n) = refl
  only18 (AppliesTo.unknown_from p q n) = refl
  only18 (AppliesTo.unknown_to p q n) = refl

  abbrev e : Graph
  e = potential d (note_all d w.standing)

  module _ (pr : Proper d) (p q : ℕ) where
    -- where there is no run, 18 applies; where there is one, it does not
    run_denied : best_run e d.edges d.vertices p q ≡ [] → AppliesTo d w (run_between p q) 18
    run_denied x = tested (ltb p d.vertices)
        (λ a. tested (ltb q d.vertices)
        (λ b. AppliesTo.no_run p q (none_joined e d.edges d.vertices pr.fine p q x (ltb-true p d.vertices a) (ltb-true q d.vertices b)))
        (λ b. AppliesTo.unknown_to p q (λ h. let z = ltb-false q d.vertices b in omega arith)))
        (λ a. AppliesTo.unknown_from p q (λ h. let z = ltb-false p d.vertices a in omega arith))

    run_applies : {m : ℕ} (gs : List ℕ) (rest : List (List ℕ)) → best_run e d.edges d.vertices p q ≡ gs ∷ rest → AppliesTo d w (run_between p q) m → ⊥
    run_applies gs rest x (AppliesTo.no_run _ _ n) = n gs (given_best e d.edges d.vertices pr.fine p q gs rest x).0.best.run
    run_applies gs rest x (AppliesTo.unknown_from _ _ n) = n (given_best e d.edges d.vertices pr.fine p q gs rest x).0.from
    run_applies gs rest x (AppliesTo.unknown_to _ _ n) = n (given_best e d.edges d.vertices pr.fine p q gs rest x).0.to

    run_judged : (x : List (List ℕ)) → best_run e d.edges d.vertices p q ≡ x → Answered d w (run_between p q) (give_run x)
    unfolding give_run of_graph
    run_judged [] x = denied 18 refl (run_denied x) (λ m h y. let z = only18 y in omega arith)
    run_judged (gs ∷ rest) x = found gs refl refl (λ n y. run_applies gs rest x y)

  -- of a page only 19, where the buffer is too short for the regions that are counted
  module _ (pr : Proper d) (len : ℕ) where
    abbrev s : State
    s = note_all d w.standing

    abbrev size : ℕ
    size = 39 * num_regions (region_figures d s).label d.vertices

    page_denied : len < size → AppliesTo d w (page len) 19
    page_denied h =
        let z = regions_counted d pr s _ (lowest_list d pr s) in
        AppliesTo.page_short len _ (lowest_list d pr s) (subst (λ n. len < 39 * n) z h)

    page_applies : {m : ℕ} → AppliesTo d w (page len) m → (m ≡ 19) × (len < size)
    page_applies (AppliesTo.page_short _ rs l h) =
        (refl, subst (λ n. len < 39 * n) (sym (regions_counted d pr s rs l)) h)

    page_judged : Answered d w (page len) (give_page (region_figures d s) d.vertices len)
    unfolding give_page of_graph
    page_judged =
        pick_ind (Answered d w (page len)) _ _ _
        (λ e. denied 19 refl (page_denied (ltb-true _ _ e)) (λ m h x. let z = (page_applies x).0 in omega arith))
        (λ e. printed _ refl refl (λ n x. omega (arith, ltb-false len size e, (page_applies x).1)))

  -- a run and a page are looked for on a proper plan
  pub answer_judged : (q : Query) → (of_graph q ≡ true → Proper d) → Answered d w q (answer_to d w q)
  unfolding answer_to give_reason of_graph
  answer_judged (reason_for l) pr =
      pick_ind J _ _ _ (λ k. denied 9 refl (AppliesTo.unknown_reason l (unknown d l (not_false _ k))) (λ m h x. below9 h x))
      (λ k. by (known d l (not_not _ k)) (reason_of l w.reasons) refl)
    where
      J : Answer → Type 0
      J = Answered d w (reason_for l)

      by : Known d l → (rs : List Reason) → reason_of l w.reasons ≡ rs → J (give_reason d w rs)
      by k [] q = denied 15 refl (AppliesTo.no_reason l q) (λ m h x. below15 k h x)
      by k (r ∷ rs) q =
          pick_ind J _ _ _ (λ e. denied 16 refl (AppliesTo.path_gone l r (q ∙ ap (λ z. r ∷ z) (one_reason l _ r rs q)) e) (λ m h x. let z = (only16 k q x).0 in omega arith))
          (λ e. given _ refl (λ n x. true≢false (sym (only16 k q x).1 ∙ e)))
  answer_judged last_left pr = given _ refl (λ n x. elim x [ ])
  answer_judged (run_between p q) pr = run_judged (pr refl) p q _ refl
  answer_judged (page len) pr = page_judged (pr refl) len
