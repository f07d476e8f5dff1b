-- What a call recorded: a run of notifications and analyses, with a record of each literal that it handed on.
use Prim.Native.Nat.{ℕ}
use mathlib.Core.Path.{◌≡◌, refl, sym, ◌∙◌, ap, subst}
use mathlib.Core.Logic.{◌⊎◌, ⊎_elim}
use mathlib.Core.Bool.{Bool, true, false, false≢true}
use mathlib.Core.List.Memᴰ
use mathlib.Core.List.{List, [], ◌∷◌, ◌++◌, map, append_assoc}
use Rattle.base.specs.Lists.{Every}
use Rattle.base.proofs.Loop.{pick_ind}
use Rattle.sat.specs.Literal.{Holds}
use Rattle.division.specs.Plan.{Plain, Plan, Proper}
use Rattle.division.specs.Division.{Valid}
use Rattle.division.specs.Reasons.{Reason}
use Rattle.division.specs.Analysis.{Proposal}
use Rattle.division.specs.Noting.{In, Consistent}
use Rattle.division.specs.Runs.{analysis, Justifies, reason_of, Run, start, note, look}
use Rattle.division.proofs.Whole.{conflicts, run_fetched, reason_there, reason_newer}
use Rattle.calls.specs.Look.{fine, clash, Looked, looked}
use Rattle.calls.specs.Calls.{World, Call, Answer, conflicting, Outcome, refuse, noting, adding, settled_by}
use Rattle.calls.specs.Calls.{Query, reason_for, last_left, run_between, page, give_run, give_page, answer_to, tell}
use Rattle.calls.specs.Calls.{Going, join_by, last_by, finish_by, entry, call}
use Rattle.calls.proofs.Queries.{answer_kind, is_conflict, of_graph, answer_judged}
use Rattle.calls.proofs.Queries.{Answered, denied, given, found, printed}
use Rattle.calls.proofs.View.{Saw, saw, Steps, over, more, ends, halts, Did, away, added, agreed, clashed, took, asked, began, began_last, began_clash, did}
use Rattle.calls.proofs.Looks.{halted, saw_handed, saw_records, saw_clash, clash_not_fine}
use Rattle.calls.proofs.Stands.{add_consistent, fine_on, clash_on, not_halted, steps_consistent, call_consistent}

abbrev lits : List Proposal → List ℕ
lits ps = map (λ p. p.lit) ps

in_left : (l : ℕ) (ps qs : List Proposal) → In (lits ps) l → In (lits (ps ++ qs)) l
in_left l [] qs m = absurd (Memᴰ.not-nil m)
in_left l (p ∷ ps) qs m = ⊎_elim (λ e. Memᴰ.head e) (λ n. Memᴰ.tail (in_left l ps qs n)) (Memᴰ.cases_cons m)

in_right : (l : ℕ) (ps qs : List Proposal) → In (lits qs) l → In (lits (ps ++ qs)) l
in_right l [] qs m = m
in_right l (p ∷ ps) qs m = Memᴰ.tail (in_right l ps qs m)

-- from world w to world v
pub record Recent (d : Plan) (w v : World) (handed : List ℕ) : Type 0 where
  pub recent : List Proposal
  pub run : Run d v.standing recent
  pub all : v.reasons ≡ recent ++ w.reasons
  pub each : (l : ℕ) → In handed l → In (lits recent) l

-- an analyzed notification more
joined : (d : Plan) (w v : World) (h t : List ℕ) (l : ℕ) (o : Looked) → o ≡ looked d (l ∷ v.standing) t → halted o.judgement ≡ false → Recent d w v h → Recent d w (noting v l o) (h ++ o.handed)
unfolding noting
joined d w v h t l o e g r =
    let q : o.records ≡ (analysis d (l ∷ v.standing)).props = subst (λ (z : Looked). halted z.judgement ≡ false → z.records ≡ (analysis d (l ∷ v.standing)).props) (sym e) (saw_records d (l ∷ v.standing) t (saw d (l ∷ v.standing) t)) g in
    record {
      recent = (analysis d (l ∷ v.standing)).props ++ r.recent;
      run = look (note l r.run);
      all = ap (λ (z : List Proposal). z ++ v.reasons) q ∙ ap (λ (z : List Proposal). (analysis d (l ∷ v.standing)).props ++ z) r.all ∙ sym (append_assoc (analysis d (l ∷ v.standing)).props r.recent w.reasons);
      each = λ x m. ⊎_elim (λ n. in_right x (analysis d (l ∷ v.standing)).props r.recent (r.each x n))
          (λ n. in_left x (analysis d (l ∷ v.standing)).props r.recent (subst (λ (z : List Proposal). In (lits z) x) q (given x n)))
          (Memᴰ.append_cases h m);
    }
  where
    given : (x : ℕ) → In o.handed x → In (lits o.records) x
    given x = subst (λ (z : Looked). In z.handed x → In (lits z.records) x) (sym e) (saw_handed d (l ∷ v.standing) t x (saw d (l ∷ v.standing) t))

steps_recent : (d : Plan) (w : World) {a b : Going} {ls : List ℕ} → Steps d a ls b → halted b.judgement ≡ false → Recent d w a.world a.handed → Recent d w b.world b.handed
unfolding join_by
steps_recent d w (over e) h r = r
steps_recent d w {a} (more {l = l} o e f q s) h r = steps_recent d w s h (joined d w a.world a.handed a.table l o e (fine_on q) r)
steps_recent d w {a} (ends {l = l} o e f q) h r = joined d w a.world a.handed a.table l o e (clash_on q) r
steps_recent d w (halts n e) h r = absurd (not_halted e h)

nothing_yet : (d : Plan) (w : World) → Recent d w w []
nothing_yet d w = record { recent = []; run = start _; all = refl; each = λ l m. absurd (Memᴰ.not-nil m) }

-- the last pass
again : (d : Plan) (w v : World) (h ls : List ℕ) (f : Bool) → Recent d w v h →
    Recent d w (record { standing = v.standing; reasons = (analysis d v.standing).props ++ v.reasons; last = ls; done = f }) h
again d w v h ls f r = record {
  recent = (analysis d v.standing).props ++ r.recent;
  run = look r.run;
  all = ap (λ (z : List Proposal). (analysis d v.standing).props ++ z) r.all ∙ sym (append_assoc (analysis d v.standing).props r.recent w.reasons);
  each = λ x m. in_right x (analysis d v.standing).props r.recent (r.each x m);
}

pub did_recent : (d : Plan) (w : World) {c : Call} {o : Outcome} → Did d w c o → Recent d w o.world o.handed
unfolding refuse adding settled_by tell last_by finish_by entry
did_recent d w (away c n) = nothing_yet d w
did_recent d w (added room t l p e f kn) = record { recent = []; run = start _; all = refl; each = λ x m. absurd (Memᴰ.not-nil m) }
did_recent d w (agreed room t l p pf o e f q bt kn) = joined d w w [] t l o e (fine_on q) (nothing_yet d w)
did_recent d w (clashed room t l p pf o e f q bt kn) = joined d w w [] t l o e (clash_on q) (nothing_yet d w)
did_recent d w (took room l x xs e) = record { recent = []; run = start _; all = refl; each = λ x m. absurd (Memᴰ.not-nil m) }
did_recent d w (asked room q) = nothing_yet d w
did_recent d w (began room t a s j v bt) = again d w a.world a.handed _ _ (steps_recent d w s (fine_on j) (nothing_yet d w))
did_recent d w (began_last room t a s j c v bt) = again d w a.world a.handed _ _ (steps_recent d w s (fine_on j) (nothing_yet d w))
did_recent d w (began_clash room t a s j bt) = steps_recent d w s (clash_on j) (nothing_yet d w)

-- the reason of a literal that was handed on justifies it
pub handed_justified : (d : Plan) (k : Proper d) (w : World) (c : Call) → Consistent w.standing → (l : ℕ) → In (call d c w).handed l →
    (r : Reason) × (reason_of l (call d c w).world.reasons ≡ r ∷ []) × Justifies d (call d c w).world.standing l r
handed_justified d k w c g l m =
    let x = did_recent d w (did d w c) in
    let (r, e) = reason_there l x.recent (x.each l m) in
    (r, ap (reason_of l) x.all ∙ reason_newer l r x.recent w.reasons e, run_fetched d k x.run (call_consistent d w c g) l r e)

steps_clash : (d : Plan) (k : Proper d) (pl : Plain d) {a b : Going} {ls : List ℕ} → Steps d a ls b → a.judgement ≡ fine → b.judgement ≡ clash → Consistent a.world.standing →
    (σ : ℕ → Bool) → Valid d σ → Every (Holds σ) b.world.last → ⊥
unfolding join_by noting
steps_clash d k pl (over e) i j c σ y x = absurd (clash_not_fine (sym j ∙ i))
steps_clash d k pl {a} (more {l = l} o e f q s) i j c σ y x = steps_clash d k pl s refl j (add_consistent a.world l f c) σ y x
steps_clash d k pl {a} (ends {l = l} o e f q) i j c σ y x =
    saw_clash d (l ∷ a.world.standing) a.table k pl (add_consistent a.world l f c) (subst (Saw d (l ∷ a.world.standing) a.table) (sym e) (saw d _ _)) q σ y x
steps_clash d k pl (halts n e) i j c σ y x = absurd (not_halted e (clash_on j))

-- no query is answered a conflict
run_quiet : (x : List (List ℕ)) → is_conflict (give_run x) ≡ false
unfolding give_run answer_kind
run_quiet [] = refl
run_quiet (gs ∷ rest) = refl

quiet_answered : {d : Plan} {w : World} {q : Query} {a : Answer} → Answered d w q a → is_conflict a ≡ false
unfolding answer_kind
quiet_answered (denied n e x f) = ap is_conflict e
quiet_answered (given list e f) = ap is_conflict e
quiet_answered (found gs r e f) = ap is_conflict e
quiet_answered (printed bytes r e f) = ap is_conflict e

pub answer_quiet : (d : Plan) (w : World) (q : Query) → is_conflict (answer_to d w q) ≡ false
unfolding answer_to give_page of_graph answer_kind
answer_quiet d w (reason_for l) = quiet_answered (answer_judged d w (reason_for l) (λ e. absurd (false≢true e)))
answer_quiet d w last_left = quiet_answered (answer_judged d w last_left (λ e. absurd (false≢true e)))
answer_quiet d w (run_between p q) = run_quiet _
answer_quiet d w (page len) = pick_ind (λ (a : Answer). is_conflict a ≡ false) _ _ _ (λ _. refl) (λ _. refl)

-- the list that a conflict leaves
did_conflict : (d : Plan) (k : Proper d) (pl : Plain d) (w : World) → Consistent w.standing → {c : Call} {o : Outcome} → Did d w c o → is_conflict o.answer ≡ true →
    (σ : ℕ → Bool) → Valid d σ → Every (Holds σ) o.world.last → ⊥
unfolding answer_kind refuse settled_by noting tell last_by finish_by entry
did_conflict d k pl w g (away c n) h σ y x = false≢true h
did_conflict d k pl w g (added room t l p e f kn) h σ y x = false≢true h
did_conflict d k pl w g (agreed room t l p pf o e f q bt kn) h σ y x = false≢true h
did_conflict d k pl w g (clashed room t l p pf o e f q bt kn) h σ y x =
    saw_clash d (l ∷ w.standing) t k pl (add_consistent w l f g) (subst (Saw d (l ∷ w.standing) t) (sym e) (saw d _ _)) q σ y x
did_conflict d k pl w g (took room l z zs e) h σ y x = false≢true h
did_conflict d k pl w g (asked room q) h σ y x = false≢true (sym (answer_quiet d w q) ∙ h)
did_conflict d k pl w g (began room t a s j v bt) h σ y x = false≢true h
did_conflict d k pl w g (began_last room t a s j c v bt) h σ y x = (conflicts d k a.world.standing (steps_consistent d s (fine_on j) g) c v).sound σ y x
did_conflict d k pl w g (began_clash room t a s j bt) h σ y x = steps_clash d k pl s refl j g σ y x

-- no valid division agrees with the list that a conflict leaves
pub conflict_refuted : (d : Plan) (k : Proper d) (pl : Plain d) (w : World) (c : Call) → Consistent w.standing → (call d c w).answer ≡ conflicting →
    (σ : ℕ → Bool) → Valid d σ → Every (Holds σ) (call d c w).world.last → ⊥
unfolding answer_kind
conflict_refuted d k pl w c g e = did_conflict d k pl w g (did d w c) (ap is_conflict e)
