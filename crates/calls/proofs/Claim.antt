-- Condition 3 holds of every proper plan.
use Prim.Native.Nat.{ℕ, ◌+◌, ◌-◌, ◌*◌, ◌/◌, ◌%◌}
use native.Mathlib.Omega.{arith}
use mathlib.Core.Path.{◌≡◌, refl, sym, ◌∙◌, ap, subst}
use mathlib.Core.Logic.{⊎_elim, ◌↔◌}
use mathlib.Core.Bool.{Bool, true, false, not, ◌||◌, true≢false, false≢true}
use mathlib.Core.List.Memᴰ
use mathlib.Core.List.{List, [], ◌∷◌, ◌++◌}
use lib.Dec.{eqb}
use borrow.Author.Tests.{eqb-true, eq-eqb, ne_eqb}
use Rattle.base.specs.Lists.{Every}
use Rattle.base.proofs.Loop.{eq_or_not, pick_yes, pick_no, pick_ind}
use Rattle.base.proofs.Tests.{or_cases}
use Rattle.sat.specs.Literal.{negate, value, Holds}
use Rattle.division.specs.Plan.{Plain, Plan, Proper}
use Rattle.division.specs.Division.{Valid, Describes}
use Rattle.division.specs.Reasons.{Reason}
use Rattle.division.specs.Noting.{In, Consistent, note_all}
use Rattle.division.specs.Runs.{fetched, reason_of}
use Rattle.division.specs.Proposed.{Full}
use Rattle.division.proofs.Whole.{exactly, nothing_left}
use Rattle.calls.specs.Table.{has, knows}
use Rattle.calls.specs.Look.{Looked, gone}
use Rattle.calls.specs.Calls.{World, built, Query, reason_for, last_left, Call, propagate, ask, Answer, consistent, conflicting, refused, reason, accepted, Outcome, refuse, noting, settled_by, give_reason, answer_to, tell, on_ask, call, after, run, answer_list}
use Rattle.calls.specs.Claim.{counted, Covers, AllQuiet, answered, Condition3}
use Rattle.calls.proofs.View.{Saw, saw, Did, away, added, agreed, clashed, did}
use Rattle.calls.proofs.Looks.{clash_not_fine, saw_fine_lem, looked_fine}
use Rattle.calls.proofs.Stands.{add_consistent, stands_from_calls, run_consistent, all_quiet_same}
use Rattle.calls.proofs.Queries.{answer_kind, is_conflict, one_reason}
use Rattle.calls.proofs.Recent.{handed_justified, conflict_refuted}

pub has_in : (ls : List ℕ) (l : ℕ) → has ls l ≡ true → In ls l
unfolding has
has_in [] l e = absurd (false≢true e)
has_in (x ∷ xs) l e = ⊎_elim (λ q. Memᴰ.head (sym (eqb-true x l q))) (λ q. Memᴰ.tail (has_in xs l q)) (or_cases (eqb x l) _ e)

pub in_has : (ls : List ℕ) (l : ℕ) → In ls l → has ls l ≡ true
unfolding has
in_has [] l m = absurd (Memᴰ.not-nil m)
in_has (x ∷ xs) l m = ⊎_elim (λ (q : l ≡ x). left_true _ _ (eq-eqb x l (sym q))) (λ n. right_true (eqb x l) _ (in_has xs l n)) (Memᴰ.cases_cons m)
  where
    left_true : (a b : Bool) → a ≡ true → (a || b) ≡ true
    left_true true b e = refl
    left_true false b e = absurd (false≢true e)

    right_true : (a b : Bool) → b ≡ true → (a || b) ≡ true
    right_true true b e = refl
    right_true false b e = e

-- the truth values that the standing literals give
told : List ℕ → ℕ → Bool
told ls v = has ls (v * 2)

not_true : (b : Bool) → (b ≡ true → ⊥) → not b ≡ true
not_true true f = absurd (f refl)
not_true false f = refl

told_even : (ls : List ℕ) (l : ℕ) → l % 2 ≡ 0 → In ls l → Holds (told ls) l
unfolding told value
told_even ls l h m =
    let e : l ≡ l / 2 * 2 = omega arith in
    pick_yes _ _ (eq-eqb _ _ h) ∙ subst (λ z. has ls z ≡ true) e (in_has ls l m)

told_odd : (ls : List ℕ) → Consistent ls → (l : ℕ) → (l % 2 ≡ 0 → ⊥) → In ls l → Holds (told ls) l
unfolding told value negate
told_odd ls c l h m =
    let e : l / 2 * 2 ≡ l - 1 = omega arith in
    let n : negate l ≡ l - 1 = pick_no (l + 1) (l - 1) (ne_eqb _ _ h) in
    pick_no _ _ (ne_eqb _ _ h) ∙ not_true _ (λ q. c l m (subst (In ls) (e ∙ sym n) (has_in ls (l / 2 * 2) q)))

told_holds : (ls : List ℕ) → Consistent ls → (l : ℕ) → In ls l → Holds (told ls) l
told_holds ls c l m = ⊎_elim (λ h. told_even ls l h m) (λ h. told_odd ls c l h m) (eq_or_not (l % 2) 0)

full : (d : Plan) (ls : List ℕ) → Covers d ls → (σ : ℕ → Bool) → ((l : ℕ) → In ls l → Holds σ l) → Full d (In ls) σ
full d ls v σ h = record { edge = v.edge; domain = v.domain; holds = h }

-- where every variable has a literal, any truth values in which the literals hold will do
pub describes_any : (d : Plan) (k : Proper d) (pl : Plain d) (ls : List ℕ) → Consistent ls → Covers d ls → Describes d ls → (σ : ℕ → Bool) → ((l : ℕ) → In ls l → Holds σ l) → Valid d σ
describes_any d k pl ls c v s σ h = (exactly d k ls c pl σ (full d ls v σ h)).0 ((exactly d k ls c pl s.σ (full d ls v s.σ s.holds)).1 s.valid)

did_exact : (d : Plan) (k : Proper d) (pl : Plain d) (w : World) → Consistent w.standing → {room : Bool} {t : List ℕ} {l : ℕ} {o : Outcome} → Did d w (propagate room t l false) o →
    accepted o.answer ≡ true → Covers d o.world.standing → (o.answer ≡ consistent) ↔ Describes d o.world.standing
unfolding refuse accepted settled_by noting answer_kind
did_exact d k pl w g (away c n) a v = absurd (false≢true a)
did_exact d k pl w g (added room t l p e f kn) a v = absurd (false≢true e)
did_exact d k pl w g (agreed room t l p pf o e f q bt kn) a v =
    let c = add_consistent w l f g in
    let u : Saw d (l ∷ w.standing) t o = subst (Saw d (l ∷ w.standing) t) (sym e) (saw d _ _) in
    let h = told_holds (l ∷ w.standing) c in
    (λ _. record { σ = told (l ∷ w.standing); holds = h; valid = (exactly d k (l ∷ w.standing) c pl (told (l ∷ w.standing)) (full d _ v _ h)).0 (saw_fine_lem d _ t u q) }, λ _. refl)
did_exact d k pl w g (clashed room t l p pf o e f q bt kn) a v =
    let c = add_consistent w l f g in (
      λ z. absurd (true≢false (ap is_conflict z)),
      λ s. let x = full d _ v s.σ s.holds in
          absurd (clash_not_fine (sym q ∙ ap (λ (z : Looked). z.judgement) e ∙ looked_fine d (l ∷ w.standing) t ((exactly d k _ c pl s.σ x).1 s.valid) (nothing_left d k _ c s.σ x))),
    )

refused_no_list : {n : ℕ} {list : List ℕ} → refused n ≡ reason list → ⊥
unfolding accepted
refused_no_list e = false≢true (ap accepted e)

-- a query that gives a list is lent enough
ask_given : (d : Plan) (w : World) (room : Bool) (q : Query) (list : List ℕ) → (call d (ask room q) w).answer ≡ reason list → answer_to d w q ≡ reason list
unfolding call on_ask tell
ask_given d w room q list e = pick_ind (λ (a : Answer). a ≡ reason list → answer_to d w q ≡ reason list) (not room) (refused 7) (answer_to d w q) (λ _ z. absurd (refused_no_list z)) (λ _ z. z) e

-- a fetch of a literal gives the list of the newest reason that is recorded for it, whose paths are there
pub fetch_open : (d : Plan) (w : World) (room : Bool) (l : ℕ) (list : List ℕ) → (call d (ask room (reason_for l)) w).answer ≡ reason list →
    (r : Reason) × (reason_of l w.reasons ≡ r ∷ []) × (gone d (note_all d w.standing) r ≡ false) × (fetched d w.standing r ≡ list)
unfolding answer_to give_reason answer_list
fetch_open d w room l list e =
    pick_ind (λ (a : Answer). a ≡ reason list → Open) (not (knows d l)) _ _ (λ _ z. absurd (refused_no_list z)) (λ _ z. by (reason_of l w.reasons) refl z) (ask_given d w room (reason_for l) list e)
  where
    Open : Type 0
    Open = (r : Reason) × (reason_of l w.reasons ≡ r ∷ []) × (gone d (note_all d w.standing) r ≡ false) × (fetched d w.standing r ≡ list)

    by : (rs : List Reason) → reason_of l w.reasons ≡ rs → give_reason d w rs ≡ reason list → Open
    by [] q z = absurd (refused_no_list z)
    by (r ∷ rs) q z =
        pick_ind (λ (a : Answer). a ≡ reason list → Open) (gone d (note_all d w.standing) r) _ _ (λ _ y. absurd (refused_no_list y))
        (λ n y. (r, q ∙ ap (λ (x : List Reason). r ∷ x) (one_reason l w.reasons r rs q), n, ap answer_list y)) z

-- and one without a literal the list last left
pub last_given : (d : Plan) (w : World) (room : Bool) (list : List ℕ) → (call d (ask room last_left) w).answer ≡ reason list → w.last ≡ list
unfolding answer_to answer_list
last_given d w room list e = ap answer_list (ask_given d w room last_left list e)

after_one : (d : Plan) (cs : List Call) (c : Call) (w : World) → after d w (cs ++ (c ∷ [])) ≡ (call d c (after d w cs)).world
unfolding after
after_one d [] c w = refl
after_one d (x ∷ cs) c w = after_one d cs c (call d x w).world

-- what stands after the calls before and call c
now : (d : Plan) (before : List Call) (c : Call) → (answered d before c).world.standing ≡ counted d built (before ++ (c ∷ [])) []
unfolding run
now d before c = ap (λ (w : World). w.standing) (sym (after_one d before c built)) ∙ stands_from_calls d (before ++ (c ∷ []))

heads : {a b : Reason} {k l : List Reason} → a ∷ k ≡ b ∷ l → a ≡ b
heads q = cc

pub condition_3 : (d : Plan) → Proper d → Plain d → Condition3 d
condition_3 d k pl = record { conflicts = conflicts; handed = handed; exact = exact }
  where
    conflicts : (before : List Call) (c : Call) (room : Bool) (list : List ℕ) → (answered d before c).answer ≡ conflicting →
        (call d (ask room last_left) (answered d before c).world).answer ≡ reason list →
        (σ : ℕ → Bool) → Valid d σ → Every (Holds σ) list → ⊥
    conflicts before c room list e q σ y x =
        conflict_refuted d k pl (run d before) c (run_consistent d before) e σ y
        (subst (Every (Holds σ)) (sym (last_given d (answered d before c).world room list q)) x)

    handed : (before : List Call) (c : Call) (amid : List Call) (l : ℕ) (room : Bool) (list : List ℕ) →
        In (answered d before c).handed l → AllQuiet d (answered d before c).world amid →
        (call d (ask room (reason_for l)) (after d (answered d before c).world amid)).answer ≡ reason list →
        (σ : ℕ → Bool) → Valid d σ → Every (Holds σ) list → Holds σ l
    handed before c amid l room list m s q σ y x =
        let w = (answered d before c).world in
        let (r, e, j) = handed_justified d k (run d before) c (run_consistent d before) l m in
        let (r2, e2, g, f) = fetch_open d w room l list (ap (λ (z : World). (call d (ask room (reason_for l)) z).answer) (sym (all_quiet_same d s)) ∙ q) in
        let same : r2 ≡ r = heads (sym e2 ∙ e) in
        j.sound pl σ y (subst (Every (Holds σ)) (sym f ∙ ap (fetched d w.standing) same) x)

    exact : (before : List Call) (room : Bool) (t : List ℕ) (l : ℕ) →
        accepted (answered d before (propagate room t l false)).answer ≡ true →
        Covers d (counted d built (before ++ (propagate room t l false ∷ [])) []) →
        ((answered d before (propagate room t l false)).answer ≡ consistent) ↔ Describes d (counted d built (before ++ (propagate room t l false ∷ [])) [])
    exact before room t l a =
        subst (λ (z : List ℕ). Covers d z → ((answered d before (propagate room t l false)).answer ≡ consistent) ↔ Describes d z) (now d before (propagate room t l false))
        (did_exact d k pl (run d before) (run_consistent d before) (did d (run d before) (propagate room t l false)) a)
