-- What stands after a call is what the calls tell, and no literal stands beside its negation.
use Prim.Native.Nat.{ℕ}
use mathlib.Core.Path.{◌≡◌, refl, sym, ◌∙◌, ap, subst}
use mathlib.Core.Logic.{◌⊎◌, ⊎_elim}
use mathlib.Core.Bool.{Bool, true, false, not, ◌||◌, true≢false, false≢true}
use mathlib.Core.List.Memᴰ
use mathlib.Core.List.{List, [], ◌∷◌}
use lib.Dec.{eqb}
use borrow.Author.Tests.{eq-eqb}
use Rattle.base.specs.Iter.{pick}
use Rattle.base.proofs.Loop.{pick_yes, pick_no, pick_ind}
use Rattle.sat.specs.Literal.{negate, value}
use Rattle.sat.proofs.Literal.{value_negate, negate_twice}
use Rattle.division.specs.Plan.{Plan}
use Rattle.division.specs.Noting.{In, Consistent}
use Rattle.calls.specs.Table.{has}
use Rattle.calls.specs.Look.{Judgement, fine, clash, stopped, Looked}
use Rattle.calls.specs.Calls.{World, built, Call, accepted, table_of, Outcome, refuse, taken, noting, adding, settled_by, answer_to, tell, on_ask, Going, join_by, last_by, finish_by, entry, call, after, run}
use Rattle.calls.specs.Claim.{is_clash, add_up_to, tail, counts, counted, Quiet, a_query, turned_away, AllQuiet, done, next}
use Rattle.calls.proofs.View.{or_right, Steps, over, more, ends, halts, Did, away, added, agreed, clashed, took, asked, began, began_last, began_clash, did}
use Rattle.calls.proofs.Looks.{halted}

pub or_left : (a b : Bool) → (a || b) ≡ false → a ≡ false
or_left true b e = e
or_left false b e = refl

has_not : (ls : List ℕ) (l : ℕ) → has ls l ≡ false → In ls l → ⊥
unfolding has
has_not [] l e m = Memᴰ.not-nil m
has_not (x ∷ xs) l e m = ⊎_elim (λ (q : l ≡ x). true≢false (sym (eq-eqb x l (sym q)) ∙ or_left _ _ e)) (λ n. has_not xs l (or_right (eqb x l) _ e) n) (Memᴰ.cases_cons m)

negate_other : (l : ℕ) → negate l ≡ l → ⊥
negate_other l e = go _ (sym (ap (value (λ _. true)) e) ∙ value_negate (λ _. true) l)
  where
    go : (b : Bool) → b ≡ not b → ⊥
    go true q = true≢false q
    go false q = false≢true q

pub add_consistent : (w : World) (l : ℕ) → taken w l ≡ false → Consistent w.standing → Consistent (l ∷ w.standing)
unfolding taken
add_consistent w l f c x a b =
    ⊎_elim (λ (e : x ≡ l). ⊎_elim (λ (q : negate x ≡ l). negate_other l (subst (λ z. negate z ≡ l) e q)) (λ n. no (subst (λ z. In w.standing (negate z)) e n)) (Memᴰ.cases_cons b))
    (λ m. ⊎_elim (λ (q : negate x ≡ l). no (subst (In w.standing) (sym (negate_twice x) ∙ ap negate q) m)) (λ n. c x m n) (Memᴰ.cases_cons b))
    (Memᴰ.cases_cons a)
  where
    no : In w.standing (negate l) → ⊥
    no m = has_not w.standing (negate l) (or_right (has w.standing l) _ f) m

pub fine_on : {j : Judgement} → j ≡ fine → halted j ≡ false
unfolding halted
fine_on e = ap halted e

pub clash_on : {j : Judgement} → j ≡ clash → halted j ≡ false
unfolding halted
clash_on e = ap halted e

pub not_halted : {j : Judgement} {n : ℕ} → j ≡ stopped n → halted j ≡ false → ⊥
unfolding halted
not_halted e h = true≢false (sym (ap halted e) ∙ h)

pub steps_consistent : (d : Plan) {a b : Going} {ls : List ℕ} → Steps d a ls b → halted b.judgement ≡ false → Consistent a.world.standing → Consistent b.world.standing
unfolding join_by noting
steps_consistent d (over e) h c = c
steps_consistent d {a} (more {l = l} o e f q s) h c = steps_consistent d s h (add_consistent a.world l f c)
steps_consistent d {a} (ends {l = l} o e f q) h c = add_consistent a.world l f c
steps_consistent d (halts n e) h c = absurd (not_halted e h)

pub steps_standing : (d : Plan) {a b : Going} {ls : List ℕ} → Steps d a ls b → halted b.judgement ≡ false → b.world.standing ≡ add_up_to d a.world.standing a.table ls
unfolding join_by noting add_up_to is_clash
steps_standing d (over e) h = refl
steps_standing d {a} {b} (more {l = l} {ls = ls} o e f q s) h =
    subst (λ (z : Looked). b.world.standing ≡ pick (is_clash z.judgement) (l ∷ a.world.standing) (add_up_to d (l ∷ a.world.standing) z.table ls)) e
    (steps_standing d s h ∙ sym (pick_no _ _ (ap is_clash q)))
steps_standing d {a} (ends {l = l} {ls = ls} o e f q) h =
    subst (λ (z : Looked). l ∷ a.world.standing ≡ pick (is_clash z.judgement) (l ∷ a.world.standing) (add_up_to d (l ∷ a.world.standing) z.table ls)) e
    (sym (pick_yes _ _ (ap is_clash q)))
steps_standing d (halts n e) h = absurd (not_halted e h)

did_standing : (d : Plan) (w : World) {c : Call} {o : Outcome} → Did d w c o → o.world.standing ≡ pick (accepted o.answer) (counts d c w.standing) w.standing
unfolding refuse accepted pick counts adding settled_by noting tell last_by finish_by entry tail
did_standing d w (away c n) = refl
did_standing d w (added room t l p e f kn) = refl
did_standing d w (agreed room t l p pf o e f q bt kn) = refl
did_standing d w (clashed room t l p pf o e f q bt kn) = refl
did_standing d w (took room l x xs e) = sym (ap tail e)
did_standing d w (asked room q) = pick_ind (λ (ls : List ℕ). w.standing ≡ ls) (accepted (answer_to d w q)) w.standing w.standing (λ _. refl) (λ _. refl)
did_standing d w (began room t a s j v bt) = steps_standing d s (fine_on j)
did_standing d w (began_last room t a s j c v bt) = steps_standing d s (fine_on j)
did_standing d w (began_clash room t a s j bt) = steps_standing d s (clash_on j)

did_consistent : (d : Plan) (w : World) {c : Call} {o : Outcome} → Did d w c o → Consistent w.standing → Consistent o.world.standing
unfolding refuse adding settled_by noting tell last_by finish_by entry
did_consistent d w (away c n) k = k
did_consistent d w (added room t l p e f kn) k = add_consistent w l f k
did_consistent d w (agreed room t l p pf o e f q bt kn) k = add_consistent w l f k
did_consistent d w (clashed room t l p pf o e f q bt kn) k = add_consistent w l f k
did_consistent d w (took room l x xs e) k = λ y a b. k y (subst (λ z. In z y) (sym e) (Memᴰ.tail a)) (subst (λ z. In z (negate y)) (sym e) (Memᴰ.tail b))
did_consistent d w (asked room q) k = k
did_consistent d w (began room t a s j v bt) k = steps_consistent d s (fine_on j) k
did_consistent d w (began_last room t a s j c v bt) k = steps_consistent d s (fine_on j) k
did_consistent d w (began_clash room t a s j bt) k = steps_consistent d s (clash_on j) k

counted_after : (d : Plan) (cs : List Call) (w : World) → (after d w cs).standing ≡ counted d w cs w.standing
unfolding after counted
counted_after d [] w = refl
counted_after d (c ∷ cs) w = counted_after d cs (call d c w).world ∙ ap (counted d (call d c w).world cs) (did_standing d w (did d w c))

-- what stands after any list of calls is what the calls tell
pub stands_from_calls : (d : Plan) (cs : List Call) → (run d cs).standing ≡ counted d built cs []
unfolding run built
stands_from_calls d cs = counted_after d cs built

after_consistent : (d : Plan) (cs : List Call) (w : World) → Consistent w.standing → Consistent (after d w cs).standing
unfolding after
after_consistent d [] w k = k
after_consistent d (c ∷ cs) w k = after_consistent d cs (call d c w).world (did_consistent d w (did d w c) k)

-- no literal stands beside its negation
pub run_consistent : (d : Plan) (cs : List Call) → Consistent (run d cs).standing
unfolding run built
run_consistent d cs = after_consistent d cs built (λ l a b. Memᴰ.not-nil a)

pub call_consistent : (d : Plan) (w : World) (c : Call) → Consistent w.standing → Consistent (call d c w).world.standing
call_consistent d w c k = did_consistent d w (did d w c) k

did_refused : (d : Plan) (w : World) {c : Call} {o : Outcome} → Did d w c o → accepted o.answer ≡ false → (o.world ≡ w) × (o.table ≡ table_of c) × (o.handed ≡ [])
unfolding refuse accepted settled_by tell last_by finish_by table_of
did_refused d w (away c n) e = (refl, refl, refl)
did_refused d w (added room t l p i f kn) e = absurd (true≢false e)
did_refused d w (agreed room t l p pf o i f q bt kn) e = absurd (true≢false e)
did_refused d w (clashed room t l p pf o i f q bt kn) e = absurd (true≢false e)
did_refused d w (took room l x xs i) e = absurd (true≢false e)
did_refused d w (asked room q) e = (refl, refl, refl)
did_refused d w (began room t a s j v bt) e = absurd (true≢false e)
did_refused d w (began_last room t a s j c v bt) e = absurd (true≢false e)
did_refused d w (began_clash room t a s j bt) e = absurd (true≢false e)

-- a refused call leaves the world and the table, and hands on nothing
pub refused_same : (d : Plan) (w : World) (c : Call) → accepted (call d c w).answer ≡ false → ((call d c w).world ≡ w) × ((call d c w).table ≡ table_of c) × ((call d c w).handed ≡ [])
refused_same d w c e = did_refused d w (did d w c) e

pub quiet_same : (d : Plan) (w : World) {c : Call} → Quiet d w c → (call d c w).world ≡ w
unfolding call on_ask tell
quiet_same d w (a_query room q) = refl
quiet_same d w (turned_away c e) = (refused_same d w c e).0

-- refused calls and queries leave the world
pub all_quiet_same : (d : Plan) {w : World} {cs : List Call} → AllQuiet d w cs → after d w cs ≡ w
unfolding after
all_quiet_same d done = refl
all_quiet_same d {w} (next q s) = all_quiet_same d s ∙ quiet_same d w q
