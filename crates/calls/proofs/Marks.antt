-- The table shows each literal that is handed on: it was unset, and is true at the current level; set entries stay.
use Prim.Native.Nat.{ℕ, ◌/◌, ◌%◌, ◌<◌}
use mathlib.Core.Path.{◌≡◌, refl, sym, ◌∙◌, ap, subst}
use mathlib.Core.Logic.{◌⊎◌, ⊎_elim}
use mathlib.Core.Bool.{Bool, true, false, true≢false}
use mathlib.Core.List.Memᴰ
use mathlib.Core.List.{List, [], ◌∷◌, ◌++◌}
use lib.Dec.{eqb}
use lib.ListN.{length, get_or, set, length-set}
use lib.Seq.{get_or-set_same, get_or-set_other}
use Rattle.base.specs.Iter.{pick}
use Rattle.base.proofs.Loop.{pick_ind}
use Rattle.division.specs.Plan.{Plan}
use Rattle.division.specs.Noting.{In}
use Rattle.division.specs.Runs.{analysis}
use Rattle.calls.specs.Marks.{current_code, Marked}
use Rattle.calls.specs.Table.{code_of, unset_in, enter}
use Rattle.calls.specs.Look.{Looked, offers, hand_on, enter_all, stop, clashes, offered, looked}
use Rattle.calls.specs.Calls.{World, Call, Outcome, table_of, refuse, settled_by, tell, Going, join_by, last_by, finish_by, entry, call}
use Rattle.calls.proofs.View.{Saw, saw, saw_stop, saw_conflict, saw_false, saw_fine, Steps, over, more, ends, halts, Did, away, added, agreed, clashed, took, asked, began, began_last, began_clash, did}
use Rattle.calls.proofs.Looks.{halted}
use Rattle.calls.proofs.Stands.{fine_on, clash_on, not_halted}

current_set : (l : ℕ) → eqb (current_code l) 0 ≡ false
unfolding current_code
current_set l = pick_ind (λ x. eqb x 0 ≡ false) (eqb (l % 2) 0) 3 4 (λ _. refl) (λ _. refl)

same_code : (t u : List ℕ) (l : ℕ) → code_of u l ≡ code_of t l → unset_in u l ≡ unset_in t l
unfolding unset_in
same_code t u l e = ap (λ c. eqb c 0) e

pub marked_set : (u : List ℕ) (x : ℕ) → code_of u x ≡ current_code x → unset_in u x ≡ false
unfolding unset_in
marked_set u x e = ap (λ c. eqb c 0) e ∙ current_set x

pub unmarked : (t : List ℕ) → Marked t [] t
unmarked t = record { long = refl; rest = λ v n. refl; kept = λ l e. refl; shown = λ l m. absurd (Memᴰ.not-nil m) }

pub marked_then : (t h u i v : List ℕ) → Marked t h u → Marked u i v → Marked t (h ++ i) v
marked_then t h u i v a b = record {
  long = b.long ∙ a.long;
  rest = λ v n. b.rest v (λ l m. n l (Memᴰ.append_right h m)) ∙ a.rest v (λ l m. n l (Memᴰ.append_left i m));
  kept = λ l e. b.kept l (same_code t u l (a.kept l e) ∙ e) ∙ a.kept l e;
  shown = λ l m k. ⊎_elim (λ n. early l n k) (λ n. late l n k) (Memᴰ.append_cases h m);
}
  where
    early : (l : ℕ) → In h l → l / 2 < length t → (unset_in t l ≡ true) × (code_of v l ≡ current_code l)
    early l n k = let p = a.shown l n k in (p.0, b.kept l (marked_set u l p.1) ∙ p.1)

    late : (l : ℕ) → In i l → l / 2 < length t → (unset_in t l ≡ true) × (code_of v l ≡ current_code l)
    late l n k =
        let p = b.shown l n (subst (λ z. l / 2 < z) (sym a.long) k) in
        (unset_then (unset_in t l) refl p.0, p.1)
      where
        unset_then : (c : Bool) → unset_in t l ≡ c → unset_in u l ≡ true → unset_in t l ≡ true
        unset_then true e q = e
        unset_then false e q = absurd (true≢false (sym q ∙ same_code t u l (a.kept l e) ∙ e))

pub enter_same : (t : List ℕ) (l : ℕ) → l / 2 < length t → code_of (enter t l) l ≡ current_code l
unfolding code_of enter current_code
enter_same t l h = get_or-set_same t (l / 2) _ 0 h

enter_other : (t : List ℕ) (l m : ℕ) → (m / 2 ≡ l / 2 → ⊥) → code_of (enter t l) m ≡ code_of t m
unfolding code_of enter
enter_other t l m n = get_or-set_other t (l / 2) (m / 2) _ 0 n

enter_rest : (t : List ℕ) (l v : ℕ) → (v ≡ l / 2 → ⊥) → get_or (enter t l) v 0 ≡ get_or t v 0
unfolding enter
enter_rest t l v n = get_or-set_other t (l / 2) v _ 0 n

pub enter_long : (t : List ℕ) (l : ℕ) → length (enter t l) ≡ length t
unfolding enter
enter_long t l = simp length-set refl

same_variable : (t : List ℕ) (l m : ℕ) → m / 2 ≡ l / 2 → unset_in t m ≡ unset_in t l
unfolding unset_in code_of
same_variable t l m e = ap (λ v. eqb (get_or t v 0) 0) e

-- one literal that is unset
entered_one : (t : List ℕ) (p : ℕ) → unset_in t p ≡ true → Marked t (p ∷ []) (enter t p)
entered_one t p e = record {
  long = enter_long t p;
  rest = λ v n. enter_rest t p v (λ q. n p (Memᴰ.head refl) (sym q));
  kept = λ l f. enter_other t p l (λ q. true≢false (sym e ∙ sym (same_variable t p l q) ∙ f));
  shown = λ l m h. ⊎_elim (λ q. subst (λ z. (unset_in t z ≡ true) × (code_of (enter t p) z ≡ current_code z)) (sym q) (e, enter_same t p (subst (λ z. z / 2 < length t) q h)))
      (λ n. absurd (Memᴰ.not-nil n)) (Memᴰ.cases_cons m);
}

pub hand_marked : (t ps : List ℕ) → Marked t (hand_on t ps) (enter_all t ps)
unfolding hand_on enter_all pick
hand_marked t [] = unmarked t
hand_marked t (p ∷ ps) = go (unset_in t p) refl (hand_marked (enter t p) ps) (hand_marked t ps)
  where
    go : (b : Bool) → unset_in t p ≡ b → Marked (enter t p) (hand_on (enter t p) ps) (enter_all (enter t p) ps) → Marked t (hand_on t ps) (enter_all t ps) →
        Marked t (pick b (p ∷ hand_on (enter t p) ps) (hand_on t ps)) (pick b (enter_all (enter t p) ps) (enter_all t ps))
    go true e x y = marked_then t (p ∷ []) (enter t p) _ _ (entered_one t p e) x
    go false e x y = y

saw_marked : (d : Plan) (ls t : List ℕ) {o : Looked} → Saw d ls t o → Marked t o.handed o.table
unfolding stop clashes offered
saw_marked d ls t (saw_stop n) = unmarked t
saw_marked d ls t (saw_conflict c e) = unmarked t
saw_marked d ls t (saw_false p ps e cur) = unmarked t
saw_marked d ls t (saw_fine e) = hand_marked t (offers (analysis d ls))

pub looked_marked : (d : Plan) (ls t : List ℕ) (o : Looked) → o ≡ looked d ls t → Marked t o.handed o.table
looked_marked d ls t o e = saw_marked d ls t (subst (Saw d ls t) (sym e) (saw d ls t))

steps_marked : (d : Plan) (t : List ℕ) {a b : Going} {ls : List ℕ} → Steps d a ls b → halted b.judgement ≡ false → Marked t a.handed a.table → Marked t b.handed b.table
unfolding join_by
steps_marked d t (over e) h m = m
steps_marked d t {a} (more {l = l} o e f q s) h m = steps_marked d t s h (marked_then t a.handed a.table o.handed o.table m (looked_marked d _ _ o e))
steps_marked d t {a} (ends {l = l} o e f q) h m = marked_then t a.handed a.table o.handed o.table m (looked_marked d _ _ o e)
steps_marked d t (halts n e) h m = absurd (not_halted e h)

did_marked : (d : Plan) (w : World) {c : Call} {o : Outcome} → Did d w c o → Marked (table_of c) o.handed o.table
unfolding table_of refuse settled_by tell last_by finish_by entry
did_marked d w (away c n) = unmarked _
did_marked d w (added room t l p e f kn) = unmarked t
did_marked d w (agreed room t l p pf o e f q bt kn) = looked_marked d _ t o e
did_marked d w (clashed room t l p pf o e f q bt kn) = looked_marked d _ t o e
did_marked d w (took room l x xs e) = unmarked []
did_marked d w (asked room q) = unmarked []
did_marked d w (began room t a s j v bt) = steps_marked d t s (fine_on j) (unmarked t)
did_marked d w (began_last room t a s j c v bt) = steps_marked d t s (fine_on j) (unmarked t)
did_marked d w (began_clash room t a s j bt) = steps_marked d t s (clash_on j) (unmarked t)

-- each literal that a call hands on was unset and is marked; set entries stay
pub call_marked : (d : Plan) (w : World) (c : Call) → Marked (table_of c) (call d c w).handed (call d c w).table
call_marked d w c = did_marked d w (did d w c)
