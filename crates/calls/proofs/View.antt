-- What each call did, case by case.
use Prim.Native.Nat.{ℕ}
use mathlib.Core.Path.{◌≡◌, refl, sym, ◌∙◌, ap, subst}
use mathlib.Core.Bool.{Bool, true, false, not, ◌||◌, true≢false}
use mathlib.Core.List.{List, [], ◌∷◌}
use Rattle.base.proofs.Loop.{pick_ind}
use Rattle.division.specs.Plan.{Plan}
use Rattle.division.specs.Conflicts.{Conflict, conflict_list}
use Rattle.division.specs.Analysis.{zero_size, Verdict, going, conflict}
use Rattle.division.specs.Noting.{note_all}
use Rattle.division.specs.Runs.{analysis}
use Rattle.calls.specs.Table.{entered, bad_table, some_current, knows}
use Rattle.calls.specs.Look.{Judgement, fine, clash, stopped, Looked, offers, first_false, false_list, stop, clashes, offered, looked_by, looked}
use Rattle.calls.specs.Calls.{World, Answer, Call, initialize, propagate, undo, Query, ask, noted, undone, table_of, Outcome, refuse, taken, adding, settled_by, settled, on_propagate, take_back, on_undo, answer_to, tell, on_ask, Going, join_by, one_by, propagate_all, last_by, finish_by, entry, on_initialize, call}

-- an analysis with a table
pub data Saw (d : Plan) (ls t : List ℕ) : Looked → Type 0 where
  saw_stop : (n : ℕ) → Saw d ls t (stop n t)
  saw_conflict : (c : Conflict) → (analysis d ls).verdict ≡ conflict c → Saw d ls t (clashes (analysis d ls) t (conflict_list d (note_all d ls) c))
  saw_false : (p : ℕ) (ps : List ℕ) → first_false t (offers (analysis d ls)) ≡ p ∷ ps → some_current t (false_list d ls (analysis d ls) p) ≡ true → Saw d ls t (clashes (analysis d ls) t (false_list d ls (analysis d ls) p))
  saw_fine : (analysis d ls).verdict ≡ going → Saw d ls t (offered d ls t (analysis d ls) [])

pub saw : (d : Plan) (ls t : List ℕ) → Saw d ls t (looked d ls t)
unfolding looked offered looked_by
saw d ls t = by (analysis d ls).verdict refl
  where
    offers_by : (ps : List ℕ) → (analysis d ls).verdict ≡ going → first_false t (offers (analysis d ls)) ≡ ps → Saw d ls t (offered d ls t (analysis d ls) ps)
    offers_by [] v e = saw_fine v
    offers_by (p ∷ ps) v e = rest
      where
        rest : Saw d ls t (offered d ls t (analysis d ls) (p ∷ ps))
        rest = pick_ind (Saw d ls t) _ _ _ (λ cur. saw_false p ps e cur) (λ _. saw_stop 14)

    by : (v : Verdict) → (analysis d ls).verdict ≡ v → Saw d ls t (looked_by d ls t (analysis d ls) v)
    by going e = offers_by _ e refl
    by (conflict c) e = saw_conflict c e
    by zero_size e = saw_stop 13

-- initialize's notifications, from a to b
pub data Steps (d : Plan) : Going → List ℕ → Going → Type 0 where
  over : {a : Going} → a.judgement ≡ fine → Steps d a [] a
  more : {a : Going} {l : ℕ} {ls : List ℕ} {b : Going} (o : Looked) → o ≡ looked d (l ∷ a.world.standing) a.table → taken a.world l ≡ false → o.judgement ≡ fine →
      Steps d (join_by a l o fine) ls b → Steps d a (l ∷ ls) b
  ends : {a : Going} {l : ℕ} {ls : List ℕ} (o : Looked) → o ≡ looked d (l ∷ a.world.standing) a.table → taken a.world l ≡ false → o.judgement ≡ clash →
      Steps d a (l ∷ ls) (join_by a l o clash)
  halts : {a : Going} {ls : List ℕ} {b : Going} (n : ℕ) → b.judgement ≡ stopped n → Steps d a ls b

pub clash_stays : (d : Plan) (ls : List ℕ) (a : Going) → a.judgement ≡ clash → propagate_all d ls a ≡ a
unfolding propagate_all one_by
clash_stays d [] a e = refl
clash_stays d (l ∷ ls) a e = ap (λ (j : Judgement). propagate_all d ls (one_by d l a j)) e ∙ clash_stays d ls a e

pub stop_stays : (d : Plan) (ls : List ℕ) (a : Going) (n : ℕ) → a.judgement ≡ stopped n → propagate_all d ls a ≡ a
unfolding propagate_all one_by
stop_stays d [] a n e = refl
stop_stays d (l ∷ ls) a n e = ap (λ (j : Judgement). propagate_all d ls (one_by d l a j)) e ∙ stop_stays d ls a n e

abbrev at : Plan → Going → ℕ → Looked
at d a l = looked d (l ∷ a.world.standing) a.table

step_by : (d : Plan) (l : ℕ) (ls : List ℕ) (a : Going) → ((b : Going) → b.judgement ≡ fine → Steps d b ls (propagate_all d ls b)) →
    (j : Judgement) → (at d a l).judgement ≡ j → taken a.world l ≡ false → Steps d a (l ∷ ls) (propagate_all d ls (join_by a l (at d a l) j))
unfolding join_by
step_by d l ls a ih fine q f = more (at d a l) refl f q (ih (join_by a l (at d a l) fine) refl)
step_by d l ls a ih clash q f = subst (Steps d a (l ∷ ls)) (sym (clash_stays d ls (join_by a l (at d a l) clash) refl)) (ends (at d a l) refl f q)
step_by d l ls a ih (stopped n) q f = subst (Steps d a (l ∷ ls)) (sym (stop_stays d ls (join_by a l (at d a l) (stopped n)) n refl)) (halts n refl)

step_one : (d : Plan) (l : ℕ) (ls : List ℕ) (a : Going) → ((b : Going) → b.judgement ≡ fine → Steps d b ls (propagate_all d ls b)) → Steps d a (l ∷ ls) (propagate_all d ls (one_by d l a fine))
unfolding one_by
step_one d l ls a ih =
    pick_ind (λ (z : Going). Steps d a (l ∷ ls) (propagate_all d ls z)) _ _ _
    (λ _. subst (Steps d a (l ∷ ls)) (sym (stop_stays d ls _ 10 refl)) (halts 10 refl)) (λ f. step_by d l ls a ih _ refl f)

pub steps : (d : Plan) (ls : List ℕ) (a : Going) → a.judgement ≡ fine → Steps d a ls (propagate_all d ls a)
unfolding propagate_all
steps d [] a e = over e
steps d (l ∷ ls) a e = subst (λ (j : Judgement). Steps d a (l ∷ ls) (propagate_all d ls (one_by d l a j))) (sym e) (step_one d l ls a (λ b q. steps d ls b q))

pub or_right : (a b : Bool) → (a || b) ≡ false → b ≡ false
or_right true b e = absurd (true≢false e)
or_right false b e = e

pub not_not : (b : Bool) → not b ≡ false → b ≡ true
not_not true e = refl
not_not false e = absurd (true≢false e)

-- a call in world w
pub data Did (d : Plan) (w : World) : Call → Outcome → Type 0 where
  away : (c : Call) (n : ℕ) → Did d w c (refuse n w (table_of c))
  added : (room : Bool) (t : List ℕ) (l : ℕ) (pending : Bool) → pending ≡ true → taken w l ≡ false → knows d l ≡ true →
      Did d w (propagate room t l pending) (record { answer = noted; world = adding w l; table = t; handed = [] })
  agreed : (room : Bool) (t : List ℕ) (l : ℕ) (pending : Bool) → pending ≡ false → (o : Looked) → o ≡ looked d (l ∷ w.standing) t → taken w l ≡ false → o.judgement ≡ fine → bad_table d t ≡ false → knows d l ≡ true →
      Did d w (propagate room t l pending) (settled_by w t l o fine)
  clashed : (room : Bool) (t : List ℕ) (l : ℕ) (pending : Bool) → pending ≡ false → (o : Looked) → o ≡ looked d (l ∷ w.standing) t → taken w l ≡ false → o.judgement ≡ clash → bad_table d t ≡ false → knows d l ≡ true →
      Did d w (propagate room t l pending) (settled_by w t l o clash)
  took : (room : Bool) (l x : ℕ) (xs : List ℕ) → w.standing ≡ x ∷ xs →
      Did d w (undo room l) (record { answer = undone; world = record { standing = xs; reasons = w.reasons; last = w.last; done = w.done }; table = []; handed = [] })
  asked : (room : Bool) (q : Query) → Did d w (ask room q) (tell w (answer_to d w q))
  began : (room : Bool) (t : List ℕ) (a : Going) → Steps d (entry w t) (entered d t) a → a.judgement ≡ fine → (analysis d a.world.standing).verdict ≡ going → bad_table d t ≡ false →
      Did d w (initialize room t) (last_by d w t a (analysis d a.world.standing) going)
  began_last : (room : Bool) (t : List ℕ) (a : Going) → Steps d (entry w t) (entered d t) a → a.judgement ≡ fine → (c : Conflict) → (analysis d a.world.standing).verdict ≡ conflict c → bad_table d t ≡ false →
      Did d w (initialize room t) (last_by d w t a (analysis d a.world.standing) (conflict c))
  began_clash : (room : Bool) (t : List ℕ) (a : Going) → Steps d (entry w t) (entered d t) a → a.judgement ≡ clash → bad_table d t ≡ false → Did d w (initialize room t) (finish_by d w t a clash)

module _ (d : Plan) (w : World) where
  propagate_did : (room : Bool) (t : List ℕ) (l : ℕ) (pending : Bool) → Did d w (propagate room t l pending) (on_propagate d w room t l pending)
  unfolding on_propagate settled settled_by table_of
  propagate_did room t l pending =
      pick_ind D _ _ _ (λ _. away _ 7) (λ b. pick_ind D _ _ _ (λ _. away _ 9) (λ kn. pick_ind D _ _ _ (λ _. away _ 10)
      (λ f. pick_ind D _ _ _ (λ p. added room t l pending p f (not_not _ kn)) (λ p. by p _ refl f (or_right (not room) _ b) (not_not _ kn)))))
    where
      D : Outcome → Type 0
      D = Did d w (propagate room t l pending)

      by : pending ≡ false → (j : Judgement) → (looked d (l ∷ w.standing) t).judgement ≡ j → taken w l ≡ false → bad_table d t ≡ false → knows d l ≡ true → D (settled_by w t l (looked d (l ∷ w.standing) t) j)
      by p fine e f b kn = agreed room t l pending p _ refl f e b kn
      by p clash e f b kn = clashed room t l pending p _ refl f e b kn
      by p (stopped n) e f b kn = halt
        where
          halt : D (settled_by w t l (looked d (l ∷ w.standing) t) (stopped n))
          halt = away _ n

  undo_did : (room : Bool) (l : ℕ) → Did d w (undo room l) (on_undo d w room l)
  unfolding on_undo take_back table_of
  undo_did room l = pick_ind D _ _ _ (λ _. away _ 7) (λ _. pick_ind D _ _ _ (λ _. away _ 9) (λ _. by _ refl))
    where
      D : Outcome → Type 0
      D = Did d w (undo room l)

      by : (xs : List ℕ) → w.standing ≡ xs → D (take_back w l xs)
      by [] e = away _ 11
      by (x ∷ xs) e = pick_ind D _ _ _ (λ _. took room l x xs e) (λ _. away _ 11)

  ask_did : (room : Bool) (q : Query) → Did d w (ask room q) (on_ask d w room q)
  unfolding on_ask tell refuse table_of
  ask_did room q = pick_ind (λ (a : Answer). Did d w (ask room q) (tell w a)) _ _ _ (λ _. away _ 7) (λ _. asked room q)

  initialize_did : (room : Bool) (t : List ℕ) → Did d w (initialize room t) (on_initialize d w room t)
  unfolding on_initialize entry last_by finish_by table_of
  initialize_did room t = pick_ind D _ _ _ (λ _. away _ 7) (λ b. pick_ind D _ _ _ (λ _. away _ 8) (λ _. by _ refl (or_right (not room) _ b)))
    where
      D : Outcome → Type 0
      D = Did d w (initialize room t)

      all : Steps d (entry w t) (entered d t) (propagate_all d (entered d t) (entry w t))
      all = steps d (entered d t) (entry w t) refl

      ending : (v : Verdict) → (propagate_all d (entered d t) (entry w t)).judgement ≡ fine → (analysis d (propagate_all d (entered d t) (entry w t)).world.standing).verdict ≡ v → bad_table d t ≡ false →
          D (last_by d w t (propagate_all d (entered d t) (entry w t)) (analysis d (propagate_all d (entered d t) (entry w t)).world.standing) v)
      ending going j e b = began room t _ all j e b
      ending (conflict c) j e b = began_last room t _ all j c e b
      ending zero_size j e b = halt
        where
          halt : D (last_by d w t (propagate_all d (entered d t) (entry w t)) (analysis d (propagate_all d (entered d t) (entry w t)).world.standing) zero_size)
          halt = away _ 13

      by : (j : Judgement) → (propagate_all d (entered d t) (entry w t)).judgement ≡ j → bad_table d t ≡ false → D (finish_by d w t (propagate_all d (entered d t) (entry w t)) j)
      by fine e b = go
        where
          go : D (finish_by d w t (propagate_all d (entered d t) (entry w t)) fine)
          go = ending _ e refl b
      by clash e b = began_clash room t _ all e b
      by (stopped n) e b = go
        where
          go : D (finish_by d w t (propagate_all d (entered d t) (entry w t)) (stopped n))
          go = away _ n

  pub did : (c : Call) → Did d w c (call d c w)
  unfolding call
  did (initialize room t) = initialize_did room t
  did (propagate room t l pending) = propagate_did room t l pending
  did (undo room l) = undo_did room l
  did (ask room q) = ask_did room q
