-- What the analyses of a call propose: an accepted call records all of it, and what a call hands on does not stand.
use Prim.Native.Nat.{ℕ, ◌/◌, ◌%◌}
use mathlib.Core.Path.{◌≡◌, refl, sym, ◌∙◌, ap, subst}
use mathlib.Core.Logic.{◌⊎◌, inl, inr, ⊎_elim}
use mathlib.Core.Bool.{Bool, true, false, ◌&&◌, false≢true}
use mathlib.Core.List.Memᴰ
use mathlib.Core.List.{List, ◌∷◌, ◌++◌, Memᴰ}
use mathlib.Core.List.{append_cancel_right}
use lib.Dec.{eqb}
use lib.ListN.{get_or}
use borrow.Author.Tests.{eqb-true}
use Rattle.base.specs.Iter.{pick}
use Rattle.base.specs.Lists.{Every}
use Rattle.base.proofs.Loop.{pick_ind}
use Rattle.base.proofs.Tests.{and_right}
use Rattle.base.proofs.Lists.{every_map}
use Rattle.sat.specs.Literal.{negate}
use Rattle.sat.proofs.Literal.{variable_negate}
use Rattle.division.specs.Plan.{Plan, Proper}
use Rattle.division.specs.Reasons.{Reason}
use Rattle.division.specs.Analysis.{Verdict, going, conflict, zero_size, Proposal, Each, nothing, also}
use Rattle.division.specs.Noting.{In}
use Rattle.division.specs.Runs.{analysis}
use Rattle.calls.specs.Table.{code_of, coded, true_in, unset_in, knows, entered}
use Rattle.calls.specs.Look.{Judgement, fine, clash, stopped, Looked, looked}
use Rattle.calls.specs.Calls.{World, Call, initialize, propagate, accepted, table_of, Outcome, refuse, noting}
use Rattle.calls.specs.Calls.{adding, settled_by, settled, tell, Going, join_by, propagate_all, last_by, finish_by}
use Rattle.calls.specs.Calls.{entry, call, run}
use Rattle.calls.specs.Refusals.{Stage, Works}
use Rattle.calls.specs.Claim.{answered}
use Rattle.calls.specs.Truths.{Analyzes, of_propagate, of_initialize, of_last}
use Rattle.calls.proofs.View.{saw, Steps, steps, Did, did}
use Rattle.calls.proofs.Looks.{halted, saw_records}
use Rattle.calls.proofs.Stands.{not_halted, fine_on, clash_on}
use Rattle.calls.proofs.Recent.{did_recent}
use Rattle.calls.proofs.Rising.{every_in, swept_every}
use Rattle.calls.proofs.Refusals.{acceptances, propagate_works, initialize_works, stage_runs, none_left}
use Rattle.calls.proofs.Refusals.{finished, last_pass}
use Rattle.calls.proofs.Truths.{nothing_standing_proposed, recorded_stood}

pub each_at : {P : ℕ → Reason → Type 0} {ps : List Proposal} {p : Proposal} → Each P ps → Memᴰ p ps →
    P p.lit p.why
each_at nothing m = elim m [ ]
each_at {P} (also x e) (Memᴰ.head q) = subst (λ (z : Proposal). P z.lit z.why) (sym q) x
each_at (also x e) (Memᴰ.tail m) = each_at e m

-- ---- an accepted call records what its analyses propose
module _ (d : Plan) (p : Proposal) where
  abbrev Recorded : World → Type 0
  Recorded w = Memᴰ p w.reasons

  abbrev ProposedAt : List ℕ → Type 0
  ProposedAt ls = Memᴰ p (analysis d ls).props

  look_records : (ls t : List ℕ) (o : Looked) → o ≡ looked d ls t → halted o.judgement ≡ false → ProposedAt ls →
      Memᴰ p o.records
  look_records ls t o e h m =
      subst (λ (z : Looked). halted z.judgement ≡ false → Memᴰ p z.records) (sym e)
      (λ g. subst (Memᴰ p) (sym (saw_records d ls t (saw d ls t) g)) m) h

  -- a notification records what its analysis proposes
  noting_records : (w : World) (l : ℕ) (t : List ℕ) (o : Looked) → o ≡ looked d (l ∷ w.standing) t →
      halted o.judgement ≡ false → ProposedAt (l ∷ w.standing) → Recorded (noting w l o)
  unfolding noting
  noting_records w l t o e h m = Memᴰ.append_left w.reasons (look_records (l ∷ w.standing) t o e h m)

  settled_records : (w : World) (t : List ℕ) (l : ℕ) (j : Judgement) →
      let o = looked d (l ∷ w.standing) t in
      o.judgement ≡ j → accepted (settled_by w t l o j).answer ≡ true → ProposedAt (l ∷ w.standing) →
      Recorded (settled_by w t l o j).world
  unfolding settled_by accepted refuse
  settled_records w t l fine q k m = noting_records w l t _ refl (fine_on q) m
  settled_records w t l clash q k m = noting_records w l t _ refl (clash_on q) m
  settled_records w t l (stopped n) q k m = absurd (false≢true k)

  -- so does the next one of initialize's; what is recorded stays so in those after it
  steps_keep : {a b : Going} {ls : List ℕ} → Steps d a ls b → halted b.judgement ≡ false → Recorded a.world →
      Recorded b.world
  unfolding join_by noting
  steps_keep (Steps.over e) h m = m
  steps_keep (Steps.more o e f q s) h m = steps_keep s h (Memᴰ.append_right o.records m)
  steps_keep (Steps.ends o e f q) h m = Memᴰ.append_right o.records m
  steps_keep (Steps.halts n e) h m = absurd (not_halted e h)

  next_records : {a : Going} {l : ℕ} {ls : List ℕ} {b : Going} → Steps d a (l ∷ ls) b → halted b.judgement ≡ false →
      ProposedAt (l ∷ a.world.standing) → Recorded b.world
  unfolding join_by
  next_records {a} {l = l} (Steps.more o e f q s) h m =
      steps_keep s h (noting_records a.world l a.table o e (fine_on q) m)
  next_records {a} {l = l} (Steps.ends o e f q) h m = noting_records a.world l a.table o e (clash_on q) m
  next_records (Steps.halts n e) h m = absurd (not_halted e h)

  -- the end of an initialize
  module _ (w : World) (t : List ℕ) (b : Going) where
    abbrev ms : List ℕ
    ms = b.world.standing

    in_both : Recorded b.world ⊎ ProposedAt ms → Memᴰ p ((analysis d ms).props ++ b.world.reasons)
    in_both m =
        ⊎_elim (λ x. Memᴰ.append_right (analysis d ms).props x) (λ x. Memᴰ.append_left b.world.reasons x) m

    last_records : (v : Verdict) → accepted (last_by d w t b (analysis d ms) v).answer ≡ true →
        Recorded b.world ⊎ ProposedAt ms → Recorded (last_by d w t b (analysis d ms) v).world
    unfolding last_by accepted refuse
    last_records going k m = in_both m
    last_records (conflict c) k m = in_both m
    last_records zero_size k m = absurd (false≢true k)

    finish_keeps : (j : Judgement) → accepted (finish_by d w t b j).answer ≡ true → Recorded b.world →
        Recorded (finish_by d w t b j).world
    unfolding finish_by accepted refuse
    finish_keeps fine k m = last_records (analysis d ms).verdict k (inl m)
    finish_keeps clash k m = m
    finish_keeps (stopped n) k m = absurd (false≢true k)

    goes_on : (j : Judgement) → accepted (finish_by d w t b j).answer ≡ true → halted j ≡ false
    unfolding finish_by accepted refuse halted
    goes_on fine k = refl
    goes_on clash k = refl
    goes_on (stopped n) k = absurd (false≢true k)

  of_outcome : {o v : Outcome} → o ≡ v → accepted o.answer ≡ true →
      (accepted v.answer ≡ true → Recorded v.world) → Recorded o.world
  of_outcome e k f =
      subst (λ (z : Outcome). Recorded z.world) (sym e)
      (f (subst (λ (z : Outcome). accepted z.answer ≡ true) e k))

  works : (k : Proper d) (w : World) (c : Call) → accepted (call d c w).answer ≡ true → Works d w c
  works k w c a i _ x = (acceptances d w c (λ _. k)).0 a i x

  pub proposed_recorded : (k : Proper d) (w : World) {c : Call} {ls : List ℕ} → Analyzes d w c ls →
      accepted (call d c w).answer ≡ true → ProposedAt ls → Recorded (call d c w).world
  unfolding settled
  proposed_recorded k w {c} (of_propagate room t l pending f n) a m =
      let q = propagate_works d w room t l pending f (works k w c a) in
      of_outcome q a (λ z. settled_records w t l _ refl z m)
  proposed_recorded k w {c} (of_initialize room t b l ls s n) a m =
      let r = stage_runs d w t s in
      let i = initialize_works d w t room (works k w c a) in
      let e = propagate_all d (l ∷ ls) b in
      of_outcome (i ∙ ap (finished d w t) r.rest) a
      (λ z. finish_keeps w t e _ z (next_records (steps d (l ∷ ls) b r.fine_yet) (goes_on w t e _ z) m))
  proposed_recorded k w {c} (of_last room t b s) a m =
      let r = stage_runs d w t s in
      let i = initialize_works d w t room (works k w c a) in
      let q = ap (finished d w t) (r.rest ∙ none_left d w t b) ∙ last_pass d w t b _ r.fine_yet refl in
      of_outcome (i ∙ q) a (λ z. last_records w t b _ z (inr m))

-- ---- what is handed on does not stand

-- a variable that is unset makes no literal true
unset_not_true : (t : List ℕ) (l x : ℕ) → x / 2 ≡ l / 2 → unset_in t l ≡ true → true_in t x ≡ true → ⊥
unfolding unset_in code_of true_in coded
unset_not_true t l x v u e =
    let c : 0 ≡ get_or t (x / 2) 0 = sym (ap (λ (i : ℕ). get_or t i 0) v ∙ eqb-true _ 0 u) in
    let even = eqb (x % 2) 0 in
    let none = pick_ind (λ (b : Bool). false ≡ b) even (coded 1 3 0) (coded 2 4 0) (λ _. refl) (λ _. refl) in
    false≢true (none ∙ ap (λ (y : ℕ). pick even (coded 1 3 y) (coded 2 4 y)) c ∙ e)

module _ (d : Plan) where
  entered_true : (t : List ℕ) → Every (λ x. true_in t x ≡ true) (entered d t)
  unfolding entered
  entered_true t =
      every_map (λ x q. and_right (knows d x) _ q.1) (swept_every (λ l. knows d l && true_in t l) 0 _)

  -- what stood before a call stands at each of its analyses
  stage_stands : {w : World} {t : List ℕ} {a : Going} {ls : List ℕ} (x : ℕ) → Stage d w t a ls → In w.standing x →
      In a.world.standing x
  unfolding entry join_by noting
  stage_stands x Stage.first m = m
  stage_stands x (Stage.next s n e) m = Memᴰ.tail (stage_stands x s m)

  analyzes_stands : {w : World} {c : Call} {ms : List ℕ} (x : ℕ) → Analyzes d w c ms → In w.standing x → In ms x
  analyzes_stands x (of_propagate room t l pending f n) m = Memᴰ.tail m
  analyzes_stands x (of_initialize room t a l ls s n) m = Memᴰ.tail (stage_stands x s m)
  analyzes_stands x (of_last room t a s) m = stage_stands x s m

  -- at a notification's, so does its literal
  noted_stands : {w : World} {room pending : Bool} {t ms : List ℕ} {l : ℕ} (x : ℕ) →
      Analyzes d w (propagate room t l pending) ms → In (l ∷ w.standing) x → In ms x
  noted_stands x (of_propagate room t l pending f n) m = m

  or_first : {l x : ℕ} {ms ls : List ℕ} → In (l ∷ ms) x → In ms x ⊎ In (l ∷ ls) x
  or_first m = ⊎_elim (λ e. inr (Memᴰ.head e)) (λ n. inl n) (Memᴰ.cases_cons m)

  -- what stands after initialize's notifications
  steps_stand : {a b : Going} {ls : List ℕ} (x : ℕ) → Steps d a ls b → halted b.judgement ≡ false →
      In b.world.standing x → In a.world.standing x ⊎ In ls x
  unfolding join_by noting
  steps_stand x (Steps.over e) h m = inl m
  steps_stand x (Steps.more o e f q s) h m =
      ⊎_elim or_first (λ y. inr (Memᴰ.tail y)) (steps_stand x s h m)
  steps_stand x (Steps.ends o e f q) h m = or_first m
  steps_stand x (Steps.halts n e) h m = absurd (not_halted e h)

  module _ (w : World) {ms : List ℕ} (x : ℕ) where
    begun_stands : {room : Bool} {t : List ℕ} {a : Going} → Steps d (entry w t) (entered d t) a →
        halted a.judgement ≡ false → Analyzes d w (initialize room t) ms → In a.world.standing x →
        In ms x ⊎ (true_in t x ≡ true)
    unfolding entry
    begun_stands {t = t} s h y m =
        ⊎_elim (λ z. inl (analyzes_stands x y z))
        (λ z. inr (every_in (λ l. true_in t l ≡ true) x (entered d t) (entered_true t) z)) (steps_stand x s h m)

    -- what stands after a call stood at its analysis, or is true in the table that the call was lent
    stands_after : {c : Call} {o : Outcome} → Did d w c o → Analyzes d w c ms → In o.world.standing x →
        In ms x ⊎ (true_in (table_of c) x ≡ true)
    unfolding refuse adding settled_by noting tell last_by finish_by table_of
    stands_after (Did.away c n) y m = inl (analyzes_stands x y m)
    stands_after (Did.added room t l p e f kn) y m = inl (noted_stands x y m)
    stands_after (Did.agreed room t l p pf o e f q bt kn) y m = inl (noted_stands x y m)
    stands_after (Did.clashed room t l p pf o e f q bt kn) y m = inl (noted_stands x y m)
    stands_after (Did.took room l z zs e) y m =
        inl (analyzes_stands x y (subst (λ (ls : List ℕ). In ls x) (sym e) (Memᴰ.tail m)))
    stands_after (Did.asked room q) y m = inl (analyzes_stands x y m)
    stands_after (Did.began room t a s j v bt) y m = begun_stands s (fine_on j) y m
    stands_after (Did.began_last room t a s j c v bt) y m = begun_stands s (fine_on j) y m
    stands_after (Did.began_clash room t a s j bt) y m = begun_stands s (clash_on j) y m

  module _ (k : Proper d) (before : List Call) (c : Call) (l : ℕ) where
    abbrev w : World
    w = run d before

    -- what is handed on was proposed by an analysis of that call
    handed_proposed : In (answered d before c).handed l → (ms : List ℕ) × (p : Proposal) ×
        Analyzes d w c ms × Memᴰ p (analysis d ms).props × (p.lit ≡ l)
    handed_proposed m =
        let x = did_recent d w (did d w c) in
        let (p, i, e) = Memᴰ.of_map (λ (y : Proposal). y.lit) x.recent (x.each l m) in
        let (recent, all, each) = recorded_stood d k before c in
        let same = append_cancel_right x.recent recent w.reasons (sym x.all ∙ all) in
        let (ms, y, r) = each_at each (subst (Memᴰ p) same i) in
        (ms, p, y, r.proposed, e)

    pub handed_new : unset_in (table_of c) l ≡ true → In (answered d before c).handed l →
        let now = (answered d before c).world.standing in
        (In now l → ⊥) × (In now (negate l) → ⊥)
    handed_new u m =
        let (ms, p, y, i, e) = handed_proposed m in
        let (neither, nor) = each_at (nothing_standing_proposed d k before c ms y) i in (
          λ s. ⊎_elim (λ z. neither (subst (In ms) (sym e) z)) (λ z. unset_not_true (table_of c) l l refl u z)
              (stands_after w l (did d w c) y s),
          λ s. ⊎_elim (λ z. nor (subst (λ (v : ℕ). In ms (negate v)) (sym e) z))
              (λ z. unset_not_true (table_of c) l (negate l) (variable_negate l) u z)
              (stands_after w (negate l) (did d w c) y s),
        )
