-- The lists are true as document 01 reads it.
use lib.ListN.{length, get_or}
use Prim.Native.Nat.{ℕ, ◌+◌, ◌-◌, ◌/◌, ◌%◌, ◌<◌}
use native.Mathlib.Omega.{arith}
use mathlib.Core.Path.{◌≡◌, refl, sym, ◌∙◌, ap, subst}
use mathlib.Core.Logic.{◌⊎◌, inl, inr, ⊎_elim}
use mathlib.Core.Bool.{Bool, true, false, not, true≢false, false≢true}
use mathlib.Core.List.{List, [], ◌∷◌, ◌++◌, Memᴰ, append_assoc}
use lib.Dec.{eqb}
use borrow.Author.Tests.{eq-eqb, ne_eqb}
use Rattle.base.specs.Iter.{pick}
use Rattle.base.specs.Lists.{Every, none, more}
use Rattle.base.proofs.Loop.{pick_ind, pick_yes, pick_no, eq_or_not}
use Rattle.base.proofs.Lists.{every_map, every_append}
use Rattle.sat.specs.Literal.{negate}
use Rattle.sat.proofs.Literal.{variable_negate}
use Rattle.division.specs.Plan.{Plan, Proper, left, right}
use Rattle.division.specs.State.{State, Same}
use Rattle.division.specs.Reasons.{Reason, connected_path, decided_region, list_of}
use Rattle.division.specs.Analysis.{Proposal, Each, nothing, also}
use Rattle.division.specs.Noting.{note_all, In, Consistent}
use Rattle.division.specs.Runs.{analysis, fetched, reason_of, Justifies}
use Rattle.division.specs.Noted.{Noted}
use Rattle.division.specs.Proposed.{Proposes, rule_in_group, rule_between, rule_too_large, rule_large, rule_small, rule_mismatch, rule_spread_low, rule_spread_high, rule_same_size}
use Rattle.division.proofs.Stands.{path_stands, decided_stands, potential_stands}
use Rattle.division.proofs.Walk.{within_joined}
use Rattle.division.proofs.Noting.{noted_all}
use Rattle.division.proofs.Whole.{each_found, reason_there, reasons, conflicts}
use Rattle.calls.specs.Refusals.{Stage}
use Rattle.calls.specs.Table.{code_of, true_in, false_in, coded, some_current}
use Rattle.calls.specs.Look.{clash, Looked, looked, first_false, list_for, false_list, stop, clashes, offered, unjoined, gone, fine}
use Rattle.calls.specs.Calls.{World, reason_for, Call, ask, conflicting, reason, Outcome, Going, call, run, join_by, refuse, noting, settled_by, tell, last_by, finish_by, entry, initialize, adding}
use Rattle.calls.specs.Claim.{answered}
use Rattle.calls.specs.Truths.{recorded_in, Walked, Recorded, Analyzes, of_propagate, of_initialize, of_last, Backed, all_stand, of_false}
use Rattle.calls.proofs.Refusals.{not_taken, not_stands}
use Rattle.calls.proofs.Claim.{fetch_open}
use Rattle.calls.proofs.Fetchable.{each_append, each_map, good}
use Rattle.calls.proofs.View.{Saw, saw_stop, saw_conflict, saw_false, saw_fine, saw, Steps, over, more, ends, halts, Did, did, or_right}
use Rattle.calls.proofs.Looks.{stop_not_clash, clash_not_fine, first_in, offer_in, halted, saw_records}
use Rattle.calls.proofs.Stands.{or_left, run_consistent, add_consistent, not_halted, clash_on, steps_consistent, fine_on}
use Rattle.calls.proofs.Queries.{answer_kind, is_conflict}
use Rattle.calls.proofs.Recent.{answer_quiet}
use Rattle.calls.proofs.Room.{Formed, formed_in, formed_between, formed_too_large, formed_large, formed_small, formed_mismatch, formed_spread, formed_same_size, run_formed}
use Rattle.division.proofs.Whole as whole

every_in : (ls : List ℕ) → Every (In ls) ls
every_in [] = none
every_in (x ∷ ls) = Every.more (Memᴰ.head refl) (every_map (λ y m. Memᴰ.tail m) (every_in ls))

first_false_lem : (t ps : List ℕ) (p : ℕ) (qs : List ℕ) → first_false t ps ≡ p ∷ qs → false_in t p ≡ true
unfolding first_false
first_false_lem t [] p qs e = absurd (nil_cons e)
  where
    nil_cons : {x : ℕ} {l : List ℕ} → [] ≡ x ∷ l → ⊥
    nil_cons q = let z : ◌≡◌ {A = ℕ} 0 _ = ap length q in omega arith
first_false_lem t (x ∷ xs) p qs e =
    pick_ind (λ (z : List ℕ). z ≡ p ∷ qs → false_in t p ≡ true) (false_in t x) (x ∷ []) (first_false t xs) (λ y q. subst (λ z. false_in t z ≡ true) (heads q) y) (λ _ q. first_false_lem t xs p qs q) e
  where
    heads : {a b : ℕ} {k l : List ℕ} → a ∷ k ≡ b ∷ l → a ≡ b
    heads q = cc

parity_up : (l : ℕ) → l % 2 ≡ 0 → negate l % 2 ≡ 1
unfolding negate
parity_up l h = ap (λ z. z % 2) (pick_yes (l + 1) (l - 1) (eq-eqb (l % 2) 0 h)) ∙ omega arith

parity_down : (l : ℕ) → (l % 2 ≡ 0 → ⊥) → negate l % 2 ≡ 0
unfolding negate
parity_down l h = ap (λ z. z % 2) (pick_no (l + 1) (l - 1) (ne_eqb (l % 2) 0 h)) ∙ omega arith

-- where a literal is false its negation is true
false_negation : (t : List ℕ) (l : ℕ) → false_in t l ≡ true → true_in t (negate l) ≡ true
unfolding false_in true_in code_of
false_negation t l e = ⊎_elim even odd (eq_or_not (l % 2) 0)
  where
    same : get_or t (negate l / 2) 0 ≡ get_or t (l / 2) 0
    same = ap (λ v. get_or t v 0) (variable_negate l)

    even : l % 2 ≡ 0 → pick (eqb (negate l % 2) 0) (coded 1 3 (get_or t (negate l / 2) 0)) (coded 2 4 (get_or t (negate l / 2) 0)) ≡ true
    even h =
        let n : negate l % 2 ≡ 1 = parity_up l h in
        pick_no _ _ (ne_eqb (negate l % 2) 0 (λ (z : negate l % 2 ≡ 0). omega arith)) ∙ ap (coded 2 4) same ∙ sym (pick_yes _ _ (eq-eqb (l % 2) 0 h)) ∙ e

    odd : (l % 2 ≡ 0 → ⊥) → pick (eqb (negate l % 2) 0) (coded 1 3 (get_or t (negate l / 2) 0)) (coded 2 4 (get_or t (negate l / 2) 0)) ≡ true
    odd h = pick_yes _ _ (eq-eqb (negate l % 2) 0 (parity_down l h)) ∙ ap (coded 1 3) same ∙ sym (pick_no _ _ (ne_eqb (l % 2) 0 h)) ∙ e

module _ (d : Plan) (k : Proper d) where
  -- what a reason holds stood when it was recorded
  rule_stood : (S : ℕ → Type 0) (s : State) → Noted d S s → (l : ℕ) (r : Reason) → Proposes d s l r → Every S (recorded_in d r)
  unfolding recorded_in
  rule_stood S s n l r (rule_in_group g h z a) = none
  rule_stood S s n l r (rule_between i g f hi h zi z a b) = Every.more ((n.disconnected i hi).0 zi) none
  rule_stood S s n l r (rule_too_large g w h hw z ne a m) = n.high_stands w hw
  rule_stood S s n l r (rule_large v j h u a b) = none
  rule_stood S s n l r (rule_small v j h u a b) = none
  rule_stood S s n l r (rule_mismatch g p q f h hp hq z a b m) = none
  rule_stood S s n l r (rule_spread_low p u j hp hu a m i b) = n.low_stands p hp
  rule_stood S s n l r (rule_spread_high p u j hp hu a m i b) = n.high_stands p hp
  rule_stood S s n l r (rule_same_size a la ua b lb ub u g o h z ha hla hua hb hlb hub hu) =
      every_append (s.lower_lit la) _ (n.low_stands la hla) (every_append (s.upper_lit ua) _ (n.high_stands ua hua) (every_append (s.lower_lit lb) _ (n.low_stands lb hlb) (n.high_stands ub hub)))

  each_recorded : (ms : List ℕ) → Consistent ms → (ps : List Proposal) → ((x : Proposal) → Memᴰ x ps → Memᴰ x (analysis d ms).props) → Each (Proposes d (note_all d ms)) ps → Each (Recorded d ms) ps
  each_recorded ms c [] sub nothing = nothing
  each_recorded ms c (p ∷ ps) sub (also x e) =
      also (record { proposed = sub p (Memᴰ.head refl); stood = rule_stood (In ms) (note_all d ms) (noted_all d ms c) _ _ x }) (each_recorded ms c ps (λ y m. sub y (Memᴰ.tail m)) e)

  stage_consistent : {w : World} {t : List ℕ} {a : Going} {ls : List ℕ} → Stage d w t a ls → Consistent w.standing → Consistent a.world.standing
  unfolding entry join_by noting
  stage_consistent Stage.first c = c
  stage_consistent (Stage.next {a = a} {l = l} s n e) c = add_consistent a.world l (not_taken a.world l n) (stage_consistent s c)

  pub analyzes_consistent : {w : World} {c : Call} {ms : List ℕ} → Analyzes d w c ms → Consistent w.standing →
      Consistent ms
  analyzes_consistent {w} (of_propagate room t l p e n) c = add_consistent w l (not_taken w l n) c
  analyzes_consistent (of_initialize room t a l ls s n) c = add_consistent a.world l (not_taken a.world l n) (stage_consistent s c)
  analyzes_consistent (of_last room t a s) c = stage_consistent s c

  -- No analysis of any list of calls proposes a literal that stands or whose negation stands, under either option.
  pub nothing_standing_proposed : (before : List Call) (c : Call) (ms : List ℕ) → Analyzes d (run d before) c ms → Each (λ l r. (In ms l → ⊥) × (In ms (negate l) → ⊥)) (analysis d ms).props
  nothing_standing_proposed before c ms a = whole.nothing_standing_proposed d k ms (analyzes_consistent a (run_consistent d before))

  module _ (w : World) (g : Consistent w.standing) where
    -- what call c recorded: reasons of its analyses, each with what it holds standing there
    abbrev New : Call → List Proposal → Type 0
    New c ps = Each (λ l r. (ms : List ℕ) × Analyzes d w c ms × Recorded d ms l r) ps

    record Grown (c : Call) (v : World) : Type 0 where
      recent : List Proposal
      all : v.reasons ≡ recent ++ w.reasons
      new : New c recent

    nothing_new : (c : Call) (v : World) → v.reasons ≡ w.reasons → Grown c v
    nothing_new c v e = record { recent = []; all = e; new = nothing }

    one_more : (c : Call) (v v' : World) (ms : List ℕ) → Analyzes d w c ms → v'.reasons ≡ (analysis d ms).props ++ v.reasons → Grown c v → Grown c v'
    one_more c v v' ms a e x =
        let h = analyzes_consistent a g in
        record {
          recent = (analysis d ms).props ++ x.recent;
          all = e ∙ ap (λ (z : List Proposal). (analysis d ms).props ++ z) x.all ∙ sym (append_assoc (analysis d ms).props x.recent w.reasons);
          new = each_append (each_map (λ l r y. (ms, a, y)) (each_recorded ms h (analysis d ms).props (λ _ m. m) (good d k ms h).props)) x.new;
        }

    -- a notification's records
    looked_more : (c : Call) (v : World) (t : List ℕ) (l : ℕ) (o : Looked) → o ≡ looked d (l ∷ v.standing) t → halted o.judgement ≡ false → Analyzes d w c (l ∷ v.standing) → Grown c v → Grown c (noting v l o)
    unfolding noting
    looked_more c v t l o e q a x =
        let z : o.records ≡ (analysis d (l ∷ v.standing)).props =
        subst (λ (y : Looked). halted y.judgement ≡ false → y.records ≡ (analysis d (l ∷ v.standing)).props) (sym e) (saw_records d (l ∷ v.standing) t (saw d (l ∷ v.standing) t)) q in
        one_more c v _ (l ∷ v.standing) a (ap (λ (y : List Proposal). y ++ v.reasons) z) x

    module _ (room : Bool) (t : List ℕ) where
      steps_more : {a b : Going} {ls : List ℕ} → Steps d a ls b → Stage d w t a ls → halted b.judgement ≡ false → Grown (initialize room t) a.world →
          Grown (initialize room t) b.world × (b.judgement ≡ fine → Stage d w t b [])
      unfolding join_by
      steps_more (Steps.over e) s h x = (x, λ _. s)
      steps_more {a} {b} (Steps.more {l = l} {ls = ls} o e f q r) s h x =
          let n = not_stands a.world l f in
          let s' : Stage d w t (join_by a l o fine) ls = subst (λ (y : Looked). y.judgement ≡ fine → Stage d w t (join_by a l y fine) ls) (sym e) (λ j. Stage.next s n j) q in
          steps_more r s' h (looked_more _ a.world a.table l o e (fine_on q) (of_initialize room t a l ls s n) x)
      steps_more {a} (Steps.ends {l = l} {ls = ls} o e f q) s h x =
          (looked_more _ a.world a.table l o e (clash_on q) (of_initialize room t a l ls s (not_stands a.world l f)) x, λ j. absurd (clash_not_fine j))
      steps_more (Steps.halts n e) s h x = absurd (not_halted e h)

      begin : Grown (initialize room t) (entry w t).world
      unfolding entry
      begin = nothing_new _ _ refl

    did_grown : {c : Call} {o : Outcome} → Did d w c o → Grown c o.world
    unfolding refuse adding settled_by tell last_by finish_by
    did_grown (Did.away c n) = nothing_new c w refl
    did_grown (Did.added room t l p e f kn) = nothing_new _ _ refl
    did_grown (Did.agreed room t l p pf o e f q bt kn) = looked_more _ w t l o e (fine_on q) (of_propagate room t l p pf (not_stands w l f)) (nothing_new _ w refl)
    did_grown (Did.clashed room t l p pf o e f q bt kn) = looked_more _ w t l o e (clash_on q) (of_propagate room t l p pf (not_stands w l f)) (nothing_new _ w refl)
    did_grown (Did.took room l x xs e) = nothing_new _ _ refl
    did_grown (Did.asked room q) = nothing_new _ _ refl
    did_grown (Did.began room t a s j v bt) = let x = steps_more room t s Stage.first (fine_on j) (begin room t) in one_more _ a.world _ _ (of_last room t a (x.1 j)) refl x.0
    did_grown (Did.began_last room t a s j c v bt) = let x = steps_more room t s Stage.first (fine_on j) (begin room t) in one_more _ a.world _ _ (of_last room t a (x.1 j)) refl x.0
    did_grown (Did.began_clash room t a s j bt) = (steps_more room t s Stage.first (clash_on j) (begin room t)).0

  -- Each reason that a call records is one of an analysis that it made, and what the reason holds stood there.
  pub recorded_stood : (before : List Call) (c : Call) → (recent : List Proposal) × ((answered d before c).world.reasons ≡ recent ++ (run d before).reasons) ×
      Each (λ l r. (ms : List ℕ) × Analyzes d (run d before) c ms × Recorded d ms l r) recent
  recorded_stood before c = let x = did_grown (run d before) (run_consistent d before) (did d (run d before) c) in (x.recent, x.all, x.new)

  module _ (s : State) (S : ℕ → Type 0) (n : Noted d S s) where
    there : (u v : ℕ) → u < d.vertices → unjoined d s u v ≡ false → Same d s u v
    unfolding unjoined
    there u v h e = within_joined d k s.edge_state false u h v (yes _ e)
      where
        yes : (b : Bool) → not b ≡ false → b ≡ true
        yes true q = refl
        yes false q = absurd (true≢false q)

    path : (u v : ℕ) → u < d.vertices → unjoined d s u v ≡ false → Every S (connected_path d s u v)
    path u v h e = path_stands d S s k n u v h (there u v h e)

    end_a : (g : ℕ) (f : Bool) → g < d.edges → pick f (right d g) (left d g) < d.vertices
    end_a g f h = pick_ind (λ x. x < d.vertices) f _ _ (λ _. (k.fine.within g h).b) (λ _. (k.fine.within g h).a)

    end_b : (g : ℕ) (f : Bool) → g < d.edges → pick f (left d g) (right d g) < d.vertices
    end_b g f h = pick_ind (λ x. x < d.vertices) f _ _ (λ _. (k.fine.within g h).a) (λ _. (k.fine.within g h).b)

    abbrev W : Reason → List ℕ → Type 0
    W r list = Every (λ x. S x ⊎ In (recorded_in d r) x) list

    stand : (r : Reason) (list : List ℕ) → Every S list → W r list
    stand r list e = every_map (λ x m. inl m) e

    held : (r : Reason) (list : List ℕ) → Every (In (recorded_in d r)) list → W r list
    held r list e = every_map (λ x m. inr m) e

    -- the list of a reason whose paths are there
    list_walked : (r : Reason) → Formed d r → gone d s r ≡ false → W r (list_of d s r)
    unfolding list_of gone recorded_in
    list_walked r (formed_in g h) e = stand r _ (path _ _ (k.fine.within g h).a e)
    list_walked r (formed_between i g f hi) e =
        every_append (connected_path d s (left d i) (pick f (right d g) (left d g))) _ (stand r _ (path _ _ (k.fine.within i hi).a (or_left _ _ e)))
        (every_append (connected_path d s (right d i) (pick f (left d g) (right d g))) _
        (stand r _ (path _ _ (k.fine.within i hi).b (or_right (unjoined d s (left d i) (pick f (right d g) (left d g))) _ e))) (held r _ (every_in _)))
    list_walked r (formed_too_large g ls h m) e =
        every_append (decided_region d s (left d g)) _ (stand r _ (decided_stands d S s k n _ (k.fine.within g h).a))
        (every_append (decided_region d s (right d g)) _ (stand r _ (decided_stands d S s k n _ (k.fine.within g h).b)) (held r _ (every_in _)))
    list_walked r (formed_large v h) e = stand r _ (decided_stands d S s k n v h)
    list_walked r (formed_small v) e = stand r _ (potential_stands d S s k n v)
    list_walked r (formed_mismatch g p q f h hp hq) e =
        every_append (connected_path d s (pick f (right d g) (left d g)) p) _ (stand r _ (path _ _ (end_a g f h) (or_left _ _ e)))
        (every_append (connected_path d s (pick f (left d g) (right d g)) q) _
        (stand r _ (path _ _ (end_b g f h) (or_right (unjoined d s (pick f (right d g) (left d g)) p) _ e)))
        (every_append (s.upper_lit p) _ (stand r _ (n.high_stands p hp)) (stand r _ (n.low_stands q hq))))
    list_walked r (formed_spread p u ls hp m) e = every_append (connected_path d s p u) _ (stand r _ (path p u hp e)) (held r _ (every_in _))
    list_walked r (formed_same_size p lp up q lq uq u hp hq hu xa ya xb yb) e =
        every_append (decided_region d s p) _ (stand r _ (decided_stands d S s k n p hp))
        (every_append (decided_region d s q) _ (stand r _ (decided_stands d S s k n q hq))
        (every_append (decided_region d s u) _ (stand r _ (decided_stands d S s k n u hu)) (held r _ (every_in _))))

  -- A list that a fetch of a literal gives, whatever was undone since: the literals of walked edges, and a step 4 edge's two, stand.
  pub fetched_walked : (before : List Call) (room : Bool) (l : ℕ) (list : List ℕ) → (call d (ask room (reason_for l)) (run d before)).answer ≡ reason list →
      (r : Reason) × (reason_of l (run d before).reasons ≡ r ∷ []) × Walked d (run d before).standing r list
  unfolding recorded_in
  fetched_walked before room l list e =
      let w = run d before in
      let (r, q, g, x) = fetch_open d w room l list e in
      let f = each_found l r w.reasons (run_formed d k before) q in
      let z = list_walked (note_all d w.standing) (In w.standing) (noted_all d w.standing (run_consistent d before)) r f g in
      (r, q, subst (Walked d w.standing r) x z)

  -- the first that is false is so, and its negation is true
  saw_backed : (ls t : List ℕ) → Consistent ls → {o : Looked} → Saw d ls t o → o.judgement ≡ clash → Backed ls t o.left
  unfolding stop clashes offered false_list list_for
  saw_backed ls t c (saw_stop n) h = absurd (stop_not_clash n h)
  saw_backed ls t c (saw_conflict z e) h = all_stand (conflicts d k ls c z e).stands
  saw_backed ls t c (saw_false p ps e cur) h =
      let (r, q) = reason_there p (analysis d ls).props (offer_in (analysis d ls) p (first_in t p ps _ e)) in
      let j : Justifies d ls p r = each_found p r (analysis d ls).props (reasons d k ls c ls c (λ _ m. m)) q in
      subst (λ (z : List Reason). Backed ls t (list_for d ls z ++ (negate p ∷ []))) (sym q)
      (of_false (fetched d ls r) p j.stands (false_negation t p (first_false_lem t _ p ps e))
      (subst (λ (z : List Reason). some_current t (list_for d ls z ++ (negate p ∷ [])) ≡ true) q cur))
  saw_backed ls t c (saw_fine e) h = absurd (clash_not_fine (sym h))

  saw_table : (ls t : List ℕ) {o : Looked} → Saw d ls t o → o.judgement ≡ clash → o.table ≡ t
  unfolding stop clashes offered
  saw_table ls t (saw_stop n) h = refl
  saw_table ls t (saw_conflict z e) h = refl
  saw_table ls t (saw_false p ps e cur) h = refl
  saw_table ls t (saw_fine e) h = absurd (clash_not_fine (sym h))

  looked_backed : (ls t : List ℕ) → Consistent ls → (o : Looked) → o ≡ looked d ls t → o.judgement ≡ clash → Backed ls o.table o.left
  looked_backed ls t c o e h =
      let x : Saw d ls t o = subst (Saw d ls t) (sym e) (saw d ls t) in
      subst (λ z. Backed ls z o.left) (sym (saw_table ls t x h)) (saw_backed ls t c x h)

  steps_backed : {a b : Going} {ls : List ℕ} → Steps d a ls b → a.judgement ≡ fine → b.judgement ≡ clash → Consistent a.world.standing → Backed b.world.standing b.table b.world.last
  unfolding join_by noting
  steps_backed (Steps.over e) i j c = absurd (clash_not_fine (sym j ∙ i))
  steps_backed {a} (Steps.more {l = l} o e f q s) i j c = steps_backed s refl j (add_consistent a.world l f c)
  steps_backed {a} (Steps.ends {l = l} o e f q) i j c = looked_backed _ _ (add_consistent a.world l f c) o e q
  steps_backed (Steps.halts n e) i j c = absurd (not_halted e (clash_on j))

  did_backed : (w : World) → Consistent w.standing → {c : Call} {o : Outcome} → Did d w c o → is_conflict o.answer ≡ true → Backed o.world.standing o.table o.world.last
  unfolding answer_kind refuse settled_by noting tell last_by finish_by entry
  did_backed w g (Did.away c n) h = absurd (false≢true h)
  did_backed w g (Did.added room t l p e f kn) h = absurd (false≢true h)
  did_backed w g (Did.agreed room t l p pf o e f q bt kn) h = absurd (false≢true h)
  did_backed w g (Did.clashed room t l p pf o e f q bt kn) h = looked_backed _ t (add_consistent w l f g) o e q
  did_backed w g (Did.took room l z zs e) h = absurd (false≢true h)
  did_backed w g (Did.asked room q) h = absurd (false≢true (sym (answer_quiet d w q) ∙ h))
  did_backed w g (Did.began room t a s j v bt) h = absurd (false≢true h)
  did_backed w g (Did.began_last room t a s j c v bt) h = all_stand (conflicts d k a.world.standing (steps_consistent d s (fine_on j) g) c v).stands
  did_backed w g (Did.began_clash room t a s j bt) h = steps_backed s refl j g

  -- The list that a conflict leaves: each literal stands, but a false proposal's negation, which is true in the table.
  pub conflict_backed : (before : List Call) (c : Call) → (answered d before c).answer ≡ conflicting →
      Backed (answered d before c).world.standing (answered d before c).table (answered d before c).world.last
  unfolding answer_kind
  conflict_backed before c e = did_backed (run d before) (run_consistent d before) (did d (run d before) c) (ap is_conflict e)
