-- After any list of calls, every literal that stands, that a recorded reason holds or that the list last left has is the plan's; so every list
-- that a fetch gives has none but the plan's literals.
use mathlib.Core.Path.{◌≡◌, refl, sym, ap, subst, ◌∙◌}
use mathlib.Core.Logic.{◌⊎◌, ⊎_elim}
use mathlib.Core.Bool.{true, false, ◌&&◌, ◌||◌}
use mathlib.Core.List.Memᴰ
use mathlib.Core.List.{List, [], ◌∷◌, ◌++◌}
use Prim.Native.Nat.{ℕ, pred, ◌/◌}
use native.Mathlib.Omega.{arith}
use lib.Dec.{eqb}
use Rattle.base.specs.Lists.{Every, none, more, some}
use Rattle.base.proofs.Lists.{every_map, every_append}
use Rattle.base.proofs.Loop.{pick_no}
use Rattle.base.proofs.Tests.{and_left}
use Rattle.sat.specs.Literal.{negate}
use Rattle.sat.proofs.Literal.{variable_negate}
use Rattle.division.specs.Plan.{Plan, Proper}
use Rattle.division.specs.State.{State}
use Rattle.division.specs.Reasons.{Reason}
use Rattle.division.specs.Analysis.{Proposal, Each, nothing, also}
use Rattle.division.specs.Noting.{note_all, In, Consistent}
use Rattle.division.specs.Runs.{analysis, fetched, reason_of, Justifies, look, start}
use Rattle.division.specs.Noted.{Noted}
use Rattle.division.proofs.Noting.{noted_all}
use Rattle.division.specs.Explained.{Explains}
use Rattle.division.specs.Proposed.{Proposes, rule_in_group, rule_between, rule_too_large, rule_large, rule_small, rule_mismatch, rule_spread_low, rule_spread_high, rule_same_size}
use Rattle.division.proofs.Whole.{each_found, reason_there, reasons, conflicts}
use Rattle.calls.specs.Table.{knows, true_in, entered}
use Rattle.calls.specs.Look.{Looked, looked, list_for, false_list, stop, clashes, offered}
use Rattle.calls.specs.Calls.{World, built, Query, reason_for, last_left, run_between, page, Call, ask, consistent, reason, Outcome, refuse, taken}
use Rattle.calls.specs.Calls.{adding, noting, settled_by, tell, on_ask, Going, join_by, last_by, finish_by, entry, call, after, run}
use Rattle.calls.specs.Truths.{recorded_in}
use Rattle.calls.proofs.Claim.{last_given}
use Rattle.calls.proofs.Queries.{answer_kind}
use Rattle.calls.proofs.Rising.{swept_every}
use Rattle.calls.proofs.Fetchable.{each_append, each_map, good, run_explained, is_known}
use Rattle.calls.proofs.Looks.{first_in, offer_in, halted, saw_records}
use Rattle.calls.proofs.Stands.{add_consistent, call_consistent, not_halted, clash_on, fine_on}
use Rattle.calls.proofs.Truths.{fetched_walked}
use Rattle.calls.proofs.View.{Saw, saw_stop, saw_conflict, saw_false, saw_fine, saw, Steps, Did, did}
use Rattle.claims.proofs.Asked.{given_kind, call_asked}

-- the negation of a literal is known where it is
known_negated : (d : Plan) (l : ℕ) → knows d (negate l) ≡ knows d l
unfolding knows
known_negated d l = ap (λ (v : ℕ). some (λ g. eqb v (d.edge_lit g / 2)) d.edges || some (λ u. some (λ j. eqb v (d.dom_lit u j / 2)) (pred (d.domain_len u))) d.vertices) (variable_negate l)

module _ (d : Plan) (k : Proper d) where
  pub Known : ℕ → Type 0
  Known x = knows d x ≡ true

  -- every member of a list
  in_every : {P : ℕ → Type 0} (l : List ℕ) → Every P l → (x : ℕ) → In l x → P x
  in_every [] _ x m = elim m [ ]
  in_every {P} (y ∷ l) (more p e) x (Memᴰ.head q) = subst P (sym q) p
  in_every (y ∷ l) (more p e) x (Memᴰ.tail m) = in_every l e x m

  of_in : (ls m : List ℕ) → Every Known ls → Every (In ls) m → Every Known m
  of_in ls m a b = every_map (λ x i. in_every ls a x i) b

  -- what a reason holds stood when it was recorded
  rule_stood : (S : ℕ → Type 0) (s : State) → Noted d S s → (l : ℕ) (r : Reason) → Proposes d s l r → Every S (recorded_in d r)
  unfolding recorded_in
  rule_stood S s n l r (rule_in_group g h z a) = none
  rule_stood S s n l r (rule_between i g f hi h zi z a b) = more ((n.disconnected i hi).0 zi) none
  rule_stood S s n l r (rule_too_large g w h hw z ne a m) = n.high_stands w hw
  rule_stood S s n l r (rule_large v j h u a b) = none
  rule_stood S s n l r (rule_small v j h u a b) = none
  rule_stood S s n l r (rule_mismatch g p q f h hp hq z a b m) = none
  rule_stood S s n l r (rule_spread_low p u j hp hu a m i b) = n.low_stands p hp
  rule_stood S s n l r (rule_spread_high p u j hp hu a m i b) = n.high_stands p hp
  rule_stood S s n l r (rule_same_size a la ua b lb ub u g o h z ha hla hua hb hlb hub hu) =
      every_append (s.lower_lit la) _ (n.low_stands la hla)
      (every_append (s.upper_lit ua) _ (n.high_stands ua hua) (every_append (s.lower_lit lb) _ (n.low_stands lb hlb) (n.high_stands ub hub)))

  abbrev Holding : ℕ → Reason → Type 0
  Holding l r = Every Known (recorded_in d r)

  props_known : (ls : List ℕ) → Consistent ls → Every Known ls → Each Holding (analysis d ls).props
  props_known ls c e = each_map (λ l r p. of_in ls _ e (rule_stood (In ls) (note_all d ls) (noted_all d ls c) l r p)) (good d k ls c).props

  -- what an analysis proposes is known
  proposed_known : (ls : List ℕ) → Consistent ls → (p : ℕ) (r : Reason) → reason_of p (analysis d ls).props ≡ r ∷ [] → Known p
  unfolding Known
  proposed_known ls c p r q =
      let y : Each (Explains d (note_all d ls)) ((analysis d ls).props ++ []) = run_explained d k (look (start ls)) ls c (λ _ z. z) in
      is_known d k (note_all d ls) p r (each_found p r (analysis d ls).props (left_part (analysis d ls).props y) q)
    where
      left_part : {P : ℕ → Reason → Type 0} (a : List Proposal) → Each P (a ++ []) → Each P a
      left_part [] e = nothing
      left_part (x ∷ a) (also p e) = also p (left_part a e)

  -- the list that a look leaves
  saw_known : (ls t : List ℕ) → Consistent ls → Every Known ls → {o : Looked} → Saw d ls t o → Every Known o.left
  unfolding stop clashes offered false_list list_for Known
  saw_known ls t c e (saw_stop n) = none
  saw_known ls t c e (saw_conflict z v) = of_in ls _ e (conflicts d k ls c z v).stands
  saw_known ls t c e (saw_false p ps f cur) =
      let (r, q) = reason_there p (analysis d ls).props (offer_in (analysis d ls) p (first_in t p ps _ f)) in
      let j : Justifies d ls p r = each_found p r (analysis d ls).props (reasons d k ls c ls c (λ _ m. m)) q in
      subst (λ (z : List Reason). Every Known (list_for d ls z ++ (negate p ∷ []))) (sym q)
      (every_append (fetched d ls r) _ (of_in ls _ e j.stands) (more (known_negated d p ∙ proposed_known ls c p r q) none))
  saw_known ls t c e (saw_fine v) = none

  -- of a world
  pub record AllKnown (w : World) : Type 0 where
    pub consistent : Consistent w.standing
    pub standing : Every Known w.standing
    pub reasons : Each Holding w.reasons
    pub last : Every Known w.last

  look_known : (w : World) (l : ℕ) (t : List ℕ) (o : Looked) → o ≡ looked d (l ∷ w.standing) t → halted o.judgement ≡ false → taken w l ≡ false → Known l →
      AllKnown w → AllKnown (noting w l o)
  unfolding noting
  look_known w l t o e h f kn x =
      let ls = l ∷ w.standing in
      let c = add_consistent w l f x.consistent in
      let s = more kn x.standing in
      let y : Saw d ls t o = subst (Saw d ls t) (sym e) (saw d ls t) in
      record {
        consistent = c;
        standing = s;
        reasons = each_append (subst (Each Holding) (sym (saw_records d ls t y h)) (props_known ls c s)) x.reasons;
        last = saw_known ls t c s y;
      }

  steps_known : {a b : Going} {ls : List ℕ} → Steps d a ls b → halted b.judgement ≡ false → Every Known ls → AllKnown a.world → AllKnown b.world
  unfolding join_by
  steps_known (Steps.over e) h n x = x
  steps_known {a} (Steps.more {l = l} o e f q s) h (more p n) x = steps_known s h n (look_known a.world l a.table o e (fine_on q) f p x)
  steps_known {a} (Steps.ends {l = l} o e f q) h (more p n) x = look_known a.world l a.table o e (clash_on q) f p x
  steps_known (Steps.halts n e) h m x = absurd (not_halted e h)

  entered_known : (t : List ℕ) → Every Known (entered d t)
  unfolding entered Known
  entered_known t = every_map (λ x p. and_left (knows d x) _ p.1) (swept_every (λ l. knows d l && true_in t l) 0 _)

  tail_of : {P : ℕ → Type 0} {x : ℕ} {ls : List ℕ} → Every P (x ∷ ls) → Every P ls
  tail_of (more p e) = e

  did_known : (w : World) {c : Call} {o : Outcome} → Did d w c o → Consistent o.world.standing → AllKnown w → AllKnown o.world
  unfolding refuse adding settled_by tell last_by finish_by entry Known
  did_known w (Did.away c n) g x = x
  did_known w (Did.added room t l p e f kn) g x = record { consistent = g; standing = more kn x.standing; reasons = x.reasons; last = x.last }
  did_known w (Did.agreed room t l p pf o e f q bt kn) g x = look_known w l t o e (fine_on q) f kn x
  did_known w (Did.clashed room t l p pf o e f q bt kn) g x = look_known w l t o e (clash_on q) f kn x
  did_known w (Did.took room l y ys e) g x = record { consistent = g; standing = tail_of (subst (Every Known) e x.standing); reasons = x.reasons; last = x.last }
  did_known w (Did.asked room q) g x = x
  did_known w (Did.began room t a s j v bt) g x =
      let y = steps_known s (fine_on j) (entered_known t) x in
      record { consistent = g; standing = y.standing; reasons = each_append (props_known _ g y.standing) y.reasons; last = y.last }
  did_known w (Did.began_last room t a s j c v bt) g x =
      let y = steps_known s (fine_on j) (entered_known t) x in
      record {
        consistent = g;
        standing = y.standing;
        reasons = each_append (props_known _ g y.standing) y.reasons;
        last = of_in _ _ y.standing (conflicts d k a.world.standing g c v).stands;
      }
  did_known w (Did.began_clash room t a s j bt) g x = steps_known s (clash_on j) (entered_known t) x

  after_known : (cs : List Call) (w : World) → AllKnown w → AllKnown (after d w cs)
  unfolding after
  after_known [] w x = x
  after_known (c ∷ cs) w x = after_known cs (call d c w).world (did_known w (did d w c) (call_consistent d w c x.consistent) x)

  pub run_known : (cs : List Call) → AllKnown (run d cs)
  unfolding run built
  run_known cs = after_known cs built (record { consistent = λ l a b. absurd (Memᴰ.not-nil a); standing = none; reasons = nothing; last = none })

  -- every list that a fetch gives
  module _ (before : List Call) where
    abbrev w : World
    w = run d before

    asked_known : (q : Query) (ls : List ℕ) → given_kind q ≡ 5 → (call d (ask true q) w).answer ≡ reason ls → Every Known ls
    unfolding given_kind
    asked_known (reason_for l) ls z e =
        let x = run_known before in
        let (r, f, g) = fetched_walked d k before true l ls e in
        let h = each_found l r w.reasons x.reasons f in
        every_map (λ y z. ⊎_elim (λ i. in_every w.standing x.standing y i) (λ i. in_every (recorded_in d r) h y i) z) g
    asked_known last_left ls z e = subst (Every Known) (last_given d w true ls e) (run_known before).last
    asked_known (run_between p q) ls z e = absurd (omega arith)
    asked_known (page len) ls z e = absurd (omega arith)

    -- no other call gives one
    pub reason_known : (c : Call) (ls : List ℕ) → (call d c w).answer ≡ reason ls → (x : ℕ) → In ls x → knows d x ≡ true
    unfolding Known answer_kind call on_ask tell
    reason_known c ls e =
        let a = call_asked d w c (reason ls) e (omega arith) in
        in_every ls (asked_known a.query ls a.kind (pick_no _ _ refl ∙ a.answer))
