-- Every list that a fetch gives fits a reason buffer of edges + 2 vertices + 4, whatever was undone since it was recorded.
use Prim.Native.Nat.{ℕ, ◌+◌, ◌<◌, ◌≤◌, zero-le}
use native.Mathlib.Omega.{arith}
use mathlib.Core.Path.{◌≡◌, refl, sym, ap, subst}
use mathlib.Core.Bool.{Bool, true, false, not, true≢false}
use mathlib.Core.List.{List, [], ◌∷◌, ◌++◌}
use lib.ListN.{length, length-append}
use Rattle.base.specs.Iter.{pick}
use Rattle.base.proofs.Loop.{pick_ind}
use Rattle.sat.specs.Literal.{negate}
use Rattle.division.specs.Plan.{Plan, Proper, left, right}
use Rattle.division.specs.Regions.{within}
use Rattle.division.specs.State.{State}
use Rattle.division.specs.Reasons.{adjacent_same_size_regions, Reason, edge_in_same_group, edge_between_different_groups, too_large_if_regions_are_merged, region_already_large, region_already_small, inconsistent_bounds_if_regions_are_merged, bound_propagation_within_region, list_of, connected_path}
use Rattle.division.specs.Analysis.{Proposal, Each, nothing, also}
use Rattle.division.specs.Noting.{note_all, Consistent}
use Rattle.division.specs.Runs.{analysis, Justifies, reason_of}
use Rattle.division.specs.Noted.{Bounded}
use Rattle.division.proofs.Noted.{low_one, high_one}
use Rattle.division.specs.Explained.{Explains, by_in_group, by_between, by_too_large, by_large, by_small, by_mismatch, by_spread_low, by_spread_high, by_same_size}
use Rattle.division.proofs.Walk.{within_joined}
use Rattle.division.proofs.Fits.{path_short, decided_short, potential_short, decided_few}
use Rattle.division.proofs.Noting.{noted_all}
use Rattle.division.proofs.Whole.{conflicts, reasons, each_found, reason_there}
use Rattle.calls.specs.Look.{unjoined, gone, Looked, stop, clashes, offered, false_list, list_for}
use Rattle.calls.specs.Calls.{World, built, reason_for, last_left, Call, ask, reason, Outcome, refuse, noting, adding, settled_by, tell, Going, join_by, last_by, finish_by, entry, call, after, run}
use Rattle.calls.specs.Claim.{answered}
use Rattle.calls.proofs.View.{or_right, Saw, saw, saw_stop, saw_conflict, saw_false, saw_fine, Steps, over, more, ends, halts, Did, away, added, agreed, clashed, took, asked, began, began_last, began_clash, did}
use Rattle.calls.proofs.Looks.{halted, offer_in, first_in}
use Rattle.calls.proofs.Stands.{add_consistent, or_left, fine_on, clash_on, not_halted, steps_consistent, call_consistent, run_consistent}
use Rattle.calls.proofs.Recent.{did_recent}
use Rattle.calls.proofs.Fetchable.{each_map, each_append, run_explained}
use Rattle.calls.proofs.Claim.{fetch_open, last_given}

-- what stays true of a recorded reason whatever is undone
pub data Formed (d : Plan) : Reason → Type 0 where
  formed_in : (g : ℕ) → g < d.edges → Formed d (edge_in_same_group g)
  formed_between : (h g : ℕ) (flip : Bool) → h < d.edges → Formed d (edge_between_different_groups h g flip)
  formed_too_large : (g : ℕ) (ls : List ℕ) → g < d.edges → length ls ≤ 1 → Formed d (too_large_if_regions_are_merged g ls)
  formed_large : (v : ℕ) → v < d.vertices → Formed d (region_already_large v)
  formed_small : (v : ℕ) → Formed d (region_already_small v)
  formed_mismatch : (g a b : ℕ) (flip : Bool) → g < d.edges → a < d.vertices → b < d.vertices → Formed d (inconsistent_bounds_if_regions_are_merged g a b flip)
  formed_spread : (k u : ℕ) (ls : List ℕ) → k < d.vertices → length ls ≤ 1 → Formed d (bound_propagation_within_region k u ls)
  formed_same_size : (a : ℕ) (la ua : List ℕ) (b : ℕ) (lb ub : List ℕ) (u : ℕ) → a < d.vertices → b < d.vertices → u < d.vertices →
      length la ≤ 1 → length ua ≤ 1 → length lb ≤ 1 → length ub ≤ 1 → Formed d (adjacent_same_size_regions a la ua b lb ub u)

explained_formed : (d : Plan) (s : State) (l : ℕ) (r : Reason) → Explains d s l r → Formed d r
explained_formed d s l r (by_in_group g h e j) = formed_in g h
explained_formed d s l r (by_between i g f hi h e a b) = formed_between i g f hi
explained_formed d s l r (by_too_large g ls w b h e hw a u m) = formed_too_large g ls h (high_one d w u)
explained_formed d s l r (by_large v j h m e a) = formed_large v h
explained_formed d s l r (by_small v j h m e a) = formed_small v
explained_formed d s l r (by_mismatch g p q f h e hp hq a b m) = formed_mismatch g p q f h hp hq
explained_formed d s l r (by_spread_low p u ls b j hp hu m e a w i) = formed_spread p u ls hp (low_one d p w)
explained_formed d s l r (by_spread_high p u ls b j hp hu m e a w i) = formed_spread p u ls hp (high_one d p w)
explained_formed d s l r (by_same_size p lp up q lq uq u g o h e hp hq hu xa ya xb yb) = formed_same_size p lp up q lq uq u hp hq hu xa ya xb yb

-- what a reason buffer must hold
abbrev room : Plan → ℕ
room d = d.edges + d.vertices + d.vertices + 4

module _ (d : Plan) (k : Proper d) where
  path : (s : State) (u v : ℕ) → u < d.vertices → unjoined d s u v ≡ false → length (connected_path d s u v) < d.vertices
  unfolding unjoined
  path s u v h e = path_short d s k u v h (within_joined d k s.edge_state false u h v (yes _ e))
    where
      yes : (b : Bool) → not b ≡ false → b ≡ true
      yes true q = refl
      yes false q = absurd (true≢false q)

  end_at : (g : ℕ) (f : Bool) → g < d.edges → pick f (right d g) (left d g) < d.vertices
  end_at g f h = pick_ind (λ x. x < d.vertices) f _ _ (λ _. (k.fine.within g h).b) (λ _. (k.fine.within g h).a)

  end_at' : (g : ℕ) (f : Bool) → g < d.edges → pick f (left d g) (right d g) < d.vertices
  end_at' g f h = pick_ind (λ x. x < d.vertices) f _ _ (λ _. (k.fine.within g h).a) (λ _. (k.fine.within g h).b)

  formed_fits : (s : State) → Bounded d s → (r : Reason) → Formed d r → gone d s r ≡ false → length (list_of d s r) ≤ room d
  unfolding list_of gone
  formed_fits s b r (formed_in g h) e = omega (arith, path s _ _ (k.fine.within g h).a e)
  formed_fits s b r (formed_between i g f hi) e =
      simp length-append (omega (arith, path s _ _ (k.fine.within i hi).a (or_left _ _ e), path s _ _ (k.fine.within i hi).b (or_right (unjoined d s (left d i) (pick f (right d g) (left d g))) _ e)))
  formed_fits s b r (formed_too_large g ls h m) e = simp length-append (omega (arith, decided_short d s k _ (k.fine.within g h).a, decided_short d s k _ (k.fine.within g h).b))
  formed_fits s b r (formed_large v h) e = omega (arith, decided_short d s k v h)
  formed_fits s b r (formed_small v) e = omega (arith, potential_short d s v)
  formed_fits s b r (formed_mismatch g p q f h hp hq) e =
      simp length-append (omega (arith, path s _ _ (end_at g f h) (or_left _ _ e), path s _ _ (end_at' g f h) (or_right (unjoined d s (pick f (right d g) (left d g)) p) _ e), high_one d p (b.high p hp), low_one d q (b.low q hq)))
  formed_fits s b r (formed_spread p u ls hp m) e = simp length-append (omega (arith, path s p u hp e))
  formed_fits s b r (formed_same_size p lp up q lq uq u hp hq hu xa ya xb yb) e =
      simp length-append (omega (arith, decided_few d s k p hp, decided_short d s k q hq, decided_short d s k u hu))

  -- of all that is recorded
  abbrev AllFormed : World → Type 0
  AllFormed w = Each (λ l r. Formed d r) w.reasons

  call_formed : (w : World) (c : Call) → Consistent w.standing → AllFormed w → AllFormed (call d c w).world
  call_formed w c g f =
      let x = did_recent d w (did d w c) in
      let e = run_explained d k x.run (call d c w).world.standing (call_consistent d w c g) (λ _ m. m) in
      subst (Each (λ l r. Formed d r)) (sym x.all) (each_append (each_map (λ l r y. explained_formed d _ l r y) e) f)

  after_formed : (cs : List Call) (w : World) → Consistent w.standing → AllFormed w → AllFormed (after d w cs)
  unfolding after
  after_formed [] w g f = f
  after_formed (c ∷ cs) w g f = after_formed cs (call d c w).world (call_consistent d w c g) (call_formed w c g f)

  pub run_formed : (cs : List Call) → AllFormed (run d cs)
  unfolding run built
  run_formed cs = after_formed cs built (λ l a b. mathlib.Core.List.Memᴰ.not-nil a) nothing

  -- the list last left
  saw_left : (ls t : List ℕ) → Consistent ls → {o : Looked} → Saw d ls t o → length o.left ≤ room d
  unfolding stop clashes offered false_list list_for
  saw_left ls t c (saw_stop n) = zero-le
  saw_left ls t c (saw_conflict z e) = (conflicts d k ls c z e).fits
  saw_left ls t c (saw_false p ps e cur) =
      let (r, q) = reason_there p (analysis d ls).props (offer_in (analysis d ls) p (first_in t p ps _ e)) in
      let j : Justifies d ls p r = each_found p r (analysis d ls).props (reasons d k ls c ls c (λ _ m. m)) q in
      subst (λ (z : List Reason). length (list_for d ls z ++ (negate p ∷ [])) ≤ room d) (sym q) (simp length-append (omega (arith, j.fits)))
  saw_left ls t c (saw_fine e) = zero-le

  looked_left : (ls t : List ℕ) → Consistent ls → (o : Looked) → o ≡ Rattle.calls.specs.Look.looked d ls t → length o.left ≤ room d
  looked_left ls t c o e = saw_left ls t c (subst (Saw d ls t) (sym e) (saw d ls t))

  steps_left : {a b : Going} {ls : List ℕ} → Steps d a ls b → halted b.judgement ≡ false → Consistent a.world.standing → length a.world.last ≤ room d → length b.world.last ≤ room d
  unfolding join_by noting
  steps_left (over e) h c z = z
  steps_left {a} (more {l = l} o e f q s) h c z = steps_left s h (add_consistent a.world l f c) (looked_left _ _ (add_consistent a.world l f c) o e)
  steps_left {a} (ends {l = l} o e f q) h c z = looked_left _ _ (add_consistent a.world l f c) o e
  steps_left (halts n e) h c z = absurd (not_halted e h)

  did_left : (w : World) {c : Call} {o : Outcome} → Did d w c o → Consistent w.standing → length w.last ≤ room d → length o.world.last ≤ room d
  unfolding refuse adding settled_by noting tell last_by finish_by entry
  did_left w (away c n) g z = z
  did_left w (added room t l p e f kn) g z = z
  did_left w (agreed room t l p pf o e f q bt kn) g z = looked_left _ t (add_consistent w l f g) o e
  did_left w (clashed room t l p pf o e f q bt kn) g z = looked_left _ t (add_consistent w l f g) o e
  did_left w (took room l x xs e) g z = z
  did_left w (asked room q) g z = z
  did_left w (began room t a s j v bt) g z = steps_left s (fine_on j) g z
  did_left w (began_last room t a s j c v bt) g z = (conflicts d k a.world.standing (steps_consistent d s (fine_on j) g) c v).fits
  did_left w (began_clash room t a s j bt) g z = steps_left s (clash_on j) g z

  after_left : (cs : List Call) (w : World) → Consistent w.standing → length w.last ≤ room d → length (after d w cs).last ≤ room d
  unfolding after
  after_left [] w g z = z
  after_left (c ∷ cs) w g z = after_left cs (call d c w).world (call_consistent d w c g) (did_left w (did d w c) g z)

  run_left : (cs : List Call) → length (run d cs).last ≤ room d
  unfolding run built
  run_left cs = after_left cs built (λ l a b. mathlib.Core.List.Memᴰ.not-nil a) zero-le

  heads_formed : (l : ℕ) (r : Reason) (rs : List Reason) (ps : List Proposal) → Each (λ x y. Formed d y) ps → reason_of l ps ≡ r ∷ rs → Formed d r
  unfolding reason_of
  heads_formed l r rs [] x e = absurd (nil_cons e)
    where
      nil_cons : {a : Reason} {k : List Reason} → [] ≡ a ∷ k → ⊥
      nil_cons q = let z : ◌≡◌ {A = ℕ} 0 _ = ap length q in omega arith
  heads_formed l r rs (p ∷ ps) (also y x) e =
      pick_ind (λ (z : List Reason). z ≡ r ∷ rs → Formed d r) _ (p.why ∷ []) (reason_of l ps) (λ _ q. subst (Formed d) (head q) y) (λ _ q. heads_formed l r rs ps x q) e
    where
      head : {a c : Reason} {m n : List Reason} → a ∷ m ≡ c ∷ n → a ≡ c
      head q = cc

  -- whatever was called before: the list of a fetch of a literal fits, and so does the list last left
  pub fetch_fits : (before : List Call) (full : Bool) (l : ℕ) (list : List ℕ) →
      (answered d before (ask full (reason_for l))).answer ≡ reason list → length list ≤ d.edges + d.vertices + d.vertices + 4
  fetch_fits before full l list e =
      let w = run d before in
      let (r, q, n, f) = fetch_open d w full l list e in
      subst (λ (z : List ℕ). length z ≤ room d) f (formed_fits (note_all d w.standing) (noted_all d w.standing (run_consistent d before)).bounded r (heads_formed l r [] _ (run_formed before) q) n)

  pub last_fits : (before : List Call) (full : Bool) (list : List ℕ) →
      (answered d before (ask full last_left)).answer ≡ reason list → length list ≤ d.edges + d.vertices + d.vertices + 4
  last_fits before full list e = subst (λ (z : List ℕ). length z ≤ room d) (last_given d (run d before) full list e) (run_left before)
