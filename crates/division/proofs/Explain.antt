-- A reason that explains a literal forces it on every valid division, and goes on to explain it as more is noted.
use Prim.Native.Nat.{ℕ, suc, ◌+◌, ◌<◌, ◌≤◌}
use native.Mathlib.Omega.{arith}
use mathlib.Core.Path.{◌≡◌, refl, ◌∙◌, ap, sym}
use mathlib.Core.Logic.{◌⊎◌, inl, inr, ⊎_elim}
use mathlib.Core.Bool.{true≢false, Bool, true, false, not, ◌||◌, or-true}
use mathlib.Core.List.{List, [], ◌∷◌, ◌++◌}
use lib.ListN.{get_or}
use borrow.Author.Tests.{eqb-true, eqb-false, eq-eqb, ne_eqb, not-true}
use Rattle.base.specs.Iter.{pick}
use Rattle.base.specs.Lists.{Every, more, tab}
use Rattle.base.proofs.Loop.{pick_ind, true_or}
use Rattle.base.proofs.Tests.{or_cases}
use Rattle.base.proofs.Lists.{every_left, every_right, every_head}
use Rattle.sat.specs.Literal.{negate, value, Holds}
use Rattle.sat.proofs.Literal.{negate_holds, negate_fails}
use Rattle.graph.specs.Search.{passes, is_open}
use Rattle.graph.proofs.Joined.{joined_trans, joined_sym}
use Rattle.division.specs.Plan.{Plain, Plan, Proper, left, right}
use Rattle.division.specs.Regions.{within, weight_from}
use Rattle.division.specs.State.{State, decided, potential, Same, decided_weight, potential_weight}
use Rattle.division.specs.Reasons.{connected_lit, connected_path, decided_region, Reason, list_of}
use Rattle.division.specs.Together.{mark, Together, region_weight, Computed}
use Rattle.division.specs.Noted.{Bounded, Lower, Upper, Later}
use Rattle.division.specs.Explained.{merged_weight, Explains, by_in_group, by_between, by_too_large, by_large, by_small, by_mismatch, by_spread_low, by_spread_high, by_same_size}
use Rattle.division.proofs.Sums.{total_le}
use Rattle.division.proofs.Walk.{joined_map, within_joined, joined_within, weight_same, weight_le}
use Rattle.division.proofs.Sound.{fails_together, path_sound, decided_sound, decided_weight_lem, potential_weight_lem, low_sound, high_sound, next_up}

-- a literal that cannot fail holds
pub must_hold : (σ : ℕ → Bool) (l : ℕ) → ((Holds σ l → ⊥) → ⊥) → Holds σ l
must_hold σ l n = ⊎_elim (λ t. t) (λ f. absurd (n f)) (true_or (value σ l))

or_left : (a b : Bool) → a ≡ true → (a || b) ≡ true
or_left a b e = rw e refl

or_right : (a b : Bool) → b ≡ true → (a || b) ≡ true
or_right a b e = rw e (or-true a)

module _ (d : Plan) (s : State) (σ : ℕ → Bool) (k : Proper d) (y : Computed d σ) where
  abbrev st : List ℕ
  st = tab (mark d σ) d.edges

  abbrev ha : (g : ℕ) → g < d.edges → left d g < d.vertices
  ha g h = (k.fine.within g h).a

  abbrev hb : (g : ℕ) → g < d.edges → right d g < d.vertices
  hb g h = (k.fine.within g h).b

  same_weight : (p q : ℕ) → p < d.vertices → Together d σ p q → region_weight d σ p ≡ region_weight d σ q
  same_weight p q hp j = weight_same d k st false p q hp j

  -- the ends of edge g, either way round
  ends_below : (g : ℕ) (f : Bool) → g < d.edges → pick f (right d g) (left d g) < d.vertices
  ends_below g f h = pick_ind (λ x. x < d.vertices) f _ _ (λ _. hb g h) (λ _. ha g h)

  ends_below' : (g : ℕ) (f : Bool) → g < d.edges → pick f (left d g) (right d g) < d.vertices
  ends_below' g f h = pick_ind (λ x. x < d.vertices) f _ _ (λ _. ha g h) (λ _. hb g h)

  flipped : (g : ℕ) (f : Bool) → Together d σ (left d g) (right d g) → Together d σ (pick f (right d g) (left d g)) (pick f (left d g) (right d g))
  unfolding pick
  flipped g true j = joined_sym j
  flipped g false j = j

  in_group : (g : ℕ) → g < d.edges → Same d s (left d g) (right d g) → Every (Holds σ) (list_of d s (Reason.edge_in_same_group g)) → Holds σ (connected_lit d g)
  unfolding list_of
  in_group g h j x = negate_holds σ (d.edge_lit g) (λ t. y.apart g h t (path_sound d σ k s (left d g) (ha g h) (right d g) j x))

  edge_between_different_groups : (h g : ℕ) (f : Bool) → h < d.edges → g < d.edges → Same d s (left d h) (pick f (right d g) (left d g)) → Same d s (right d h) (pick f (left d g) (right d g)) →
      Every (Holds σ) (list_of d s (Reason.edge_between_different_groups h g f)) → Holds σ (d.edge_lit g)
  unfolding list_of
  edge_between_different_groups h g f hh hg a b x =
      must_hold σ (d.edge_lit g) (λ n.
      let z = every_right (connected_path d s (left d h) (pick f (right d g) (left d g))) _ x in
      let u = path_sound d σ k s (left d h) (ha h hh) _ a (every_left _ _ x) in
      let v = path_sound d σ k s (right d h) (hb h hh) _ b (every_left _ _ z) in
      y.apart h hh (every_head (every_right (connected_path d s (right d h) (pick f (left d g) (right d g))) _ z))
      (joined_trans u (joined_trans (flipped g f (fails_together d σ g hg n)) (joined_sym v))))

  merged_le : (u v : ℕ) → u < d.vertices → v < d.vertices → Together d σ u v → Every (Holds σ) (decided_region d s u) → Every (Holds σ) (decided_region d s v) →
      merged_weight d (decided d s) u v ≤ region_weight d σ u
  unfolding merged_weight weight_from
  merged_le u v hu hv j x z =
      total_le _ _ _ _ (λ i hi w. joined_within d k st false u hu i
      (⊎_elim (λ a. decided_sound d σ k s u hu x i (within_joined d k s.edge_state false u hu i a))
      (λ a. joined_trans j (decided_sound d σ k s v hv z i (within_joined d k s.edge_state false v hv i a)))
      (or_cases _ _ w)))

  too_large : (g : ℕ) (ls : List ℕ) (w b : ℕ) → g < d.edges → w < d.vertices → Same d s (left d g) w ⊎ Same d s (right d g) w → Upper d w b ls →
      b < merged_weight d (decided d s) (left d g) (right d g) → Every (Holds σ) (list_of d s (Reason.too_large_if_regions_are_merged g ls)) → Holds σ (d.edge_lit g)
  unfolding list_of
  too_large g ls w b h hw e u l x =
      must_hold σ (d.edge_lit g) (λ n.
      let z = every_right (decided_region d s (left d g)) _ x in
      let xa = every_left (decided_region d s (left d g)) _ x in
      let xb = every_left (decided_region d s (right d g)) ls z in
      let t = fails_together d σ g h n in
      let j : Together d σ (left d g) w = ⊎_elim (λ a. decided_sound d σ k s (left d g) (ha g h) xa w a) (λ a. joined_trans t (decided_sound d σ k s (right d g) (hb g h) xb w a)) e in
      omega (arith, merged_le (left d g) (right d g) (ha g h) (hb g h) t xa xb, same_weight (left d g) w (ha g h) j, high_sound d σ k y w hw u (every_right (decided_region d s (right d g)) _ z)))

  region_already_large : (v j : ℕ) → v < d.vertices → suc j < d.domain_len v → d.domain v j < decided_weight d s v → Every (Holds σ) (list_of d s (Reason.region_already_large v)) → Holds σ (d.dom_lit v j)
  unfolding list_of
  region_already_large v j h m l x = (y.meant v j h m).1 (next_up d σ k y v h j m (omega (arith, decided_weight_lem d σ k s v h x)))

  region_already_small : (v j : ℕ) → v < d.vertices → suc j < d.domain_len v → potential_weight d s v < d.domain v (suc j) → Every (Holds σ) (list_of d s (Reason.region_already_small v)) → Holds σ (negate (d.dom_lit v j))
  unfolding list_of
  region_already_small v j h m l x = negate_holds σ (d.dom_lit v j) (λ t. omega (arith, (y.meant v j h m).0 t, potential_weight_lem d σ k s v h x))

  inconsistent_bounds_if_regions_are_merged : (n : Bounded d s) (g p q : ℕ) (f : Bool) → g < d.edges → p < d.vertices → q < d.vertices → Same d s (pick f (right d g) (left d g)) p → Same d s (pick f (left d g) (right d g)) q →
      s.upper p < s.lower q → Every (Holds σ) (list_of d s (Reason.inconsistent_bounds_if_regions_are_merged g p q f)) → Holds σ (d.edge_lit g)
  unfolding list_of
  inconsistent_bounds_if_regions_are_merged n g p q f h hp hq a b l x =
      must_hold σ (d.edge_lit g) (λ m.
      let z = every_right (connected_path d s (pick f (right d g) (left d g)) p) _ x in
      let w = every_right (connected_path d s (pick f (left d g) (right d g)) q) _ z in
      let u = path_sound d σ k s _ (ends_below g f h) p a (every_left _ _ x) in
      let v = path_sound d σ k s _ (ends_below' g f h) q b (every_left _ _ z) in
      omega (
        arith,
        same_weight p q hp (joined_trans (joined_sym u) (joined_trans (flipped g f (fails_together d σ g h m)) v)),
        high_sound d σ k y p hp (n.high p hp) (every_left _ _ w),
        low_sound d σ k y q hq (n.low q hq) (every_right (s.upper_lit p) _ w),
      ))

  spread_low : (p u : ℕ) (ls : List ℕ) (b j : ℕ) → p < d.vertices → u < d.vertices → suc j < d.domain_len u → Same d s p u → Lower d p b ls → d.domain u j < b →
      Every (Holds σ) (list_of d s (Reason.bound_propagation_within_region p u ls)) → Holds σ (d.dom_lit u j)
  unfolding list_of
  spread_low p u ls b j hp hu m a w l x =
      let e = same_weight p u hp (path_sound d σ k s p hp u a (every_left _ _ x)) in
      let f = low_sound d σ k y p hp w (every_right (connected_path d s p u) _ x) in
      (y.meant u j hu m).1 (next_up d σ k y u hu j m (omega arith))

  spread_high : (p u : ℕ) (ls : List ℕ) (b j : ℕ) → p < d.vertices → u < d.vertices → suc j < d.domain_len u → Same d s p u → Upper d p b ls → b < d.domain u (suc j) →
      Every (Holds σ) (list_of d s (Reason.bound_propagation_within_region p u ls)) → Holds σ (negate (d.dom_lit u j))
  unfolding list_of
  spread_high p u ls b j hp hu m a w l x =
      let e = same_weight p u hp (path_sound d σ k s p hp u a (every_left _ _ x)) in
      let f = high_sound d σ k y p hp w (every_right (connected_path d s p u) _ x) in
      negate_holds σ (d.dom_lit u j) (λ t. omega (arith, (y.meant u j hu m).0 t))

  -- the literal holds in each valid division in which its reason does
  pub explain_sound : Plain d → Bounded d s → (l : ℕ) (r : Reason) → Explains d s l r → Every (Holds σ) (list_of d s r) → Holds σ l
  explain_sound pl n l r (by_in_group g h e a) x = rw e (in_group g h a x)
  explain_sound pl n l r (by_between i g f hi h e a b) x = rw e (edge_between_different_groups i g f hi h a b x)
  explain_sound pl n l r (by_too_large g ls w b h e hw a u m) x = rw e (too_large g ls w b h hw a u m x)
  explain_sound pl n l r (by_large v j h m e a) x = rw e (region_already_large v j h m a x)
  explain_sound pl n l r (by_small v j h m e a) x = rw e (region_already_small v j h m a x)
  explain_sound pl n l r (by_mismatch g p q f h e hp hq a b m) x = rw e (inconsistent_bounds_if_regions_are_merged n g p q f h hp hq a b m x)
  explain_sound pl n l r (by_spread_low p u ls b j hp hu m e a w i) x = rw e (spread_low p u ls b j hp hu m a w i x)
  explain_sound pl n l r (by_spread_high p u ls b j hp hu m e a w i) x = rw e (spread_high p u ls b j hp hu m a w i x)
  explain_sound pl n l r (by_same_size a la ua b lb ub u g o h e ha hb hu xa ya xb yb) x = absurd (true≢false (sym o ∙ pl.sizes))

  -- a false proposal: its reason with its negation
  pub false_sound : Plain d → Bounded d s → (l : ℕ) (r : Reason) → Explains d s l r → Every (Holds σ) (list_of d s r ++ (negate l ∷ [])) → ⊥
  false_sound pl n l r e x = negate_fails σ l (every_head (every_right (list_of d s r) _ x)) (explain_sound pl n l r e (every_left _ _ x))

module _ (d : Plan) (s t : State) (k : Proper d) (z : Later d s t) where
  connected_later : (g : ℕ) → g < d.edges → is_open (decided d s) g ≡ true → is_open (decided d t) g ≡ true
  unfolding passes
  connected_later g h o =
      let e : get_or s.edge_state g 0 ≡ 2 = eqb-true _ _ o in
      eq-eqb _ _ (z.kept g h (λ (c : get_or s.edge_state g 0 ≡ 0). omega arith) ∙ e)

  near_before : (g : ℕ) → g < d.edges → is_open (potential d t) g ≡ true → is_open (potential d s) g ≡ true
  unfolding passes
  near_before g h o =
      ap not (ne_eqb _ _ (λ (c : get_or s.edge_state g 0 ≡ 1). eqb-false _ _ (not-true _ o) (z.kept g h (λ (b : get_or s.edge_state g 0 ≡ 0). omega arith) ∙ c)))

  pub same_later : {p q : ℕ} → Same d s p q → Same d t p q
  same_later j = joined_map connected_later j

  pub decided_later : (v : ℕ) → v < d.vertices → decided_weight d s v ≤ decided_weight d t v
  decided_later v h = weight_le d k s.edge_state t.edge_state false false v v h h (λ q j. same_later j)

  pub potential_later : (v : ℕ) → v < d.vertices → potential_weight d t v ≤ potential_weight d s v
  potential_later v h = weight_le d k t.edge_state s.edge_state true true v v h h (λ q j. joined_map near_before j)

  within_later : (u i : ℕ) → u < d.vertices → within d (decided d s) u i ≡ true → within d (decided d t) u i ≡ true
  within_later u i h x = joined_within d k t.edge_state false u h i (same_later (within_joined d k s.edge_state false u h i x))

  pub merged_later : (u v : ℕ) → u < d.vertices → v < d.vertices → merged_weight d (decided d s) u v ≤ merged_weight d (decided d t) u v
  unfolding merged_weight
  merged_later u v hu hv =
      total_le _ _ _ _ (λ i hi x. ⊎_elim (λ a. or_left _ _ (within_later u i hu a)) (λ a. or_right (within d (decided d t) u i) _ (within_later v i hv a)) (or_cases _ _ x))

  -- what was explained stays so as more is noted
  pub explain_later : (l : ℕ) (r : Reason) → Explains d s l r → Explains d t l r
  explain_later l r (by_in_group g h e a) = by_in_group g h e (same_later a)
  explain_later l r (by_between i g f hi h e a b) = by_between i g f hi h e (same_later a) (same_later b)
  explain_later l r (by_too_large g ls w b h e hw a u m) =
      by_too_large g ls w b h e hw (⊎_elim (λ a. inl (same_later a)) (λ a. inr (same_later a)) a) u
      (omega (arith, merged_later (left d g) (right d g) (k.fine.within g h).a (k.fine.within g h).b))
  explain_later l r (by_large v j h m e a) = by_large v j h m e (omega (arith, decided_later v h))
  explain_later l r (by_small v j h m e a) = by_small v j h m e (omega (arith, potential_later v h))
  explain_later l r (by_mismatch g p q f h e hp hq a b m) =
      by_mismatch g p q f h e hp hq (same_later a) (same_later b) (omega (arith, z.down p hp, z.up q hq))
  explain_later l r (by_spread_low p u ls b j hp hu m e a w i) = by_spread_low p u ls b j hp hu m e (same_later a) w i
  explain_later l r (by_spread_high p u ls b j hp hu m e a w i) = by_spread_high p u ls b j hp hu m e (same_later a) w i
  explain_later l r (by_same_size a la ua b lb ub u g o h e ha hb hu xa ya xb yb) = by_same_size a la ua b lb ub u g o h e ha hb hu xa ya xb yb
