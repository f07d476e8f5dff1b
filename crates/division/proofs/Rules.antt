-- What the analysis proposes is explained, and neither it nor its negation stands.
use Prim.Native.Nat.{ℕ, zero, suc, pred, ◌+◌, ◌<◌, ◌≤◌, zero-le}
use native.Mathlib.Omega.{arith}
use native.Mathlib.Nat.{le_refl, not-suc-le-zero}
use mathlib.Core.Path.{◌≡◌, refl}
use mathlib.Core.Logic.{◌⊎◌, inl, inr, ⊎_elim}
use mathlib.Core.Bool.{Bool, true, false, not, ◌&&◌, ◌||◌}
use borrow.Author.Tests.{ltb-true, ltb-false}
use Rattle.base.proofs.Loop.{pick_ind}
use Rattle.base.proofs.Tests.{le_or_lt}
use Rattle.sat.specs.Literal.{negate}
use Rattle.sat.proofs.Literal.{negate_twice}
use Rattle.graph.proofs.Mark.{lt_cases}
use Rattle.graph.proofs.Joined.{joined_trans, joined_sym}
use Rattle.division.specs.Plan.{Plan, Proper, left, right}
use Rattle.division.specs.Regions.{within, weight_from}
use Rattle.division.specs.State.{State, decided, Same, decided_weight, state_of}
use Rattle.division.specs.Reasons.{Reason}
use Rattle.division.specs.Analysis.{place}
use Rattle.division.specs.Noted.{Bounded, Noted}
use Rattle.division.proofs.Noted.{low_one, high_one}
use Rattle.division.specs.Explained.{merged_weight, Explains, by_in_group, by_between, by_too_large, by_large, by_small, by_mismatch, by_spread_low, by_spread_high, by_same_size}
use Rattle.division.specs.Proposed.{Between, Proposes, rule_in_group, rule_between, rule_too_large, rule_large, rule_small, rule_mismatch, rule_spread_low, rule_spread_high, rule_same_size, Full}
use Rattle.division.proofs.Sums.{total_le, total_parts}
use Rattle.division.proofs.Walk.{within_joined}
use Rattle.division.proofs.Sound.{rising_le}

-- where the entries pass w
pub record Placed (f : ℕ → ℕ) (w n m : ℕ) : Type 0 where
  pub most : m ≤ n
  pub under : 0 < m → f (pred m) < w
  pub over : m < n → w ≤ f m

placed_same : (f : ℕ → ℕ) (w n m : ℕ) → w ≤ f n → Placed f w n m → Placed f w (suc n) m
placed_same f w n m h p = record {
  most = omega (arith, p.most);
  under = p.under;
  over = λ l. ⊎_elim (λ a. p.over a) (λ (e : m ≡ n). rw e h) (lt_cases m n (omega arith));
}

pub placed : (f : ℕ → ℕ) (w n : ℕ) → Placed f w n (place f w n)
unfolding place
placed f w zero = record { most = zero-le; under = λ h. absurd (not-suc-le-zero h); over = λ h. absurd (not-suc-le-zero h) }
placed f w (suc n) =
    pick_ind (Placed f w (suc n)) _ _ _ (λ t. record { most = le_refl _; under = λ h. ltb-true _ _ t; over = λ h. omega arith })
    (λ t. placed_same f w n _ (ltb-false _ _ t) (placed f w n))

-- an entry below w and one that is not: the place lies between, and is none of the ends
pub place_between : (d : Plan) (k : Proper d) (v w i j : ℕ) → v < d.vertices → i < d.domain_len v → d.domain v i < w → j < d.domain_len v → w ≤ d.domain v j →
    (0 < place (d.domain v) w (d.domain_len v)) × Between d v (pred (place (d.domain v) w (d.domain_len v))) w
place_between d k v w i j hv hi a hj b = go (place (d.domain v) w (d.domain_len v)) (placed (d.domain v) w (d.domain_len v))
  where
    go : (m : ℕ) → Placed (d.domain v) w (d.domain_len v) m → (0 < m) × Between d v (pred m) w
    go m p =
        let l : i < m = ⊎_elim (λ (z : m ≤ i). absurd (omega (arith, p.over (omega arith), rising_le d k v hv m i z hi))) (λ z. z) (le_or_lt m i) in
        let u : m ≤ j = ⊎_elim (λ z. z) (λ (z : j < m). absurd (omega (arith, p.under (omega arith), p.most, rising_le d k v hv j (pred m) (omega arith) (omega (arith, p.most))))) (le_or_lt m j) in
        let e : suc (pred m) ≡ m = omega arith in
        (omega arith, record { next = omega arith; above = p.under (omega arith); below = rw e (p.over (omega arith)) })

module _ (d : Plan) (s : State) (k : Proper d) where
  -- two regions weigh together what each weighs
  pub merged_sum : (u v : ℕ) → u < d.vertices → v < d.vertices → (Same d s u v → ⊥) → decided_weight d s u + decided_weight d s v ≤ merged_weight d (decided d s) u v
  unfolding merged_weight weight_from
  merged_sum u v hu hv ne =
      omega (
        arith,
        total_parts (within d (decided d s) u) (λ i. within d (decided d s) u i || within d (decided d s) v i) d.weight d.vertices (λ i h x. rw x refl),
        total_le (within d (decided d s) v) (λ i. (within d (decided d s) u i || within d (decided d s) v i) && not (within d (decided d s) u i)) d.weight d.vertices (λ i h x. other i x),
      )
    where
      other : (i : ℕ) → within d (decided d s) v i ≡ true → ((within d (decided d s) u i || within d (decided d s) v i) && not (within d (decided d s) u i)) ≡ true
      other i x = go (within d (decided d s) u i) refl
        where
          go : (t : Bool) → within d (decided d s) u i ≡ t → ((t || within d (decided d s) v i) && not t) ≡ true
          go true e = absurd (ne (joined_trans (within_joined d k s.edge_state false u hu i e) (joined_sym (within_joined d k s.edge_state false v hv i x))))
          go false e = rw x refl

  -- each proposal is explained by the reason that is recorded with it
  pub proposed_explained : Bounded d s → (l : ℕ) (r : Reason) → Proposes d s l r → Explains d s l r
  proposed_explained n l r (rule_in_group g h z a) = by_in_group g h refl a
  proposed_explained n l r (rule_between i g f hi h zi z a b) = by_between i g f hi h refl a b
  proposed_explained n l r (rule_too_large g w h hw z ne a m) =
      by_too_large g (s.upper_lit w) w (s.upper w) h refl hw a (n.high w hw) (omega (arith, merged_sum (left d g) (right d g) (k.fine.within g h).a (k.fine.within g h).b ne))
  proposed_explained n l r (rule_large v j h u a b) = by_large v j h b.next refl b.above
  proposed_explained n l r (rule_small v j h u a b) = by_small v j h b.next refl b.below
  proposed_explained n l r (rule_mismatch g p q f h hp hq z a b m) = by_mismatch g p q f h refl hp hq a b m
  proposed_explained n l r (rule_spread_low p u j hp hu a m i b) = by_spread_low p u (s.lower_lit p) (s.lower p) j hp hu b.next refl a (n.low p hp) b.above
  proposed_explained n l r (rule_spread_high p u j hp hu a m i b) = by_spread_high p u (s.upper_lit p) (s.upper p) j hp hu b.next refl a (n.high p hp) b.below
  proposed_explained n l r (rule_same_size a la ua b lb ub u g o h z ha hla hua hb hlb hub hu) =
      by_same_size a _ _ b _ _ u g o h refl ha hb hu (low_one d la (n.low la hla)) (high_one d ua (n.high ua hua)) (low_one d lb (n.low lb hlb)) (high_one d ub (n.high ub hub))

module _ (d : Plan) (Stands : ℕ → Type 0) (s : State) (n : Noted d Stands s) where
  undecided_connected : (g : ℕ) → g < d.edges → state_of s g ≡ 0 → Stands (negate (d.edge_lit g)) → ⊥
  undecided_connected g h z t = let e = (n.connected g h).1 t in omega arith

  undecided_disconnected : (g : ℕ) → g < d.edges → state_of s g ≡ 0 → Stands (d.edge_lit g) → ⊥
  undecided_disconnected g h z t = let e = (n.disconnected g h).1 t in omega arith

  twice : (l : ℕ) → Stands (negate (negate l)) → Stands l
  twice l t = rw negate_twice at t

  -- neither what is proposed nor its negation stands
  pub silent : (l : ℕ) (r : Reason) → Proposes d s l r → (Stands l → ⊥) × (Stands (negate l) → ⊥)
  silent l r (rule_in_group g h z a) = (undecided_connected g h z, λ t. undecided_disconnected g h z (twice _ t))
  silent l r (rule_between i g f hi h zi z a b) = (undecided_disconnected g h z, undecided_connected g h z)
  silent l r (rule_too_large g w h hw z ne a m) = (undecided_disconnected g h z, undecided_connected g h z)
  silent l r (rule_large v j h u a b) = (λ t. omega (arith, n.raised v j h b.next t, b.below), λ t. omega (arith, n.cut v j h b.next t, b.above))
  silent l r (rule_small v j h u a b) = (λ t. omega (arith, n.cut v j h b.next t, b.above), λ t. omega (arith, n.raised v j h b.next (twice _ t), b.below))
  silent l r (rule_mismatch g p q f h hp hq z a b m) = (undecided_disconnected g h z, undecided_connected g h z)
  silent l r (rule_spread_low p u j hp hu a m i b) = (λ t. omega (arith, n.raised u j hu b.next t, b.below), λ t. omega (arith, n.cut u j hu b.next t, b.above))
  silent l r (rule_spread_high p u j hp hu a m i b) = (λ t. omega (arith, n.cut u j hu b.next t, b.above), λ t. omega (arith, n.raised u j hu b.next (twice _ t), b.below))
  silent l r (rule_same_size a la ua b lb ub u g o h z ha hla hua hb hlb hub hu) = (undecided_disconnected g h z, undecided_connected g h z)

  either : {l : ℕ} → (Stands l → ⊥) × (Stands (negate l) → ⊥) → Stands l ⊎ Stands (negate l) → ⊥
  either x y = ⊎_elim x.0 x.1 y

  back : {l : ℕ} → Stands l ⊎ Stands (negate l) → Stands (negate l) ⊎ Stands (negate (negate l))
  back {l} y = ⊎_elim (λ t. inr (rw negate_twice t)) (λ t. inl t) y

  -- where every variable stands nothing is proposed
  pub full_silent : (σ : ℕ → Bool) → Full d Stands σ → (l : ℕ) (r : Reason) → Proposes d s l r → ⊥
  full_silent σ f l r (rule_in_group g h z a) = either (silent _ _ (rule_in_group g h z a)) (back (f.edge g h))
  full_silent σ f l r (rule_between i g e hi h zi z a b) = either (silent _ _ (rule_between i g e hi h zi z a b)) (f.edge g h)
  full_silent σ f l r (rule_too_large g w h hw z ne a m) = either (silent _ _ (rule_too_large g w h hw z ne a m)) (f.edge g h)
  full_silent σ f l r (rule_large v j h u a b) = either (silent _ _ (rule_large v j h u a b)) (f.domain v j h b.next)
  full_silent σ f l r (rule_small v j h u a b) = either (silent _ _ (rule_small v j h u a b)) (back (f.domain v j h b.next))
  full_silent σ f l r (rule_mismatch g p q e h hp hq z a b m) = either (silent _ _ (rule_mismatch g p q e h hp hq z a b m)) (f.edge g h)
  full_silent σ f l r (rule_spread_low p u j hp hu a m i b) = either (silent _ _ (rule_spread_low p u j hp hu a m i b)) (f.domain u j hu b.next)
  full_silent σ f l r (rule_spread_high p u j hp hu a m i b) = either (silent _ _ (rule_spread_high p u j hp hu a m i b)) (back (f.domain u j hu b.next))
  full_silent σ f l r (rule_same_size a la ua b lb ub u g o h z ha hla hua hb hlb hub hu) =
      either (silent _ _ (rule_same_size a la ua b lb ub u g o h z ha hla hua hb hlb hub hu)) (f.edge g h)
