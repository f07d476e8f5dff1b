-- Noting the standing literals gives the noted state.
use Prim.Native.Nat.{ℕ, suc, pred, ◌<◌, ◌≤◌, zero-le}
use native.Mathlib.Omega.{arith}
use native.Mathlib.Nat.{le_refl, le_trans, not-suc-le-zero}
use mathlib.Core.Path.{◌≡◌, refl, sym, ◌∙◌, ap}
use mathlib.Core.Logic.{◌⊎◌, ⊎_elim, ◌↔◌}
use mathlib.Core.Bool.{◌&&◌}
use mathlib.Core.List.Memᴰ
use mathlib.Core.List.{List, [], ◌∷◌}
use lib.Dec.{eqb, ltb}
use lib.ListN.{get_or}
use borrow.Author.Tests.{eqb-true, eqb-false, eq-eqb, ltb-true, ltb-false}
use Rattle.base.specs.Iter.{pick}
use Rattle.base.specs.Lists.{Every, none, more, tab}
use Rattle.base.proofs.Loop.{iter_ind, pick_ind}
use Rattle.base.proofs.Tests.{and_left, and_right, and_rest}
use Rattle.base.proofs.Lists.{tab_at, every_map}
use Rattle.sat.specs.Literal.{negate}
use Rattle.graph.proofs.Mark.{lt_cases}
use Rattle.division.specs.Plan.{Plan}
use Rattle.division.specs.State.{State}
use Rattle.division.specs.Noting.{Bound, raise, lessen, turn, low_bound, high_bound, note_one, unnoted, note_all, In, Consistent}
use Rattle.division.specs.Noted.{Lower, Upper, Bounded, Noted}

-- a lower bound on the way, after the first j entries were looked at
record Raised (d : Plan) (l : ℕ) (ls : List ℕ) (v from j : ℕ) (a : Bound) : Type 0 where
  low : Lower d v a.bound a.lits
  stands : Every (In (l ∷ ls)) a.lits
  up : from ≤ a.bound
  all : (i : ℕ) → i < j → l ≡ d.dom_lit v i → d.domain v (suc i) ≤ a.bound

raised : (d : Plan) (l : ℕ) (ls : List ℕ) (v : ℕ) (b : Bound) → Lower d v b.bound b.lits → Every (In ls) b.lits → Raised d l ls v b.bound (pred (d.domain_len v)) (raise d l v b)
unfolding raise
raised d l ls v b w x =
    iter_ind (Raised d l ls v b.bound) _ b (pred (d.domain_len v)) (record { low = w; stands = every_map (λ q m. Memᴰ.tail m) x; up = le_refl _; all = λ i h. absurd (not-suc-le-zero h) })
    (λ j a h p. pick_ind (Raised d l ls v b.bound (suc j)) (eqb l (d.dom_lit v j) && ltb a.bound (d.domain v (suc j))) (record { bound = d.domain v (suc j); lits = l ∷ [] }) a
    (λ t. let m = ltb-true a.bound (d.domain v (suc j)) (and_right (eqb l (d.dom_lit v j)) _ t) in
    let e : l ≡ d.dom_lit v j = eqb-true _ _ (and_left _ _ t) in
    record {
      low = Lower.lit j (omega arith) refl (ap (λ z. z ∷ []) e);
      stands = more (Memᴰ.head refl) none;
      up = omega (arith, p.up);
      all = λ i k q. ⊎_elim (λ n. omega (arith, p.all i n q)) (λ (n : i ≡ j). rw n (le_refl _)) (lt_cases i j (omega arith));
    })
    (λ t. record {
      low = p.low;
      stands = p.stands;
      up = p.up;
      all = λ i k q. ⊎_elim (λ n. p.all i n q) (λ (n : i ≡ j). rw n (ltb-false _ _ (and_rest (eqb l (d.dom_lit v j)) _ (eq-eqb _ _ (q ∙ ap (d.dom_lit v) n)) t))) (lt_cases i j (omega arith));
    }))

record Lessened (d : Plan) (l : ℕ) (ls : List ℕ) (v from j : ℕ) (a : Bound) : Type 0 where
  high : Upper d v a.bound a.lits
  stands : Every (In (l ∷ ls)) a.lits
  down : a.bound ≤ from
  all : (i : ℕ) → i < j → l ≡ negate (d.dom_lit v i) → a.bound ≤ d.domain v i

lessened : (d : Plan) (l : ℕ) (ls : List ℕ) (v : ℕ) (b : Bound) → Upper d v b.bound b.lits → Every (In ls) b.lits → Lessened d l ls v b.bound (pred (d.domain_len v)) (lessen d l v b)
unfolding lessen
lessened d l ls v b w x =
    iter_ind (Lessened d l ls v b.bound) _ b (pred (d.domain_len v)) (record { high = w; stands = every_map (λ q m. Memᴰ.tail m) x; down = le_refl _; all = λ i h. absurd (not-suc-le-zero h) })
    (λ j a h p. pick_ind (Lessened d l ls v b.bound (suc j)) (eqb l (negate (d.dom_lit v j)) && ltb (d.domain v j) a.bound) (record { bound = d.domain v j; lits = l ∷ [] }) a
    (λ t. let m = ltb-true (d.domain v j) a.bound (and_right (eqb l (negate (d.dom_lit v j))) _ t) in
    let e : l ≡ negate (d.dom_lit v j) = eqb-true _ _ (and_left _ _ t) in
    record {
      high = Upper.lit j (omega arith) refl (ap (λ z. z ∷ []) e);
      stands = more (Memᴰ.head refl) none;
      down = omega (arith, p.down);
      all = λ i k q. ⊎_elim (λ n. omega (arith, p.all i n q)) (λ (n : i ≡ j). rw n (le_refl _)) (lt_cases i j (omega arith));
    })
    (λ t. record {
      high = p.high;
      stands = p.stands;
      down = p.down;
      all = λ i k q. ⊎_elim (λ n. p.all i n q) (λ (n : i ≡ j). rw n (ltb-false _ _ (and_rest (eqb l (negate (d.dom_lit v j))) _ (eq-eqb _ _ (q ∙ ap (λ z. negate (d.dom_lit v z)) n)) t))) (lt_cases i j (omega arith));
    }))

-- every bound is an entry of its domain, due to a literal of the list; a literal may stand beside its negation
record Founded (d : Plan) (ls : List ℕ) (s : State) : Type 0 where
  bounded : Bounded d s
  low_stands : (v : ℕ) → v < d.vertices → Every (In ls) (s.lower_lit v)
  high_stands : (v : ℕ) → v < d.vertices → Every (In ls) (s.upper_lit v)

module _ (d : Plan) (l : ℕ) (ls : List ℕ) (s : State) (f : Founded d ls s) where
  lows : (v : ℕ) → v < d.vertices → Raised d l ls v (s.lower v) (pred (d.domain_len v)) (raise d l v (low_bound s v))
  lows v h = raised d l ls v (low_bound s v) (f.bounded.low v h) (f.low_stands v h)

  highs : (v : ℕ) → v < d.vertices →
      Lessened d l ls v (s.upper v) (pred (d.domain_len v)) (lessen d l v (high_bound s v))
  highs v h = lessened d l ls v (high_bound s v) (f.bounded.high v h) (f.high_stands v h)

  founded_one : Founded d (l ∷ ls) (note_one d l s)
  unfolding note_one
  founded_one = record {
    bounded = record { low = λ v h. (lows v h).low; high = λ v h. (highs v h).high };
    low_stands = λ v h. (lows v h).stands;
    high_stands = λ v h. (highs v h).stands;
  }

-- the state of an edge after a literal
data Turned (d : Plan) (l g x : ℕ) : ℕ → Type 0 where
  disconnected : l ≡ d.edge_lit g → Turned d l g x 1
  connected : l ≡ negate (d.edge_lit g) → Turned d l g x 2
  stays : (l ≡ d.edge_lit g → ⊥) → (l ≡ negate (d.edge_lit g) → ⊥) → Turned d l g x x

turned : (d : Plan) (l g x : ℕ) → Turned d l g x (turn d l g x)
unfolding turn
turned d l g x =
    pick_ind (Turned d l g x) _ _ _ (λ t. disconnected (eqb-true _ _ t)) (λ t. pick_ind (Turned d l g x) _ _ _ (λ u. connected (eqb-true _ _ u)) (λ u. stays (eqb-false _ _ t) (eqb-false _ _ u)))

module _ (d : Plan) (l : ℕ) (ls : List ℕ) (s : State) (n : Noted d (In ls) s) (c : Consistent (l ∷ ls)) where
  first : In (l ∷ ls) l
  first = Memᴰ.head refl

  -- an edge's state, and the literals that stand for it
  module _ (g x : ℕ) (a : (x ≡ 1) ↔ In ls (d.edge_lit g)) (b : (x ≡ 2) ↔ In ls (negate (d.edge_lit g))) where
    disconnected_to : (z : ℕ) → Turned d l g x z → z ≡ 1 → In (l ∷ ls) (d.edge_lit g)
    disconnected_to z (disconnected e) q = Memᴰ.head (sym e)
    disconnected_to z (connected e) q = absurd (omega arith)
    disconnected_to z (stays e f) q = Memᴰ.tail (a.0 q)

    disconnected_from : (z : ℕ) → Turned d l g x z → In (l ∷ ls) (d.edge_lit g) → z ≡ 1
    disconnected_from z (disconnected e) m = refl
    disconnected_from z (connected e) m = absurd (c (d.edge_lit g) m (Memᴰ.head (sym e)))
    disconnected_from z (stays e f) m = ⊎_elim (λ h. absurd (e (sym h))) (λ h. a.1 h) (Memᴰ.cases_cons m)

    connected_to : (z : ℕ) → Turned d l g x z → z ≡ 2 → In (l ∷ ls) (negate (d.edge_lit g))
    connected_to z (disconnected e) q = absurd (omega arith)
    connected_to z (connected e) q = Memᴰ.head (sym e)
    connected_to z (stays e f) q = Memᴰ.tail (b.0 q)

    connected_from : (z : ℕ) → Turned d l g x z → In (l ∷ ls) (negate (d.edge_lit g)) → z ≡ 2
    connected_from z (disconnected e) m = absurd (c (d.edge_lit g) (Memᴰ.head (sym e)) m)
    connected_from z (connected e) m = refl
    connected_from z (stays e f) m = ⊎_elim (λ h. absurd (f (sym h))) (λ h. b.1 h) (Memᴰ.cases_cons m)

  few : (g x z : ℕ) → x ≤ 2 → Turned d l g x z → z ≤ 2
  few g x z h (disconnected e) = omega arith
  few g x z h (connected e) = omega arith
  few g x z h (stays e f) = h

  abbrev edge_now : (g : ℕ) → g < d.edges → get_or (tab (λ g. turn d l g (get_or s.edge_state g 0)) d.edges) g 0 ≡ turn d l g (get_or s.edge_state g 0)
  edge_now g h = tab_at _ d.edges g h

  founded : Founded d ls s
  founded = record { bounded = n.bounded; low_stands = n.low_stands; high_stands = n.high_stands }

  noted_one : Noted d (In (l ∷ ls)) (note_one d l s)
  unfolding note_one
  noted_one = record {
    bounded = (founded_one d l ls s founded).bounded;
    known = λ g h. rw (edge_now g h) (few g _ _ (n.known g h) (turned d l g _));
    disconnected = λ g h. rw (edge_now g h) (disconnected_to g _ (n.disconnected g h) (n.connected g h) _ (turned d l g _), disconnected_from g _ (n.disconnected g h) (n.connected g h) _ (turned d l g _));
    connected = λ g h. rw (edge_now g h) (connected_to g _ (n.disconnected g h) (n.connected g h) _ (turned d l g _), connected_from g _ (n.disconnected g h) (n.connected g h) _ (turned d l g _));
    low_stands = (founded_one d l ls s founded).low_stands;
    high_stands = (founded_one d l ls s founded).high_stands;
    raised = λ v j h k m. let x = lows d l ls s founded v h in
        ⊎_elim (λ e. x.all j (omega arith) (sym e)) (λ i. le_trans (n.raised v j h k i) x.up) (Memᴰ.cases_cons m);
    cut = λ v j h k m. let x = highs d l ls s founded v h in
        ⊎_elim (λ e. x.all j (omega arith) (sym e)) (λ i. le_trans x.down (n.cut v j h k i)) (Memᴰ.cases_cons m);
  }

first_low : (d : Plan) (v : ℕ) → Lower d v (pick (ltb 0 (d.domain_len v)) (d.domain v 0) 0) []
first_low d v = pick_ind (λ b. Lower d v b []) _ _ _ (λ t. Lower.least (ltb-true _ _ t) refl refl) (λ t. Lower.free (omega (arith, ltb-false 0 (d.domain_len v) t)) refl refl)

first_high : (d : Plan) (v : ℕ) → Upper d v (pick (ltb 0 (d.domain_len v)) (d.domain v (pred (d.domain_len v))) 2147483647) []
first_high d v =
    pick_ind (λ b. Upper d v b []) _ _ _ (λ t. Upper.last (pred (d.domain_len v)) (omega (arith, ltb-true 0 (d.domain_len v) t)) refl refl)
    (λ t. Upper.free (omega (arith, ltb-false 0 (d.domain_len v) t)) refl refl)

unnoted_founded : (d : Plan) → Founded d [] (unnoted d)
unfolding unnoted
unnoted_founded d = record {
  bounded = record { low = λ v h. first_low d v; high = λ v h. first_high d v };
  low_stands = λ v h. none;
  high_stands = λ v h. none;
}

unnoted_noted : (d : Plan) → Noted d (In []) (unnoted d)
unfolding unnoted
unnoted_noted d = record {
  bounded = (unnoted_founded d).bounded;
  known = λ g h. rw (tab_at (λ i. 0) d.edges g h) zero-le;
  disconnected = λ g h. rw (tab_at (λ i. 0) d.edges g h) (λ e. absurd (omega arith), λ m. absurd (Memᴰ.not-nil m));
  connected = λ g h. rw (tab_at (λ i. 0) d.edges g h) (λ e. absurd (omega arith), λ m. absurd (Memᴰ.not-nil m));
  low_stands = (unnoted_founded d).low_stands;
  high_stands = (unnoted_founded d).high_stands;
  raised = λ v j h k m. absurd (Memᴰ.not-nil m);
  cut = λ v j h k m. absurd (Memᴰ.not-nil m);
}

-- noting literals of which none stands beside its negation gives the noted state
pub noted_all : (d : Plan) (ls : List ℕ) → Consistent ls → Noted d (In ls) (note_all d ls)
unfolding note_all
noted_all d [] c = unnoted_noted d
noted_all d (l ∷ ls) c = noted_one d l ls (note_all d ls) (noted_all d ls (λ x a b. c x (Memᴰ.tail a) (Memᴰ.tail b))) c

founded_all : (d : Plan) (ls : List ℕ) → Founded d ls (note_all d ls)
unfolding note_all
founded_all d [] = unnoted_founded d
founded_all d (l ∷ ls) = founded_one d l ls (note_all d ls) (founded_all d ls)

-- whatever is noted, every bound is an entry of its domain
pub bounded_all : (d : Plan) (ls : List ℕ) → Bounded d (note_all d ls)
bounded_all d ls = (founded_all d ls).bounded
