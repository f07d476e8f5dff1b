-- The view that is computed shows the state.
use Prim.Native.Nat.{ℕ, zero, suc, ◌+◌, ◌<◌, ◌≤◌}
use native.Mathlib.Omega.{arith}
use native.Mathlib.Numerals.{add-one}
use native.Mathlib.Nat.{le_refl, le_step, le_antisymm, not-suc-le-zero, le_of_suc-le-suc, lt-suc_self}
use mathlib.Core.Path.{◌≡◌, refl, sym, ◌∙◌, ap, subst}
use mathlib.Core.Logic.{◌⊎◌, ⊎_elim, ◌↔◌}
use mathlib.Core.Bool.{Bool, true, false, ◌&&◌, true≢false}
use mathlib.Core.List.Memᴰ
use mathlib.Core.List.{List, [], ◌∷◌, Memᴰ}
use lib.Dec.{eqb, ltb}
use borrow.Author.Tests.{eqb-true, eq-eqb, ltb-true, ltb-false, lt-ltb, le-ltb}
use Rattle.base.specs.Lists.{Every, none, more, tab}
use Rattle.base.proofs.Loop.{iter_ind, pick_ind, pick_no}
use Rattle.base.proofs.Tests.{and_left, and_right, and_rest, le_or_lt}
use Rattle.base.proofs.Lists.{collect_every, every_map}
use Rattle.graph.specs.Search.{Graph, graph, searched, at}
use Rattle.graph.specs.Paths.{Joined, here}
use Rattle.graph.proofs.Joined.{joined_trans, joined_sym, joined_refl}
use Rattle.graph.proofs.Mark.{lt_cases}
use Rattle.regions.specs.Buckets.{Spot, least_in, most_in}
use Rattle.division.specs.Plan.{Plan, Proper}
use Rattle.division.specs.Regions.{region_label, lowest, weight_from, within}
use Rattle.division.specs.State.{State, crossed_at, decided}
use Rattle.division.specs.Views.{weight_of, insert, sorted, cells_of, members_of, view_of}
use Rattle.division.proofs.Shown.{Cell, Shows}
use Rattle.division.proofs.Sums.{total_le}
use Rattle.division.proofs.Walk.{finds, within_joined, joined_within, joined_below}
use Rattle.division.proofs.Phases.{lowest_true}

pub lowest_most : (t : ℕ → Bool) (n v : ℕ) → v < n → t v ≡ true → lowest t n ≤ v
unfolding lowest
lowest_most t zero v h e = absurd (not-suc-le-zero h)
lowest_most t (suc n) v h e =
    ⊎_elim (λ l. let z = lowest_most t n v l e in pick_ind (λ x. x ≤ v) _ _ _ (λ _. z) (λ f. absurd (true≢false (sym (lt-ltb (lowest t n) n (omega arith)) ∙ f))))
    (λ (l : v ≡ n). pick_ind (λ x. x ≤ v) _ _ _ (λ q. let z = ltb-true (lowest t n) n q in omega arith)
    (λ q. pick_ind (λ x. x ≤ v) _ _ _ (λ _. omega arith) (λ f. absurd (true≢false (sym e ∙ ap t l ∙ f)))))
    (lt_cases v n (omega arith))

bool_eq : (a b : Bool) → (a ≡ true → b ≡ true) → (b ≡ true → a ≡ true) → a ≡ b
bool_eq true b f g = sym (f refl)
bool_eq false true f g = g refl
bool_eq false false f g = refl

pub lowest_cong : (t u : ℕ → Bool) (n : ℕ) → ((i : ℕ) → i < n → t i ≡ true → u i ≡ true) → ((i : ℕ) → i < n → u i ≡ true → t i ≡ true) → lowest t n ≡ lowest u n
unfolding lowest
lowest_cong t u zero f g = refl
lowest_cong t u (suc n) f g =
    rw (lowest_cong t u n (λ i h. f i (le_step h)) (λ i h. g i (le_step h)), bool_eq (t n) (u n) (f n (lt-suc_self n)) (g n (lt-suc_self n))) refl

pub lowest_some : (t : ℕ → Bool) (n v : ℕ) → v < n → t v ≡ true → lowest t n < n
unfolding lowest
lowest_some t zero v h e = absurd (not-suc-le-zero h)
lowest_some t (suc n) v h e =
    ⊎_elim (λ l. let z = lowest_some t n v l e in pick_ind (λ x. x < suc n) _ _ _ (λ _. le_step z) (λ f. absurd (true≢false (sym (lt-ltb _ _ z) ∙ f))))
    (λ (l : v ≡ n). pick_ind (λ x. x < suc n) _ _ _ (λ q. le_step (ltb-true _ _ q)) (λ q. pick_ind (λ x. x < suc n) _ _ _ (λ _. lt-suc_self n) (λ f. absurd (true≢false (sym e ∙ ap t l ∙ f)))))
    (lt_cases v n (omega arith))

-- as a loop finds it, from below
pub lowest_zero : (t : ℕ → Bool) → lowest t 0 ≡ 0
unfolding lowest
lowest_zero t = refl

pub lowest_more : (t : ℕ → Bool) (i : ℕ) → lowest t i ≡ i → t i ≡ false → lowest t (i + 1) ≡ i + 1
unfolding lowest
lowest_more t i e f = rw add-one (pick_no _ _ (le-ltb (lowest t i) i (omega arith)) ∙ pick_no _ _ f)

pub lowest_here : (t : ℕ → Bool) (i n : ℕ) → lowest t i ≡ i → t i ≡ true → i < n → i ≡ lowest t n
lowest_here t i n e h k =
    let m = lowest_most t n i k h in
    ⊎_elim (λ (z : i ≤ lowest t n). omega arith)
    (λ (z : lowest t n < i). let b = lowest_most t i (lowest t n) z (lowest_true t n (omega arith)) in absurd (omega arith))
    (le_or_lt i (lowest t n))

pub lowest_left : (t : ℕ → Bool) (i n : ℕ) → lowest t i ≡ i → i ≤ n → n ≤ i → n ≡ lowest t n
lowest_left t i n e l k = let q = le_antisymm l k in sym (ap (lowest t) (sym q) ∙ (e ∙ q))

-- the lowest vertex whose bounds cross: where one does it is a vertex, its bounds cross, and no lower one's do
module _ (d : Plan) (s : State) where
  abbrev cross : ℕ → Bool
  cross v = ltb (s.upper v) (s.lower v)

  pub crossed_known : (v : ℕ) → v < d.vertices → s.upper v < s.lower v → crossed_at d s < d.vertices
  unfolding crossed_at
  crossed_known v h l = lowest_some cross d.vertices v h (lt-ltb _ _ l)

  pub crossed_over : crossed_at d s < d.vertices → s.upper (crossed_at d s) < s.lower (crossed_at d s)
  unfolding crossed_at
  crossed_over h = ltb-true _ _ (lowest_true cross d.vertices h)

  pub crossed_lowest : crossed_at d s < d.vertices → (u : ℕ) → u < crossed_at d s → s.lower u ≤ s.upper u
  unfolding crossed_at
  crossed_lowest h u l =
      ⊎_elim (λ m. m)
      (λ m. let z = lowest_most cross d.vertices u (omega arith) (lt-ltb _ _ m) in absurd (omega arith))
      (le_or_lt _ _)

tab_mem : (f : ℕ → ℕ) (n i : ℕ) → i < n → Memᴰ (f i) (tab f n)
unfolding tab
tab_mem f zero i h = absurd (not-suc-le-zero h)
tab_mem f (suc n) zero h = Memᴰ.head refl
tab_mem f (suc n) (suc i) h = Memᴰ.tail (tab_mem (λ k. f (suc k)) n i (le_of_suc-le-suc h))

tab_every : {P : ℕ → Type 0} (f : ℕ → ℕ) (n : ℕ) → ((i : ℕ) → i < n → P (f i)) → Every P (tab f n)
unfolding tab
tab_every f zero h = none
tab_every {P} f (suc n) h = more (h 0 (omega arith)) (tab_every {P = P} (λ k. f (suc k)) n (λ i l. h (suc i) (omega arith)))

insert_every : {P : ℕ → Type 0} (s : State) (p : ℕ) (l : List ℕ) → P p → Every P l → Every P (insert s p l)
unfolding insert
insert_every s p [] x e = more x none
insert_every {P} s p (q ∷ l) x (more y e) = pick_ind (Every P) _ _ _ (λ _. more x (more y e)) (λ _. more y (insert_every s p l x e))

pub sorted_every : {P : ℕ → Type 0} (s : State) (l : List ℕ) → Every P l → Every P (sorted s l)
unfolding sorted
sorted_every s [] e = none
sorted_every s (p ∷ l) (more x e) = insert_every s p _ x (sorted_every s l e)

-- the least bound up to i
record Least (id b : ℕ → ℕ) (r i : ℕ) (a : Spot) : Type 0 where
  most : (q : ℕ) → q < i → id q ≡ r → a.bound ≤ b q
  some : a.bound < 2147483647 → (a.vertex < i) × (id a.vertex ≡ r) × (b a.vertex ≡ a.bound)

least : (id b : ℕ → ℕ) (r n : ℕ) → Least id b r n (least_in id b r n)
unfolding least_in
least id b r n =
    iter_ind (Least id b r) _ _ n (record { most = λ q h. absurd (not-suc-le-zero h); some = λ h. absurd (omega arith) })
    (λ i a h p. pick_ind (Least id b r (suc i)) (eqb (id i) r && ltb (b i) a.bound) (record { bound = b i; vertex = i }) a
    (λ t. let l = ltb-true (b i) a.bound (and_right (eqb (id i) r) _ t) in
    record {
      most = λ q hq e. ⊎_elim (λ m. omega (arith, p.most q m e)) (λ (m : q ≡ i). rw m (le_refl _)) (lt_cases q i (omega arith));
      some = λ _. (lt-suc_self i, eqb-true _ _ (and_left _ _ t), refl);
    })
    (λ t. record {
      most = λ q hq e. ⊎_elim (λ m. p.most q m e) (λ (m : q ≡ i). rw m (ltb-false _ _ (and_rest (eqb (id i) r) _ (eq-eqb _ _ (sym (ap id m) ∙ e)) t))) (lt_cases q i (omega arith));
      some = λ l. let z = p.some l in (le_step z.0, z.1, z.2);
    }))

-- the greatest bound up to i
record Most (id b : ℕ → ℕ) (r i : ℕ) (a : Spot) : Type 0 where
  most : (q : ℕ) → q < i → id q ≡ r → b q ≤ a.bound
  some : 0 < a.bound → (a.vertex < i) × (id a.vertex ≡ r) × (b a.vertex ≡ a.bound)

most : (id b : ℕ → ℕ) (r n : ℕ) → Most id b r n (most_in id b r n)
unfolding most_in
most id b r n =
    iter_ind (Most id b r) _ _ n (record { most = λ q h. absurd (not-suc-le-zero h); some = λ h. absurd (omega arith) })
    (λ i a h p. pick_ind (Most id b r (suc i)) (eqb (id i) r && ltb a.bound (b i)) (record { bound = b i; vertex = i }) a
    (λ t. let l = ltb-true a.bound (b i) (and_right (eqb (id i) r) _ t) in
    record {
      most = λ q hq e. ⊎_elim (λ m. omega (arith, p.most q m e)) (λ (m : q ≡ i). rw m (le_refl _)) (lt_cases q i (omega arith));
      some = λ _. (lt-suc_self i, eqb-true _ _ (and_left _ _ t), refl);
    })
    (λ t. record {
      most = λ q hq e. ⊎_elim (λ m. p.most q m e) (λ (m : q ≡ i). rw m (ltb-false _ _ (and_rest (eqb (id i) r) _ (eq-eqb _ _ (sym (ap id m) ∙ e)) t))) (lt_cases q i (omega arith));
      some = λ l. let z = p.some l in (le_step z.0, z.1, z.2);
    }))

module _ (d : Plan) (k : Proper d) (st : List ℕ) (po : Bool) where
  abbrev e : Graph
  e = graph d.ends st po

  -- the label is a vertex that v is joined to
  pub label_is : (v : ℕ) → v < d.vertices → (region_label d e v < d.vertices) × Joined e d.edges v (region_label d e v)
  unfolding region_label
  label_is v h =
      let l = lowest_some (within d e v) d.vertices v h (joined_within d k st po v h v (joined_refl v)) in
      (l, within_joined d k st po v h _ (lowest_true (within d e v) d.vertices l))

  -- vertices have one label where they are joined, and only there
  pub label_same : (p q : ℕ) → p < d.vertices → q < d.vertices → (region_label d e p ≡ region_label d e q) ↔ Joined e d.edges p q
  unfolding region_label
  label_same p q hp hq = (
    λ x. joined_trans (subst (λ z. Joined e d.edges p z) x (label_is p hp).1) (joined_sym (label_is q hq).1),
    λ j. lowest_cong (within d e p) (within d e q) d.vertices
        (λ i h x. joined_within d k st po q hq i (joined_trans (joined_sym j) (within_joined d k st po p hp i x)))
        (λ i h x. joined_within d k st po p hp i (joined_trans j (within_joined d k st po q hq i x))),
  )

  -- a region's label is its own
  pub label_own : (v : ℕ) → v < d.vertices → (region_label d e v < d.vertices) × (region_label d e (region_label d e v) ≡ region_label d e v)
  label_own v h = let x = label_is v h in (x.0, (label_same _ v x.0 h).1 (joined_sym x.1))

  -- and it is the lowest vertex of it
  pub label_lowest : (v q : ℕ) → v < d.vertices → Joined e d.edges v q → region_label d e v ≤ q
  unfolding region_label
  label_lowest v q h j = lowest_most (within d e v) d.vertices q (joined_below k.fine h j) (joined_within d k st po v h q j)

  -- the weight by labels is that of all that is joined
  pub weight_by_label : (v : ℕ) → v < d.vertices → weight_of d (region_label d e) (region_label d e v) ≡ weight_from d e v
  unfolding weight_of weight_from
  weight_by_label v h =
      le_antisymm (total_le _ _ _ _ (λ i hi x. joined_within d k st po v h i ((label_same v i h hi).0 (sym (eqb-true _ _ x)))))
      (total_le _ _ _ _ (λ i hi x. eq-eqb _ _ (sym ((label_same v i h hi).1 (within_joined d k st po v h i x)))))

  members_whole : (u v : ℕ) → u < d.vertices → Joined e d.edges u v → Memᴰ v (members_of d e u)
  unfolding members_of
  members_whole u v h j =
      let f = finds d k st po u h in
      let (i, c, x) = f.listed v (f.all v j.0 j.1) in
      Memᴰ.cast (sym x) (tab_mem (λ n. at (searched e d.edges d.vertices u) n) _ i c)

  pub members_only : (u : ℕ) → u < d.vertices → Every (λ p. (p < d.vertices) × (region_label d e p ≡ region_label d e u)) (members_of d e u)
  unfolding members_of
  members_only u h =
      let f = finds d k st po u h in
      tab_every (λ n. at (searched e d.edges d.vertices u) n) _ (λ i c.
      let hp = f.below _ (f.only i c) in
      (hp, sym ((label_same u _ h hp).1 (_, f.path _ (f.only i c)))))

pub shows : (d : Plan) (k : Proper d) (s : State) → Shows d s (view_of d s)
unfolding view_of cells_of
shows d k s = record {
  same = label_same d k s.edge_state false;
  near = label_same d k s.edge_state true;
  weight = weight_by_label d k s.edge_state false;
  most = weight_by_label d k s.edge_state true;
  up = λ v h. (least i s.upper (i v) d.vertices).most v h refl;
  up_at = λ v h l. let a = (least i s.upper (i v) d.vertices).some l in record { vertex = a.0; here = a.1; is = a.2 };
  low = λ v h. (most i s.lower (i v) d.vertices).most v h refl;
  low_at = λ v h l. let a = (most i s.lower (i v) d.vertices).some l in record { vertex = a.0; here = a.1; is = a.2 };
  label = label_own d k s.edge_state false;
  whole = λ v h. let a = label_is d k s.edge_state false v h in members_whole d k s.edge_state false _ v a.0 (joined_sym a.1);
  only = λ r h x. every_map (λ p z. (z.0, z.1 ∙ x)) (members_only d k s.edge_state false r h);
  cells = λ r. sorted_every s _ (collect_every _ _ (λ p hp. pick_ind (Every (Cell d (view_of d s) r)) _ _ _ (λ t. more (record { vertex = hp; here = eqb-true _ _ (and_left _ _ t) }) none) (λ t. none)));
}
  where
    i : ℕ → ℕ
    i = region_label d (decided d s)
