-- A log of 2 × (edges + size literals) holds the records of all that stands after any list of calls.
use Prim.Native.Nat.{ℕ, zero, suc, pred, ◌+◌, ◌*◌, ◌/◌, ◌%◌, ◌<◌, ◌≤◌, zero-le, ◌-◌}
use native.Mathlib.Omega.{arith}
use mathlib.Core.Path.{◌≡◌, refl, sym, ◌∙◌, ap, subst}
use mathlib.Core.Logic.{◌⊎◌, inl, inr, ⊎_elim}
use mathlib.Core.Bool.{Bool, true, false, ◌&&◌}
use mathlib.Core.List.Memᴰ
use mathlib.Core.List.{List, [], ◌∷◌}
use lib.Dec.{eqb}
use borrow.Author.Tests.{eqb-true, eq-eqb, ne_eqb}
use Rattle.base.specs.Iter.{pick}
use Rattle.base.specs.Lists.{Every, none, more, total}
use Rattle.base.proofs.Tests.{and_left}
use Rattle.base.proofs.Loop.{pick_ind, pick_yes, pick_no, eq_or_not}
use Rattle.base.proofs.Lists.{every_map}
use Rattle.sat.specs.Literal.{negate}
use Rattle.graph.proofs.Mark.{lt_cases}
use Rattle.division.specs.Plan.{Plan}
use Rattle.division.specs.Noting.{In}
use Rattle.calls.specs.Table.{knows, entered, true_in}
use Rattle.calls.specs.Calls.{World, built, Call, Outcome, Going, call, after, run, taken, join_by, refuse, noting, adding, settled_by, tell, last_by, finish_by, entry}
use Rattle.calls.specs.Refusals.{Known, of_edge, of_domain}
use Rattle.calls.specs.Slots.{slots, occurs, records}
use Rattle.calls.proofs.Stands.{not_halted, fine_on, clash_on}
use Rattle.calls.proofs.Looks.{halted}
use Rattle.calls.proofs.Refusals.{not_stands}
use Rattle.calls.proofs.Rising.{swept_every}
use Rattle.calls.proofs.View.{Steps, Did, did}
use Rattle.calls.proofs.Known.{known}

-- no two of them are of one variable
pub data Apart : List ℕ → Type 0 where
  no : Apart []
  and : {x : ℕ} {l : List ℕ} → Every (λ y. y / 2 ≡ x / 2 → ⊥) l → Apart l → Apart (x ∷ l)

unfoldable add_all : (ℕ → ℕ) → List ℕ → ℕ
add_all f [] = 0
add_all f (x ∷ l) = f x + add_all f l

add_all_plus : (f g : ℕ → ℕ) (l : List ℕ) → add_all (λ x. f x + g x) l ≡ add_all f l + add_all g l
unfolding add_all
add_all_plus f g [] = refl
add_all_plus f g (x ∷ l) = omega (arith, add_all_plus f g l)

add_all_zero : (f : ℕ → ℕ) (l : List ℕ) → Every (λ x. f x ≡ 0) l → add_all f l ≡ 0
unfolding add_all
add_all_zero f [] none = refl
add_all_zero f (x ∷ l) (more p e) = omega (arith, add_all_zero f l e)

add_all_none : (l : List ℕ) → add_all (λ x. 0) l ≡ 0
unfolding add_all
add_all_none [] = refl
add_all_none (x ∷ l) = omega (arith, add_all_none l)

-- at most one is of variable v
one_match : (v : ℕ) (l : List ℕ) → Apart l → add_all (λ x. pick (eqb (x / 2) v) 1 0) l ≤ 1
unfolding add_all
one_match v [] Apart.no = zero-le
one_match v (x ∷ l) (Apart.and e a) =
    pick_ind (λ z. z + add_all (λ x. pick (eqb (x / 2) v) 1 0) l ≤ 1) (eqb (x / 2) v) 1 0
    (λ t. let q : add_all (λ x. pick (eqb (x / 2) v) 1 0) l ≡ 0 =
    add_all_zero _ l (every_map (λ y n. pick_no 1 0 (ne_eqb (y / 2) v (λ c. n (c ∙ sym (eqb-true _ _ t))))) e) in omega arith)
    (λ t. let q = one_match v l a in omega arith)

-- so no more than n of n slots are taken
row_few : (f : ℕ → ℕ) (n : ℕ) (l : List ℕ) → Apart l → add_all (λ x. total (λ i. eqb (x / 2) (f i)) (λ i. 1) n) l ≤ n
unfolding total
row_few f zero l a = rw add_all_none zero-le
row_few f (suc n) l a =
    rw (add_all_plus (λ x. total (λ i. eqb (x / 2) (f i)) (λ i. 1) n) (λ x. pick (eqb (x / 2) (f n)) 1 0) l) (omega (arith, row_few f n l a, one_match (f n) l a))

table_few : (f : ℕ → ℕ → ℕ) (m : ℕ → ℕ) (n : ℕ) (l : List ℕ) → Apart l →
    add_all (λ x. total (λ v. true) (λ v. total (λ j. eqb (x / 2) (f v j)) (λ j. 1) (m v)) n) l ≤ total (λ v. true) m n
unfolding total pick
table_few f m zero l a = rw add_all_none zero-le
table_few f m (suc n) l a =
    rw (add_all_plus (λ x. total (λ v. true) (λ v. total (λ j. eqb (x / 2) (f v j)) (λ j. 1) (m v)) n) (λ x. total (λ j. eqb (x / 2) (f n j)) (λ j. 1) (m n)) l)
    (omega (arith, table_few f m n l a, row_few (f n) (m n) l a))

total_some : (b : ℕ → Bool) (n i : ℕ) → i < n → b i ≡ true → 1 ≤ total b (λ _. 1) n
unfolding total
total_some b zero i h e = absurd (omega arith)
total_some b (suc n) i h e =
    ⊎_elim (λ l. omega (arith, total_some b n i l e)) (λ (q : i ≡ n). let z : pick {A = ℕ} (b n) 1 0 ≡ 1 = pick_yes 1 0 (sym (ap b q) ∙ e) in omega arith) (lt_cases i n (omega arith))

total_part : (w : ℕ → ℕ) (n i : ℕ) → i < n → w i ≤ total (λ v. true) w n
unfolding total pick
total_part w zero i h = absurd (omega arith)
total_part w (suc n) i h = ⊎_elim (λ l. omega (arith, total_part w n i l)) (λ (q : i ≡ n). let z : w i ≡ w n = ap w q in omega arith) (lt_cases i n (omega arith))

-- two literals of one variable are one, or negations
other_sign : (y l : ℕ) → y / 2 ≡ l / 2 → (y ≡ l → ⊥) → y ≡ negate l
unfolding negate
other_sign y l e n = ⊎_elim
    (λ (h : l % 2 ≡ 0). (let z : y ≡ l + 1 = omega arith in z) ∙ sym (pick_yes (l + 1) (l - 1) (eq-eqb (l % 2) 0 h)))
    (λ (h : l % 2 ≡ 0 → ⊥). (let z : y ≡ l - 1 = omega arith in z) ∙ sym (pick_no (l + 1) (l - 1) (ne_eqb (l % 2) 0 h)))
    (eq_or_not (l % 2) 0)

module _ (d : Plan) where
  -- a known literal occurs
  occurs_some : (l : ℕ) → Known d l → 1 ≤ occurs d l
  unfolding occurs
  occurs_some l (of_edge g h e) = omega (arith, total_some (λ g. eqb (l / 2) (d.edge_lit g / 2)) d.edges g h (eq-eqb _ _ e))
  occurs_some l (of_domain v j h i e) =
      omega (
        arith,
        total_some (λ j. eqb (l / 2) (d.dom_lit v j / 2)) (pred (d.domain_len v)) j (omega arith) (eq-eqb _ _ e),
        total_part (λ v. total (λ j. eqb (l / 2) (d.dom_lit v j / 2)) (λ j. 1) (pred (d.domain_len v))) d.vertices v h,
      )

  occurs_few : (l : List ℕ) → Apart l → add_all (occurs d) l ≤ slots d
  unfolding occurs slots
  occurs_few l a =
      rw (add_all_plus (λ x. total (λ g. eqb (x / 2) (d.edge_lit g / 2)) (λ g. 1) d.edges)
      (λ x. total (λ v. true) (λ v. total (λ j. eqb (x / 2) (d.dom_lit v j / 2)) (λ j. 1) (pred (d.domain_len v))) d.vertices) l)
      (omega (arith, row_few (λ g. d.edge_lit g / 2) d.edges l a, table_few (λ v j. d.dom_lit v j / 2) (λ v. pred (d.domain_len v)) d.vertices l a))

  records_twice : (l : List ℕ) → Every (λ x. knows d x ≡ true) l → records d l ≤ add_all (occurs d) l + add_all (occurs d) l
  unfolding records add_all
  records_twice [] none = zero-le
  records_twice (x ∷ l) (more p e) = omega (arith, occurs_some x (known d x p), records_twice l e)

  -- what stands is known, and of different variables
  record Kept (ls : List ℕ) : Type 0 where
    apart : Apart ls
    known : Every (λ x. knows d x ≡ true) ls

  kept_none : Kept []
  kept_none = record { apart = Apart.no; known = none }

  kept_more : (w : World) (l : ℕ) → taken w l ≡ false → knows d l ≡ true → Kept w.standing → Kept (l ∷ w.standing)
  kept_more w l f k x = record { apart = Apart.and (others w.standing (λ y m. m)) x.apart; known = more k x.known }
    where
      others : (ls : List ℕ) → ((y : ℕ) → In ls y → In w.standing y) → Every (λ y. y / 2 ≡ l / 2 → ⊥) ls
      others [] sub = none
      others (y ∷ ls) sub = more (λ e. not_stands w l f (same_variable y l e (sub y (Memᴰ.head refl)))) (others ls (λ z m. sub z (Memᴰ.tail m)))
        where
          same_variable : (y l : ℕ) → y / 2 ≡ l / 2 → In w.standing y → In w.standing l ⊎ In w.standing (negate l)
          same_variable y l e m = ⊎_elim (λ (q : y ≡ l). inl (subst (In w.standing) q m)) (λ (q : y ≡ l → ⊥). inr (subst (In w.standing) (other_sign y l e q) m)) (eq_or_not y l)

  steps_kept : {a b : Going} {ls : List ℕ} → Steps d a ls b → halted b.judgement ≡ false → Every (λ x. knows d x ≡ true) ls → Kept a.world.standing → Kept b.world.standing
  unfolding join_by noting
  steps_kept (Steps.over e) h k x = x
  steps_kept {a} (Steps.more {l = l} o e f q s) h (more p k) x = steps_kept s h k (kept_more a.world l f p x)
  steps_kept {a} (Steps.ends {l = l} o e f q) h (more p k) x = kept_more a.world l f p x
  steps_kept (Steps.halts n e) h k x = absurd (not_halted e h)

  entered_known : (t : List ℕ) → Every (λ x. knows d x ≡ true) (entered d t)
  unfolding entered
  entered_known t = every_map (λ x p. and_left (knows d x) _ p.1) (swept_every (λ l. knows d l && true_in t l) 0 _)

  tail_kept : {x : ℕ} {ls : List ℕ} → Kept (x ∷ ls) → Kept ls
  tail_kept {x} {ls} k = record { apart = go k.apart; known = go' k.known }
    where
      go : Apart (x ∷ ls) → Apart ls
      go (Apart.and e a) = a

      go' : {P : ℕ → Type 0} → Every P (x ∷ ls) → Every P ls
      go' (more p e) = e

  did_kept : (w : World) {c : Call} {o : Outcome} → Did d w c o → Kept w.standing → Kept o.world.standing
  unfolding refuse adding settled_by noting tell last_by finish_by entry
  did_kept w (Did.away c n) x = x
  did_kept w (Did.added room t l p e f kn) x = kept_more w l f kn x
  did_kept w (Did.agreed room t l p pf o e f q bt kn) x = kept_more w l f kn x
  did_kept w (Did.clashed room t l p pf o e f q bt kn) x = kept_more w l f kn x
  did_kept w (Did.took room l y ys e) x = tail_kept (subst Kept e x)
  did_kept w (Did.asked room q) x = x
  did_kept w (Did.began room t a s j v bt) x = steps_kept s (fine_on j) (entered_known t) x
  did_kept w (Did.began_last room t a s j c v bt) x = steps_kept s (fine_on j) (entered_known t) x
  did_kept w (Did.began_clash room t a s j bt) x = steps_kept s (clash_on j) (entered_known t) x

  after_kept : (cs : List Call) (w : World) → Kept w.standing → Kept (after d w cs).standing
  unfolding after
  after_kept [] w x = x
  after_kept (c ∷ cs) w x = after_kept cs (call d c w).world (did_kept w (did d w c) x)

  -- whatever was called, the records of what stands fit a log of twice the slots
  pub log_fits : (cs : List Call) → records d (run d cs).standing ≤ 2 * slots d
  unfolding run built
  log_fits cs =
      let x = after_kept cs built kept_none in
      omega (arith, records_twice (after d built cs).standing x.known, occurs_few (after d built cs).standing x.apart)
