-- As many rounds as there are vertices settle every distance.
use Prim.Native.Nat.{ℕ, zero, suc, ◌+◌, ◌-◌, ◌<◌, ◌≤◌}
use native.Mathlib.Omega.{arith}
use mathlib.Core.Path.{◌≡◌, refl, sym, ◌∙◌, ap, subst}
use mathlib.Core.Logic.{◌⊎◌, inl, inr, ⊎_elim}
use mathlib.Core.Bool.{Bool, true, false, not, ◌&&◌, ◌||◌, true≢false}
use mathlib.Core.List.{List, [], ◌∷◌}
use lib.Dec.{eqb, ltb}
use lib.ListN.{length, get_or, set, replicate, length-set, length-replicate, get_or-eq_default}
use lib.Seq.{get_or-set_same, get_or-set_other}
use borrow.Author.Tests.{eqb-true, eq-eqb, lt-ltb, le-ltb, ltb-true, ltb-false}
use Rattle.base.specs.Iter.{iter, pick}
use Rattle.base.proofs.Loop.{pick_yes, pick_no, pick_ind, tested, eq_or_not}
use Rattle.base.proofs.Tests.{and_left, and_right, or_cases, or_none}
use Rattle.graph.specs.Search.{Graph, is_open, end_a, end_b}
use Rattle.graph.specs.Paths.{Leads}
use Rattle.runs.specs.Run.{Run, here, along, is_undecided, undecided, AtMost}
use Rattle.runs.specs.Rounds.{Settled, far_of, less_by, nearer, stored, relaxed, relaxed_edge, round}

-- ---- order of pairs
pub most_refl : (a b : ℕ) → AtMost a b a b
most_refl a b = record { fewer = omega arith; then = λ x. omega arith }

pub most_trans : (a b c d x y : ℕ) → AtMost a b c d → AtMost c d x y → AtMost a b x y
most_trans a b c d x y p q = record {
  fewer = omega (arith, p.fewer, q.fewer);
  then = λ (z : a ≡ x).
      let u : a ≡ c = omega (arith, p.fewer, q.fewer) in
      let v : c ≡ x = omega arith in
      omega (arith, p.then u, q.then v);
}

pub most_add : (k a b c d : ℕ) → AtMost a b c d → AtMost (k + a) (suc b) (k + c) (suc d)
most_add k a b c d p = record { fewer = omega (arith, p.fewer); then = λ (z : k + a ≡ k + c). let u : a ≡ c = omega arith in omega (arith, p.then u) }

most_less : (a b c d : ℕ) → (ltb a c || (eqb a c && ltb b d)) ≡ true → AtMost a b c d × (a ≡ c → b < d)
most_less a b c d t = ⊎_elim
    (λ (x : ltb a c ≡ true). let y = ltb-true a c x in (record { fewer = omega arith; then = λ (z : a ≡ c). absurd (omega arith) }, λ (z : a ≡ c). absurd (omega arith)))
    (λ x.
    let u : a ≡ c = eqb-true _ _ (and_left (eqb a c) _ x) in
    let v : b < d = ltb-true _ _ (and_right (eqb a c) _ x) in
    (record { fewer = omega arith; then = λ z. omega arith }, λ z. v))
    (or_cases _ _ t)

most_not : (a b c d : ℕ) → (ltb a c || (eqb a c && ltb b d)) ≡ false → AtMost c d a b
most_not a b c d t =
    let n = or_none _ _ t in
    let h : c ≤ a = ltb-false _ _ n.0 in
    record {
      fewer = h;
      then = λ (z : c ≡ a). ltb-false b d (sym (ap (λ (x : Bool). x && ltb b d) (eq-eqb a c (sym z))) ∙ n.1);
    }

-- ---- one store
record At (w w' : List ℕ) (v : ℕ) : Type 0 where
  und : get_or w' v 0 ≡ get_or w v 0
  len : get_or w' (64 + v) 0 ≡ get_or w (64 + v) 0
  seen : get_or w' (128 + v) 0 ≡ get_or w (128 + v) 0

module _ (w : List ℕ) (k : length w ≡ 192) (p a b : ℕ) (h : p < 64) where
  stored_long : length (stored p a b w) ≡ 192
  unfolding stored
  stored_long = length-set (set (set w p a) (64 + p) b) (128 + p) 1 ∙ length-set (set w p a) (64 + p) b ∙ length-set w p a ∙ k

  stored_und : get_or (stored p a b w) p 0 ≡ a
  unfolding stored
  stored_und =
      get_or-set_other (set (set w p a) (64 + p) b) (128 + p) p 1 0 (λ (x : p ≡ 128 + p). omega arith)
      ∙ get_or-set_other (set w p a) (64 + p) p b 0 (λ (x : p ≡ 64 + p). omega arith) ∙ get_or-set_same w p a 0 (omega arith)

  stored_len : get_or (stored p a b w) (64 + p) 0 ≡ b
  unfolding stored
  stored_len =
      get_or-set_other (set (set w p a) (64 + p) b) (128 + p) (64 + p) 1 0 (λ (x : 64 + p ≡ 128 + p). omega arith)
      ∙ get_or-set_same (set w p a) (64 + p) b 0 (omega (arith, length-set w p a))

  stored_seen : get_or (stored p a b w) (128 + p) 0 ≡ 1
  unfolding stored
  stored_seen = get_or-set_same (set (set w p a) (64 + p) b) (128 + p) 1 0 (omega (arith, length-set (set w p a) (64 + p) b, length-set w p a))

  stored_other : (v : ℕ) → v < 64 → (v ≡ p → ⊥) → At w (stored p a b w) v
  unfolding stored
  stored_other v g n = record {
    und = get_or-set_other (set (set w p a) (64 + p) b) (128 + p) v 1 0 (λ (x : v ≡ 128 + p). omega arith)
        ∙ get_or-set_other (set w p a) (64 + p) v b 0 (λ (x : v ≡ 64 + p). omega arith) ∙ get_or-set_other w p v a 0 n;
    len = get_or-set_other (set (set w p a) (64 + p) b) (128 + p) (64 + v) 1 0 (λ (x : 64 + v ≡ 128 + p). omega arith)
        ∙ get_or-set_other (set w p a) (64 + p) (64 + v) b 0 (λ (x : 64 + v ≡ 64 + p). n (omega arith)) ∙ get_or-set_other w p (64 + v) a 0 (λ (x : 64 + v ≡ p). omega arith);
    seen = get_or-set_other (set (set w p a) (64 + p) b) (128 + p) (128 + v) 1 0 (λ (x : 128 + v ≡ 128 + p). n (omega arith))
        ∙ get_or-set_other (set w p a) (64 + p) (128 + v) b 0 (λ (x : 128 + v ≡ 64 + p). omega arith) ∙ get_or-set_other w p (128 + v) a 0 (λ (x : 128 + v ≡ p). omega arith);
  }

shown : (a : Bool) → not a ≡ false → a ≡ true
shown true e = refl
shown false e = absurd (true≢false e)

omega_lt : (g n : ℕ) → g < suc n → (g ≡ n → ⊥) → g < n
omega_lt g n h z = omega arith

abbrev Sees : List ℕ → ℕ → Type 0
Sees w v = (far_of w).seen v ≡ true

-- ---- distances only fall
pub record Falls (w w' : List ℕ) : Type 0 where
  pub seen : (v : ℕ) → v < 64 → Sees w v → Sees w' v
  pub most : (v : ℕ) → v < 64 → Sees w v → AtMost (get_or w' v 0) (get_or w' (64 + v) 0) (get_or w v 0) (get_or w (64 + v) 0)

falls_refl : (w : List ℕ) → Falls w w
falls_refl w = record { seen = λ v h s. s; most = λ v h s. most_refl _ _ }

falls_trans : (w x y : List ℕ) → Falls w x → Falls x y → Falls w y
falls_trans w x y a b = record {
  seen = λ v h s. b.seen v h (a.seen v h s);
  most = λ v h s. most_trans _ _ _ _ _ _ (b.most v h (a.seen v h s)) (a.most v h s);
}

-- ---- counting
unfoldable pub counted : (ℕ → Bool) → ℕ → ℕ
counted b zero = 0
counted b (suc n) = counted b n + pick (b n) 1 0

one_le : (b : Bool) → pick {A = ℕ} b 1 0 ≤ 1
unfolding pick
one_le true = omega arith
one_le false = omega arith

counted_le : (b c : ℕ → Bool) (n : ℕ) → ((i : ℕ) → i < n → b i ≡ true → c i ≡ true) → counted b n ≤ counted c n
unfolding counted
counted_le b c zero h = omega arith
counted_le b c (suc n) h =
    let x = counted_le b c n (λ i k. h i (omega arith)) in
    tested (b n)
    (λ t.
    let u : pick {A = ℕ} (b n) 1 0 ≡ 1 = pick_yes _ _ t in
    let v : pick {A = ℕ} (c n) 1 0 ≡ 1 = pick_yes _ _ (h n (omega arith) t) in
    omega arith)
    (λ t. let u : pick {A = ℕ} (b n) 1 0 ≡ 0 = pick_no _ _ t in omega arith)

counted_less : (b c : ℕ → Bool) (n i : ℕ) → ((i : ℕ) → i < n → b i ≡ true → c i ≡ true) → i < n → c i ≡ true → b i ≡ false → counted b n < counted c n
unfolding counted
counted_less b c zero i h k t f = absurd (omega arith)
counted_less b c (suc n) i h k t f = ⊎_elim
    (λ (z : i ≡ n).
    let x = counted_le b c n (λ j m. h j (omega arith)) in
    let u : pick {A = ℕ} (b n) 1 0 ≡ 0 = pick_no _ _ (sym (ap b z) ∙ f) in
    let v : pick {A = ℕ} (c n) 1 0 ≡ 1 = pick_yes _ _ (sym (ap c z) ∙ t) in
    omega arith)
    (λ (z : i ≡ n → ⊥).
    let x = counted_less b c n i (λ j m. h j (omega arith)) (omega_lt i n k z) t f in
    tested (b n)
    (λ y.
    let u : pick {A = ℕ} (b n) 1 0 ≡ 1 = pick_yes _ _ y in
    let v : pick {A = ℕ} (c n) 1 0 ≡ 1 = pick_yes _ _ (h n (omega arith) y) in
    omega arith)
    (λ y. let u : pick {A = ℕ} (b n) 1 0 ≡ 0 = pick_no _ _ y in omega arith))
    (eq_or_not i n)

counted_all : (n : ℕ) → counted (λ _. true) n ≡ n
unfolding counted
counted_all zero = refl
counted_all (suc n) = let x = counted_all n in let u : pick {A = ℕ} true 1 0 ≡ 1 = pick_yes _ _ refl in omega arith

both : {a b : Bool} → a ≡ true → b ≡ true → (a && b) ≡ true
both {a} {b} e f = ap (λ (x : Bool). x && b) e ∙ f

less_pair : (a b c d : ℕ) → AtMost a b c d → (a ≡ c → b < d) → (ltb a c || (eqb a c && ltb b d)) ≡ true
less_pair a b c d m h = ⊎_elim
    (λ (z : a ≡ c). ap (λ (x : Bool). x || (eqb a c && ltb b d)) (le-ltb a c (omega arith)) ∙ both (eq-eqb _ _ z) (lt-ltb _ _ (h z)))
    (λ (z : a ≡ c → ⊥). ap (λ (x : Bool). x || (eqb a c && ltb b d)) (lt-ltb a c (omega (arith, m.fewer))))
    (eq_or_not a c)

lt_self : (a : ℕ) → a < a → ⊥
lt_self a h = omega arith

zero_one : ◌≡◌ {A = ℕ} 0 1 → ⊥
zero_one h = omega arith

lt_or_le : (a b : ℕ) → (a < b) ⊎ (b ≤ a)
lt_or_le a b = tested (ltb a b) (λ t. inl (ltb-true a b t)) (λ t. inr (ltb-false a b t))

nearer_most : (k a b c d : ℕ) → AtMost (k + a) (suc b) c d → AtMost a b c d
nearer_most k a b c d m = record { fewer = omega (arith, m.fewer); then = λ (z : a ≡ c). let u : k + a ≡ c = omega (arith, m.fewer) in omega (arith, m.then u) }

nearer_less : (k a b c d : ℕ) → AtMost (k + a) (suc b) c d → a ≡ c → b < d
nearer_less k a b c d m z = let u : k + a ≡ c = omega (arith, m.fewer) in omega (arith, m.then u)

most_same : (a b c d : ℕ) → AtMost a b c d → AtMost c d a b → (a ≡ c) × (b ≡ d)
most_same a b c d p q =
    let u : a ≡ c = omega (arith, p.fewer, q.fewer) in
    (u, omega (arith, p.then u, q.then (sym u)))

module _ (e : Graph) (edges vertices q : ℕ) (size : vertices ≤ 64) (hv : q < vertices) (within : (g p r : ℕ) → Leads e edges g p r → (p < vertices) × (r < vertices)) where
  hq : q < 64
  hq = omega (arith, size, hv)

  low : (g p r : ℕ) → Leads e edges g p r → (p < 64) × (r < 64)
  low g p r l = let a = within g p r l in (omega (arith, a.0, size), omega (arith, a.1, size))

  -- ---- what relaxing keeps
  pub record Fair (w : List ℕ) : Type 0 where
    pub long : length w ≡ 192
    pub start : Sees w q
    pub start_und : get_or w q 0 ≡ 0
    pub start_len : get_or w (64 + q) 0 ≡ 0
    pub due : (p : ℕ) → p < 64 → Sees w p → (p ≡ q → ⊥) →
        (g : ℕ) × (r : ℕ) × Leads e edges g p r × Sees w r × AtMost (is_undecided e g + get_or w r 0) (suc (get_or w (64 + r) 0)) (get_or w p 0) (get_or w (64 + p) 0)

  -- one edge, from r to p
  record Eased (g p r : ℕ) (w w' : List ℕ) : Type 0 where
    fair : Fair w'
    falls : Falls w w'
    seen : Sees w r → Sees w' p
    most : Sees w r → AtMost (get_or w' p 0) (get_or w' (64 + p) 0) (is_undecided e g + get_or w r 0) (suc (get_or w (64 + r) 0))

  ease_yes : (g p r : ℕ) → Leads e edges g p r → (w : List ℕ) → Fair w → nearer e g p r (far_of w) ≡ true →
      Eased g p r w (stored p (is_undecided e g + get_or w r 0) (suc (get_or w (64 + r) 0)) w)
  unfolding nearer
  ease_yes g p r l w f t =
      let hp = (low g p r l).0 in
      let hr = (low g p r l).1 in
      let a = is_undecided e g + get_or w r 0 in
      let b = suc (get_or w (64 + r) 0) in
      let w' = stored p a b w in
      let sr : Sees w r = and_left ((far_of w).seen r) _ t in
      let rest = and_right ((far_of w).seen r) _ t in
      let drops : Sees w p → AtMost a b (get_or w p 0) (get_or w (64 + p) 0) × (a ≡ get_or w p 0 → b < get_or w (64 + p) 0) =
      λ s. most_less _ _ _ _ (sym (ap (λ (x : Bool). not x || (ltb a (get_or w p 0) || (eqb a (get_or w p 0) && ltb b (get_or w (64 + p) 0)))) s) ∙ rest) in
      let own : p ≡ r → ⊥ = λ (x : p ≡ r).
      let d = drops (subst (Sees w) (sym x) sr) in
      let u : get_or w p 0 ≡ get_or w r 0 = ap (λ (y : ℕ). get_or w y 0) x in
      let v : get_or w (64 + p) 0 ≡ get_or w (64 + r) 0 = ap (λ (y : ℕ). get_or w (64 + y) 0) x in
      let m : a ≤ get_or w p 0 = d.0.fewer in
      let z : a ≡ get_or w p 0 = omega arith in
      let n : b < get_or w (64 + p) 0 = d.1 z in
      omega arith in
      let notq : p ≡ q → ⊥ = λ (x : p ≡ q).
      let d = drops (subst (Sees w) (sym x) f.start) in
      let u : get_or w p 0 ≡ 0 = ap (λ (y : ℕ). get_or w y 0) x ∙ f.start_und in
      let v : get_or w (64 + p) 0 ≡ 0 = ap (λ (y : ℕ). get_or w (64 + y) 0) x ∙ f.start_len in
      let m : a ≤ get_or w p 0 = d.0.fewer in
      let z : a ≡ get_or w p 0 = omega arith in
      let n : b < get_or w (64 + p) 0 = d.1 z in
      omega arith in
      let eu = stored_und w f.long p a b hp in
      let el = stored_len w f.long p a b hp in
      let es : Sees w' p = eq-eqb _ _ (stored_seen w f.long p a b hp) in
      let oth = stored_other w f.long p a b hp in
      let fall : Falls w w' = record {
        seen = λ v h s. ⊎_elim (λ (x : v ≡ p). subst (Sees w') (sym x) es) (λ (x : v ≡ p → ⊥). eq-eqb _ _ ((oth v h x).seen ∙ eqb-true _ _ s)) (eq_or_not v p);
        most = λ v h s. ⊎_elim
            (λ (x : v ≡ p). subst (λ (y : ℕ). AtMost (get_or w' y 0) (get_or w' (64 + y) 0) (get_or w y 0) (get_or w (64 + y) 0)) (sym x)
            (subst (λ (y : ℕ). AtMost y (get_or w' (64 + p) 0) (get_or w p 0) (get_or w (64 + p) 0)) (sym eu)
            (subst (λ (y : ℕ). AtMost a y (get_or w p 0) (get_or w (64 + p) 0)) (sym el) (drops (subst (Sees w) x s)).0)))
            (λ (x : v ≡ p → ⊥). subst (λ (y : ℕ). AtMost y (get_or w' (64 + v) 0) (get_or w v 0) (get_or w (64 + v) 0)) (sym (oth v h x).und)
            (subst (λ (y : ℕ). AtMost (get_or w v 0) y (get_or w v 0) (get_or w (64 + v) 0)) (sym (oth v h x).len) (most_refl _ _)))
            (eq_or_not v p);
      } in
      record {
        falls = fall;
        seen = λ s. es;
        most = λ s. subst (λ (y : ℕ). AtMost y (get_or w' (64 + p) 0) a b) (sym eu) (subst (λ (y : ℕ). AtMost a y a b) (sym el) (most_refl a b));
        fair = record {
          long = stored_long w f.long p a b hp;
          start = fall.seen q hq f.start;
          start_und = (oth q hq (λ (x : q ≡ p). notq (sym x))).und ∙ f.start_und;
          start_len = (oth q hq (λ (x : q ≡ p). notq (sym x))).len ∙ f.start_len;
          due = λ v h s n. ⊎_elim
              (λ (x : v ≡ p). (
                g,
                r,
                subst (λ (y : ℕ). Leads e edges g y r) (sym x) l,
                fall.seen r hr sr,
                subst (λ (y : ℕ). AtMost (is_undecided e g + get_or w' r 0) (suc (get_or w' (64 + r) 0)) (get_or w' y 0) (get_or w' (64 + y) 0)) (sym x)
                    (subst (λ (y : ℕ). AtMost (is_undecided e g + get_or w' r 0) (suc (get_or w' (64 + r) 0)) y (get_or w' (64 + p) 0)) (sym eu)
                    (subst (λ (y : ℕ). AtMost (is_undecided e g + get_or w' r 0) (suc (get_or w' (64 + r) 0)) a y) (sym el)
                    (most_add (is_undecided e g) _ _ _ _ (fall.most r hr sr)))),
              ))
              (λ (x : v ≡ p → ⊥).
              let o = oth v h x in
              let d = f.due v h (eq-eqb _ _ (sym o.seen ∙ eqb-true _ _ s)) n in
              let hd = (low d.0 v d.1 d.2).1 in (
                d.0,
                d.1,
                d.2,
                fall.seen d.1 hd d.3,
                subst (λ (y : ℕ). AtMost (is_undecided e d.0 + get_or w' d.1 0) (suc (get_or w' (64 + d.1) 0)) y (get_or w' (64 + v) 0)) (sym o.und)
                    (subst (λ (y : ℕ). AtMost (is_undecided e d.0 + get_or w' d.1 0) (suc (get_or w' (64 + d.1) 0)) (get_or w v 0) y) (sym o.len)
                    (most_trans _ _ _ _ _ _ (most_add (is_undecided e d.0) _ _ _ _ (fall.most d.1 hd d.3)) d.4)),
              ))
              (eq_or_not v p);
        };
      }

  ease_no : (g p r : ℕ) (w : List ℕ) → Fair w → nearer e g p r (far_of w) ≡ false → Eased g p r w w
  unfolding nearer
  ease_no g p r w f t =
      let rest = not ((far_of w).seen p) || less_by (is_undecided e g + get_or w r 0) (suc (get_or w (64 + r) 0)) (get_or w p 0) (get_or w (64 + p) 0) in
      let inner : Sees w r → rest ≡ false = λ s. sym (ap (λ (x : Bool). x && rest) s) ∙ t in
      record {
        fair = f;
        falls = falls_refl w;
        seen = λ s. shown _ (or_none _ _ (inner s)).0;
        most = λ s. most_not _ _ _ _ (or_none (not ((far_of w).seen p)) _ (inner s)).1;
      }

  eased : (g p r : ℕ) → Leads e edges g p r → (w : List ℕ) → Fair w → Eased g p r w (relaxed e g p r w)
  unfolding relaxed
  eased g p r l w f = pick_ind (Eased g p r w) (nearer e g p r (far_of w)) _ _ (λ t. ease_yes g p r l w f t) (λ t. ease_no g p r w f t)

  -- ---- edges below n
  record Round (n : ℕ) (w w' : List ℕ) : Type 0 where
    fair : Fair w'
    falls : Falls w w'
    seen : (g p r : ℕ) → g < n → Leads e edges g p r → Sees w r → Sees w' p
    most : (g p r : ℕ) → g < n → Leads e edges g p r → Sees w r → AtMost (get_or w' p 0) (get_or w' (64 + p) 0) (is_undecided e g + get_or w r 0) (suc (get_or w (64 + r) 0))

  -- what edge g gives, both ways
  record Edge (g : ℕ) (w w' : List ℕ) : Type 0 where
    fair : Fair w'
    falls : Falls w w'
    seen : (p r : ℕ) → Leads e edges g p r → Sees w r → Sees w' p
    most : (p r : ℕ) → Leads e edges g p r → Sees w r → AtMost (get_or w' p 0) (get_or w' (64 + p) 0) (is_undecided e g + get_or w r 0) (suc (get_or w (64 + r) 0))

  edged : (g : ℕ) → g < edges → (w : List ℕ) → Fair w → Edge g w (relaxed_edge e g w)
  unfolding relaxed_edge
  edged g h w f = pick_ind (Edge g w) (is_open e g) _ _
      (λ t.
      let a = end_a e g in
      let b = end_b e g in
      let lb : Leads e edges g b a = record { known = h; passed = t; ends = inr (refl, refl) } in
      let la : Leads e edges g a b = record { known = h; passed = t; ends = inl (refl, refl) } in
      let w1 = relaxed e g b a w in
      let x = eased g b a lb w f in
      let y = eased g a b la w1 x.fair in
      let ha = (low g a b la).0 in
      let hb = (low g a b la).1 in
      record {
        fair = y.fair;
        falls = falls_trans _ _ _ x.falls y.falls;
        seen = λ p r l s. ⊎_elim
            (λ (z : (a ≡ p) × (b ≡ r)). subst (Sees (relaxed e g a b w1)) z.0 (y.seen (x.falls.seen b hb (subst (Sees w) (sym z.1) s))))
            (λ (z : (b ≡ p) × (a ≡ r)). subst (Sees (relaxed e g a b w1)) z.0 (y.falls.seen b hb (x.seen (subst (Sees w) (sym z.1) s))))
            l.ends;
        most = λ p r l s. ⊎_elim
            (λ (z : (a ≡ p) × (b ≡ r)).
            let sb = subst (Sees w) (sym z.1) s in
            let m = most_trans _ _ _ _ _ _ (y.most (x.falls.seen b hb sb)) (most_add (is_undecided e g) _ _ _ _ (x.falls.most b hb sb)) in
            subst (λ (p : ℕ). AtMost (get_or (relaxed e g a b w1) p 0) (get_or (relaxed e g a b w1) (64 + p) 0) (is_undecided e g + get_or w r 0) (suc (get_or w (64 + r) 0))) z.0
            (subst (λ (r : ℕ). AtMost (get_or (relaxed e g a b w1) a 0) (get_or (relaxed e g a b w1) (64 + a) 0) (is_undecided e g + get_or w r 0) (suc (get_or w (64 + r) 0))) z.1 m))
            (λ (z : (b ≡ p) × (a ≡ r)).
            let sa = subst (Sees w) (sym z.1) s in
            let m = most_trans _ _ _ _ _ _ (y.falls.most b hb (x.seen sa)) (x.most sa) in
            subst (λ (p : ℕ). AtMost (get_or (relaxed e g a b w1) p 0) (get_or (relaxed e g a b w1) (64 + p) 0) (is_undecided e g + get_or w r 0) (suc (get_or w (64 + r) 0))) z.0
            (subst (λ (r : ℕ). AtMost (get_or (relaxed e g a b w1) b 0) (get_or (relaxed e g a b w1) (64 + b) 0) (is_undecided e g + get_or w r 0) (suc (get_or w (64 + r) 0))) z.1 m))
            l.ends;
      })
      (λ t. record {
        fair = f;
        falls = falls_refl w;
        seen = λ p r l s. absurd (true≢false (sym l.passed ∙ t));
        most = λ p r l s. absurd (true≢false (sym l.passed ∙ t));
      })

  rounded : (n : ℕ) → n ≤ edges → (w : List ℕ) → Fair w → Round n w (iter (relaxed_edge e) n w)
  unfolding iter
  rounded zero h w f = record { fair = f; falls = falls_refl w; seen = λ g p r k. absurd (omega arith); most = λ g p r k. absurd (omega arith) }
  rounded (suc n) h w f =
      let x = rounded n (omega arith) w f in
      let y = edged n (omega arith) (iter (relaxed_edge e) n w) x.fair in
      record {
        fair = y.fair;
        falls = falls_trans _ _ _ x.falls y.falls;
        seen = λ g p r k l s. ⊎_elim
            (λ (z : g ≡ n). y.seen p r (subst (λ (i : ℕ). Leads e edges i p r) z l) (x.falls.seen r (low g p r l).1 s))
            (λ (z : g ≡ n → ⊥). y.falls.seen p (low g p r l).0 (x.seen g p r (omega arith) l s))
            (eq_or_not g n);
        most = λ g p r k l s. ⊎_elim
            (λ (z : g ≡ n).
            let hr = (low g p r l).1 in
            subst (λ (i : ℕ). AtMost (get_or (relaxed_edge e n (iter (relaxed_edge e) n w)) p 0) (get_or (relaxed_edge e n (iter (relaxed_edge e) n w)) (64 + p) 0) (is_undecided e i + get_or w r 0) (suc (get_or w (64 + r) 0))) (sym z)
            (most_trans _ _ _ _ _ _ (y.most p r (subst (λ (i : ℕ). Leads e edges i p r) z l) (x.falls.seen r hr s)) (most_add (is_undecided e n) _ _ _ _ (x.falls.most r hr s))))
            (λ (z : g ≡ n → ⊥).
            let hp = (low g p r l).0 in
            let m = omega_lt g n k z in
            most_trans _ _ _ _ _ _ (y.falls.most p hp (x.seen g p r m l s)) (x.most g p r m l s))
            (eq_or_not g n);
      }

  -- ---- after k rounds no run of at most k edges is shorter
  abbrev pub init : List ℕ
  init = stored q 0 0 (replicate 192 0)

  unfoldable pub after : ℕ → List ℕ
  after k = iter (λ _ w. round e edges w) k init

  module _ (fresh : Fair init) where
    pub fair_after : (k : ℕ) → Fair (after k)
    unfolding after iter round
    fair_after zero = fresh
    fair_after (suc k) = (rounded edges (omega arith) (after k) (fair_after k)).fair

    record Bound (w : List ℕ) (p : ℕ) (m : List ℕ) : Type 0 where
      seen : Sees w p
      most : AtMost (get_or w p 0) (get_or w (64 + p) 0) (undecided e m) (length m)

    bound : (k p : ℕ) (m : List ℕ) → Run e edges p m q → length m ≤ k → Bound (after k) p m
    unfolding undecided after iter round
    bound k p [] here h =
        let f = fair_after k in
        record { seen = f.start; most = record { fewer = omega (arith, f.start_und); then = λ x. omega (arith, f.start_len) } }
    bound zero p (g ∷ m) c h = absurd (omega arith)
    bound (suc k) p (g ∷ m) (along {r = r} g' l c) h =
        let b = bound k r m c (omega arith) in
        let x = rounded edges (omega arith) (after k) (fair_after k) in
        record { seen = x.seen g p r l.known l b.seen; most = most_trans _ _ _ _ _ _ (x.most g p r l.known l b.seen) (most_add (is_undecided e g) _ _ _ _ b.most) }

  -- ---- a reached vertex has a short run: each edge that a distance is due to leads to a vertex nearer by
  unfoldable pub before : List ℕ → ℕ → ℕ → Bool
  before w p v = (far_of w).seen v && (ltb (get_or w v 0) (get_or w p 0) || (eqb (get_or w v 0) (get_or w p 0) && ltb (get_or w (64 + v) 0) (get_or w (64 + p) 0)))

  pub record Short (w : List ℕ) (n p : ℕ) : Type 0 where
    pub edges_of : List ℕ
    pub run : Run e edges p edges_of q
    pub few : length edges_of ≤ n
    pub most : AtMost (undecided e edges_of) (length edges_of) (get_or w p 0) (get_or w (64 + p) 0)

  before_trans : (w : List ℕ) (p r v : ℕ) → AtMost (get_or w r 0) (get_or w (64 + r) 0) (get_or w p 0) (get_or w (64 + p) 0) → before w r v ≡ true → before w p v ≡ true
  unfolding before
  before_trans w p r v m t =
      let x = most_less _ _ _ _ (and_right ((far_of w).seen v) _ t) in
      both (and_left ((far_of w).seen v) _ t)
      (less_pair _ _ _ _ (most_trans _ _ _ _ _ _ x.0 m)
      (λ (z : get_or w v 0 ≡ get_or w p 0).
      let u : get_or w v 0 ≡ get_or w r 0 = omega (arith, x.0.fewer, m.fewer) in
      let y : get_or w r 0 ≡ get_or w p 0 = omega arith in
      omega (arith, x.1 u, m.then y)))

  before_self : (w : List ℕ) (p : ℕ) → before w p p ≡ false
  unfolding before
  before_self w p = tested (before w p p)
      (λ t.
      let less = and_right ((far_of w).seen p) (less_by (get_or w p 0) (get_or w (64 + p) 0) (get_or w p 0) (get_or w (64 + p) 0)) t in
      absurd (lt_self _ ((most_less (get_or w p 0) (get_or w (64 + p) 0) (get_or w p 0) (get_or w (64 + p) 0) less).1 refl)))
      (λ t. t)

  before_yes : (w : List ℕ) (p r : ℕ) → Sees w r → AtMost (get_or w r 0) (get_or w (64 + r) 0) (get_or w p 0) (get_or w (64 + p) 0) →
      (get_or w r 0 ≡ get_or w p 0 → get_or w (64 + r) 0 < get_or w (64 + p) 0) → before w p r ≡ true
  unfolding before
  before_yes w p r s m h = both s (less_pair _ _ _ _ m h)

  record Down (w : List ℕ) (p : ℕ) : Type 0 where
    g : ℕ
    r : ℕ
    leads : Leads e edges g p r
    seen : Sees w r
    most : AtMost (is_undecided e g + get_or w r 0) (suc (get_or w (64 + r) 0)) (get_or w p 0) (get_or w (64 + p) 0)
    less : counted (before w r) vertices < counted (before w p) vertices

  down : (w : List ℕ) → Fair w → (p : ℕ) → p < 64 → Sees w p → (p ≡ q → ⊥) → Down w p
  down w f p h s z =
      let d = f.due p h s z in
      let rp = nearer_most (is_undecided e d.0) (get_or w d.1 0) (get_or w (64 + d.1) 0) (get_or w p 0) (get_or w (64 + p) 0) d.4 in
      let tr = before_yes w p d.1 d.3 rp (nearer_less (is_undecided e d.0) (get_or w d.1 0) (get_or w (64 + d.1) 0) (get_or w p 0) (get_or w (64 + p) 0) d.4) in
      record {
        g = d.0;
        r = d.1;
        leads = d.2;
        seen = d.3;
        most = d.4;
        less = counted_less (before w d.1) (before w p) vertices d.1 (λ v j t. before_trans w p d.1 v rp t) (within d.0 p d.1 d.2).1 tr (before_self w d.1);
      }

  arrived : (w : List ℕ) (n p : ℕ) → p ≡ q → Short w n p
  unfolding undecided
  arrived w n p z = record { edges_of = []; run = subst (λ (y : ℕ). Run e edges p [] y) z here; few = omega arith; most = record { fewer = omega arith; then = λ x. omega arith } }

  short : (w : List ℕ) → Fair w → (n p : ℕ) → p < 64 → Sees w p → counted (before w p) vertices ≤ n → Short w n p
  unfolding undecided
  short w f zero p h s k = ⊎_elim (arrived w zero p) (λ (z : p ≡ q → ⊥). let d = down w f p h s z in absurd (omega (arith, d.less))) (eq_or_not p q)
  short w f (suc n) p h s k = ⊎_elim (arrived w (suc n) p)
      (λ (z : p ≡ q → ⊥).
      let d = down w f p h s z in
      let x = short w f n d.r (low d.g p d.r d.leads).1 d.seen (omega (arith, d.less)) in
      record {
        edges_of = d.g ∷ x.edges_of;
        run = along d.g d.leads x.run;
        few = omega (arith, x.few);
        most = most_trans _ _ _ _ _ _ (most_add (is_undecided e d.g) _ _ _ _ x.most) d.most;
      })
      (eq_or_not p q)

  -- at most vertices - 1 edges
  pub shorter : (w : List ℕ) → Fair w → (p : ℕ) → p < vertices → Sees w p → Short w (vertices - 1) p
  shorter w f p h s =
      let c = counted_less (before w p) (λ _. true) vertices p (λ i k t. refl) h refl (before_self w p) in
      let a = counted_all vertices in
      short w f (vertices - 1) p (omega (arith, size)) s (omega arith)

  -- ---- the first words are fair
  get_d_zeros : (n i : ℕ) → get_or {A = ℕ} (replicate n 0) i 0 ≡ 0
  get_d_zeros zero i = refl
  get_d_zeros (suc n) zero = refl
  get_d_zeros (suc n) (suc i) = get_d_zeros n i

  pub fresh : Fair init
  fresh =
      let k = length-replicate {A = ℕ} 192 0 in
      record {
        long = stored_long (replicate 192 0) k q 0 0 hq;
        start = eq-eqb _ _ (stored_seen (replicate 192 0) k q 0 0 hq);
        start_und = stored_und (replicate 192 0) k q 0 0 hq;
        start_len = stored_len (replicate 192 0) k q 0 0 hq;
        due = λ p h s n. absurd (zero_one (sym ((stored_other (replicate 192 0) k q 0 0 hq p h n).seen ∙ get_d_zeros 192 (128 + p)) ∙ eqb-true _ _ s));
      }

  -- ---- so they are settled after as many rounds as there are vertices
  known : (w : List ℕ) → Fair w → (p : ℕ) → Sees w p → p < 64
  known w f p s = ⊎_elim (λ x. x)
      (λ (x : 64 ≤ p). absurd (zero_one (sym (get_or-eq_default w 0 (omega (arith, f.long))) ∙ eqb-true _ _ s)))
      (lt_or_le p 64)

  via : (g p r : ℕ) (l : Leads e edges g p r) (s : Sees (after vertices) r) →
      Bound fresh (after vertices) p (g ∷ (shorter (after vertices) (fair_after fresh vertices) r (within g p r l).1 s).edges_of)
  via g p r l s =
      let x = shorter (after vertices) (fair_after fresh vertices) r (within g p r l).1 s in
      bound fresh vertices p (g ∷ x.edges_of) (along g l x.run) (omega (arith, x.few, hv))

  edge_most : (g p r : ℕ) → Leads e edges g p r → Sees (after vertices) r →
      AtMost (get_or (after vertices) p 0) (get_or (after vertices) (64 + p) 0) (is_undecided e g + get_or (after vertices) r 0) (suc (get_or (after vertices) (64 + r) 0))
  unfolding undecided
  edge_most g p r l s =
      let x = shorter (after vertices) (fair_after fresh vertices) r (within g p r l).1 s in
      most_trans _ _ _ _ _ _ (via g p r l s).most (most_add (is_undecided e g) _ _ _ _ x.most)

  pub settled : Settled e edges q (far_of (after vertices))
  settled =
      let w = after vertices in
      let f = fair_after fresh vertices in
      record {
        start = f.start;
        start_und = f.start_und;
        start_len = f.start_len;
        edge_seen = λ g p r l s. (via g p r l s).seen;
        edge = λ g p r l s. edge_most g p r l s;
        due = λ p s n.
            let d = f.due p (known w f p s) s n in
            let x = most_same _ _ _ _ (edge_most d.0 p d.1 d.2 d.3) d.4 in
            (d.0, d.1, d.2, d.3, x.0, x.1);
      }
