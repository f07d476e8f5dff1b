-- What a search holds after one vertex more is marked.
use Prim.Native.Nat.{ℕ, zero, suc, ◌+◌, ◌<◌}
use native.Mathlib.Nat.{eq-or-lt_of_le}
use native.Mathlib.Omega.{arith}
use mathlib.Core.Path.{◌≡◌, refl, sym, ◌∙◌, ap}
use mathlib.Core.Logic.{◌⊎◌, inl, inr, ⊎_elim}
use mathlib.Core.Bool.{false, true≢false}
use mathlib.Core.List.{List, [], ◌∷◌}
use lib.Dec.{ltb, eqb}
use lib.ListN.{length, get_or, set, length-set}
use lib.Seq.{get_or-set_same, get_or-set_other}
use borrow.Author.Tests.{lt-ltb, le-ltb}
use Rattle.base.specs.Iter.{pick}
use Rattle.graph.specs.Search.{Scan, at, parent_of, edge_to, reached_yet, marked}
use Rattle.graph.specs.Bounds.{Ok, ones}
use Rattle.graph.specs.Paths.{Seen}
use Rattle.base.proofs.Loop.{eq_or_not}
use Rattle.graph.proofs.Ones.{ones_room, ones_set}

pub lt_cases : (i c : ℕ) → i < c + 1 → (i < c) ⊎ (i ≡ c)
lt_cases i c h = ⊎_elim (λ e. inr e) (λ l. inl l) (eq-or-lt_of_le (omega arith))

-- a level for each place: the first c keep theirs
unfoldable pub up : (ℕ → ℕ) → ℕ → ℕ → ℕ → ℕ
up lev c x i = pick (ltb i c) (lev i) x

pub up_old : (lev : ℕ → ℕ) (c x i : ℕ) → i < c → up lev c x i ≡ lev i
unfolding up pick
up_old lev c x i h = simp (lt-ltb i c h)

pub up_new : (lev : ℕ → ℕ) (c x : ℕ) → up lev c x c ≡ x
unfolding up pick
up_new lev c x = simp (le-ltb c c (omega arith))

-- a store keeps what holds of what is stored and of what stood there
pub set_keeps : (P : ℕ → Type 0) (l : List ℕ) (q r a : ℕ) → P a → P (get_or l r 0) → P (get_or (set l q a) r 0)
set_keeps P [] q r a h k = k
set_keeps P (x ∷ l) zero zero a h k = h
set_keeps P (x ∷ l) zero (suc r) a h k = k
set_keeps P (x ∷ l) (suc q) zero a h k = k
set_keeps P (x ∷ l) (suc q) (suc r) a h k = set_keeps P l q r a h k

pub count_marked : (p g q : ℕ) (s : Scan) → (marked p g q s).count ≡ s.count + 1
unfolding marked
count_marked p g q s = refl

pub len_marked : (p g q : ℕ) (s : Scan) → length (marked p g q s).words ≡ length s.words
unfolding marked
len_marked p g q s = simp length-set

-- the words with one store, two and three of the four
abbrev one : ℕ → Scan → List ℕ
one q s = set s.words s.count q

abbrev two : ℕ → ℕ → Scan → List ℕ
two p q s = set (one q s) (64 + q) p

abbrev three : ℕ → ℕ → ℕ → Scan → List ℕ
three p g q s = set (two p q s) (128 + q) g

pub small_marked : (p g q : ℕ) (s : Scan) (i : ℕ) → i < 128 → p < 64 → q < 64 → at s i < 64 → at (marked p g q s) i < 64
unfolding marked
small_marked p g q s i h hp hq k =
    rw (get_or-set_other (three p g q s) (192 + q) i 1 0 (λ (e : i ≡ 192 + q). omega arith), get_or-set_other (two p q s) (128 + q) i g 0 (λ (e : i ≡ 128 + q). omega arith))
    (set_keeps (λ x. x < 64) (one q s) (64 + q) i p hp (set_keeps (λ x. x < 64) s.words s.count i q hq k))

module _ (p g q : ℕ) (s : Scan) (n : ℕ) (o : Ok n s) (below : q < 64) (fresh : reached_yet s q ≡ false) where
  pub room : s.count < 64
  room = omega (arith, ones_room (reached_yet s) 64 q below fresh, o.full)

  -- a word that is not written
  still : (i : ℕ) → (i ≡ s.count → ⊥) → (i ≡ 64 + q → ⊥) → (i ≡ 128 + q → ⊥) → (i ≡ 192 + q → ⊥) → get_or (marked p g q s).words i 0 ≡ get_or s.words i 0
  unfolding marked
  still i a b c d =
      get_or-set_other (three p g q s) (192 + q) i 1 0 d ∙ get_or-set_other (two p q s) (128 + q) i g 0 c ∙ get_or-set_other (one q s) (64 + q) i p 0 b ∙ get_or-set_other s.words s.count i q 0 a

  pub at_old : (i : ℕ) → i < s.count → at (marked p g q s) i ≡ at s i
  at_old i h =
      let r = room in
      still i (λ (e : i ≡ s.count). omega arith) (λ (e : i ≡ 64 + q). omega arith) (λ (e : i ≡ 128 + q). omega arith) (λ (e : i ≡ 192 + q). omega arith)

  pub vertex_old : (r : ℕ) → r < 64 → (r ≡ q → ⊥) → parent_of (marked p g q s) r ≡ parent_of s r
  vertex_old r k h =
      let m = room in
      still (64 + r) (λ (e : 64 + r ≡ s.count). omega arith) (λ (e : 64 + r ≡ 64 + q). h (omega arith)) (λ (e : 64 + r ≡ 128 + q). omega arith) (λ (e : 64 + r ≡ 192 + q). omega arith)

  pub edge_old : (r : ℕ) → r < 64 → (r ≡ q → ⊥) → edge_to (marked p g q s) r ≡ edge_to s r
  edge_old r k h =
      let m = room in
      still (128 + r) (λ (e : 128 + r ≡ s.count). omega arith) (λ (e : 128 + r ≡ 64 + q). omega arith) (λ (e : 128 + r ≡ 128 + q). h (omega arith)) (λ (e : 128 + r ≡ 192 + q). omega arith)

  -- whether another vertex was reached
  pub yet_old : (r : ℕ) → (r ≡ q → ⊥) → reached_yet (marked p g q s) r ≡ reached_yet s r
  yet_old r h =
      let m = room in
      ap (λ x. eqb x 1) (still (192 + r) (λ (e : 192 + r ≡ s.count). omega arith) (λ (e : 192 + r ≡ 64 + q). omega arith) (λ (e : 192 + r ≡ 128 + q). omega arith) (λ (e : 192 + r ≡ 192 + q). h (omega arith)))

  pub seen_cases : (r : ℕ) → Seen (marked p g q s) r → (r ≡ q) ⊎ Seen s r
  seen_cases r h = ⊎_elim (λ e. inl e) (λ e. inr (sym (yet_old r e) ∙ h)) (eq_or_not r q)

  pub at_new : at (marked p g q s) s.count ≡ q
  unfolding marked
  at_new =
      let m = room in
      get_or-set_other (three p g q s) (192 + q) s.count 1 0 (λ (e : s.count ≡ 192 + q). omega arith) ∙ get_or-set_other (two p q s) (128 + q) s.count g 0 (λ (e : s.count ≡ 128 + q). omega arith) ∙
      get_or-set_other (one q s) (64 + q) s.count p 0 (λ (e : s.count ≡ 64 + q). omega arith) ∙ get_or-set_same s.words s.count q 0 (omega (arith, o.len))

  pub vertex_new : parent_of (marked p g q s) q ≡ p
  unfolding marked
  vertex_new =
      get_or-set_other (three p g q s) (192 + q) (64 + q) 1 0 (λ (e : 64 + q ≡ 192 + q). omega arith) ∙ get_or-set_other (two p q s) (128 + q) (64 + q) g 0 (λ (e : 64 + q ≡ 128 + q). omega arith) ∙
      get_or-set_same (one q s) (64 + q) p 0 (simp length-set (omega (arith, o.len)))

  pub edge_new : edge_to (marked p g q s) q ≡ g
  unfolding marked
  edge_new =
      get_or-set_other (three p g q s) (192 + q) (128 + q) 1 0 (λ (e : 128 + q ≡ 192 + q). omega arith) ∙ get_or-set_same (two p q s) (128 + q) g 0 (simp length-set (omega (arith, o.len)))

  pub seen_new : Seen (marked p g q s) q
  unfolding marked
  seen_new = ap (λ x. eqb x 1) (get_or-set_same (three p g q s) (192 + q) 1 0 (simp length-set (omega (arith, o.len))))

  -- a vertex that was reached before is another
  pub other : (r : ℕ) → Seen s r → r ≡ q → ⊥
  other r h e = true≢false (sym h ∙ ap (λ k. reached_yet s k) e ∙ fresh)

  pub seen_old : (r : ℕ) → Seen s r → Seen (marked p g q s) r
  seen_old r h = yet_old r (other r h) ∙ h

  pub ones_marked : ones (reached_yet (marked p g q s)) 64 ≡ ones (reached_yet s) 64 + 1
  ones_marked = ones_set (reached_yet s) (reached_yet (marked p g q s)) 64 q below fresh seen_new yet_old

  pub marked_ok : q < n → p < 64 → Ok n (marked p g q s)
  marked_ok l hp = record {
    len = len_marked p g q s ∙ o.len;
    small = λ i h. small_marked p g q s i h hp below (o.small i h);
    full = ones_marked ∙ ap (λ c. c + 1) o.full ∙ sym (count_marked p g q s);
    low = λ r t. ⊎_elim (λ (k : r ≡ q). omega arith) (λ k. o.low r k) (seen_cases r t);
  }
