-- The literals that initialize notifies are the distinct literals that are true in the table, in the order of their places.
use mathlib.Core.Path.{◌≡◌, refl, sym, ap, subst, ◌∙◌}
use mathlib.Core.Logic.{⊎_elim}
use mathlib.Core.Bool.{Bool, true, ◌&&◌}
use mathlib.Core.List.Memᴰ
use mathlib.Core.List.{List, [], ◌∷◌, map}
use Prim.Native.Nat.{ℕ, zero, suc, ◌+◌, ◌*◌, ◌/◌, ◌%◌, ◌≤◌, ◌<◌}
use native.Mathlib.Omega.{arith}
use Rattle.base.specs.Lists.{Every}
use Rattle.base.proofs.Loop.{pick_ind}
use Rattle.base.proofs.Lists.{every_map}
use Rattle.base.proofs.Tests.{and_left, and_right, and_next}
use Rattle.division.specs.Noting.{In}
use Rattle.plan.specs.Words.{variables_of, variable_at, unique_lit_at}
use Rattle.plan.specs.Plan.{plan_of}
use Rattle.plan.specs.Proper.{ProperWords}
use Rattle.plan.proofs.Abstract.{unique_rising}
use Rattle.noting.proofs.Rising.{rises}
use Rattle.calls.specs.Table.{true_in, knows, variables, rising, entered}
use Rattle.calls.proofs.Count.{known_below}
use Rattle.calls.specs.Order.{Rising}
use Rattle.calls.proofs.Rising.{rising_same, swept_every, swept_rising, swept_in}
use Rattle.refusals.specs.Calls.{entered_places}
use Rattle.refusals.proofs.Known.{place_knows, knows_place}

every_in : (P : ℕ → Type 0) (x : ℕ) (ls : List ℕ) → Every P ls → In ls x → P x
every_in P x [] e m = absurd (Memᴰ.not-nil m)
every_in P x (y ∷ ys) (Every.more p e) m = ⊎_elim (λ q. subst P (sym q) p) (λ n. every_in P x ys e n) (Memᴰ.cases_cons m)

-- what a sweep leaves lies below its end
swept_below : (t : ℕ → Bool) (a n : ℕ) → Every (λ x. x < a + n) (rising t a n)
unfolding rising
swept_below t a zero = Every.none
swept_below t a (suc n) =
    pick_ind (Every (λ x. x < a + suc n)) _ _ _ (λ _. Every.more (omega arith) (every_map (λ x p. up x p) (swept_below t (suc a) n)))
    (λ _. every_map (λ x p. up x p) (swept_below t (suc a) n))
  where
    up : (x : ℕ) → x < suc a + n → x < a + suc n
    up x h = omega arith

in_map : (f : ℕ → ℕ) (x : ℕ) (ls : List ℕ) → In ls x → In (map f ls) (f x)
in_map f x [] m = absurd (Memᴰ.not-nil m)
in_map f x (y ∷ ys) m = ⊎_elim (λ e. Memᴰ.head (ap f e)) (λ n. Memᴰ.tail (in_map f x ys n)) (Memᴰ.cases_cons m)

map_in : (f : ℕ → ℕ) (y : ℕ) (ls : List ℕ) → In (map f ls) y → (x : ℕ) × (In ls x) × (y ≡ f x)
map_in f y [] m = absurd (Memᴰ.not-nil m)
map_in f y (x ∷ xs) m = ⊎_elim (λ e. (x, Memᴰ.head refl, e)) (λ n. let (z, i, e) = map_in f y xs n in (z, Memᴰ.tail i, e)) (Memᴰ.cases_cons m)

-- a function that rises below n
module _ (f : ℕ → ℕ) (n : ℕ) (m : (i j : ℕ) → i < j → j < n → f i < f j) where
  map_over : (x : ℕ) (ls : List ℕ) → Every (λ y. x < y) ls → Every (λ y. y < n) ls → Every (λ y. f x < y) (map f ls)
  map_over x [] e h = Every.none
  map_over x (y ∷ ys) (Every.more a e) (Every.more b h) = Every.more (m x y a b) (map_over x ys e h)

  map_rising : (ls : List ℕ) → Rising ls → Every (λ y. y < n) ls → Rising (map f ls)
  map_rising [] r h = Rising.none
  map_rising (x ∷ xs) (Rising.more e r) (Every.more b h) = Rising.more (map_over x xs e h) (map_rising xs r h)

module _ (ws : List ℕ) (ends : List (List ℕ)) (p : ProperWords ws ends) (t : List ℕ) where
  abbrev d_true : ℕ → Bool
  d_true l = knows (plan_of ws ends) l && true_in t l

  abbrev place_true : ℕ → Bool
  place_true i = true_in t (unique_lit_at ws i)

  -- the literal has a place
  placed : (l : ℕ) → knows (plan_of ws ends) l ≡ true → (i : ℕ) × (i < 2 * variables_of ws) × (l ≡ unique_lit_at ws i)
  placed l e =
      let (k, h, v) = knows_place ws ends p l e in
      let a : (2 * k + l % 2) / 2 ≡ k = omega arith in
      let b : (2 * k + l % 2) % 2 ≡ l % 2 = omega arith in
      let w : variable_at ws ((2 * k + l % 2) / 2) ≡ variable_at ws k = ap (variable_at ws) a in
      (2 * k + l % 2, omega arith, omega arith)

  place_literal : (i : ℕ) → i < 2 * variables_of ws → knows (plan_of ws ends) (unique_lit_at ws i) ≡ true
  place_literal i h = place_knows ws ends p (i / 2) (unique_lit_at ws i) (omega arith) (halves (variable_at ws (i / 2)) i)
    where
      halves : (v i : ℕ) → v ≡ (2 * v + i % 2) / 2
      halves v i = omega arith

  there : (l : ℕ) → In (entered (plan_of ws ends) t) l → In (map (unique_lit_at ws) (entered_places ws t)) l
  unfolding entered entered_places
  there l m =
      let e = (every_in (λ x. (0 ≤ x) × (d_true x ≡ true)) l _ (swept_every d_true 0 (variables (plan_of ws ends) * 2)) m).1 in
      let (i, h, q) = placed l (and_left (knows (plan_of ws ends) l) _ e) in
      subst (In (map (unique_lit_at ws) (rising place_true 0 (2 * variables_of ws)))) (sym q)
      (in_map (unique_lit_at ws) i _ (swept_in place_true 0 (2 * variables_of ws) i (omega arith) (omega arith) (ap (true_in t) (sym q) ∙ and_right (knows (plan_of ws ends) l) _ e)))

  back : (l : ℕ) → In (map (unique_lit_at ws) (entered_places ws t)) l → In (entered (plan_of ws ends) t) l
  unfolding entered entered_places
  back l m =
      let (i, n, q) = map_in (unique_lit_at ws) l (rising place_true 0 (2 * variables_of ws)) m in
      let h = every_in (λ x. x < 0 + 2 * variables_of ws) i _ (swept_below place_true 0 (2 * variables_of ws)) n in
      let u = (every_in (λ x. (0 ≤ x) × (place_true x ≡ true)) i _ (swept_every place_true 0 (2 * variables_of ws)) n).1 in
      let k : knows (plan_of ws ends) l ≡ true = ap (knows (plan_of ws ends)) q ∙ place_literal i (omega arith) in
      let b = known_below (plan_of ws ends) l k in
      swept_in d_true 0 (variables (plan_of ws ends) * 2) l (omega arith) (omega arith) (sym (and_next _ true k (sym (ap (true_in t) q ∙ u))))

  -- document 01, "in rising order, the plan's literals true in the table on entry"
  pub entered_is : entered (plan_of ws ends) t ≡ map (unique_lit_at ws) (entered_places ws t)
  unfolding entered entered_places
  entered_is =
      rising_same _ _ (swept_rising d_true 0 (variables (plan_of ws ends) * 2))
      (map_rising (unique_lit_at ws) (2 * variables_of ws) (rises (unique_lit_at ws) (2 * variables_of ws) (unique_rising ws ends p)) _
      (swept_rising place_true 0 (2 * variables_of ws)) (every_map (λ x h. below x h) (swept_below place_true 0 (2 * variables_of ws))))
      there back
    where
      below : (x : ℕ) → x < 0 + 2 * variables_of ws → x < 2 * variables_of ws
      below x h = omega arith
