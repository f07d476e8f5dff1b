-- The next edge of the run, and the run as it is written.
use Prim.Native.Nat.{ℕ, suc, ◌+◌, ◌-◌, ◌<◌, ◌≤◌}
use native.Mathlib.Omega.{arith}
use native.Mathlib.Numerals.{add-one}
use mathlib.Core.Path.{◌≡◌, refl, sym, ◌∙◌, ap, ap₂, subst}
use mathlib.Core.Bool.{Bool, true, false, ◌||◌}
use mathlib.Core.List.{List}
use lib.Dec.{eqb}
use lib.ListN.{length, get_or}
use borrow.Author.Tests.{eq-eqb, ne_eqb}
use Rattle.base.specs.Iter.{pick}
use Rattle.base.proofs.Loop.{pick_yes, pick_no}
use Rattle.base.proofs.Tests.{and_no}
use Rattle.graph.specs.Search.{Graph, graph, is_open, end_a, end_b}
use Rattle.graph.specs.Bounds.{Fine}
use Rattle.walks.specs.Written.{Out, out_of, pushed, written}
use Rattle.walks.proofs.Written.{pushed_length}
use Rattle.division.specs.Regions.{lowest}
use Rattle.runs.specs.Run.{is_undecided}
use Rattle.runs.specs.Rounds.{Far, far_of, Settled}
use Rattle.runs.specs.Walk.{other, next_by, onward, walked}
use Rattle.runs.proofs.Best.{Step, due_step, not_goal}
use Rattle.runs.proofs.Eased.{second, otherwise}

-- ---- whether an edge leads onward
module _ (e : Graph) (f : Far) (p g a b : ℕ) (o : Bool) (ea : a ≡ end_a e g) (eb : b ≡ end_b e g) (eo : o ≡ is_open e g) where
  pub onward_a : (x : Bool) → o ≡ true → a ≡ p → x ≡ next_by e f p g b → x ≡ onward e f p g
  unfolding onward
  onward_a x t h k =
      let z : eqb (end_a e g) p ≡ true = eq-eqb _ _ (sym ea ∙ h) in
      k ∙ ap (next_by e f p g) (eb ∙ sym (pick_yes _ _ z)) ∙ sym (second (sym eo ∙ t) ∙ second (ap (λ (y : Bool). y || eqb (end_b e g) p) z))

  pub onward_b : (x : Bool) → o ≡ true → (a ≡ p → ⊥) → b ≡ p → x ≡ next_by e f p g a → x ≡ onward e f p g
  unfolding onward
  onward_b x t n h k =
      let z : eqb (end_a e g) p ≡ false = ne_eqb _ _ (λ (y : end_a e g ≡ p). n (ea ∙ y)) in
      k ∙ ap (next_by e f p g) (ea ∙ sym (pick_no _ _ z)) ∙ sym (second (sym eo ∙ t) ∙ second (otherwise z ∙ eq-eqb _ _ (sym eb ∙ h)))

  pub onward_apart : o ≡ true → (a ≡ p → ⊥) → (b ≡ p → ⊥) → false ≡ onward e f p g
  unfolding onward
  onward_apart t n m =
      let z : eqb (end_a e g) p ≡ false = ne_eqb _ _ (λ (y : end_a e g ≡ p). n (ea ∙ y)) in
      let y : eqb (end_b e g) p ≡ false = ne_eqb _ _ (λ (y : end_b e g ≡ p). m (eb ∙ y)) in
      and_no _ (otherwise z ∙ y) ∙ sym (second (sym eo ∙ t))

pub onward_shut : (e : Graph) (f : Far) (p g : ℕ) (o : Bool) → o ≡ is_open e g → o ≡ false → false ≡ onward e f p g
unfolding onward
onward_shut e f p g o t u = and_no _ (sym t ∙ u)

-- whether edge g leads from p to r, as words are read
module _ (e : Graph) (w : List ℕ) (g p r : ℕ) where
  abbrev next_in : Bool
  next_in = next_by e (far_of w) p g r

  pub by_unseen : (get_or w (128 + r) 0 ≡ 1 → ⊥) → false ≡ next_in
  by_unseen n = and_no _ (ne_eqb _ _ n)

  pub by_other : (k : ℕ) → get_or w (128 + r) 0 ≡ 1 → k ≡ is_undecided e g → (get_or w p 0 ≡ k + get_or w r 0 → ⊥) → false ≡ next_in
  by_other k s u n = and_no _ (ne_eqb _ _ (λ (y : get_or w p 0 ≡ is_undecided e g + get_or w r 0). n (y ∙ ap (λ (x : ℕ). x + get_or w r 0) (sym u)))) ∙ sym (second (eq-eqb _ _ s))

  pub by_length : (k : ℕ) → get_or w (128 + r) 0 ≡ 1 → k ≡ is_undecided e g → get_or w p 0 ≡ k + get_or w r 0 → eqb (get_or w (64 + p) 0) (get_or w (64 + r) 0 + 1) ≡ next_in
  by_length k s u h =
      ap (eqb (get_or w (64 + p) 0)) (add-one _) ∙ sym (second (eq-eqb _ _ s) ∙ second (eq-eqb _ _ (h ∙ ap (λ (x : ℕ). x + get_or w r 0) u)))

-- ---- the loop that writes the run
pub record Going (e : Graph) (edges n : ℕ) (f : Far) (from : ℕ) (b₀ b : List ℕ) (at p i : ℕ) : Type 0 where
  pub most : i ≤ n
  pub low : p < 64
  pub seen : f.seen p ≡ true
  pub len : f.len p ≡ n - i
  -- what is left, written, gives the whole
  pub left : written (walked e edges f (n - i) p) (out_of b at) ≡ written (walked e edges f n from) (out_of b₀ 0)
  pub long : length b ≡ length b₀

pick_low : (b : Bool) {x y m : ℕ} → x < m → y < m → pick b x y < m
unfolding pick
pick_low true h k = h
pick_low false h k = k

same_suc : (a b : ℕ) → suc a ≡ suc b → a ≡ b
same_suc a b h = omega arith

pub going_done : (e : Graph) (edges n : ℕ) (f : Far) (from : ℕ) (b₀ b : List ℕ) (at p i : ℕ) → n ≤ i → Going e edges n f from b₀ b at p i →
    out_of b at ≡ written (walked e edges f n from) (out_of b₀ 0)
unfolding walked written
going_done e edges n f from b₀ b at p i h k =
    let z : 0 ≡ n - i = omega arith in
    ap (λ (j : ℕ). written (walked e edges f j p) (out_of b at)) z ∙ k.left

module _ (es : List (List ℕ)) (st : List ℕ) (edges q : ℕ) (f : Far) (fine : Fine 64 edges es) (w : Settled (graph es st true) edges q f) (n : ℕ) where
  abbrev e : Graph
  e = graph es st true

  pub going_first : (from : ℕ) (b : List ℕ) → from < 64 → f.seen from ≡ true → f.len from ≡ n → Going e edges n f from b b 0 from 0
  going_first from b h s k =
      let z : n ≡ n - 0 = omega arith in
      record {
        most = omega arith;
        low = h;
        seen = s;
        len = k ∙ z;
        left = ap (λ (j : ℕ). written (walked e edges f j from) (out_of b 0)) (sym z);
        long = refl;
      }

  step : (p i : ℕ) → i < n → f.seen p ≡ true → f.len p ≡ n - i → Step e edges q f w p
  step p i h s k = let z : n - i ≡ suc (n - (i + 1)) = omega arith in due_step e edges q f w p s (not_goal e edges q f w p (n - (i + 1)) (k ∙ z))

  pub next_known : (from : ℕ) (b₀ b : List ℕ) (at p i g : ℕ) → i < n → Going e edges n f from b₀ b at p i → g ≡ lowest (onward e f p) edges → g < edges
  next_known from b₀ b at p i g h k x = let s = step p i h k.seen k.len in omega (arith, s.below)

  pub going_next : (from : ℕ) (b₀ b : List ℕ) (at p i g r : ℕ) → i < n → Going e edges n f from b₀ b at p i → g ≡ lowest (onward e f p) edges → r ≡ other e g p →
      (b' : List ℕ) (at' : ℕ) → out_of b' at' ≡ pushed g (out_of b at) → Going e edges n f from b₀ b' at' r (i + 1)
  unfolding walked written
  going_next from b₀ b at p i g r h k x y b' at' t =
      let s = step p i h k.seen k.len in
      let z : n - i ≡ suc (n - (i + 1)) = omega arith in
      let c : r ≡ other e (lowest (onward e f p) edges) p = y ∙ ap (λ (j : ℕ). other e j p) x in
      let d = fine.within (lowest (onward e f p) edges) s.below in
      let v = s.next.len in
      record {
        most = omega arith;
        low = subst (λ (j : ℕ). j < 64) (sym c) (pick_low _ d.b d.a);
        seen = ap f.seen c ∙ s.next.seen;
        len = ap f.len c ∙ same_suc _ _ (sym v ∙ k.len ∙ z);
        left = ap₂ (λ (j : ℕ) (o : Out). written (walked e edges f (n - (i + 1)) j) o) c (t ∙ ap (λ (j : ℕ). pushed j (out_of b at)) x)
            ∙ sym (ap (λ (j : ℕ). written (walked e edges f j p) (out_of b at)) z) ∙ k.left;
        long = ap (λ (o : Out). length o.text) t ∙ pushed_length g (out_of b at) ∙ k.long;
      }
