-- Step 5 goes through the pairs of edges at a vertex as the Rust does, which walks `adj[u]`: the edges at u in rising order, an edge from u to
-- itself twice.
use native.Mathlib.Nat.{le_refl}
use Prim.Native.Nat.{ℕ, zero, suc, ◌+◌, ◌≤◌}
use native.Mathlib.Omega.{arith}
use mathlib.Core.Path.{◌≡◌, refl, sym, ◌∙◌, ap}
use mathlib.Core.Bool.{Bool, true, false, not, ◌&&◌, true≢false}
use mathlib.Core.List.{List, [], ◌∷◌, ◌++◌, append-nil, append_assoc}
use lib.Dec.{eqb}
use lib.ListN.{length, get_or, take}
use borrow.Author.Tests.{eqb-true, eq-eqb}
use lib.Seq.{take-suc, take-length}
use Rattle.base.specs.Iter.{iter, pick}
use Rattle.base.specs.Lists.{collect}
use Rattle.base.proofs.Loop.{pick_ind, pick_no, tested}
use Rattle.base.proofs.Tests.{and_left, and_right}
use Rattle.division.specs.Plan.{Plan, left, right, touches}
use Rattle.division.specs.State.{State}
use Rattle.division.specs.Analysis.{View, Out, still, guarded, loose, forks, same_size, parted, parts_at}

-- the edges at u among the first n, as `new` pushes them
unfoldable pub at_edge : Plan → ℕ → ℕ → List ℕ
at_edge d u g = pick (eqb (left d g) u) (g ∷ []) [] ++ pick (eqb (right d g) u) (g ∷ []) []

abbrev pub adj : Plan → ℕ → ℕ → List ℕ
adj d u n = collect (at_edge d u) n

module _ (d : Plan) (s : State) (w : View) (u : ℕ) where
  -- the Rust's loops: i over the edges at u, j below i
  unfoldable pub row : List ℕ → ℕ → ℕ → Out → Out
  row l g n o = iter (guarded (λ j. parted d s w u g (get_or l j 0))) n o

  unfoldable pub rows : List ℕ → ℕ → Out → Out
  rows l n o = iter (guarded (λ i. row l (get_or l i 0) i)) n o

  -- a pair with an edge that is not at u, or that is no loose one, changes nothing
  idle : (g h : ℕ) → same_size d s w u g h ≡ false → (o : Out) → parted d s w u g h o ≡ o
  unfolding parted
  idle g h e o = pick_no _ _ e

  no_size : (g h : ℕ) → (forks d s w u g h ≡ true → ⊥) → same_size d s w u g h ≡ false
  unfolding same_size
  no_size g h n = tested _ (λ e. absurd (n (and_left (forks d s w u g h) _ e))) (λ e. e)

  forks_at : (g h : ℕ) → forks d s w u g h ≡ true → (touches d u g ≡ true) × (touches d u h ≡ true) × (loose d s w g ≡ true) × (loose d s w h ≡ true)
  unfolding forks
  forks_at g h e =
      let a = and_left (touches d u g && touches d u h) _ e in
      let b = and_left (loose d s w g && loose d s w h) _ (and_right (touches d u g && touches d u h) _ e) in
      (and_left _ _ a, and_right (touches d u g) _ a, and_left _ _ b, and_right (loose d s w g) _ b)

  -- a pair with edge g, of which nothing can come
  parted_idle : (g h : ℕ) → ((touches d u g ≡ true) × (loose d s w g ≡ true) → ⊥) → (o : Out) → parted d s w u g h o ≡ o
  parted_idle g h n o = idle g h (no_size g h (λ e. let (a, b, c, f) = forks_at g h e in n (a, c))) o

  parted_idle' : (g h : ℕ) → ((touches d u h ≡ true) × (loose d s w h ≡ true) → ⊥) → (o : Out) → parted d s w u g h o ≡ o
  parted_idle' g h n o = idle g h (no_size g h (λ e. let (a, b, c, f) = forks_at g h e in n (b, f))) o

  -- how edge g stands at u
  data Entry (g : ℕ) : List ℕ → Type 0 where
    away : touches d u g ≡ false → Entry g []
    once : Entry g (g ∷ [])
    twice : loose d s w g ≡ false → Entry g (g ∷ (g ∷ []))

  entry : (g : ℕ) → Entry g (at_edge d u g)
  unfolding at_edge pick touches loose
  entry g = by (eqb (left d g) u) (eqb (right d g) u) refl refl
    where
      by : (a b : Bool) → eqb (left d g) u ≡ a → eqb (right d g) u ≡ b → Entry g (pick a (g ∷ []) [] ++ pick b (g ∷ []) [])
      by true true p q =
          let e : w.did (left d g) ≡ w.did (right d g) = ap w.did (eqb-true _ _ p ∙ sym (eqb-true _ _ q)) in
          twice (rw (eq-eqb (w.did (left d g)) (w.did (right d g)) e) refl)
      by true false p q = once
      by false true p q = once
      by false false p q = away (rw (p, q) refl)

  -- the turns of a loop, over a list
  unfoldable turns : List ℕ → (ℕ → Out → Out) → Out → Out
  turns [] f o = o
  turns (x ∷ xs) f o = turns xs f (guarded f x o)

  turns_append : (a b : List ℕ) (f : ℕ → Out → Out) (o : Out) → turns (a ++ b) f o ≡ turns b f (turns a f o)
  unfolding turns
  turns_append [] b f o = refl
  turns_append (x ∷ a) b f o = turns_append a b f (guarded f x o)

  guarded_idle : (f : ℕ → Out → Out) (i : ℕ) (o : Out) → ((x : Out) → f i x ≡ x) → guarded f i o ≡ o
  unfolding guarded
  guarded_idle f i o h = pick_ind (λ (z : Out). z ≡ o) _ _ _ (λ _. h o) (λ _. refl)

  guarded_same : (f f' : ℕ → Out → Out) (i j : ℕ) (o : Out) → ((x : Out) → f i x ≡ f' j x) → guarded f i o ≡ guarded f' j o
  unfolding guarded
  guarded_same f f' i j o h = ap (λ (z : Out). pick (still o.verdict) z o) (h o)

  turns_idle : (l : List ℕ) (f : ℕ → Out → Out) (o : Out) → ((i : ℕ) (x : Out) → f i x ≡ x) → turns l f o ≡ o
  unfolding turns
  turns_idle [] f o h = refl
  turns_idle (x ∷ l) f o h = turns_idle l f (guarded f x o) h ∙ guarded_idle f x o (h x)

  loop_turns : (l : List ℕ) (f : ℕ → Out → Out) (n : ℕ) (o : Out) → n ≤ length l → iter (guarded (λ j. f (get_or l j 0))) n o ≡ turns (take n l) f o
  unfolding iter turns
  loop_turns l f zero o h = refl
  loop_turns l f (suc n) o h =
      guarded_same (λ j. f (get_or l j 0)) f n (get_or l n 0) _ (λ x. refl) ∙ ap (guarded f (get_or l n 0)) (loop_turns l f n o (omega arith)) ∙
      sym (ap (λ (z : List ℕ). turns z f o) (take-suc l n 0 (omega arith)) ∙ turns_append (take n l) (get_or l n 0 ∷ []) f o)

  -- the edges at u below m, paired with g
  row_turns : (g m : ℕ) (o : Out) → turns (adj d u m) (parted d s w u g) o ≡ iter (guarded (parted d s w u g)) m o
  unfolding collect turns iter
  row_turns g zero o = refl
  row_turns g (suc m) o = turns_append (adj d u m) (at_edge d u m) (parted d s w u g) o ∙ ap (turns (at_edge d u m) (parted d s w u g)) (row_turns g m o) ∙ by (entry m)
    where
      rest : Out
      rest = iter (guarded (parted d s w u g)) m o

      skip : ((touches d u m ≡ true) × (loose d s w m ≡ true) → ⊥) → (x : Out) → guarded (parted d s w u g) m x ≡ x
      skip n x = guarded_idle (parted d s w u g) m x (parted_idle' g m n)

      by : {l : List ℕ} → Entry m l → turns l (parted d s w u g) rest ≡ guarded (parted d s w u g) m rest
      by (away e) = sym (skip (λ z. true≢false (sym z.0 ∙ e)) rest)
      by once = refl
      by (twice e) = skip (λ z. true≢false (sym z.1 ∙ e)) (guarded (parted d s w u g) m rest)

  -- the outer loop: what was walked before, and what is left
  unfoldable pairs : List ℕ → List ℕ → Out → Out
  pairs p [] o = o
  pairs p (x ∷ xs) o = pairs (p ++ (x ∷ [])) xs (guarded (λ g. turns p (parted d s w u g)) x o)

  pairs_append : (p a b : List ℕ) (o : Out) → pairs p (a ++ b) o ≡ pairs (p ++ a) b (pairs p a o)
  unfolding pairs
  pairs_append p [] b o = ap (λ (z : List ℕ). pairs z b o) (sym (append-nil p))
  pairs_append p (x ∷ a) b o = pairs_append (p ++ (x ∷ [])) a b _ ∙ ap (λ (z : List ℕ). pairs z b (pairs (p ++ (x ∷ [])) a (guarded (λ g. turns p (parted d s w u g)) x o))) (append_assoc p (x ∷ []) a)

  loop_pairs : (l : List ℕ) (n : ℕ) (o : Out) → n ≤ length l → rows l n o ≡ pairs [] (take n l) o
  unfolding rows row iter pairs
  loop_pairs l zero o h = refl
  loop_pairs l (suc n) o h =
      guarded_same (λ i. row l (get_or l i 0) i) (λ g. turns (take n l) (parted d s w u g)) n (get_or l n 0) _ (λ x. loop_turns l (parted d s w u (get_or l n 0)) n x (omega arith)) ∙
      ap (guarded (λ g. turns (take n l) (parted d s w u g)) (get_or l n 0)) (loop_pairs l n o (omega arith)) ∙
      sym (ap (λ (z : List ℕ). pairs [] z o) (take-suc l n 0 (omega arith)) ∙ pairs_append [] (take n l) (get_or l n 0 ∷ []) o)

  pairs_adj : (m : ℕ) (o : Out) → pairs [] (adj d u m) o ≡ iter (guarded (λ g. iter (guarded (parted d s w u g)) g)) m o
  unfolding collect pairs iter
  pairs_adj zero o = refl
  pairs_adj (suc m) o = pairs_append [] (adj d u m) (at_edge d u m) o ∙ ap (pairs (adj d u m) (at_edge d u m)) (pairs_adj m o) ∙ by (entry m)
    where
      F : ℕ → Out → Out
      F = λ g. iter (guarded (parted d s w u g)) g

      rest : Out
      rest = iter (guarded (λ g. iter (guarded (parted d s w u g)) g)) m o

      none : ((touches d u m ≡ true) × (loose d s w m ≡ true) → ⊥) → (p : List ℕ) (x : Out) → guarded (λ g. turns p (parted d s w u g)) m x ≡ x
      none n p x = guarded_idle (λ g. turns p (parted d s w u g)) m x (λ y. turns_idle p (parted d s w u m) y (λ h z. parted_idle m h n z))

      none' : ((touches d u m ≡ true) × (loose d s w m ≡ true) → ⊥) → guarded (λ g. iter (guarded (parted d s w u g)) g) m rest ≡ rest
      none' n = guarded_idle (λ g. iter (guarded (parted d s w u g)) g) m rest (λ y. sym (row_turns m m y) ∙ turns_idle (adj d u m) (parted d s w u m) y (λ h z. parted_idle m h n z))

      by : {l : List ℕ} → Entry m l → pairs (adj d u m) l rest ≡ guarded (λ g. iter (guarded (parted d s w u g)) g) m rest
      by (away e) = sym (none' (λ z. true≢false (sym z.0 ∙ e)))
      by once = guarded_same (λ g. turns (adj d u m) (parted d s w u g)) (λ g. iter (guarded (parted d s w u g)) g) m m rest (λ x. row_turns m m x)
      by (twice e) =
          let n : (touches d u m ≡ true) × (loose d s w m ≡ true) → ⊥ = λ z. true≢false (sym z.1 ∙ e) in
          none n (adj d u m ++ (m ∷ [])) (guarded (λ g. turns (adj d u m) (parted d s w u g)) m rest) ∙ none n (adj d u m) rest ∙ sym (none' n)

  pub as_adjacent : (o : Out) → rows (adj d u d.edges) (length (adj d u d.edges)) o ≡ parts_at d s w u o
  unfolding parts_at
  as_adjacent o =
      loop_pairs (adj d u d.edges) _ o (le_refl _) ∙ ap (λ (z : List ℕ). pairs [] z o) (take-length (adj d u d.edges)) ∙ pairs_adj d.edges o
