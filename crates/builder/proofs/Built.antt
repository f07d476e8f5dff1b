-- Every plan that is built is proper, and passes the plan's own test.
use mathlib.Core.Path.{◌≡◌, refl, sym, ap, ap₂, subst, ◌∙◌}
use mathlib.Core.Logic.{◌⊎◌, inl, inr, ⊎_elim}
use mathlib.Core.Bool.{Bool, true, false, not, ◌&&◌, false≢true}
use mathlib.Core.List.{List, [], ◌∷◌}
use Prim.Native.Nat.{ℕ, zero, suc, pred, ◌+◌, ◌-◌, ◌*◌, ◌/◌, ◌%◌, ◌≤◌, ◌<◌, min}
use native.Mathlib.Omega.{arith}
use native.Mathlib.Nat.{eq-or-lt_of_le}
use lib.Dec.{eqb, ltb}
use lib.IntN.{ℤ, pos, negsuc}
use lib.Signed.{lt_z}
use lib.ListN.{length, get_or, set, length-set}
use lib.Seq.{get_or-set_same, get_or-set_other}
use borrow.Author.Tests.{lt-ltb, le-ltb, ltb-true, eqb-true, eq-eqb}
use Rattle.base.specs.Iter.{iter, pick}
use Rattle.base.specs.Lists.{some}
use Rattle.base.specs.Range.{in_range, to_nat}
use Rattle.base.proofs.Loop.{pick_yes, pick_no, tested}
use Rattle.base.proofs.Tests.{or_none, not_false, and_left, and_right, and_rest}
use Rattle.base.proofs.Some.{some_none}
use Rattle.base.proofs.Range.{in_range_nat}
use Rattle.graph.specs.Bounds.{ones}
use Rattle.graph.proofs.Ones.{ones_same}
use Rattle.plan.specs.Words.{word, entry, vertices_of, edges_of, variables_of, slots_of, mark_of, built_mark, weight_of, domain_len_of, domain_of, lit_of, place_of, position_of, variable_at, start_at, occurrence_at}
use Rattle.plan.specs.Check.{used_slot, slot_count, plan_bad}
use Rattle.plan.specs.Proper.{Filed, Listed, ProperWords}
use Rattle.plan.proofs.Proper.{slot_cases}
use Rattle.plan.proofs.Passes.{passes}
use Rattle.builder.specs.Input.{weight_at, len_at, size_at, lit_at, left_at, right_at, edge_lit_at, size_wrong, domain_wrong, size_lit_outside, edge_lit_outside, is_vertex, refusal}
use Rattle.builder.specs.Index.{variable_of, Indexing, indexed}
use Rattle.builder.specs.Given.{Given}
use Rattle.builder.specs.Build.{flag, header, given, closed, totals, with_index, plan_words, edge_step, edge_table}
use Rattle.builder.proofs.Refusal.{Counted, counted}
use Rattle.builder.specs.Applies.{Clean}
use Rattle.builder.proofs.Lowest.{clean}
use Rattle.builder.proofs.Least.{below, and_both}
use Rattle.builder.proofs.Rounds as rounds
use Rattle.builder.proofs.Rounds.{Good, Group, Kept, indexed_good, end_inner, end_last}
use Rattle.builder.proofs.BuildCases.{indexed_few}
use Rattle.plan.proofs.Count.{slots_counted}
use Rattle.builder.proofs.Given.{given_length, given_header, given_weight, given_len, given_size, given_lit, given_edge, kept_word, total_word, index_word, entry_in, entry_same, cell_in}

flag_back : (t : Bool) → eqb (flag t) 1 ≡ t
unfolding pick
flag_back true = refl
flag_back false = refl

above : (k j : ℕ) → suc j < k → j < pred k
above zero j h = absurd (omega arith)
above (suc k) j h = omega arith

-- ---- from the tests on numbers
module _ (vs : List ℤ) (n : ℕ) (es : List ℤ) (m : ℕ) (c : Clean vs n es m) where
  weight_fits : (v : ℕ) → v < n → to_nat (weight_at vs v) ≤ 1000000
  weight_fits v h = in_range_nat 1000000 (weight_at vs v) (not_false _ (some_none (λ v. not (in_range (pos 1000000) (weight_at vs v))) n c.weights v h))

  size_ok : (v j : ℕ) → v < n → j < len_at vs v → size_wrong vs v j ≡ false
  size_ok v j h k = some_none (size_wrong vs v) (len_at vs v) (some_none (domain_wrong vs) n c.sizes v h) j k

  size_in : (v j : ℕ) → v < n → j < len_at vs v → in_range (pos 1000000) (size_at vs v j) ≡ true
  unfolding size_wrong
  size_in v j h k = not_false _ (or_none (not (in_range (pos 1000000) (size_at vs v j))) _ (size_ok v j h k)).0

  size_fits : (v j : ℕ) → v < n → j < len_at vs v → to_nat (size_at vs v j) ≤ 1000000
  size_fits v j h k = in_range_nat 1000000 (size_at vs v j) (size_in v j h k)

  nat_less : (x y : ℤ) → in_range (pos 1000000) x ≡ true → lt_z x y ≡ true → to_nat x < to_nat y
  unfolding in_range to_nat
  nat_less (pos a) (pos b) e f = ltb-true a b f
  nat_less (pos a) (negsuc b) e f = absurd (false≢true f)
  nat_less (negsuc a) y e f = absurd (false≢true e)

  size_rises : (v j : ℕ) → v < n → suc j < len_at vs v → to_nat (size_at vs v j) < to_nat (size_at vs v (suc j))
  unfolding size_wrong
  size_rises v j h k =
      let e : suc j - 1 ≡ j = omega arith in
      let bad = (or_none (not (in_range (pos 1000000) (size_at vs v (suc j)))) _ (size_ok v (suc j) h k)).1 in
      let r : lt_z (size_at vs v (suc j - 1)) (size_at vs v (suc j)) ≡ true = not_false _ (and_rest (ltb 0 (suc j)) _ (lt-ltb 0 (suc j) (omega arith)) bad) in
      nat_less (size_at vs v j) (size_at vs v (suc j)) (size_in v j h (omega arith)) (subst (λ (i : ℕ). lt_z (size_at vs v i) (size_at vs v (suc j)) ≡ true) e r)

  lit_tests : (some (size_lit_outside vs) n ≡ false) × (edge_lit_outside es m ≡ false)
  lit_tests = or_none (some (size_lit_outside vs) n) (edge_lit_outside es m) c.lits

  lit_fits : (v j : ℕ) → v < n → j < pred (len_at vs v) → to_nat (lit_at vs v j) ≤ 8191
  lit_fits v j h k = in_range_nat 8191 (lit_at vs v j) (not_false _ (some_none (λ j. not (in_range (pos 8191) (lit_at vs v j))) (pred (len_at vs v)) (some_none (size_lit_outside vs) n lit_tests.0 v h) j k))

  edge_lit_fits : (g : ℕ) → g < m → to_nat (edge_lit_at es g) ≤ 8191
  edge_lit_fits g h = in_range_nat 8191 (edge_lit_at es g) (not_false _ (some_none (λ g. not (in_range (pos 8191) (edge_lit_at es g))) m lit_tests.1 g h))

  ends_in_lem : (g : ℕ) → g < m → (to_nat (left_at es g) < n) × (to_nat (right_at es g) < n)
  unfolding is_vertex
  ends_in_lem g h =
      let e : (is_vertex n (left_at es g) && is_vertex n (right_at es g)) ≡ true = not_false _ (some_none (λ g. not (is_vertex n (left_at es g) && is_vertex n (right_at es g))) m c.ends g h) in (
        ltb-true (to_nat (left_at es g)) n (and_right (in_range (pos 63) (left_at es g)) _ (and_left (is_vertex n (left_at es g)) (is_vertex n (right_at es g)) e)),
        ltb-true (to_nat (right_at es g)) n (and_right (in_range (pos 63) (right_at es g)) _ (and_right (is_vertex n (left_at es g)) (is_vertex n (right_at es g)) e)),
      )

-- ---- the edge table
abbrev pair : List ℤ → ℕ → List ℕ
pair es g = to_nat (left_at es g) % 256 ∷ to_nat (right_at es g) % 256 ∷ []

table_length : (es : List ℤ) (t : List (List ℕ)) (k : ℕ) → length (iter (edge_step es) k t) ≡ length t
unfolding iter edge_step
table_length es t zero = refl
table_length es t (suc k) = length-set (iter (edge_step es) k t) k (pair es k) ∙ table_length es t k

table_at : (es : List ℤ) (t : List (List ℕ)) (k g : ℕ) → g < k → k ≤ length t → get_or (iter (edge_step es) k t) g [] ≡ pair es g
unfolding iter edge_step
table_at es t zero g h l = absurd (omega arith)
table_at es t (suc k) g h l = ⊎_elim
    (λ (e : g ≡ k).
    ap (λ (i : ℕ). get_or (set (iter (edge_step es) k t) k (pair es k)) i []) e
    ∙ get_or-set_same (iter (edge_step es) k t) k (pair es k) [] (omega (arith, table_length es t k))
    ∙ ap (pair es) (sym e))
    (λ (b : g < k). get_or-set_other (iter (edge_step es) k t) k g (pair es k) [] (λ (e : g ≡ k). omega arith) ∙ table_at es t k g b (omega arith))
    (eq-or-lt_of_le {n = g} {m = k} (omega arith))

edge_pair : (es : List ℤ) (m g : ℕ) → m ≤ 128 → g < m → get_or (edge_table es m) g [] ≡ pair es g
unfolding edge_table
edge_pair es m g h l = let e : min m 128 ≡ m = omega arith in table_at es _ (min m 128) g (omega arith) (omega arith)

module _ (vs : List ℤ) (n : ℕ) (es : List ℤ) (m : ℕ) (a b : Bool) (c : Clean vs n es m) where
  k : Counted vs n m
  k = counted vs n m c.counts

  abbrev w : List ℕ
  w = given vs n es m a b

  abbrev f : List ℕ
  f = with_index w

  abbrev x : Indexing
  x = indexed w

  len : length w ≡ 15241
  len = given_length vs n es m a b k.vertices k.edges k.sizes

  same : (i : ℕ) → i < 4360 → (i < 4) ⊎ (7 ≤ i) → word f i ≡ word w i
  same = kept_word w len

  -- counts
  vertices_is : vertices_of w ≡ n
  unfolding header pick
  vertices_is = given_header vs n es m a b k.vertices k.edges k.sizes 0 (omega arith)

  edges_is : edges_of w ≡ m
  unfolding header pick
  edges_is = given_header vs n es m a b k.vertices k.edges k.sizes 1 (omega arith)

  f_vertices : vertices_of f ≡ n
  f_vertices = same 0 (omega arith) (inl (omega arith)) ∙ vertices_is

  f_edges : edges_of f ≡ m
  f_edges = same 1 (omega arith) (inl (omega arith)) ∙ edges_is

  flag_small : (t : Bool) → flag t ≤ 1
  unfolding pick
  flag_small true = omega arith
  flag_small false = omega arith

  f_options : (word f 2 ≤ 1) × (word f 3 ≤ 1)
  unfolding header pick
  f_options =
      let p = same 2 (omega arith) (inl (omega arith)) ∙ given_header vs n es m a b k.vertices k.edges k.sizes 2 (omega arith) in
      let q = same 3 (omega arith) (inl (omega arith)) ∙ given_header vs n es m a b k.vertices k.edges k.sizes 3 (omega arith) in
      (subst (λ (i : ℕ). i ≤ 1) (sym p) (flag_small a), subst (λ (i : ℕ). i ≤ 1) (sym q) (flag_small b))

  f_variables : variables_of f ≡ x.count
  unfolding totals pick
  f_variables = total_word w len 0 (omega arith)

  f_slots : slots_of f ≡ x.filing.filed
  unfolding totals pick
  f_slots = total_word w len 1 (omega arith)

  f_mark : mark_of f ≡ built_mark
  unfolding totals pick
  f_mark = total_word w len 2 (omega arith)

  -- fields
  f_weight : (v : ℕ) → v < n → weight_of f v ≡ to_nat (weight_at vs v)
  f_weight v h = let z = k.vertices in
      entry_in 8 64 f v (omega arith) ∙ same (8 + v) (omega arith) (inr (omega arith)) ∙ given_weight vs n es m a b k.vertices k.edges k.sizes v h

  w_len : (v : ℕ) → v < n → domain_len_of w v ≡ len_at vs v
  w_len v h = let z = k.vertices in entry_in 72 64 w v (omega arith) ∙ given_len vs n es m a b k.vertices k.edges k.sizes v h

  len_same : (v : ℕ) → domain_len_of f v ≡ domain_len_of w v
  len_same v = entry_same 72 64 f w v (λ l. same (72 + v) (omega arith) (inr (omega arith)))

  f_len : (v : ℕ) → v < n → domain_len_of f v ≡ len_at vs v
  f_len v h = len_same v ∙ w_len v h

  f_size : (v j : ℕ) → v < n → j < len_at vs v → domain_of f v j ≡ to_nat (size_at vs v j)
  f_size v j h l = let z = k.vertices in let y = k.sizes v h in
      cell_in 136 f v j (omega arith) (omega arith) ∙ same (136 + 32 * v + j) (omega arith) (inr (omega arith)) ∙ given_size vs n es m a b k.vertices k.edges k.sizes v j h l

  lit_same : (s : ℕ) → lit_of f s ≡ lit_of w s
  lit_same s = entry_same 2184 2176 f w s (λ l. same (2184 + s) (omega arith) (inr (omega arith)))

  used_same : (s : ℕ) → used_slot f s ≡ used_slot w s
  unfolding used_slot
  used_same s =
      ap₂ (λ (p q : ℕ). pick (ltb s 2048) (ltb (s / 32) p && ltb (s % 32 + 1) (domain_len_of f (s / 32))) (ltb (s - 2048) q)) (same 0 (omega arith) (inl (omega arith))) (same 1 (omega arith) (inl (omega arith)))
      ∙ ap (λ (p : ℕ). pick (ltb s 2048) (ltb (s / 32) (vertices_of w) && ltb (s % 32 + 1) p) (ltb (s - 2048) (edges_of w))) (len_same (s / 32))

  -- a slot in use: below 2176, and its literal in range
  slot_low : (s : ℕ) → used_slot w s ≡ true → (s < 2176) × (lit_of w s ≤ 8191)
  slot_low s u = slot_cases w s u
      (λ v j h l e.
      let h' : v < n = omega (arith, vertices_is) in
      let y = k.sizes v h' in
      let z = k.vertices in
      let q = w_len v h' in
      let low : 32 * v + j < 2048 = omega arith in
      let t : lit_of w (32 * v + j) ≡ to_nat (lit_at vs v j) =
      entry_in 2184 2176 w (32 * v + j) (omega arith) ∙ ap (word w) (shift v j) ∙ given_lit vs n es m a b k.vertices k.edges k.sizes v j h' (above (len_at vs v) j (omega arith)) in
      subst (λ (i : ℕ). (i < 2176) × (lit_of w i ≤ 8191)) (sym e) (omega arith, subst (λ (i : ℕ). i ≤ 8191) (sym t) (lit_fits vs n es m c v j h' (above (len_at vs v) j (omega arith)))))
      (λ g h e.
      let h' : g < m = omega (arith, edges_is) in
      let z = k.edges in
      let t : lit_of w (2048 + g) ≡ to_nat (edge_lit_at es g) =
      entry_in 2184 2176 w (2048 + g) (omega arith) ∙ ap (word w) (shift' g) ∙ given_edge vs n es m a b k.vertices k.edges k.sizes g h' in
      subst (λ (i : ℕ). (i < 2176) × (lit_of w i ≤ 8191)) (sym e) (omega arith, subst (λ (i : ℕ). i ≤ 8191) (sym t) (edge_lit_fits vs n es m c g h')))
    where
      shift : (v j : ℕ) → 2184 + (32 * v + j) ≡ 2184 + 32 * v + j
      shift v j = omega arith

      shift' : (g : ℕ) → 2184 + (2048 + g) ≡ 4232 + g
      shift' g = omega arith

  -- ---- the index
  good : Good w x
  good = (indexed_good w).0

  few : (x.count ≤ 2176) × (x.filing.filed ≤ 2176)
  few = indexed_few w

  low_variable : (s : ℕ) → used_slot w s ≡ true → variable_of w s < 4096
  low_variable s u = let z = (slot_low s u).1 in omega arith

  -- the index's words, but for the end of the last variable's slots
  index_same : (i : ℕ) → i < 10881 → (i ≡ 6528 + x.count → ⊥) → word f (4360 + i) ≡ rounds.word x i
  unfolding closed
  index_same i h d = index_word w len i h ∙ get_or-set_other x.filing.words (6528 + x.count) i x.filing.filed 0 d

  index_end : word f (4360 + (6528 + x.count)) ≡ x.filing.filed
  unfolding closed
  index_end = let z = few.0 in
      index_word w len (6528 + x.count) (omega arith) ∙ get_or-set_same x.filing.words (6528 + x.count) x.filing.filed 0 (omega (arith, good.len))

  f_place : (s : ℕ) → s < 2176 → place_of f s ≡ rounds.word x s
  f_place s h = entry_in 4360 2176 f s h ∙ index_same s (omega arith) (λ (e : s ≡ 6528 + x.count). omega arith)

  f_position : (s : ℕ) → s < 2176 → position_of f s ≡ rounds.word x (2176 + s)
  f_position s h =
      let q : 6536 + s ≡ 4360 + (2176 + s) = omega arith in
      entry_in 6536 2176 f s h ∙ ap (word f) q ∙ index_same (2176 + s) (omega arith) (λ (e : 2176 + s ≡ 6528 + x.count). omega arith)

  f_variable : (i : ℕ) → i < 2176 → variable_at f i ≡ rounds.variable_at x i
  f_variable i h =
      let q : 8712 + i ≡ 4360 + (4352 + i) = omega arith in
      entry_in 8712 2176 f i h ∙ ap (word f) q ∙ index_same (4352 + i) (omega arith) (λ (e : 4352 + i ≡ 6528 + x.count). omega arith)

  -- a start is no more than there are slots
  start_in : (i n : ℕ) → entry 10888 2177 f i ≡ n → n ≤ 2176 → start_at f i ≡ n
  unfolding start_at
  start_in i n e h = pick_no _ _ (le-ltb 2176 (entry 10888 2177 f i) (omega arith)) ∙ e

  f_start : (i : ℕ) → i < x.count → start_at f i ≡ rounds.start_at x i
  f_start i h =
      let z = few in
      let q : 10888 + i ≡ 4360 + (6528 + i) = omega arith in
      let g = good.group i h in
      start_in i (rounds.start_at x i)
      (entry_in 10888 2177 f i (omega arith) ∙ ap (word f) q ∙ index_same (6528 + i) (omega arith) (λ (e : 6528 + i ≡ 6528 + x.count). omega arith))
      (omega (arith, g.some, g.last))

  f_start_end : start_at f x.count ≡ x.filing.filed
  f_start_end =
      let z = few in
      let q : 10888 + x.count ≡ 4360 + (6528 + x.count) = omega arith in
      start_in x.count x.filing.filed (entry_in 10888 2177 f x.count (omega arith) ∙ ap (word f) q ∙ index_end) few.1

  f_end : (i : ℕ) → i < x.count → start_at f (suc i) ≡ rounds.end_at x i
  f_end i h = ⊎_elim
      (λ (e : suc i ≡ x.count). ap (start_at f) e ∙ f_start_end ∙ sym (end_last x i (omega arith)))
      (λ (l : suc i < x.count). f_start (suc i) l ∙ sym (end_inner x i l))
      (eq-or-lt_of_le {n = suc i} {m = x.count} h)

  f_occurrence : (i : ℕ) → i < 2176 → occurrence_at f i ≡ rounds.word x (8705 + i)
  f_occurrence i h =
      let z = few.0 in
      let q : 13065 + i ≡ 4360 + (8705 + i) = omega arith in
      entry_in 13065 2176 f i h ∙ ap (word f) q ∙ index_same (8705 + i) (omega arith) (λ (e : 8705 + i ≡ 6528 + x.count). omega arith)

  filed : (s : ℕ) → used_slot f s ≡ true → Filed f s
  filed s u =
      let v = sym (used_same s) ∙ u in
      let (h, l) = slot_low s v in
      let p = good.kept s h (and_both v (lt-ltb (variable_of w s) x.next (omega (arith, low_variable s v, (indexed_good w).1)))) in
      let t = f_place s h ∙ p.place in
      let half : place_of f s / 2 ≡ p.k = omega arith in
      let kf = few in
      let pos = f_position s h in
      record {
        range = omega (arith, lit_same s);
        known = omega (arith, p.known, f_variables);
        variable = ap (variable_at f) half ∙ f_variable p.k (omega (arith, p.known)) ∙ p.variable ∙ ap (λ (i : ℕ). i / 2) (sym (lit_same s));
        sign = let z : place_of f s % 2 ≡ lit_of w s % 2 = omega arith in z ∙ ap (λ (i : ℕ). i % 2) (sym (lit_same s));
        within = omega (arith, p.within, f_slots);
        there = ap (occurrence_at f) pos ∙ f_occurrence (rounds.word x (2176 + s)) (omega (arith, p.within)) ∙ p.there;
      }

  listed : (i : ℕ) → i < x.count → Listed f i
  listed i h =
      let g = good.group i h in
      let s = f_start i h in
      let e = f_end i h in
      let kf = few in
      let v = f_variable i (omega arith) in
      record {
        range = omega (arith, good.before i h, (indexed_good w).1);
        some = omega (arith, g.some);
        last = omega (arith, g.last, f_slots);
        used = λ j p q.
            let r = f_occurrence j (omega (arith, g.last)) in
            ap (used_slot f) r ∙ used_same (rounds.word x (8705 + j)) ∙ and_left (used_slot w (rounds.word x (8705 + j))) _ (g.own j (omega arith) (omega arith));
        own = λ j p q.
            let r = f_occurrence j (omega (arith, g.last)) in
            ap (λ (t : ℕ). lit_of f t / 2) r ∙ ap (λ (t : ℕ). t / 2) (lit_same (rounds.word x (8705 + j)))
            ∙ eqb-true (variable_of w (rounds.word x (8705 + j))) (rounds.variable_at x i) (and_right (used_slot w (rounds.word x (8705 + j))) _ (g.own j (omega arith) (omega arith))) ∙ sym v;
        rising = λ j p q.
            let r = f_occurrence j (omega (arith, g.last)) in
            let t = f_occurrence (suc j) (omega (arith, g.last)) in
            let y = g.rising j (omega arith) (omega arith) in
            omega arith;
      }

  all_filed : x.filing.filed ≡ ones (used_slot w) 2176
  all_filed = good.count ∙ ones_same (used_slot w) (below w x.next) 2176 (λ s h. tested (used_slot w s)
      (λ u. and_both u (lt-ltb (variable_of w s) x.next (omega (arith, low_variable s u, (indexed_good w).1))) ∙ sym u)
      (λ u. ap (λ (t : Bool). t && ltb (variable_of w s) x.next) u ∙ sym u))

  count_same : slot_count f ≡ slot_count w
  unfolding slot_count
  count_same =
      let p = same 0 (omega arith) (inl (omega arith)) in
      let q = same 1 (omega arith) (inl (omega arith)) in
      λ t. iter (λ v i. i + pred (len_same v t)) (p t) (q t)

  -- ---- the plan is the one that was given
  pub built_given : Given vs n es m a b f (edge_table es m)
  unfolding header pick
  built_given =
      let z = k.vertices in
      let y = k.edges in
      record {
        vertices = f_vertices;
        edges = f_edges;
        weight = f_weight;
        domain_len = f_len;
        domain = f_size;
        dom_lit = λ v j h l.
            let q = k.sizes v h in
            let c' = pred_less (len_at vs v) j l in
            cell_in 2184 f v j (omega arith) (omega arith) ∙ same (2184 + 32 * v + j) (omega arith) (inr (omega arith)) ∙ given_lit vs n es m a b k.vertices k.edges k.sizes v j h l;
        edge_lit = λ g h.
            entry_in 4232 128 f g (omega arith) ∙ same (4232 + g) (omega arith) (inr (omega arith)) ∙ given_edge vs n es m a b k.vertices k.edges k.sizes g h;
        left = λ g h. let q = ends_in_lem vs n es m c g h in ap (λ (t : List ℕ). get_or t 0 0) (edge_pair es m g k.edges h) ∙ small (to_nat (left_at es g)) (omega arith);
        right = λ g h. let q = ends_in_lem vs n es m c g h in ap (λ (t : List ℕ). get_or t 1 0) (edge_pair es m g k.edges h) ∙ small (to_nat (right_at es g)) (omega arith);
        same_size = ap (λ (i : ℕ). eqb i 1) (same 2 (omega arith) (inl (omega arith)) ∙ given_header vs n es m a b k.vertices k.edges k.sizes 2 (omega arith)) ∙ flag_is a;
        extra_walls = ap (λ (i : ℕ). eqb i 1) (same 3 (omega arith) (inl (omega arith)) ∙ given_header vs n es m a b k.vertices k.edges k.sizes 3 (omega arith)) ∙ flag_is b;
      }
    where
      pred_less : (l j : ℕ) → j < pred l → suc j < l
      pred_less zero j h = absurd (omega arith)
      pred_less (suc l) j h = omega arith

      small : (i : ℕ) → i < 64 → i % 256 ≡ i
      small i h = omega arith

      flag_is : (t : Bool) → eqb (flag t) 1 ≡ t
      flag_is t = flag_back t

  pub built_proper : ProperWords f (edge_table es m)
  built_proper =
      let kf = few in
      record {
        fine = record {
          vertices = omega (arith, f_vertices, k.vertices);
          fits = omega (arith, f_edges, k.edges);
          within = λ g h.
              let h' : g < m = omega (arith, f_edges) in
              let e = edge_pair es m g k.edges h' in
              let (p, q) = ends_in_lem vs n es m c g h' in
              let z = k.vertices in
              record {
                a = subst (λ (t : List ℕ). get_or t 0 0 < vertices_of f) (sym e) (omega (arith, f_vertices));
                b = subst (λ (t : List ℕ). get_or t 1 0 < vertices_of f) (sym e) (omega (arith, f_vertices));
              };
        };
        options = f_options;
        mark = f_mark;
        light = λ v h. let h' : v < n = omega (arith, f_vertices) in omega (arith, f_weight v h', weight_fits vs n es m c v h');
        short = λ v h. let h' : v < n = omega (arith, f_vertices) in omega (arith, f_len v h', k.sizes v h');
        entries = λ v j h l. let h' : v < n = omega (arith, f_vertices) in let q = f_len v h' in omega (arith, f_size v j h' (omega arith), size_fits vs n es m c v j h' (omega arith));
        rising = λ v j h l.
            let h' : v < n = omega (arith, f_vertices) in
            let q = f_len v h' in
            omega (arith, f_size v j h' (omega arith), f_size v (suc j) h' (omega arith), size_rises vs n es m c v j h' (omega arith));
        filed = filed;
        few = (omega (arith, f_variables), omega (arith, f_slots));
        distinct = λ i h.
            let l : suc i < x.count = omega (arith, f_variables) in
            omega (arith, f_variable i (omega arith), f_variable (suc i) (omega arith), good.rising i l);
        listed = λ i h. listed i (omega (arith, f_variables));
        first = ⊎_elim
            (λ (e : 0 ≡ x.count). ap (start_at f) e ∙ f_start_end ∙ good.none (sym e))
            (λ (l : 0 < x.count). f_start 0 l ∙ good.first l)
            (eq-or-lt_of_le {n = 0} {m = x.count} (omega arith));
        end = ap (start_at f) f_variables ∙ f_start_end ∙ sym f_slots;
        count = f_slots ∙ all_filed
            ∙ slots_counted w (omega (arith, vertices_is, k.vertices)) (omega (arith, edges_is, k.edges))
            (λ v h. let h' : v < n = omega (arith, vertices_is) in omega (arith, w_len v h', k.sizes v h'))
            ∙ sym count_same;
      }

  pub built_passes : plan_bad f (edge_table es m) ≡ false
  built_passes = passes f (edge_table es m) built_proper

-- every plan that `new` makes, where no refusal applies: it is proper, it passes its own test, and it is the plan that was given
pub new_proper : (vs : List ℤ) (n : ℕ) (es : List ℤ) (m : ℕ) (a b : Bool) → refusal vs n es m ≡ 0 →
    ProperWords (plan_words vs n es m a b) (edge_table es m) × (plan_bad (plan_words vs n es m a b) (edge_table es m) ≡ false) × Given vs n es m a b (plan_words vs n es m a b) (edge_table es m)
unfolding plan_words
new_proper vs n es m a b z =
    let e : plan_words vs n es m a b ≡ with_index (given vs n es m a b) = pick_yes _ _ (eq-eqb (refusal vs n es m) 0 z) in
    let c = clean vs n es m z in (
      subst (λ (ws : List ℕ). ProperWords ws (edge_table es m)) (sym e) (built_proper vs n es m a b c),
      ap (λ (ws : List ℕ). plan_bad ws (edge_table es m)) e ∙ built_passes vs n es m a b c,
      subst (λ (ws : List ℕ). Given vs n es m a b ws (edge_table es m)) (sym e) (built_given vs n es m a b c),
    )
