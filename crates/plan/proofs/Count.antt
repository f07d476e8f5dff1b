-- How many slots a plan's words have in use: the slots counted one by one are as many as domains and edges say.
use mathlib.Core.Path.{◌≡◌, refl, sym, ap, ap₂, ◌∙◌}
use mathlib.Core.Logic.{⊎_elim}
use mathlib.Core.Bool.{Bool, true, false, ◌&&◌}
use mathlib.Core.List.{List}
use Prim.Native.Nat.{ℕ, zero, suc, pred, ◌+◌, ◌-◌, ◌*◌, ◌/◌, ◌%◌, ◌≤◌, ◌<◌}
use native.Mathlib.Omega.{arith}
use native.Mathlib.Nat.{add-zero, add-suc, le_step, lt-suc_self}
use lib.Dec.{ltb}
use borrow.Author.Tests.{lt-ltb, le-ltb}
use Rattle.base.specs.Iter.{iter}
use Rattle.base.proofs.Loop.{pick_yes, pick_no}
use Rattle.base.proofs.Tests.{and_no, and_next, le_or_lt}
use Rattle.graph.specs.Bounds.{bit, ones}
use Rattle.graph.proofs.Ones.{ones_same}
use Rattle.plan.specs.Words.{vertices_of, edges_of, domain_len_of}
use Rattle.plan.specs.Check.{used_slot, slot_count}

-- ---- counting in parts
ones_from : (b : ℕ → Bool) (a k : ℕ) → ones b (a + k) ≡ ones b a + ones (λ i. b (a + i)) k
unfolding ones
ones_from b a zero = ap (ones b) (add-zero a) ∙ sym (add-zero (ones b a))
ones_from b a (suc k) = let ih = ones_from b a k in ap (ones b) (add-suc a k) ∙ omega arith

ones_all : (b : ℕ → Bool) (n : ℕ) → ((i : ℕ) → i < n → b i ≡ true) → ones b n ≡ n
unfolding ones bit
ones_all b zero h = refl
ones_all b (suc n) h =
    let z : bit (b n) ≡ 1 = ap bit (h n (lt-suc_self n)) in
    omega (arith, ones_all b n (λ i l. h i (le_step l)))

ones_no : (b : ℕ → Bool) (n : ℕ) → ((i : ℕ) → i < n → b i ≡ false) → ones b n ≡ 0
unfolding ones bit
ones_no b zero h = refl
ones_no b (suc n) h =
    let z : bit (b n) ≡ 0 = ap bit (h n (lt-suc_self n)) in
    omega (arith, ones_no b n (λ i l. h i (le_step l)))

-- the numbers below t, among the first k
ones_under : (t k : ℕ) → t ≤ k → ones (λ i. ltb i t) k ≡ t
ones_under t k h =
    let e : t + (k - t) ≡ k = omega arith in
    ap (ones (λ i. ltb i t)) (sym e) ∙ ones_from (λ i. ltb i t) t (k - t)
    ∙ ap₂ ◌+◌ (ones_all (λ i. ltb i t) t (λ i l. lt-ltb i t l)) (ones_no (λ i. ltb (t + i) t) (k - t) (λ i l. le-ltb (t + i) t (omega arith)))
    ∙ add-zero t

pred_under : (l i : ℕ) → ltb (i + 1) l ≡ ltb i (pred l)
pred_under zero i = le-ltb (i + 1) 0 (omega arith) ∙ sym (le-ltb i 0 (omega arith))
pred_under (suc l) i = ⊎_elim
    (λ (h : l ≤ i). le-ltb (i + 1) (suc l) (omega arith) ∙ sym (le-ltb i l h))
    (λ (h : i < l). lt-ltb (i + 1) (suc l) (omega arith) ∙ sym (lt-ltb i l h))
    (le_or_lt l i)

pub pred_few : (l : ℕ) → l ≤ 32 → pred l ≤ 32
pred_few zero h = h
pred_few (suc l) h = omega arith

module _ (ws : List ℕ) (few : vertices_of ws ≤ 64) (edges : edges_of ws ≤ 128) (short : (v : ℕ) → v < vertices_of ws → domain_len_of ws v ≤ 32) where
  -- the slots of one vertex
  row : (v i : ℕ) → v < 64 → i < 32 → used_slot ws (32 * v + i) ≡ (ltb v (vertices_of ws) && ltb (i + 1) (domain_len_of ws v))
  unfolding used_slot
  row v i h l =
      let q : (32 * v + i) / 32 ≡ v = omega arith in
      let r : (32 * v + i) % 32 ≡ i = omega arith in
      pick_yes _ _ (lt-ltb (32 * v + i) 2048 (omega arith))
      ∙ ap₂ (λ (a b : ℕ). ltb a (vertices_of ws) && ltb (b + 1) (domain_len_of ws a)) q r

  row_count : (v : ℕ) → v < vertices_of ws → ones (λ i. used_slot ws (32 * v + i)) 32 ≡ pred (domain_len_of ws v)
  row_count v h =
      ones_same (λ i. ltb i (pred (domain_len_of ws v))) (λ i. used_slot ws (32 * v + i)) 32
      (λ i l. row v i (omega arith) l ∙ sym (and_next (ltb (i + 1) (domain_len_of ws v)) (ltb (i + 1) (domain_len_of ws v)) (lt-ltb v (vertices_of ws) h) refl) ∙ pred_under (domain_len_of ws v) i)
      ∙ ones_under (pred (domain_len_of ws v)) 32 (pred_few (domain_len_of ws v) (short v h))

  row_none : (v : ℕ) → vertices_of ws ≤ v → v < 64 → ones (λ i. used_slot ws (32 * v + i)) 32 ≡ 0
  row_none v h l = ones_no (λ i. used_slot ws (32 * v + i)) 32 (λ i k. row v i l k ∙ sym (and_no (ltb (i + 1) (domain_len_of ws v)) (le-ltb v (vertices_of ws) h)))

  step : ℕ → ℕ → ℕ
  step v n = n + pred (domain_len_of ws v)

  next_row : (v : ℕ) → ones (used_slot ws) (32 * suc v) ≡ ones (used_slot ws) (32 * v) + ones (λ i. used_slot ws (32 * v + i)) 32
  next_row v = let e : 32 * suc v ≡ 32 * v + 32 = omega arith in ap (ones (used_slot ws)) e ∙ ones_from (used_slot ws) (32 * v) 32

  rows_used : (v : ℕ) → v ≤ vertices_of ws → ones (used_slot ws) (32 * v) ≡ iter step v 0
  unfolding iter ones step
  rows_used zero h = refl
  rows_used (suc v) h = next_row v ∙ ap₂ ◌+◌ (rows_used v (omega arith)) (row_count v (omega arith))

  rows_unused : (r : ℕ) → vertices_of ws + r ≤ 64 → ones (used_slot ws) (32 * (vertices_of ws + r)) ≡ ones (used_slot ws) (32 * vertices_of ws)
  rows_unused zero h = ap (λ (n : ℕ). ones (used_slot ws) (32 * n)) (add-zero (vertices_of ws))
  rows_unused (suc r) h =
      ap (λ (n : ℕ). ones (used_slot ws) (32 * n)) (add-suc (vertices_of ws) r)
      ∙ next_row (vertices_of ws + r)
      ∙ ap₂ ◌+◌ (rows_unused r (omega arith)) (row_none (vertices_of ws + r) (omega arith) (omega arith))
      ∙ add-zero (ones (used_slot ws) (32 * vertices_of ws))

  edge_count : ones (λ i. used_slot ws (2048 + i)) 128 ≡ edges_of ws
  unfolding used_slot
  edge_count =
      ones_same (λ i. ltb i (edges_of ws)) (λ i. used_slot ws (2048 + i)) 128
      (λ i l. let e : 2048 + i - 2048 ≡ i = omega arith in pick_no _ _ (le-ltb (2048 + i) 2048 (omega arith)) ∙ ap (λ (n : ℕ). ltb n (edges_of ws)) e)
      ∙ ones_under (edges_of ws) 128 edges

  start_later : (n m : ℕ) → iter step n m ≡ iter step n 0 + m
  unfolding iter step
  start_later zero m = omega arith
  start_later (suc n) m = let ih = start_later n m in omega arith

  pub slots_counted : ones (used_slot ws) 2176 ≡ slot_count ws
  unfolding slot_count step
  slots_counted =
      let e : vertices_of ws + (64 - vertices_of ws) ≡ 64 = omega arith in
      ones_from (used_slot ws) 2048 128
      ∙ ap₂ ◌+◌ (ap (λ (n : ℕ). ones (used_slot ws) (32 * n)) (sym e) ∙ rows_unused (64 - vertices_of ws) (omega arith) ∙ rows_used (vertices_of ws) (omega arith)) edge_count
      ∙ sym (start_later (vertices_of ws) (edges_of ws))
