-- A region's vertices as they were written, and the loops that choose one of them.
use Prim.Native.Nat.{ℕ, zero, suc, ◌+◌, ◌<◌, ◌≤◌}
use native.Mathlib.Omega.{arith}
use native.Mathlib.Numerals.{add-one}
use mathlib.Core.Path.{◌≡◌, refl, sym, ap, ap₂, ◌∙◌, subst}
use mathlib.Core.Bool.{Bool, true, false}
use mathlib.Core.List.{List, [], ◌∷◌, ◌++◌, append_assoc, append-nil}
use lib.Dec.{ltb}
use lib.ListN.{length, set, take, drop, length-set, length-replicate}
use lib.Seq.{take-suc-set, drop-cons, drop-length}
use Rattle.base.specs.Iter.{pick}
use Rattle.base.specs.Lists.{tab}
use Rattle.base.proofs.Loop.{pick_yes, pick_no, tested}
use Rattle.graph.specs.Search.{graph, searched, at}
use Rattle.graph.specs.Bounds.{walkable}
use Rattle.graph.proofs.Found.{found}
use Rattle.std.specs.Prelude.{Option, None, Some}
use Rattle.walks.specs.declared.Shape.{Shape}
use Rattle.walks.specs.Written.{Out, out_of, written}
use Rattle.walks.specs.Walk.{order_list, member_list}
use Rattle.walks.specs.Answers.{Answer, answer_of, given, missing, startable, region_vertices}
use Rattle.walks.proofs.Written.{pushed_room}
use Rattle.walks.proofs.Answers.{startable_known}
use Rattle.plan.specs.Words.{word, vertices_of, edges_of}
use Rattle.division.specs.Views.{members_of}
use Rattle.division.specs.Analysis.{best}
use Rattle.views.specs.Compute.{zeros}
use Rattle.views.specs.Members.{reaches, members_from, higher, lesser, extremes}
use Rattle.views.specs.declared.members.Extremes.{Extremes}
use Rattle.noting.specs.Words.{state_of}

tab_length : (f : ℕ → ℕ) (n : ℕ) → length (tab f n) ≡ n
unfolding tab
tab_length f zero = refl
tab_length f (suc n) = ap suc (tab_length (λ i. f (suc i)) n)

taken_stored : (t : List ℕ) (n x : ℕ) → n < length t → take (n + 1) (set t n x) ≡ take n t ++ (x ∷ [])
taken_stored t n x h = rw add-one (take-suc-set t n x h)

-- a list that was written where there is room is a part of what was written to
written_taken : (l t : List ℕ) (n : ℕ) → n + length l ≤ length t → (take (written l (out_of t n)).place (written l (out_of t n)).text ≡ take n t ++ l) × ((written l (out_of t n)).place ≡ n + length l) × (length (written l (out_of t n)).text ≡ length t)
unfolding written
written_taken [] t n h = (sym (append-nil (take n t)), omega arith, refl)
written_taken (x ∷ l) t n h =
    let r = written_taken l (set t n x) (n + 1) (omega (arith, length-set t n x)) in
    let e = pushed_room x t n (omega arith) in (
      subst (λ (o : Out). take (written l o).place (written l o).text ≡ take n t ++ (x ∷ l)) (sym e)
          (r.0 ∙ ap (λ (y : List ℕ). y ++ l) (taken_stored t n x (omega arith)) ∙ append_assoc (take n t) (x ∷ []) l),
      subst (λ (o : Out). (written l o).place ≡ n + suc (length l)) (sym e) (r.1 ∙ omega arith),
      subst (λ (o : Out). length (written l o).text ≡ length t) (sym e) (r.2 ∙ length-set t n x),
    )

module _ (ws : List ℕ) (es : List (List ℕ)) (noted : List ℕ) (region : ℕ) (z : Shape) (ev : z.num_vertices ≡ vertices_of ws) (ee : z.num_edges ≡ edges_of ws) where
  list : List ℕ
  list = member_list (graph es noted false) z.num_edges z.num_vertices region

  list_is : list ≡ members_from ws es noted region
  unfolding list member_list order_list members_of
  list_is = ap₂ (λ (e v : ℕ). tab (at (searched (graph es noted false) e v region)) (searched (graph es noted false) e v region).count) ee ev

  reaches_is : startable es noted z region ≡ reaches ws es noted region
  unfolding startable reaches
  reaches_is = ap₂ (λ (e v : ℕ). pick (walkable es noted e v) (ltb region v) false) ee ev

  list_short : startable es noted z region ≡ true → length list ≤ 64
  unfolding list member_list order_list
  list_short e =
      let k = startable_known es noted z region e in
      let f = found (graph es noted false) z.num_edges z.num_vertices region k.fine k.start in
      omega (arith, tab_length (at (searched (graph es noted false) z.num_edges z.num_vertices region)) (searched (graph es noted false) z.num_edges z.num_vertices region).count, f.few, k.fine.vertices)

  module _ (r : Option ℕ) (t : List ℕ) (e : answer_of r t ≡ region_vertices es noted false z region (out_of zeros 0)) where
    -- the list was written
    written_yes : startable es noted z region ≡ true → answer_of r t ≡ given list (out_of zeros 0)
    unfolding region_vertices list
    written_yes h = e ∙ pick_yes _ _ h

    written_no : startable es noted z region ≡ false → r ≡ None
    unfolding region_vertices missing
    written_no h = ap (λ (a : Answer). a.listed) (e ∙ pick_no _ _ h)

    pub members_past : (n : ℕ) → r ≡ Some n → (true ≡ reaches ws es noted region) × (true ≡ true → (n ≤ length t) × (take n t ≡ members_from ws es noted region))
    unfolding given
    members_past n p =
        tested (startable es noted z region)
        (λ h.
        let y = written_yes h in
        let a : Some (written list (out_of zeros 0)).place ≡ r = sym (ap (λ (a : Answer). a.listed) y) in
        let room : length list ≤ length zeros = omega (arith, list_short h, length-replicate {0} {A = ℕ} 64 0) in
        let w = written_taken list zeros 0 (omega arith) in
        let k : n ≡ (written list (out_of zeros 0)).place = cc in
        let u : t ≡ (written list (out_of zeros 0)).text = ap (λ (a : Answer). a.text) y in
        (sym h ∙ reaches_is, λ _. (omega (arith, w.1, ap length u ∙ w.2), ap₂ (λ (m : ℕ) (x : List ℕ). take m x) k u ∙ w.0 ∙ list_is)))
        (λ h. let q = written_no h in let x : ◌≡◌ {A = ℕ} 0 1 = cc in absurd (omega arith))

    pub members_missing : r ≡ None → false ≡ reaches ws es noted region
    unfolding given
    members_missing p =
        tested (startable es noted z region)
        (λ h.
        let a : Some (written list (out_of zeros 0)).place ≡ r = sym (ap (λ (a : Answer). a.listed) (written_yes h)) in
        let x : ◌≡◌ {A = ℕ} 0 1 = cc in absurd (omega arith))
        (λ h. sym h ∙ reaches_is)

-- ---- of a list the first that a test prefers to all before it
module _ (t : ℕ → ℕ → Bool) (l : List ℕ) (r : ℕ) where
  pub record Choosing (a i : ℕ) : Type 0 where
    pub within : i ≤ length l
    pub is : best t r l ≡ best t a (drop i l)

  pub choose_next : (a i c a' : ℕ) → Choosing a i → i < length l → c ≡ word l i → a' ≡ pick (t c a) c a → Choosing a' (i + 1)
  unfolding best
  choose_next a i c a' v h e f =
      let on : suc i ≡ i + 1 = omega arith in
      record {
        within = omega arith;
        is = v.is ∙ ap (best t a) (drop-cons l i 0 h ∙ ap₂ (λ (x k : ℕ). x ∷ drop k l) (sym e) on) ∙ ap (λ (x : ℕ). best t x (drop (i + 1) l)) (sym f);
      }

  pub choose_ends : (a i : ℕ) → Choosing a i → length l ≤ i → a ≡ best t r l
  unfolding best
  choose_ends a i v h =
      let all : i ≡ length l = omega (arith, v.within) in
      sym (v.is ∙ ap (best t a) (ap (λ (k : ℕ). drop k l) all ∙ drop-length l))

-- the two vertices, as code has them
abbrev pub extremes_at : Bool → ℕ → ℕ → Extremes
extremes_at f a b = record { found = f; lower_bound_idx = a; upper_bound_idx = b }

module _ (ws : List ℕ) (es : List (List ℕ)) (noted : List ℕ) (region : ℕ) (k : Bool) (n : ℕ) (l : List ℕ) (e : k ≡ reaches ws es noted region)
    (m : k ≡ true → (n ≤ length l) × (take n l ≡ members_from ws es noted region)) where
  -- the part of the list up to e, where e is n as code counts it
  part_is : (e : ℕ) → e ≡ n → k ≡ true → take e l ≡ members_from ws es noted region
  part_is e z h = ap (λ (i : ℕ). take i l) z ∙ (m h).1

  pub extremes_found : (a b e : ℕ) → e ≡ n → k ≡ true → a ≡ best (higher (state_of noted)) region (take e l) → b ≡ best (lesser (state_of noted)) region (take e l) →
      extremes_at true a b ≡ extremes ws es noted region
  unfolding extremes
  extremes_found a b i z h p q =
      ap₂ (extremes_at true) (p ∙ ap (best (higher (state_of noted)) region) (part_is i z h)) (q ∙ ap (best (lesser (state_of noted)) region) (part_is i z h)) ∙ sym (pick_yes _ _ (sym e ∙ h))

  pub extremes_none : k ≡ false → extremes_at false 0 0 ≡ extremes ws es noted region
  unfolding extremes
  extremes_none h = sym (pick_no _ _ (sym e ∙ h))
