-- Nothing noted: the fresh words stand for the abstract state with nothing noted.
use mathlib.Core.Path.{◌≡◌, refl, sym, ap, ◌∙◌}
use mathlib.Core.Logic.{inl, inr}
use mathlib.Core.List.{List}
use Prim.Native.Nat.{ℕ, zero, suc, pred, ◌+◌, ◌-◌, ◌≤◌, ◌<◌}
use native.Mathlib.Omega.{arith}
use lib.Dec.{ltb}
use lib.ListN.{length, get_or}
use borrow.Author.Tests.{lt-ltb, ltb-true, ltb-false}
use Rattle.base.specs.Iter.{pick}
use Rattle.base.specs.Lists.{filled}
use Rattle.base.proofs.Loop.{pick_ind, pick_yes}
use Rattle.base.proofs.Lists.{tab_at}
use Rattle.base.proofs.Filled.{filled_length, filled_in, filled_out}
use Rattle.plan.specs.Words.{vertices_of, edges_of, domain_len_of, domain_of}
use Rattle.plan.specs.Plan.{plan_of}
use Rattle.plan.specs.Proper.{ProperWords}
use Rattle.division.specs.Noting.{unnoted}
use Rattle.division.specs.Agree.{SameState}
use Rattle.noting.specs.Words.{bound_at, lits_of, state_of, capped, first_size, last_size, fresh}
use Rattle.noting.specs.Ready.{BoundsFit}

capped_is : (n m : ℕ) → n ≤ m → capped n m ≡ n
unfolding capped
capped_is n m h = pick_ind (λ (k : ℕ). k ≡ n) (ltb n m) n m (λ _. refl) (λ e. let k = ltb-false n m e in omega arith)

pred_is : (n : ℕ) → n - 1 ≡ pred n
pred_is zero = refl
pred_is (suc n) = omega arith

module _ (ws noted : List ℕ) where
  module _ (len : length noted ≡ 384) (ends : List (List ℕ)) (p : ProperWords ws ends) where
    abbrev nv : ℕ
    nv = capped (vertices_of ws) 64

    abbrev ne : ℕ
    ne = capped (edges_of ws) 128

    nv_is : nv ≡ vertices_of ws
    nv_is = capped_is (vertices_of ws) 64 p.fine.vertices

    ne_is : ne ≡ edges_of ws
    ne_is = capped_is (edges_of ws) 128 p.fine.fits

    nv64 : nv ≤ 64
    nv64 = omega (arith, nv_is, p.fine.vertices)

    ne128 : ne ≤ 128
    ne128 = omega (arith, ne_is, p.fine.fits)

    abbrev m1 : List ℕ
    m1 = filled 0 ne (λ g. 0) noted

    abbrev m2 : List ℕ
    m2 = filled 128 nv (first_size ws) m1

    abbrev m3 : List ℕ
    m3 = filled 192 nv (last_size ws) m2

    abbrev m4 : List ℕ
    m4 = filled 320 nv (λ v. 65535) m3

    l1 : length m1 ≡ 384
    l1 = filled_length 0 (λ g. 0) noted ne ∙ len

    l2 : length m2 ≡ 384
    l2 = filled_length 128 (first_size ws) m1 nv ∙ l1

    l3 : length m3 ≡ 384
    l3 = filled_length 192 (last_size ws) m2 nv ∙ l2

    l4 : length m4 ≡ 384
    l4 = filled_length 320 (λ v. 65535) m3 nv ∙ l3

    pub fresh_length : length (fresh ws noted) ≡ 384
    unfolding fresh
    fresh_length = filled_length 256 (λ v. 65535) m4 nv ∙ l4

    pub edge_word : (g : ℕ) → g < edges_of ws → get_or (fresh ws noted) g 0 ≡ 0
    unfolding fresh
    edge_word g h =
        let k : g < ne = omega (arith, ne_is) in
        filled_out 256 (λ v. 65535) m4 nv g (inl (omega (arith, ne128))) ∙ filled_out 320 (λ v. 65535) m3 nv g (inl (omega (arith, ne128)))
        ∙ filled_out 192 (last_size ws) m2 nv g (inl (omega (arith, ne128))) ∙ filled_out 128 (first_size ws) m1 nv g (inl (omega (arith, ne128)))
        ∙ (let z : get_or m1 (0 + g) 0 ≡ 0 = filled_in 0 (λ g. 0) noted ne g k (omega (arith, ne128)) in let e : g ≡ 0 + g = omega arith in ap (λ (i : ℕ). get_or m1 i 0) e ∙ z)

    module _ (v : ℕ) (hv : v < vertices_of ws) where
      k : v < nv
      k = omega (arith, nv_is)

      v64 : v < 64
      v64 = omega (arith, p.fine.vertices)

      pub low_word : get_or (fresh ws noted) (128 + v) 0 ≡ first_size ws v
      unfolding fresh
      low_word =
          filled_out 256 (λ v. 65535) m4 nv (128 + v) (inl (omega (arith, v64))) ∙ filled_out 320 (λ v. 65535) m3 nv (128 + v) (inl (omega (arith, v64)))
          ∙ filled_out 192 (last_size ws) m2 nv (128 + v) (inl (omega (arith, v64))) ∙ filled_in 128 (first_size ws) m1 nv v k (omega (arith, nv64, l1))

      pub high_word : get_or (fresh ws noted) (192 + v) 0 ≡ last_size ws v
      unfolding fresh
      high_word =
          filled_out 256 (λ v. 65535) m4 nv (192 + v) (inl (omega (arith, v64))) ∙ filled_out 320 (λ v. 65535) m3 nv (192 + v) (inl (omega (arith, v64)))
          ∙ filled_in 192 (last_size ws) m2 nv v k (omega (arith, nv64, l2))

      pub high_lit_word : get_or (fresh ws noted) (320 + v) 0 ≡ 65535
      unfolding fresh
      high_lit_word =
          filled_out 256 (λ v. 65535) m4 nv (320 + v) (inr (omega (arith, nv64))) ∙ filled_in 320 (λ v. 65535) m3 nv v k (omega (arith, nv64, l3))

      pub low_lit_word : get_or (fresh ws noted) (256 + v) 0 ≡ 65535
      unfolding fresh
      low_lit_word = filled_in 256 (λ v. 65535) m4 nv v k (omega (arith, nv64, l4))

      bound_is : (from past : ℕ) → bound_at from past (fresh ws noted) v ≡ get_or (fresh ws noted) (from + v) 0
      unfolding bound_at
      bound_is from past = pick_yes _ _ (lt-ltb v 64 v64)

    pub fresh_agrees : SameState (plan_of ws ends) (state_of (fresh ws noted)) (unnoted (plan_of ws ends))
    unfolding unnoted first_size last_size lits_of pick
    fresh_agrees = record {
      edge = λ g h. edge_word g h ∙ sym (tab_at _ (edges_of ws) g h);
      lower = λ v h. bound_is v h 128 0 ∙ low_word v h;
      upper = λ v h. bound_is v h 192 0 ∙ high_word v h ∙ ap (λ (n : ℕ). pick (ltb 0 (domain_len_of ws v)) (domain_of ws v n) 2147483647) (pred_is (domain_len_of ws v));
      lower_lit = λ v h. ap lits_of (bound_is v h 256 65535 ∙ low_lit_word v h);
      upper_lit = λ v h. ap lits_of (bound_is v h 320 65535 ∙ high_lit_word v h);
    }

    first_fits : (v : ℕ) → v < vertices_of ws → first_size ws v < 4294967296
    unfolding first_size
    first_fits v h = pick_ind (λ (n : ℕ). n < 4294967296) (ltb 0 (domain_len_of ws v)) _ _ (λ t. let a = p.entries v 0 h (ltb-true 0 (domain_len_of ws v) t) in omega arith) (λ _. omega arith)

    last_fits : (v : ℕ) → v < vertices_of ws → last_size ws v < 4294967296
    unfolding last_size
    last_fits v h =
        pick_ind (λ (n : ℕ). n < 4294967296) (ltb 0 (domain_len_of ws v)) _ _
        (λ t. let k = ltb-true 0 (domain_len_of ws v) t in let a = p.entries v (domain_len_of ws v - 1) h (omega arith) in omega arith) (λ _. omega arith)

    pub fresh_bounds : BoundsFit ws (fresh ws noted)
    fresh_bounds = record {
      lower = λ v a h. omega (arith, bound_is v a 128 0, low_word v a, first_fits v a);
      upper = λ v a h. omega (arith, bound_is v a 192 0, high_word v a, last_fits v a);
      lower_lit = λ v a h. omega (arith, bound_is v a 256 65535, low_lit_word v a);
      upper_lit = λ v a h. omega (arith, bound_is v a 320 65535, high_lit_word v a);
    }
