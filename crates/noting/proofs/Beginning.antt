-- Nothing noted: the bounds, and the edges, which are fresh already where all words are 0.
use mathlib.Core.Path.{◌≡◌, refl, sym, ap, ◌∙◌}
use mathlib.Core.List.{List}
use Prim.Native.Nat.{ℕ, zero, suc, ◌+◌}
use lib.ListN.{get_or, set, replicate}
use lib.Seq.{set-get_or}
use Rattle.base.specs.Iter.{iter}
use Rattle.base.specs.Lists.{filled}
use Rattle.plan.specs.Words.{vertices_of, edges_of}
use Rattle.noting.specs.Words.{capped, first_size, last_size, fresh}
use Rattle.noting.specs.Following.{fresh_bounds}

pub bounds_are : (ws noted c d e : List ℕ) (n : ℕ) → n ≡ capped (vertices_of ws) 64 → c ≡ filled 192 n (last_size ws) (filled 128 n (first_size ws) noted) → d ≡ filled 320 n (λ v. 65535) c → e ≡ filled 256 n (λ v. 65535) d → e ≡ fresh_bounds ws noted
unfolding fresh_bounds
bounds_are ws noted c d e n hn hc hd he = cc

pub fresh_is : (ws noted a e : List ℕ) (n : ℕ) → n ≡ capped (edges_of ws) 128 → a ≡ filled 0 n (λ g. 0) noted → e ≡ fresh_bounds ws a → e ≡ fresh ws noted
unfolding fresh fresh_bounds
fresh_is ws noted a e n hn ha he = he ∙ ap (fresh_bounds ws) (ha ∙ ap (λ (k : ℕ). filled 0 k (λ g. 0) noted) hn)

-- on zeros the edges are fresh already
zero_at : (m i : ℕ) → get_or {A = ℕ} (replicate m 0) i 0 ≡ 0
zero_at zero i = refl
zero_at (suc m) zero = refl
zero_at (suc m) (suc i) = zero_at m i

zeros_kept : (m n : ℕ) → filled 0 n (λ g. 0) (replicate m 0) ≡ replicate m 0
unfolding filled iter
zeros_kept m zero = refl
zeros_kept m (suc n) =
    ap (λ (l : List ℕ). set l (0 + n) 0) (zeros_kept m n)
    ∙ ap (set (replicate m 0) (0 + n)) (sym (zero_at m (0 + n))) ∙ set-get_or (replicate m 0) (0 + n) 0

pub zeros_fresh : (ws : List ℕ) → fresh_bounds ws (replicate 384 0) ≡ fresh ws (replicate 384 0)
zeros_fresh ws = fresh_is ws (replicate 384 0) (replicate 384 0) (fresh_bounds ws (replicate 384 0)) (capped (edges_of ws) 128) refl (sym (zeros_kept 384 (capped (edges_of ws) 128))) refl
