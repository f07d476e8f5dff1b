-- The bounds of a vertex after a literal is noted: `raise` and `lessen` of the abstract state.
use mathlib.Core.Path.{◌≡◌, refl, ap, ap₂, ◌∙◌}
use mathlib.Core.List.{List, [], ◌∷◌}
use Prim.Native.Nat.{ℕ, ◌+◌, ◌-◌, ◌/◌, ◌<◌}
use native.Mathlib.Omega.{arith}
use lib.ListN.{length}
use borrow.Author.Tests.{ne_eqb}
use Rattle.base.specs.Iter.{pick}
use Rattle.base.proofs.Loop.{pick_no}
use Rattle.division.specs.Noting.{Bound}
use Rattle.noting.specs.declared.note.Effect.{Effect}
use Rattle.noting.specs.Words.{lower_of, upper_of, lower_lit_of, upper_lit_of, lits_of}
use Rattle.noting.specs.Note.{effect, applied}
use Rattle.noting.specs.Ready.{Effective, idle, edge, low, high}
use Rattle.noting.proofs.Agrees.{bound_other, bound_now, lit_now, edge_keeps}

abbrev pub low_part : ℕ → List ℕ → Bound
low_part v noted = record { bound = lower_of noted v; lits = lits_of (lower_lit_of noted v) }

abbrev pub high_part : ℕ → List ℕ → Bound
high_part v noted = record { bound = upper_of noted v; lits = lits_of (upper_lit_of noted v) }

abbrev bound_of : ℕ → List ℕ → Bound
bound_of b ls = record { bound = b; lits = ls }

lits_some : (l : ℕ) → l < 65535 → lits_of l ≡ l ∷ []
unfolding lits_of
lits_some l h = pick_no _ _ (ne_eqb l 65535 (λ (e : l ≡ 65535). omega arith))

-- what an effect does to the two bounds of vertex v
module _ (noted : List ℕ) (l v : ℕ) (h : v < 64) (len : length noted ≡ 384) (small : l < 65535) where
  pub low_now : (d : ℕ) → low_part v (applied (effect 2 v d) l noted) ≡ bound_of d (l ∷ [])
  unfolding applied pick
  low_now d = ap₂ bound_of (bound_now noted 128 v d l h len (omega arith) 0) (ap lits_of (lit_now noted 128 v d l h len (omega arith) 65535) ∙ lits_some l small)

  pub high_now : (d : ℕ) → high_part v (applied (effect 3 v d) l noted) ≡ bound_of d (l ∷ [])
  unfolding applied pick
  high_now d = ap₂ bound_of (bound_now noted 192 v d l h len (omega arith) 0) (ap lits_of (lit_now noted 192 v d l h len (omega arith) 65535) ∙ lits_some l small)

  pub low_high : (u d : ℕ) → u < 64 → low_part v (applied (effect 3 u d) l noted) ≡ low_part v noted
  unfolding applied pick
  low_high u d k = ap₂ bound_of
      (bound_other noted 192 u d l k 128 0 v h (λ (e : 128 + v ≡ 192 + u). omega arith) (λ (e : 128 + v ≡ 192 + 128 + u). omega arith))
      (ap lits_of (bound_other noted 192 u d l k 256 65535 v h (λ (e : 256 + v ≡ 192 + u). omega arith) (λ (e : 256 + v ≡ 192 + 128 + u). omega arith)))

  pub high_low : (u d : ℕ) → u < 64 → high_part v (applied (effect 2 u d) l noted) ≡ high_part v noted
  unfolding applied pick
  high_low u d k = ap₂ bound_of
      (bound_other noted 128 u d l k 192 0 v h (λ (e : 192 + v ≡ 128 + u). omega arith) (λ (e : 192 + v ≡ 128 + 128 + u). omega arith))
      (ap lits_of (bound_other noted 128 u d l k 320 65535 v h (λ (e : 320 + v ≡ 128 + u). omega arith) (λ (e : 320 + v ≡ 128 + 128 + u). omega arith)))

  low_low : (u d : ℕ) → u < 64 → (u ≡ v → ⊥) → low_part v (applied (effect 2 u d) l noted) ≡ low_part v noted
  unfolding applied pick
  low_low u d k n = ap₂ bound_of
      (bound_other noted 128 u d l k 128 0 v h (λ (e : 128 + v ≡ 128 + u). n (omega arith)) (λ (e : 128 + v ≡ 128 + 128 + u). omega arith))
      (ap lits_of (bound_other noted 128 u d l k 256 65535 v h (λ (e : 256 + v ≡ 128 + u). omega arith) (λ (e : 256 + v ≡ 128 + 128 + u). n (omega arith))))

  high_high : (u d : ℕ) → u < 64 → (u ≡ v → ⊥) → high_part v (applied (effect 3 u d) l noted) ≡ high_part v noted
  unfolding applied pick
  high_high u d k n = ap₂ bound_of
      (bound_other noted 192 u d l k 192 0 v h (λ (e : 192 + v ≡ 192 + u). n (omega arith)) (λ (e : 192 + v ≡ 192 + 128 + u). omega arith))
      (ap lits_of (bound_other noted 192 u d l k 320 65535 v h (λ (e : 320 + v ≡ 192 + u). omega arith) (λ (e : 320 + v ≡ 192 + 128 + u). n (omega arith))))

  low_edge : (g x : ℕ) → low_part v (applied (effect 1 g x) l noted) ≡ low_part v noted
  unfolding applied pick
  low_edge g x = ap₂ bound_of (edge_keeps noted g x 128 0 v (omega arith)) (ap lits_of (edge_keeps noted g x 256 65535 v (omega arith)))

  high_edge : (g x : ℕ) → high_part v (applied (effect 1 g x) l noted) ≡ high_part v noted
  unfolding applied pick
  high_edge g x = ap₂ bound_of (edge_keeps noted g x 192 0 v (omega arith)) (ap lits_of (edge_keeps noted g x 320 65535 v (omega arith)))

  -- a slot of another vertex, or an edge's
  pub low_outside : (ws : List ℕ) (s : ℕ) → (s < 2048 → s / 32 ≡ v → ⊥) → (e : Effect) → Effective ws noted l s e → low_part v (applied e l noted) ≡ low_part v noted
  unfolding applied pick
  low_outside ws s n e idle = refl
  low_outside ws s n e (edge a b) = low_edge (s - 2048) _
  low_outside ws s n e (low a b) = low_low (s / 32) _ (omega arith) (n a)
  low_outside ws s n e (high a b) = low_high (s / 32) _ (omega arith)

  pub high_outside : (ws : List ℕ) (s : ℕ) → (s < 2048 → s / 32 ≡ v → ⊥) → (e : Effect) → Effective ws noted l s e → high_part v (applied e l noted) ≡ high_part v noted
  unfolding applied pick
  high_outside ws s n e idle = refl
  high_outside ws s n e (edge a b) = high_edge (s - 2048) _
  high_outside ws s n e (low a b) = high_low (s / 32) _ (omega arith)
  high_outside ws s n e (high a b) = high_high (s / 32) _ (omega arith) (n a)
