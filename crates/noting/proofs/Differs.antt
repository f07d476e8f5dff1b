-- Edges and vertices that are not noted otherwise are noted alike.
use mathlib.Core.Path.{◌≡◌, sym}
use mathlib.Core.Bool.{false, not}
use mathlib.Core.List.{List}
use Prim.Native.Nat.{ℕ, ◌<◌}
use lib.Dec.{eqb}
use lib.ListN.{get_or}
use borrow.Author.Tests.{lt-ltb, eqb-true}
use Rattle.base.proofs.Loop.{pick_yes}
use Rattle.base.proofs.Tests.{or_none, not_false}
use Rattle.noting.specs.Words.{edge_state_of, lower_of, upper_of, lower_lit_of, upper_lit_of}
use Rattle.noting.specs.Replay.{edge_differs, vertex_differs}

pub state_word : (m : List ℕ) (g : ℕ) → g < 128 → get_or m g 0 ≡ edge_state_of m g
unfolding edge_state_of
state_word m g h = sym (pick_yes _ _ (lt-ltb g 128 h))

pub same_edge : (a b : List ℕ) (g : ℕ) → edge_differs a b g ≡ false → edge_state_of a g ≡ edge_state_of b g
unfolding edge_differs
same_edge a b g e = eqb-true (edge_state_of a g) (edge_state_of b g) (not_false _ e)

pub same_vertex : (a b : List ℕ) (v : ℕ) → vertex_differs a b v ≡ false → (lower_of a v ≡ lower_of b v) × (upper_of a v ≡ upper_of b v) × (lower_lit_of a v ≡ lower_lit_of b v) × (upper_lit_of a v ≡ upper_lit_of b v)
unfolding vertex_differs
same_vertex a b v e =
    let (c, e₁) = or_none (not (eqb (lower_of a v) (lower_of b v))) _ e in
    let (d, e₂) = or_none (not (eqb (upper_of a v) (upper_of b v))) _ e₁ in
    let (f, g) = or_none (not (eqb (lower_lit_of a v) (lower_lit_of b v))) _ e₂ in
    (eqb-true _ _ (not_false _ c), eqb-true _ _ (not_false _ d), eqb-true _ _ (not_false _ f), eqb-true _ _ (not_false _ g))
