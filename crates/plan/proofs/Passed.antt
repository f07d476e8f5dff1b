-- What each passed test of the plan's own test leaves.
use mathlib.Core.Path.{◌≡◌}
use mathlib.Core.Bool.{false}
use mathlib.Core.List.{List}
use Prim.Native.Nat.{ℕ, ◌≤◌}
use lib.Dec.{ltb}
use borrow.Author.Tests.{ltb-false, eqb-true}
use Rattle.base.specs.Lists.{some}
use Rattle.base.proofs.Tests.{or_none, not_false}
use Rattle.base.proofs.Some.{some_none}
use Rattle.plan.specs.Words.{word, vertices_of, edges_of, variables_of, slots_of, mark_of, built_mark, weight_of, domain_len_of}
use Rattle.plan.specs.Check.{counts_bad, vertex_bad, Counts}

pub record Sized (ws : List ℕ) : Type 0 where
  pub vertices : vertices_of ws ≤ 64
  pub edges : edges_of ws ≤ 128
  pub variables : variables_of ws ≤ 2176
  pub slots : slots_of ws ≤ 2176
  pub same_size : word ws 2 ≤ 1
  pub extra_walls : word ws 3 ≤ 1
  pub mark : mark_of ws ≡ built_mark

pub sized : (ws : List ℕ) → counts_bad ws ≡ false → Sized ws
unfolding counts_bad
sized ws e =
    let (a, e₁) = or_none _ _ e in
    let (b, e₂) = or_none _ _ e₁ in
    let (c, e₃) = or_none _ _ e₂ in
    let (d, e₄) = or_none _ _ e₃ in
    let (f, e₅) = or_none _ _ e₄ in
    let (g, h) = or_none _ _ e₅ in
    record {
      vertices = ltb-false 64 (vertices_of ws) a;
      edges = ltb-false 128 (edges_of ws) b;
      variables = ltb-false 2176 (variables_of ws) c;
      slots = ltb-false 2176 (slots_of ws) d;
      same_size = ltb-false 1 (word ws 2) f;
      extra_walls = ltb-false 1 (word ws 3) g;
      mark = eqb-true (mark_of ws) built_mark (not_false _ h);
    }

pub counts : (ws : List ℕ) → counts_bad ws ≡ false → some (vertex_bad ws) (vertices_of ws) ≡ false → Counts ws
unfolding vertex_bad
counts ws e v =
    let s = sized ws e in
    record {
      vertices = s.vertices;
      edges = s.edges;
      variables = s.variables;
      slots = s.slots;
      domains = λ i h.
          let (a, b) = or_none (ltb 1000000 (weight_of ws i)) _ (some_none (vertex_bad ws) (vertices_of ws) v i h) in
          let (c, d) = or_none (ltb 32 (domain_len_of ws i)) _ b in
          ltb-false 32 (domain_len_of ws i) c;
    }
