-- The words that the builder fills, as its functions come to them.
use mathlib.Core.Path.{◌≡◌, refl, sym, ap, ap₂, ◌∙◌}
use mathlib.Core.Bool.{Bool}
use mathlib.Core.List.{List}
use Prim.Native.Nat.{ℕ, ◌+◌, ◌≤◌}
use native.Mathlib.Omega.{arith}
use lib.ListN.{get_or, set}
use Rattle.base.specs.Iter.{iter, pick}
use Rattle.base.specs.Lists.{filled}
use Rattle.graph.proofs.Ones.{ones_le}
use Rattle.plan.specs.Words.{built_mark}
use Rattle.builder.specs.Index.{Indexing, indexed}
use Rattle.builder.specs.Build.{flag, header, closed, totals, with_index}
use Rattle.builder.proofs.Least.{below}
use Rattle.builder.proofs.Rounds.{indexed_good}

pub indexed_few : (ws : List ℕ) → ((indexed ws).count ≤ 2176) × ((indexed ws).filing.filed ≤ 2176)
indexed_few ws =
    let g = (indexed_good ws).0 in
    let l = ones_le (below ws (indexed ws).next) 2176 in
    (omega (arith, g.few, g.count), omega (arith, g.count))

totals_are : (a : Indexing) (ws : List ℕ) → filled 4 3 (totals a) ws ≡ set (set (set ws 4 a.count) 5 a.filing.filed) 6 built_mark
unfolding filled iter totals pick
totals_are a ws = refl

pub index_is : (ws x : List ℕ) (v s : ℕ) → x ≡ (indexed ws).filing.words → v ≡ (indexed ws).count → s ≡ (indexed ws).filing.filed →
    filled 4360 10881 (λ i. get_or (set x (6528 + v) s) i 0) (set (set (set ws 4 v) 5 s) 6 built_mark) ≡ with_index ws
unfolding with_index closed
index_is ws x v s e f g =
    (λ j. filled 4360 10881 (λ i. get_or (set (e j) (6528 + f j) (g j)) i 0) (set (set (set ws 4 (f j)) 5 (g j)) 6 built_mark))
    ∙ ap (filled 4360 10881 (λ i. get_or (set (indexed ws).filing.words (6528 + (indexed ws).count) (indexed ws).filing.filed) i 0)) (sym (totals_are (indexed ws) ws))
