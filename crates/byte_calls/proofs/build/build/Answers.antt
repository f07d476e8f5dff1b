use mathlib.Core.Path.{◌≡◌, refl, sym, ap, ap₂, subst, ◌∙◌}
use Prim.Native.Nat.{ℕ, ◌≤◌, ◌<◌, ◌+◌, ◌-◌, ◌*◌, ◌/◌, ◌%◌}
use native.Mathlib.Omega.{arith}
use lib.ListN.{length, length-set, get_or, set, replicate}
use mathlib.Core.List.{List, ◌∷◌, []}
use Rattle.byte_calls.proofs.Building.{build_after}
use borrow.Author.Rules.{rules}
use Rattle.noting.specs.Words.{fresh}
use Rattle.builder.proofs.Length.{plan_words_length}
use Rattle.graph_division.proofs.Lending.{words_held}
use Rattle.byte_calls.proofs.build.build.Reads as reads
use Rattle.byte_calls.proofs.build.build.Lts as lts
use Rattle.builder.proofs.build.edge_table.Reads as edge-table-reads
use Rattle.builder.proofs.build.plan_words.Reads as plan-words-reads
use Rattle.byte_calls.proofs.build.clear.Reads as clear_reads
use Rattle.byte_calls.proofs.build.store_edges.Reads as store-edges-reads
use Rattle.byte_calls.proofs.build.store_words.Reads as store-words-reads
use Rattle.noting.proofs.no_notes.Reads as no-notes-reads
use Rattle.noting.proofs.fresh.Reads as fresh-reads
use Rattle.byte_calls.proofs.build.build.Goals as goal

pub returns : goal.returns
returns c =
    build_after c.args.vertices.now c.args.n c.args.edges.now c.args.m c.args.options.disallow_adjacent_same_size_regions c.args.options.allow_extra_walls _ _ _ _ c.args.state.now _ _ _
    c.requires.1 c.requires.0 c.plan_words.ensures c.no_notes-noted.ensures (c.fresh.ensures ∙ ap (λ (w : List ℕ). fresh w c.no_notes-noted.result) (words_held _ _ (ap length c.plan_words.ensures ∙ plan_words_length _ _ _ _ _ _) c.bytes_of.ensures)) c.edge_table-table.ensures
    c.store_words.ensures.0 c.store_words.ensures.1 c.store_words.ensures.2 c.store_edges.ensures c.clear.ensures
