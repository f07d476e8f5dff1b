use mathlib.Core.Path.{◌≡◌, refl, sym, ap, ap₂, ◌∙◌}
use lib.ListN.{length}
use Rattle.base.specs.Refusal.{refusal_with}
use Rattle.base.proofs.Numbered.{numbered_back}
use Rattle.noting.specs.Words.{fresh}
use Rattle.builder.proofs.Length.{plan_words_length}
use Rattle.graph_division.proofs.Lending.{words_held}
use mathlib.Core.Bool.{false}
use Rattle.graph_division.specs.New.{built}
use borrow.Author.Rules.{rules}
use Rattle.graph_division.proofs.GraphDivision.new.Goals as goal

pub returns : goal.returns
unfolding built
returns c =
    let plan = c.plan_words.ensures in
    let held = words_held _ _ (ap length plan ∙ plan_words_length _ _ _ _ _ _) c.bytes_of.ensures in
    let noted = c.fresh.ensures ∙ ap₂ fresh (held ∙ plan) c.no_notes-noted.ensures in
    let ends = c.hold.ensures ∙ c.edge_table.ensures in
    let refused = sym (numbered_back c.refusal_of.result) ∙ ap refusal_with c.refusal_of.ensures in
    λ i. record {
      refusal = refused i;
      state = record { plan = plan i; edges = record { ends = ends i }; noted = noted i; reasons = c.no_reasons.ensures i; last = c.no_list.ensures i; last_len = 0; initialized = false };
    }
