use Rattle.std.proofs.Common.{◌≡◌, ◌∙◌, sym, ap}
use Rattle.std.specs.Prelude.{Bool, not, true, false}
use Rattle.std.specs.Option.{is_some}
use borrow.Author.Tests.{eq-eqb, ne_eqb}
use Rattle.base.proofs.Loop.{pick_yes, pick_no}
use Rattle.base.proofs.Numbered.{none_is_0, some_is_not_0}
use Rattle.builder.specs.Build.{plan_words, with_index}
use Rattle.builder.specs.Input.{refusal}
use Rattle.builder.proofs.Lowest.{clean}
use Rattle.builder.proofs.Refusal.{counted}
use Rattle.builder.proofs.build.plan_words.Goals as goal

pub fill_given-requires : goal.fill_given-requires
fill_given-requires c =
    let none : is_some c.refusal_of.result ≡ false = c.is_none.ensures ∙ ap not c.if-is_none.true in
    let k = counted c.args.vertices.now c.args.n c.args.m (clean c.args.vertices.now c.args.n c.args.edges.now c.args.m (sym c.refusal_of.ensures ∙ none_is_0 _ none)).counts in
    (k.vertices, k.edges, k.sizes, c.no_words-plan.ensures)

pub returns-then-is_none : goal.returns-then-is_none
unfolding plan_words
returns-then-is_none c =
    c.fill_index.ensures ∙ ap with_index c.fill_given.ensures
    ∙ sym (pick_yes _ _ (eq-eqb _ _ (sym c.refusal_of.ensures ∙ none_is_0 _ (c.is_none.ensures ∙ ap not c.if-is_none.true))))

pub returns-else-is_none : goal.returns-else-is_none
unfolding plan_words
returns-else-is_none c =
    let r = refusal c.args.vertices.now c.args.n c.args.edges.now c.args.m in
    c.no_words-plan.ensures
    ∙ sym (pick_no _ _ (ne_eqb r 0 (λ (z : r ≡ 0). some_is_not_0 _ (c.is_none.ensures ∙ ap not c.if-is_none.false) (c.refusal_of.ensures ∙ z))))
