-- A page on lent arrays is that on the state that they are the parts of, by what is tested first.
use mathlib.Core.Path.{◌≡◌, sym, ap, ◌∙◌}
use mathlib.Core.Bool.{Bool, true, false}
use mathlib.Core.List.{List}
use Prim.Native.Nat.{ℕ}
use Rattle.base.proofs.Loop.{pick_yes, pick_no}
use Rattle.undo_log.specs.declared.Cursor.{Cursor}
use Rattle.plan.specs.Words.{vertices_of}
use Rattle.views.specs.declared.compute.Regions.{Regions}
use Rattle.views.specs.declared.compute.Bounds.{Bounds}
use Rattle.views.specs.Compute.{regions_from, bounds_from}
use Rattle.std.specs.Prelude.{Result}
use Rattle.pages.specs.declared.PageError.{PageError}
use Rattle.pages.specs.Lines as lines
use Rattle.refusals.specs.Refusals.{state_bad}
use Rattle.graph_division.specs.declared.GraphDivision.{GraphDivision}
use Rattle.graph_division.specs.declared.Answer.{Answer}
use Rattle.graph_division.specs.declared.Answer.TheVariants as answer
use Rattle.graph_division.specs.Calls.{fetched, page_answer, figures_with, figures_in, page_printed, page_fetched}

module _ (s : GraphDivision) (c : Cursor) (log b : List ℕ) (bad : Bool)
    (e : bad ≡ state_bad s.plan s.edges.ends s.noted log c) where
  pub page_refused : bad ≡ true → fetched (answer.Refused 7) b ≡ page_fetched s c log b
  unfolding page_fetched
  page_refused z = sym (pick_yes _ _ (sym e ∙ z))

  pub page_printed_lem : (n : ℕ) (r : Regions) (lower upper : Bounds) (x : Result ℕ PageError) (a : Answer) (b' : List ℕ) →
      bad ≡ false → n ≡ vertices_of s.plan → r ≡ regions_from s.plan s.edges.ends s.noted false →
      lower ≡ bounds_from r.labels s.noted 128 n false → upper ≡ bounds_from r.labels s.noted 192 n true →
      lines.page_buffer x b'
      ≡ lines.printed_in (lines.figures_of r.labels r.weights lower.bounds upper.bounds) n b →
      a ≡ page_answer x → fetched a b' ≡ page_fetched s c log b
  unfolding page_fetched page_printed figures_in figures_with
  page_printed_lem n r lower upper x a b' z en er el eu h ea =
      let l = el ∙ (λ i. bounds_from (er i).labels s.noted 128 (en i) false) in
      let u = eu ∙ (λ i. bounds_from (er i).labels s.noted 192 (en i) true) in
      let g : lines.page_buffer x b' ≡ lines.printed_in (figures_in s) (vertices_of s.plan) b =
      h
      ∙ (λ i. lines.printed_in (lines.figures_of (er i).labels (er i).weights (l i).bounds (u i).bounds) (en i) b) in
      ap (λ (y : Answer). fetched y b') ea ∙ ap page_printed g ∙ sym (pick_no _ _ (sym e ∙ z))
