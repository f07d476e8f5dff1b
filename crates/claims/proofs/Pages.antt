-- Document 02, request 3, of the code.
use Prim.Native.Nat.{ℕ, ◌*◌, ◌<◌, ◌≤◌}
use native.Mathlib.Omega.{arith}
use mathlib.Core.Path.{◌≡◌, sym, ◌∙◌, ap, subst}
use mathlib.Core.Logic.{◌↔◌}
use mathlib.Core.Bool.{true}
use mathlib.Core.List.{List, []}
use lib.Dec.{ltb}
use lib.ListN.{length}
use borrow.Author.Tests.{lt-ltb, le-ltb, ltb-true, ltb-false}
use Rattle.base.specs.Lists.{collect}
use Rattle.base.proofs.Loop.{pick_yes, pick_no, tested}
use Rattle.division.specs.Plan.{Plan, Proper}
use Rattle.division.specs.State.{State}
use Rattle.division.specs.Noting.{note_all}
use Rattle.pages.specs.Lines.{Figures, page_text, num_regions}
use Rattle.pages.proofs.Fields.{regions_few}
use Rattle.calls.specs.Calls as calls
use Rattle.calls.specs.Page.{PageOf}
use Rattle.calls.specs.Refusals.{room_of}
use Rattle.calls.proofs.Page.{lowest_list, regions_counted, page_noted}
use Rattle.graph_division.specs.declared.Answer.TheVariants as answer
use Rattle.graph_division.specs.Answers.{number_of}
use Rattle.graph_division.specs.Outcomes.{answer_for}
use Rattle.graph_division.specs.Runs.{page, Request, ask, Kept, query_of}
use Rattle.claims.specs.Whole.{written_by}
use Rattle.claims.specs.Conditions.{counted, reply_to, call_for, outcome_to}
use Rattle.claims.specs.Pages.{state_after, PageShort, GivesPage, Pages}
use Rattle.claims.proofs.Replying.{At}
use Rattle.claims.proofs.Lists as lists
use Rattle.claims.proofs.Asking.{asked_answer, answer_is, buffer_is, asked_quiet}

module _ (d : Plan) (start : Kept) (a : At d start calls.built) (pr : Proper d) where
  module _ (before : List Request) (b rest : List ℕ) where
    abbrev s : State
    s = state_after d start before

    abbrev t : Figures
    t = calls.region_figures d (state_after d start before)

    abbrev text : List ℕ
    text = page_text (calls.region_figures d (state_after d start before)) d.vertices

    abbrev size : ℕ
    size = 39 * num_regions (calls.region_figures d (state_after d start before)).label d.vertices

    -- the buffer is too short for the regions that are counted
    short_by : length b < size → PageShort d s b
    short_by h =
        let l = lowest_list d pr s in
        record {
          regions = _;
          listing = l;
          short = subst (λ (n : ℕ). length b < 39 * n) (regions_counted d pr s _ l) h;
        }

    short_is : PageShort d s b → length b < size
    short_is p =
        subst (λ (n : ℕ). length b < 39 * n) (sym (regions_counted d pr s p.regions p.listing)) p.short

    the_page : PageOf d s text
    the_page = page_noted d pr (counted d start before [])

    text_long : length text ≡ size
    text_long = let p = the_page in omega (arith, p.long, regions_counted d pr s _ p.listing)

    module _ (room : room_of (call_for start before (ask page b rest)) ≡ true) where
      -- what the definition answers
      told : (outcome_to d start before (ask page b rest)).answer ≡ calls.give_page t d.vertices (length b)
      unfolding query_of calls.answer_to
      told =
          asked_answer d start a before page b rest room
          ∙ ap (λ (ls : List ℕ). calls.give_page (calls.region_figures d (note_all d ls)) d.vertices (length b))
          (lists.standing_after d start a pr before)

      told_short : length b < size → (outcome_to d start before (ask page b rest)).answer ≡ calls.refused 19
      unfolding calls.give_page
      told_short h = told ∙ pick_yes _ _ (lt-ltb (length b) size h)

      told_page : size ≤ length b → (outcome_to d start before (ask page b rest)).answer ≡ calls.printed_page text
      unfolding calls.give_page
      told_page h = told ∙ pick_no _ _ (le-ltb (length b) size h)

      gives : size ≤ length b → GivesPage d s b (reply_to start before (ask page b rest))
      unfolding answer_for written_by
      gives h = record {
        bytes = text;
        page = the_page;
        answer = answer_is d start a before page b rest (calls.printed_page text) (told_page h);
        buffer = buffer_is d start a before page b rest (calls.printed_page text) (told_page h);
        fits = omega (arith, text_long, h);
      }

      given_page : (PageShort d s b → ⊥) → GivesPage d s b (reply_to start before (ask page b rest))
      given_page n = tested (ltb (length b) size)
          (λ e. absurd (n (short_by (ltb-true (length b) size e)))) (λ e. gives (ltb-false (length b) size e))

      refused_page : (number_of (reply_to start before (ask page b rest)).answer ≡ 19) ↔ PageShort d s b
      unfolding answer_for number_of
      refused_page = (
        λ e. tested (ltb (length b) size)
            (λ h. short_by (ltb-true (length b) size h))
            (λ h. let g = (gives (ltb-false (length b) size h)).answer in
            let z : ◌≡◌ {A = ℕ} 0 19 = sym (ap number_of g) ∙ e in absurd (omega arith)),
        λ p. ap number_of (answer_is d start a before page b rest (calls.refused 19) (told_short (short_is p))),
      )

      -- without vertices there is no line
      empty_page : d.vertices ≡ 0 → ((reply_to start before (ask page b rest)).answer ≡ answer.Page 0) ×
          ((reply_to start before (ask page b rest)).list ≡ b)
      unfolding answer_for written_by page_text collect
      empty_page z =
          let few = regions_few t.label d.vertices in
          let e : text ≡ [] = ap (page_text t) z in
          let h = told_page (omega arith) ∙ ap calls.printed_page e in (
            answer_is d start a before page b rest (calls.printed_page []) h,
            buffer_is d start a before page b rest (calls.printed_page []) h,
          )

  pub pages : Pages start d
  pages = record {
    given = given_page;
    refused = refused_page;
    empty = empty_page;
    quiet = λ before b rest. asked_quiet d start a before page b rest;
  }
