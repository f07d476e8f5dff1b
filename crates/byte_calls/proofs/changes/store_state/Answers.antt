use mathlib.Core.Path.{subst}
use mathlib.Core.Bool.{true}
use mathlib.Core.Path.{◌≡◌, refl, sym, ap, ap₂, ◌∙◌}
use Prim.Native.Nat.{ℕ, ◌≤◌, ◌<◌, ◌+◌, ◌-◌, ◌*◌, ◌/◌, ◌%◌}
use native.Mathlib.Omega.{arith}
use Rattle.base.specs.Bytes.{word_at, long_at, put_half, put_word, put_long, put_halves, put_words, put_longs}
use Rattle.byte_calls.specs.Stores.{put_reason, put_reasons, put_last, put_noted, put_cursor, put_list, put_log}
use Rattle.base.proofs.Loop.{pick_yes, pick_no}
use lib.ListN.{length, length-set, get_or, set}
use mathlib.Core.List.{List}
use Rattle.plan.specs.Words.{words_of}
use Rattle.lent.specs.Lent.{state_of, state_after, called_of}
use Rattle.graph_division.specs.Calls.{with_noted, with_judged}
use Rattle.byte_calls.proofs.Storing.{noted_stored, judged_stored, plan_after_last}
use Rattle.byte_calls.specs.Layout.{plan_in, state_in}
use Rattle.base.specs.Iter.{pick}
use Rattle.graph_division.specs.declared.GraphDivision.{GraphDivision}
use Rattle.judge.specs.declared.Judgement.TheVariants.{Fine}
use Rattle.judge.specs.Judge.{judged_of}
use Rattle.byte_calls.proofs.Keeping.{noted_kept, judged_kept}
use borrow.Author.Rules.{rules}
use Rattle.byte_calls.proofs.changes.store_state.Goals as goal

pub returns-then-done : goal.returns-then-done
unfolding state_after with_judged
returns-then-done c =
    record {
      state_after = λ f.
          let t : c.args.done.judged ≡ true = c.if-done.true in
          let l : c.args.done.len < 4294967296 = subst (λ (s : GraphDivision). s.last_len < 4294967296) (pick_yes _ _ t) f in
          (ap state_in (c.store_noted.ensures.0 ∙ (ap (put_noted c.args.noted.now) (c.store_reasons.ensures ∙ ap (λ (x : List ℕ). put_reasons (words_of x) c.args.proposals.now x) c.store_last.ensures)))
          ∙ judged_stored (words_of (put_last c.args.words.now c.args.done.len c.args.state.now)) c.args.proposals.now c.args.words.now c.args.noted.now c.args.done.len c.args.state.now (plan_after_last c.args.words.now c.args.done.len c.args.state.now c.requires.0) (λ i. omega (arith, c.shared_slice_known-2-1.given i)) (λ i. omega (arith, c.shared_slice_known-3-1.given i)) (λ i. omega (arith, c.shared_slice_known-1.given i)) c.requires.3 c.requires.1 l c.requires.0)
          ∙ sym (pick_yes _ _ t);
      bytes_kept = judged_kept _ c.args.proposals.now c.args.words.now c.args.noted.now c.args.done.len c.args.state.now _ _ _ c.store_last.ensures c.store_reasons.ensures c.store_noted.ensures.0;
    }

pub returns : goal.returns
unfolding state_after
returns c =
    record { state_after = λ f. (ap state_in c.store_noted-2.ensures.0 ∙ noted_stored c.args.noted.now c.args.state.now (λ i. omega (arith, c.shared_slice_known-1.given i)) c.requires.1 c.requires.0) ∙ sym (pick_no _ _ c.if-done.false); bytes_kept = noted_kept c.args.noted.now c.args.state.now _ c.store_noted-2.ensures.0 }
