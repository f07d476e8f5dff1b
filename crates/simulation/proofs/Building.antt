-- A state that is built, with any log that is long enough and nothing in it used, is the world before any call.
use mathlib.Core.Path.{◌≡◌, refl, sym, ap, ◌∙◌}
use mathlib.Core.Bool.{Bool, false}
use mathlib.Core.List.{List, []}
use Prim.Native.Nat.{ℕ, ◌<◌, zero-le}
use native.Mathlib.Omega.{arith}
use lib.IntN.{ℤ}
use lib.ListN.{length, replicate, length-replicate, get_or-replicate}
use borrow.Author.Tests.{lt-ltb, eq-eqb}
use Rattle.std.specs.Prelude.{None}
use Rattle.base.proofs.Numbered.{with_none}
use Rattle.builder.specs.Input.{refusal}
use Rattle.base.specs.Lists.{tab}
use Rattle.base.proofs.Loop.{pick_yes}
use Rattle.base.proofs.Filled.{filled_length}
use Rattle.division.specs.Runs.{reason_of}
use Rattle.division.specs.Analysis.{nothing}
use Rattle.noting.specs.Buffers.{log_short}
use Rattle.noting.proofs.Valid.{fresh_valid}
use Rattle.noting.specs.Note.{cursor_at}
use Rattle.reasons.specs.declared.reason.Reason.TheVariants.{NotPropagated}
use Rattle.reasons.specs.Reason.{meaning}
use Rattle.recorded.specs.declared.Recorded.{Recorded}
use Rattle.recorded.specs.Recorded.{holding, no_reasons, reason_at}
use Rattle.builder.specs.Build.{with_index, plan_words}
use Rattle.builder.proofs.Refusal.{counted}
use Rattle.builder.proofs.Lowest.{clean}
use Rattle.builder.proofs.Given.{given_length}
use Rattle.builder.proofs.Built.{new_proper}
use Rattle.calls.specs.Calls as calls
use Rattle.graph_division.specs.New.{built}
use Rattle.simulation.specs.Represents.{Represents}

no_reason_at : (p : ℕ) → p < 4352 → meaning (reason_at no_reasons p) ≡ []
unfolding reason_at no_reasons meaning
no_reason_at p h = ap meaning (pick_yes _ _ (lt-ltb p 4352 h) ∙ ap (λ (x : Recorded). x.reason) (get_or-replicate 4352 p (holding NotPropagated) (holding NotPropagated) h))

no_reasons_long : length no_reasons.at ≡ 4352
unfolding no_reasons
no_reasons_long = length-replicate {A = Recorded} 4352 (holding NotPropagated)

module _ (vs : List ℤ) (n : ℕ) (es : List ℤ) (m : ℕ) (a b : Bool) (none : (built vs n es m a b).refusal ≡ None) where
  pub z : refusal vs n es m ≡ 0
  unfolding built
  z = with_none _ none

  pub plan_length : length (built vs n es m a b).state.plan ≡ 15241
  unfolding built plan_words with_index
  plan_length =
      let k = counted vs n m (clean vs n es m z).counts in
      ap length (pick_yes _ _ (eq-eqb _ 0 z))
      ∙ filled_length 4360 _ _ 10881
      ∙ filled_length 4 _ _ 3
      ∙ given_length vs n es m a b k.vertices k.edges k.sizes

  pub new_represents : (log : List ℕ) → log_short (built vs n es m a b).state.plan (length log) ≡ false → Represents (built vs n es m a b).state log (cursor_at 0 0) calls.built
  unfolding built calls.built tab reason_of
  new_represents log long =
      let p = (new_proper vs n es m a b z).0 in
      let (v, e) = fresh_valid _ _ p (replicate 384 0) log (length-replicate {A = ℕ} 384 0) long in
      record {
        proper = p;
        words = omega (arith, plan_length);
        places = no_reasons_long;
        valid = v;
        standing = sym e;
        reasons = λ i h. no_reason_at i (omega (arith, p.few.0));
        within = nothing;
        room = length-replicate {A = ℕ} 260 0;
        fits = zero-le;
        last = refl;
        done = refl;
      }
