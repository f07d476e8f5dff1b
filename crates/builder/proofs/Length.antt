-- How many words a plan has, built or refused.
use Prim.Native.Nat.{ℕ}
use mathlib.Core.Path.{◌≡◌, ◌∙◌}
use mathlib.Core.Bool.{Bool, true, false}
use mathlib.Core.List.{List}
use lib.Dec.{eqb}
use lib.IntN.{ℤ}
use lib.ListN.{length, length-replicate}
use borrow.Author.Tests.{eqb-true}
use Rattle.base.specs.Lists.{filled}
use Rattle.base.proofs.Filled.{filled_length}
use Rattle.base.proofs.Loop.{pick_ind}
use Rattle.builder.specs.Input.{refusal}
use Rattle.builder.specs.Index.{indexed}
use Rattle.builder.specs.Build.{given, totals, with_index, plan_words}
use Rattle.builder.proofs.Refusal.{counted}
use Rattle.builder.proofs.Lowest.{clean}
use Rattle.builder.proofs.Given.{given_length}

with_index_length : (w : List ℕ) → length (with_index w) ≡ length w
unfolding with_index
with_index_length w = filled_length 4360 _ (filled 4 3 (totals (indexed w)) w) 10881 ∙ filled_length 4 (totals (indexed w)) w 3

pub plan_words_length : (vs : List ℤ) (n : ℕ) (es : List ℤ) (m : ℕ) (a b : Bool) → length (plan_words vs n es m a b) ≡ 15241
unfolding plan_words
plan_words_length vs n es m a b = pick_ind (λ (ws : List ℕ). length ws ≡ 15241) (eqb (refusal vs n es m) 0) _ _
    (λ (t : eqb (refusal vs n es m) 0 ≡ true).
    let c = counted vs n m (clean vs n es m (eqb-true (refusal vs n es m) 0 t)).counts in
    with_index_length (given vs n es m a b) ∙ given_length vs n es m a b c.vertices c.edges c.sizes)
    (λ (t : eqb (refusal vs n es m) 0 ≡ false). length-replicate {A = ℕ} 15241 0)
