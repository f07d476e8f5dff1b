-- A plan's words, lent as bytes.
use Prim.Native.Nat.{ℕ, ◌+◌, ◌*◌, ◌<◌}
use native.Mathlib.Omega.{arith}
use mathlib.Core.Path.{◌≡◌, sym, ◌∙◌}
use mathlib.Core.Bool.{true, false}
use mathlib.Core.List.{List}
use lib.Dec.{ltb}
use lib.ListN.{length, replicate, length-replicate}
use lib.Seq.{ext_get_or}
use Rattle.base.specs.Bytes.{word_at, words_in}
use Rattle.base.proofs.Filled.{filled_length}
use Rattle.base.proofs.Loop.{pick_ind}
use Rattle.plan.specs.Words.{word, words_of}

pub words_of_length : (b : List ℕ) → length (words_of b) ≡ 15241
unfolding words_of words_in
words_of_length b = pick_ind (λ (ws : List ℕ). length ws ≡ 15241) (ltb (length b) 60964) _ _
    (λ (t : ltb (length b) 60964 ≡ true). length-replicate {A = ℕ} 15241 0)
    (λ (t : ltb (length b) 60964 ≡ false). filled_length 0 (λ k. word_at b (0 + 4 * k)) (replicate 15241 0) 15241 ∙ length-replicate {A = ℕ} 15241 0)

-- bytes that hold each word of a plan hold the plan
pub words_held : (b ws : List ℕ) → length ws ≡ 15241 → ((i : ℕ) → i < 15241 → word (words_of b) i ≡ word ws i) → words_of b ≡ ws
words_held b ws r h = ext_get_or 0 (words_of b) ws (words_of_length b ∙ sym r) (λ i l. h i (omega (arith, l, words_of_length b)))
