-- The number of a call tells its answer, where a refusal has one of the table's numbers.
use mathlib.Core.Path.{◌≡◌, refl, sym, ap, ◌∙◌}
use Prim.Native.Nat.{ℕ, ◌<◌, ◌≤◌}
use native.Mathlib.Omega.{arith}
use lib.IntN.{ℤ, pos, negsuc, neg_ℤ}
use Rattle.graph_division.specs.declared.Answer.{Answer}
use Rattle.graph_division.specs.declared.Answer.TheVariants.{Consistent, Conflict, Noted, Undone, Reason, Run, Page, Refused}
use Rattle.graph_division.specs.Answers.{number_of}
use Rattle.byte_calls.specs.Codes.{fitted, answer_code}
use Rattle.host_claims.specs.HostRuns.{Tells}
use Rattle.host_claims.proofs.Signed.{down, down_negated}
use Rattle.host_claims.proofs.Reading.{fitted_is}

Ranged : Answer → Type 0
Ranged a = (i : ℕ) → a ≡ Refused i → (0 < i) × (i ≤ 19)

refused_down : (m : ℕ) → Ranged (Refused m) → (down (neg_ℤ (pos (fitted m))) ≡ m) × (0 < m) × (m ≤ 19)
unfolding Ranged
refused_down m h =
    let (a, b) = h m refl in
    (down_negated (fitted m) ∙ fitted_is m (omega arith), a, b)

by_conflict : (a : Answer) → Ranged a → down (answer_code a) ≡ 100 → a ≡ Conflict
unfolding answer_code down
by_conflict (Consistent n) h e = absurd (omega arith)
by_conflict Conflict h e = refl
by_conflict Noted h e = absurd (omega arith)
by_conflict Undone h e = absurd (omega arith)
by_conflict (Reason n) h e = absurd (omega arith)
by_conflict (Run n) h e = absurd (omega arith)
by_conflict (Page n) h e = absurd (omega arith)
by_conflict (Refused m) h e = let (z, a, b) = refused_down m h in absurd (omega arith)

by_noted : (a : Answer) → Ranged a → down (answer_code a) ≡ 101 → a ≡ Noted
unfolding answer_code down
by_noted (Consistent n) h e = absurd (omega arith)
by_noted Conflict h e = absurd (omega arith)
by_noted Noted h e = refl
by_noted Undone h e = absurd (omega arith)
by_noted (Reason n) h e = absurd (omega arith)
by_noted (Run n) h e = absurd (omega arith)
by_noted (Page n) h e = absurd (omega arith)
by_noted (Refused m) h e = let (z, a, b) = refused_down m h in absurd (omega arith)

by_refused : (a : Answer) → Ranged a → (n : ℕ) → 0 < n → n < 100 → down (answer_code a) ≡ n → a ≡ Refused n
unfolding answer_code down
by_refused (Consistent k) h n p q e = absurd (omega arith)
by_refused Conflict h n p q e = absurd (omega arith)
by_refused Noted h n p q e = absurd (omega arith)
by_refused Undone h n p q e = absurd (omega arith)
by_refused (Reason k) h n p q e = absurd (omega arith)
by_refused (Run k) h n p q e = absurd (omega arith)
by_refused (Page k) h n p q e = absurd (omega arith)
by_refused (Refused m) h n p q e = ap Refused (sym (refused_down m h).0 ∙ e)

by_count : (a : Answer) → Ranged a → down (answer_code a) ≡ 0 → number_of a ≡ 0
unfolding answer_code down number_of
by_count (Consistent k) h e = refl
by_count Conflict h e = refl
by_count Noted h e = refl
by_count Undone h e = refl
by_count (Reason k) h e = refl
by_count (Run k) h e = refl
by_count (Page k) h e = refl
by_count (Refused m) h e = sym (refused_down m h).0 ∙ e

pub tells : (r : ℤ) (a : Answer) → r ≡ answer_code a → ((i : ℕ) → a ≡ Refused i → (0 < i) × (i ≤ 19)) → Tells r a
unfolding Ranged down
tells r a e h = record {
  conflict = λ f. by_conflict a h (ap down (sym e ∙ f));
  noted = λ f. by_noted a h (ap down (sym e ∙ f));
  refused = λ n p q f. by_refused a h n p q (ap down (sym e ∙ f) ∙ down_negated n);
  accepted = λ n f. by_count a h (ap down (sym e ∙ f));
}
