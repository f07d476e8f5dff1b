use Rattle.std.proofs.Common.{◌≡◌, pred, ◌+◌, ◌*◌, ◌≤◌}
use Rattle.base.specs.Iter.{iter}
use Rattle.plan.specs.Words.{words_of, domain_len_of}
use Rattle.plan.proofs.check.slot_count.Given as goal

abbrev pub invariant-loop-v : goal.invariant-loop-v
invariant-loop-v l = (l.n ≤ 128 + 31 * l.v) × (l.n ≡ iter (λ v n. n + pred (domain_len_of (words_of l.plan) v)) l.v l.initial.n)
