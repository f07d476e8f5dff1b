use Rattle.std.proofs.Common.{ℕ, ◌∙◌, ap, arith}
use Rattle.base.specs.Iter.{iter}
use Rattle.base.proofs.Loop.{iter_zero, iter_more, iter_done}
use Rattle.noting.specs.declared.note.Span.{Span}
use Rattle.noting.specs.Note.{halved, searched_in}
use Rattle.noting.proofs.Place.{halve_same, halve_within}
use Rattle.plan.specs.Words.{words_of}
use Rattle.noting.proofs.note.halve_all.Goals as goal

pub loop-init : goal.loop-init
loop-init c = (omega arith, omega arith, iter_zero _ _)

pub halve-p-requires : goal.halve-p-requires
halve-p-requires c = (c.loop.invariant.0, c.loop.invariant.1)

pub loop-preserved : goal.loop-preserved
loop-preserved c =
    let l = c.loop in
    let a = c.args in
    let w = halve_within (words_of a.plan.now) a.x 0 l.p 4294967296 (l.invariant.0, l.invariant.1) in (
      omega (arith, w.0, ap (λ (q : Span). q.low) c.halve-p.ensures),
      omega (arith, w.1, ap (λ (q : Span). q.high) c.halve-p.ensures),
      iter_more _ _ _ _ _ l.invariant.2 (c.halve-p.ensures ∙ halve_same (words_of a.plan.now) a.x l.counter l.p),
    )

pub returns : goal.returns
unfolding searched_in
returns c =
    let l = c.loop in (
      ap (λ (q : Span). q.low) (iter_done _ _ _ 12 _ l.invariant.2 (omega arith) (omega arith))
          ∙ ap (λ (n : ℕ). (iter (halved (words_of c.args.plan.now) c.args.x) 12 (record { low = 0; high = n })).low) c.num_variables.ensures,
      l.invariant.0,
    )
