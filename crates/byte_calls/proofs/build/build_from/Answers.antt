use mathlib.Core.Path.{◌≡◌, refl, sym, ap, ap₂, subst, ◌∙◌}
use Prim.Native.Nat.{ℕ, ◌≤◌, ◌<◌, ◌+◌, ◌-◌, ◌*◌, ◌/◌, ◌%◌}
use native.Mathlib.Omega.{arith}
use lib.ListN.{length, length-set, get_or, set, replicate}
use mathlib.Core.List.{List, ◌∷◌, []}
use Rattle.byte_calls.specs.Host.{too_short, back, given_in, back_by, undone_in, propagated_in, AfterOf, left_with, left_of, short, build_code}
use borrow.Author.Tests.{lt-ltb, le-ltb, eq-eqb, ne_eqb}
use Rattle.base.proofs.Loop.{pick_yes, pick_no}
use lib.IntN.{ℤ, pos, negsuc, neg_ℤ}
use Rattle.byte_calls.specs.Codes.{fitted}
use Rattle.byte_calls.proofs.Coding.{fitted_neg}
use Rattle.builder.specs.Input.{refusal}
use lib.Dec.{eqb, ltb}
use mathlib.Core.Bool.{true, false}
use mir.Facts.{to_z-of_z}
use Rattle.graph_division.specs.New.{built}
use Rattle.byte_calls.specs.Build.{is_on}
use Rattle.byte_calls.proofs.Building.{wrong_refused, short_refused, not_refused, refused_after, accepted_after}
use borrow.Author.Rules.{rules}
use Rattle.base.proofs.Numbered.{number_not_0}
use Rattle.byte_calls.proofs.build.build_from.Goals as goal

pub returns-in-Some : goal.returns-in-Some
unfolding build_code
returns-in-Some c =
    let a = c.args in
    let r = refusal a.vertices.now a.n a.edges.now a.m in
    let z : eqb r 0 ≡ false = ne_eqb _ _ (λ (e : r ≡ 0). number_not_0 c.in-Some.refusal _ (sym c.in-Some.ensures) e) in
    record {
      value = fitted_neg _ _ (c.refusal_code.ensures ∙ ap (λ (k : ℕ). neg_ℤ (pos (fitted k))) (c.number.ensures ∙ c.in-Some.ensures)) ∙ sym (pick_no _ _ z);
      built_in = refused_after _ _ a.state.now (wrong_refused a.vertices.now a.n a.edges.now a.m a.state.now z);
    }

pub returns-then-state-lt133440 : goal.returns-then-state-lt133440
unfolding build_code
returns-then-state-lt133440 c =
    let a = c.args in
    let z : eqb (refusal a.vertices.now a.n a.edges.now a.m) 0 ≡ true = eq-eqb _ _ (sym c.in_default.ensures) in
    let l : ltb (length a.state.now) 133440 ≡ true = lt-ltb _ _ c.if-state-lt133440.true in
    record { value = sym (pick_yes _ _ z ∙ pick_yes _ _ l); built_in = refused_after _ _ a.state.now (short_refused a.vertices.now a.n a.edges.now a.m a.state.now z l) }

pub returns : goal.returns
unfolding build_code
returns c =
    let a = c.args in
    let z : eqb (refusal a.vertices.now a.n a.edges.now a.m) 0 ≡ true = eq-eqb _ _ (sym c.in_default.ensures) in
    let l : ltb (length a.state.now) 133440 ≡ false = le-ltb _ _ c.if-state-lt133440.false in record {
      value = sym (pick_yes _ _ z ∙ pick_no _ _ l);
      built_in = accepted_after _ _ _ _ _ (not_refused a.vertices.now a.n a.edges.now a.m a.state.now z l)
          (λ i. (built a.vertices.now a.n a.edges.now a.m ((c.option.ensures ∙ ap (λ (o : ℤ). is_on o) (to_z-of_z c.ranges.same_size)) i) ((c.option-2.ensures ∙ ap (λ (o : ℤ). is_on o) (to_z-of_z c.ranges.extra_walls)) i)).state)
          c.build.ensures;
    }
