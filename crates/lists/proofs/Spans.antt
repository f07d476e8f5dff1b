-- The bound literals of the vertices chosen, and the ways through the functions of a conflict's list.
use Prim.Native.Nat.{ℕ, zero, suc, ◌≤◌, min}
use native.Mathlib.Omega.{arith}
use mathlib.Core.Path.{◌≡◌, refl, sym, ◌∙◌, ap, ap₂}
use mathlib.Core.List.{List}
use lib.Dec.{ltb}
use lib.ListN.{length, get_or}
use borrow.Author.Tests.{ltb-true, ltb-false}
use Rattle.base.specs.Iter.{iter, pick}
use Rattle.base.specs.Lists.{tab}
use Rattle.base.proofs.Loop.{iter_zero, iter_done, pick_yes, pick_no, tested}
use Rattle.noting.specs.Words.{capped, lits_of, lower_lit_of, upper_lit_of}
use Rattle.reasons.specs.Verdicts.{Verdict}
use Rattle.std.specs.Prelude.{Option, None, Some}
use Rattle.walks.specs.Written.{Out, out_of}
use Rattle.walks.specs.Answers.{Answer, answer_of, given}
use Rattle.walks.proofs.Written.{written_length}
use Rattle.lists.specs.Parts.{ends_from, after, then, path, and_lit}
use Rattle.lists.specs.Conflicts.{num_chosen, chosen_of, span_after, spans_after, apart_lits, conflict_lits}

-- the lesser of two numbers
pub min_pick : (a b : ℕ) → min a b ≡ pick (ltb a b) a b
min_pick a b =
    tested (ltb a b)
    (λ t. let h : min a b ≡ a = omega (arith, ltb-true a b t) in h ∙ sym (pick_yes a b t))
    (λ t. let h : min a b ≡ b = omega (arith, ltb-false a b t) in h ∙ sym (pick_no a b t))

pub chosen_min : (count : ℕ) → min count 64 ≡ num_chosen count
unfolding num_chosen
chosen_min count = min_pick count 64

pub capped_min : (n m : ℕ) → min n m ≡ capped n m
unfolding capped
capped_min n m = min_pick n m

-- the buffer's length stays
lit_keeps : (x : ℕ) (r : Option ℕ) (t : List ℕ) → length (and_lit x (answer_of r t)).text ≡ length t
unfolding and_lit then after given
lit_keeps x (Some n) t = written_length (lits_of x) (out_of t n)
lit_keeps x None t = refl

pub span_keeps : (noted : List ℕ) (v : ℕ) (a b : Answer) → b ≡ span_after noted v a → length b.text ≡ length a.text
unfolding span_after
span_keeps noted v a b e =
    let s = and_lit (lower_lit_of noted v) a in
    ap (λ (y : Answer). length y.text) e ∙ lit_keeps (upper_lit_of noted v) s.listed s.text ∙ lit_keeps (lower_lit_of noted v) a.listed a.text

pub span_by : (noted : List ℕ) (v x y : ℕ) (a s b : Answer) → x ≡ lower_lit_of noted v → s ≡ and_lit x a → y ≡ upper_lit_of noted v → b ≡ and_lit y s → b ≡ span_after noted v a
unfolding span_after
span_by noted v x y a s b p k q m = m ∙ ap₂ and_lit q (k ∙ ap (λ (l : ℕ). and_lit l a) p)

-- ---- the loop over the vertices chosen
iter_front : {A : Type 0} (f : ℕ → A → A) (n : ℕ) (a : A) → iter f (suc n) a ≡ iter (λ i. f (suc i)) n (f 0 a)
unfolding iter
iter_front f zero a = refl
iter_front f (suc n) a = ap (f (suc n)) (iter_front f n a)

spans_tab : (noted : List ℕ) (c : ℕ → ℕ) (n : ℕ) (a : Answer) → iter (λ i x. span_after noted (c i) x) n a ≡ spans_after noted (tab c n) a
unfolding spans_after tab
spans_tab noted c zero a = sym (iter_zero _ a)
spans_tab noted c (suc n) a = iter_front (λ i x. span_after noted (c i) x) n a ∙ spans_tab noted (λ i. c (suc i)) n (span_after noted (c 0) a)

pub span_step : (noted : List ℕ) (v w : ℕ) (a b : Answer) → v ≡ w → b ≡ span_after noted v a → b ≡ span_after noted w a
span_step noted v w a b e k = k ∙ ap (λ (p : ℕ). span_after noted p a) e

pub spans_done : (noted chosen : List ℕ) (count n i : ℕ) (a b : Answer) → n ≡ num_chosen count → b ≡ iter (λ i x. span_after noted (get_or chosen i 0) x) i a → i ≤ n → n ≤ i → b ≡ spans_after noted (chosen_of chosen count) a
unfolding chosen_of
spans_done noted chosen count n i a b e h p q =
    iter_done _ _ _ _ _ h p q ∙ spans_tab noted (λ i. get_or chosen i 0) n a ∙ ap (λ (m : ℕ). spans_after noted (tab (λ i. get_or chosen i 0) m) a) e

-- ---- the arms
pub apart_by : (ws : List ℕ) (es : List (List ℕ)) (noted : List ℕ) (a b x y : ℕ) (o : Out) (r s z : Answer) → r ≡ path ws es noted (ends_from a b) o → x ≡ lower_lit_of noted a → s ≡ and_lit x r →
    y ≡ upper_lit_of noted b → z ≡ and_lit y s → z ≡ apart_lits ws es noted a b o
unfolding apart_lits
apart_by ws es noted a b x y o r s z e p k q m = m ∙ ap₂ and_lit q (k ∙ ap₂ and_lit p e)

pub conflict_arm : (ws : List ℕ) (es : List (List ℕ)) (noted : List ℕ) (v w : Verdict) (ps : List ℕ) (o : Out) (b : Answer) → v ≡ w → b ≡ conflict_lits ws es noted w ps o → b ≡ conflict_lits ws es noted v ps o
conflict_arm ws es noted v w ps o b e k = k ∙ sym (ap (λ (x : Verdict). conflict_lits ws es noted x ps o) e)

pub spans_of : (noted ps : List ℕ) (a r b : Answer) → r ≡ a → b ≡ spans_after noted ps r → b ≡ spans_after noted ps a
spans_of noted ps a r b e k = k ∙ ap (spans_after noted ps) e
