-- Passes that store their proposals as they go and stop: each one, begun afresh on what those before it have
-- stored, leaves what the definition leaves after them.
use Prim.Native.Nat.{ℕ, zero, suc, ◌+◌, ◌-◌, ◌≤◌}
use native.Mathlib.Omega.{arith}
use native.Mathlib.Nat.{le_antisymm}
use native.Mathlib.Numerals.{add-one, unary_clauses}
use mathlib.Core.Path.{◌≡◌, refl, sym, ap, ◌∙◌, subst}
use mathlib.Core.Bool.{false}
use mathlib.Core.List.{List, [], ◌∷◌, ◌++◌, append_assoc}
use lib.ListN.{length}
use Rattle.std.specs.Prelude.{Err}
use Rattle.std.specs.Result.{IsErrAnd}
use Rattle.std.proofs.lemmas.Result.{err_from_is_err_and}
use Rattle.base.specs.Iter.{iter, pick}
use Rattle.division.specs.Conflicts.{disconnected_inside, crossing, over, under, crowded, apart}
use Rattle.division.specs.Analysis as abstract
use Rattle.division.specs.Analysis.{Proposal, Out, going, conflict, zero_size, still, guarded}
use Rattle.reasons.specs.Words.{put, first_word, second_word, stored}
use Rattle.reasons.proofs.Stored.{stored_length}
use Rattle.reasons.specs.declared.Stop.{Stop}
use Rattle.reasons.specs.Verdicts.{Verdict, Going, verdict_of, begun, Ran, ran, ran_of}

stored_append : (l m : List Proposal) (a : List ℕ) → stored (l ++ m) a ≡ stored l (stored m a)
unfolding stored
stored_append [] m a = refl
stored_append (p ∷ l) m a = ap (put p.lit (first_word p.why) (second_word p.why)) (stored_append l m a)

pub ran_length : (r : Verdict) (c a : List ℕ) (o : Out) → ran r c ≡ ran_of o a → length c ≡ length a
unfolding ran_of
ran_length r c a o e = ap (λ (q : Ran). length q.words) e ∙ stored_length o.props a

-- the code's verdict is Going exactly where the definition's is
says_going : (x : abstract.Verdict) → verdict_of x ≡ Going → x ≡ going
unfolding verdict_of
says_going going e = refl
says_going (conflict (disconnected_inside g)) e = cc
says_going (conflict (crossing v)) e = cc
says_going (conflict (over v)) e = cc
says_going (conflict (under v)) e = cc
says_going (conflict (crowded r ps)) e = cc
says_going (conflict (apart a b)) e = cc
says_going zero_size e = cc

says_ended : (x : abstract.Verdict) (s : Stop) → verdict_of x ≡ Err s → still x ≡ false
unfolding verdict_of still
says_ended going s e = cc
says_ended (conflict c) s e = refl
says_ended zero_size s e = refl

pub still_or : {X : Type 0} (x : abstract.Verdict) → (x ≡ going → X) → (still x ≡ false → X) → X
unfolding still
still_or going f g = f refl
still_or (conflict c) f g = g refl
still_or zero_size f g = g refl

pub ran_eq : (r s : Verdict) (a b : List ℕ) → r ≡ s → a ≡ b → ran r a ≡ ran s b
ran_eq r s a b e h = ap (λ i. ran i a) e ∙ ap (ran s) h

pub out_eq : (o q : Out) → o.verdict ≡ q.verdict → o.props ≡ q.props → o ≡ q
out_eq o q e h = λ i. record { verdict = e i; props = h i }

-- a part of the analysis whose verdict and proposals do not hang on the proposals before it, and that does nothing once there is
-- a verdict
pub record Regular (f : Out → Out) : Type 0 where
  pub says : (o : Out) → o.verdict ≡ going → (f o).verdict ≡ (f begun).verdict
  pub onto : (o : Out) → o.verdict ≡ going → (f o).props ≡ (f begun).props ++ o.props
  pub rest : (o : Out) → still o.verdict ≡ false → f o ≡ o

-- the same of a step, where it is taken
pub record Follows (f : Out → Out) : Type 0 where
  pub says : (o : Out) → o.verdict ≡ going → (f o).verdict ≡ (f begun).verdict
  pub onto : (o : Out) → o.verdict ≡ going → (f o).props ≡ (f begun).props ++ o.props

pub follows : (f : Out → Out) → Regular f → Follows f
follows f u = record { says = u.says; onto = u.onto }

pub guarded_goes : (f : ℕ → Out → Out) (i : ℕ) (o : Out) → o.verdict ≡ going → guarded f i o ≡ f i o
unfolding guarded pick still
guarded_goes f i o e = simp e

guarded_stops : (f : ℕ → Out → Out) (i : ℕ) (o : Out) → still o.verdict ≡ false → guarded f i o ≡ o
unfolding guarded pick
guarded_stops f i o e = simp e

pub guarded_regular : (f : ℕ → Out → Out) (i : ℕ) → Follows (f i) → Regular (guarded f i)
guarded_regular f i u = record {
  says = λ o g. ap (λ (q : Out). q.verdict) (guarded_goes f i o g) ∙ (u.says o g ∙ ap (λ (q : Out). q.verdict) (sym (guarded_goes f i begun refl)));
  onto = λ o g. ap (λ (q : Out). q.props) (guarded_goes f i o g) ∙ (u.onto o g ∙ ap (λ (q : Out). q.props ++ o.props) (sym (guarded_goes f i begun refl)));
  rest = λ o e. guarded_stops f i o e;
}

pub same_regular : Regular (λ o. o)
same_regular = record { says = λ o g. g; onto = λ o g. refl; rest = λ o e. refl }

pub then_regular : (f h : Out → Out) → Regular f → Regular h → Regular (λ o. h (f o))
then_regular f h u v = record {
  says = λ o g.
      let e = u.says o g in
      still_or (f begun).verdict
      (λ b. v.says (f o) (e ∙ b) ∙ sym (v.says (f begun) b))
      (λ b. ap (λ (q : Out). q.verdict) (v.rest (f o) (ap still e ∙ b)) ∙ (e ∙ ap (λ (q : Out). q.verdict) (sym (v.rest (f begun) b))));
  onto = λ o g.
      let e = u.says o g in
      let p = u.onto o g in
      still_or (f begun).verdict
      (λ b. v.onto (f o) (e ∙ b) ∙ (ap ((h begun).props ++◌) p ∙ (sym (append_assoc (h begun).props (f begun).props o.props) ∙ ap (◌++ o.props) (sym (v.onto (f begun) b)))))
      (λ b. ap (λ (q : Out). q.props) (v.rest (f o) (ap still e ∙ b)) ∙ (p ∙ ap (λ (q : Out). q.props ++ o.props) (sym (v.rest (f begun) b))));
  rest = λ o e. v.rest (f o) (ap (λ (q : Out). still q.verdict) (u.rest o e) ∙ e) ∙ u.rest o e;
}

pub iter_regular : (f : ℕ → Out → Out) → ((i : ℕ) → Regular (f i)) → (n : ℕ) → Regular (iter f n)
unfolding iter
iter_regular f u zero = same_regular
iter_regular f u (suc n) = then_regular (iter f n) (f n) (iter_regular f u n) (u n)

pub pass_regular : (f : ℕ → Out → Out) → ((i : ℕ) → Follows (f i)) → (n : ℕ) → Regular (iter (guarded f) n)
pass_regular f u n = iter_regular (guarded f) (λ i. guarded_regular f i (u i)) n

-- code that goes on: the verdict was Going
module _ (f : Out → Out) (u : Follows f) (o : Out) (a b c : List ℕ) (r : Verdict) where
  pub ran_after : ran Going b ≡ ran_of o a → ran r c ≡ ran_of (f begun) b → ran r c ≡ ran_of (f o) a
  unfolding ran_of
  ran_after e h =
      let g = says_going o.verdict (ap (λ (q : Ran). q.verdict) (sym e)) in
      h ∙
      ran_eq _ _ _ _ (ap verdict_of (sym (u.says o g)))
      (ap (stored (f begun).props) (ap (λ (q : Ran). q.words) e) ∙ (sym (stored_append (f begun).props o.props a) ∙ ap (λ l. stored l a) (sym (u.onto o g))))

-- code that stops
pub ran_ended : (f : Out → Out) → Regular f → (o : Out) (a c : List ℕ) (s : Stop) → ran (Err s) c ≡ ran_of o a → ran (Err s) c ≡ ran_of (f o) a
unfolding ran_of
ran_ended f u o a c s e = e ∙ ap (λ q. ran_of q a) (sym (u.rest o (says_ended o.verdict s (ap (λ (q : Ran). q.verdict) (sym e)))))

-- code that leaves by `?`
pub ran_left : (r : Verdict) (s : Stop) (a c : List ℕ) (o : Out) → IsErrAnd r (λ y. y ≡ s) → ran (Err s) c ≡ ran_of o a → ran r c ≡ ran_of o a
ran_left r s a c o k e = let p = err_from_is_err_and r k in rw (p.1, p.2) e

module _ (f : ℕ → Out → Out) where
  pub ran_none : (a : List ℕ) → ran Going a ≡ ran_of (iter (guarded f) 0 begun) a
  unfolding iter ran_of verdict_of stored
  ran_none a = refl

  -- one turn more, as code counts
  pub ran_more : ((i : ℕ) → Follows (f i)) → (n : ℕ) (a b c : List ℕ) (r : Verdict) → ran Going b ≡ ran_of (iter (guarded f) n begun) a →
      ran r c ≡ ran_of (f n begun) b → ran r c ≡ ran_of (iter (guarded f) (n + 1) begun) a
  unfolding iter
  ran_more u n a b c r e h = rw add-one (ran_after (guarded f n) (follows (guarded f n) (guarded_regular f n (u n))) (iter (guarded f) n begun) a b c r e (h ∙ ap (λ q. ran_of q b) (sym (guarded_goes f n begun refl))))

  pub ran_done : (n m : ℕ) (a : List ℕ) (q : Ran) → q ≡ ran_of (iter (guarded f) n begun) a → n ≤ m → m ≤ n → q ≡ ran_of (iter (guarded f) m begun) a
  ran_done n m a q e h k = e ∙ ap (λ i. ran_of (iter (guarded f) i begun) a) (le_antisymm h k)

  stays : (o : Out) (k m : ℕ) → still (iter (guarded f) k o).verdict ≡ false → iter (guarded f) (k + m) o ≡ iter (guarded f) k o
  unfolding iter
  stays o k zero e = simp unary_clauses
  stays o k (suc m) e =
      simp unary_clauses (guarded_stops f (k + m) (iter (guarded f) (k + m) o) (subst (λ (q : Out). still q.verdict ≡ false) (sym (stays o k m e)) e) ∙ stays o k m e)

  -- the loop is left
  pub ran_halt : (n m : ℕ) (a c : List ℕ) (s : Stop) → n ≤ m → ran (Err s) c ≡ ran_of (iter (guarded f) n begun) a → ran (Err s) c ≡ ran_of (iter (guarded f) m begun) a
  unfolding ran_of
  ran_halt n m a c s l e =
      let z = says_ended _ s (ap (λ (q : Ran). q.verdict) (sym e)) in
      let k : n + (m - n) ≡ m = omega arith in
      e ∙ ap (λ q. ran_of q a) (sym (stays begun n (m - n) z) ∙ ap (λ i. iter (guarded f) i begun) k)

  -- the loop is left by `?` in turn n
  pub ran_stop : ((i : ℕ) → Follows (f i)) → (n m : ℕ) (a b c : List ℕ) (r : Verdict) (s : Stop) → IsErrAnd r (λ y. y ≡ s) → n + 1 ≤ m →
      ran Going b ≡ ran_of (iter (guarded f) n begun) a → ran (Err s) c ≡ ran_of (f n begun) b → ran r c ≡ ran_of (iter (guarded f) m begun) a
  ran_stop u n m a b c r s k l e h = ran_left r s a c _ k (ran_halt (n + 1) m a c s l (ran_more u n a b c (Err s) e h))
