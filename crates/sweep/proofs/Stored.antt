-- What an analysis has proposed: the places of its proposals are marked, and those alone.
use Prim.Native.Nat.{ℕ, ◌+◌, ◌*◌, ◌/◌, ◌%◌, ◌<◌, ◌≤◌}
use native.Mathlib.Omega.{arith}
use native.Mathlib.Nat.{zero-add}
use mathlib.Core.Path.{◌≡◌, refl, sym, ap, ◌∙◌}
use mathlib.Core.Logic.{⊎_elim}
use mathlib.Core.Bool.{Bool, true, false, ◌&&◌, ◌||◌}
use mathlib.Core.List.{List, [], ◌∷◌}
use lib.Dec.{eqb, ltb}
use lib.ListN.{length, get_or}
use borrow.Author.Tests.{lt-ltb, ltb-true, eq-eqb, ne_eqb}
use Rattle.base.specs.Iter.{pick}
use Rattle.base.specs.Lists.{Every}
use Rattle.base.proofs.Loop.{pick_yes, pick_no, eq_or_not}
use Rattle.base.proofs.Tests.{and_either}
use Rattle.base.proofs.Filled.{filled_length, filled_in}
use Rattle.division.specs.Reasons.{Reason}
use Rattle.division.specs.Analysis.{Proposal}
use Rattle.division.specs.Noting.{In}
use Rattle.division.specs.Runs.{reason_of}
use Rattle.calls.specs.Table.{has}
use Rattle.calls.proofs.Claim.{has_in}
use Rattle.plan.specs.Words.{variables_of}
use Rattle.reasons.specs.Words.{has_bit, first_word, second_word, put, stored}
use Rattle.reasons.proofs.Marks.{no_bit, mark_at, put_mark}
use Rattle.reasons.proofs.Stored.{stored_length}
use Rattle.sweep.specs.Sweep.{proposed_at, cleared}
use Rattle.sweep.specs.Relit.{places, Blank, Inside, some}

-- `clear` leaves no marks
pub cleared_blank : (ws words : List ℕ) → variables_of ws ≤ 2176 → 68 + 4 * variables_of ws ≤ length words → Blank ws (cleared words)
unfolding cleared proposed_at
cleared_blank ws words f h =
    let e = filled_length 0 (λ i. 0) words 68 in
    record {
      few = f;
      long = omega arith;
      none = λ p. and_either {a = ltb p 4352} (λ t.
          let k = ltb-true p 4352 t in
          let z : get_or (cleared words) (p / 64) 0 ≡ 0 =
          ap (λ (j : ℕ). get_or (cleared words) j 0) (sym (zero-add (p / 64))) ∙ filled_in 0 (λ i. 0) words 68 (p / 64) (omega arith) (omega arith) in
          ap (λ (w : ℕ). has_bit w (p % 64)) z ∙ no_bit (p % 64));
    }

pub cleared_length : (words : List ℕ) → length (cleared words) ≡ length words
unfolding cleared
cleared_length words = filled_length 0 (λ i. 0) words 68

-- a place is proposed then where it is the one, or was
pub proposed_put : (p q x y : ℕ) (a : List ℕ) → p < 4352 → 69 + 2 * q < length a → q < 4352 →
    proposed_at (put q x y a) p ≡ pick (eqb p q) true (proposed_at a p)
unfolding proposed_at
proposed_put p q x y a h k l =
    let t = lt-ltb p 4352 h in
    ap (λ (b : Bool). b && mark_at (put q x y a) p) t
    ∙ put_mark q x y a k l p h
    ∙ ap (λ (b : Bool). pick (eqb p q) true (b && mark_at a p)) (sym t)

pick_or : (p q : ℕ) (b : Bool) → pick (eqb p q) true b ≡ (eqb q p || b)
pick_or p q b = ⊎_elim
    (λ (e : p ≡ q). pick_yes _ _ (eq-eqb p q e) ∙ sym (ap (λ (c : Bool). c || b) (eq-eqb q p (sym e))))
    (λ (n : p ≡ q → ⊥). pick_no _ _ (ne_eqb p q n) ∙ sym (ap (λ (c : Bool). c || b) (ne_eqb q p (λ e. n (sym e)))))
    (eq_or_not p q)

pick_some : (b : Bool) (r : Reason) (rs : List Reason) → pick b true (some rs) ≡ some (pick b (r ∷ []) rs)
unfolding some pick
pick_some true r rs = refl
pick_some false r rs = refl

module _ (ws zeros : List ℕ) (b : Blank ws zeros) where
  one_more : (q : Proposal) (ps : List Proposal) (p : ℕ) → q.lit < 2 * variables_of ws → p < 2 * variables_of ws →
      proposed_at (stored (q ∷ ps) zeros) p ≡ pick (eqb p q.lit) true (proposed_at (stored ps zeros) p)
  unfolding stored
  one_more q ps p l h =
      let e = stored_length ps zeros in
      let m = b.long in
      let f = b.few in
      proposed_put p q.lit (first_word q.why) (second_word q.why) (stored ps zeros) (omega arith) (omega arith) (omega arith)

  -- the places that are proposed are those of the proposals
  pub proposed : (ps : List Proposal) (p : ℕ) → Inside ws ps → p < 2 * variables_of ws → proposed_at (stored ps zeros) p ≡ has (places ps) p
  unfolding stored has
  proposed [] p i h = b.none p
  proposed (q ∷ ps) p (Every.more l i) h =
      one_more q ps p l h ∙ ap (pick (eqb p q.lit) true) (proposed ps p i h) ∙ pick_or p q.lit (has (places ps) p)

  -- and those that have a reason
  pub proposed_some : (ps : List Proposal) (p : ℕ) → Inside ws ps → p < 2 * variables_of ws →
      proposed_at (stored ps zeros) p ≡ some (reason_of p ps)
  unfolding stored some reason_of
  proposed_some [] p i h = b.none p
  proposed_some (q ∷ ps) p (Every.more l i) h =
      one_more q ps p l h ∙ ap (pick (eqb p q.lit) true) (proposed_some ps p i h)
      ∙ pick_some (eqb p q.lit) q.why (reason_of p ps)

  pub proposed_in : (ps : List Proposal) (p : ℕ) → Inside ws ps → p < 2 * variables_of ws → proposed_at (stored ps zeros) p ≡ true → In (places ps) p
  proposed_in ps p i h e = has_in (places ps) p (sym (proposed ps p i h) ∙ e)
