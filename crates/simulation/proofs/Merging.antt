-- What several analyses recorded, merged by place: recording the merged words is recording the one and then the other.
use mathlib.Core.Path.{◌≡◌, refl, sym, ap, ◌∙◌}
use mathlib.Core.Logic.{⊎_elim}
use mathlib.Core.Bool.{false}
use mathlib.Core.List.{List}
use Prim.Native.Nat.{ℕ, zero, suc, ◌+◌, ◌*◌, ◌/◌, ◌%◌, ◌<◌, ◌≤◌}
use native.Mathlib.Omega.{arith}
use native.Mathlib.Nat.{eq-or-lt_of_le}
use lib.Dec.{ltb}
use lib.ListN.{length, get_or, set, replicate, length-set}
use lib.Seq.{get_or-set_same, get_or-set_other, ext_get_or}
use borrow.Author.Tests.{ltb-false, eq-eqb, ne_eqb}
use Rattle.base.specs.Iter.{iter, pick}
use Rattle.base.proofs.Loop.{pick_yes, pick_no, tested}
use Rattle.base.proofs.Tests.{and_either, le_or_lt}
use Rattle.plan.specs.Words.{variables_of}
use Rattle.noting.specs.Words.{capped}
use Rattle.reasons.specs.declared.reason.Reason.TheVariants.{NotPropagated}
use Rattle.reasons.specs.Words.{has_bit, put}
use Rattle.reasons.specs.Reason.{reason_of}
use Rattle.reasons.proofs.Marks.{no_bit}
use Rattle.reasons.proofs.Stored.{put_length, put_same, put_other}
use Rattle.recorded.specs.declared.Recorded.{Recorded}
use Rattle.recorded.specs.declared.Reasons.{Reasons}
use Rattle.recorded.specs.Recorded.{holding, newest, recorded}
use Rattle.sweep.specs.Sweep.{proposed_at}
use Rattle.sweep.proofs.Stored.{proposed_put}
use Rattle.notifications.specs.Notifications.{merged_at, merged}

abbrev reasons_of : List Recorded → Reasons
reasons_of l = record { at = l }

abbrev none : Recorded
none = holding NotPropagated

-- ---- words that are put, place by place
module _ (p x y : ℕ) (words : List ℕ) (old : Recorded) (h : 69 + 2 * p < length words) (l : p < 4352) where
  put_here : newest (put p x y words) p old ≡ holding (reason_of x y)
  unfolding newest
  put_here =
      let w = put_same x y words p h l in
      pick_yes _ _ (proposed_put p p x y words l h l ∙ pick_yes _ _ (eq-eqb p p refl)) ∙ (λ i. holding (reason_of (w.0 i) (w.1 i)))

  put_there : (q : ℕ) → q < 4352 → (q ≡ p → ⊥) → newest (put p x y words) q old ≡ newest words q old
  unfolding newest
  put_there q k n =
      let e : proposed_at (put p x y words) q ≡ proposed_at words q = proposed_put q p x y words k h l ∙ pick_no _ _ (ne_eqb q p n) in
      let f = put_other x y words p (68 + 2 * q) (omega arith) (λ (z : 68 + 2 * q ≡ 68 + 2 * p). n (omega arith)) (λ (z : 68 + 2 * q ≡ 69 + 2 * p). omega arith) in
      let g = put_other x y words p (69 + 2 * q) (omega arith) (λ (z : 69 + 2 * q ≡ 68 + 2 * p). omega arith) (λ (z : 69 + 2 * q ≡ 69 + 2 * p). n (omega arith)) in
      λ i. pick (e i) (holding (reason_of (f i) (g i))) old

-- ---- merged words, place by place
module _ (ps : List ℕ) where
  at_length : (p : ℕ) (words : List ℕ) → length (merged_at ps p words) ≡ length words
  unfolding merged_at
  at_length p words = tested (proposed_at ps p)
      (λ t. ap length (pick_yes _ _ t) ∙ put_length p _ _ words)
      (λ t. ap length (pick_no _ _ t))

  loop_length : (n : ℕ) (words : List ℕ) → length (iter (merged_at ps) n words) ≡ length words
  unfolding iter
  loop_length zero words = refl
  loop_length (suc n) words = at_length n (iter (merged_at ps) n words) ∙ loop_length n words

  module _ (p : ℕ) (words : List ℕ) (old : Recorded) (h : 69 + 2 * p < length words) (l : p < 4352) where
    at_here : newest (merged_at ps p words) p old ≡ newest ps p (newest words p old)
    unfolding merged_at newest
    at_here = tested (proposed_at ps p)
        (λ t. ap (λ (m : List ℕ). newest m p old) (pick_yes _ _ t) ∙ put_here p _ _ words old h l ∙ sym (pick_yes _ _ t))
        (λ t. ap (λ (m : List ℕ). newest m p old) (pick_no _ _ t) ∙ sym (pick_no _ _ t))

    at_there : (q : ℕ) → q < 4352 → (q ≡ p → ⊥) → newest (merged_at ps p words) q old ≡ newest words q old
    unfolding merged_at
    at_there q k n = tested (proposed_at ps p)
        (λ t. ap (λ (m : List ℕ). newest m q old) (pick_yes _ _ t) ∙ put_there p _ _ words old h l q k n)
        (λ t. ap (λ (m : List ℕ). newest m q old) (pick_no _ _ t))

  -- after the loop
  module _ (words : List ℕ) (old : Recorded) where
    abbrev loop : ℕ → List ℕ
    loop n = iter (merged_at ps) n words

    loop_out : (n q : ℕ) → n ≤ q → q < 4352 → 68 + 2 * n ≤ length words → newest (loop n) q old ≡ newest words q old
    unfolding iter
    loop_out zero q a k h = refl
    loop_out (suc n) q a k h =
        at_there n (loop n) old (omega (arith, loop_length n words)) (omega arith) q k (λ (e : q ≡ n). omega arith)
        ∙ loop_out n q (omega arith) k (omega arith)

    loop_in : (n q : ℕ) → q < n → n ≤ 4352 → 68 + 2 * n ≤ length words → newest (loop n) q old ≡ newest ps q (newest words q old)
    unfolding iter
    loop_in zero q a k h = absurd (omega arith)
    loop_in (suc n) q a k h = ⊎_elim
        (λ (e : q ≡ n).
        ap (λ (i : ℕ). newest (loop (suc n)) i old) e
        ∙ at_here n (loop n) old (omega (arith, loop_length n words)) (omega arith)
        ∙ ap (newest ps n) (loop_out n n (omega arith) (omega arith) (omega arith))
        ∙ ap (λ (i : ℕ). newest ps i (newest words i old)) (sym e))
        (λ (b : q < n).
        at_there n (loop n) old (omega (arith, loop_length n words)) (omega arith) q (omega arith) (λ (e : q ≡ n). omega arith)
        ∙ loop_in n q b (omega arith) (omega arith))
        (eq-or-lt_of_le {n = q} {m = n} (omega arith))

pub merged_length : (ws ps words : List ℕ) → length (merged ws ps words) ≡ length words
unfolding merged
merged_length ws ps words = loop_length ps (2 * variables_of ws) words

-- what stands at a place then
newest_both : (ws ps words : List ℕ) → variables_of ws ≤ 2176 → 68 + 4 * variables_of ws ≤ length words → (p : ℕ) (old : Recorded) →
    p < 2 * variables_of ws → newest (merged ws ps words) p old ≡ newest ps p (newest words p old)
unfolding merged
newest_both ws ps words few room p old h = loop_in ps words old (2 * variables_of ws) p h (omega arith) (omega arith)

-- ---- the loop of `record`
-- each place is set once, from what stood there
abbrev over : (ℕ → Recorded → Recorded) → ℕ → List Recorded → List Recorded
over q n l = iter (λ p m. set m p (q p (get_or m p none))) n l

module _ (q : ℕ → Recorded → Recorded) (l : List Recorded) where
  over_length : (n : ℕ) → length (over q n l) ≡ length l
  unfolding iter
  over_length zero = refl
  over_length (suc n) = length-set (over q n l) n _ ∙ over_length n

  over_out : (n p : ℕ) → n ≤ p → get_or (over q n l) p none ≡ get_or l p none
  unfolding iter
  over_out zero p a = refl
  over_out (suc n) p a = get_or-set_other (over q n l) n p _ none (λ (z : p ≡ n). omega arith) ∙ over_out n p (omega arith)

  over_in : (n p : ℕ) → p < n → p < length l → get_or (over q n l) p none ≡ q p (get_or l p none)
  unfolding iter
  over_in zero p a b = absurd (omega arith)
  over_in (suc n) p a b = ⊎_elim
      (λ (e : p ≡ n).
      ap (λ (i : ℕ). get_or (over q (suc n) l) i none) e
      ∙ get_or-set_same (over q n l) n _ none (omega (arith, over_length n))
      ∙ ap (q n) (over_out n n (omega arith))
      ∙ ap (λ (i : ℕ). q i (get_or l i none)) (sym e))
      (λ (c : p < n). get_or-set_other (over q n l) n p _ none (λ (z : p ≡ n). omega arith) ∙ over_in n p c b)
      (eq-or-lt_of_le {n = p} {m = n} (omega arith))

-- a loop after another is one loop
over_both : (f g h : ℕ → Recorded → Recorded) (n : ℕ) → ((p : ℕ) (r : Recorded) → p < n → h p r ≡ g p (f p r)) → (l : List Recorded) → over h n l ≡ over g n (over f n l)
over_both f g h n e l = ext_get_or none (over h n l) (over g n (over f n l)) (over_length h l n ∙ sym (over_length g (over f n l) n ∙ over_length f l n))
    (λ i a.
    let long : length (over h n l) ≡ length l = over_length h l n in
    ⊎_elim
    (λ (b : n ≤ i). over_out h l n i b ∙ sym (over_out g (over f n l) n i b ∙ over_out f l n i b))
    (λ (b : i < n).
    over_in h l n i b (omega arith)
    ∙ e i (get_or l i none) b
    ∙ ap (g i) (sym (over_in f l n i b (omega arith)))
    ∙ sym (over_in g (over f n l) n i b (omega (arith, over_length f l n))))
    (le_or_lt n i))

capped_le : (n m : ℕ) → capped n m ≤ n
unfolding capped
capped_le n m = tested (ltb n m) (λ t. let e = pick_yes n m t in omega arith) (λ t. let e = pick_no n m t in omega (arith, ltb-false n m t))

pub recorded_merged : (ws ps words : List ℕ) (rs : Reasons) → variables_of ws ≤ 2176 → 68 + 4 * variables_of ws ≤ length words →
    recorded ws (merged ws ps words) rs ≡ recorded ws ps (recorded ws words rs)
unfolding recorded
recorded_merged ws ps words rs few room =
    let n = capped (2 * variables_of ws) 4352 in
    ap reasons_of (over_both (newest words) (newest ps) (newest (merged ws ps words)) n (λ p r h. newest_both ws ps words few room p r (omega (arith, capped_le (2 * variables_of ws) 4352))) rs.at)

zeros : (n i : ℕ) → ◌≡◌ {A = ℕ} (get_or (replicate n 0) i 0) 0
zeros zero i = refl
zeros (suc n) zero = refl
zeros (suc n) (suc i) = zeros n i

nothing : (n p : ℕ) → proposed_at (replicate n 0) p ≡ false
unfolding proposed_at
nothing n p =
    and_either {a = ltb p 4352} (λ _. ap (λ (w : ℕ). has_bit w (p % 64)) (zeros n (p / 64)) ∙ no_bit (p % 64))

pub recorded_none : (ws : List ℕ) (n : ℕ) (rs : Reasons) → recorded ws (replicate n 0) rs ≡ rs
unfolding recorded newest
recorded_none ws n rs = ap reasons_of (ext_get_or none _ rs.at (over_length (newest (replicate n 0)) rs.at k) (λ i a.
    let long : length (over (newest (replicate n 0)) k rs.at) ≡ length rs.at = over_length (newest (replicate n 0)) rs.at k in
    ⊎_elim
    (λ (b : k ≤ i). over_out (newest (replicate n 0)) rs.at k i b)
    (λ (b : i < k). over_in (newest (replicate n 0)) rs.at k i b (omega arith) ∙ pick_no _ _ (nothing n i))
    (le_or_lt k i)))
  where
    k : ℕ
    k = capped (2 * variables_of ws) 4352
