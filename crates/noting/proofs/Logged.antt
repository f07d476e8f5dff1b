-- What holds of the logs that noting gives.
use mathlib.Core.Path.{◌≡◌, refl, sym, ap, subst, ◌∙◌}
use mathlib.Core.Bool.{true}
use mathlib.Core.List.{List, [], ◌∷◌}
use Prim.Native.Nat.{ℕ, ◌+◌, ◌-◌, ◌/◌, ◌≤◌, ◌<◌}
use native.Mathlib.Omega.{arith}
use native.Mathlib.Numerals.{add-one}
use lib.Dec.{ltb}
use lib.ListN.{length, get_or, replicate, length-replicate}
use borrow.Author.Tests.{ltb-true, eqb-true}
use Rattle.base.specs.Iter.{pick}
use Rattle.base.proofs.Tests.{and_left, and_right}
use Rattle.plan.specs.Words.{variables_of, variable_at, start_at, occurrence_at}
use Rattle.plan.specs.Check.{used_slot}
use Rattle.plan.specs.Proper.{ProperWords}
use Rattle.noting.specs.Words.{fresh}
use Rattle.noting.specs.Note.{noting, boundary, place_in, known, is_of}
use Rattle.noting.specs.Undo.{records_of}
use Rattle.noting.specs.Standing.{standing}
use Rattle.noting.specs.Replay.{Followed, followed, place, follow_at}
use Rattle.noting.proofs.After.{sizes_fit}
use Rattle.noting.proofs.Unnoted.{fresh_length, fresh_bounds}
use Rattle.noting.proofs.Indexed.{at_of}
use Rattle.noting.proofs.Prefix.{Covers, loop_on, loop_other}
use Rattle.noting.proofs.Following.{Good, standing_next, loop_goes}
use Rattle.noting.specs.Logged.{Logged}

module _ (ws log : List ℕ) (used l k : ℕ) (y : Followed) where
  pub follow_on : (y.place.at ≤ (follow_at ws log used l k y).place.at) × ((follow_at ws log used l k y).place.at ≤ y.place.at + (start_at ws (k + 1) - start_at ws k))
  unfolding follow_at
  follow_on = loop_on ws log used l (λ i. occurrence_at ws (start_at ws k + i)) (start_at ws (k + 1) - start_at ws k) y

  pub follow_other : (other : List ℕ) (bound : ℕ) → Covers ws log used l other bound (follow_at ws log used l k y) → follow_at ws other bound l k y ≡ follow_at ws log used l k y
  unfolding follow_at
  follow_other other bound c = loop_other ws log used l other bound (λ i. occurrence_at ws (start_at ws k + i)) (start_at ws (k + 1) - start_at ws k) y c

-- a notification's records lie between the number before and the number after
pub one_on : (ws log : List ℕ) (l at to : ℕ) (noted after : List ℕ) → follow_at ws log to l (place_in ws (l / 2)) (followed noted (place true (at + 1))) ≡ followed after (place true to) →
    (at + 1 ≤ to) × (to ≤ at + 1 + (start_at ws (place_in ws (l / 2) + 1) - start_at ws (place_in ws (l / 2))))
one_on ws log l at to noted after f =
    let (a, b) = follow_on ws log to l (place_in ws (l / 2)) (followed noted (place true (at + 1))) in
    let e : (follow_at ws log to l (place_in ws (l / 2)) (followed noted (place true (at + 1)))).place.at ≡ to = ap (λ (z : Followed). z.place.at) f in
    (omega arith, omega arith)

-- it is followed alike in another log with the same words, and where more of the log is used
pub one_other : (ws log other : List ℕ) (l at to bound : ℕ) (noted after : List ℕ) → ((i : ℕ) → i < to → get_or other i 0 ≡ get_or log i 0) → to ≤ bound → follow_at ws log to l (place_in ws (l / 2)) (followed noted (place true (at + 1))) ≡ followed after (place true to) →
    follow_at ws other bound l (place_in ws (l / 2)) (followed noted (place true (at + 1))) ≡ followed after (place true to)
one_other ws log other l at to bound noted after same b f =
    follow_other ws log to l (place_in ws (l / 2)) (followed noted (place true (at + 1))) other bound (subst (Covers ws log to l other bound) (sym f) (record { ok = refl; same = same; within = b })) ∙ f

-- what stands in the log past its records does not matter
pub logged_other : (ws log other : List ℕ) {ls : List ℕ} {at : ℕ} {noted : List ℕ} → ((i : ℕ) → i < at → get_or other i 0 ≡ get_or log i 0) → Logged ws log ls at noted → Logged ws other ls at noted
logged_other ws log other same Logged.none = Logged.none
logged_other ws log other same (Logged.one {at = at} {noted = noted} {l = l} {to = to} {after = after} x k h b f) =
    let (a, _) = one_on ws log l at to noted after f in
    Logged.one (logged_other ws log other (λ i q. same i (omega arith)) x) k h (same at (omega arith) ∙ b) (one_other ws log other l at to to noted after same (omega arith) f)

pub logged_length : (ws log : List ℕ) {ls : List ℕ} {at : ℕ} {noted : List ℕ} → Logged ws log ls at noted → length ls ≤ at
logged_length ws log Logged.none = omega arith
logged_length ws log (Logged.one {at = at} {noted = noted} {l = l} {to = to} {after = after} x k h b f) =
    let (a, _) = one_on ws log l at to noted after f in
    omega (arith, logged_length ws log x)

-- zero words, as the code begins
pub zeros_length : (n : ℕ) → length (replicate {A = ℕ} n 0) ≡ n
zeros_length n = length-replicate n 0

module _ (ws : List ℕ) (ends : List (List ℕ)) (p : ProperWords ws ends) where
  -- a known variable has its place among the distinct ones
  pub known_place : (x : ℕ) → known ws x ≡ true → (place_in ws x < variables_of ws) × (variable_at ws (place_in ws x) ≡ x)
  unfolding known
  known_place x k = (ltb-true _ _ (and_left _ _ k), eqb-true _ _ (and_right (ltb (place_in ws x) (variables_of ws)) _ k))

  -- so its literals are small
  pub known_small : (l : ℕ) → known ws (l / 2) ≡ true → l ≤ 8191
  known_small l k =
      let (a, e) = known_place (l / 2) k in
      let v = (p.listed (place_in ws (l / 2)) a).range in
      omega arith

  -- the occurrences are slots in use
  pub occurrences_used : (k : ℕ) → k < variables_of ws → (i : ℕ) → i < start_at ws (k + 1) - start_at ws k → used_slot ws (occurrence_at ws (start_at ws k + i)) ≡ true
  unfolding is_of
  occurrences_used k h i b = and_left _ _ (at_of ws ends p k h i b)

  pub zeros_good : Good ws (fresh ws (replicate 384 0))
  zeros_good = record {
    len = fresh_length ws (replicate 384 0) (zeros_length 384) ends p;
    bounds = fresh_bounds ws (replicate 384 0) (zeros_length 384) ends p;
  }

  -- the noted words are words that code can hold, and the literals are those that stand
  pub logged_good : (log : List ℕ) {ls : List ℕ} {at : ℕ} {noted : List ℕ} → Logged ws log ls at noted → Good ws noted × (standing (records_of log at) ≡ ls)
  unfolding follow_at records_of standing pick
  logged_good log Logged.none = (zeros_good, refl)
  logged_good log (Logged.one {ls = ls} {at = at} {noted = noted} {l = l} {to = to} {after = after} x k h b f) =
      let small = known_small l k in
      let (g, e) = logged_good log x in
      let (a, _) = one_on ws log l at to noted after f in
      let y = followed noted (place true (at + 1)) in
      let q = place_in ws (l / 2) in
      let t = loop_goes ws log to l (omega arith) (sizes_fit ws ends p) (λ i. occurrence_at ws (start_at ws q + i)) (start_at ws (q + 1) - start_at ws q) (occurrences_used q (known_place (l / 2) k).0) y (noting noted [] (record { used = 0; standing = 0 })) refl g a (ap (λ (z : Followed). z.place.ok) f) in (
        subst (Good ws) (ap (λ (z : Followed). z.noted) f) t.good,
        ap (λ (n : ℕ). standing (records_of log n)) (sym (ap (λ (z : Followed). z.place.at) f)) ∙ t.stands ∙ ap (λ (n : ℕ). standing (records_of log n)) (add-one at)
            ∙ standing_next log at (boundary l) (record { kind = omega arith; index = omega arith; bound = omega arith; lit = omega arith }) b
            ∙ ap (λ (m : List ℕ). l ∷ m) e,
      )
