-- How far a notification of the log reaches and what stands then, whatever the plan and the noted words are; and the replay's answer
-- from a loop that ends where the log is read through or is other.
use mathlib.Core.Path.{◌≡◌, refl, sym, ap, subst, ◌∙◌}
use mathlib.Core.Bool.{true, false, true≢false, false≢true, ◌&&◌}
use mathlib.Core.List.{List}
use Prim.Native.Nat.{ℕ, zero, suc, ◌+◌, ◌-◌, ◌/◌, ◌%◌, ◌≤◌, ◌<◌}
use native.Mathlib.Omega.{arith}
use native.Mathlib.Numerals.{add-one}
use lib.Dec.{eqb, ltb}
use lib.ListN.{length, get_or}
use borrow.Author.Tests.{lt-ltb, ltb-true, eq-eqb, eqb-true, eqb-false, ne_eqb}
use Rattle.base.specs.Iter.{iter}
use Rattle.base.proofs.Loop.{pick_ind, pick_yes, pick_no}
use Rattle.base.proofs.Tests.{and_left, and_right, and_no, and_next}
use Rattle.undo_log.specs.declared.Record.{Record}
use Rattle.undo_log.specs.Log.{record_of, word_of}
use Rattle.plan.specs.Words.{lit_of, domain_of, start_at, occurrence_at}
use Rattle.noting.specs.declared.note.Effect.{Effect}
use Rattle.noting.specs.declared.replay.Place.{Place}
use Rattle.noting.specs.Words.{lower_of, upper_of}
use Rattle.noting.specs.Note.{size_effect, edge_effect, effect_of, undo_record, applied, boundary, place_in}
use Rattle.noting.specs.Undo.{records_of}
use Rattle.noting.specs.Standing.{standing}
use Rattle.noting.specs.Replay.{Followed, followed, place, holds_at, follow_slot, follow_at, Replayed, replayed, lit_at, opens, set_mark, replay_level, replay}
use Rattle.noting.specs.Following.{Replays}
use Rattle.noting.proofs.Prefix.{slot_was}
use Rattle.noting.proofs.Follow.{level_off, level_past, iter_rest}

-- a record's kind is its word's lowest byte
word_kind : (r : Record) → r.kind < 256 → word_of r % 256 ≡ r.kind
unfolding word_of
word_kind r h = omega arith

-- a record of another kind starts no notification; a boundary starts one
next_none : (log : List ℕ) (n : ℕ) (r : Record) → r.kind < 256 → (r.kind ≡ 0 → ⊥) → get_or log n 0 ≡ word_of r → standing (records_of log (n + 1)) ≡ standing (records_of log n)
unfolding records_of standing record_of
next_none log n r k z e =
    ap (λ (m : ℕ). standing (records_of log m)) (add-one n)
    ∙ pick_no _ _ (ne_eqb (get_or log n 0 % 256) 0 (λ (q : get_or log n 0 % 256 ≡ 0). z (sym (ap (λ (w : ℕ). w % 256) e ∙ word_kind r k) ∙ q)))

next_one : (log : List ℕ) (n l : ℕ) → get_or log n 0 ≡ word_of (boundary l) → length (standing (records_of log (n + 1))) ≡ length (standing (records_of log n)) + 1
unfolding records_of standing record_of
next_one log n l e =
    ap (λ (m : ℕ). length (standing (records_of log m))) (add-one n)
    ∙ ap length (pick_yes _ _ (eq-eqb (get_or log n 0 % 256) 0 (ap (λ (w : ℕ). w % 256) e ∙ word_kind (boundary l) (omega arith))))
    ∙ sym (add-one (length (standing (records_of log n))))

module _ (ws log : List ℕ) (used l : ℕ) where
  abbrev Small : Effect → Type 0
  Small e = e.kind < 256

  kind_small : (noted : List ℕ) (s : ℕ) → Small (effect_of ws noted l s)
  unfolding effect_of size_effect edge_effect
  kind_small noted s =
      pick_ind Small (ltb s 2048) _ _
      (λ _. pick_ind Small (eqb (lit_of ws s) l) _ _
      (λ _. pick_ind Small (ltb (lower_of noted (s / 32)) (domain_of ws (s / 32) (s % 32 + 1))) _ _ (λ _. omega arith) (λ _. omega arith))
      (λ _. pick_ind Small (ltb (domain_of ws (s / 32) (s % 32)) (upper_of noted (s / 32))) _ _ (λ _. omega arith) (λ _. omega arith)))
      (λ _. pick_ind Small (ltb s 2176) _ _ (λ _. omega arith) (λ _. omega arith))

  -- from a place on, where the log agrees
  pub record Passes (from : ℕ) (z : Followed) : Type 0 where
    pub up : from ≤ z.place.at
    pub down : z.place.at ≤ used
    pub stands : standing (records_of log z.place.at) ≡ standing (records_of log from)

  module _ (s : ℕ) (y : Followed) (d : y.place.at ≤ used) where
    abbrev e : Effect
    e = effect_of ws y.noted l s

    abbrev r : Record
    r = undo_record y.noted e

    kind_of_lem : r.kind ≡ e.kind
    unfolding undo_record
    kind_of_lem = refl

    abbrev If : Followed → Type 0
    If z = z.place.ok ≡ true → Passes y.place.at z

    went : (e.kind ≡ 0 → ⊥) → holds_at log used y.place.at r ≡ true → Passes y.place.at (followed (applied e l y.noted) (place true (y.place.at + 1)))
    unfolding holds_at
    went k h =
        let b = ltb-true y.place.at used (and_left _ _ h) in
        let small = kind_small y.noted s in
        record {
          up = omega arith;
          down = omega arith;
          stands = next_none log y.place.at r (omega (arith, kind_of_lem, small)) (λ (z : r.kind ≡ 0). k (sym kind_of_lem ∙ z)) (eqb-true _ _ (and_right (ltb y.place.at used) _ h));
        }

    slot_passes : If (follow_slot ws log used l s y)
    unfolding follow_slot
    slot_passes =
        pick_ind If y.place.ok _ _
        (λ _. pick_ind If (eqb e.kind 0) _ _ (λ _ _. record { up = omega arith; down = d; stands = refl })
        (λ t. pick_ind If (holds_at log used y.place.at r) _ _ (λ h _. went (eqb-false _ _ t) h) (λ _ q. absurd (false≢true q))))
        (λ n q. absurd (true≢false (sym q ∙ n)))

  loop_passes : (at : ℕ → ℕ) (n : ℕ) (y : Followed) → y.place.at ≤ used → (iter (λ i z. follow_slot ws log used l (at i) z) n y).place.ok ≡ true → Passes y.place.at (iter (λ i z. follow_slot ws log used l (at i) z) n y)
  unfolding iter
  loop_passes at zero y d o = record { up = omega arith; down = d; stands = refl }
  loop_passes at (suc n) y d o =
      let z = iter (λ i z. follow_slot ws log used l (at i) z) n y in
      let q = loop_passes at n y d (slot_was ws log used l (at n) z o) in
      let t = slot_passes (at n) z q.down o in
      record { up = omega (arith, t.up, q.up); down = t.down; stands = t.stands ∙ q.stands }

module _ (ws log : List ℕ) (used : ℕ) where
  -- one notification more
  pub record Goes (at : ℕ) (z : Replayed) : Type 0 where
    pub up : at < z.follow.place.at
    pub down : z.follow.place.at ≤ used
    pub stands : length (standing (records_of log z.follow.place.at)) ≡ length (standing (records_of log at)) + 1

  module _ (x : Replayed) (h : x.follow.place.at < used) where
    abbrev at : ℕ
    at = x.follow.place.at

    abbrev l : ℕ
    l = lit_at log at

    abbrev k : ℕ
    k = place_in ws (l / 2)

    abbrev If₁ : Replayed → Type 0
    If₁ z = z.follow.place.ok ≡ true → Goes at z

    opened : opens ws x.marks log at ≡ true → If₁ (record { marks = set_mark k x.marks; follow = follow_at ws log used l k (followed x.follow.noted (place true (at + 1))) })
    unfolding opens follow_at
    opened o q =
        let p = loop_passes ws log used l (λ i. occurrence_at ws (start_at ws k + i)) (start_at ws (k + 1) - start_at ws k) (followed x.follow.noted (place true (at + 1))) (omega arith) q in
        record {
          up = omega (arith, p.up);
          down = p.down;
          stands = ap length p.stands ∙ next_one log at l (eqb-true _ _ (and_left _ _ o));
        }

    pub level_goes : x.follow.place.ok ≡ true → If₁ (replay_level ws log used x)
    unfolding replay_level
    level_goes ok =
        pick_ind If₁ (x.follow.place.ok && ltb at used) _ _
        (λ _. pick_ind If₁ (opens ws x.marks log at) _ _ (λ o q. opened o q) (λ _ q. absurd (false≢true q)))
        (λ n _. absurd (true≢false (and_next _ _ ok (sym (lt-ltb at used h)) ∙ n)))

  -- the same for what a turn of the code gives
  pub level_step : (marks noted marks₁ noted₁ : List ℕ) (from : ℕ) (p : Place) → replayed marks₁ noted₁ p ≡ replay_level ws log used (replayed marks noted (place true from)) → from < used → p.ok ≡ true → Goes from (replayed marks₁ noted₁ p)
  level_step marks noted marks₁ noted₁ from p e h o =
      subst (Goes from) (sym e) (level_goes (replayed marks noted (place true from)) h refl (sym (ap (λ (z : Replayed). z.follow.place.ok) e) ∙ o))

  -- the code's loop: as many turns as levels, at which point the log is read through, or is other
  module _ (x : Replayed) (levels : ℕ) (few : levels ≤ used) (marks noted : List ℕ) (p : Place) (e : replayed marks noted p ≡ iter (λ _ y. replay_level ws log used y) levels x) where
    ended : ((i : ℕ) → replayed marks noted p ≡ replay_level ws log used (replayed marks noted p)) → replayed marks noted p ≡ replay ws log used x
    unfolding replay
    ended s = iter_rest (λ _ y. replay_level ws log used y) x (replayed marks noted p) levels used e few s

    pub replay_other : p.ok ≡ false → (count : ℕ) → Replays ws log used count x false noted
    replay_other o count =
        let q = ended (λ _. level_off ws log marks noted used p o) in
        record {
          answer = and_no _ (sym (ap (λ (z : Replayed). z.follow.place.ok) q) ∙ o);
          words = λ t. absurd (false≢true t);
        }

    pub replay_through : p.ok ≡ true → p.at ≡ used → length (standing (records_of log p.at)) ≡ levels → (count : ℕ) → Replays ws log used count x (eqb levels count) noted
    replay_through o a n count =
        let q = ended (λ _. level_past ws log marks noted used p o (omega arith)) in
        record {
          answer = and_next _ _ (sym (ap (λ (z : Replayed). z.follow.place.ok) q) ∙ o) (ap (λ (m : ℕ). eqb m count) (sym n ∙ ap (λ (m : ℕ). length (standing (records_of log m))) a));
          words = λ _. ap (λ (z : Replayed). z.follow.noted) q;
        }
