-- The replay's steps, over plain variables.
use mathlib.Core.Path.{◌≡◌, refl, sym, ap, ap₂, ◌∙◌}
use mathlib.Core.Bool.{Bool, true, false, not, ◌&&◌, ◌||◌, false≢true}
use mathlib.Core.List.{List}
use mathlib.Core.Logic.{⊎_elim}
use Prim.Native.Nat.{ℕ, zero, suc, ◌+◌, ◌-◌, ◌*◌, ◌/◌, ◌%◌, ◌≤◌, ◌<◌}
use native.Mathlib.Omega.{arith}
use lib.Dec.{ltb, eqb}
use lib.ListN.{length, get_or, replicate}
use borrow.Author.Tests.{eq-eqb, ne_eqb, lt-ltb, le-ltb, ltb-true}
use Rattle.base.specs.Iter.{iter, pick}
use Rattle.base.proofs.Loop.{pick_yes, pick_no, tested, iter_done}
use Rattle.base.proofs.Tests.{and_left, and_right, and_next, and_no, or_yes, or_next, le_or_lt}
use Rattle.undo_log.specs.declared.Record.{Record}
use Rattle.undo_log.specs.Log.{record_of, word_of}
use Rattle.plan.specs.Words.{variables_of, variable_at, lit_of, domain_of, start_at, occurrence_at}
use Rattle.noting.specs.declared.note.Effect.{Effect}
use Rattle.noting.specs.declared.replay.Place.{Place}
use Rattle.noting.specs.Words.{lower_of, upper_of}
use Rattle.noting.specs.Note.{effect, nothing, size_effect, edge_effect, effect_of, undo_record, applied, boundary, place_in, known}
use Rattle.noting.specs.Undo.{records_of}
use Rattle.noting.specs.Standing.{standing}
use Rattle.noting.specs.Following.{follow_effect, Replays, marks_of, fresh_bounds}
use Rattle.noting.specs.Replay.{Followed, followed, place, holds_at, follow_slot, Replayed, replayed, marked, set_mark, lit_at, opens, follow_at, replay_level, replay, noted_differs, afresh}
use Rattle.noting.proofs.Marks.{no_marks}
use Rattle.noting.proofs.Beginning.{zeros_fresh}

pub holds_before : (log : List ℕ) (used at : ℕ) (r : Record) → holds_at log used at r ≡ true → at < used
unfolding holds_at
holds_before log used at r e = ltb-true at used (and_left _ _ e)

module _ (log noted : List ℕ) (used l at : ℕ) (e : Effect) (r : Record) (hr : r ≡ undo_record noted e) (b : Bool) (hb : b ≡ holds_at log used at r) where
  held : b ≡ holds_at log used at (undo_record noted e)
  held = hb ∙ ap (holds_at log used at) hr

  pub effect_yes : b ≡ true → (noted₁ : List ℕ) → noted₁ ≡ applied e l noted → followed noted₁ (place true (at + 1)) ≡ follow_effect log used l e (followed noted (place true at))
  unfolding follow_effect
  effect_yes y noted₁ hn = ap (λ (m : List ℕ). followed m (place true (at + 1))) hn ∙ sym (pick_yes _ _ (sym held ∙ y))

  pub effect_no : b ≡ false → followed noted (place false at) ≡ follow_effect log used l e (followed noted (place true at))
  unfolding follow_effect
  effect_no y = sym (pick_no _ _ (sym held ∙ y))

-- what has failed stays as it is
pub follow_off : (ws log noted : List ℕ) (used l s : ℕ) (p : Place) → p.ok ≡ false → followed noted p ≡ follow_slot ws log used l s (followed noted p)
unfolding follow_slot
follow_off ws log noted used l s p h = sym (pick_no _ _ h)

module _ (ws log noted : List ℕ) (used l s at : ℕ) where
  -- a slot whose effect is e
  pub slot_effect : (e : Effect) → e ≡ effect_of ws noted l s → (e.kind ≡ 0 → ⊥) → follow_effect log used l e (followed noted (place true at)) ≡ follow_slot ws log used l s (followed noted (place true at))
  unfolding follow_effect follow_slot
  slot_effect e h k =
      ap (λ (d : Effect). follow_effect log used l d (followed noted (place true at))) h
      ∙ sym (pick_yes _ _ refl ∙ pick_no _ _ (ne_eqb (effect_of ws noted l s).kind 0 (λ (q : (effect_of ws noted l s).kind ≡ 0). k (ap (λ (d : Effect). d.kind) h ∙ q))))

  -- and one that has none
  pub slot_idle : effect_of ws noted l s ≡ nothing → followed noted (place true at) ≡ follow_slot ws log used l s (followed noted (place true at))
  unfolding follow_slot
  slot_idle h = sym (pick_yes _ _ refl ∙ pick_yes _ _ (eq-eqb _ _ (ap (λ (d : Effect). d.kind) h)))

  pub slot_past : 2048 ≤ s → 2176 ≤ s → effect_of ws noted l s ≡ nothing
  unfolding effect_of
  slot_past h k = pick_no _ _ (le-ltb s 2048 h) ∙ pick_no _ _ (le-ltb s 2176 k)

  pub slot_edge : 2048 ≤ s → s < 2176 → (m : ℕ) → m ≡ lit_of ws s → edge_effect (eqb m l) (s - 2048) ≡ effect_of ws noted l s
  unfolding effect_of
  slot_edge h k m e = ap (λ (n : ℕ). edge_effect (eqb n l) (s - 2048)) e ∙ sym (pick_no _ _ (le-ltb s 2048 h) ∙ pick_yes _ _ (lt-ltb s 2176 k))

  pub edge_effective : (b : Bool) (e : Effect) → e ≡ edge_effect b (s - 2048) → e.kind ≡ 0 → ⊥
  unfolding edge_effect
  edge_effective b e h z = let k : e.kind ≡ 1 = ap (λ (d : Effect). d.kind) h in omega arith

  module _ (h : s < 2048) (m : ℕ) (hm : m ≡ lit_of ws s) (x b : ℕ) where
    size_is : effect_of ws noted l s ≡ size_effect ws noted (eqb m l) (s / 32) (s % 32)
    unfolding effect_of
    size_is = pick_yes _ _ (lt-ltb s 2048 h) ∙ ap (λ (n : ℕ). size_effect ws noted (eqb n l) (s / 32) (s % 32)) (sym hm)

    module _ (y : m ≡ l) (hx : x ≡ domain_of ws (s / 32) (s % 32 + 1)) (hb : b ≡ lower_of noted (s / 32)) where
      pub size_low : b < x → effect 2 (s / 32) x ≡ effect_of ws noted l s
      unfolding size_effect
      size_low k =
          ap (effect 2 (s / 32)) hx
          ∙ sym (size_is ∙ pick_yes _ _ (eq-eqb m l y) ∙ pick_yes _ _ (sym (ap₂ ltb hb hx) ∙ lt-ltb b x k))

      pub size_low_not : x ≤ b → effect_of ws noted l s ≡ nothing
      unfolding size_effect
      size_low_not k = size_is ∙ pick_yes _ _ (eq-eqb m l y) ∙ pick_no _ _ (sym (ap₂ ltb hb hx) ∙ le-ltb b x k)

    module _ (y : m ≡ l → ⊥) (hx : x ≡ domain_of ws (s / 32) (s % 32)) (hb : b ≡ upper_of noted (s / 32)) where
      pub size_high : x < b → effect 3 (s / 32) x ≡ effect_of ws noted l s
      unfolding size_effect
      size_high k =
          ap (effect 3 (s / 32)) hx
          ∙ sym (size_is ∙ pick_no _ _ (ne_eqb m l y) ∙ pick_yes _ _ (sym (ap₂ ltb hx hb) ∙ lt-ltb x b k))

      pub size_high_not : b ≤ x → effect_of ws noted l s ≡ nothing
      unfolding size_effect
      size_high_not k = size_is ∙ pick_no _ _ (ne_eqb m l y) ∙ pick_no _ _ (sym (ap₂ ltb hx hb) ∙ le-ltb x b k)

-- turns that change nothing
pub iter_rest : {A : Type 0} (f : ℕ → A → A) (a x : A) (m n : ℕ) → x ≡ iter f m a → m ≤ n → ((i : ℕ) → x ≡ f i x) → x ≡ iter f n a
unfolding iter
iter_rest f a x m zero e h s = iter_done f a m zero x e h (omega arith)
iter_rest f a x m (suc n) e h s =
    ⊎_elim
    (λ (k : m ≤ n). s n ∙ ap (f n) (iter_rest f a x m n e k s))
    (λ (k : n < m). iter_done f a m (suc n) x e h (omega arith))
    (le_or_lt m n)

-- following that went on
pub follow_on : (noted : List ℕ) (p : Place) → p.ok ≡ true → followed noted (place true p.at) ≡ followed noted p
follow_on noted p h = ap (λ (b : Bool). followed noted (place b p.at)) (sym h)

pub follow_all : (ws log : List ℕ) (used l k from n : ℕ) (x : Followed) → from ≡ start_at ws k → n ≡ start_at ws (k + 1) - start_at ws k → iter (λ i y. follow_slot ws log used l (occurrence_at ws (from + i)) y) n x ≡ follow_at ws log used l k x
unfolding follow_at
follow_all ws log used l k from n x hf hn = ap₂ (λ (a m : ℕ). iter (λ i y. follow_slot ws log used l (occurrence_at ws (a + i)) y) m x) hf hn

-- a variable that was searched is known exactly if it is the one found
pub found_known : (ws : List ℕ) (k x : ℕ) → k ≡ place_in ws x → (ltb k (variables_of ws) && eqb (variable_at ws k) x) ≡ known ws x
unfolding known
found_known ws k x h = ap (λ (n : ℕ). ltb n (variables_of ws) && eqb (variable_at ws n) x) h

module _ (ws : List ℕ) (k x : ℕ) (h : k ≡ place_in ws x) where
  pub find_yes : (ltb k (variables_of ws) && eqb (variable_at ws k) x) ≡ true → k ≡ pick (known ws x) (place_in ws x) 2176
  find_yes t = h ∙ sym (pick_yes _ _ (sym (found_known ws k x h) ∙ t))

  pub find_no : (ltb k (variables_of ws) && eqb (variable_at ws k) x) ≡ false → 2176 ≡ pick (known ws x) (place_in ws x) 2176
  find_no t = sym (pick_no _ _ (sym (found_known ws k x h) ∙ t))

-- as the code computes the variable
pub found_at : (ws : List ℕ) {x y k : ℕ} → x ≡ y → k ≡ pick (known ws x) (place_in ws x) 2176 → k ≡ pick (known ws y) (place_in ws y) 2176
found_at ws e h = h ∙ ap (λ (n : ℕ). pick (known ws n) (place_in ws n) 2176) e

module _ (ws marks log : List ℕ) (at l w v : ℕ) (hl : l ≡ lit_at log at) (hw : w ≡ get_or log at 0) (hv : v ≡ word_of (boundary l)) where
  starts : (eqb w v ≡ eqb (get_or log at 0) (word_of (boundary (lit_at log at))))
  starts = ap₂ eqb hw (hv ∙ ap (λ (n : ℕ). word_of (boundary n)) hl)

  pub opens_not : (w ≡ v → ⊥) → false ≡ opens ws marks log at
  unfolding opens
  opens_not n = and_no _ (sym starts ∙ ne_eqb w v n)

  module _ (y : w ≡ v) (t : Bool) (ht : t ≡ known ws (l / 2)) where
    known_is : t ≡ known ws (lit_at log at / 2)
    known_is = ht ∙ ap (λ (n : ℕ). known ws (n / 2)) hl

    pub opens_unknown : t ≡ false → false ≡ opens ws marks log at
    unfolding opens
    opens_unknown q = and_next _ _ (sym starts ∙ eq-eqb w v y) (and_no _ (sym known_is ∙ q))

    pub opens_known : t ≡ true → (k : ℕ) → k ≡ place_in ws (l / 2) → (m : Bool) → m ≡ marked marks k → (b : Bool) → b ≡ not m → b ≡ opens ws marks log at
    unfolding opens
    opens_known q k hk m hm b hb =
        and_next _ _ (sym starts ∙ eq-eqb w v y) (and_next _ _ (sym known_is ∙ q)
        (hb ∙ ap not (hm ∙ ap (marked marks) (hk ∙ ap (λ (n : ℕ). place_in ws (n / 2)) hl))))

module _ (ws log marks noted : List ℕ) (used : ℕ) (p : Place) where
  abbrev x : Replayed
  x = replayed marks noted p

  pub level_off : p.ok ≡ false → x ≡ replay_level ws log used x
  unfolding replay_level
  level_off h = sym (pick_no _ _ (sym (and_no _ h)))

  module _ (h : p.ok ≡ true) where
    pub level_past : used ≤ p.at → x ≡ replay_level ws log used x
    unfolding replay_level
    level_past k = sym (pick_no _ _ (sym (and_next _ _ h (sym (le-ltb p.at used k)))))

    module _ (k : p.at < used) (b : Bool) (hb : b ≡ opens ws marks log p.at) where
      on : (p.ok && ltb p.at used) ≡ true
      on = sym (and_next _ _ h (sym (lt-ltb p.at used k)))

      pub level_no : b ≡ false → replayed marks noted (place false p.at) ≡ replay_level ws log used x
      unfolding replay_level
      level_no y = sym (pick_yes _ _ on ∙ pick_no _ _ (sym hb ∙ y))

      pub level_yes : b ≡ true → (l k : ℕ) → l ≡ lit_at log p.at → k ≡ place_in ws (l / 2) → (marks₁ noted₁ : List ℕ) (q : Place) → marks₁ ≡ set_mark k marks → followed noted₁ q ≡ follow_at ws log used l k (followed noted (place true (p.at + 1))) → replayed marks₁ noted₁ q ≡ replay_level ws log used x
      unfolding replay_level
      level_yes y l k hl hk marks₁ noted₁ q hm hf =
          let k' : k ≡ place_in ws (lit_at log p.at / 2) = hk ∙ ap (λ (n : ℕ). place_in ws (n / 2)) hl in
          ap₂ (λ (m : List ℕ) (f : Followed). both m f) (hm ∙ ap (λ (n : ℕ). set_mark n marks) k') (hf ∙ ap₂ (λ (a n : ℕ). follow_at ws log used a n (followed noted (place true (p.at + 1)))) hl k')
          ∙ sym (pick_yes _ _ on ∙ pick_yes _ _ (sym hb ∙ y))
        where
          both : List ℕ → Followed → Replayed
          both m f = record { marks = m; follow = f }

pub level_on : (marks noted : List ℕ) (p : Place) → p.ok ≡ true → replayed marks noted (place true p.at) ≡ replayed marks noted p
level_on marks noted p h = ap (λ (b : Bool). replayed marks noted (place b p.at)) (sym h)

-- one notification, by what the code reads and finds
module _ (ws log marks noted : List ℕ) (used at w l : ℕ) (hw : w ≡ get_or log at 0) (hl : l ≡ w / 65536 % 65536) (h : at < used) where
  lit_is : l ≡ lit_at log at
  unfolding record_of
  lit_is = hl ∙ ap (λ (n : ℕ). n / 65536 % 65536) hw

  boundary_word : 65536 * l ≡ word_of (boundary l)
  unfolding word_of
  boundary_word = omega arith

  pub level_other : (w ≡ 65536 * l → ⊥) → replayed marks noted (place false at) ≡ replay_level ws log used (replayed marks noted (place true at))
  level_other n = level_no ws log marks noted used (place true at) refl h false (opens_not ws marks log at l w (65536 * l) lit_is hw boundary_word n) refl

  module _ (y : w ≡ 65536 * l) (k : ℕ) (hk : k ≡ pick (known ws (l / 2)) (place_in ws (l / 2)) 2176) where
    pub level_marked : marked marks k ≡ true → replayed marks noted (place false at) ≡ replay_level ws log used (replayed marks noted (place true at))
    level_marked t =
        level_no ws log marks noted used (place true at) refl h false
        (tested (known ws (l / 2))
        (λ q. opens_known ws marks log at l w (65536 * l) lit_is hw boundary_word y true (sym q) refl k (hk ∙ pick_yes _ _ q) true (sym t) false refl)
        (λ q. opens_unknown ws marks log at l w (65536 * l) lit_is hw boundary_word y false (sym q) refl))
        refl

    is_known : marked marks k ≡ false → known ws (l / 2) ≡ true
    unfolding marked
    is_known t =
        tested (known ws (l / 2)) (λ q. q)
        (λ q. let e : k ≡ 2176 = hk ∙ pick_no _ _ q in
        absurd (false≢true (sym t ∙ ap not (sym (and_no (eqb (get_or marks k 0) 0) (le-ltb k 2176 (omega arith)))))))

    pub level_free : marked marks k ≡ false → (marks₁ noted₁ : List ℕ) (q : Place) → marks₁ ≡ set_mark k marks → followed noted₁ q ≡ follow_at ws log used l k (followed noted (place true (at + 1))) → replayed marks₁ noted₁ q ≡ replay_level ws log used (replayed marks noted (place true at))
    level_free t marks₁ noted₁ q hm hf =
        let kn = is_known t in
        let kp = hk ∙ pick_yes _ _ kn in
        level_yes ws log marks noted used (place true at) refl h true (opens_known ws marks log at l w (65536 * l) lit_is hw boundary_word y true (sym kn) refl k kp false (sym t) true refl) refl l k lit_is kp marks₁ noted₁ q hm hf

module _ (ws log : List ℕ) (used count : ℕ) (n work : List ℕ) (r : Bool) (hw : work ≡ fresh_bounds ws (replicate 384 0)) (h : Replays ws log used count (replayed (marks_of (replicate 34 0)) work (place true 0)) r n) (noted : List ℕ) where
  is_afresh : replay ws log used (replayed (marks_of (replicate 34 0)) work (place true 0)) ≡ afresh ws log used
  unfolding afresh
  is_afresh = ap₂ (λ (m w : List ℕ). replay ws log used (replayed m w (place true 0))) no_marks (hw ∙ zeros_fresh ws)

  abbrev ok : Bool
  ok = (afresh ws log used).follow.place.ok

  abbrev counted : Bool
  counted = eqb (length (standing (records_of log used))) count

  both : r ≡ (ok && counted)
  both = h.answer ∙ ap (λ (z : Replayed). z.follow.place.ok && counted) is_afresh

  pub differs_on : r ≡ true → (b : Bool) → b ≡ noted_differs ws n noted → b ≡ (not counted || (not ok || noted_differs ws (afresh ws log used).follow.noted noted))
  differs_on y b e =
      or_next _ _ (ap not (and_right ok counted (sym both ∙ y)))
      (or_next _ _ (ap not (and_left ok counted (sym both ∙ y)))
      (e ∙ ap (λ (m : List ℕ). noted_differs ws m noted) (h.words y ∙ ap (λ (z : Replayed). z.follow.noted) is_afresh)))

  pub differs_off : r ≡ false → true ≡ (not counted || (not ok || noted_differs ws (afresh ws log used).follow.noted noted))
  differs_off y =
      tested counted
      (λ t. or_next _ _ (ap not t) (or_yes _ (ap not (tested ok (λ o. absurd (false≢true (sym y ∙ both ∙ sym (and_next _ _ o (sym t))))) (λ o. o)))))
      (λ t. or_yes _ (ap not t))
