-- What refusal 7 leaves: the standing literals are the plan's, no two of one variable, and edge states, bounds and their
-- literals are what they give.
use mathlib.Core.Path.{◌≡◌, refl, sym, ap, ap₂, subst, ◌∙◌}
use mathlib.Core.Logic.{◌⊎◌, inl, inr, ⊎_elim}
use mathlib.Core.Bool.{Bool, true, false, not, ◌&&◌, ◌||◌, false≢true}
use mathlib.Core.List.{List, [], ◌∷◌}
use Prim.Native.Nat.{ℕ, suc, ◌+◌, ◌-◌, ◌/◌, ◌≤◌, ◌<◌}
use native.Mathlib.Omega.{arith}
use native.Mathlib.Numerals.{add-one}
use lib.Dec.{eqb, ltb}
use lib.ListN.{length, get_or, set, replicate, length-set}
use lib.Seq.{get_or-set_same, get_or-set_other}
use borrow.Author.Tests.{lt-ltb, ltb-true, ltb-false, eqb-true, ne_eqb, eq-eqb, not-true}
use Rattle.base.specs.Iter.{iter, pick}
use Rattle.base.specs.Lists.{some}
use Rattle.base.proofs.Loop.{pick_ind, pick_yes, iter_ind}
use Rattle.base.proofs.Tests.{and_left, and_right, or_none, not_false}
use Rattle.base.proofs.Some.{some_none}
use Rattle.undo_log.specs.declared.Cursor.{Cursor}
use Rattle.undo_log.specs.Log.{word_of}
use Rattle.plan.specs.Words.{vertices_of, edges_of, variables_of, variable_at, start_at, occurrence_at}
use Rattle.plan.specs.Plan.{plan_of}
use Rattle.plan.specs.Proper.{ProperWords}
use Rattle.division.specs.Plan.{Plan}
use Rattle.division.specs.State.{State}
use Rattle.division.specs.Noting.{note_one, note_all, In}
use Rattle.division.specs.Agree.{SameState}
use Rattle.division.proofs.Alike.{note_same}
use Rattle.division.specs.Noted.{Noted}
use Rattle.division.proofs.Noting.{noted_all}
use Rattle.noting.specs.Words.{lits_of, state_of, fresh}
use Rattle.noting.specs.Note.{Noting, noting, boundary, level_pushed, place_in, known, note_at, note}
use Rattle.noting.specs.Undo.{records_of}
use Rattle.noting.specs.Standing.{standing, has_variable, OneEach, none, one, AllKnown}
use Rattle.noting.specs.Replay.{Followed, followed, place, Replayed, replayed, marked, set_mark, lit_at, opens, follow_at, replay_level, replay, edge_differs, vertex_differs, noted_differs, afresh, log_bad}
use Rattle.noting.proofs.Differs.{state_word, same_edge, same_vertex}
use Rattle.noting.proofs.Distinct.{never_both}
use Rattle.noting.proofs.After.{sizes_fit}
use Rattle.noting.proofs.Indexed.{one_place}
use Rattle.noting.proofs.Noted.{note_agrees}
use Rattle.noting.proofs.Unnoted.{fresh_agrees}
use Rattle.noting.proofs.Following.{Good, standing_next, Goes, loop_goes}
use Rattle.noting.specs.Logged.{Logged}
use Rattle.noting.proofs.Logged.{follow_other, zeros_length, zeros_good, occurrences_used}

pub same_trans : (d : Plan) (s t u : State) → SameState d s t → SameState d t u → SameState d s u
same_trans d s t u a b = record {
  edge = λ g h. a.edge g h ∙ b.edge g h;
  lower = λ v h. a.lower v h ∙ b.lower v h;
  upper = λ v h. a.upper v h ∙ b.upper v h;
  lower_lit = λ v h. a.lower_lit v h ∙ b.lower_lit v h;
  upper_lit = λ v h. a.upper_lit v h ∙ b.upper_lit v h;
}

module _ (ws : List ℕ) (ends : List (List ℕ)) (p : ProperWords ws ends) (log : List ℕ) (used : ℕ) where
  abbrev ls : ℕ → List ℕ
  ls n = standing (records_of log n)

  -- after a part of the log that agrees
  record Stand (i : ℕ) (x : Replayed) : Type 0 where
    good : Good ws x.follow.noted
    logged : Logged ws log (ls x.follow.place.at) x.follow.place.at x.follow.noted
    state : SameState (plan_of ws ends) (state_of x.follow.noted) (note_all (plan_of ws ends) (ls x.follow.place.at))
    down : x.follow.place.at ≤ used
    far : (i ≤ x.follow.place.at) ⊎ (used ≤ x.follow.place.at)
    distinct : OneEach (ls x.follow.place.at)
    knows : AllKnown ws (ls x.follow.place.at)
    room : length x.marks ≡ 2176
    free : (k : ℕ) → k < variables_of ws → marked x.marks k ≡ false → has_variable (variable_at ws k) (ls x.follow.place.at) ≡ false

  module _ (i : ℕ) (x : Replayed) (st : Stand i x) where
    abbrev at : ℕ
    at = x.follow.place.at

    abbrev l : ℕ
    l = lit_at log at

    abbrev k : ℕ
    k = place_in ws (l / 2)

    abbrev y : Followed
    y = followed x.follow.noted (place true (at + 1))

    module _ (h : at < used) (o : opens ws x.marks log at ≡ true) where
      is_known : known ws (l / 2) ≡ true
      unfolding opens
      is_known = and_left _ _ (and_right (eqb (get_or log at 0) (word_of (boundary l))) _ o)

      unmarked : marked x.marks k ≡ false
      unfolding opens
      unmarked = not-true _ (and_right (known ws (l / 2)) _ (and_right (eqb (get_or log at 0) (word_of (boundary l))) _ o))

      boundary_there : get_or log at 0 ≡ word_of (boundary l)
      unfolding opens
      boundary_there = eqb-true _ _ (and_left _ _ o)

      k_below : k < variables_of ws
      unfolding known
      k_below = ltb-true _ _ (and_left _ _ is_known)

      k_is : variable_at ws k ≡ l / 2
      unfolding known
      k_is = eqb-true _ _ (and_right (ltb k (variables_of ws)) _ is_known)

      l_small : l < 65535
      l_small = let v = (p.listed k k_below).range in omega (arith, k_is)

      fresh_variable : has_variable (l / 2) (ls at) ≡ false
      fresh_variable = subst (λ (n : ℕ). has_variable n (ls at) ≡ false) k_is (st.free k k_below unmarked)

      -- the boundary's literal stands
      stands_next : ls (at + 1) ≡ l ∷ ls at
      unfolding pick
      stands_next = ap ls (add-one at) ∙ standing_next log at (boundary l) (record { kind = omega arith; index = omega arith; bound = omega arith; lit = omega (arith, l_small) }) boundary_there

      module _ (q : (follow_at ws log used l k y).place.ok ≡ true) where
        abbrev z : Followed
        z = follow_at ws log used l k y

        abbrev n : Noting
        n = noting x.follow.noted [] (record { used = 0; standing = 0 })

        goes : Goes ws log used l (omega (arith, l_small)) (sizes_fit ws ends p) (note_at ws l k (level_pushed l n)).noted (at + 1) z
        unfolding follow_at note_at level_pushed
        goes = loop_goes ws log used l (omega (arith, l_small)) (sizes_fit ws ends p) (λ i. occurrence_at ws (start_at ws k + i)) (start_at ws (k + 1) - start_at ws k) (occurrences_used ws ends p k k_below) y (level_pushed l n) refl st.good (omega arith) q

        note_at_lem : note ws l n ≡ note_at ws l k (level_pushed l n)
        unfolding note
        note_at_lem = pick_yes _ _ is_known

        after : ls z.place.at ≡ l ∷ ls at
        after = goes.stands ∙ stands_next

        state_next : SameState (plan_of ws ends) (state_of z.noted) (note_all (plan_of ws ends) (l ∷ ls at))
        unfolding note_all
        state_next =
            same_trans (plan_of ws ends) _ _ _ (subst (λ (m : List ℕ). SameState (plan_of ws ends) (state_of m) (note_one (plan_of ws ends) l (state_of x.follow.noted))) (ap (λ (w : Noting). w.noted) note_at_lem ∙ sym goes.same) (note_agrees ws ends p l l_small n st.good.len))
            (note_same (plan_of ws ends) l (state_of x.follow.noted) (note_all (plan_of ws ends) (ls at)) st.state)

        -- no word past the place that was reached is read
        follow_next : follow_at ws log z.place.at l k y ≡ followed z.noted (place true z.place.at)
        follow_next =
            follow_other ws log used l k y log z.place.at (record { ok = q; same = λ i b. refl; within = omega arith })
            ∙ ap (λ (b : Bool). followed z.noted (place b z.place.at)) q

        free_next : (j : ℕ) → j < variables_of ws → marked (set_mark k x.marks) j ≡ false → has_variable (variable_at ws j) (l ∷ ls at) ≡ false
        unfolding has_variable marked set_mark
        free_next j hj m =
            let b = not_false _ m in
            let j2 = ltb-true j 2176 (and_left _ _ b) in
            let w : get_or (pick (ltb k 2176) (set x.marks k 1) x.marks) j 0 ≡ 0 = eqb-true _ _ (and_right (ltb j 2176) _ b) in
            let k2 : k < 2176 = omega (arith, k_below, p.few.0) in
            let w' : get_or (set x.marks k 1) j 0 ≡ 0 = subst (λ (c : List ℕ). get_or c j 0 ≡ 0) (pick_yes _ _ (lt-ltb k 2176 k2)) w in
            let ne : j ≡ k → ⊥ = λ (e : j ≡ k). let v : get_or (set x.marks k 1) j 0 ≡ 1 = ap (λ (i : ℕ). get_or (set x.marks k 1) i 0) e ∙ get_or-set_same x.marks k 1 0 (omega (arith, st.room)) in omega arith in
            let old : get_or x.marks j 0 ≡ 0 = sym (get_or-set_other x.marks k j 1 0 ne) ∙ w' in
            let u : marked x.marks j ≡ false = ap not (ap₂ ◌&&◌ (lt-ltb j 2176 j2) (eq-eqb (get_or x.marks j 0) 0 old)) in
            ap₂ ◌||◌ (ne_eqb (l / 2) (variable_at ws j) (λ (e : l / 2 ≡ variable_at ws j). ne (one_place ws ends p j k hj k_below (sym e ∙ sym k_is)))) (st.free j hj u)

        next : Stand (suc i) (record { marks = set_mark k x.marks; follow = z })
        unfolding set_mark
        next = record {
          good = goes.good;
          logged = subst (λ (m : List ℕ). Logged ws log m z.place.at z.noted) (sym after) (Logged.one st.logged is_known fresh_variable boundary_there follow_next);
          state = subst (λ (m : List ℕ). SameState (plan_of ws ends) (state_of z.noted) (note_all (plan_of ws ends) m)) (sym after) state_next;
          down = goes.down;
          far = ⊎_elim (λ (a : i ≤ at). inl (omega (arith, goes.up))) (λ (a : used ≤ at). absurd (omega arith)) st.far;
          distinct = subst OneEach (sym after) (one fresh_variable st.distinct);
          knows = subst (AllKnown ws) (sym after) (AllKnown.one is_known st.knows);
          room = pick_ind (λ (m : List ℕ). length m ≡ 2176) (ltb k 2176) _ _ (λ _. length-set x.marks k 1 ∙ st.room) (λ _. st.room);
          free = λ j a b. subst (λ (m : List ℕ). has_variable (variable_at ws j) m ≡ false) (sym after) (free_next j a b);
        }

    past : used ≤ at → Stand (suc i) x
    past h = record {
      good = st.good;
      logged = st.logged;
      state = st.state;
      down = st.down;
      far = inr h;
      distinct = st.distinct;
      knows = st.knows;
      room = st.room;
      free = st.free;
    }

  abbrev If : ℕ → Replayed → Type 0
  If i x = x.follow.place.ok ≡ true → Stand i x

  level : (i : ℕ) (x : Replayed) → If i x → If (suc i) (replay_level ws log used x)
  unfolding replay_level
  level i x f =
      pick_ind (If (suc i)) (x.follow.place.ok && ltb x.follow.place.at used) _ _
      (λ t. let ok = and_left _ _ t in
      let h = ltb-true x.follow.place.at used (and_right x.follow.place.ok _ t) in
      pick_ind (If (suc i)) (opens ws x.marks log x.follow.place.at) _ _ (λ o q. next i x (f ok) h o q) (λ _ q. absurd (false≢true q)))
      (λ t ok. past i x (f ok) (ltb-false x.follow.place.at used (rest _ _ ok t)))
    where
      rest : (a b : Bool) → a ≡ true → (a && b) ≡ false → b ≡ false
      rest true b e g = g
      rest false b e g = absurd (false≢true e)

  start : Stand 0 (replayed (replicate 2176 0) (fresh ws (replicate 384 0)) (place true 0))
  unfolding records_of standing note_all has_variable
  start = record {
    good = zeros_good ws ends p;
    logged = Logged.none;
    state = fresh_agrees ws (replicate 384 0) (zeros_length 384) ends p;
    down = omega arith;
    far = inl (omega arith);
    distinct = none;
    knows = AllKnown.none;
    room = zeros_length 2176;
    free = λ k h m. refl;
  }

  pub record Stands (noted : List ℕ) : Type 0 where
    pub distinct : OneEach (ls used)
    pub known : AllKnown ws (ls used)
    pub state : SameState (plan_of ws ends) (state_of noted) (note_all (plan_of ws ends) (ls used))
    pub logged : Logged ws log (ls used) used noted

  afresh_stands : (afresh ws log used).follow.place.ok ≡ true → Stands (afresh ws log used).follow.noted
  unfolding afresh replay
  afresh_stands ok =
      let st = iter_ind If (λ _ y. replay_level ws log used y) (replayed (replicate 2176 0) (fresh ws (replicate 384 0)) (place true 0)) used (λ _. start) (λ i x h f. level i x f) ok in
      let x = iter (λ _ y. replay_level ws log used y) used (replayed (replicate 2176 0) (fresh ws (replicate 384 0)) (place true 0)) in
      let e : x.follow.place.at ≡ used = ⊎_elim (λ (a : used ≤ x.follow.place.at). omega (arith, st.down)) (λ (a : used ≤ x.follow.place.at). omega (arith, st.down)) st.far in
      record {
        distinct = subst (λ (n : ℕ). OneEach (ls n)) e st.distinct;
        known = subst (λ (n : ℕ). AllKnown ws (ls n)) e st.knows;
        state = subst (λ (n : ℕ). SameState (plan_of ws ends) (state_of x.follow.noted) (note_all (plan_of ws ends) (ls n))) e st.state;
        logged = subst (λ (n : ℕ). Logged ws log (ls n) n x.follow.noted) e st.logged;
      }

  -- words that do not differ stand for one state
  same_words : (a b : List ℕ) → noted_differs ws a b ≡ false → SameState (plan_of ws ends) (state_of b) (state_of a)
  unfolding noted_differs
  same_words a b e =
      let (d, f) = or_none (some (edge_differs a b) (edges_of ws)) (some (vertex_differs a b) (vertices_of ws)) e in
      record {
        edge = λ g h. state_word b g (omega (arith, p.fine.fits)) ∙ sym (same_edge a b g (some_none (edge_differs a b) (edges_of ws) d g h)) ∙ sym (state_word a g (omega (arith, p.fine.fits)));
        lower = λ v h. sym (same_vertex a b v (some_none (vertex_differs a b) (vertices_of ws) f v h)).0;
        upper = λ v h. sym (same_vertex a b v (some_none (vertex_differs a b) (vertices_of ws) f v h)).1;
        lower_lit = λ v h. ap lits_of (sym (same_vertex a b v (some_none (vertex_differs a b) (vertices_of ws) f v h)).2);
        upper_lit = λ v h. ap lits_of (sym (same_vertex a b v (some_none (vertex_differs a b) (vertices_of ws) f v h)).3);
      }

-- Refusal 7's last part leaves a log whose literals are the plan's, no two of one variable; edge states, bounds and their
-- literals are what the standing literals give; and the cursor counts them.
module _ (ws : List ℕ) (ends : List (List ℕ)) (p : ProperWords ws ends) (noted log : List ℕ) (c : Cursor) (e : log_bad ws noted log c ≡ false) where
  abbrev now : List ℕ
  now = standing (records_of log c.used)

  pub parts : (c.used ≤ length log) × (length now ≡ c.standing) × ((afresh ws log c.used).follow.place.ok ≡ true) × (noted_differs ws (afresh ws log c.used).follow.noted noted ≡ false)
  unfolding log_bad
  parts =
      let (a, e₁) = or_none (ltb (length log) c.used) _ e in
      let (b, e₂) = or_none (not (eqb (length now) c.standing)) _ e₁ in
      let (d, f) = or_none (not (afresh ws log c.used).follow.place.ok) _ e₂ in
      (ltb-false (length log) c.used a, eqb-true _ _ (not_false _ b), not_false _ d, f)

  pub log_fits : c.used ≤ length log
  log_fits = parts.0

  pub counts : length now ≡ c.standing
  counts = parts.1

  pub replayed_stands : Stands ws ends p log c.used (afresh ws log c.used).follow.noted
  replayed_stands = afresh_stands ws ends p log c.used parts.2

  -- the log is one that noting gives
  pub passed_logged : Logged ws log now c.used (afresh ws log c.used).follow.noted
  passed_logged = replayed_stands.logged

  -- no two standing literals are of one variable, so never both signs
  pub standing_distinct : OneEach now
  standing_distinct = replayed_stands.distinct

  pub standing_known : AllKnown ws now
  standing_known = replayed_stands.known

  -- each edge state, bound and bound literal is what the standing literals give
  pub state_stands : SameState (plan_of ws ends) (state_of noted) (note_all (plan_of ws ends) now)
  state_stands = same_trans (plan_of ws ends) _ _ _ (same_words ws ends p log c.used (afresh ws log c.used).follow.noted noted parts.3) replayed_stands.state

  -- so the abstract state is the noted one
  pub standing_noted : Noted (plan_of ws ends) (In now) (note_all (plan_of ws ends) now)
  standing_noted = noted_all (plan_of ws ends) now (never_both now standing_distinct)
