-- What a call has tested before it notes a literal is what noting wants: refusals 7, 9 and 10.
use mathlib.Core.Path.{◌≡◌, refl, sym, ap, subst, ◌∙◌}
use mathlib.Core.Logic.{⊎_elim}
use mathlib.Core.Bool.{true, false}
use mathlib.Core.List.{List}
use Prim.Native.Nat.{ℕ, ◌+◌, ◌-◌, ◌/◌, ◌≤◌, ◌<◌}
use native.Mathlib.Omega.{arith}
use lib.ListN.{length, get_or}
use borrow.Author.Tests.{le-ltb, ltb-true, eqb-true}
use Rattle.base.specs.Lists.{some}
use Rattle.base.proofs.Loop.{pick_no, eq_or_not}
use Rattle.base.proofs.Tests.{and_left, and_right, or_none}
use Rattle.base.proofs.Some.{some_none}
use Rattle.sat.specs.Literal.{negate}
use Rattle.undo_log.specs.declared.Cursor.{Cursor}
use Rattle.plan.specs.Words.{vertices_of, edges_of, edge_lit_of, lit_of}
use Rattle.plan.specs.Plan.{plan_of}
use Rattle.plan.specs.Check.{used_slot}
use Rattle.plan.specs.Proper.{ProperWords}
use Rattle.division.specs.Noting.{note_all, In}
use Rattle.division.specs.Noted.{Noted}
use Rattle.noting.specs.Words.{edge_state_of}
use Rattle.noting.specs.Note.{noting, known, is_of}
use Rattle.noting.specs.Undo.{records_of}
use Rattle.noting.specs.Standing.{standing, has_variable}
use Rattle.noting.specs.Replay.{edge_differs, vertex_differs, noted_differs, afresh, log_bad}
use Rattle.noting.specs.Buffers.{log_short}
use Rattle.noting.specs.Ready.{BoundsFit, Ready}
use Rattle.noting.proofs.After.{sizes_fit}
use Rattle.noting.proofs.Vertex.{negate_other}
use Rattle.noting.proofs.Noted.{edge_lit}
use Rattle.noting.proofs.Logged.{known_small, logged_good, logged_length}
use Rattle.noting.proofs.Differs.{state_word, same_vertex}
use Rattle.noting.proofs.Distinct.{member_variable}
use Rattle.noting.proofs.Replaying.{parts, counts, passed_logged, state_stands, standing_noted}
use Rattle.noting.proofs.Room.{room}

module _ (ws : List ℕ) (ends : List (List ℕ)) (p : ProperWords ws ends) (noted log : List ℕ) (c : Cursor) (e : log_bad ws noted log c ≡ false) where
  abbrev now : List ℕ
  now = standing (records_of log c.used)

  -- the words noted afresh
  abbrev again : List ℕ
  again = (afresh ws log c.used).follow.noted

  -- an edge is undecided where no literal of its variable stands
  pub edge_undecided : (x g : ℕ) → g < edges_of ws → edge_lit_of ws g / 2 ≡ x → has_variable x now ≡ false → edge_state_of noted g ≡ 0
  edge_undecided x g h v n =
      sym (state_word noted g (omega (arith, p.fine.fits))) ∙ (state_stands ws ends p noted log c e).edge g h
      ∙ none (get_or (note_all (plan_of ws ends) now).edge_state g 0) (w.known g h)
      (λ q. member_variable x (edge_lit_of ws g) now ((w.disconnected g h).0 q) v n)
      (λ q. member_variable x (negate (edge_lit_of ws g)) now ((w.connected g h).0 q) (sym (negate_other (edge_lit_of ws g) (negate (edge_lit_of ws g)) refl).1 ∙ v) n)
    where
      w : Noted (plan_of ws ends) (In now) (note_all (plan_of ws ends) now)
      w = standing_noted ws ends p noted log c e

      none : (s : ℕ) → s ≤ 2 → (s ≡ 1 → ⊥) → (s ≡ 2 → ⊥) → s ≡ 0
      none s a f g = ⊎_elim (λ (q : s ≡ 1). absurd (f q)) (λ (q : s ≡ 1 → ⊥). ⊎_elim (λ (r : s ≡ 2). absurd (g r)) (λ (r : s ≡ 2 → ⊥). zero_left s a q r) (eq_or_not s 2)) (eq_or_not s 1)
        where
          zero_left : (s : ℕ) → s ≤ 2 → (s ≡ 1 → ⊥) → (s ≡ 2 → ⊥) → s ≡ 0
          zero_left s a q r = ⊎_elim (λ (z : s ≡ 0). z) (λ (z : s ≡ 0 → ⊥). absurd (r (omega arith))) (eq_or_not s 0)

  slot_undecided : (x s : ℕ) → is_of ws x s ≡ true → 2048 ≤ s → has_variable x now ≡ false → edge_state_of noted (s - 2048) ≡ 0
  unfolding is_of used_slot
  slot_undecided x s o h n =
      let g : s - 2048 < edges_of ws = ltb-true (s - 2048) (edges_of ws) (sym (pick_no _ _ (le-ltb s 2048 h)) ∙ and_left (used_slot ws s) _ o) in
      let b : 2048 + (s - 2048) ≡ s = omega arith in
      let v : edge_lit_of ws (s - 2048) / 2 ≡ x = ap (λ (m : ℕ). m / 2) (sym (edge_lit ws ends p 0 (omega arith) (s - 2048) g) ∙ ap (lit_of ws) b) ∙ eqb-true _ _ (and_right (used_slot ws s) _ o) in
      edge_undecided x (s - 2048) g v n

  -- the vertices' bounds and their literals are those of the replayed words
  bounds_fit : BoundsFit ws noted
  unfolding noted_differs
  bounds_fit =
      let (_, f) = or_none (some (edge_differs again noted) (edges_of ws)) (some (vertex_differs again noted) (vertices_of ws)) (parts ws ends p noted log c e).3 in
      let g = (logged_good ws ends p log (passed_logged ws ends p noted log c e)).0.bounds in
      record {
        lower = λ v h s. subst (λ (n : ℕ). n < 4294967296) (same_vertex again noted v (some_none _ (vertices_of ws) f v h)).0 (g.lower v h s);
        upper = λ v h s. subst (λ (n : ℕ). n < 4294967296) (same_vertex again noted v (some_none _ (vertices_of ws) f v h)).1 (g.upper v h s);
        lower_lit = λ v h s. subst (λ (n : ℕ). n < 65536) (same_vertex again noted v (some_none _ (vertices_of ws) f v h)).2 (g.lower_lit v h s);
        upper_lit = λ v h s. subst (λ (n : ℕ). n < 65536) (same_vertex again noted v (some_none _ (vertices_of ws) f v h)).3 (g.upper_lit v h s);
      }

  -- Where refusals 7, 9 and 10 do not apply, the literal can be noted, and undoing it gives everything back.
  pub ready : log_short ws (length log) ≡ false → (l : ℕ) → known ws (l / 2) ≡ true → has_variable (l / 2) now ≡ false → Ready ws l (noting noted log c)
  ready long l k n = record {
    lit = omega (arith, known_small ws ends p l k);
    sizes = sizes_fit ws ends p;
    bounds = bounds_fit;
    room = room ws ends p noted log c e long l k n;
    counted = omega (arith, counts ws ends p noted log c e, logged_length ws log (passed_logged ws ends p noted log c e));
    undecided = λ s o h. slot_undecided (l / 2) s o h n;
  }
