-- Refusal 7's last part as document 01 words it: what `log_bad` lets pass is exactly what noting the log's literals afresh gives, in the very
-- log that is lent.
--     as_noted      it passes exactly if log, cursor, gates and bounds are what noting the log's literals gives
--     any_noted     what noting any literals gives passes, and these are the log's literals
use mathlib.Core.Path.{◌≡◌, refl, sym, ap, ap₂, subst, ◌∙◌}
use mathlib.Core.Logic.{◌↔◌}
use mathlib.Core.Bool.{true, false, not}
use mathlib.Core.List.{List, [], ◌∷◌}
use Prim.Native.Nat.{ℕ, ◌+◌, ◌-◌, ◌/◌, ◌≤◌, ◌<◌}
use native.Mathlib.Omega.{arith}
use lib.ListN.{length, get_or, replicate}
use borrow.Author.Tests.{lt-ltb, eq-eqb}
use Rattle.base.specs.Lists.{some}
use Rattle.base.proofs.Loop.{pick_yes}
use Rattle.base.proofs.Tests.{or_none, or_both}
use Rattle.base.proofs.Some.{some_none, some_all}
use Rattle.undo_log.specs.declared.Cursor.{Cursor}
use Rattle.undo_log.specs.Log.{word_of, push_words}
use Rattle.plan.specs.Words.{vertices_of, edges_of, start_at, occurrence_at}
use Rattle.plan.specs.Proper.{ProperWords}
use Rattle.noting.specs.Words.{edge_state_of, lower_of, upper_of, lower_lit_of, upper_lit_of}
use Rattle.noting.specs.Note.{Noting, noting, boundary, one_more, level_pushed, place_in, known, note_at, note, cursor_at}
use Rattle.noting.specs.Undo.{records_of}
use Rattle.noting.specs.Standing.{standing, has_variable, standing_of, OneEach, AllKnown}
use Rattle.noting.specs.Replay.{Followed, followed, place, follow_at, edge_differs, vertex_differs, noted_differs, afresh, log_bad}
use Rattle.noting.specs.Buffers.{log_short}
use Rattle.noting.proofs.UndoNote.{push_moves}
use Rattle.noting.specs.Logged.{Logged}
use Rattle.noting.proofs.Logged.{one_on, logged_length, logged_good, zeros_length}
use Rattle.noting.proofs.Appending.{push_held, loop_over}
use Rattle.noting.proofs.Passing.{logged_passes}
use Rattle.noting.proofs.Differs.{same_edge, same_vertex}
use Rattle.noting.proofs.Alike.{same_alike, alike_same, alike_trans}
use Rattle.noting.proofs.Replaying.{parts, counts, log_fits, passed_logged, standing_distinct, standing_known}
use Rattle.noting.specs.Good.{GoodLog}
use Rattle.noting.proofs.Valid.{fresh_valid, note_valid}
use Rattle.as_noted.specs.AsNoted.{literals_in, noted_afresh, Notable, none, one, SameNoted, AsNoted}

-- ---- noted alike, by the test and as stated
noted_same : (ws a b : List ℕ) → noted_differs ws a b ≡ false → SameNoted ws a b
unfolding noted_differs
noted_same ws a b e =
    let (d, f) = or_none (some (edge_differs a b) (edges_of ws)) (some (vertex_differs a b) (vertices_of ws)) e in
    let at : (v : ℕ) → v < vertices_of ws → vertex_differs a b v ≡ false = λ v h. some_none (vertex_differs a b) (vertices_of ws) f v h in
    record {
      edges = λ g h. same_edge a b g (some_none (edge_differs a b) (edges_of ws) d g h);
      lower = λ v h. (same_vertex a b v (at v h)).0;
      upper = λ v h. (same_vertex a b v (at v h)).1;
      lower_lit = λ v h. (same_vertex a b v (at v h)).2;
      upper_lit = λ v h. (same_vertex a b v (at v h)).3;
    }

same_noted : (ws a b : List ℕ) → SameNoted ws a b → noted_differs ws a b ≡ false
unfolding noted_differs edge_differs vertex_differs
same_noted ws a b s = or_both
    (some_all (edge_differs a b) (edges_of ws) (λ g h. ap not (eq-eqb (edge_state_of a g) (edge_state_of b g) (s.edges g h))))
    (some_all (vertex_differs a b) (vertices_of ws) (λ v h.
    or_both (ap not (eq-eqb (lower_of a v) (lower_of b v) (s.lower v h)))
    (or_both (ap not (eq-eqb (upper_of a v) (upper_of b v) (s.upper v h)))
    (or_both (ap not (eq-eqb (lower_lit_of a v) (lower_lit_of b v) (s.lower_lit v h)))
    (ap not (eq-eqb (upper_lit_of a v) (upper_lit_of b v) (s.upper_lit v h)))))))

-- ---- literals that could be notified
notable : (ws : List ℕ) {ls : List ℕ} → AllKnown ws ls → OneEach ls → Notable ws ls
notable ws AllKnown.none OneEach.none = none
notable ws (AllKnown.one k ks) (OneEach.one n ns) = one k n (notable ws ks ns)

level_is : (l : ℕ) (noted log : List ℕ) (c : Cursor) → c.used < length log → c.standing ≤ c.used →
    level_pushed l (noting noted log c) ≡ noting noted (push_words log c (boundary l)) (cursor_at (c.used + 1) (c.standing + 1))
unfolding level_pushed one_more
level_is l noted log c h n =
    ap (λ (d : Cursor). noting noted (push_words log c (boundary l)) (one_more log d)) (push_moves log c (boundary l) h)
    ∙ ap (λ (m : ℕ). noting noted (push_words log c (boundary l)) (cursor_at (c.used + 1) m))
    (pick_yes (c.standing + 1) c.standing (lt-ltb c.standing (length log) (omega arith)))

module _ (ws : List ℕ) (ends : List (List ℕ)) (p : ProperWords ws ends) where
  -- noting a literal whose records stand in the log already
  note_over : (log : List ℕ) (l at to n : ℕ) (noted after : List ℕ) → known ws (l / 2) ≡ true → n ≤ at → to ≤ length log →
      get_or log at 0 ≡ word_of (boundary l) →
      follow_at ws log to l (place_in ws (l / 2)) (followed noted (place true (at + 1))) ≡ followed after (place true to) →
      note ws l (noting noted log (cursor_at at n)) ≡ noting after log (cursor_at to (n + 1))
  unfolding note note_at follow_at
  note_over log l at to n noted after k h fits b f =
      let (a, _) = one_on ws log l at to noted after f in
      let j = place_in ws (l / 2) in
      pick_yes _ _ k
      ∙ ap (note_at ws l j) (level_is l noted log (cursor_at at n) (omega arith) h
      ∙ ap (λ (m : List ℕ). noting noted m (cursor_at (at + 1) (n + 1))) (push_held log (cursor_at at n) (boundary l) (omega arith) b))
      ∙ loop_over ws log to l fits (n + 1) (λ i. occurrence_at ws (start_at ws j + i)) (start_at ws (j + 1) - start_at ws j)
      (followed noted (place true (at + 1))) (ap (λ (z : Followed). z.place.ok) f)
      ∙ ap (λ (z : Followed). noting z.noted log (cursor_at z.place.at (n + 1))) f

  -- what is followed to its end is what noting gives
  logged_noted : (log : List ℕ) {ls : List ℕ} {at : ℕ} {noted : List ℕ} → Logged ws log ls at noted → at ≤ length log →
      noted_afresh ws log ls ≡ noting noted log (cursor_at at (length ls))
  unfolding noted_afresh
  logged_noted log Logged.none h = refl
  logged_noted log (Logged.one {ls = ls} {at = at} {noted = noted} {l = l} {to = to} {after = after} x k n b f) h =
      let (a, _) = one_on ws log l at to noted after f in
      ap (note ws l) (logged_noted log x (omega arith))
      ∙ note_over log l at to (length ls) noted after k (logged_length ws log x) h b f
      ∙ ap (λ (m : ℕ). noting after log (cursor_at to m)) one_more_lem
    where
      one_more_lem : length ls + 1 ≡ length (l ∷ ls)
      one_more_lem = omega arith

  -- what noting gives passes, and its literals stand
  afresh_valid : (log : List ℕ) → log_short ws (length log) ≡ false → {ls : List ℕ} → Notable ws ls →
      GoodLog ws (noted_afresh ws log ls) × (standing_of (noted_afresh ws log ls) ≡ ls)
  unfolding noted_afresh
  afresh_valid log long none = fresh_valid ws ends p (replicate 384 0) log (zeros_length 384) long
  afresh_valid log long (one {l = l} {ls = ls} k n ns) =
      let (v, s) = afresh_valid log long ns in
      let (u, t) = note_valid ws ends p (noted_afresh ws log ls) v l k (ap (has_variable (l / 2)) s ∙ n) in
      (u, t ∙ ap (λ (m : List ℕ). l ∷ m) s)

  -- of a log that is long enough
  module _ (noted log : List ℕ) (c : Cursor) (len : length noted ≡ 384) (long : log_short ws (length log) ≡ false) where
    passes_noted : log_bad ws noted log c ≡ false → AsNoted ws noted log c (literals_in log c)
    passes_noted e =
        let z = logged_noted log (passed_logged ws ends p noted log c e) (log_fits ws ends p noted log c e) in
        record {
          notable = notable ws (standing_known ws ends p noted log c e) (standing_distinct ws ends p noted log c e);
          fits = log_fits ws ends p noted log c e;
          same_log = ap (λ (x : Noting). x.log) z;
          same_cursor = ap (λ (x : Noting). x.cursor) z ∙ ap (cursor_at c.used) (counts ws ends p noted log c e);
          same_noted = noted_same ws _ noted (ap (λ (x : Noting). noted_differs ws x.noted noted) z ∙ (parts ws ends p noted log c e).3);
        }

    noted_passes : (ls : List ℕ) → AsNoted ws noted log c ls → log_bad ws noted log c ≡ false
    noted_passes ls a =
        let y = noted_afresh ws log ls in
        let (v, s) = afresh_valid log long a.notable in
        let e : log_bad ws y.noted log c ≡ false =
        sym (ap₂ (λ (m : List ℕ) (d : Cursor). log_bad ws y.noted m d) a.same_log a.same_cursor) ∙ v.passes in
        let x = passed_logged ws ends p y.noted log c e in
        let m = (afresh ws log c.used).follow.noted in
        let g = (logged_good ws ends p log x).0 in
        let q = alike_trans ws m y.noted noted
        (same_alike ws ends p m y.noted (g.len ∙ sym v.words) (parts ws ends p y.noted log c e).3)
        (same_alike ws ends p y.noted noted (v.words ∙ sym len) (same_noted ws y.noted noted a.same_noted)) in
        logged_passes ws ends p log noted c x a.fits (counts ws ends p y.noted log c e) (alike_same ws ends p m noted q)

    -- the literals are the log's
    noted_literals : (ls : List ℕ) → AsNoted ws noted log c ls → ls ≡ literals_in log c
    noted_literals ls a =
        sym (afresh_valid log long a.notable).1
        ∙ ap₂ (λ (m : List ℕ) (d : Cursor). literals_in m d) a.same_log a.same_cursor

    pub any_noted : (ls : List ℕ) → AsNoted ws noted log c ls → (log_bad ws noted log c ≡ false) × (ls ≡ literals_in log c)
    any_noted ls a = (noted_passes ls a, noted_literals ls a)

    pub as_noted : (log_bad ws noted log c ≡ false) ↔ AsNoted ws noted log c (literals_in log c)
    as_noted = (passes_noted, noted_passes (literals_in log c))
