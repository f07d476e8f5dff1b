-- The bytes of a whole session are those of the lines of crate calls, from the plan that is built. So what is shown of the latter is shown of the
-- program.
use mathlib.Core.Path.{◌≡◌, refl, sym, ap, subst, ◌∙◌}
use mathlib.Core.Bool.{Bool, true, false, not}
use mathlib.Core.List.{List, [], ◌∷◌, ◌++◌, append_assoc, append-nil}
use Prim.Native.Nat.{ℕ, suc}
use native.Mathlib.Omega.{arith}
use lib.Dec.{eqb}
use borrow.Author.Tests.{ne_eqb}
use lib.IntN.{ℤ, pos}
use lib.ListN.{length, drop, set, length-replicate, length-set}
use Rattle.std.specs.Prelude.{Option, None}
use Rattle.base.specs.declared.refusal.Refusal.{Refusal}
use Rattle.base.specs.Refusal.{number_or_0}
use Rattle.base.specs.Iter.{pick}
use Rattle.base.specs.Range.{in_range}
use Rattle.base.proofs.Loop.{pick_yes, pick_no, tested}
use Rattle.division.specs.Plan.{Plan}
use Rattle.refusals.specs.Calls.{lit_given}
use Rattle.calls.specs.Calls as calls
use Rattle.calls.specs.Lines as lines
use Rattle.calls.specs.Claim.{a_query}
use Rattle.calls.proofs.Stands.{quiet_same}
use Rattle.text.specs.declared.Line.{Line}
use Rattle.text.specs.declared.Line.TheVariants.{O, P, G, «V», I, N, U, R, RLast, Malformed}
use Rattle.graph_division.specs.New.{built}
use Rattle.simulation.specs.Start.{state_plan}
use Rattle.simulation.proofs.Running.{fresh_represents}
use Rattle.claims.proofs.Replying.{At}
use Rattle.text.specs.Fields.{lines_of}
use Rattle.text.specs.Lines.{read_line}
use Rattle.text.specs.Input.{well_formed}
use Rattle.text_writer.specs.Written.{answer_line}
use Rattle.plan_lines.specs.Lines.{Reading, taken_lines}
use Rattle.desk.specs.declared.start.Started.{Started}
use Rattle.desk.specs.Start.{no_vertices, no_edges, built_of, started_by, malformed, started}
use Rattle.desk.specs.Session.{at_first, spoken, session}
use Rattle.desk.specs.Obey.{Desk, desk, Turn, turn, valued, notified, obeyed}
use Rattle.sessions.specs.Follow.{bytes_of, said, follow, follow_all, begin}
use Rattle.sessions.proofs.DeskLines.{kept_of, Stands, Turns, init_turns, told_turns, undo_turns, why_bytes_are, last_bytes_are}

module _ (d : Plan) where
  pub record Speaks (t : Turn) (a b : lines.Desk) : Type 0 where
    pub stands : Stands d t.desk b
    pub says : said b.printed ≡ said a.printed ++ t.bytes

  from_turns : {t : Turn} {a b : lines.Desk} → Turns d t a b → Speaks t a b
  unfolding said
  from_turns {t} {a} x = record { stands = x.stands; says = ap said x.printed ∙ ap (λ (m : List ℕ). said a.printed ++ m) (sym x.bytes) }

  still : (x : Desk) (a : lines.Desk) → Stands d x a → Speaks (turn x []) a a
  still x a s = record { stands = s; says = sym (append-nil (said a.printed)) }

  module _ (x : Desk) (a : lines.Desk) (s : Stands d x a) where
    value_speaks : (v c : ℕ) → Speaks (valued x v c) a (lines.obey d (lines.value v c) a)
    unfolding valued lines.obey
    value_speaks v c = record {
      stands = record { at = s.at; table = ap (λ (t : List ℕ). set t v c) s.table; size = length-set x.table v c ∙ s.size; long = s.long };
      says = sym (append-nil (said a.printed));
    }

    told_speaks : (lit p : ℤ) → Speaks (notified x lit p) a (lines.obey d (pick (in_range (pos 0) p) (lines.told (lit_given lit)) (lines.only (lit_given lit))) a)
    unfolding lines.obey
    told_speaks lit p = tested (in_range (pos 0) p)
        (λ e. subst (λ (l : lines.Line). Speaks (notified x lit p) a (lines.obey d l a)) (sym (pick_yes _ _ e))
        (subst (λ (b : Bool). Speaks (notified x lit p) a (lines.notified d (lit_given lit) b a)) (ap not e) (from_turns (told_turns d x a s lit p))))
        (λ e. subst (λ (l : lines.Line). Speaks (notified x lit p) a (lines.obey d l a)) (sym (pick_no _ _ e))
        (subst (λ (b : Bool). Speaks (notified x lit p) a (lines.notified d (lit_given lit) b a)) (ap not e) (from_turns (told_turns d x a s lit p))))

    -- a fetch leaves the world
    asked : (o : calls.Outcome) → o.world ≡ a.world → (bytes : List ℕ) → bytes ≡ bytes_of (lines.print o.answer o.handed) → Speaks (turn x bytes) a (lines.printing o a.table a)
    unfolding lines.printing said
    asked o e bytes f = record {
      stands = record { at = subst (At d (kept_of x)) (sym e) s.at; table = s.table; size = s.size; long = s.long };
      says = ap (λ (m : List ℕ). said a.printed ++ m) (sym f);
    }

    pub line_speaks : (l : Line) → Speaks (obeyed l x) a (follow d l a)
    unfolding obeyed follow lines.obey
    line_speaks («V» v c) = value_speaks v c
    line_speaks I = from_turns (init_turns d x a s)
    line_speaks (N lit p) = told_speaks lit p
    line_speaks (U lit) = from_turns (undo_turns d x a s lit)
    line_speaks (R lit) = asked _ (quiet_same d a.world (a_query true (calls.reason_for (lit_given lit)))) _ (why_bytes_are d x a s lit)
    line_speaks RLast = asked _ (quiet_same d a.world (a_query true calls.last_left)) _ (last_bytes_are d x a s)
    line_speaks (O b e) = still x a s
    line_speaks (P w k n) = still x a s
    line_speaks (G u v l) = still x a s
    line_speaks Malformed = still x a s

  -- any list of lines
  pub all_speak : (ls : List (List ℕ)) (x : Desk) (a : lines.Desk) → Stands d x a → said (follow_all d ls a).printed ≡ said a.printed ++ spoken ls x
  unfolding follow_all spoken
  all_speak [] x a s = sym (append-nil (said a.printed))
  all_speak (l ∷ ls) x a s =
      let y = line_speaks x a s (read_line l) in
      let t = obeyed (read_line l) x in
      all_speak ls t.desk (follow d (read_line l) a) y.stands
      ∙ ap (λ (m : List ℕ). m ++ spoken ls t.desk) y.says
      ∙ append_assoc (said a.printed) t.bytes (spoken ls t.desk)

-- from a plan that is built
module _ (vs : List ℤ) (n : ℕ) (es : List ℤ) (m : ℕ) (p e : Bool) (z : (built vs n es m p e).refusal ≡ None) where
  abbrev plan : Plan
  plan = state_plan (built vs n es m p e).state

  first_stands : Stands plan (at_first (built vs n es m p e).state) begin
  unfolding at_first
  first_stands = record {
    at = record { represents = fresh_represents vs n es m p e z; plan = refl };
    table = refl;
    size = length-replicate {A = ℕ} 4096 0;
    long = length-replicate {A = ℕ} 4352 0;
  }

  pub lines_spoken : (ls : List (List ℕ)) → spoken ls (at_first (built vs n es m p e).state) ≡ said (follow_all plan ls begin).printed
  unfolding said
  lines_spoken ls = sym (all_speak plan ls (at_first (built vs n es m p e).state) begin first_stands)

-- ---- the whole program
never : (k : ℕ) → eqb (suc k) 0 ≡ false
never k = ne_eqb (suc k) 0 (λ (e : suc k ≡ 0). omega arith)

pub malformed_session : (input : List ℕ) → well_formed input ≡ false → session input ≡ answer_line 69 (17 ∷ [])
unfolding session started malformed pick
malformed_session input e = ap (λ (b : Bool). let s = pick b (started_by input) (malformed (length input)) in pick (eqb (number_or_0 s.refusal) 0) (spoken (lines_of (drop s.calls_at input)) (at_first s.state)) (answer_line 69 (number_or_0 s.refusal ∷ []))) e

module _ (input : List ℕ) (r : Reading) (wf : well_formed input ≡ true) (t : taken_lines input no_vertices no_edges ≡ r) where
  whole : session input ≡
      pick (eqb (number_or_0 (built_of r).refusal) 0) (spoken (lines_of (drop r.at input)) (at_first (built_of r).state)) (answer_line 69 (number_or_0 (built_of r).refusal ∷ []))
  unfolding session started started_by
  whole =
      ap (λ (b : Bool). let s = pick b (started_by input) (malformed (length input)) in pick (eqb (number_or_0 s.refusal) 0) (spoken (lines_of (drop s.calls_at input)) (at_first s.state)) (answer_line 69 (number_or_0 s.refusal ∷ []))) wf
      ∙ ap (λ (s : Started). pick (eqb (number_or_0 s.refusal) 0) (spoken (lines_of (drop s.calls_at input)) (at_first s.state)) (answer_line 69 (number_or_0 s.refusal ∷ []))) (pick_yes (started_by input) (malformed (length input)) refl)
      ∙ ap (λ (y : Reading). pick (eqb (number_or_0 (built_of y).refusal) 0) (spoken (lines_of (drop y.at input)) (at_first (built_of y).state)) (answer_line 69 (number_or_0 (built_of y).refusal ∷ []))) t

  -- a plan that is refused
  pub refused_session : (k : ℕ) → number_or_0 (built_of r).refusal ≡ suc k → session input ≡ answer_line 69 (suc k ∷ [])
  refused_session k e = whole ∙ pick_no _ _ (ap (λ (n : ℕ). eqb n 0) e ∙ never k) ∙ ap (λ (n : ℕ). answer_line 69 (n ∷ [])) e

  -- and one that is built
  pub built_session : (built_of r).refusal ≡ None →
      session input ≡ said (follow_all (state_plan (built_of r).state) (lines_of (drop r.at input)) begin).printed
  unfolding built_of
  built_session e =
      let c = r.draft.counts in
      whole ∙ pick_yes _ _ (ap (λ (o : Option Refusal). eqb (number_or_0 o) 0) e) ∙ lines_spoken r.draft.vertices c.vertices r.draft.edges c.edges c.same_size c.extra_walls e (lines_of (drop r.at input))
