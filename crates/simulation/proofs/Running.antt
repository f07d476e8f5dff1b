-- The calls in their order, from a state that is built: each is the definition's call after the definition's calls before it.
use mathlib.Core.Path.{◌≡◌, refl, sym, ap, ap₂, subst, ◌∙◌}
use mathlib.Core.Bool.{Bool, true, false, not, ◌||◌}
use mathlib.Core.List.{List, [], ◌∷◌}
use Prim.Native.Nat.{ℕ, ◌*◌, ◌<◌, ◌≤◌, min}
use native.Mathlib.Omega.{arith}
use lib.IntN.{ℤ, pos}
use lib.Dec.{eqb}
use lib.ListN.{length, get_or, take, drop, length-take, length-append, take-append-drop, get_or-append, replicate, length-replicate}
use lib.Seq.{sets, take-append_seam}
use borrow.Author.Tests.{le-ltb}
use Rattle.std.specs.Prelude.{None}
use Rattle.base.specs.Iter.{pick}
use Rattle.base.specs.Range.{in_range}
use Rattle.base.proofs.Loop.{pick_yes, pick_no, tested}
use Rattle.edge_table.specs.declared.EdgeTable.{EdgeTable}
use Rattle.undo_log.specs.declared.Cursor.{Cursor}
use Rattle.division.specs.Plan.{Plan}
use Rattle.plan.specs.Check.{counts_bad}
use Rattle.plan.specs.Words.{slots_of}
use Rattle.plan.specs.Plan.{plan_of}
use Rattle.noting.specs.Replay.{log_bad}
use Rattle.noting.specs.Buffers.{table_bad, log_short, list_short, reason_short}
use Rattle.judge.proofs.Conflicts.{list_taken}
use Rattle.noting.proofs.Replaying.{log_fits}
use Rattle.noting.proofs.Preserved.{standing_other, passes_other}
use Rattle.calls.specs.Table.{bad_table}
use Rattle.calls.specs.Calls as calls
use Rattle.calls.specs.Calls.{World, answer_list}
use Rattle.calls.proofs.Marks.{call_marked}
use Rattle.refusals.specs.Refusals.{state_bad, table_state_bad, initialize_refusal, propagate_refusal, undo_refusal, fetch_refusal}
use Rattle.refusals.specs.Calls.{lit_given}
use Rattle.graph_division.specs.declared.GraphDivision.{GraphDivision}
use Rattle.graph_division.specs.declared.Outcome.{Outcome}
use Rattle.graph_division.specs.declared.Answer.TheVariants as answer
use Rattle.graph_division.specs.New.{built}
use Rattle.graph_division.specs.Calls.{Called, called, refuse, propagated, undone, Fetched, fetched}
use Rattle.graph_division.specs.Calls.{last_fetched, reason_fetched, run_fetched, page_fetched}
use Rattle.graph_division.specs.Initialize.{initialized}
use Rattle.graph_division.specs.Runs.{Query, reason_for, last_left, run_between, page, Request, initialize, propagate}
use Rattle.graph_division.specs.Runs.{undo, ask, table_of, lent_list, Kept, kept, log_for, Reply, replied, replied_called}
use Rattle.graph_division.specs.Runs.{replied_fetched, asked, reply, keeping, after, room_for, query_of, buffer_short}
use Rattle.graph_division.specs.Runs.{call_of, calls_of}
use Rattle.graph_division.specs.Outcomes.{answer_for, answer_of}
use Rattle.simulation.specs.Start.{state_plan, just_built}
use Rattle.simulation.specs.Represents.{Represents, Simulates, SimulatesCalled, SimulatesFetched, values_for, RepresentsKept, Replies, Leads}
use Rattle.simulation.proofs.Rooms.{state_room_lem, table_room_lem}
use Rattle.simulation.proofs.Undoing.{undo_simulated}
use Rattle.simulation.proofs.Propagating.{propagate_simulated}
use Rattle.simulation.proofs.Starting.{initialize_simulated}
use Rattle.simulation.proofs.Fetching.{asked_simulated}
use Rattle.simulation.proofs.Building.{new_represents}

or_true : (b : Bool) → (b || true) ≡ true
or_true true = refl
or_true false = refl

-- a call that is lent no table leaves none
no_table : (d : Plan) (w : World) (c : calls.Call) → calls.table_of c ≡ [] → (calls.call d c w).table ≡ []
no_table d w c e = empty (calls.call d c w).table ((call_marked d w c).long ∙ ap length e)
  where
    empty : (l : List ℕ) → length l ≡ 0 → l ≡ []
    empty [] z = refl
    empty (x ∷ l) z = absurd (omega arith)

module _ (k : Kept) (w : World) (r : RepresentsKept k w) where
  abbrev s : GraphDivision
  s = k.state

  -- what follows the records does not matter
  pub with_tail : (tail : List ℕ) → log_short s.plan (length (log_for k tail)) ≡ false → Represents s (log_for k tail) k.cursor w
  with_tail tail long =
      let q = r.represents in
      let same : (i : ℕ) → i < k.cursor.used → get_or (log_for k tail) i 0 ≡ get_or (log_for k r.rest) i 0 =
      λ i h. get_or-append k.records tail 0 i (omega (arith, r.used)) ∙ sym (get_or-append k.records r.rest 0 i (omega (arith, r.used))) in
      record {
        proper = q.proper;
        words = q.words;
        places = q.places;
        valid = record {
          words = q.valid.words;
          passes = passes_other s.plan s.edges.ends q.proper s.noted (log_for k r.rest) (log_for k tail) k.cursor (omega (arith, r.used, length-append k.records tail)) same q.valid.passes;
          long = long;
        };
        standing = q.standing ∙ sym (standing_other (log_for k r.rest) (log_for k tail) k.cursor.used same);
        reasons = q.reasons;
        within = q.within;
        room = q.room;
        fits = q.fits;
        last = q.last;
        done = q.done;
      }

-- what is kept after a call whose state, log and cursor stand for a world
keeps_represents : (s : GraphDivision) (log : List ℕ) (c : Cursor) (w : World) → Represents s log c w → RepresentsKept (kept s c (take c.used log)) w
keeps_represents s log c w r =
    let fit = log_fits s.plan s.edges.ends r.proper s.noted log c r.valid.passes in
    record {
      used = length-take c.used log ∙ min_is c.used (length log) fit;
      rest = drop c.used log;
      represents = subst (λ (m : List ℕ). Represents s m c w) (sym (take-append-drop c.used log)) r;
    }
  where
    min_is : (a b : ℕ) → a ≤ b → min a b ≡ a
    min_is a b h = omega arith

module _ (k : Kept) (w : World) (r : RepresentsKept k w) where
  abbrev d : Plan
  d = state_plan k.state

  -- what a refused call keeps is what was kept
  keeping_same : (tail : List ℕ) → kept k.state k.cursor (take k.cursor.used (log_for k tail)) ≡ k
  keeping_same tail = ap (λ (l : List ℕ). kept k.state k.cursor l) (ap (λ (n : ℕ). take n (log_for k tail)) (sym r.used) ∙ take-append_seam k.records tail)

  -- a call that is lent a log that is too short
  module _ (tail : List ℕ) (short : log_short k.state.plan (length (log_for k tail)) ≡ true) where
    bad : state_bad k.state.plan k.state.edges.ends k.state.noted (log_for k tail) k.cursor ≡ true
    unfolding state_bad
    bad = ap (λ (b : Bool). counts_bad k.state.plan || (b || log_bad k.state.plan k.state.noted (log_for k tail) k.cursor)) short ∙ or_true (counts_bad k.state.plan)

    no_room : (b : Bool) → room_for k.state.plan (length (log_for k tail)) b ≡ false
    unfolding room_for
    no_room b = ap (λ (x : Bool). not (x || b)) short

    refused_here : (q : Request) → values_for q (calls.refuse 7 w (table_of q)) ≡ [] → Replies k q (replied (refuse 7 k.state k.cursor) (table_of q) (lent_list q) (log_for k tail)) (calls.refuse 7 w (table_of q))
    unfolding replied refuse keeping calls.refuse answer_of answer_for
    refused_here q none = record {
      answer = refl;
      keeps = subst (λ (h : Kept). RepresentsKept h w) (sym (keeping_same tail)) r;
      plan = refl;
      edges = refl;
      table = refl;
      list = ap (sets (lent_list q) 0) (sym none);
      whole = subst (λ (l : List ℕ). take (length l) (lent_list q) ≡ l) (sym none) refl;
    }

    -- is refused, in the definition too
    turned_away : (q : Request) → values_for q (calls.refuse 7 w (table_of q)) ≡ [] → (y : Reply) → y ≡ replied (refuse 7 k.state k.cursor) (table_of q) (lent_list q) (log_for k tail) → (o : calls.Outcome) → o ≡ calls.refuse 7 w (table_of q) → Replies k q y o
    turned_away q none y e o f = subst (λ (z : Reply). Replies k q z o) (sym e) (subst (Replies k q (replied (refuse 7 k.state k.cursor) (table_of q) (lent_list q) (log_for k tail))) (sym f) (refused_here q none))

    seven : (n : ℕ) → n ≡ 7 → eqb n 0 ≡ false
    seven n e = ap (λ (m : ℕ). eqb m 0) e

    short_initialize : (t list : List ℕ) → Replies k (initialize t list tail) (reply k (initialize t list tail)) (calls.call d (call_of k (initialize t list tail)) w)
    unfolding reply call_of calls.call replied_called initialized initialize_refusal table_state_bad table_of lent_list values_for calls.on_initialize calls.refuse
    short_initialize t list =
        let n : initialize_refusal k.state.plan k.state.edges.ends k.state.noted t (length list) (log_for k tail) k.cursor k.state.initialized ≡ 7 = pick_yes _ _ (ap (λ (b : Bool). b || (list_short k.state.plan (length list) || table_bad k.state.plan t)) bad) in
        turned_away (initialize t list tail) refl _
        (ap replied_called (pick_no _ _ (seven _ n) ∙ ap (λ (m : ℕ). called (refuse m k.state k.cursor) t list (log_for k tail)) n)) _
        (pick_yes _ _ (ap (λ (b : Bool). not b || bad_table d t) (no_room (list_short k.state.plan (length list)))))

    short_propagate : (lit pending : ℤ) (t list : List ℕ) → Replies k (propagate lit pending t list tail) (reply k (propagate lit pending t list tail)) (calls.call d (call_of k (propagate lit pending t list tail)) w)
    unfolding reply call_of calls.call replied_called propagated propagate_refusal table_state_bad table_of lent_list values_for calls.on_propagate calls.refuse
    short_propagate lit pending t list =
        let n : propagate_refusal k.state.plan k.state.edges.ends k.state.noted t (length list) (log_for k tail) k.cursor lit ≡ 7 = pick_yes _ _ (ap (λ (b : Bool). b || (list_short k.state.plan (length list) || table_bad k.state.plan t)) bad) in
        turned_away (propagate lit pending t list tail) refl _
        (ap replied_called (pick_no _ _ (seven _ n) ∙ ap (λ (m : ℕ). called (refuse m k.state k.cursor) t list (log_for k tail)) n)) _
        (pick_yes _ _ (ap (λ (b : Bool). not b || bad_table d t) (no_room (list_short k.state.plan (length list)))))

    short_undo : (lit : ℤ) → Replies k (undo lit tail) (reply k (undo lit tail)) (calls.call d (call_of k (undo lit tail)) w)
    unfolding reply call_of calls.call undone undo_refusal table_of lent_list values_for calls.on_undo calls.refuse
    short_undo lit =
        let n : undo_refusal k.state.plan k.state.edges.ends k.state.noted (log_for k tail) k.cursor lit ≡ 7 = pick_yes _ _ bad in
        turned_away (undo lit tail) refl _
        (ap (λ (y : Outcome). replied y [] [] (log_for k tail)) (pick_no _ _ (seven _ n) ∙ ap (λ (m : ℕ). refuse m k.state k.cursor) n)) _
        (pick_yes _ _ (ap (λ (b : Bool). not (not b)) short))

    fetch_seven : (n : ℕ) → fetch_refusal k.state.plan k.state.edges.ends k.state.noted n (log_for k tail) k.cursor ≡ 7
    unfolding fetch_refusal
    fetch_seven n = pick_yes _ _ (ap (λ (b : Bool). b || reason_short k.state.plan n) bad)

    fetch_short : (b : List ℕ) (x : Fetched) →
        let n = fetch_refusal k.state.plan k.state.edges.ends k.state.noted (length b) (log_for k tail) k.cursor in
        pick (eqb n 0) x (fetched (answer.Refused n) b) ≡ fetched (answer.Refused 7) b
    fetch_short b x = let n = fetch_seven (length b) in pick_no _ _ (seven _ n) ∙ ap (λ (m : ℕ). fetched (answer.Refused m) b) n

    asked_short : (q : Query) (b : List ℕ) → asked k.state k.cursor (log_for k tail) q b ≡ fetched (answer.Refused 7) b
    unfolding asked reason_fetched last_fetched run_fetched page_fetched
    asked_short (reason_for lit) b = fetch_short b _
    asked_short last_left b = fetch_short b _
    asked_short (run_between from to) b = fetch_short b _
    asked_short page b = pick_yes _ _ bad

    short_ask : (q : Query) (b : List ℕ) → Replies k (ask q b tail) (reply k (ask q b tail)) (calls.call d (call_of k (ask q b tail)) w)
    unfolding reply call_of calls.call replied_fetched table_of lent_list values_for answer_list calls.on_ask calls.tell calls.refuse replied refuse
    short_ask q b =
        turned_away (ask q b tail) refl _ (ap (replied_fetched k (log_for k tail)) (asked_short q b)) _
        (ap (calls.tell w) (pick_yes _ _ (ap not (no_room (buffer_short q k.state.plan (length b))))))

  -- a call that is lent a log that is long enough is the definition's, by its own theorem
  module _ (tail : List ℕ) (long : log_short k.state.plan (length (log_for k tail)) ≡ false) where
    abbrev rep : Represents k.state (log_for k tail) k.cursor w
    rep = with_tail k w r tail long

    room_is : (b : Bool) → room_for k.state.plan (length (log_for k tail)) b ≡ not b
    unfolding room_for
    room_is b = ap (λ (x : Bool). not (x || b)) long

    by_called : (t list : List ℕ) (q : Request) (x : Called) (o : calls.Outcome) → lent_list q ≡ list → values_for q o ≡ o.handed → SimulatesCalled k.state list x o → Replies k q (replied_called x) o
    unfolding replied_called replied keeping
    by_called t list q x o e f h = record {
      answer = h.call.answer;
      keeps = keeps_represents x.outcome.state x.log x.outcome.cursor o.world h.call.represents;
      plan = h.call.plan;
      edges = h.call.edges;
      table = h.table;
      list = h.list ∙ ap₂ (λ (a b : List ℕ). sets a 0 b) (sym e) (sym f);
      whole = subst (λ (l : List ℕ). take (length l) x.list ≡ l) (sym f) (ap (take (length o.handed)) h.list ∙ list_taken o.handed list h.fits);
    }

    long_initialize : (t list : List ℕ) → Replies k (initialize t list tail) (reply k (initialize t list tail)) (calls.call d (call_of k (initialize t list tail)) w)
    unfolding reply call_of calls.call lent_list values_for
    long_initialize t list =
        by_called t list (initialize t list tail) _ _ refl refl
        (subst (λ (b : Bool). SimulatesCalled k.state list (initialized k.state k.cursor t (log_for k tail) list) (calls.on_initialize d w b t))
        (table_room_lem k.state (log_for k tail) k.cursor w rep (length list) ∙ sym (room_is (list_short k.state.plan (length list))))
        (initialize_simulated k.state (log_for k tail) k.cursor w rep t list))

    long_propagate : (lit pending : ℤ) (t list : List ℕ) → Replies k (propagate lit pending t list tail) (reply k (propagate lit pending t list tail)) (calls.call d (call_of k (propagate lit pending t list tail)) w)
    unfolding reply call_of calls.call lent_list values_for
    long_propagate lit pending t list =
        by_called t list (propagate lit pending t list tail) _ _ refl refl
        (subst (λ (b : Bool). SimulatesCalled k.state list (propagated k.state k.cursor lit pending t list (log_for k tail)) (calls.on_propagate d w b t (lit_given lit) (not (in_range (pos 0) pending))))
        (table_room_lem k.state (log_for k tail) k.cursor w rep (length list) ∙ sym (room_is (list_short k.state.plan (length list))))
        (propagate_simulated k.state (log_for k tail) k.cursor w rep lit t list pending))

    long_undo : (lit : ℤ) → Replies k (undo lit tail) (reply k (undo lit tail)) (calls.call d (call_of k (undo lit tail)) w)
    unfolding reply call_of calls.call calls.table_of lent_list values_for replied keeping
    long_undo lit =
        let h = subst (λ (b : Bool). Simulates k.state (undone k.state k.cursor lit (log_for k tail)) (log_for k tail) (calls.on_undo d w b (lit_given lit)))
        (state_room_lem k.state (log_for k tail) k.cursor w rep ∙ sym (ap not long)) (undo_simulated k.state (log_for k tail) k.cursor w rep lit) in
        record {
          answer = h.answer;
          keeps = keeps_represents _ (log_for k tail) _ _ h.represents;
          plan = h.plan;
          edges = h.edges;
          table = sym (no_table d w (calls.undo (not (log_short k.state.plan (length (log_for k tail)))) (lit_given lit)) refl);
          list = refl;
          whole = refl;
        }

    long_ask : (q : Query) (b : List ℕ) → Replies k (ask q b tail) (reply k (ask q b tail)) (calls.call d (call_of k (ask q b tail)) w)
    unfolding reply call_of calls.call calls.on_ask calls.tell lent_list values_for replied_fetched keeping
    long_ask q b =
        let h = subst (λ (x : Bool). SimulatesFetched k.state (log_for k tail) k.cursor b (asked k.state k.cursor (log_for k tail) q b) (calls.on_ask d w x (query_of q (length b))))
        (sym (room_is (buffer_short q k.state.plan (length b)))) (asked_simulated k.state (log_for k tail) k.cursor w rep b q) in
        record {
          answer = h.answer;
          keeps = keeps_represents k.state (log_for k tail) k.cursor w rep;
          plan = refl;
          edges = refl;
          table = refl;
          list = h.buffer;
          whole = h.whole;
        }

  -- the reply to any request is that of the definition's call
  pub reply_is : (q : Request) → Replies k q (reply k q) (calls.call (state_plan k.state) (call_of k q) w)
  reply_is (initialize t list tail) = tested (log_short k.state.plan (length (log_for k tail))) (λ e. short_initialize tail e t list) (λ e. long_initialize tail e t list)
  reply_is (propagate lit pending t list tail) = tested (log_short k.state.plan (length (log_for k tail))) (λ e. short_propagate tail e lit pending t list) (λ e. long_propagate tail e lit pending t list)
  reply_is (undo lit tail) = tested (log_short k.state.plan (length (log_for k tail))) (λ e. short_undo tail e lit) (λ e. long_undo tail e lit)
  reply_is (ask q b tail) = tested (log_short k.state.plan (length (log_for k tail))) (λ e. short_ask tail e q b) (λ e. long_ask tail e q b)

pub after_leads : (qs : List Request) (k : Kept) (w : World) → RepresentsKept k w → Leads k (after k qs) (calls.after (state_plan k.state) w (calls_of k qs))
unfolding after calls.after calls_of keeping
after_leads [] k w r = record { represents = r; plan = refl; edges = refl }
after_leads (q ∷ qs) k w r =
    let h = keeping (reply k q) in
    let a = reply_is k w r q in
    let v = (calls.call (state_plan k.state) (call_of k q) w).world in
    let i = after_leads qs h v a.keeps in
    let e : calls.after (state_plan h.state) v (calls_of h qs) ≡ calls.after (state_plan k.state) v (calls_of h qs) =
    ap₂ (λ (ws : List ℕ) (es : EdgeTable). calls.after (plan_of ws es.ends) v (calls_of h qs)) a.plan a.edges in
    record { represents = subst (RepresentsKept (after h qs)) e i.represents; plan = i.plan ∙ a.plan; edges = i.edges ∙ a.edges }

enough : (ws : List ℕ) → log_short ws (length (replicate {A = ℕ} (2 * slots_of ws) 0)) ≡ false
unfolding log_short
enough ws = le-ltb _ (2 * slots_of ws) (omega (arith, length-replicate {A = ℕ} (2 * slots_of ws) 0))

pub fresh_represents : (vs : List ℤ) (n : ℕ) (es : List ℤ) (m : ℕ) (a b : Bool) → (built vs n es m a b).refusal ≡ None → RepresentsKept (just_built (built vs n es m a b)) calls.built
fresh_represents vs n es m a b z =
    let ws = (built vs n es m a b).state.plan in
    record { used = refl; rest = replicate (2 * slots_of ws) 0; represents = new_represents vs n es m a b z _ (enough ws) }

-- after any list of calls on a state that is built, the world is that of the definition's run
pub run_represents : (vs : List ℤ) (n : ℕ) (es : List ℤ) (m : ℕ) (a b : Bool) → (built vs n es m a b).refusal ≡ None → (qs : List Request) →
    Leads (just_built (built vs n es m a b)) (after (just_built (built vs n es m a b)) qs) (calls.run (state_plan (built vs n es m a b).state) (calls_of (just_built (built vs n es m a b)) qs))
unfolding calls.run
run_represents vs n es m a b z qs = after_leads qs (just_built (built vs n es m a b)) calls.built (fresh_represents vs n es m a b z)
