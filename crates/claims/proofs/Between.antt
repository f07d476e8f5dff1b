-- Document 02, request 1, of the code.
use Prim.Native.Nat.{ℕ, ◌+◌, ◌*◌, ◌<◌, ◌≤◌}
use native.Mathlib.Omega.{arith}
use mathlib.Core.Path.{◌≡◌, refl, sym, ◌∙◌, ap, subst}
use mathlib.Core.Bool.{true, false, not, false≢true}
use mathlib.Core.List.{List, [], ◌∷◌}
use lib.Dec.{ltb}
use lib.IntN.{ℤ, pos, negsuc}
use lib.ListN.{length}
use lib.Seq.{sets}
use borrow.Author.Tests.{le-leb, ltb-true, ltb-false}
use Rattle.base.specs.Range.{in_range, to_nat}
use Rattle.base.proofs.Loop.{pick_yes, pick_no, tested}
use Rattle.base.proofs.Tests.{or_none}
use Rattle.plan.specs.Words.{vertices_of, edges_of}
use Rattle.noting.specs.Buffers.{log_short, reason_short}
use Rattle.graph.specs.Search.{Graph}
use Rattle.division.specs.Plan.{Plan, Proper}
use Rattle.division.specs.State.{potential}
use Rattle.division.specs.Noting.{note_all}
use Rattle.runs.specs.Run.{Run}
use Rattle.runs.specs.Walk.{best_run, vertex_given}
use Rattle.runs.proofs.Given.{given_best, none_joined, equal_given}
use Rattle.calls.specs.Calls as calls
use Rattle.calls.specs.Refusals.{room_of}
use Rattle.calls.proofs.Queries.{not_false}
use Rattle.graph_division.specs.declared.Answer.{Answer}
use Rattle.graph_division.specs.declared.Answer.TheVariants as answer
use Rattle.graph_division.specs.Answers.{number_of}
use Rattle.graph_division.specs.Outcomes.{answer_for}
use Rattle.graph_division.specs.Runs.{run_between, Request, ask, Kept, log_for, reply, after, call_of, room_for, query_of, buffer_short}
use Rattle.claims.specs.Whole.{written_by}
use Rattle.claims.specs.Conditions.{call_for, outcome_to}
use Rattle.claims.specs.Runs.{graph_after, NoRun, unknown_from, unknown_to, all_shut, GivesRun, RunsBetween}
use Rattle.claims.proofs.Replying.{At, after_at}
use Rattle.claims.proofs.Lists as lists
use Rattle.claims.proofs.Asking.{asked_answer, answer_is, buffer_is, asked_quiet}

-- ---- numbers from outside
number_is : (v : ℤ) → in_range (pos 63) v ≡ true → v ≡ pos (to_nat v)
unfolding in_range to_nat
number_is (pos n) e = refl
number_is (negsuc n) e = absurd (false≢true e)

-- a number that is a vertex's is that vertex
given_vertex : (v : ℤ) (n : ℕ) → n ≤ 64 → vertex_given v < n → v ≡ pos (vertex_given v)
unfolding vertex_given
given_vertex v n h k = tested (in_range (pos 63) v)
    (λ t. number_is v t ∙ ap pos (sym (pick_yes _ _ t)))
    (λ t. let z : vertex_given v ≡ 64 = pick_no _ _ t in absurd (omega arith))

vertex_given_lem : (p : ℕ) → p < 64 → vertex_given (pos p) ≡ p
unfolding vertex_given in_range to_nat
vertex_given_lem p h = pick_yes _ _ (le-leb p 63 (omega arith))

none_some : {x : List ℕ} {k : List (List ℕ)} → [] ≡ x ∷ k → ⊥
none_some q = let z : ◌≡◌ {A = ℕ} 0 _ = ap length q in omega arith

heads : {a b : List ℕ} {l m : List (List ℕ)} → a ∷ l ≡ b ∷ m → a ≡ b
heads q = cc

module _ (d : Plan) (start : Kept) (a : At d start calls.built) (pr : Proper d) where
  module _ (before : List Request) (from to : ℤ) (b rest : List ℕ) where
    abbrev k : Kept
    k = after start before

    abbrev q : Request
    q = ask (run_between from to) b rest

    abbrev e : Graph
    e = graph_after d start before

    abbrev best : List (List ℕ)
    best = best_run e d.edges d.vertices (vertex_given from) (vertex_given to)

    module _ (room : room_of (call_for start before (ask (run_between from to) b rest)) ≡ true) where
      -- what the definition answers
      told : (outcome_to d start before q).answer ≡ calls.give_run best
      unfolding query_of calls.answer_to
      told =
          asked_answer d start a before (run_between from to) b rest room
          ∙ ap (λ (ls : List ℕ). calls.give_run (best_run (potential d (note_all d ls)) d.edges d.vertices (vertex_given from) (vertex_given to)))
          (lists.standing_after d start a pr before)

      said : (x : calls.Answer) → (outcome_to d start before q).answer ≡ x → (reply k q).answer ≡ answer_for x 0
      said = answer_is d start a before (run_between from to) b rest

      wrote : (x : calls.Answer) → (outcome_to d start before q).answer ≡ x → (reply k q).list ≡ sets b 0 (written_by x [])
      wrote = buffer_is d start a before (run_between from to) b rest

      -- the buffer is as long as 7 asks
      buffer_long : edges_of k.state.plan + 2 * vertices_of k.state.plan + 4 ≤ length b
      unfolding call_of room_of room_for buffer_short reason_short
      buffer_long = ltb-false (length b) (edges_of k.state.plan + 2 * vertices_of k.state.plan + 4)
          (or_none (log_short k.state.plan (length (log_for k rest))) _ (not_false _ room)).1

      vertices_are : vertices_of k.state.plan ≡ d.vertices
      vertices_are = ap (λ (x : Plan). x.vertices) (after_at d before start calls.built a).plan

      -- there is no run, or it is given
      no_run : best ≡ [] → NoRun d e from to
      no_run x = tested (ltb (vertex_given from) d.vertices)
          (λ s. tested (ltb (vertex_given to) d.vertices)
          (λ t.
          let f = ltb-true (vertex_given from) d.vertices s in
          let g = ltb-true (vertex_given to) d.vertices t in
          all_shut (vertex_given from) (vertex_given to) (given_vertex from d.vertices pr.fine.vertices f) (given_vertex to d.vertices pr.fine.vertices g)
          (none_joined e d.edges d.vertices pr.fine (vertex_given from) (vertex_given to) x f g))
          (λ t. unknown_to (λ p h z. no_vertex to p h z t)))
          (λ s. unknown_from (λ p h z. no_vertex from p h z s))
        where
          no_vertex : (v : ℤ) (p : ℕ) → p < d.vertices → v ≡ pos p → ltb (vertex_given v) d.vertices ≡ false → ⊥
          no_vertex v p h z t =
              let y : vertex_given v ≡ p = ap vertex_given z ∙ vertex_given_lem p (omega (arith, pr.fine.vertices)) in
              let x = ltb-false (vertex_given v) d.vertices t in
              omega arith

      gives : (gs : List ℕ) (more : List (List ℕ)) → best ≡ gs ∷ more → GivesRun d e from to b (reply k q)
      unfolding answer_for written_by calls.give_run
      gives gs more x =
          let i = (given_best e d.edges d.vertices pr.fine (vertex_given from) (vertex_given to) gs more x).0 in
          let h = told ∙ ap calls.give_run x in
          record {
            p = vertex_given from;
            q = vertex_given to;
            from_is = given_vertex from d.vertices pr.fine.vertices i.from;
            to_is = given_vertex to d.vertices pr.fine.vertices i.to;
            edges = gs;
            best = i.best;
            answer = said (calls.found_run gs) h;
            buffer = wrote (calls.found_run gs) h;
            few = i.few;
            fits = omega (arith, i.few, buffer_long, vertices_are);
          }

      -- and not both
      run_there : NoRun d e from to → (gs : List ℕ) (more : List (List ℕ)) → best ≡ gs ∷ more → ⊥
      run_there (unknown_from u) gs more x =
          let i = (given_best e d.edges d.vertices pr.fine (vertex_given from) (vertex_given to) gs more x).0 in
          u (vertex_given from) i.from (given_vertex from d.vertices pr.fine.vertices i.from)
      run_there (unknown_to u) gs more x =
          let i = (given_best e d.edges d.vertices pr.fine (vertex_given from) (vertex_given to) gs more x).0 in
          u (vertex_given to) i.to (given_vertex to d.vertices pr.fine.vertices i.to)
      run_there (all_shut p r f t n) gs more x =
          let i = (given_best e d.edges d.vertices pr.fine (vertex_given from) (vertex_given to) gs more x).0 in
          let y : vertex_given from ≡ p = same_pos (sym (given_vertex from d.vertices pr.fine.vertices i.from) ∙ f) in
          let z : vertex_given to ≡ r = same_pos (sym (given_vertex to d.vertices pr.fine.vertices i.to) ∙ t) in
          n gs (subst (λ (v : ℕ). Run e d.edges v gs r) y (subst (λ (v : ℕ). Run e d.edges (vertex_given from) gs v) z i.best.run))
        where
          same_pos : {m n : ℕ} → pos m ≡ pos n → m ≡ n
          same_pos h = cc

      given_by : (x : List (List ℕ)) → best ≡ x → (NoRun d e from to → ⊥) → GivesRun d e from to b (reply k q)
      given_by [] x n = absurd (n (no_run x))
      given_by (gs ∷ more) x n = gives gs more x

      refused_by : (x : List (List ℕ)) → best ≡ x → (number_of (reply k q).answer ≡ 18 → NoRun d e from to) × (NoRun d e from to → number_of (reply k q).answer ≡ 18)
      unfolding answer_for number_of calls.give_run
      refused_by [] x = (λ _. no_run x, λ _. ap number_of (said (calls.refused 18) (told ∙ ap calls.give_run x)))
      refused_by (gs ∷ more) x = (
        λ h. let z : ◌≡◌ {A = ℕ} 0 18 = sym (ap number_of (said (calls.found_run gs) (told ∙ ap calls.give_run x))) ∙ h in absurd (omega arith),
        λ n. absurd (run_there n gs more x),
      )

  module _ (before : List Request) (p : ℕ) (b rest : List ℕ) (room : room_of (call_for start before (ask (run_between (pos p) (pos p)) b rest)) ≡ true) (h : p < d.vertices) where
    at_once : best_run (graph_after d start before) d.edges d.vertices (vertex_given (pos p)) (vertex_given (pos p)) ≡ [] ∷ []
    at_once =
        ap (λ (v : ℕ). best_run (graph_after d start before) d.edges d.vertices v v) (vertex_given_lem p (omega (arith, pr.fine.vertices)))
        ∙ equal_given (graph_after d start before) d.edges d.vertices pr.fine p h

    equal_run : ((reply (after start before) (ask (run_between (pos p) (pos p)) b rest)).answer ≡ answer.Run 0) × ((reply (after start before) (ask (run_between (pos p) (pos p)) b rest)).list ≡ b)
    unfolding answer_for written_by calls.give_run
    equal_run =
        let x = told before (pos p) (pos p) b rest room ∙ ap calls.give_run at_once in
        (said before (pos p) (pos p) b rest room (calls.found_run []) x, wrote before (pos p) (pos p) b rest room (calls.found_run []) x)

  pub runs_between : RunsBetween start d
  runs_between = record {
    given = λ before from to b rest room n. given_by before from to b rest room _ refl n;
    refused = λ before from to b rest room. refused_by before from to b rest room _ refl;
    equal = equal_run;
    quiet = λ before from to b rest. asked_quiet d start a before (run_between from to) b rest;
  }
