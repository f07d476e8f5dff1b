-- Every query does what the definition says.
use mathlib.Core.Path.{◌≡◌, refl, sym, ap, ap₂, subst, ◌∙◌}
use mathlib.Core.Logic.{◌⊎◌, inl, inr, ⊎_elim}
use mathlib.Core.Bool.{Bool, true, false, not}
use mathlib.Core.List.{List, [], ◌∷◌}
use Prim.Native.Nat.{ℕ, zero, suc, ◌+◌, ◌*◌, ◌≤◌}
use native.Mathlib.Omega.{arith}
use lib.Dec.{eqb, ltb}
use lib.IntN.{ℤ}
use lib.ListN.{length, replicate, length-replicate}
use lib.Seq.{sets, length-sets}
use borrow.Author.Tests.{eqb-true, ltb-true, ltb-false, le-ltb}
use Rattle.base.specs.Lists.{tab}
use Rattle.base.proofs.Loop.{pick_yes, pick_no, tested}
use Rattle.undo_log.specs.declared.Cursor.{Cursor}
use Rattle.division.specs.Reasons as abstract
use Rattle.division.specs.State.{potential}
use Rattle.division.specs.Noting.{note_all}
use Rattle.division.specs.Runs as runs
use Rattle.division.specs.Agree.{SameState}
use Rattle.division.specs.Views.{view_of}
use Rattle.division.proofs.Alike.{list_same, view_same}
use Rattle.division.proofs.Whole.{each_found}
use Rattle.graph.specs.Bounds.{Fine}
use Rattle.graph.proofs.Walkable.{fine_walkable}
use Rattle.regions.specs.Buckets.{Spot}
use Rattle.pages.specs.Lines.{Figures, num_regions, page_text, printed_in}
use Rattle.pages.proofs.Fields.{page_small, page_told}
use Rattle.pages.proofs.Same.{SameFigures, printed_same, put_sets}
use Rattle.views.proofs.Viewed.{label_is, weight_is, lower_is, upper_is}
use Rattle.runs.specs.Walk.{best_run, listed, run_listed, vertex_given}
use Rattle.runs.proofs.Given.{given_best}
use Rattle.runs.proofs.Same.{same_given}
use Rattle.plan.specs.Words.{word, vertices_of, edges_of}
use Rattle.plan.proofs.Abstract.{proper_plan}
use Rattle.noting.specs.Words.{state_of}
use Rattle.noting.specs.Note.{noting}
use Rattle.noting.specs.Buffers.{reason_short}
use Rattle.noting.proofs.Valid.{valid_state}
use Rattle.std.specs.Prelude.{Option}
use Rattle.walks.specs.Written.{Out, out_of, written}
use Rattle.walks.specs.Answers as walks
use Rattle.walks.proofs.Written.{written_fits}
use Rattle.reasons.specs.declared.reason.Reason.{Reason}
use Rattle.reasons.specs.declared.reason.Reason.TheVariants.{NotPropagated, EdgeInSameGroup, EdgeBetweenDifferentGroups, TooLargeIfRegionsAreMerged, RegionAlreadyLarge, RegionAlreadySmall, InconsistentBoundsIfRegionsAreMerged, BoundPropagationWithinRegion, AdjacentSameSizeRegions}
use Rattle.reasons.specs.Reason.{meaning}
use Rattle.analysis.specs.Placed.{place_of_lit}
use Rattle.analysis.proofs.Places.{place_back}
use Rattle.lists.specs.Within.{Held, Within}
use Rattle.lists.proofs.Lists.{reason_listed, reason_missing}
use Rattle.lists.proofs.Fits.{reason_fits}
use Rattle.judge.proofs.False.{within_names}
use Rattle.judge.proofs.Conflicts.{given_whole, list_taken}
use Rattle.calls.specs.Look.{gone}
use Rattle.calls.specs.Calls as calls
use Rattle.calls.specs.Calls.{World, answer_list}
use Rattle.calls.proofs.Alike.{gone_same}
use Rattle.calls.proofs.Page.{regions_counted, page_noted}
use Rattle.refusals.specs.Refusals.{lit_number, literal_refusal, fetch_refusal}
use Rattle.refusals.specs.Calls.{lit_given, state_room, fetch_room, refused_or}
use Rattle.refusals.proofs.Accepted.{KnownLit, literal_accepted, fetch_accepted}
use Rattle.refusals.proofs.Calls.{ask_call, page_call, reason_call}
use Rattle.graph_division.specs.declared.GraphDivision.{GraphDivision}
use Rattle.graph_division.specs.declared.Answer.TheVariants as answer
use Rattle.graph_division.specs.Calls.{Fetched, fetched, copied, reason_given, is_none, reason_over, last_fetched, recorded_for, list_for, giving, reason_fetched, run_answer, best_listed, run_fetched}
use Rattle.graph_division.specs.Calls.{figures_with, figures_in, page_printed, page_fetched}
use Rattle.graph_division.specs.Runs.{Query, reason_for, last_left, run_between, page, asked, query_of, buffer_short}
use Rattle.graph_division.specs.Outcomes.{answer_for, answer_of}
use Rattle.simulation.specs.Start.{state_plan}
use Rattle.simulation.specs.Represents.{Represents, SimulatesFetched}
use Rattle.simulation.proofs.Looked.{tab_take}
use Rattle.simulation.proofs.Rooms.{state_good, state_room_lem, fetch_room_lem}

tab_length : (f : ℕ → ℕ) (n : ℕ) → length (tab f n) ≡ n
unfolding tab
tab_length f zero = refl
tab_length f (suc n) = ap suc (tab_length (λ i. f (suc i)) n)

copied_is : (ws l m b : List ℕ) (n : ℕ) → tab (word l) n ≡ m → length m ≤ edges_of ws + 2 * vertices_of ws + 4 → length m ≤ length b →
    copied ws l n b ≡ fetched (answer.Reason (length m)) (sets b 0 m)
unfolding copied reason_over
copied_is ws l m b n e o h =
    let k : n ≡ length m = sym (tab_length (word l) n) ∙ ap length e in
    pick_no _ _ (le-ltb (edges_of ws + 2 * vertices_of ws + 4) n (omega arith))
    ∙ ap₂ (λ (k : ℕ) (v : List ℕ). fetched (answer.Reason k) (written v (out_of b 0)).text) k e
    ∙ ap (λ (o : Out). fetched (answer.Reason (length m)) o.text) (written_fits m b 0 (omega arith))

-- a reason is none, or stands for one
one_reason : (r : Reason) → ((meaning r ≡ []) × (is_none r ≡ true)) ⊎ ((q : abstract.Reason) × (meaning r ≡ q ∷ []) × (is_none r ≡ false))
unfolding meaning
one_reason NotPropagated = inl (refl, refl)
one_reason (EdgeInSameGroup g) = inr (_, refl, refl)
one_reason (EdgeBetweenDifferentGroups h g flip) = inr (_, refl, refl)
one_reason (TooLargeIfRegionsAreMerged g l) = inr (_, refl, refl)
one_reason (RegionAlreadyLarge v) = inr (_, refl, refl)
one_reason (RegionAlreadySmall v) = inr (_, refl, refl)
one_reason (InconsistentBoundsIfRegionsAreMerged g a b flip) = inr (_, refl, refl)
one_reason (BoundPropagationWithinRegion l k u) = inr (_, refl, refl)
one_reason (AdjacentSameSizeRegions a la ua b lb ub u) = inr (_, refl, refl)

module _ (s : GraphDivision) (log : List ℕ) (c : Cursor) (w : World) (r : Represents s log c w) (b : List ℕ) where
  abbrev ws : List ℕ
  ws = s.plan

  abbrev ends : List (List ℕ)
  ends = s.edges.ends

  abbrev number : ℕ
  number = fetch_refusal ws ends s.noted (length b) log c

  -- the noted words are the state of what stands
  same : SameState (state_plan s) (state_of s.noted) (note_all (state_plan s) w.standing)
  same =
      subst (λ (ls : List ℕ). SameState (state_plan s) (state_of s.noted) (note_all (state_plan s) ls))
      (sym r.standing) (valid_state ws ends r.proper (noting s.noted log c) r.valid)

  fetched_by : {y z : Fetched} {o q : calls.Outcome} → y ≡ z → o ≡ q → SimulatesFetched s log c b z q → SimulatesFetched s log c b y o
  fetched_by {z = z} {o = o} i j h = subst (λ (y : Fetched). SimulatesFetched s log c b y o) (sym i) (subst (SimulatesFetched s log c b z) (sym j) h)

  refused : (n : ℕ) → SimulatesFetched s log c b (fetched (answer.Refused n) b) (calls.refuse n w [])
  unfolding calls.refuse answer_of answer_for answer_list
  refused n = record { answer = refl; buffer = refl; whole = refl; represents = r }

  gives : (m : List ℕ) → length m ≤ length b → SimulatesFetched s log c b (fetched (answer.Reason (length m)) (sets b 0 m)) (calls.tell w (calls.reason m))
  unfolding calls.tell answer_of answer_for answer_list
  gives m h = record { answer = refl; buffer = refl; whole = list_taken m b h; represents = r }

  gives_run : (m : List ℕ) → length m ≤ length b → SimulatesFetched s log c b (fetched (answer.Run (length m)) (sets b 0 m)) (calls.tell w (calls.found_run m))
  unfolding calls.tell answer_of answer_for answer_list
  gives_run m h = record { answer = refl; buffer = refl; whole = list_taken m b h; represents = r }

  gives_page : (m : List ℕ) → length m ≤ length b →
      SimulatesFetched s log c b (fetched (answer.Page (length m)) (sets b 0 m)) (calls.tell w (calls.printed_page m))
  unfolding calls.tell answer_of answer_for answer_list
  gives_page m h = record { answer = refl; buffer = refl; whole = list_taken m b h; represents = r }

  buffer_long : number ≡ 0 → edges_of ws + 2 * vertices_of ws + 4 ≤ length b
  unfolding reason_short
  buffer_long e = ltb-false (length b) (edges_of ws + 2 * vertices_of ws + 4) (fetch_accepted ws ends s.noted log c r.valid.words (length b) e).1

  last_short : length w.last ≤ edges_of ws + 2 * vertices_of ws + 4
  last_short = omega (arith, r.fits, ap length r.last, tab_length (word s.last) s.last_len)

  pub last_simulated : SimulatesFetched s log c b (last_fetched s c log b) (calls.on_ask (state_plan s) w (fetch_room ws ends s.noted (length b) log c) calls.last_left)
  unfolding last_fetched refused_or calls.answer_to
  last_simulated =
      let f = ask_call ws ends r.proper s.noted log c w (length b) calls.last_left in
      tested (eqb number 0)
      (λ t.
      let h : length w.last ≤ length b = omega (arith, last_short, buffer_long (eqb-true number 0 t)) in
      fetched_by (pick_yes _ _ t ∙ copied_is ws s.last w.last b s.last_len r.last last_short h) (f ∙ pick_yes _ _ t) (gives w.last h))
      (λ t. fetched_by (pick_no _ _ t) (f ∙ pick_no _ _ t) (refused number))

  module _ (e : number ≡ 0) where
    abbrev blank : Out
    blank = out_of (replicate 260 0) 0

    held : Held ws ends s.noted
    held = record { proper = r.proper; words = r.words; states = omega (arith, r.valid.words) }

    -- a run: the edges are the plan's, and the states those of what stands
    module _ (from to : ℤ) where
      abbrev best : List (List ℕ)
      best = best_run (potential (state_plan s) (note_all (state_plan s) w.standing)) (edges_of ws) (vertices_of ws) (vertex_given from) (vertex_given to)

      fine : Fine (vertices_of ws) (edges_of ws) ends
      fine = (proper_plan ws ends r.proper).fine

      run_is : best_listed s from to b ≡ listed best (out_of b 0)
      unfolding best_listed run_listed
      run_is =
          pick_yes _ _ (fine_walkable ends s.noted (edges_of ws) (vertices_of ws) fine (omega (arith, r.valid.words, fine.fits)))
          ∙ ap (λ (x : List (List ℕ)). listed x (out_of b 0)) (same_given ends (edges_of ws) (vertices_of ws) fine s.noted _ same.edge (vertex_given from) (vertex_given to))

      run_by : (x : List (List ℕ)) → best ≡ x → SimulatesFetched s log c b (fetched (run_answer (listed x (out_of b 0)).listed) (listed x (out_of b 0)).text) (calls.tell w (calls.give_run x))
      unfolding listed walks.missing calls.give_run calls.tell calls.refuse
      run_by [] x = refused 18
      run_by (gs ∷ rest) x =
          let i = (given_best (potential (state_plan s) (note_all (state_plan s) w.standing)) (edges_of ws) (vertices_of ws) fine (vertex_given from) (vertex_given to) gs rest x).0 in
          let h : length gs ≤ length b = omega (arith, i.few, buffer_long e) in
          fetched_by (ap (λ (a : walks.Answer). fetched (run_answer a.listed) a.text) (given_whole gs b h)) refl (gives_run gs h)

      given_run : SimulatesFetched s log c b (fetched (run_answer (best_listed s from to b).listed) (best_listed s from to b).text) (calls.tell w (calls.give_run best))
      given_run = fetched_by (ap (λ (a : walks.Answer). fetched (run_answer a.listed) a.text) run_is) refl (run_by best refl)

    -- a reason that is recorded: its list, or 16
    module _ (why : Reason) (q : abstract.Reason) (m : meaning why ≡ q ∷ []) (i : Within (state_plan s) q) where
      abbrev list : List ℕ
      list = abstract.list_of (state_plan s) (state_of s.noted) q

      is_gone : gone (state_plan s) (note_all (state_plan s) w.standing) q ≡ true → SimulatesFetched s log c b (reason_given ws (list_for s why).text (list_for s why).listed b) (calls.refuse 16 w [])
      unfolding list_for reason_given
      is_gone t = fetched_by
          (ap (λ (a : Option ℕ). reason_given ws (list_for s why).text a b) (reason_missing ws ends s.noted held why q blank m i (gone_same (state_plan s) (proper_plan ws ends r.proper) _ _ same q ∙ t)))
          refl (refused 16)

      is_there : gone (state_plan s) (note_all (state_plan s) w.standing) q ≡ false →
          SimulatesFetched s log c b (reason_given ws (list_for s why).text (list_for s why).listed b) (calls.tell w (calls.reason (runs.fetched (state_plan s) w.standing q)))
      unfolding list_for reason_given
      is_there t =
          let k = gone_same (state_plan s) (proper_plan ws ends r.proper) _ _ same q ∙ t in
          let short = reason_fits ws ends s.noted held why q m i k in
          let z = length-replicate {A = ℕ} 260 0 in
          let h : length list ≤ length (replicate {A = ℕ} 260 0) = omega (arith, r.proper.fine.fits, r.proper.fine.vertices) in
          let h' : length list ≤ length b = omega (arith, buffer_long e) in
          fetched_by
          (ap (λ (a : walks.Answer). reason_given ws a.text a.listed b) (reason_listed ws ends s.noted held why q blank m i k ∙ given_whole list (replicate 260 0) h)
          ∙ copied_is ws (sets (replicate 260 0) 0 list) list b (length list) (tab_take (length list) _ (omega (arith, length-sets (replicate {A = ℕ} 260 0) 0 list)) ∙ list_taken list (replicate 260 0) h) (omega (arith, short)) h')
          (ap (λ (m : List ℕ). calls.tell w (calls.reason m)) (sym (list_same (state_plan s) (proper_plan ws ends r.proper) _ _ same q (within_names (state_plan s) q i))))
          (gives list h')

    module _ (lit : ℤ) (k : KnownLit ws lit) where
      abbrev why : Reason
      why = recorded_for s (lit_number lit)

      newest : meaning why ≡ runs.reason_of (lit_given lit) w.reasons
      unfolding recorded_for
      newest =
          let (h, u) = place_back ws ends r.proper (lit_number lit) k.is_known in
          r.reasons (place_of_lit ws (lit_number lit)) h ∙ ap (λ (l : ℕ). runs.reason_of l w.reasons) (u ∙ k.number)

      told : {a b : List abstract.Reason} → a ≡ b → calls.tell w (calls.give_reason (state_plan s) w a) ≡ calls.tell w (calls.give_reason (state_plan s) w b)
      told e = ap (λ (rs : List abstract.Reason). calls.tell w (calls.give_reason (state_plan s) w rs)) e

      given_reason : SimulatesFetched s log c b (giving s why b) (calls.tell w (calls.give_reason (state_plan s) w (runs.reason_of (lit_given lit) w.reasons)))
      unfolding giving calls.give_reason calls.tell calls.refuse
      given_reason = ⊎_elim
          (λ (n, t). fetched_by (pick_yes _ _ t) (told (sym newest ∙ n)) (refused 15))
          (λ (q, m, t).
          let i : Within (state_plan s) q = each_found (lit_given lit) q w.reasons r.within (sym newest ∙ m) in
          let f = told (sym newest ∙ m) in
          tested (gone (state_plan s) (note_all (state_plan s) w.standing) q)
          (λ g. fetched_by (pick_no _ _ t) (f ∙ ap (calls.tell w) (pick_yes _ _ g)) (is_gone why q m i g))
          (λ g. fetched_by (pick_no _ _ t) (f ∙ ap (calls.tell w) (pick_no _ _ g)) (is_there why q m i g)))
          (one_reason why)

  pub reason_simulated : (lit : ℤ) → SimulatesFetched s log c b (reason_fetched s c log lit b) (calls.on_ask (state_plan s) w (fetch_room ws ends s.noted (length b) log c) (calls.reason_for (lit_given lit)))
  unfolding reason_fetched refused_or
  reason_simulated lit =
      let f = reason_call ws ends r.proper s.noted log c w (length b) lit in
      tested (eqb number 0)
      (λ t. tested (eqb (literal_refusal ws lit) 0)
      (λ u. fetched_by (pick_yes _ _ t ∙ pick_yes _ _ u) (f ∙ pick_yes _ _ t ∙ pick_yes _ _ u) (given_reason (eqb-true number 0 t) lit (literal_accepted ws lit (eqb-true (literal_refusal ws lit) 0 u))))
      (λ u. fetched_by (pick_yes _ _ t ∙ pick_no _ _ u) (f ∙ pick_yes _ _ t ∙ pick_no _ _ u) (refused (literal_refusal ws lit))))
      (λ t. fetched_by (pick_no _ _ t) (f ∙ pick_no _ _ t) (refused number))

  pub run_simulated : (from to : ℤ) →
      SimulatesFetched s log c b (run_fetched s c log from to b) (calls.on_ask (state_plan s) w (fetch_room ws ends s.noted (length b) log c) (calls.run_between (vertex_given from) (vertex_given to)))
  unfolding run_fetched refused_or calls.answer_to
  run_simulated from to =
      let f = ask_call ws ends r.proper s.noted log c w (length b) (calls.run_between (vertex_given from) (vertex_given to)) in
      tested (eqb number 0)
      (λ t. fetched_by (pick_yes _ _ t) (f ∙ pick_yes _ _ t) (given_run (eqb-true number 0 t) from to))
      (λ t. fetched_by (pick_no _ _ t) (f ∙ pick_no _ _ t) (refused number))

  -- a page: the regions that the words give are those of what stands, and so are their weights and bounds
  abbrev figures : Figures
  figures = calls.region_figures (state_plan s) (note_all (state_plan s) w.standing)

  figures_same : SameFigures (vertices_of ws) (figures_in s) figures
  unfolding figures_in figures_with calls.region_figures view_of
  figures_same =
      let p = r.proper in
      let n = r.valid.words in
      let q = view_same (state_plan s) (proper_plan ws ends p) _ _ same in
      record {
        label = λ v h. label_is ws ends p s.noted n _ _ false v h ∙ q.did v h;
        weight = λ i h. weight_is ws ends p s.noted n _ _ false i h ∙ q.dw i h;
        lower = λ i h. ap (λ (a : Spot). a.bound) (lower_is ws ends p s.noted n _ _ i h) ∙ q.low i h;
        upper = λ i h. ap (λ (a : Spot). a.bound) (upper_is ws ends p s.noted n _ _ i h) ∙ q.up i h;
      }

  abbrev text : List ℕ
  text = page_text figures (vertices_of ws)

  abbrev size : ℕ
  size = 39 * num_regions figures.label (vertices_of ws)

  text_long : length text ≡ size
  text_long =
      let k = proper_plan ws ends r.proper in
      let q = page_noted (state_plan s) k w.standing in
      omega (arith, q.long, regions_counted (state_plan s) k _ _ q.listing)

  given_page : SimulatesFetched s log c b (page_printed (printed_in (figures_in s) (vertices_of ws) b))
      (calls.tell w (calls.give_page figures (vertices_of ws) (length b)))
  unfolding page_printed calls.give_page calls.tell calls.refuse
  given_page =
      let n = r.proper.fine.vertices in
      let e = printed_same (vertices_of ws) (figures_in s) figures figures_same b in
      tested (ltb (length b) size)
      (λ t.
      let short = page_small figures (vertices_of ws) b _ refl n (ltb-true (length b) size t) in
      fetched_by (ap page_printed (e ∙ sym short)) (ap (calls.tell w) (pick_yes _ _ t)) (refused 19))
      (λ t.
      let fits = ltb-false (length b) size t in
      let h : length text ≤ length b = omega (arith, text_long) in
      let told = page_told figures (vertices_of ws) b _ (sets b 0 text) refl n fits (sym (put_sets b text h)) in
      fetched_by
      (ap page_printed (e ∙ sym told) ∙ ap (λ (k : ℕ). fetched (answer.Page k) (sets b 0 text)) (sym text_long))
      (ap (calls.tell w) (pick_no _ _ t)) (gives_page text h))

  pub page_simulated : SimulatesFetched s log c b (page_fetched s c log b)
      (calls.on_ask (state_plan s) w (state_room ws ends s.noted log c) (calls.page (length b)))
  unfolding page_fetched calls.answer_to
  page_simulated =
      let good = state_good s log c w r in
      fetched_by (pick_no _ _ good) (page_call ws ends r.proper s.noted log c w (length b) ∙ pick_no _ _ good) given_page

  -- a query that is lent a reason buffer: of what refusal 7 asks, only its length is left
  by_length : (x : Fetched) (q : calls.Query) → SimulatesFetched s log c b x (calls.on_ask (state_plan s) w (fetch_room ws ends s.noted (length b) log c) q) →
      SimulatesFetched s log c b x (calls.on_ask (state_plan s) w (not (reason_short ws (length b))) q)
  by_length x q h = subst (λ (room : Bool). SimulatesFetched s log c b x (calls.on_ask (state_plan s) w room q)) (fetch_room_lem s log c w r (length b)) h

  pub asked_simulated : (q : Query) → SimulatesFetched s log c b (asked s c log q b) (calls.on_ask (state_plan s) w (not (buffer_short q ws (length b))) (query_of q (length b)))
  unfolding asked buffer_short query_of
  asked_simulated (reason_for lit) = by_length _ _ (reason_simulated lit)
  asked_simulated last_left = by_length _ _ last_simulated
  asked_simulated (run_between from to) = by_length _ _ (run_simulated from to)
  asked_simulated page =
      let o : Bool → calls.Outcome = λ room. calls.on_ask (state_plan s) w room (calls.page (length b)) in
      subst (λ (room : Bool). SimulatesFetched s log c b (page_fetched s c log b) (o room))
      (state_room_lem s log c w r) page_simulated
