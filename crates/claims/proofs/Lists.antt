-- The conditions of the order, of the definition's calls and so of the code's.
use mathlib.Core.Path.{◌≡◌, refl, sym, ap, ap₂, subst, ◌∙◌}
use mathlib.Core.Logic.{◌↔◌, ◌⊎◌, inl, inr, ⊎_elim}
use mathlib.Core.Bool.{Bool, true, false, true≢false, false≢true}
use mathlib.Core.List.Memᴰ
use mathlib.Core.List.{List, [], ◌∷◌, ◌++◌, Memᴰ}
use Prim.Native.Nat.{ℕ, ◌/◌, ◌%◌, ◌<◌, ◌≤◌}
use native.Mathlib.Omega.{arith}
use lib.IntN.{ℤ, pos}
use lib.Dec.{eqb, ltb}
use lib.ListN.{length, get_or, get_or-eq_default}
use borrow.Author.Tests.{eq-eqb, eqb-true, eqb-false, ltb-false}
use Rattle.base.specs.Iter.{pick}
use Rattle.base.specs.Lists.{Every}
use Rattle.base.specs.Range.{in_range}
use Rattle.base.proofs.Loop.{pick_yes, pick_no, tested}
use Rattle.base.proofs.Tests.{le_or_lt, or_none}
use Rattle.sat.specs.Literal.{Holds}
use Rattle.division.specs.Plan.{Plan, Proper, Plain}
use Rattle.division.specs.Division.{Valid, Describes}
use Rattle.division.specs.Noting.{note_all, In}
use Rattle.division.specs.Explained.{Explains}
use Rattle.division.proofs.Whole.{each_found, reason_there}
use Rattle.noting.specs.Buffers.{list_short}
use Rattle.refusals.specs.Calls.{lit_given}
use Rattle.calls.specs.Table.{code_of, unset_in, variables, too_high, bad_table, knows}
use Rattle.calls.specs.Marks.{current_code, Marked}
use Rattle.calls.specs.Calls as calls
use Rattle.calls.specs.Calls.{World, answer_list}
use Rattle.calls.specs.Refusals.{room_of}
use Rattle.calls.specs.Truths.{Walked, Backed}
use Rattle.calls.specs.Claim as claim
use Rattle.calls.specs.Claim.{Covers}
use Rattle.calls.proofs.Marks.{call_marked}
use Rattle.calls.proofs.Queries.{of_graph}
use Rattle.calls.proofs.Refusals.{refusals, acceptances}
use Rattle.calls.proofs.Claim.{last_given, condition_3}
use Rattle.calls.proofs.Count.{known_below}
use Rattle.calls.proofs.Fetchable.{run_explained, is_known, handed_fetched}
use Rattle.calls.proofs.Recent.{did_recent}
use Rattle.calls.proofs.View.{Did, away, added, agreed, clashed, took, asked, began, began_last, began_clash, did}
use Rattle.calls.proofs.Stands.{stands_from_calls, run_consistent, call_consistent}
use Rattle.calls.proofs.Truths.{conflict_backed, fetched_walked, recorded_stood}
use Rattle.graph_division.specs.declared.Answer.{Answer}
use Rattle.graph_division.specs.declared.Answer.TheVariants.{Consistent, Conflict, Noted, Undone, Reason, Run, Page, Refused}
use Rattle.graph_division.specs.Answers.{number_of, is_consistent}
use Rattle.graph_division.specs.Runs.{Query, reason_for, last_left, Request, initialize, propagate, undo, ask, table_of, room_for, query_of, Kept, log_for, Reply, reply, keeping, after, call_of, calls_of}
use Rattle.claims.specs.Whole.{literals_of, written_by, written_of}
use Rattle.claims.specs.Conditions.{accepted, counts, counted, HandsOn, Quiet, a_query, turned_away, AllQuiet, done, next, standing_then, Condition1, Condition2, Condition3}
use Rattle.graph_division.specs.Outcomes.{answer_of}
use Rattle.simulation.specs.Start.{state_plan}
use Rattle.simulation.specs.Represents.{RepresentsKept, Replies}
use Rattle.claims.proofs.Refusing.{refused_unchanged}
use Rattle.claims.proofs.Replying.{conflict_back, refused_range, refused_is, accepted_is, consistent_is, At, at_proper, reply_at, next_at, after_at}
use Rattle.claims.proofs.Known.{reason_known}
use Rattle.claims.proofs.Runs.{found_edges}
use Rattle.claims.proofs.Printed.{printed_bytes}
use Rattle.claims.proofs.OneAnswer.{table_same, ask_told, one_answer, consistent_literals, reason_literals}

-- ---- a literal that the table shows as handed on is one of those that the definition hands on
pick_set : (b : Bool) → ◌≡◌ {A = ℕ} (pick b 3 4) 0 → ⊥
unfolding pick
pick_set true z = absurd (omega arith)
pick_set false z = absurd (omega arith)

current_set : (l : ℕ) → current_code l ≡ 0 → ⊥
unfolding current_code
current_set l e = pick_set (eqb (l % 2) 0) e

-- some literal of the list has variable v, or none has
data Has (h : List ℕ) (v : ℕ) : Type 0 where
  has : (l : ℕ) → In h l → l / 2 ≡ v → Has h v
  has_not : ((l : ℕ) → In h l → l / 2 ≡ v → ⊥) → Has h v

none_in : (v l : ℕ) → In [] l → l / 2 ≡ v → ⊥
none_in v l i e = absurd (Memᴰ.not-nil i)

not_more : (x v : ℕ) (xs : List ℕ) → (x / 2 ≡ v → ⊥) → ((l : ℕ) → In xs l → l / 2 ≡ v → ⊥) → (l : ℕ) → In (x ∷ xs) l → l / 2 ≡ v → ⊥
not_more x v xs a b l (Memᴰ.head q) e = a (ap (λ (i : ℕ). i / 2) (sym q) ∙ e)
not_more x v xs a b l (Memᴰ.tail i) e = b l i e

search_in : (h : List ℕ) (v : ℕ) → Has h v
search_in [] v = has_not (none_in v)
search_in (x ∷ xs) v = tested (eqb (x / 2) v)
    (λ t. has x (Memᴰ.head refl) (eqb-true (x / 2) v t))
    (λ t. more (eqb-false (x / 2) v t) (search_in xs v))
  where
    more : (x / 2 ≡ v → ⊥) → Has xs v → Has (x ∷ xs) v
    more a (has l i e) = has l (Memᴰ.tail i) e
    more a (has_not n) = has_not (not_more x v xs a n)

-- the literal is given by its variable and the code that it gets
same_lit : (l m : ℕ) → l / 2 ≡ m / 2 → current_code l ≡ current_code m → l ≡ m
unfolding current_code
same_lit l m e f = tested (eqb (l % 2) 0)
    (λ a. tested (eqb (m % 2) 0)
    (λ b. omega (arith, eqb-true (l % 2) 0 a, eqb-true (m % 2) 0 b))
    (λ b. let z : ◌≡◌ {A = ℕ} 3 4 = sym (pick_yes 3 4 a) ∙ f ∙ pick_no 3 4 b in absurd (omega arith)))
    (λ a. tested (eqb (m % 2) 0)
    (λ b. let z : ◌≡◌ {A = ℕ} 4 3 = sym (pick_no 3 4 a) ∙ f ∙ pick_yes 3 4 b in absurd (omega arith))
    (λ b. let y = eqb-false (l % 2) 0 a in let z = eqb-false (m % 2) 0 b in odd l m e y z))
  where
    odd : (l m : ℕ) → l / 2 ≡ m / 2 → (l % 2 ≡ 0 → ⊥) → (m % 2 ≡ 0 → ⊥) → l ≡ m
    odd l m e y z = omega arith

marked_in : (t h u : List ℕ) → Marked t h u → (l : ℕ) → unset_in t l ≡ true → code_of u l ≡ current_code l → In h l
unfolding code_of unset_in
marked_in t h u k l a b = go (search_in h (l / 2))
  where
    go : Has h (l / 2) → In h l
    go (has m i e) = ⊎_elim
        (λ (out : length t ≤ l / 2). absurd (current_set l (sym b ∙ get_or-eq_default u 0 (omega (arith, k.long)))))
        (λ (q : l / 2 < length t). subst (In h) (same_lit m l e (sym (k.shown m i (omega arith)).1 ∙ ap (λ (v : ℕ). get_or u v 0) e ∙ b)) i)
        (le_or_lt (length t) (l / 2))
    go (has_not n) = absurd (current_set l (sym b ∙ k.rest (l / 2) n ∙ eqb-true _ 0 a))

-- a table that a call hands on from is long enough for the plan's variables
long_enough : (d : Plan) (t : List ℕ) → bad_table d t ≡ false → variables d ≤ length t
unfolding bad_table
long_enough d t e = ltb-false (length t) (variables d) (or_none (ltb (length t) (variables d)) (too_high t) e).0

did_long : (d : Plan) (w : World) {c : calls.Call} {o : calls.Outcome} → Did d w c o → (l : ℕ) → In o.handed l → variables d ≤ length (calls.table_of c)
unfolding calls.refuse calls.tell calls.table_of
did_long d w (away c n) l m = absurd (Memᴰ.not-nil m)
did_long d w (added room t k pending p f kn) l m = absurd (Memᴰ.not-nil m)
did_long d w (agreed room t k pending p o e f q bt kn) l m = long_enough d t bt
did_long d w (clashed room t k pending p o e f q bt kn) l m = long_enough d t bt
did_long d w (took room k x xs e) l m = absurd (Memᴰ.not-nil m)
did_long d w (asked room q) l m = absurd (Memᴰ.not-nil m)
did_long d w (began room t a s j v bt) l m = long_enough d t bt
did_long d w (began_last room t a s j c v bt) l m = long_enough d t bt
did_long d w (began_clash room t a s j bt) l m = long_enough d t bt

-- ---- an answer whose number is not 0 is a refusal
refused_number : (a : Answer) (n : ℕ) → 0 < n → number_of a ≡ n → a ≡ Refused n
unfolding number_of
refused_number (Consistent m) n h e = absurd (omega arith)
refused_number Conflict n h e = absurd (omega arith)
refused_number Noted n h e = absurd (omega arith)
refused_number Undone n h e = absurd (omega arith)
refused_number (Reason m) n h e = absurd (omega arith)
refused_number (Run m) n h e = absurd (omega arith)
refused_number (Page m) n h e = absurd (omega arith)
refused_number (Refused m) n h e = ap Refused e

-- ---- what is written is what is handed on, or the reason's, the run's or the page's
data WrittenIn (a : calls.Answer) (h : List ℕ) (l : ℕ) : Type 0 where
  by_hand : In h l → WrittenIn a h l
  by_reason : (ls : List ℕ) → a ≡ calls.reason ls → In ls l → WrittenIn a h l
  by_run : (gs : List ℕ) → a ≡ calls.found_run gs → In gs l → WrittenIn a h l
  by_page : (bs : List ℕ) → a ≡ calls.printed_page bs → In bs l → WrittenIn a h l

written_in : (a : calls.Answer) (h : List ℕ) (l : ℕ) → In (written_by a h) l → WrittenIn a h l
unfolding written_by
written_in calls.consistent h l m = by_hand m
written_in calls.conflicting h l m = by_hand m
written_in calls.noted h l m = by_hand m
written_in calls.undone h l m = by_hand m
written_in (calls.refused n) h l m = by_hand m
written_in (calls.reason ls) h l m = by_reason ls refl m
written_in (calls.found_run gs) h l m = by_run gs refl m
written_in (calls.printed_page bs) h l m = by_page bs refl m

-- ---- the requests as calls
counts_same : (d : Plan) (k : Kept) (q : Request) (ls : List ℕ) → counts d q ls ≡ claim.counts d (call_of k q) ls
unfolding counts claim.counts call_of
counts_same d k (initialize t list tail) ls = refl
counts_same d k (propagate lit pending t list tail) ls = refl
counts_same d k (undo lit tail) ls = refl
counts_same d k (ask q b tail) ls = refl

calls_more : (k : Kept) (qs : List Request) (q : Request) → calls_of k (qs ++ (q ∷ [])) ≡ calls_of k qs ++ (call_of (after k qs) q ∷ [])
unfolding calls_of after
calls_more k [] q = refl
calls_more k (x ∷ qs) q = ap (λ (cs : List calls.Call). call_of k x ∷ cs) (calls_more (keeping (reply k x)) qs q)

after_more : (d : Plan) (w : World) (cs : List calls.Call) (c : calls.Call) → calls.after d w (cs ++ (c ∷ [])) ≡ (calls.call d c (calls.after d w cs)).world
unfolding calls.after
after_more d w [] c = refl
after_more d w (x ∷ cs) c = after_more d (calls.call d x w).world cs c

module _ (D : Plan) where
  hands_on : (k : Kept) (w : World) → At D k w → (q : Request) (l : ℕ) → HandsOn k q l → In (calls.call D (call_of k q) w).handed l
  hands_on k w a q l h =
      let m = call_marked D w (call_of k q) in
      marked_in (calls.table_of (call_of k q)) _ (calls.call D (call_of k q) w).table m l
      (ap (λ (t : List ℕ). unset_in t l) (table_same k q) ∙ h.unset) (ap (λ (t : List ℕ). code_of t l) (sym (reply_at D k w a q).table) ∙ h.set)

  counted_same : (qs : List Request) (k : Kept) (w : World) → At D k w → (ls : List ℕ) → counted D k qs ls ≡ claim.counted D w (calls_of k qs) ls
  unfolding counted claim.counted calls_of
  counted_same [] k w a ls = refl
  counted_same (q ∷ qs) k w a ls =
      ap (λ (ms : List ℕ). counted D (keeping (reply k q)) qs ms)
      (ap₂ (λ (b : Bool) (ms : List ℕ). pick b ms ls) (ap accepted (reply_at D k w a q).answer ∙ accepted_is D (at_proper D k w a) w (call_of k q)) (counts_same D k q ls))
      ∙ counted_same qs (keeping (reply k q)) (calls.call D (call_of k q) w).world (next_at D k w a q) _

  quiet : (k : Kept) (w : World) → At D k w → {q : Request} → Quiet k q → claim.Quiet D w (call_of k q)
  unfolding call_of
  quiet k w a (a_query q b tail) = claim.a_query _ _
  quiet k w a (turned_away q e) = claim.turned_away (call_of k q) (sym (accepted_is D (at_proper D k w a) w (call_of k q)) ∙ ap accepted (sym (reply_at D k w a q).answer) ∙ e)

  all_quiet : (k : Kept) (w : World) → At D k w → {qs : List Request} → AllQuiet k qs → claim.AllQuiet D w (calls_of k qs)
  unfolding calls_of
  all_quiet k w a done = claim.done
  all_quiet k w a (next {q = q} x xs) = claim.next (quiet k w a x) (all_quiet (keeping (reply k q)) _ (next_at D k w a q) xs)

  -- ---- a fetch that is accepted gives what the definition's does
  pub ask_back : (k : Kept) (w : World) → At D k w → (q : Query) (b rest : List ℕ) → of_graph (query_of q (length b)) ≡ false → accepted (reply k (ask q b rest)).answer ≡ true →
      (calls.call D (call_of k (ask q b rest)) w).answer ≡ calls.reason (literals_of (reply k (ask q b rest)))
  unfolding call_of
  ask_back k w a q b rest r e =
      let c = call_of k (ask q b rest) in
      let y = reply_at D k w a (ask q b rest) in
      let f = ask_told D w _ _ r (sym (accepted_is D (at_proper D k w a) w c) ∙ ap accepted (sym y.answer) ∙ e) in
      f ∙ ap calls.reason (sym (reason_literals D k w a (ask q b rest) _ f))

  module _ (start : Kept) (a : At D start calls.built) where
    abbrev world : List Request → World
    world qs = calls.run D (calls_of start qs)

    pub at : (qs : List Request) → At D (after start qs) (world qs)
    unfolding calls.run
    at qs = after_at D qs start calls.built a

    -- ---- condition 1
    abbrev outcome : List Request → Request → calls.Outcome
    outcome before q = calls.call D (call_of (after start before) q) (world before)

    pub answer_of_lem : (before : List Request) (q : Request) → (reply (after start before) q).answer ≡ answer_of (outcome before q)
    answer_of_lem before q = (reply_at D (after start before) (world before) (at before) q).answer

    accepted_as : (before : List Request) (q : Request) → accepted (reply (after start before) q).answer ≡ calls.accepted (outcome before q).answer
    accepted_as before q = ap accepted (answer_of_lem before q) ∙ accepted_is D (at_proper D start calls.built a) (world before) (call_of (after start before) q)

    -- a refusal's number is one of the table's
    pub refusal_range : (before : List Request) (q : Request) (m : ℕ) → (reply (after start before) q).answer ≡ Refused m → (0 < m) × (m ≤ 19)
    refusal_range before q m e = refused_range D (at_proper D start calls.built a) (world before) (call_of (after start before) q) m (sym (answer_of_lem before q) ∙ e)

    pub condition_1 : Condition1 start D
    unfolding accepted
    condition_1 = record {
      accepts = λ before q.
          let (f, g) = acceptances D (world before) (call_of (after start before) q) (λ _. at_proper D start calls.built a) in (
            λ e. f (sym (accepted_as before q) ∙ eq-eqb _ 0 e),
            λ h. eqb-true _ 0 (accepted_as before q ∙ g h),
          );
      answers = λ before q. one_answer D (after start before) (world before) (at before) q;
      refuses = λ before q n h.
          let (f, g) = refusals D (world before) (call_of (after start before) q) (λ _. at_proper D start calls.built a) n in
          let (x, y) = refused_is (outcome before q) n h in
          (λ e. f (x (ap number_of (sym (answer_of_lem before q)) ∙ e)), λ z. ap number_of (answer_of_lem before q) ∙ y (g z));
      unchanged = λ before q n h e. refused_unchanged (after start before) q n (refused_number _ n h e);
    }

    module _ (proper : Proper D) where
      -- ---- condition 2
      pub run_more : (before : List Request) (q : Request) → calls.run D (calls_of start (before ++ (q ∷ []))) ≡ (outcome before q).world
      unfolding calls.run
      run_more before q = ap (calls.after D calls.built) (calls_more start before q) ∙ after_more D calls.built (calls_of start before) (call_of (after start before) q)

      pub standing_after : (before : List Request) → (world before).standing ≡ counted D start before []
      standing_after before = stands_from_calls D (calls_of start before) ∙ sym (counted_same before start calls.built a [])

      pub stands_then : (before : List Request) (q : Request) → (outcome before q).world.standing ≡ standing_then D start before q
      stands_then before q = ap (λ (w : World). w.standing) (sym (run_more before q)) ∙ standing_after (before ++ (q ∷ []))

      -- what is handed on is the plan's, and the table is long enough for it
      handed_known : (before : List Request) (q : Request) (l : ℕ) → In (outcome before q).handed l → knows D l ≡ true
      handed_known before q l m =
          let c = call_of (after start before) q in
          let v = (outcome before q).world in
          let x = did_recent D (world before) (did D (world before) c) in
          let g = call_consistent D (world before) c (run_consistent D (calls_of start before)) in
          let (r, e) = reason_there l x.recent (x.each l m) in
          let y : Explains D (note_all D v.standing) l r = each_found l r x.recent (run_explained D proper x.run v.standing g (λ _ z. z)) e in
          is_known D proper (note_all D v.standing) l r y

      -- and so is every literal that a call writes, and every edge; a page is of bytes
      pub written_known : (before : List Request) (q : Request) (l : ℕ) → In (written_of (outcome before q)) l →
          (knows D l ≡ true) ⊎ ((l < D.edges) ⊎ (l < 256))
      written_known before q l m = by (written_in o.answer o.handed l m)
        where
          o : calls.Outcome
          o = outcome before q

          c : calls.Call
          c = call_of (after start before) q

          by : WrittenIn o.answer o.handed l → (knows D l ≡ true) ⊎ ((l < D.edges) ⊎ (l < 256))
          by (by_hand i) = inl (handed_known before q l i)
          by (by_reason ls e i) = inl (reason_known D proper (calls_of start before) c ls e l i)
          by (by_run gs e i) = inr (inl (found_edges D proper (world before) c gs e l i))
          by (by_page bs e i) = inr (inr (printed_bytes D (world before) c bs e l i))

      handed_shown : (before : List Request) (q : Request) (l : ℕ) → In (outcome before q).handed l → HandsOn (after start before) q l
      handed_shown before q l m =
          let k = after start before in
          let n = did_long D (world before) (did D (world before) (call_of k q)) l m in
          let b = known_below D l (handed_known before q l m) in
          let (u, v) = (one_answer D k (world before) (at before) q).marked.shown l m (omega (arith, b, n, ap length (table_same k q))) in
          record { unset = u; set = v }

      -- a fetch of what was handed on
      module _ (before : List Request) (q : Request) (amid : List Request) (lit : ℤ) (b rest : List ℕ) where
        abbrev n : Kept
        n = keeping (reply (after start before) q)

        abbrev x : Request
        x = ask (reason_for lit) b rest

        fetch_is : room_of (call_of (after n amid) x) ≡ true → call_of (after n amid) x ≡ calls.ask true (calls.reason_for (lit_given lit))
        unfolding call_of query_of room_of
        fetch_is e = ap (λ (r : Bool). calls.ask r (calls.reason_for (lit_given lit))) e

        fetched_back : HandsOn (after start before) q (lit_given lit) → AllQuiet n amid → room_of (call_of (after n amid) x) ≡ true →
            (accepted (reply (after n amid) x).answer ≡ true) × Every (In (standing_then D start before q)) (literals_of (reply (after n amid) x))
        unfolding calls.accepted
        fetched_back h s e =
            let k = after start before in
            let v = (outcome before q).world in
            let na = next_at D k (world before) (at before) q in
            let w = calls.after D v (calls_of n amid) in
            let wa = after_at D amid n v na in
            let (list, f, i, _) = handed_fetched D proper (calls_of start before) (call_of k q) (calls_of n amid) (lit_given lit) (hands_on k (world before) (at before) q (lit_given lit) h) (all_quiet n v na s) in
            let g : (calls.call D (call_of (after n amid) x) w).answer ≡ calls.reason list = ap (λ (c : calls.Call). (calls.call D c w).answer) (fetch_is e) ∙ f in (
              ap accepted (reply_at D (after n amid) w wa x).answer ∙ accepted_is D proper w (call_of (after n amid) x) ∙ ap calls.accepted g,
              subst (Every (In (standing_then D start before q))) (sym (reason_literals D (after n amid) w wa x list g))
                  (subst (λ (ms : List ℕ). Every (In ms) list) (stands_then before q) i),
            )

      pub condition_2 : Condition2 start D
      unfolding call_of query_of of_graph
      condition_2 = record {
        handed = λ before q e.
            consistent_literals D (after start before) (world before) (at before) q ((consistent_is (outcome before q)).0 (ap is_consistent (sym (answer_of_lem before q)) ∙ e));
        shown = λ before q l. (hands_on (after start before) (world before) (at before) q l, handed_shown before q l);
        conflicts = λ before q b rest e f.
            let k = after start before in
            let o = outcome before q in
            let n = keeping (reply k q) in
            let na = next_at D k (world before) (at before) q in
            let z : o.world.last ≡ literals_of (reply n (ask last_left b rest)) = last_given D o.world _ _ (ask_back n o.world na last_left b rest refl f) in
            let g = conflict_backed D proper (calls_of start before) (call_of k q) (conflict_back o (sym (answer_of_lem before q) ∙ e)) in
            subst (λ (l : List ℕ). Backed (standing_then D start before q) (reply k q).table l) z
            (subst (λ (u : List ℕ). Backed (standing_then D start before q) u o.world.last) (sym (reply_at D k (world before) (at before) q).table)
            (subst (λ (ms : List ℕ). Backed ms o.table o.world.last) (stands_then before q) g));
        reasons = λ before lit b rest e.
            let k = after start before in
            let (r, f, g) = fetched_walked D proper (calls_of start before) _ (lit_given lit) _ (ask_back k (world before) (at before) (reason_for lit) b rest refl e) in
            (r, f, subst (λ (ms : List ℕ). Walked D ms r (literals_of (reply k (ask (reason_for lit) b rest)))) (standing_after before) g);
        recorded = λ before q.
            let (recent, e, f) = recorded_stood D proper (calls_of start before) (call_of (after start before) q) in
            (recent, ap (λ (w : World). w.reasons) (run_more before q) ∙ e, f);
        fetchable = fetched_back;
      }

      module _ (plain : Plain D) where
        -- a notification with nothing pending
        module _ (before : List Request) (lit : ℤ) (t list rest : List ℕ) where
          abbrev k : Kept
          k = after start before

          abbrev q : Request
          q = propagate lit (pos 0) t list rest

          abbrev room : Bool
          room = room_for k.state.plan (length (log_for k rest)) (list_short k.state.plan (length list))

          abbrev c : calls.Call
          c = calls.propagate room t (lit_given lit) false

          call_is : call_of k q ≡ c
          unfolding call_of in_range
          call_is = refl

          answer_is : (reply k q).answer ≡ answer_of (calls.call D c (world before))
          answer_is = (reply_at D k (world before) (at before) q).answer ∙ ap (λ (x : calls.Call). answer_of (calls.call D x (world before))) call_is

          standing_is : counted D start (before ++ (q ∷ [])) [] ≡ claim.counted D calls.built (calls_of start before ++ (c ∷ [])) []
          standing_is =
              counted_same (before ++ (q ∷ [])) start calls.built a []
              ∙ ap (λ (cs : List calls.Call). claim.counted D calls.built cs []) (calls_more start before q ∙ ap (λ (x : calls.Call). calls_of start before ++ (x ∷ [])) call_is)

          exactly : accepted (reply k q).answer ≡ true → Covers D (counted D start (before ++ (q ∷ [])) []) → (is_consistent (reply k q).answer ≡ true) ↔ Describes D (counted D start (before ++ (q ∷ [])) [])
          exactly x y =
              let o = calls.call D c (world before) in
              let (f, g) = (condition_3 D proper plain).exact (calls_of start before) room t (lit_given lit) (sym (accepted_is D proper (world before) c) ∙ ap accepted (sym answer_is) ∙ x) (subst (Covers D) standing_is y) in (
                λ u. subst (Describes D) (sym standing_is) (f ((consistent_is o).0 (ap is_consistent (sym answer_is) ∙ u))),
                λ v. ap is_consistent answer_is ∙ (consistent_is o).1 (g (subst (Describes D) standing_is v)),
              )

        pub condition_three : Condition3 start D
        unfolding call_of query_of calls.call of_graph
        condition_three = record {
          conflicts = λ before q b rest e f σ v h.
              let k = after start before in
              let n = keeping (reply k q) in
              let o = calls.call D (call_of k q) (world before) in
              let na = next_at D k (world before) (at before) q in
              (condition_3 D proper plain).conflicts (calls_of start before) (call_of k q) _ (literals_of (reply n (ask last_left b rest)))
              (conflict_back o (sym (reply_at D k (world before) (at before) q).answer ∙ e))
              (ask_back n o.world na last_left b rest refl f) σ v h;
          handed = λ before q amid lit b rest h s f σ v x.
              let k = after start before in
              let n = keeping (reply k q) in
              let o = calls.call D (call_of k q) (world before) in
              let na = next_at D k (world before) (at before) q in
              (condition_3 D proper plain).handed (calls_of start before) (call_of k q) (calls_of n amid) (lit_given lit) _ (literals_of (reply (after n amid) (ask (reason_for lit) b rest)))
              (hands_on k (world before) (at before) q (lit_given lit) h) (all_quiet n o.world na s)
              (ask_back (after n amid) _ (after_at D amid n o.world na) (reason_for lit) b rest refl f) σ v x;
          exact = exactly;
        }
