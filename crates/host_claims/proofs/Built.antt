-- The conditions of the order, of the C host's calls, from bytes that `zuntjev_build` built.
--     host_given          the plan of these bytes is the one that was given, number by number
--     host_conditions     conditions 1 to 3 of any list of calls on them
--     host_checked        after any list of calls `zuntjev_check` answers 0
use mathlib.Core.Path.{◌≡◌, refl, sym, ap, ap₂, subst, ◌∙◌}
use mathlib.Core.Bool.{Bool, true, false, not, true≢false}
use mathlib.Core.List.{List, []}
use Prim.Native.Nat.{ℕ, ◌<◌, ◌≤◌}
use native.Mathlib.Omega.{arith}
use lib.Dec.{eqb, ltb}
use lib.IntN.{ℤ, pos, negsuc, neg_ℤ}
use lib.ListN.{length, replicate}
use borrow.Author.Tests.{eq-eqb, eqb-false, eqb-true, le-ltb}
use Rattle.std.specs.Prelude.{None}
use Rattle.base.proofs.Numbered.{none_with_0}
use Rattle.base.specs.Iter.{pick}
use Rattle.base.specs.Range.{in_range}
use Rattle.base.proofs.Loop.{pick_yes, pick_no, tested}
use Rattle.noting.specs.Words.{capped}
use Rattle.division.specs.Plan.{Plan}
use Rattle.division.specs.Noting.{In}
use Rattle.plan.specs.Plan.{plan_of}
use Rattle.plan.specs.Check.{plan_bad}
use Rattle.builder.specs.Input.{refusal}
use Rattle.builder.specs.Given.{Given}
use Rattle.calls.specs.Calls as calls
use Rattle.graph_division.specs.declared.Answer.TheVariants.{Refused}
use Rattle.graph_division.specs.declared.GraphDivision.{GraphDivision}
use Rattle.graph_division.specs.New.{built}
use Rattle.graph_division.specs.Runs.{Request, Kept, kept, reply, after}
use Rattle.simulation.specs.Start.{just_built}
use Rattle.claims.specs.Whole.{literals_of, written_of}
use Rattle.claims.specs.Conditions.{reply_to, outcome_to, Condition1, Condition2, Condition3}
use Rattle.claims.specs.Runs.{RunsBetween}
use Rattle.claims.specs.Crossed.{CrossedConflicts}
use Rattle.claims.specs.Pages.{Pages}
use Rattle.claims.specs.Standing.{NothingStandingProposed}
use Rattle.claims.proofs.Built as claims
use Rattle.base.specs.Bytes.{word_at}
use Rattle.byte_calls.specs.Codes.{fitted}
use Rattle.byte_calls.specs.Layout.{plan_in, ends_in, state_in, cursor_in}
use Rattle.byte_calls.specs.Numbers.{numbers_in}
use Rattle.byte_calls.specs.Host.{short, build_code}
use Rattle.byte_calls.specs.Build.{is_on, build_refused, BuiltIn}
use Rattle.byte_calls.specs.Check.{check_code}
use Rattle.byte_calls.proofs.Building.{not_refused}
use Rattle.host_claims.specs.HostRuns.{kept_in, LentFor, Said, HostMade, AllHostMade, HostAnswers, Tells, asks_page, values_at, HostConditions}
use Rattle.host_claims.proofs.Signed.{down, down_negated}
use Rattle.host_claims.proofs.Runs.{host_made, host_runs, host_fits}
use Rattle.host_claims.proofs.Reading.{host_reads}
use Rattle.host_claims.proofs.Telling.{tells}
use Rattle.host_claims.proofs.Third.{bytes_condition}

-- built by the host, with a cursor of zeros
start_is : (vs : List ℤ) (n : ℕ) (es : List ℤ) (m : ℕ) (a b : ℤ) (before state log : List ℕ) → build_refused vs n es m before ≡ false → BuiltIn vs n es m a b before state →
    kept_in state (replicate 8 0) log ≡ just_built (built vs n es m (is_on a) (is_on b))
unfolding cursor_in word_at
start_is vs n es m a b before state log r s = ap (λ x. kept x (record { used = 0; standing = 0 }) []) (s.is r)

-- ---- `zuntjev_build` answered 0
fitted_none : (n : ℕ) → fitted n ≡ 0 → n ≡ 0
unfolding fitted capped
fitted_none n e = tested (ltb n 2147483647)
    (λ t. sym (pick_yes n 2147483647 t) ∙ e)
    (λ t. let z : ◌≡◌ {A = ℕ} 2147483647 0 = sym (pick_no n 2147483647 t) ∙ e in absurd (omega arith))

module _ (vs : List ℤ) (n : ℕ) (es : List ℤ) (m : ℕ) (before : List ℕ) (c : build_code vs n es m before ≡ pos 0) where
  build_accepted : (refusal vs n es m ≡ 0) × (build_refused vs n es m before ≡ false)
  unfolding build_code down
  build_accepted = tested (eqb (refusal vs n es m) 0)
      (λ t. tested (ltb (length before) 133440)
      (λ u. let z : ◌≡◌ {A = ℕ} 7 0 = ap down (sym (pick_yes _ _ t ∙ pick_yes short (pos 0) u) ∙ c) in absurd (omega arith))
      (λ u. (eqb-true (refusal vs n es m) 0 t, not_refused vs n es m before t u)))
      (λ t. let z = sym (down_negated (fitted (refusal vs n es m))) ∙ ap down (sym (pick_no _ _ t) ∙ c) in
      absurd (eqb-false (refusal vs n es m) 0 t (fitted_none (refusal vs n es m) z)))

  built_accepted : (a b : Bool) → (built vs n es m a b).refusal ≡ None
  unfolding built
  built_accepted a b = none_with_0 _ build_accepted.0

-- "Both options off"
off : is_on (pos 0) ≡ false
unfolding in_range
off = refl

off_condition : (vs : List ℤ) (n : ℕ) (es : List ℤ) (m : ℕ) (a b : Bool) → a ≡ false → b ≡ false → (built vs n es m a b).refusal ≡ None →
    let k = just_built (built vs n es m a b) in Condition3 k (plan_of k.state.plan k.state.edges.ends)
off_condition vs n es m true b e f z = absurd (true≢false e)
off_condition vs n es m false true e f z = absurd (true≢false f)
off_condition vs n es m false false e f z = claims.condition_3 vs n es m z

module _ (vs : List ℤ) (n : ℕ) (es : List ℤ) (m : ℕ) (a b : ℤ) (before state log : List ℕ) (c : build_code vs n es m before ≡ pos 0) (s : BuiltIn vs n es m a b before state) where
  abbrev start : Kept
  start = kept_in state (replicate 8 0) log

  start_fresh : start ≡ just_built (built vs n es m (is_on a) (is_on b))
  start_fresh = start_is vs n es m a b before state log (build_accepted vs n es m before c).1 s

  accepted : (built vs n es m (is_on a) (is_on b)).refusal ≡ None
  accepted = built_accepted vs n es m before c (is_on a) (is_on b)

  given_in : Given vs n es m (is_on a) (is_on b) (state_in state).plan (state_in state).edges.ends
  given_in = subst (λ (k : Kept). Given vs n es m (is_on a) (is_on b) k.state.plan k.state.edges.ends) (sym start_fresh)
      (claims.given_built vs n es m (is_on a) (is_on b) accepted)

  -- what holds of the built state and its plan holds of what the bytes stand for
  of_start : (P : Kept → Plan → Type 0) →
      (let k = just_built (built vs n es m (is_on a) (is_on b)) in P k (plan_of k.state.plan k.state.edges.ends)) →
      P start (plan_of (state_in state).plan (state_in state).edges.ends)
  of_start P x = subst (λ (k : Kept). P k (plan_of k.state.plan k.state.edges.ends)) (sym start_fresh) x

  first_condition : Condition1 start (plan_of (state_in state).plan (state_in state).edges.ends)
  first_condition = of_start Condition1 (claims.condition_1 vs n es m (is_on a) (is_on b) accepted)

  answered : {qs : List Request} {k k' : Kept} {q : Request} {list : List ℕ} {x : Said} →
      AllHostMade start qs k → HostMade k q list x k' → HostAnswers (after start qs) q list x
  answered {q = q} {list = list} {x = x} all made = subst (λ (h : Kept). HostAnswers h q list x) (host_runs all) (host_made made).answers

  second_condition : Condition2 start (plan_of (state_in state).plan (state_in state).edges.ends)
  second_condition = of_start Condition2 (claims.condition_2 vs n es m (is_on a) (is_on b) accepted)

  small : (qs : List Request) (q : Request) (l : ℕ) → In (written_of (outcome_to (plan_of (state_in state).plan (state_in state).edges.ends) start qs q)) l → l ≤ 8191
  small = of_start (λ k d. (qs : List Request) (q : Request) (l : ℕ) → In (written_of (outcome_to d k qs q)) l → l ≤ 8191)
      (claims.written_small vs n es m (is_on a) (is_on b) accepted)

  ranged : (qs : List Request) (q : Request) (i : ℕ) → (reply_to start qs q).answer ≡ Refused i → (0 < i) × (i ≤ 19)
  ranged = of_start (λ k d. (qs : List Request) (q : Request) (i : ℕ) → (reply_to k qs q).answer ≡ Refused i → (0 < i) × (i ≤ 19))
      (claims.refusal_range vs n es m (is_on a) (is_on b) accepted)

  telling : {qs : List Request} {k k' : Kept} {q : Request} {list : List ℕ} {x : Said} →
      AllHostMade start qs k → HostMade k q list x k' → Tells x.code (reply (after start qs) q).answer
  telling {qs} {q = q} all made = tells _ _ (answered all made).code (ranged qs q)

  reading : {qs : List Request} {k k' : Kept} {q : Request} {list : List ℕ} {x : Said} →
      AllHostMade start qs k → HostMade k q list x k' → (n : ℕ) → x.code ≡ pos n →
      values_at (asks_page q) x.list n ≡ literals_of (reply (after start qs) q)
  reading {qs} {q = q} all made = host_reads _ (first_condition.answers qs q) (answered all made) made (small qs q)

  third_condition : a ≡ pos 0 → b ≡ pos 0 → Condition3 start (plan_of (state_in state).plan (state_in state).edges.ends)
  third_condition e f = of_start Condition3 (off_condition vs n es m (is_on a) (is_on b) (ap is_on e ∙ off) (ap is_on f ∙ off) accepted)

  passing : (qs : List Request) → plan_bad (after start qs).state.plan (after start qs).state.edges.ends ≡ false
  passing = of_start (λ k d. (qs : List Request) → plan_bad (after k qs).state.plan (after k qs).state.edges.ends ≡ false)
      (claims.still_passes vs n es m (is_on a) (is_on b) accepted)

  checking : {qs : List Request} {k : Kept} → AllHostMade start qs k → (bytes log' cursor : List ℕ) → LentFor k bytes log' cursor →
      check_code bytes ≡ pos 0
  unfolding check_code state_in
  checking {qs} all bytes log' cursor lent =
      let is : state_in bytes ≡ (after start qs).state = ap (λ (h : Kept). h.state) (lent.stands ∙ host_runs all) in
      let fine : plan_bad (state_in bytes).plan (state_in bytes).edges.ends ≡ false =
      subst (λ (s : GraphDivision). plan_bad s.plan s.edges.ends ≡ false) (sym is) (passing qs) in
      pick_no _ _ (le-ltb (length bytes) 133440 lent.state_long) ∙ pick_no _ _ fine

  conditions : HostConditions a b start (plan_of (state_in state).plan (state_in state).edges.ends)
  conditions = record {
    answers = answered;
    tells = telling;
    fits = λ {qs} {k} {k'} {q} all made. host_fits _ (first_condition.answers qs q) (answered all made) made;
    reads = reading;
    runs_between = of_start RunsBetween (claims.runs_between vs n es m (is_on a) (is_on b) accepted);
    crossed_conflicts = of_start CrossedConflicts (claims.crossed_conflicts vs n es m (is_on a) (is_on b) accepted);
    pages = of_start Pages (claims.pages vs n es m (is_on a) (is_on b) accepted);
    nothing_standing_proposed =
        of_start NothingStandingProposed (claims.nothing_standing_proposed vs n es m (is_on a) (is_on b) accepted);
    condition_1 = first_condition;
    condition_2 = second_condition;
    condition_3 = third_condition;
    of_bytes = λ e f. bytes_condition start _ (record { answers = answered; tells = telling; reads = reading; ranged = ranged }) (third_condition e f);
  }

-- from the bytes that `zuntjev_build` left where it answered 0, with a cursor of zeros and any log
pub host_conditions : (vertices : List ℕ) (n : ℕ) (edges : List ℕ) (m : ℕ) (sameSize extraWalls : ℤ) (before state log : List ℕ) →
    build_code (numbers_in 4288 vertices) n (numbers_in 384 edges) m before ≡ pos 0 →
    BuiltIn (numbers_in 4288 vertices) n (numbers_in 384 edges) m sameSize extraWalls before state →
    HostConditions sameSize extraWalls (kept_in state (replicate 8 0) log) (plan_of (state_in state).plan (state_in state).edges.ends)
host_conditions vertices n edges m sameSize extraWalls before state log c s =
    conditions (numbers_in 4288 vertices) n (numbers_in 384 edges) m sameSize extraWalls before state log c s

-- and their plan is the one that was given, number by number
pub host_given : (vertices : List ℕ) (n : ℕ) (edges : List ℕ) (m : ℕ) (sameSize extraWalls : ℤ) (before state : List ℕ) →
    build_code (numbers_in 4288 vertices) n (numbers_in 384 edges) m before ≡ pos 0 →
    BuiltIn (numbers_in 4288 vertices) n (numbers_in 384 edges) m sameSize extraWalls before state →
    Given (numbers_in 4288 vertices) n (numbers_in 384 edges) m (is_on sameSize) (is_on extraWalls) (state_in state).plan (state_in state).edges.ends
host_given vertices n edges m sameSize extraWalls before state c s =
    given_in (numbers_in 4288 vertices) n (numbers_in 384 edges) m sameSize extraWalls before state [] c s

-- and after any list of calls on them `zuntjev_check` answers 0 of the state's bytes
pub host_checked : (vertices : List ℕ) (n : ℕ) (edges : List ℕ) (m : ℕ) (sameSize extraWalls : ℤ) (before state log : List ℕ) →
    build_code (numbers_in 4288 vertices) n (numbers_in 384 edges) m before ≡ pos 0 →
    BuiltIn (numbers_in 4288 vertices) n (numbers_in 384 edges) m sameSize extraWalls before state →
    {qs : List Request} {k : Kept} → AllHostMade (kept_in state (replicate 8 0) log) qs k →
    (bytes log' cursor : List ℕ) → LentFor k bytes log' cursor → check_code bytes ≡ pos 0
host_checked vertices n edges m sameSize extraWalls before state log c s =
    checking (numbers_in 4288 vertices) n (numbers_in 384 edges) m sameSize extraWalls before state log c s
