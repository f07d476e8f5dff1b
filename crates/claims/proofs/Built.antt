-- The three conditions of the order, on any plan that builds.
use mathlib.Core.Path.{◌≡◌, refl, ◌∙◌}
use mathlib.Core.Logic.{⊎_elim}
use mathlib.Core.Bool.{Bool, false}
use mathlib.Core.List.{List}
use Prim.Native.Nat.{ℕ, ◌<◌, ◌≤◌}
use native.Mathlib.Omega.{arith}
use lib.IntN.{ℤ}
use Rattle.std.specs.Prelude.{None}
use Rattle.base.proofs.Numbered.{with_none}
use Rattle.builder.specs.Input.{refusal}
use Rattle.division.specs.Plan.{Proper, Plain}
use Rattle.division.specs.Noting.{In}
use Rattle.plan.specs.Check.{plan_bad}
use Rattle.plan.proofs.Abstract.{proper_plan}
use Rattle.plan.proofs.Passes.{passes}
use Rattle.builder.specs.Given.{Given}
use Rattle.builder.proofs.Built.{new_proper}
use Rattle.noting.proofs.Logged.{known_small}
use Rattle.refusals.proofs.Known.{known_is}
use Rattle.calls.specs.Calls as calls
use Rattle.graph_division.specs.declared.Answer.TheVariants.{Refused}
use Rattle.graph_division.specs.New.{built}
use Rattle.graph_division.specs.Runs.{Request, after}
use Rattle.simulation.proofs.Running.{fresh_represents, run_represents}
use Rattle.claims.specs.Whole.{written_of}
use Rattle.claims.specs.Conditions.{built_start, built_plan, reply_to, outcome_to, Condition1, Condition2, Condition3}
use Rattle.claims.specs.Runs.{RunsBetween}
use Rattle.claims.specs.Crossed.{CrossedConflicts}
use Rattle.claims.specs.Pages.{Pages}
use Rattle.claims.specs.Standing.{NothingStandingProposed}
use Rattle.claims.proofs.Replying.{At}
use Rattle.claims.proofs.Lists as lists
use Rattle.claims.proofs.Between as between
use Rattle.claims.proofs.Crossed as crossed
use Rattle.claims.proofs.Pages as paged
use Rattle.claims.proofs.Standing as standing

module _ (vs : List ℤ) (n : ℕ) (es : List ℤ) (m : ℕ) (sameSize extraWalls : Bool) (none : (built vs n es m sameSize extraWalls).refusal ≡ None) where
  z : refusal vs n es m ≡ 0
  unfolding built
  z = with_none _ none

  at_start : At (built_plan vs n es m sameSize extraWalls) (built_start vs n es m sameSize extraWalls) calls.built
  at_start = record { represents = fresh_represents vs n es m sameSize extraWalls none; plan = refl }

  -- the plan is the one that was given, number by number
  pub given_built :
      let k = built_start vs n es m sameSize extraWalls in
      Given vs n es m sameSize extraWalls k.state.plan k.state.edges.ends
  unfolding built
  given_built = (new_proper vs n es m sameSize extraWalls z).2

  pub proper_built : Proper (built_plan vs n es m sameSize extraWalls)
  unfolding built
  proper_built = proper_plan _ _ (new_proper vs n es m sameSize extraWalls z).0

  -- under either option
  pub condition_1 : Condition1 (built_start vs n es m sameSize extraWalls) (built_plan vs n es m sameSize extraWalls)
  condition_1 = lists.condition_1 _ _ at_start

  pub condition_2 : Condition2 (built_start vs n es m sameSize extraWalls) (built_plan vs n es m sameSize extraWalls)
  condition_2 = lists.condition_2 _ _ at_start proper_built

  -- document 02, request 1
  pub runs_between : RunsBetween (built_start vs n es m sameSize extraWalls) (built_plan vs n es m sameSize extraWalls)
  runs_between = between.runs_between _ _ at_start proper_built

  -- document 02, request 2
  pub crossed_conflicts : CrossedConflicts (built_start vs n es m sameSize extraWalls) (built_plan vs n es m sameSize extraWalls)
  crossed_conflicts = crossed.crossed_conflicts _ _ at_start proper_built

  -- document 02, request 3
  pub pages : Pages (built_start vs n es m sameSize extraWalls) (built_plan vs n es m sameSize extraWalls)
  pages = paged.pages _ _ at_start proper_built

  -- document 02, request 5: "under either option"
  pub nothing_standing_proposed : NothingStandingProposed (built_start vs n es m sameSize extraWalls) (built_plan vs n es m sameSize extraWalls)
  nothing_standing_proposed = standing.nothing_standing_proposed _ _ at_start proper_built

  -- after any list of requests the plan passes its own test, which is a call of its own
  pub still_passes : (qs : List Request) →
      let k = after (built_start vs n es m sameSize extraWalls) qs in plan_bad k.state.plan k.state.edges.ends ≡ false
  still_passes qs = passes _ _ (run_represents vs n es m sameSize extraWalls none qs).represents.represents.proper

  -- "Verdicts turned away": a call's refusal has a number of that table
  pub refusal_range : (before : List Request) (q : Request) (m' : ℕ) →
      (reply_to (built_start vs n es m sameSize extraWalls) before q).answer ≡ Refused m' → (0 < m') × (m' ≤ 19)
  refusal_range = lists.refusal_range _ _ at_start

  -- what a call writes, literals handed on, a list fetched or the edges of a run, is the plan's: "Literals run from 0 to
  -- 8191." A page's are bytes.
  pub written_small : (before : List Request) (q : Request) (l : ℕ) →
      let o = outcome_to (built_plan vs n es m sameSize extraWalls) (built_start vs n es m sameSize extraWalls) before q in
      In (written_of o) l → l ≤ 8191
  unfolding built
  written_small before q l i =
      let p = (new_proper vs n es m sameSize extraWalls z).0 in
      ⊎_elim (λ k. known_small _ _ p l (known_is _ _ p l ∙ k))
      (λ other. ⊎_elim (λ (h : l < (built_plan vs n es m sameSize extraWalls).edges). omega (arith, h, proper_built.fine.fits))
      (λ (h : l < 256). omega (arith, h)) other)
      (lists.written_known _ _ at_start proper_built before q l i)

-- "Both options off, on any plan that builds"
module _ (vs : List ℤ) (n : ℕ) (es : List ℤ) (m : ℕ) (z : (built vs n es m false false).refusal ≡ None) where
  plain_built : Plain (built_plan vs n es m false false)
  plain_built = record { sizes = (given_built vs n es m false false z).same_size; walls = (given_built vs n es m false false z).extra_walls }

  pub condition_3 : Condition3 (built_start vs n es m false false) (built_plan vs n es m false false)
  condition_3 = lists.condition_three _ _ (at_start vs n es m false false z) (proper_built vs n es m false false z) plain_built
