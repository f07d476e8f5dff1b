-- What code tests first, to search less.
-- The analysis as code makes it: a region's vertices are searched for two bounds that do not meet only where the region's own bounds do
-- not, which compares two words. The search finds nothing elsewhere (proofs/Meeting.antt), so this is division's `analyzed`.
use Rattle.std.specs.Prelude.{◌≡◌, true, List, ℕ, zero, suc, ◌+◌, ◌*◌, ◌%◌, ◌<◌, ◌≤◌, eqb, ltb, get_or}
use Rattle.base.specs.Iter.{iter, pick}
use Rattle.division.specs.Plan.{Plan}
use Rattle.division.specs.State.{State}
use Rattle.division.specs.Analysis.{View, Out, guarded, lid, rid, matches, meets, parts, spreads, step1, step2, step3, step5}
use Rattle.analysis.specs.Placed.{Words, on}

-- how many of the first n edges there are up to the last disconnected one
unfoldable pub disconnected_end : List ℕ → ℕ → ℕ
disconnected_end noted zero = 0
disconnected_end noted (suc n) = pick (eqb (get_or noted n 0) 1) (suc n) (disconnected_end noted n)

-- where regions a and b in this order are kept: two pairs of labels below 64 never share a place
unfoldable pub pair_place : ℕ → ℕ → ℕ
pair_place a b = 64 * (a % 64) + b % 64

-- the edges kept, each plus 1, and 0 where none is: each is one of the first n, and where edge h of these matches edge g, the place of
-- g's two regions keeps an edge, none above h
pub record Walled (x : Words) (n : ℕ) (walls : List ℕ) : Type 0 where
  pub below : (i : ℕ) → get_or walls i 0 ≤ n
  pub some : (g h : ℕ) → h < n → on matches x g h ≡ true → 0 < get_or walls (pair_place (on lid x g) (on rid x g)) 0
  pub least : (g h : ℕ) → h < n → on matches x g h ≡ true → get_or walls (pair_place (on lid x g) (on rid x g)) 0 ≤ h + 1

module _ (d : Plan) (s : State) (w : View) where
  unfoldable pub meets_first : ℕ → Out → Out
  meets_first r o = pick (ltb (w.up r) (w.low r)) (meets d s w r o) o

  unfoldable pub step4_first : Out → Out
  step4_first o = iter (guarded (spreads d s w)) d.vertices (iter (guarded (parts d s w)) d.edges (iter (guarded meets_first) d.vertices o))

  -- where v is what applying a literal told of crossed bounds
  unfoldable pub analyzed_first : ℕ → Out
  analyzed_first v = step5 d s w (step4_first (step3 d s w (step2 d s w v (step1 d s w))))
