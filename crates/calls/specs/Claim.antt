-- Condition 3, over any list of calls, and what stands as the calls tell: document 01, "Undo log".
use Rattle.std.specs.Prelude.{ℕ, suc, ◌<◌, ◌≡◌, ◌⊎◌, ◌↔◌, Bool, true, false, List, [], ◌∷◌, ◌++◌}
use Rattle.base.specs.Iter.{pick}
use Rattle.base.specs.Lists.{Every}
use Rattle.sat.specs.Literal.{negate, Holds}
use Rattle.division.specs.Plan.{Plan}
use Rattle.division.specs.Division.{Valid, Describes}
use Rattle.division.specs.Noting.{In}
use Rattle.calls.specs.Table.{entered}
use Rattle.calls.specs.Look.{Judgement, fine, clash, stopped, looked}
use Rattle.calls.specs.Calls.{World, built, Query, Call, initialize, propagate, undo, reason_for, last_left, ask, consistent, conflicting, reason, accepted, Outcome, call, after, run}

unfoldable pub is_clash : Judgement → Bool
is_clash fine = false
is_clash clash = true
is_clash (stopped n) = false

-- literals added in order, up to and with the first whose own analysis is a conflict
unfoldable pub add_up_to : Plan → List ℕ → List ℕ → List ℕ → List ℕ
add_up_to d ls t [] = ls
add_up_to d ls t (l ∷ ms) = pick (is_clash (looked d (l ∷ ls) t).judgement) (l ∷ ls) (add_up_to d (l ∷ ls) (looked d (l ∷ ls) t).table ms)

unfoldable pub tail : List ℕ → List ℕ
tail [] = []
tail (x ∷ xs) = xs

-- what stands after an accepted call, the newest first
unfoldable pub counts : Plan → Call → List ℕ → List ℕ
counts d (initialize room t) ls = add_up_to d ls t (entered d t)
counts d (propagate room t l pending) ls = l ∷ ls
counts d (undo room l) ls = tail ls
counts d (ask room q) ls = ls

-- every other call, refused ones included, leaves what stands
unfoldable pub counted : Plan → World → List Call → List ℕ → List ℕ
counted d w [] ls = ls
counted d w (c ∷ cs) ls = counted d (call d c w).world cs (pick (accepted (call d c w).answer) (counts d c ls) ls)

-- every variable of the plan has a literal in the list
pub record Covers (d : Plan) (ls : List ℕ) : Type 0 where
  pub edge : (g : ℕ) → g < d.edges → In ls (d.edge_lit g) ⊎ In ls (negate (d.edge_lit g))
  pub domain : (v j : ℕ) → v < d.vertices → suc j < d.domain_len v → In ls (d.dom_lit v j) ⊎ In ls (negate (d.dom_lit v j))

-- a refused call or a query, as a fetch is, where the world is w
pub data Quiet (d : Plan) (w : World) : Call → Type 0 where
  a_query : (room : Bool) (q : Query) → Quiet d w (ask room q)
  turned_away : (c : Call) → accepted (call d c w).answer ≡ false → Quiet d w c

pub data AllQuiet (d : Plan) : World → List Call → Type 0 where
  done : {w : World} → AllQuiet d w []
  next : {w : World} {c : Call} {cs : List Call} → Quiet d w c → AllQuiet d (call d c w).world cs → AllQuiet d w (c ∷ cs)

-- calls before, then call c
abbrev pub answered : Plan → List Call → Call → Outcome
answered d before c = call d c (run d before)

-- any list of calls from the built world, whatever the table holds at each
pub record Condition3 (d : Plan) : Type 0 where
  -- no call answers a conflict whose listed literals, which a fetch straight after it gives, all hold in some valid division
  pub conflicts : (before : List Call) (c : Call) (room : Bool) (list : List ℕ) → (answered d before c).answer ≡ conflicting →
      (call d (ask room last_left) (answered d before c).world).answer ≡ reason list →
      (σ : ℕ → Bool) → Valid d σ → Every (Holds σ) list → ⊥
  -- no call hands on a literal that fails in a valid division where its reason, fetched before any later accepted call but a fetch, holds
  pub handed : (before : List Call) (c : Call) (amid : List Call) (l : ℕ) (room : Bool) (list : List ℕ) →
      In (answered d before c).handed l → AllQuiet d (answered d before c).world amid →
      (call d (ask room (reason_for l)) (after d (answered d before c).world amid)).answer ≡ reason list →
      (σ : ℕ → Bool) → Valid d σ → Every (Holds σ) list → Holds σ l
  -- an accepted notification with nothing pending, after which every variable has a standing literal,
  -- is answered consistent exactly when the standing literals describe a valid division
  pub exact : (before : List Call) (room : Bool) (t : List ℕ) (l : ℕ) →
      accepted (answered d before (propagate room t l false)).answer ≡ true →
      Covers d (counted d built (before ++ (propagate room t l false ∷ [])) []) →
      ((answered d before (propagate room t l false)).answer ≡ consistent) ↔ Describes d (counted d built (before ++ (propagate room t l false ∷ [])) [])
