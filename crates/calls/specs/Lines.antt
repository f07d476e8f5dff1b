-- Lines of calls as the program reads them, and what it prints, as numbers.
use Rattle.std.specs.Prelude.{ℕ, zero, ◌/◌, Bool, true, false, List, [], ◌∷◌, set}
use Rattle.base.specs.Iter.{pick}
use Rattle.base.specs.Lists.{tab}
use Rattle.division.specs.Plan.{Plan}
use Rattle.calls.specs.Table.{unset_in, enter, variables}
use Rattle.calls.specs.Calls.{World, built, initialize, propagate, undo, reason_for, last_left, ask, Answer}
use Rattle.calls.specs.Calls.{consistent, conflicting, noted, undone, refused, reason, found_run, printed_page, accepted}
use Rattle.calls.specs.Calls.{Outcome, call}

pub data Line : Type 0 where
  value : (v code : ℕ) → Line
  init : Line
  -- a pending number that is zero, or another one
  told : (l : ℕ) → Line
  only : (l : ℕ) → Line
  back : (l : ℕ) → Line
  why : (l : ℕ) → Line
  last : Line

pub record Desk : Type 0 where
  pub world : World
  pub table : List ℕ
  -- the newest first
  pub printed : List (List ℕ)

-- C is 0 and the handed-on literals, X is 1, L is 2, R is 3 and the list, E is 4 and the number. No line asks for a
-- run or a page.
unfoldable pub print : Answer → List ℕ → List ℕ
print consistent hs = 0 ∷ hs
print conflicting hs = 1 ∷ []
print noted hs = 2 ∷ []
print undone hs = 0 ∷ []
print (refused n) hs = 4 ∷ (n ∷ [])
print (reason ls) hs = 3 ∷ ls
print (found_run gs) hs = 3 ∷ gs
print (printed_page bytes) hs = 3 ∷ bytes

unfoldable pub printing : Outcome → List ℕ → Desk → Desk
printing o t a = record { world = o.world; table = t; printed = print o.answer o.handed ∷ a.printed }

-- N marks an unset variable, and takes the mark back if refused
unfoldable pub notified : Plan → ℕ → Bool → Desk → Desk
notified d l pending a =
    let o = call d (propagate true (pick (unset_in a.table l) (enter a.table l) a.table) l pending) a.world in
    printing o (pick (accepted o.answer) o.table a.table) a

unfoldable pub obey : Plan → Line → Desk → Desk
obey d (value v c) a = record { world = a.world; table = set a.table v c; printed = a.printed }
obey d init a = let o = call d (initialize true a.table) a.world in printing o o.table a
obey d (told l) a = notified d l false a
obey d (only l) a = notified d l true a
obey d (back l) a = let o = call d (undo true l) a.world in printing o (pick (accepted o.answer) (set a.table (l / 2) 0) a.table) a
obey d (why l) a = let o = call d (ask true (reason_for l)) a.world in printing o a.table a
obey d last a = let o = call d (ask true last_left) a.world in printing o a.table a

unfoldable pub obey_all : Plan → List Line → Desk → Desk
obey_all d [] a = a
obey_all d (x ∷ xs) a = obey_all d xs (obey d x a)

unfoldable pub turned : List (List ℕ) → List (List ℕ) → List (List ℕ)
turned [] b = b
turned (x ∷ xs) b = turned xs (x ∷ b)

unfoldable pub output : Plan → List Line → List (List ℕ)
output d xs = turned (obey_all d xs (record { world = built; table = tab (λ i. 0) (variables d); printed = [] })).printed []
