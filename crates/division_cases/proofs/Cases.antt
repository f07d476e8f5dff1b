-- Document 01's cases, the analysis alone: what it finds and proposes, computed.
use mathlib.Core.Bool.{false, true}
use Prim.Native.Nat.{ℕ}
use mathlib.Core.Path.{◌≡◌, refl}
use mathlib.Core.List.{List, [], ◌∷◌, map}
use Rattle.division.specs.Plan.{Plan}
use Rattle.division.specs.Reasons.{list_of}
use Rattle.division.specs.Conflicts.{conflict_list}
use Rattle.division.specs.Analysis.{zero_size, Verdict, going, conflict}
use Rattle.division.specs.Noting.{note_all}
use Rattle.division.specs.Runs.{analysis}
use Rattle.division.proofs.Computes.{computes}
use Rattle.division.specs.Plans.{plan_with, plan, plan_b, plan_d, plan_e, plan_g, plan_h, plan_s}

-- 0 and no list where the analysis goes on, 1 and the list of a conflict, 2 where a fixed size is 0
code : Plan → List ℕ → Verdict → List ℕ
code d ls going = 0 ∷ []
code d ls (conflict c) = 1 ∷ conflict_list d (note_all d ls) c
code d ls zero_size = 2 ∷ []

-- the verdict, and each proposal with its reason, the newest first
shown : Plan → List ℕ → List (List ℕ)
unfolding code
shown d ls = code d ls (analysis d ls).verdict ∷ map (λ p. p.lit ∷ list_of d (note_all d ls) p.why) (analysis d ls).props

-- the plan of case D, extra walls allowed
plan_w : Plan
plan_w = plan_with false true 1 1 ((0 ∷ 0 ∷ []) ∷ []) (0 ∷ []) (1 ∷ []) [] []

-- document 02, request 2: one vertex with three sizes, whose size literals are these
plan_c : List ℕ → Plan
plan_c ls = plan 1 0 [] [] (4 ∷ []) ((2 ∷ 4 ∷ 6 ∷ []) ∷ []) (ls ∷ [])

-- the analysis, with what stands, newest first
table : List (List (List ℕ))
table =
    shown (plan 0 0 [] [] [] [] []) [] ∷
    shown (plan_b (2 ∷ [])) [] ∷
    shown (plan_b (4 ∷ [])) [] ∷
    shown (plan_b (3 ∷ [])) [] ∷
    shown plan_d (0 ∷ []) ∷
    shown plan_d [] ∷
    shown plan_e (1 ∷ []) ∷
    shown plan_e (0 ∷ []) ∷
    shown plan_h [] ∷
    shown plan_g [] ∷
    shown plan_g (0 ∷ []) ∷
    shown plan_g (4 ∷ 0 ∷ []) ∷
    shown plan_g (5 ∷ []) ∷
    shown (plan_s (1 ∷ 1 ∷ 1 ∷ []) 2) [] ∷
    shown (plan_s (0 ∷ 0 ∷ 1 ∷ []) 0) [] ∷
    shown plan_w (0 ∷ []) ∷
    shown plan_w [] ∷
    shown (plan_c (0 ∷ 2 ∷ [])) (1 ∷ 2 ∷ []) ∷
    shown (plan_c (0 ∷ 1 ∷ [])) (1 ∷ []) ∷
    []

cases : table ≡
    ((0 ∷ []) ∷ []) ∷
    ((1 ∷ []) ∷ []) ∷
    ((1 ∷ []) ∷ []) ∷
    ((0 ∷ []) ∷ []) ∷
    ((1 ∷ 0 ∷ []) ∷ []) ∷
    ((0 ∷ []) ∷ (1 ∷ []) ∷ []) ∷
    ((0 ∷ []) ∷ (3 ∷ 1 ∷ []) ∷ []) ∷
    ((0 ∷ []) ∷ (2 ∷ 0 ∷ []) ∷ []) ∷
    ((1 ∷ []) ∷ (0 ∷ []) ∷ []) ∷
    ((0 ∷ []) ∷ []) ∷
    ((0 ∷ []) ∷ []) ∷
    ((1 ∷ 4 ∷ 0 ∷ []) ∷ []) ∷
    ((0 ∷ []) ∷ (0 ∷ 5 ∷ []) ∷ (2 ∷ 5 ∷ []) ∷ (0 ∷ 5 ∷ []) ∷ []) ∷
    ((0 ∷ []) ∷ (0 ∷ []) ∷ (2 ∷ []) ∷ []) ∷
    ((2 ∷ []) ∷ (2 ∷ []) ∷ (0 ∷ []) ∷ []) ∷
    ((0 ∷ []) ∷ []) ∷
    ((0 ∷ []) ∷ []) ∷
    ((1 ∷ 2 ∷ 1 ∷ []) ∷ []) ∷
    ((1 ∷ 1 ∷ 1 ∷ []) ∷ []) ∷
    []
unfolding table shown code plan_with plan plan_g plan_b plan_d plan_e plan_h plan_s plan_w plan_c computes
cases = refl
