-- Document 01's cases, its table of refusals and some points that it leaves to be read closely, whole: lines and answers.
use Prim.Native.Nat.{ℕ}
use mathlib.Core.Path.{◌≡◌, refl}
use mathlib.Core.Bool.{Bool, true, false}
use mathlib.Core.List.{List, [], ◌∷◌}
use Rattle.division.specs.Plan.{Plan}
use Rattle.division.specs.Plans.{plan_with, plan, plan_b, plan_d, plan_e, plan_g, plan_h, plan_s}
use Rattle.calls.specs.Lines.{value, init, told, only, back, why, last, output}
use Rattle.calls.proofs.Computes.{answers}

-- document 01's starred cases
unfoldable pub starred : List (List (List ℕ))
starred =
    -- G
    output plan_g (init ∷ told 0 ∷ told 4 ∷ last ∷ back 4 ∷ back 0 ∷ told 5 ∷ why 0 ∷ []) ∷
    -- A, B, C, C2
    output (plan 0 0 [] [] [] [] []) (init ∷ []) ∷
    output (plan_b (2 ∷ [])) (init ∷ last ∷ []) ∷
    output (plan_b (4 ∷ [])) (init ∷ last ∷ []) ∷
    output (plan_b (3 ∷ [])) (init ∷ []) ∷
    -- D, D2
    output plan_d (told 0 ∷ last ∷ []) ∷
    output plan_d (init ∷ why 1 ∷ []) ∷
    -- E with refusal 16, E2, F
    output plan_e (told 1 ∷ why 3 ∷ back 1 ∷ why 3 ∷ []) ∷
    output plan_e (told 0 ∷ why 2 ∷ []) ∷
    output plan_e (value 1 1 ∷ told 1 ∷ last ∷ []) ∷
    -- H
    output plan_h (init ∷ last ∷ []) ∷
    []

pub star : starred ≡
    ((0 ∷ []) ∷ (0 ∷ []) ∷ (1 ∷ []) ∷ (3 ∷ 4 ∷ 0 ∷ []) ∷ (0 ∷ []) ∷ (0 ∷ []) ∷ (0 ∷ 0 ∷ 2 ∷ []) ∷ (3 ∷ 5 ∷ []) ∷ []) ∷
    ((0 ∷ []) ∷ []) ∷
    ((1 ∷ []) ∷ (3 ∷ []) ∷ []) ∷
    ((1 ∷ []) ∷ (3 ∷ []) ∷ []) ∷
    ((0 ∷ []) ∷ []) ∷
    ((1 ∷ []) ∷ (3 ∷ 0 ∷ []) ∷ []) ∷
    ((0 ∷ []) ∷ (3 ∷ []) ∷ []) ∷
    ((0 ∷ 3 ∷ []) ∷ (3 ∷ 1 ∷ []) ∷ (0 ∷ []) ∷ (4 ∷ 16 ∷ []) ∷ []) ∷
    ((0 ∷ 2 ∷ []) ∷ (3 ∷ 0 ∷ []) ∷ []) ∷
    ((1 ∷ []) ∷ (3 ∷ 1 ∷ 2 ∷ []) ∷ []) ∷
    ((1 ∷ []) ∷ (3 ∷ []) ∷ []) ∷
    []
unfolding starred plan_b plan_d plan_e plan_h plan_with plan plan_g answers
star = refl

-- the examples of the table of refusals, 7 to 15 but for 12, which is not given any more; the one of 16 stands with case E
unfoldable pub examples : List (List (List ℕ))
examples =
    -- 7, 8, 9, 10, 11
    output plan_g (value 0 5 ∷ init ∷ []) ∷
    output plan_g (init ∷ init ∷ []) ∷
    output plan_g (told 8 ∷ back 8 ∷ why 8 ∷ []) ∷
    output plan_g (told 4 ∷ told 5 ∷ []) ∷
    output plan_g (told 0 ∷ told 4 ∷ back 0 ∷ []) ∷
    -- 13
    output (plan_s (0 ∷ 0 ∷ 1 ∷ []) 0) (init ∷ []) ∷
    -- 14
    output plan_e (value 0 2 ∷ value 1 1 ∷ init ∷ []) ∷
    -- 15
    output plan_g (init ∷ why 4 ∷ []) ∷
    []

pub examples_shown : examples ≡
    ((4 ∷ 7 ∷ []) ∷ []) ∷
    ((0 ∷ []) ∷ (4 ∷ 8 ∷ []) ∷ []) ∷
    ((4 ∷ 9 ∷ []) ∷ (4 ∷ 9 ∷ []) ∷ (4 ∷ 9 ∷ []) ∷ []) ∷
    ((0 ∷ 1 ∷ 3 ∷ []) ∷ (4 ∷ 10 ∷ []) ∷ []) ∷
    ((0 ∷ []) ∷ (1 ∷ []) ∷ (4 ∷ 11 ∷ []) ∷ []) ∷
    ((4 ∷ 13 ∷ []) ∷ []) ∷
    ((4 ∷ 14 ∷ []) ∷ []) ∷
    ((0 ∷ []) ∷ (4 ∷ 15 ∷ []) ∷ []) ∷
    []
unfolding examples plan_e plan_s plan_with plan plan_g answers
examples_shown = refl

-- Document 02, request 2: a vertex of this weight with the sizes 2, 4 and 6, whose size literals are these
plan_c : ℕ → List ℕ → Plan
plan_c w ls = plan 1 0 [] [] (w ∷ []) ((2 ∷ 4 ∷ 6 ∷ []) ∷ []) (ls ∷ [])

-- with an edge from it to itself, extra walls allowed or not
plan_l : Bool → Plan
plan_l walls = plan_with false walls 1 1 ((0 ∷ 0 ∷ []) ∷ []) (4 ∷ []) (4 ∷ []) ((2 ∷ 4 ∷ 6 ∷ []) ∷ []) ((0 ∷ 2 ∷ []) ∷ [])

-- and two such vertices, and one without sizes that an edge joins to the second
plan_t : Plan
plan_t =
    plan 3 1 ((1 ∷ 2 ∷ []) ∷ []) (8 ∷ []) (4 ∷ 4 ∷ 1 ∷ [])
    ((2 ∷ 4 ∷ 6 ∷ []) ∷ (2 ∷ 4 ∷ 6 ∷ []) ∷ [] ∷ []) ((0 ∷ 2 ∷ []) ∷ (4 ∷ 6 ∷ []) ∷ [] ∷ [])

unfoldable pub crossed : List (List (List ℕ))
unfolding plan_c plan_l plan_t
crossed =
    -- the example of 12: the lower literal, then the upper one, and the notification stands
    output (plan_c 4 (0 ∷ 2 ∷ [])) (only 2 ∷ told 1 ∷ last ∷ back 1 ∷ []) ∷
    -- one literal that is both
    output (plan_c 4 (0 ∷ 1 ∷ [])) (told 1 ∷ last ∷ []) ∷
    -- a conflict of step 1 comes first; with extra walls there is no step 1
    output (plan_l false) (only 2 ∷ only 1 ∷ told 4 ∷ last ∷ []) ∷
    output (plan_l true) (only 2 ∷ only 1 ∷ told 4 ∷ last ∷ []) ∷
    -- the lowest of all that cross, whichever literal is notified
    output plan_t (only 6 ∷ only 5 ∷ only 2 ∷ only 1 ∷ told 8 ∷ last ∷ []) ∷
    output plan_t (only 6 ∷ only 5 ∷ told 8 ∷ last ∷ []) ∷
    -- in initialize's notifications, and in its last pass
    output (plan_c 2 (0 ∷ 2 ∷ [])) (value 0 2 ∷ value 1 1 ∷ init ∷ last ∷ []) ∷
    output (plan_c 4 (0 ∷ 2 ∷ [])) (only 2 ∷ only 1 ∷ value 0 0 ∷ value 1 0 ∷ init ∷ last ∷ []) ∷
    []

pub crossed_shown : crossed ≡
    ((2 ∷ []) ∷ (1 ∷ []) ∷ (3 ∷ 2 ∷ 1 ∷ []) ∷ (0 ∷ []) ∷ []) ∷
    ((1 ∷ []) ∷ (3 ∷ 1 ∷ 1 ∷ []) ∷ []) ∷
    ((2 ∷ []) ∷ (2 ∷ []) ∷ (1 ∷ []) ∷ (3 ∷ 4 ∷ []) ∷ []) ∷
    ((2 ∷ []) ∷ (2 ∷ []) ∷ (1 ∷ []) ∷ (3 ∷ 2 ∷ 1 ∷ []) ∷ []) ∷
    ((2 ∷ []) ∷ (2 ∷ []) ∷ (2 ∷ []) ∷ (2 ∷ []) ∷ (1 ∷ []) ∷ (3 ∷ 2 ∷ 1 ∷ []) ∷ []) ∷
    ((2 ∷ []) ∷ (2 ∷ []) ∷ (1 ∷ []) ∷ (3 ∷ 6 ∷ 5 ∷ []) ∷ []) ∷
    ((1 ∷ []) ∷ (3 ∷ 2 ∷ 1 ∷ []) ∷ []) ∷
    ((2 ∷ []) ∷ (2 ∷ []) ∷ (1 ∷ []) ∷ (3 ∷ 2 ∷ 1 ∷ []) ∷ []) ∷
    []
unfolding crossed plan_with plan answers
crossed_shown = refl

-- points of the text that want a second reading
unfoldable pub points : List (List (List ℕ))
points =
    -- a consistent initialize that notified nothing leaves the last list
    output (plan 1 1 ((0 ∷ 0 ∷ []) ∷ []) (0 ∷ []) (0 ∷ []) [] []) (told 0 ∷ back 0 ∷ init ∷ last ∷ []) ∷
    -- the lowest matching edge decides answers
    output (plan 2 3 ((0 ∷ 1 ∷ []) ∷ (0 ∷ 1 ∷ []) ∷ (0 ∷ 1 ∷ []) ∷ []) (0 ∷ 2 ∷ 4 ∷ []) (1 ∷ 1 ∷ []) [] []) (value 0 1 ∷ value 2 2 ∷ only 0 ∷ told 2 ∷ []) ∷
    output (plan 3 4 ((2 ∷ 1 ∷ []) ∷ (0 ∷ 1 ∷ []) ∷ (0 ∷ 1 ∷ []) ∷ (0 ∷ 2 ∷ []) ∷ []) (0 ∷ 2 ∷ 4 ∷ 6 ∷ []) (1 ∷ 1 ∷ 1 ∷ []) [] []) (only 0 ∷ only 2 ∷ told 7 ∷ back 7 ∷ why 4 ∷ []) ∷
    -- a reason fetched after an undo
    output (plan 2 1 ((0 ∷ 1 ∷ []) ∷ []) (2 ∷ []) (1 ∷ 1 ∷ []) ((1 ∷ 2 ∷ []) ∷ []) ((0 ∷ []) ∷ [])) (told 3 ∷ back 3 ∷ why 0 ∷ []) ∷
    []

pub points_shown : points ≡
    ((1 ∷ []) ∷ (0 ∷ []) ∷ (0 ∷ []) ∷ (3 ∷ 0 ∷ []) ∷ []) ∷
    ((2 ∷ []) ∷ (4 ∷ 14 ∷ []) ∷ []) ∷
    ((2 ∷ []) ∷ (2 ∷ []) ∷ (0 ∷ 4 ∷ []) ∷ (0 ∷ []) ∷ (4 ∷ 16 ∷ []) ∷ []) ∷
    ((0 ∷ 0 ∷ []) ∷ (0 ∷ []) ∷ (3 ∷ []) ∷ []) ∷
    []
unfolding points plan_with plan plan_g answers
points_shown = refl
