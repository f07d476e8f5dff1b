-- A graph that passes the test can be walked, and no other passes it.
use Prim.Native.Nat.{ℕ, ◌≤◌}
use mathlib.Core.Path.{◌≡◌, refl, ◌∙◌}
use mathlib.Core.Bool.{Bool, true, false, false≢true}
use mathlib.Core.List.{List, []}
use lib.Dec.{ltb}
use lib.ListN.{length, get_or}
use borrow.Author.Tests.{ltb-true, ltb-false, lt-ltb, le-ltb}
use Rattle.base.specs.Iter.{pick}
use Rattle.base.proofs.Loop.{pick_no}
use Rattle.graph.specs.Bounds.{Within, Fine, ends_below, walkable}
use Rattle.graph.proofs.Lists.{every_at, every_all, and_both}
use Rattle.base.proofs.Tests.{and_left, and_right}

-- a test that makes the whole fail was not met
pub pick_false : (a b : Bool) → pick a false b ≡ true → (a ≡ false) × (b ≡ true)
unfolding pick
pick_false true b e = absurd (false≢true e)
pick_false false b e = (refl, e)

-- the ends of an edge that passes the test
below_within : (n : ℕ) (es : List (List ℕ)) (g : ℕ) → ends_below n es g ≡ true → Within n es g
unfolding ends_below
below_within n es g e =
    let a = ltb (get_or (get_or es g []) 0 0) n in
    let b = ltb (get_or (get_or es g []) 1 0) n in
    record { a = ltb-true _ _ (and_left a b e); b = ltb-true _ _ (and_right a b e) }

within_below : (n : ℕ) (es : List (List ℕ)) (g : ℕ) → Within n es g → ends_below n es g ≡ true
unfolding ends_below
within_below n es g w = and_both _ _ (lt-ltb _ _ w.a) (lt-ltb _ _ w.b)

pub walkable_fine : (es : List (List ℕ)) (st : List ℕ) (edges n : ℕ) → walkable es st edges n ≡ true → Fine n edges es × (edges ≤ length st)
unfolding walkable
walkable_fine es st edges n e =
    let a = pick_false _ _ e in
    let b = pick_false _ _ a.1 in
    let c = pick_false _ _ b.1 in (
      record {
        vertices = ltb-false 64 n a.0;
        fits = ltb-false 128 edges b.0;
        within = λ g h. below_within n es g (every_at (ends_below n es) edges c.1 g h);
      },
      ltb-false _ _ c.0,
    )

pub fine_walkable : (es : List (List ℕ)) (st : List ℕ) (edges n : ℕ) → Fine n edges es → edges ≤ length st → walkable es st edges n ≡ true
unfolding walkable
fine_walkable es st edges n f h =
    pick_no _ _ (le-ltb 64 n f.vertices) ∙ pick_no _ _ (le-ltb 128 edges f.fits) ∙ pick_no _ _ (le-ltb (length st) edges h) ∙
    every_all (ends_below n es) edges (λ g k. within_below n es g (f.within g k))
