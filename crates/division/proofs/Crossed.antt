-- Where bounds cross and step 1 found no conflict, the analysis ends in a conflict that lists two standing literals.
use Prim.Native.Nat.{ℕ, suc, ◌<◌, zero-le}
use native.Mathlib.Omega.{arith}
use mathlib.Core.Path.{◌≡◌, refl, sym, ap₂, subst}
use mathlib.Core.List.{List, [], ◌∷◌, ◌++◌}
use Rattle.base.specs.Lists.{Every, none, more}
use Rattle.base.proofs.Lists.{every_only}
use Rattle.sat.specs.Literal.{negate, Holds}
use Rattle.division.specs.Plan.{Plan, Proper}
use Rattle.division.specs.State.{State, crossed_at}
use Rattle.division.specs.Conflicts.{crossing, conflict_list}
use Rattle.division.specs.Analysis.{conflict}
use Rattle.division.specs.Noting.{note_all, In, Consistent}
use Rattle.division.specs.Views.{view_of}
use Rattle.division.specs.Runs.{analysis}
use Rattle.division.specs.Noted.{Lower, Upper, Noted}
use Rattle.division.specs.Crossed.{Crosses, CrossedPair}
use Rattle.division.proofs.Sound.{rising_le}
use Rattle.division.proofs.Exact.{high_entry}
use Rattle.division.proofs.Noting.{noted_all}
use Rattle.division.proofs.Views.{crossed_known, crossed_over, crossed_lowest}
use Rattle.division.proofs.Verdicts.{crosses_verdict}
use Rattle.division.proofs.Whole.{conflicts}

-- Bounds that cross are both due to a literal: a domain's first entry is over no upper bound, its last under no lower.
both_due : (d : Plan) → Proper d → (v : ℕ) → v < d.vertices → {b c : ℕ} {ls hs : List ℕ} →
    Lower d v b ls → Upper d v c hs → c < b → (l : ℕ) × (h : ℕ) × (ls ≡ l ∷ []) × (hs ≡ h ∷ [])
both_due d k v hv (Lower.free a e q) u x = absurd (omega arith)
both_due d k v hv (Lower.least a e q) u x =
    let (i, m, z) = high_entry d v a u in absurd (omega (arith, rising_le d k v hv 0 i zero-le m))
both_due d k v hv (Lower.lit j a e q) (Upper.free f g r) x = absurd (omega arith)
both_due d k v hv (Lower.lit j a e q) (Upper.last i f g r) x =
    absurd (omega (arith, rising_le d k v hv (suc j) i (omega arith) (omega arith)))
both_due d k v hv (Lower.lit j a e q) (Upper.lit i f g r) x = (d.dom_lit v j, negate (d.dom_lit v i), q, r)

module _ (d : Plan) (k : Proper d) (ls : List ℕ) (c : Consistent ls) where
  abbrev s : State
  s = note_all d ls

  -- Document 02, request 2: "Where 12 was given, the answer becomes a conflict listing that pen's lower literal, then
  -- its upper literal."
  pub crossed : Crosses d s (view_of d s) → (v : ℕ) × ((analysis d ls).verdict ≡ conflict (crossing v)) ×
      (p : CrossedPair d ls (conflict_list d s (crossing v))) × (p.vertex ≡ v)
  unfolding conflict_list
  crossed x = (crossed_at d s, e, pair, refl)
    where
      e : (analysis d ls).verdict ≡ conflict (crossing (crossed_at d s))
      e = crosses_verdict d s (view_of d s) x

      n : Noted d (In ls) s
      n = noted_all d ls c

      pair : CrossedPair d ls (conflict_list d s (crossing (crossed_at d s)))
      pair =
          let v = crossed_at d s in
          let h = crossed_known d s x.v x.vertex x.over in
          let (low, high, q, r) = both_due d k v h (n.bounded.low v h) (n.bounded.high v h) (crossed_over d s h) in
          let lists : conflict_list d s (crossing v) ≡ low ∷ high ∷ [] = ap₂ (λ (a b : List ℕ). a ++ b) q r in
          record {
            vertex = v;
            known = h;
            crosses = crossed_over d s h;
            lowest = crossed_lowest d s h;
            low = low;
            high = high;
            lower_is = q;
            upper_is = r;
            lists = lists;
            low_stands = every_only q (n.low_stands v h);
            high_stands = every_only r (n.high_stands v h);
            sound = λ σ y a b. (conflicts d k ls c _ e).sound σ y
                (subst (Every (Holds σ)) (sym lists) (more a (more b none)));
          }
