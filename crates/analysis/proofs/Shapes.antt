-- The shapes of steps: each follows what was proposed before it.
use Prim.Native.Nat.{ℕ}
use mathlib.Core.Path.{refl}
use mathlib.Core.Bool.{Bool, true, false}
use Rattle.base.specs.Iter.{pick}
use Rattle.division.specs.Reasons.{Reason}
use Rattle.division.specs.Analysis.{Verdict, propose, ends}
use Rattle.analysis.proofs.Pass.{Follows}

-- it may propose
pub proposes : (b : Bool) (l : ℕ) (r : Reason) → Follows (λ o. pick b (propose l r o) o)
unfolding pick propose
proposes true l r = record { says = λ o g. g; onto = λ o g. refl }
proposes false l r = record { says = λ o g. g; onto = λ o g. refl }

-- it may end the analysis
pub may_end : (b : Bool) (x : Verdict) → Follows (λ o. pick b (ends x o) o)
unfolding pick ends
may_end true x = record { says = λ o g. refl; onto = λ o g. refl }
may_end false x = record { says = λ o g. g; onto = λ o g. refl }

pub may_end_under : (b c : Bool) (x : Verdict) → Follows (λ o. pick b (pick c (ends x o) o) o)
unfolding pick
may_end_under true c x = may_end c x
may_end_under false c x = record { says = λ o g. g; onto = λ o g. refl }

-- it may end the analysis, or propose
pub ends_or_proposes : (b c e : Bool) (x : Verdict) (l : ℕ) (r : Reason) → Follows (λ o. pick b (pick c (ends x o) (pick e (propose l r o) o)) o)
unfolding pick propose ends
ends_or_proposes true true e x l r = record { says = λ o g. refl; onto = λ o g. refl }
ends_or_proposes true false true x l r = record { says = λ o g. g; onto = λ o g. refl }
ends_or_proposes true false false x l r = record { says = λ o g. g; onto = λ o g. refl }
ends_or_proposes false c e x l r = record { says = λ o g. g; onto = λ o g. refl }

-- it may end the analysis, or propose twice
pub ends_or_proposes_both : (b c : Bool) (x : Verdict) (l m : ℕ) (r q : Reason) → Follows (λ o. pick b (pick c (ends x o) (propose l r (propose m q o))) o)
unfolding pick propose ends
ends_or_proposes_both true true x l m r q = record { says = λ o g. refl; onto = λ o g. refl }
ends_or_proposes_both true false x l m r q = record { says = λ o g. g; onto = λ o g. refl }
ends_or_proposes_both false c x l m r q = record { says = λ o g. g; onto = λ o g. refl }

-- it may propose, and propose again
pub proposes_twice : (b c : Bool) (l m : ℕ) (r q : Reason) → Follows (λ o. pick c (propose m q (pick b (propose l r o) o)) (pick b (propose l r o) o))
unfolding pick propose
proposes_twice true true l m r q = record { says = λ o g. g; onto = λ o g. refl }
proposes_twice true false l m r q = record { says = λ o g. g; onto = λ o g. refl }
proposes_twice false true l m r q = record { says = λ o g. g; onto = λ o g. refl }
proposes_twice false false l m r q = record { says = λ o g. g; onto = λ o g. refl }
