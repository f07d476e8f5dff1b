-- The last pass of initialize is an analysis judged with a table in which nothing is set.
use mathlib.Core.Path.{◌≡◌, refl, sym, ap, ◌∙◌}
use mathlib.Core.Bool.{Bool, true, false}
use mathlib.Core.List.{List, [], ◌∷◌, ◌++◌}
use Prim.Native.Nat.{ℕ, zero, suc, ◌/◌, ◌%◌}
use lib.Dec.{eqb}
use lib.ListN.{get_or}
use Rattle.base.specs.Iter.{pick}
use Rattle.base.proofs.Loop.{pick_no}
use Rattle.division.specs.Plan.{Plan}
use Rattle.division.specs.Conflicts.{conflict_list}
use Rattle.division.specs.Analysis.{Verdict, going, conflict, zero_size, Out}
use Rattle.division.specs.Noting.{note_all}
use Rattle.division.specs.Runs.{analysis}
use Rattle.calls.specs.Table.{code_of, coded, false_in}
use Rattle.calls.specs.Look.{Judgement, fine, clash, stopped, Looked, offers, first_false, stop, clashes, offered, looked_by, looked}
use Rattle.calls.specs.Calls.{World, consistent, conflicting, Outcome, refuse, Going, last_by}

-- the end of initialize by what that analysis is judged
unfoldable pub last_from : World → List ℕ → Going → Looked → Judgement → Outcome
last_from w t a lk fine = record {
  answer = consistent;
  world = record { standing = a.world.standing; reasons = lk.records ++ a.world.reasons; last = a.world.last; done = true };
  table = a.table;
  handed = a.handed;
}
last_from w t a lk clash = record {
  answer = conflicting;
  world = record { standing = a.world.standing; reasons = lk.records ++ a.world.reasons; last = lk.left; done = a.world.done };
  table = a.table;
  handed = a.handed;
}
last_from w t a lk (stopped n) = refuse n w t

abbrev unset : List ℕ
unset = 0 ∷ []

unset_code : (i : ℕ) → get_or unset i 0 ≡ 0
unset_code zero = refl
unset_code (suc i) = refl

pick_same : {A : Type 0} (b : Bool) (x : A) → pick b x x ≡ x
unfolding pick
pick_same true x = refl
pick_same false x = refl

none_false : (l : ℕ) → false_in unset l ≡ false
unfolding false_in code_of coded
none_false l = ap (λ (c : ℕ). pick (eqb (l % 2) 0) (coded 2 4 c) (coded 1 3 c)) (unset_code (l / 2)) ∙ pick_same (eqb (l % 2) 0) false

none_first : (ps : List ℕ) → first_false unset ps ≡ []
unfolding first_false
none_first [] = refl
none_first (p ∷ ps) = pick_no _ _ (none_false p) ∙ none_first ps

module _ (d : Plan) (w : World) (t : List ℕ) (a : Going) where
  abbrev ls : List ℕ
  ls = a.world.standing

  -- what is judged, by the verdict
  by_verdict : (o : Out) (v : Verdict) → last_by d w t a o v ≡ last_from w t a (looked_by d ls unset o v) (looked_by d ls unset o v).judgement
  unfolding last_by looked_by last_from offered clashes stop
  by_verdict o going = ap (λ (ps : List ℕ). last_from w t a (offered d ls unset o ps) (offered d ls unset o ps).judgement) (sym (none_first (offers o)))
  by_verdict o (conflict c) = refl
  by_verdict o zero_size = refl

  pub unset_looked : last_by d w t a (analysis d ls) (analysis d ls).verdict ≡ last_from w t a (looked d ls unset) (looked d ls unset).judgement
  unfolding looked
  unset_looked = by_verdict (analysis d ls) (analysis d ls).verdict
