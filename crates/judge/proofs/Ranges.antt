-- The vertices that a conflict of step 3's third test names are those of the potential region's separate ranges.
use mathlib.Core.Path.{◌≡◌, refl, subst}
use mathlib.Core.Bool.{Bool}
use mathlib.Core.List.{List}
use Prim.Native.Nat.{ℕ}
use Rattle.base.specs.Iter.{iter, pick}
use Rattle.base.proofs.Loop.{pick_ind, iter_ind}
use Rattle.division.specs.Plan.{Plan}
use Rattle.division.specs.State.{State}
use Rattle.division.specs.Conflicts.{greedy, disconnected_inside, crossing, over, under, crowded, apart}
use Rattle.division.specs.Analysis.{View, Verdict, going, conflict, zero_size, Out, propose, ends, guarded, inside, matched, uncrossed, overfull, raises, merges, cuts, crowds, meets, parts, spreads_low, spreads_high, spreads, parted, parts_at, begun, step1, step2, step3, step4, step5, analyzed}

module _ (d : Plan) (s : State) (w : View) where
  abbrev Ranged : Verdict → Type 0
  Ranged going = Unit {0}
  Ranged (conflict (disconnected_inside g)) = Unit {0}
  Ranged (conflict (crossing v)) = Unit {0}
  Ranged (conflict (over v)) = Unit {0}
  Ranged (conflict (under v)) = Unit {0}
  Ranged (conflict (crowded r ps)) = ps ≡ greedy s 0 (w.cells r)
  Ranged (conflict (apart a b)) = Unit {0}
  Ranged zero_size = Unit {0}

  abbrev R : Out → Type 0
  R o = Ranged o.verdict

  picked : (b : Bool) (x y : Out) → R x → R y → R (pick b x y)
  picked b x y h k = pick_ind R b x y (λ _. h) (λ _. k)

  pass : (f : ℕ → Out → Out) → ((i : ℕ) (o : Out) → R o → R (f i o)) → (n : ℕ) (o : Out) → R o → R (iter (guarded f) n o)
  unfolding guarded
  pass f h n o r = iter_ind (λ _ (x : Out). R x) (guarded f) o n r (λ i x _ q. picked _ (f i x) x (h i x q) q)

  inside_kept : (g : ℕ) (o : Out) → R o → R (inside d s w g o)
  unfolding inside ends propose
  inside_kept g o h = picked _ _ _ (picked _ _ _ tt (picked _ _ _ h h)) h

  matched_kept : (g : ℕ) (o : Out) → R o → R (matched d s w g o)
  unfolding matched propose
  matched_kept g o h = picked _ _ _ h h

  uncrossed_kept : (v : ℕ) (o : Out) → R o → R (uncrossed d s w v o)
  unfolding uncrossed ends
  uncrossed_kept v o h = picked _ _ _ tt h

  overfull_kept : (v : ℕ) (o : Out) → R o → R (overfull d s w v o)
  unfolding overfull ends
  overfull_kept v o h = picked _ _ _ tt h

  raises_kept : (v : ℕ) (o : Out) → R o → R (raises d s w v o)
  unfolding raises propose
  raises_kept v o h = picked _ _ _ h h

  merges_kept : (g : ℕ) (o : Out) → R o → R (merges d s w g o)
  unfolding merges propose
  merges_kept g o h = picked _ _ _ h h

  cuts_kept : (v : ℕ) (o : Out) → R o → R (cuts d s w v o)
  unfolding cuts ends propose
  cuts_kept v o h = picked _ _ _ (picked _ _ _ tt (picked _ _ _ h h)) h

  crowds_kept : (r : ℕ) (o : Out) → R o → R (crowds d s w r o)
  unfolding crowds ends
  crowds_kept r o h = picked _ _ _ refl h

  meets_kept : (r : ℕ) (o : Out) → R o → R (meets d s w r o)
  unfolding meets ends
  meets_kept r o h = picked _ _ _ tt h

  parts_kept : (g : ℕ) (o : Out) → R o → R (parts d s w g o)
  unfolding parts propose
  parts_kept g o h = picked _ _ _ (picked _ _ _ h h) (picked _ _ _ h h)

  low_kept : (v : ℕ) (o : Out) → R o → R (spreads_low d s w v o)
  unfolding spreads_low propose
  low_kept v o h = picked _ _ _ h h

  spreads_kept : (v : ℕ) (o : Out) → R o → R (spreads d s w v o)
  unfolding spreads spreads_high propose
  spreads_kept v o h = picked _ _ _ (low_kept v o h) (low_kept v o h)

  parted_kept : (u g h : ℕ) (o : Out) → R o → R (parted d s w u g h o)
  unfolding parted ends propose
  parted_kept u g h o r = picked _ _ _ (picked _ _ _ tt r) r

  parts_at_kept : (u : ℕ) (o : Out) → R o → R (parts_at d s w u o)
  unfolding parts_at
  parts_at_kept u o r = pass _ (λ g x q. pass (parted d s w u g) (parted_kept u g) g x q) d.edges o r

  step1_kept : R (step1 d s w)
  unfolding step1 begun
  step1_kept = picked _ _ _ tt (pass (matched d s w) matched_kept d.edges _ (pass (inside d s w) inside_kept d.edges (begun d s w) tt))

  step2_kept : (v : ℕ) (o : Out) → R o → R (step2 d s w v o)
  unfolding step2 guarded
  step2_kept v o h =
      pass (merges d s w) merges_kept d.edges _
      (pass (raises d s w) raises_kept d.vertices _ (pass (overfull d s w) overfull_kept d.vertices _ (picked _ _ _ (uncrossed_kept v o h) h)))

  step3_kept : (o : Out) → R o → R (step3 d s w o)
  unfolding step3
  step3_kept o h = pass (crowds d s w) crowds_kept d.vertices _ (pass (cuts d s w) cuts_kept d.vertices o h)

  step4_kept : (o : Out) → R o → R (step4 d s w o)
  unfolding step4
  step4_kept o h = pass (spreads d s w) spreads_kept d.vertices _ (pass (parts d s w) parts_kept d.edges _ (pass (meets d s w) meets_kept d.vertices o h))

  step5_kept : (o : Out) → R o → R (step5 d s w o)
  unfolding step5
  step5_kept o h = picked _ _ _ (pass (parts_at d s w) parts_at_kept d.vertices o h) h

  analyzed_kept : R (analyzed d s w)
  unfolding analyzed
  analyzed_kept = step5_kept _ (step4_kept _ (step3_kept _ (step2_kept _ _ step1_kept)))

  pub ranges_are : (r : ℕ) (ps : List ℕ) → (analyzed d s w).verdict ≡ conflict (crowded r ps) → ps ≡ greedy s 0 (w.cells r)
  ranges_are r ps e = subst Ranged e analyzed_kept
