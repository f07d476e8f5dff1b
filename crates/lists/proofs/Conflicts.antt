-- What `conflict_lits` writes: the list of the conflict, where its path is there.
use Prim.Native.Nat.{ℕ}
use mathlib.Core.Path.{◌≡◌, refl, sym, ◌∙◌, ap, subst}
use mathlib.Core.Bool.{true, false, not, false≢true}
use mathlib.Core.List.{List, [], ◌∷◌, ◌++◌, append-nil, append_assoc}
use Rattle.std.specs.Prelude.{Ok, Err}
use Rattle.division.specs.Plan.{Plan, Proper}
use Rattle.division.specs.State.{State}
use Rattle.division.specs.Conflicts.{spans, Conflict, disconnected_inside, crossing, over, under, crowded, apart, conflict_list}
use Rattle.division.specs.Analysis as analysis
use Rattle.division.proofs.Walk.{joined_within}
use Rattle.division.specs.Proposed.{IsConflict, is_disconnected, is_crossing, is_over, is_under, is_crowded, is_apart}
use Rattle.calls.specs.Look.{unjoined}
use Rattle.plan.specs.Plan.{plan_of}
use Rattle.noting.specs.Words.{state_of, lits_of, lower_lit_of, upper_lit_of}
use Rattle.reasons.specs.Verdicts.{Verdict, verdict_of}
use Rattle.reasons.specs.declared.Stop.TheVariants.{DisconnectedInside, Over, Under, Crowded, Apart, Crossing, ZeroSize, Unfit}
use Rattle.std.specs.Prelude.{None}
use Rattle.walks.specs.Written.{Out}
use Rattle.walks.specs.Answers.{given, missing}
use Rattle.lists.specs.Conflicts.{span_after, spans_after, crossing_lits, apart_lits, conflict_lits, conflicts_of, Chosen, ConflictWithin, path_gone}
use Rattle.lists.specs.Within.{Held}
use Rattle.lists.proofs.Walks.{lit_given, word_lost, lit_lost, path_there, path_gone_lem, decided_there, potential_there}
use Rattle.lists.proofs.Lists.{word_after, lit_after, inside_there, inside_gone}

-- the bound literals after what was given
spans_given : (noted ps l : List ℕ) (o : Out) → spans_after noted ps (given l o) ≡ given (l ++ spans (state_of noted) ps) o
unfolding spans_after spans span_after
spans_given noted [] l o = ap (λ (m : List ℕ). given m o) (sym (append-nil l))
spans_given noted (p ∷ ps) l o =
    ap (spans_after noted ps) (lit_after (upper_lit_of noted p) _ _ _ o (lit_given (lower_lit_of noted p) l o) refl) ∙
    spans_given noted ps ((l ++ lits_of (lower_lit_of noted p)) ++ lits_of (upper_lit_of noted p)) o ∙
    ap (λ (m : List ℕ). given m o) (simp append_assoc)

crossing_given : (noted : List ℕ) (v : ℕ) (o : Out) →
    crossing_lits noted v o ≡ given (lits_of (lower_lit_of noted v) ++ lits_of (upper_lit_of noted v)) o
unfolding crossing_lits span_after
crossing_given noted v o =
    lit_after (upper_lit_of noted v) _ _ _ o (lit_after (lower_lit_of noted v) _ [] _ o refl refl) refl

module _ (ws : List ℕ) (es : List (List ℕ)) (noted : List ℕ) (k : Held ws es noted) where
  abbrev d : Plan
  d = plan_of ws es

  abbrev s : State
  s = state_of noted

  abbrev Writes : Verdict → List ℕ → Out → List Conflict → Type 0
  Writes v ps o [] = Unit {0}
  Writes v ps o (c ∷ cs) = ConflictWithin d c → path_gone d s c ≡ false → conflict_lits ws es noted v ps o ≡ given (conflict_list d s c) o

  writes : (v : Verdict) (ps : List ℕ) (o : Out) → Writes v ps o (conflicts_of v ps)
  unfolding conflicts_of conflict_lits apart_lits conflict_list path_gone
  writes (Ok u) ps o = tt
  writes (Err (DisconnectedInside g)) ps o = λ h e. word_after _ _ _ _ o (inside_there ws es noted k g o h e) refl
  writes (Err (Over v)) ps o = λ h e. lit_after _ _ _ _ o (decided_there ws es noted k v o h) refl
  writes (Err (Under v)) ps o = λ h e. lit_after _ _ _ _ o (potential_there ws es noted k v o h) refl
  writes (Err (Crowded r)) ps o = λ h e. ap (spans_after noted ps) (potential_there ws es noted k r o h) ∙ spans_given noted ps _ o
  writes (Err (Apart a b)) ps o = λ (h, i) e. lit_after _ _ _ _ o (lit_after _ _ _ _ o (path_there ws es noted k a b o h i e) refl) (simp append_assoc)
  writes (Err (Crossing v)) ps o = λ h e. crossing_given noted v o
  writes (Err ZeroSize) ps o = tt
  writes (Err Unfit) ps o = tt

  -- the list of a conflict is written where its path is there; ps are the vertices of separate ranges
  pub conflict_listed : (v : Verdict) (ps : List ℕ) (c : Conflict) (o : Out) → conflicts_of v ps ≡ c ∷ [] → ConflictWithin d c → path_gone d s c ≡ false →
      conflict_lits ws es noted v ps o ≡ given (conflict_list d s c) o
  conflict_listed v ps c o e = subst (Writes v ps o) e (writes v ps o)

  abbrev Misses : Verdict → List ℕ → Out → List Conflict → Type 0
  Misses v ps o [] = conflict_lits ws es noted v ps o ≡ missing o
  Misses v ps o (c ∷ cs) = ConflictWithin d c → path_gone d s c ≡ true → (conflict_lits ws es noted v ps o).listed ≡ None

  misses : (v : Verdict) (ps : List ℕ) (o : Out) → Misses v ps o (conflicts_of v ps)
  unfolding conflicts_of conflict_lits apart_lits path_gone
  misses (Ok u) ps o = refl
  misses (Err (DisconnectedInside g)) ps o = λ h e. word_lost _ _ (inside_gone ws es noted k g o h e)
  misses (Err (Over v)) ps o = λ h e. absurd (false≢true e)
  misses (Err (Under v)) ps o = λ h e. absurd (false≢true e)
  misses (Err (Crowded r)) ps o = λ h e. absurd (false≢true e)
  misses (Err (Apart a b)) ps o = λ (h, i) e. lit_lost _ _ (lit_lost _ _ (path_gone_lem ws es noted k a b o h i e))
  misses (Err (Crossing v)) ps o = λ h e. absurd (false≢true e)
  misses (Err ZeroSize) ps o = refl
  misses (Err Unfit) ps o = refl

  -- and not where it is gone
  pub conflict_missing : (v : Verdict) (ps : List ℕ) (c : Conflict) (o : Out) → conflicts_of v ps ≡ c ∷ [] → ConflictWithin d c → path_gone d s c ≡ true → (conflict_lits ws es noted v ps o).listed ≡ None
  conflict_missing v ps c o e = subst (Misses v ps o) e (misses v ps o)

  -- nor where there is no conflict
  pub conflict_none : (v : Verdict) (ps : List ℕ) (o : Out) → conflicts_of v ps ≡ [] → conflict_lits ws es noted v ps o ≡ missing o
  conflict_none v ps o e = subst (Misses v ps o) e (misses v ps o)

-- ---- the conflicts of an analysis
-- the code's verdict stands for the conflict, with the vertices of its separate ranges
pub conflict_coded : (c : Conflict) (ps : List ℕ) → Chosen c ps → conflicts_of (verdict_of (analysis.conflict c)) ps ≡ c ∷ []
unfolding conflicts_of verdict_of
conflict_coded (disconnected_inside g) ps h = refl
conflict_coded (crossing v) ps h = refl
conflict_coded (over v) ps h = refl
conflict_coded (under v) ps h = refl
conflict_coded (crowded r qs) ps h = ap (λ (l : List ℕ). crowded r l ∷ []) h
conflict_coded (apart a b) ps h = refl

-- they name edges and vertices of the plan, and their path is there
pub conflict_there : (d : Plan) (s : State) → Proper d → (c : Conflict) → IsConflict d s c → ConflictWithin d c × (path_gone d s c ≡ false)
unfolding path_gone unjoined
conflict_there d s k c (is_disconnected g h e j) = (h, ap not (joined_within d k s.edge_state false _ (k.fine.within g h).a _ j))
conflict_there d s k c (is_crossing v h l) = (h, refl)
conflict_there d s k c (is_over v h l) = (h, refl)
conflict_there d s k c (is_under v h l) = (h, refl)
conflict_there d s k c (is_crowded r ps h n m a l) = (h, refl)
conflict_there d s k c (is_apart a b ha hb j l) = ((ha, hb), ap not (joined_within d k s.edge_state false a ha b j))
