-- A list that a call leaves is written to a buffer of 260 literals, so it has no more than these, and its length fits its 4 bytes.
use Prim.Native.Nat.{ℕ, ◌+◌, ◌*◌, ◌≤◌, ◌<◌}
use native.Mathlib.Omega.{arith}
use mathlib.Core.Path.{◌≡◌, ◌∙◌}
use mathlib.Core.Bool.{Bool, true, false}
use mathlib.Core.List.{List, [], ◌∷◌}
use lib.Dec.{ltb}
use lib.IntN.{ℤ}
use lib.ListN.{length, get_or, set, replicate, length-set, length-replicate}
use borrow.Author.Tests.{ltb-true}
use Rattle.std.specs.Prelude.{Ok, Err}
use Rattle.base.proofs.Loop.{pick_ind, iter_ind}
use Rattle.base.proofs.Filled.{filled_length}
use Rattle.sat.specs.declared.Lit.{Lit}
use Rattle.plan.specs.Words.{variables_of}
use Rattle.notifications.specs.declared.Progress.{Progress}
use Rattle.notifications.specs.Notifications.{Way, Ending, stopping, fine_by, joined_by, joined, notified, notified_at, notified_all, once_more_by, once_more, last_pass, ended, gone_through}
use Rattle.std.specs.Prelude.{Option, None, Some}
use Rattle.undo_log.specs.declared.Cursor.{Cursor}
use Rattle.walks.specs.Written.{Out, out_of, pushed, written}
use Rattle.walks.specs.Answers.{Answer, given, missing, connected_path, decided_region, potential_region}
use Rattle.reasons.specs.declared.reason.Reason.{Reason}
use Rattle.reasons.specs.declared.reason.Reason.TheVariants.{NotPropagated, EdgeInSameGroup, EdgeBetweenDifferentGroups, TooLargeIfRegionsAreMerged, RegionAlreadyLarge, RegionAlreadySmall, InconsistentBoundsIfRegionsAreMerged, BoundPropagationWithinRegion, AdjacentSameSizeRegions}
use Rattle.reasons.specs.declared.Stop.TheVariants.{DisconnectedInside, Over, Under, Crowded, Apart, Crossing, ZeroSize, Unfit}
use Rattle.reasons.specs.Verdicts.{Verdict}
use Rattle.lists.specs.Parts.{shape_of, edge_lits, after, then, path, decided, potential, two_paths, inside, two_regions, three_regions, and_word, and_lit, and_opt}
use Rattle.lists.specs.Lists.{between, too_large, mismatched, spread, same_sized, reason_lits}
use Rattle.lists.specs.Conflicts.{span_after, spans_after, crossing_lits, apart_lits, conflict_lits}
use Rattle.judge.specs.declared.Judgement.{Judgement}
use Rattle.judge.specs.declared.Judgement.TheVariants.{Fine, Clash, Stopped}
use Rattle.judge.specs.Judge.{Listing, Judged, listed, of_list, judge_current, of_false, judge_chosen, judge_conflict, crowded_by, judge_crowded, false_lits, judge_false, judge_proposals, judge_found, with_words, judge_ran, judge_told, judge_words}
use Rattle.graph_division.specs.declared.GraphDivision.{GraphDivision}
use Rattle.graph_division.specs.declared.Outcome.{Outcome}
use Rattle.graph_division.specs.Calls.{Called, with_noted, with_judged, refuse, adding, accepting, handing_on, settled_by, settled, propagated, undone}
use Rattle.graph_division.specs.Initialize.{taken_over, taking, ended_by, entering, finished, begun, initialized}
use Rattle.base.specs.Bytes.{word_at}
use Rattle.byte_calls.specs.Layout.{state_in, cursor_in, list_in, log_in}
use Rattle.base.specs.Bytes.{words_in}
use Rattle.byte_calls.specs.Host.{AfterOf, initialized_in, propagated_in, undone_in}
use Rattle.byte_calls.specs.After.{Leaves}

-- at most n literals
abbrev UpTo : ℕ → Option ℕ → Type 0
UpTo n (Some k) = k ≤ n
UpTo n None = Unit {0}

-- the place where the next word goes, and the place past a list, is no further than the buffer's end
record In (n : ℕ) (o : Out) : Type 0 where
  long : length o.text ≡ n
  place : o.place ≤ n

record Within (n : ℕ) (a : Answer) : Type 0 where
  long : length a.text ≡ n
  listed : UpTo n a.listed

module _ (n : ℕ) where
  pushed_in : (x : ℕ) (o : Out) → In n o → In n (pushed x o)
  unfolding pushed
  pushed_in x o h = pick_ind (In n) (ltb o.place (length o.text)) (out_of (set o.text o.place x) (o.place + 1)) o
      (λ (t : ltb o.place (length o.text) ≡ true). record { long = length-set o.text o.place x ∙ h.long; place = omega (arith, ltb-true o.place (length o.text) t, h.long) })
      (λ (t : ltb o.place (length o.text) ≡ false). h)

  written_in : (l : List ℕ) (o : Out) → In n o → In n (written l o)
  unfolding written
  written_in [] o h = h
  written_in (x ∷ l) o h = written_in l (pushed x o) (pushed_in x o h)

  given_within : (l : List ℕ) (o : Out) → In n o → Within n (given l o)
  unfolding given
  given_within l o h = let w = written_in l o h in record { long = w.long; listed = w.place }

  missing_within : (o : Out) → In n o → Within n (missing o)
  unfolding missing
  missing_within o h = record { long = h.long; listed = tt }

  after_within : (f : Out → Answer) (l : Option ℕ) (t : List ℕ) → length t ≡ n → UpTo n l → ((o : Out) → In n o → Within n (f o)) → Within n (after f l t)
  unfolding after
  after_within f (Some k) t e h g = g (out_of t k) (record { long = e; place = h })
  after_within f None t e h g = record { long = e; listed = tt }

  then_within : (a : Answer) (f : Out → Answer) → Within n a → ((o : Out) → In n o → Within n (f o)) → Within n (then a f)
  unfolding then
  then_within a f h g = after_within f a.listed a.text h.long h.listed g

  word_within : (x : ℕ) (a : Answer) → Within n a → Within n (and_word x a)
  unfolding and_word
  word_within x a h = then_within a _ h (λ o k. given_within (x ∷ []) o k)

  lit_within : (x : ℕ) (a : Answer) → Within n a → Within n (and_lit x a)
  unfolding and_lit
  lit_within x a h = then_within a _ h (λ o k. given_within _ o k)

  opt_within : (l : Option Lit) (a : Answer) → Within n a → Within n (and_opt l a)
  unfolding and_opt
  opt_within l a h = then_within a _ h (λ o k. given_within _ o k)

  module _ (ws : List ℕ) (es : List (List ℕ)) (noted : List ℕ) where
    path_within : (u v : ℕ) (o : Out) → In n o → Within n (connected_path es noted (edge_lits ws) (shape_of ws) u v o)
    unfolding connected_path
    path_within u v o h = pick_ind (Within n) _ _ _
        (λ _. pick_ind (Within n) _ _ _ (λ _. pick_ind (Within n) _ _ _ (λ _. given_within _ o h) (λ _. missing_within o h)) (λ _. missing_within o h))
        (λ _. missing_within o h)

    decided_within : (u : ℕ) (o : Out) → In n o → Within n (decided ws es noted u o)
    unfolding decided decided_region
    decided_within u o h = pick_ind (Within n) _ _ _ (λ _. given_within _ o h) (λ _. missing_within o h)

    potential_within : (u : ℕ) (o : Out) → In n o → Within n (potential ws es noted u o)
    unfolding potential potential_region
    potential_within u o h = pick_ind (Within n) _ _ _ (λ _. given_within _ o h) (λ _. missing_within o h)

    two_within : (u v : ℕ) (o : Out) → In n o → Within n (two_regions ws es noted u v o)
    unfolding two_regions
    two_within u v o h = then_within _ _ (decided_within u o h) (decided_within v)

    three_within : (a b u : ℕ) (o : Out) → In n o → Within n (three_regions ws es noted a b u o)
    unfolding three_regions
    three_within a b u o h = then_within _ _ (two_within a b o h) (decided_within u)

    reason_within : (r : Reason) (o : Out) → In n o → Within n (reason_lits ws es noted r o)
    unfolding reason_lits path two_paths inside between too_large mismatched spread same_sized
    reason_within NotPropagated o h = missing_within o h
    reason_within (EdgeInSameGroup g) o h = path_within _ _ o h
    reason_within (EdgeBetweenDifferentGroups e g flip) o h = word_within _ _ (then_within _ _ (path_within _ _ o h) (λ x k. path_within _ _ x k))
    reason_within (TooLargeIfRegionsAreMerged g l) o h = opt_within _ _ (two_within _ _ o h)
    reason_within (RegionAlreadyLarge v) o h = decided_within v o h
    reason_within (RegionAlreadySmall v) o h = potential_within v o h
    reason_within (InconsistentBoundsIfRegionsAreMerged g a b flip) o h = lit_within _ _ (lit_within _ _ (then_within _ _ (path_within _ _ o h) (λ x k. path_within _ _ x k)))
    reason_within (BoundPropagationWithinRegion l k u) o h = opt_within _ _ (path_within _ _ o h)
    reason_within (AdjacentSameSizeRegions a la ua b lb ub u) o h = opt_within _ _ (opt_within _ _ (opt_within _ _ (opt_within _ _ (three_within a b u o h))))

    spans_within : (ps : List ℕ) (a : Answer) → Within n a → Within n (spans_after noted ps a)
    unfolding spans_after span_after
    spans_within [] a h = h
    spans_within (p ∷ ps) a h = spans_within ps _ (lit_within _ _ (lit_within _ a h))

    conflict_within : (v : Verdict) (ps : List ℕ) (o : Out) → In n o → Within n (conflict_lits ws es noted v ps o)
    unfolding conflict_lits path inside crossing_lits span_after apart_lits
    conflict_within (Ok u) ps o h = missing_within o h
    conflict_within (Err (DisconnectedInside g)) ps o h = word_within _ _ (path_within _ _ o h)
    conflict_within (Err (Over v)) ps o h = lit_within _ _ (decided_within v o h)
    conflict_within (Err (Under v)) ps o h = lit_within _ _ (potential_within v o h)
    conflict_within (Err (Crowded r)) ps o h = spans_within ps _ (potential_within r o h)
    conflict_within (Err (Apart a b)) ps o h = lit_within _ _ (lit_within _ _ (path_within _ _ o h))
    conflict_within (Err (Crossing v)) ps o h = lit_within _ _ (lit_within _ _ (given_within [] o h))
    conflict_within (Err ZeroSize) ps o h = missing_within o h
    conflict_within (Err Unfit) ps o h = missing_within o h

-- a conflict has at most n literals
abbrev Most : ℕ → Judgement → Type 0
Most n Fine = Unit {0}
Most n (Clash k) = k ≤ n
Most n (Stopped k) = Unit {0}

module _ (n : ℕ) where
  listed_most : (l : Option ℕ) → UpTo n l → Most n (listed l)
  unfolding listed
  listed_most (Some k) h = h
  listed_most None h = tt

  current_most : (t : List ℕ) (l : Option ℕ) (text : List ℕ) → UpTo n l → Most n (judge_current t l text)
  unfolding judge_current
  current_most t (Some k) text h = pick_ind (Most n) _ (Clash k) (Stopped 14) (λ _. h) (λ _. tt)
  current_most t None text h = tt

  module _ (ws : List ℕ) (es : List (List ℕ)) (noted l : List ℕ) (e : length l ≡ n) where
    start : In n (out_of l 0)
    start = record { long = e; place = omega arith }

    chosen_most : (v : Verdict) (ps : List ℕ) → Most n (judge_chosen ws es noted v ps l).judgement
    unfolding judge_chosen of_list
    chosen_most v ps = listed_most _ (conflict_within n ws es noted v ps (out_of l 0) start).listed

    conflict_most : (v : Verdict) → Most n (judge_conflict ws es noted v l).judgement
    unfolding judge_conflict
    conflict_most v = chosen_most v []

    crowded_most : (r : ℕ) → Most n (judge_crowded ws es noted r l).judgement
    unfolding judge_crowded crowded_by
    crowded_most r = pick_ind (λ (x : Listing). Most n x.judgement) _ _ _ (λ _. chosen_most (Err (Crowded r)) _) (λ _. tt)

    false_most : (t words : List ℕ) (p : ℕ) → Most n (judge_false ws es noted t words p l).judgement
    unfolding judge_false of_false false_lits
    false_most t words p = current_most t _ _ (word_within n _ _ (reason_within n ws es noted _ (out_of l 0) start)).listed

    found_most : (t : List ℕ) (v : Verdict) (words : List ℕ) → Most n (judge_found ws es noted t v words l).judgement
    unfolding judge_found judge_proposals
    found_most t (Ok u) words = pick_ind (λ (x : Listing). Most n x.judgement) _ _ _ (λ _. false_most t words _) (λ _. tt)
    found_most t (Err (DisconnectedInside g)) words = conflict_most (Err (DisconnectedInside g))
    found_most t (Err (Over v)) words = conflict_most (Err (Over v))
    found_most t (Err (Under v)) words = conflict_most (Err (Under v))
    found_most t (Err (Crowded r)) words = crowded_most r
    found_most t (Err (Apart a b)) words = conflict_most (Err (Apart a b))
    found_most t (Err (Crossing v)) words = conflict_most (Err (Crossing v))
    found_most t (Err ZeroSize) words = tt
    found_most t (Err Unfit) words = tt

    pub judged_most : (t proposals : List ℕ) → Most n (judge_words ws es noted t proposals l).judgement
    unfolding judge_words judge_told judge_ran with_words
    judged_most t proposals = pick_ind (λ (x : Judged). Most n x.judgement) _ _ _ (λ _. found_most t _ _) (λ _. tt)

    -- and the buffer is as long as it was
    chosen_long : (v : Verdict) (ps : List ℕ) → length (judge_chosen ws es noted v ps l).left ≡ n
    unfolding judge_chosen of_list
    chosen_long v ps = (conflict_within n ws es noted v ps (out_of l 0) start).long

    crowded_long : (r : ℕ) → length (judge_crowded ws es noted r l).left ≡ n
    unfolding judge_crowded crowded_by
    crowded_long r = pick_ind (λ (x : Listing). length x.left ≡ n) _ _ _ (λ _. chosen_long (Err (Crowded r)) _) (λ _. e)

    false_long : (t words : List ℕ) (p : ℕ) → length (judge_false ws es noted t words p l).left ≡ n
    unfolding judge_false of_false false_lits
    false_long t words p = (word_within n _ _ (reason_within n ws es noted _ (out_of l 0) start)).long

    found_long : (t : List ℕ) (v : Verdict) (words : List ℕ) → length (judge_found ws es noted t v words l).left ≡ n
    unfolding judge_found judge_proposals judge_conflict
    found_long t (Ok u) words = pick_ind (λ (x : Listing). length x.left ≡ n) _ _ _ (λ _. false_long t words _) (λ _. e)
    found_long t (Err (DisconnectedInside g)) words = chosen_long (Err (DisconnectedInside g)) []
    found_long t (Err (Over v)) words = chosen_long (Err (Over v)) []
    found_long t (Err (Under v)) words = chosen_long (Err (Under v)) []
    found_long t (Err (Crowded r)) words = crowded_long r
    found_long t (Err (Apart a b)) words = chosen_long (Err (Apart a b)) []
    found_long t (Err (Crossing v)) words = chosen_long (Err (Crossing v)) []
    found_long t (Err ZeroSize) words = e
    found_long t (Err Unfit) words = e

    judged_long : (t proposals : List ℕ) → length (judge_words ws es noted t proposals l).left ≡ n
    unfolding judge_words judge_told judge_ran with_words
    judged_long t proposals = pick_ind (λ (x : Judged). length x.left ≡ n) _ _ _ (λ _. found_long t _ _) (λ _. e)

-- a length of 32 bits
abbrev Fits : GraphDivision → Type 0
Fits s = s.last_len < 4294967296

module _ (s : GraphDivision) (c : Cursor) (h : Fits s) where
  noted_fits : (noted : List ℕ) → Fits (with_noted noted s)
  unfolding with_noted
  noted_fits noted = h

  settled_by_fits : (l : ℕ) (j : Judged) (x : Judgement) (t list log : List ℕ) → Most 260 x → Fits (settled_by s c l j x t list log).outcome.state
  unfolding settled_by handing_on accepting with_judged refuse
  settled_by_fits l j Fine t list log m = omega arith
  settled_by_fits l j (Clash k) t list log m = omega (arith, m)
  settled_by_fits l j (Stopped k) t list log m = h

  settled_fits : (l : ℕ) (t list log : List ℕ) → Fits (settled s c l t list log).outcome.state
  unfolding settled
  settled_fits l t list log = settled_by_fits l _ _ t list log (judged_most 260 s.plan s.edges.ends _ (replicate 260 0) (length-replicate {A = ℕ} 260 0) t (replicate 8772 0))

  pub propagated_fits : (lit pending : ℤ) (t list log : List ℕ) → Fits (propagated s c lit pending t list log).outcome.state
  unfolding propagated adding refuse
  propagated_fits lit pending t list log = pick_ind (λ (y : Called). Fits y.outcome.state) _ _ _
      (λ _. pick_ind (λ (y : Called). Fits y.outcome.state) _ _ _ (λ _. settled_fits _ t list log) (λ _. noted_fits _))
      (λ _. h)

  pub undone_fits : (lit : ℤ) (log : List ℕ) → Fits (undone s c lit log).state
  unfolding undone refuse
  undone_fits lit log = pick_ind (λ (y : Outcome). Fits y.state) _ _ _ (λ _. noted_fits _) (λ _. h)

-- ---- `initialize`: each notification leaves such a list, or none
record Left (x : Progress) (left : List ℕ) : Type 0 where
  len : x.len < 4294967296
  long : length left ≡ 260

module _ (ws : List ℕ) (es : List (List ℕ)) where
  joined_by_left : (past : ℕ) (w : Way) (j : Judged) (x : Judgement) → Left w.progress w.left → Most 260 x → length j.left ≡ 260 →
      Left (joined_by ws past w j x).progress (joined_by ws past w j x).left
  unfolding joined_by fine_by stopping
  joined_by_left past w j Fine h m e = record { len = omega arith; long = e }
  joined_by_left past w j (Clash k) h m e = record { len = omega (arith, m); long = e }
  joined_by_left past w j (Stopped k) h m e = record { len = h.len; long = e }

  abbrev OnWay : Way → Type 0
  OnWay w = Left w.progress w.left

  joined_left : (past : ℕ) (w : Way) → OnWay w → OnWay (joined ws es past w)
  unfolding joined
  joined_left past w h = joined_by_left past w _ _ h (judged_most 260 ws es w.noted w.left h.long w.table w.proposals) (judged_long 260 ws es w.noted w.left h.long w.table w.proposals)

  at_left : (t log : List ℕ) (used p : ℕ) (w : Way) → OnWay w → OnWay (notified_at ws es t log used p w)
  unfolding notified_at notified stopping
  at_left t log used p w h = pick_ind OnWay _ _ _
      (λ _. pick_ind OnWay _ _ _ (λ _. record { len = h.len; long = h.long }) (λ _. joined_left (p + 1) _ (record { len = h.len; long = h.long })))
      (λ _. h)

  all_left : (t log : List ℕ) (used : ℕ) (w : Way) → OnWay w → OnWay (notified_all ws es t log used w)
  unfolding notified_all
  all_left t log used w h = iter_ind (λ i x. OnWay x) (notified_at ws es t log used) w (2 * variables_of ws) h (λ p x l u. at_left t log used p x u)

  once_by_left : (x : Progress) (words : List ℕ) (j : Judged) (y : Judgement) → x.len < 4294967296 → Most 260 y → (once_more_by ws x words j y).progress.len < 4294967296
  unfolding once_more_by stopping
  once_by_left x words j Fine h m = h
  once_by_left x words j (Clash k) h m = omega (arith, m)
  once_by_left x words j (Stopped k) h m = h

  last_left : (noted : List ℕ) (x : Progress) (words proposals left : List ℕ) → Left x left → (last_pass ws es noted x words proposals left).progress.len < 4294967296
  unfolding last_pass once_more
  last_left noted x words proposals left h = pick_ind (λ (y : Ending). y.progress.len < 4294967296) _ _ _
      (λ _. once_by_left x words _ _ h.len (judged_most 260 ws es noted left h.long (0 ∷ []) proposals)) (λ _. h.len)

  through_left : (t log : List ℕ) (used : ℕ) (w : Way) → OnWay w → (gone_through ws es t log used w).progress.len < 4294967296
  unfolding gone_through ended
  through_left t log used w h = let v = notified_all ws es t log used w in last_left v.noted v.progress v.words v.proposals v.left (all_left t log used w h)

module _ (s : GraphDivision) (c : Cursor) (h : Fits s) (long : length s.last ≡ 260) where
  ended_by_fits : (t log words left : List ℕ) (x : Progress) (y : Judgement) (back after handed list : List ℕ) → x.len < 4294967296 → Fits (ended_by s c t log words left x y back after handed list).outcome.state
  unfolding ended_by taking taken_over refuse
  ended_by_fits t log words left x Fine back after handed list m = m
  ended_by_fits t log words left x (Clash k) back after handed list m = m
  ended_by_fits t log words left x (Stopped k) back after handed list m = h

  pub initialized_fits : (t log list : List ℕ) → Fits (initialized s c t log list).outcome.state
  unfolding initialized begun finished entering refuse
  initialized_fits t log list = pick_ind (λ (y : Called). Fits y.outcome.state) _ _ _
      (λ _. ended_by_fits t log _ _ _ _ t _ _ list (through_left s.plan s.edges.ends t log c.used (entering s c t log) (record { len = h; long = long })))
      (λ _. h)

-- ---- of bytes
abbrev pub Bytes : List ℕ → Type 0
Bytes b = (i : ℕ) → get_or b i 0 < 256

pub word_fits : (b : List ℕ) (a : ℕ) → Bytes b → word_at b a < 4294967296
unfolding word_at
word_fits b a h = omega (arith, h a, h (a + 1), h (a + 2), h (a + 3))

state_fits : (b : List ℕ) → Bytes b → Fits (state_in b)
unfolding state_in
state_fits b h = word_fits b 62756 h

last_length : (b : List ℕ) → length (state_in b).last ≡ 260
unfolding state_in words_in
last_length b = filled_length 0 (λ i. word_at b (62764 + 4 * i)) (replicate 260 0) 260 ∙ length-replicate {A = ℕ} 260 0

leaves : (short : Bool) (y : Outcome) (b c : List ℕ) → Fits y.state → AfterOf short y b c → Leaves short y b c
leaves short y b c f h = record { same = h.same; is = λ n. h.is n f; kept = h.kept }

pub propagate_leaves : (short : Bool) (state t list log cursor : List ℕ) (lit pending : ℤ) (after : List ℕ) → Bytes state →
    AfterOf short (propagated_in state t list log cursor lit pending).outcome state after → Leaves short (propagated_in state t list log cursor lit pending).outcome state after
unfolding propagated_in
propagate_leaves short state t list log cursor lit pending after h a = leaves short (propagated_in state t list log cursor lit pending).outcome state after (propagated_fits (state_in state) (cursor_in cursor) (state_fits state h) lit pending t (list_in list) (log_in (cursor_in cursor) log)) a

pub undo_leaves : (short : Bool) (state log cursor : List ℕ) (lit : ℤ) (after : List ℕ) → Bytes state →
    AfterOf short (undone_in state log cursor lit) state after → Leaves short (undone_in state log cursor lit) state after
unfolding undone_in
undo_leaves short state log cursor lit after h a = leaves short (undone_in state log cursor lit) state after (undone_fits (state_in state) (cursor_in cursor) (state_fits state h) lit (log_in (cursor_in cursor) log)) a

pub initialize_leaves : (short : Bool) (state t list log cursor after : List ℕ) → Bytes state →
    AfterOf short (initialized_in state t list log cursor).outcome state after → Leaves short (initialized_in state t list log cursor).outcome state after
unfolding initialized_in
initialize_leaves short state t list log cursor after h a =
    leaves short (initialized_in state t list log cursor).outcome state after (initialized_fits (state_in state) (cursor_in cursor) (state_fits state h) (last_length state) t (log_in (cursor_in cursor) log) (list_in list)) a
