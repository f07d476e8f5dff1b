-- The walks of a proper plan's words are those of the plan that they stand for, and lists written one after the other are one list.
use Prim.Native.Nat.{ℕ, ◌+◌, ◌<◌, ◌≤◌}
use native.Mathlib.Omega.{arith}
use mathlib.Core.Path.{◌≡◌, refl, sym, ◌∙◌, ap}
use mathlib.Core.Bool.{Bool, true, false}
use mathlib.Core.List.{List, [], ◌∷◌, ◌++◌}
use lib.Dec.{ltb}
use lib.ListN.{length, get_or, replicate, length-replicate}
use borrow.Author.Tests.{lt-ltb, ltb-false, not-true, not-false}
use Rattle.base.specs.Iter.{pick}
use Rattle.base.proofs.Loop.{pick_yes, pick_no, pick_ind}
use Rattle.base.proofs.Filled.{filled_length, filled_in}
use Rattle.sat.specs.declared.Lit.{Lit}
use Rattle.graph.specs.Search.{graph}
use Rattle.graph.specs.Lists.{number_of}
use Rattle.graph.proofs.Walkable.{fine_walkable}
use Rattle.division.specs.Plan.{Plan, left, right}
use Rattle.division.specs.Regions.{within}
use Rattle.division.specs.State as state
use Rattle.division.specs.Reasons as abstract
use Rattle.division.proofs.Walk.{within_joined}
use Rattle.calls.specs.Look.{unjoined}
use Rattle.plan.specs.Words.{vertices_of, edges_of, edge_lit_of}
use Rattle.plan.specs.Plan.{plan_of}
use Rattle.plan.proofs.Abstract.{proper_plan}
use Rattle.std.specs.Prelude.{Option, None, Some}
use Rattle.noting.specs.Words.{state_of, lits_of, capped}
use Rattle.reasons.specs.Reason.{lits_in}
use Rattle.walks.specs.Written.{Out, written}
use Rattle.walks.specs.Walk as walk
use Rattle.walks.specs.Answers.{Answer, answer_of, given, missing, startable, ready, connected_path, decided_region, potential_region}
use Rattle.walks.proofs.Answers.{ready_yes}
use Rattle.walks.proofs.Written.{written_append}
use Rattle.walks.proofs.Same.{path_same, decided_same, potential_same}
use Rattle.lists.specs.Parts.{shape_of, edge_lits, ends_from, ends_of, after, then, path, decided, potential, and_word, and_lit, and_opt}
use Rattle.lists.specs.Within.{Held}

-- ---- one list after the other
pub then_given : (l m : List ℕ) (o : Out) (f : Out → Answer) → f (written l o) ≡ given m (written l o) → then (given l o) f ≡ given (l ++ m) o
unfolding then after given
then_given l m o f e = e ∙ ap (λ (x : Out). answer_of (Some x.place) x.text) (sym (written_append l m o))

pub word_given : (x : ℕ) (l : List ℕ) (o : Out) → and_word x (given l o) ≡ given (l ++ (x ∷ [])) o
unfolding and_word
word_given x l o = then_given l (x ∷ []) o _ refl

pub opt_given : (x : Option Lit) (l : List ℕ) (o : Out) → and_opt x (given l o) ≡ given (l ++ lits_in x) o
unfolding and_opt
opt_given x l o = then_given l (lits_in x) o _ refl

pub lit_given : (x : ℕ) (l : List ℕ) (o : Out) → and_lit x (given l o) ≡ given (l ++ lits_of x) o
unfolding and_lit
lit_given x l o = then_given l (lits_of x) o _ refl

-- a part that is missing
after_lost : (f : Out → Answer) (r : Option ℕ) (t : List ℕ) → r ≡ None → (after f r t).listed ≡ None
unfolding after
after_lost f r t e = ap (λ (q : Option ℕ). (after f q t).listed) e

pub then_lost : (a : Answer) (f : Out → Answer) → a.listed ≡ None → (then a f).listed ≡ None
unfolding then
then_lost a f e = after_lost f a.listed a.text e

pub word_lost : (x : ℕ) (a : Answer) → a.listed ≡ None → (and_word x a).listed ≡ None
unfolding and_word
word_lost x a e = then_lost a _ e

pub opt_lost : (x : Option Lit) (a : Answer) → a.listed ≡ None → (and_opt x a).listed ≡ None
unfolding and_opt
opt_lost x a e = then_lost a _ e

pub lit_lost : (x : ℕ) (a : Answer) → a.listed ≡ None → (and_lit x a).listed ≡ None
unfolding and_lit
lit_lost x a e = then_lost a _ e

pub next_lost : (l : List ℕ) (o : Out) (a : Answer) (f : Out → Answer) → a ≡ given l o → (f (written l o)).listed ≡ None → (then a f).listed ≡ None
unfolding then after given
next_lost l o a f e h = ap (λ (x : Answer). (then x f).listed) e ∙ h

-- ---- the edges' literals
pub edge_lits_length : (ws : List ℕ) → length (edge_lits ws) ≡ 128
unfolding edge_lits
edge_lits_length ws = filled_length 0 (edge_lit_of ws) (replicate 128 0) _ ∙ length-replicate {A = ℕ} 128 0

edge_lits_at : (ws : List ℕ) → edges_of ws ≤ 128 → (g : ℕ) → g < edges_of ws → get_or (edge_lits ws) (0 + g) 0 ≡ edge_lit_of ws g
unfolding edge_lits capped
edge_lits_at ws r g h =
    let n : capped (edges_of ws) 128 ≡ edges_of ws = pick_ind (λ (i : ℕ). i ≡ edges_of ws) (ltb (edges_of ws) 128) (edges_of ws) 128
    (λ (t : ltb (edges_of ws) 128 ≡ true). refl) (λ (t : ltb (edges_of ws) 128 ≡ false). omega (arith, ltb-false (edges_of ws) 128 t)) in
    filled_in 0 (edge_lit_of ws) (replicate 128 0) (capped (edges_of ws) 128) g (omega (arith, n)) (omega (arith, n, length-replicate {A = ℕ} 128 0))

-- ---- the walks
module _ (ws : List ℕ) (es : List (List ℕ)) (noted : List ℕ) (k : Held ws es noted) where
  abbrev d : Plan
  d = plan_of ws es

  abbrev s : state.State
  s = state_of noted

  ready_from : (u : ℕ) → u < vertices_of ws → ready es noted (edge_lits ws) (shape_of ws) u ≡ true
  unfolding startable
  ready_from u h =
      let f = k.proper.fine in
      let n : edges_of ws ≤ length noted = omega (arith, f.fits, k.states) in
      let m : 0 + edges_of ws ≤ length (edge_lits ws) = omega (arith, f.fits, edge_lits_length ws) in
      sym (ready_yes es noted (edge_lits ws) (shape_of ws) u (pick_yes _ _ (fine_walkable es noted (edges_of ws) (vertices_of ws) f n) ∙ lt-ltb u (vertices_of ws) h) m)

  lits_same : (g : ℕ) → g < edges_of ws → number_of (edge_lits ws) 0 g ≡ edge_lit_of ws g
  lits_same g h = edge_lits_at ws k.proper.fine.fits g h

  pub path_there : (u v : ℕ) (o : Out) → u < vertices_of ws → v < vertices_of ws → unjoined d s u v ≡ false → path ws es noted (ends_from u v) o ≡ given (abstract.connected_path d s u v) o
  unfolding path connected_path unjoined within walk.path_list walk.path_back abstract.connected_path
  path_there u v o hu hv e =
      let t : within d (state.decided d s) u v ≡ true = not-false _ e in
      pick_yes _ _ (ready_from u hu) ∙ pick_yes _ _ (lt-ltb v (vertices_of ws) hv) ∙ pick_yes _ _ t ∙
      ap (λ (l : List ℕ). given l o)
      (path_same (number_of (edge_lits ws) 0) (edge_lit_of ws) (graph es noted false) (edges_of ws) (vertices_of ws) u lits_same k.proper.fine hu v (within_joined d (proper_plan ws es k.proper) noted false u hu v t))

  pub path_gone_lem : (u v : ℕ) (o : Out) → u < vertices_of ws → v < vertices_of ws → unjoined d s u v ≡ true → (path ws es noted (ends_from u v) o).listed ≡ None
  unfolding path connected_path unjoined within missing
  path_gone_lem u v o hu hv e =
      ap (λ (a : Answer). a.listed) (pick_yes _ _ (ready_from u hu) ∙ pick_yes _ _ (lt-ltb v (vertices_of ws) hv) ∙ pick_no _ _ (not-true _ e))

  pub decided_there : (u : ℕ) (o : Out) → u < vertices_of ws → decided ws es noted u o ≡ given (abstract.decided_region d s u) o
  unfolding decided decided_region walk.decided_list walk.tree_list abstract.decided_region
  decided_there u o hu =
      pick_yes _ _ (ready_from u hu) ∙
      ap (λ (l : List ℕ). given l o) (decided_same (number_of (edge_lits ws) 0) (edge_lit_of ws) (graph es noted false) (edges_of ws) (vertices_of ws) u lits_same k.proper.fine hu)

  pub potential_there : (u : ℕ) (o : Out) → u < vertices_of ws → potential ws es noted u o ≡ given (abstract.potential_region d s u) o
  unfolding potential potential_region within walk.potential_list walk.border_list walk.walls_of walk.leaves walk.leads_out abstract.potential_region abstract.leaves
  potential_there u o hu =
      pick_yes _ _ (ready_from u hu) ∙
      ap (λ (l : List ℕ). given l o) (potential_same (number_of (edge_lits ws) 0) (edge_lit_of ws) (graph es noted true) (edges_of ws) (vertices_of ws) u lits_same)

  -- ---- the ends of an edge
  abbrev pub near : ℕ → Bool → ℕ
  near g flip = pick flip (right d g) (left d g)

  abbrev pub far : ℕ → Bool → ℕ
  far g flip = pick flip (left d g) (right d g)

  pub ends_are : (g : ℕ) (flip : Bool) → g < edges_of ws → ends_of es g flip ≡ ends_from (near g flip) (far g flip)
  unfolding ends_of pick
  ends_are g true h = pick_yes _ _ (lt-ltb g 128 (omega (arith, k.proper.fine.fits)))
  ends_are g false h = pick_yes _ _ (lt-ltb g 128 (omega (arith, k.proper.fine.fits)))

  pub near_in : (g : ℕ) (flip : Bool) → g < edges_of ws → near g flip < vertices_of ws
  near_in g flip h = pick_ind (λ x. x < vertices_of ws) flip _ _ (λ _. (k.proper.fine.within g h).b) (λ _. (k.proper.fine.within g h).a)

  pub far_in : (g : ℕ) (flip : Bool) → g < edges_of ws → far g flip < vertices_of ws
  far_in g flip h = pick_ind (λ x. x < vertices_of ws) flip _ _ (λ _. (k.proper.fine.within g h).a) (λ _. (k.proper.fine.within g h).b)
