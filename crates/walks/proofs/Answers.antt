-- What the tests of the public walks tell, and the searches that they start.
use Prim.Native.Nat.{ℕ, ◌+◌, ◌-◌, ◌<◌, ◌≤◌}
use native.Mathlib.Omega.{arith}
use mathlib.Core.Path.{◌≡◌, refl, sym, ◌∙◌, ap, ap₂, subst, fun_ext}
use mathlib.Core.Bool.{Bool, true, false, false≢true}
use mathlib.Core.List.{List, []}
use lib.ListN.{length, get_or, drop, take, length-drop}
use native.Mathlib.Nat.{le_of_eq}
use lib.Seq.{get_or-drop, take_all}
use borrow.Author.Tests.{ltb-true, ltb-false, lt-ltb, le-ltb}
use Rattle.base.specs.Iter.{pick}
use Rattle.base.proofs.Loop.{pick_yes, pick_no}
use Rattle.std.specs.Prelude.{Some}
use Rattle.walks.specs.declared.Shape.{Shape}
use Rattle.graph.specs.Search.{Scan, scan_of, Graph, searched, searched_on, reached_yet, blank}
use Rattle.graph.specs.Bounds.{Ok, Fine}
use Rattle.graph.specs.Paths.{here}
use Rattle.walks.specs.Written.{Out, written}
use Rattle.graph.specs.Lists.{number_of}
use Rattle.walks.specs.Walk.{word_at, path_back, path_list, tree_list, decided_list, border_list, potential_list}
use Rattle.walks.specs.Answers.{answer_of, given, startable, ready}
use Rattle.graph.proofs.Keep.{drained_ok, begun_ok, blank_fresh, ok_count}
use Rattle.graph.proofs.Walkable.{walkable_fine, pick_false}
use Rattle.graph.proofs.Found.{found}
use Rattle.walks.proofs.Walk.{path_count}

pub pick_true : (a b : Bool) → pick a b false ≡ true → (a ≡ true) × (b ≡ true)
unfolding pick
pick_true true b e = (refl, e)
pick_true false b e = absurd (false≢true e)

-- what the code needs of a graph that can be walked from u
pub record Known (es : List (List ℕ)) (st : List ℕ) (z : Shape) (u : ℕ) : Type 0 where
  pub fine : Fine z.num_vertices z.num_edges es
  pub states : z.num_edges ≤ length st
  pub start : u < z.num_vertices

pub startable_known : (es : List (List ℕ)) (st : List ℕ) (z : Shape) (u : ℕ) → startable es st z u ≡ true → Known es st z u
unfolding startable
startable_known es st z u e =
    let a = pick_true _ _ e in
    let b = walkable_fine es st z.num_edges z.num_vertices a.0 in
    record { fine = b.0; states = b.1; start = ltb-true _ _ a.1 }

pub ready_known : (es : List (List ℕ)) (st lits : List ℕ) (z : Shape) (u : ℕ) → ready es st lits z u ≡ true → Known es st z u × (z.first_lit + z.num_edges ≤ length lits)
unfolding ready
ready_known es st lits z u e =
    let a = pick_true _ _ e in
    (startable_known es st z u a.0, ltb-false _ _ (pick_false _ _ a.1).0)

pub searched_ok : (e : Graph) (edges n start : ℕ) → Fine n edges e.ends → start < n → Ok n (searched e edges n start)
unfolding searched_on
searched_ok e edges n start f h = drained_ok n edges e n _ f (begun_ok n start blank f.vertices h blank_fresh)

-- the start is reached
pub searched_some : (e : Graph) (edges n start : ℕ) → Fine n edges e.ends → start < n → 0 < (searched e edges n start).count
searched_some e edges n start f h = let s = found e edges n start f h in let (i, k, _) = s.listed start (s.all start [] here) in omega (arith, k)

-- the same of the words that a search left
module _ (e : Graph) (edges n start : ℕ) (w : List ℕ) (c : ℕ) (f : Fine n edges e.ends) (h : start < n) (x : scan_of w c ≡ searched e edges n start) where
  pub left_small : (i : ℕ) → i < 128 → get_or w i 0 < 64
  left_small = (subst (Ok n) (sym x) (searched_ok e edges n start f h)).small

  pub left_count : c ≤ 64
  left_count = omega (arith, ok_count (subst (Ok n) (sym x) (searched_ok e edges n start f h)), f.vertices)

  pub left_some : 0 < c
  left_some = subst (λ (s : Scan). 0 < s.count) (sym x) (searched_some e edges n start f h)

-- whether v was reached
pub left_yet : (e : Graph) (edges n u : ℕ) (w : List ℕ) (c v : ℕ) → scan_of w c ≡ searched e edges n u → reached_yet (scan_of w 0) v ≡ reached_yet (searched e edges n u) v
left_yet e edges n u w c v x = ap (λ (s : Scan). reached_yet s v) x

pub given_as : (l m : List ℕ) (o o' : Out) → o' ≡ written l o → l ≡ m → answer_of (Some o'.place) o'.text ≡ given m o
unfolding given
given_as l m o o' h e = ap (λ (x : Out). answer_of (Some x.place) x.text) (h ∙ ap (λ (y : List ℕ). written y o) e)

-- the words from a place on, as a part of the slice has them
pub words_from : (lits : List ℕ) (first : ℕ) → word_at (take (length lits - first) (drop first lits)) ≡ number_of lits first
words_from lits first =
    ap word_at (take_all (length lits - first) (drop first lits) (le_of_eq (length-drop first lits))) ∙ fun_ext (λ g. get_or-drop first lits g 0)

-- the lists, from the words that a search left
module _ (e : Graph) (edges n u : ℕ) (w : List ℕ) (c : ℕ) (lits : List ℕ) (first : ℕ) (x : scan_of w c ≡ searched e edges n u) where
  pub left_path : (v : ℕ) → path_back (word_at (take (length lits - first) (drop first lits))) (scan_of w 0) u n v ≡ path_list (number_of lits first) e edges n u v
  unfolding path_list
  left_path v = path_count _ w 0 c u n v ∙ ap₂ (λ (f : ℕ → ℕ) (s : Scan). path_back f s u n v) (words_from lits first) x

  pub left_tree : tree_list (word_at (take (length lits - first) (drop first lits))) (scan_of w c) ≡ decided_list (number_of lits first) e edges n u
  unfolding decided_list
  left_tree = ap₂ tree_list (words_from lits first) x

  pub left_border : border_list (word_at (take (length lits - first) (drop first lits))) e edges n (reached_yet (scan_of w 0)) ≡ potential_list (number_of lits first) e edges n u
  unfolding potential_list
  left_border = ap₂ (λ (f : ℕ → ℕ) (s : Scan). border_list f e edges n (reached_yet s)) (words_from lits first) x

-- the test, by what was read
module _ (es : List (List ℕ)) (st lits : List ℕ) (z : Shape) (u : ℕ) where
  pub ready_yes : startable es st z u ≡ true → z.first_lit + z.num_edges ≤ length lits → true ≡ ready es st lits z u
  unfolding ready
  ready_yes e h = sym (pick_yes _ _ e ∙ pick_no _ _ (le-ltb (length lits) (z.first_lit + z.num_edges) h))
