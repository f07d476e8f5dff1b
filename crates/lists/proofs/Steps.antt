-- What the code's calls, one after the other, leave: each lemma is one way through a function.
use mathlib.Core.Path.{◌≡◌, refl, sym, ◌∙◌, ap, ap₂}
use mathlib.Core.Bool.{Bool, false}
use mathlib.Core.List.{List, []}
use Prim.Native.Nat.{ℕ}
use borrow.Author.Tests.{eq-eqb, ne_eqb}
use Rattle.base.proofs.Loop.{pick_yes, pick_no}
use Rattle.plan.specs.Words.{edge_lit_of}
use Rattle.sat.specs.declared.Lit.{Lit}
use Rattle.std.specs.Prelude.{Option, None, Some}
use Rattle.noting.specs.Words.{lits_of, lower_lit_of, upper_lit_of}
use Rattle.reasons.specs.Reason.{lits_in}
use Rattle.reasons.specs.declared.reason.Reason.{Reason}
use Rattle.reasons.specs.declared.reason.Reason.TheVariants.{NotPropagated, EdgeInSameGroup, EdgeBetweenDifferentGroups, TooLargeIfRegionsAreMerged, RegionAlreadyLarge, RegionAlreadySmall, InconsistentBoundsIfRegionsAreMerged, BoundPropagationWithinRegion, AdjacentSameSizeRegions}
use Rattle.walks.specs.declared.Shape.{Shape}
use Rattle.walks.specs.Written.{Out, out_of, pushed, written}
use Rattle.walks.specs.Answers.{Answer, answer_of, given, missing, connected_path, decided_region, potential_region}
use Rattle.lists.specs.declared.Ends.{Ends}
use Rattle.lists.specs.Parts.{edge_lits, shape_of, ends_from, ends_of, after, then, path, decided, potential, inside, two_paths, two_regions, three_regions, and_word, and_lit, and_opt}
use Rattle.lists.specs.Lists.{between, too_large, mismatched, spread, same_sized, reason_lits, mismatch, same_size}

-- a part after a list, and after none
pub then_past : (a : Answer) (f : Out → Answer) (r : Option ℕ) (t : List ℕ) (n : ℕ) (b : Answer) → answer_of r t ≡ a → r ≡ Some n → b ≡ f (out_of t n) → b ≡ then a f
unfolding then after
then_past a f r t n b e h k = k ∙ sym (ap (λ (q : Option ℕ). after f q t) h) ∙ ap (λ (x : Answer). then x f) e

pub then_stop : (a : Answer) (f : Out → Answer) (r : Option ℕ) (t : List ℕ) → answer_of r t ≡ a → r ≡ None → answer_of None t ≡ then a f
unfolding then after
then_stop a f r t e h = sym (ap (λ (q : Option ℕ). after f q t) h) ∙ ap (λ (x : Answer). then x f) e

pub word_past : (r : Option ℕ) (x n : ℕ) (t : List ℕ) (o : Out) → r ≡ Some n → o ≡ pushed x (out_of t n) → answer_of (Some o.place) o.text ≡ and_word x (answer_of r t)
unfolding and_word given written
word_past r x n t o h k = then_past _ _ r t n _ refl h (ap (λ (y : Out). answer_of (Some y.place) y.text) k)

pub word_stop : (r : Option ℕ) (x : ℕ) (t : List ℕ) → r ≡ None → answer_of None t ≡ and_word x (answer_of r t)
unfolding and_word
word_stop r x t h = then_stop _ _ r t refl h

-- nothing more after a list
pub then_nothing : (r : Option ℕ) (t : List ℕ) → answer_of r t ≡ then (answer_of r t) (given [])
unfolding then after given written
then_nothing (Some n) t = refl
then_nothing None t = refl

pub lit_none : (r : Option ℕ) (x : ℕ) (t : List ℕ) → x ≡ 65535 → answer_of r t ≡ and_lit x (answer_of r t)
unfolding and_lit lits_of
lit_none r x t h = then_nothing r t ∙ ap (λ (l : List ℕ). then (answer_of r t) (given l)) (sym (pick_yes _ _ (eq-eqb x 65535 h)))

pub lit_some : (x : ℕ) (a b : Answer) → (x ≡ 65535 → ⊥) → b ≡ and_word x a → b ≡ and_lit x a
unfolding and_word and_lit lits_of
lit_some x a b h k = k ∙ ap (λ (l : List ℕ). then a (given l)) (sym (pick_no _ _ (ne_eqb x 65535 h)))

pub opt_none : (r : Option ℕ) (x : Option Lit) (t : List ℕ) → x ≡ None → answer_of r t ≡ and_opt x (answer_of r t)
unfolding and_opt lits_in
opt_none r x t h = then_nothing r t ∙ ap (λ (l : Option Lit). then (answer_of r t) (given (lits_in l))) (sym h)

pub opt_some : (x : Option Lit) (l : Lit) (a b : Answer) → x ≡ Some l → b ≡ and_word l.0 a → b ≡ and_opt x a
unfolding and_word and_opt lits_in
opt_some x l a b h k = k ∙ ap (λ (m : Option Lit). then a (given (lits_in m))) (sym h)

module _ (ws : List ℕ) (es : List (List ℕ)) (noted : List ℕ) where
  -- the walks, with the shape that was made
  pub path_by : (z : Shape) (lits : List ℕ) (p : Ends) (o : Out) (b : Answer) → z ≡ shape_of ws → lits ≡ edge_lits ws → b ≡ connected_path es noted lits z p.u p.v o → b ≡ path ws es noted p o
  unfolding path
  path_by z lits p o b e h k = k ∙ (λ i. connected_path es noted (h i) (e i) p.u p.v o)

  pub decided_by : (z : Shape) (lits : List ℕ) (u : ℕ) (o : Out) (b : Answer) → z ≡ shape_of ws → lits ≡ edge_lits ws → b ≡ decided_region es noted lits z u o → b ≡ decided ws es noted u o
  unfolding decided
  decided_by z lits u o b e h k = k ∙ (λ i. decided_region es noted (h i) (e i) u o)

  pub potential_by : (z : Shape) (lits : List ℕ) (u : ℕ) (o : Out) (b : Answer) → z ≡ shape_of ws → lits ≡ edge_lits ws → b ≡ potential_region es noted lits z u o → b ≡ potential ws es noted u o
  unfolding potential
  potential_by z lits u o b e h k = k ∙ (λ i. potential_region es noted (h i) (e i) u o)

  pub inside_by : (g : ℕ) (e : Ends) (o : Out) (b : Answer) → e ≡ ends_of es g false → b ≡ path ws es noted e o → b ≡ inside ws es noted g o
  unfolding inside
  inside_by g e o b h k = k ∙ ap (λ (p : Ends). path ws es noted p o) h

  pub between_by : (h g : ℕ) (flip : Bool) (o : Out) (d e : Ends) (a b : Answer) (x : ℕ) → d ≡ ends_of es h false → e ≡ ends_of es g flip →
      a ≡ two_paths ws es noted (ends_from d.u e.u) (ends_from d.v e.v) o → x ≡ edge_lit_of ws h → b ≡ and_word x a → b ≡ between ws es noted h g flip o
  unfolding between
  between_by h g flip o d e a b x p q k l m =
      m ∙ ap₂ and_word l (k ∙ ap₂ (λ (d : Ends) (e : Ends). two_paths ws es noted (ends_from d.u e.u) (ends_from d.v e.v) o) p q)

  pub large_by : (g : ℕ) (l : Option Lit) (o : Out) (e : Ends) (a b : Answer) → e ≡ ends_of es g false → a ≡ two_regions ws es noted e.u e.v o → b ≡ and_opt l a → b ≡ too_large ws es noted g l o
  unfolding too_large
  large_by g l o e a b p k m = m ∙ ap (and_opt l) (k ∙ ap (λ (e : Ends). two_regions ws es noted e.u e.v o) p)

  pub spread_by : (k u : ℕ) (l : Option Lit) (o : Out) (a b : Answer) → a ≡ path ws es noted (ends_from k u) o → b ≡ and_opt l a → b ≡ spread ws es noted k u l o
  unfolding spread
  spread_by k u l o a b h m = m ∙ ap (and_opt l) h

  pub mismatch_by : (r : Reason) (g a b : ℕ) (flip : Bool) (o : Out) (e : Ends) (l m : ℕ) (x y z : Answer) → r ≡ InconsistentBoundsIfRegionsAreMerged g a b flip → e ≡ ends_of es g flip →
      x ≡ two_paths ws es noted (ends_from e.u a) (ends_from e.v b) o → l ≡ upper_lit_of noted a → y ≡ and_lit l x → m ≡ lower_lit_of noted b → z ≡ and_lit m y → z ≡ mismatch ws es noted r o
  unfolding mismatch mismatched
  mismatch_by r g a b flip o e l m x y z h p k hl i hm j =
      j ∙ ap₂ and_lit hm (i ∙ ap₂ and_lit hl (k ∙ ap (λ (e : Ends). two_paths ws es noted (ends_from e.u a) (ends_from e.v b) o) p)) ∙ sym (ap (λ (q : Reason). mismatch ws es noted q o) h)

  pub same_by : (r : Reason) (a : ℕ) (la ua : Option Lit) (b : ℕ) (lb ub : Option Lit) (u : ℕ) (o : Out) (x y z v w : Answer) → r ≡ AdjacentSameSizeRegions a la ua b lb ub u → x ≡ three_regions ws es noted a b u o → y ≡ and_opt la x →
      z ≡ and_opt ua y → v ≡ and_opt lb z → w ≡ and_opt ub v → w ≡ same_size ws es noted r o
  unfolding same_size same_sized
  same_by r a la ua b lb ub u o x y z v w h e₁ e₂ e₃ e₄ e₅ =
      e₅ ∙ ap (and_opt ub) (e₄ ∙ ap (and_opt lb) (e₃ ∙ ap (and_opt ua) (e₂ ∙ ap (and_opt la) e₁))) ∙ sym (ap (λ (q : Reason). same_size ws es noted q o) h)

  -- another kind of reason has none of these lists
  pub mismatch_other : (r : Reason) (o : Out) → ((g a b : ℕ) (flip : Bool) → r ≡ InconsistentBoundsIfRegionsAreMerged g a b flip → ⊥) → missing o ≡ mismatch ws es noted r o
  unfolding mismatch
  mismatch_other NotPropagated o k = refl
  mismatch_other (EdgeInSameGroup g) o k = refl
  mismatch_other (EdgeBetweenDifferentGroups h g flip) o k = refl
  mismatch_other (TooLargeIfRegionsAreMerged g l) o k = refl
  mismatch_other (RegionAlreadyLarge v) o k = refl
  mismatch_other (RegionAlreadySmall v) o k = refl
  mismatch_other (InconsistentBoundsIfRegionsAreMerged g a b flip) o k = absurd (k g a b flip refl)
  mismatch_other (BoundPropagationWithinRegion l k u) o z = refl
  mismatch_other (AdjacentSameSizeRegions a la ua b lb ub u) o k = refl

  pub same_other : (r : Reason) (o : Out) → ((a : ℕ) (la ua : Option Lit) (b : ℕ) (lb ub : Option Lit) (u : ℕ) → r ≡ AdjacentSameSizeRegions a la ua b lb ub u → ⊥) → missing o ≡ same_size ws es noted r o
  unfolding same_size
  same_other NotPropagated o k = refl
  same_other (EdgeInSameGroup g) o k = refl
  same_other (EdgeBetweenDifferentGroups h g flip) o k = refl
  same_other (TooLargeIfRegionsAreMerged g l) o k = refl
  same_other (RegionAlreadyLarge v) o k = refl
  same_other (RegionAlreadySmall v) o k = refl
  same_other (InconsistentBoundsIfRegionsAreMerged g a b flip) o k = refl
  same_other (BoundPropagationWithinRegion l k u) o z = refl
  same_other (AdjacentSameSizeRegions a la ua b lb ub u) o k = absurd (k a la ua b lb ub u refl)

  -- the arms
  pub arm : (r q : Reason) (o : Out) (b : Answer) → r ≡ q → b ≡ reason_lits ws es noted q o → b ≡ reason_lits ws es noted r o
  arm r q o b e k = k ∙ sym (ap (λ (x : Reason). reason_lits ws es noted x o) e)

  pub mismatch_arm : (r : Reason) (g a b : ℕ) (flip : Bool) (o : Out) (x : Answer) → r ≡ InconsistentBoundsIfRegionsAreMerged g a b flip → x ≡ mismatch ws es noted r o → x ≡ reason_lits ws es noted r o
  unfolding reason_lits mismatch
  mismatch_arm r g a b flip o x e k = arm r _ o x e (k ∙ ap (λ (q : Reason). mismatch ws es noted q o) e)

  pub same_arm : (r : Reason) (a : ℕ) (la ua : Option Lit) (b : ℕ) (lb ub : Option Lit) (u : ℕ) (o : Out) (x : Answer) → r ≡ AdjacentSameSizeRegions a la ua b lb ub u → x ≡ same_size ws es noted r o → x ≡ reason_lits ws es noted r o
  unfolding reason_lits same_size
  same_arm r a la ua b lb ub u o x e k = arm r _ o x e (k ∙ ap (λ (q : Reason). same_size ws es noted q o) e)
