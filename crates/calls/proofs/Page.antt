-- Document 02, request 3: the bytes of a page are a line for each region, in order of its lowest vertex, and each
-- line gives back what the region has.
use Prim.Native.Nat.{ℕ, zero, suc, ◌*◌, ◌<◌, ◌≤◌}
use native.Mathlib.Omega.{arith}
use native.Mathlib.Nat.{le_antisymm}
use mathlib.Core.Path.{◌≡◌, refl, sym, ◌∙◌, ap, subst}
use mathlib.Core.Logic.{⊎_elim, ◌↔◌}
use mathlib.Core.Bool.{Bool, true, false}
use mathlib.Core.List.Memᴰ
use mathlib.Core.List.{List, [], ◌∷◌, ◌++◌}
use lib.Count.{ones, count_trailing_zeros, ones_step}
use lib.Dec.{eqb}
use lib.ListN.{length, length-append}
use borrow.Author.Tests.{eqb-true, eq-eqb}
use Rattle.base.proofs.Tests.{le_or_lt}
use Rattle.graph.proofs.Joined.{joined_refl}
use Rattle.division.specs.Plan.{Plan, Proper}
use Rattle.division.specs.State.{State, Same}
use Rattle.division.specs.Noting.{note_all, In}
use Rattle.division.specs.Views.{weight_of, view_of}
use Rattle.division.proofs.Noted.{low_fits, high_fits}
use Rattle.division.proofs.Noting.{bounded_all}
use Rattle.division.proofs.Sums.{total_most}
use Rattle.division.proofs.Views.{label_is, label_lowest, shows}
use Rattle.pages.specs.Sets.{bits, set_of}
use Rattle.pages.specs.Line.{line}
use Rattle.pages.specs.Lines.{set_line, Figures, region_line, is_label, num_regions, line_of, page_text}
use Rattle.pages.specs.Reading.{LineReads}
use Rattle.pages.proofs.Sets.{low_bit, rest_bits}
use Rattle.pages.proofs.Fields.{lowest_few, count_few}
use Rattle.pages.proofs.Reading.{set_small, lowest_read, reads_back}
use Rattle.calls.specs.Table.{rising}
use Rattle.calls.specs.Calls.{region_figures}
use Rattle.calls.specs.Page.{Listing, Member, Lowest, RegionFields, PageLines, PageOf}
use Rattle.calls.proofs.Rising.{swept_listing, listing_same, swept_more, swept_total, strung, swept_collect}

-- a set has a bit for each member
ones_swept : (b : ℕ → Bool) (v k : ℕ) → ones (bits b v k) ≡ length (rising b v k)
unfolding bits rising ones
ones_swept b v zero = refl
ones_swept b v (suc k) =
    ones_step (bits b v (suc k))
    ∙ omega (arith, low_bit b v k, ap ones (rest_bits b v k), ones_swept b (suc v) k, swept_more b v k)

-- the bounds of all vertices are words of 32 bits; an upper bound is unlimited or less
abbrev pub BoundsFit : Plan → State → Type 0
BoundsFit d s = (v : ℕ) → v < d.vertices → (s.lower v < 4294967296) × (s.upper v ≤ 2147483647)

module _ (d : Plan) (k : Proper d) (s : State) where
  abbrev t : Figures
  t = region_figures d s

  -- the vertices with a region's label are its members
  labels_member : (r p : ℕ) → r < d.vertices → t.label r ≡ r → p < d.vertices →
      (eqb (t.label p) r ≡ true) ↔ Same d s r p
  unfolding region_figures
  labels_member r p h e g =
      let x = (shows d k s).same r p h g in
      (λ b. x.0 (e ∙ sym (eqb-true _ _ b)), λ j. eq-eqb _ _ (sym (x.1 j) ∙ e))

  -- its label is its lowest vertex
  label_below : (r p : ℕ) → r < d.vertices → Same d s r p → t.label r ≤ p
  unfolding region_figures view_of
  label_below r p h j = label_lowest d k s.edge_state false r p h j

  lowest_label : (r : ℕ) → r < d.vertices → (is_label t.label r ≡ true) ↔ Lowest d s r
  unfolding region_figures view_of
  lowest_label r h = (
    λ b. record {
      known = h;
      least = λ p m. let z = label_below r p h m.joined in omega (arith, eqb-true (t.label r) r b);
    },
    λ w. let x = label_is d k s.edge_state false r h in
        let y = w.least _ (record { known = x.0; joined = x.1 }) in
        eq-eqb _ _ (le_antisymm (label_below r r h (joined_refl r)) y),
  )

  pub lowest_list : Listing (Lowest d s) (rising (λ r. is_label t.label r) 0 d.vertices)
  lowest_list = swept_listing _ d.vertices (Lowest d s) (λ r w. w.known) lowest_label

  -- however the regions are listed, so many are counted
  pub regions_counted : (rs : List ℕ) → Listing (Lowest d s) rs → num_regions t.label d.vertices ≡ length rs
  unfolding num_regions
  regions_counted rs l = swept_total _ d.vertices ∙ ap length (listing_same lowest_list l)

  module _ (f : BoundsFit d s) (r : ℕ) (h : r < d.vertices) (e : t.label r ≡ r) where
    abbrev set : ℕ
    set = set_of t.label d.vertices r

    self : Member d s r r
    self = record { known = h; joined = joined_refl r }

    has_label : (p : ℕ) → Member d s r p → t.label p ≡ r
    has_label p m = eqb-true _ _ ((labels_member r p h e m.known).1 m.joined)

    is_member : (p : ℕ) → p < d.vertices → t.label p ≡ r → Member d s r p
    is_member p g x = record { known = g; joined = (labels_member r p h e g).0 (eq-eqb _ _ x) }

    above : (p : ℕ) → Member d s r p → s.lower p ≤ t.lower r
    unfolding region_figures
    above p m = subst (λ x. s.lower p ≤ t.lower x) (has_label p m) ((shows d k s).low p m.known)

    below : (p : ℕ) → Member d s r p → t.upper r ≤ s.upper p
    unfolding region_figures
    below p m = subst (λ x. t.upper x ≤ s.upper p) (has_label p m) ((shows d k s).up p m.known)

    -- a bound of 0 is every member's, and so is an unlimited one
    greatest : (p : ℕ) × Member d s r p × (s.lower p ≡ t.lower r)
    unfolding region_figures
    greatest = ⊎_elim
        (λ z. (r, self, omega (arith, above r self)))
        (λ z. let x = (shows d k s).low_at r h (subst (λ y. 0 < t.lower y) (sym e) z) in
        (_, is_member _ x.vertex (x.here ∙ e), x.is ∙ ap t.lower e))
        (le_or_lt (t.lower r) 0)

    least : (p : ℕ) × Member d s r p × (s.upper p ≡ t.upper r)
    unfolding region_figures
    least = ⊎_elim
        (λ z. (r, self, omega (arith, below r self, (f r h).1)))
        (λ z. let x = (shows d k s).up_at r h (subst (λ y. t.upper y < 2147483647) (sym e) z) in
        (_, is_member _ x.vertex (x.here ∙ e), x.is ∙ ap t.upper e))
        (le_or_lt 2147483647 (t.upper r))

    region_fields : RegionFields d s r (ones set) (t.weight r) (t.lower r) (t.upper r)
    unfolding set_of region_figures view_of weight_of
    region_fields = record {
      members = rising (λ p. eqb (t.label p) r) 0 d.vertices;
      listing = swept_listing _ d.vertices (Member d s r) (λ p m. m.known) (λ p g. (
        λ b. record { known = g; joined = (labels_member r p h e g).0 b },
        λ m. (labels_member r p h e g).1 m.joined,
      ));
      counted = ones_swept (λ p. eqb (t.label p) r) 0 d.vertices;
      weighs = record { member = λ p. eqb (t.label p) r; exactly = λ p g. labels_member r p h e g; sum = refl };
      above = above;
      greatest = greatest;
      below = below;
      least = least;
    }

    weight_fits : t.weight r < 4294967296
    unfolding region_figures view_of weight_of
    weight_fits =
        let x = total_most (λ p. eqb (t.label p) r) d.weight 1000000 d.vertices k.light in
        omega (arith, k.fine.vertices)

    lowest_is : count_trailing_zeros 64 set ≡ r
    lowest_is =
        lowest_read t.label d.vertices r k.fine.vertices h (λ v g. label_below v v g (joined_refl v)) e

    -- the line of the region, with number x first
    abbrev line_from : ℕ → List ℕ
    line_from x = line x (ones set) (t.weight r) (t.lower r) (t.upper r)

    line_is : line_from r ≡ region_line t d.vertices r
    unfolding region_line set_line
    line_is = ap line_from (sym lowest_is)

    lower_fits : t.lower r < 4294967296
    lower_fits = let (p, m, x) = greatest in omega (arith, x, (f p m.known).0)

    upper_fits : t.upper r < 4294967296
    upper_fits = omega (arith, below r self, (f r h).1)

    line_reads : LineReads r (ones set) (t.weight r) (t.lower r) (t.upper r) (line_from r)
    line_reads =
        let many = count_few set (set_small t.label d.vertices r k.fine.vertices) in
        subst (λ x. LineReads x (ones set) (t.weight r) (t.lower r) (t.upper r) (line_from x)) lowest_is
        (reads_back _ _ _ _ _ (lowest_few set) many weight_fits lower_fits upper_fits)

    -- a region's line, before those of others
    next_line : (rs bytes : List ℕ) → PageLines d s rs bytes →
        PageLines d s (r ∷ rs) (region_line t d.vertices r ++ bytes)
    next_line rs bytes l =
        subst (λ z. PageLines d s (r ∷ rs) (z ++ bytes)) line_is (PageLines.next region_fields line_reads l)

  page_lines : BoundsFit d s → (rs : List ℕ) → ((r : ℕ) → In rs r → Lowest d s r) →
      PageLines d s rs (strung (region_line t d.vertices) rs)
  unfolding strung
  page_lines f [] w = PageLines.none
  page_lines f (r ∷ rs) w =
      let x = w r (Memᴰ.head refl) in
      next_line f r x.known (eqb-true _ _ ((lowest_label r x.known).1 x)) rs _
      (page_lines f rs (λ q m. w q (Memᴰ.tail m)))

lines_long : {d : Plan} {s : State} {rs bytes : List ℕ} → PageLines d s rs bytes → length bytes ≡ 39 * length rs
lines_long PageLines.none = refl
lines_long (PageLines.next {r} {count} {weight} {lower} {upper} {bytes = bytes} x b l) =
    omega (arith, length-append (line r count weight lower upper) bytes, b.long, lines_long l)

-- where the bounds fit, what is printed is the page
pub page_of : (d : Plan) → Proper d → (s : State) → BoundsFit d s →
    PageOf d s (page_text (region_figures d s) d.vertices)
unfolding page_text line_of
page_of d k s f =
    let t = region_figures d s in
    let regions = lowest_list d k s in
    let lines = page_lines d k s f _ (λ r m. (regions.exactly r).0 m) in
    let text = swept_collect (is_label t.label) (region_line t d.vertices) d.vertices in
    record {
      regions = _;
      listing = regions;
      lines = subst (PageLines d s _) (sym text) lines;
      long = ap length text ∙ lines_long lines;
    }

-- and bounds that were noted do
pub noted_fits : (d : Plan) → Proper d → (ls : List ℕ) → BoundsFit d (note_all d ls)
noted_fits d k ls v h =
    let b = bounded_all d ls in
    let low = low_fits d k v h (b.low v h) in
    (omega arith, high_fits d k v h (b.high v h))

pub page_noted : (d : Plan) → Proper d → (ls : List ℕ) →
    PageOf d (note_all d ls) (page_text (region_figures d (note_all d ls)) d.vertices)
page_noted d k ls = page_of d k (note_all d ls) (noted_fits d k ls)
