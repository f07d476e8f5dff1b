-- The order of the lines, as code walks them.
use mathlib.Core.Path.{◌≡◌, sym, ap, ◌∙◌}
use mathlib.Core.List.{List}
use mathlib.Core.Bool.{Bool, true, false}
use Prim.Native.Nat.{ℕ, ◌+◌, ◌-◌, ◌≤◌, ◌<◌}
use lib.ListN.{length, take, drop}
use Rattle.base.specs.Iter.{pick}
use Rattle.base.proofs.Loop.{pick_yes, pick_no}
use Rattle.text.specs.declared.Line.{Line}
use Rattle.text.specs.Fields.{newline, upto, lines_of}
use Rattle.text.specs.Lines.{read_line}
use Rattle.text.specs.Input.{admitted, calls, in_order}
use Rattle.text.proofs.Cut.{lines_at, lines_none}

-- the line from i to e was read as r
module _ (l : List ℕ) (i e : ℕ) (r : Line) (first called : Bool) (h : i < length l) (p : e ≡ i + upto newline (drop i l)) (q : r ≡ read_line (take (e - i) (drop i l))) where
  line_read : Line → Bool
  line_read x = pick (admitted first called x) (in_order false (calls called x) (lines_of (drop (e + 1) l))) false

  line_by_line : in_order first called (lines_of (drop i l)) ≡ line_read r
  unfolding in_order line_read
  line_by_line = ap (in_order first called) (lines_at l i e h p) ∙ ap line_read (sym q)

  pub refused_line : admitted first called r ≡ false → in_order first called (lines_of (drop i l)) ≡ false
  unfolding line_read
  refused_line k = line_by_line ∙ pick_no _ _ k

  pub admitted_line : admitted first called r ≡ true →
      in_order first called (lines_of (drop i l)) ≡ in_order false (calls called r) (lines_of (drop (e + 1) l))
  unfolding line_read
  admitted_line k = line_by_line ∙ pick_yes _ _ k

pub no_line : (l : List ℕ) (i : ℕ) (first called : Bool) → length l ≤ i → in_order first called (lines_of (drop i l)) ≡ true
unfolding in_order
no_line l i first called h = ap (in_order first called) (lines_none l i h)
