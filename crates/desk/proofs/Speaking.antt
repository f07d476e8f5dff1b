-- The program's walk over the lines, over plain variables: what is left to print after a number of bytes.
use mathlib.Core.Path.{◌≡◌, refl, sym, ap, ap₂, subst, ◌∙◌}
use mathlib.Core.Bool.{Bool, true, false}
use mathlib.Core.List.{List, [], ◌∷◌, ◌++◌}
use Prim.Native.Nat.{ℕ, ◌+◌, ◌*◌, ◌-◌, ◌<◌, ◌≤◌}
use native.Mathlib.Omega.{arith}
use lib.Dec.{eqb, leb}
use lib.ListN.{length, take, drop, replicate, length-append}
use lib.Seq.{drop-drop, take-append_seam, drop-append_seam, take-length}
use borrow.Author.Tests.{le-leb, eq-eqb, ne_eqb}
use Rattle.base.specs.Iter.{pick}
use Rattle.std.specs.Prelude.{Option, None, Some}
use Rattle.base.specs.declared.refusal.Refusal.{Refusal}
use Rattle.base.specs.Refusal.{number, number_or_0}
use Rattle.base.proofs.Loop.{pick_yes, pick_no}
use Rattle.base.proofs.Numbered.{number_not_0}
use Rattle.undo_log.specs.declared.Cursor.{Cursor}
use Rattle.text.specs.Fields.{newline, lines_of, upto}
use Rattle.text.specs.Lines.{read_line}
use Rattle.text.proofs.Cut.{lines_at, lines_none}
use Rattle.text_writer.specs.Written.{put, after, next, answer_line}
use Rattle.graph_division.specs.declared.GraphDivision.{GraphDivision}
use Rattle.desk.specs.declared.Obeyed.{Obeyed}
use Rattle.desk.specs.declared.start.Started.{Started}
use Rattle.desk.specs.Print.{Printed, written, printing, count_of}
use Rattle.desk.specs.Start.{started}
use Rattle.desk.specs.Obey.{Turn, Desk, desk, Held, held, holding, writing, obeyed}
use Rattle.desk.specs.Session.{at_first, spoken, session}
use Rattle.desk.proofs.Answering.{Told}

-- ---- bytes that fit are all written, from the buffer's start
counted_is : (bytes out : List ℕ) → length bytes ≤ length out → (printing bytes out).count ≡ length bytes
unfolding printing next count_of
counted_is bytes out h =
    let z : 0 + length bytes ≡ length bytes = omega arith in
    ap count_of (pick_yes _ _ (le-leb (0 + length bytes) (length out) (omega arith))) ∙ z

front_is : (bytes out : List ℕ) → length bytes ≤ length out → take (length bytes) (printing bytes out).out ≡ bytes
unfolding printing after put
front_is bytes out h = ap (take (length bytes)) (pick_yes _ _ (le-leb (0 + length bytes) (length out) (omega arith))) ∙ take-append_seam bytes _

-- n bytes of a buffer are these
abbrev pub Shows : ℕ → List ℕ → List ℕ → Type 0
Shows n out bytes = (n ≡ length bytes) × (take n out ≡ bytes)

pub shows : (bytes out out' : List ℕ) (n : ℕ) → length bytes ≤ length out → written n out' ≡ printing bytes out → Shows n out' bytes
shows bytes out out' n h e =
    let c : n ≡ length bytes = ap (λ (p : Printed). p.count) e ∙ counted_is bytes out h in
    (c, (λ i. take (c i) (e i).out) ∙ front_is bytes out h)

-- ---- a refusal is all that is printed
pub refusal_shown : (input : List ℕ) (n : ℕ) (out : List ℕ) (r : Refusal) → (started input).refusal ≡ Some r → Shows n out (answer_line 69 (number r ∷ [])) →
    (take n out ≡ take n (drop 0 (session input))) × (n ≡ length (session input))
unfolding session
refusal_shown input n out r z x =
    let whole : session input ≡ answer_line 69 (number r ∷ []) =
    pick_no _ _ (ne_eqb (number_or_0 (started input).refusal) 0 (number_not_0 r _ (ap number_or_0 z))) ∙ ap (λ (o : Option Refusal). answer_line 69 (number_or_0 o ∷ [])) z in
    (x.1 ∙ sym (ap₂ take x.0 whole ∙ take-length (answer_line 69 (number r ∷ []))), x.0 ∙ ap length (sym whole))

-- ---- what is left to print after `told` bytes is what the lines from `at` on do
pub record Left (input : List ℕ) (told at : ℕ) (d : Desk) : Type 0 where
  pub rest : drop told (session input) ≡ spoken (lines_of (drop at input)) d
  pub whole : told + length (spoken (lines_of (drop at input)) d) ≡ length (session input)
  pub few : told ≤ 65536 * at

pub first_left : (input : List ℕ) (s : Started) → s ≡ started input → s.refusal ≡ None → Left input 0 s.calls_at (at_first s.state)
unfolding session
first_left input s e z =
    let whole : session input ≡ spoken (lines_of (drop s.calls_at input)) (at_first s.state) =
    ap (λ (y : Started). pick (eqb (number_or_0 y.refusal) 0) (spoken (lines_of (drop y.calls_at input)) (at_first y.state)) (answer_line 69 (number_or_0 y.refusal ∷ []))) (sym e)
    ∙ pick_yes _ _ (eq-eqb (number_or_0 s.refusal) 0 (ap number_or_0 z)) in
    record { rest = whole; whole = omega (arith, ap length (sym whole)); few = omega arith }

pub none_left : (input : List ℕ) (told at : ℕ) (d : Desk) → Left input told at d → length input ≤ at → told ≡ length (session input)
unfolding spoken
none_left input told at d x h =
    let none : length (spoken (lines_of (drop at input)) d) ≡ 0 = ap (λ (ls : List (List ℕ)). length (spoken ls d)) (lines_none input at h) in
    omega (arith, x.whole)

-- one line more, from `at` to its end e
module _ (input : List ℕ) (told at e : ℕ) (d : Desk) (x : Left input told at d) (h : at < length input) (p : e ≡ at + upto newline (drop at input)) where
  abbrev t : Turn
  t = obeyed (read_line (take (e - at) (drop at input))) d

  parts : spoken (lines_of (drop at input)) d ≡ t.bytes ++ spoken (lines_of (drop (e + 1) input)) t.desk
  unfolding spoken
  parts = ap (λ (ls : List (List ℕ)). spoken ls d) (lines_at input at e h p)

  module _ (o : Held) (out : List ℕ) (k : Told o t out) (r : length out ≡ 65536) where
    line_shows : Shows o.obeyed.printed o.out t.bytes
    unfolding writing
    line_shows = shows t.bytes out o.out o.obeyed.printed (omega (arith, k.1)) (ap (λ (y : Held). written y.obeyed.printed y.out) k.0)

    -- what is shown is what comes next
    pub line_shown : take o.obeyed.printed o.out ≡ take o.obeyed.printed (drop told (session input))
    line_shown =
        let n = o.obeyed.printed in
        line_shows.1 ∙ sym (ap (take n) (x.rest ∙ parts) ∙ ap (λ (m : ℕ). take m (t.bytes ++ spoken (lines_of (drop (e + 1) input)) t.desk)) line_shows.0 ∙ take-append_seam t.bytes _)

    held_is : desk o.obeyed.state o.obeyed.cursor o.table o.log ≡ t.desk
    unfolding writing
    held_is = ap (λ (y : Held). desk y.obeyed.state y.obeyed.cursor y.table y.log) k.0

    pub line_few : o.obeyed.printed ≤ 65536
    line_few = omega (arith, line_shows.0, k.1)

    pub line_left : Left input (told + o.obeyed.printed) (e + 1) (desk o.obeyed.state o.obeyed.cursor o.table o.log)
    line_left =
        let n = o.obeyed.printed in
        let later = spoken (lines_of (drop (e + 1) input)) t.desk in
        let all : length (spoken (lines_of (drop at input)) d) ≡ length t.bytes + length later = ap length parts ∙ length-append t.bytes later in
        subst (Left input (told + n) (e + 1)) (sym held_is) (record {
          rest = sym (drop-drop n told (session input)) ∙ ap (drop n) (x.rest ∙ parts) ∙ ap (λ (m : ℕ). drop m (t.bytes ++ later)) line_shows.0 ∙ drop-append_seam t.bytes later;
          whole = omega (arith, x.whole, all, line_shows.0);
          few = omega (arith, x.few, line_few);
        })
