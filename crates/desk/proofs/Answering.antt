-- What the functions of the lines leave, over plain variables.
use mathlib.Core.Path.{◌≡◌, refl, sym, ap, subst, ◌∙◌}
use mathlib.Core.Bool.{Bool, true, false, false≢true}
use mathlib.Core.List.{List, [], ◌∷◌}
use Prim.Native.Nat.{ℕ, zero, suc, ◌/◌, ◌%◌, ◌≤◌}
use native.Mathlib.Omega.{arith}
use lib.Dec.{eqb}
use lib.IntN.{ℤ, pos}
use lib.ListN.{length, get_or, set, replicate}
use Rattle.base.specs.Iter.{pick}
use Rattle.base.specs.Range.{in_range}
use borrow.Author.Tests.{eq-eqb, ne_eqb}
use Rattle.base.proofs.Loop.{pick_yes, pick_no, pick_ind, tested}
use Rattle.undo_log.specs.declared.Cursor.{Cursor}
use Rattle.text.specs.declared.Line.{Line}
use Rattle.calls.specs.Table.{code_of, unset_in, enter}
use Rattle.refusals.specs.Refusals.{lit_number}
use Rattle.judge.specs.declared.Judgement.{Judgement}
use Rattle.judge.specs.declared.Judgement.TheVariants.{Fine, Clash, Stopped}
use Rattle.judge.specs.Judge.{Judged}
use Rattle.graph_division.specs.declared.GraphDivision.{GraphDivision}
use Rattle.graph_division.specs.Calls.{Called, called, Fetched, fetched, undone, settled_by, settled, adding, accepting, handing_on, propagated}
use Rattle.graph_division.specs.Initialize.{initialized}
use Rattle.graph_division.specs.declared.Answer.{Answer}
use Rattle.graph_division.specs.declared.Outcome.{Outcome}
use Rattle.desk.specs.declared.Obeyed.{Obeyed}
use Rattle.desk.specs.Print.{Printed, written, printing, line_of}
use Rattle.graph_division.specs.Answers.{is_refused}
use Rattle.desk.specs.Obey.{Turn, Desk, desk, turn, staying, Held, held, holding, writing, marked, begun, notified, taken_back, obeyed}
use Rattle.desk.proofs.Printing.{no_bytes, count_within}

-- ---- a refused notification leaves the table
abbrev pub Keeps : List ℕ → Called → Type 0
Keeps t o = is_refused o.outcome.answer ≡ true → o.table ≡ t

by_judgement : (s : GraphDivision) (c : Cursor) (l : ℕ) (j : Judged) (v : Judgement) (t list log : List ℕ) → Keeps t (settled_by s c l j v t list log)
unfolding settled_by handing_on accepting
by_judgement s c l j Fine t list log e = absurd (false≢true e)
by_judgement s c l j (Clash len) t list log e = refl
by_judgement s c l j (Stopped n) t list log e = refl

pub refused_keeps : (s : GraphDivision) (c : Cursor) (lit pending : ℤ) (t list log : List ℕ) → Keeps t (propagated s c lit pending t list log)
unfolding propagated settled adding
refused_keeps s c lit pending t list log =
    pick_ind (Keeps t) _ _ _
    (λ _. pick_ind (Keeps t) _ _ _ (λ _. by_judgement s c (lit_number lit) _ _ t list log) (λ _ _. refl))
    (λ _ _. refl)

-- ---- the mark
module _ (lit : ℤ) (t : List ℕ) (v x : ℕ) (r : in_range (pos 8191) lit ≡ true) (p : v ≡ lit_number lit / 2) (q : x ≡ get_or t v 0) where
  pub mark_set : (l code : ℕ) → x ≡ 0 → l ≡ lit_number lit → code ≡ pick (eqb (l % 2) 0) 3 4 → set t v code ≡ marked lit t
  unfolding marked unset_in code_of enter
  mark_set l code z e k =
      (λ i. set t (p i) ((k ∙ ap (λ (n : ℕ). pick (eqb (n % 2) 0) 3 4) e) i))
      ∙ sym (pick_yes _ _ r ∙ pick_yes _ _ (eq-eqb _ _ (ap (λ (n : ℕ). get_or t n 0) (sym p) ∙ sym q ∙ z)))

  pub mark_none : (x ≡ 0 → ⊥) → t ≡ marked lit t
  unfolding marked unset_in code_of
  mark_none z = sym (pick_yes _ _ r ∙ pick_no _ _ (ne_eqb _ _ (λ (e : get_or t (lit_number lit / 2) 0 ≡ 0). z (q ∙ ap (λ (n : ℕ). get_or t n 0) p ∙ e))))

pub mark_outside : (lit : ℤ) (t : List ℕ) → in_range (pos 8191) lit ≡ false → t ≡ marked lit t
unfolding marked
mark_outside lit t r = sym (pick_no _ _ r)

-- ---- the mark taken back
set_back : (t : List ℕ) (v x : ℕ) → set (set t v x) v (get_or t v 0) ≡ t
set_back [] v x = refl
set_back (y ∷ t) zero x = refl
set_back (y ∷ t) (suc v) x = ap (λ (l : List ℕ). y ∷ l) (set_back t v x)

set_same : (t : List ℕ) (v : ℕ) → set t v (get_or t v 0) ≡ t
set_same [] v = refl
set_same (y ∷ t) zero = refl
set_same (y ∷ t) (suc v) = ap (λ (l : List ℕ). y ∷ l) (set_same t v)

pub unmarked : (lit : ℤ) (t : List ℕ) → set (marked lit t) (lit_number lit / 2) (get_or t (lit_number lit / 2) 0) ≡ t
unfolding marked enter
unmarked lit t =
    let v = lit_number lit / 2 in
    let back : List ℕ → Type 0 = λ (l : List ℕ). set l v (get_or t v 0) ≡ t in
    pick_ind back _ _ _ (λ _. pick_ind back _ _ _ (λ _. set_back t v _) (λ _. set_same t v)) (λ _. set_same t v)

-- ---- the lines
-- an answer's line, which is in the buffer and is none too long
abbrev pub Few : Answer → List ℕ → Type 0
Few a list = length (line_of a list) ≤ 65536

abbrev pub Shown : Answer → List ℕ → ℕ → List ℕ → List ℕ → Type 0
Shown a list n out' out = (written n out' ≡ printing (line_of a list) out) × Few a list

pub shown_as : (list : List ℕ) (n : ℕ) (out' out : List ℕ) (a b : Answer) → b ≡ a → Shown a list n out' out → Shown b list n out' out
shown_as list n out' out a b e x = subst (λ (y : Answer). Shown y list n out' out) (sym e) x

pub shown_fetched : (n : ℕ) (out' out : List ℕ) (f g : Fetched) → f ≡ g → Shown f.answer f.buffer n out' out → Shown g.answer g.buffer n out' out
shown_fetched n out' out f g e x = subst (λ (y : Fetched). Shown y.answer y.buffer n out' out) e x

-- what a line's function ensures
abbrev pub Told : Held → Turn → List ℕ → Type 0
Told h t out = (h ≡ writing t out) × (length t.bytes ≤ 65536)

pub told_along : (h : Held) (out : List ℕ) (a b : Turn) → a ≡ b → Told h a out → Told h b out
told_along h out a b e x = subst (λ (t : Turn). Told h t out) e x

-- the line that was read is one of these
pub told_line : (h : Held) (d : Desk) (out : List ℕ) (a b : Line) → b ≡ a → Told h (obeyed a d) out → Told h (obeyed b d) out
told_line h d out a b e x = subst (λ (l : Line). Told h (obeyed l d) out) (sym e) x

-- a fetch changes nothing
pub asked : (r : Obeyed) (s : GraphDivision) (c : Cursor) (t log out out' : List ℕ) (n : ℕ) (a b : List ℕ) → r ≡ staying s c n → a ≡ b →
    (written n out' ≡ printing a out) × (length a ≤ 65536) → Told (held r t log out') (turn (desk s c t log) b) out
unfolding writing
asked r s c t log out out' n a b k e x =
    told_along _ out (turn (desk s c t log) a) (turn (desk s c t log) b) (ap (turn (desk s c t log)) e)
    (ap (λ (y : Obeyed). held y t log out') k ∙ ap (holding (desk s c t log)) x.0, x.1)

module _ (s : GraphDivision) (c : Cursor) (t log out : List ℕ) (lit : ℤ) (v n : ℕ) (b : Bool) (t' out' list : List ℕ) (o : Outcome) (p : v ≡ lit_number lit / 2) (q : b ≡ is_refused o.answer) where
  pub notify_turn : (pending lit' pending' : ℤ) (old : ℕ) (t₁ t₂ list₀ log' : List ℕ) → old ≡ get_or t v 0 → t₁ ≡ marked lit t → list₀ ≡ replicate 4352 0 → lit' ≡ lit → pending' ≡ pending →
      called o t₂ list log' ≡ propagated s c lit' pending' t₁ list₀ log → t' ≡ pick b (set t₂ v old) t₂ → Shown o.answer list n out' out →
      Told (held (record { state = o.state; cursor = o.cursor; printed = n }) t' log' out') (notified (desk s c t log) lit pending) out
  unfolding writing notified
  notify_turn pending lit' pending' old t₁ t₂ list₀ log' w m z x y e f g =
      let k = propagated s c lit pending (marked lit t) (replicate 4352 0) log in
      let E : called o t₂ list log' ≡ k = e ∙ (λ i. propagated s c (x i) (y i) (m i) (z i) log) in
      let B : is_refused o.answer ≡ is_refused k.outcome.answer = ap (λ (x : Called). is_refused x.outcome.answer) E in
      let T : t' ≡ pick (is_refused k.outcome.answer) t k.table = tested b
      (λ (r : b ≡ true).
      let kept : t₂ ≡ marked lit t = ap (λ (x : Called). x.table) E ∙ refused_keeps s c lit pending (marked lit t) (replicate 4352 0) log (sym B ∙ sym q ∙ r) in
      f ∙ pick_yes _ _ r ∙ (λ i. set (kept i) (p i) ((w ∙ ap (λ (j : ℕ). get_or t j 0) p) i)) ∙ unmarked lit t ∙ sym (pick_yes _ _ (sym B ∙ sym q ∙ r)))
      (λ (r : b ≡ false). f ∙ pick_no _ _ r ∙ ap (λ (x : Called). x.table) E ∙ sym (pick_no _ _ (sym B ∙ sym q ∙ r))) in
      let W : written n out' ≡ printing (line_of k.outcome.answer k.list) out = g.0 ∙ ap (λ (x : Called). printing (line_of x.outcome.answer x.list) out) E in
      (λ i. holding (desk (E i).outcome.state (E i).outcome.cursor (T i) (E i).log) (W i), subst (λ (x : Called). Few x.outcome.answer x.list) E g.1)

  pub take_back_turn : o ≡ undone s c lit log → list ≡ replicate 260 0 → t' ≡ pick b t (set t v 0) → Shown o.answer list n out' out →
      Told (held (record { state = o.state; cursor = o.cursor; printed = n }) t' log out') (taken_back (desk s c t log) lit) out
  unfolding writing taken_back
  take_back_turn e z f g =
      let T : t' ≡ pick (is_refused (undone s c lit log).answer) t (set t (lit_number lit / 2) 0) = f ∙ (λ i. pick ((q ∙ ap (λ (x : Outcome). is_refused x.answer) e) i) t (set t (p i) 0)) in
      let W : written n out' ≡ printing (line_of (undone s c lit log).answer (replicate 260 0)) out = g.0 ∙ (λ i. printing (line_of (e i).answer (z i)) out) in
      (λ i. holding (desk (e i).state (e i).cursor (T i) log) (W i), subst (λ (x : Outcome). Few x.answer (replicate 260 0)) e (subst (Few o.answer) z g.1))

pub begin_turn : (s : GraphDivision) (c : Cursor) (t log out : List ℕ) (n : ℕ) (o : Outcome) (t' list₀ list log' out' : List ℕ) → list₀ ≡ replicate 4352 0 →
    called o t' list log' ≡ initialized s c t log list₀ → Shown o.answer list n out' out →
    Told (held (record { state = o.state; cursor = o.cursor; printed = n }) t' log' out') (begun (desk s c t log)) out
unfolding writing begun
begin_turn s c t log out n o t' list₀ list log' out' z e g =
    let E : called o t' list log' ≡ initialized s c t log (replicate 4352 0) = e ∙ ap (initialized s c t log) z in
    let W = g.0 ∙ ap (λ (x : Called). printing (line_of x.outcome.answer x.list) out) E in
    (λ i. holding (desk (E i).outcome.state (E i).outcome.cursor (E i).table (E i).log) (W i), subst (λ (x : Called). Few x.outcome.answer x.list) E g.1)

pub silent : (r : Obeyed) (s : GraphDivision) (c : Cursor) (t log out : List ℕ) → r ≡ staying s c 0 → Told (held r t log out) (turn (desk s c t log) []) out
silent r s c t log out k = asked r s c t log out out 0 [] [] k refl (no_bytes out, omega arith)

-- what is said to be printed lies in the buffer
pub printed_within : (h : Held) (t : Turn) (out : List ℕ) → Told h t out → h.obeyed.printed ≤ length out
unfolding writing
printed_within h t out x = subst (λ (n : ℕ). n ≤ length out) (sym (ap (λ (y : Held). y.obeyed.printed) x.0)) (count_within t.bytes out)
