-- The lines one by one, as code walks them.
use mathlib.Core.Path.{◌≡◌, refl, sym, ap, ap₂, ◌∙◌}
use mathlib.Core.Logic.{◌⊎◌, ⊎_elim}
use mathlib.Core.Bool.{Bool, true, false}
use mathlib.Core.List.{List, [], ◌∷◌}
use Prim.Native.Nat.{ℕ, ◌+◌, ◌-◌, ◌≤◌, ◌<◌, min}
use native.Mathlib.Omega.{arith}
use lib.Dec.{ltb}
use lib.IntN.{ℤ}
use lib.ListN.{length, take, drop, drop_of_length-le, length-take, length-drop}
use borrow.Author.Tests.{lt-ltb, le-ltb, ltb-true, ltb-false}
use Rattle.base.proofs.Loop.{pick_yes, pick_no, pick_ind, tested}
use Rattle.text.specs.declared.Line.{Line}
use Rattle.text.specs.declared.Line.TheVariants.{O, P, G, «V», I, N, U, R, RLast, Malformed}
use Rattle.text.specs.Fields.{newline, lines_of, upto}
use Rattle.text.specs.Lines.{read_line}
use Rattle.text.proofs.Cut.{lines_at, lines_none, upto_in}
use Rattle.plan_lines.specs.Lines.{Draft, Reading, taken, is_plan_line, next_line, reading}

-- the lines of a plan, and the others
pub plan_lines : (read : Line) → ((s : Bool) × (e : Bool) × read ≡ O s e) ⊎ (((w : ℤ) × (k : ℕ) × (n : ℕ) × read ≡ P w k n) ⊎ ((u : ℤ) × (v : ℤ) × (l : ℤ) × read ≡ G u v l)) → true ≡ is_plan_line read
unfolding is_plan_line
plan_lines read = ⊎_elim (λ p. sym (ap is_plan_line p.2)) (⊎_elim (λ p. sym (ap is_plan_line p.3)) (λ p. sym (ap is_plan_line p.3)))

pub other_lines : (read : Line) → ((s e : Bool) → read ≡ O s e → ⊥) → ((w : ℤ) (k n : ℕ) → read ≡ P w k n → ⊥) → ((u v l : ℤ) → read ≡ G u v l → ⊥) → false ≡ is_plan_line read
unfolding is_plan_line
other_lines (O s e) f g h = absurd (f s e refl)
other_lines (P w k n) f g h = absurd (g w k n refl)
other_lines (G u v l) f g h = absurd (h u v l refl)
other_lines («V» v c) f g h = refl
other_lines I f g h = refl
other_lines (N l p) f g h = refl
other_lines (U l) f g h = refl
other_lines (R l) f g h = refl
other_lines RLast f g h = refl
other_lines Malformed f g h = refl

pub idle : (line : List ℕ) (read : Line) (d : Draft) →
    ((v : ℕ) × (c : ℕ) × read ≡ «V» v c) ⊎ ((read ≡ I) ⊎ (((l : ℤ) × (p : ℤ) × read ≡ N l p) ⊎ (((l : ℤ) × read ≡ U l) ⊎ (((l : ℤ) × read ≡ R l) ⊎ ((read ≡ RLast) ⊎ (read ≡ Malformed)))))) →
    d ≡ taken line read d
unfolding taken
idle line read d =
    let by : (r : Line) → read ≡ r → taken line r d ≡ d → d ≡ taken line read d = λ r e q. sym (ap (λ (x : Line). taken line x d) e ∙ q) in
    ⊎_elim (λ p. by _ p.2 refl) (⊎_elim (λ e. by _ e refl) (⊎_elim (λ p. by _ p.2 refl) (⊎_elim (λ p. by _ p.1 refl) (⊎_elim (λ p. by _ p.1 refl) (⊎_elim (λ e. by _ e refl) (λ e. by _ e refl))))))

pub past : (a e len : ℕ) → a ≤ e → a < len → a < next_line e len
unfolding next_line
past a e len h k = pick_ind (λ (n : ℕ). a < n) (ltb e len) (e + 1) len (λ t. omega arith) (λ t. k)

pub next_min : (n e len : ℕ) → n ≡ min (e + 1) len → n ≡ next_line e len
unfolding next_line
next_min n e len q = pick_ind (λ (k : ℕ). n ≡ k) (ltb e len) (e + 1) len (λ t. let h = ltb-true e len t in omega arith) (λ t. let h = ltb-false e len t in omega arith)

-- past the last line there is none, whether a newline ended it or not
lines_after : (input : List ℕ) (e : ℕ) → lines_of (drop (next_line e (length input)) input) ≡ lines_of (drop (e + 1) input)
unfolding next_line
lines_after input e = tested (ltb e (length input))
    (λ t. ap (λ (n : ℕ). lines_of (drop n input)) (pick_yes _ _ t))
    (λ t.
    let h = ltb-false e (length input) t in
    ap (λ (n : ℕ). lines_of (drop n input)) (pick_no _ _ t) ∙ lines_none input (length input) (omega arith) ∙ sym (lines_none input (e + 1) (omega arith)))

module _ (input : List ℕ) (a e : ℕ) (read : Line) (d : Draft) (h : a < length input) (p : e ≡ a + upto newline (drop a input)) (q : read ≡ read_line (take (e - a) (drop a input))) where
  -- a line's length is that between its ends
  long : a + length (take (e - a) (drop a input)) ≡ e
  long =
      let w = upto_in newline input a (omega arith) in
      omega (arith, length-take (e - a) (drop a input), length-drop a input)

  pub plan_line : (d' : Draft) (n : ℕ) → is_plan_line read ≡ true → d' ≡ taken (take (e - a) (drop a input)) read d → n ≡ next_line e (length input) →
      reading (length input) (lines_of (drop n input)) (record { draft = d'; at = n }) ≡ reading (length input) (lines_of (drop a input)) (record { draft = d; at = a })
  unfolding reading
  plan_line d' n t s m =
      (λ i. reading (length input) ((ap (λ (k : ℕ). lines_of (drop k input)) m ∙ lines_after input e) i) (record { draft = (s ∙ ap (λ (x : Line). taken (take (e - a) (drop a input)) x d) q) i; at = (m ∙ ap (λ (k : ℕ). next_line k (length input)) (sym long)) i }))
      ∙ sym (pick_yes _ _ (ap is_plan_line (sym q) ∙ t))
      ∙ ap (λ (ls : List (List ℕ)). reading (length input) ls (record { draft = d; at = a })) (sym (lines_at input a e h p))

  pub other_line : is_plan_line read ≡ false → record { draft = d; at = a } ≡ reading (length input) (lines_of (drop a input)) (record { draft = d; at = a })
  unfolding reading
  other_line t =
      sym (pick_no _ _ (ap is_plan_line (sym q) ∙ t))
      ∙ ap (λ (ls : List (List ℕ)). reading (length input) ls (record { draft = d; at = a })) (sym (lines_at input a e h p))

pub no_line : (input : List ℕ) (a : ℕ) (d : Draft) → length input ≤ a → record { draft = d; at = a } ≡ reading (length input) (lines_of (drop a input)) (record { draft = d; at = a })
unfolding reading
no_line input a d h = ap (λ (ls : List (List ℕ)). reading (length input) ls (record { draft = d; at = a })) (sym (lines_none input a h))
