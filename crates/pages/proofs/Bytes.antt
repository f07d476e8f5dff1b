-- What a page is made of are bytes.
use Prim.Native.Nat.{ℕ, zero, suc, ◌-◌, ◌<◌}
use native.Mathlib.Omega.{arith}
use mathlib.Core.Path.{◌≡◌, sym, ◌∙◌}
use mathlib.Core.Bool.{true, false≢true}
use mathlib.Core.List.{List, [], ◌∷◌}
use lib.Dec.{leb}
use lib.ListN.{length, replicate}
use borrow.Author.Tests.{leb-true}
use Rattle.base.specs.Lists.{Every, none, more}
use Rattle.base.proofs.Lists.{every_append, collect_every}
use Rattle.base.proofs.Loop.{pick_ind, pick_yes, pick_no, tested}
use Rattle.text.specs.Number.{all_digits}
use Rattle.text_writer.specs.Digits.{digits}
use Rattle.text_writer.proofs.RoundTrip.{all_digits_lem}
use Rattle.pages.specs.Line.{field, upper_text, head_text, numbers_text, line}
use Rattle.pages.specs.Lines.{set_line, Figures, region_line, line_of}
use Rattle.pages.specs.Lines.{page_text}

abbrev Bytes : List ℕ → Type 0
Bytes l = Every (λ x. x < 256) l

digits_bytes : (l : List ℕ) → all_digits l ≡ true → Bytes l
unfolding all_digits
digits_bytes [] h = none
digits_bytes (x ∷ l) h = tested (leb 48 x)
    (λ t. tested (leb x 57)
    (λ u. more (omega (arith, leb-true x 57 u)) (digits_bytes l (sym (pick_yes _ _ t ∙ pick_yes _ _ u) ∙ h)))
    (λ u. absurd (false≢true (sym (pick_yes _ _ t ∙ pick_no _ _ u) ∙ h))))
    (λ t. absurd (false≢true (sym (pick_no _ _ t) ∙ h)))

spaces_bytes : (k : ℕ) → Bytes (replicate k 32)
spaces_bytes zero = none
spaces_bytes (suc k) = more {x = 32} (omega arith) (spaces_bytes k)

field_bytes : (w : ℕ) (l : List ℕ) → Bytes l → Bytes (field w l)
unfolding field
field_bytes w l h = every_append (replicate (w - length l) 32) l (spaces_bytes (w - length l)) h

number_bytes : (w n : ℕ) → Bytes (field w (digits n))
number_bytes w n = field_bytes w (digits n) (digits_bytes (digits n) (all_digits_lem n))

upper_bytes : (w x : ℕ) → Bytes (field w (upper_text x))
unfolding upper_text
upper_bytes w x =
    field_bytes w (upper_text x)
    (pick_ind Bytes _ _ _ (λ _. more {x = 45} (omega arith) none) (λ _. digits_bytes (digits x) (all_digits_lem x)))

line_bytes : (a c w lo up : ℕ) → Bytes (line a c w lo up)
unfolding line head_text numbers_text
line_bytes a c w lo up =
    every_append _ _ (every_append _ _ (number_bytes 4 a) (number_bytes 4 c))
    (every_append _ _
    (every_append _ _ (number_bytes 10 w) (every_append _ _ (number_bytes 10 lo) (upper_bytes 10 up)))
    (more {x = 10} (omega arith) none))

pub page_bytes : (t : Figures) (n : ℕ) → Every (λ x. x < 256) (page_text t n)
unfolding page_text line_of region_line set_line
page_bytes t n =
    collect_every (line_of t n) n (λ r h. pick_ind Bytes _ _ _ (λ _. line_bytes _ _ _ _ _) (λ _. none))
