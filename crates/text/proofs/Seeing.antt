-- The numbers of a line, gathered field by field.
use mathlib.Core.Path.{◌≡◌, refl, sym, ap, ◌∙◌}
use mathlib.Core.List.{List, [], ◌∷◌, ◌++◌, map, append_assoc, append-nil}
use mathlib.Core.Bool.{Bool, true, false}
use Prim.Native.Nat.{ℕ, ◌+◌, ◌-◌, ◌≤◌, ◌<◌}
use native.Mathlib.Omega.{arith}
use lib.Dec.{eqb, ltb}
use lib.ListN.{length, take, drop, get_or, length-append, get_or-append, get_or-eq_default}
use lib.Seq.{get_or_at}
use borrow.Author.Tests.{eqb-true, eqb-false, ltb-true, ltb-false}
use Rattle.base.specs.Iter.{pick}
use Rattle.base.proofs.Loop.{pick_yes, pick_no, tested}
use Rattle.text.specs.declared.Field.{Field}
use Rattle.text.specs.declared.Seen.{Seen}
use Rattle.text.specs.Fields.{tab, upto}
use Rattle.text.specs.Number.{none, field_of}
use Rattle.text.specs.Lines.{all_numbers, seen_of}
use Rattle.text.specs.Steps.{more, see_next}
use Rattle.text.proofs.Cut.{more_at}

-- what is left, field by field
unfoldable pub look : Seen → List Field → Seen
look s [] = s
look s (f ∷ fs) = look (see_next s f) fs

pub made : {o o' : Bool} {n n' : ℕ} {a a' b b' d d' : Field} → o ≡ o' → n ≡ n' → a ≡ a' → b ≡ b' → d ≡ d' →
    ◌≡◌ {A = Seen} (record { ok = o; count = n; a = a; b = b; c = d }) (record { ok = o'; count = n'; a = a'; b = b'; c = d' })
made o n p q r = rw (o, n, p, q, r)

all_more : (xs : List Field) (f : Field) → pick (all_numbers xs) f.ok false ≡ all_numbers (xs ++ (f ∷ []))
unfolding all_numbers
all_more [] f = pick_yes _ _ refl ∙ sym (last f.ok)
  where
    last : (b : Bool) → pick b true false ≡ b
    last true = pick_yes _ _ refl
    last false = pick_no _ _ refl
all_more (x ∷ xs) f = tested x.ok
    (λ t. ap (λ (b : Bool). pick b f.ok false) (pick_yes _ _ t) ∙ all_more xs f ∙ sym (pick_yes _ _ t))
    (λ t. pick_no _ _ (pick_no _ _ t) ∙ sym (pick_no _ _ t))

at_more : (xs : List Field) (f : Field) (k : ℕ) → pick (eqb (length xs) k) f (get_or xs k none) ≡ get_or (xs ++ (f ∷ [])) k none
at_more xs f k = tested (eqb (length xs) k)
    (λ t. pick_yes _ _ t ∙ sym (get_or_at xs f [] none k (eqb-true (length xs) k t)))
    (λ t. pick_no _ _ t ∙ tested (ltb k (length xs))
    (λ t'. sym (get_or-append xs (f ∷ []) none k (ltb-true k (length xs) t')))
    (λ t'.
    let h = ltb-false k (length xs) t' in
    let g = eqb-false (length xs) k t in
    let m : length (xs ++ (f ∷ [])) ≤ k = simp length-append (beyond (length xs) k h g) in
    get_or-eq_default xs none h ∙ sym (get_or-eq_default (xs ++ (f ∷ [])) none m)))
  where
    beyond : (n k : ℕ) → n ≤ k → (n ≡ k → ⊥) → n + 1 ≤ k
    beyond n k h g = omega arith

seen_more : (xs : List Field) (f : Field) → see_next (seen_of xs) f ≡ seen_of (xs ++ (f ∷ []))
unfolding see_next seen_of
seen_more xs f = made (all_more xs f) (sym (length-append xs (f ∷ []))) (at_more xs f 0) (at_more xs f 1) (at_more xs f 2)

look_seen : (xs fs : List Field) → look (seen_of xs) fs ≡ seen_of (xs ++ fs)
unfolding look
look_seen xs [] = ap seen_of (sym (append-nil xs))
look_seen xs (f ∷ fs) =
    ap (λ (s : Seen). look s fs) (seen_more xs f)
    ∙ look_seen (xs ++ (f ∷ [])) fs
    ∙ ap seen_of (append_assoc xs (f ∷ []) fs)

-- field by field gives what there is
pub look_all : (fs : List Field) → look (seen_of []) fs ≡ seen_of fs
look_all fs = look_seen [] fs

pub look_step : (s : Seen) (f : Field) (fs : List Field) → look s (f ∷ fs) ≡ look (see_next s f) fs
unfolding look
look_step s f fs = refl

pub look_end : (s : Seen) → look s [] ≡ s
unfolding look
look_end s = refl

-- one turn of the code: the field after the separator at i ends at e
module _ (s r : Seen) (f : Field) (l : List ℕ) (i e : ℕ) where
  pub see_step : i < length l → e ≡ i + 1 + upto tab (drop (i + 1) l) → f ≡ field_of (take (e - (i + 1)) (drop (i + 1) l)) → r ≡ see_next s f →
      look r (map field_of (more tab (drop e l))) ≡ look s (map field_of (more tab (drop i l)))
  see_step h p q t =
      sym
      (ap (λ (ps : List (List ℕ)). look s (map field_of ps)) (more_at tab l i e h p)
      ∙ look_step s (field_of (take (e - (i + 1)) (drop (i + 1) l))) (map field_of (more tab (drop e l)))
      ∙ ap (λ (x : Seen). look x (map field_of (more tab (drop e l)))) (ap (see_next s) (sym q) ∙ sym t))

  pub counted : r ≡ see_next s f → r.count ≡ s.count + 1
  unfolding see_next
  counted t = ap (λ (x : Seen). x.count) t

pub none_counted : (s : Seen) → s ≡ seen_of [] → s.count ≡ 0
unfolding seen_of
none_counted s t = ap (λ (x : Seen). x.count) t
