-- The flat form stands for the log: a record's word reads back as the record, a word as its record's, and a push or a pop of
-- words adds or takes the newest record of the list.
use mathlib.Core.Path.{◌≡◌, refl, sym, ◌∙◌, ap}
use mathlib.Core.Bool.{true}
use Prim.Native.Nat.{ℕ, ◌+◌, ◌-◌, ◌*◌, ◌/◌, ◌%◌, ◌<◌, ◌≤◌}
use native.Mathlib.Omega.{arith}
use native.Mathlib.Numerals.{add-one}
use mathlib.Core.List.{List, [], ◌∷◌, ◌++◌, map, map-append}
use lib.ListN.{length, get_or, set, take, drop, length-set}
use lib.Seq.{take-suc, take-suc-set, drop-set-lt}
use borrow.Author.Tests.{lt-ltb}
use Rattle.base.proofs.Loop.{pick_yes}
use Rattle.undo_log.specs.declared.Record.{Record}
use Rattle.undo_log.specs.declared.Cursor.{Cursor}
use Rattle.undo_log.specs.Log.{word_of, record_of, log_of, push_words}

-- each field fits its type, as it does in every record that code holds
pub record InRange (r : Record) : Type 0 where
  pub kind : r.kind < 256
  pub index : r.index < 256
  pub bound : r.bound < 4294967296
  pub lit : r.lit < 65536

pub word_back : (r : Record) → InRange r → record_of (word_of r) ≡ r
unfolding word_of record_of
word_back r h =
    let w : ℕ = r.kind + 256 * r.index + 65536 * r.lit + 4294967296 * r.bound in
    let k : w % 256 ≡ r.kind = omega (arith, h.kind) in
    let q : w / 256 ≡ r.index + 256 * r.lit + 16777216 * r.bound = omega (arith, h.kind) in
    let q2 : w / 65536 ≡ r.lit + 65536 * r.bound = omega (arith, h.kind, h.index) in
    let q4 : w / 4294967296 ≡ r.bound = omega (arith, h.kind, h.index, h.lit) in
    let x : (r.index + 256 * r.lit + 16777216 * r.bound) % 256 ≡ r.index = omega (arith, h.index) in
    let l : (r.lit + 65536 * r.bound) % 65536 ≡ r.lit = omega (arith, h.lit) in
    let b : r.bound % 4294967296 ≡ r.bound = omega (arith, h.bound) in
    λ i. record { kind = k i; index = (ap (λ (m : ℕ). m % 256) q ∙ x) i; bound = (ap (λ (m : ℕ). m % 4294967296) q4 ∙ b) i; lit = (ap (λ (m : ℕ). m % 65536) q2 ∙ l) i }

pub record_back : (w : ℕ) → w < 18446744073709551616 → word_of (record_of w) ≡ w
unfolding word_of record_of
record_back w h =
    let a : w / 65536 / 65536 ≡ w / 4294967296 = omega arith in
    let b : w / 256 / 256 ≡ w / 65536 = omega arith in
    let c : w / 4294967296 % 4294967296 ≡ w / 4294967296 = omega arith in
    omega arith

pub record_in_range : (w : ℕ) → InRange (record_of w)
unfolding record_of
record_in_range w = record { kind = omega arith; index = omega arith; bound = omega arith; lit = omega arith }

-- after a push with room the log has one record more, and every word past it is as it was
pub push_log : (words : List ℕ) (c : Cursor) (r : Record) → c.used < length words → InRange r → log_of (push_words words c r) (c.used + 1) ≡ log_of words c.used ++ (r ∷ [])
unfolding log_of push_words
push_log words c r l ok =
    ap (λ (v : List ℕ). map record_of (take (c.used + 1) v)) (pick_yes _ _ (lt-ltb _ _ l))
    ∙ ap (λ (m : ℕ). map record_of (take m (set words c.used (word_of r)))) (add-one c.used)
    ∙ ap (map record_of) (take-suc-set words c.used (word_of r) l)
    ∙ map-append record_of (take c.used words) (word_of r ∷ [])
    ∙ ap (λ (d : Record). map record_of (take c.used words) ++ (d ∷ [])) (word_back r ok)

pub push_rest : (words : List ℕ) (c : Cursor) (r : Record) → c.used < length words → drop (c.used + 1) (push_words words c r) ≡ drop (c.used + 1) words
unfolding push_words
push_rest words c r l = ap (drop (c.used + 1)) (pick_yes _ _ (lt-ltb _ _ l)) ∙ drop-set-lt (c.used + 1) words c.used (word_of r) (omega arith)

-- what a pop takes is the newest record of the log
pub pop_log : (words : List ℕ) (n : ℕ) → 0 < n → n ≤ length words → log_of words n ≡ log_of words (n - 1) ++ (record_of (get_or words (n - 1) 0) ∷ [])
unfolding log_of
pop_log words n p l =
    let e : n ≡ n - 1 + 1 = omega arith in
    ap (λ (m : ℕ). map record_of (take m words)) (e ∙ add-one (n - 1))
    ∙ ap (map record_of) (take-suc words (n - 1) 0 (omega arith))
    ∙ map-append record_of (take (n - 1) words) (get_or words (n - 1) 0 ∷ [])
