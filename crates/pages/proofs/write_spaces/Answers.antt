use Rattle.std.proofs.Common.{arith, refl, ap, ap₂, ◌∙◌, ◌≡◌, sym, append_assoc, ◌++◌, ◌+◌, ◌-◌, ℕ, List, length, take, drop}
use lib.ListN.{replicate, length-replicate, length-drop}
use lib.Seq.{length-take-le}
use borrow.Rule.Slice.PartMut.{Post-is}
use Rattle.base.proofs.Filled.{all_filled}
use Rattle.text_writer.specs.Written.{put}
use Rattle.pages.proofs.write_spaces.Goals as goal

pub returns : goal.returns
unfolding put
returns c =
    let a = c.args in
    let b = a.buf.now in
    let m : length (take (a.at + a.k - a.at) (drop a.at b)) ≡ a.k = length-take-le (a.at + a.k - a.at) (drop a.at b) (omega (arith, length-drop a.at b)) ∙ omega arith in
    let e : c.fill.new.self ≡ replicate {A = ℕ} a.k 32 = all_filled 32 a.k _ (c.fill.ensures.len ∙ m) (λ j h. c.fill.ensures.clones j 0 (omega arith) refl) in
    let z : a.at + a.k ≡ a.at + length (replicate {A = ℕ} a.k 32) = omega (arith, length-replicate {A = ℕ} a.k 32) in
    ap₂ (λ (x y : List ℕ). take a.at b ++ (x ++ y)) e (Post-is a.at (a.at + a.k) b (omega arith) ∙ ap (λ (j : ℕ). drop j b) z)
    ∙ sym (append_assoc (take a.at b) (replicate a.k 32) _)
