-- What `judge` answers, case by case: which judgement of the definition it stands for, and what then holds of what it leaves.
use mathlib.Core.Path.{◌≡◌, refl, sym, ap, ◌∙◌, subst}
use mathlib.Core.Logic.{◌↔◌}
use mathlib.Core.List.{List}
use Prim.Native.Nat.{ℕ, ◌+◌, ◌*◌, ◌≤◌}
use native.Mathlib.Omega.{arith}
use lib.ListN.{length, take}
use lib.Seq.{sets}
use Rattle.division.specs.Plan.{Plan}
use Rattle.division.specs.Analysis.{going}
use Rattle.division.specs.Runs.{analysis}
use Rattle.calls.specs.Look as calls
use Rattle.calls.specs.Look.{Looked, looked, offered, clashes, stop, offers, hand_on, enter_all}
use Rattle.calls.proofs.View.{Saw, saw, saw_stop, saw_conflict, saw_false, saw_fine}
use Rattle.plan.specs.Words.{variables_of}
use Rattle.plan.specs.Plan.{plan_of}
use Rattle.sweep.specs.Sweep.{cleared, handing, handed_on}
use Rattle.sweep.proofs.Against.{handed_all}
use Rattle.judge.specs.Judge.{Judged}
use Rattle.judge.specs.Answers.{answer_for, Leaves, Keeps, at_places, JudgedBy}
use Rattle.judge.specs.declared.Judgement.{Judgement}
use Rattle.judge.specs.declared.Judgement.TheVariants.{Fine, Clash, Stopped}
use Rattle.judge.proofs.Agrees.{Agrees}
use Rattle.judge.proofs.Proposals.{judged_inside, judged_offers, judged_blank}

unfoldable kind_of : Judgement → ℕ
kind_of Fine = 0
kind_of (Clash n) = 1
kind_of (Stopped n) = 2

unfoldable number_of : Judgement → ℕ
number_of Fine = 0
number_of (Clash n) = n
number_of (Stopped n) = n

unfoldable kind_in : calls.Judgement → ℕ
kind_in calls.fine = 0
kind_in calls.clash = 1
kind_in (calls.stopped n) = 2

unfoldable number_in : calls.Judgement → ℕ
number_in calls.fine = 0
number_in calls.clash = 0
number_in (calls.stopped n) = n

fine_for : (j : calls.Judgement) (n : ℕ) → (answer_for j n ≡ Fine) ↔ (j ≡ calls.fine)
unfolding answer_for kind_of kind_in
fine_for calls.fine n = (λ _. refl, λ _. refl)
fine_for calls.clash n = (λ e. let z : ◌≡◌ {A = ℕ} 1 0 = ap kind_of e in absurd (omega arith), λ e. let z : ◌≡◌ {A = ℕ} 1 0 = ap kind_in e in absurd (omega arith))
fine_for (calls.stopped m) n = (λ e. let z : ◌≡◌ {A = ℕ} 2 0 = ap kind_of e in absurd (omega arith), λ e. let z : ◌≡◌ {A = ℕ} 2 0 = ap kind_in e in absurd (omega arith))

clash_for : (j : calls.Judgement) (n len : ℕ) → (answer_for j n ≡ Clash len) ↔ ((j ≡ calls.clash) × (n ≡ len))
unfolding answer_for kind_of kind_in number_of
clash_for calls.fine n len = (λ e. let z : ◌≡◌ {A = ℕ} 0 1 = ap kind_of e in absurd (omega arith), λ e. let z : ◌≡◌ {A = ℕ} 0 1 = ap kind_in e.0 in absurd (omega arith))
clash_for calls.clash n len = (λ e. (refl, ap number_of e), λ e. ap Clash e.1)
clash_for (calls.stopped m) n len = (λ e. let z : ◌≡◌ {A = ℕ} 2 1 = ap kind_of e in absurd (omega arith), λ e. let z : ◌≡◌ {A = ℕ} 2 1 = ap kind_in e.0 in absurd (omega arith))

stopped_for : (j : calls.Judgement) (n m : ℕ) → (answer_for j n ≡ Stopped m) ↔ (j ≡ calls.stopped m)
unfolding answer_for kind_of kind_in number_of number_in
stopped_for calls.fine n m = (λ e. let z : ◌≡◌ {A = ℕ} 0 2 = ap kind_of e in absurd (omega arith), λ e. let z : ◌≡◌ {A = ℕ} 0 2 = ap kind_in e in absurd (omega arith))
stopped_for calls.clash n m = (λ e. let z : ◌≡◌ {A = ℕ} 1 2 = ap kind_of e in absurd (omega arith), λ e. let z : ◌≡◌ {A = ℕ} 1 2 = ap kind_in e in absurd (omega arith))
stopped_for (calls.stopped k) n m = (λ e. ap calls.stopped (ap number_of e), λ e. ap Stopped (ap number_in e))

-- what is handed on, and the table with it, where the definition finds nothing wrong
fine_hands : (d : Plan) (ls t : List ℕ) {o : Looked} → Saw d ls t o → o.judgement ≡ calls.fine → (o.table ≡ enter_all t (offers (analysis d ls))) × (o.handed ≡ hand_on t (offers (analysis d ls)))
unfolding stop clashes offered kind_in
fine_hands d ls t (saw_stop n) e = let z : ◌≡◌ {A = ℕ} 2 0 = ap kind_in e in absurd (omega arith)
fine_hands d ls t (saw_conflict c v) e = let z : ◌≡◌ {A = ℕ} 1 0 = ap kind_in e in absurd (omega arith)
fine_hands d ls t (saw_false p ps f h) e = let z : ◌≡◌ {A = ℕ} 1 0 = ap kind_in e in absurd (omega arith)
fine_hands d ls t (saw_fine v) e = (refl, refl)

module _ (ws : List ℕ) (d : Plan) (ls t proposals l : List ℕ) (x : Judged) (k : JudgedBy ws d ls t proposals l x) where
  pub judged_fine : (x.judgement ≡ Fine) ↔ ((looked d ls t).judgement ≡ calls.fine)
  judged_fine = (λ e. (fine_for _ _).0 (sym k.answer ∙ e), λ e. k.answer ∙ (fine_for _ _).1 e)

  pub judged_clash : (len : ℕ) → (x.judgement ≡ Clash len) ↔ (((looked d ls t).judgement ≡ calls.clash) × (length (looked d ls t).left ≡ len))
  judged_clash len = (λ e. (clash_for _ _ len).0 (sym k.answer ∙ e), λ e. k.answer ∙ (clash_for _ _ len).1 e)

  pub judged_stopped : (n : ℕ) → (x.judgement ≡ Stopped n) ↔ ((looked d ls t).judgement ≡ calls.stopped n)
  judged_stopped n = (λ e. (stopped_for _ _ n).0 (sym k.answer ∙ e), λ e. k.answer ∙ (stopped_for _ _ n).1 e)

  -- the first words of the buffer are the list that the conflict leaves
  pub judged_list : (len : ℕ) → x.judgement ≡ Clash len → take len x.left ≡ (looked d ls t).left
  judged_list len e =
      let (j, h) = (judged_clash len).0 e in
      let (a, b) = subst (λ (y : calls.Judgement). Leaves y (looked d ls t).left l x.left) j k.leaves in
      ap (λ (n : ℕ). take n x.left) (sym h) ∙ b

  -- and where there is none, the buffer stays
  pub judged_still : x.judgement ≡ Fine → x.left ≡ l
  judged_still e = subst (λ (y : calls.Judgement). Leaves y (looked d ls t).left l x.left) (judged_fine.0 e) k.leaves

  -- what is recorded then
  pub fine_records : x.judgement ≡ Fine → (looked d ls t).records ≡ (analysis d ls).props
  fine_records e = subst (λ (y : calls.Judgement). Keeps y (looked d ls t).records (analysis d ls).props) (judged_fine.0 e) k.records

  pub clash_records : (len : ℕ) → x.judgement ≡ Clash len → (looked d ls t).records ≡ (analysis d ls).props
  clash_records len e = subst (λ (y : calls.Judgement). Keeps y (looked d ls t).records (analysis d ls).props) ((judged_clash len).0 e).0 k.records

-- `hand_on` of the words that are left hands on what the definition does
pub judged_handed : (ws : List ℕ) (ends : List (List ℕ)) (noted ls : List ℕ) → Agrees ws ends noted ls → (t proposals l : List ℕ) (x : Judged) → JudgedBy ws (plan_of ws ends) ls t proposals l x →
    68 + 4 * variables_of ws ≤ length proposals → x.judgement ≡ Fine → (list : List ℕ) (at : ℕ) → at + 2 * variables_of ws ≤ length list →
    handed_on ws x.proposals (handing t list at) ≡
    handing (looked (plan_of ws ends) ls t).table (sets list at (looked (plan_of ws ends) ls t).handed) (at + length (looked (plan_of ws ends) ls t).handed)
judged_handed ws ends noted ls k t proposals l x j room e list at h =
    let d = plan_of ws ends in
    let ps = (analysis d ls).props in
    let z = cleared proposals in
    let (a, b) = fine_hands d ls t (saw d ls t) ((judged_fine ws d ls t proposals l x j).0 e) in
    ap (λ (w : List ℕ). handed_on ws w (handing t list at)) j.words
    ∙ handed_all ws ends k.held.proper z (judged_blank ws ends noted ls k proposals room) going (at_places ws ps) (judged_inside ws ends noted ls k) t list at h
    ∙ ap (λ (os : List ℕ). handing (enter_all t os) (sets list at (hand_on t os)) (at + length (hand_on t os))) (judged_offers ws ends noted ls k going)
    ∙ ap (λ (y : List ℕ). handing y (sets list at (hand_on t (offers (analysis d ls)))) (at + length (hand_on t (offers (analysis d ls))))) (sym a)
    ∙ ap (λ (y : List ℕ). handing (looked d ls t).table (sets list at y) (at + length y)) (sym b)
