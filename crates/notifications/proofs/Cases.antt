-- The returns of the functions, by cases.
use mathlib.Core.Path.{◌≡◌, refl, sym, ap, ◌∙◌}
use mathlib.Core.Bool.{Bool, true, false, ◌&&◌}
use mathlib.Core.List.{List, [], ◌∷◌}
use Prim.Native.Nat.{ℕ, ◌+◌, ◌*◌, ◌/◌}
use lib.ListN.{length, get_or}
use Rattle.base.specs.Iter.{iter}
use Rattle.base.proofs.Loop.{pick_yes, pick_no, pick_ind, iter_ind}
use Rattle.plan.specs.Words.{unique_lit_at}
use Rattle.noting.specs.Undo.{records_of}
use Rattle.noting.specs.Standing.{standing, has_variable}
use Rattle.calls.specs.Table.{true_in}
use Rattle.reasons.specs.Words.{put}
use Rattle.reasons.proofs.Stored.{put_length}
use Rattle.sweep.specs.Sweep.{handing, proposed_at, handed_on}
use Rattle.judge.specs.declared.Judgement.{Judgement}
use Rattle.judge.specs.declared.Judgement.TheVariants.{Fine, Clash, Stopped}
use Rattle.judge.specs.Judge.{Judged, judged_of, judge_words}
use Rattle.notifications.specs.declared.Progress.{Progress}
use Rattle.notifications.specs.Notifications.{lit_at, tried_out, merged_at, merged, progress, Way, way, is_fine, stopping, fine_by, joined_by, is_due, joined, notified, notified_all, Ending, ending, once_more_by, once_more, last_pass, ended, gone_through}

-- ---- what is recorded
pub merge_at_yes : (proposals words w : List ℕ) (p x y : ℕ) → proposed_at proposals p ≡ true →
    x ≡ get_or proposals (68 + 2 * p) 0 → y ≡ get_or proposals (69 + 2 * p) 0 → w ≡ put p x y words → w ≡ merged_at proposals p words
unfolding merged_at
merge_at_yes proposals words w p x y b e f h = h ∙ (λ i. put p (e i) (f i) words) ∙ sym (pick_yes _ _ b)

-- nothing is put at a place that is not proposed
pub merged_idle : (proposals : List ℕ) (p : ℕ) (l : List ℕ) → proposed_at proposals p ≡ false → l ≡ merged_at proposals p l
unfolding merged_at
merged_idle proposals p l e = sym (pick_no _ _ e)

module _ (proposals words : List ℕ) where
  merged_at_length : (p : ℕ) (l : List ℕ) → length (merged_at proposals p l) ≡ length l
  unfolding merged_at
  merged_at_length p l = pick_ind (λ (m : List ℕ). length m ≡ length l) _ _ _ (λ _. put_length p _ _ l) (λ _. refl)

  pub merged_length : (n : ℕ) → length (iter (merged_at proposals) n words) ≡ length words
  merged_length n = iter_ind (λ _ (m : List ℕ). length m ≡ length words) (merged_at proposals) words n refl (λ i m _ e. merged_at_length i m ∙ e)

-- ---- a literal that is notified, by what the judgement is
module _ (ws : List ℕ) (ends : List (List ℕ)) (past : ℕ) (w : Way) (r : Judgement) (p left : List ℕ)
    (e : judged_of r p left ≡ judge_words ws ends w.noted w.table w.proposals w.left) where
  by_judgement : (k : Judgement) → r ≡ k → joined_by ws past w (judged_of r p left) k ≡ joined ws ends past w
  unfolding joined
  by_judgement k f = ap (joined_by ws past w (judged_of r p left)) (sym f) ∙ ap (λ (j : Judged). joined_by ws past w j j.judgement) e

  pub join_fine : (u l v : List ℕ) (h : ℕ) → r ≡ Fine → v ≡ merged ws p w.words → handing u l h ≡ handed_on ws p (handing w.table w.list w.progress.handed) →
      way (progress Fine h 0 past) w.noted u l v p left ≡ joined ws ends past w
  unfolding joined_by fine_by
  join_fine u l v h f m g = (λ i. way (progress Fine (g i).out.place 0 past) w.noted (g i).table (g i).out.text (m i) p left) ∙ by_judgement Fine f

  pub join_clash : (v : List ℕ) (n : ℕ) → r ≡ Clash n → v ≡ merged ws p w.words →
      way (progress (Clash n) w.progress.handed n past) w.noted w.table w.list v p left ≡ joined ws ends past w
  unfolding joined_by
  join_clash v n f m = (λ i. way (progress (Clash n) w.progress.handed n past) w.noted w.table w.list (m i) p left) ∙ by_judgement (Clash n) f

  pub join_stopped : (n : ℕ) → r ≡ Stopped n →
      way (progress (Stopped n) w.progress.handed w.progress.len w.progress.past) w.noted w.table w.list w.words p left ≡ joined ws ends past w
  unfolding joined_by stopping
  join_stopped n f = by_judgement (Stopped n) f

-- ---- refusal 10, and the literal tried out
module _ (ws : List ℕ) (ends : List (List ℕ)) (log : List ℕ) (used p : ℕ) (w : Way) (l : ℕ) (b : Bool) (e : l ≡ lit_at ws p)
    (f : b ≡ has_variable (l / 2) (standing (records_of log used))) where
  stands : b ≡ has_variable (lit_at ws p / 2) (standing (records_of log used))
  stands = f ∙ ap (λ (k : ℕ). has_variable (k / 2) (standing (records_of log used))) e

  pub notify_stopped : b ≡ true →
      way (progress (Stopped 10) w.progress.handed w.progress.len w.progress.past) w.noted w.table w.list w.words w.proposals w.left
      ≡ notified ws ends log used p w
  unfolding notified stopping
  notify_stopped h = sym (pick_yes _ _ (sym stands ∙ h))

  pub notify_tried : (x : Way) (noted : List ℕ) → b ≡ false → noted ≡ tried_out ws l w.noted →
      x ≡ joined ws ends (p + 1) (way w.progress noted w.table w.list w.words w.proposals w.left) → x ≡ notified ws ends log used p w
  unfolding notified
  notify_tried x noted h g z =
      z ∙ ap (λ (n : List ℕ). joined ws ends (p + 1) (way w.progress n w.table w.list w.words w.proposals w.left)) (g ∙ ap (λ (k : ℕ). tried_out ws k w.noted) e)
      ∙ sym (pick_no _ _ (sym stands ∙ h))

-- ---- the last pass
module _ (ws : List ℕ) (ends : List (List ℕ)) (noted : List ℕ) (x : Progress) (words proposals left : List ℕ) (r : Judgement) (p l : List ℕ)
    (e : judged_of r p l ≡ judge_words ws ends noted (0 ∷ []) proposals left) where
  by_last : (k : Judgement) → r ≡ k → once_more_by ws x words (judged_of r p l) k ≡ once_more ws ends noted x words proposals left
  unfolding once_more
  by_last k f = ap (once_more_by ws x words (judged_of r p l)) (sym f) ∙ ap (λ (j : Judged). once_more_by ws x words j j.judgement) e

  pub last_fine : (v : List ℕ) → r ≡ Fine → v ≡ merged ws p words → ending x v p l ≡ once_more ws ends noted x words proposals left
  unfolding once_more_by
  last_fine v f m = ap (λ (y : List ℕ). ending x y p l) m ∙ by_last Fine f

  pub last_clash : (v : List ℕ) (n : ℕ) → r ≡ Clash n → v ≡ merged ws p words →
      ending (progress (Clash n) x.handed n x.past) v p l ≡ once_more ws ends noted x words proposals left
  unfolding once_more_by
  last_clash v n f m = ap (λ (y : List ℕ). ending (progress (Clash n) x.handed n x.past) y p l) m ∙ by_last (Clash n) f

  pub last_stopped : (n : ℕ) → r ≡ Stopped n → ending (progress (Stopped n) x.handed x.len x.past) words p l ≡ once_more ws ends noted x words proposals left
  unfolding once_more_by stopping
  last_stopped n f = by_last (Stopped n) f

-- ---- all
module _ (ws : List ℕ) (ends : List (List ℕ)) (t log : List ℕ) (used : ℕ) (w v : Way) (y : Ending) where
  pub through_all : v ≡ notified_all ws ends t log used w → y ≡ last_pass ws ends v.noted v.progress v.words v.proposals v.left →
      ended v y ≡ gone_through ws ends t log used w
  unfolding gone_through
  through_all e f = ap (ended v) f ∙ ap (λ (u : Way). ended u (last_pass ws ends u.noted u.progress u.words u.proposals u.left)) e
