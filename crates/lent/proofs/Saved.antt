-- `initialize` reads which literals are true in a copy of the table's first 4096 entries, all that its literals have where its
-- variables are in range, and restores the table from it.
use mathlib.Core.Path.{◌≡◌, refl, sym, ap, ◌∙◌}
use mathlib.Core.Logic.{inr, ⊎_elim}
use mathlib.Core.Bool.{Bool, true, false, ◌&&◌}
use mathlib.Core.List.{List, ◌++◌}
use Prim.Native.Nat.{ℕ, zero, suc, ◌+◌, ◌-◌, ◌*◌, ◌/◌, ◌%◌, ◌<◌, ◌≤◌, min}
use native.Mathlib.Omega.{arith}
use native.Mathlib.Nat.{not-suc-le-zero, eq-or-lt_of_le}
use lib.Dec.{eqb, ltb}
use lib.ListN.{length, get_or, set, replicate, take, drop, length-set, length-replicate, get_or-replicate, get_or-eq_default}
use Rattle.std.proofs.lemmas.List.{length-append, length-take, length-drop, get_or-take, get_or-drop, get_or_append_left, get_or-append_right}
use lib.Seq.{ext_get_or, get_or-set_same, get_or-set_other}
use borrow.Author.Tests.{ltb-false}
use Rattle.base.specs.Iter.{iter, pick}
use Rattle.base.specs.Lists.{tab, filled}
use Rattle.base.proofs.Loop.{pick_yes, pick_no, pick_ind, iter_ind}
use Rattle.base.proofs.Lists.{tab_at}
use Rattle.base.proofs.Tests.{le_or_lt}
use Rattle.base.proofs.Filled.{filled_length, filled_out}
use Rattle.base.proofs.Some.{some_none}
use Rattle.noting.proofs.Block.{iter_same}
use Rattle.noting.proofs.Marks.{tab_length}
use Rattle.noting.specs.Note.{Noting, note}
use Rattle.plan.specs.Words.{variables_of, variable_at, unique_lit_at}
use Rattle.plan.specs.Check.{variable_high, variables_high}
use Rattle.calls.specs.Table.{code_of, coded, true_in, enter}
use Rattle.sweep.specs.Sweep.{Handed, handing, handed, handed_at, handed_on}
use Rattle.judge.specs.declared.Judgement.{Judgement}
use Rattle.judge.specs.declared.Judgement.TheVariants.{Fine, Clash, Stopped}
use Rattle.judge.specs.Judge.{Judged}
use Rattle.notifications.specs.declared.Progress.{Progress}
use Rattle.notifications.specs.Notifications.{lit_at, Way, is_fine, stopping, fine_by, joined_by, is_due, joined, notified, notified_at, notified_all, Ending, once_more_by, once_more, last_pass, ended, gone_through}
use Rattle.graph_division.specs.Initialize.{saved_table, restored_table, noted_at, noted_up_to}

-- ---- the copy
-- a list whose first entries are stored anew, as far as it goes
module _ (f : ℕ → ℕ) (l : List ℕ) where
  stored_at : (n i : ℕ) → i < n → i < length l → get_or (filled 0 n f l) i 0 ≡ f i
  unfolding filled iter
  stored_at zero i h r = absurd (not-suc-le-zero h)
  stored_at (suc n) i h r = ⊎_elim
      (λ (e : i ≡ n).
      let k : i ≡ 0 + n = omega arith in
      ap (λ (j : ℕ). get_or (set (filled 0 n f l) (0 + n) (f n)) j 0) k ∙ get_or-set_same (filled 0 n f l) (0 + n) (f n) 0 (omega (arith, filled_length 0 f l n)) ∙ ap f (sym e))
      (λ (k : i < n). get_or-set_other (filled 0 n f l) (0 + n) i (f n) 0 (λ (e : i ≡ 0 + n). omega arith) ∙ stored_at n i k r)
      (eq-or-lt_of_le {n = i} {m = n} (omega arith))

-- the copy goes to the table's end, or as far as it has room
module _ (t : List ℕ) (n : ℕ) (hn : n ≡ min (length t) 4096) where
  pub saved_tab : (x : List ℕ) → x ≡ take n t → x ++ drop n (replicate 4096 0) ≡ saved_table t
  unfolding saved_table
  saved_tab x e =
      let f : ℕ → ℕ = λ i. get_or t i 0 in
      let z : List ℕ = replicate 4096 0 in
      let r : length z ≡ 4096 = length-replicate {0} {A = ℕ} 4096 0 in
      let m : length x ≡ n = omega (arith, ap length e, length-take n t) in
      ext_get_or 0 (x ++ drop n z) (tab f 4096) (omega (arith, length-append x (drop n z), length-drop n z, tab_length f 4096))
      (λ i h.
      let k : i < 4096 = omega (arith, length-append x (drop n z), length-drop n z) in
      ⊎_elim
      (λ (q : n ≤ i).
      let j : n + (i - n) ≡ i = omega arith in
      get_or-append_right x (drop n z) n i 0 m q ∙ get_or-drop n z (i - n) 0 ∙ ap (λ (y : ℕ). get_or z y 0) j ∙ get_or-replicate {A = ℕ} 4096 i 0 0 k
      ∙ sym (get_or-eq_default t 0 {n = i} (omega arith)))
      (λ (q : i < n). get_or_append_left x (drop n z) 0 i (omega arith) ∙ ap (λ (y : List ℕ). get_or y i 0) e ∙ get_or-take n t i 0 q)
      (le_or_lt n i)
      ∙ sym (tab_at f 4096 i k))

  pub restored_tab : (saved : List ℕ) → filled 0 n (λ i. get_or saved i 0) t ≡ restored_table saved t
  unfolding restored_table
  restored_tab saved =
      let f : ℕ → ℕ = λ i. get_or saved i 0 in
      ext_get_or 0 (filled 0 n f t) (filled 0 4096 f t) (filled_length 0 f t n ∙ sym (filled_length 0 f t 4096))
      (λ i h.
      let k : i < length t = omega (arith, filled_length 0 f t n) in
      ⊎_elim
      (λ (m : n ≤ i). filled_out 0 f t n i (inr (omega arith)) ∙ sym (filled_out 0 f t 4096 i (inr (omega arith))))
      (λ (m : i < n). stored_at f t n i m k ∙ sym (stored_at f t 4096 i (omega arith) k))
      (le_or_lt n i))

-- a table of t's length, and with its entries past the copied ones
abbrev pub Rest : List ℕ → List ℕ → Type 0
Rest t u = (length u ≡ length t) × ((i : ℕ) → 4096 ≤ i → get_or u i 0 ≡ get_or t i 0)

pub restored : (t u : List ℕ) → Rest t u → restored_table (saved_table t) u ≡ t
unfolding restored_table saved_table
restored t u (e, h) =
    let g : ℕ → ℕ = λ i. get_or (tab (λ j. get_or t j 0) 4096) i 0 in
    let z = filled_length 0 g u 4096 in
    ext_get_or 0 (filled 0 4096 g u) t (z ∙ e)
    (λ i k. ⊎_elim
    (λ (m : 4096 ≤ i). filled_out 0 g u 4096 i (inr (omega arith)) ∙ h i m)
    (λ (m : i < 4096). stored_at g u 4096 i m (omega arith) ∙ tab_at (λ j. get_or t j 0) 4096 i m)
    (le_or_lt 4096 i))

true_saved : (t : List ℕ) (l : ℕ) → l < 8192 → true_in (saved_table t) l ≡ true_in t l
unfolding true_in code_of saved_table
true_saved t l h = ap (λ (c : ℕ). pick (eqb (l % 2) 0) (coded 1 3 c) (coded 2 4 c)) (tab_at (λ j. get_or t j 0) 4096 (l / 2) (omega arith))

-- ---- a literal that is noted, or not
module _ (ws t : List ℕ) (p : ℕ) (x : Noting) (l : ℕ) (b : Bool) (e : l ≡ unique_lit_at ws p) (f : b ≡ true_in t l) where
  is_in : b ≡ true_in t (unique_lit_at ws p)
  is_in = f ∙ ap (true_in t) e

  pub note_yes : b ≡ true → (m : ℕ) (y : Noting) → m ≡ lit_at ws p → y ≡ note ws m x → y ≡ noted_at ws t p x
  unfolding noted_at
  note_yes h m y g z = z ∙ ap (λ (k : ℕ). note ws k x) g ∙ sym (pick_yes _ _ (sym is_in ∙ h))

  pub note_no : b ≡ false → x ≡ noted_at ws t p x
  unfolding noted_at
  note_no h = sym (pick_no _ _ (sym is_in ∙ h))

-- ---- what the notifications change of the table, and how far they come
module _ (t : List ℕ) where
  handed_rest : (l : ℕ) (h : Handed) → l < 8192 → Rest t h.table → Rest t (handed l h).table
  unfolding handed enter
  handed_rest l h k (e, f) = pick_ind (λ (y : Handed). Rest t y.table) _ _ _
      (λ _. (simp length-set e, λ i m. get_or-set_other h.table (l / 2) i _ 0 (λ (q : i ≡ l / 2). omega arith) ∙ f i m))
      (λ _. (e, f))

module _ (ws : List ℕ) (ends : List (List ℕ)) (p : variables_high ws ≡ false) (t : List ℕ) where
  small : (q : ℕ) → q < 2 * variables_of ws → unique_lit_at ws q < 8192
  unfolding variables_high variable_high
  small q h =
      let r = ltb-false 4095 (variable_at ws (q / 2)) (some_none (variable_high ws) (variables_of ws) p (q / 2) (omega arith)) in
      omega arith

  pub noted_saved : (past : ℕ) (x : Noting) → past ≤ 2 * variables_of ws → noted_up_to ws (saved_table t) past x ≡ noted_up_to ws t past x
  unfolding noted_up_to noted_at
  noted_saved past x h = iter_same _ _ past x (λ i y k. ap (λ (b : Bool). pick b (note ws (lit_at ws i) y) y) (true_saved t (unique_lit_at ws i) (small i (omega arith))))

  notified_saved : (log : List ℕ) (used : ℕ) (w : Way) → notified_all ws ends (saved_table t) log used w ≡ notified_all ws ends t log used w
  unfolding notified_all notified_at is_due
  notified_saved log used w = iter_same _ _ (2 * variables_of ws) w
      (λ i (y : Way) k. ap (λ (b : Bool). pick (is_fine y.progress.judgement && b) (notified ws ends log used i y) y) (true_saved t (unique_lit_at ws i) (small i k)))

  hand_rest : (proposals : List ℕ) (h : Handed) → Rest t h.table → Rest t (handed_on ws proposals h).table
  unfolding handed_on handed_at
  hand_rest proposals h r = iter_ind (λ _ (y : Handed). Rest t y.table) (handed_at ws proposals) h (2 * variables_of ws) r
      (λ i (y : Handed) k z. pick_ind (λ (x : Handed). Rest t x.table) _ _ _ (λ _. handed_rest t (unique_lit_at ws i) y (small i k) z) (λ _. z))

  -- after n turns
  abbrev pub Kept : ℕ → Way → Type 0
  Kept n w = (w.progress.past ≤ n) × Rest t w.table

  joined_kept : (q : ℕ) (w : Way) (j : Judged) (k : Judgement) → Kept q w → Kept (suc q) (joined_by ws (q + 1) w j k)
  unfolding joined_by fine_by stopping
  joined_kept q w j Fine (h, r) = (omega arith, hand_rest j.proposals (handing w.table w.list w.progress.handed) r)
  joined_kept q w j (Clash n) (h, r) = (omega arith, r)
  joined_kept q w j (Stopped n) (h, r) = (omega arith, r)

  turn_kept : (log : List ℕ) (used q : ℕ) (w : Way) → Kept q w → Kept (suc q) (notified_at ws ends t log used q w)
  unfolding notified_at notified joined stopping
  turn_kept log used q w (h, r) = pick_ind (Kept (suc q)) _ _ _
      (λ _. pick_ind (Kept (suc q)) _ _ _ (λ _. (omega arith, r)) (λ _. joined_kept q _ _ _ (h, r)))
      (λ _. (omega arith, r))

  all_kept : (log : List ℕ) (used : ℕ) (w : Way) → Kept 0 w → Kept (2 * variables_of ws) (notified_all ws ends t log used w)
  unfolding notified_all
  all_kept log used w k = iter_ind Kept (notified_at ws ends t log used) w (2 * variables_of ws) k (λ i x _ z. turn_kept log used i x z)

-- the last pass notifies nothing
module _ (ws : List ℕ) (ends : List (List ℕ)) (noted : List ℕ) (x : Progress) (words proposals left : List ℕ) where
  once_past : (j : Judged) (k : Judgement) → (once_more_by ws x words j k).progress.past ≡ x.past
  unfolding once_more_by stopping
  once_past j Fine = refl
  once_past j (Clash n) = refl
  once_past j (Stopped n) = refl

  last_past : (last_pass ws ends noted x words proposals left).progress.past ≡ x.past
  unfolding last_pass once_more
  last_past = pick_ind (λ (y : Ending). y.progress.past ≡ x.past) _ _ _ (λ _. once_past _ _) (λ _. refl)

-- ---- all
module _ (ws : List ℕ) (ends : List (List ℕ)) (p : variables_high ws ≡ false) (t log : List ℕ) (used : ℕ) (w : Way) where
  pub gone_saved : gone_through ws ends (saved_table t) log used w ≡ gone_through ws ends t log used w
  unfolding gone_through
  gone_saved = ap (λ (v : Way). ended v (last_pass ws ends v.noted v.progress v.words v.proposals v.left)) (notified_saved ws ends p t log used w)

  pub gone_kept : Kept ws ends p t 0 w → Kept ws ends p t (2 * variables_of ws) (gone_through ws ends t log used w)
  unfolding gone_through ended
  gone_kept k =
      let v = notified_all ws ends t log used w in
      let (h, r) = all_kept ws ends p t log used w k in
      (omega (arith, last_past ws ends v.noted v.progress v.words v.proposals v.left), r)
