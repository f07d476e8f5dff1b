-- What `initialize` notifies: each literal that it came past was free, so the log has room for the records of all of them.
use mathlib.Core.Path.{◌≡◌, refl, sym, ap, subst, ◌∙◌}
use mathlib.Core.Logic.{⊎_elim}
use mathlib.Core.Bool.{true, false, ◌&&◌, true≢false}
use mathlib.Core.List.{List, [], ◌∷◌}
use Prim.Native.Nat.{ℕ, suc, ◌+◌, ◌*◌, ◌/◌, ◌%◌, ◌<◌, ◌≤◌}
use native.Mathlib.Omega.{arith}
use native.Mathlib.Nat.{eq-or-lt_of_le}
use lib.Dec.{eqb}
use lib.ListN.{get_or}
use borrow.Author.Tests.{eq-eqb, ne_eqb, eqb-true}
use Rattle.base.proofs.Loop.{pick_yes, pick_no, pick_ind, iter_ind, tested}
use Rattle.base.proofs.Tests.{or_cases}
use Rattle.plan.specs.Words.{variables_of, variable_at, unique_lit_at}
use Rattle.plan.specs.Proper.{ProperWords}
use Rattle.plan.proofs.Abstract.{unique_rising}
use Rattle.noting.specs.Note.{known}
use Rattle.noting.specs.Standing.{has_variable}
use Rattle.noting.proofs.Indexed.{is_known}
use Rattle.noting.proofs.Logged.{known_small}
use Rattle.noting.proofs.Rising.{rises}
use Rattle.calls.specs.Table.{code_of, coded, true_in}
use Rattle.judge.specs.Judge.{Judged, judge_words}
use Rattle.judge.specs.declared.Judgement.{Judgement}
use Rattle.judge.specs.declared.Judgement.TheVariants.{Fine, Clash, Stopped}
use Rattle.notifications.specs.declared.Progress.{Progress}
use Rattle.notifications.specs.Notifications.{lit_at, Way, is_fine, stopping, fine_by, joined_by, is_due, joined, notified, notified_at, notified_all, Ending, once_more_by, once_more, last_pass, ended, gone_through}
use Rattle.noting.specs.Undo.{records_of}
use Rattle.noting.specs.Standing.{standing}

-- a code shows one sign
one_sign : (c : ℕ) → coded 1 3 c ≡ true → coded 2 4 c ≡ true → ⊥
unfolding coded
one_sign c a b =
    ⊎_elim (λ x. ⊎_elim (λ y. no 1 2 (λ (e : ◌≡◌ {A = ℕ} 1 2). omega arith) x y) (λ y. no 1 4 (λ (e : ◌≡◌ {A = ℕ} 1 4). omega arith) x y) (or_cases (eqb c 2) (eqb c 4) b))
    (λ x. ⊎_elim (λ y. no 3 2 (λ (e : ◌≡◌ {A = ℕ} 3 2). omega arith) x y) (λ y. no 3 4 (λ (e : ◌≡◌ {A = ℕ} 3 4). omega arith) x y) (or_cases (eqb c 2) (eqb c 4) b)) (or_cases (eqb c 1) (eqb c 3) a)
  where
    no : (m n : ℕ) → (m ≡ n → ⊥) → eqb c m ≡ true → eqb c n ≡ true → ⊥
    no m n z x y = z (sym (eqb-true c m x) ∙ eqb-true c n y)

-- no two literals of one variable are true
two_true : (t : List ℕ) (l m : ℕ) → l < m → l / 2 ≡ m / 2 → true_in t l ≡ true → true_in t m ≡ true → ⊥
unfolding true_in code_of
two_true t l m h e a b =
    let x : l % 2 ≡ 0 = omega arith in
    let n : m % 2 ≡ 0 → ⊥ = λ (z : m % 2 ≡ 0). omega arith in
    one_sign (get_or t (l / 2) 0)
    (sym (pick_yes _ _ (eq-eqb (l % 2) 0 x)) ∙ a)
    (ap (λ (i : ℕ). coded 2 4 (get_or t i 0)) e ∙ sym (pick_no _ _ (ne_eqb (m % 2) 0 n)) ∙ b)

module _ (ws : List ℕ) (ends : List (List ℕ)) (p : ProperWords ws ends) where
  abbrev places : ℕ
  places = 2 * variables_of ws

  pub lit_known : (i : ℕ) → i < places → known ws (unique_lit_at ws i / 2) ≡ true
  lit_known i h = ap (known ws) (sym (halves (variable_at ws (i / 2)) i)) ∙ is_known ws ends p (i / 2) (omega arith)
    where
      halves : (v j : ℕ) → v ≡ (2 * v + j % 2) / 2
      halves v j = omega arith

  pub lit_is : (i : ℕ) → i < places → lit_at ws i ≡ unique_lit_at ws i
  unfolding lit_at
  lit_is i h = small (unique_lit_at ws i) (known_small ws ends p (unique_lit_at ws i) (lit_known i h))
    where
      small : (l : ℕ) → l ≤ 8191 → l % 65536 ≡ l
      small l k = omega arith

  -- two of them that are true have two variables
  pub lit_other : (t : List ℕ) (i j : ℕ) → i < j → j < places → true_in t (unique_lit_at ws i) ≡ true → true_in t (unique_lit_at ws j) ≡ true → eqb (unique_lit_at ws i / 2) (unique_lit_at ws j / 2) ≡ false
  lit_other t i j h k a b =
      let m = rises (unique_lit_at ws) places (unique_rising ws ends p) i j h k in
      ne_eqb (unique_lit_at ws i / 2) (unique_lit_at ws j / 2) (λ (e : unique_lit_at ws i / 2 ≡ unique_lit_at ws j / 2). two_true t (unique_lit_at ws i) (unique_lit_at ws j) m e a b)

module _ (ws : List ℕ) (ends : List (List ℕ)) (t log : List ℕ) (used : ℕ) where
  abbrev ls : List ℕ
  ls = standing (records_of log used)

  -- the literals of the table before place n do not stand
  abbrev pub Free : ℕ → Type 0
  Free n = (q : ℕ) → q < n → true_in t (unique_lit_at ws q) ≡ true → has_variable (lit_at ws q / 2) ls ≡ false

  free_less : (m n : ℕ) → m ≤ n → Free n → Free m
  free_less m n h f q k = f q (omega arith)

  -- before place i, with `past` the place past the literal notified last
  abbrev Good : Judgement → ℕ → ℕ → Type 0
  Good Fine i past = Free i × (past ≤ i)
  Good (Clash n) i past = Free past × (past ≤ i)
  Good (Stopped n) i past = Unit {0}

  abbrev So : ℕ → Way → Type 0
  So i w = Good w.progress.judgement i w.progress.past

  free_next : (i : ℕ) → Free i → (true_in t (unique_lit_at ws i) ≡ true → has_variable (lit_at ws i / 2) ls ≡ false) → Free (suc i)
  free_next i f g q h d = ⊎_elim
      (λ (e : q ≡ i). ap (λ (j : ℕ). has_variable (lit_at ws j / 2) ls) e ∙ g (ap (λ (j : ℕ). true_in t (unique_lit_at ws j)) (sym e) ∙ d))
      (λ (k : q < i). f q k d)
      (eq-or-lt_of_le {n = q} {m = i} (omega arith))

  joined_so : (i : ℕ) (w : Way) (j : Judged) (x : Judgement) → Free (suc i) → So (suc i) (joined_by ws (i + 1) w j x)
  unfolding joined_by fine_by stopping
  joined_so i w j Fine f = (f, omega arith)
  joined_so i w j (Clash n) f = (free_less (i + 1) (suc i) (omega arith) f, omega arith)
  joined_so i w j (Stopped n) f = tt

  notified_so : (i : ℕ) (w : Way) → Free i → true_in t (unique_lit_at ws i) ≡ true → So (suc i) (notified ws ends log used i w)
  unfolding notified stopping joined
  notified_so i w f d = pick_ind (So (suc i)) (has_variable (lit_at ws i / 2) ls) _ _
      (λ _. tt)
      (λ e. joined_so i _ _ _ (free_next i f (λ _. e)))

  step_so : (i : ℕ) (w : Way) → So i w → So (suc i) (notified_at ws ends t log used i w)
  unfolding notified_at is_due
  step_so i w s = go w.progress.judgement refl
    where
      stay : So (suc i) w → is_due ws t w.progress.judgement i ≡ false → So (suc i) (notified_at ws ends t log used i w)
      stay x e = subst (So (suc i)) (sym (pick_no _ _ e)) x

      go : (j : Judgement) → w.progress.judgement ≡ j → So (suc i) (notified_at ws ends t log used i w)
      go Fine e = tested (true_in t (unique_lit_at ws i))
          (λ d. subst (So (suc i)) (sym (pick_yes _ _ (ap (λ (x : Judgement). is_fine x && true_in t (unique_lit_at ws i)) e ∙ d))) (notified_so i w g.0 d))
          (λ d. stay (subst (λ (x : Judgement). Good x (suc i) w.progress.past) (sym e) (free_next i g.0 (λ x. absurd (true≢false (sym x ∙ d))), omega (arith, g.1))) (ap (λ (x : Judgement). is_fine x && true_in t (unique_lit_at ws i)) e ∙ d))
        where
          g : Good Fine i w.progress.past
          g = subst (λ (x : Judgement). Good x i w.progress.past) e s
      go (Clash n) e =
          let g : Good (Clash n) i w.progress.past = subst (λ (x : Judgement). Good x i w.progress.past) e s in
          stay (subst (λ (x : Judgement). Good x (suc i) w.progress.past) (sym e) (g.0, omega (arith, g.1))) (ap (λ (x : Judgement). is_fine x && true_in t (unique_lit_at ws i)) e)
      go (Stopped n) e = stay (subst (λ (x : Judgement). Good x (suc i) w.progress.past) (sym e) tt) (ap (λ (x : Judgement). is_fine x && true_in t (unique_lit_at ws i)) e)

  -- in the end, where it was not refused
  abbrev pub Came : Judgement → ℕ → Type 0
  Came Fine past = Free past × (past ≤ 2 * variables_of ws)
  Came (Clash n) past = Free past × (past ≤ 2 * variables_of ws)
  Came (Stopped n) past = Unit {0}

  good_came : (j : Judgement) (past : ℕ) → Good j (2 * variables_of ws) past → Came j past
  good_came Fine past g = (free_less past _ g.1 g.0, g.1)
  good_came (Clash n) past g = g
  good_came (Stopped n) past g = tt

  last_came : (noted : List ℕ) (x : Progress) (words proposals left : List ℕ) → Good x.judgement (2 * variables_of ws) x.past →
      Came (last_pass ws ends noted x words proposals left).progress.judgement (last_pass ws ends noted x words proposals left).progress.past
  unfolding last_pass once_more once_more_by stopping
  last_came noted x words proposals left g = pick_ind (λ (y : Ending). Came y.progress.judgement y.progress.past) (is_fine x.judgement) _ _
      (λ e. let j = judge_words ws ends noted (0 ∷ []) proposals left in by j j.judgement (fine x.judgement e refl))
      (λ e. good_came x.judgement x.past g)
    where
      fine : (j : Judgement) → is_fine x.judgement ≡ true → x.judgement ≡ j → x.judgement ≡ Fine
      fine Fine e f = f
      fine (Clash n) e f = absurd (true≢false (sym e ∙ ap is_fine f))
      fine (Stopped n) e f = absurd (true≢false (sym e ∙ ap is_fine f))

      by : (j : Judged) (q : Judgement) → x.judgement ≡ Fine → Came (once_more_by ws x words j q).progress.judgement (once_more_by ws x words j q).progress.past
      by j Fine e = good_came x.judgement x.past g
      by j (Clash n) e = good_came Fine x.past (subst (λ (k : Judgement). Good k (2 * variables_of ws) x.past) e g)
      by j (Stopped n) e = tt

  pub gone_came : (w : Way) → w.progress.judgement ≡ Fine → w.progress.past ≡ 0 → Came (gone_through ws ends t log used w).progress.judgement (gone_through ws ends t log used w).progress.past
  unfolding gone_through ended notified_all
  gone_came w e z = last_came _ _ _ _ _
      (iter_ind So (notified_at ws ends t log used) w (2 * variables_of ws) (subst (λ (x : Judgement). Good x 0 w.progress.past) (sym e) ((λ q h. absurd (omega arith)), omega arith)) (λ i x _ s. step_so i x s))
