-- Condition 3 of numbers and bytes.
use mathlib.Core.Path.{◌≡◌, refl, sym, ap, subst, ◌∙◌}
use mathlib.Core.Logic.{◌↔◌}
use mathlib.Core.Bool.{Bool, true, false, false≢true}
use mathlib.Core.List.{List, [], ◌∷◌, ◌++◌}
use Prim.Native.Nat.{ℕ, ◌<◌, ◌≤◌}
use native.Mathlib.Omega.{arith}
use lib.IntN.{ℤ, pos, negsuc, neg_ℤ}
use borrow.Author.Tests.{eq-eqb}
use Rattle.base.specs.Iter.{pick}
use Rattle.base.specs.Lists.{Every}
use Rattle.base.proofs.Loop.{pick_ind}
use Rattle.undo_log.specs.declared.Cursor.{Cursor}
use Rattle.sat.specs.Literal.{Holds}
use Rattle.division.specs.Plan.{Plan}
use Rattle.refusals.specs.Calls.{lit_given}
use Rattle.calls.specs.Table as tables
use Rattle.judge.specs.declared.Judgement.{Judgement}
use Rattle.judge.specs.declared.Judgement.TheVariants.{Fine, Clash, Stopped}
use Rattle.judge.specs.Judge.{Judged}
use Rattle.graph_division.specs.declared.GraphDivision.{GraphDivision}
use Rattle.graph_division.specs.Calls.{Called, refuse, adding, accepting, handing_on, settled_by, settled, propagated}
use Rattle.graph_division.specs.declared.Answer.{Answer}
use Rattle.graph_division.specs.declared.Answer.TheVariants.{Consistent, Conflict, Noted, Undone, Reason, Run, Page, Refused}
use Rattle.graph_division.specs.Answers.{number_of, is_consistent}
use Rattle.graph_division.specs.Runs.{reason_for, last_left, Request, propagate, ask, Kept, Reply, replied, replied_called, reply, keeping, after}
use Rattle.claims.specs.Whole.{literals_of}
use Rattle.claims.specs.Conditions.{accepted, AllQuiet, Condition3}
use Rattle.byte_calls.specs.Codes.{fitted, answer_code}
use Rattle.host_claims.specs.HostRuns.{Said, HostMade, AllHostMade, none, next, HostAnswers, Tells, is_page, asks_page, values_at, IsAccepted}
use Rattle.host_claims.specs.HostRuns.{BytesCondition3}
use Rattle.host_claims.proofs.Signed.{down, down_negated}
use Rattle.host_claims.proofs.Runs.{host_runs}
use Rattle.host_claims.proofs.Reading.{fitted_is}

-- a call more
one_more : {start k mid : Kept} {qs : List Request} {q : Request} {list : List ℕ} {x : Said} → AllHostMade start qs k → HostMade k q list x mid → AllHostMade start (qs ++ (q ∷ [])) mid
one_more none m = next m none
one_more (next x xs) m = next x (one_more xs m)

both : {start k mid : Kept} {qs rs : List Request} → AllHostMade start qs k → AllHostMade k rs mid → AllHostMade start (qs ++ rs) mid
both none m = m
both (next x xs) m = next x (both xs m)

after_both : (k : Kept) (qs rs : List Request) → after k (qs ++ rs) ≡ after (after k qs) rs
unfolding after
after_both k [] rs = refl
after_both k (q ∷ qs) rs = after_both (keeping (reply k q)) qs rs

after_one : (k : Kept) (qs : List Request) (q : Request) → after k (qs ++ (q ∷ [])) ≡ keeping (reply (after k qs) q)
unfolding after
after_one k qs q = after_both k qs (q ∷ [])

-- a consistent answer's number is one of literals, and where a notification is accepted only that
unfoldable positive : Answer → Bool
positive (Consistent n) = true
positive Conflict = false
positive Noted = false
positive Undone = true
positive (Reason n) = true
positive (Run n) = true
positive (Page n) = true
positive (Refused n) = false

abbrev Once : Called → Type 0
Once y = positive y.outcome.answer ≡ true → is_consistent y.outcome.answer ≡ true

settled_once : (s : GraphDivision) (c : Cursor) (l : ℕ) (j : Judged) (v : Judgement) (t list log : List ℕ) → Once (settled_by s c l j v t list log)
unfolding settled_by handing_on accepting refuse positive
settled_once s c l j Fine t list log e = refl
settled_once s c l j (Clash n) t list log e = absurd (false≢true e)
settled_once s c l j (Stopped n) t list log e = absurd (false≢true e)

propagated_once : (k : Kept) (lit pending : ℤ) (t list tail : List ℕ) → positive (reply k (propagate lit pending t list tail)).answer ≡ true → is_consistent (reply k (propagate lit pending t list tail)).answer ≡ true
unfolding reply replied_called replied propagated settled adding refuse positive
propagated_once k lit pending t list tail =
    pick_ind Once _ _ _
    (λ _. pick_ind Once _ _ _ (λ _. settled_once k.state k.cursor _ _ _ t list _) (λ _ e. absurd (false≢true e)))
    (λ _ e. absurd (false≢true e))

abbrev Ranged : Answer → Type 0
Ranged a = (i : ℕ) → a ≡ Refused i → (0 < i) × (i ≤ 19)

code_positive : (a : Answer) → Ranged a → down (answer_code a) ≡ 0 → positive a ≡ true
unfolding answer_code down positive
code_positive (Consistent n) h e = refl
code_positive Conflict h e = absurd (omega arith)
code_positive Noted h e = absurd (omega arith)
code_positive Undone h e = refl
code_positive (Reason n) h e = refl
code_positive (Run n) h e = refl
code_positive (Page n) h e = refl
code_positive (Refused m) h e =
    let (a, b) = h m refl in
    let z = sym (down_negated (fitted m) ∙ fitted_is m (omega arith)) ∙ e in
    absurd (omega arith)

consistent_code : (a : Answer) → is_consistent a ≡ true → (n : ℕ) × (answer_code a ≡ pos n)
unfolding answer_code
consistent_code (Consistent n) e = (fitted n, refl)
consistent_code Conflict e = absurd (false≢true e)
consistent_code Noted e = absurd (false≢true e)
consistent_code Undone e = absurd (false≢true e)
consistent_code (Reason n) e = absurd (false≢true e)
consistent_code (Run n) e = absurd (false≢true e)
consistent_code (Page n) e = absurd (false≢true e)
consistent_code (Refused m) e = absurd (false≢true e)

is_accepted : (a : Answer) → Ranged a → IsAccepted (answer_code a) → accepted a ≡ true
unfolding answer_code accepted number_of
is_accepted (Consistent n) h f = refl
is_accepted Conflict h f = refl
is_accepted Noted h f = refl
is_accepted Undone h f = refl
is_accepted (Reason n) h f = refl
is_accepted (Run n) h f = refl
is_accepted (Page n) h f = refl
is_accepted (Refused m) h f =
    let (a, b) = h m refl in
    absurd (f m a (omega arith) (ap (λ (i : ℕ). neg_ℤ (pos i)) (fitted_is m (omega arith))))

-- what is told of each call after a list of them
pub record Heard (start : Kept) : Type 0 where
  pub answers : {qs : List Request} {k k' : Kept} {q : Request} {list : List ℕ} {x : Said} →
      AllHostMade start qs k → HostMade k q list x k' → HostAnswers (after start qs) q list x
  pub tells : {qs : List Request} {k k' : Kept} {q : Request} {list : List ℕ} {x : Said} →
      AllHostMade start qs k → HostMade k q list x k' → Tells x.code (reply (after start qs) q).answer
  pub reads : {qs : List Request} {k k' : Kept} {q : Request} {list : List ℕ} {x : Said} →
      AllHostMade start qs k → HostMade k q list x k' → (n : ℕ) → x.code ≡ pos n →
      values_at (asks_page q) x.list n ≡ literals_of (reply (after start qs) q)
  pub ranged : (qs : List Request) (q : Request) → Ranged (reply (after start qs) q).answer

module _ (start : Kept) (d : Plan) (o : Heard start) (third : Condition3 start d) where
  pub bytes_condition : BytesCondition3 start d
  unfolding accepted down asks_page is_page values_at pick
  bytes_condition = record {
    conflicts = λ {qs} {k} {mid} {end} {q} {list} {b} {rest} all m e my n f σ v h.
        let two = one_more all m in
        let g = after_one start qs q in
        third.conflicts qs q b rest ((o.tells all m).conflict e)
        (ap (λ (z : Kept). accepted (reply z (ask last_left b rest)).answer) (sym g) ∙ eq-eqb _ 0 ((o.tells two my).accepted n f)) σ v
        (subst (Every (Holds σ)) (o.reads two my n f ∙ ap (λ (z : Kept). literals_of (reply z (ask last_left b rest))) g) h);
    handed = λ {qs} {amid} {k} {mid} {late} {end} {q} {list} {b} {rest} {buffer} {x} {y} {lit} all m u t more quiet my n f σ v h.
        let two = one_more all m in
        let three = both two more in
        let one = after_one start qs q in
        let g = after_both start (qs ++ (q ∷ [])) amid ∙ ap (λ (z : Kept). after z amid) one in
        third.handed qs q amid lit b rest
        (record { unset = u; set = ap (λ (z : List ℕ). tables.code_of z (lit_given lit)) (sym (o.answers all m).table) ∙ t })
        (subst (λ (z : Kept). AllQuiet z amid) (host_runs two ∙ one) quiet)
        (ap (λ (z : Kept). accepted (reply z (ask (reason_for lit) b rest)).answer) (sym g) ∙ eq-eqb _ 0 ((o.tells three my).accepted n f)) σ v
        (subst (Every (Holds σ)) (o.reads three my n f ∙ ap (λ (z : Kept). literals_of (reply z (ask (reason_for lit) b rest))) g) h);
    exact = λ {qs} {k} {end} {lit} {t} {l} {rest} {list} {x} all m acc cov.
        let q = propagate lit (pos 0) t l rest in
        let a = (reply (after start qs) q).answer in
        let c = (o.answers all m).code in
        let (f, g) = third.exact qs lit t l rest (is_accepted a (o.ranged qs q) (subst IsAccepted c acc)) cov in (
          λ (n, e). f (propagated_once (after start qs) lit (pos 0) t l rest (code_positive a (o.ranged qs q) (ap down (sym c ∙ e)))),
          λ s. let (n, e) = consistent_code a (g s) in (n, c ∙ e),
        );
  }
