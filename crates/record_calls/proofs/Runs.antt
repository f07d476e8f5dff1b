-- Where the plan passes its own test, as every plan that is built does, any list of calls on records replies as the flat calls do on
-- the records' words: so what is said of every list of requests, the conditions of the order among it, holds of calls on records.
--     made_replies     each call's reply is the flat one's, and so is what is kept after it
--     runs_in_words    where a list of calls leads
use mathlib.Core.Path.{◌≡◌, refl, ap, ap₂, ◌∙◌}
use mathlib.Core.Bool.{false}
use mathlib.Core.List.{List, [], ◌∷◌, ◌++◌, map, map-append}
use Prim.Native.Nat.{ℕ, zero, suc}
use lib.ListN.{take}
use Rattle.base.proofs.Loop.{pick_ind, pick_no}
use Rattle.edge_table.specs.declared.EdgeTable.{EdgeTable}
use Rattle.undo_log.specs.declared.Record.{Record}
use Rattle.undo_log.specs.declared.Cursor.{Cursor}
use Rattle.undo_log.specs.Log.{word_of}
use Rattle.plan.specs.Check.{plan_bad}
use Rattle.judge.specs.declared.Judgement.{Judgement}
use Rattle.judge.specs.declared.Judgement.TheVariants.{Fine, Clash, Stopped}
use Rattle.judge.specs.Judge.{Judged}
use Rattle.notifications.specs.declared.Progress.{Progress}
use Rattle.graph_division.specs.declared.GraphDivision.{GraphDivision}
use Rattle.graph_division.specs.declared.Outcome.{Outcome}
use Rattle.graph_division.specs.Calls.{Called, refuse, with_noted, with_judged, adding, accepting, handing_on, settled_by, settled, propagated, undone}
use Rattle.graph_division.specs.Initialize.{taken_over, taking, ended_by, begun, initialized}
use Rattle.graph_division.specs.Runs.{Request, initialize, propagate, undo, ask, kept, Reply, replied, replied_called, replied_fetched, asked, reply, after}
use Rattle.graph_division.specs.Runs as flat
use Rattle.record_calls.specs.Checked.{checked}
use Rattle.record_calls.specs.Runs.{Kept, in_words, log_words, keeping, Made, initializes, propagates, undoes, asks, AllMade, none, next}

map_take : (n : ℕ) (l : List Record) → map word_of (take n l) ≡ take n (map word_of l)
map_take zero l = refl
map_take (suc n) [] = refl
map_take (suc n) (x ∷ l) = ap (λ (t : List ℕ). word_of x ∷ t) (map_take n l)

-- what is kept, in words
keeps : (s : GraphDivision) (c : Cursor) (log : List Record) → in_words (keeping s c log) ≡ kept s c (take c.used (map word_of log))
keeps s c log = ap (kept s c) (map_take c.used log)

-- a state with another's plan
SamePlan : GraphDivision → GraphDivision → Type 0
SamePlan s u = (u.plan ≡ s.plan) × (u.edges ≡ s.edges)

module _ (s : GraphDivision) (c : Cursor) where
  ended_plan : (t log words left : List ℕ) (x : Progress) (j : Judgement) (back after handed list : List ℕ) →
      SamePlan s (ended_by s c t log words left x j back after handed list).outcome.state
  unfolding SamePlan ended_by taking taken_over refuse
  ended_plan t log words left x Fine back after handed list = (refl, refl)
  ended_plan t log words left x (Clash n) back after handed list = (refl, refl)
  ended_plan t log words left x (Stopped n) back after handed list = (refl, refl)

  settled_plan : (l : ℕ) (x : Judged) (j : Judgement) (t list log : List ℕ) →
      SamePlan s (settled_by s c l x j t list log).outcome.state
  unfolding SamePlan settled_by handing_on accepting with_judged refuse
  settled_plan l x Fine t list log = (refl, refl)
  settled_plan l x (Clash n) t list log = (refl, refl)
  settled_plan l x (Stopped n) t list log = (refl, refl)

-- a request, accepted or refused, leaves the plan
reply_plan : (h : flat.Kept) (q : Request) → SamePlan h.state (reply h q).state
unfolding SamePlan reply replied_called replied_fetched replied initialized begun propagated settled adding with_noted undone refuse
reply_plan h (initialize t list tail) = pick_ind (λ (x : Called). SamePlan h.state x.outcome.state) _ _ _
    (λ _. ended_plan h.state h.cursor t _ _ _ _ _ t _ _ list) (λ _. (refl, refl))
reply_plan h (propagate lit pending t list tail) =
    let P : Called → Type 0 = λ x. SamePlan h.state x.outcome.state in
    pick_ind P _ _ _
    (λ _. pick_ind P _ _ _ (λ _. settled_plan h.state h.cursor _ _ _ t list _) (λ _. (refl, refl)))
    (λ _. (refl, refl))
reply_plan h (undo lit tail) = pick_ind (λ (o : Outcome). SamePlan h.state o.state) _ _ _ (λ _. (refl, refl)) (λ _. (refl, refl))
reply_plan h (ask q b tail) = (refl, refl)

module _ (k : Kept) (passes : plan_bad k.state.plan k.state.edges.ends ≡ false) where
  unchecked : {A : Type 0} (away x : A) → checked k.state away x ≡ x
  unfolding checked
  unchecked away x = pick_no _ _ passes

  -- the log that is lent, in words, is the flat request's
  lent : (rest : List Record) → log_words k rest ≡ map word_of k.records ++ map word_of rest
  lent rest = map-append word_of k.records rest

  pub made_replies : {q : Request} {y : Reply} {k' : Kept} → Made k q y k' → (y ≡ reply (in_words k) q) × (in_words k' ≡ flat.keeping y)
  unfolding reply replied replied_called replied_fetched flat.keeping
  made_replies (initializes t list t' list' rest log' r e) =
      (ap replied_called (e ∙ unchecked _ _ ∙ ap (λ (l : List ℕ). initialized k.state k.cursor t l list) (lent rest)), keeps r.state r.cursor log')
  made_replies (propagates lit pending t list t' list' rest log' r e) =
      (ap replied_called (e ∙ unchecked _ _ ∙ ap (propagated k.state k.cursor lit pending t list) (lent rest)), keeps r.state r.cursor log')
  made_replies (undoes lit rest r e) = (
    ap (λ (o : Outcome). replied o [] [] (log_words k rest)) (e ∙ unchecked _ _)
        ∙ ap (λ (l : List ℕ). replied (undone k.state k.cursor lit l) [] [] l) (lent rest),
    keeps r.state r.cursor (k.records ++ rest),
  )
  made_replies (asks q b b' rest a e) = (
    ap (replied_fetched (in_words k) (log_words k rest)) (e ∙ unchecked _ _)
        ∙ ap (λ (l : List ℕ). replied_fetched (in_words k) l (asked k.state k.cursor l q b)) (lent rest),
    keeps k.state k.cursor (k.records ++ rest),
  )

pub runs_in_words : {k k' : Kept} {qs : List Request} → plan_bad k.state.plan k.state.edges.ends ≡ false →
    AllMade k qs k' → in_words k' ≡ after (in_words k) qs
unfolding after SamePlan flat.keeping
runs_in_words passes none = refl
runs_in_words passes (next {k} {mid} {end} {q} {qs} {y} made all) =
    let both = made_replies k passes made in
    let (p, e) = reply_plan (in_words k) q in
    let plan : mid.state.plan ≡ k.state.plan =
    ap (λ (x : flat.Kept). x.state.plan) both.1 ∙ ap (λ (x : Reply). x.state.plan) both.0 ∙ p in
    let edges : mid.state.edges ≡ k.state.edges =
    ap (λ (x : flat.Kept). x.state.edges) both.1 ∙ ap (λ (x : Reply). x.state.edges) both.0 ∙ e in
    let still = ap₂ (λ (ws : List ℕ) (es : EdgeTable). plan_bad ws es.ends) plan edges ∙ passes in
    runs_in_words still all ∙ ap (λ (x : flat.Kept). after x qs) (both.1 ∙ ap flat.keeping both.0)
