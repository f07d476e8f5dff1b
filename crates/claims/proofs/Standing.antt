-- Document 02, request 5, of the code.
use mathlib.Core.Path.{◌≡◌, sym, ◌∙◌, ap, subst}
use mathlib.Core.Logic.{⊎_elim}
use mathlib.Core.Bool.{true}
use mathlib.Core.List.{List, [], ◌∷◌, ◌++◌, Memᴰ}
use Prim.Native.Nat.{ℕ}
use Rattle.division.specs.Plan.{Plan, Proper}
use Rattle.division.specs.Analysis.{Proposal}
use Rattle.calls.specs.Table.{unset_in}
use Rattle.calls.specs.Calls as calls
use Rattle.calls.proofs.Truths as definitions
use Rattle.calls.proofs.Proposed.{each_at, proposed_recorded, handed_new}
use Rattle.graph_division.specs.Runs.{Request, Kept, after, calls_of}
use Rattle.claims.specs.Conditions.{accepted, HandsOn, world_after, reply_to, call_for, standing_then}
use Rattle.claims.specs.Standing.{Proposed, EitherIn, NothingStandingProposed}
use Rattle.claims.proofs.Replying.{accepted_is, At}
use Rattle.claims.proofs.OneAnswer.{table_same}
use Rattle.claims.proofs.Lists as lists

module _ (D : Plan) (start : Kept) (a : At D start calls.built) (proper : Proper D) where
  unproposed : (before : List Request) (q : Request) (ms : List ℕ) (p : Proposal) →
      Proposed start D before q ms p → EitherIn ms p.lit → ⊥
  unproposed before q ms p x e =
      let each = definitions.nothing_standing_proposed D proper (calls_of start before) (call_for start before q) ms in
      let (neither, nor) = each_at (each x.analyzes) x.proposes in
      ⊎_elim neither nor e

  all_recorded : (before : List Request) (q : Request) (ms : List ℕ) (p : Proposal) →
      Proposed start D before q ms p → accepted (reply_to start before q).answer ≡ true →
      Memᴰ p (world_after D start (before ++ (q ∷ []))).reasons
  all_recorded before q ms p x e =
      let w = world_after D start before in
      let answer = ap accepted (sym (lists.answer_of_lem D start a before q)) ∙ e in
      let k = sym (accepted_is D proper w (call_for start before q)) ∙ answer in
      subst (λ (v : calls.World). Memᴰ p v.reasons) (sym (lists.run_more D start a proper before q))
      (proposed_recorded D p proper w x.analyzes k x.proposes)

  handed_not_standing : (before : List Request) (q : Request) (l : ℕ) →
      HandsOn (after start before) q l → EitherIn (standing_then D start before q) l → ⊥
  handed_not_standing before q l h e =
      let unset = ap (λ (t : List ℕ). unset_in t l) (table_same (after start before) q) ∙ h.unset in
      let handed = ((lists.condition_2 D start a proper).shown before q l).0 h in
      let (neither, nor) = handed_new D proper (calls_of start before) (call_for start before q) l unset handed in
      ⊎_elim neither nor
      (subst (λ (ls : List ℕ). EitherIn ls l) (sym (lists.stands_then D start a proper before q)) e)

  pub nothing_standing_proposed : NothingStandingProposed start D
  nothing_standing_proposed =
      record { proposed = unproposed; recorded = all_recorded; handed = handed_not_standing }
