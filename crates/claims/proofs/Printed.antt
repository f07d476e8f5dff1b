-- A call that answers a page asked for it, and the page is that of the standing literals.
use Prim.Native.Nat.{ℕ, ◌<◌}
use native.Mathlib.Omega.{arith}
use mathlib.Core.Path.{◌≡◌, ap, subst}
use mathlib.Core.Bool.{false≢true}
use mathlib.Core.List.{List}
use lib.Dec.{eqb}
use Rattle.base.specs.Lists.{Every}
use Rattle.base.proofs.Loop.{pick_ind}
use Rattle.division.specs.Plan.{Plan}
use Rattle.division.specs.Noting.{note_all, In}
use Rattle.pages.specs.Lines.{page_text}
use Rattle.pages.proofs.Bytes.{page_bytes}
use Rattle.calls.specs.Calls.{World, Query, reason_for, last_left, run_between, page, Call, Answer, printed_page}
use Rattle.calls.specs.Calls.{region_figures, give_page, answer_to, call, answer_list}
use Rattle.calls.proofs.Queries.{answer_kind}
use Rattle.calls.proofs.Rising.{every_in}
use Rattle.claims.proofs.Asked.{given_kind, call_asked}

module _ (d : Plan) (w : World) where
  abbrev text : List ℕ
  text = page_text (region_figures d (note_all d w.standing)) d.vertices

  asked_printed : (q : Query) (bs : List ℕ) → given_kind q ≡ 7 → answer_to d w q ≡ printed_page bs → text ≡ bs
  unfolding given_kind answer_to give_page answer_kind answer_list
  asked_printed (reason_for l) bs k x = absurd (omega arith)
  asked_printed last_left bs k x = absurd (omega arith)
  asked_printed (run_between p q) bs k x = absurd (omega arith)
  asked_printed (page len) bs k x =
      pick_ind (λ (a : Answer). a ≡ printed_page bs → text ≡ bs) _ _ _
      (λ _ z. absurd (false≢true (ap (λ (a : Answer). eqb (answer_kind a) 7) z))) (λ _ z. ap answer_list z) x

  -- each of its bytes is one
  pub printed_bytes : (c : Call) (bs : List ℕ) → (call d c w).answer ≡ printed_page bs → (x : ℕ) → In bs x → x < 256
  unfolding answer_kind
  printed_bytes c bs e x i =
      let a = call_asked d w c (printed_page bs) e (omega arith) in
      let z = asked_printed a.query bs a.kind a.answer in
      every_in (λ y. y < 256) x bs (subst (Every (λ y. y < 256)) z (page_bytes _ d.vertices)) i
