-- A literal that was handed on can be fetched, and all of its reason stands, until a call other than a query is accepted.
use Prim.Native.Nat.{ℕ, ◌+◌, ◌-◌, ◌/◌, ◌<◌}
use mathlib.Core.Path.{◌≡◌, refl, ◌∙◌, ap}
use mathlib.Core.Bool.{Bool, true, false, not, ◌||◌}
use mathlib.Core.List.Memᴰ
use mathlib.Core.List.{List, [], ◌∷◌, ◌++◌}
use Rattle.base.specs.Iter.{pick}
use Rattle.base.specs.Lists.{Every}
use Rattle.base.proofs.Loop.{pick_ind, pick_no}
use Rattle.sat.specs.Literal.{negate, Holds}
use Rattle.sat.proofs.Literal.{variable_negate}
use Rattle.division.specs.Plan.{Plain, Plan, Proper, left, right}
use Rattle.division.specs.Division.{Valid}
use Rattle.division.specs.Regions.{within}
use Rattle.division.specs.State.{State, Same}
use Rattle.division.specs.Reasons.{Reason}
use Rattle.division.specs.Analysis.{Proposal, Each, nothing, also}
use Rattle.division.specs.Noting.{note_all, In, Consistent}
use Rattle.division.specs.Views.{view_of}
use Rattle.division.specs.Runs.{analysis, fetched, reason_of, Run, start, note, look}
use Rattle.division.specs.Explained.{Explains, by_in_group, by_between, by_too_large, by_large, by_small, by_mismatch, by_spread_low, by_spread_high, by_same_size}
use Rattle.division.specs.Proposed.{Good}
use Rattle.division.proofs.Walk.{joined_within}
use Rattle.division.proofs.Fetch.{reason_explained}
use Rattle.division.proofs.Judged.{analyzed_good}
use Rattle.division.proofs.Views.{shows}
use Rattle.division.proofs.Noting.{noted_all}
use Rattle.division.proofs.Whole.{each_found, reason_there, reason_newer, run_fetched}
use Rattle.calls.specs.Table.{knows}
use Rattle.calls.specs.Look.{unjoined, gone}
use Rattle.calls.specs.Calls.{World, reason_for, Call, ask, reason, give_reason, answer_to, tell, on_ask, call, after, run}
use Rattle.calls.specs.Claim.{AllQuiet, answered}
use Rattle.calls.proofs.Known.{edge_known, size_known}
use Rattle.calls.proofs.View.{did}
use Rattle.calls.proofs.Stands.{run_consistent, call_consistent, all_quiet_same}
use Rattle.calls.proofs.Recent.{did_recent}

pub each_map : {P Q : ℕ → Reason → Type 0} {l : List Proposal} → ((x : ℕ) (r : Reason) → P x r → Q x r) → Each P l → Each Q l
each_map f nothing = nothing
each_map f (also p e) = also (f _ _ p) (each_map f e)

pub each_append : {P : ℕ → Reason → Type 0} {a b : List Proposal} → Each P a → Each P b → Each P (a ++ b)
each_append nothing y = y
each_append (also p x) y = also p (each_append x y)

module _ (d : Plan) (k : Proper d) where
  pub good : (ls : List ℕ) → Consistent ls → Good d (note_all d ls) (analysis d ls)
  good ls c = analyzed_good d (note_all d ls) (view_of d (note_all d ls)) k (noted_all d ls c).bounded (shows d k (note_all d ls))

  -- what a run recorded explains wherever at least as much stands
  pub run_explained : {ls : List ℕ} {ps : List Proposal} → Run d ls ps → (ms : List ℕ) → Consistent ms → ((l : ℕ) → In ls l → In ms l) → Each (Explains d (note_all d ms)) ps
  run_explained (start ls) ms c sub = nothing
  run_explained (note l r) ms c sub = run_explained r ms c (λ x m. sub x (Memᴰ.tail m))
  run_explained (look {ls = ls} r) ms c sub =
      let cl : Consistent ls = λ l a b. c l (sub l a) (sub (negate l) b) in
      each_append (each_map (reason_explained d k (In ls) (In ms) (note_all d ls) (note_all d ms) (noted_all d ls cl) (noted_all d ms c) sub) (good ls cl).props) (run_explained r ms c sub)

  there : (s : State) (u v : ℕ) → u < d.vertices → Same d s u v → unjoined d s u v ≡ false
  unfolding unjoined
  there s u v h j = ap not (joined_within d k s.edge_state false u h v j)

  both : (a b : Bool) → a ≡ false → b ≡ false → (a || b) ≡ false
  both true b e f = e
  both false b e f = f

  end_below : (g : ℕ) (f : Bool) → g < d.edges → pick f (right d g) (left d g) < d.vertices
  end_below g f h = pick_ind (λ x. x < d.vertices) f _ _ (λ _. (k.fine.within g h).b) (λ _. (k.fine.within g h).a)

  end_below' : (g : ℕ) (f : Bool) → g < d.edges → pick f (left d g) (right d g) < d.vertices
  end_below' g f h = pick_ind (λ x. x < d.vertices) f _ _ (λ _. (k.fine.within g h).a) (λ _. (k.fine.within g h).b)

  -- no path of a reason that explains is gone
  not_gone : (s : State) (l : ℕ) (r : Reason) → Explains d s l r → gone d s r ≡ false
  unfolding gone
  not_gone s l r (by_in_group g h e j) = there s _ _ (k.fine.within g h).a j
  not_gone s l r (by_between i g f hi h e a b) = both _ _ (there s _ _ (k.fine.within i hi).a a) (there s _ _ (k.fine.within i hi).b b)
  not_gone s l r (by_too_large g ls w b h e hw a u m) = refl
  not_gone s l r (by_large v j h m e a) = refl
  not_gone s l r (by_small v j h m e a) = refl
  not_gone s l r (by_mismatch g p q f h e hp hq a b m) = both _ _ (there s _ _ (end_below g f h) a) (there s _ _ (end_below' g f h) b)
  not_gone s l r (by_spread_low p u ls b j hp hu m e a w i) = there s _ _ hp a
  not_gone s l r (by_spread_high p u ls b j hp hu m e a w i) = there s _ _ hp a
  not_gone s l r (by_same_size p lp up q lq uq u g o h e hp hq hu xa ya xb yb) = refl

  half : {a b : ℕ} → a ≡ b → a / 2 ≡ b / 2
  half e = ap (λ z. z / 2) e

  -- a literal that is explained is the plan's
  pub is_known : (s : State) (l : ℕ) (r : Reason) → Explains d s l r → knows d l ≡ true
  is_known s l r (by_in_group g h e j) = edge_known d l g h (half e ∙ variable_negate _)
  is_known s l r (by_between i g f hi h e a b) = edge_known d l g h (half e)
  is_known s l r (by_too_large g ls w b h e hw a u m) = edge_known d l g h (half e)
  is_known s l r (by_large v j h m e a) = size_known d l v j h m (half e)
  is_known s l r (by_small v j h m e a) = size_known d l v j h m (half e ∙ variable_negate _)
  is_known s l r (by_mismatch g p q f h e hp hq a b m) = edge_known d l g h (half e)
  is_known s l r (by_spread_low p u ls b j hp hu m e a w i) = size_known d l u j hu m (half e)
  is_known s l r (by_spread_high p u ls b j hp hu m e a w i) = size_known d l u j hu m (half e ∙ variable_negate _)
  is_known s l r (by_same_size p lp up q lq uq u g o h e hp hq hu xa ya xb yb) = edge_known d l g h (half e)

  fetch_gives : (w : World) (l : ℕ) (r : Reason) → reason_of l w.reasons ≡ r ∷ [] → Explains d (note_all d w.standing) l r →
      (call d (ask true (reason_for l)) w).answer ≡ reason (fetched d w.standing r)
  unfolding call on_ask tell answer_to give_reason
  fetch_gives w l r e x =
      pick_no _ _ refl ∙ pick_no _ _ (ap not (is_known _ l r x)) ∙ ap (give_reason d w) e ∙ pick_no _ _ (not_gone _ l r x)

  -- a literal that was handed on, then refused calls and queries, then a fetch of it: a list is given, all of it stands,
  -- and the literal follows from it
  pub handed_fetched : (before : List Call) (c : Call) (amid : List Call) (l : ℕ) → In (answered d before c).handed l → AllQuiet d (answered d before c).world amid →
      (list : List ℕ) × ((call d (ask true (reason_for l)) (after d (answered d before c).world amid)).answer ≡ reason list) × Every (In (answered d before c).world.standing) list ×
      (Plain d → (σ : ℕ → Bool) → Valid d σ → Every (Holds σ) list → Holds σ l)
  handed_fetched before c amid l m q =
      let w = run d before in
      let v = (answered d before c).world in
      let x = did_recent d w (did d w c) in
      let g : Consistent v.standing = call_consistent d w c (run_consistent d before) in
      let (r, e) = reason_there l x.recent (x.each l m) in
      let j = run_fetched d k x.run g l r e in
      let y : Explains d (note_all d v.standing) l r = each_found l r x.recent (run_explained x.run v.standing g (λ _ z. z)) e in (
        fetched d v.standing r,
        ap (λ (z : World). (call d (ask true (reason_for l)) z).answer) (all_quiet_same d q) ∙ fetch_gives v l r (ap (reason_of l) x.all ∙ reason_newer l r x.recent w.reasons e) y,
        j.stands,
        j.sound,
      )
