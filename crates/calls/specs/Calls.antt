-- The calls, on a world that holds what stands, what is recorded, the list last left, and whether an initialize was consistent.
use Rattle.std.specs.Prelude.{ℕ, ◌*◌, Bool, true, false, not, ◌||◌, List, [], ◌∷◌, ◌++◌, eqb, ltb}
use Rattle.base.specs.Iter.{pick}
use Rattle.sat.specs.Literal.{negate}
use Rattle.division.specs.Plan.{Plan}
use Rattle.division.specs.State.{State, potential}
use Rattle.division.specs.Reasons.{Reason}
use Rattle.division.specs.Conflicts.{conflict_list}
use Rattle.division.specs.Analysis.{Verdict, going, conflict, zero_size, Proposal, Out}
use Rattle.division.specs.Noting.{note_all}
use Rattle.division.specs.Views.{view_of}
use Rattle.division.specs.Runs.{analysis, fetched, reason_of}
use Rattle.runs.specs.Walk.{best_run}
use Rattle.pages.specs.Lines.{Figures, page_text, num_regions}
use Rattle.calls.specs.Table.{knows, entered, bad_table, has}
use Rattle.calls.specs.Look.{Judgement, fine, clash, stopped, Looked, looked, gone}

pub record World : Type 0 where
  -- the newest first
  pub standing : List ℕ
  pub reasons : List Proposal
  -- the list last left
  pub last : List ℕ
  pub done : Bool

unfoldable pub built : World
built = record { standing = []; reasons = []; last = []; done = false }

-- what a call that changes nothing asks for: the reason of a literal, the list last left, and of document 02 the run of
-- edges from vertex p to vertex q (request 1) and the page, into a buffer of so many bytes (request 3)
pub data Query : Type 0 where
  reason_for : (l : ℕ) → Query
  last_left : Query
  run_between : (p q : ℕ) → Query
  page : (len : ℕ) → Query

-- room: all other buffers that the call is lent pass refusal 7's tests
pub data Call : Type 0 where
  initialize : (room : Bool) (table : List ℕ) → Call
  propagate : (room : Bool) (table : List ℕ) (l : ℕ) (pending : Bool) → Call
  undo : (room : Bool) (l : ℕ) → Call
  ask : (room : Bool) (q : Query) → Call

pub data Answer : Type 0 where
  consistent : Answer
  conflicting : Answer
  noted : Answer
  undone : Answer
  refused : (n : ℕ) → Answer
  reason : (ls : List ℕ) → Answer
  -- the numbers of a run's edges, in order from the first vertex
  found_run : (gs : List ℕ) → Answer
  -- the bytes of the page
  printed_page : (bytes : List ℕ) → Answer

unfoldable pub accepted : Answer → Bool
accepted consistent = true
accepted conflicting = true
accepted noted = true
accepted undone = true
accepted (refused n) = false
accepted (reason ls) = true
accepted (found_run gs) = true
accepted (printed_page bytes) = true

-- the list that an answer gives: a reason's, a run's or a page's, else none
unfoldable pub answer_list : Answer → List ℕ
answer_list consistent = []
answer_list conflicting = []
answer_list noted = []
answer_list undone = []
answer_list (refused n) = []
answer_list (reason ls) = ls
answer_list (found_run gs) = gs
answer_list (printed_page bytes) = bytes

-- the table that a call is lent; one that is lent none has the empty one
unfoldable pub table_of : Call → List ℕ
table_of (initialize room t) = t
table_of (propagate room t l pending) = t
table_of (undo room l) = []
table_of (ask room q) = []

pub record Outcome : Type 0 where
  pub answer : Answer
  pub world : World
  pub table : List ℕ
  pub handed : List ℕ

unfoldable pub refuse : ℕ → World → List ℕ → Outcome
refuse n w t = record { answer = refused n; world = w; table = t; handed = [] }

-- l stands, or its negation
unfoldable pub taken : World → ℕ → Bool
taken w l = has w.standing l || has w.standing (negate l)

-- the world after a notification that was analyzed
unfoldable pub noting : World → ℕ → Looked → World
noting w l o = record { standing = l ∷ w.standing; reasons = o.records ++ w.reasons; last = o.left; done = w.done }

-- and after one that was only noted
unfoldable pub adding : World → ℕ → World
adding w l = record { standing = l ∷ w.standing; reasons = w.reasons; last = w.last; done = w.done }

unfoldable pub settled_by : World → List ℕ → ℕ → Looked → Judgement → Outcome
settled_by w t l o fine = record { answer = consistent; world = noting w l o; table = o.table; handed = o.handed }
settled_by w t l o clash = record { answer = conflicting; world = noting w l o; table = o.table; handed = o.handed }
settled_by w t l o (stopped n) = refuse n w t

unfoldable pub settled : Plan → World → List ℕ → ℕ → Outcome
settled d w t l = settled_by w t l (looked d (l ∷ w.standing) t) (looked d (l ∷ w.standing) t).judgement

unfoldable pub on_propagate : Plan → World → Bool → List ℕ → ℕ → Bool → Outcome
on_propagate d w room t l pending =
    pick (not room || bad_table d t) (refuse 7 w t)
    (pick (not (knows d l)) (refuse 9 w t)
    (pick (taken w l) (refuse 10 w t)
    (pick pending (record { answer = noted; world = adding w l; table = t; handed = [] }) (settled d w t l))))

unfoldable pub take_back : World → ℕ → List ℕ → Outcome
take_back w l [] = refuse 11 w []
take_back w l (x ∷ xs) = pick (eqb x l) (record { answer = undone; world = record { standing = xs; reasons = w.reasons; last = w.last; done = w.done }; table = []; handed = [] }) (refuse 11 w [])

unfoldable pub on_undo : Plan → World → Bool → ℕ → Outcome
on_undo d w room l = pick (not room) (refuse 7 w []) (pick (not (knows d l)) (refuse 9 w []) (take_back w l w.standing))

unfoldable pub give_reason : Plan → World → List Reason → Answer
give_reason d w [] = refused 15
give_reason d w (r ∷ rs) = pick (gone d (note_all d w.standing) r) (refused 16) (reason (fetched d w.standing r))

-- document 02, request 1: the run that is found, or 18
unfoldable pub give_run : List (List ℕ) → Answer
give_run [] = refused 18
give_run (gs ∷ rest) = found_run gs

-- document 02, request 3: the decided regions of a state, with their weights and bounds
unfoldable pub region_figures : Plan → State → Figures
region_figures d s = let v = view_of d s in record { label = v.did; weight = v.dw; lower = v.low; upper = v.up }

-- their page, or 19 "when the page buffer is under 39 bytes a region"
unfoldable pub give_page : Figures → ℕ → ℕ → Answer
give_page t n len = pick (ltb len (39 * num_regions t.label n)) (refused 19) (printed_page (page_text t n))

-- what a query is answered: no world comes out of it. A run is that of the edges not disconnected where these literals
-- stand, a page that of the regions then.
unfoldable pub answer_to : Plan → World → Query → Answer
answer_to d w (reason_for l) = pick (not (knows d l)) (refused 9) (give_reason d w (reason_of l w.reasons))
answer_to d w last_left = reason w.last
answer_to d w (run_between p q) = give_run (best_run (potential d (note_all d w.standing)) d.edges d.vertices p q)
answer_to d w (page len) = give_page (region_figures d (note_all d w.standing)) d.vertices len

-- an answer where the world stays as it is
unfoldable pub tell : World → Answer → Outcome
tell w a = record { answer = a; world = w; table = []; handed = [] }

unfoldable pub on_ask : Plan → World → Bool → Query → Outcome
on_ask d w room q = tell w (pick (not room) (refused 7) (answer_to d w q))

-- initialize on its way
pub record Going : Type 0 where
  pub judgement : Judgement
  pub world : World
  pub table : List ℕ
  pub handed : List ℕ

unfoldable pub join_by : Going → ℕ → Looked → Judgement → Going
join_by a l o fine = record { judgement = fine; world = noting a.world l o; table = o.table; handed = a.handed ++ o.handed }
join_by a l o clash = record { judgement = clash; world = noting a.world l o; table = o.table; handed = a.handed ++ o.handed }
join_by a l o (stopped n) = record { judgement = stopped n; world = a.world; table = a.table; handed = a.handed }

-- one notification more, unless there was a conflict or a refusal
unfoldable pub one_by : Plan → ℕ → Going → Judgement → Going
one_by d l a fine =
    pick (taken a.world l) (record { judgement = stopped 10; world = a.world; table = a.table; handed = a.handed })
    (join_by a l (looked d (l ∷ a.world.standing) a.table) (looked d (l ∷ a.world.standing) a.table).judgement)
one_by d l a clash = a
one_by d l a (stopped n) = a

unfoldable pub propagate_all : Plan → List ℕ → Going → Going
propagate_all d [] a = a
propagate_all d (l ∷ ls) a = propagate_all d ls (one_by d l a a.judgement)

-- the last pass, whose records are kept and not handed on
unfoldable pub last_by : Plan → World → List ℕ → Going → Out → Verdict → Outcome
last_by d w t a o going = record {
  answer = consistent;
  world = record { standing = a.world.standing; reasons = o.props ++ a.world.reasons; last = a.world.last; done = true };
  table = a.table;
  handed = a.handed;
}
last_by d w t a o (conflict c) = record {
  answer = conflicting;
  world = record { standing = a.world.standing; reasons = o.props ++ a.world.reasons; last = conflict_list d (note_all d a.world.standing) c; done = a.world.done };
  table = a.table;
  handed = a.handed;
}
last_by d w t a o zero_size = refuse 13 w t

unfoldable pub finish_by : Plan → World → List ℕ → Going → Judgement → Outcome
finish_by d w t a fine = last_by d w t a (analysis d a.world.standing) (analysis d a.world.standing).verdict
finish_by d w t a clash = record { answer = conflicting; world = a.world; table = a.table; handed = a.handed }
finish_by d w t a (stopped n) = refuse n w t

unfoldable pub entry : World → List ℕ → Going
entry w t = record { judgement = fine; world = w; table = t; handed = [] }

unfoldable pub on_initialize : Plan → World → Bool → List ℕ → Outcome
on_initialize d w room t =
    let a = propagate_all d (entered d t) (entry w t) in
    pick (not room || bad_table d t) (refuse 7 w t) (pick w.done (refuse 8 w t) (finish_by d w t a a.judgement))

unfoldable pub call : Plan → Call → World → Outcome
call d (initialize room t) w = on_initialize d w room t
call d (propagate room t l pending) w = on_propagate d w room t l pending
call d (undo room l) w = on_undo d w room l
call d (ask room q) w = on_ask d w room q

-- the calls in their order
unfoldable pub after : Plan → World → List Call → World
after d w [] = w
after d w (c ∷ cs) = after d (call d c w).world cs

unfoldable pub run : Plan → List Call → World
run d cs = after d built cs
