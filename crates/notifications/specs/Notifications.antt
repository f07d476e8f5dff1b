-- Document 01: "`initialize` notifies, in rising order and with nothing pending, the plan's literals true in the table on entry,
-- stops at a conflict, else analyses once more. What its notifications hand on counts as handed on by it, conflict or not; what
-- that last pass records is not handed on."
use Rattle.std.specs.Prelude.{Bool, true, false, ◌&&◌, List, [], ◌∷◌, ℕ, ◌+◌, ◌*◌, ◌/◌, ◌%◌, get_or}
use Rattle.base.specs.Iter.{iter, pick}
use Rattle.plan.specs.Words.{variables_of, unique_lit_at}
use Rattle.noting.specs.Note.{noting, note}
use Rattle.noting.specs.Undo.{records_of}
use Rattle.noting.specs.Standing.{standing, has_variable}
use Rattle.calls.specs.Table.{true_in}
use Rattle.reasons.specs.Words.{put}
use Rattle.sweep.specs.Sweep.{Handed, handing, proposed_at, handed_on}
use Rattle.judge.specs.declared.Judgement.{Judgement}
use Rattle.judge.specs.declared.Judgement.TheVariants.{Fine, Clash, Stopped}
use Rattle.judge.specs.Judge.{Judged, judge_words}
use Rattle.notifications.specs.declared.Progress.{Progress}

-- the literal at place p; a literal has 16 bits
unfoldable pub lit_at : List ℕ → ℕ → ℕ
lit_at ws p = unique_lit_at ws p % 65536

-- the words noted with literal l, tried out with no log
abbrev pub tried_out : List ℕ → ℕ → List ℕ → List ℕ
tried_out ws l noted = (note ws l (noting noted (0 ∷ []) (record { used = 0; standing = 0 }))).noted

-- the reasons recorded by several analyses, marked and two words for each place: the newest stays
unfoldable pub merged_at : List ℕ → ℕ → List ℕ → List ℕ
merged_at proposals p words =
    pick (proposed_at proposals p) (put p (get_or proposals (68 + 2 * p) 0) (get_or proposals (69 + 2 * p) 0) words) words

unfoldable pub merged : List ℕ → List ℕ → List ℕ → List ℕ
merged ws proposals words = iter (merged_at proposals) (2 * variables_of ws) words

abbrev pub progress : Judgement → ℕ → ℕ → ℕ → Progress
progress j handed len past = record { judgement = j; handed = handed; len = len; past = past }

-- how far the notifications have come, and the arrays that they are lent
pub record Way : Type 0 where
  pub progress : Progress
  pub noted : List ℕ
  pub table : List ℕ
  -- the literals handed on
  pub list : List ℕ
  -- what is recorded
  pub words : List ℕ
  -- the proposals of the analysis made last
  pub proposals : List ℕ
  -- the list last left
  pub left : List ℕ

abbrev pub way : Progress → List ℕ → List ℕ → List ℕ → List ℕ → List ℕ → List ℕ → Way
way x noted t list words proposals left = record { progress = x; noted = noted; table = t; list = list; words = words; proposals = proposals; left = left }

abbrev pub is_fine : Judgement → Bool
is_fine Fine = true
is_fine (Clash n) = false
is_fine (Stopped n) = false

-- a refusal; `initialize` takes back all that was done
unfoldable pub stopping : ℕ → Progress → Progress
stopping n x = progress (Stopped n) x.handed x.len x.past

module _ (ws : List ℕ) where
  -- a literal notified with a fine analysis, where h is what is handed on with it; past is the place past the literal
  unfoldable pub fine_by : ℕ → Way → Judged → Handed → Way
  fine_by past w j h = way (progress Fine h.out.place 0 past) w.noted h.table h.out.text (merged ws j.proposals w.words) j.proposals j.left

  -- "A conflict keeps its notification standing", and what it recorded
  unfoldable pub joined_by : ℕ → Way → Judged → Judgement → Way
  joined_by past w j Fine = fine_by past w j (handed_on ws j.proposals (handing w.table w.list w.progress.handed))
  joined_by past w j (Clash n) = way (progress (Clash n) w.progress.handed n past) w.noted w.table w.list (merged ws j.proposals w.words) j.proposals j.left
  joined_by past w j (Stopped n) = way (stopping n w.progress) w.noted w.table w.list w.words j.proposals j.left

-- whether it is the turn of the literal at place p, where t is the table on entry
unfoldable pub is_due : List ℕ → List ℕ → Judgement → ℕ → Bool
is_due ws t j p = is_fine j && true_in t (unique_lit_at ws p)

module _ (ws : List ℕ) (ends : List (List ℕ)) where
  unfoldable pub joined : ℕ → Way → Way
  joined past w = let j = judge_words ws ends w.noted w.table w.proposals w.left in joined_by ws past w j j.judgement

  -- the literal at place p is noted and judged; "initialise tests 10 literal by literal", and no two of these have one variable
  unfoldable pub notified : List ℕ → ℕ → ℕ → Way → Way
  notified log used p w =
      pick (has_variable (lit_at ws p / 2) (standing (records_of log used)))
      (way (stopping 10 w.progress) w.noted w.table w.list w.words w.proposals w.left)
      (joined (p + 1) (way w.progress (tried_out ws (lit_at ws p) w.noted) w.table w.list w.words w.proposals w.left))

  unfoldable pub notified_at : List ℕ → List ℕ → ℕ → ℕ → Way → Way
  notified_at t log used p w = pick (is_due ws t w.progress.judgement p) (notified log used p w) w

  -- in rising order
  unfoldable pub notified_all : List ℕ → List ℕ → ℕ → Way → Way
  notified_all t log used w = iter (notified_at t log used) (2 * variables_of ws) w

-- what the last pass changes
pub record Ending : Type 0 where
  pub progress : Progress
  pub words : List ℕ
  pub proposals : List ℕ
  pub left : List ℕ

abbrev pub ending : Progress → List ℕ → List ℕ → List ℕ → Ending
ending x words proposals left = record { progress = x; words = words; proposals = proposals; left = left }

unfoldable pub once_more_by : List ℕ → Progress → List ℕ → Judged → Judgement → Ending
once_more_by ws x words j Fine = ending x (merged ws j.proposals words) j.proposals j.left
once_more_by ws x words j (Clash n) = ending (progress (Clash n) x.handed n x.past) (merged ws j.proposals words) j.proposals j.left
once_more_by ws x words j (Stopped n) = ending (stopping n x) words j.proposals j.left

module _ (ws : List ℕ) (ends : List (List ℕ)) (noted : List ℕ) where
  -- one analysis, judged with a table in which nothing is set: none of its proposals is false
  unfoldable pub once_more : Progress → List ℕ → List ℕ → List ℕ → Ending
  once_more x words proposals left = let j = judge_words ws ends noted (0 ∷ []) proposals left in once_more_by ws x words j j.judgement

  unfoldable pub last_pass : Progress → List ℕ → List ℕ → List ℕ → Ending
  last_pass x words proposals left = pick (is_fine x.judgement) (once_more x words proposals left) (ending x words proposals left)

-- with what the last pass changed
unfoldable pub ended : Way → Ending → Way
ended w y = way y.progress w.noted w.table w.list y.words y.proposals y.left

-- all notifications, up to a conflict or a refusal, and then the last pass
unfoldable pub gone_through : List ℕ → List (List ℕ) → List ℕ → List ℕ → ℕ → Way → Way
gone_through ws ends t log used w =
    let v = notified_all ws ends t log used w in
    ended v (last_pass ws ends v.noted v.progress v.words v.proposals v.left)
