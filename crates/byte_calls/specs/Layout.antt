-- What the bytes of a state, of a cursor and of a log stand for: include/zuntjev.h has the layout.
use Rattle.std.specs.Prelude.{Bool, not, List, [], ◌∷◌, ℕ, zero, suc, ◌+◌, ◌*◌, ◌/◌, eqb, ltb, length, get_or, set, take, replicate}
use Rattle.base.specs.Iter.{iter, pick}
use Rattle.base.specs.Lists.{filled}
use Rattle.undo_log.specs.declared.Cursor.{Cursor}
use Rattle.plan.specs.Words.{word}
use Rattle.noting.specs.Words.{capped}
use Rattle.reasons.specs.Reason.{reason_of}
use Rattle.recorded.specs.declared.Recorded.{Recorded}
use Rattle.recorded.specs.declared.Reasons.{Reasons}
use Rattle.recorded.specs.Recorded.{holding}
use Rattle.graph_division.specs.declared.GraphDivision.{GraphDivision}
use Rattle.lent.specs.Lent.{state_of}
use Rattle.base.specs.Bytes.{word_at, long_at, words_in}

-- the plan's words, which a call reads where they are
unfoldable pub plan_in : List ℕ → List ℕ
plan_in b = words_in b 0 15241

unfoldable pub ends_at : List ℕ → ℕ → List ℕ
ends_at b g = get_or b (60964 + 2 * g) 0 ∷ get_or b (60965 + 2 * g) 0 ∷ []

unfoldable pub ends_in : List ℕ → List (List ℕ)
ends_in b = iter (λ g t. set t g (ends_at b g)) 128 (replicate 128 (0 ∷ 0 ∷ []))

-- f 0, f 1, up to f (n - 1)
unfoldable pub tab_of : {A : Type 0} → (ℕ → A) → ℕ → List A
tab_of f zero = []
tab_of f (suc n) = f 0 ∷ tab_of (λ i. f (suc i)) n

-- the reason of the two longs at place p
unfoldable pub reason_in : List ℕ → ℕ → Recorded
reason_in b p = holding (reason_of (long_at b (63808 + 16 * p)) (long_at b (63816 + 16 * p)))

-- a word of the reason at place p, the first of which stands at `at`; 0 past the last place
unfoldable pub reason_word_in : List ℕ → ℕ → ℕ → ℕ
reason_word_in b at p = pick (ltb p 4352) (long_at b (at + 16 * p)) 0

unfoldable pub reasons_in : List ℕ → Reasons
reasons_in b = record { at = tab_of (reason_in b) 4352 }

unfoldable pub state_in : List ℕ → GraphDivision
state_in b = state_of (plan_in b) (ends_in b) (words_in b 61220 384) (reasons_in b) (words_in b 62764 260) (word_at b 62756) (not (eqb (word_at b 62760) 0))

unfoldable pub cursor_in : List ℕ → Cursor
cursor_in b = record { used = word_at b 0; standing = word_at b 4 }

-- how many records of a log are used: a plan has at most 2112 literals, and 4224 records are as many as a log of it holds
unfoldable pub used_entries : ℕ → ℕ
used_entries entries = capped entries 4352

-- the log's records up to the cursor; those past it count as 0
unfoldable pub records_in : Cursor → List ℕ → List ℕ
records_in c log = filled 0 (capped c.used (used_entries (length log / 8))) (λ i. long_at log (8 * i)) (replicate 4352 0)

unfoldable pub log_in : Cursor → List ℕ → List ℕ
log_in c log = take (used_entries (length log / 8)) (records_in c log)

-- what a call decodes of the bytes that it is lent, besides the edges' ends
pub record Decoded : Type 0 where
  pub noted : List ℕ
  pub records : List ℕ
  pub cursor : Cursor

abbrev pub decoded : List ℕ → List ℕ → Cursor → Decoded
decoded noted records cursor = record { noted = noted; records = records; cursor = cursor }

unfoldable pub decoded_in : List ℕ → List ℕ → List ℕ → Decoded
decoded_in state log cursor = decoded (words_in state 61220 384) (records_in (cursor_in cursor) log) (cursor_in cursor)

-- a list of literals, or a reason buffer of at most 260: its entries count as 0 before a call
unfoldable pub list_in : List ℕ → List ℕ
list_in list = take (used_entries (length list / 2)) (replicate 4352 0)

unfoldable pub buffer_in : List ℕ → List ℕ
buffer_in b = take (capped (length b / 2) 260) (replicate 260 0)
