-- What a call writes to the bytes. What it does not write stays.
use Rattle.std.specs.Prelude.{Bool, ◌≡◌, List, [], ℕ, ◌+◌, ◌-◌, ◌*◌, ◌/◌, ◌%◌, length, get_or, set, drop}
use Rattle.base.specs.Iter.{iter, pick}
use Rattle.base.specs.Lists.{filled}
use Rattle.undo_log.specs.declared.Cursor.{Cursor}
use Rattle.plan.specs.Words.{variables_of}
use Rattle.noting.specs.Words.{capped}
use Rattle.sweep.specs.Sweep.{proposed_at}
use Rattle.base.specs.Bytes.{put_word, put_long, put_halves, put_words, put_longs}

-- the state's bytes are as many as before, and those past the layout stay
pub record BytesKept (before after : List ℕ) : Type 0 where
  pub size : length after ≡ length before
  pub past : drop 133440 after ≡ drop 133440 before

-- the two words of place p, where it is proposed
unfoldable pub put_reason : List ℕ → ℕ → List ℕ → List ℕ
put_reason words p b = pick (proposed_at words p) (put_long (63816 + 16 * p) (get_or words (69 + 2 * p) 0) (put_long (63808 + 16 * p) (get_or words (68 + 2 * p) 0) b)) b

unfoldable pub put_reasons : List ℕ → List ℕ → List ℕ → List ℕ
put_reasons ws words b = iter (put_reason words) (capped (2 * variables_of ws) 4352) b

-- the list last left, and its length
unfoldable pub put_last : List ℕ → ℕ → List ℕ → List ℕ
put_last left len b = put_words 62764 left 260 (put_word 62756 (len % 4294967296) b)

unfoldable pub put_noted : List ℕ → List ℕ → List ℕ
put_noted noted b = put_words 61220 noted 384 b

unfoldable pub put_cursor : Cursor → List ℕ → List ℕ
put_cursor c b = put_word 4 (c.standing % 4294967296) (put_word 0 (c.used % 4294967296) b)

-- the first n of a list of literals, as many as it has
unfoldable pub put_list : List ℕ → ℕ → List ℕ → List ℕ
put_list l n b = put_halves l (capped n (length l)) b

-- the log's records from one cursor to the other
unfoldable pub put_log : List ℕ → ℕ → ℕ → List ℕ → List ℕ
put_log l from to b = put_longs l from (capped to (length l) - from) b

-- the two ends of edge g of the table, and those of all
unfoldable pub put_ends : List (List ℕ) → ℕ → List ℕ → List ℕ
put_ends t g b = set (set b (60964 + 2 * g) (get_or (get_or t g []) 0 0)) (60965 + 2 * g) (get_or (get_or t g []) 1 0)

unfoldable pub put_edges : List (List ℕ) → List ℕ → List ℕ
put_edges t b = iter (put_ends t) 128 b

-- no list left, not initialized, and no reasons
unfoldable pub cleared : List ℕ → List ℕ
cleared b = filled 62756 70684 (λ i. 0) b
