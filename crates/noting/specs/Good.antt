-- What refusal 7 asks of log, cursor and noted words, as one record.
use Rattle.std.specs.Prelude.{◌≡◌, false, List, ℕ, length}
use Rattle.noting.specs.Note.{Noting}
use Rattle.noting.specs.Replay.{log_bad}
use Rattle.noting.specs.Buffers.{log_short}

-- what a call is lent passes refusal 7: log, cursor and noted words, and the log's length
pub record GoodLog (ws : List ℕ) (x : Noting) : Type 0 where
  pub words : length x.noted ≡ 384
  pub passes : log_bad ws x.noted x.log x.cursor ≡ false
  pub long : log_short ws (length x.log) ≡ false
