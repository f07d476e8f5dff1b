use mathlib.Core.Path.{◌≡◌, refl, sym, ap, ap₂, ◌∙◌}
use Rattle.base.specs.Bytes.{word_at, long_at, put_half, put_word, put_long, put_halves, put_words, put_longs}
use Rattle.byte_calls.specs.Stores.{put_reason, put_reasons, put_last, put_noted, put_cursor, put_list, put_log}
use native.Mathlib.Omega.{arith}
use Rattle.base.proofs.Bytes.{put_word_length}
use lib.ListN.{length}
use Prim.Native.Nat.{ℕ, ◌≤◌, ◌<◌, ◌+◌, ◌-◌, ◌*◌, ◌/◌, ◌%◌}
use borrow.Author.Rules.{rules}
use Rattle.byte_calls.proofs.store.store_cursor.Goals as goal

pub put_word-requires-2 : goal.put_word-requires-2
put_word-requires-2 c = omega (arith, ap length c.put_word.ensures, put_word_length 0 (c.args.cursor.used % 4294967296) c.args.bytes.now)

pub returns : goal.returns
unfolding put_cursor
returns c = c.put_word-2.ensures ∙ ap (put_word _ _) c.put_word.ensures
