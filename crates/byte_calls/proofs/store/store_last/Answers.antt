use mathlib.Core.Path.{◌≡◌, refl, sym, ap, ap₂, ◌∙◌}
use Rattle.base.specs.Bytes.{word_at, long_at, put_half, put_word, put_long, put_halves, put_words, put_longs}
use Rattle.byte_calls.specs.Stores.{put_reason, put_reasons, put_last, put_noted, put_cursor, put_list, put_log}
use native.Mathlib.Omega.{arith}
use Rattle.base.proofs.Bytes.{put_word_length}
use lib.ListN.{length}
use Prim.Native.Nat.{ℕ, ◌≤◌, ◌<◌, ◌+◌, ◌-◌, ◌*◌, ◌/◌, ◌%◌}
use borrow.Author.Rules.{rules}
use Rattle.byte_calls.proofs.store.store_last.Goals as goal

pub write_words-requires : goal.write_words-requires
write_words-requires c = (omega (arith, ap length c.put_word.ensures, put_word_length 62756 (c.args.len % 4294967296) c.args.state.now), omega arith)

pub returns : goal.returns
unfolding put_last
returns c = c.write_words.ensures ∙ ap (put_words _ _ _) c.put_word.ensures
