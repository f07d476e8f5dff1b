use Rattle.base.specs.Lists.{filled}
use mathlib.Core.Path.{◌≡◌, refl, sym, ap, ap₂, ◌∙◌}
use Prim.Native.Nat.{ℕ, ◌≤◌, ◌<◌, ◌+◌, ◌-◌, ◌*◌, ◌/◌, ◌%◌}
use native.Mathlib.Omega.{arith}
use Rattle.base.specs.Bytes.{word_at, long_at, put_half, put_word, put_long, put_halves, put_words, put_longs}
use Rattle.byte_calls.specs.Layout.{ends_at, ends_in, cursor_in, used_entries, records_in}
use Rattle.byte_calls.proofs.Filling.{capped_min, room_is, cap_most, cap_less, ends_more, put_reason_length}
use Rattle.base.proofs.Bytes.{put_long_length}
use Rattle.noting.specs.Words.{capped}
use lib.ListN.{length, length-set, get_or, set}
use borrow.Author.Rules.{rules}
use Rattle.byte_calls.proofs.decode.read_log.Goals as goal

pub read_longs-requires : goal.read_longs-requires
read_longs-requires c = (omega (arith, cap_most _ _ _ (capped_min _ _ _ c.min-n.ensures), c.room_of.ensures, cap_less (c.room_of.result) (length c.args.log.now / 8) 4352 (c.room_of.ensures ∙ room_is _)), omega (arith, cap_most _ _ _ (capped_min _ _ _ c.min-n.ensures), cap_most (c.room_of.result) (length c.args.log.now / 8) 4352 (c.room_of.ensures ∙ room_is _)))

pub returns : goal.returns
returns c = c.read_longs.ensures ∙ ap (λ (k : ℕ). filled 0 k (λ i. long_at c.args.log.now (8 * i)) c.args.records.now) ((capped_min _ _ _ c.min-n.ensures) ∙ ap (capped c.args.cursor.used) c.room_of.ensures)
