use mathlib.Core.Path.{◌≡◌, refl, sym, ap, ap₂, ◌∙◌}
use Rattle.base.specs.Bytes.{word_at, long_at, put_half, put_word, put_long, put_halves, put_words, put_longs}
use Rattle.byte_calls.specs.Layout.{ends_at, ends_in, cursor_in, used_entries, records_in}
use borrow.Author.Rules.{rules}
use Rattle.byte_calls.proofs.decode.read_cursor.Goals as goal

pub returns : goal.returns
unfolding cursor_in
returns c = λ i. record { used = c.word_at.ensures i; standing = c.word_at-2.ensures i }
