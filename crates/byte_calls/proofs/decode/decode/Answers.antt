use native.Mathlib.Omega.{arith}
use Rattle.byte_calls.proofs.Filling.{read_words_in}
use Rattle.byte_calls.proofs.Leaving.{records_read, all_decoded, zeros_length}
use borrow.Author.Rules.{rules}
use Rattle.byte_calls.proofs.decode.decode.Goals as goal

pub read_words-requires : goal.read_words-requires
read_words-requires c = let p = c.requires in (omega (arith, p.0), omega (arith, zeros_length 384 p.2))

pub read_log-requires : goal.read_log-requires
read_log-requires c = zeros_length 4352 c.requires.3

pub returns : goal.returns
returns c =
    let p = c.requires in
    let b = c.args.state.now in
    all_decoded b _ _
    (read_words_in b 61220 384 _ _ p.2 c.read_words.ensures)
    (records_read _ p.3 c.read_cursor-before.ensures c.read_log.ensures)
    c.read_cursor-before.ensures
