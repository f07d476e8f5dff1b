-- Numbers in bytes, the lowest byte first.
use Rattle.std.specs.Prelude.{List, ℕ, ◌+◌, ◌*◌, ◌/◌, ◌%◌, get_or, set, replicate}
use Rattle.base.specs.Iter.{iter}
use Rattle.base.specs.Lists.{filled}

-- the number of the 4 bytes from place a on, and of the 8
unfoldable pub word_at : List ℕ → ℕ → ℕ
word_at b a = get_or b a 0 + 256 * get_or b (a + 1) 0 + 65536 * get_or b (a + 2) 0 + 16777216 * get_or b (a + 3) 0

unfoldable pub long_at : List ℕ → ℕ → ℕ
long_at b a = word_at b a + 4294967296 * word_at b (a + 4)

-- the n words from place a on
unfoldable pub words_in : List ℕ → ℕ → ℕ → List ℕ
words_in b a n = filled 0 n (λ i. word_at b (a + 4 * i)) (replicate n 0)

-- x in the 2, the 4 or the 8 bytes from place a on
unfoldable pub put_half : ℕ → ℕ → List ℕ → List ℕ
put_half a x b = set (set b a (x % 256)) (a + 1) (x / 256 % 256)

unfoldable pub put_word : ℕ → ℕ → List ℕ → List ℕ
put_word a x b = set (set (set (set b a (x % 256)) (a + 1) (x / 256 % 256)) (a + 2) (x / 65536 % 256)) (a + 3) (x / 16777216 % 256)

unfoldable pub put_long : ℕ → ℕ → List ℕ → List ℕ
put_long a x b = put_word (a + 4) (x / 4294967296 % 4294967296) (put_word a (x % 4294967296) b)

-- the first n of a list, from the start on
unfoldable pub put_halves : List ℕ → ℕ → List ℕ → List ℕ
put_halves l n b = iter (λ i b. put_half (2 * i) (get_or l i 0) b) n b

-- the first n of a list, from place a on
unfoldable pub put_words : ℕ → List ℕ → ℕ → List ℕ → List ℕ
put_words a l n b = iter (λ i b. put_word (a + 4 * i) (get_or l i 0) b) n b

-- n of a list, those from number `from` on, each in its place
unfoldable pub put_longs : List ℕ → ℕ → ℕ → List ℕ → List ℕ
put_longs l from n b = iter (λ i b. put_long (8 * (from + i)) (get_or l (from + i) 0) b) n b
