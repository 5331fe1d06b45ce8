-- The words of 64 bits that a generator gives.
use Rattle.std.specs.Prelude.{ℕ, zero, suc, List, [], ◌∷◌}
use Rattle.rand_core.specs.Stream.{Stream, next_u64}

-- the next n words of a stream
abbrev pub words_of : ℕ → Stream → List ℕ
words_of zero stream = []
words_of (suc n) stream = (next_u64 stream).0 ∷ words_of n (next_u64 stream).1

-- what is left of the stream after them
abbrev pub left_after : ℕ → Stream → Stream
left_after zero stream = stream
left_after (suc n) stream = left_after n (next_u64 stream).1
