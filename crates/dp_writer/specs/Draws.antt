-- What is drawn by the words of a generator: rows of chances, and rewards. (Own.)
use Rattle.std.specs.Prelude.{ℕ, zero, suc, ℤ, pos, ◌-ℤ◌, ◌+◌, ◌-◌, ◌*◌, ◌/◌, ◌%◌, ◌==◌, if◌then◌else◌, List, map}
use Rattle.std.specs.List.{range_with_len}
use Rattle.rand_core.specs.Steps.{steps_u64_low, stream_of}
use Rattle.rand_core.specs.Stream.{Stream, next_u64}
use Rattle.rand_pcg.specs.Lcg.{increment_of, started}
use Rattle.rand_pcg.specs.Pcg.{multiplier_128, pcg64}

-- ---- words

-- the words of a seed: those of the generator PCG XSL RR 128/64 from that state, in its stream 0 (O'Neill 2014)
abbrev pub seed_stream : ℕ → Stream
seed_stream seed = stream_of (steps_u64_low pcg64) (started 128 multiplier_128 seed (increment_of 128 0))

-- what is left of a stream after so many words of 64 bits
abbrev pub left_after : ℕ → Stream → Stream
left_after zero stream = stream
left_after (suc k) stream = (next_u64 (left_after k stream)).1

-- its word at a place, counted from 0
abbrev pub word_at : Stream → ℕ → ℕ
word_at stream k = (next_u64 (left_after k stream)).0

-- ---- a row of n chances over 100, drawn by three words

-- how much the third word z gives to the place that the first word draws; the rest is added at that of the second
abbrev pub share_drawn : ℕ → ℕ
share_drawn z = 1 + z % 99

-- the chance at place i
abbrev pub chance_drawn : ℕ → ℕ → ℕ → ℕ → ℕ → ℕ
chance_drawn n x y z i =
    (if i == x % n then share_drawn z else 0) + (if i == y % n then 100 - share_drawn z else 0)

-- the chance at place i of row r, where each row takes the next three words of a stream
unfoldable pub row_drawn : Stream → ℕ → ℕ → ℕ → ℕ
row_drawn stream n r i =
    chance_drawn n (word_at stream (3 * r)) (word_at stream (3 * r + 1)) (word_at stream (3 * r + 2)) i

-- so many rows of n chances, one after the other
unfoldable pub chances_drawn : Stream → ℕ → ℕ → List ℕ
chances_drawn stream rows n = map (λ j. row_drawn stream n (j / n) (j % n)) (range_with_len 0 (rows * n))

-- ---- rewards from -100 to 100, each drawn by one word

abbrev pub reward_drawn : ℕ → ℤ
reward_drawn x = pos (x % 201) -ℤ pos 100

-- so many rewards, each n times, one after the other
unfoldable pub rewards_drawn : Stream → ℕ → ℕ → List ℤ
rewards_drawn stream rows n = map (λ j. reward_drawn (word_at stream (j / n))) (range_with_len 0 (rows * n))
