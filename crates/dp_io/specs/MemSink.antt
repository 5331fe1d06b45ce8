-- What a sink in memory means.
use Rattle.std.specs.Prelude.{ℕ, ◌-◌, ◌==◌, ◌||◌, nat_lt, false, Bool, List, length, min, if◌then◌else◌, Option, Some}
use Rattle.std.specs.Option.{option_map_or}
use Rattle.dp_io.specs.Sink.{SinkView}

-- a sink in memory as contracts see it
pub record MemSinkView : Type 0 where
  -- the bytes that were appended so far
  pub bytes : List ℕ
  -- how many bytes it has room for, all together
  pub room : ℕ
  -- how many puts there were
  pub puts : ℕ
  -- how many bytes they were of, all together
  pub offered : ℕ
  -- how many of them failed
  pub faults : ℕ
  -- their texts, the first of them first
  pub texts : List (List ℕ)
  -- the number of the put that is to fail, and the most bytes of it that are kept
  pub named : Option (ℕ × ℕ)

-- the next put is the named one
abbrev pub is_named : MemSinkView → Bool
is_named sink = option_map_or (λ call. call.0 == sink.puts) sink.named false

-- the room that is left
abbrev pub room_left : MemSinkView → ℕ
room_left sink = sink.room - length sink.bytes

-- It tells its output: a put fails exactly where it is the named one or does not fit the room that is left.
abbrev pub sink_view : MemSinkView → SinkView
sink_view sink = record {
  puts = sink.puts;
  offered = sink.offered;
  faults = sink.faults;
  texts = sink.texts;
  told = Some (record { bytes = sink.bytes; fails = λ count. is_named sink || nat_lt (room_left sink) count });
}

-- How many of so many bytes the next put appends: as many as fit, and of the named one no more than are kept.
abbrev pub kept_of : MemSinkView → ℕ → ℕ
kept_of sink count =
    min (min count (room_left sink)) (if is_named sink then option_map_or
    (λ call. call.1) sink.named count else count)
