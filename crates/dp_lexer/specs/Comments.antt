-- Comments, blanks and bad bytes, said of a text and an offset alone: nothing here speaks of tokens.
use Rattle.std.specs.Prelude.{ℕ, ◌+◌, Bool, not, ◌||◌, ◌==◌, List, length, take, Option, map, filter, find}
use Rattle.std.specs.Prelude.{slice_index}
use Rattle.std.specs.List.{list_any, range_with_len}
use Rattle.dp_lexer.specs.Bytes.{hash, is_blank, is_in_alphabet, last_line}

-- The byte at this offset is in a comment: from behind the last line feed up to it, and with it, there is a `#`.
-- So a line feed is in no comment.
abbrev pub is_in_comment : List ℕ → ℕ → Bool
is_in_comment text at = list_any (λ b. b == hash) (last_line (take (at + 1) text))

-- the offsets of the bytes of a text
abbrev pub offsets : List ℕ → List ℕ
offsets text = range_with_len 0 (length text)

-- the byte at this offset is neither a blank nor in a comment
abbrev pub is_kept : List ℕ → ℕ → Bool
is_kept text at = not (is_in_comment text at || is_blank (slice_index text at))

-- the offsets of what is left of a text without blanks and comments
abbrev pub kept_offsets : List ℕ → List ℕ
kept_offsets text = filter (is_kept text) (offsets text)

-- what is left of a text without blanks and comments
abbrev pub without_blanks_and_comments : List ℕ → List ℕ
without_blanks_and_comments text = map (slice_index text) (kept_offsets text)

-- a byte outside comments that is not in the alphabet
abbrev pub is_bad : List ℕ → ℕ → Bool
is_bad text at = not (is_in_comment text at || is_in_alphabet (slice_index text at))

-- the offset of the first bad byte
abbrev pub first_bad : List ℕ → Option ℕ
first_bad text = find (is_bad text) (offsets text)
