-- The bytes of a model file, and where one stands.
use Rattle.std.specs.Prelude.{ℕ, ◌+◌, Bool, not, ◌||◌, ◌==◌, List, length, take, count_by}
use Rattle.std.specs.List.{after_last}
use Rattle.dp_base.specs.Bytes.{is_name_byte}

-- a tab, a blank
abbrev pub tab : ℕ
tab = 9

-- a line feed, which ends a line
abbrev pub line_feed : ℕ
line_feed = 10

-- a carriage return, a blank
abbrev pub carriage_return : ℕ
carriage_return = 13

-- a space, a blank
abbrev pub space : ℕ
space = 32

-- `#`, which begins a comment
abbrev pub hash : ℕ
hash = 35

-- `*`, which stands for all items of a list
abbrev pub star : ℕ
star = 42

-- `:`, which stands behind the first token of an item and behind each field of a statement
abbrev pub colon : ℕ
colon = 58

-- a blank: space, tab or carriage return
abbrev pub is_blank : ℕ → Bool
is_blank b = (b == space || b == tab) || b == carriage_return

-- whether a byte is a line feed
abbrev pub is_line_feed : ℕ → Bool
is_line_feed b = b == line_feed

-- whether a byte is no line feed
abbrev pub is_no_line_feed : ℕ → Bool
is_no_line_feed b = not (is_line_feed b)

-- the bytes that may stand outside comments
abbrev pub is_in_alphabet : ℕ → Bool
is_in_alphabet b =
    ((((is_name_byte b || is_blank b) || is_line_feed b) || b == hash) || b == colon) || b == star

-- what stands of a text after its last line feed
abbrev pub last_line : List ℕ → List ℕ
last_line text = after_last is_line_feed text

-- the line of the byte at an offset, from 1 on
abbrev pub line_at : List ℕ → ℕ → ℕ
line_at text at = 1 + count_by is_line_feed (take at text)

-- the column of the byte at an offset, in bytes of its line, from 1 on
abbrev pub column_at : List ℕ → ℕ → ℕ
column_at text at = 1 + length (last_line (take at text))
