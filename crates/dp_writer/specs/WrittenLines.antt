-- Lines of words. (Own.)
use Rattle.std.specs.Prelude.{ℕ, zero, suc, Bool, true, false, List, [], ◌∷◌, ◌++◌}
use Rattle.std.specs.List.{flat_map}

-- a line by its words
abbrev pub Words : Type 0
Words = List (List ℕ)

-- what stands before the word at a place: a space, but none before the first of a line
abbrev pub space_before : Bool → ℕ → List ℕ
space_before true zero = []
space_before true (suc place) = 32 ∷ []
space_before false place = 32 ∷ []

-- words with a space before each, but for the first of a line
abbrev pub words_text : Bool → Words → List ℕ
words_text first [] = []
words_text true (word ∷ words) = word ++ words_text false words
words_text false (word ∷ words) = 32 ∷ (word ++ words_text false words)

-- a line: its words divided by one space, and a line feed
abbrev pub line_text : Words → List ℕ
line_text words = words_text true words ++ 10 ∷ []

-- lines one after the other
abbrev pub lines_text : List Words → List ℕ
lines_text lines = flat_map line_text lines
