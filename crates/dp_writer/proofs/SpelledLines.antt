-- Lines of words, and the symbols with which their text is read.
use Rattle.std.proofs.Common.{◌≡◌, ℕ, zero, suc, ◌+◌, ◌<◌, Bool, true, false, cond, List, [], ◌∷◌, ◌++◌, length, map}
use Rattle.std.proofs.Common.{refl, sym, ap, ◌∙◌, arith, append_assoc, subst}
use Rattle.std.specs.List.{flat_map, range_with_len}
use Rattle.std.proofs.lemmas.List.{length-append}
use Rattle.dp_base.specs.DecimalShape.{is_decimal}
use Rattle.dp_lexer.specs.declared.Kind.{Kind}
use Rattle.dp_lexer.specs.declared.Kind.TheVariants.{Word, Number, LineEnd}
use Rattle.dp_meaning.proofs.Each.{Each, each_append}
use Rattle.dp_writer.specs.WrittenLines.{Words, line_text, lines_text, words_text}
use Rattle.dp_writer.proofs.WordTexts.{words_behind}
use Rattle.dp_writer.proofs.Symbols.{Symbol, run_symbol, colon_symbol, star_symbol, line_end_symbol, ReadsAs, Ends}
use Rattle.dp_writer.proofs.Symbols.{IsRun}
use Rattle.dp_writer.proofs.Symbols.{same_read, nothing_read}
use Rattle.dp_writer.proofs.Symbols.{space_read, line_end_read, colon_read, star_read, run_read}

-- ---- words

-- whether a token is a line end
abbrev pub is_line_end : Kind → Bool
is_line_end LineEnd = true
is_line_end _ = false

-- a symbol that stands within a line
abbrev pub IsWithinLine : Symbol → Type 0
IsWithinLine symbol = is_line_end symbol.kind ≡ false

-- a word is read as these symbols where no byte of a name follows
pub record IsSpelled (word : List ℕ) (symbols : List Symbol) : Type 0 where
  pub some : 0 < length symbols
  pub within : Each IsWithinLine symbols
  pub reads : (rest : List ℕ) (more : List Symbol) → Ends rest → ReadsAs rest more
      → ReadsAs (word ++ rest) (symbols ++ more)

run_within : (word : List ℕ) → IsWithinLine (run_symbol word)
run_within word = by (is_decimal word)
  where
    by : (b : Bool) → is_line_end (cond b Number Word) ≡ false
    by true = refl
    by false = refl

-- a name or a number
pub run_spelled : (word : List ℕ) → IsRun word → IsSpelled word (run_symbol word ∷ [])
run_spelled word run = record {
  some = omega arith;
  within = (run_within word, tt);
  reads = λ rest more ends behind. run_read word rest more run ends behind;
}

-- a name or a number with a Colon
pub labelled_spelled : (word : List ℕ) → IsRun word
    → IsSpelled (word ++ 58 ∷ []) (run_symbol word ∷ colon_symbol ∷ [])
labelled_spelled word run = record {
  some = omega arith;
  within = (run_within word, (refl, tt));
  reads = λ rest more ends behind. same_read (sym (append_assoc word (58 ∷ []) rest)) refl
      (run_read word (58 ∷ rest) (colon_symbol ∷ more) run refl (colon_read rest more behind));
}

-- the marks
pub colon_spelled : IsSpelled (58 ∷ []) (colon_symbol ∷ [])
colon_spelled = record {
  some = omega arith;
  within = (refl, tt);
  reads = λ rest more ends behind. colon_read rest more behind;
}

pub star_spelled : IsSpelled (42 ∷ []) (star_symbol ∷ [])
star_spelled = record {
  some = omega arith;
  within = (refl, tt);
  reads = λ rest more ends behind. star_read rest more behind;
}

-- ---- words behind a word

-- words with a space before each are read as these symbols
pub record AreSpelled (words : Words) (symbols : List Symbol) : Type 0 where
  pub within : Each IsWithinLine symbols
  pub reads : (rest : List ℕ) (more : List Symbol) → Ends rest → ReadsAs rest more
      → ReadsAs (words_text false words ++ rest) (symbols ++ more)

words_end : (words : Words) (rest : List ℕ) → Ends rest → Ends (words_text false words ++ rest)
words_end [] rest ends = ends
words_end (word ∷ words) rest ends = refl

pub none_spelled : AreSpelled [] []
none_spelled = record { within = tt; reads = λ rest more ends behind. behind }

-- one word more in front
pub word_spelled : (word : List ℕ) (words : Words) (here others : List Symbol) → IsSpelled word here
    → AreSpelled words others → AreSpelled (word ∷ words) (here ++ others)
word_spelled word words here others is are = record {
  within = each_append IsWithinLine here others is.within are.within;
  reads = λ rest more ends behind.
      same_read (ap (λ l. 32 ∷ l) (sym (append_assoc word (words_text false words) rest)))
      (sym (append_assoc here others more))
      (space_read _ _ (is.reads (words_text false words ++ rest) (others ++ more) (words_end words rest ends)
      (are.reads rest more ends behind)));
}

-- words behind words
pub words_spelled : (words others : Words) (here more : List Symbol) → AreSpelled words here → AreSpelled others more
    → AreSpelled (words ++ others) (here ++ more)
words_spelled words others here more is are = record {
  within = each_append IsWithinLine here more is.within are.within;
  reads = λ rest behind ends read.
      same_read (sym (append_assoc (words_text false words) (words_text false others) rest)
      ∙ ap (λ l. l ++ rest) (sym (words_behind words others)))
      (sym (append_assoc here more behind))
      (is.reads (words_text false others ++ rest) (more ++ behind) (words_end others rest ends)
      (are.reads rest behind ends read));
}

-- each word is a name or a number
pub runs_spelled : (words : Words) → Each IsRun words → AreSpelled words (map run_symbol words)
runs_spelled [] are = none_spelled
runs_spelled (word ∷ words) are =
    word_spelled word words (run_symbol word ∷ []) (map run_symbol words) (run_spelled word are.0)
    (runs_spelled words are.1)

-- ---- lines

-- a line that is not empty is read as these symbols
pub record IsLineOf (words : Words) (symbols : List Symbol) : Type 0 where
  pub some : 0 < length symbols
  pub within : Each IsWithinLine symbols
  pub reads : (rest : List ℕ) (more : List Symbol) → ReadsAs rest more
      → ReadsAs (line_text words ++ rest) (symbols ++ line_end_symbol ∷ more)

-- a line by its first word and its others
pub line_spelled : (word : List ℕ) (words : Words) (here others : List Symbol) → IsSpelled word here
    → AreSpelled words others → IsLineOf (word ∷ words) (here ++ others)
line_spelled word words here others is are = record {
  some = omega (arith, is.some, length-append here others);
  within = each_append IsWithinLine here others is.within are.within;
  reads = λ rest more behind.
      same_read (sym (ap (λ l. l ++ rest) (append_assoc word (words_text false words) (10 ∷ []))
      ∙ append_assoc word (words_text false words ++ 10 ∷ []) rest
      ∙ ap (λ l. word ++ l) (append_assoc (words_text false words) (10 ∷ []) rest)))
      (sym (append_assoc here others (line_end_symbol ∷ more)))
      (is.reads (words_text false words ++ 10 ∷ rest) (others ++ line_end_symbol ∷ more)
      (words_end words (10 ∷ rest) refl)
      (are.reads (10 ∷ rest) (line_end_symbol ∷ more) refl (line_end_read rest more behind)));
}

-- the same line
pub same_line : {words : Words} {symbols others : List Symbol} → symbols ≡ others → IsLineOf words symbols
    → IsLineOf words others
same_line {words = words} e is = subst (IsLineOf words) e is

-- a line of names and numbers
pub runs_line : (words : Words) → 0 < length words → Each IsRun words → IsLineOf words (map run_symbol words)
runs_line [] some are = absurd (omega (arith, some))
runs_line (word ∷ words) some are =
    line_spelled word words (run_symbol word ∷ []) (map run_symbol words) (run_spelled word are.0)
    (runs_spelled words are.1)

-- one word with a Colon, and names and numbers behind it
pub labelled_line : (word : List ℕ) (words : Words) → IsRun word → Each IsRun words
    → IsLineOf ((word ++ 58 ∷ []) ∷ words) (run_symbol word ∷ colon_symbol ∷ map run_symbol words)
labelled_line word words is are =
    line_spelled (word ++ 58 ∷ []) words (run_symbol word ∷ colon_symbol ∷ []) (map run_symbol words)
    (labelled_spelled word is) (runs_spelled words are)

-- ---- lines behind lines

-- the symbols of lines
abbrev pub ended : List (List Symbol) → List Symbol
ended lines = flat_map (λ line. line ++ line_end_symbol ∷ []) lines

-- each of the lines is read as its symbols
abbrev pub AreLinesOf : List Words → List (List Symbol) → Type 0
AreLinesOf [] [] = Unit {0}
AreLinesOf [] (line ∷ lines) = ⊥
AreLinesOf (words ∷ lines) [] = ⊥
AreLinesOf (words ∷ lines) (symbols ∷ others) = IsLineOf words symbols × AreLinesOf lines others

-- lines behind lines
pub lines_append : (lines more : List Words) (symbols others : List (List Symbol)) → AreLinesOf lines symbols
    → AreLinesOf more others → AreLinesOf (lines ++ more) (symbols ++ others)
lines_append [] more [] others a b = b
lines_append [] more (line ∷ symbols) others a b = absurd a
lines_append (words ∷ lines) more [] others a b = absurd a
lines_append (words ∷ lines) more (line ∷ symbols) others a b = (a.0, lines_append lines more symbols others a.1 b)

-- lines for each number from one on
pub lines_from : (lines : ℕ → List Words) (symbols : ℕ → List (List Symbol)) (a n : ℕ)
    → ((k : ℕ) → k < a + n → AreLinesOf (lines k) (symbols k))
    → AreLinesOf (flat_map lines (range_with_len a n)) (flat_map symbols (range_with_len a n))
lines_from lines symbols a zero each = tt
lines_from lines symbols a (suc n) each =
    lines_append (lines a) (flat_map lines (range_with_len (a + 1) n)) (symbols a)
    (flat_map symbols (range_with_len (a + 1) n))
    (each a (omega arith)) (lines_from lines symbols (a + 1) n (λ k below. each k (omega (arith, below))))

-- one line for each number from one on
pub each_line_from : (words : ℕ → Words) (symbols : ℕ → List Symbol) (a n : ℕ)
    → ((k : ℕ) → k < a + n → IsLineOf (words k) (symbols k))
    → AreLinesOf (map words (range_with_len a n)) (map symbols (range_with_len a n))
each_line_from words symbols a zero each = tt
each_line_from words symbols a (suc n) each =
    (each a (omega arith), each_line_from words symbols (a + 1) n (λ k below. each k (omega (arith, below))))

-- a line within a text
pub record IsTextLine (symbols : List Symbol) : Type 0 where
  pub some : 0 < length symbols
  pub within : Each IsWithinLine symbols

-- what is known of the symbols of lines
pub text_lines : (lines : List Words) (symbols : List (List Symbol)) → AreLinesOf lines symbols
    → Each IsTextLine symbols
text_lines [] [] are = tt
text_lines [] (line ∷ symbols) are = absurd are
text_lines (words ∷ lines) [] are = absurd are
text_lines (words ∷ lines) (line ∷ symbols) are =
    (record { some = are.0.some; within = are.0.within }, text_lines lines symbols are.1)

-- a text of lines is read as their symbols
pub lines_read : (lines : List Words) (symbols : List (List Symbol)) → AreLinesOf lines symbols
    → ReadsAs (lines_text lines) (ended symbols)
lines_read [] [] are = nothing_read
lines_read [] (line ∷ symbols) are = absurd are
lines_read (words ∷ lines) [] are = absurd are
lines_read (words ∷ lines) (line ∷ symbols) are =
    same_read refl (sym (append_assoc line (line_end_symbol ∷ []) (ended symbols)))
    (are.0.reads (lines_text lines) (ended symbols) (lines_read lines symbols are.1))
