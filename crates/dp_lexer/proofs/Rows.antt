-- Worked rows of the definitions, computed.
use Rattle.std.proofs.Common.{◌≡◌, ℕ, [], ◌∷◌, Some, None, Ok, Err, refl}
use Rattle.std.specs.Prelude.{codes}
use Rattle.dp_base.specs.DecimalShape.{is_decimal}
use Rattle.dp_lexer.specs.declared.Kind.{Kind}
use Rattle.dp_lexer.specs.declared.Kind.TheVariants.{Word, Number, Colon, Star, LineEnd}
use Rattle.dp_lexer.specs.declared.Token.{Token}
use Rattle.dp_lexer.specs.Bytes.{line_at, column_at}
use Rattle.dp_lexer.specs.Comments.{kept_offsets, without_blanks_and_comments, first_bad}
use Rattle.dp_lexer.specs.Tokens.{tokens_of, tokens_from}

-- a token by its start, end, line and kind
abbrev token : ℕ → ℕ → ℕ → Kind → Token
token start end line kind = record { start = start; end = end; line = line; kind = kind }

-- a comment is left out, and its line end is not
commented : tokens_of (codes "T: a # x\n")
    ≡ Ok (token 0 1 1 Word ∷ token 1 2 1 Colon ∷ token 3 4 1 Word ∷ token 8 9 1 LineEnd ∷ [])
unfolding tokens_of tokens_from is_decimal
commented = refl

-- a carriage return ends neither a comment nor a line, and ends a run
returns : tokens_of (codes "#a\rb\n1\r2:\n*") ≡ Ok
    (token 4 5 1 LineEnd ∷ token 5 6 2 Number ∷ token 7 8 2 Number ∷ token 8 9 2 Colon ∷ token 9 10 2 LineEnd
    ∷ token 10 11 3 Star ∷ [])
unfolding tokens_of tokens_from is_decimal
returns = refl

-- runs go on at points and signs, and a sign or a point alone is a word
runs : tokens_of (codes "a.b-1 -.5e+2 + . 1-1") ≡ Ok
    (token 0 5 1 Word ∷ token 6 12 1 Number ∷ token 13 14 1 Word ∷ token 15 16 1 Word ∷ token 17 20 1 Word ∷ [])
unfolding tokens_of tokens_from is_decimal
runs = refl

-- the first bad byte, and not one of a comment
bad : tokens_of (codes "#,\na,b;") ≡ Err 4
unfolding tokens_of tokens_from is_decimal
bad = refl

bad_of_text : first_bad (codes "#,\na,b;") ≡ Some 4
bad_of_text = refl

none_bad : first_bad (codes "#,\ra,b;\n") ≡ None
none_bad = refl

bad_line : line_at (codes "#,\na,b;") 4 ≡ 2
bad_line = refl

bad_column : column_at (codes "#,\na,b;") 4 ≡ 2
bad_column = refl

first_column : column_at (codes ",") 0 ≡ 1
first_column = refl

-- a line feed stands on the line that it ends
feed_line : line_at (codes "a\n\n") 2 ≡ 2
feed_line = refl

left : without_blanks_and_comments (codes "T: a\r# x#\n\t*\n") ≡ codes "T:a\n*\n"
left = refl

left_offsets : kept_offsets (codes "T: a\r# x#\n\t*\n") ≡ 0 ∷ 1 ∷ 3 ∷ 9 ∷ 11 ∷ 12 ∷ []
left_offsets = refl
