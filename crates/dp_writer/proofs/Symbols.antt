-- The tokens of a text that is written word by word, each by its kind and its bytes, without its place.
use Rattle.std.proofs.Common.{◌≡◌, ℕ, suc, ◌+◌, ◌-◌, ◌<◌, true, false, List, [], ◌∷◌, ◌++◌, length, get_or}
use Rattle.std.proofs.Common.{map, take, drop, Option, Some, None, Ok, refl, sym, ap, ◌∙◌, arith, subst}
use Rattle.std.specs.Prelude.{slice_range, if◌then◌else◌}
use Rattle.std.specs.List.{list_all, prefix_len}
use Rattle.std.proofs.lemmas.Bool.{and_parts}
use Rattle.std.proofs.lemmas.List.{drop-drop, length-drop}
use Rattle.std.proofs.Math.Seq.{drop-append_seam, take-append_seam}
use Rattle.dp_base.specs.Bytes.{is_name_byte}
use Rattle.dp_base.specs.DecimalShape.{first, is_decimal}
use Rattle.dp_lexer.specs.declared.Kind.{Kind}
use Rattle.dp_lexer.specs.declared.Kind.TheVariants.{Word, Number, Colon, Star, LineEnd}
use Rattle.dp_lexer.specs.declared.Token.{Token}
use Rattle.dp_lexer.specs.Bytes.{line_at}
use Rattle.dp_lexer.specs.Tokens.{class_of, with_token, tokens_from}
use Rattle.dp_lexer.proofs.Lexeme.{tokens_at, cut, moves}
use Rattle.dp_meaning.specs.Items.{Piece, piece_of}

-- ---- symbols

-- a token by its kind and its bytes
pub record Symbol : Type 0 where
  pub kind : Kind
  pub text : List ℕ

-- a piece without its place
abbrev pub symbol_of : Piece → Symbol
symbol_of piece = record { kind = piece.kind; text = piece.text }

-- the symbol of a word or a number
abbrev pub run_symbol : List ℕ → Symbol
run_symbol text = record { kind = if is_decimal text then Number else Word; text = text }

-- the symbols of the marks
abbrev pub colon_symbol : Symbol
colon_symbol = record { kind = Colon; text = 58 ∷ [] }

abbrev pub star_symbol : Symbol
star_symbol = record { kind = Star; text = 42 ∷ [] }

abbrev pub line_end_symbol : Symbol
line_end_symbol = record { kind = LineEnd; text = 10 ∷ [] }

-- one more symbol in front, where there is one
abbrev with_symbol : Option Kind → List ℕ → List Symbol → List Symbol
with_symbol None text symbols = symbols
with_symbol (Some kind) text symbols = record { kind = kind; text = text } ∷ symbols

-- ---- the symbols of a text

-- the tokens of a text from an offset on have these symbols
pub record HasSymbols (bytes : List ℕ) (at : ℕ) (symbols : List Symbol) : Type 0 where
  pub tokens : List Token
  pub lexed : tokens_at bytes at ≡ Ok tokens
  pub symbols_are : map symbol_of (map (piece_of bytes) tokens) ≡ symbols

-- wherever this stands at the end of a text, its tokens have these symbols
pub record ReadsAs (rest : List ℕ) (symbols : List Symbol) : Type 0 where
  pub reads : (bytes : List ℕ) (at : ℕ) → drop at bytes ≡ rest → HasSymbols bytes at symbols

-- the same text is read as the same symbols
pub same_read : {text other : List ℕ} {symbols others : List Symbol} → text ≡ other → symbols ≡ others
    → ReadsAs text symbols → ReadsAs other others
same_read {other = other} {symbols = symbols} e f read =
    subst (ReadsAs other) f (subst (λ l. ReadsAs l symbols) e read)

-- nothing is left
pub nothing_read : ReadsAs [] []
unfolding tokens_from
nothing_read = record {
  reads = λ bytes at e. record { tokens = []; lexed = ap (tokens_from bytes 0 at) e; symbols_are = refl };
}

extended : (bytes : List ℕ) (at n : ℕ) (kind : Option Kind) (text : List ℕ) (symbols : List Symbol)
    → tokens_at bytes at ≡ with_token bytes at n kind (tokens_at bytes (at + n))
    → slice_range bytes at (at + n) ≡ text → HasSymbols bytes (at + n) symbols
    → HasSymbols bytes at (with_symbol kind text symbols)
extended bytes at n None text symbols moved is more = record {
  tokens = more.tokens;
  lexed = moved ∙ ap (with_token bytes at n None) more.lexed;
  symbols_are = more.symbols_are;
}
extended bytes at n (Some kind) text symbols moved is more = record {
  tokens = record { start = at; end = at + n; line = line_at bytes at; kind = kind } ∷ more.tokens;
  lexed = moved ∙ ap (with_token bytes at n (Some kind)) more.lexed;
  symbols_are = λ i. record { kind = kind; text = is i } ∷ more.symbols_are i;
}

-- a lexeme stands in front
lexeme : (b : ℕ) (more rest : List ℕ) (kind : Option Kind) (symbols : List Symbol)
    → ((bytes : List ℕ) (at : ℕ) → at < length bytes → get_or bytes at 0 ≡ b → drop at bytes ≡ b ∷ (more ++ rest)
    → drop (at + 1) bytes ≡ more ++ rest
    → tokens_at bytes at ≡ with_token bytes at (suc (length more)) kind (tokens_at bytes (at + suc (length more))))
    → ReadsAs rest symbols → ReadsAs (b ∷ (more ++ rest)) (with_symbol kind (b ∷ more) symbols)
lexeme b more rest kind symbols moved behind = record { reads = read }
  where
    read : (bytes : List ℕ) (at : ℕ) → drop at bytes ≡ b ∷ (more ++ rest)
        → HasSymbols bytes at (with_symbol kind (b ∷ more) symbols)
    read bytes at e =
        let inside : at < length bytes = omega (arith, length-drop at bytes, ap length e) in
        let cut_at = cut bytes at inside in
        let byte_is : get_or bytes at 0 ≡ b = cc in
        let others : drop (at + 1) bytes ≡ more ++ rest = cc in
        let text : take (suc (length more)) (drop at bytes) ≡ b ∷ more
        = ap (take (suc (length more))) e ∙ ap (λ l. b ∷ l) (take-append_seam more rest) in
        let width : at + suc (length more) - at ≡ suc (length more) = omega arith in
        let left : drop (at + suc (length more)) bytes ≡ rest
        = sym (drop-drop (suc (length more)) at bytes) ∙ ap (drop (suc (length more))) e
        ∙ drop-append_seam more rest in
        extended bytes at (suc (length more)) kind (b ∷ more) symbols (moved bytes at inside byte_is e others)
        (ap (λ n. take n (drop at bytes)) width ∙ text) (behind.reads bytes (at + suc (length more)) left)

-- a space, which is no symbol
pub space_read : (rest : List ℕ) (symbols : List Symbol) → ReadsAs rest symbols → ReadsAs (32 ∷ rest) symbols
space_read rest symbols more = lexeme 32 [] rest None symbols
    (λ bytes at inside byte_is here others. moves bytes at inside (class_of 32) (ap class_of (sym byte_is)) (λ e. cc))
    more

-- a line feed
pub line_end_read : (rest : List ℕ) (symbols : List Symbol) → ReadsAs rest symbols
    → ReadsAs (10 ∷ rest) (line_end_symbol ∷ symbols)
line_end_read rest symbols more = lexeme 10 [] rest (Some LineEnd) symbols
    (λ bytes at inside byte_is here others. moves bytes at inside (class_of 10) (ap class_of (sym byte_is)) (λ e. cc))
    more

-- the marks
pub colon_read : (rest : List ℕ) (symbols : List Symbol) → ReadsAs rest symbols
    → ReadsAs (58 ∷ rest) (colon_symbol ∷ symbols)
colon_read rest symbols more = lexeme 58 [] rest (Some Colon) symbols
    (λ bytes at inside byte_is here others. moves bytes at inside (class_of 58) (ap class_of (sym byte_is)) (λ e. cc))
    more

pub star_read : (rest : List ℕ) (symbols : List Symbol) → ReadsAs rest symbols
    → ReadsAs (42 ∷ rest) (star_symbol ∷ symbols)
star_read rest symbols more = lexeme 42 [] rest (Some Star) symbols
    (λ bytes at inside byte_is here others. moves bytes at inside (class_of 42) (ap class_of (sym byte_is)) (λ e. cc))
    more

-- ---- runs

-- a word or a number
pub record IsRun (text : List ℕ) : Type 0 where
  pub some : 0 < length text
  pub named : list_all is_name_byte text ≡ true

-- no byte of a name stands first
abbrev pub Ends : List ℕ → Type 0
Ends rest = is_name_byte (first rest) ≡ false

run_length : (text rest : List ℕ) → list_all is_name_byte text ≡ true → Ends rest
    → prefix_len is_name_byte (text ++ rest) ≡ length text
run_length [] [] named ends = refl
run_length [] (b ∷ rest) named ends = rw ends refl
run_length (b ∷ text) rest named ends =
    let parts = and_parts (is_name_byte b) (list_all is_name_byte text) named in
    let more = run_length text rest parts.1 ends in
    rw parts.0 (omega (arith, more))

run_moves : (b : ℕ) (text rest : List ℕ) (bytes : List ℕ) (at : ℕ) → is_name_byte b ≡ true
    → prefix_len is_name_byte (text ++ rest) ≡ length text → at < length bytes → get_or bytes at 0 ≡ b
    → drop at bytes ≡ b ∷ (text ++ rest) → drop (at + 1) bytes ≡ text ++ rest
    → tokens_at bytes at ≡ with_token bytes at (suc (length text)) (Some (run_symbol (b ∷ text)).kind)
    (tokens_at bytes (at + suc (length text)))
run_moves b text rest bytes at named size inside byte_is here others =
    let moved =
    rw named at (moves bytes at inside (class_of b) (ap class_of (sym byte_is)) (λ e. cc (rw named at e))) in
    let len : suc (prefix_len is_name_byte (drop (at + 1) bytes)) ≡ suc (length text)
    = ap (λ l. suc (prefix_len is_name_byte l)) others ∙ ap (λ n. suc n) size in
    let word : take (suc (length text)) (drop at bytes) ≡ b ∷ text
    = ap (take (suc (length text))) here ∙ ap (λ l. b ∷ l) (take-append_seam text rest) in
    moved
    ∙ ap (λ n. with_token bytes at n (Some (run_symbol (take n (drop at bytes))).kind) (tokens_at bytes (at + n))) len
    ∙ ap (λ l. with_token bytes at (suc (length text)) (Some (run_symbol l).kind)
    (tokens_at bytes (at + suc (length text)))) word

-- a run is one symbol where no byte of a name follows
pub run_read : (text rest : List ℕ) (symbols : List Symbol) → IsRun text → Ends rest → ReadsAs rest symbols
    → ReadsAs (text ++ rest) (run_symbol text ∷ symbols)
run_read [] rest symbols run ends more = absurd (omega (arith, run.some))
run_read (b ∷ text) rest symbols run ends more =
    let parts = and_parts (is_name_byte b) (list_all is_name_byte text) run.named in
    lexeme b text rest (Some (run_symbol (b ∷ text)).kind) symbols
    (λ bytes at inside byte_is here others. run_moves b text rest bytes at parts.0 (run_length text rest parts.1 ends)
    inside byte_is here others) more
