-- Where the loop of `lex` stands, and what one iteration keeps of it.
use Rattle.std.proofs.Common.{◌≡◌, ℕ, suc, ◌+◌, ◌-◌, ◌≤◌, ◌<◌, Bool, true, false, cond, List, [], ◌∷◌, ◌++◌, length}
use Rattle.std.proofs.Common.{get_or, take, drop, Option, Some, None, Result, Ok, Err, refl, sym, ap, ◌∙◌}
use Rattle.std.proofs.Common.{append_assoc, arith, add-zero, zero-add, one-add, inl, inr}
use Rattle.std.specs.Prelude.{count_by}
use Rattle.std.specs.List.{prefix_len}
use Rattle.std.proofs.Math.Seq.{take-add}
use Rattle.std.proofs.lemmas.Bool.{cases_Bool, eqb-true, not-true}
use Rattle.std.proofs.lemmas.List.{append-nil, drop_all, take_rest}
use Rattle.std.proofs.lemmas.List.Sums.{sum_by-append, sum_by-cons}
use Rattle.dp_base.specs.Bytes.{is_name_byte}
use Rattle.dp_lexer.specs.declared.Kind.{Kind}
use Rattle.dp_lexer.specs.declared.Token.{Token}
use Rattle.dp_lexer.specs.declared.lexemes.Class.{Class}
use Rattle.dp_lexer.specs.declared.lexemes.Class.TheVariants.{Blank, Comment, LineFeed, Run, Mark, Bad}
use Rattle.dp_lexer.specs.Bytes.{line_feed, is_line_feed, is_no_line_feed, line_at}
use Rattle.dp_lexer.specs.Tokens.{class_of, more_of, kind_of, with_token, tokens_from, tokens_of}
use Rattle.dp_lexer.proofs.Classes.{run, blank, line_end, comment, colon_mark, star_mark, unknown, byte_of, differs}
use Rattle.dp_lexer.proofs.Lexeme.{tokens_at, cut, stops, fits, moves}

-- these tokens first
abbrev pub before : List Token → Result (List Token) ℕ → Result (List Token) ℕ
before tokens (Ok others) = Ok (tokens ++ others)
before tokens (Err bad) = Err bad

-- the tokens so far and those from `at` on are all of them
pub record IsAt (text : List ℕ) (tokens : List Token) (at line : ℕ) : Type 0 where
  pub within : at ≤ length text
  pub line_is : line ≡ line_at text at
  pub so_far : before tokens (tokens_at text at) ≡ tokens_of text

-- before the first iteration
pub starts : (text : List ℕ) → IsAt text [] 0 1
unfolding tokens_of
starts text = record { within = omega arith; line_is = refl; so_far = none_before (tokens_from text 0 0 text) }
  where
    none_before : (rest : Result (List Token) ℕ) → before [] rest ≡ rest
    none_before (Ok others) = refl
    none_before (Err bad) = refl

-- ---- lines

-- how many line feeds a text has
abbrev feeds : List ℕ → ℕ
feeds text = count_by is_line_feed text

-- a first byte more
feeds-cons : (b : ℕ) (rest : List ℕ) → feeds (b ∷ rest) ≡ cond (is_line_feed b) 1 0 + feeds rest
feeds-cons b rest = sum_by-cons (λ x. cond (is_line_feed x) 1 0) b rest

module _ (p : ℕ → Bool) (none : (b : ℕ) → p b ≡ true → is_line_feed b ≡ false) where
  -- one byte more without a line feed
  one_more : (b : ℕ) (rest : List ℕ) (v : Bool) → p b ≡ v → feeds (take (prefix_len p rest) rest) ≡ 0
      → feeds (take (cond v (1 + prefix_len p rest) 0) (b ∷ rest)) ≡ 0
  one_more b rest true passes others = rw one-add (feeds-cons b (take (prefix_len p rest) rest)
      ∙ rw (none b passes) (zero-add _ ∙ others))
  one_more b rest false fails others = refl

  -- no line ends among bytes that are no line feeds
  no_feeds : (rest : List ℕ) → feeds (take (prefix_len p rest) rest) ≡ 0
  no_feeds [] = refl
  no_feeds (b ∷ rest) = one_more b rest (p b) refl (no_feeds rest)

-- no line ends behind the first byte of a lexeme
more_of-feeds : (class : Class) (rest : List ℕ) → feeds (take (more_of class rest) rest) ≡ 0
more_of-feeds Run rest = no_feeds is_name_byte (λ b named. differs is_name_byte line_feed b refl named) rest
more_of-feeds Comment rest = no_feeds is_no_line_feed (λ b other. not-true (is_line_feed b) other) rest
more_of-feeds Blank rest = refl
more_of-feeds LineFeed rest = refl
more_of-feeds (Mark kind) rest = refl
more_of-feeds Bad rest = refl

-- a line ends exactly at a line feed
feed_is : (b : ℕ) → class_of b ≡ LineFeed → is_line_feed b ≡ true
feed_is b feed = elim (byte_of b) [
  | run class_is named ↦ absurd (let clash = sym class_is ∙ feed in cc)
  | blank class_is is ↦ absurd (let clash = sym class_is ∙ feed in cc)
  | line_end is ↦ ap is_line_feed is
  | comment is ↦ absurd (let clash = sym (ap class_of is) ∙ feed in cc)
  | colon_mark is ↦ absurd (let clash = sym (ap class_of is) ∙ feed in cc)
  | star_mark is ↦ absurd (let clash = sym (ap class_of is) ∙ feed in cc)
  | unknown class_is is ↦ absurd (let clash = sym class_is ∙ feed in cc)
]

-- another byte is no line feed
other_is : (b : ℕ) → (class_of b ≡ LineFeed → ⊥) → is_line_feed b ≡ false
other_is b other = elim (cases_Bool (is_line_feed b)) [
  | inl feed ↦ absurd (other (ap class_of (eqb-true b line_feed feed)))
  | inr not_feed ↦ not_feed
]

-- ---- one iteration

-- what an iteration learns of the lexeme that begins at `at`
pub record IsLexeme (text : List ℕ) (at more : ℕ) (class : Class) (kind : Option Kind) : Type 0 where
  pub inside : at < length text
  pub class_is : class ≡ class_of (get_or text at 0)
  pub good : class ≡ Bad → ⊥
  -- what the code counts is what the definition says
  pub more_is : more ≡ more_of class (take (length text - (at + 1)) (drop (at + 1) text))
  pub kind_is : kind ≡ kind_of class (take (at + 1 + more - at) (drop at text))

module _ {text : List ℕ} {at more : ℕ} {class : Class} {kind : Option Kind}
    (lexeme : IsLexeme text at more class kind) where
  abbrev rest : List ℕ
  rest = drop (at + 1) text

  more_is : more ≡ more_of class rest
  more_is = lexeme.more_is ∙ ap (more_of class) (take_rest text (at + 1))

  -- both end at the same offset
  end_is : at + suc (more_of class rest) ≡ at + 1 + more
  end_is = omega (arith, more_is)

  -- what `moves` says, in the numbers of the code
  moved : tokens_at text at ≡ with_token text at (suc more) kind (tokens_at text (at + 1 + more))
  moved =
      let len : at + 1 + more - at ≡ suc more = omega arith in
      let size : suc (more_of class rest) ≡ suc more = ap (λ n. suc n) (sym more_is) in
      let kind_is : kind_of class (take (suc more) (drop at text)) ≡ kind
      = sym (lexeme.kind_is ∙ ap (λ n. kind_of class (take n (drop at text))) len) in
      moves text at lexeme.inside class lexeme.class_is lexeme.good
      ∙ ap (λ n. with_token text at n (kind_of class (take n (drop at text)))
      (tokens_at text (at + suc (more_of class rest)))) size
      ∙ ap (λ n. with_token text at (suc more) (kind_of class (take (suc more) (drop at text))) (tokens_at text n))
      end_is
      ∙ ap (λ k. with_token text at (suc more) k (tokens_at text (at + 1 + more))) kind_is

  -- the lexeme ends within the text
  more_fits : at + 1 + more ≤ length text
  more_fits = omega (arith, end_is, fits text at lexeme.inside class lexeme.class_is)

  -- the line feeds of the lexeme
  line_moves : line_at text (at + 1 + more) ≡ line_at text at + cond (is_line_feed (get_or text at 0)) 1 0
  line_moves =
      let none : feeds (take more rest) ≡ 0 = rw more_is (more_of-feeds class rest) in
      let sum : at + 1 + more ≡ at + suc more = omega arith in
      let here : feeds (take (suc more) (drop at text)) ≡ cond (is_line_feed (get_or text at 0)) 1 0
      = ap (λ l. feeds (take (suc more) l)) (cut text at lexeme.inside)
      ∙ feeds-cons (get_or text at 0) (take more rest)
      ∙ rw (none, add-zero) refl in
      let all : feeds (take (at + 1 + more) text) ≡ feeds (take at text) + feeds (take (suc more) (drop at text))
      = ap (λ n. feeds (take n text)) sum ∙ ap feeds (take-add at (suc more) text)
      ∙ sum_by-append (λ x. cond (is_line_feed x) 1 0) (take at text) (take (suc more) (drop at text)) in
      omega (arith, all, here)

-- the lexeme is a token
puts : (tokens : List Token) (token : Token) (text : List ℕ) (at len : ℕ) (kind : Kind) (rest : Result (List Token) ℕ)
    → token ≡ record { start = at; end = at + len; line = line_at text at; kind = kind }
    → before tokens (with_token text at len (Some kind) rest) ≡ before (tokens ++ token ∷ []) rest
puts tokens token text at len kind (Ok others) is = rw is
    (ap (λ (l : List Token). Ok l) (sym (append_assoc tokens (_ ∷ []) others)))
puts tokens token text at len kind (Err bad) is = refl

-- the lexeme is none
skips : (tokens : List Token) (text : List ℕ) (at len : ℕ) (rest : Result (List Token) ℕ)
    → before tokens (with_token text at len None rest) ≡ before tokens rest
skips tokens text at len (Ok others) = refl
skips tokens text at len (Err bad) = refl

module _ {text : List ℕ} {tokens : List Token} {at line : ℕ} (here : IsAt text tokens at line) where
  -- a lexeme that is a token
  pub keeps_token : (more : ℕ) (class : Class) (kind : Kind) (token : Token) (next_line : ℕ)
      → IsLexeme text at more class (Some kind)
      → token ≡ record { start = at; end = at + 1 + more; line = line; kind = kind }
      → next_line ≡ line_at text (at + 1 + more) → IsAt text (tokens ++ token ∷ []) (at + 1 + more) next_line
  keeps_token more class kind token next_line lexeme token_is line_is =
      let len : at + 1 + more ≡ at + suc more = omega arith in
      let same : token ≡ record { start = at; end = at + suc more; line = line_at text at; kind = kind }
      = token_is ∙ rw (len, here.line_is) refl in
      record {
        within = more_fits lexeme;
        line_is = line_is;
        so_far = sym (ap (before tokens) (moved lexeme) ∙ puts tokens token text at (suc more) kind _ same)
            ∙ here.so_far;
      }

  -- a lexeme that is none
  pub keeps_none : (more : ℕ) (class : Class) (next_line : ℕ) → IsLexeme text at more class None
      → next_line ≡ line_at text (at + 1 + more) → IsAt text tokens (at + 1 + more) next_line
  keeps_none more class next_line lexeme line_is = record {
    within = more_fits lexeme;
    line_is = line_is;
    so_far = sym (ap (before tokens) (moved lexeme) ∙ skips tokens text at (suc more) _) ∙ here.so_far;
  }

  -- the line behind a line feed is one more
  pub next_line_feed : (more : ℕ) (class : Class) (kind : Option Kind) → IsLexeme text at more class kind
      → class ≡ LineFeed
      → line + 1 ≡ line_at text (at + 1 + more)
  next_line_feed more class kind lexeme feed =
      let one : cond {A = ℕ} (is_line_feed (get_or text at 0)) 1 0 ≡ 1
      = rw (feed_is (get_or text at 0) (sym lexeme.class_is ∙ feed)) refl in
      omega (arith, here.line_is, line_moves lexeme, one)

  -- the line behind another lexeme is the same
  pub next_line_other : (more : ℕ) (class : Class) (kind : Option Kind) → IsLexeme text at more class kind
      → (class ≡ LineFeed → ⊥)
      → line ≡ line_at text (at + 1 + more)
  next_line_other more class kind lexeme other =
      let none : cond {A = ℕ} (is_line_feed (get_or text at 0)) 1 0 ≡ 0
      = rw (other_is (get_or text at 0) (λ e. other (lexeme.class_is ∙ e))) refl in
      omega (arith, here.line_is, line_moves lexeme, none)

  -- a bad byte here is the first
  pub is_bad : at < length text → class_of (get_or text at 0) ≡ Bad → tokens_of text ≡ Err at
  is_bad inside bad = sym here.so_far ∙ ap (before tokens) (stops text at inside bad)

  -- at the end of the text all tokens are there
  pub is_done : length text ≤ at → tokens_of text ≡ Ok tokens
  unfolding tokens_from
  is_done past = sym here.so_far ∙ ap (before tokens) (ap (tokens_from text 0 at) (drop_all at text past))
      ∙ ap (λ (l : List Token). Ok l) (append-nil tokens)
