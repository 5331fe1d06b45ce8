-- One lexeme of a text: what begins at an offset, and where it ends.
use Rattle.std.proofs.Common.{◌≡◌, ℕ, zero, suc, ◌+◌, ◌≤◌, ◌<◌, List, [], ◌∷◌, length, get_or, take, drop, Result}
use Rattle.std.proofs.Common.{Err, refl, sym, ap, ◌∙◌, arith, add-zero, add-one, drop-cons}
use Rattle.std.proofs.lemmas.List.{drop-drop, length-drop}
use Rattle.std.proofs.lemmas.List.Sums.{prefix_len-le-length}
use Rattle.dp_base.specs.Bytes.{is_name_byte}
use Rattle.dp_lexer.specs.declared.Token.{Token}
use Rattle.dp_lexer.specs.declared.lexemes.Class.{Class}
use Rattle.dp_lexer.specs.declared.lexemes.Class.TheVariants.{Blank, Comment, LineFeed, Run, Mark, Bad}
use Rattle.dp_lexer.specs.Bytes.{is_no_line_feed}
use Rattle.dp_lexer.specs.Tokens.{class_of, more_of, kind_of, with_token, unless_bad, tokens_from}

-- the tokens of a text from an offset on
abbrev pub tokens_at : List ℕ → ℕ → Result (List Token) ℕ
tokens_at text at = tokens_from text 0 at (drop at text)

-- what belongs to what began before is passed over
passes : (text : List ℕ) (more at : ℕ) (rest : List ℕ)
    → tokens_from text more at rest ≡ tokens_from text 0 (at + more) (drop more rest)
unfolding tokens_from
passes text zero at rest = rw add-zero refl
passes text (suc more) at [] = refl
passes text (suc more) at (b ∷ rest) =
    let on : at + 1 + more ≡ at + suc more = omega arith in
    passes text more (at + 1) rest ∙ ap (λ n. tokens_from text 0 n (drop more rest)) on

-- a byte that is not bad does not end the tokens
not_bad : (class : Class) (at : ℕ) (others : Result (List Token) ℕ) → (class ≡ Bad → ⊥)
    → unless_bad class at others ≡ others
not_bad Bad at others good = absurd (good refl)
not_bad Blank at others good = refl
not_bad Comment at others good = refl
not_bad LineFeed at others good = refl
not_bad Run at others good = refl
not_bad (Mark kind) at others good = refl

-- a lexeme ends within the text
more_of-le-length : (class : Class) (rest : List ℕ) → more_of class rest ≤ length rest
more_of-le-length Run rest = prefix_len-le-length is_name_byte rest
more_of-le-length Comment rest = prefix_len-le-length is_no_line_feed rest
more_of-le-length Blank rest = omega arith
more_of-le-length LineFeed rest = omega arith
more_of-le-length (Mark kind) rest = omega arith
more_of-le-length Bad rest = omega arith

module _ (text : List ℕ) (at : ℕ) (inside : at < length text) where
  -- the rest of a text is a byte and what follows it
  pub cut : drop at text ≡ get_or text at 0 ∷ drop (at + 1) text
  cut = rw add-one (drop-cons text at 0 inside)

  -- a bad byte ends the tokens
  pub stops : class_of (get_or text at 0) ≡ Bad → tokens_at text at ≡ Err at
  unfolding tokens_from
  stops bad = ap (tokens_from text 0 at) cut ∙ rw bad refl

  module _ (class : Class) (class_is : class ≡ class_of (get_or text at 0)) where
    -- how many bytes the lexeme has
    abbrev pub len : ℕ
    len = suc (more_of class (drop (at + 1) text))

    -- the lexeme ends within the text
    pub fits : at + len ≤ length text
    fits = omega (arith, more_of-le-length class (drop (at + 1) text), length-drop (at + 1) text)

    -- the tokens from here on are those behind the lexeme, and its own where it is one
    pub moves : (class ≡ Bad → ⊥)
        → tokens_at text at
        ≡ with_token text at len (kind_of class (take len (drop at text))) (tokens_at text (at + len))
    unfolding tokens_from
    moves good =
        let b : ℕ = get_or text at 0 in
        let rest : List ℕ = drop (at + 1) text in
        let end : at + 1 + more_of class rest ≡ at + len = omega arith in
        let here : tokens_from text 0 at (b ∷ rest) ≡ with_token text at len (kind_of class (take len (b ∷ rest)))
        (tokens_from text 0 (at + 1 + more_of class rest) (drop (more_of class rest) rest))
        = rw (← class_is, passes text (more_of class rest) (at + 1) rest) (not_bad class at _ good) in
        ap (tokens_from text 0 at) cut ∙ here
        ∙ ap (λ l. with_token text at len (kind_of class (take len l))
        (tokens_from text 0 (at + 1 + more_of class rest) (drop (more_of class rest) rest))) (sym cut)
        ∙ ap (λ l. with_token text at len (kind_of class (take len (drop at text)))
        (tokens_from text 0 (at + 1 + more_of class rest) l)) (drop-drop (more_of class rest) (at + 1) text)
        ∙ ap (λ n. with_token text at len (kind_of class (take len (drop at text))) (tokens_at text n)) end
