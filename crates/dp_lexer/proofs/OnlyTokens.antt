-- What the tokens of a text are allows only one list.
use Rattle.std.proofs.Common.{◌≡◌, ℕ, zero, suc, ◌+◌, ◌-◌, ◌≤◌, ◌<◌, Bool, true, false, cond, not, ◌&&◌, ◌||◌, List}
use Rattle.std.proofs.Common.{[], ◌∷◌, ◌++◌, length, get_or, take, drop, Option, Some, None, Ok, refl, sym, ap, subst}
use Rattle.std.proofs.Common.{◌∙◌, inl, inr, arith, add-zero}
use Rattle.std.specs.Prelude.{◌==◌, All, filter, nat_lt}
use Rattle.std.specs.List.{flat_map, list_all, range_with_len}
use Rattle.std.proofs.lemmas.Bool.{cases_lt, cases_order}
use Rattle.std.proofs.lemmas.List.{append_cancel_left, drop_all, get_or-drop, get_or-take, length-drop}
use Rattle.std.proofs.lemmas.List.{length-take-le}
use Rattle.std.proofs.lemmas.List.Sums.{AllPass-from_list_all}
use Rattle.dp_base.specs.Bytes.{is_name_byte}
use Rattle.dp_base.specs.DecimalShape.{is_decimal}
use Rattle.dp_base.specs.Names.{is_word}
use Rattle.dp_lexer.specs.declared.Kind.{Kind}
use Rattle.dp_lexer.specs.declared.Kind.TheVariants.{Word, Number, Colon, Star, LineEnd}
use Rattle.dp_lexer.specs.declared.Token.{Token}
use Rattle.dp_lexer.specs.Bytes.{line_feed, colon, star, is_blank, is_in_alphabet, line_at}
use Rattle.dp_lexer.specs.Comments.{is_in_comment, is_kept, is_bad}
use Rattle.dp_lexer.specs.Tokens.{with_token, tokens_from}
use Rattle.dp_lexer.specs.TokenLaws.{offsets_of, IsOfKind, IsLongest, IsTokenOf}
use Rattle.dp_lexer.proofs.CommentSteps.{IsOutside}
use Rattle.dp_lexer.proofs.Lexeme.{tokens_at}
use Rattle.dp_lexer.proofs.Stretches.{blank_plain, kept_from, kept-stretch}
use Rattle.dp_lexer.proofs.Steps.{Advances, halts, goes, step_of}

-- a longest run of the bytes of names and numbers, or one other byte; and the kind of it
abbrev mark_kind : ℕ → Kind
mark_kind b = cond (b == colon) Colon (cond (b == star) Star LineEnd)

data Shape (kind : Kind) (bytes : List ℕ) (next : ℕ) : Type 0 where
  is_run : list_all is_name_byte bytes ≡ true → is_name_byte next ≡ false → kind ≡ cond (is_decimal bytes) Number Word
      → Shape kind bytes next
  is_mark : (b : ℕ) → is_name_byte b ≡ false → is_in_alphabet b ≡ true → bytes ≡ b ∷ [] → kind ≡ mark_kind b
      → Shape kind bytes next

-- what the test of a word says of its parts
word_parts : (some all decimal : Bool) → ((some && all) && not decimal) ≡ true → (all ≡ true) × (decimal ≡ false)
word_parts true all true h = absurd (elim all as (λ v. (v && false) ≡ true → ⊥) [
  | true ↦ λ e. cc
  | false ↦
      λ e. cc
] h)
word_parts true true false h = (refl, refl)
word_parts true false false h = absurd cc
word_parts false all decimal h = absurd cc

-- the bytes of a token have one of the two shapes
shape_of : (kind : Kind) (bytes : List ℕ) (next : ℕ) → IsOfKind kind bytes → IsLongest kind next
    → Shape kind bytes next
unfolding is_word
shape_of Word bytes next word ends = let parts = word_parts (nat_lt 0 (length bytes)) (list_all is_name_byte bytes)
    (is_decimal bytes) word in is_run parts.0 ends (rw parts.1 refl)
shape_of Number bytes next number ends = is_run number.0 ends (rw number.1 refl)
shape_of Colon bytes next is ends = is_mark colon refl refl is refl
shape_of Star bytes next is ends = is_mark star refl refl is refl
shape_of LineEnd bytes next is ends = is_mark line_feed refl refl is refl

module _ (text : List ℕ) (at : ℕ) where
  -- a byte of a slice is a byte of the text
  byte_in : (m k : ℕ) → k < m → get_or (take m (drop at text)) k 0 ≡ get_or text (at + k) 0
  byte_in m k lt = get_or-take m (drop at text) k 0 lt ∙ get_or-drop at text k 0

  -- a slice within the text has its size
  size_of : (m : ℕ) → at + m ≤ length text → length (take m (drop at text)) ≡ m
  size_of m within = length-take-le m (drop at text) (omega (arith, length-drop at text))

  -- each byte of a run is one of names and numbers
  named_in : (m k : ℕ) → at + m ≤ length text → list_all is_name_byte (take m (drop at text)) ≡ true → k < m
      → is_name_byte (get_or text (at + k) 0) ≡ true
  named_in m k within all lt = subst (λ b. is_name_byte b ≡ true) (byte_in m k lt)
      (AllPass-from_list_all is_name_byte (take m (drop at text)) all k 0 (omega (arith, size_of m within)))

  -- so is the first
  named_here : (m : ℕ) → 0 < m → at + m ≤ length text → list_all is_name_byte (take m (drop at text)) ≡ true
      → is_name_byte (get_or text at 0) ≡ true
  named_here m some within all = rw add-zero at (named_in m 0 within all some)

  -- the one byte of a mark is the first
  mark_here : (m b : ℕ) → 0 < m → take m (drop at text) ≡ b ∷ [] → b ≡ get_or text at 0
  mark_here m b some is = sym (ap (λ l. get_or l 0 0) is) ∙ (rw add-zero at (byte_in m 0 some))

  -- a mark has one byte
  mark_size : (m b : ℕ) → at + m ≤ length text → take m (drop at text) ≡ b ∷ [] → m ≡ 1
  mark_size m b within is = sym (size_of m within) ∙ ap (λ l. length l) is

  -- no byte both passes and fails a test
  clash_of : (b : ℕ) → is_name_byte b ≡ true → is_name_byte b ≡ false → ⊥
  clash_of b named other = let clash = sym named ∙ other in cc

  -- the first byte of a token is in the alphabet
  allowed_here : (m next : ℕ) (kind : Kind) → 0 < m → at + m ≤ length text → Shape kind (take m (drop at text)) next
      → is_in_alphabet (get_or text at 0) ≡ true
  allowed_here m next kind some within (is_run all ends kind_is) = rw (named_here m some within all) refl
  allowed_here m next kind some within (is_mark b other allowed is kind_is) =
      subst (λ x. is_in_alphabet x ≡ true) (mark_here m b some is) allowed

  -- two tokens that begin at one byte are one
  same : (m n : ℕ) (kind other_kind : Kind) → 0 < m → 0 < n → at + m ≤ length text → at + n ≤ length text
      → Shape kind (take m (drop at text)) (get_or text (at + m) 0)
      → Shape other_kind (take n (drop at text)) (get_or text (at + n) 0) → (m ≡ n) × (kind ≡ other_kind)
  same m n kind other_kind some_m some_n in_m in_n (is_run all ends kind_is) (is_run others other_ends other_is) =
      let size : m ≡ n = elim (cases_order m n) [
        | inl equal ↦ equal
        | inr unequal ↦ elim unequal [
          | inl less ↦ absurd (clash_of (get_or text (at + m) 0) (named_in n m in_n others less) ends)
          | inr more ↦ absurd (clash_of (get_or text (at + n) 0) (named_in m n in_m all more) other_ends)
        ]
      ] in (size, kind_is ∙ ap (λ i. cond (is_decimal (take i (drop at text))) Number Word) size ∙ sym other_is)
  same m n kind other_kind some_m some_n in_m in_n (is_run all ends kind_is) (is_mark b other allowed is other_is) =
      absurd (clash_of b (subst (λ x. is_name_byte x ≡ true) (sym (mark_here n b some_n is))
      (named_here m some_m in_m all)) other)
  same m n kind other_kind some_m some_n in_m in_n (is_mark b other allowed is kind_is) (is_run all ends other_is) =
      absurd (clash_of b (subst (λ x. is_name_byte x ≡ true) (sym (mark_here m b some_m is))
      (named_here n some_n in_n all)) other)
  same m n kind other_kind some_m some_n in_m in_n (is_mark b other allowed is kind_is)
      (is_mark c other_c allowed_c is_c other_is) = (
        mark_size m b in_m is ∙ sym (mark_size n c in_n is_c),
        kind_is ∙ ap mark_kind (mark_here m b some_m is ∙ sym (mark_here n c some_n is_c)) ∙ sym other_is,
      )

-- a token is its four fields
token_same : (token : Token) (start end line : ℕ) (kind : Kind) → token.start ≡ start → token.end ≡ end
    → token.line ≡ line
    → token.kind ≡ kind → token ≡ record { start = start; end = end; line = line; kind = kind }
token_same token start end line kind a b c d = λ i. record { start = a i; end = b i; line = c i; kind = d i }

-- a bad byte is kept
bad_kept : (comment blank allowed : Bool) → (blank ≡ true → allowed ≡ true) → not (comment || allowed) ≡ true
    → (not (comment || blank) ≡ true) × (allowed ≡ false)
bad_kept true blank allowed h bad = absurd cc
bad_kept false blank true h bad = absurd cc
bad_kept false true false h bad = absurd (let clash = h refl in cc)
bad_kept false false false h bad = (refl, refl)

module _ (text : List ℕ) where
  -- the shape of a token that begins here
  shape_at : (at : ℕ) (token : Token) → token.start ≡ at → IsTokenOf text token
      → Shape token.kind (take (token.end - at) (drop at text)) (get_or text (at + (token.end - at)) 0)
  shape_at at token starts is =
      let end : token.end ≡ at + (token.end - at) = omega (arith, is.some) in
      shape_of token.kind _ _ (subst (λ s. IsOfKind token.kind (take (token.end - s) (drop s text))) starts is.kind)
      (subst (λ e. IsLongest token.kind (get_or text e 0)) end is.longest)

  -- what is left of a text that has a byte to keep here begins with a token that begins here
  starts_here : (at size : ℕ) (more : List ℕ) (token : Token) (others : List Token) → IsTokenOf text token
      → flat_map offsets_of (token ∷ others) ≡ range_with_len at (suc size) ++ more → token.start ≡ at
  starts_here at size more token others is in_place =
      let some : token.end - token.start ≡ suc (token.end - token.start - 1) = omega (arith, is.some) in
      let first : range_with_len token.start (suc (token.end - token.start - 1)) ++ flat_map offsets_of others
      ≡ range_with_len at (suc size) ++ more
      = ap (λ n. range_with_len token.start n ++ flat_map offsets_of others) (sym some) ∙ in_place in
      cc

  -- where a lexeme is a token, the first of the list is that token
  takes : (at n : ℕ) (kind : Kind) (tokens : List Token) → Advances text at n (Some kind)
      → All (IsTokenOf text) tokens
      → flat_map offsets_of tokens ≡ range_with_len at n ++ kept_from text (at + n)
      → ((others : List Token) → All (IsTokenOf text) others → flat_map offsets_of others ≡ kept_from text (at + n)
      → tokens_at text (at + n) ≡ Ok others) → tokens_at text at ≡ Ok tokens
  takes at zero kind tokens step each in_place rest = absurd (omega (arith, step.some))
  takes at (suc n) kind [] step each in_place rest = absurd cc
  takes at (suc n) kind (token ∷ others) step each in_place rest =
      let is : IsTokenOf text token = each 0 token (omega arith) in
      let starts : token.start ≡ at = starts_here at n (kept_from text (at + suc n)) token others is in_place in
      let size_and_kind
      = same text at (token.end - at) (suc n) token.kind kind (omega (arith, is.some)) (omega arith)
      (omega (arith, is.some, is.within)) step.within (shape_at at token starts is)
      (shape_of kind _ _ step.shown.kind_is step.shown.longest) in
      let end : token.end ≡ at + suc n = omega (arith, is.some, size_and_kind.0) in
      let token_is : token ≡ record { start = at; end = at + suc n; line = line_at text at; kind = kind }
      = token_same token at (at + suc n) (line_at text at) kind starts end (is.line
      ∙ ap (line_at text) starts) size_and_kind.1 in
      let length_is : token.end - token.start ≡ suc n = omega arith in
      let here : offsets_of token ≡ range_with_len at (suc n)
      = ap (λ s. range_with_len s (token.end - token.start)) starts ∙ ap (range_with_len at) length_is in
      let later : flat_map offsets_of others ≡ kept_from text (at + suc n)
      = append_cancel_left (range_with_len at (suc n)) (flat_map offsets_of others) (kept_from text (at + suc n))
      (ap (λ l. l ++ flat_map offsets_of others) (sym here) ∙ in_place) in
      step.moves_on ∙ ap (with_token text at (suc n) (Some kind))
      (rest others (λ k d lt. each (suc k) d (omega arith)) later)
      ∙ ap (λ t. Ok (t ∷ others)) (sym token_is)

  -- nothing is left at the end of the text
  none_here : (tokens : List Token) → All (IsTokenOf text) tokens → flat_map offsets_of tokens ≡ [] → tokens ≡ []
  none_here [] each in_place = refl
  none_here (token ∷ others) each in_place =
      let is : IsTokenOf text token = each 0 token (omega arith) in
      let some : token.end - token.start ≡ suc (token.end - token.start - 1) = omega (arith, is.some) in
      let first : range_with_len token.start (suc (token.end - token.start - 1)) ++ flat_map offsets_of others ≡ []
      = ap (λ n. range_with_len token.start n ++ flat_map offsets_of others) (sym some) ∙ in_place in
      absurd cc

  -- no token has a bad byte
  never_bad : (at : ℕ) (tokens : List Token) → at < length text → is_bad text at ≡ true → All (IsTokenOf text) tokens
      → flat_map offsets_of tokens ≡ kept_from text at → ⊥
  never_bad at tokens inside bad each in_place = not_kept tokens each (in_place ∙ begins)
    where
      b : ℕ
      b = get_or text at 0

      parts : (is_kept text at ≡ true) × (is_in_alphabet b ≡ false)
      parts = bad_kept (is_in_comment text at) (is_blank b) (is_in_alphabet b)
          (λ blank. (blank_plain b blank).allowed) bad

      begins : kept_from text at ≡ at ∷ kept_from text (at + 1)
      begins =
          let more : length text - at ≡ suc (length text - (at + 1)) = omega arith in
          ap (λ m. filter (is_kept text) (range_with_len at m)) more
          ∙ ap (λ v. cond v (at ∷ kept_from text (at + 1)) (kept_from text (at + 1))) parts.0

      not_kept : (tokens : List Token) → All (IsTokenOf text) tokens
          → flat_map offsets_of tokens ≡ at ∷ kept_from text (at + 1)
          → ⊥
      not_kept [] each in_place = cc
      not_kept (token ∷ others) each in_place =
          let is : IsTokenOf text token = each 0 token (omega arith) in
          let starts : token.start ≡ at = starts_here at 0 (kept_from text (at + 1)) token others is in_place in
          let allowed : is_in_alphabet b ≡ true
          = allowed_here text at (token.end - at) _ token.kind (omega (arith, is.some))
          (omega (arith, is.some, is.within))
          (shape_at at token starts is) in
          let clash = sym allowed ∙ parts.1 in cc

  -- one lexeme, and what follows it
  steps : (at n : ℕ) (kind : Option Kind) (tokens : List Token) → Advances text at n kind
      → All (IsTokenOf text) tokens
      → flat_map offsets_of tokens ≡ kept_from text at
      → ((others : List Token) → All (IsTokenOf text) others → flat_map offsets_of others ≡ kept_from text (at + n)
      → tokens_at text (at + n) ≡ Ok others) → tokens_at text at ≡ Ok tokens
  steps at n None tokens step each in_place rest = step.moves_on
      ∙ ap (with_token text at n None) (rest tokens each (in_place
      ∙ kept-stretch text at n false step.within step.stretch))
  steps at n (Some kind) tokens step each in_place rest = takes at n kind tokens step each
      (in_place ∙ kept-stretch text at n true step.within step.stretch) rest

  -- at the end of the text no token is left
  ends : (at : ℕ) (tokens : List Token) → length text ≤ at → All (IsTokenOf text) tokens
      → flat_map offsets_of tokens ≡ kept_from text at → tokens_at text at ≡ Ok tokens
  unfolding tokens_from
  ends at tokens past each in_place =
      let none : length text - at ≡ 0 = omega arith in
      ap (tokens_from text 0 at) (drop_all at text past)
      ∙ ap (λ l. Ok l) (sym (none_here tokens each (in_place
      ∙ ap (λ m. filter (is_kept text) (range_with_len at m)) none)))

  -- `fuel` is at least the number of bytes that are left
  pub only_from : (fuel at : ℕ) (tokens : List Token) → length text ≤ at + fuel → IsOutside text at
      → All (IsTokenOf text) tokens
      → flat_map offsets_of tokens ≡ kept_from text at → tokens_at text at ≡ Ok tokens
  only_from zero at tokens enough outside each in_place = ends at tokens (omega arith) each in_place
  only_from (suc fuel) at tokens enough outside each in_place = elim (cases_lt at (length text)) [
    | inr past ↦ ends at tokens past each in_place
    | inl inside ↦ elim (step_of text at inside outside) [
      | halts stop bad ↦ absurd (never_bad at tokens inside bad each in_place)
      | goes n kind step ↦ steps at n kind tokens step each in_place
          (λ others each_other rest. only_from fuel (at + n) others
          (omega (arith, step.some)) step.stretch.after each_other rest)
    ]
  ]
