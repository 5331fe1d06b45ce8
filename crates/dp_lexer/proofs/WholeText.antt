-- From one step to the whole text: the laws on tokens.
use Rattle.std.proofs.Common.{◌≡◌, ℕ, zero, suc, ◌+◌, ◌-◌, ◌≤◌, ◌<◌, true, false, List, [], ◌∷◌, ◌++◌, length, take}
use Rattle.std.proofs.Common.{drop, map, Option, Some, None, Result, Ok, Err, refl, sym, ap, subst, ◌∙◌, inl, inr}
use Rattle.std.proofs.Common.{arith}
use Rattle.std.specs.Prelude.{filter, find, is_some, All, AllPairs, slice_index}
use Rattle.std.specs.List.{flat_map, range_with_len}
use Rattle.std.specs.Result.{result_err}
use Rattle.std.proofs.lemmas.Bool.{cases_lt}
use Rattle.std.proofs.lemmas.List.{drop_all, map-append}
use Rattle.std.proofs.lemmas.List.Elements.{All-cons, All-nil}
use Rattle.std.proofs.lemmas.List.Kept.{AllPairs-cons}
use Rattle.dp_lexer.specs.declared.Kind.{Kind}
use Rattle.dp_lexer.specs.declared.Token.{Token}
use Rattle.dp_lexer.specs.Bytes.{line_at}
use Rattle.dp_lexer.specs.Comments.{kept_offsets, is_kept, is_bad}
use Rattle.dp_lexer.specs.Tokens.{with_token, tokens_from, tokens_of}
use Rattle.dp_lexer.specs.TokenLaws.{slice_of, offsets_of, IsOfKind, IsTokenOf, TokensAreOfText, FirstBadByteIsNamed}
use Rattle.dp_lexer.proofs.CommentSteps.{IsOutside, outside_start}
use Rattle.dp_lexer.proofs.OnlyTokens.{only_from}
use Rattle.dp_lexer.proofs.Lexeme.{tokens_at}
use Rattle.dp_lexer.proofs.Stretches.{map-range, kept_from, bad_from, kept-stretch, bad-stretch}
use Rattle.dp_lexer.proofs.Steps.{Advances, halts, goes, step_of}

module _ (text : List ℕ) where
  -- the tokens are those of the text from an offset on
  record AreTokensFrom (at : ℕ) (tokens : List Token) : Type 0 where
    each : All (IsTokenOf text) tokens
    later : All (λ token. at ≤ token.start) tokens
    in_order : AllPairs (λ a b. a.end ≤ b.start) tokens
    together : flat_map (slice_of text) tokens ≡ map (slice_index text) (kept_from text at)
    in_place : flat_map offsets_of tokens ≡ kept_from text at

  -- at the end of a text no offset is left
  none_left : (at : ℕ) → length text ≤ at → range_with_len at (length text - at) ≡ []
  none_left at past = let none : length text - at ≡ 0 = omega arith in ap (range_with_len at) none

  -- nor a token
  ends : (at : ℕ) → length text ≤ at → tokens_at text at ≡ Ok []
  unfolding tokens_from
  ends at past = ap (tokens_from text 0 at) (drop_all at text past)

  -- so the tokens there are none
  no_tokens : (at : ℕ) → length text ≤ at → AreTokensFrom at []
  no_tokens at past = record {
    each = All-nil (IsTokenOf text);
    later = All-nil (λ token. at ≤ token.start);
    in_order = λ i j d lt below. absurd (omega arith);
    together = sym (ap (λ l. map (slice_index text) (filter (is_kept text) l)) (none_left at past));
    in_place = sym (ap (filter (is_kept text)) (none_left at past));
  }

  -- what begins behind a lexeme begins behind its start
  later_from : (at n : ℕ) (tokens : List Token) → All (λ token. at + n ≤ token.start) tokens
      → All (λ token. at ≤ token.start) tokens
  later_from at n tokens later k d lt = omega (arith, later k d lt)

  -- a lexeme that is no token
  skips : (at n : ℕ) (others : List Token) → Advances text at n None → AreTokensFrom (at + n) others
      → AreTokensFrom at others
  skips at n others step rest =
      let kept : kept_from text at ≡ kept_from text (at + n) =
      kept-stretch text at n false step.within step.stretch in
      record {
        each = rest.each;
        later = later_from at n others rest.later;
        in_order = rest.in_order;
        together = rest.together ∙ ap (map (slice_index text)) (sym kept);
        in_place = rest.in_place ∙ sym kept;
      }

  -- a lexeme that is a token
  takes : (at n : ℕ) (kind : Kind) (token : Token) (others : List Token) → Advances text at n (Some kind)
      → token ≡ record { start = at; end = at + n; line = line_at text at; kind = kind }
      → AreTokensFrom (at + n) others
      → AreTokensFrom at (token ∷ others)
  takes at n kind token others step is rest = rw is (record {
    each = All-cons (IsTokenOf text) made others shown rest.each;
    later = All-cons (λ t. at ≤ t.start) made others (omega arith) (later_from at n others rest.later);
    in_order = AllPairs-cons (λ a b. a.end ≤ b.start) made others rest.later rest.in_order;
    together = ap (λ l. l ++ flat_map (slice_of text) others) slice
        ∙ ap (λ l. map (slice_index text) (range_with_len at n) ++ l) rest.together
        ∙ sym (map-append (slice_index text) (range_with_len at n) (kept_from text (at + n)))
        ∙ ap (map (slice_index text)) (sym kept);
    in_place = ap (λ m. range_with_len at m ++ flat_map offsets_of others) size
        ∙ ap (λ l. range_with_len at n ++ l) rest.in_place
        ∙ sym kept;
  })
    where
      made : Token
      made = record { start = at; end = at + n; line = line_at text at; kind = kind }

      size : at + n - at ≡ n
      size = omega arith

      shown : IsTokenOf text made
      shown = record {
        some = omega (arith, step.some);
        within = step.within;
        line = refl;
        kind = subst (λ m. IsOfKind kind (take m (drop at text))) (sym size) step.shown.kind_is;
        longest = step.shown.longest;
      }

      slice : slice_of text made ≡ map (slice_index text) (range_with_len at n)
      slice = ap (λ m. take m (drop at text)) size ∙ sym (map-range text at n step.within)

      kept : kept_from text at ≡ range_with_len at n ++ kept_from text (at + n)
      kept = kept-stretch text at n true step.within step.stretch

  -- a lexeme, and the tokens behind it
  after : (at n : ℕ) (kind : Option Kind) (tokens : List Token) (rest : Result (List Token) ℕ)
      → Advances text at n kind
      → with_token text at n kind rest ≡ Ok tokens
      → ((others : List Token) → rest ≡ Ok others → AreTokensFrom (at + n) others)
      → AreTokensFrom at tokens
  after at n None tokens (Ok others) step is so_far = let same : others ≡ tokens = cc in subst (AreTokensFrom at) same
      (skips at n others step (so_far others refl))
  after at n (Some kind) tokens (Ok others) step is so_far =
      let same : record { start = at; end = at + n; line = line_at text at; kind = kind } ∷ others ≡ tokens = cc in
      subst (AreTokensFrom at) same
      (takes at n kind (record { start = at; end = at + n; line = line_at text at; kind = kind }) others step refl
      (so_far others refl))
  after at n None tokens (Err bad) step is so_far = absurd cc
  after at n (Some kind) tokens (Err bad) step is so_far = absurd cc

  -- `fuel` is at least the number of bytes that are left
  from_here : (fuel at : ℕ) (tokens : List Token) → length text ≤ at + fuel → IsOutside text at
      → tokens_at text at ≡ Ok tokens → AreTokensFrom at tokens
  from_here zero at tokens enough outside is =
      let past : length text ≤ at = omega arith in
      let none : [] ≡ tokens = let both = sym (ends at past) ∙ is in cc in
      subst (AreTokensFrom at) none (no_tokens at past)
  from_here (suc fuel) at tokens enough outside is = elim (cases_lt at (length text)) [
    | inr past ↦ (let none : [] ≡ tokens = let both = sym (ends at past) ∙ is in cc in
        subst (AreTokensFrom at) none (no_tokens at past))
    | inl inside ↦ elim (step_of text at inside outside) [
      | halts stop bad ↦ absurd (let both = sym stop ∙ is in cc)
      | goes n kind step ↦ after at n kind tokens (tokens_at text (at + n)) step (sym step.moves_on ∙ is)
          (λ others rest. from_here fuel (at + n) others (omega (arith, step.some)) step.stretch.after rest)
    ]
  ]

  -- a token hides no bad byte
  err-with_token : (at n : ℕ) (kind : Option Kind) (rest : Result (List Token) ℕ)
      → result_err (with_token text at n kind rest) ≡ result_err rest
  err-with_token at n None (Ok others) = refl
  err-with_token at n (Some kind) (Ok others) = refl
  err-with_token at n None (Err bad) = refl
  err-with_token at n (Some kind) (Err bad) = refl

  -- at the end of a text no byte is bad
  none_bad : (at : ℕ) → length text ≤ at → result_err (tokens_at text at) ≡ bad_from text at
  none_bad at past = ap result_err (ends at past) ∙ sym (ap (find (is_bad text)) (none_left at past))

  -- a bad byte here is the first
  here_bad : (at : ℕ) → at < length text → is_bad text at ≡ true → bad_from text at ≡ Some at
  here_bad at inside bad = let more : length text - at ≡ suc (length text - (at + 1)) = omega arith in ap
      (λ m. find (is_bad text) (range_with_len at m)) more
      ∙ rw bad refl

  -- the first bad byte from an offset on ends the tokens
  bad_from_here : (fuel at : ℕ) → length text ≤ at + fuel → IsOutside text at
      → result_err (tokens_at text at) ≡ bad_from text at
  bad_from_here zero at enough outside = none_bad at (omega arith)
  bad_from_here (suc fuel) at enough outside = elim (cases_lt at (length text)) [
    | inr past ↦ none_bad at past
    | inl inside ↦ elim (step_of text at inside outside) [
      | halts stop bad ↦ ap result_err stop ∙ sym (here_bad at inside bad)
      | goes n kind step ↦ (
          ap result_err step.moves_on ∙ err-with_token at n kind (tokens_at text (at + n))
          ∙ bad_from_here fuel (at + n) (omega (arith, step.some)) step.stretch.after
          ∙ sym (bad-stretch text at n (is_some kind) step.within step.stretch)
          )
    ]
  ]

-- the tokens of a text are as described, and no other list is
pub tokens_are_of_text : TokensAreOfText
unfolding tokens_of
tokens_are_of_text text tokens =
    let whole : length text - 0 ≡ length text = omega arith in
    let kept : kept_from text 0 ≡ kept_offsets text = ap (λ m. filter (is_kept text) (range_with_len 0 m)) whole in
    let enough : length text ≤ 0 + length text = omega arith in (
      λ is. let all = from_here text (length text) 0 tokens enough (outside_start text) is in
          record {
            each = all.each;
            in_order = all.in_order;
            together = all.together ∙ ap
                (map (slice_index text)) kept;
            in_place = all.in_place ∙ kept;
          },
      λ are. only_from text (length text) 0 tokens enough (outside_start text) are.each (are.in_place ∙ sym kept),
    )

-- a text has no tokens exactly where it has a bad byte, and the first is named
pub first_bad_byte_is_named : FirstBadByteIsNamed
unfolding tokens_of
first_bad_byte_is_named text =
    let whole : length text - 0 ≡ length text = omega arith in
    bad_from_here text (length text) 0 (omega arith) (outside_start text)
    ∙ ap (λ m. find (is_bad text) (range_with_len 0 m)) whole
