-- Comments from one byte to the next.
use Rattle.std.proofs.Common.{◌≡◌, ℕ, zero, suc, ◌+◌, ◌-◌, ◌≤◌, ◌<◌, Bool, true, false, ◌||◌, List, [], ◌∷◌, ◌++◌}
use Rattle.std.proofs.Common.{length, get_or, take, drop, refl, sym, ap, ◌∙◌, arith, add-zero, inl, inr}
use Rattle.std.specs.Prelude.{◌==◌}
use Rattle.std.specs.List.{list_any, prefix_len, suffix_len}
use Rattle.std.proofs.lemmas.Bool.{cases_Bool}
use Rattle.std.proofs.lemmas.List.{drop_all, drop-append-le, length-append, reverse-append, take_more}
use Rattle.std.proofs.lemmas.List.Folds.{list_any-append}
use Rattle.dp_lexer.specs.Bytes.{hash, is_line_feed, is_no_line_feed, last_line}
use Rattle.dp_lexer.specs.Comments.{is_in_comment}
use Rattle.dp_lexer.proofs.Classes.{differs}

-- a comment is not closed at the end of these bytes
abbrev pub is_open : List ℕ → Bool
is_open bytes = list_any (λ b. b == hash) (last_line bytes)

-- behind a line feed no comment is open
after_feed : (bytes : List ℕ) (b : ℕ) → is_line_feed b ≡ true → is_open (bytes ++ b ∷ []) ≡ false
after_feed bytes b feed =
    let none : suffix_len is_no_line_feed (bytes ++ b ∷ []) ≡ 0
    = ap (prefix_len is_no_line_feed) (reverse-append bytes (b ∷ [])) ∙ rw feed refl in
    let past : last_line (bytes ++ b ∷ []) ≡ []
    = ap (λ n. drop (length (bytes ++ b ∷ []) - n) (bytes ++ b ∷ [])) none
    ∙ drop_all _ (bytes ++ b ∷ []) (omega arith) in
    ap (list_any (λ b. b == hash)) past

-- behind another byte one is open where one was, or where the byte is a `#`
after_other : (bytes : List ℕ) (b : ℕ) → is_line_feed b ≡ false
    → is_open (bytes ++ b ∷ []) ≡ (is_open bytes || (b == hash || false))
after_other bytes b other =
    let s : ℕ = suffix_len is_no_line_feed bytes in
    let more : suffix_len is_no_line_feed (bytes ++ b ∷ []) ≡ 1 + s
    = ap (prefix_len is_no_line_feed) (reverse-append bytes (b ∷ [])) ∙ rw other refl in
    let start : length (bytes ++ b ∷ []) - (1 + s) ≡ length bytes - s = omega (arith, length-append bytes (b ∷ [])) in
    let line : last_line (bytes ++ b ∷ []) ≡ last_line bytes ++ b ∷ []
    = ap (λ n. drop (length (bytes ++ b ∷ []) - n) (bytes ++ b ∷ [])) more ∙ ap (λ n. drop n (bytes ++ b ∷ [])) start
    ∙ drop-append-le (length bytes - s) bytes (b ∷ []) (omega arith) in
    ap (list_any (λ b. b == hash)) line ∙ list_any-append (λ b. b == hash) (last_line bytes) (b ∷ [])

-- false on both sides of `or` changes nothing
or_false : (v : Bool) → (false || (v || false)) ≡ v
or_false true = refl
or_false false = refl

module _ (text : List ℕ) where
  -- At this offset, where it is one of the text, a comment can only begin.
  abbrev pub IsOutside : ℕ → Type 0
  IsOutside at = at < length text → is_in_comment text at ≡ (get_or text at 0 == hash)

  -- a line feed is in no comment
  at_feed : (at : ℕ) → at < length text → is_line_feed (get_or text at 0) ≡ true → is_in_comment text at ≡ false
  at_feed at inside feed = ap is_open (take_more text at 0 inside) ∙ after_feed (take at text) (get_or text at 0) feed

  -- another byte is in a comment where one was open before it, or where it is a `#`
  at_other : (at : ℕ) → at < length text → is_line_feed (get_or text at 0) ≡ false
      → is_in_comment text at ≡ (is_open (take at text) || (get_or text at 0 == hash || false))
  at_other at inside other = ap is_open (take_more text at 0 inside)
      ∙ after_other (take at text) (get_or text at 0) other

  -- in front of a line feed a comment can only begin
  pub outside_feed : (at : ℕ) → (at < length text → is_line_feed (get_or text at 0) ≡ true) → IsOutside at
  outside_feed at feed inside = at_feed at inside (feed inside)
      ∙ sym (differs is_line_feed hash (get_or text at 0) refl (feed inside))

  -- where no comment is open, one can only begin
  pub outside_closed : (at : ℕ) → is_open (take at text) ≡ false → IsOutside at
  outside_closed at closed inside = elim (cases_Bool (is_line_feed (get_or text at 0))) [
    | inl feed ↦ outside_feed at (λ _. feed) inside
    | inr other ↦ at_other at inside other ∙ rw closed (or_false (get_or text at 0 == hash))
  ]

  -- at the start of a text none is open
  pub outside_start : IsOutside 0
  outside_start = outside_closed 0 refl

  -- without a `#` no comment begins
  pub stays_closed : (at n : ℕ) → at + n ≤ length text → ((k : ℕ) → k < n → (get_or text (at + k) 0 == hash) ≡ false)
      → IsOutside at → (k : ℕ) → k < n → is_in_comment text (at + k) ≡ false
  stays_closed at n within none outside zero lt = rw add-zero (outside (omega arith)
      ∙ (rw add-zero at (none zero lt)))
  stays_closed at n within none outside (suc k) lt =
      let next : at + suc k ≡ at + k + 1 = omega arith in
      let before : is_in_comment text (at + k) ≡ false = stays_closed at n within none outside k (omega arith) in
      outside_closed (at + suc k) (ap (λ i. is_open (take i text)) next ∙ before) (omega arith) ∙ none (suc k) lt

  -- until a line feed a comment does not end
  pub stays_open : (at n : ℕ) → at + suc n ≤ length text → is_in_comment text at ≡ true
      → ((k : ℕ) → k < n → is_line_feed (get_or text (at + suc k) 0) ≡ false) → (k : ℕ) → k < suc n
      → is_in_comment text (at + k) ≡ true
  stays_open at n within begins none zero lt = rw add-zero begins
  stays_open at n within begins none (suc k) lt =
      let next : at + suc k ≡ at + k + 1 = omega arith in
      let before : is_in_comment text (at + k) ≡ true = stays_open at n within begins none k (omega arith) in
      at_other (at + suc k) (omega arith) (none k (omega arith))
      ∙ rw (ap (λ i. is_open (take i text)) next ∙ before) refl
