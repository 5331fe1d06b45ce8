-- Stretches of a text, all of whose bytes are kept or none, and none of which is bad.
use Rattle.std.proofs.Common.{◌≡◌, ℕ, zero, suc, ◌+◌, ◌-◌, ◌≤◌, ◌<◌, Bool, true, false, cond, not, List, [], ◌∷◌}
use Rattle.std.proofs.Common.{◌++◌, length, get_or, take, drop, Option, None, refl, sym, ap, ◌∙◌, arith, add-zero}
use Rattle.std.proofs.Common.{zero-add, map}
use Rattle.std.specs.Prelude.{◌==◌, filter, find, slice_index}
use Rattle.std.specs.List.{range_with_len}
use Rattle.std.specs.Option.{option_or}
use Rattle.std.proofs.lemmas.List.Elements.{filter-append}
use Rattle.std.proofs.lemmas.List.Folds.{find-append}
use Rattle.std.proofs.Math.Bool.{or-true}
use Rattle.dp_base.specs.Bytes.{is_name_byte}
use Rattle.dp_lexer.specs.Bytes.{hash, is_blank, is_in_alphabet, is_line_feed}
use Rattle.dp_lexer.specs.Comments.{is_in_comment, is_kept, is_bad}
use Rattle.dp_lexer.proofs.Classes.{differs, name_not_blank}
use Rattle.dp_lexer.proofs.CommentSteps.{is_open, IsOutside, outside_closed, stays_closed, stays_open}
use Rattle.dp_lexer.proofs.Lexeme.{cut}

-- numbers in a row, in two parts
range-append : (a n m : ℕ) → range_with_len a (n + m) ≡ range_with_len a n ++ range_with_len (a + n) m
range-append a zero m = rw (zero-add, add-zero) refl
range-append a (suc n) m =
    let more : suc n + m ≡ suc (n + m) = omega arith in
    let next : a + 1 + n ≡ a + suc n = omega arith in
    rw more (ap (λ l. a ∷ l) (range-append (a + 1) n m
    ∙ ap (λ s. range_with_len (a + 1) n ++ range_with_len s m) next))

-- a filter that answers the same of each keeps all or none
filter-range : (p : ℕ → Bool) (v : Bool) (a n : ℕ) → ((k : ℕ) → k < n → p (a + k) ≡ v)
    → filter p (range_with_len a n) ≡ cond v (range_with_len a n) []
filter-range p true a zero each = refl
filter-range p false a zero each = refl
filter-range p v a (suc n) each = rw (here, filter-range p v (a + 1) n later) (both v)
  where
    here : p a ≡ v
    here = rw add-zero at (each 0 (omega arith))

    later : (k : ℕ) → k < n → p (a + 1 + k) ≡ v
    later k lt = let next : a + suc k ≡ a + 1 + k = omega arith in rw next at (each (suc k) (omega arith))

    both : (w : Bool)
        → cond w (a ∷ cond w (range_with_len (a + 1) n) []) (cond w (range_with_len (a + 1) n) [])
        ≡ cond w (a ∷ range_with_len (a + 1) n) []
    both true = refl
    both false = refl

-- a search that passes none finds none
find-range : (p : ℕ → Bool) (a n : ℕ) → ((k : ℕ) → k < n → p (a + k) ≡ false) → find p (range_with_len a n) ≡ None
find-range p a zero each = refl
find-range p a (suc n) each = rw here (find-range p (a + 1) n later)
  where
    here : p a ≡ false
    here = rw add-zero at (each 0 (omega arith))

    later : (k : ℕ) → k < n → p (a + 1 + k) ≡ false
    later k lt = let next : a + suc k ≡ a + 1 + k = omega arith in rw next at (each (suc k) (omega arith))

-- the bytes at the offsets of a slice are the slice
pub map-range : (text : List ℕ) (a n : ℕ) → a + n ≤ length text
    → map (slice_index text) (range_with_len a n) ≡ take n (drop a text)
map-range text a zero within = refl
map-range text a (suc n) within = ap (λ l. get_or text a 0 ∷ l) (map-range text (a + 1) n (omega arith))
    ∙ sym (ap (take (suc n)) (cut text a (omega arith)))

-- a byte that begins no comment and is not bad, and is kept or not
pub record IsPlain (kept : Bool) (b : ℕ) : Type 0 where
  pub no_hash : (b == hash) ≡ false
  pub blank : not (is_blank b) ≡ kept
  pub allowed : is_in_alphabet b ≡ true

-- a byte of names and numbers is kept
pub named_plain : (b : ℕ) → is_name_byte b ≡ true → IsPlain true b
named_plain b named = record {
  no_hash = differs is_name_byte hash b refl named;
  blank =
      ap not (name_not_blank b named);
  allowed = rw named refl;
}

-- a blank is not
pub blank_plain : (b : ℕ) → is_blank b ≡ true → IsPlain false b
blank_plain b is = record {
  no_hash = differs is_blank hash b refl is;
  blank = ap not is;
  allowed =
      rw (is, or-true (is_name_byte b)) refl;
}

module _ (text : List ℕ) where
  -- what is kept of the text from an offset on, and the first bad byte there
  abbrev pub kept_from : ℕ → List ℕ
  kept_from at = filter (is_kept text) (range_with_len at (length text - at))

  -- the first bad byte from an offset on
  abbrev pub bad_from : ℕ → Option ℕ
  bad_from at = find (is_bad text) (range_with_len at (length text - at))

  -- from this offset on so many bytes are all kept or all not, and not bad, and behind them a comment can only begin
  pub record IsStretch (at n : ℕ) (kept : Bool) : Type 0 where
    pub kept_is : (k : ℕ) → k < n → is_kept text (at + k) ≡ kept
    pub good : (k : ℕ) → k < n → is_bad text (at + k) ≡ false
    pub after : IsOutside text (at + n)

  -- the offsets from here on are those of a stretch and those behind it
  apart : (at n : ℕ) → at + n ≤ length text
      → range_with_len at (length text - at) ≡ range_with_len at n ++ range_with_len (at + n) (length text - (at + n))
  apart at n within =
      let sum : length text - at ≡ n + (length text - (at + n)) = omega arith in
      ap (range_with_len at) sum ∙ range-append at n (length text - (at + n))

  -- what is kept from here on is what is kept of the stretch and behind it
  pub kept-stretch : (at n : ℕ) (kept : Bool) → at + n ≤ length text → IsStretch at n kept
      → kept_from at ≡ cond kept (range_with_len at n) [] ++ kept_from (at + n)
  kept-stretch at n kept within stretch =
      ap (filter (is_kept text)) (apart at n within)
      ∙ filter-append (is_kept text) (range_with_len at n) (range_with_len (at + n) (length text - (at + n)))
      ∙ ap (λ l. l ++ kept_from (at + n)) (filter-range (is_kept text) kept at n stretch.kept_is)

  -- a stretch has no bad byte
  pub bad-stretch : (at n : ℕ) (kept : Bool) → at + n ≤ length text → IsStretch at n kept
      → bad_from at ≡ bad_from (at + n)
  bad-stretch at n kept within stretch =
      ap (find (is_bad text)) (apart at n within)
      ∙ find-append (is_bad text) (range_with_len at n) (range_with_len (at + n) (length text - (at + n)))
      ∙ ap (λ o. option_or o (bad_from (at + n))) (find-range (is_bad text) at n stretch.good)

  -- bytes that begin no comment are a stretch
  pub plain_stretch : (at n : ℕ) (kept : Bool) → at + suc n ≤ length text → IsOutside text at
      → ((k : ℕ) → k < suc n → IsPlain kept (get_or text (at + k) 0)) → IsStretch at (suc n) kept
  plain_stretch at n kept within outside plain = record {
    kept_is = λ k lt. rw (closed k lt) ((plain k lt).blank);
    good = λ k lt. rw (closed k lt, (plain k lt).allowed) refl;
    after = let next : at + suc n ≡ at + n + 1 = omega arith in outside_closed text (at + suc n)
        (ap (λ i. is_open (take i text)) next ∙ closed n (omega arith));
  }
    where
      closed : (k : ℕ) → k < suc n → is_in_comment text (at + k) ≡ false
      closed = stays_closed text at (suc n) within (λ k lt. (plain k lt).no_hash) outside

  -- a comment is a stretch
  pub comment_stretch : (at n : ℕ) → at + suc n ≤ length text → is_in_comment text at ≡ true
      → ((k : ℕ) → k < n → is_line_feed (get_or text (at + suc k) 0) ≡ false) → IsOutside text (at + suc n)
      → IsStretch at (suc n) false
  comment_stretch at n within begins none after = record {
    kept_is = λ k lt. rw (stays_open text at n within begins none k lt) refl;
    good = λ k lt. rw (stays_open text at n within begins none k lt) refl;
    after = after;
  }
