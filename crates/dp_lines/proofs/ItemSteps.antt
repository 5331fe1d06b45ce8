-- One byte further in an item.
use Rattle.std.proofs.Common.{◌≡◌, ℕ, suc, ◌+◌, ◌-◌, ◌*◌, ◌<◌, ◌≤◌, min, true, false, ◌&&◌, List, [], ◌∷◌, ◌++◌}
use Rattle.std.proofs.Common.{length, get_or, take, drop, refl, sym, ap, ◌∙◌, append_assoc, arith, add-one}
use Rattle.std.specs.Char.{is_ascii_digit, digit_value}
use Rattle.std.specs.Str.{all_ascii_digits}
use Rattle.std.specs.Str.Parse.{digits_value}
use Rattle.std.proofs.Math.Seq.{drop-cons, take-suc}
use Rattle.std.proofs.lemmas.List.{drop_all, take_all}
use Rattle.std.proofs.lemmas.Int.Digits.{digits_value_more}
use Rattle.std.proofs.lemmas.Str.{digit_value_digit}
use Rattle.dp_base.proofs.DigitRuns.{digit_high, digit_low}
use Rattle.dp_lines.specs.Scanning.{is_break, item_of, after_item, starts_number, is_plain}
use Rattle.dp_lines.specs.Lines.{cap}

-- a byte of an item
pub item_goes_on : (s : List ℕ) (i : ℕ) → i < length s → is_break (get_or s i 0) ≡ false
    → (item_of (drop i s) ≡ get_or s i 0 ∷ item_of (drop (suc i) s))
    × (after_item (drop i s) ≡ after_item (drop (suc i) s))
item_goes_on s i lt on = (
  ap item_of (drop-cons s i 0 lt) ∙ rw on refl,
  ap after_item (drop-cons s i 0 lt)
      ∙ rw on refl,
)

-- the byte after it
pub item_stops : (s : List ℕ) (i : ℕ) → i < length s → is_break (get_or s i 0) ≡ true
    → (item_of (drop i s) ≡ []) × (after_item (drop i s) ≡ drop i s)
item_stops s i lt off = (
  ap item_of (drop-cons s i 0 lt) ∙ rw off refl,
  ap after_item (drop-cons s i 0 lt)
      ∙ rw off (sym (drop-cons s i 0 lt)),
)

-- what is known while an item is cut off
pub record IsCutAt (s : List ℕ) (i : ℕ) : Type 0 where
  pub item : take i s ++ item_of (drop i s) ≡ item_of s
  pub rest : after_item (drop i s) ≡ after_item s

pub cut_further : (s : List ℕ) (i : ℕ) → i < length s → is_break (get_or s i 0) ≡ false → IsCutAt s i
    → IsCutAt s (i + 1)
cut_further s i lt on is =
    let step = item_goes_on s i lt on in
    rw add-one record {
      item = ap (λ (l : List ℕ). l ++ item_of (drop (suc i) s)) (take-suc s i 0 lt)
          ∙ append_assoc (take i s) (get_or s i 0 ∷ []) _ ∙ ap (λ (l : List ℕ). take i s ++ l) (sym step.0) ∙ is.item;
      rest = sym step.1 ∙ is.rest;
    }

-- ---- digits

-- one more digit of a magnitude that is cut at the cap
pub capped_more : (v m d : ℕ) → m ≡ min v cap → min (m * 10 + d) cap ≡ min (v * 10 + d) cap
capped_more v m d e = omega (arith, e)

pub digit_is : (c : ℕ) → is_ascii_digit c ≡ true → digit_value c ≡ c - 48
digit_is c h = omega (arith, digit_value_digit c (digit_low c h, digit_high c h))

-- what is known of the digits of an item up to a byte
pub record IsMagnitudeAt (value : ℕ) (s : List ℕ) (i : ℕ) : Type 0 where
  pub value_is : value ≡ min (digits_value 10 (take i s)) cap
  pub digits : all_ascii_digits (drop i s) ≡ all_ascii_digits s

digits_at : (s : List ℕ) (i : ℕ) → i < length s → all_ascii_digits (drop i s)
    ≡ (is_ascii_digit (get_or s i 0) && all_ascii_digits (drop (suc i) s))
digits_at s i lt = ap all_ascii_digits (drop-cons s i 0 lt)

pub magnitude_further : (value next : ℕ) (s : List ℕ) (i : ℕ) → i < length s → is_ascii_digit (get_or s i 0) ≡ true
    → next ≡ min (value * 10 + (get_or s i 0 - 48)) cap
    → IsMagnitudeAt value s i → IsMagnitudeAt next s (i + 1)
magnitude_further value next s i lt digit e is = record {
  value_is =
      e ∙ capped_more (digits_value 10 (take i s)) value (get_or s i 0 - 48) is.value_is
      ∙ ap (λ n. min n cap) (ap (λ d. digits_value 10 (take i s) * 10 + d) (sym (digit_is (get_or s i 0) digit))
      ∙ sym (digits_value_more 10 s i lt));
  digits = rw add-one (let step : all_ascii_digits (drop i s) ≡ all_ascii_digits (drop (suc i) s) =
      digits_at s i lt ∙ rw digit refl in sym step ∙ is.digits);
}

-- a byte that is no digit
pub no_digit : (value : ℕ) (s : List ℕ) (i : ℕ) → i < length s → is_ascii_digit (get_or s i 0) ≡ false
    → IsMagnitudeAt value s i → is_plain s ≡ false
unfolding is_plain
no_digit value s i lt other is = let none : all_ascii_digits s ≡ false =
    sym is.digits ∙ digits_at s i lt ∙ rw other refl in rw none refl

-- all are digits
pub all_digits : (value : ℕ) (s : List ℕ) (i : ℕ) → length s ≤ i → IsMagnitudeAt value s i
    → (starts_number s ≡ is_plain s) × (value ≡ min (digits_value 10 s) cap)
unfolding is_plain
all_digits value s i past is =
    let none : drop i s ≡ [] = drop_all i s past in
    let all : all_ascii_digits s ≡ true = sym is.digits ∙ ap all_ascii_digits none in
    (rw all refl, is.value_is ∙ ap (λ (l : List ℕ). min (digits_value 10 l) cap) (take_all i s past))
