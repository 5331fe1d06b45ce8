-- A decimal that is written is read as it is.
use Rattle.std.proofs.Common.{◌≡◌, ◌≢◌, ℕ, zero, suc, ◌+◌, ◌*◌, ◌/◌, ◌%◌, ◌^◌, ◌<◌, ◌≤◌, Bool, true, false, List, []}
use Rattle.std.proofs.Common.{◌∷◌, ◌++◌}
use Rattle.std.proofs.Common.{length, drop, take, Ok, refl, sym, ap, subst, ◌∙◌, arith, append_assoc}
use Rattle.std.specs.Prelude.{◌==◌}
use Rattle.std.specs.Fmt.{decimal}
use Rattle.std.specs.Char.{is_ascii_digit}
use Rattle.std.specs.List.{list_all, take_while}
use Rattle.std.specs.Str.Parse.{AllDigits, digits_value}
use Rattle.std.proofs.lemmas.Bool.{and_parts, le-leb, le-ltb, lt-leb, ne_eqb}
use Rattle.std.proofs.lemmas.Fmt.{decimal_is_IsNumeral_wide}
use Rattle.std.proofs.lemmas.Int.Digits.{digits_value_push}
use Rattle.std.proofs.lemmas.List.{append-nil, length-append}
use Rattle.std.proofs.lemmas.List.Folds.{list_all-append}
use Rattle.std.proofs.lemmas.Str.{digit_value_digit}
use Rattle.std.proofs.lemmas.Str.Parse.{digit_from_value}
use Rattle.std.proofs.Math.Nat.{div-le_self, div-mul-le_self, mod-eq-sub-div-mul, mod-lt}
use Rattle.std.proofs.Math.Seq.{drop-append_seam, take-append_seam}
use Rattle.dp_base.specs.Bytes.{is_name_byte, is_sign}
use Rattle.dp_base.specs.DecimalShape.{after_digits, digit_count, first, is_decimal, is_magnitude, unsigned}
use Rattle.dp_base.specs.Decimals.{decimal_of, denominator_tens, exponent, fraction, judged, magnitude_where}
use Rattle.dp_base.specs.Decimals.{numerator_tens, shortest, signed, significand, tens_less, tens_more}
use Rattle.dp_base.proofs.DigitRuns.{digit_low}
use Rattle.dp_base.proofs.Grammar.{decimal_from_shape}
use Rattle.dp_base.proofs.Shortest.{unsigned_abs-signed}
use Rattle.dp_base.proofs.SignificandLaws.{tens_up, times_ten}
use Rattle.dp_lexer.specs.declared.Kind.TheVariants.{Number}
use Rattle.dp_lexer.specs.TokenLaws.{IsOfKind}
use Rattle.dp_writer.specs.WrittenNumbers.{decimal_text, fraction_text, last_digits, magnitude_text, sign_text}
use Rattle.dp_writer.proofs.DigitTexts.{signed_text}
use Rattle.dp_writer.proofs.ShortestDigits.{shortest_stays}

-- ---- digits

digit_byte : (d : ℕ) → d < 10 → is_ascii_digit (48 + d) ≡ true
digit_byte d below = rw (le-leb 48 (48 + d) (omega arith), le-leb (48 + d) 57 (omega arith)) refl

pub all_digits : (ds : List ℕ) → AllDigits 10 ds → list_all is_ascii_digit ds ≡ true
all_digits [] are = refl
all_digits (c ∷ cs) are =
    let low : 48 ≤ c = omega (arith, digit_from_value c are.0) in
    let high : c ≤ 57 = omega (arith, digit_from_value c are.0) in
    rw (le-leb 48 c low, le-leb c 57 high) (all_digits cs are.1)

last_are_digits : (k n : ℕ) → list_all is_ascii_digit (last_digits k n) ≡ true
last_are_digits zero n = refl
last_are_digits (suc k) n =
    list_all-append is_ascii_digit (last_digits k (n / 10)) ((48 + n % 10) ∷ [])
    ∙ rw (last_are_digits k (n / 10), digit_byte (n % 10) (omega arith)) refl

length_last : (k n : ℕ) → length (last_digits k n) ≡ k
length_last zero n = refl
length_last (suc k) n =
    omega (arith, length-append (last_digits k (n / 10)) ((48 + n % 10) ∷ []), length_last k (n / 10))

-- the number that digits and the last digits of n write
pub value_with : (ds : List ℕ) (k n : ℕ) → n < 10 ^ k
    → digits_value 10 (ds ++ last_digits k n) ≡ digits_value 10 ds * 10 ^ k + n
value_with ds zero n below =
    let none : digits_value 10 ds ≡ digits_value 10 ds * 10 ^ 0 + n = omega arith in
    ap (digits_value 10) (append-nil ds) ∙ none
value_with ds (suc k) n below =
    let plus : suc k ≡ k + 1 = omega arith in
    let ten : digits_value 10 ds * 10 ^ suc k ≡ digits_value 10 ds * 10 ^ k * 10 =
    ap (λ i. digits_value 10 ds * 10 ^ i) plus ∙ times_ten (digits_value 10 ds) k in
    let one : 1 * 10 ^ suc k ≡ 1 * 10 ^ k * 10 = ap (λ i. 1 * 10 ^ i) plus ∙ times_ten 1 k in
    let front = value_with ds k (n / 10) (omega (arith, one, below)) in
    let last = digit_value_digit (48 + n % 10) (omega arith, omega arith) in
    ap (digits_value 10) (sym (append_assoc ds (last_digits k (n / 10)) ((48 + n % 10) ∷ [])))
    ∙ digits_value_push 10 (ds ++ last_digits k (n / 10)) (48 + n % 10)
    ∙ omega (arith, front, last, ten)

-- ---- digits at the front of a text

front_count : (ds rest : List ℕ) → list_all is_ascii_digit ds ≡ true → is_ascii_digit (first rest) ≡ false
    → digit_count (ds ++ rest) ≡ length ds
front_count [] [] all other = refl
front_count [] (r ∷ rest) all other = rw other refl
front_count (d ∷ ds) rest all other =
    let here = (and_parts (is_ascii_digit d) (list_all is_ascii_digit ds) all).0 in
    let more = front_count ds rest (and_parts (is_ascii_digit d) (list_all is_ascii_digit ds) all).1 other in
    rw here (omega (arith, more))

front : (ds rest : List ℕ) → list_all is_ascii_digit ds ≡ true → is_ascii_digit (first rest) ≡ false
    → (take_while is_ascii_digit (ds ++ rest) ≡ ds) × (digit_count (ds ++ rest) ≡ length ds)
front ds rest all other =
    let count = front_count ds rest all other in
    (ap (λ n. take n (ds ++ rest)) count ∙ take-append_seam ds rest, count)

behind_front : (ds rest : List ℕ) → list_all is_ascii_digit ds ≡ true → is_ascii_digit (first rest) ≡ false
    → after_digits (ds ++ rest) ≡ rest
behind_front ds rest all other = ap (λ n. drop n (ds ++ rest)) (front ds rest all other).1
    ∙ drop-append_seam ds rest

-- digits alone
alone : (ds : List ℕ) → list_all is_ascii_digit ds ≡ true
    → (take_while is_ascii_digit ds ≡ ds) × (after_digits ds ≡ [])
alone ds all = (
  ap (take_while is_ascii_digit) (sym (append-nil ds)) ∙ (front ds [] all refl).0,
  ap after_digits (sym (append-nil ds)) ∙ behind_front ds [] all refl,
)

first_digit : (ds rest : List ℕ) → list_all is_ascii_digit ds ≡ true → 0 < length ds
    → (is_sign (first (ds ++ rest)) ≡ false) × ((first (ds ++ rest) == 45) ≡ false)
first_digit [] rest all some = absurd (omega (arith, some))
first_digit (d ∷ ds) rest all some =
    let digit = (and_parts (is_ascii_digit d) (list_all is_ascii_digit ds) all).0 in
    let low : 48 ≤ d = digit_low d digit in
    let minus : (d == 45) ≡ false = ne_eqb d 45 (λ e. absurd (omega (arith, e, low))) in
    (rw (ne_eqb d 43 (λ e. absurd (omega (arith, e, low))), minus) refl, minus)

-- ---- a number without its sign

-- what is read of a number of these digits, all of them, and so many of them behind the point
record IsNumber (number : List ℕ) (n k : ℕ) : Type 0 where
  shape : is_magnitude number ≡ true
  digits : significand number ≡ n
  more : numerator_tens number ≡ 0
  less : denominator_tens number ≡ k

-- digits alone
whole_number : (ds : List ℕ) (n : ℕ) → list_all is_ascii_digit ds ≡ true → 0 < length ds → digits_value 10 ds ≡ n
    → IsNumber (ds ++ []) n 0
unfolding significand numerator_tens denominator_tens is_decimal
whole_number ds n all some value =
    let after : after_digits (ds ++ []) ≡ [] = behind_front ds [] all refl in
    let sign = first_digit ds [] all some in
    let bare : unsigned (ds ++ []) ≡ ds ++ [] = rw sign.0 refl in
    record {
      shape = subst (λ l. is_magnitude l ≡ true) bare (decimal_from_shape (ds ++ []) (record {
        sign = [];
        whole = ds;
        mark = [];
        fraction = [];
        exponent = [];
        text_is = refl;
        sign_is = tt;
        whole_are = all;
        mark_is = tt;
        fraction_are = refl;
        some = omega (arith, some);
        exponent_is = tt;
      }));
      digits = (λ i. digits_value 10 ((front ds [] all refl).0 i ++ fraction (after i)))
          ∙ ap (digits_value 10) (append-nil ds) ∙ value;
      more = ap (λ l. tens_more (exponent l)) after;
      less = ap (λ l. length (fraction l) + tens_less (exponent l)) after;
    }

-- digits, a point and digits
pointed_number : (ds fs : List ℕ) (n k : ℕ) → list_all is_ascii_digit ds ≡ true → 0 < length ds
    → list_all is_ascii_digit fs ≡ true → length fs ≡ k → digits_value 10 (ds ++ fs) ≡ n
    → IsNumber (ds ++ 46 ∷ fs) n k
unfolding significand numerator_tens denominator_tens is_decimal
pointed_number ds fs n k all some digits count value =
    let after : after_digits (ds ++ 46 ∷ fs) ≡ 46 ∷ fs = behind_front ds (46 ∷ fs) all refl in
    let sign = first_digit ds (46 ∷ fs) all some in
    let bare : unsigned (ds ++ 46 ∷ fs) ≡ ds ++ 46 ∷ fs = rw sign.0 refl in
    let end : fs ≡ fs ++ [] = sym (append-nil fs) in
    record {
      shape = subst (λ l. is_magnitude l ≡ true) bare (decimal_from_shape (ds ++ 46 ∷ fs) (record {
        sign = [];
        whole = ds;
        mark = 46 ∷ [];
        fraction = fs;
        exponent = [];
        text_is = ap (λ l. ds ++ 46 ∷ l) end;
        sign_is = tt;
        whole_are = all;
        mark_is = refl;
        fraction_are = digits;
        some = omega (arith, some);
        exponent_is = tt;
      }));
      digits = (λ i. digits_value 10 ((front ds (46 ∷ fs) all refl).0 i ++ fraction (after i)))
          ∙ ap (λ l. digits_value 10 (ds ++ l)) (alone fs digits).0 ∙ value;
      more = ap (λ l. tens_more (exponent l)) after ∙ ap tens_more (alone fs digits).1;
      less = ap (λ l. length (fraction l) + tens_less (exponent l)) after
          ∙ (λ i. length ((alone fs digits).0 i) + tens_less ((alone fs digits).1 i)) ∙ omega (arith, count);
    }

-- quotient and rest
whole_again : (n m : ℕ) → n / m * m + n % m ≡ n
whole_again n m = omega (arith, mod-eq-sub-div-mul n m, div-mul-le_self n m)

-- a magnitude as it is written
magnitude_number : (n k : ℕ) → n < 10 ^ 64 → IsNumber (magnitude_text n k) n k
magnitude_number n zero fits =
    let same : n / 10 ^ 0 ≡ n = omega arith in
    let part = decimal_is_IsNumeral_wide (n / 10 ^ 0) (omega (arith, same, fits)) in
    whole_number (decimal (n / 10 ^ 0)) n (all_digits _ part.0.1) part.0.0 (part.1 ∙ same)
magnitude_number n (suc k) fits =
    let tens : 0 < 10 ^ suc k = omega (arith, tens_up 0 (suc k) (omega arith)) in
    let part = decimal_is_IsNumeral_wide (n / 10 ^ suc k) (omega (arith, div-le_self n (10 ^ suc k), fits)) in
    let rest = n % 10 ^ suc k in
    pointed_number (decimal (n / 10 ^ suc k)) (last_digits (suc k) rest) n (suc k) (all_digits _ part.0.1) part.0.0
    (last_are_digits (suc k) rest) (length_last (suc k) rest)
    (value_with (decimal (n / 10 ^ suc k)) (suc k) rest (mod-lt n {m = 10 ^ suc k} tens)
    ∙ ap (λ v. v * 10 ^ suc k + rest) part.1 ∙ whole_again n (10 ^ suc k))

-- and begins with a digit
starts_with_digit : (n k : ℕ) → n < 10 ^ 64
    → (is_sign (first (magnitude_text n k)) ≡ false) × ((first (magnitude_text n k) == 45) ≡ false)
starts_with_digit n k fits =
    let part = decimal_is_IsNumeral_wide (n / 10 ^ k) (omega (arith, div-le_self n (10 ^ k), fits)) in
    first_digit (decimal (n / 10 ^ k)) (fraction_text n k) (all_digits _ part.0.1) part.0.0

-- ---- with its sign

-- a number within the limits is given
kept : (negative : Bool) (n k : ℕ) → n < 10 ^ (18 + k) → k ≤ 18
    → judged (record { units = signed negative n; digits = k })
    ≡ Ok (record { units = signed negative n; digits = k })
kept negative n k below few =
    rw (unsigned_abs-signed negative n, lt-leb (10 ^ (18 + k)) n below, le-ltb 18 k few) refl

-- it has the least digits
least : (negative : Bool) (n k : ℕ) → (0 < k → n % 10 ≢ 0)
    → shortest negative (n * 10 ^ 0) k ≡ record { units = signed negative n; digits = k }
least negative n zero ends = let same : n * 10 ^ 0 ≡ n = omega arith in ap (λ v. shortest negative v 0) same
least negative n (suc k) ends =
    let same : n * 10 ^ 0 ≡ n = omega arith in
    ap (λ v. shortest negative v (suc k)) same ∙ shortest_stays negative n (suc k) (ends (omega arith))

-- what is read of a number
read_number : (negative : Bool) (number : List ℕ) (n k : ℕ) → IsNumber number n k → (0 < k → n % 10 ≢ 0)
    → n < 10 ^ (18 + k) → k ≤ 18
    → magnitude_where (is_magnitude number) negative number ≡ Ok (record { units = signed negative n; digits = k })
read_number negative number n k is ends below few =
    ap (λ b. magnitude_where b negative number) is.shape
    ∙ (λ i. judged (shortest negative (is.digits i * 10 ^ is.more i) (is.less i)))
    ∙ ap judged (least negative n k ends)
    ∙ kept negative n k below few

-- a decimal that is written is read as it is
pub read_written : (negative : Bool) (n k : ℕ) → (0 < k → n % 10 ≢ 0) → n < 10 ^ (18 + k) → k ≤ 18
    → (negative ≡ true → 0 < n)
    → decimal_of (decimal_text (record { units = signed negative n; digits = k }))
    ≡ Ok (record { units = signed negative n; digits = k })
unfolding decimal_of
read_written negative n k ends below few some =
    let most : 10 ^ (18 + k) ≤ 10 ^ 36 = tens_up (18 + k) 36 (omega (arith, few)) in
    let fits : n < 10 ^ 64 = omega (arith, most, below) in
    let is = magnitude_number n k fits in
    ap decimal_of (signed_text negative n k some) ∙ by_sign negative (starts_with_digit n k fits) is
  where
    by_sign : (sign : Bool)
        → (is_sign (first (magnitude_text n k)) ≡ false) × ((first (magnitude_text n k) == 45) ≡ false)
        → IsNumber (magnitude_text n k) n k
        → decimal_of (sign_text sign ++ magnitude_text n k) ≡ Ok (record { units = signed sign n; digits = k })
    by_sign true starts is = read_number true (magnitude_text n k) n k is ends below few
    by_sign false starts is = rw (starts.0, starts.1) (read_number false (magnitude_text n k) n k is ends below few)

-- ---- the token of a number

pub digit_names : (ds : List ℕ) → list_all is_ascii_digit ds ≡ true → list_all is_name_byte ds ≡ true
digit_names [] all = refl
digit_names (d ∷ ds) all =
    let parts = and_parts (is_ascii_digit d) (list_all is_ascii_digit ds) all in
    rw parts.0 (digit_names ds parts.1)

names_behind : (xs ys : List ℕ) → list_all is_name_byte xs ≡ true → list_all is_name_byte ys ≡ true
    → list_all is_name_byte (xs ++ ys) ≡ true
names_behind xs ys a b = list_all-append is_name_byte xs ys ∙ rw (a, b) refl

fraction_names : (n k : ℕ) → list_all is_name_byte (fraction_text n k) ≡ true
fraction_names n zero = refl
fraction_names n (suc k) =
    digit_names (last_digits (suc k) (n % 10 ^ suc k)) (last_are_digits (suc k) (n % 10 ^ suc k))

magnitude_names : (n k : ℕ) → n < 10 ^ 64 → list_all is_name_byte (magnitude_text n k) ≡ true
magnitude_names n k fits =
    let part = decimal_is_IsNumeral_wide (n / 10 ^ k) (omega (arith, div-le_self n (10 ^ k), fits)) in
    names_behind (decimal (n / 10 ^ k)) (fraction_text n k)
    (digit_names (decimal (n / 10 ^ k)) (all_digits (decimal (n / 10 ^ k)) part.0.1))
    (fraction_names n k)

token_shape : (sign : Bool) (number : List ℕ) → is_sign (first number) ≡ false → is_magnitude number ≡ true
    → is_decimal (sign_text sign ++ number) ≡ true
unfolding is_decimal
token_shape true number plain shape = shape
token_shape false number plain shape = rw plain shape

-- a decimal that is written is one Number
pub number_token : (negative : Bool) (n k : ℕ) → n < 10 ^ (18 + k) → k ≤ 18 → (negative ≡ true → 0 < n)
    → IsOfKind Number (decimal_text (record { units = signed negative n; digits = k }))
number_token negative n k below few some =
    let most : 10 ^ (18 + k) ≤ 10 ^ 36 = tens_up (18 + k) 36 (omega (arith, few)) in
    let fits : n < 10 ^ 64 = omega (arith, most, below) in
    subst (IsOfKind Number) (sym (signed_text negative n k some))
    (by_sign negative (starts_with_digit n k fits) (magnitude_number n k fits) (magnitude_names n k fits))
  where
    by_sign : (sign : Bool)
        → (is_sign (first (magnitude_text n k)) ≡ false) × ((first (magnitude_text n k) == 45) ≡ false)
        → IsNumber (magnitude_text n k) n k → list_all is_name_byte (magnitude_text n k) ≡ true
        → IsOfKind Number (sign_text sign ++ magnitude_text n k)
    by_sign true starts is names = (names, token_shape true (magnitude_text n k) starts.0 is.shape)
    by_sign false starts is names = (names, token_shape false (magnitude_text n k) starts.0 is.shape)
