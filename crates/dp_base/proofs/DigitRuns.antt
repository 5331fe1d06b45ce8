-- The digits at the front of a text, one by one.
use Rattle.std.proofs.Common.{◌≡◌, ℕ, ◌+◌, ◌-◌, ◌<◌, ◌≤◌, true, false, leb, inl, inr, List, [], ◌∷◌, ◌++◌, length}
use Rattle.std.proofs.Common.{get_or, take, sym, ap, subst, ◌∙◌, append_assoc, arith}
use Rattle.std.specs.Char.{is_ascii_digit}
use Rattle.std.specs.List.{prefix_len}
use Rattle.std.proofs.lemmas.Bool.{and_parts, leb-true}
use Rattle.std.proofs.lemmas.List.{take_more}
use Rattle.std.proofs.lemmas.List.Sums.{prefix_len_passes, prefix_len_stops, prefix_len-le-length}
use Rattle.dp_base.specs.declared.significand.Significand.{Significand}
use Rattle.dp_base.specs.Significands.{IsSeen}
use Rattle.dp_base.proofs.Order.{equal_or_less}

-- the byte of a digit is at least 48
pub digit_low : (b : ℕ) → is_ascii_digit b ≡ true → 48 ≤ b
digit_low b digit = leb-true 48 b (and_parts (leb 48 b) (leb b 57) digit).0

-- and at most 57
pub digit_high : (b : ℕ) → is_ascii_digit b ≡ true → b ≤ 57
digit_high b digit = leb-true b 57 (and_parts (leb 48 b) (leb b 57) digit).1

-- a digit behind digits at the front is one more of them
pub run_more : (text : List ℕ) (i : ℕ) → i ≤ prefix_len is_ascii_digit text → i < length text
    → is_ascii_digit (get_or text i 0) ≡ true → i + 1 ≤ prefix_len is_ascii_digit text
run_more text i le lt digit =
    elim (equal_or_less i (prefix_len is_ascii_digit text) le) [
      | inl e ↦ let stop = prefix_len_stops is_ascii_digit text 0 (omega arith) in let here = rw (← e) at stop in
          absurd cc
      | inr more ↦ omega arith
    ]

-- they end at a byte that is no digit
pub run_stop : (text : List ℕ) (i : ℕ) → i ≤ prefix_len is_ascii_digit text → is_ascii_digit (get_or text i 0) ≡ false
    → prefix_len is_ascii_digit text ≡ i
run_stop text i le other =
    elim (equal_or_less i (prefix_len is_ascii_digit text) le) [
      | inl e ↦ sym e
      | inr more ↦ let pass = prefix_len_passes is_ascii_digit text i 0 more in absurd cc
    ]

-- or at the end
pub run_end : (text : List ℕ) (i : ℕ) → i ≤ prefix_len is_ascii_digit text → length text ≤ i
    → prefix_len is_ascii_digit text ≡ i
run_end text i le end = omega (arith, prefix_len-le-length is_ascii_digit text)

-- a significand of the first digits and one more
pub seen_more : (ds text : List ℕ) (i : ℕ) (s : Significand) → i < length text
    → is_ascii_digit (get_or text i 0) ≡ true
    → IsSeen ((ds ++ take i text) ++ (48 + (get_or text i 0 - 48)) ∷ []) s → IsSeen (ds ++ take (i + 1) text) s
seen_more ds text i s lt digit seen =
    let low = digit_low (get_or text i 0) digit in
    let back : 48 + (get_or text i 0 - 48) ≡ get_or text i 0 = omega arith in
    let same : (ds ++ take i text) ++ (48 + (get_or text i 0 - 48)) ∷ [] ≡ ds ++ take (i + 1) text =
    append_assoc ds (take i text) (_ ∷ []) ∙ ap (λ b. ds ++ (take i text ++ b ∷ [])) back
    ∙ ap (λ (l : List ℕ). ds ++ l) (sym (take_more text i 0 lt)) in
    subst (λ (l : List ℕ). IsSeen l s) same seen

-- one of all of them
pub seen_run : (ds text : List ℕ) (i : ℕ) (s : Significand) → prefix_len is_ascii_digit text ≡ i
    → IsSeen (ds ++ take i text) s → IsSeen (ds ++ take (prefix_len is_ascii_digit text) text) s
seen_run ds text i s e seen = subst (λ k. IsSeen (ds ++ take k text) s) (sym e) seen
