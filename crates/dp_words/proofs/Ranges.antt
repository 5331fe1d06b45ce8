-- Values that are allowed, option by option.
use Rattle.std.proofs.Common.{◌≡◌, ◌∙◌, ◌&&◌, Bool, true, false, List, [], ◌∷◌, map, refl, ap}
use Rattle.std.proofs.lemmas.Bool.{and_parts}
use Rattle.std.proofs.lemmas.List.Folds.{list_all-append}
use Rattle.std.specs.List.{list_all}
use Rattle.dp_words.specs.Words.{OptionRow, Values, all_hold, holds, number_option, options, order_option, settings}

-- each of a list holds
abbrev pub Each : (OptionRow → Bool) → List OptionRow → Type 0
Each holds [] = Unit {0}
Each holds (o ∷ os) = (holds o ≡ true) × Each holds os

each : (holds : OptionRow → Bool) (os : List OptionRow) → list_all holds os ≡ true → Each holds os
each holds [] is = tt
each holds (o ∷ os) is =
    let parts = and_parts (holds o) (list_all holds os) is in
    (parts.0, each holds os parts.1)

-- the options hold, in the order of the table
pub options_hold : (v : Values) → all_hold v ≡ true → Each (holds v) options
options_hold v is = each (holds v) options is

-- the numbers hold
abbrev pub numbers_hold : Values → Bool
numbers_hold v = list_all (holds v) (map number_option settings)

-- all options hold where the numbers do and the order does
pub all_are : (v : Values) (numbers order : Bool) → numbers_hold v ≡ numbers → holds v order_option ≡ order
    → all_hold v ≡ (numbers && order)
all_are v numbers order of_numbers of_order =
    list_all-append (holds v) (map number_option settings) (order_option ∷ [])
    ∙ ap (λ b. b && (holds v order_option && true)) of_numbers ∙ ap (λ b. numbers && (b && true)) of_order
    ∙ ap (λ b. numbers && b) (and_true order)
  where
    and_true : (b : Bool) → (b && true) ≡ b
    and_true true = refl
    and_true false = refl
