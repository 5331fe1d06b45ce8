-- Worked texts: what they say, or their first bad line, by computation.
use Rattle.std.proofs.Common.{◌≡◌, ℕ, List, [], ◌∷◌, refl, Result, Ok, Err, nat_lt}
use Rattle.std.specs.Prelude.{Option, Some, None, if◌then◌else◌, codes}
use Rattle.std.specs.Fmt.{digits}
use Rattle.dp_lines.specs.declared.why.FileWhy.TheVariants.{Shape, Number, Range}
use Rattle.dp_lines.specs.Grammar.{Fault, bad, limit}
use Rattle.dp_lines.specs.Scanning.{is_plain, plain_of, signed_of, item_numbers, items_behind, numbers_at, are_typed}
use Rattle.dp_lines.specs.Scanning.{are_in_range, line_at, lines_at, text_from}
use Rattle.dp_policy.specs.PolicyGrammar.{PolicyActions, policy_lines_of}

-- a horizon above ten passes a limit, which is the horizon
abbrev above_ten : ℕ → Option ℕ
above_ten h = if nat_lt 10 h then Some h else None

-- what a text says for two agents of three actions and two observations
abbrev read : List ℕ → Result PolicyActions (Fault ℕ)
read bytes = text_from (policy_lines_of above_ten (3 ∷ 3 ∷ []) (2 ∷ 2 ∷ [])) 1 bytes

listens : read (codes "decplan policy 1\nhorizon 2\nagent 0\n0\n0 0\nagent 1\n0\n0 0\nend\n")
    ≡ Ok (record { horizon = 2; agents = ((0 ∷ []) ∷ (0 ∷ 0 ∷ []) ∷ []) ∷ ((0 ∷ []) ∷ (0 ∷ 0 ∷ []) ∷ []) ∷ [] })
unfolding is_plain plain_of signed_of item_numbers items_behind numbers_at are_typed are_in_range line_at lines_at
    digits
listens = refl

out_of_range : read (codes "decplan policy 1\nhorizon 2\nagent 0\n0\n0 3\nagent 1\n0\n0 0\nend\n")
    ≡ Err (bad 5 Range)
unfolding is_plain plain_of signed_of item_numbers items_behind numbers_at are_typed are_in_range line_at lines_at
    digits
out_of_range = refl

one_too_many : read (codes "decplan policy 1\nhorizon 2\nagent 0\n0 0\n0 0\nagent 1\n0\n0 0\nend\n")
    ≡ Err (bad 4 Shape)
unfolding is_plain plain_of signed_of item_numbers items_behind numbers_at are_typed are_in_range line_at lines_at
    digits
one_too_many = refl

too_large : read (codes "decplan policy 1\nhorizon 2\nagent 0\n4294967296\n0 0\nagent 1\n0\n0 0\nend\n")
    ≡ Err (bad 4 Number)
unfolding is_plain plain_of signed_of item_numbers items_behind numbers_at are_typed are_in_range line_at lines_at
    digits
too_large = refl

-- a number that is too large comes before one that is out of range
number_first : read (codes "decplan policy 1\nhorizon 2\nagent 0\n0\n3 4294967296\nagent 1\n0\n0 0\nend\n")
    ≡ Err (bad 5 Number)
unfolding is_plain plain_of signed_of item_numbers items_behind numbers_at are_typed are_in_range line_at lines_at
    digits
number_first = refl

passes_limit : read (codes "decplan policy 1\nhorizon 11\nagent 0\n4294967296\n") ≡ Err (limit 11)
unfolding is_plain plain_of signed_of item_numbers items_behind numbers_at are_typed are_in_range line_at lines_at
    digits
passes_limit = refl

more_behind : read (codes "decplan policy 1\nhorizon 1\nagent 0\n0\nagent 1\n0\nend\n\n") ≡ Err (bad 8 Shape)
unfolding is_plain plain_of signed_of item_numbers items_behind numbers_at are_typed are_in_range line_at lines_at
    digits
more_behind = refl

cut_off : read (codes "decplan policy 1\nhorizon 1\nagent 0\n0\nagent 1\n0\nend") ≡ Err (bad 7 Shape)
unfolding is_plain plain_of signed_of item_numbers items_behind numbers_at are_typed are_in_range line_at lines_at
    digits
cut_off = refl
