-- The line that tells the first reason why a certificate is not valid.
use Rattle.std.specs.Prelude.{ℕ, Bool, List, ◌++◌, ℤ, pos, codes, decimal}
use Rattle.std.specs.Fmt.{signed_decimal}
use Rattle.dp_check.specs.declared.verdict.Reason.{Reason}
use Rattle.dp_check.specs.declared.verdict.Reason.TheVariants as reasons
use Rattle.dp_cli.specs.ValueCommand.{mode_word}

-- the mode that it has to be
abbrev pub mode_line : Bool → List ℕ
mode_line exact = codes "rejected mode " ++ (mode_word exact ++ codes "\n")

-- what the number of a line of the head has to be
abbrev pub number_line : List ℕ → ℤ → List ℕ
number_line word found = codes "rejected " ++ (word ++ (codes " " ++ (signed_decimal found ++ codes "\n")))

-- a node that may not stand where it does
abbrev pub node_place_line : ℕ → List ℕ
node_place_line node = codes "rejected node " ++ (decimal node ++ codes " place\n")

-- how many children a branch has to have
abbrev pub node_count_line : ℕ → ℕ → List ℕ
node_count_line node found = codes "rejected node " ++
    (decimal node ++ (codes " kids " ++ (decimal found ++ codes "\n")))

-- the first place at which the classes of a merge differ
abbrev pub node_unequal_line : ℕ → ℕ → List ℕ
node_unequal_line node place =
    codes "rejected node " ++ (decimal node ++ (codes " not-equal " ++ (decimal place ++ codes "\n")))

-- what the bound of a leaf has to be
abbrev pub node_number_line : ℕ → ℤ → List ℕ
node_number_line node found =
    codes "rejected node " ++ (decimal node ++ (codes " leaf-bound " ++ (signed_decimal found ++ codes "\n")))

abbrev pub reason_line : Reason → List ℕ
reason_line (reasons.Mode found) = mode_line found
reason_line (reasons.Unit found) = number_line (codes "unit") found
reason_line (reasons.Lower found) = number_line (codes "lower") found
reason_line (reasons.Place node) = node_place_line node
reason_line (reasons.Kids node found) = node_count_line node found
reason_line (reasons.NotEqual node place) = node_unequal_line node place
reason_line (reasons.LeafBound node found) = node_number_line node found
reason_line (reasons.Inner found) = number_line (codes "inner") (pos found)
reason_line (reasons.Upper found) = number_line (codes "upper") found
