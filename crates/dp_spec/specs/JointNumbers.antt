-- Joint numbers: one number for one part per agent, mixed radix with the first agent most significant (Oliehoek and
-- Amato, chapter 2).
use Rattle.std.specs.Prelude.{ℕ, ◌+◌, ◌*◌, ◌/◌, ◌%◌, List, [], ◌∷◌}

-- the product of the numbers, which is how many joint numbers there are
abbrev pub product : List ℕ → ℕ
product [] = 1
product (n ∷ ns) = n * product ns

-- the joint number of the parts ps, each of which is below its number in ns
abbrev pub joint_number : List ℕ → List ℕ → ℕ
joint_number [] ps = 0
joint_number (n ∷ ns) [] = 0
joint_number (n ∷ ns) (p ∷ ps) = p * product ns + joint_number ns ps

-- the parts of a joint number
abbrev pub parts_of : List ℕ → ℕ → List ℕ
parts_of [] x = []
parts_of (n ∷ ns) x = x / product ns ∷ parts_of ns (x % product ns)
