-- The lines of policy and certificate texts: a line's form as data, and what a line of that form is. (Own.)
use Rattle.std.specs.Prelude.{ℕ, ◌-◌, ◌^◌, ◌<◌, ◌≤◌, ℤ, pos, FitsSigned, List, [], ◌∷◌, ◌++◌}
use Rattle.std.specs.Int.{w128}
use Rattle.std.specs.List.{join_with_byte, AllByRecursion}
use Rattle.std.specs.Fmt.{signed_decimal}

-- an item of a line: this text, a plain number from a least to a greatest one, or a signed number
pub data Item : Type 0 where
  fixed : List ℕ → Item
  plain : ℕ → ℕ → Item
  signed : Item

-- any plain number of 32 bits
abbrev pub any_plain : Item
any_plain = plain 0 (2 ^ 32 - 1)

-- A line: the items that it must have, and the numbers that stand in it, in order.
pub record Line : Type 0 where
  pub form : List Item
  pub numbers : List ℤ

-- a line of fixed texts alone
abbrev pub fixed_line : List Item → Line
fixed_line form = record { form = form; numbers = [] }

-- the one spelling of each item: a number has no sign but the `-` of a negative one, and no zeros before it
abbrev pub spelled_items : List Item → List ℤ → List (List ℕ)
spelled_items [] zs = []
spelled_items (fixed text ∷ form) zs = text ∷ spelled_items form zs
spelled_items (plain low high ∷ form) (z ∷ zs) = signed_decimal z ∷ spelled_items form zs
spelled_items (signed ∷ form) (z ∷ zs) = signed_decimal z ∷ spelled_items form zs
spelled_items (item ∷ form) [] = []

-- the line of a form that says these numbers: its items with one space between each two
abbrev pub line_text : List Item → List ℤ → List ℕ
line_text form zs = join_with_byte 32 (spelled_items form zs)

-- each line with one line feed after it
abbrev pub text_of_lines : List Line → List ℕ
text_of_lines [] = []
text_of_lines (line ∷ lines) = line_text line.form line.numbers ++ 10 ∷ text_of_lines lines

-- A form allows these numbers: one for each of its items that is a number, plain ones of 32 bits and within their
-- range, signed ones of 128 bits.
abbrev pub Allows : List Item → List ℤ → Type 0
Allows [] [] = Unit {0}
Allows (fixed text ∷ form) zs = Allows form zs
Allows (plain low high ∷ form) (pos n ∷ zs) = (n < 2 ^ 32) × (low ≤ n) × (n ≤ high) × Allows form zs
Allows (signed ∷ form) (z ∷ zs) = FitsSigned w128 z × Allows form zs
Allows form zs = ⊥

-- every line has numbers that its form allows
abbrev pub AllAllowed : List Line → Type 0
AllAllowed lines = AllByRecursion (λ line. Allows line.form line.numbers) lines
