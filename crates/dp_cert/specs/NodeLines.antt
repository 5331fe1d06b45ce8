-- What reading the line of a node answers.
use Rattle.std.specs.Prelude.{◌≡◌, ℕ, suc, ◌<◌, ℤ, pos, List, [], ◌∷◌, Result, Ok, Err}
use Rattle.dp_lines.specs.declared.why.FileWhy.{FileWhy}
use Rattle.dp_lines.specs.declared.line.LineFault.{LineFault}
use Rattle.dp_lines.specs.declared.line.LineFault.TheVariants as line_faults
use Rattle.dp_lines.specs.Scanning.{Found}
use Rattle.dp_cert.specs.declared.fault.CertFault.{CertFault}
use Rattle.dp_cert.specs.declared.fault.CertFault.TheVariants as faults
use Rattle.dp_cert.specs.declared.tree_text.Node.{Node}
use Rattle.dp_cert.specs.declared.tree_text.Node.TheVariants as nodes

-- the numbers of the line of a node
abbrev pub numbers_of : Node → List ℤ
numbers_of (nodes.Leaf z) = z ∷ []
numbers_of (nodes.Branch i c k) = pos i ∷ pos c ∷ pos k ∷ []
numbers_of (nodes.Merge i a b) = pos i ∷ pos a ∷ pos b ∷ []

-- the number of the form of a node's line
abbrev pub kind_of : Node → ℕ
kind_of (nodes.Leaf z) = 0
kind_of (nodes.Branch i c k) = 1
kind_of (nodes.Merge i a b) = 2

-- what is found in the line of a node
abbrev pub found_of : Node → List ℕ → Found
found_of node more = record { k = kind_of node; zs = numbers_of node; more = more }

-- a branch has a child
abbrev pub HasChild : Node → Type 0
HasChild (nodes.Leaf z) = Unit {0}
HasChild (nodes.Branch i c k) = 0 < k
HasChild (nodes.Merge i a b) = Unit {0}

-- A line was read, seen by view, or it is bad, or memory ran out.
abbrev pub GivesFound : {X : Type 0} → (X → Found) → Result X LineFault → Result Found FileWhy → Type 0
GivesFound view (Ok x) read = read ≡ Ok (view x)
GivesFound view (Err (line_faults.Bad why)) read = read ≡ Err why
GivesFound view (Err line_faults.Memory) read = Unit {0}

-- the line is bad, or memory ran out
abbrev pub NodeFails : CertFault → ℕ → Result Found FileWhy → Type 0
NodeFails (faults.At n why) line read = (read ≡ Err why) × (n ≡ line)
NodeFails (faults.TooLarge passed) line read = ⊥
NodeFails faults.Memory line read = Unit {0}

-- A node was read with the line and the bytes after it, or the line is bad, or memory ran out.
abbrev pub GivesNode : {X : Type 0} → (X → Node × ℕ × List ℕ) → Result X CertFault → ℕ → Result Found FileWhy
    → Type 0
GivesNode view (Ok x) line read = (read ≡ Ok (found_of (view x).0 (view x).2)) × ((view x).1 ≡ suc line)
GivesNode view (Err fault) line read = NodeFails fault line read
