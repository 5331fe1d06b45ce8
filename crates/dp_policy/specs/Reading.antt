-- What the functions that read parts of a policy text answer.
use Rattle.std.specs.Prelude.{ℕ, List, map, Option, Some, None, Result, Vec}
use Rattle.std.specs.declared.alloc.Global.{Global}
use Rattle.dp_model.specs.declared.limit.TooLarge.{TooLarge}
use Rattle.dp_lines.specs.Grammar.{Fault, bad, limit}
use Rattle.dp_lines.specs.Reading.{HasFault, GivesOr}
use Rattle.dp_policy.specs.declared.fault.PolicyFault.{PolicyFault}
use Rattle.dp_policy.specs.declared.fault.PolicyFault.TheVariants as faults

-- the fault of the bytes that an error tells: none is told where memory ran out
abbrev pub told_fault : PolicyFault → Option (Fault TooLarge)
told_fault (faults.At line why) = Some (bad line why)
told_fault (faults.TooLarge passed) = Some (limit passed)
told_fault faults.Memory = None

-- the bytes have this fault, or memory ran out
abbrev pub Fails : {V : Type 0} → PolicyFault → Result V (Fault TooLarge) → Type 0
Fails fault read = HasFault (told_fault fault) read

-- What was read, seen by view, is what a front of the bytes says, or it has this fault, or memory ran out.
abbrev pub Gives : {X V : Type 0} → (X → V) → Result X PolicyFault → Result V (Fault TooLarge) → Type 0
Gives view result read = GivesOr told_fault view result read

-- the numbers of rows
abbrev pub rows_of : Vec (Vec ℕ Global) Global → List (List ℕ)
rows_of rows = map (λ row. row.items) rows.items

-- the rows of agents
abbrev pub agents_of : Vec (Vec (Vec ℕ Global) Global) Global → List (List (List ℕ))
agents_of agents = map rows_of agents.items
