-- What the functions that read parts of a certificate text answer.
use Rattle.std.specs.Prelude.{◌≡◌, ℕ, List, Option, Some, None, Result, Ok, Err}
use Rattle.dp_model.specs.declared.limit.TooLarge.{TooLarge}
use Rattle.dp_lines.specs.Grammar.{Grammar, IsText, IsFirstBad, PassesLimit, Fault, bad, limit}
use Rattle.dp_lines.specs.Reading.{HasFault, GivesOr}
use Rattle.dp_cert.specs.declared.fault.CertFault.{CertFault}
use Rattle.dp_cert.specs.declared.fault.CertFault.TheVariants as faults

-- the fault of the bytes that an error tells: none is told where memory ran out
abbrev pub told_fault : CertFault → Option (Fault TooLarge)
told_fault (faults.At line why) = Some (bad line why)
told_fault (faults.TooLarge passed) = Some (limit passed)
told_fault faults.Memory = None

-- the bytes have this fault, or memory ran out
abbrev pub Fails : {V : Type 0} → CertFault → Result V (Fault TooLarge) → Type 0
Fails fault read = HasFault (told_fault fault) read

-- What was read, seen by view, is what a front of the bytes says, or it has this fault, or memory ran out.
abbrev pub Gives : {X V : Type 0} → (X → V) → Result X CertFault → Result V (Fault TooLarge) → Type 0
Gives view result read = GivesOr told_fault view result read

-- The bytes are a text that says what was read, seen by view; or this line is the first that is not as required; or
-- this limit is passed before such a line; or memory ran out.
abbrev pub Answers : {X V : Type 0} → (X → V) → Result X CertFault → Grammar TooLarge V → List ℕ → Type 0
Answers view (Ok x) g bytes = IsText g bytes (view x)
Answers view (Err (faults.At line why)) g bytes = IsFirstBad g 1 bytes line why
Answers view (Err (faults.TooLarge passed)) g bytes = PassesLimit g bytes passed
Answers view (Err faults.Memory) g bytes = Unit {0}

-- what was read, seen by view, is this, or memory ran out
abbrev pub IsReadAs : {X V : Type 0} → (X → V) → Result X CertFault → V → Type 0
IsReadAs view (Ok x) v = view x ≡ v
IsReadAs view (Err (faults.At line why)) v = ⊥
IsReadAs view (Err (faults.TooLarge passed)) v = ⊥
IsReadAs view (Err faults.Memory) v = Unit {0}
