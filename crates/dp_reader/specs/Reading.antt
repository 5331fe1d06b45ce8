-- What reading a model file answers.
use Rattle.std.specs.Prelude.{◌≡◌, ℕ, List, Result, Ok, Err}
use Rattle.dp_lexer.specs.declared.LexFault.{LexFault}
use Rattle.dp_lexer.specs.declared.LexFault.TheVariants as lexer
use Rattle.dp_lexer.specs.Bytes.{line_at, column_at}
use Rattle.dp_meaning.specs.declared.why.Fault.{Fault}
use Rattle.dp_meaning.specs.declared.why.Why.TheVariants.{BadByte}
use Rattle.dp_meaning.specs.Meaning as meaning
use Rattle.dp_meaning.specs.Meaning.{Meaning, Means, FaultAt, Passes}
use Rattle.dp_text.specs.declared.fault.TextFault.{TextFault}
use Rattle.dp_text.specs.declared.fault.TextFault.TheVariants as text
use Rattle.dp_reader.specs.declared.build.ReadModel.{ReadModel}
use Rattle.dp_reader.specs.declared.fault.ModelFault.{ModelFault}
use Rattle.dp_reader.specs.declared.fault.ModelFault.TheVariants.{At, TooLarge, Memory}

-- the model and the count as the definitions have them
abbrev pub meant_model : ReadModel → meaning.ReadModel
meant_model r = record { model = r.model; repaired = r.repaired }

-- the answer is what the file means, unless memory ran out
abbrev pub IsMeaning : Meaning → Result ReadModel ModelFault → Type 0
IsMeaning meant (Ok r) = meant ≡ Means (meant_model r)
IsMeaning meant (Err (At line column why)) = meant ≡ FaultAt (record { line = line; column = column }) why
IsMeaning meant (Err (TooLarge passed)) = meant ≡ Passes passed
IsMeaning meant (Err Memory) = Unit {0}

-- a fault with its place
abbrev pub fault_at : List ℕ → Fault → ModelFault
fault_at bytes fault = At (line_at bytes fault.at) (column_at bytes fault.at) fault.why

-- the fault of a text with its place
abbrev pub told : List ℕ → TextFault → ModelFault
told bytes (text.At fault) = fault_at bytes fault
told bytes text.Memory = Memory

-- a fault of the lexer as one of the file
abbrev pub fault_of_lexer : LexFault → ModelFault
fault_of_lexer (lexer.BadByte line column) = At line column BadByte
fault_of_lexer lexer.Memory = Memory
