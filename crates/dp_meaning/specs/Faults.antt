-- A step of reading that may fail at an offset of the text. The first step that fails decides.
use Rattle.std.specs.Prelude.{ℕ, List, codes, Result, Ok, Err}
use Rattle.dp_meaning.specs.declared.why.Fault.{Fault}
use Rattle.dp_meaning.specs.declared.why.Why.{Why}
use Rattle.dp_meaning.specs.declared.why.Why.TheVariants as whys

-- the step f on what the step before it has read, or the fault of that step
infixl 10 ◌>>=◌
abbrev pub ◌>>=◌ : {A B : Type 0} → Result A Fault → (A → Result B Fault) → Result B Fault
(Ok x) >>= f = f x
(Err e) >>= f = Err e

-- a step that fails at this offset, and why
abbrev pub fault : {A : Type 0} → Why → ℕ → Result A Fault
fault why at = Err (record { at = at; why = why })

-- the word of a fault in a printed line
abbrev pub why_word : Why → List ℕ
why_word whys.BadByte = codes "bad-byte"
why_word whys.Expected = codes "expected"
why_word whys.UnknownName = codes "unknown-name"
why_word whys.DoubleName = codes "double-name"
why_word whys.Number = codes "number"
why_word whys.RowSum = codes "row-sum"
why_word whys.MissingRow = codes "missing-row"
why_word whys.Header = codes "header"
