-- The limits of a model and of a horizon are none on the bytes of a file.
use Rattle.std.proofs.Common.{◌≡◌, ℕ, List, [], ◌∷◌, length, Bool, true, false, cond, Option, Some, None, Result, Ok}
use Rattle.std.proofs.Common.{Err, IfSome, refl, sym, ap, ◌∙◌, subst}
use Rattle.std.specs.Prelude.{nat_lt}
use Rattle.dp_model.specs.declared.limit.Limit.{Limit}
use Rattle.dp_model.specs.declared.limit.Limit.TheVariants as limits
use Rattle.dp_model.specs.declared.limit.TooLarge.{TooLarge}
use Rattle.dp_model.specs.Horizons.{horizon_limits}
use Rattle.dp_model.specs.Limits.{first_passed, greatest_allowed, passed_by}
use Rattle.dp_meaning.specs.declared.text.Text.{Text}
use Rattle.dp_meaning.specs.declared.why.Fault.{Fault}
use Rattle.dp_meaning.specs.Limits.{passed_limit, tried_limits}
use Rattle.dp_meaning.specs.Meaning.{FaultAt, Meaning, Means, Passes, ReadModel, meaning, meaning_of_model}
use Rattle.dp_meaning.specs.Meaning.{meaning_of_text, meaning_within, repaired_model, text_of}
use Rattle.dp_spec.specs.Model.{Model}
use Rattle.dp_cli.specs.declared.refusal.FileRole.{FileRole}
use Rattle.dp_cli.specs.declared.refusal.FileRole.TheVariants as roles
use Rattle.dp_cli.specs.declared.refusal.JobFault.{JobFault}
use Rattle.dp_cli.specs.declared.refusal.JobFault.TheVariants as job_faults
use Rattle.dp_cli.specs.ModelText.{model_fault, read_fault}
use Rattle.dp_cli.specs.Refusal.{role_limit}

-- a limit on the bytes of a file
abbrev pub is_of_file : Limit → Bool
is_of_file what = elim what [ limits.ModelBytes ↦ true | limits.FileBytes ↦ true | _ ↦ false ]

-- a limit that is passed, if one is, is none of these
abbrev pub IsOther : Option TooLarge → Type 0
IsOther tried = IfSome tried (λ passed. is_of_file passed.what ≡ false)

-- each of the limits that are tried is none of these
pub data AreOthers : List (Option TooLarge) → Type 0 where
  none_left : AreOthers []
  before : {tried : Option TooLarge} {others : List (Option TooLarge)} → IsOther tried → AreOthers others
      → AreOthers (tried ∷ others)

-- so is the first that is passed
pub first_is_other : {tried : List (Option TooLarge)} → AreOthers tried → IsOther (first_passed tried)
first_is_other none_left = tt
first_is_other (before {tried = Some passed} h rest) = h
first_is_other (before {tried = None} h rest) = first_is_other rest

pub other : (what : Limit) (count : ℕ) → is_of_file what ≡ false → IsOther (passed_by what count)
other what count h = by (nat_lt (greatest_allowed what) count)
  where
    by : (b : Bool) → IsOther (cond b (Some (record { what = what; count = count })) None)
    by true = h
    by false = tt

-- the limits of a model
model_is_other : (text : Text) → IsOther (passed_limit text)
unfolding passed_limit
model_is_other text =
    first_is_other {tried = tried_limits text}
    (before (other limits.Agents _ refl) (before (other limits.States _ refl)
    (before (other limits.JointActions _ refl) (before (other limits.JointObservations _ refl)
    (before (other limits.TransCells _ refl) (before (other limits.ObsCells _ refl)
    (before (other limits.RewardCells _ refl) (before (other limits.RewardLines _ refl)
    (before (other limits.Scale _ refl) (before (other limits.Scale _ refl)
    (before (other limits.Scale _ refl) none_left)))))))))))

-- the limits of a horizon
pub horizon_is_other : (m : Model) (h : ℕ) → IsOther (first_passed (horizon_limits m h))
horizon_is_other m h =
    first_is_other {tried = horizon_limits m h}
    (before (other limits.Horizon _ refl) (before (other limits.OwnHistories _ refl)
    (before (other limits.StageCells _ refl) (before (other limits.GameCells _ refl) none_left))))

-- what a file means that passes a limit
abbrev passes : Meaning → Option TooLarge
passes (Passes passed) = Some passed
passes (FaultAt place why) = None
passes (Means read) = None

passed_is_other : (bytes : List ℕ) (text : Text) (tried : Option TooLarge) → IsOther tried
    → IsOther (passes (meaning_within bytes text tried))
passed_is_other bytes text (Some passed) h = h
passed_is_other bytes text None h = by (repaired_model (length bytes) text)
  where
    by : (r : Result ReadModel Fault) → IsOther (passes (meaning_of_model bytes r))
    by (Ok read) = tt
    by (Err fault) = tt

meaning_is_other : (bytes : List ℕ) → IsOther (passes (meaning bytes))
unfolding meaning
meaning_is_other bytes = by (text_of bytes)
  where
    by : (r : Result Text Fault) → IsOther (passes (meaning_of_text bytes r))
    by (Ok text) = passed_is_other bytes text (passed_limit text) (model_is_other text)
    by (Err fault) = tt

-- a limit that a fault tells, if it tells one
abbrev pub limit_told : Option JobFault → Option TooLarge
limit_told (Some (job_faults.TooLarge passed)) = Some passed
limit_told fault = None

-- what is wrong with the file of a model tells none of these limits, where what is wrong with what is read does not
pub read_fault_is_other : (fault : ReadModel → Option JobFault)
    → ((read : ReadModel) → IsOther (limit_told (fault read)))
    → (bytes : List ℕ)
    → IsOther (limit_told (read_fault fault (meaning bytes)))
read_fault_is_other fault h bytes = by (meaning bytes) (meaning_is_other bytes)
  where
    by : (meant : Meaning) → IsOther (passes meant) → IsOther (limit_told (read_fault fault meant))
    by (FaultAt place why) is = tt
    by (Passes passed) is = is
    by (Means read) is = h read

-- the same, where it is the model alone
pub model_fault_is_other : (fault : Model → Option JobFault) → ((m : Model) → IsOther (limit_told (fault m)))
    → (bytes : List ℕ)
    → IsOther (limit_told (model_fault fault (meaning bytes)))
model_fault_is_other fault h bytes =
    read_fault_is_other (λ read. fault read.model.model) (λ read. h read.model.model) bytes

-- no limit that is told so is that of a file of any role
pub of_no_role : (fault : Option JobFault) → IsOther (limit_told fault) → (passed : TooLarge) (role : FileRole)
    → fault ≡ Some (job_faults.TooLarge passed) → passed.what ≡ role_limit role → ⊥
of_no_role fault h passed role e is =
    let other : IsOther (limit_told (Some (job_faults.TooLarge passed))) = subst
    (λ (f : Option JobFault). IsOther (limit_told f)) e h in
    by role (sym (ap is_of_file is) ∙ other)
  where
    by : (role : FileRole) → is_of_file (role_limit role) ≡ false → ⊥
    by roles.Model e = cc
    by roles.Second e = cc
