-- The sizes and the fraction digits of a text that some file says.
use Rattle.std.proofs.Common.{◌≡◌, ℕ, ◌^◌, ◌≤◌, List, subst, arith}
use Rattle.std.specs.Prelude.{unsigned_abs}
use Rattle.dp_base.specs.declared.decimal.Decimal.{Decimal}
use Rattle.dp_meaning.specs.declared.header.Start.TheVariants.{StartRow}
use Rattle.dp_meaning.specs.declared.statement.Table.{Table}
use Rattle.dp_meaning.specs.declared.statement.Table.TheVariants.{Reward}
use Rattle.dp_meaning.specs.declared.text.Text.{Text}
use Rattle.dp_meaning.specs.Cells.{statements_for}
use Rattle.dp_meaning.specs.Scales.{most_digits, digits_of_statements}
use Rattle.dp_meaning.specs.Text.{states_in, joint_actions_in, joint_observations_in}
use Rattle.dp_meaning.specs.Meaning.{IsSaid}
use Rattle.dp_meaning.proofs.ReadHeader.{IsStart}
use Rattle.dp_meaning.proofs.ReadScales.{chance_parts, row_digits, table_digits, rewards_only, reward_digits}
use Rattle.dp_meaning.proofs.ModelLaws.{IsText, text_is, some_product}

pub said_is : (text : Text) → IsSaid text → IsText text
said_is text said = text_is said.0 text said.1

-- ---- sizes

pub some_states : (text : Text) → IsSaid text → 1 ≤ states_in text
some_states text said = (said_is text said).header.states.some

pub some_joint_actions : (text : Text) → IsSaid text → 1 ≤ joint_actions_in text
some_joint_actions text said =
    let h = some_product text.header.actions (said_is text said).header.actions.each in omega arith

pub some_joint_observations : (text : Text) → IsSaid text → 1 ≤ joint_observations_in text
some_joint_observations text said =
    let h = some_product text.header.observations (said_is text said).header.observations.each in omega arith

-- ---- fraction digits

pub start_digits : (text : Text) (at : ℕ) (row : List Decimal) → IsSaid text → text.header.start ≡ StartRow at row
    → most_digits row ≤ 18
start_digits text at row said e = row_digits row (subst IsStart e (said_is text said).header.start)

pub statement_digits : (text : Text) (table : Table) → IsSaid text
    → digits_of_statements (statements_for table text.statements) ≤ 18
statement_digits text table said = table_digits table text.statements (said_is text said).statements

pub rewards_digits : (text : Text) → IsSaid text → digits_of_statements (statements_for Reward text.statements) ≤ 9
rewards_digits text said =
    reward_digits (statements_for Reward text.statements)
    (rewards_only text.statements (said_is text said).statements)

pub discount_digits : (text : Text) → IsSaid text → text.header.discount.digits ≤ 18
discount_digits text said = (chance_parts text.header.discount (said_is text said).header.discount).0

pub discount_units : (text : Text) → IsSaid text
    → unsigned_abs text.header.discount.units ≤ 10 ^ text.header.discount.digits
discount_units text said = (chance_parts text.header.discount (said_is text said).header.discount).1
