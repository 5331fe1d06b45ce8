-- The value of a statement, by its first token.
use Rattle.std.proofs.Common.{◌≡◌, ℕ, ◌+◌, Bool, true, false, cond, List, [], ◌∷◌, length, map, Result, Ok, refl, sym}
use Rattle.std.proofs.Common.{ap, ◌∙◌, arith, inl, inr}
use Rattle.std.specs.Prelude.{◌==◌, ◌&&◌, codes, min, nat_lt, not}
use Rattle.std.proofs.lemmas.Bool.{cases_lt}
use Rattle.std.proofs.Math.Bool.{and_assoc}
use Rattle.dp_base.specs.declared.decimal.Decimal.{Decimal}
use Rattle.dp_spec.specs.JointNumbers.{product}
use Rattle.dp_meaning.specs.declared.why.Fault.{Fault}
use Rattle.dp_meaning.specs.declared.why.Why.TheVariants.{Expected}
use Rattle.dp_meaning.specs.declared.statement.Table.{Table}
use Rattle.dp_meaning.specs.declared.statement.Value.TheVariants.{Uniform, Identity, Numbers}
use Rattle.dp_meaning.specs.Faults.{◌>>=◌, fault}
use Rattle.dp_meaning.specs.Items.{Piece}
use Rattle.dp_meaning.specs.Numbers.{numbers, ended}
use Rattle.dp_meaning.specs.NameLists.{says}
use Rattle.dp_meaning.specs.Fields.{Axis}
use Rattle.dp_meaning.specs.Statements.{axis_size, allows_uniform, allows_identity, is_trans, is_reward_table}
use Rattle.dp_meaning.specs.Statements.{is_number_of, value_of}
use Rattle.dp_text.specs.GivenNumbers.{given_numbers}
use Rattle.dp_text.proofs.NumberLemmas.{numbers_beyond}

-- ---- more Numbers than there are pieces

-- a count may be cut down to one more than there are pieces
pub count_cut : (f : Decimal → Bool) (next n : ℕ) (pieces : List Piece)
    → numbers f next n pieces ≡ numbers f next (min n (length pieces + 1)) pieces
count_cut f next n pieces = elim (cases_lt n (length pieces + 1)) [
  | inl h ↦ let same : n ≡ min n (length pieces + 1) = omega arith in ap (λ k. numbers f next k pieces) same
  | inr h ↦ numbers_beyond f next n (min n (length pieces + 1)) pieces (omega arith) (omega arith)
]

-- ---- the value

module _ (table : Table) (rest : List Axis) (next : ℕ) where
  pub no_value : (all : List Piece) → all ≡ [] → value_of table rest next all ≡ fault Expected next
  unfolding value_of
  no_value all e = rw e refl

  -- how many numbers a value without a word has
  abbrev pub wanted : ℕ
  wanted = product (map axis_size rest)

  module _ (all : List Piece) (piece : Piece) (pieces : List Piece) (e : all ≡ piece ∷ pieces) where
    by_tests : value_of table rest next all
        ≡ cond (allows_uniform table rest && says (codes "uniform") piece) (ended Uniform pieces)
        (cond (allows_identity table rest && says (codes "identity") piece) (ended Identity pieces)
        (given_numbers table next wanted all))
    unfolding value_of
    by_tests = rw e refl

    pub uniform_value : (allows_uniform table rest && says (codes "uniform") piece) ≡ true
        → value_of table rest next all ≡ ended Uniform pieces
    uniform_value u = by_tests ∙ rw u refl

    pub identity_value : (allows_uniform table rest && says (codes "uniform") piece) ≡ false
        → (allows_identity table rest && says (codes "identity") piece) ≡ true
        → value_of table rest next all ≡ ended Identity pieces
    identity_value u i = by_tests ∙ rw (u, i) refl

    pub numbers_value : (allows_uniform table rest && says (codes "uniform") piece) ≡ false
        → (allows_identity table rest && says (codes "identity") piece) ≡ false
        → value_of table rest next all ≡ given_numbers table next (min wanted (length all + 1)) all
    numbers_value u i = by_tests ∙ rw (u, i) (ap (λ (r : Result (List Decimal) Fault). r >>= λ ns. Ok (Numbers ns))
        (count_cut (is_number_of table) next wanted all))

-- ---- the tests

pub uniform_test : (table : Table) (rest : List Axis) (left : ℕ) (says_so b : Bool) → left ≡ length rest
    → b ≡ (not (is_reward_table table) && (nat_lt 0 left && says_so)) → (allows_uniform table rest && says_so) ≡ b
uniform_test table rest left says_so b len e =
    and_assoc (not (is_reward_table table)) (nat_lt 0 (length rest)) says_so
    ∙ ap (λ n. not (is_reward_table table) && (nat_lt 0 n && says_so)) (sym len) ∙ sym e

pub identity_test : (table : Table) (rest : List Axis) (left : ℕ) (says_so b : Bool) → left ≡ length rest
    → b ≡ (is_trans table && (left == 2 && says_so)) → (allows_identity table rest && says_so) ≡ b
identity_test table rest left says_so b len e =
    and_assoc (is_trans table) (length rest == 2) says_so ∙ ap (λ n. is_trans table && (n == 2 && says_so)) (sym len)
    ∙ sym e
