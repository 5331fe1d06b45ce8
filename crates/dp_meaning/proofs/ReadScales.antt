-- The scales of a text that is read, and its rewards over theirs.
use Rattle.std.proofs.Common.{◌≡◌, ℕ, ◌+◌, ◌*◌, ◌/◌, ◌-◌, ◌^◌, ◌<◌, ◌≤◌, Bool, true, false, cond, List, [], ◌∷◌}
use Rattle.std.proofs.Common.{length, map, drop, refl, sym, ap, subst, ◌∙◌, arith, pos, negsuc, ℤ}
use Rattle.std.specs.Prelude.{◌&&◌, nat_le, ◌*ℤ◌, unsigned_abs, reverse, Some}
use Rattle.std.specs.List.{find}
use Rattle.std.proofs.lemmas.Bool.Decides.{nat_tests}
use Rattle.std.proofs.lemmas.Int.{unsigned_abs-mul}
use Rattle.std.proofs.lemmas.Nat.{pow-add, mul-le}
use Rattle.std.proofs.Math.Nat.{dvd-mul_left, dvd-mul_right, mul-div_cancel, mul-pos, pos_of_dvd_of_pos}
use Rattle.dp_base.specs.declared.decimal.Decimal.{Decimal}
use Rattle.dp_base.specs.Divisors.{lcm_of}
use Rattle.dp_base.proofs.DivisorLaws.{lcm_of-IsLcm}
use Rattle.dp_base.proofs.SignificandLaws.{some_tens}
use Rattle.dp_spec.specs.JointNumbers.{joint_number}
use Rattle.dp_meaning.specs.declared.header.Start.{Start}
use Rattle.dp_meaning.specs.declared.header.Start.TheVariants.{AnyState, OneState, StartRow}
use Rattle.dp_meaning.specs.declared.statement.Table.{Table}
use Rattle.dp_meaning.specs.declared.statement.Table.TheVariants.{Trans, Obs, Reward}
use Rattle.dp_meaning.specs.declared.statement.Value.{Value}
use Rattle.dp_meaning.specs.declared.statement.Value.TheVariants.{Uniform, Identity, Numbers}
use Rattle.dp_meaning.specs.declared.statement.Statement.{Statement}
use Rattle.dp_meaning.specs.Numbers.{is_at_most, is_chance, is_reward}
use Rattle.dp_meaning.specs.Fields.{Axis}
use Rattle.dp_meaning.specs.Statements.{axis_size, is_number_of}
use Rattle.dp_meaning.specs.Cells.{Cell, covers, is_same_table, statements_for, no_number, number_at, reward_over}
use Rattle.dp_meaning.specs.Cells.{given_reward, reward_by, reward_of_cell}
use Rattle.dp_meaning.specs.Scales.{most_digits, digits_of_value, digits_of_statements, scale_of, start_scale}
use Rattle.dp_meaning.proofs.Each.{Each, each_at, each_with, each_from, each_filter, each_reverse}
use Rattle.dp_meaning.proofs.Lists.{each_below_most, most_below}
use Rattle.dp_meaning.proofs.ReadStatements.{numbers_in, IsStatement}
use Rattle.std.proofs.lemmas.Bool.{leb-true}
use Rattle.dp_base.proofs.RoundingLaws.{unsigned_abs-neg}

-- ---- scales are not 0

pub some_lcm : (a b : ℕ) → 0 < a → 0 < b → 0 < lcm_of a b
some_lcm a b ha hb =
    let divides = (lcm_of-IsLcm a b ha).least (a * b) (dvd-mul_right a b) (dvd-mul_left b a) in
    pos_of_dvd_of_pos divides (mul-pos ha hb)

pub some_scale : (digits : ℕ) (uniform : Bool) (len : ℕ) → 0 < len → 0 < scale_of digits uniform len
some_scale digits true len h = some_lcm (10 ^ digits) len (some_tens digits) h
some_scale digits false len h = some_tens digits

pub some_start_scale : (start : Start) (states : ℕ) → 0 < states → 0 < start_scale start states
some_start_scale AnyState states h = some_scale 0 true states h
some_start_scale (OneState s) states h = some_scale 0 false states h
some_start_scale (StartRow at ns) states h = some_scale (most_digits ns) false states h

-- ---- chances

-- a chance is at most 1, and has at most 18 fraction digits
pub chance_parts : (d : Decimal) → is_chance d ≡ true → (d.digits ≤ 18) × (unsigned_abs d.units ≤ 10 ^ d.digits)
chance_parts d e = by (is_at_most d.units (10 ^ d.digits)) refl (nat_le d.digits 18) refl e
  where
    below : (a b : ℕ) → nat_le a b ≡ true → a ≤ b
    below a b t = grind (arith, nat_tests)

    magnitude : (z : ℤ) (n : ℕ) → is_at_most z n ≡ true → unsigned_abs z ≤ n
    magnitude (pos k) n t = below k n t
    magnitude (negsuc k) n t = cc

    by : (b : Bool) → is_at_most d.units (10 ^ d.digits) ≡ b → (c : Bool) → nat_le d.digits 18 ≡ c → (b && c) ≡ true
        → (d.digits ≤ 18) × (unsigned_abs d.units ≤ 10 ^ d.digits)
    by true s true t f = (below _ _ t, magnitude _ _ s)
    by true s false t f = cc
    by false s c t f = cc

pub row_digits : (ns : List Decimal) → Each (λ d. is_chance d ≡ true) ns → most_digits ns ≤ 18
row_digits ns each =
    most_below (λ d. d.digits) 18 0 ns (omega arith) (each_from _ (λ d. d.digits ≤ 18)
    (λ d e. (chance_parts d e).0) ns each)

-- ---- rewards

-- a number that a reward may be
abbrev pub IsReward : Decimal → Type 0
IsReward d = (d.digits ≤ 9) × (unsigned_abs d.units ≤ 10 ^ (8 + d.digits))

abbrev pub GivesRewards : Statement → Type 0
GivesRewards s = Each IsReward (numbers_in s.value)

pub reward_parts : (d : Decimal) → is_reward d ≡ true → IsReward d
reward_parts d e = by (nat_le (unsigned_abs d.units) (10 ^ (8 + d.digits))) refl (nat_le d.digits 9) refl e
  where
    by : (b : Bool) → nat_le (unsigned_abs d.units) (10 ^ (8 + d.digits)) ≡ b → (c : Bool) → nat_le d.digits 9 ≡ c
        → (b && c) ≡ true
        → IsReward d
    by true s true t f = (leb-true _ _ t, leb-true _ _ s)
    by true s false t f = cc
    by false s c t f = cc

of_reward_table : (s : Statement) (table : Table) → s.table ≡ table → IsStatement s
    → is_same_table Reward table ≡ true → GivesRewards s
of_reward_table s Reward e is same = subst (λ t. Each (λ d. is_number_of t d ≡ true) (numbers_in s.value)
    → GivesRewards s) (sym e)
    (each_from _ IsReward reward_parts (numbers_in s.value)) is
of_reward_table s Trans e is same = cc
of_reward_table s Obs e is same = cc

-- the statements of the reward table give rewards
pub rewards_only : (ss : List Statement) → Each IsStatement ss → Each GivesRewards (statements_for Reward ss)
rewards_only [] each = tt
rewards_only (s ∷ ss) each = by (is_same_table Reward s.table) refl (rewards_only ss each.1)
  where
    by : (b : Bool) → is_same_table Reward s.table ≡ b → Each GivesRewards (statements_for Reward ss)
        → Each GivesRewards (cond b (s ∷ statements_for Reward ss) (statements_for Reward ss))
    by true e rest = (of_reward_table s s.table refl each.0 e, rest)
    by false e rest = rest

digits_below : (v : Value) (n : ℕ) → Each (λ d. d.digits ≤ n) (numbers_in v) → digits_of_value v ≤ n
digits_below (Numbers ns) n each = most_below (λ d. d.digits) n 0 ns (omega arith) each
digits_below Uniform n each = omega arith
digits_below Identity n each = omega arith

number_digits : (table : Table) (d : Decimal) → is_number_of table d ≡ true → d.digits ≤ 18
number_digits Trans d e = (chance_parts d e).0
number_digits Obs d e = (chance_parts d e).0
number_digits Reward d e = let h = (reward_parts d e).0 in omega arith

-- the numbers of a table have at most eighteen fraction digits
pub table_digits : (table : Table) (ss : List Statement) → Each IsStatement ss
    → digits_of_statements (statements_for table ss) ≤ 18
table_digits table ss each =
    most_below (λ s. digits_of_value s.value) 18 0 (statements_for table ss) (omega arith)
    (each_filter (λ s. digits_of_value s.value ≤ 18) (λ s. is_same_table table s.table) ss
    (each_from IsStatement (λ s. digits_of_value s.value ≤ 18)
    (λ s is. digits_below s.value 18 (each_from _ (λ d. d.digits ≤ 18) (number_digits s.table)
    (numbers_in s.value) is)) ss each))

-- rewards have at most nine fraction digits
pub reward_digits : (ss : List Statement) → Each GivesRewards ss → digits_of_statements ss ≤ 9
reward_digits ss each =
    most_below (λ s. digits_of_value s.value) 9 0 ss (omega arith)
    (each_from GivesRewards (λ s. digits_of_value s.value ≤ 9)
    (λ s g. digits_below s.value 9 (each_from IsReward (λ d. d.digits ≤ 9) (λ d h. h.0) (numbers_in s.value) g)) ss
    each)

-- a reward over a scale of enough digits is at most 10^8 times the scale
reward_bound : (cost : Bool) (digits : ℕ) (d : Decimal) → IsReward d → d.digits ≤ digits
    → unsigned_abs (reward_over cost (10 ^ digits) d) ≤ 10 ^ 8 * 10 ^ digits
reward_bound cost digits d is h = by cost
  where
    more : ℕ
    more = digits - d.digits

    split : 10 ^ digits ≡ 10 ^ more * 10 ^ d.digits
    split = let e : digits ≡ more + d.digits = omega arith in ap (λ k. 10 ^ k) e ∙ pow-add 10 more d.digits

    factor : 10 ^ digits / 10 ^ d.digits ≡ 10 ^ more
    factor = ap (λ k. k / 10 ^ d.digits) split ∙ mul-div_cancel (10 ^ more) (some_tens d.digits)

    whole : 10 ^ (8 + d.digits) * 10 ^ more ≡ 10 ^ 8 * 10 ^ digits
    whole = sym (pow-add 10 (8 + d.digits) more) ∙ (let e : 8 + d.digits + more ≡ 8 + digits = omega arith in
        ap (λ k. 10 ^ k) e)
        ∙ pow-add 10 8 digits

    positive : unsigned_abs (d.units *ℤ pos (10 ^ digits / 10 ^ d.digits)) ≤ 10 ^ 8 * 10 ^ digits
    positive =
        let times = unsigned_abs-mul d.units (pos (10 ^ digits / 10 ^ d.digits)) in
        let most = mul-le (unsigned_abs d.units) (10 ^ digits / 10 ^ d.digits) (10 ^ (8 + d.digits)) (10 ^ more) is.1
        (subst (λ k. k ≤ 10 ^ more) (sym factor) (omega arith)) in
        subst (λ k. k ≤ 10 ^ 8 * 10 ^ digits) (sym times)
        (subst (λ k. unsigned_abs d.units * (10 ^ digits / 10 ^ d.digits) ≤ k) whole most)

    by : (cost : Bool) → unsigned_abs (reward_over cost (10 ^ digits) d) ≤ 10 ^ 8 * 10 ^ digits
    by true = subst (λ k. k ≤ 10 ^ 8 * 10 ^ digits) (sym (unsigned_abs-neg _)) positive
    by false = positive

given_bound : (cost : Bool) (digits : ℕ) (sizes : List ℕ) (fields : ℕ) (cell : Cell) (v : Value)
    → Each IsReward (numbers_in v)
    → digits_of_value v ≤ digits
    → unsigned_abs (given_reward cost (10 ^ digits) sizes fields cell v) ≤ 10 ^ 8 * 10 ^ digits
given_bound cost digits sizes fields cell (Numbers ns) each h =
    let both = each_with IsReward (λ d. d.digits ≤ most_digits ns) ns each (each_below_most (λ d. d.digits) 0 ns) in
    let here = each_at (λ d. IsReward d × (d.digits ≤ most_digits ns)) ns
    (joint_number (drop fields sizes) (drop fields cell)) no_number both ((omega arith, omega arith), omega arith) in
    reward_bound cost digits (number_at sizes fields cell ns) here.0 (let k = here.1 in omega arith)
given_bound cost digits sizes fields cell Uniform each h = omega arith
given_bound cost digits sizes fields cell Identity each h = omega arith

by_bound : (cost : Bool) (digits : ℕ) (axes : List Axis) (cell : Cell) (ss : List Statement)
    → Each (λ s. GivesRewards s × (digits_of_value s.value ≤ digits)) ss
    → unsigned_abs (reward_by cost (10 ^ digits) axes cell (find (λ s. covers axes s.fields cell) ss))
    ≤ 10 ^ 8 * 10 ^ digits
by_bound cost digits axes cell [] each = omega arith
by_bound cost digits axes cell (s ∷ ss) each = by (covers axes s.fields cell)
    (by_bound cost digits axes cell ss each.1)
  where
    by : (b : Bool) → unsigned_abs (reward_by cost (10 ^ digits) axes cell
        (find (λ s. covers axes s.fields cell) ss)) ≤ 10 ^ 8 * 10 ^ digits
        → unsigned_abs (reward_by cost (10 ^ digits) axes cell
        (cond b (Some s) (find (λ s. covers axes s.fields cell) ss))) ≤ 10 ^ 8 * 10 ^ digits
    by true rest = given_bound cost digits (map axis_size axes) (length s.fields) cell s.value each.0.0 each.0.1
    by false rest = rest

-- no cell of the reward table is past its limit
pub cell_bound : (cost : Bool) (axes : List Axis) (ss : List Statement) (cell : Cell) → Each GivesRewards ss
    → unsigned_abs (reward_of_cell cost (10 ^ digits_of_statements ss) axes ss cell)
    ≤ 10 ^ 8 * 10 ^ digits_of_statements ss
unfolding reward_of_cell
cell_bound cost axes ss cell each =
    let both = each_with GivesRewards (λ s. digits_of_value s.value ≤ digits_of_statements ss) ss each
    (each_below_most (λ s. digits_of_value s.value) 0 ss) in
    by_bound cost (digits_of_statements ss) axes cell (reverse ss) (each_reverse _ ss both)
