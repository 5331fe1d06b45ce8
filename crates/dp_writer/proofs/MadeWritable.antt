-- Made models can be written: their chances are over 100, and their start is uniform.
use Rattle.std.proofs.Common.{◌≡◌, ℕ, zero, suc, ◌+◌, ◌*◌, ◌/◌, ◌%◌, ◌^◌, ◌<◌, ◌≤◌, Bool, true, false, cond, pos}
use Rattle.std.proofs.Common.{List, []}
use Rattle.std.proofs.Common.{◌∷◌, ◌&&◌, get_or, max, refl, sym, ap, ◌∙◌, subst, arith}
use Rattle.std.specs.Prelude.{◌==◌, fold, nat_le, replicate}
use Rattle.dp_writer.specs.WrittenNumbers.{is_below_zero}
use Rattle.std.specs.List.{list_all, list_any}
use Rattle.std.proofs.Math.Nat.{div-le_self, mul-div_left, mul-mod_left, mul_assoc, pow-suc}
use Rattle.std.proofs.lemmas.Bool.{and_from, eq-eqb, le-leb, or_left, or_right}
use Rattle.std.proofs.lemmas.List.{length-replicate}
use Rattle.std.proofs.lemmas.List.FromFn.{fill_by_all}
use Rattle.std.proofs.lemmas.Nat.{mul-le}
use Rattle.dp_base.specs.Decimals.{shortest, signed}
use Rattle.dp_base.specs.Divisors.{gcd_of, lcm_of}
use Rattle.dp_meaning.specs.Scales.{scale_of}
use Rattle.rand_core.specs.Stream.{Stream}
use Rattle.dp_spec.specs.Model.{joint_observations, start_at}
use Rattle.dp_writer.specs.declared.rows.ChanceTable.TheVariants.{Next, Seen}
use Rattle.dp_writer.specs.declared.sizes.JointSizes.{JointSizes}
use Rattle.dp_writer.specs.declared.sizes.MakeSize.{MakeSize}
use Rattle.dp_writer.specs.MadeModel.{cells_made, made_model}
use Rattle.dp_writer.specs.MadeSizes.{AreJointSizes}
use Rattle.dp_writer.specs.ModelRows.{row_length, start_row, table_rows}
use Rattle.dp_writer.specs.Writable.{are_writable_rows, is_decimal_cell, is_writable, is_writable_row, most_digits}
use Rattle.dp_writer.specs.Writable.{row_digits, written_scale}
use Rattle.dp_writer.specs.WrittenModel.{are_equal}
use Rattle.dp_writer.specs.WrittenNumbers.{decimal_over}

-- ---- digits

-- a number in so many fraction digits is written in no more
digits_within : (negative : Bool) (n k : ℕ) → (shortest negative n k).digits ≤ k
digits_within negative n zero = omega arith
digits_within negative n (suc k) = by (n % 10 == 0) (digits_within negative (n / 10) k)
  where
    by : (b : Bool) → (shortest negative (n / 10) k).digits ≤ k
        → (cond b (shortest negative (n / 10) k) (record { units = signed negative n; digits = suc k })).digits
        ≤ suc k
    by true less = omega arith
    by false less = omega arith

-- zeros at the end are not written
zeros_go : (negative : Bool) (n j k : ℕ) → (shortest negative (n * 10 ^ j) (j + k)).digits ≤ k
zeros_go negative n zero k =
    let whole : n * 10 ^ 0 ≡ n = omega arith in
    let all : 0 + k ≡ k = omega arith in
    subst (λ (m : ℕ). (shortest negative m (0 + k)).digits ≤ k) (sym whole)
    (subst (λ (d : ℕ). (shortest negative n d).digits ≤ k) (sym all) (digits_within negative n k))
zeros_go negative n (suc j) k =
    let one_more : n * 10 ^ suc j ≡ n * 10 ^ j * 10 = let power = pow-suc 10 j in ap (λ t. n * t) power
    ∙ sym (mul_assoc n (10 ^ j) 10) in
    let digits : suc j + k ≡ suc (j + k) = omega arith in
    let ends : (n * 10 ^ j * 10 % 10 == 0) ≡ true = eq-eqb _ 0 (mul-mod_left (n * 10 ^ j) 10) in
    let less : n * 10 ^ j * 10 / 10 ≡ n * 10 ^ j = mul-div_left (n * 10 ^ j) (omega arith) in
    subst (λ (m : ℕ). (shortest negative m (suc j + k)).digits ≤ k) (sym one_more)
    (subst (λ (d : ℕ). (shortest negative (n * 10 ^ j * 10) d).digits ≤ k) (sym digits)
    (rw ends (subst (λ (m : ℕ). (shortest negative m (j + k)).digits ≤ k) (sym less) (zeros_go negative n j k))))

-- a chance over 100 as a whole number over 10 ^ 18
hundredths : (n : ℕ) → n * 10 ^ 18 ≡ n * 10 ^ 16 * 100
hundredths n = omega arith

-- it is written in at most two fraction digits
cell_digits : (n : ℕ) → (decimal_over 18 (pos n) 100).digits ≤ 2
unfolding decimal_over
cell_digits n =
    let same : n * 10 ^ 18 / 100 ≡ n * 10 ^ 16 =
    ap (λ m. m / 100) (hundredths n) ∙ mul-div_left (n * 10 ^ 16) (omega arith) in
    subst (λ (m : ℕ). (shortest (is_below_zero (pos n)) m 18).digits ≤ 2) (sym same)
    (zeros_go (is_below_zero (pos n)) n 16 2)

most_of_cells : (cells : List ℕ) (m : ℕ) → m ≤ 2
    → fold (λ most n. max most (decimal_over 18 (pos n) 100).digits) m cells ≤ 2
most_of_cells [] m le = le
most_of_cells (n ∷ cells) m le =
    let here = cell_digits n in
    most_of_cells cells (max m (decimal_over 18 (pos n) 100).digits) (omega arith)

of_row : (cells : List ℕ) → row_digits 100 cells ≤ 2
of_row cells = by (are_equal cells) (most_of_cells cells 0 (omega arith))
  where
    by : (b : Bool) → most_digits 100 cells ≤ 2 → cond b 0 (most_digits 100 cells) ≤ 2
    by true le = omega arith
    by false le = le

most_of_rows : (rows : List (List ℕ)) (m : ℕ) → m ≤ 2 → fold (λ most row. max most (row_digits 100 row)) m rows ≤ 2
most_of_rows [] m le = le
most_of_rows (row ∷ rows) m le =
    let here = of_row row in most_of_rows rows (max m (row_digits 100 row)) (omega arith)

-- ---- scales

hundred : (d : ℕ) → d ≤ 2 → 10 ^ d ≤ 100
hundred zero le = omega arith
hundred (suc zero) le = omega arith
hundred (suc (suc zero)) le = omega arith
hundred (suc (suc (suc d))) le = absurd (omega arith)

small_scale : (d : ℕ) (uniform : Bool) (len : ℕ) → d ≤ 2 → len ≤ 256 → scale_of d uniform len ≤ 2 ^ 62
unfolding lcm_of
small_scale d true len le few =
    let power = hundred d le in
    let part = div-le_self (10 ^ d) (gcd_of (10 ^ d) len) in
    let all = mul-le (10 ^ d / gcd_of (10 ^ d) len) len 100 256 (omega (arith, power, part)) few in
    omega (arith, all)
small_scale d false len le few = let power = hundred d le in omega (arith, power)

-- ---- rows over 100

decimal_cells : (cells : List ℕ) → list_all (is_decimal_cell 100) cells ≡ true
decimal_cells [] = refl
decimal_cells (n ∷ cells) =
    let whole = ap (λ m. m % 100) (hundredths n) ∙ mul-mod_left (n * 10 ^ 16) 100 in
    and_from (n * 10 ^ 18 % 100 == 0) (list_all (is_decimal_cell 100) cells)
    (eq-eqb (n * 10 ^ 18 % 100) 0 whole) (decimal_cells cells)

writable_rows : (rows : List (List ℕ)) → list_all (is_writable_row 100) rows ≡ true
writable_rows [] = refl
writable_rows (row ∷ rows) =
    and_from (is_writable_row 100 row) (list_all (is_writable_row 100) rows)
    (or_right (are_equal row) (list_all (is_decimal_cell 100) row) (decimal_cells row)) (writable_rows rows)

writable_over_hundred : (len : ℕ) (rows : List (List ℕ)) → len ≤ 256 → are_writable_rows 100 len rows ≡ true
unfolding written_scale
writable_over_hundred len rows few =
    and_from (list_all (is_writable_row 100) rows) (nat_le (written_scale 100 len rows) (2 ^ 62)) (writable_rows rows)
    (le-leb (written_scale 100 len rows) (2 ^ 62)
    (small_scale (fold (λ most row. max most (row_digits 100 row)) 0 rows) (list_any are_equal rows) len
    (most_of_rows rows 0 (omega arith)) few))

-- ---- a uniform row

all_ones : (k : ℕ) → list_all (λ n. n == 1) (replicate k 1) ≡ true
all_ones zero = refl
all_ones (suc k) = all_ones k

equal_ones : (k : ℕ) → are_equal (replicate k 1) ≡ true
equal_ones zero = refl
equal_ones (suc k) = all_ones k

writable_uniform : (scale len : ℕ) (row : List ℕ) → are_equal row ≡ true → len ≤ 256
    → are_writable_rows scale len (row ∷ []) ≡ true
unfolding written_scale
writable_uniform scale len row equal few =
    let none : row_digits scale row ≡ 0 = ap (λ b. cond b 0 (most_digits scale row)) equal in
    let digits : max 0 (row_digits scale row) ≤ 2 = omega (arith, none) in
    and_from (list_all (is_writable_row scale) (row ∷ [])) (nat_le (written_scale scale len (row ∷ [])) (2 ^ 62))
    (and_from (is_writable_row scale row) true
    (or_left (are_equal row) (list_all (is_decimal_cell scale) row) equal) refl)
    (le-leb (written_scale scale len (row ∷ [])) (2 ^ 62)
    (small_scale (max 0 (row_digits scale row)) (list_any are_equal (row ∷ [])) len digits few))

-- ---- made models

pub made_writable : (size : MakeSize) (joint : JointSizes) (stream : Stream) → AreJointSizes size joint
    → is_writable (made_model size stream).model ≡ true
unfolding is_writable made_model cells_made joint_observations start_at
made_writable size joint stream of =
    let m = (made_model size stream).model in
    let start : start_row (made_model size stream).model ≡ replicate size.states 1 =
    sym (fill_by_all (start_at m) (replicate size.states 1) size.states 0 (length-replicate size.states 1)
    (λ k lt. ones k lt)) in
    let seen : row_length (made_model size stream).model Seen ≤ 256 =
    omega (arith, of.observations, of.observations_limit) in
    and_from (are_writable_rows size.states size.states (start_row m ∷ []))
    (are_writable_rows 100 size.states (table_rows m Next)
    && are_writable_rows 100 (row_length m Seen) (table_rows m Seen))
    (writable_uniform size.states size.states (start_row m) (ap are_equal start ∙ equal_ones size.states)
    of.states_limit)
    (and_from (are_writable_rows 100 size.states (table_rows m Next))
    (are_writable_rows 100 (row_length m Seen) (table_rows m Seen))
    (writable_over_hundred size.states (table_rows m Next) of.states_limit)
    (writable_over_hundred (row_length m Seen) (table_rows m Seen) seen))
  where
    ones : (k : ℕ) → k < size.states → get_or (replicate size.states 1) k 0
        ≡ start_at (made_model size stream).model k
    ones k lt = refl
