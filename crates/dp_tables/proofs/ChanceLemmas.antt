-- What a statement gives the chances that it covers.
use Rattle.std.proofs.Common.{◌≡◌, ◌⊎◌, inl, inr, ℕ, zero, suc, ◌*◌, ◌/◌, ◌%◌, ◌<◌, true, cond, List, [], ◌∷◌, length}
use Rattle.std.proofs.Common.{get_or, map, drop, refl, sym, ap, subst, ◌∙◌, arith}
use Rattle.std.specs.Prelude.{◌==◌}
use Rattle.std.specs.List.{range_with_len}
use Rattle.std.proofs.lemmas.Bool.{and_parts}
use Rattle.std.proofs.lemmas.Bool.Decides.{nat_tests}
use Rattle.std.proofs.lemmas.List.{length-map, drop-map, get_or-map, length-drop}
use Rattle.std.proofs.lemmas.List.FromFn.{length-map-range_with_len, get_or-map-range_with_len}
use Rattle.std.proofs.lemmas.Nat.{mod_below}
use Rattle.dp_spec.specs.JointNumbers.{product, parts_of}
use Rattle.dp_spec.proofs.JointNumberLaws.{product-drop_above, joint_number-drop_parts}
use Rattle.dp_base.specs.declared.decimal.Decimal.{Decimal}
use Rattle.dp_meaning.specs.declared.statement.Table.{Table}
use Rattle.dp_meaning.specs.declared.statement.Value.{Value}
use Rattle.dp_meaning.specs.declared.statement.Value.TheVariants.{Uniform, Identity, Numbers}
use Rattle.dp_meaning.specs.Fields.{Axis}
use Rattle.dp_meaning.specs.Statements.{axis_size, is_trans, allows_identity}
use Rattle.dp_meaning.specs.Cells.{no_number, number_at, chance_over, given_chance}
use Rattle.dp_meaning.proofs.ReadFields.{Fills}
use Rattle.dp_tables.specs.Blocks.{identity_at, chance_block}

-- a table of so many joint actions and states, whose rows have so many cells
pub record IsTableOver (table : Table) (axes : List Axis) (actions states len : ℕ) : Type 0 where
  pub sizes : map axis_size axes ≡ actions ∷ states ∷ len ∷ []
  pub square : is_trans table ≡ true → states ≡ len
  pub some : 0 < product (map axis_size axes)

three_axes : (table : Table) (axes : List Axis) (actions states len : ℕ) → IsTableOver table axes actions states len
    → length axes ≡ 3
three_axes table axes actions states len is = sym (length-map axes axis_size) ∙ ap length is.sizes

-- `identity` is square, and stands behind one field
is_square : (table : Table) (axes : List Axis) (actions states len f : ℕ) → IsTableOver table axes actions states len
    → allows_identity table (drop f axes) ≡ true → (states ≡ len) × (f ≡ 1)
is_square table axes actions states len f is e =
    let parts = and_parts (is_trans table) (length (drop f axes) == 2) e in (is.square parts.0, one parts.1)
  where
    one : (length (drop f axes) == 2) ≡ true → f ≡ 1
    one t =
        let two : length (drop f axes) ≡ 2 = grind (arith, nat_tests) in
        let long = three_axes table axes actions states len is in
        let rest = length-drop f axes in omega arith

-- a block of one value, or of one for each cell of the axes without a field
pub block_fits : (scale actions states len f : ℕ) (table : Table) (axes : List Axis) (v : Value)
    → IsTableOver table axes actions states len → Fills table (drop f axes) v
    → (length (chance_block scale len v) ≡ 1)
    ⊎ (length (chance_block scale len v) ≡ product (map axis_size (drop f axes)))
block_fits scale actions states len f table axes Uniform is fills = inl refl
block_fits scale actions states len f table axes (Numbers ns) is fills =
    inr (length-map ns (chance_over scale) ∙ fills)
block_fits scale actions states len f table axes Identity is fills =
    let w = is_square table axes actions states len f is fills in
    inr (length-map-range_with_len (identity_at scale len) 0 (len * len) ∙ squared states w.0
    ∙ ap (λ ns. product (drop 1 ns)) (sym is.sizes) ∙ ap (λ n. product (drop n (map axis_size axes))) (sym w.1)
    ∙ ap product (drop-map axis_size f axes))
  where
    squared : (n : ℕ) → n ≡ len → len * len ≡ product (n ∷ len ∷ [])
    squared n e = let turned = ap (λ m. m * (len * 1)) e in omega arith

-- ---- the value of a cell

-- the digits of a cell of a square
of_identity : (scale actions len k : ℕ) → 0 < len
    → get_or (map (identity_at scale len) (range_with_len 0 (len * len))) (k % (len * len)) 0
    ≡ given_chance scale (actions ∷ len ∷ len ∷ []) 1 (parts_of (actions ∷ len ∷ len ∷ []) k) Identity
of_identity scale actions len k some =
    get_or-map-range_with_len (identity_at scale len) 0 (len * len) (k % (len * len)) (k % (len * len)) 0
    (mod_below k (len * len) (square_some len some)) (omega arith)
    ∙ ap (λ n. cond (k % (len * len) / n == k % (len * len) % n) scale 0) single
    ∙ ap (λ n. cond (k % n / (len * 1) == k % n % (len * 1)) scale 0) double
    ∙ ap (λ n. cond (k % (len * (len * 1)) / (len * 1) == n) scale 0)
    (sym (over_one (k % (len * (len * 1)) % (len * 1))))
  where
    single : len ≡ len * 1
    single = omega arith

    double : len * len ≡ len * (len * 1)
    double = ap (λ n. len * n) single

    over_one : (n : ℕ) → n / 1 ≡ n
    over_one n = omega arith

    square_some : (n : ℕ) → 0 < n → 0 < n * n
    square_some zero h = absurd (omega arith)
    square_some (suc n) h = omega arith

-- the numbers behind the fields, each over its scale
pub of_numbers : (T : Type 0) (none : T) (over : Decimal → T) (k f : ℕ) (sizes : List ℕ) (ns : List Decimal)
    → k < product sizes
    → length ns ≡ product (drop f sizes)
    → get_or (map over ns) (k % length (map over ns)) none ≡ over (number_at sizes f (parts_of sizes k) ns)
of_numbers T none over k f sizes ns h long =
    let some : 0 < product (drop f sizes) = product-drop_above sizes f (omega arith) in
    let width : length (map over ns) ≡ product (drop f sizes) = length-map ns over ∙ long in
    let low = mod_below k (product (drop f sizes)) some in
    ap (λ n. get_or (map over ns) (k % n) none) width
    ∙ get_or-map over ns (k % product (drop f sizes)) no_number none (omega arith)
    ∙ ap (λ n. over (get_or ns n no_number)) (sym (joint_number-drop_parts f sizes k h))

-- the block gives a cell what the statement gives it
pub value_at : (scale actions states len k f : ℕ) (table : Table) (axes : List Axis) (v : Value)
    → IsTableOver table axes actions states len → Fills table (drop f axes) v → k < product (map axis_size axes)
    → get_or (chance_block scale len v) (k % length (chance_block scale len v)) 0
    ≡ given_chance scale (map axis_size axes) f (parts_of (map axis_size axes) k) v
value_at scale actions states len k f table axes Uniform is fills h =
    let e : k % 1 ≡ 0 = omega arith in
    ap (λ n. get_or (scale / len ∷ []) n 0) e
    ∙ ap (λ ns. given_chance scale ns f (parts_of (map axis_size axes) k) Uniform) (sym is.sizes)
value_at scale actions states len k f table axes (Numbers ns) is fills h =
    of_numbers ℕ 0 (chance_over scale) k f (map axis_size axes) ns h (fills
    ∙ ap product (sym (drop-map axis_size f axes)))
value_at scale actions states len k f table axes Identity is fills h =
    let w = is_square table axes actions states len f is fills in
    let sizes : map axis_size axes ≡ actions ∷ len ∷ len ∷ [] = is.sizes ∙ ap (λ n. actions ∷ n ∷ len ∷ []) w.0 in
    ap (λ n. get_or (map (identity_at scale len) (range_with_len 0 (len * len))) (k % n) 0)
    (length-map-range_with_len (identity_at scale len) 0 (len * len))
    ∙ of_identity scale actions len k (some_len len (subst (λ ns. 0 < product ns) sizes is.some))
    ∙ ap (λ ns. given_chance scale ns f (parts_of ns k) Identity) (sym sizes)
  where
    some_len : (n : ℕ) → 0 < product (actions ∷ n ∷ n ∷ []) → 0 < n
    some_len zero g = let none : actions * (0 * (0 * 1)) ≡ 0 = omega arith in absurd (omega arith)
    some_len (suc n) g = omega arith
