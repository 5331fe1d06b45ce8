-- Which statements cover a row.
use Rattle.std.proofs.Common.{◌≡◌, ℕ, zero, suc, ◌+◌, ◌-◌, ◌*◌, ◌<◌, ◌≤◌, Bool, true, false, List, [], ◌∷◌, length}
use Rattle.std.proofs.Common.{get_or, map, take, drop, subst, refl, sym, ap, ◌∙◌, arith}
use Rattle.std.specs.Prelude.{◌||◌, ◌&&◌, None}
use Rattle.std.specs.List.{list_any, range_with_len}
use Rattle.std.proofs.lemmas.Nat.{mul-le}
use Rattle.std.proofs.lemmas.List.{take_all}
use Rattle.dp_meaning.specs.declared.statement.Part.{Part}
use Rattle.dp_meaning.specs.declared.given_list.GivenList.{GivenList}
use Rattle.dp_meaning.specs.declared.header.Header.{Header}
use Rattle.dp_meaning.specs.declared.statement.Table.{Table}
use Rattle.dp_meaning.specs.declared.statement.Table.TheVariants.{Trans, Obs, Reward}
use Rattle.dp_meaning.specs.declared.text.Text.{Text}
use Rattle.dp_meaning.specs.Cells.{allow, covers}
use Rattle.dp_meaning.specs.Fields.{Axis}
use Rattle.dp_meaning.specs.Limits.{passed_limit}
use Rattle.dp_meaning.specs.Meaning.{IsSaid}
use Rattle.dp_meaning.specs.Rows.{row_cells}
use Rattle.dp_meaning.specs.Statements.{axes_of}
use Rattle.dp_meaning.proofs.ModelLaws.{text_is, some_product}
use Rattle.dp_meaning.proofs.TextLimits.{small}
use Rattle.dp_tables.specs.Covering.{is_row_allowed}
use Rattle.dp_meaning.specs.NameLists.{size_of}
use Rattle.dp_spec.specs.JointNumbers.{parts_of, product}

pub record IsSmallRest (n p : ℕ) : Type 0 where
  pub some : 0 < p
  pub limit : p ≤ n * p

-- the second of two factors, of which none is 0
pub small_rest : (n p : ℕ) → 0 < n * p → IsSmallRest n p
small_rest zero p h = absurd (omega arith)
small_rest (suc n) zero h = absurd (omega arith)
small_rest (suc n) (suc p) h = record {
  some = omega arith;
  limit =
      (let h = mul-le 1 (suc p) (suc n) (suc p) (omega arith) (omega arith) in omega arith);
}

-- the parts of no lists
allow_nothing : (parts : List Part) → allow parts [] ≡ true
allow_nothing [] = refl
allow_nothing (part ∷ parts) = refl

pub allow_no_lists : (lists : List GivenList) (parts : List Part) (n : ℕ) → length lists < 1
    → allow parts (parts_of (map size_of lists) n) ≡ true
allow_no_lists [] parts n h = allow_nothing parts
allow_no_lists (l ∷ lists) parts n h = absurd (omega arith)

-- what is left of some lists that have at least one number each
pub small_others : (lists : List GivenList) → 0 < product (map size_of lists) → 1 ≤ length lists
    → (0 < product (map size_of (take (length lists - 1) (drop 1 lists))))
    × (product (map size_of (take (length lists - 1) (drop 1 lists))) ≤ product (map size_of lists))
small_others [] h k = absurd (omega arith)
small_others (l ∷ lists) h k =
    let same : take (suc (length lists) - 1) lists ≡ lists = take_all (suc (length lists) - 1) lists (omega arith) in
    let rest = small_rest (size_of l) (product (map size_of lists)) h in
    subst (λ ls. (0 < product (map size_of ls)) × (product (map size_of ls) ≤ size_of l
    * product (map size_of lists))) (sym same)
    (rest.some, rest.limit)

-- the numbers from one on, of which that one fails
pub none_here : (p : ℕ → Bool) (i n : ℕ) → i < n → p i ≡ false
    → list_any p (range_with_len (i + 1) (n - (i + 1))) ≡ list_any p (range_with_len i (n - i))
none_here p i n h e =
    let more : n - i ≡ suc (n - (i + 1)) = omega arith in
    sym (ap (λ k. list_any p (range_with_len i k)) more
    ∙ ap (λ b. b || list_any p (range_with_len (i + 1) (n - (i + 1)))) e)

-- ---- the axes of a text

-- the joint numbers of the axes are some, and few
pub record AreSmallAxes (text : Text) : Type 0 where
  pub some_actions : 0 < product (map size_of text.header.actions)
  pub some_states : 0 < product (size_of text.header.states ∷ [])
  pub some_last : (table : Table) → 0 < product (map size_of (get_or (axes_of text.header table) 2 []))
  pub actions : product (map size_of text.header.actions) ≤ 256
  pub states : product (size_of text.header.states ∷ []) ≤ 256
  pub last : (table : Table) → product (map size_of (get_or (axes_of text.header table) 2 [])) ≤ 256

pub small_axes : (text : Text) → IsSaid text → passed_limit text ≡ None → AreSmallAxes text
small_axes text said within =
    let is = text_is said.0 text said.1 in
    let fits = small text within in
    let some = is.header.states.some in
    let few = fits.states in
    let one : product (size_of text.header.states ∷ []) ≡ size_of text.header.states = omega arith in
    record {
      some_actions = some_product text.header.actions is.header.actions.each;
      some_states = omega arith;
      some_last = λ table. elim table as (λ t. 0 < product (map size_of (get_or (axes_of text.header t) 2 []))) [
        | Trans ↦ omega arith
        | Obs ↦ some_product text.header.observations is.header.observations.each
        | Reward ↦ omega arith
      ];
      actions = fits.actions;
      states = omega arith;
      last = λ table. elim table as (λ t. product (map size_of (get_or (axes_of text.header t) 2 [])) ≤ 256) [
        | Trans ↦ omega arith
        | Obs ↦ fits.observations
        | Reward ↦ omega arith
      ];
    }

-- ---- cells of a row

covers_by_field : (x y z : Axis) (rest : List Axis) (fields : List (List Part)) (a s n : ℕ)
    → covers (x ∷ y ∷ z ∷ rest) fields (a ∷ s ∷ n ∷ [])
    ≡ ((allow (get_or fields 0 []) (parts_of (map size_of x) a) && allow (get_or fields 1 [])
    (parts_of (map size_of y) s))
    && allow (get_or fields 2 []) (parts_of (map size_of z) n))
covers_by_field x y z rest [] a s n = refl
covers_by_field x y z rest (p ∷ []) a s n = one (allow p (parts_of (map size_of x) a))
  where
    one : (b : Bool) → (b && true) ≡ ((b && true) && true)
    one true = refl
    one false = refl
covers_by_field x y z rest (p ∷ q ∷ []) a s n = two (allow p (parts_of (map size_of x) a))
    (allow q (parts_of (map size_of y) s))
  where
    two : (b c : Bool) → (b && (c && true)) ≡ ((b && c) && true)
    two true true = refl
    two true false = refl
    two false c = refl
covers_by_field x y z rest (p ∷ q ∷ r ∷ fields) a s n =
    three (allow p (parts_of (map size_of x) a)) (allow q (parts_of (map size_of y) s))
    (allow r (parts_of (map size_of z) n)) _ (no_cell rest fields)
  where
    no_cell : (axes : List Axis) (fields : List (List Part)) → covers axes fields [] ≡ true
    no_cell [] fields = refl
    no_cell (x ∷ axes) [] = refl
    no_cell (x ∷ axes) (p ∷ fields) = refl

    three : (b c d e : Bool) → e ≡ true → (b && (c && (d && e))) ≡ ((b && c) && d)
    three true true true e h = h
    three true true false e h = refl
    three true false d e h = refl
    three false c d e h = refl

some_of_row : (row : Bool) (f : ℕ → Bool) (a n : ℕ)
    → list_any (λ k. row && f k) (range_with_len a n) ≡ (row && list_any f (range_with_len a n))
some_of_row true f a n = refl
some_of_row false f a n = none a n
  where
    none : (a n : ℕ) → list_any (λ k. false) (range_with_len a n) ≡ false
    none a zero = refl
    none a (suc n) = none (a + 1) n

any_of_map : {X : Type 0} (p : X → Bool) (f : ℕ → X) (a n : ℕ)
    → list_any p (map f (range_with_len a n)) ≡ list_any (λ k. p (f k)) (range_with_len a n)
any_of_map p f a zero = refl
any_of_map p f a (suc n) = ap (λ b. p (f a) || b) (any_of_map p f (a + 1) n)

any_same : (p q : ℕ → Bool) → ((k : ℕ) → p k ≡ q k) → (a n : ℕ)
    → list_any p (range_with_len a n) ≡ list_any q (range_with_len a n)
any_same p q h a zero = refl
any_same p q h a (suc n) = ap (λ b. b || list_any p (range_with_len (a + 1) n)) (h a)
    ∙ ap (λ b. q a || b) (any_same p q h (a + 1) n)

-- a statement covers a cell of the row where its fields allow the row, and one of the row's cells
pub covers_some : (header : Header) (table : Table) (fields : List (List Part)) (a s len : ℕ)
    → list_any (covers (axes_of header table) fields) (row_cells (a ∷ s ∷ []) len)
    ≡ (is_row_allowed header fields a s
    && list_any (λ n. allow (get_or fields 2 []) (parts_of (map size_of (get_or (axes_of header table) 2 [])) n))
    (range_with_len 0 len))
covers_some header table fields a s len =
    any_of_map (covers (axes_of header table) fields) (λ n. a ∷ s ∷ n ∷ []) 0 len
    ∙ any_same _ _ (by table) 0 len ∙ some_of_row (is_row_allowed header fields a s) _ 0 len
  where
    by : (t : Table) (n : ℕ) → covers (axes_of header t) fields (a ∷ s ∷ n ∷ [])
        ≡ (is_row_allowed header fields a s && allow (get_or fields 2 [])
        (parts_of (map size_of (get_or (axes_of header t) 2 [])) n))
    by Trans n = covers_by_field header.actions (header.states ∷ []) (header.states ∷ []) [] fields a s n
    by Obs n = covers_by_field header.actions (header.states ∷ []) header.observations [] fields a s n
    by Reward n = covers_by_field header.actions (header.states ∷ []) (header.states ∷ [])
        (header.observations ∷ []) fields a s n

pub row_not_allowed : (header : Header) (table : Table) (fields : List (List Part)) (a s len : ℕ)
    → is_row_allowed header fields a s ≡ false
    → false ≡ list_any (covers (axes_of header table) fields) (row_cells (a ∷ s ∷ []) len)
row_not_allowed header table fields a s len e =
    let some : ℕ → Bool = λ n. allow (get_or fields 2 [])
    (parts_of (map size_of (get_or (axes_of header table) 2 [])) n) in
    let both : Bool → Bool = λ b. b && list_any some (range_with_len 0 len) in
    sym (covers_some header table fields a s len ∙ ap both e)

pub row_allowed : (header : Header) (table : Table) (fields : List (List Part)) (a s len : ℕ)
    → is_row_allowed header fields a s ≡ true
    → (lists : List GivenList) (parts : List Part) → lists ≡ get_or (axes_of header table) 2 []
    → parts ≡ get_or fields 2 []
    → list_any (λ n. allow parts (parts_of (map size_of lists) n)) (range_with_len 0 len)
    ≡ list_any (covers (axes_of header table) fields) (row_cells (a ∷ s ∷ []) len)
row_allowed header table fields a s len e lists parts el ep =
    let some : List GivenList → List Part → Bool = λ ls ps.
    list_any (λ n. allow ps (parts_of (map size_of ls) n)) (range_with_len 0 len) in
    let both : Bool → Bool = λ b. b && some (get_or (axes_of header table) 2 []) (get_or fields 2 []) in
    ap (λ ls. some ls parts) el ∙ ap (some (get_or (axes_of header table) 2 [])) ep
    ∙ sym (covers_some header table fields a s len ∙ ap both e)
