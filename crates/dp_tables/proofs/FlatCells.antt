-- The cells of a table by one digit for each list of its axes.
use Rattle.std.proofs.Common.{◌≡◌, ℕ, suc, ◌*◌, ◌/◌, ◌%◌, ◌<◌, ◌&&◌, List, [], ◌∷◌, ◌++◌, length, map, drop, refl}
use Rattle.std.proofs.Common.{sym, ap, subst, ◌∙◌, arith}
use Rattle.std.proofs.lemmas.Nat.{mod_below}
use Rattle.std.proofs.Math.Bool.{and_assoc}
use Rattle.dp_spec.specs.JointNumbers.{product, parts_of}
use Rattle.dp_spec.proofs.JointNumberLaws.{product-append, positive_right, length-parts_of, parts_of-append}
use Rattle.dp_meaning.specs.declared.given_list.GivenList.{GivenList}
use Rattle.dp_meaning.specs.declared.statement.Part.{Part}
use Rattle.dp_meaning.specs.declared.statement.Part.TheVariants.{Any, Only}
use Rattle.dp_meaning.specs.NameLists.{size_of}
use Rattle.dp_meaning.specs.Fields.{Axis}
use Rattle.dp_meaning.specs.Statements.{axis_size}
use Rattle.dp_meaning.specs.Cells.{allows, allow, covers}
use Rattle.dp_meaning.proofs.ReadFields.{IsPartOf, ArePartsOf, AreFieldsOf}
use Rattle.dp_tables.specs.Writing.{IsPartWithin, ArePartsWithin, is_covered, list_sizes, list_parts}

-- ---- sizes and parts

-- as many cells by lists as by axes
pub product_of_lists : (axes : List Axis) → product (list_sizes axes) ≡ product (map axis_size axes)
product_of_lists [] = refl
product_of_lists (axis ∷ axes) =
    product-append (map size_of axis) (list_sizes axes)
    ∙ ap (λ n. product (map size_of axis) * n) (product_of_lists axes)

one_each : (axis : Axis) (parts : List Part) → ArePartsOf axis parts → length parts ≡ length (map size_of axis)
one_each [] [] are = refl
one_each [] (part ∷ parts) are = absurd are
one_each (list ∷ lists) [] are = absurd are
one_each (list ∷ lists) (part ∷ parts) are = ap suc (one_each lists parts are.1)

within_one : (list : GivenList) (part : Part) → IsPartOf list part → IsPartWithin (size_of list) part
within_one list Any is = tt
within_one list (Only n) is = is

within_axis : (axis : Axis) (parts : List Part) (sizes : List ℕ) (others : List Part) → ArePartsOf axis parts
    → ArePartsWithin sizes others
    → ArePartsWithin (map size_of axis ++ sizes) (parts ++ others)
within_axis [] [] sizes others are rest = rest
within_axis [] (part ∷ parts) sizes others are rest = absurd are
within_axis (list ∷ lists) [] sizes others are rest = absurd are
within_axis (list ∷ lists) (part ∷ parts) sizes others are rest =
    (within_one list part are.0, within_axis lists parts sizes others are.1 rest)

no_parts : (sizes : List ℕ) → ArePartsWithin sizes []
no_parts [] = tt
no_parts (size ∷ sizes) = tt

-- the parts of the fields are parts of the lists
pub parts_within : (axes : List Axis) (fields : List (List Part)) → AreFieldsOf axes fields
    → ArePartsWithin (list_sizes axes)
    (list_parts fields)
parts_within axes [] are = no_parts (list_sizes axes)
parts_within [] (parts ∷ fields) are = absurd are
parts_within (axis ∷ axes) (parts ∷ fields) are =
    within_axis axis parts (list_sizes axes) (list_parts fields) are.0 (parts_within axes fields are.1)

behind_axis : (axis : Axis) (parts : List Part) (sizes : List ℕ) (others : List Part) → ArePartsOf axis parts
    → drop (length (parts ++ others)) (map size_of axis ++ sizes) ≡ drop (length others) sizes
behind_axis [] [] sizes others are = refl
behind_axis [] (part ∷ parts) sizes others are = absurd are
behind_axis (list ∷ lists) [] sizes others are = absurd are
behind_axis (list ∷ lists) (part ∷ parts) sizes others are = behind_axis lists parts sizes others are.1

-- the lists without a part are those of the axes without a field
behind_parts : (axes : List Axis) (fields : List (List Part)) → AreFieldsOf axes fields
    → drop (length (list_parts fields)) (list_sizes axes) ≡ list_sizes (drop (length fields) axes)
behind_parts axes [] are = refl
behind_parts [] (parts ∷ fields) are = absurd are
behind_parts (axis ∷ axes) (parts ∷ fields) are =
    behind_axis axis parts (list_sizes axes) (list_parts fields) are.0 ∙ behind_parts axes fields are.1

pub width_of_parts : (axes : List Axis) (fields : List (List Part)) → AreFieldsOf axes fields
    → product (drop (length (list_parts fields)) (list_sizes axes))
    ≡ product (map axis_size (drop (length fields) axes))
width_of_parts axes fields are = ap product (behind_parts axes fields are)
    ∙ product_of_lists (drop (length fields) axes)

-- ---- covered cells

-- parts that come one after the other allow their numbers in turn
allow_append : (parts others : List Part) (ns ms : List ℕ) → length parts ≡ length ns
    → allow (parts ++ others) (ns ++ ms) ≡ (allow parts ns && allow others ms)
allow_append [] others [] ms e = refl
allow_append [] others (n ∷ ns) ms e = absurd (omega arith)
allow_append (part ∷ parts) others [] ms e = absurd (omega arith)
allow_append (part ∷ parts) others (n ∷ ns) ms e =
    ap (λ b. allows part n && b) (allow_append parts others ns ms (omega arith))
    ∙ sym (and_assoc (allows part n) (allow parts ns) (allow others ms))

-- the fields cover the cells that their parts allow
pub covered_by_lists : (axes : List Axis) (fields : List (List Part)) (k : ℕ) → AreFieldsOf axes fields
    → k < product (list_sizes axes)
    → is_covered (list_sizes axes) (list_parts fields) k ≡ covers axes fields (parts_of (map axis_size axes) k)
covered_by_lists [] [] k are h = refl
covered_by_lists (axis ∷ axes) [] k are h = refl
covered_by_lists [] (parts ∷ fields) k are h = absurd are
covered_by_lists (axis ∷ axes) (parts ∷ fields) k are h =
    let some : 0 < product (list_sizes axes) = positive_right (product (map size_of axis))
    (product (list_sizes axes)) k
    (subst (λ n. k < n) (product-append (map size_of axis) (list_sizes axes)) h) in
    ap (allow (parts ++ list_parts fields)) (parts_of-append (map size_of axis) (list_sizes axes) k h)
    ∙ allow_append parts (list_parts fields) (parts_of (map size_of axis) (k / product (list_sizes axes)))
    (parts_of (list_sizes axes) (k % product (list_sizes axes)))
    (one_each axis parts are.0 ∙ sym (length-parts_of (map size_of axis) (k / product (list_sizes axes))))
    ∙ ap (λ b. allow parts (parts_of (map size_of axis) (k / product (list_sizes axes))) && b)
    (covered_by_lists axes fields (k % product (list_sizes axes)) are.1
    (mod_below k (product (list_sizes axes)) some))
    ∙ ap (λ n. allow parts (parts_of (map size_of axis) (k / n)) && covers axes fields
    (parts_of (map axis_size axes) (k % n)))
    (product_of_lists axes)
