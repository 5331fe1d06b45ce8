-- The fields of a line, read one by one along axes.
use Rattle.std.proofs.Common.{◌≡◌, ℕ, ◌+◌, ◌-◌, ◌<◌, ◌≤◌, List, [], ◌∷◌, ◌++◌, length, get_or, drop, Result, Ok, Err}
use Rattle.std.proofs.Common.{refl, ap, ◌∙◌, arith, length-append, length-drop}
use Rattle.std.proofs.lemmas.List.{drop_all, drop-drop}
use Rattle.dp_meaning.specs.declared.why.Fault.{Fault}
use Rattle.dp_meaning.specs.declared.why.Why.TheVariants.{Expected}
use Rattle.dp_meaning.specs.declared.statement.Part.{Part}
use Rattle.dp_meaning.specs.Faults.{◌>>=◌, fault}
use Rattle.dp_meaning.specs.Items.{Piece}
use Rattle.dp_meaning.specs.Fields.{Axis, Field, fields_of, field_parts, all_parts}
use Rattle.dp_text.specs.FirstFields.{HasNoField, IsFirstField}
use Rattle.dp_text.specs.Reading.{Reads}
use Rattle.dp_text.specs.declared.fault.TextFault.{TextFault}
use Rattle.dp_text.specs.declared.fault.TextFault.TheVariants.{At, Memory}
use Rattle.dp_text.proofs.Continuing.{Continues, starts, continues_one, continues_none}
use Rattle.dp_items.proofs.Places.{drop_item}

abbrev pub all_of : List Axis → List Piece → Result (List (List Part)) Fault
all_of axes line = all_parts axes (fields_of line).fields

-- the first fields are read, and this is left of the line
pub record FieldsRead (axes : List Axis) (line : List Piece) (parts : List (List Part)) (left : List Piece) :
    Type 0 where
  pub few : length parts ≤ length axes
  pub shorter : length left ≤ length line
  pub behind : left ≡ drop (length line - length left) line
  pub is : Continues (all_of axes line) parts (all_of (drop (length parts) axes) left)
  pub rest : (fields_of line).rest ≡ (fields_of left).rest

pub none_read : (axes : List Axis) (line : List Piece) → FieldsRead axes line [] line
none_read axes line = record {
  few = omega arith;
  shorter = omega arith;
  behind = (let e : length line - length line ≡ 0 = omega arith in rw e refl);
  is = starts (all_of axes line);
  rest = refl;
}

-- less is left
left_behind : (line left : List Piece) (n : ℕ) → n ≤ length left → length left ≤ length line
    → left ≡ drop (length line - length left) line → drop n left ≡ drop (length line - length (drop n left)) line
left_behind line left n within shorter behind =
    let len : length line - length left + n ≡ length line - length (drop n left) =
    omega (arith, length-drop {A = Piece}) in
    ap (drop n) behind ∙ drop-drop n (length line - length left) line ∙ ap (λ k. drop k line) len

module _ {axes : List Axis} {line : List Piece} {parts : List (List Part)} {left : List Piece}
    (h : FieldsRead axes line parts left) where
  at_field : (field : Field) (axis : Axis) → IsFirstField field left → length parts < length axes
      → axis ≡ get_or axes (length parts) []
      → Continues (all_of axes line) parts
      (field_parts axis field >>= λ first. all_of (drop (length parts + 1) axes)
      (drop (length field.pieces + 1) left) >>= λ others. Ok (first ∷ others))
  unfolding all_parts
  at_field field axis f within a =
      let here = drop_item axes (length parts) [] within in rw (ap (λ fs. fs.fields) f, here, ← a) at h.is

  pub field_read : (field : Field) (axis : Axis) (of_field : List Part) → IsFirstField field left
      → length field.pieces < length left
      → length parts < length axes → axis ≡ get_or axes (length parts) [] → field_parts axis field ≡ Ok of_field
      → FieldsRead axes line (parts ++ of_field ∷ []) (drop (length field.pieces + 1) left)
  field_read field axis of_field f some within a read = record {
    few = omega (arith, length-append {A = List Part});
    shorter = (let l = h.shorter in omega (arith, length-drop {A = Piece}));
    behind = left_behind line left (length field.pieces + 1) (omega arith) h.shorter h.behind;
    is = (let more : length (parts ++ of_field ∷ []) ≡ length parts + 1 =
        omega (arith, length-append {A = List Part}) in
        rw more (continues_one _ parts of_field _ (rw read at (at_field field axis f within a))));
    rest = h.rest ∙ ap (λ fs. fs.rest) f;
  }

  -- a field is wrong
  pub field_fault : (field : Field) (axis : Axis) (e : TextFault) → IsFirstField field left
      → length parts < length axes
      → axis ≡ get_or axes (length parts) [] → Reads (field_parts axis field) (Err e)
      → Reads (all_of axes line) (Err e)
  field_fault field axis (At e) f within a read =
      let stops : Continues (all_of axes line) parts (Err e) = rw read at (at_field field axis f within a) in stops.is
  field_fault field axis Memory f within a read = tt

  -- there is a field too many
  pub too_many : (field : Field) → IsFirstField field left → length parts ≡ length axes
      → all_of axes line ≡ fault Expected field.colon
  unfolding all_parts
  too_many field f e =
      let none = drop_all (length parts) axes (omega arith) in
      let stops : Continues (all_of axes line) parts (fault Expected field.colon) =
      rw (ap (λ fs. fs.fields) f, none) at h.is in stops.is

  -- no Colon is left
  pub fields_end : HasNoField left
      → (all_of axes line ≡ Ok parts) × (length parts ≤ length axes) × (length line - length left ≤ length line)
      × ((fields_of line).rest ≡ drop (length line - length left) line)
  unfolding all_parts
  fields_end f = (
    continues_none _ parts (rw (ap (λ fs. fs.fields) f) at h.is),
    h.few,
    omega arith,
    h.rest ∙ ap (λ fs. fs.rest) f ∙ h.behind,
  )
