-- The fields of a statement's line by their symbols, and what is read of them.
use Rattle.std.proofs.Common.{◌≡◌, ℕ, ◌<◌, ◌^◌, Bool, true, false, cond, List, [], ◌∷◌, ◌++◌, map}
use Rattle.std.proofs.Common.{refl, ap, ◌∙◌}
use Rattle.std.specs.Fmt.{decimal}
use Rattle.dp_base.specs.DecimalShape.{is_decimal}
use Rattle.dp_lexer.specs.declared.Kind.TheVariants.{Word, Number}
use Rattle.dp_spec.proofs.JointNumberLaws.{AreBelow}
use Rattle.dp_meaning.specs.declared.given_list.GivenList.{GivenList}
use Rattle.dp_meaning.specs.declared.statement.Part.{Part}
use Rattle.dp_meaning.specs.declared.statement.Part.TheVariants.{Any, Only}
use Rattle.dp_meaning.specs.Faults.{◌>>=◌}
use Rattle.dp_meaning.specs.Items.{Piece, is_colon, is_star}
use Rattle.dp_meaning.specs.NameLists.{find_in, size_of}
use Rattle.dp_meaning.specs.Fields.{Axis, Field, Fields, all_parts, field_parts, fields_of, in_first_field}
use Rattle.dp_meaning.specs.Fields.{is_one_star}
use Rattle.dp_meaning.specs.Fields.{part_of, parts_in, with_field_piece}
use Rattle.dp_meaning.proofs.Each.{Each}
use Rattle.dp_meaning.proofs.FaultSteps.{done}
use Rattle.dp_writer.proofs.ReadPieces.{place_read, step_done, text_is}
use Rattle.dp_writer.proofs.Symbols.{Symbol, colon_symbol, run_symbol, star_symbol, symbol_of}

-- ---- fields by their symbols

-- the symbols of the fields of a line, and of what stands after the last Colon
pub record SymbolFields : Type 0 where
  pub fields : List (List Symbol)
  pub rest : List Symbol

-- the symbols of a field
abbrev pub of_field : Field → List Symbol
of_field field = map symbol_of field.pieces

-- of fields
abbrev pub of_fields : Fields → SymbolFields
of_fields fields = record { fields = map of_field fields.fields; rest = map symbol_of fields.rest }

abbrev in_first : Symbol → List (List Symbol) → List Symbol → SymbolFields
in_first symbol [] rest = record { fields = []; rest = symbol ∷ rest }
in_first symbol (field ∷ fields) rest = record { fields = (symbol ∷ field) ∷ fields; rest = rest }

abbrev with_field : Bool → Symbol → SymbolFields → SymbolFields
with_field true symbol others = record others { fields = [] ∷ others.fields }
with_field false symbol others = in_first symbol others.fields others.rest

-- the fields of symbols
abbrev pub symbol_fields : List Symbol → SymbolFields
symbol_fields [] = record { fields = []; rest = [] }
symbol_fields (symbol ∷ symbols) = with_field (is_colon symbol.kind) symbol (symbol_fields symbols)

first_symbols : (piece : Piece) (fields : List Field) (rest : List Piece)
    → of_fields (in_first_field piece fields rest)
    ≡ in_first (symbol_of piece) (map of_field fields) (map symbol_of rest)
first_symbols piece [] rest = refl
first_symbols piece (field ∷ fields) rest = refl

field_front : (colon : Bool) (piece : Piece) (others : Fields)
    → of_fields (with_field_piece colon piece others) ≡ with_field colon (symbol_of piece) (of_fields others)
field_front true piece others = refl
field_front false piece others = first_symbols piece others.fields others.rest

-- the fields of pieces have the fields of their symbols
pub fields_symbols : (pieces : List Piece) → of_fields (fields_of pieces) ≡ symbol_fields (map symbol_of pieces)
unfolding fields_of
fields_symbols [] = refl
fields_symbols (piece ∷ pieces) =
    field_front (is_colon piece.kind) piece (fields_of pieces)
    ∙ ap (with_field (is_colon piece.kind) (symbol_of piece)) (fields_symbols pieces)

-- no Colon
abbrev pub IsInField : Symbol → Type 0
IsInField symbol = is_colon symbol.kind ≡ false

-- a field stands in front
pub field_ends : (field more : List Symbol) → Each IsInField field
    → symbol_fields (field ++ colon_symbol ∷ more)
    ≡ record { fields = field ∷ (symbol_fields more).fields; rest = (symbol_fields more).rest }
field_ends [] more each = refl
field_ends (symbol ∷ field) more each =
    ap (λ b. with_field b symbol (symbol_fields (field ++ colon_symbol ∷ more))) each.0
    ∙ ap (with_field false symbol) (field_ends field more each.1)

-- what stands after the last Colon
pub no_field : (symbols : List Symbol) → Each IsInField symbols
    → symbol_fields symbols ≡ record { fields = []; rest = symbols }
no_field [] each = refl
no_field (symbol ∷ symbols) each =
    ap (λ b. with_field b symbol (symbol_fields symbols)) each.0
    ∙ ap (with_field false symbol) (no_field symbols each.1)

pub run_in_field : (text : List ℕ) → IsInField (run_symbol text)
run_in_field text = by (is_decimal text)
  where
    by : (b : Bool) → is_colon (cond b Number Word) ≡ false
    by true = refl
    by false = refl

pub runs_in_field : (texts : List (List ℕ)) → Each IsInField (map run_symbol texts)
runs_in_field [] = tt
runs_in_field (text ∷ texts) = (run_in_field text, runs_in_field texts)

run_no_star : (text : List ℕ) → is_star (run_symbol text).kind ≡ false
run_no_star text = by (is_decimal text)
  where
    by : (b : Bool) → is_star (cond b Number Word) ≡ false
    by true = refl
    by false = refl

-- ---- what is read of fields

-- a number in digits is the part of its place
index_part : (list : GivenList) (piece : Piece) (n : ℕ) → symbol_of piece ≡ run_symbol (decimal n) → n < 10 ^ 64
    → n < size_of list → part_of list piece ≡ done (Only n)
unfolding part_of
index_part list piece n e fits below =
    ap (λ b. cond b (done Any) (find_in list piece >>= λ k. done (Only k)))
    (ap (λ (s : Symbol). is_star s.kind) e ∙ run_no_star (decimal n))
    ∙ step_done (find_in list piece) (λ k. done (Only k)) n
    (place_read list piece n (text_is piece (decimal n) e) fits below)

-- one number in digits for each list of an axis
indices_parts : (axis : Axis) (field : Field) (pieces : List Piece) (ns : List ℕ) → AreBelow (map size_of axis) ns
    → Each (λ n. n < 10 ^ 64) ns → map symbol_of pieces ≡ map run_symbol (map decimal ns)
    → parts_in axis field pieces ≡ done (map (λ n. Only n) ns)
unfolding parts_in
indices_parts [] field [] [] below fits e = refl
indices_parts [] field (piece ∷ pieces) [] below fits e = absurd cc
indices_parts [] field pieces (n ∷ ns) below fits e = absurd below
indices_parts (list ∷ lists) field pieces [] below fits e = absurd below
indices_parts (list ∷ lists) field [] (n ∷ ns) below fits e = absurd cc
indices_parts (list ∷ lists) field (piece ∷ pieces) (n ∷ ns) below fits e =
    let same : symbol_of piece ≡ run_symbol (decimal n) = cc in
    let others : map symbol_of pieces ≡ map run_symbol (map decimal ns) = cc in
    step_done (part_of list piece) _ (Only n) (index_part list piece n same fits.0 below.0)
    ∙ step_done (parts_in lists field pieces) _ (map (λ k. Only k) ns)
    (indices_parts lists field pieces ns below.1 fits.1 others)

indices_no_star : (pieces : List Piece) (texts : List (List ℕ)) → map symbol_of pieces ≡ map run_symbol texts
    → is_one_star pieces ≡ false
indices_no_star [] texts e = refl
indices_no_star (piece ∷ []) [] e = absurd cc
indices_no_star (piece ∷ []) (text ∷ texts) e =
    let same : symbol_of piece ≡ run_symbol text = cc in ap (λ (s : Symbol). is_star s.kind) same ∙ run_no_star text
indices_no_star (piece ∷ more ∷ pieces) texts e = refl

-- a field of numbers in digits
pub indices_read : (axis : Axis) (field : Field) (ns : List ℕ) → AreBelow (map size_of axis) ns
    → Each (λ n. n < 10 ^ 64) ns → of_field field ≡ map run_symbol (map decimal ns)
    → field_parts axis field ≡ done (map (λ n. Only n) ns)
indices_read axis field ns below fits e =
    ap (λ b. cond b (done (map (λ _. Any) axis)) (parts_in axis field field.pieces))
    (indices_no_star field.pieces (map decimal ns) e)
    ∙ indices_parts axis field field.pieces ns below fits e

-- a Star alone
pub star_field_read : (axis : Axis) (field : Field) → of_field field ≡ star_symbol ∷ []
    → field_parts axis field ≡ done (map (λ _. Any) axis)
star_field_read axis field e =
    ap (λ b. cond b (done (map (λ _. Any) axis)) (parts_in axis field field.pieces)) (is field.pieces e)
  where
    is : (pieces : List Piece) → map symbol_of pieces ≡ star_symbol ∷ [] → is_one_star pieces ≡ true
    is [] f = absurd cc
    is (piece ∷ []) f = let same : symbol_of piece ≡ star_symbol = cc in ap (λ (s : Symbol). is_star s.kind) same
    is (piece ∷ more ∷ pieces) f = absurd cc

-- fields that are read as these parts
pub record FieldsRead (axes : List Axis) (symbols : List (List Symbol)) (parts : List (List Part)) : Type 0 where
  pub read : (fields : List Field) → map of_field fields ≡ symbols → all_parts axes fields ≡ done parts

pub none_read : (axes : List Axis) → FieldsRead axes [] []
unfolding all_parts
none_read axes = record { read = by }
  where
    by : (fields : List Field) → map of_field fields ≡ [] → all_parts axes fields ≡ done []
    by [] e = refl
    by (field ∷ fields) e = absurd cc

-- one field more in front
pub field_read : (axis : Axis) (axes : List Axis) (symbols : List Symbol) (more : List (List Symbol))
    (here : List Part)
    (parts : List (List Part))
    → ((field : Field) → of_field field ≡ symbols → field_parts axis field ≡ done here)
    → FieldsRead axes more parts → FieldsRead (axis ∷ axes) (symbols ∷ more) (here ∷ parts)
unfolding all_parts
field_read axis axes symbols more here parts one others = record { read = by }
  where
    by : (fields : List Field) → map of_field fields ≡ symbols ∷ more
        → all_parts (axis ∷ axes) fields ≡ done (here ∷ parts)
    by [] e = absurd cc
    by (field ∷ fields) e =
        let same : of_field field ≡ symbols = cc in
        let rest : map of_field fields ≡ more = cc in
        step_done (field_parts axis field) _ here (one field same)
        ∙ step_done (all_parts axes fields) _ parts (others.read fields rest)
