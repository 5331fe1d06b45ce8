-- What a text means, from its rows.
use Rattle.std.proofs.Common.{◌≡◌, ◌≢◌, ◌↔◌, ℕ, ◌+◌, List, [], ◌∷◌, length, refl, sym, ap, subst, ◌∙◌}
use Rattle.std.specs.Prelude.{Some, None, Result, Ok, Err}
use Rattle.dp_spec.specs.Model.{IsModel}
use Rattle.dp_model.specs.Names.{AreNames}
use Rattle.dp_model.specs.Tables.{AreNamesOf, NamedModel}
use Rattle.dp_meaning.specs.declared.text.Text.{Text}
use Rattle.dp_meaning.specs.declared.why.Fault.{Fault}
use Rattle.dp_meaning.specs.Limits.{passed_limit}
use Rattle.dp_meaning.specs.Meaning as meaning
use Rattle.dp_meaning.specs.Meaning.{text_of, names_given, repaired_model, Place, Meaning, meaning, Means, FaultAt}
use Rattle.dp_meaning.specs.Meaning.{Passes}
use Rattle.dp_meaning.specs.Rows as rows
use Rattle.dp_meaning.specs.Rows.{repair_all, start_row, trans_rows, obs_rows}
use Rattle.dp_lexer.specs.declared.LexFault.{LexFault}
use Rattle.dp_lexer.specs.declared.LexFault.TheVariants as lexer
use Rattle.dp_lexer.specs.Tokens.{NamesFirstBadByte}
use Rattle.dp_meaning.proofs.FaultLaws.{bad_byte_first}
use Rattle.dp_meaning.proofs.ModelLaws.{model_is, names_are}
use Rattle.dp_text.specs.declared.fault.TextFault.{TextFault}
use Rattle.dp_text.specs.declared.fault.TextFault.TheVariants.{At, Memory}
use Rattle.dp_model.specs.declared.limit.TooLarge.{TooLarge}
use Rattle.dp_text.specs.Reading.{Reads}
use Rattle.dp_reader.specs.declared.build.Rows.{Rows}
use Rattle.dp_reader.specs.declared.build.ReadModel.{ReadModel}
use Rattle.dp_reader.specs.declared.fault.ModelFault.{ModelFault}
use Rattle.dp_reader.specs.declared.fault.ModelFault.TheVariants as faults
use Rattle.dp_meaning.specs.declared.why.Why.{Why}
use Rattle.dp_reader.specs.Reading.{meant_model, IsMeaning, fault_at, fault_of_lexer, told}
use Rattle.dp_reader.specs.Repaired.{IsFaultOf, AreAllRows, model_of_rows}
use Rattle.dp_meaning.specs.Faults.{◌>>=◌}

-- ---- the first rows that cannot be repaired

module _ {A : Type 0} (bytes : List ℕ) (first : Result A Fault) where
  -- the fault of a first step is that of all steps
  first_stops : {B : Type 0} (others : A → Result B Fault) (answer : ModelFault) → IsFaultOf bytes first answer
      → IsFaultOf bytes (first >>= others) answer
  first_stops others (faults.At line column why) h = (h.0, rw h.1 refl, h.2)
  first_stops others (faults.TooLarge passed) h = (h.0, rw h.1 refl, h.2)
  first_stops others faults.Memory h = tt

module _ (bytes : List ℕ) (end : ℕ) (text : Text) (answer : ModelFault) where
  pub start_stops : IsFaultOf bytes (repair_all end (start_row text ∷ [])) answer
      → IsFaultOf bytes (repaired_model end text) answer
  unfolding repaired_model
  start_stops h = first_stops bytes (repair_all end (start_row text ∷ [])) _ answer h

  pub trans_stops : (x : rows.Repaired) → repair_all end (start_row text ∷ []) ≡ Ok x
      → IsFaultOf bytes (repair_all end (trans_rows text)) answer → IsFaultOf bytes (repaired_model end text) answer
  unfolding repaired_model
  trans_stops x g h = rw g (first_stops bytes (repair_all end (trans_rows text)) _ answer h)

  pub obs_stops : (x y : rows.Repaired) → repair_all end (start_row text ∷ []) ≡ Ok x
      → repair_all end (trans_rows text) ≡ Ok y → IsFaultOf bytes (repair_all end (obs_rows text)) answer
      → IsFaultOf bytes (repaired_model end text) answer
  unfolding repaired_model
  obs_stops x y g h k = rw g (rw h (first_stops bytes (repair_all end (obs_rows text)) _ answer k))

-- ---- the model of all rows

-- what the rows give
abbrev pub built : Text → Rows → meaning.ReadModel
built text rows = record {
  model = record {
    model = model_of_rows text rows;
    names = names_given text.header;
  };
  repaired = rows.start.count + rows.transitions.count + rows.observations.count;
}

pub all_rows_are : (end : ℕ) (text : Text) (rows : Rows) → AreAllRows end text rows
    → repaired_model end text ≡ Ok (built text rows)
unfolding repaired_model
all_rows_are end text rows are = rw are.first.is (rw are.trans.is (rw are.obs.is refl))

pub means_built : (bytes : List ℕ) (text : Text) (r : meaning.ReadModel) → text_of bytes ≡ Ok text
    → passed_limit text ≡ None
    → repaired_model (length bytes) text ≡ Ok r → meaning bytes ≡ Means r
unfolding meaning
means_built bytes text r says within is = rw says (rw within (rw is refl))

-- what a model can be built from
pub record CanBuild (text : Text) (rows : Rows) : Type 0 where
  pub names : AreNames (names_given text.header)
  pub model : IsModel (model_of_rows text rows)
  pub named : AreNamesOf (model_of_rows text rows) (names_given text.header)

pub can_build : (bytes : List ℕ) (text : Text) (end : ℕ) (rows : Rows) → text_of bytes ≡ Ok text
    → passed_limit text ≡ None
    → end ≡ length bytes → AreAllRows end text rows → CanBuild text rows
can_build bytes text end rows says within e are =
    let is = subst (λ n. repaired_model n text ≡ Ok (built text rows)) e (all_rows_are end text rows are) in
    let means = means_built bytes text (built text rows) says within is in
    let is = model_is bytes (built text rows) means in
    record { names = names_are bytes (built text rows) means; model = is.model; named = is.names }

pub rows_built : (bytes : List ℕ) (text : Text) (end : ℕ) (rows : Rows) (model : NamedModel)
    → text_of bytes ≡ Ok text → passed_limit text ≡ None → end ≡ length bytes → AreAllRows end text rows
    → model ≡ (built text rows).model
    → meaning bytes ≡ Means (record { model = model; repaired = (built text rows).repaired })
rows_built bytes text end rows model says within e are same =
    let with_model : NamedModel → Result meaning.ReadModel Fault =
    λ m. Ok (record { model = m; repaired = (built text rows).repaired }) in
    means_built bytes text _ says within
    (subst (λ n. repaired_model n text ≡ Ok (built text rows)) e (all_rows_are end text rows are)
    ∙ ap with_model (sym same))

-- ---- the answer

-- a bad byte is what the file means
pub lexer_fault : (bytes : List ℕ) (fault : LexFault) → NamesFirstBadByte bytes fault
    → IsMeaning (meaning bytes) (Err (fault_of_lexer fault))
lexer_fault bytes (lexer.BadByte line column) named = rw (named.3, named.4) (bad_byte_first bytes named.0 named.2)
lexer_fault bytes lexer.Memory named = tt

-- a fault of the text is what the file means
pub text_fault : (bytes : List ℕ) (fault : TextFault) → Reads (text_of bytes) (Err fault)
    → IsMeaning (meaning bytes) (Err (told bytes fault))
unfolding meaning
text_fault bytes (At f) h = rw h refl
text_fault bytes Memory h = tt

-- the first limit that is passed
pub text_passes : (bytes : List ℕ) (text : Text) (passed : TooLarge) → text_of bytes ≡ Ok text
    → passed_limit text ≡ Some passed
    → meaning bytes ≡ Passes passed
unfolding meaning
text_passes bytes text passed says is = rw says (rw is refl)

pub same_answer : (meant : Meaning) (answer other : ModelFault) → answer ≡ other → IsMeaning meant (Err other)
    → IsMeaning meant (Err answer)
same_answer meant answer other e is = subst (λ f. IsMeaning meant (Err f)) (sym e) is

-- the fault of a row
module _ (bytes : List ℕ) (text : Text) (end : ℕ) (says : text_of bytes ≡ Ok text) (within : passed_limit text ≡ None)
    (of_file : end ≡ length bytes) where
  row_told : (fault : Fault) → repaired_model end text ≡ Err fault
      → IsMeaning (meaning bytes) (Err (fault_at bytes fault))
  unfolding meaning
  row_told fault is = rw says (rw within (rw (← of_file) (rw is refl)))

  pub row_fault : (answer : ModelFault) → IsFaultOf bytes (repaired_model end text) answer
      → IsMeaning (meaning bytes) (Err answer)
  row_fault (faults.At line column why) h = same_answer (meaning bytes) _ _ h.2 (row_told h.0 h.1)
  row_fault (faults.TooLarge passed) h = same_answer (meaning bytes) _ _ h.2 (row_told h.0 h.1)
  row_fault faults.Memory h = tt

-- ---- each answer comes exactly where it is meant, unless memory ran out

-- the answer of a model and a count
abbrev answer_of : meaning.ReadModel → Result ReadModel ModelFault
answer_of m = Ok (record { model = m.model; repaired = m.repaired })

same_model : (m n : meaning.ReadModel) → Means m ≡ Means n → answer_of m ≡ answer_of n
same_model m n e = let same : m ≡ n = cc in ap answer_of same

-- the answer of a fault at a place
abbrev answer_at : Place → Why → Result ReadModel ModelFault
answer_at place why = Err (faults.At place.line place.column why)

same_fault : (p q : Place) (why why' : Why) → FaultAt p why ≡ FaultAt q why' → answer_at p why ≡ answer_at q why'
same_fault p q why why' e =
    let place : p ≡ q = cc in
    let cause : why ≡ why' = cc in
    ap (λ (r : Place). answer_at r why) place ∙ ap (answer_at q) cause

pub model_iff : (meant : Meaning) (r : Result ReadModel ModelFault) → IsMeaning meant r → (read : ReadModel)
    → r ≢ Err faults.Memory
    → (r ≡ Ok read) ↔ (meant ≡ Means (meant_model read))
model_iff meant (Ok x) is read memory = (
  λ e. subst (IsMeaning meant) e is,
  λ e. same_model (meant_model x) (meant_model read) (sym is ∙ e),
)
model_iff meant (Err (faults.At line column why)) is read memory = (λ e. absurd cc, λ e. absurd cc)
model_iff meant (Err (faults.TooLarge passed)) is read memory = (λ e. absurd cc, λ e. absurd cc)
model_iff meant (Err faults.Memory) is read memory = absurd (memory refl)

pub fault_iff : (meant : Meaning) (r : Result ReadModel ModelFault) → IsMeaning meant r
    → (line column : ℕ) (why : Why) → r ≢ Err faults.Memory
    → (r ≡ Err (faults.At line column why)) ↔ (meant ≡ FaultAt (record { line = line; column = column }) why)
fault_iff meant (Ok x) is line column why memory = (λ e. absurd cc, λ e. absurd cc)
fault_iff meant (Err (faults.At line' column' why')) is line column why memory = (
  λ e. subst (IsMeaning meant) e is,
  λ e. same_fault (record { line = line'; column = column' }) (record { line = line; column = column }) why' why
      (sym is ∙ e),
)
fault_iff meant (Err (faults.TooLarge passed)) is line column why memory = (λ e. absurd cc, λ e. absurd cc)
fault_iff meant (Err faults.Memory) is line column why memory = absurd (memory refl)

pub limit_iff : (meant : Meaning) (r : Result ReadModel ModelFault) → IsMeaning meant r → (passed : TooLarge)
    → r ≢ Err faults.Memory
    → (r ≡ Err (faults.TooLarge passed)) ↔ (meant ≡ Passes passed)
limit_iff meant (Ok x) is passed memory = (λ e. absurd cc, λ e. absurd cc)
limit_iff meant (Err (faults.At line column why)) is passed memory = (λ e. absurd cc, λ e. absurd cc)
limit_iff meant (Err (faults.TooLarge passed')) is passed memory = (λ e. subst (IsMeaning meant) e is, λ e. cc)
limit_iff meant (Err faults.Memory) is passed memory = absurd (memory refl)
