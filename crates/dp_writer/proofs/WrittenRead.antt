-- The text that is written of a model is read as the text that says it.
use Rattle.std.proofs.Common.{◌≡◌, ℕ, List, length, Result, Ok, Err, IfOk, refl, ap, sym, subst, true, ◌∙◌}
use Rattle.dp_model.specs.Names.{AreNames}
use Rattle.dp_model.specs.Tables.{IsNamedModel, NamedModel}
use Rattle.dp_lexer.specs.Tokens.{tokens_of}
use Rattle.dp_meaning.specs.declared.text.Text.{Text}
use Rattle.dp_meaning.specs.Items.{items_of_pieces}
use Rattle.dp_meaning.specs.Header.{header_of, no_entries}
use Rattle.dp_meaning.specs.Meaning.{pieces_of_tokens, text_of, unless_lines}
use Rattle.dp_meaning.specs.Statements.{statements_of}
use Rattle.dp_writer.specs.Writable.{is_writable}
use Rattle.dp_writer.specs.WriterLaws.{MeansAgain, WrittenModelsReadBack}
use Rattle.dp_writer.specs.WrittenModel.{written_model}
use Rattle.dp_writer.specs.WrittenText.{IsSaidBy, said_header, said_statements}
use Rattle.dp_writer.proofs.HeaderRead.{header_said}
use Rattle.dp_writer.proofs.ReadPieces.{step_done}
use Rattle.dp_writer.proofs.ReadTexts.{said_texts_read_back}
use Rattle.dp_writer.proofs.SaidHeaders.{said_sizes}
use Rattle.dp_writer.proofs.StatementItems.{written_items_read}
use Rattle.dp_writer.proofs.StatementsSaid.{statement_kinds, statements_read, statements_say}
use Rattle.dp_writer.proofs.WrittenFacts.{IsWritableModel}
use Rattle.dp_writer.proofs.WrittenItems.{statement_items}

-- these bytes are read as a text that says the model
pub record SaysModel (m : NamedModel) (bytes : List ℕ) : Type 0 where
  pub text : Text
  pub read : text_of bytes ≡ Ok text
  pub said : IsSaidBy m text

-- what is written of a model is read as a text that says it
pub written_text_says : (m : NamedModel) → IsWritableModel m → SaysModel m (written_model m)
unfolding text_of
written_text_says m can =
    let bytes = written_model m in
    let end = length bytes in
    let has = written_items_read m can in
    let items = items_of_pieces end has.pieces in
    let kinds = statement_kinds (said_header 0 m) (statement_items m.model) (said_statements m.model)
    (statements_say m can (said_header 0 m) (said_sizes 0 m can.named)) in
    let header = header_said m can end items.items (statement_items m.model) kinds has.items in
    let statements =
    statements_read (said_header header.0 m) header.1 (statement_items m.model) (said_statements m.model)
    (statements_say m can (said_header header.0 m) (said_sizes header.0 m can.named)) header.3 in
    record {
      text = record { header = said_header header.0 m; statements = statements.0 };
      read = step_done (pieces_of_tokens bytes (tokens_of bytes)) _ has.pieces has.lexed
          ∙ step_done (unless_lines end items.before) _ tt (ap (unless_lines end) has.before)
          ∙ step_done (header_of end no_entries items.items) _ (said_header header.0 m, header.1) header.2
          ∙ step_done (statements_of (said_header header.0 m) header.1) _ statements.0 statements.1;
      said = record { header = (header.0, refl); statements = statements.2 };
    }

-- so it means the model again
pub written_models_read_back : WrittenModelsReadBack
written_models_read_back m named names writable =
    let says = written_text_says m (record { named = named; names = names; writable = writable }) in
    said_texts_read_back (written_model m) m says.text named writable says.read says.said

-- the bytes that are written mean the model again
pub means_again : (m : NamedModel) (bytes : List ℕ) → IsNamedModel m → AreNames m.names → is_writable m.model ≡ true
    → bytes ≡ written_model m → MeansAgain m bytes
means_again m bytes named names writable is =
    subst (MeansAgain m) (sym is) (written_models_read_back m named names writable)

-- the same of an answer, which may be another one
pub again_where : {A E : Type 0} (m : NamedModel) → IsNamedModel m → AreNames m.names → is_writable m.model ≡ true
    → (bytes : A → List ℕ) (answer : Result A E) → IfOk answer (λ x. bytes x ≡ written_model m)
    → IfOk answer (λ x. MeansAgain m (bytes x))
again_where m named names writable bytes (Ok x) is = means_again m (bytes x) named names writable is
again_where m named names writable bytes (Err e) is = tt
