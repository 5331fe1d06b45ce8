-- The text of a file from its items.
use Rattle.std.specs.Prelude.{Result, Ok}
use Rattle.dp_meaning.specs.declared.why.Fault.{Fault}
use Rattle.dp_meaning.specs.declared.text.Text.{Text}
use Rattle.dp_meaning.specs.Faults.{◌>>=◌}
use Rattle.dp_meaning.specs.Header.{header_of, no_entries}
use Rattle.dp_meaning.specs.Statements.{statements_of}
use Rattle.dp_meaning.specs.Meaning.{unless_lines}
use Rattle.dp_items.specs.Documents.{ItemsOfText}

-- the text that these items say
unfoldable pub text_of_items : ItemsOfText → Result Text Fault
text_of_items document = do
  _ ← unless_lines document.end document.before
  header ← header_of document.end no_entries document.items
  statements ← statements_of header.0 header.1
  Ok (record { header = header.0; statements = statements })
