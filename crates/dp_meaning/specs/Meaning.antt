-- What a model file means: a model, or one fault and its place, or one passed limit.
use Rattle.std.specs.Prelude.{◌≡◌, ℕ, ◌+◌, ◌*◌, ℤ, List, [], ◌∷◌, length, map, Option, Some, None, Result, Ok, Err}
use Rattle.std.specs.List.{range_with_len}
use Rattle.dp_model.specs.declared.limit.TooLarge.{TooLarge}
use Rattle.dp_model.specs.Names.{NameLists}
use Rattle.dp_model.specs.Tables.{NamedModel}
use Rattle.dp_lexer.specs.declared.Token.{Token}
use Rattle.dp_lexer.specs.Bytes.{line_at, column_at}
use Rattle.dp_lexer.specs.Tokens.{tokens_of}
use Rattle.dp_spec.specs.JointNumbers.{parts_of}
use Rattle.dp_spec.specs.Model.{Model}
use Rattle.dp_meaning.specs.declared.why.Fault.{Fault}
use Rattle.dp_meaning.specs.declared.statement.Table.TheVariants.{Reward}
use Rattle.dp_meaning.specs.declared.header.Header.{Header}
use Rattle.dp_meaning.specs.declared.text.Text.{Text}
use Rattle.dp_meaning.specs.declared.why.Why.{Why}
use Rattle.dp_meaning.specs.declared.why.Why.TheVariants.{BadByte, Expected}
use Rattle.dp_meaning.specs.Faults.{◌>>=◌, fault}
use Rattle.dp_meaning.specs.Items.{Piece, piece_of, Line, items_of_pieces, first_at}
use Rattle.dp_meaning.specs.NameLists.{size_of, names_in}
use Rattle.dp_meaning.specs.Header.{header_of, no_entries}
use Rattle.dp_meaning.specs.Statements.{axes_of, statements_of}
use Rattle.dp_meaning.specs.Cells.{statements_for, reward_of_cell}
use Rattle.dp_meaning.specs.Text.{states_in, joint_actions_in, joint_observations_in}
use Rattle.dp_meaning.specs.Scales.{scales_of}
use Rattle.dp_meaning.specs.Rows.{start_row, trans_rows, obs_rows, repair_all}
use Rattle.dp_meaning.specs.Limits.{passed_limit}

-- ---- the text

-- the pieces of the tokens of these bytes, or the fault of a bad byte
abbrev pub pieces_of_tokens : List ℕ → Result (List Token) ℕ → Result (List Piece) Fault
pieces_of_tokens bytes (Ok tokens) = Ok (map (piece_of bytes) tokens)
pieces_of_tokens bytes (Err at) = fault BadByte at

-- no tokens stand before the first item
abbrev pub unless_lines : ℕ → List Line → Result (Unit {0}) Fault
unless_lines end [] = Ok tt
unless_lines end (line ∷ _) = fault Expected (first_at end line.pieces)

-- the entries and the statements, or the first bad byte, or else the first fault in the text
unfoldable pub text_of : List ℕ → Result Text Fault
text_of bytes = do
  let end = length bytes
  pieces ← pieces_of_tokens bytes (tokens_of bytes)
  let items = items_of_pieces end pieces
  _ ← unless_lines end items.before
  header ← header_of end no_entries items.items
  statements ← statements_of header.0 header.1
  Ok (record { header = header.0; statements = statements })

-- a text that some file says
abbrev pub IsSaid : Text → Type 0
IsSaid text = (bytes : List ℕ) × (text_of bytes ≡ Ok text)

-- ---- the model

-- the names of the lists, of which a list that is given as a count has none
abbrev pub names_given : Header → NameLists
names_given header = record {
  agents = names_in header.agents;
  states = names_in header.states;
  actions = map names_in header.actions;
  observations = map names_in header.observations;
}

-- a model with its names, and how many of its rows were repaired
pub record ReadModel : Type 0 where
  pub model : NamedModel
  pub repaired : ℕ

-- the rewards by joint action, state, next state and joint observation
unfoldable pub rewards_of : Text → List ℤ
rewards_of text =
    let sizes = joint_actions_in text ∷ states_in text ∷ states_in text ∷ joint_observations_in text ∷ [] in
    let count = joint_actions_in text * states_in text * states_in text * joint_observations_in text in
    let axes = axes_of text.header Reward in
    let statements = statements_for Reward text.statements in
    map (λ k. reward_of_cell text.header.cost (scales_of text).reward axes statements (parts_of sizes k))
    (range_with_len 0 count)

-- the model of a text whose rows of chances these are
abbrev pub table_model : Text → List ℕ → List ℕ → List ℕ → Model
table_model text start trans obs = record {
  states = states_in text;
  actions = map size_of text.header.actions;
  observations = map size_of text.header.observations;
  scales = scales_of text;
  start = start;
  trans = trans;
  obs = obs;
  reward = rewards_of text;
}

-- the rows of the start, the transitions and the observations in this order, repaired, or the first that cannot be
unfoldable pub repaired_model : ℕ → Text → Result ReadModel Fault
repaired_model end text = do
  start ← repair_all end (start_row text ∷ [])
  trans ← repair_all end (trans_rows text)
  obs ← repair_all end (obs_rows text)
  Ok (record {
    model = record {
      model = table_model text start.cells trans.cells obs.cells;
      names = names_given text.header;
    };
    repaired = start.repaired + trans.repaired + obs.repaired;
  })

-- ---- all of it

-- a place of a text; both numbers count from 1, and columns count bytes
pub record Place : Type 0 where
  pub line : ℕ
  pub column : ℕ

-- what a model file may mean: a model, or one fault and its place, or one passed limit with its count
pub data Meaning : Type 0 where
  Means : ReadModel → Meaning
  FaultAt : Place → Why → Meaning
  Passes : TooLarge → Meaning

-- the place of the byte at an offset
abbrev pub place_at : List ℕ → ℕ → Place
place_at bytes at = record { line = line_at bytes at; column = column_at bytes at }

-- what a file means whose text passes no limit: its model, or the fault of a row
abbrev pub meaning_of_model : List ℕ → Result ReadModel Fault → Meaning
meaning_of_model bytes (Ok r) = Means r
meaning_of_model bytes (Err e) = FaultAt (place_at bytes e.at) e.why

-- the limits are tried before the rows
abbrev pub meaning_within : List ℕ → Text → Option TooLarge → Meaning
meaning_within bytes text (Some passed) = Passes passed
meaning_within bytes text None = meaning_of_model bytes (repaired_model (length bytes) text)

-- what a file means, by its text or by the fault with which the reading of it ended
abbrev pub meaning_of_text : List ℕ → Result Text Fault → Meaning
meaning_of_text bytes (Ok text) = meaning_within bytes text (passed_limit text)
meaning_of_text bytes (Err e) = FaultAt (place_at bytes e.at) e.why

-- what a model file means
unfoldable pub meaning : List ℕ → Meaning
meaning bytes = meaning_of_text bytes (text_of bytes)
