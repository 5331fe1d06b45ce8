-- The matches of the command, by what its parse is.
use Rattle.std.proofs.Common.{◌≡◌, ◌∙◌, true, false, refl, sym, ap, subst, List, [], ◌∷◌, map, Option, Some, None}
use Rattle.std.proofs.Common.{unwrap_or, option_map, inl, inr, string_bytes, Global}
use Rattle.std.specs.Prelude.{String, find, option_and_then, slice_get}
use Rattle.std.specs.Option.{option_map_or}
use Rattle.std.specs.Str.{bytes_eq}
use Rattle.std.proofs.lemmas.Str.{IsUtf8-string_bytes}
use Rattle.clap.specs.Kinds.{HasKind}
use Rattle.clap.specs.Faults.{fault_of, is_simple_and_free}
use Rattle.clap.specs.Walk.{Row, all_of, first_of, rows_of}
use Rattle.clap.specs.Simple.{App, HasMatchesOf, matches_of}
use Rattle.clap.specs.Matches.{first_value, found_of}
use Rattle.clap.specs.Values.{kind_of}
use Rattle.clap.specs.declared.error.Error.{Error}
use Rattle.clap.specs.declared.error.kind.ErrorKind.TheVariants.{OutOfMemory}
use Rattle.clap.specs.declared.parser.matches.ArgMatches.{ArgMatches}
use Rattle.clap.proofs.WalkLemmas.{first_value-rows, raw_values-rows}
use Rattle.dp_words.specs.Line.{Text, is_well_given, options_of}
use Rattle.dp_words.specs.Words.{value_names}
use Rattle.dp_words.specs.Command.{Tells, command_app, flag_id, may_be, plain_id}
use Rattle.dp_words.proofs.Rows.{values_at}
use Rattle.dp_words.proofs.Rules.{AreApart}
use Rattle.dp_words.proofs.Lines.{HaveKinds}
use Rattle.dp_words.proofs.WordKinds.{kind_of_word}
use Rattle.dp_words.proofs.Parsed.{ParseIs, parse_is}

names_apart : AreApart value_names
names_apart = refl

pub command_is_simple : is_simple_and_free command_app ≡ true
command_is_simple = refl

have_kinds : (words : List (String Global)) → HaveKinds (map string_bytes words)
have_kinds [] = tt
have_kinds (w ∷ ws) = (kind_of_word (string_bytes w) (IsUtf8-string_bytes w), have_kinds ws)

first_values : (rows : List Row) (id : Text) → first_of id rows ≡ slice_get (values_at id rows) 0
first_values rows id = by (find (λ r. bytes_eq r.id id) rows)
  where
    by : (o : Option Row) → option_and_then (λ (r : Row). slice_get r.values 0) o
        ≡ slice_get (option_map_or (λ (r : Row). r.values) o []) 0
    by None = refl
    by (Some r) = refl

all_values : (rows : List Row) (id : Text) → unwrap_or (all_of id rows) [] ≡ values_at id rows
all_values rows id = by (find (λ r. bytes_eq r.id id) rows)
  where
    by : (o : Option Row) → unwrap_or (option_map (λ (r : Row). r.values) o) []
        ≡ option_map_or (λ (r : Row). r.values) o []
    by None = refl
    by (Some r) = refl

tells : (words : List Text) (m : ArgMatches) → HaveKinds words → fault_of command_app words ≡ []
    → rows_of (found_of m) ≡ matches_of command_app words → Tells words m
tells words m kinds passed rows_are = by (parse_is value_names names_apart words kinds)
  where
    texts : (id : Text) → first_value (found_of m) id ≡ slice_get
        (values_at id (matches_of command_app words)) 0
    texts id = first_value-rows (found_of m) id ∙ ap (first_of id) rows_are
        ∙ first_values (matches_of command_app words) id

    by : ParseIs value_names words → Tells words m
    by (inl g) = absurd (g.0 passed)
    by (inr g) = record {
      well = g.1.well;
      option = λ n is. texts n ∙ g.1.option n is;
      flag = λ h. g.1.flag.0 (sym (texts flag_id) ∙ h);
      no_flag = λ h. texts flag_id ∙ g.1.flag.1 h;
      plain = ap (λ o. unwrap_or o []) (raw_values-rows (found_of m) plain_id)
          ∙ ap (λ rows. unwrap_or (all_of plain_id rows) []) rows_are
          ∙ all_values (matches_of command_app words) plain_id ∙ g.1.plain;
    }

-- a parse that passes
pub parsed_ok : (app : App) (words : List (String Global)) (m : ArgMatches) → app ≡ command_app
    → fault_of app (map string_bytes words) ≡ [] → HasMatchesOf app (map string_bytes words) m
    → Tells (map string_bytes words) m
parsed_ok app words m is passed has =
    let texts = map string_bytes words in
    let matches = subst (λ (a : App). HasMatchesOf a texts m) is has in
    tells texts m (have_kinds words) (ap (λ (a : App). fault_of a texts) (sym is) ∙ passed) (matches refl).0

-- a parse that fails, and not for want of memory
pub parsed_err : (app : App) (words : List (String Global)) (e : Error) → app ≡ command_app
    → HasKind (fault_of app (map string_bytes words)) e → (kind_of e ≡ OutOfMemory → ⊥)
    → is_well_given value_names (options_of may_be (map string_bytes words)) ≡ false
parsed_err app words e is fails other =
    by (parse_is value_names names_apart (map string_bytes words) (have_kinds words))
  where
    texts : List Text
    texts = map string_bytes words

    none : fault_of command_app texts ≡ [] → ⊥
    none passed = elim (subst (λ ks. HasKind ks e) (ap (λ (a : App). fault_of a texts) is ∙ passed) fails) [
      | inl m ↦ other m
      | inr n ↦ n
    ]

    by : ParseIs value_names texts → is_well_given value_names (options_of may_be texts) ≡ false
    by (inl g) = g.1
    by (inr g) = absurd (none g.0)
