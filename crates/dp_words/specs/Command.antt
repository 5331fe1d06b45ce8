-- The one flat command by which `clap` reads the words, and what its matches say.
use Rattle.std.specs.Prelude.{◌≡◌, Bool, true, false, not, List, [], Some, Result, Ok, Err, codes, fold, unwrap_or}
use Rattle.std.specs.Prelude.{option_map}
use Rattle.std.specs.List.{list_any}
use Rattle.std.specs.Option.{option_map_or}
use Rattle.std.specs.Str.{bytes_eq}
use Rattle.clap.specs.Words.{App, Rule, first_value, found_of, new_app, new_rule, raw_values, matched_of, with_rule}
use Rattle.clap.specs.declared.builder.action.ArgAction.TheVariants.{Append, Set, SetTrue}
use Rattle.clap.specs.declared.parser.matches.ArgMatches.{ArgMatches}
use Rattle.dp_words.specs.Line.{Text, is_given, is_option, is_well_given, options_of, plain_of, value_in}
use Rattle.dp_words.specs.Words.{Setting, Values, value_names}
use Rattle.dp_words.specs.declared.line.Setting.{Setting as Written}
use Rattle.dp_words.specs.declared.job.WordFault.{WordFault}
use Rattle.dp_words.specs.declared.job.WordFault.TheVariants as faults

-- ---- the command

-- the ids of the plain words and of the option without a value; the id of each other is its name
abbrev pub plain_id : Text
plain_id = codes "words"

abbrev pub flag_id : Text
flag_id = codes "no-merge"

abbrev pub option_rule : Text → Rule
option_rule n = record (new_rule n) { long = Some n; action = Some Set }

abbrev pub flag_rule : Rule
flag_rule = record (new_rule flag_id) { long = Some flag_id; action = Some SetTrue }

abbrev pub plain_rule : Rule
plain_rule = record (new_rule plain_id) { action = Some Append }

abbrev pub with_options : App → List Text → App
with_options a names = fold (λ app n. with_rule app (option_rule n)) a names

abbrev pub empty_app : App
empty_app = record (new_app (codes "decplan")) {
  top = record (new_app (codes "decplan")).top {
    no_binary_name = true;
    disable_help_flag = true;
  };
}

abbrev pub command_app : App
command_app = with_rule (with_rule (with_options empty_app value_names) flag_rule) plain_rule

-- ---- what its matches say

-- the words that `clap` takes for the value of an option: it takes a lone dash too
abbrev pub may_be : Text → Bool
may_be word = not (is_option word)

-- the text of each option
abbrev pub values_of : ArgMatches → Values
values_of m = first_value (found_of m)

-- the option without a value is given; where it is not, `clap` finds its default, `false`
abbrev pub merging_off : ArgMatches → Bool
merging_off m = option_map_or (λ text. bytes_eq text (codes "true")) (values_of m flag_id) false

abbrev pub plain_words : ArgMatches → List Text
plain_words m = unwrap_or (option_map raw_values (matched_of (found_of m) plain_id)) []

-- The matches tell the options and the plain words, and the options are well given.
pub record Tells (words : List Text) (m : ArgMatches) : Type 0 where
  pub well : is_well_given value_names (options_of may_be words) ≡ true
  pub option : (n : Text) → list_any (λ x. bytes_eq x n) value_names ≡ true
      → values_of m n ≡ value_in (options_of may_be words) n
  pub flag : values_of m flag_id ≡ Some (codes "true") → is_given (options_of may_be words) flag_id ≡ true
  pub no_flag : is_given (options_of may_be words) flag_id ≡ true → values_of m flag_id ≡ Some (codes "true")
  pub plain : plain_words m ≡ plain_of may_be words

-- The words were read into such matches, or as a fault of usage where the options are not well
-- given, or memory ran out.
abbrev pub IsParsedAs : List Text → Result ArgMatches WordFault → Type 0
IsParsedAs words (Ok m) = Tells words m
IsParsedAs words (Err faults.Usage) = is_well_given value_names (options_of may_be words) ≡ false
IsParsedAs words (Err faults.Memory) = Unit {0}

-- a setting of the code, as that of the table
abbrev pub setting_of : Written → Setting
setting_of s = record { name = s.name.now; least = s.least; most = s.most; default = s.default }
