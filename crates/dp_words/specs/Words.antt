-- What the words of the command line ask for: the tables of options and commands, and the job.
use Rattle.std.specs.Prelude.{◌≡◌, ◌⊎◌, ℕ, ◌≤◌, ◌-◌, ◌^◌, Bool, true, ◌&&◌, ◌||◌, ◌==◌, not, nat_eq, nat_le, List, []}
use Rattle.std.specs.Prelude.{◌∷◌, ◌++◌, map, length, find, Option, Some, None, Result, Ok, Err, is_some}
use Rattle.std.specs.Prelude.{option_and_then, unwrap_or, slice_get, codes, if◌then◌else◌}
use Rattle.std.specs.Option.{option_map_or}
use Rattle.std.specs.Str.{bytes_eq}
use Rattle.std.specs.Str.Parse.{digits_value}
use Rattle.std.specs.List.{starts_with, list_all, list_any}
use Rattle.dp_base.specs.DecimalShape.{is_index}
use Rattle.dp_words.specs.Line.{Given, Text, is_given, is_well_given, may_be_value, options_of, plain_of, value_in}
use Rattle.dp_words.specs.declared.job.Job.{Job}
use Rattle.dp_words.specs.declared.job.Job.TheVariants.{Check, Make, Plan, Print, Show, Sim, Trial, Value}
use Rattle.dp_words.specs.declared.job.MakeJob.{MakeJob}
use Rattle.dp_words.specs.declared.job.OrderWord.{OrderWord}
use Rattle.dp_words.specs.declared.job.OrderWord.TheVariants.{First, Heavy, Spread}
use Rattle.dp_words.specs.declared.job.WordFault.{WordFault}
use Rattle.dp_words.specs.declared.job.WordFault.TheVariants as faults

-- ---- numbers

-- A number is written in digits that do not begin with 0, or as 0 alone.
abbrev pub is_number : Text → Bool
is_number word = is_index word && (length word == 1 || not (starts_with nat_eq word (codes "0")))

-- the number that a word writes, where it writes one from the least to the most
abbrev pub number_of : ℕ → ℕ → Text → Option ℕ
number_of least most word =
    let number = digits_value 10 word in
    if is_number word && nat_le least number && nat_le number most then Some number else None

-- ---- orders

-- the order that a word names, where it names one
abbrev pub order_of : Text → Option OrderWord
order_of word =
    if bytes_eq word (codes "first") then Some First else
    if bytes_eq word (codes "heavy") then Some Heavy else
    if bytes_eq word (codes "spread") then Some Spread else None

-- ---- the options

-- an option whose value is a number: its range, and its default where it has one; a command that
-- reads an option without a default requires it
pub record Setting : Type 0 where
  pub name : Text
  pub least : ℕ
  pub most : ℕ
  pub default : Option ℕ

abbrev pub setting : Text → ℕ → ℕ → Option ℕ → Setting
setting name least most default = record { name = name; least = least; most = most; default = default }

abbrev pub horizon : Setting
horizon = setting (codes "horizon") 1 (2 ^ 32 - 1) None

abbrev pub nodes : Setting
nodes = setting (codes "nodes") 0 (2 ^ 32 - 1) (Some 100000)

abbrev pub look : Setting
look = setting (codes "look") 1 16 (Some 1)

abbrev pub cert : Setting
cert = setting (codes "cert") 1 2 (Some 1)

abbrev pub seed : Setting
seed = setting (codes "seed") 0 (2 ^ 64 - 1) None

abbrev pub episodes : Setting
episodes = setting (codes "episodes") 1 10000 (Some 1)

-- a size of a model to be made
abbrev pub size_setting : Text → Setting
size_setting name = setting name 1 65536 None

abbrev pub agents : Setting
agents = size_setting (codes "agents")

abbrev pub states : Setting
states = size_setting (codes "states")

abbrev pub actions : Setting
actions = size_setting (codes "actions")

abbrev pub observations : Setting
observations = size_setting (codes "observations")

-- the options whose values are numbers
abbrev pub settings : List Setting
settings =
    horizon ∷ nodes ∷ look ∷ cert ∷ seed ∷ episodes ∷ agents ∷ states ∷ actions ∷ observations ∷ []

-- a row of the table of options: the name of an option that takes a value, and which texts may be it
pub record OptionRow : Type 0 where
  pub name : Text
  pub allows : Text → Bool

abbrev pub number_option : Setting → OptionRow
number_option s = record { name = s.name; allows = λ text. is_some (number_of s.least s.most text) }

-- the option whose value is an order, `first` where it is not given
abbrev pub order_option : OptionRow
order_option = record { name = codes "order"; allows = λ text. is_some (order_of text) }

-- the table of options that take a value
abbrev pub options : List OptionRow
options = map number_option settings ++ order_option ∷ []

abbrev pub value_names : List Text
value_names = map (λ o. o.name) options

-- the option that takes no value
abbrev pub no_merge : Text
no_merge = codes "no-merge"

-- the text that is given to each option with a value, by its name
abbrev pub Values : Type 0
Values = Text → Option Text

-- the option's value is allowed, where it is given
abbrev pub holds : Values → OptionRow → Bool
holds value o = option_map_or o.allows (value o.name) true

abbrev pub all_hold : Values → Bool
all_hold value = list_all (holds value) options

-- ---- the commands

-- the options of a line, read
pub record Read : Type 0 where
  pub number : Setting → ℕ
  pub order : OrderWord
  pub merge : Bool

abbrev pub read : Values → Bool → Read
read value no_merging = record {
  number = λ s. option_map_or (digits_value 10) (value s.name) (unwrap_or s.default 0);
  order = unwrap_or (option_and_then order_of (value order_option.name)) First;
  merge = not no_merging;
}

-- a row of the table of commands: the command's word, how many files follow it, its options, those
-- that it requires, and the job that it asks for, of the options and of the files, counted from 0
pub record CommandRow : Type 0 where
  pub word : Text
  pub files : ℕ
  pub options : List Text
  pub required : List Text
  pub job : Read → (ℕ → Text) → Job

abbrev pub command_row : Text → ℕ → List Text → List Text → (Read → (ℕ → Text) → Job) → CommandRow
command_row word files options required job =
    record { word = word; files = files; options = options; required = required; job = job }

abbrev pub plan_options : List Text
plan_options = codes "horizon" ∷ codes "nodes" ∷ codes "look" ∷ codes "cert" ∷ codes "order" ∷ no_merge ∷ []

-- `plan MODEL`
abbrev pub plan_row : CommandRow
plan_row = command_row (codes "plan") 1 plan_options (codes "horizon" ∷ [])
    (λ read file. Plan (record {
      model = file 0;
      version = read.number cert;
      horizon = read.number horizon;
      nodes = read.number nodes;
      look = read.number look;
      merge = read.merge;
      order = read.order;
    }))

-- `value MODEL POLICY`
abbrev pub value_row : CommandRow
value_row = command_row (codes "value") 2 [] [] (λ read file. Value
    (record { model = file 0; policy = file 1 }))

-- `check MODEL CERT`
abbrev pub check_row : CommandRow
check_row = command_row (codes "check") 2 [] [] (λ read file. Check (record { model = file 0; cert = file 1 }))

-- `show MODEL CERT`
abbrev pub show_row : CommandRow
show_row = command_row (codes "show") 2 [] [] (λ read file. Show (record { model = file 0; cert = file 1 }))

-- `sim MODEL CERT`
abbrev pub sim_row : CommandRow
sim_row = command_row (codes "sim") 2 (codes "seed" ∷ codes "episodes" ∷ []) (codes "seed" ∷ [])
    (λ read file. Sim (record {
      model = file 0;
      cert = file 1;
      seed = read.number seed;
      episodes = read.number episodes;
    }))

-- the model that the options ask for
abbrev pub model_to_make : Read → MakeJob
model_to_make read = record {
  seed = read.number seed;
  agents = read.number agents;
  states = read.number states;
  actions = read.number actions;
  observations = read.number observations;
}

abbrev pub make_options : List Text
make_options =
    codes "seed" ∷ codes "agents" ∷ codes "states" ∷ codes "actions" ∷ codes "observations" ∷ []

-- `make`
abbrev pub make_row : CommandRow
make_row = command_row (codes "make") 0 make_options make_options (λ read file. Make (model_to_make read))

-- `print MODEL`
abbrev pub print_row : CommandRow
print_row = command_row (codes "print") 1 [] [] (λ read file. Print (record { model = file 0 }))

-- `trial`
abbrev pub trial_row : CommandRow
trial_row =
    command_row (codes "trial") 0 (make_options ++ codes "horizon" ∷ codes "nodes" ∷ codes "look" ∷ [])
    (make_options ++ codes "horizon" ∷ [])
    (λ read file. Trial (record {
      made = model_to_make read;
      horizon = read.number horizon;
      nodes = read.number nodes;
      look = read.number look;
    }))

-- the table of commands
abbrev pub commands : List CommandRow
commands =
    plan_row ∷ value_row ∷ check_row ∷ show_row ∷ sim_row ∷ make_row ∷ print_row ∷ trial_row ∷ []

-- ---- the job

-- the option is one of these, or it is not given
abbrev pub is_allowed : List Text → Values → Text → Bool
is_allowed names value name = list_any (λ n. bytes_eq n name) names || not (is_some (value name))

-- the options are among those of a command, and those that it requires are given
abbrev pub fits : List Text → List Text → Values → Bool → Bool
fits options required value no_merging =
    list_all (is_allowed options value) value_names
    && ((list_any (λ n. bytes_eq n no_merge) options || not no_merging)
    && list_all (λ n. is_some (value n)) required)

abbrev pub file_at : List Text → ℕ → Text
file_at files k = unwrap_or (slice_get files k) []

-- the job of a command with these options and files
abbrev pub row_job : Values → Bool → List Text → CommandRow → Option Job
row_job value no_merging files c =
    if length files == c.files && fits c.options c.required value no_merging
    then Some (c.job (read value no_merging) (file_at files))
    else None

-- the first plain word is the command, and the rest are its files
abbrev pub command_job : Values → Bool → List Text → Option Job
command_job value no_merging [] = None
command_job value no_merging (command ∷ files) =
    option_and_then (row_job value no_merging files) (find (λ c. bytes_eq c.word command) commands)

-- the job of values in their ranges
abbrev pub job_of_values : Values → Bool → List Text → Option Job
job_of_values value no_merging plain =
    if all_hold value then command_job value no_merging plain else None

-- the job of options and plain words: the options are well given, and their values are allowed
abbrev pub job_by : List Given → List Text → Option Job
job_by os plain =
    if is_well_given value_names os then job_of_values (value_in os) (is_given os no_merge) plain else None

-- the job of the words, where they ask for one
abbrev pub job_of : List Text → Option Job
job_of words = job_by (options_of may_be_value words) (plain_of may_be_value words)

-- The words were read as that job, or as a fault of usage where there is none, or memory ran out.
abbrev pub IsReadAs : Option Job → Result Job WordFault → Type 0
IsReadAs job (Ok read) = job ≡ Some read
IsReadAs job (Err faults.Usage) = job ≡ None
IsReadAs job (Err faults.Memory) = Unit {0}

-- a plan, and a trial, is over at least one step
abbrev pub HasSomeStep : Job → Type 0
HasSomeStep (Plan job) = 1 ≤ job.horizon
HasSomeStep (Value job) = Unit {0}
HasSomeStep (Check job) = Unit {0}
HasSomeStep (Show job) = Unit {0}
HasSomeStep (Sim job) = Unit {0}
HasSomeStep (Make job) = Unit {0}
HasSomeStep (Print job) = Unit {0}
HasSomeStep (Trial job) = 1 ≤ job.horizon

-- the look of a plan, and of a trial, is from 1 to 16
abbrev pub HasLook : Job → Type 0
HasLook (Plan job) = (1 ≤ job.look) × (job.look ≤ 16)
HasLook (Value job) = Unit {0}
HasLook (Check job) = Unit {0}
HasLook (Show job) = Unit {0}
HasLook (Sim job) = Unit {0}
HasLook (Make job) = Unit {0}
HasLook (Print job) = Unit {0}
HasLook (Trial job) = (1 ≤ job.look) × (job.look ≤ 16)

-- the certificate of a plan is of version 1 or 2
abbrev pub HasVersion : Job → Type 0
HasVersion (Plan job) = (job.version ≡ 1) ⊎ (job.version ≡ 2)
HasVersion (Value job) = Unit {0}
HasVersion (Check job) = Unit {0}
HasVersion (Show job) = Unit {0}
HasVersion (Sim job) = Unit {0}
HasVersion (Make job) = Unit {0}
HasVersion (Print job) = Unit {0}
HasVersion (Trial job) = Unit {0}

-- each size of a model to be made is from 1 to 65,536
pub record AreMakeSizes (job : MakeJob) : Type 0 where
  pub some_agent : 1 ≤ job.agents
  pub some_state : 1 ≤ job.states
  pub some_action : 1 ≤ job.actions
  pub some_observation : 1 ≤ job.observations
  pub agents : job.agents ≤ 65536
  pub states : job.states ≤ 65536
  pub actions : job.actions ≤ 65536
  pub observations : job.observations ≤ 65536

abbrev pub HasSizes : Job → Type 0
HasSizes (Plan job) = Unit {0}
HasSizes (Value job) = Unit {0}
HasSizes (Check job) = Unit {0}
HasSizes (Show job) = Unit {0}
HasSizes (Sim job) = Unit {0}
HasSizes (Make job) = AreMakeSizes job
HasSizes (Print job) = Unit {0}
HasSizes (Trial job) = AreMakeSizes job.made
