-- A plan or a trial of the words is over at least one step, and its look is from 1 to 16; the version of a plan is 1 or
-- 2; each size of a model to be made is from 1 to 65,536.
use Rattle.std.proofs.Common.{◌≡◌, arith, ◌≤◌, ◌&&◌, ◌||◌, not, Bool, cond, codes, true, false, true≢false, refl, ap}
use Rattle.std.proofs.Common.{sym, ◌∙◌, subst, ℕ, List, [], ◌∷◌, length, Option, Some, None, Result, Ok, Err, IfOk}
use Rattle.std.proofs.Common.{is_some, unwrap_or, ◌⊎◌}
use Rattle.std.specs.Prelude.{◌==◌, find, nat_le, option_and_then}
use Rattle.std.specs.List.{list_all, list_any}
use Rattle.std.specs.Option.{option_map_or}
use Rattle.std.specs.Str.{bytes_eq}
use Rattle.std.specs.Str.Parse.{digits_value}
use Rattle.std.proofs.lemmas.Bool.{leb-true, and_parts}
use Rattle.dp_words.specs.declared.job.Job.{Job}
use Rattle.dp_words.specs.declared.job.WordFault.{WordFault}
use Rattle.dp_words.specs.Line.{Given, Text, is_given, is_well_given, may_be_value, options_of, plain_of, value_in}
use Rattle.dp_words.specs.Words.{AreMakeSizes, CommandRow, HasLook, HasSizes, HasSomeStep, HasVersion, IsReadAs}
use Rattle.dp_words.specs.Words.{OptionRow, Setting, Values, actions, agents, all_hold, cert, command_job, commands}
use Rattle.dp_words.specs.Words.{file_at, fits, holds, horizon, is_allowed, is_number, job_of, job_of_values, look}
use Rattle.dp_words.specs.Words.{make_row, model_to_make, no_merge, number_of, number_option, observations, options}
use Rattle.dp_words.specs.Words.{plan_row, read, row_job, states, trial_row, value_names}
use Rattle.dp_words.proofs.Ranges.{Each, options_hold}
use Rattle.dp_words.proofs.Rows.{same_text}
use Rattle.dp_words.proofs.Rules.{is_in}

-- a text that writes a number of a range writes one from its least to its most
written_in_range : (least most : ℕ) (t : Text) → is_some (number_of least most t) ≡ true
    → (least ≤ digits_value 10 t) × (digits_value 10 t ≤ most)
written_in_range least most t some =
    by (is_number t) (nat_le least (digits_value 10 t)) refl (nat_le (digits_value 10 t) most) refl some
  where
    by : (a b : Bool) → nat_le least (digits_value 10 t) ≡ b → (d : Bool) → nat_le (digits_value 10 t) most ≡ d
        → is_some (cond (a && b && d) (Some (digits_value 10 t)) None) ≡ true
        → (least ≤ digits_value 10 t) × (digits_value 10 t ≤ most)
    by true true low true high some = (leb-true least (digits_value 10 t) low, leb-true (digits_value 10 t) most high)
    by true true low false high some = cc
    by true false low d high some = cc
    by false b low d high some = cc

-- the number of an option that is allowed is in its range, where it is given or its default is
number_in_range : (s : Setting) (o : Option Text) → option_map_or (number_option s).allows o true ≡ true
    → (is_some o ≡ false → (s.least ≤ unwrap_or s.default 0) × (unwrap_or s.default 0 ≤ s.most))
    → (s.least ≤ option_map_or (digits_value 10) o (unwrap_or s.default 0))
    × (option_map_or (digits_value 10) o (unwrap_or s.default 0) ≤ s.most)
number_in_range s None holds default = default refl
number_in_range s (Some t) holds default = written_in_range s.least s.most t holds

one_or_two : (n : ℕ) → 1 ≤ n → n ≤ 2 → (n ≡ 1) ⊎ (n ≡ 2)
one_or_two n some few = grind arith

-- the options that give the sizes of a model to be made
abbrev size_options : List OptionRow
size_options =
    number_option agents ∷ number_option states ∷ number_option actions ∷ number_option observations ∷ []

-- the job has what a command asks of its numbers
abbrev IsRunnable : Job → Type 0
IsRunnable job = HasSomeStep job × HasLook job × HasVersion job × HasSizes job

-- the job of a row is so, where its options fit
abbrev HasStep : Values → CommandRow → Type 0
HasStep v c = (off : Bool) (files : List Text) → fits c.options c.required v off ≡ true
    → IsRunnable (c.job (read v off) (file_at files))

abbrev EachHas : Values → List CommandRow → Type 0
EachHas v [] = Unit {0}
EachHas v (c ∷ cs) = HasStep v c × EachHas v cs

all_given : (options names : List Text) (v : Values) (off : Bool) → fits options names v off ≡ true
    → list_all (λ n. is_some (v n)) names ≡ true
all_given options names v off ok =
    let may_have = list_any (λ n. bytes_eq n no_merge) options || not off in
    let given = list_all (λ n. is_some (v n)) names in
    let rest = and_parts (list_all (is_allowed options v) value_names) (may_have && given) ok in
    (and_parts may_have given rest.1).1

-- an option that a command requires is given
required : (names : List Text) (v : Values) (n : Text) → is_in n names ≡ true
    → list_all (λ x. is_some (v x)) names ≡ true → is_some (v n) ≡ true
required [] v n is all = cc
required (m ∷ ms) v n is all =
    let parts = and_parts (is_some (v m)) (list_all (λ x. is_some (v x)) ms) all in
    by (bytes_eq m n) refl is parts.0 (λ more. required ms v n more parts.1)
  where
    by : (b : Bool) → bytes_eq m n ≡ b → (b || is_in n ms) ≡ true → is_some (v m) ≡ true
        → (is_in n ms ≡ true → is_some (v n) ≡ true) → is_some (v n) ≡ true
    by true e is first next = ap (λ x. is_some (v x)) (sym (same_text m n e)) ∙ first
    by false e is first next = next is

-- an option without a default that a command requires is in its range
required_in_range : (options names : List Text) (v : Values) (off : Bool) (s : Setting) → is_in s.name names ≡ true
    → fits options names v off ≡ true → holds v (number_option s) ≡ true
    → (s.least ≤ option_map_or (digits_value 10) (v s.name) (unwrap_or s.default 0))
    × (option_map_or (digits_value 10) (v s.name) (unwrap_or s.default 0) ≤ s.most)
required_in_range options names v off s named ok holds =
    let given = required names v s.name named (all_given options names v off ok) in
    number_in_range s (v s.name) holds (λ none. absurd (true≢false (sym given ∙ none)))

-- the sizes of a model to be made
sizes_in_range : (options names : List Text) (v : Values) (off : Bool) → Each (holds v) size_options
    → is_in (codes "agents") names ≡ true → is_in (codes "states") names ≡ true
    → is_in (codes "actions") names ≡ true → is_in (codes "observations") names ≡ true
    → fits options names v off ≡ true → AreMakeSizes (model_to_make (read v off))
sizes_in_range options names v off allowed a s b o ok =
    let of_agents = required_in_range options names v off agents a ok allowed.0 in
    let of_states = required_in_range options names v off states s ok allowed.1.0 in
    let of_actions = required_in_range options names v off actions b ok allowed.1.1.0 in
    let of_observations = required_in_range options names v off observations o ok allowed.1.1.1.0 in
    record {
      some_agent = of_agents.0;
      some_state = of_states.0;
      some_action = of_actions.0;
      some_observation = of_observations.0;
      agents = of_agents.1;
      states = of_states.1;
      actions = of_actions.1;
      observations = of_observations.1;
    }

-- one entry for each command of the table
commands_have : (v : Values) → Each (holds v) options → EachHas v commands
commands_have v allowed = (
  (λ off files ok. (
    (required_in_range plan_row.options plan_row.required v off horizon refl ok allowed.0).0,
    looks,
    one_or_two _ version.0 version.1,
    tt,
  )),
  (
    λ off files ok. (tt, tt, tt, tt),
    (
      λ off files ok. (tt, tt, tt, tt),
      (
        λ off files ok. (tt, tt, tt, tt),
        (
          λ off files ok. (tt, tt, tt, tt),
          (
            λ off files ok. (
              tt,
              tt,
              tt,
              sizes_in_range make_row.options make_row.required v off sizes refl refl refl refl ok,
            ),
            (
              λ off files ok. (tt, tt, tt, tt),
              (
                λ off files ok. (
                  (required_in_range trial_row.options trial_row.required v off horizon refl ok allowed.0).0,
                  looks,
                  tt,
                  sizes_in_range trial_row.options trial_row.required v off sizes refl refl refl refl ok,
                ),
                tt,
              ),
            ),
          ),
        ),
      ),
    ),
  ),
)
  where
    looks : (1 ≤ option_map_or (digits_value 10) (v (codes "look")) 1)
        × (option_map_or (digits_value 10) (v (codes "look")) 1 ≤ 16)
    looks = number_in_range look (v (codes "look")) allowed.1.1.0 (λ none. (omega arith, omega arith))

    version : (1 ≤ option_map_or (digits_value 10) (v (codes "cert")) 1)
        × (option_map_or (digits_value 10) (v (codes "cert")) 1 ≤ 2)
    version = number_in_range cert (v (codes "cert")) allowed.1.1.1.0 (λ none. (omega arith, omega arith))

    sizes : Each (holds v) size_options
    sizes =
        let rest = allowed.1.1.1.1.1.1 in (rest.0, (rest.1.0, (rest.1.1.0, (rest.1.1.1.0, tt))))

find_has : (v : Values) (cs : List CommandRow) → EachHas v cs
    → (p : CommandRow → Bool) (off : Bool) (files : List Text)
    (job : Job) → option_and_then (row_job v off files) (find p cs) ≡ Some job → IsRunnable job
find_has v [] each p off files job is = cc
find_has v (c ∷ cs) each p off files job is = by (p c) is (find_has v cs each.1 p off files job)
  where
    asked : Job
    asked = c.job (read v off) (file_at files)

    made : (b : Bool) → fits c.options c.required v off ≡ b → (e : Bool)
        → cond (e && b) (Some asked) None ≡ Some job → IsRunnable job
    made true ok true is = subst IsRunnable (same is) (each.0 off files ok)
      where
        same : Some asked ≡ Some job → asked ≡ job
        same e = cc
    made true ok false is = cc
    made false ok true is = cc
    made false ok false is = cc

    by : (b : Bool) → option_and_then (row_job v off files) (cond b (Some c) (find p cs)) ≡ Some job
        → (option_and_then (row_job v off files) (find p cs) ≡ Some job → IsRunnable job) → IsRunnable job
    by true is next = made (fits c.options c.required v off) refl (length files == c.files) is
    by false is next = next is

values_have : (v : Values) (off : Bool) (plain : List Text) (job : Job) → job_of_values v off plain ≡ Some job
    → IsRunnable job
values_have v off plain job is = by (all_hold v) refl plain is
  where
    by : (b : Bool) → all_hold v ≡ b → (ps : List Text) → cond b (command_job v off ps) None ≡ Some job
        → IsRunnable job
    by false e ps is = cc
    by true e [] is = cc
    by true e (word ∷ files) is =
        find_has v commands (commands_have v (options_hold v e)) (λ c. bytes_eq c.word word) off files job is

-- the job of the words is so
pub job_has : (words : List Text) (job : Job) → job_of words ≡ Some job → IsRunnable job
job_has words job is = by (is_well_given value_names os) is
  where
    os : List Given
    os = options_of may_be_value words

    by : (b : Bool) → cond b (job_of_values (value_in os) (is_given os no_merge)
        (plain_of may_be_value words)) None
        ≡ Some job
        → IsRunnable job
    by true is = values_have (value_in os) (is_given os no_merge) (plain_of may_be_value words) job is
    by false is = cc

pub read_has : (words : List Text) (r : Result Job WordFault) → IsReadAs (job_of words) r → IfOk r HasSomeStep
read_has words (Ok job) is = (job_has words job is).0
read_has words (Err e) is = tt

pub read_looks : (words : List Text) (r : Result Job WordFault) → IsReadAs (job_of words) r → IfOk r HasLook
read_looks words (Ok job) is = (job_has words job is).1
read_looks words (Err e) is = tt

pub read_sizes : (words : List Text) (r : Result Job WordFault) → IsReadAs (job_of words) r → IfOk r HasSizes
read_sizes words (Ok job) is = (job_has words job is).3
read_sizes words (Err e) is = tt

pub read_version : (words : List Text) (r : Result Job WordFault) → IsReadAs (job_of words) r → IfOk r HasVersion
read_version words (Ok job) is = (job_has words job is).2
read_version words (Err e) is = tt
