-- Worked rows, computed: lists of words with the job that they ask for, or none.
use Rattle.std.proofs.Common.{◌≡◌, ℕ, true, false, [], ◌∷◌, Option, Some, None, codes, refl}
use Rattle.dp_base.specs.DecimalShape.{is_index}
use Rattle.dp_words.specs.declared.job.Job.{Job}
use Rattle.dp_words.specs.declared.job.Job.TheVariants.{Plan, Show, Sim, Value}
use Rattle.dp_words.specs.declared.job.OrderWord.TheVariants.{First, Heavy}
use Rattle.dp_words.specs.Line.{Text}
use Rattle.dp_words.specs.Words.{job_of}

-- a plan of that file over so many steps, and of all that no word sets
abbrev plan : Text → ℕ → Option Job
plan model horizon = Some (Plan (record {
  model = model;
  version = 1;
  horizon = horizon;
  nodes = 100000;
  look = 1;
  merge = true;
  order = First;
}))

option_behind : job_of (codes "plan" ∷ codes "m" ∷ codes "--horizon" ∷ codes "12" ∷ []) ≡ plan (codes "m") 12
unfolding is_index
option_behind = refl

option_before : job_of (codes "--horizon" ∷ codes "1" ∷ codes "plan" ∷ codes "m" ∷ []) ≡ plan (codes "m") 1
unfolding is_index
option_before = refl

joined : job_of (codes "plan" ∷ codes "--horizon=7" ∷ codes "m" ∷ []) ≡ plan (codes "m") 7
unfolding is_index
joined = refl

-- what follows the first `=` is the value, which is no number here
joined_twice : job_of (codes "plan" ∷ codes "--horizon==7" ∷ codes "m" ∷ []) ≡ None
unfolding is_index
joined_twice = refl

-- ---- the options of a plan

every_option : job_of (codes "plan" ∷ codes "m" ∷ codes "--horizon=2" ∷ codes "--nodes" ∷ codes "0" ∷ codes
    "--look=16"
    ∷ codes "--no-merge" ∷ codes "--order" ∷ codes "heavy" ∷ codes "--cert=2" ∷ [])
    ≡ Some (Plan (record {
      model = codes "m";
      version = 2;
      horizon = 2;
      nodes = 0;
      look = 16;
      merge = false;
      order = Heavy;
    }))
unfolding is_index
every_option = refl

order_of_another_name : job_of (codes "plan" ∷ codes "m" ∷ codes "--horizon=2" ∷ codes "--order=last" ∷ []) ≡ None
unfolding is_index
order_of_another_name = refl

look_too_long : job_of (codes "plan" ∷ codes "m" ∷ codes "--horizon=2" ∷ codes "--look=17" ∷ []) ≡ None
unfolding is_index
look_too_long = refl

third_version : job_of (codes "plan" ∷ codes "m" ∷ codes "--horizon=2" ∷ codes "--cert=3" ∷ []) ≡ None
unfolding is_index
third_version = refl

-- ---- dashes

file_with_a_dash : job_of (codes "plan" ∷ codes "--horizon" ∷ codes "1" ∷ codes "--" ∷ codes "-m" ∷ [])
    ≡ plan (codes "-m") 1
unfolding is_index
file_with_a_dash = refl

no_option_behind : job_of (codes "plan" ∷ codes "m" ∷ codes "--" ∷ codes "--horizon" ∷ codes "1" ∷ []) ≡ None
unfolding is_index
no_option_behind = refl

second_is_a_file : job_of (codes "plan" ∷ codes "--horizon" ∷ codes "1" ∷ codes "--" ∷ codes "--" ∷ [])
    ≡ plan (codes "--") 1
unfolding is_index
second_is_a_file = refl

dash_is_a_file : job_of (codes "plan" ∷ codes "-" ∷ codes "--horizon" ∷ codes "1" ∷ []) ≡ plan (codes "-") 1
unfolding is_index
dash_is_a_file = refl

-- an option whose value begins with a dash is without it, and the dash is a second file
dash_is_no_value : job_of (codes "plan" ∷ codes "m" ∷ codes "--horizon" ∷ codes "-" ∷ []) ≡ None
unfolding is_index
dash_is_no_value = refl

no_short_flags : job_of (codes "plan" ∷ codes "-m" ∷ codes "--horizon" ∷ codes "1" ∷ []) ≡ None
unfolding is_index
no_short_flags = refl

-- ---- the value of a policy

value_of_files : job_of (codes "value" ∷ codes "m" ∷ codes "p" ∷ [])
    ≡ Some (Value (record { model = codes "m"; policy = codes "p" }))
value_of_files = refl

value_without_policy : job_of (codes "value" ∷ codes "m" ∷ []) ≡ None
value_without_policy = refl

value_with_a_horizon : job_of (codes "value" ∷ codes "m" ∷ codes "p" ∷ codes "--horizon" ∷ codes "1" ∷ [])
    ≡ None
unfolding is_index
value_with_a_horizon = refl

-- ---- what is refused

given_twice : job_of (codes "plan" ∷ codes "m" ∷ codes "--horizon=1" ∷ codes "--horizon" ∷ codes "1" ∷ [])
    ≡ None
unfolding is_index
given_twice = refl

option_of_no_command : job_of (codes "plan" ∷ codes "m" ∷ codes "--horizon" ∷ codes "1" ∷ codes "--speed" ∷ [])
    ≡ None
unfolding is_index
option_of_no_command = refl

option_of_another_command : job_of (codes "value" ∷ codes "m" ∷ codes "p" ∷ codes "--no-merge" ∷ []) ≡ None
option_of_another_command = refl

no_horizon : job_of (codes "plan" ∷ codes "m" ∷ []) ≡ None
unfolding is_index
no_horizon = refl

two_files : job_of (codes "plan" ∷ codes "m" ∷ codes "n" ∷ codes "--horizon" ∷ codes "1" ∷ []) ≡ None
unfolding is_index
two_files = refl

no_words : job_of [] ≡ None
no_words = refl

-- ---- the other files of a certificate

shown : job_of (codes "show" ∷ codes "m" ∷ codes "c" ∷ [])
    ≡ Some (Show (record { model = codes "m"; cert = codes "c" }))
shown = refl

shown_with_a_seed : job_of (codes "show" ∷ codes "m" ∷ codes "c" ∷ codes "--seed=1" ∷ []) ≡ None
unfolding is_index
shown_with_a_seed = refl

abbrev sim : ℕ → ℕ → Option Job
sim seed episodes =
    Some (Sim (record { model = codes "m"; cert = codes "c"; seed = seed; episodes = episodes }))

one_episode : job_of (codes "sim" ∷ codes "m" ∷ codes "c" ∷ codes "--seed" ∷ codes "0" ∷ []) ≡ sim 0 1
unfolding is_index
one_episode = refl

many_episodes : job_of (codes "sim" ∷ codes "--episodes=10000" ∷ codes "m" ∷ codes "c"
    ∷ codes "--seed=18446744073709551615" ∷ []) ≡ sim 18446744073709551615 10000
unfolding is_index
many_episodes = refl

no_seed : job_of (codes "sim" ∷ codes "m" ∷ codes "c" ∷ codes "--episodes=1" ∷ []) ≡ None
unfolding is_index
no_seed = refl

no_episode : job_of (codes "sim" ∷ codes "m" ∷ codes "c" ∷ codes "--seed=1" ∷ codes "--episodes=0" ∷ []) ≡ None
unfolding is_index
no_episode = refl

too_many_episodes : job_of (codes "sim" ∷ codes "m" ∷ codes "c" ∷ codes "--seed=1" ∷ codes "--episodes=10001" ∷ [])
    ≡ None
unfolding is_index
too_many_episodes = refl

seed_past_the_last : job_of (codes "sim" ∷ codes "m" ∷ codes "c" ∷ codes "--seed=18446744073709551616" ∷ []) ≡ None
unfolding is_index
seed_past_the_last = refl

-- ---- numbers

greatest_horizon : job_of (codes "plan" ∷ codes "m" ∷ codes "--horizon" ∷ codes "4294967295" ∷ [])
    ≡ plan (codes "m") 4294967295
unfolding is_index
greatest_horizon = refl

one_more : job_of (codes "plan" ∷ codes "m" ∷ codes "--horizon" ∷ codes "4294967296" ∷ []) ≡ None
unfolding is_index
one_more = refl

no_step : job_of (codes "plan" ∷ codes "m" ∷ codes "--horizon" ∷ codes "0" ∷ []) ≡ None
unfolding is_index
no_step = refl

leading_zero : job_of (codes "plan" ∷ codes "m" ∷ codes "--horizon" ∷ codes "01" ∷ []) ≡ None
unfolding is_index
leading_zero = refl

with_a_sign : job_of (codes "plan" ∷ codes "m" ∷ codes "--horizon" ∷ codes "+1" ∷ []) ≡ None
unfolding is_index
with_a_sign = refl
