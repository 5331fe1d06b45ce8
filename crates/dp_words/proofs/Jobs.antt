-- The job of the matches is that of the words.
use Rattle.std.proofs.Common.{◌≡◌, ◌≤◌, ◌-◌, length, map, take, drop, slice_index_or, arith, ◌∙◌, ◌&&◌, Bool, cond}
use Rattle.std.proofs.Common.{codes, true, false, not, refl, sym, ap, subst, List, [], ◌∷◌, Option, Some, None}
use Rattle.std.proofs.Common.{Result, Ok, Err, IsErrAnd, is_some, true≢false}
use Rattle.std.proofs.lemmas.Bool.{and_parts}
use Rattle.std.specs.Prelude.{find, option_and_then}
use Rattle.std.specs.List.{list_all}
use Rattle.std.specs.Option.{option_map_or}
use Rattle.std.specs.Str.{bytes_eq}
use Rattle.std.specs.Borrow.{Bor}
use Rattle.std.proofs.lemmas.List.{take_all}
use Rattle.clap.specs.declared.parser.matches.ArgMatches.{ArgMatches}
use Rattle.dp_words.specs.Line.{Given, Text, dashed, given_as, is_flag, is_given, is_named, is_once, is_valued}
use Rattle.dp_words.specs.Line.{is_well_given, options_of, plain_of, value_in}
use Rattle.dp_words.specs.declared.job.Job.{Job}
use Rattle.dp_words.specs.declared.job.WordFault.{WordFault}
use Rattle.dp_words.specs.declared.job.WordFault.TheVariants as faults
use Rattle.dp_words.specs.Words.{CommandRow, IsReadAs, Values, all_hold, command_job, row_job, commands, job_of}
use Rattle.dp_words.specs.Words.{job_of_values, value_names}
use Rattle.dp_words.specs.Command.{IsParsedAs, Tells, flag_id, may_be, merging_off, plain_words, values_of}
use Rattle.dp_words.proofs.Rows.{same_text}
use Rattle.dp_words.proofs.Rules.{is_in}
use Rattle.dp_words.proofs.Dashes.{job_is, not_well_given}

-- the values of the options alone
abbrev option_values : Values → Values
option_values v n = cond (is_in n value_names) (v n) None

-- a command reads nothing but options
abbrev ReadsOptions : CommandRow → Type 0
ReadsOptions f = (v : Values) (off : Bool) (files : List Text)
    → row_job v off files f ≡ row_job (option_values v) off files f

abbrev EachReads : List CommandRow → Type 0
EachReads [] = Unit {0}
EachReads (f ∷ fs) = ReadsOptions f × EachReads fs

-- one entry for each command of the table
commands_read : EachReads commands
commands_read = (
  λ v off files. refl,
  (
    λ v off files. refl,
    (
      λ v off files. refl,
      (
        λ v off files. refl,
        (
          λ v off files. refl,
          (
            λ v off files. refl,
            (λ v off files. refl, (λ v off files. refl, tt)),
          ),
        ),
      ),
    ),
  ),
)

found_same : (fs : List CommandRow) → EachReads fs
    → (v : Values) (off : Bool) (files : List Text) (p : CommandRow → Bool)
    → option_and_then (row_job v off files) (find p fs)
    ≡ option_and_then (row_job (option_values v) off files) (find p fs)
found_same [] each v off files p = refl
found_same (f ∷ fs) each v off files p = by (p f) (found_same fs each.1 v off files p)
  where
    by : (b : Bool) → option_and_then (row_job v off files) (find p fs)
        ≡ option_and_then (row_job (option_values v) off files) (find p fs)
        → option_and_then (row_job v off files) (cond b (Some f) (find p fs))
        ≡ option_and_then (row_job (option_values v) off files) (cond b (Some f) (find p fs))
    by true next = each.0 v off files
    by false next = next

option_values-same : (v : Values) (off : Bool) (plain : List Text)
    → job_of_values v off plain ≡ job_of_values (option_values v) off plain
option_values-same v off [] = refl
option_values-same v off (c ∷ files) =
    ap (λ o. cond (all_hold v) o None) (found_same commands commands_read v off files (λ f. bytes_eq f.word c))

-- an option that is none of the table has no value
unknown_value : (n : Text) (os : List Given) → list_all (is_valued value_names) os ≡ true
    → is_in n value_names ≡ false → value_in os n ≡ None
unknown_value n [] valued none = refl
unknown_value n (o ∷ os) valued none =
    let parts = and_parts (is_valued value_names o) (list_all (is_valued value_names) os) valued in
    by (bytes_eq o.0 (dashed n)) refl o.1 (is_flag o.0) parts.0 (unknown_value n os parts.1 none)
  where
    unnamed : (b : Bool) → (is_named value_names o.0 && b) ≡ true → o.0 ≡ dashed n → ⊥
    unnamed b named e = true≢false
        (sym (and_parts (is_named value_names o.0) b named).0 ∙ ap (is_named value_names) e ∙ none)

    by : (b : Bool) → bytes_eq o.0 (dashed n) ≡ b → (v : Option Text) (f : Bool)
        → cond f (not (is_some v)) (is_named value_names o.0 && is_some v) ≡ true → value_in os n ≡ None
        → option_and_then (λ x. x.1) (cond b (Some (o.0, v)) (given_as n os)) ≡ None
    by true e None f valued next = refl
    by true e (Some v) true valued next = cc
    by true e (Some v) false valued next = absurd (unnamed true valued (same_text o.0 (dashed n) e))
    by false e v f valued next = next

values_are : (words : List Text) (m : ArgMatches) → Tells words m
    → option_values (values_of m) ≡ value_in (options_of may_be words)
values_are words m t = λ i n. by n (is_in n value_names) refl i
  where
    valued : list_all (is_valued value_names) (options_of may_be words) ≡ true
    valued = (and_parts (list_all (is_valued value_names) (options_of may_be words))
        (is_once (options_of may_be words)) t.well).0

    by : (n : Text) (b : Bool) → is_in n value_names ≡ b → cond (is_in n value_names) (values_of m n) None
        ≡ value_in (options_of may_be words) n
    by n true e = rw e (t.option n e)
    by n false e = rw e (sym (unknown_value n (options_of may_be words) valued e))

flag_is : (words : List Text) (m : ArgMatches) → Tells words m
    → merging_off m ≡ is_given (options_of may_be words) flag_id
flag_is words m t = by (values_of m flag_id) refl (is_given (options_of may_be words) flag_id) refl
  where
    by : (v : Option Text) → values_of m flag_id ≡ v → (b : Bool)
        → is_given (options_of may_be words) flag_id ≡ b
        → option_map_or (λ x. bytes_eq x (codes "true")) v false ≡ b
    by v e true g = ap (λ o. option_map_or (λ x. bytes_eq x (codes "true")) o false) (sym e ∙ t.no_flag g)
    by None e false g = refl
    by (Some x) e false g = no (bytes_eq x (codes "true")) refl
      where
        no : (b : Bool) → bytes_eq x (codes "true") ≡ b → b ≡ false
        no true same = absurd (true≢false (sym (t.flag (e ∙ ap Some (same_text x (codes "true") same))) ∙ g))
        no false same = refl

-- the job of matches that tell the words
pub told_job : (words : List Text) (m : ArgMatches) → Tells words m
    → job_of_values (values_of m) (merging_off m) (plain_words m) ≡ job_of words
told_job words m t =
    option_values-same (values_of m) (merging_off m) (plain_words m)
    ∙ (λ i. job_of_values (values_are words m t i) (flag_is words m t i) (t.plain i))
    ∙ sym (ap (λ b. cond b
    (job_of_values (value_in (options_of may_be words)) (is_given (options_of may_be words) flag_id)
    (plain_of may_be words)) None) t.well)
    ∙ job_is words

-- words whose options are not well given
pub no_job : (words : List Text) → is_well_given value_names (options_of may_be words) ≡ false
    → job_of words ≡ None
no_job words bad = sym (job_is words) ∙ not_well_given (options_of may_be words) (plain_of may_be words) bad

-- what a parse that fails says of the job
pub failed_job : (words : List Text) (e : WordFault) → IsParsedAs words (Err e)
    → IsReadAs (job_of words) (Err e)
failed_job words faults.Usage bad = no_job words bad
failed_job words faults.Memory bad = tt

pub told_as : (words : List Text) (m : ArgMatches) (r : Result Job WordFault) → Tells words m
    → IsReadAs (job_of_values (values_of m) (merging_off m) (plain_words m)) r → IsReadAs (job_of words) r
told_as words m r t read = subst (λ j. IsReadAs j r) (told_job words m t) read

-- the word is that of none of the rows
abbrev pub IsNone : Text → List CommandRow → Type 0
IsNone word [] = Unit {0}
IsNone word (c ∷ cs) = (word ≡ c.word → ⊥) × IsNone word cs

none_found : (word : Text) (cs : List CommandRow) → IsNone word cs → find (λ c. bytes_eq c.word word) cs ≡ None
none_found word [] none = refl
none_found word (c ∷ cs) none = by (bytes_eq c.word word) refl (none_found word cs none.1)
  where
    by : (b : Bool) → bytes_eq c.word word ≡ b → find (λ x. bytes_eq x.word word) cs ≡ None
        → cond b (Some c) (find (λ x. bytes_eq x.word word) cs) ≡ None
    by true e next = absurd (none.0 (sym (same_text c.word word e)))
    by false e next = next

-- no command has a word that is none of theirs
pub no_command : (v : Values) (off : Bool) (word : Text) (files : List Text) → IsNone word commands
    → command_job v off (word ∷ files) ≡ None
no_command v off word files none = ap (option_and_then (row_job v off files)) (none_found word commands none)

-- the first plain word and the rest
pub split_job : (v : Values) (off : Bool) (r : Result Job WordFault) (plain : List Text) (bs : List (Bor Text))
    (d : Bor Text) → all_hold v ≡ true → 1 ≤ length bs → map (λ s. s.now) bs ≡ plain
    → IsReadAs (command_job v off ((slice_index_or bs 0 d).now ∷ map (λ s. s.now)
    (take (length bs - 1) (drop 1 bs))))
    r → IsReadAs (job_of_values v off plain) r
split_job v off r plain [] d in_range some is read = absurd (omega arith)
split_job v off r plain (b ∷ bs) d in_range some is read =
    let job : job_of_values v off (b.now ∷ map (λ s. s.now) bs)
    ≡ command_job v off (b.now ∷ map (λ s. s.now) bs) =
    ap (λ x. cond x (command_job v off (b.now ∷ map (λ s. s.now) bs)) None) in_range in
    let rest : take (length (b ∷ bs) - 1) bs ≡ bs = take_all (length (b ∷ bs) - 1) bs (omega arith) in
    subst (λ j. IsReadAs j r)
    (ap (λ (xs : List (Bor Text)). command_job v off (b.now ∷ map (λ s. s.now) xs)) rest ∙ sym job
    ∙ ap (job_of_values v off) is) read

-- `?` passes a fault up as it is
pub fault_up : (words : List Text) (r : Result Job WordFault) (e : WordFault) → IsErrAnd r (λ y. y ≡ e)
    → IsParsedAs words (Err e) → IsReadAs (job_of words) r
fault_up words (Ok x) e is bad = absurd is
fault_up words (Err y) e is bad = failed_job words y (subst (λ x. IsParsedAs words (Err x)) (sym is) bad)
