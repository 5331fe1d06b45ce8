-- The job does not depend on whether an option takes a lone dash for its value: no dash is a value
-- of any option.
use Rattle.std.proofs.Common.{◌≡◌, ◌∙◌, ◌&&◌, ◌||◌, ◌⊎◌, inl, inr, Bool, cond, codes, true, false, not, refl, sym, ap}
use Rattle.std.proofs.Common.{List, [], ◌∷◌, ◌++◌, map, Option, Some, None, true≢false}
use Rattle.std.proofs.Math.Bool.{and-false, or-true}
use Rattle.std.proofs.lemmas.Bool.{and_parts, not-true}
use Rattle.std.specs.Prelude.{option_and_then}
use Rattle.std.specs.Option.{option_map_or}
use Rattle.std.specs.List.{list_all, list_any, before_first, after_first}
use Rattle.std.specs.Str.{bytes_eq}
use Rattle.dp_base.specs.DecimalShape.{is_index}
use Rattle.dp_words.specs.Line.{Given, Text, attached_value, begins_with_dash, dashed, ends_options, given_as}
use Rattle.dp_words.specs.Line.{is_given, value_in, is_equals, is_flag, is_named, is_once, is_option, is_valued}
use Rattle.dp_words.specs.Line.{is_well_given, may_be_value, name_of, options_in, options_of, plain_after, plain_of}
use Rattle.dp_words.specs.Line.{takes_next, value_of}
use Rattle.dp_words.specs.Words.{OptionRow, all_hold, holds, job_by, job_of, no_merge, options, job_of_values}
use Rattle.dp_words.specs.Words.{value_names}
use Rattle.dp_words.specs.Command.{may_be}
use Rattle.dp_words.proofs.Rows.{same_text, text_same}
use Rattle.dp_words.proofs.Rules.{is_in}

abbrev dash : Text
dash = codes "-"

-- some option has a dash for its value
abbrev has_dash : Given → Bool
has_dash o = option_map_or (λ v. bytes_eq v dash) o.1 false

abbrev HasDash : List Given → Type 0
HasDash os = list_any has_dash os ≡ true

-- some option is unknown, or without its value
abbrev LacksValue : List Given → Type 0
LacksValue os = list_all (is_valued value_names) os ≡ false

none_lacks_value : (name : Text) → is_flag name ≡ false → is_valued value_names (name, None) ≡ false
none_lacks_value name flag = rw flag (and-false (is_named value_names name))

-- the options and the plain words are the same, or one list has a dash and the other an option without its value
abbrev Alike : Text → List Text → Type 0
Alike word rest = ((options_in may_be (word ∷ rest) ≡ options_in may_be_value (word ∷ rest))
    × (plain_after may_be word rest ≡ plain_after may_be_value word rest))
    ⊎ (HasDash (options_in may_be (word ∷ rest)) × LacksValue (options_in may_be_value (word ∷ rest)))

has_dash-more : (b : Bool) (o : Given) (os : List Given) → HasDash os → HasDash (cond b (o ∷ os) os)
has_dash-more true o os is = rw is (or-true (has_dash o))
has_dash-more false o os is = is

lacks_value-more : (b : Bool) (o : Given) (os : List Given) → LacksValue os → LacksValue (cond b (o ∷ os) os)
lacks_value-more true o os is = rw is (and-false (is_valued value_names o))
lacks_value-more false o os is = is

-- whether the next word may be a value is the same by both, or it is a dash
differ : (next : Text) → (may_be next ≡ may_be_value next)
    ⊎ ((next ≡ codes "-") × ((may_be next ≡ true) × (may_be_value next ≡ false)))
differ next = by (begins_with_dash next) refl (bytes_eq next (codes "-")) refl
  where
    by : (d : Bool) → begins_with_dash next ≡ d → (e : Bool) → bytes_eq next (codes "-") ≡ e
        → (may_be next ≡ may_be_value next)
        ⊎ ((next ≡ codes "-") × ((may_be next ≡ true) × (may_be_value next ≡ false)))
    by false dash e is = inl (rw dash refl)
    by true dash false is = inl (rw (dash, is) refl)
    by true dash true is = inr (same_text next (codes "-") is, (rw (dash, is) refl, rw dash refl))

takes_parts : (word : Text) → takes_next word ≡ true → (is_option word ≡ true)
    × (is_flag (name_of word) ≡ false)
takes_parts word takes = by (is_option word) (list_any is_equals word) (is_flag (name_of word)) takes
  where
    by : (a b d : Bool) → (a && not b && not d) ≡ true → (a ≡ true) × (d ≡ false)
    by true false false e = (refl, refl)
    by true false true e = cc
    by true true d e = cc
    by false b d e = cc

alike_next : (word next : Text) (rest : List Text) → Alike next rest → Alike word (next ∷ rest)
alike_next word next rest (inr wrong) = inr (
  has_dash-more (is_option word) (name_of word, value_of may_be word (next ∷ rest))
      (options_in may_be (next ∷ rest))
      wrong.0,
  lacks_value-more (is_option word) (name_of word, value_of may_be_value word (next ∷ rest))
      (options_in may_be_value (next ∷ rest)) wrong.1,
)
alike_next word next rest (inl same) = by (differ next) (takes_next word) refl
  where
    by : ((may_be next ≡ may_be_value next)
        ⊎ ((next ≡ codes "-") × ((may_be next ≡ true) × (may_be_value next ≡ false)))) → (t : Bool)
        → takes_next word ≡ t → Alike word (next ∷ rest)
    by (inl agree) t takes = inl (
      λ i. cond (is_option word)
          ((
            name_of word,
            cond (takes_next word) (cond (agree i) (Some next) None)
                (attached_value word),
          ) ∷ same.0 i)
          (same.0 i),
      λ i. cond (is_option next || (takes_next word && agree i)) (same.1 i) (next ∷ same.1 i),
    )
    by (inr lone) false takes = inl (
      rw takes (λ i. cond (is_option word) ((name_of word, attached_value word) ∷ same.0 i) (same.0 i)),
      rw takes (λ i. cond (is_option next || false) (same.1 i) (next ∷ same.1 i)),
    )
    by (inr lone) true takes =
        let parts = takes_parts word takes in
        inr (
          rw (takes, parts.0, lone.1.0)
              (ap (λ v. bytes_eq v dash || list_any has_dash (options_in may_be (next ∷ rest))) lone.0),
          rw (takes, parts.0, lone.1.1)
              (ap (λ b. b && list_all (is_valued value_names) (options_in may_be_value (next ∷ rest)))
              (none_lacks_value (name_of word) parts.1)),
        )

alike : (word : Text) (rest : List Text) → Alike word rest
alike word [] = inl (refl, refl)
alike word (next ∷ rest) = alike_next word next rest (alike next rest)

-- a name under which an option is given, of the list
named_by : (names : List Text) (name : Text) → is_named names name ≡ true
    → (n : Text) × ((is_in n names ≡ true) × (name ≡ dashed n))
named_by [] name is = cc
named_by (n ∷ ns) name is = by (bytes_eq (dashed n) name) refl is (named_by ns name)
  where
    by : (b : Bool) → bytes_eq (dashed n) name ≡ b → (b || is_named ns name) ≡ true
        → (is_named ns name ≡ true → (m : Text) × ((is_in m ns ≡ true) × (name ≡ dashed m)))
        → (m : Text) × ((is_in m (n ∷ ns) ≡ true) × (name ≡ dashed m))
    by true e is next = (n, (rw (text_same n n refl) refl, sym (same_text (dashed n) name e)))
    by false e is next =
        let found = next is in
        (found.0, (rw found.1.0 (or-true (bytes_eq n found.0)), found.1.1))

given_name : (n : Text) (os : List Given) (v : Text) → value_in os n ≡ Some v
    → list_any (λ p. bytes_eq (dashed n) p.0) os ≡ true
given_name n [] v e = cc
given_name n (o ∷ os) v e = by (bytes_eq o.0 (dashed n)) refl e (given_name n os v)
  where
    by : (b : Bool) → bytes_eq o.0 (dashed n) ≡ b → option_and_then (λ x. x.1) (cond b (Some o) (given_as n os))
        ≡ Some v → (value_in os n ≡ Some v → list_any (λ p. bytes_eq (dashed n) p.0) os ≡ true)
        → (bytes_eq (dashed n) o.0 || list_any (λ p. bytes_eq (dashed n) p.0) os) ≡ true
    by true is e next = rw (text_same (dashed n) o.0 (sym (same_text o.0 (dashed n) is))) refl
    by false is e next = rw (next e) (or-true (bytes_eq (dashed n) o.0))

-- the dash is the value that is read under some name
dash_value : (os : List Given) → list_all (is_valued value_names) os ≡ true → is_once os ≡ true → HasDash os
    → (n : Text) × ((is_in n value_names ≡ true) × (value_in os n ≡ Some dash))
dash_value [] valued once is = cc
dash_value (o ∷ os) valued once is =
    let v = and_parts (is_valued value_names o) (list_all (is_valued value_names) os) valued in
    let u = and_parts (not (list_any (λ p. bytes_eq o.0 p.0) os)) (is_once os) once in
    by o.1 v.0 (not-true (list_any (λ p. bytes_eq o.0 p.0) os) u.0) is (dash_value os v.1 u.1)
  where
    Found : List Given → Type 0
    Found xs = (n : Text) × ((is_in n value_names ≡ true) × (value_in xs n ≡ Some dash))

    here : (text : Text) → bytes_eq text dash ≡ true → (f : Bool)
        → cond f false (is_named value_names o.0 && true)
        ≡ true → (n : Text) × ((is_in n value_names ≡ true) × (value_in ((o.0, Some text) ∷ os) n ≡ Some dash))
    here text e true valued = cc
    here text e false valued =
        let found = named_by value_names o.0 (and_parts (is_named value_names o.0) true valued).0 in
        (found.0, (found.1.0, rw (text_same o.0 (dashed found.0) found.1.1) (ap Some (same_text text dash e))))

    there : (v : Option Text) → list_any (λ p. bytes_eq o.0 p.0) os ≡ false
        → ((n : Text) × ((is_in n value_names ≡ true) × (value_in os n ≡ Some dash)))
        → (n : Text) × ((is_in n value_names ≡ true) × (value_in ((o.0, v) ∷ os) n ≡ Some dash))
    there v new found = (found.0, (found.1.0, again (bytes_eq o.0 (dashed found.0)) refl))
      where
        again : (b : Bool) → bytes_eq o.0 (dashed found.0) ≡ b
            → option_and_then (λ x. x.1) (cond b (Some (o.0, v)) (given_as found.0 os)) ≡ Some dash
        again true e = absurd
            (true≢false (sym (given_name found.0 os dash found.1.1)
            ∙ ap (λ m. list_any (λ p. bytes_eq m p.0) os) (sym (same_text o.0 (dashed found.0) e)) ∙ new))
        again false e = found.1.1

    by : (v : Option Text) → is_valued value_names (o.0, v) ≡ true → list_any (λ p. bytes_eq o.0 p.0) os ≡ false
        → (option_map_or (λ x. bytes_eq x dash) v false || list_any has_dash os) ≡ true
        → (HasDash os → (n : Text) × ((is_in n value_names ≡ true) × (value_in os n ≡ Some dash)))
        → (n : Text) × ((is_in n value_names ≡ true) × (value_in ((o.0, v) ∷ os) n ≡ Some dash))
    by None valued new is next = there None new (next is)
    by (Some text) valued new is next = first (bytes_eq text dash) refl is
      where
        first : (b : Bool) → bytes_eq text dash ≡ b → (b || list_any has_dash os) ≡ true
            → (n : Text) × ((is_in n value_names ≡ true) × (value_in ((o.0, Some text) ∷ os) n ≡ Some dash))
        first true e is = here text e (is_flag o.0) valued
        first false e is = there (Some text) new (next is)

-- no option of the table allows a dash
abbrev RefuseDash : List OptionRow → Type 0
RefuseDash rows = list_all (λ o. not (o.allows dash)) rows ≡ true

options_refuse_dash : RefuseDash options
unfolding is_index
options_refuse_dash = refl

-- an option with a dash does not hold
dash_fails : (os : List Given) (n : Text) (rows : List OptionRow) → RefuseDash rows
    → is_in n (map (λ o. o.name) rows)
    ≡ true
    → value_in os n ≡ Some dash → list_all (holds (value_in os)) rows ≡ false
dash_fails os n [] all is e = cc
dash_fails os n (o ∷ rows) all is e =
    let parts = and_parts (not (o.allows dash)) (list_all (λ x. not (x.allows dash)) rows) all in
    by (bytes_eq o.name n) refl is (not-true (o.allows dash) parts.0)
    (λ more. dash_fails os n rows parts.1 more e)
  where
    rest : Bool
    rest = list_all (holds (value_in os)) rows

    by : (b : Bool) → bytes_eq o.name n ≡ b → (b || is_in n (map (λ x. x.name) rows)) ≡ true
        → o.allows dash ≡ false
        → (is_in n (map (λ x. x.name) rows) ≡ true → rest ≡ false) → (holds (value_in os) o && rest) ≡ false
    by true same is refused next =
        let value : value_in os o.name ≡ Some dash = ap (value_in os) (same_text o.name n same) ∙ e in
        ap (λ v. option_map_or o.allows v true && rest) value ∙ ap (λ b. b && rest) refused
    by false same is refused next = rw (next is) (and-false (holds (value_in os) o))

does_not_hold : (os : List Given) (n : Text) → is_in n value_names ≡ true → value_in os n ≡ Some dash
    → all_hold (value_in os) ≡ false
does_not_hold os n is e = dash_fails os n options options_refuse_dash is e

no_job_with_dash : (os : List Given) (plain : List Text) → HasDash os → job_by os plain ≡ None
no_job_with_dash os plain is = by (is_well_given value_names os) refl
  where
    by : (b : Bool) → is_well_given value_names os ≡ b
        → cond (is_well_given value_names os) (job_of_values (value_in os) (is_given os no_merge) plain) None
        ≡ None
    by false e = rw e refl
    by true e =
        let parts = and_parts (list_all (is_valued value_names) os) (is_once os) e in
        let found = dash_value os parts.0 parts.1 is in
        rw (e, does_not_hold os found.0 found.1.0 found.1.1) refl

-- options that are not well given have no job
pub not_well_given : (os : List Given) (plain : List Text) → is_well_given value_names os ≡ false
    → job_by os plain ≡ None
not_well_given os plain bad = rw bad refl

no_job_without_value : (os : List Given) (plain : List Text) → LacksValue os → job_by os plain ≡ None
no_job_without_value os plain is = rw is refl

-- the job, with a lone dash for a value
pub job_is : (words : List Text) → job_by (options_of may_be words) (plain_of may_be words) ≡ job_of words
job_is words = by (alike [] (before_first ends_options words))
  where
    by : Alike [] (before_first ends_options words) → job_by (options_of may_be words) (plain_of may_be words)
        ≡ job_of words
    by (inl same) = λ i. job_by (same.0 i) (same.1 i ++ after_first ends_options words)
    by (inr wrong) = no_job_with_dash (options_of may_be words) (plain_of may_be words) wrong.0
        ∙ sym (no_job_without_value (options_of may_be_value words) (plain_of may_be_value words) wrong.1)
