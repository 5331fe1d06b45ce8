-- The uses that `clap` makes of the words are those of their options and plain words.
use Rattle.std.proofs.Common.{◌≡◌, ◌∙◌, ◌&&◌, ◌||◌, ◌⊎◌, inl, inr, Bool, cond, codes, true, false, not, refl, sym, ap}
use Rattle.std.proofs.Common.{ap₂, subst, List, [], ◌∷◌, ◌++◌, Option, Some, None, is_some, append-nil, append_assoc}
use Rattle.std.proofs.Common.{true≢false}
use Rattle.std.proofs.lemmas.Bool.{and_parts, not-true}
use Rattle.std.specs.List.{list_all, list_any, before_first, after_first}
use Rattle.std.specs.Str.{bytes_eq}
use Rattle.clap.specs.Faults.{repeat_fault, use_fault}
use Rattle.clap.specs.Walk.{Row, Rule, Text, arg_by_long, has_row, used, with_values, without}
use Rattle.clap.specs.declared.builder.value_parser.Reading.{Reading}
use Rattle.clap.specs.declared.builder.value_parser.Reading.TheVariants.{AsWritten}
use Rattle.clap.specs.declared.parser.matches.ValueSource.TheVariants.{CommandLine}
use Rattle.dp_words.specs.Line.{Given, attached_value, dashed, ends_options, is_equals, is_flag, is_named, is_once}
use Rattle.dp_words.specs.Line.{is_option, is_valued, name_of, next_value, options_in, options_of, plain_after}
use Rattle.dp_words.specs.Line.{takes_next, value_of}
use Rattle.dp_words.proofs.Cuts.{before_here, before_next, after_here, after_next}
use Rattle.dp_words.proofs.Rows.{any_after, if_id, same_text, text_same, values_after, values_at, without_none}
use Rattle.dp_words.specs.Command.{flag_id, may_be, plain_id}
use Rattle.dp_words.proofs.Rules.{AreApart, apart, by_long_is, built_flag, found_long, is_in, built_option, rules}
use Rattle.dp_words.proofs.WordKinds.{WordKind, kind_end, kind_long, kind_short, kind_plain, view_of}
use Rattle.dp_words.proofs.Walks.{Use, given, or_else_nil, plain_uses, refused, uses_by, uses_of_rule, built_plain}
use Rattle.dp_words.proofs.Walks.{run, sort_is, sort_of_view, uses}

-- the text of an option that was given, that of a flag being `true`
abbrev pub text_of : Option Text → Text
text_of (Some v) = v
text_of None = codes "true"

-- the texts of the option with this name
abbrev pub given_to : Text → List Given → List Text
given_to n [] = []
given_to n (o ∷ os) = cond (bytes_eq o.0 (dashed n)) (text_of o.1 ∷ given_to n os) (given_to n os)

-- a row is that of the option
abbrev pub is_row_of : Text → Text → Bool
is_row_of m id = bytes_eq (dashed id) m && not (bytes_eq id plain_id)

-- some row is that of the option
abbrev pub option_has_row : Text → List Row → Bool
option_has_row m rows = list_any (λ r. is_row_of m r.id) rows

-- no option has a row yet
abbrev pub none_has_row : List Row → List Given → Bool
none_has_row rows os = list_all (λ o. not (option_has_row o.0 rows)) os

-- the words before `--`
abbrev pub before_end : List Text → List Text
before_end words = before_first ends_options words

-- the plain words, after the word `before`
abbrev pub plain_words : Text → List Text → List Text
plain_words before words = plain_after may_be before (before_end words) ++ after_first ends_options words

-- the values of each id, after the options and the plain words
abbrev pub HaveValues : List Row → List Given → List Text → List Row → Type 0
HaveValues rows os ps after =
    ((m : Text) → bytes_eq m plain_id ≡ false → values_at m after ≡ values_at m rows ++ given_to m os)
    × (values_at plain_id after ≡ values_at plain_id rows ++ ps)

-- the options, as `clap` splits the words
abbrev pub given_options : List Text → List Given
given_options words = options_of may_be words

-- what each word is
abbrev pub HaveKinds : List Text → Type 0
HaveKinds [] = Unit {0}
HaveKinds (word ∷ rest) = WordKind word × HaveKinds rest

module _ (ns : List Text) (all : AreApart ns) where
  -- the options are well given, and none has a row yet
  abbrev pub may_follow : List Row → List Given → Bool
  may_follow rows os = list_all (is_valued ns) os && (is_once os && none_has_row rows os)

  -- the uses pass exactly where the options are well given and none has a row, and give their values
  abbrev pub Agree : List Row → List Use → List Given → List Text → Type 0
  Agree rows us os ps = ((may_follow rows os ≡ false) × (run rows us ≡ None))
      ⊎ ((may_follow rows os ≡ true)
      × ((after : List Row) × ((run rows us ≡ Some after) × HaveValues rows os ps after)))

  -- a word that is refused
  refused_agrees : (rows : List Row) (us : List Use) (o : Given) (os : List Given) (ps : List Text)
      → is_valued ns o ≡ false → run rows us ≡ None → Agree rows us (o ∷ os) ps
  refused_agrees rows us o os ps bad none = inl (rw bad refl, none)

  -- ---- one more option

  -- one option more has a row
  none_more : (rows after : List Row) (n : Text) (os : List Given)
      → ((m : Text) → option_has_row m after ≡ (option_has_row m rows || bytes_eq n m))
      → none_has_row after os ≡ (not (list_any (λ p. bytes_eq n p.0) os) && none_has_row rows os)
  none_more rows after n [] more = refl
  none_more rows after n (o ∷ os) more =
      rw (more o.0, none_more rows after n os more)
      (by (option_has_row o.0 rows) (bytes_eq n o.0) (list_any (λ p. bytes_eq n p.0) os) (none_has_row rows os))
    where
      by : (a b d e : Bool) → (not (a || b) && (not d && e)) ≡ (not (b || d) && (not a && e))
      by true true d e = refl
      by true false true e = refl
      by true false false e = refl
      by false true d e = refl
      by false false d e = refl

  may_follow-more : (rows after : List Row) (o : Given) (os : List Given)
      → ((m : Text) → option_has_row m after ≡ (option_has_row m rows || bytes_eq o.0 m))
      → is_valued ns o ≡ true
      → option_has_row o.0 rows ≡ false
      → may_follow rows (o ∷ os) ≡ may_follow after os
  may_follow-more rows after o os more valued new =
      rw (valued, new, none_more rows after o.0 os more)
      (by (list_all (is_valued ns) os) (list_any (λ p. bytes_eq o.0 p.0) os) (is_once os)
      (none_has_row rows os))
    where
      by : (v a u e : Bool) → (v && ((not a && u) && e)) ≡ (v && (u && (not a && e)))
      by false a u e = refl
      by true true true e = refl
      by true true false e = refl
      by true false u e = refl

  may_follow-again : (rows : List Row) (o : Given) (os : List Given) → option_has_row o.0 rows ≡ true
      → may_follow rows (o ∷ os) ≡ false
  may_follow-again rows o os again =
      rw again (by (is_valued ns o && list_all (is_valued ns) os)
      (not (list_any (λ p. bytes_eq o.0 p.0) os) && is_once os))
    where
      by : (a b : Bool) → (a && (b && false)) ≡ false
      by true true = refl
      by true false = refl
      by false b = refl

  have_values-more : (rows after end : List Row) (n : Text) (v : Option Text) (os : List Given) (ps : List Text)
      → bytes_eq n plain_id ≡ false
      → ((m : Text) → values_at m after ≡ values_at m rows ++ if_id n m (text_of v ∷ []))
      → HaveValues after os ps end
      → HaveValues rows ((dashed n, v) ∷ os) ps end
  have_values-more rows after end n v os ps other more have =
      (λ m is. have.0 m is ∙ ap (λ xs. xs ++ given_to m os) (more m) ∙ by m (bytes_eq n m), plain)
    where
      by : (m : Text) (b : Bool) → (values_at m rows ++ cond b (text_of v ∷ []) []) ++ given_to m os
          ≡ values_at m rows ++ cond b (text_of v ∷ given_to m os) (given_to m os)
      by m true = append_assoc (values_at m rows) (text_of v ∷ []) (given_to m os)
      by m false = append_assoc (values_at m rows) [] (given_to m os)

      plain : values_at plain_id end ≡ values_at plain_id rows ++ ps
      plain = have.1 ∙ ap (λ xs. xs ++ ps)
          (more plain_id ∙ ap (λ b. values_at plain_id rows ++ cond b (text_of v ∷ []) []) other
          ∙ append-nil (values_at plain_id rows))

  -- the option has a row exactly where its id has one
  option_has_row-id : (n : Text) (rows : List Row) → bytes_eq n plain_id ≡ false
      → option_has_row (dashed n) rows ≡ has_row n rows
  option_has_row-id n [] other = refl
  option_has_row-id n (r ∷ rs) other = ap₂ (λ a b. a || b) (by (bytes_eq r.id n) refl)
      (option_has_row-id n rs other)
    where
      by : (b : Bool) → bytes_eq r.id n ≡ b → (b && not (bytes_eq r.id plain_id)) ≡ b
      by true e = ap (λ x. not (bytes_eq x plain_id)) (same_text r.id n e) ∙ ap not other
      by false e = refl

  option_has_row-after : (n : Text) (how : Reading) (ts : List Text) (rows : List Row)
      → bytes_eq n plain_id ≡ false
      → (m : Text)
      → option_has_row m (with_values n how CommandLine ts rows)
      ≡ (option_has_row m rows || bytes_eq (dashed n) m)
  option_has_row-after n how ts rows other m =
      any_after (is_row_of m) n how CommandLine ts rows
      ∙ rw other (ap (λ b. option_has_row m rows || b) (by (bytes_eq (dashed n) m)))
    where
      by : (b : Bool) → (b && true) ≡ b
      by true = refl
      by false = refl

  -- a use of an option, or of the flag
  use_agrees : (rows : List Row) (a : Rule) (values : List Text) (us : List Use) (n : Text) (how : Reading)
      (v : Option Text) (os : List Given) (ps : List Text)
      → bytes_eq n plain_id ≡ false → is_valued ns (dashed n, v) ≡ true
      → use_fault false a values rows ≡ repeat_fault false n rows
      → used a values rows ≡ with_values n how CommandLine (text_of v ∷ []) (without n rows)
      → ((after : List Row) → Agree after us os ps) → Agree rows (given a values ∷ us) ((dashed n, v) ∷ os) ps
  use_agrees rows a values us n how v os ps other valued fault row next = by (has_row n rows) refl
    where
      after : List Row
      after = with_values n how CommandLine (text_of v ∷ []) rows

      passed : has_row n rows ≡ false → Agree after us os ps
          → Agree rows (given a values ∷ us) ((dashed n, v) ∷ os) ps
      passed new good =
          let fresh : option_has_row (dashed n) rows ≡ false = option_has_row-id n rows other ∙ new in
          let same : may_follow rows ((dashed n, v) ∷ os) ≡ may_follow after os =
          may_follow-more rows after (dashed n, v) os (option_has_row-after n how (text_of v ∷ [])
          rows other) valued
          fresh in
          let rows_are : used a values rows ≡ after =
          row ∙ ap (with_values n how CommandLine (text_of v ∷ [])) (without_none n rows new) in
          let runs : run rows (given a values ∷ us) ≡ run after us = rw (fault, new, rows_are) refl in
          elim good [
            | inl g ↦ inl (same ∙ g.0, runs ∙ g.1)
            | inr g ↦ inr (
              same ∙ g.0,
              (
                g.1.0,
                (
                  runs ∙ g.1.1.0,
                  have_values-more rows after g.1.0 n v os ps other
                      (λ m. values_after n m how CommandLine (text_of v ∷ []) rows) g.1.1.1,
                ),
              ),
            )
          ]

      by : (b : Bool) → has_row n rows ≡ b → Agree rows (given a values ∷ us) ((dashed n, v) ∷ os) ps
      by true again = inl (
        may_follow-again rows (dashed n, v) os (option_has_row-id n rows other ∙ again),
        rw (fault, again) refl,
      )
      by false new = passed new (next after)

  -- ---- one more plain word

  option_has_row-plain : (rows : List Row) (how : Reading) (word m : Text)
      → option_has_row m (with_values plain_id how CommandLine (word ∷ []) rows) ≡ option_has_row m rows
  option_has_row-plain rows how word m = any_after (is_row_of m) plain_id how CommandLine (word ∷ []) rows
      ∙ by (bytes_eq (dashed plain_id) m) (option_has_row m rows)
    where
      by : (b h : Bool) → (h || (b && false)) ≡ h
      by true true = refl
      by true false = refl
      by false true = refl
      by false false = refl

  -- a use of the plain words
  plain_agrees : (rows : List Row) (word : Text) (us : List Use) (os : List Given) (ps : List Text)
      → ((after : List Row) → Agree after us os ps)
      → Agree rows (given built_plain (word ∷ []) ∷ us) os (word ∷ ps)
  plain_agrees rows word us os ps next = by (next after)
    where
      after : List Row
      after = with_values plain_id AsWritten CommandLine (word ∷ []) rows

      same : may_follow rows os ≡ may_follow after os
      same = λ i. list_all (is_valued ns) os
          && (is_once os && list_all (λ o. not (sym (option_has_row-plain rows AsWritten word o.0) i)) os)

      have : (end : List Row) → HaveValues after os ps end → HaveValues rows os (word ∷ ps) end
      have end l = (
        λ m is. l.0 m is ∙ ap (λ xs. xs ++ given_to m os)
            (values_after plain_id m AsWritten CommandLine (word ∷ []) rows
            ∙ ap (λ b. values_at m rows ++ cond b (word ∷ []) []) (other m is) ∙ append-nil (values_at m rows)),
        l.1 ∙ ap (λ xs. xs ++ ps) (values_after plain_id plain_id AsWritten CommandLine (word ∷ []) rows)
            ∙ append_assoc (values_at plain_id rows) (word ∷ []) ps,
      )
        where
          other : (m : Text) → bytes_eq m plain_id ≡ false → bytes_eq plain_id m ≡ false
          other m is = elim (bytes_eq plain_id m) as (λ b. bytes_eq plain_id m ≡ b → b ≡ false) [
            | true ↦ λ e. absurd (true≢false (sym (text_same m plain_id (sym (same_text plain_id m e))) ∙ is))
            | false ↦ λ e. refl
          ] refl

      by : Agree after us os ps → Agree rows (given built_plain (word ∷ []) ∷ us) os (word ∷ ps)
      by (inl g) = inl (same ∙ g.0, g.1)
      by (inr g) = inr (same ∙ g.0, (g.1.0, (g.1.1.0, have g.1.0 g.1.1.1)))

  -- the words after `--`
  rest_agrees : (words : List Text) (rows : List Row)
      → Agree rows (plain_uses words) [] words
  rest_agrees [] rows = inr (
    refl,
    (
      rows,
      (
        refl,
        (λ m is. sym (append-nil (values_at m rows)), sym (append-nil (values_at plain_id rows))),
      ),
    ),
  )
  rest_agrees (word ∷ rest) rows =
      plain_agrees rows word (plain_uses rest) [] rest (λ after. rest_agrees rest after)

  -- ---- all words

  -- the uses of the words agree with their options and plain words: where nothing waits for a value, and
  -- where an option does
  abbrev Free : List Text → Type 0
  Free words = (before : Text) (rows : List Row) → takes_next before ≡ false
      → Agree rows (uses (rules ns) words None) (given_options words) (plain_words before words)

  abbrev Wait : List Text → Type 0
  Wait words = (before n : Text) (rows : List Row) → takes_next before ≡ true → is_in n ns ≡ true
      → Agree rows (uses (rules ns) words (Some (built_option n)))
      ((dashed n, next_value may_be (before_end words)) ∷ given_options words) (plain_words before words)

  -- the names of options are apart from those of the flag and of the plain words
  pub not_plain : (n : Text) → is_in n ns ≡ true → bytes_eq n plain_id ≡ false
  not_plain n is = not-true (bytes_eq n plain_id)
      (and_parts (not (bytes_eq n plain_id)) (not (bytes_eq flag_id n)) (apart ns n all is)).0

  pub not_flag : (n : Text) → is_in n ns ≡ true → bytes_eq flag_id n ≡ false
  not_flag n is = not-true (bytes_eq flag_id n)
      (and_parts (not (bytes_eq n plain_id)) (not (bytes_eq flag_id n)) (apart ns n all is)).1

  option_valued : (n v : Text) → is_in n ns ≡ true → is_valued ns (dashed n, Some v) ≡ true
  option_valued n v is = rw (not_flag n is, is) refl

  without_value : (n : Text) → is_in n ns ≡ true → is_valued ns (dashed n, None) ≡ false
  without_value n is = rw (not_flag n is, is) refl

  unknown : (name : Text) (v : Option Text) → is_in name ns ≡ false → bytes_eq flag_id name ≡ false
      → is_valued ns (dashed name, v) ≡ false
  unknown name v named flag = rw (flag, named) refl

  -- an option without its value
  value_missing : (rows : List Row) (n : Text) (us : List Use) (os : List Given) (ps : List Text)
      (v : Option Text)
      → v ≡ None
      → is_in n ns ≡ true
      → Agree rows (given (built_option n) [] ∷ us) ((dashed n, v) ∷ os) ps
  value_missing rows n us os ps v none is =
      refused_agrees rows (given (built_option n) [] ∷ us) (dashed n, v) os ps
      (ap (λ x. is_valued ns (dashed n, x)) none ∙ without_value n is) refl

  -- an option with its value
  with_value : (rows : List Row) (n v : Text) (us : List Use) (os : List Given) (ps : List Text)
      → is_in n ns ≡ true
      → ((after : List Row) → Agree after us os ps)
      → Agree rows (given (built_option n) (v ∷ []) ∷ us) ((dashed n, Some v) ∷ os) ps
  with_value rows n v us os ps is next =
      use_agrees rows (built_option n) (v ∷ []) us n AsWritten (Some v) os ps (not_plain n is)
      (option_valued n v is)
      (or_else_nil (repeat_fault false n rows)) refl next

  -- the option without a value
  with_flag : (rows : List Row) (us : List Use) (os : List Given) (ps : List Text)
      → ((after : List Row) → Agree after us os ps)
      → Agree rows (given built_flag [] ∷ us) ((dashed flag_id, None) ∷ os) ps
  with_flag rows us os ps next =
      use_agrees rows built_flag [] us flag_id AsWritten None os ps refl refl
      (or_else_nil (repeat_fault false flag_id rows)) refl next

  given_options-option : (word : Text) (rest : List Text) → ends_options word ≡ false → is_option word ≡ true
      → given_options (word ∷ rest) ≡ (name_of word, value_of may_be word (before_end rest)) ∷ given_options
      rest
  given_options-option word rest e is = ap (options_in may_be) (before_next ends_options word rest e)
      ∙ rw is refl

  given_options-plain : (word : Text) (rest : List Text) → ends_options word ≡ false → is_option word ≡ false
      → given_options (word ∷ rest) ≡ given_options rest
  given_options-plain word rest e is = ap (options_in may_be) (before_next ends_options word rest e)
      ∙ rw is refl

  plain_words-option : (before word : Text) (rest : List Text) → ends_options word ≡ false
      → is_option word ≡ true
      → plain_words before (word ∷ rest) ≡ plain_words word rest
  plain_words-option before word rest e is =
      ap₂ (λ a b. plain_after may_be before a ++ b) (before_next ends_options word rest e)
      (after_next ends_options word rest e) ∙ rw is refl

  plain_words-plain : (before word : Text) (rest : List Text) → ends_options word ≡ false
      → is_option word ≡ false
      → takes_next before ≡ false
      → plain_words before (word ∷ rest) ≡ word ∷ plain_words word rest
  plain_words-plain before word rest e is takes =
      ap₂ (λ a b. plain_after may_be before a ++ b) (before_next ends_options word rest e)
      (after_next ends_options word rest e) ∙ rw (is, takes) refl

  plain_words-value : (before word : Text) (rest : List Text) → ends_options word ≡ false
      → is_option word ≡ false
      → takes_next before ≡ true
      → plain_words before (word ∷ rest) ≡ plain_words word rest
  plain_words-value before word rest e is takes =
      ap₂ (λ a b. plain_after may_be before a ++ b) (before_next ends_options word rest e)
      (after_next ends_options word rest e) ∙ rw (is, takes) refl

  agree_as : (rows : List Row) (us : List Use) (os os₂ : List Given) (ps ps₂ : List Text) → os ≡ os₂ → ps ≡ ps₂
      → Agree rows us os₂ ps₂ → Agree rows us os ps
  agree_as rows us os os₂ ps ps₂ same_os same_ps good =
      subst (λ x. Agree rows us x ps) (sym same_os) (subst (Agree rows us os₂) (sym same_ps) good)

  -- whether a word has `=`
  attached_some : (word v : Text) → attached_value word ≡ Some v → list_any is_equals word ≡ true
  attached_some word v e = by (list_any is_equals word) e
    where
      by : (b : Bool) → cond b (Some (after_first is_equals word)) None ≡ Some v → b ≡ true
      by true e = refl
      by false e = cc

  attached_none : (word : Text) → attached_value word ≡ None → list_any is_equals word ≡ false
  attached_none word e = by (list_any is_equals word) e
    where
      by : (b : Bool) → cond b (Some (after_first is_equals word)) None ≡ None → b ≡ false
      by true e = cc
      by false e = refl

  -- a long flag, where no option waits
  long_agrees : (word name : Text) (v : Option Text) (rest : List Text) (rows : List Row)
      → is_option word ≡ true
      → name_of word ≡ dashed name → attached_value word ≡ v
      → Free rest → Wait rest
      → Agree rows (uses_of_rule (rules ns) (arg_by_long (rules ns) name) v (uses (rules ns) rest None)
      (λ a. uses (rules ns) rest (Some a)))
      ((name_of word, value_of may_be word (before_end rest)) ∷ given_options rest) (plain_words word rest)
  long_agrees word name v rest rows is named attached free wait =
      by (is_in name ns) (bytes_eq flag_id name) v refl refl attached
    where
      os : List Given
      os = given_options rest

      ps : List Text
      ps = plain_words word rest

      flagged : is_flag (name_of word) ≡ bytes_eq flag_id name
      flagged = ap is_flag named

      by : (b f : Bool) (u : Option Text) → is_in name ns ≡ b → bytes_eq flag_id name ≡ f
          → attached_value word ≡ u
          → Agree rows (uses_of_rule (rules ns) (arg_by_long (rules ns) name) u (uses (rules ns) rest None)
          (λ a. uses (rules ns) rest (Some a)))
          ((name_of word, value_of may_be word (before_end rest)) ∷ given_options rest) (plain_words word rest)
      by true f (Some x) named_is flag_is value =
          let equals = attached_some word x value in
          let takes : takes_next word ≡ false = rw (is, equals) refl in
          let found = by_long_is ns name in
          rw (found, named_is, takes, value, named)
          (with_value rows name x (uses (rules ns) rest None) os ps named_is (λ after. free word after takes))
      by true f None named_is flag_is value =
          let equals = attached_none word value in
          let takes : takes_next word ≡ true = rw (is, equals, flagged, not_flag name named_is) refl in
          let found = by_long_is ns name in
          rw (found, named_is, takes, named) (wait word name rows takes named_is)
      by false true (Some x) named_is flag_is value =
          let equals = attached_some word x value in
          let takes : takes_next word ≡ false = rw (is, equals) refl in
          let found = by_long_is ns name in
          rw (found, named_is, flag_is, takes, value, named)
          (refused_agrees rows (refused ∷ uses (rules ns) rest None) (dashed name, Some x) os ps
          (rw flag_is refl)
          refl)
      by false true None named_is flag_is value =
          let equals = attached_none word value in
          let takes : takes_next word ≡ false = rw (is, equals, flagged, flag_is) refl in
          let found = by_long_is ns name in
          rw (found, named_is, flag_is, takes, value, named)
          (subst (λ m. Agree rows (given built_flag [] ∷ uses (rules ns) rest None) ((dashed m, None) ∷ os) ps)
          (same_text flag_id name flag_is)
          (with_flag rows (uses (rules ns) rest None) os ps (λ after. free word after takes)))
      by false false u named_is flag_is value =
          let v₂ = value_of may_be word (before_end rest) in
          let found : arg_by_long (rules ns) name ≡ None =
          by_long_is ns name ∙ (λ i. found_long (named_is i) (flag_is i) name) in
          subst (λ o. Agree rows
          (uses_of_rule (rules ns) o u (uses (rules ns) rest None) (λ a. uses (rules ns) rest (Some a)))
          ((name_of word, v₂) ∷ os) ps) (sym found)
          (refused_agrees rows (refused ∷ uses (rules ns) rest None) (name_of word, v₂) os ps
          (ap (λ m. is_valued ns (m, v₂)) named ∙ unknown name v₂ named_is flag_is) refl)

  -- short flags
  short_unknown : (names : List Text) (word : Text) (v : Option Text)
      → ((name : Text) → bytes_eq (dashed name) (name_of word) ≡ false)
      → is_valued names (name_of word, v) ≡ false
  short_unknown names word v none = rw (none flag_id) (by names)
    where
      by : (xs : List Text) → (is_named xs (name_of word) && is_some v) ≡ false
      by [] = refl
      by (x ∷ xs) = rw (none x) (by xs)

  -- the first word
  first_free : (word : Text) (rest : List Text) (before : Text) (rows : List Row) (s : WordKind word)
      → takes_next before ≡ false → Free rest → Wait rest
      → Agree rows (uses_by (rules ns) (sort_of_view (view_of s)) None word rest (uses (rules ns) rest))
      (given_options (word ∷ rest)) (plain_words before (word ∷ rest))
  first_free word rest before rows (kind_end e) takes free wait =
      agree_as rows (plain_uses rest) (given_options (word ∷ rest)) []
      (plain_words before (word ∷ rest))
      rest
      (ap (options_in may_be) (before_here ends_options word rest e))
      (ap₂ (λ a b. plain_after may_be before a ++ b) (before_here ends_options word rest e)
      (after_here ends_options word rest e)) (rest_agrees rest rows)
  first_free word rest before rows (kind_long name v h is named attached) takes free wait =
      agree_as rows (uses_of_rule (rules ns) (arg_by_long (rules ns) name) v (uses (rules ns) rest None)
      (λ a. uses (rules ns) rest (Some a))) (given_options (word ∷ rest))
      ((name_of word, value_of may_be word (before_end rest)) ∷ given_options rest)
      (plain_words before (word ∷ rest))
      (plain_words word rest)
      (given_options-option word rest h.0 is) (plain_words-option before word rest h.0 is)
      (long_agrees word name v rest rows is named attached free wait)
  first_free word rest before rows (kind_short x flags y h first is none) takes free wait =
      let v₂ = value_of may_be word (before_end rest) in
      agree_as rows (refused ∷ uses (rules ns) rest None) (given_options (word ∷ rest))
      ((name_of word, v₂) ∷ given_options rest)
      (plain_words before (word ∷ rest)) (plain_words word rest)
      (given_options-option word rest h.0 is) (plain_words-option before word rest h.0 is)
      (refused_agrees rows (refused ∷ uses (rules ns) rest None) (name_of word, v₂) (given_options rest)
      (plain_words word rest)
      (short_unknown ns word v₂ none) refl)
  first_free word rest before rows (kind_plain h is) takes free wait =
      let none : takes_next word ≡ false = rw is refl in
      agree_as rows (given built_plain (word ∷ []) ∷ uses (rules ns) rest None) (given_options (word ∷ rest))
      (given_options rest)
      (plain_words before (word ∷ rest)) (word ∷ plain_words word rest)
      (given_options-plain word rest h.0 is) (plain_words-plain before word rest h.0 is takes)
      (plain_agrees rows word (uses (rules ns) rest None) (given_options rest) (plain_words word rest)
      (λ after. free word after none))

  next_none : (word : Text) (rest : List Text) → ends_options word ≡ false → is_option word ≡ true
      → next_value may_be (before_end (word ∷ rest)) ≡ None
  next_none word rest e is = ap (next_value may_be) (before_next ends_options word rest e) ∙ rw is refl

  -- the first word, where an option waits for it
  first_wait : (word : Text) (rest : List Text) (before n : Text) (rows : List Row) (s : WordKind word)
      → takes_next before ≡ true → is_in n ns ≡ true → Free rest → Wait rest
      → Agree rows (uses_by (rules ns) (sort_of_view (view_of s)) (Some (built_option n)) word rest
      (uses (rules ns) rest))
      ((dashed n, next_value may_be (before_end (word ∷ rest))) ∷ given_options (word ∷ rest))
      (plain_words before (word ∷ rest))
  first_wait word rest before n rows (kind_end e) takes named free wait =
      value_missing rows n (plain_uses rest) (given_options (word ∷ rest))
      (plain_words before (word ∷ rest))
      (next_value may_be (before_end (word ∷ rest))) (ap (next_value may_be)
      (before_here ends_options word rest e))
      named
  first_wait word rest before n rows (kind_long name v h is known attached) takes named free wait =
      value_missing rows n (uses_of_rule (rules ns) (arg_by_long (rules ns) name) v (uses (rules ns) rest None)
      (λ a. uses (rules ns) rest (Some a))) (given_options (word ∷ rest)) (plain_words before (word ∷ rest))
      (next_value may_be (before_end (word ∷ rest))) (next_none word rest h.0 is) named
  first_wait word rest before n rows (kind_short x flags y h first is none) takes named free wait =
      value_missing rows n (refused ∷ uses (rules ns) rest None) (given_options (word ∷ rest))
      (plain_words before (word ∷ rest))
      (next_value may_be (before_end (word ∷ rest))) (next_none word rest h.0 is) named
  first_wait word rest before n rows (kind_plain h is) takes named free wait =
      let none : takes_next word ≡ false = rw is refl in
      let value : next_value may_be (before_end (word ∷ rest)) ≡ Some word =
      ap (next_value may_be) (before_next ends_options word rest h.0) ∙ rw is refl in
      agree_as rows (given (built_option n) (word ∷ []) ∷ uses (rules ns) rest None)
      ((dashed n, next_value may_be (before_end (word ∷ rest))) ∷ given_options (word ∷ rest))
      ((dashed n, Some word) ∷ given_options rest)
      (plain_words before (word ∷ rest)) (plain_words word rest)
      (ap₂ (λ v os. (dashed n, v) ∷ os) value (given_options-plain word rest h.0 is))
      (plain_words-value before word rest h.0 is takes)
      (with_value rows n word (uses (rules ns) rest None) (given_options rest) (plain_words word rest) named
      (λ after. free word after none))

  all_agree : (words : List Text) → HaveKinds words → Free words × Wait words
  all_agree [] kinds = (
    λ before rows takes. rest_agrees [] rows,
    λ before n rows takes named. value_missing rows n [] [] [] None
        refl named,
  )
  all_agree (word ∷ rest) kinds =
      let next = all_agree rest kinds.1 in (
        λ before rows takes. subst
            (λ s. Agree rows (uses_by (rules ns) s None word rest (uses (rules ns) rest))
            (given_options (word ∷ rest))
            (plain_words before (word ∷ rest)))
            (sym (sort_is (view_of kinds.0))) (first_free word rest before rows kinds.0 takes next.0 next.1),
        λ before n rows takes named. subst
            (λ s. Agree rows (uses_by (rules ns) s (Some (built_option n)) word rest (uses (rules ns) rest))
            ((dashed n, next_value may_be (before_end (word ∷ rest))) ∷ given_options (word ∷ rest))
            (plain_words before (word ∷ rest)))
            (sym (sort_is (view_of kinds.0))) (first_wait word rest before n rows kinds.0 takes named next.0
            next.1),
      )

  -- the uses of the words
  pub uses_agree : (words : List Text) → HaveKinds words
      → Agree [] (uses (rules ns) words None) (given_options words) (plain_words [] words)
  uses_agree words kinds = (all_agree words kinds).0 [] [] refl
