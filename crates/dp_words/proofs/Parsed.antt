-- The parse of the command: it passes exactly where the options are well given, and finds their values.
use Rattle.std.proofs.Common.{◌≡◌, ◌∙◌, ◌&&◌, ◌||◌, Bool, cond, codes, true, false, not, refl, sym, ap, subst, List}
use Rattle.std.proofs.Common.{[], ◌∷◌, ◌++◌, Option, Some, None, is_some, ◌⊎◌, inl, inr, true≢false, append-nil}
use Rattle.std.proofs.Math.Bool.{and-false, or-true}
use Rattle.std.proofs.lemmas.Bool.{and_parts}
use Rattle.std.specs.Prelude.{fold, find, option_and_then, slice_get}
use Rattle.std.specs.Option.{option_map_or}
use Rattle.std.specs.List.{list_all, list_any}
use Rattle.std.specs.Str.{bytes_eq}
use Rattle.clap.specs.Kinds.{Kinds, or_else}
use Rattle.clap.specs.Takes.{is_given as is_used}
use Rattle.clap.specs.Walk.{Held, idle, rows_after, Row, Rule, Text, finished, has_row, nothing_held, settled, walk}
use Rattle.clap.specs.Walk.{walk_from, with_default, with_values}
use Rattle.clap.specs.Simple.{App, built, filled_from, names_of, entered, matches_of, new_shape}
use Rattle.clap.specs.Faults.{built_fault, check_fault, default_fault, defaults_fault, level_fault, entered_fault}
use Rattle.clap.specs.Faults.{fault_of, settle_fault, walk_fault}
use Rattle.clap.specs.declared.builder.value_parser.Reading.TheVariants.{AsWritten}
use Rattle.clap.specs.declared.parser.matches.ValueSource.TheVariants.{DefaultValue}
use Rattle.dp_words.specs.Line.{Given, dashed, given_as, is_flag, is_given, is_named, is_once, is_valued}
use Rattle.dp_words.specs.Line.{is_well_given, value_in}
use Rattle.dp_words.proofs.Rows.{same_text, values_after, values_at}
use Rattle.dp_words.specs.Command.{flag_id, flag_rule, option_rule, plain_id, plain_rule}
use Rattle.dp_words.proofs.Rules.{AreApart, is_in, built_flag, built_option, rules, table}
use Rattle.dp_words.proofs.Lines.{HaveKinds, HaveValues, Agree, given_to, none_has_row, may_follow, given_options}
use Rattle.dp_words.proofs.Lines.{not_flag, not_plain, plain_words, text_of, uses_agree}
use Rattle.dp_words.proofs.WordKinds.{view_of}
use Rattle.dp_words.proofs.Walks.{or_else_nil, Viewed, at, built_shape, if_passes, built_plain, run, end_rows, uses}
use Rattle.dp_words.proofs.Walks.{walk_is}

same_both : {X : Type 0} (b : Bool) (x : X) → cond b x x ≡ x
same_both true x = refl
same_both false x = refl

flag_passes : (rows : List Row) → default_fault rows built_flag ≡ []
flag_passes rows = same_both {X = Kinds} (has_row flag_id rows || false) []

plain_passes : (rows : List Row) → default_fault rows built_plain ≡ []
plain_passes rows = rw or-true refl

defaults_none : (ns : List Text) (rows : List Row) → defaults_fault rows (rules ns) ≡ []
unfolding defaults_fault
defaults_none [] rows = λ i. or_else (flag_passes rows i) (or_else
    (plain_passes (with_default rows built_flag) i) [])
defaults_none (n ∷ ns) rows = rw (or-true, same_both) (defaults_none ns rows)

finished_rows : (ns : List Text) (rows : List Row) → fold with_default rows (rules ns)
    ≡ with_default rows built_flag
finished_rows [] rows = same_both (has_row plain_id (with_default rows built_flag))
    (with_default rows built_flag)
finished_rows (n ∷ ns) rows = ap (λ x. fold with_default x (rules ns)) (same_both (has_row n rows) rows)
    ∙ finished_rows ns rows

none_required : (ns : List Text) (rows : List Row) → list_any (λ a. a.required && not (is_used a.id rows))
    (rules ns)
    ≡ false
none_required [] rows = refl
none_required (n ∷ ns) rows = none_required ns rows

check_none : (ns : List Text) (rows : List Row) → check_fault (built_shape (rules ns)) rows false ≡ []
check_none ns rows = rw (none_required ns rows) refl

-- ---- the command

abbrev pub options_app : List Text → List Rule
options_app [] = []
options_app (n ∷ ns) = option_rule n ∷ options_app ns

abbrev pub app : List Text → App
app ns = record {
  top = record (new_shape (codes "decplan")) {
    rules = (options_app ns ++ flag_rule ∷ [])
        ++ plain_rule ∷ [];
    no_binary_name = true;
    disable_help_flag = true;
  };
  subs = [];
}

abbrev pub built_app : List Text → App
built_app ns = record { top = built_shape (rules ns); subs = [] }

filled_is : (ns : List Text)
    → filled_from 1 ((options_app ns ++ flag_rule ∷ [])
    ++ plain_rule ∷ []) ≡ rules ns
filled_is [] = refl
filled_is (n ∷ ns) = ap (λ rs. built_option n ∷ rs) (filled_is ns)

pub built_is : (ns : List Text) → built (app ns) ≡ built_app ns
built_is ns = ap (λ rs. record { top = built_shape rs; subs = [] }) (filled_is ns)

none_entered : (ns : List Text) (stop : Option (Text × List Text)) → entered (built_app ns) stop ≡ None
none_entered ns None = refl
none_entered ns (Some p) = refl

none_below : (ns : List Text) (stop : Option (Text × List Text)) → entered_fault (built_app ns) stop ≡ []
none_below ns None = refl
none_below ns (Some p) = refl

abbrev walk_end : List Text → List Text → Held
walk_end ns words = (walk (rules ns) [] nothing_held words).held

fault_is : (ns words : List Text)
    → fault_of (app ns) words
    ≡ or_else (walk_fault (built_shape (rules ns)) [] (walk_from nothing_held) words)
    (settle_fault (rules ns) false (walk_end ns words))
fault_is ns words =
    let stop = (walk (rules ns) [] nothing_held words).stopped in
    let rows = (settled (rules ns) (walk_end ns words)).rows in
    let w = walk_fault (built_shape (rules ns)) [] (walk_from nothing_held) words in
    let s = settle_fault (rules ns) false (walk_end ns words) in
    ap (λ (a : App). built_fault a nothing_held words) (built_is ns)
    ∙ (λ i. level_fault (built_shape (rules ns)) [] nothing_held words (is_some (none_entered ns stop i))
    (none_below ns stop i))
    ∙ (λ i. or_else w (or_else s
    (or_else (defaults_none ns rows i) (check_none ns (finished (rules ns) (walk_end ns words)) i))))
    ∙ ap (or_else w) (or_else_nil s)

matches_are : (ns words : List Text)
    → matches_of (app ns) words ≡ with_default (settled (rules ns) (walk_end ns words)).rows built_flag
matches_are ns words = ap (λ (a : App). rows_after a.top.rules (names_of a) words) (built_is ns)
    ∙ finished_rows ns (settled (rules ns) (walk_end ns words)).rows

-- a fault, by the rows at the end
ends_none : {X : Type 0} (a b : Kinds) (x : X) → if_passes a (if_passes b (Some x)) ≡ None
    → (or_else a b ≡ []) → ⊥
ends_none [] [] x none passed = cc
ends_none [] (k ∷ ks) x none passed = cc
ends_none (k ∷ ks) b x none passed = cc

ends_some : {X : Type 0} (a b : Kinds) (x y : X) → if_passes a (if_passes b (Some x)) ≡ Some y
    → (or_else a b ≡ []) × (x ≡ y)
ends_some [] [] x y some = (refl, cc)
ends_some [] (k ∷ ks) x y some = cc
ends_some (k ∷ ks) b x y some = cc

-- ---- what is found

each_valued : (ns : List Text) (o : Given) (os : List Given) → list_all (is_valued ns) (o ∷ os) ≡ true
    → (is_valued ns o ≡ true) × (list_all (is_valued ns) os ≡ true)
each_valued ns o os h = and_parts (is_valued ns o) (list_all (is_valued ns) os) h

-- the first text of an option is its value
first_value_is : (ns : List Text) (n : Text) (os : List Given) → bytes_eq flag_id n ≡ false
    → list_all (is_valued ns) os ≡ true → slice_get (given_to n os) 0 ≡ value_in os n
first_value_is ns n [] other valued = refl
first_value_is ns n (o ∷ os) other valued =
    let h = each_valued ns o os valued in
    by (bytes_eq o.0 (dashed n)) refl o.1 h.0 (first_value_is ns n os other h.1)
  where
    by : (b : Bool) → bytes_eq o.0 (dashed n) ≡ b → (v : Option Text) → is_valued ns (o.0, v) ≡ true
        → slice_get (given_to n os) 0 ≡ value_in os n
        → slice_get (cond b (text_of v ∷ given_to n os) (given_to n os)) 0
        ≡ option_and_then (λ x. x.1) (cond b (Some (o.0, v)) (given_as n os))
    by true e (Some v) h next = refl
    by true e None h next =
        let flag : is_flag o.0 ≡ false = ap is_flag (same_text o.0 (dashed n) e) ∙ other in
        absurd (true≢false (sym h ∙ rw flag (and-false (is_named ns o.0))))
    by false e v h next = next

-- the text of the flag is `true` where it is given
first_flag_is : (ns : List Text) (os : List Given) → list_all (is_valued ns) os ≡ true
    → slice_get (given_to flag_id os) 0 ≡ cond (is_given os flag_id) (Some (codes "true")) None
first_flag_is ns [] valued = refl
first_flag_is ns (o ∷ os) valued =
    let h = each_valued ns o os valued in
    by (bytes_eq o.0 (dashed flag_id)) refl o.1 h.0 (first_flag_is ns os h.1)
  where
    by : (b : Bool) → bytes_eq o.0 (dashed flag_id) ≡ b → (v : Option Text) → is_valued ns (o.0, v) ≡ true
        → slice_get (given_to flag_id os) 0 ≡ cond (is_given os flag_id) (Some (codes "true")) None
        → slice_get (cond b (text_of v ∷ given_to flag_id os) (given_to flag_id os)) 0
        ≡ cond (is_some (cond b (Some (o.0, v)) (given_as flag_id os))) (Some (codes "true")) None
    by true e (Some v) h next =
        let flag : is_flag o.0 ≡ true = ap is_flag (same_text o.0 (dashed flag_id) e) in
        absurd (true≢false (sym h ∙ rw flag refl))
    by true e None h next = refl
    by false e v h next = next

-- the flag's row has its text, or that of its default where it is not given
abbrev FlagIs : List Text → List Given → Type 0
FlagIs texts os = (slice_get texts 0 ≡ Some (codes "true") → is_given os flag_id ≡ true)
    × (is_given os flag_id ≡ true → slice_get texts 0 ≡ Some (codes "true"))

no_values : (id : Text) (rows : List Row) → has_row id rows ≡ false → values_at id rows ≡ []
no_values id [] none = refl
no_values id (r ∷ rs) none = by (bytes_eq r.id id) none (no_values id rs)
  where
    by : (b : Bool) → (b || has_row id rs) ≡ false → (has_row id rs ≡ false → values_at id rs ≡ [])
        → option_map_or (λ (x : Row). x.values) (cond b (Some r) (find (λ x. bytes_eq x.id id) rs)) [] ≡ []
    by true none next = cc
    by false none next = next none

default_values : (rows : List Row) (n : Text) → bytes_eq flag_id n ≡ false
    → values_at n (with_default rows built_flag)
    ≡ values_at n rows
default_values rows n other = by (has_row flag_id rows)
  where
    by : (b : Bool) → values_at n (cond b rows (with_values flag_id AsWritten DefaultValue
        (codes "false" ∷ []) rows))
        ≡ values_at n rows
    by true = refl
    by false = values_after flag_id n AsWritten DefaultValue (codes "false" ∷ []) rows
        ∙ rw other (append-nil (values_at n rows))

flag_values : (ns : List Text) (rows : List Row) (os : List Given) → list_all (is_valued ns) os ≡ true
    → values_at flag_id rows ≡ given_to flag_id os
    → FlagIs (values_at flag_id (with_default rows built_flag)) os
flag_values ns rows os valued are = by (has_row flag_id rows) refl
  where
    first : slice_get (values_at flag_id rows) 0 ≡ cond (is_given os flag_id) (Some (codes "true")) None
    first = ap (λ (xs : List Text). slice_get xs 0) are ∙ first_flag_is ns os valued

    decided : (b : Bool) → slice_get (values_at flag_id rows) 0 ≡ cond b (Some (codes "true")) None
        → (slice_get (values_at flag_id rows) 0 ≡ Some (codes "true") → b ≡ true)
        × (b ≡ true → slice_get (values_at flag_id rows) 0 ≡ Some (codes "true"))
    decided true e = (λ h. refl, λ h. e)
    decided false e = (λ h. cc, λ h. cc)

    absent : (b : Bool) → ◌≡◌ {A = Option Text} None (cond b (Some (codes "true")) None) → b ≡ false
    absent true e = cc
    absent false e = refl

    by : (b : Bool) → has_row flag_id rows ≡ b
        → FlagIs (values_at flag_id
        (cond b rows (with_values flag_id AsWritten DefaultValue (codes "false" ∷ []) rows))) os
    by true has = decided (is_given os flag_id) first
    by false has =
        let none = no_values flag_id rows has in
        let not_given : is_given os flag_id ≡ false =
        absent (is_given os flag_id) (ap (λ (xs : List Text). slice_get xs 0) (sym none) ∙ first) in
        let text : values_at flag_id (with_values flag_id AsWritten DefaultValue (codes "false" ∷ []) rows)
        ≡ codes "false" ∷ [] =
        values_after flag_id flag_id AsWritten DefaultValue (codes "false" ∷ []) rows
        ∙ ap (λ (xs : List Text). xs ++ codes "false" ∷ []) none in
        let texts : slice_get
        (values_at flag_id (with_values flag_id AsWritten DefaultValue (codes "false" ∷ []) rows)) 0
        ≡ Some (codes "false") = ap (λ (xs : List Text). slice_get xs 0) text in
        (λ h. absurd (false_text (sym texts ∙ h)), λ h. absurd (true≢false (sym h ∙ not_given)))
      where
        false_text : Some (codes "false") ≡ Some (codes "true") → ⊥
        false_text e = cc

-- what the rows of a parse say of the words
pub record RowsTell (ns : List Text) (os : List Given) (ps : List Text) (rows : List Row) : Type 0 where
  pub well : is_well_given ns os ≡ true
  pub option : (n : Text) → is_in n ns ≡ true → slice_get (values_at n rows) 0 ≡ value_in os n
  pub flag : FlagIs (values_at flag_id rows) os
  pub plain : values_at plain_id rows ≡ ps

-- A parse of the words fails exactly where their options are not well given; and where it passes,
-- its rows tell them.
abbrev pub ParseIs : List Text → List Text → Type 0
ParseIs ns words = ((fault_of (app ns) words ≡ [] → ⊥) × (is_well_given ns (given_options words) ≡ false))
    ⊎ ((fault_of (app ns) words ≡ [])
    × RowsTell ns (given_options words) (plain_words [] words) (matches_of (app ns) words))

none_has_row-nil : (os : List Given) → none_has_row [] os ≡ true
none_has_row-nil [] = refl
none_has_row-nil (o ∷ os) = none_has_row-nil os

module _ (ns : List Text) (all : AreApart ns) where
  may_follow-nil : (os : List Given) → may_follow ns all [] os ≡ is_well_given ns os
  may_follow-nil os = ap (λ b. list_all (is_valued ns) os && (is_once os && b)) (none_has_row-nil os)
      ∙ ap (λ b. list_all (is_valued ns) os && b) (by (is_once os))
    where
      by : (b : Bool) → (b && true) ≡ b
      by true = refl
      by false = refl

  viewed : (words : List Text) → HaveKinds words → Viewed words
  viewed [] kinds = tt
  viewed (word ∷ rest) kinds = (view_of kinds.0, viewed rest kinds.1)

  end_rows-is : (words : List Text) → HaveKinds words
      → end_rows (rules ns) (at (rules ns) [] None idle false) words ≡ run [] (uses (rules ns) words None)
  end_rows-is words kinds = walk_is (rules ns) (table ns all) words (viewed words kinds)

  pub parse_is : (words : List Text) → HaveKinds words → ParseIs ns words
  parse_is words kinds = by (uses_agree ns all words kinds)
    where
      os : List Given
      os = given_options words

      walk_kinds : Kinds
      walk_kinds = walk_fault (built_shape (rules ns)) [] (walk_from nothing_held) words

      end_kinds : Kinds
      end_kinds = settle_fault (rules ns) false (walk_end ns words)

      rows_at_end : List Row
      rows_at_end = (settled (rules ns) (walk_end ns words)).rows

      fails : run [] (uses (rules ns) words None) ≡ None → fault_of (app ns) words ≡ [] → ⊥
      fails none passes =
          ends_none walk_kinds end_kinds rows_at_end (end_rows-is words kinds ∙ none)
          (sym (fault_is ns words) ∙ passes)

      tell : (after : List Row) → is_well_given ns os ≡ true → HaveValues [] os (plain_words [] words) after
          → RowsTell ns os (plain_words [] words) (with_default after built_flag)
      tell after well have =
          let valued = (and_parts (list_all (is_valued ns) os) (is_once os) well).0 in
          record {
            well = well;
            option = λ n is.
                let other = not_flag ns all n is in
                let values = default_values after n other ∙ have.0 n (not_plain ns all n is) in
                ap (λ (xs : List Text). slice_get xs 0) values ∙ first_value_is ns n os other valued;
            flag = flag_values ns after os valued (have.0 flag_id refl);
            plain = default_values after plain_id refl ∙ have.1;
          }

      by : Agree ns all [] (uses (rules ns) words None) os (plain_words [] words) → ParseIs ns words
      by (inl g) = inl (fails g.1, sym (may_follow-nil os) ∙ g.0)
      by (inr g) =
          let after = g.1.0 in
          let ended = ends_some walk_kinds end_kinds rows_at_end after (end_rows-is words kinds ∙ g.1.1.0) in
          let rows_are : matches_of (app ns) words ≡ with_default after built_flag =
          matches_are ns words ∙ ap (λ r. with_default r built_flag) ended.1 in
          let told = tell after (sym (may_follow-nil os) ∙ g.0) g.1.1.1 in
          inr (
            fault_is ns words ∙ ended.0,
            subst (RowsTell ns os (plain_words [] words)) (sym rows_are) told,
          )
