-- What `clap` makes of the words, as a list of uses of its arguments.
use Rattle.std.proofs.Common.{◌≡◌, ◌∙◌, ℕ, Bool, cond, codes, true, false, refl, sym, ap, List, [], ◌∷◌, ◌++◌, map}
use Rattle.std.proofs.Common.{Option, Some, None}
use Rattle.std.proofs.Math.Bool.{and-false}
use Rattle.std.specs.Prelude.{fold, slice_get}
use Rattle.std.specs.Option.{option_map_or}
use Rattle.std.specs.Str.{bytes_eq, chars}
use Rattle.std.proofs.lemmas.Slice.Eq.{bytes_eq-Decides}
use Rattle.clap.specs.Lexer.{long_of, short_of}
use Rattle.clap.specs.Kinds.{Kinds, or_else}
use Rattle.clap.specs.Walk.{Held, Row, Rule, Text, Waiting, Walk, idle, option, positional, value, arg_by_id}
use Rattle.clap.specs.Walk.{arg_by_index, arg_by_long, arg_by_short, after_step, most_values, settled, subcommand_met}
use Rattle.clap.specs.Walk.{takes_values, used, used_by_id, walked}
use Rattle.clap.specs.Simple.{Shape, new_shape, new_rule, filled, with_index}
use Rattle.clap.specs.Faults.{flags_fault, settle_fault, step_fault, turn_fault, use_fault, walk_fault}
use Rattle.clap.specs.declared.builder.action.ArgAction.TheVariants.{Append}
use Rattle.clap.specs.declared.error.kind.ErrorKind.{ErrorKind}
use Rattle.clap.specs.declared.error.kind.ErrorKind.TheVariants as kind

-- x, where no step fails
abbrev pub if_passes : {X : Type 0} → Kinds → Option X → Option X
if_passes [] x = x
if_passes (k ∷ ks) x = None

pub or_else_nil : (a : Kinds) → or_else a [] ≡ a
or_else_nil [] = refl
or_else_nil (k ∷ ks) = refl

passes_both : {X : Type 0} (a b : Kinds) (x : Option X) → if_passes (or_else a b) x
    ≡ if_passes a (if_passes b x)
passes_both [] b x = refl
passes_both (k ∷ ks) b x = refl

or_else_assoc : (a b d : Kinds) → or_else (or_else a b) d ≡ or_else a (or_else b d)
or_else_assoc [] b d = refl
or_else_assoc (k ∷ ks) b d = refl

-- a use of an argument with its values, or a word that is none
pub data Use : Type 0 where
  given : Rule → List Text → Use
  refused : Use

-- the rows after the uses in turn, where each passes
abbrev pub run : List Row → List Use → Option (List Row)
run rows [] = Some rows
run rows (refused ∷ us) = None
run rows (given a values ∷ us) = if_passes (use_fault false a values rows) (run (used a values rows) us)

-- the positional list, as it is built
abbrev pub built_plain : Rule
built_plain = with_index 1 (filled (record (new_rule (codes "words")) { action = Some Append }))

-- each word is plain
abbrev pub plain_uses : List Text → List Use
plain_uses words = map (λ v. given built_plain (v ∷ [])) words

-- what a word is for `clap`: `--`, a long flag with its name and what is joined to it, short flags,
-- or none of these
pub data Sort : Type 0 where
  ends : Sort
  named : Text → Option Text → Sort
  short : Sort
  plain : Sort

abbrev pub sort_short : Option Text → Sort
sort_short (Some flags) = short
sort_short None = plain

abbrev pub sort_long : Option (Text × Option Text) → Option Text → Sort
sort_long (Some p) flags = named p.0 p.1
sort_long None flags = sort_short flags

abbrev pub sort : Text → Sort
sort word = cond (bytes_eq word (45 ∷ 45 ∷ [])) ends (sort_long (long_of word) (short_of word))

-- a word that is a long flag
abbrev pub IsLong : Text → Text → Option Text → Type 0
IsLong word name v = (bytes_eq word (45 ∷ 45 ∷ []) ≡ false) × (long_of word ≡ Some (name, v))

-- a word that is short flags
abbrev pub IsShort : Text → ℕ → Text → Type 0
IsShort word x flags =
    (bytes_eq word (45 ∷ 45 ∷ []) ≡ false) × (long_of word ≡ None) × (short_of word ≡ Some (x ∷ flags))

-- a word that is no flag
abbrev pub IsPlainWord : Text → Type 0
IsPlainWord word = (bytes_eq word (45 ∷ 45 ∷ []) ≡ false) × (long_of word ≡ None) × (short_of word ≡ None)

-- a word with the proof of its sort; short flags have a first character
pub data View (word : Text) : Type 0 where
  an_end : bytes_eq word (45 ∷ 45 ∷ []) ≡ true → View word
  a_long : (name : Text) (v : Option Text) → IsLong word name v → View word
  a_short : (x : ℕ) (flags : Text) (y : ℕ) → IsShort word x flags → slice_get (chars (x ∷ flags)) 0 ≡ Some y
      → View word
  a_plain : IsPlainWord word → View word

-- every word is of some view
abbrev pub Viewed : List Text → Type 0
Viewed [] = Unit {0}
Viewed (word ∷ rest) = View word × Viewed rest

abbrev pub sort_of_view : {word : Text} → View word → Sort
sort_of_view (an_end e) = ends
sort_of_view (a_long name v is) = named name v
sort_of_view (a_short x flags y is first) = short
sort_of_view (a_plain is) = plain

pub sort_is : {word : Text} (v : View word) → sort word ≡ sort_of_view v
sort_is (an_end e) = rw e refl
sort_is (a_long name v is) = rw (is.0, is.1) refl
sort_is (a_short x flags y is first) = rw (is.0, is.1, is.2) refl
sort_is (a_plain is) = rw (is.0, is.1, is.2) refl

module _ (c : List Rule) where
  -- an option that waits in vain for its value
  abbrev pub uses_of_waiting : Option Rule → List Use
  uses_of_waiting None = []
  uses_of_waiting (Some a) = given a [] ∷ []

  -- the uses of a word with an option, before those of the words after it, `after`, or those of the
  -- words after it where it waits for its value, `waiting`
  abbrev pub uses_of_option : Rule → Option Text → List Use → List Use → List Use
  uses_of_option a (Some v) after waiting = given a (v ∷ []) ∷ after
  uses_of_option a None after waiting = waiting

  abbrev pub uses_of_flag : Rule → Option Text → List Use → List Use
  uses_of_flag a (Some v) after = refused ∷ after
  uses_of_flag a None after = given a [] ∷ after

  abbrev pub uses_of_rule : Option Rule → Option Text → List Use → (Rule → List Use) → List Use
  uses_of_rule None v after waiting = refused ∷ after
  uses_of_rule (Some a) v after waiting =
      cond (takes_values a) (uses_of_option a v after (waiting a)) (uses_of_flag a v after)

  -- a plain word, which an option that waits takes for its value
  abbrev pub uses_of_plain : Option Rule → Text → List Use → List Use
  uses_of_plain None word after = given built_plain (word ∷ []) ∷ after
  uses_of_plain (Some a) word after = given a (word ∷ []) ∷ after

  -- the uses of a word of that sort and of the rest, where an option waits or none does
  abbrev pub uses_by : Sort → Option Rule → Text → List Text → (Option Rule → List Use) → List Use
  uses_by ends w word rest next = uses_of_waiting w ++ plain_uses rest
  uses_by (named name v) w word rest next =
      uses_of_waiting w ++ uses_of_rule (arg_by_long c name) v (next None) (λ a. next (Some a))
  uses_by short w word rest next = uses_of_waiting w ++ refused ∷ next None
  uses_by plain w word rest next = uses_of_plain w word (next None)

  -- the uses that the words make, where an option waits for its value or none does
  abbrev pub uses : List Text → Option Rule → List Use
  uses [] w = uses_of_waiting w
  uses (word ∷ rest) w = uses_by (sort word) w word rest (uses rest)

  -- ---- the walk

  -- the command as it is built
  abbrev pub built_shape : Shape
  built_shape = record (new_shape (codes "decplan")) {
    rules = c;
    no_binary_name = true;
    disable_help_flag = true;
    disable_help_subcommand = true;
    is_built = true;
  }

  -- an argument that was met, by its id, and its values so far
  abbrev pub Pending : Type 0
  Pending = Option (Text × List Text)

  abbrev pub held_at : List Row → Pending → Held
  held_at rows p = record { rows = rows; pending = p; skip = 0 }

  -- the walk in the midst of the words; it is trailing after `--`
  abbrev pub at : List Row → Pending → Waiting → Bool → Walk
  at rows p waiting trailing =
      record { held = held_at rows p; waiting = waiting; position = 1; is_trailing = trailing; stopped = None }

  -- an option was met and waits for its value
  abbrev pub waits_for : List Row → Rule → Walk
  waits_for rows a = at rows (Some (a.id, [])) (option a.id) false

  -- what is pending is settled: the faults, and the rows after it
  abbrev pub settle_kinds : List Row → Pending → Kinds
  settle_kinds rows p = settle_fault c false (held_at rows p)

  abbrev pub settled_rows : List Row → Pending → List Row
  settled_rows rows p = (settled c (held_at rows p)).rows

  -- a plain word is pending until the next word is read
  abbrev pub plain_pending : Text → Pending
  plain_pending word = Some (codes "words", word ∷ [])

  abbrev pub end_of : Held → Option (List Row)
  end_of h = if_passes (settle_fault c false h) (Some (settled c h).rows)

  -- the rows at the end of a walk that passes
  abbrev pub end_rows : Walk → List Text → Option (List Row)
  end_rows w words = if_passes (walk_fault built_shape [] w words) (end_of (fold (walked c []) w words).held)

  -- one word more
  next_word : (w after : Walk) (word : Text) (rest : List Text) (k : Kinds)
      → turn_fault built_shape [] w word ≡ k
      → walked c [] w word ≡ after
      → end_rows w (word ∷ rest) ≡ if_passes k (end_rows after rest)
  unfolding walk_fault
  next_word w after word rest k turn is =
      (λ i. if_passes (or_else (turn i) (walk_fault built_shape [] (is i) rest))
      (end_of (fold (walked c []) (is i) rest).held))
      ∙ passes_both k (walk_fault built_shape [] after rest) (end_of (fold (walked c []) after rest).held)

  -- what is pending, as a use
  abbrev pub pending_uses_by : Option Rule → List Text → List Use
  pending_uses_by None values = []
  pending_uses_by (Some a) values = given a values ∷ []

  abbrev pub pending_uses : Pending → List Use
  pending_uses None = []
  pending_uses (Some p) = pending_uses_by (arg_by_id c p.0) p.1

  -- what is pending is settled before the uses that follow it
  settle_run : (rows : List Row) (p : Pending) (us : List Use)
      → if_passes (settle_kinds rows p) (run (settled_rows rows p) us)
      ≡ run rows (pending_uses p ++ us)
  settle_run rows None us = refl
  settle_run rows (Some q) us = go (arg_by_id c q.0)
    where
      go : (o : Option Rule)
          → if_passes (option_map_or (λ a. use_fault false a q.1 rows) o []) (run (used_by_id o q.1 rows) us)
          ≡ run rows (pending_uses_by o q.1 ++ us)
      go None = refl
      go (Some a) = refl

  no_subcommand : (waiting : Waiting) (word : Text) → subcommand_met [] waiting word ≡ None
  no_subcommand idle word = refl
  no_subcommand (option id) word = refl
  no_subcommand positional word = refl

  -- what the arguments are known to be
  pub record Table : Type 0 where
    pub by_index : arg_by_index c 1 ≡ Some built_plain
    pub plain_id : arg_by_id c (codes "words") ≡ Some built_plain
    pub by_short : (x : ℕ) → arg_by_short c x ≡ None
    pub by_long : (name : Text) (a : Rule) → arg_by_long c name ≡ Some a → takes_values a ≡ true
        → (arg_by_id c a.id ≡ Some a) × (most_values a ≡ 1)

  -- a value of the positional list
  value_fault : (t : Table) (rows : List Row) (p : Pending) → step_fault built_shape 1 (held_at rows p) value
      ≡ settle_kinds rows p
  value_fault t rows p = rw (t.by_index, and-false) refl

  value_walk : (t : Table) (rows : List Row) (p : Pending) (waiting : Waiting) (trailing : Bool) (word : Text)
      → after_step c word (at rows p waiting trailing) (held_at rows p) value
      ≡ at (settled_rows rows p) (plain_pending word) positional trailing
  value_walk t rows p waiting true word = rw (t.by_index, and-false) refl
  value_walk t rows p waiting false word = rw (t.by_index, and-false) refl

  -- after `--`
  pub trailing_is : (t : Table) (rows : List Row) (p : Pending) (waiting : Waiting) (words : List Text)
      → end_rows (at rows p waiting true) words
      ≡ run rows (pending_uses p ++ plain_uses words)
  unfolding walk_fault walked
  trailing_is t rows p waiting [] = settle_run rows p []
  trailing_is t rows p waiting (word ∷ rest) =
      next_word (at rows p waiting true)
      (at (settled_rows rows p) (plain_pending word) positional true) word rest
      (settle_kinds rows p) (value_fault t rows p) (value_walk t rows p waiting true word)
      ∙ ap (if_passes (settle_kinds rows p))
      (trailing_is t (settled_rows rows p) (plain_pending word) positional rest
      ∙ ap (λ o. run (settled_rows rows p)
      (pending_uses_by o (word ∷ []) ++ plain_uses rest)) t.plain_id)
      ∙ settle_run rows p (given built_plain (word ∷ []) ∷ plain_uses rest)

  -- a word that is `--`
  ends_turn : (rows : List Row) (p : Pending) (waiting : Waiting) (word : Text)
      → bytes_eq word (45 ∷ 45 ∷ []) ≡ true
      → turn_fault built_shape [] (at rows p waiting false) word ≡ []
  ends_turn rows p waiting word is = rw (no_subcommand waiting word, is) refl

  ends_walk : (rows : List Row) (p : Pending) (waiting : Waiting) (word : Text)
      → bytes_eq word (45 ∷ 45 ∷ []) ≡ true
      → walked c [] (at rows p waiting false) word ≡ at rows p waiting true
  unfolding walked
  ends_walk rows p waiting word is = rw (no_subcommand waiting word, is) refl

  -- an option with a joined value
  value_turn : (rows : List Row) (p : Pending) (waiting : Waiting) (word name v : Text) (a : Rule)
      → IsLong word name (Some v) → arg_by_long c name ≡ Some a
      → takes_values a ≡ true
      → turn_fault built_shape [] (at rows p waiting false) word
      ≡ or_else (settle_kinds rows p) (use_fault false a (v ∷ []) (settled_rows rows p))
  value_turn rows p waiting word name v a is found takes =
      rw (no_subcommand waiting word, is.0, is.1, found, takes) (or_else_nil _)

  value_after : (rows : List Row) (p : Pending) (waiting : Waiting) (word name v : Text) (a : Rule)
      → IsLong word name (Some v) → arg_by_long c name ≡ Some a
      → takes_values a ≡ true
      → walked c [] (at rows p waiting false) word
      ≡ at (used a (v ∷ []) (settled_rows rows p)) None idle false
  unfolding walked
  value_after rows p waiting word name v a is found takes =
      rw (no_subcommand waiting word, is.0, is.1, found, takes) refl

  -- an option that waits for its value
  waits_turn : (rows : List Row) (p : Pending) (waiting : Waiting) (word name : Text) (a : Rule)
      → IsLong word name None → arg_by_long c name ≡ Some a
      → takes_values a ≡ true → turn_fault built_shape [] (at rows p waiting false) word
      ≡ settle_kinds rows p
  waits_turn rows p waiting word name a is found takes =
      rw (no_subcommand waiting word, is.0, is.1, found, takes) (or_else_nil _)

  waits_after : (rows : List Row) (p : Pending) (waiting : Waiting) (word name : Text) (a : Rule)
      → IsLong word name None → arg_by_long c name ≡ Some a
      → takes_values a ≡ true → walked c [] (at rows p waiting false) word
      ≡ waits_for (settled_rows rows p) a
  unfolding walked
  waits_after rows p waiting word name a is found takes =
      rw (no_subcommand waiting word, is.0, is.1, found, takes) refl

  -- an option without a value
  flag_turn : (rows : List Row) (p : Pending) (waiting : Waiting) (word name : Text) (a : Rule)
      → IsLong word name None → arg_by_long c name ≡ Some a
      → takes_values a ≡ false
      → turn_fault built_shape [] (at rows p waiting false) word
      ≡ or_else (settle_kinds rows p) (use_fault false a [] (settled_rows rows p))
  flag_turn rows p waiting word name a is found takes =
      rw (no_subcommand waiting word, is.0, is.1, found, takes) (or_else_nil _)

  flag_after : (rows : List Row) (p : Pending) (waiting : Waiting) (word name : Text) (a : Rule)
      → IsLong word name None → arg_by_long c name ≡ Some a
      → takes_values a ≡ false → walked c [] (at rows p waiting false) word
      ≡ at (used a [] (settled_rows rows p)) None idle false
  unfolding walked
  flag_after rows p waiting word name a is found takes =
      rw (no_subcommand waiting word, is.0, is.1, found, takes) refl

  -- a step that fails whatever follows
  abbrev pub Fails : Kinds → Type 0
  Fails ks = (k : ErrorKind) × (more : Kinds) × (ks ≡ k ∷ more)

  -- an option without a value, which is given one
  many_turn : (rows : List Row) (p : Pending) (waiting : Waiting) (word name v : Text) (a : Rule)
      → IsLong word name (Some v) → arg_by_long c name ≡ Some a
      → takes_values a ≡ false → Fails (turn_fault built_shape [] (at rows p waiting false) word)
  many_turn rows p waiting word name v a is found takes =
      (kind.TooManyValues, [], rw (no_subcommand waiting word, is.0, is.1, found, takes) refl)

  -- an unknown option
  unknown_turn : (rows : List Row) (p : Pending) (waiting : Waiting) (word name : Text) (v : Option Text)
      → IsLong word name v → arg_by_long c name ≡ None
      → Fails (turn_fault built_shape [] (at rows p waiting false) word)
  unknown_turn rows p waiting word name v is found =
      (kind.UnknownArgument, [], rw (no_subcommand waiting word, is.0, is.1, found) refl)

  -- short flags, none of which there is
  short_turn : (t : Table) (rows : List Row) (p : Pending) (waiting : Waiting) (word flags : Text) (x y : ℕ)
      → IsShort word x flags
      → slice_get (chars (x ∷ flags)) 0 ≡ Some y → Fails (turn_fault built_shape [] (at rows p waiting false)
      word)
  unfolding flags_fault
  short_turn t rows p waiting word flags x y is first =
      (kind.UnknownArgument, [], rw (no_subcommand waiting word, is.0, is.1, is.2, first, t.by_short y) refl)

  -- nothing waits for a value
  abbrev pub is_free : Waiting → Bool
  is_free (option id) = false
  is_free _ = true

  -- a plain word, where nothing waits for it
  plain_turn : (t : Table) (rows : List Row) (p : Pending) (waiting : Waiting) (word : Text) → IsPlainWord word
      → is_free waiting ≡ true
      → turn_fault built_shape [] (at rows p waiting false) word ≡ settle_kinds rows p
  plain_turn t rows p (option id) word is free = cc
  plain_turn t rows p idle word is free = rw (is.0, is.1, is.2) (value_fault t rows p)
  plain_turn t rows p positional word is free = rw (is.0, is.1, is.2) (value_fault t rows p)

  plain_after : (t : Table) (rows : List Row) (p : Pending) (waiting : Waiting) (word : Text) → IsPlainWord word
      → is_free waiting ≡ true
      → walked c [] (at rows p waiting false) word
      ≡ at (settled_rows rows p) (plain_pending word) positional false
  unfolding walked
  plain_after t rows p (option id) word is free = cc
  plain_after t rows p idle word is free = rw (is.0, is.1, is.2) (value_walk t rows p idle false word)
  plain_after t rows p positional word is free = rw (is.0, is.1, is.2)
      (value_walk t rows p positional false word)

  -- a plain word that an option takes for its value
  taken_turn : (rows : List Row) (a : Rule) (word : Text) → IsPlainWord word
      → turn_fault built_shape [] (waits_for rows a) word ≡ []
  taken_turn rows a word is = rw (is.0, is.1, is.2) refl

  taken_after : (rows : List Row) (a : Rule) (word : Text) → IsPlainWord word → arg_by_id c a.id ≡ Some a
      → bytes_eq a.id a.id ≡ true → most_values a ≡ 1
      → walked c [] (waits_for rows a) word ≡ at rows (Some (a.id, word ∷ [])) idle false
  unfolding walked
  taken_after rows a word is found same one = rw (is.0, is.1, is.2, found, same, one) refl

  -- ---- all words

  -- The walk ends as the uses of the words do: where nothing waits for a value, and where an option does.
  abbrev Free : List Text → Type 0
  Free rest = (rows : List Row) (p : Pending) (waiting : Waiting) → is_free waiting ≡ true
      → end_rows (at rows p waiting false) rest ≡ run rows (pending_uses p ++ uses rest None)

  abbrev Wait : List Text → Type 0
  Wait rest = (rows : List Row) (a : Rule) → arg_by_id c a.id ≡ Some a → most_values a ≡ 1
      → end_rows (waits_for rows a) rest ≡ run rows (uses rest (Some a))

  passes_none : {X : Type 0} (ks : Kinds) → if_passes {X = X} ks None ≡ None
  passes_none [] = refl
  passes_none (k ∷ ks) = refl

  -- a word that fails
  fails_run : (rows : List Row) (p : Pending) (w after : Walk) (word : Text) (rest : List Text) (us : List Use)
      → Fails (turn_fault built_shape [] w word)
      → end_rows w (word ∷ rest) ≡ run rows (pending_uses p ++ refused ∷ us)
  fails_run rows p w after word rest us fails =
      next_word w (walked c [] w word) word rest (fails.0 ∷ fails.1) fails.2 refl
      ∙ sym (passes_none (settle_kinds rows p)) ∙ settle_run rows p (refused ∷ us)

  -- a word that uses an argument at once
  used_run : (rows : List Row) (p : Pending) (w : Walk) (word : Text) (rest : List Text) (a : Rule)
      (values : List Text)
      → turn_fault built_shape [] w word
      ≡ or_else (settle_kinds rows p) (use_fault false a values (settled_rows rows p))
      → walked c [] w word ≡ at (used a values (settled_rows rows p)) None idle false → Free rest
      → end_rows w (word ∷ rest) ≡ run rows (pending_uses p ++ given a values ∷ uses rest None)
  used_run rows p w word rest a values turn is free =
      let before = settled c (held_at rows p) in
      next_word w (at (used a values before.rows) None idle false) word rest _ turn is
      ∙ passes_both (settle_kinds rows p) (use_fault false a values before.rows)
      (end_rows (at (used a values before.rows) None idle false) rest)
      ∙ ap (λ x. if_passes (settle_kinds rows p)
      (if_passes (use_fault false a values before.rows) x)) (free (used a values before.rows) None idle refl)
      ∙ settle_run rows p (given a values ∷ uses rest None)

  -- the words after a first word that is no plain one
  abbrev tail_of : Sort → List Text → List Use
  tail_of s rest = uses_by s None [] rest (uses rest)

  -- a long flag, by what its name finds
  found_long : (t : Table) (rows : List Row) (p : Pending) (waiting : Waiting) (word name : Text)
      (v : Option Text)
      (rest : List Text) (o : Option Rule)
      → arg_by_long c name ≡ o → IsLong word name v → Free rest → Wait rest
      → end_rows (at rows p waiting false) (word ∷ rest)
      ≡ run rows (pending_uses p ++ uses_of_rule o v (uses rest None) (λ a. uses rest (Some a)))
  found_long t rows p waiting word name v rest None found is free wait =
      fails_run rows p (at rows p waiting false) (at rows p waiting false) word rest (uses rest None)
      (unknown_turn rows p waiting word name v is found)
  found_long t rows p waiting word name v rest (Some a) found is free wait = by (takes_values a) v refl is
    where
      by : (b : Bool) (u : Option Text) → takes_values a ≡ b → IsLong word name u
          → end_rows (at rows p waiting false) (word ∷ rest)
          ≡ run rows (pending_uses p ++ cond b (uses_of_option a u (uses rest None) (uses rest (Some a)))
          (uses_of_flag a u (uses rest None)))
      by true (Some x) takes here =
          used_run rows p (at rows p waiting false) word rest a (x ∷ [])
          (value_turn rows p waiting word name x a here found takes)
          (value_after rows p waiting word name x a here found takes) free
      by true None takes here =
          let known = t.by_long name a found takes in
          next_word (at rows p waiting false)
          (waits_for (settled_rows rows p) a) word rest _
          (waits_turn rows p waiting word name a here found takes)
          (waits_after rows p waiting word name a here found takes)
          ∙ ap (if_passes (settle_kinds rows p))
          (wait (settled_rows rows p) a known.0 known.1)
          ∙ settle_run rows p (uses rest (Some a))
      by false (Some x) takes here =
          fails_run rows p (at rows p waiting false) (at rows p waiting false) word rest (uses rest None)
          (many_turn rows p waiting word name x a here found takes)
      by false None takes here =
          used_run rows p (at rows p waiting false) word rest a []
          (flag_turn rows p waiting word name a here found takes)
          (flag_after rows p waiting word name a here found takes) free

  abbrev is_plain_sort : Sort → Bool
  is_plain_sort plain = true
  is_plain_sort _ = false

  -- a word that is not plain
  flagged : (t : Table) (rows : List Row) (p : Pending) (waiting : Waiting) (word : Text) (rest : List Text)
      (v : View word) → is_plain_sort (sort_of_view v) ≡ false
      → Free rest → Wait rest → end_rows (at rows p waiting false) (word ∷ rest)
      ≡ run rows (pending_uses p ++ tail_of (sort_of_view v) rest)
  flagged t rows p waiting word rest (an_end e) other free wait =
      next_word (at rows p waiting false) (at rows p waiting true) word rest []
      (ends_turn rows p waiting word e)
      (ends_walk rows p waiting word e)
      ∙ trailing_is t rows p waiting rest
  flagged t rows p waiting word rest (a_long name v is) other free wait =
      found_long t rows p waiting word name v rest (arg_by_long c name) refl is free wait
  flagged t rows p waiting word rest (a_short x flags y is first) other free wait =
      fails_run rows p (at rows p waiting false) (at rows p waiting false) word rest (uses rest None)
      (short_turn t rows p waiting word flags x y is first)
  flagged t rows p waiting word rest (a_plain is) other free wait = cc

  same_id : (a : Rule) → bytes_eq a.id a.id ≡ true
  same_id a = (bytes_eq-Decides a.id a.id).1 refl

  -- the first word, where nothing waits for it
  first_free : (t : Table) (rows : List Row) (p : Pending) (waiting : Waiting) (word : Text) (rest : List Text)
      (v : View word) → is_free waiting ≡ true
      → Free rest → Wait rest → end_rows (at rows p waiting false) (word ∷ rest)
      ≡ run rows (pending_uses p ++ uses_by (sort_of_view v) None word rest (uses rest))
  first_free t rows p waiting word rest (an_end e) is free wait =
      flagged t rows p waiting word rest (an_end e) refl free wait
  first_free t rows p waiting word rest (a_long name v h) is free wait =
      flagged t rows p waiting word rest (a_long name v h) refl free wait
  first_free t rows p waiting word rest (a_short x flags y h first) is free wait =
      flagged t rows p waiting word rest (a_short x flags y h first) refl free wait
  first_free t rows p waiting word rest (a_plain h) is free wait =
      next_word (at rows p waiting false)
      (at (settled_rows rows p) (plain_pending word) positional false) word rest _
      (plain_turn t rows p waiting word h is) (plain_after t rows p waiting word h is)
      ∙ ap (if_passes (settle_kinds rows p))
      (free (settled_rows rows p) (plain_pending word) positional refl
      ∙ ap (λ o. run (settled_rows rows p) (pending_uses_by o (word ∷ []) ++ uses rest None)) t.plain_id)
      ∙ settle_run rows p (given built_plain (word ∷ []) ∷ uses rest None)

  -- the first word, where an option waits for it
  first_wait : (t : Table) (rows : List Row) (a : Rule) (word : Text) (rest : List Text) (v : View word)
      → arg_by_id c a.id ≡ Some a → most_values a ≡ 1
      → Free rest → Wait rest → end_rows (waits_for rows a) (word ∷ rest)
      ≡ run rows (uses_by (sort_of_view v) (Some a) word rest (uses rest))
  first_wait t rows a word rest (an_end e) id one free wait =
      flagged t rows (Some (a.id, [])) (option a.id) word rest (an_end e) refl free wait
      ∙ ap (λ o. run rows (pending_uses_by o [] ++ tail_of ends rest)) id
  first_wait t rows a word rest (a_long name v h) id one free wait =
      flagged t rows (Some (a.id, [])) (option a.id) word rest (a_long name v h) refl free wait
      ∙ ap (λ o. run rows (pending_uses_by o [] ++ tail_of (named name v) rest)) id
  first_wait t rows a word rest (a_short x flags y h first) id one free wait =
      flagged t rows (Some (a.id, [])) (option a.id) word rest (a_short x flags y h first) refl free wait
      ∙ ap (λ o. run rows (pending_uses_by o [] ++ tail_of short rest)) id
  first_wait t rows a word rest (a_plain h) id one free wait =
      next_word (waits_for rows a) (at rows (Some (a.id, word ∷ [])) idle false) word
      rest []
      (taken_turn rows a word h) (taken_after rows a word h id (same_id a) one)
      ∙ free rows (Some (a.id, word ∷ [])) idle refl
      ∙ ap (λ o. run rows (pending_uses_by o (word ∷ []) ++ uses rest None)) id

  walks : (t : Table) (words : List Text) → Viewed words → Free words × Wait words
  unfolding walk_fault
  walks t [] v = (
    λ rows p waiting is. settle_run rows p [],
    λ rows a id one. settle_run rows (Some (a.id, [])) []
        ∙ ap (λ o. run rows (pending_uses_by o [] ++ [])) id,
  )
  walks t (word ∷ rest) v =
      let next = walks t rest v.1 in (
        λ rows p waiting is. first_free t rows p waiting word rest v.0 is next.0 next.1
            ∙ ap (λ s. run rows (pending_uses p ++ uses_by s None word rest (uses rest))) (sym (sort_is v.0)),
        λ rows a id one. first_wait t rows a word rest v.0 id one next.0 next.1
            ∙ ap (λ s. run rows (uses_by s (Some a) word rest (uses rest))) (sym (sort_is v.0)),
      )

  -- the walk over all words ends as their uses do
  pub walk_is : (t : Table) (words : List Text) → Viewed words → end_rows (at [] None idle false) words
      ≡ run [] (uses words None)
  walk_is t words v = (walks t words v).0 [] None idle refl
