-- The rules of the command: an option for each of the names, the flag, and the plain words.
use Rattle.std.proofs.Common.{◌≡◌, ◌∙◌, ◌&&◌, ◌||◌, ℕ, Bool, cond, true, false, not, refl, sym, ap, subst, List, []}
use Rattle.std.proofs.Common.{◌∷◌, Option, Some, None, true≢false}
use Rattle.std.proofs.lemmas.Bool.{and_parts, not-true}
use Rattle.std.specs.List.{list_all, list_any}
use Rattle.std.specs.Str.{bytes_eq}
use Rattle.clap.specs.Walk.{Rule, Text, arg_by_id, arg_by_index, arg_by_long, arg_by_short, most_values, takes_values}
use Rattle.clap.specs.Simple.{filled}
use Rattle.dp_words.proofs.Rows.{same_text}
use Rattle.dp_words.specs.Command.{flag_id, flag_rule, option_rule, plain_id}
use Rattle.dp_words.proofs.Walks.{Table, built_plain}

-- the rules as they are built
abbrev pub built_option : Text → Rule
built_option n = filled (option_rule n)

abbrev pub built_flag : Rule
built_flag = filled flag_rule

abbrev pub rules : List Text → List Rule
rules [] = built_flag ∷ built_plain ∷ []
rules (n ∷ ns) = built_option n ∷ rules ns

abbrev pub is_in : Text → List Text → Bool
is_in name ns = list_any (λ n. bytes_eq n name) ns

-- no option has the id of the flag or of the plain words
abbrev pub is_apart : Text → Bool
is_apart n = not (bytes_eq n plain_id) && not (bytes_eq flag_id n)

abbrev pub AreApart : List Text → Type 0
AreApart ns = list_all is_apart ns ≡ true

-- a name of the list is apart
pub apart : (ns : List Text) (name : Text) → AreApart ns → is_in name ns ≡ true → is_apart name ≡ true
apart [] name all is = cc
apart (n ∷ ns) name all is = by (bytes_eq n name) refl is (apart ns name (and_parts (is_apart n) _ all).1)
  where
    by : (b : Bool) → bytes_eq n name ≡ b → (b || is_in name ns) ≡ true
        → (is_in name ns ≡ true → is_apart name ≡ true) → is_apart name ≡ true
    by true e is next = ap is_apart (sym (same_text n name e)) ∙ (and_parts (is_apart n) _ all).0
    by false e is next = next is

abbrev pub found_long : Bool → Bool → Text → Option Rule
found_long true flag name = Some (built_option name)
found_long false true name = Some built_flag
found_long false false name = None

-- what the name of a flag finds
pub by_long_is : (ns : List Text) (name : Text)
    → arg_by_long (rules ns) name ≡ found_long (is_in name ns) (bytes_eq flag_id name) name
by_long_is [] name = by (bytes_eq flag_id name)
  where
    by : (b : Bool) → cond (b || false) (Some built_flag) None ≡ found_long false b name
    by true = refl
    by false = refl
by_long_is (n ∷ ns) name = by (bytes_eq n name) refl (by_long_is ns name)
  where
    by : (b : Bool) → bytes_eq n name ≡ b
        → arg_by_long (rules ns) name ≡ found_long (is_in name ns) (bytes_eq flag_id name) name
        → cond (b || false) (Some (built_option n)) (arg_by_long (rules ns) name)
        ≡ found_long (b || is_in name ns) (bytes_eq flag_id name) name
    by true e next = ap (λ m. Some (built_option m)) (same_text n name e)
    by false e next = next

by_id_is : (ns : List Text) (name : Text) → is_in name ns ≡ true
    → arg_by_id (rules ns) name ≡ Some (built_option name)
by_id_is [] name is = cc
by_id_is (n ∷ ns) name is = by (bytes_eq n name) refl is (by_id_is ns name)
  where
    by : (b : Bool) → bytes_eq n name ≡ b → (b || is_in name ns) ≡ true
        → (is_in name ns ≡ true → arg_by_id (rules ns) name ≡ Some (built_option name))
        → cond b (Some (built_option n)) (arg_by_id (rules ns) name) ≡ Some (built_option name)
    by true e is next = ap (λ m. Some (built_option m)) (same_text n name e)
    by false e is next = next is

by_index_is : (ns : List Text) → arg_by_index (rules ns) 1 ≡ Some built_plain
by_index_is [] = refl
by_index_is (n ∷ ns) = by_index_is ns

by_short_is : (ns : List Text) (x : ℕ) → arg_by_short (rules ns) x ≡ None
by_short_is [] x = refl
by_short_is (n ∷ ns) x = by_short_is ns x

plain_id_is : (ns : List Text) → AreApart ns → arg_by_id (rules ns) plain_id ≡ Some built_plain
plain_id_is [] all = refl
plain_id_is (n ∷ ns) all =
    let first : bytes_eq n plain_id ≡ false =
    not-true _ (and_parts (not (bytes_eq n plain_id)) _ (and_parts (is_apart n) _ all).0).0 in
    rw first (plain_id_is ns (and_parts (is_apart n) _ all).1)

some_same : (a b : Rule) → Some a ≡ Some b → a ≡ b
some_same a b e = cc

none_some : (a : Rule) → None ≡ Some a → ⊥
none_some a e = cc

pub table : (ns : List Text) → AreApart ns → Table (rules ns)
table ns all = record {
  by_index = by_index_is ns;
  plain_id = plain_id_is ns all;
  by_short = by_short_is ns;
  by_long = λ name a found takes. by name a (is_in name ns) refl (bytes_eq flag_id name)
      (sym (by_long_is ns name) ∙ found) takes;
}
  where
    by : (name : Text) (a : Rule) (b : Bool) → is_in name ns ≡ b → (f : Bool) → found_long b f name ≡ Some a
        → takes_values a ≡ true → (arg_by_id (rules ns) a.id ≡ Some a) × (most_values a ≡ 1)
    by name a true e f found takes =
        let is = some_same (built_option name) a found in
        subst (λ (x : Rule). (arg_by_id (rules ns) x.id ≡ Some x) × (most_values x ≡ 1)) is
        (by_id_is ns name e, refl)
    by name a false e true found takes =
        let is = some_same built_flag a found in
        absurd (true≢false (sym takes ∙ ap takes_values (sym is)))
    by name a false e false found takes = absurd (none_some a found)
