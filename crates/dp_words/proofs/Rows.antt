-- The rows that a parse finds, after a use.
use Rattle.std.proofs.Common.{◌≡◌, ◌∙◌, ◌||◌, Bool, cond, true, false, refl, sym, ap, List, [], ◌∷◌, ◌++◌, Some, None}
use Rattle.std.proofs.Common.{append-nil, true≢false}
use Rattle.std.specs.Prelude.{find}
use Rattle.std.specs.List.{list_any}
use Rattle.std.specs.Option.{option_map_or}
use Rattle.std.specs.Str.{bytes_eq}
use Rattle.std.proofs.lemmas.Slice.Eq.{bytes_eq-Decides}
use Rattle.clap.specs.Walk.{Row, Text, at_row, has_row, more_values, with_values, without}
use Rattle.clap.specs.declared.builder.value_parser.Reading.{Reading}
use Rattle.clap.specs.declared.parser.matches.ValueSource.{ValueSource}

pub same_text : (x y : Text) → bytes_eq x y ≡ true → x ≡ y
same_text x y e = (bytes_eq-Decides x y).0 e

pub text_same : (x y : Text) → x ≡ y → bytes_eq x y ≡ true
text_same x y e = (bytes_eq-Decides x y).1 e

-- the values of an id, none where it has no row
abbrev pub values_at : Text → List Row → List Text
values_at id rows = option_map_or (λ r. r.values) (find (λ r. bytes_eq r.id id) rows) []

abbrev pub if_id : Text → Text → List Text → List Text
if_id id n vs = cond (bytes_eq id n) vs []

pub without_none : (id : Text) (rows : List Row) → has_row id rows ≡ false → without id rows ≡ rows
without_none id [] none = refl
without_none id (r ∷ rs) none = by (bytes_eq r.id id) refl (without_none id rs)
  where
    by : (b : Bool) → bytes_eq r.id id ≡ b → (has_row id rs ≡ false → without id rs ≡ rs)
        → without id (r ∷ rs) ≡ r ∷ rs
    by true e next = absurd (true≢false (sym (ap (λ x. x || has_row id rs) e) ∙ none))
    by false e next = rw e (ap (λ xs. r ∷ xs) (next (ap (λ x. x || has_row id rs) (sym e) ∙ none)))

pub values_after : (id n : Text) (how : Reading) (s : ValueSource) (vs : List Text) (rows : List Row)
    → values_at n (with_values id how s vs rows) ≡ values_at n rows ++ if_id id n vs
values_after id n how s vs [] = by (bytes_eq id n)
  where
    by : (b : Bool) → option_map_or (λ (r : Row). r.values)
        (cond b (Some (record { id = id; values = vs; count = None; source = Some s; reading = how })) None) []
        ≡ cond b vs []
    by true = refl
    by false = refl
values_after id n how s vs (r ∷ rs) = by (bytes_eq r.id id) refl (values_after id n how s vs rs)
  where
    here : (b : Bool) → option_map_or (λ (x : Row). x.values)
        (cond b (Some (record r
        { values = r.values ++ vs; source = Some (Rattle.clap.specs.Walk.stronger r.source s) }))
        (find (λ x. bytes_eq x.id n) rs)) []
        ≡ option_map_or (λ (x : Row). x.values) (cond b (Some r) (find (λ x. bytes_eq x.id n) rs)) []
        ++ cond b vs []
    here true = refl
    here false = sym (append-nil _)

    there : (b : Bool) → bytes_eq r.id n ≡ b → bytes_eq r.id id ≡ false
        → values_at n (with_values id how s vs rs)
        ≡ values_at n rs ++ if_id id n vs
        → option_map_or (λ (x : Row). x.values)
        (cond b (Some r) (find (λ x. bytes_eq x.id n) (with_values id how s vs rs))) []
        ≡ option_map_or (λ (x : Row). x.values) (cond b (Some r) (find (λ x. bytes_eq x.id n) rs)) []
        ++ if_id id n vs
    there true e other next =
        let differs : bytes_eq id n ≡ false = elim (bytes_eq id n) as (λ b. bytes_eq id n ≡ b → b ≡ false) [
          | true ↦ λ same. absurd
              (true≢false (sym (text_same r.id id (same_text r.id n e ∙ sym (same_text id n same))) ∙ other))
          | false ↦ λ same. refl
        ] refl in
        rw differs (sym (append-nil r.values))
    there false e other next = next

    by : (b : Bool) → bytes_eq r.id id ≡ b → values_at n (with_values id how s vs rs)
        ≡ values_at n rs ++ if_id id n vs
        → values_at n (with_values id how s vs (r ∷ rs)) ≡ values_at n (r ∷ rs) ++ if_id id n vs
    by true e next = rw e
        (here (bytes_eq r.id n)
        ∙ ap (λ b. values_at n (r ∷ rs) ++ cond b vs []) (ap (λ x. bytes_eq x n) (same_text r.id id e)))
    by false e next = rw e (there (bytes_eq r.id n) refl e next)

-- a test of the ids
pub any_after : (f : Text → Bool) (id : Text) (how : Reading) (s : ValueSource) (vs : List Text)
    (rows : List Row)
    → list_any (λ r. f r.id) (with_values id how s vs rows) ≡ (list_any (λ r. f r.id) rows || f id)
any_after f id how s vs [] = by (f id)
  where
    by : (b : Bool) → (b || false) ≡ b
    by true = refl
    by false = refl
any_after f id how s vs (r ∷ rs) = by (bytes_eq r.id id) refl (any_after f id how s vs rs)
  where
    twice : (a b : Bool) → (a || b) ≡ ((a || b) || a)
    twice true b = refl
    twice false true = refl
    twice false false = refl

    assoc : (a b d : Bool) → (a || (b || d)) ≡ ((a || b) || d)
    assoc true b d = refl
    assoc false b d = refl

    by : (b : Bool) → bytes_eq r.id id ≡ b → list_any (λ x. f x.id) (with_values id how s vs rs)
        ≡ (list_any (λ x. f x.id) rs || f id)
        → list_any (λ x. f x.id) (with_values id how s vs (r ∷ rs)) ≡ (list_any (λ x. f x.id) (r ∷ rs) || f id)
    by true e next = rw e
        (twice (f r.id) (list_any (λ x. f x.id) rs)
        ∙ ap (λ b. (f r.id || list_any (λ x. f x.id) rs) || b) (ap f (same_text r.id id e)))
    by false e next = rw e (ap (λ b. f r.id || b) next ∙ assoc (f r.id) (list_any (λ x. f x.id) rs) (f id))
