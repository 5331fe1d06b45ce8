-- Parts of texts, one after the other.
use Rattle.std.proofs.Common.{◌≡◌, ℕ, suc, ◌+◌, ◌<◌, List, [], ◌∷◌, ◌++◌, length, Result, Ok, Err, refl, sym, ap}
use Rattle.std.proofs.Common.{subst, ◌∙◌, add-one, append_assoc, arith}
use Rattle.std.specs.Prelude.{ℤ, Option, Some, None}
use Rattle.dp_spec.specs.TextLines.{Item}
use Rattle.dp_lines.specs.declared.why.FileWhy.{FileWhy}
use Rattle.dp_lines.specs.declared.why.FileWhy.TheVariants.{Shape, Number, Range}
use Rattle.dp_lines.specs.Grammar.{Grammar, ends, passes, next, ◌>>=◌, Fault, bad}
use Rattle.dp_lines.specs.Lines.{fixed_form}
use Rattle.dp_lines.specs.Scanning.{Found, line_at, lines_at, Rest, front_of, text_from, whole}
use Rattle.dp_lines.specs.Steps.{the_words, the_numbers, one_of, and_then}
use Rattle.dp_lines.specs.Reading.{HasFault, GivesOr, rest_at, onto}

-- ---- one part after the other

-- what is read behind a part that is read
abbrev pub then_front : {L V W : Type 0} → Result (Rest V) (Fault L) → (V → Grammar L W)
    → Result (Rest W) (Fault L)
then_front (Ok rest) f = front_of (f rest.value) rest.line rest.bytes
then_front (Err fault) f = Err fault

pub front_bind : {L V W : Type 0} (g : Grammar L V) (f : V → Grammar L W) (line : ℕ) (bytes : List ℕ)
    → front_of (g >>= f) line bytes ≡ then_front (front_of g line bytes) f
front_bind (ends x) f line bytes = refl
front_bind (passes l) f line bytes = refl
front_bind {L = L} {V = V} {W = W} (next forms after) f line bytes =
    by_line (lines_at forms bytes) (λ k zs more. front_bind (after k zs) f (suc line) more)
  where
    by_line : (r : Result Found FileWhy) → ((k : ℕ) (zs : List ℤ) (more : List ℕ)
        → front_of (after k zs >>= f) (suc line) more ≡ then_front (front_of (after k zs) (suc line) more) f)
        → (elim r as (λ x. Result (Rest W) (Fault L)) [
          | Ok found ↦ front_of (after found.k found.zs >>= f) (suc line) found.more
          | Err why ↦ Err (bad line why)
        ])
        ≡ then_front (elim r as (λ x. Result (Rest V) (Fault L))
        [ Ok found ↦ front_of (after found.k found.zs) (suc line) found.more | Err why ↦ Err (bad line why) ]) f
    by_line (Ok found) rest = rest found.k found.zs found.more
    by_line (Err why) rest = refl

pub bind_ok : {L V W : Type 0} (g : Grammar L V) (f : V → Grammar L W) (line : ℕ) (bytes : List ℕ)
    (rest : Rest V)
    → front_of g line bytes ≡ Ok rest → front_of (g >>= f) line bytes
    ≡ front_of (f rest.value) rest.line rest.bytes
bind_ok g f line bytes rest e = front_bind g f line bytes ∙ rw e refl

pub bind_err : {L V W : Type 0} (g : Grammar L V) (f : V → Grammar L W) (line : ℕ) (bytes : List ℕ)
    (fault : Fault L) → front_of g line bytes ≡ Err fault → front_of (g >>= f) line bytes ≡ Err fault
bind_err g f line bytes fault e = front_bind g f line bytes ∙ rw e refl

-- a fault of a part is one of the whole
pub fails_also : {L V W : Type 0} (told : Option (Fault L)) (r : Result V (Fault L)) (s : Result W (Fault L))
    → ((fault : Fault L) → r ≡ Err fault → s ≡ Err fault) → HasFault told r → HasFault told s
fails_also (Some fault) r s same g = same fault g
fails_also None r s same g = tt

-- a part behind what is read fails, and so does all
pub fails_then : {L V W : Type 0} (told : Option (Fault L)) (all : Result (Rest W) (Fault L)) (g : Grammar L V)
    (f : V → Grammar L W) (line : ℕ) (bytes : List ℕ) → all ≡ front_of (g >>= f) line bytes
    → HasFault told (front_of g line bytes) → HasFault told all
fails_then told all g f line bytes same fails =
    fails_also told (front_of g line bytes) all (λ fault is. same ∙ bind_err g f line bytes fault is) fails

-- what is given by what follows is given by all
pub gives_at : {E L X V : Type 0} (told : E → Option (Fault L)) (view : X → V) (r : Result X E)
    (a b : Result V (Fault L)) → a ≡ b → GivesOr told view r b → GivesOr told view r a
gives_at told view r a b e gives = subst (GivesOr told view r) (sym e) gives

-- ---- lines

-- what is read of the first line decides
pub by_first : {L V : Type 0} (forms : List (List Item)) (after : ℕ → List ℤ → Grammar L V) (line : ℕ)
    (bytes : List ℕ)
    (r : Result Found FileWhy) → lines_at forms bytes ≡ r
    → front_of (next forms after) line bytes ≡ (elim r as (λ x. Result (Rest V) (Fault L))
    [ Ok found ↦ front_of (after found.k found.zs) (suc line) found.more | Err why ↦ Err (bad line why) ])
by_first {L = L} {V = V} forms after line bytes r e =
    ap (λ (x : Result Found FileWhy). elim x as (λ y. Result (Rest V) (Fault L))
    [ Ok found ↦ front_of (after found.k found.zs) (suc line) found.more | Err why ↦ Err (bad line why) ]) e

one_ok : (form : List Item) (bytes : List ℕ) (zs : List ℤ) (more : List ℕ) → line_at form bytes ≡ Ok (zs, more)
    → lines_at (form ∷ []) bytes ≡ Ok (record { k = 0; zs = zs; more = more })
unfolding lines_at
one_ok form bytes zs more e = rw e refl

one_bad : (form : List Item) (bytes : List ℕ) (why : FileWhy) → line_at form bytes ≡ Err why
    → lines_at (form ∷ []) bytes ≡ Err why
unfolding lines_at
one_bad form bytes Shape e = rw e refl
one_bad form bytes Number e = rw e refl
one_bad form bytes Range e = rw e refl

pub words_ok : {L : Type 0} (ws : List (List ℕ)) (line : ℕ) (bytes more : List ℕ)
    → line_at (fixed_form ws) bytes ≡ Ok ([], more) → front_of {L = L} (the_words ws) line bytes
    ≡ Ok (rest_at tt (suc line) more)
words_ok ws line bytes more e = by_first (fixed_form ws ∷ []) (λ k zs. ends tt) line bytes _
    (one_ok (fixed_form ws) bytes [] more e)

pub words_bad : {L : Type 0} (ws : List (List ℕ)) (line : ℕ) (bytes : List ℕ) (why : FileWhy)
    → line_at (fixed_form ws) bytes ≡ Err why → front_of {L = L} (the_words ws) line bytes ≡ Err (bad line why)
words_bad ws line bytes why e = by_first (fixed_form ws ∷ []) (λ k zs. ends tt) line bytes _
    (one_bad (fixed_form ws) bytes why e)

pub numbers_ok : {L : Type 0} (form : List Item) (line : ℕ) (bytes : List ℕ) (zs : List ℤ) (more : List ℕ)
    → line_at form bytes ≡ Ok (zs, more) → front_of {L = L} (the_numbers form) line bytes
    ≡ Ok (rest_at zs (suc line) more)
numbers_ok form line bytes zs more e = by_first (form ∷ []) (λ k zs. ends zs) line bytes _
    (one_ok form bytes zs more e)

pub numbers_bad : {L : Type 0} (form : List Item) (line : ℕ) (bytes : List ℕ) (why : FileWhy)
    → line_at form bytes ≡ Err why → front_of {L = L} (the_numbers form) line bytes ≡ Err (bad line why)
numbers_bad form line bytes why e = by_first (form ∷ []) (λ k zs. ends zs) line bytes _
    (one_bad form bytes why e)

-- as code tells it
pub numbers_to : {L : Type 0} (form : List Item) (line to : ℕ) (bytes : List ℕ) (zs : List ℤ)
    (more behind : List ℕ) → line_at form bytes ≡ Ok (zs, more) → to ≡ line + 1 → behind ≡ more
    → front_of {L = L} (the_numbers form) line bytes ≡ Ok (rest_at zs to behind)
numbers_to form line to bytes zs more behind e t b = numbers_ok form line bytes zs more e
    ∙ rw (t, add-one, b) refl

pub words_to : {L : Type 0} (ws : List (List ℕ)) (line to : ℕ) (bytes more behind : List ℕ)
    → line_at (fixed_form ws) bytes ≡ Ok ([], more) → to ≡ line + 1 → behind ≡ more
    → front_of {L = L} (the_words ws) line bytes ≡ Ok (rest_at tt to behind)
words_to ws line to bytes more behind e t b = words_ok ws line bytes more e ∙ rw (t, add-one, b) refl

-- ---- one of two lines

pub first_to : {L : Type 0} (first second : List Item) (line to : ℕ) (bytes more behind : List ℕ)
    → line_at first bytes ≡ Ok ([], more) → to ≡ line + 1 → behind ≡ more
    → front_of {L = L} (one_of first second) line bytes ≡ Ok (rest_at 0 to behind)
unfolding lines_at
first_to first second line to bytes more behind e t b =
    by_first (first ∷ second ∷ []) (λ k zs. ends k) line bytes (Ok (record { k = 0; zs = []; more = more }))
    (rw e refl)
    ∙ rw (t, add-one, b) refl

pub second_to : {L : Type 0} (first second : List Item) (line to : ℕ) (bytes more behind : List ℕ)
    → line_at first bytes ≡ Err Shape
    → line_at second bytes ≡ Ok ([], more) → to ≡ line + 1 → behind ≡ more
    → front_of {L = L} (one_of first second) line bytes ≡ Ok (rest_at 1 to behind)
unfolding lines_at
second_to first second line to bytes more behind none e t b =
    by_first (first ∷ second ∷ []) (λ k zs. ends k) line bytes (Ok (record { k = 1; zs = []; more = more }))
    (rw (none, e) refl)
    ∙ rw (t, add-one, b) refl

pub neither_bad : {L : Type 0} (first second : List Item) (line : ℕ) (bytes : List ℕ) (why : FileWhy)
    → line_at first bytes ≡ Err Shape
    → line_at second bytes ≡ Err why → front_of {L = L} (one_of first second) line bytes ≡ Err (bad line why)
unfolding lines_at
neither_bad first second line bytes why none e =
    by_first (first ∷ second ∷ []) (λ k zs. ends k) line bytes (Err why) (both_bad why e)
  where
    both_bad : (w : FileWhy) → line_at second bytes ≡ Err w → lines_at (first ∷ second ∷ []) bytes ≡ Err w
    both_bad Shape f = rw (none, f) refl
    both_bad Number f = rw (none, f) refl
    both_bad Range f = rw (none, f) refl

-- ---- lists

-- one before those that are read
pub front_cons : {L A : Type 0} (g : Grammar L (List A)) (x : A) (line : ℕ) (bytes : List ℕ)
    → front_of (g >>= λ others. ends (x ∷ others)) line bytes ≡ onto (x ∷ []) (front_of g line bytes)
front_cons {L = L} {A = A} g x line bytes = front_bind g (λ others. ends (x ∷ others)) line bytes
    ∙ by_front (front_of g line bytes)
  where
    by_front : (r : Result (Rest (List A)) (Fault L)) → then_front r (λ others. ends (x ∷ others))
        ≡ onto (x ∷ []) r
    by_front (Ok rest) = refl
    by_front (Err fault) = refl

pub onto-onto : {A F : Type 0} (front more : List A) (r : Result (Rest (List A)) F)
    → onto front (onto more r) ≡ onto (front ++ more) r
onto-onto front more (Ok rest) = ap (λ l. Ok (record rest { value = l }))
    (sym (append_assoc front more rest.value))
onto-onto front more (Err fault) = refl

pub onto-none : {A F : Type 0} (r : Result (Rest (List A)) F) → onto [] r ≡ r
onto-none (Ok rest) = refl
onto-none (Err fault) = refl

-- one more is read
pub more_read : {L A : Type 0} (all : Result (Rest (List A)) (Fault L)) (front : List A) (g : Grammar L A)
    (G : Grammar L (List A)) (line to : ℕ) (bytes more : List ℕ) (x : A)
    → all ≡ onto front (front_of (and_then g G) line bytes)
    → front_of g line bytes ≡ Ok (rest_at x to more) → all ≡ onto (front ++ x ∷ []) (front_of G to more)
more_read all front g G line to bytes more x e f =
    e
    ∙ ap (onto front) (bind_ok g (λ y. G >>= λ ys. ends (y ∷ ys)) line bytes (rest_at x to more) f
    ∙ front_cons G x to more)
    ∙ onto-onto front (x ∷ []) (front_of G to more)

-- one more is not read
pub more_fails : {L A : Type 0} (told : Option (Fault L)) (all : Result (Rest (List A)) (Fault L))
    (front : List A) (g : Grammar L A) (G : Grammar L (List A)) (line : ℕ) (bytes : List ℕ)
    → all ≡ onto front (front_of (and_then g G) line bytes)
    → HasFault told (front_of g line bytes) → HasFault told all
more_fails told all front g G line bytes e fails =
    fails_also told (front_of g line bytes) all
    (λ f is. e ∙ ap (onto front) (bind_err g (λ y. G >>= λ ys. ends (y ∷ ys)) line bytes f is)) fails

-- what stands before one more is read, or is not
pub part_read : {L A B : Type 0} (all : Result (Rest (List A)) (Fault L)) (front : List A) (g : Grammar L B)
    (f : B → Grammar L (List A)) (line to : ℕ) (bytes more : List ℕ) (x : B)
    → all ≡ onto front (front_of (g >>= f) line bytes)
    → front_of g line bytes ≡ Ok (rest_at x to more) → all ≡ onto front (front_of (f x) to more)
part_read all front g f line to bytes more x e read = e ∙ ap (onto front)
    (bind_ok g f line bytes (rest_at x to more) read)

pub part_fails : {L A B : Type 0} (told : Option (Fault L)) (all : Result (Rest (List A)) (Fault L))
    (front : List A) (g : Grammar L B) (f : B → Grammar L (List A)) (line : ℕ) (bytes : List ℕ)
    → all ≡ onto front (front_of (g >>= f) line bytes)
    → HasFault told (front_of g line bytes) → HasFault told all
part_fails told all front g f line bytes e fails =
    fails_also told (front_of g line bytes) all (λ k is. e ∙ ap (onto front) (bind_err g f line bytes k is))
    fails

-- ---- the whole text

-- what is said of all bytes
abbrev answered : {L V : Type 0} → Result (Rest V) (Fault L) → Result V (Fault L)
answered r = elim r [ Ok rest ↦ whole rest | Err fault ↦ Err fault ]

pub text_fails : {L V : Type 0} (g : Grammar L V) (bytes : List ℕ) (fault : Fault L)
    → front_of g 1 bytes ≡ Err fault → text_from g 1 bytes ≡ Err fault
text_fails {L = L} {V = V} g bytes fault e = ap (λ (r : Result (Rest V) (Fault L)). answered r) e

pub text_ends : {L V : Type 0} (g : Grammar L V) (bytes : List ℕ) (v : V) (line : ℕ) (rest : List ℕ)
    → front_of g 1 bytes ≡ Ok (rest_at v line rest) → length rest ≡ 0 → text_from g 1 bytes ≡ Ok v
text_ends {L = L} {V = V} g bytes v line [] e none = ap (λ (r : Result (Rest V) (Fault L)). answered r) e
text_ends g bytes v line (b ∷ rest) e none = absurd (omega (arith, none))

pub text_goes_on : {L V : Type 0} (g : Grammar L V) (bytes : List ℕ) (v : V) (line : ℕ) (rest : List ℕ)
    → front_of g 1 bytes ≡ Ok (rest_at v line rest) → 0 < length rest
    → text_from g 1 bytes ≡ Err (bad line Shape)
text_goes_on g bytes v line [] e some = absurd (omega (arith, some))
text_goes_on {L = L} {V = V} g bytes v line (b ∷ rest) e some = ap (λ (r : Result (Rest V) (Fault L)).
    answered r) e
