-- One step through a text: a bad byte, or a lexeme with what is known of its bytes.
use Rattle.std.proofs.Common.{◌≡◌, ℕ, suc, ◌+◌, ◌≤◌, ◌<◌, Bool, true, false, cond, not, ◌||◌, List, [], ◌∷◌, length}
use Rattle.std.proofs.Common.{get_or, take, drop, Option, Some, None, Err, refl, sym, ap, subst, ◌∙◌, inl, inr, arith}
use Rattle.std.specs.Prelude.{is_some, nat_lt}
use Rattle.std.specs.List.{prefix_len, list_all}
use Rattle.std.proofs.lemmas.Bool.{cases_lt, lt-ltb, not-false, not-true}
use Rattle.std.proofs.lemmas.List.{get_or-drop, get_or_past, length-drop}
use Rattle.std.proofs.lemmas.List.Sums.{prefix_len_passes, prefix_len_stops}
use Rattle.dp_base.specs.Bytes.{is_name_byte}
use Rattle.dp_base.specs.DecimalShape.{is_decimal}
use Rattle.dp_base.specs.Names.{is_word}
use Rattle.dp_lexer.specs.declared.Kind.{Kind}
use Rattle.dp_lexer.specs.declared.Kind.TheVariants.{Word, Number, Colon, Star, LineEnd}
use Rattle.dp_lexer.specs.declared.lexemes.Class.{Class}
use Rattle.dp_lexer.specs.declared.lexemes.Class.TheVariants.{Blank, Comment, LineFeed, Run, Mark, Bad}
use Rattle.dp_lexer.specs.Bytes.{line_feed, hash, colon, star, is_line_feed, is_no_line_feed, is_in_alphabet}
use Rattle.dp_lexer.specs.Comments.{is_in_comment, is_bad}
use Rattle.dp_lexer.specs.Tokens.{class_of, more_of, kind_of, with_token}
use Rattle.dp_lexer.specs.TokenLaws.{IsOfKind, IsLongest}
use Rattle.dp_lexer.proofs.Classes.{run, blank, line_end, comment, colon_mark, star_mark, unknown, byte_of, differs}
use Rattle.dp_lexer.proofs.CommentSteps.{IsOutside, outside_feed}
use Rattle.dp_lexer.proofs.Lexeme.{tokens_at, cut, stops, len, fits, moves}
use Rattle.dp_lexer.proofs.Stretches.{IsStretch, IsPlain, named_plain, blank_plain, plain_stretch, comment_stretch}

-- the bytes are of the kind, and it is the longest such slice
pub record IsShown (text : List ℕ) (at n : ℕ) (kind : Kind) : Type 0 where
  pub kind_is : IsOfKind kind (take n (drop at text))
  pub longest : IsLongest kind (get_or text (at + n) 0)

-- the same of a lexeme that is a token; nothing of another
abbrev pub ShowsToken : List ℕ → ℕ → ℕ → Option Kind → Type 0
ShowsToken text at n None = Unit {0}
ShowsToken text at n (Some kind) = IsShown text at n kind

-- the tokens from an offset on are those from behind a lexeme on, and its own where it is one
pub record Advances (text : List ℕ) (at n : ℕ) (kind : Option Kind) : Type 0 where
  pub some : 0 < n
  pub within : at + n ≤ length text
  pub moves_on : tokens_at text at ≡ with_token text at n kind (tokens_at text (at + n))
  pub stretch : IsStretch text at n (is_some kind)
  pub shown : ShowsToken text at n kind

-- a step from an offset: a bad byte stands there, or a lexeme
pub data Step (text : List ℕ) (at : ℕ) : Type 0 where
  halts : tokens_at text at ≡ Err at → is_bad text at ≡ true → Step text at
  goes : (n : ℕ) (kind : Option Kind) → Advances text at n kind → Step text at

-- the bytes that a prefix counts all pass
more_pass : (p : ℕ → Bool) (x : ℕ) (xs : List ℕ) (v : Bool) → p x ≡ v → list_all p (take (prefix_len p xs) xs) ≡ true
    → list_all p (take (cond v (1 + prefix_len p xs) 0) (x ∷ xs)) ≡ true
more_pass p x xs true passes others = let more : 1 + prefix_len p xs ≡ suc (prefix_len p xs) = omega arith in
    rw (more, passes) others
more_pass p x xs false fails others = refl

-- so do all that a prefix counts
all_pass : (p : ℕ → Bool) (xs : List ℕ) → list_all p (take (prefix_len p xs) xs) ≡ true
all_pass p [] = refl
all_pass p (x ∷ xs) = more_pass p x xs (p x) refl (all_pass p xs)

-- a run of the bytes of names and numbers is a word or a number
run_kind : (b : ℕ) (rest : List ℕ) (decimal : Bool) → list_all is_name_byte (b ∷ rest) ≡ true
    → is_decimal (b ∷ rest) ≡ decimal
    → IsOfKind (cond decimal Number Word) (b ∷ rest)
unfolding is_word
run_kind b rest true named decimal = (named, decimal)
run_kind b rest false named other = let some : nat_lt 0 (length (b ∷ rest)) ≡ true = lt-ltb 0 (length (b ∷ rest))
    (omega arith) in rw (some, named, other) refl

-- and it is the longest where another byte follows
run_longest : (decimal : Bool) (next : ℕ) → is_name_byte next ≡ false → IsLongest (cond decimal Number Word) next
run_longest true next ends = ends
run_longest false next ends = ends

module _ (text : List ℕ) (at : ℕ) (inside : at < length text) (outside : IsOutside text at) where
  -- the byte at the offset
  abbrev byte : ℕ
  byte = get_or text at 0

  -- what follows the byte, and how much of that belongs to a run and to a comment that begins at it
  abbrev rest : List ℕ
  rest = drop (at + 1) text

  abbrev run_more : ℕ
  run_more = prefix_len is_name_byte rest

  abbrev comment_more : ℕ
  comment_more = prefix_len is_no_line_feed rest

  -- a lexeme of one byte
  single : (class : Class) (kind : Option Kind) → class ≡ class_of byte → (class ≡ Bad → ⊥)
      → ((others : List ℕ) → more_of class others ≡ 0) → kind_of class (byte ∷ []) ≡ kind
      → IsPlain (is_some kind) byte
      → ShowsToken text at 1 kind → Step text at
  single class kind class_is good none kind_is plain shown =
      let one : len text at inside class class_is ≡ 1 = ap (λ n. suc n) (none rest) in
      let bytes : take 1 (drop at text) ≡ byte ∷ [] = ap (take 1) (cut text at inside) in
      let moved : tokens_at text at ≡ with_token text at 1 kind (tokens_at text (at + 1))
      = moves text at inside class class_is good
      ∙ ap (λ n. with_token text at n (kind_of class (take n (drop at text))) (tokens_at text (at + n))) one
      ∙ ap (λ k. with_token text at 1 k (tokens_at text (at + 1))) (ap (kind_of class) bytes ∙ kind_is) in
      goes 1 kind (record {
        some = omega arith;
        within = omega arith;
        moves_on = moved;
        stretch = plain_stretch text at 0 (is_some kind) (omega arith) outside each;
        shown = shown;
      })
    where
      each : (k : ℕ) → k < 1 → IsPlain (is_some kind) (get_or text (at + k) 0)
      each k lt = let same : at ≡ at + k = omega arith in
          subst (λ i. IsPlain (is_some kind) (get_or text i 0)) same plain

  -- how many bytes of names and numbers stand here
  run_here : is_name_byte byte ≡ true → prefix_len is_name_byte (drop at text) ≡ suc run_more
  run_here named = ap (prefix_len is_name_byte) (cut text at inside) ∙ rw named (omega arith)

  -- a run begins here
  of_run : class_of byte ≡ Run → is_name_byte byte ≡ true → Step text at
  of_run class_is named =
      let n : ℕ = suc run_more in
      let decimal : Bool = is_decimal (take n (drop at text)) in
      let bytes : take n (drop at text) ≡ byte ∷ take run_more rest
      = ap (take n) (cut text at inside) in
      let all : list_all is_name_byte (take n (drop at text)) ≡ true
      = subst (λ k. list_all is_name_byte (take k (drop at text)) ≡ true) (run_here named)
      (all_pass is_name_byte (drop at text)) in
      goes n (Some (cond decimal Number Word)) (record {
        some = omega arith;
        within = fits text at inside Run (sym class_is);
        moves_on = moves text at inside Run (sym class_is) (λ e. cc);
        stretch = plain_stretch text at run_more true (fits text at inside Run (sym class_is)) outside each;
        shown = record {
          kind_is = subst (IsOfKind (cond decimal Number Word)) (sym bytes)
              (run_kind byte (take run_more rest) decimal (subst (λ l. list_all is_name_byte l ≡ true) bytes all)
              (ap is_decimal (sym bytes)));
          longest = run_longest decimal (get_or text (at + n) 0) ends;
        };
      })
    where
      each : (k : ℕ) → k < suc run_more → IsPlain true (get_or text (at + k) 0)
      each k lt =
          let below : k < prefix_len is_name_byte (drop at text) = omega (arith, run_here named) in
          named_plain (get_or text (at + k) 0)
          (subst (λ b. is_name_byte b ≡ true) (get_or-drop at text k 0)
          (prefix_len_passes is_name_byte (drop at text) k 0 below))

      ends : is_name_byte (get_or text (at + suc run_more) 0) ≡ false
      ends = elim (cases_lt (at + suc run_more) (length text)) [
        | inl more ↦ (
            let below : prefix_len is_name_byte (drop at text) < length (drop at text)
            = omega (arith, run_here named, length-drop at text) in
            subst (λ k. is_name_byte (get_or text (at + k) 0) ≡ false) (run_here named)
            (subst (λ b. is_name_byte b ≡ false) (get_or-drop at text (prefix_len is_name_byte (drop at text)) 0)
            (prefix_len_stops is_name_byte (drop at text) 0 below))
            )
        | inr end ↦ ap is_name_byte (get_or_past text (at + suc run_more) 0 end)
      ]

  -- a comment begins here
  of_comment : byte ≡ hash → Step text at
  of_comment is =
      let n : ℕ = comment_more in
      let within : at + suc n ≤ length text = fits text at inside Comment (sym (ap class_of is)) in
      let begins : is_in_comment text at ≡ true = outside inside ∙ rw is refl in
      goes (suc n) None (record {
        some = omega arith;
        within = within;
        moves_on = moves text at inside Comment (sym (ap class_of is)) (λ e. cc);
        stretch = comment_stretch text at n within begins each (outside_feed text (at + suc n) after);
        shown = tt;
      })
    where
      each : (k : ℕ) → k < comment_more → is_line_feed (get_or text (at + suc k) 0) ≡ false
      each k lt =
          let same : at + 1 + k ≡ at + suc k = omega arith in
          not-true _ (subst (λ b. is_no_line_feed b ≡ true) (get_or-drop (at + 1) text k 0
          ∙ ap (λ i. get_or text i 0) same)
          (prefix_len_passes is_no_line_feed rest k 0 lt))

      after : at + suc comment_more < length text
          → is_line_feed (get_or text (at + suc comment_more) 0) ≡ true
      after more =
          let n : ℕ = comment_more in
          let same : at + 1 + n ≡ at + suc n = omega arith in
          let below : n < length rest = omega (arith, length-drop (at + 1) text) in
          not-false _ (subst (λ b. is_no_line_feed b ≡ false)
          (get_or-drop (at + 1) text n 0 ∙ ap (λ i. get_or text i 0) same)
          (prefix_len_stops is_no_line_feed rest 0 below))

  -- a lexeme that is one byte and a token
  mark : (b : ℕ) (class : Class) (kind : Kind) → byte ≡ b → class ≡ class_of b → (class ≡ Bad → ⊥)
      → ((others : List ℕ) → more_of class others ≡ 0) → kind_of class (b ∷ []) ≡ Some kind → IsPlain true b
      → IsOfKind kind (b ∷ [])
      → IsLongest kind (get_or text (at + 1) 0) → Step text at
  mark b class kind is class_is good none kind_is plain kind_fits longest =
      let bytes : take 1 (drop at text) ≡ b ∷ [] = ap (take 1) (cut text at inside) ∙ ap (λ x. x ∷ []) is in
      single class (Some kind) (class_is ∙ ap class_of (sym is)) good none (ap (λ x. kind_of class (x ∷ [])) is
      ∙ kind_is)
      (subst (IsPlain true) (sym is) plain)
      (record { kind_is = subst (IsOfKind kind) (sym bytes) kind_fits; longest = longest })

  -- from each offset at which a comment can only begin there is a step
  pub step_of : Step text at
  step_of = elim (byte_of byte) [
    | run class_is named ↦ of_run class_is named
    | blank class_is is ↦ single Blank None (sym class_is) (λ e. cc) (λ _. refl) refl (blank_plain byte is) tt
    | line_end is ↦ mark line_feed LineFeed LineEnd is refl (λ e. cc) (λ _. refl) refl
        (record { no_hash = refl; blank = refl; allowed = refl }) refl tt
    | comment is ↦ of_comment is
    | colon_mark is ↦ mark colon (Mark Colon) Colon is refl (λ e. cc) (λ _. refl) refl
        (record { no_hash = refl; blank = refl; allowed = refl }) refl tt
    | star_mark is ↦ mark star (Mark Star) Star is refl (λ e. cc) (λ _. refl) refl
        (record { no_hash = refl; blank = refl; allowed = refl }) refl tt
    | unknown class_is is ↦ halts (stops text at inside class_is)
        (ap (λ v. not (v || is_in_alphabet byte))
        (outside inside ∙ differs (λ x. not (is_in_alphabet x)) hash byte refl (ap not is)) ∙ ap not is)
  ]
