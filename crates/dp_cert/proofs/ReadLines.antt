-- Lines that were read: what they are, and what follows them.
use Rattle.std.proofs.Common.{◌≡◌, ℕ, suc, ◌+◌, ◌≤◌, List, [], ◌∷◌, ◌++◌, length, Result, Ok, Err, refl, sym, ap, ◌∙◌}
use Rattle.std.proofs.Common.{append_assoc, arith}
use Rattle.std.specs.Prelude.{ℤ, Some}
use Rattle.std.specs.List.{join_with_byte}
use Rattle.std.proofs.lemmas.List.{length-append}
use Rattle.dp_spec.proofs.TextLemmas.{text_of_lines-append}
use Rattle.dp_spec.specs.TextLines.{AllAllowed, Allows, Item, Line, line_text, spelled_items, text_of_lines}
use Rattle.dp_model.specs.declared.limit.TooLarge.{TooLarge}
use Rattle.dp_lines.specs.declared.why.FileWhy.{FileWhy}
use Rattle.dp_lines.specs.Grammar.{Fault, bad, next, nth_form}
use Rattle.dp_lines.specs.Lines.{AreWords, fixed_form}
use Rattle.dp_lines.specs.Scanning.{Found, Rest, front_of, lines_at}
use Rattle.dp_lines.proofs.FirstLines.{AllHaveItems, IsLineAnswer, lines_answer}
use Rattle.dp_lines.proofs.WrittenLines.{says-line_text, typed_allowed}
use Rattle.dp_policy.proofs.ReadBytes.{IsLine, words_are}
use Rattle.dp_cert.specs.PolicyGrammar.{Text}
use Rattle.dp_lines.specs.Steps.{the_words}

-- ---- lines at the front of bytes

-- the bytes begin with these lines, each of which allows its numbers, and more follow
pub record AreLines (lines : List Line) (bytes more : List ℕ) : Type 0 where
  pub allowed : AllAllowed lines
  pub text : bytes ≡ text_of_lines lines ++ more

pub no_lines : (bytes : List ℕ) → AreLines [] bytes bytes
no_lines bytes = record { allowed = tt; text = refl }

pub line_then : (form : List Item) (zs : List ℤ) (lines : List Line) (bytes mid more : List ℕ)
    → IsLine form bytes zs mid
    → AreLines lines mid more → AreLines (record { form = form; numbers = zs } ∷ lines) bytes more
line_then form zs lines bytes mid more is are = record {
  allowed = (is.allowed, are.allowed);
  text = is.first ∙ ap (λ (l : List ℕ). line_text form zs ++ 10 ∷ l) are.text
      ∙ sym (append_assoc (line_text form zs) (10 ∷ text_of_lines lines) more);
}

all_then : (ls ks : List Line) → AllAllowed ls → AllAllowed ks → AllAllowed (ls ++ ks)
all_then [] ks a b = b
all_then (l ∷ ls) ks a b = (a.0, all_then ls ks a.1 b)

pub lines_then : (ls ks : List Line) (bytes mid more : List ℕ) → AreLines ls bytes mid → AreLines ks mid more
    → AreLines (ls ++ ks) bytes more
lines_then ls ks bytes mid more are others = record {
  allowed = all_then ls ks are.allowed others.allowed;
  text = are.text ∙ ap (λ (l : List ℕ). text_of_lines ls ++ l) others.text
      ∙ sym (append_assoc (text_of_lines ls) (text_of_lines ks) more)
      ∙ ap (λ (l : List ℕ). l ++ more) (sym (text_of_lines-append ls ks));
}

-- each line takes a byte
lines_size : (ls : List Line) (more : List ℕ) → length ls + length more ≤ length (text_of_lines ls ++ more)
lines_size [] more = omega arith
lines_size (l ∷ ls) more =
    let all = length-append (line_text l.form l.numbers ++ 10 ∷ text_of_lines ls) more in
    let first = length-append (line_text l.form l.numbers) (10 ∷ text_of_lines ls) in
    let others = length-append (text_of_lines ls) more in
    omega (arith, all, first, others, lines_size ls more)

pub few_lines : (ls : List Line) (bytes more : List ℕ) → AreLines ls bytes more → length ls ≤ length bytes
few_lines ls bytes more are = let all = lines_size ls more in let e = ap length are.text in
    omega (arith, all, e)

-- ---- one line

-- a line of one of these forms was read, and then what follows it
pub record IsNext {V : Type 0} (forms : List (List Item)) (after : ℕ → List ℤ → Text V) (line : ℕ)
    (bytes : List ℕ)
    (rest : Rest V) : Type 0 where
  pub k : ℕ
  pub form : List Item
  pub zs : List ℤ
  pub more : List ℕ
  pub is_form : nth_form forms k ≡ Some form
  pub is_line : IsLine form bytes zs more
  pub behind : front_of (after k zs) (suc line) more ≡ Ok rest

pub next_read : {V : Type 0} (forms : List (List Item)) (after : ℕ → List ℤ → Text V) (line : ℕ)
    (bytes : List ℕ)
    (rest : Rest V) → AllHaveItems forms → front_of (next forms after) line bytes ≡ Ok rest
    → IsNext forms after line bytes rest
next_read {V = V} forms after line bytes rest has e =
    by_line (lines_at forms bytes) (lines_answer forms bytes has) e
  where
    by_line : (r : Result Found FileWhy) → IsLineAnswer forms bytes r
        → (elim r as (λ x. Result (Rest V) (Fault TooLarge))
        [ Ok found ↦ front_of (after found.k found.zs) (suc line) found.more | Err why ↦ Err (bad line why) ])
        ≡ Ok rest → IsNext forms after line bytes rest
    by_line (Ok found) a e = record {
      k = found.k;
      form = a.form;
      zs = found.zs;
      more = found.more;
      is_form = a.begins.is_form;
      is_line = record {
        allowed = typed_allowed a.form found.zs a.begins.says.items a.begins.says.spelled a.typed a.in_range;
        first = a.begins.first ∙ ap (λ (l : List ℕ). l ++ 10 ∷ found.more)
            (says-line_text a.form found.zs a.begins.line a.begins.says a.typed);
      };
      behind = e;
    }
    by_line (Err why) a e = absurd cc

spelled_words : (ws : List (List ℕ)) → spelled_items (fixed_form ws) [] ≡ ws
spelled_words [] = refl
spelled_words (w ∷ ws) = ap (λ (l : List (List ℕ)). w ∷ l) (spelled_words ws)

pub allowed_words : (ws : List (List ℕ)) → Allows (fixed_form ws) []
allowed_words [] = tt
allowed_words (w ∷ ws) = allowed_words ws

-- a line of words
pub words_read : (ws : List (List ℕ)) (line : ℕ) (bytes : List ℕ) (rest : Rest (Unit {0})) → AreWords ws
    → front_of {L = TooLarge} (the_words ws) line bytes ≡ Ok rest → IsLine (fixed_form ws) bytes [] rest.bytes
words_read ws line bytes rest are e = record {
  allowed = allowed_words ws;
  first = words_are ws line bytes rest are e
      ∙ ap (λ (l : List (List ℕ)). join_with_byte 32 l ++ 10 ∷ rest.bytes) (sym (spelled_words ws));
}
