-- Bytes appended to a text, one piece behind the other.
use Rattle.std.proofs.Common.{◌≡◌, List, [], ◌++◌, ℕ, ap, sym, ◌∙◌, append_assoc}
use Rattle.std.proofs.lemmas.List.{append-nil}
use Rattle.dp_writer.specs.LimitedTexts.{LimitedTextView, added}

-- bytes behind bytes
pub behind : (x y z : LimitedTextView) (a b : List ℕ) → y ≡ added x a → z ≡ added y b → z ≡ added x (a ++ b)
behind x y z a b e f = f ∙ ap (λ v. added v b) e ∙ ap (λ l. record x { bytes = l }) (append_assoc x.bytes a b)

-- no bytes
pub unchanged : (x : LimitedTextView) → x ≡ added x []
unchanged x = ap (λ l. record x { bytes = l }) (sym (append-nil x.bytes))

-- the bytes are these
pub spelled : (x z : LimitedTextView) (a b : List ℕ) → a ≡ b → z ≡ added x a → z ≡ added x b
spelled x z a b e f = f ∙ ap (added x) e
