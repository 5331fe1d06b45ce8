-- What is written piece by piece.
use Rattle.std.proofs.Common.{◌≡◌, ℕ, ◌-◌, List, ◌++◌, Option, length, take, drop, sym, ap, ◌∙◌, append_assoc}
use Rattle.std.proofs.Common.{take-append-drop}
use Rattle.std.proofs.KnownBytes.{Appends-trans}
use Rattle.std.proofs.lemmas.List.{take_rest}
use Rattle.std.specs.Io.KnownBytes.{Appends}
use Rattle.decplan.specs.Sink.{WritesAllBut}

-- one more piece of the rest is written
pub writes_more : (old mid new : Option (List ℕ)) (bytes rest : List ℕ) (count : ℕ)
    → WritesAllBut old mid bytes rest
    → Appends mid new (take count rest)
    → WritesAllBut old new bytes (take (length rest - count) (drop count rest))
writes_more old mid new bytes rest count before more =
    let split : bytes ≡ (before.front ++ take count rest) ++ drop count rest =
    before.parts ∙ ap (λ xs. before.front ++ xs) (sym (take-append-drop count rest))
    ∙ sym (append_assoc before.front (take count rest) (drop count rest)) in
    record {
      front = before.front ++ take count rest;
      parts = split ∙ ap (λ xs. (before.front ++ take count rest) ++ xs) (sym (take_rest rest count));
      written = Appends-trans old mid new before.front (take count rest) before.written more;
    }
