-- The titles of certificate texts.
use Rattle.std.proofs.Common.{◌≡◌, [], ◌∷◌, refl, arith}
use Rattle.std.specs.Prelude.{codes}
use Rattle.std.specs.Fmt.{decimal}
use Rattle.std.specs.List.{join_with_byte}
use Rattle.std.proofs.lemmas.Fmt.{decimal_digit}
use Rattle.dp_lines.specs.Lines.{AreWords}

pub one_is_word : AreWords (codes "decplan" ∷ codes "certificate" ∷ decimal 1 ∷ [])
one_is_word = let e : decimal 1 ≡ 49 ∷ [] = decimal_digit 1 (omega arith) in
    rw e (assumption, (assumption, (assumption, tt)))

pub two_is_word : AreWords (codes "decplan" ∷ codes "certificate" ∷ decimal 2 ∷ [])
two_is_word = let e : decimal 2 ≡ 50 ∷ [] = decimal_digit 2 (omega arith) in
    rw e (assumption, (assumption, (assumption, tt)))

pub one_joined : codes "decplan certificate 1" ≡ join_with_byte 32
    (codes "decplan" ∷ codes "certificate" ∷ decimal 1 ∷ [])
one_joined = let e : decimal 1 ≡ 49 ∷ [] = decimal_digit 1 (omega arith) in rw e refl

pub two_joined : codes "decplan certificate 2" ≡ join_with_byte 32
    (codes "decplan" ∷ codes "certificate" ∷ decimal 2 ∷ [])
two_joined = let e : decimal 2 ≡ 50 ∷ [] = decimal_digit 2 (omega arith) in rw e refl
