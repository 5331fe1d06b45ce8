-- Which texts are decimal numbers, indices and names, computed.
use Rattle.std.proofs.Common.{◌≡◌, [], ◌∷◌, true, false, refl}
use Rattle.std.specs.Prelude.{codes}
use Rattle.std.specs.List.{list_all, list_any}
use Rattle.dp_base.specs.DecimalShape.{is_decimal, is_index}
use Rattle.dp_base.specs.Names.{is_word, is_name}

pub decimal_texts : list_all is_decimal (
    codes "0" ∷ codes "1." ∷ codes ".5" ∷ codes "1.5" ∷ codes "+1" ∷ codes "-2.50" ∷ codes "1e-3" ∷ codes "1E+2" ∷
    codes "1e999"
    ∷ codes "-.5e7" ∷ codes "00.100" ∷ []) ≡ true
unfolding is_decimal
decimal_texts = refl

pub other_texts : list_any is_decimal (
    codes "" ∷ codes "." ∷ codes "+" ∷ codes "-" ∷ codes "-." ∷ codes "+-1" ∷ codes "1.2.3" ∷ codes "e5" ∷ codes ".e5"
    ∷ codes "1e" ∷ codes "1e+"
    ∷ codes "1e1000" ∷ codes "1e1.0" ∷ codes "1x" ∷ codes " 1" ∷ codes "1 " ∷ codes "0x10" ∷ []) ≡ false
unfolding is_decimal
other_texts = refl

pub index_texts : list_all is_index (codes "0" ∷ codes "12" ∷ codes "007" ∷ codes "65537" ∷ []) ≡ true
unfolding is_index
index_texts = refl

pub not_index_texts : list_any is_index (codes "" ∷ codes "+1" ∷ codes "1." ∷ codes "1e2" ∷ codes "a" ∷ []) ≡ false
unfolding is_index
not_index_texts = refl

pub name_texts : list_all is_name (codes "listen" ∷ codes "tiger-left" ∷ codes "T" ∷ codes "_" ∷ codes "-" ∷ codes "."
    ∷ codes "e5" ∷ codes "1.2.3" ∷ codes "Uniform" ∷ codes "reward" ∷ [])
    ≡ true
unfolding is_name is_word is_decimal
name_texts = refl

pub not_name_texts : list_any is_name (codes "" ∷ codes "uniform" ∷ codes "identity" ∷ codes "1" ∷ codes "-1e5" ∷
    codes "a b" ∷ codes "a:b" ∷ codes "*" ∷ codes "a#" ∷ [])
    ≡ false
unfolding is_name is_word is_decimal
not_name_texts = refl
