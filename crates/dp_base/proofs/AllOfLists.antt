-- What holds of each item of a list.
use Rattle.std.proofs.Common.{◌+◌, All, List, ◌++◌, length, get_or, subst, arith}
use Rattle.std.proofs.lemmas.List.{get_or_append_left, get_or-append-add, length-append}

-- of two lists one behind the other it holds of each item of the first ..
pub all_left : {X : Type 0} (P : X → Type 0) (xs ys : List X) → All P (xs ++ ys) → All P xs
all_left P xs ys all = λ i x lt. subst P (get_or_append_left xs ys x i lt) (all i x (let size = length-append xs ys in
    omega arith))

-- .. and of the second
pub all_right : {X : Type 0} (P : X → Type 0) (xs ys : List X) → All P (xs ++ ys) → All P ys
all_right P xs ys all = λ i x lt. subst P (get_or-append-add xs ys i x)
    (all (length xs + i) x (let size = length-append xs ys in omega arith))

-- what follows from it holds too
pub all_weaker : {X : Type 0} (P Q : X → Type 0) (xs : List X) → ((x : X) → P x → Q x) → All P xs → All Q xs
all_weaker P Q xs step all = λ i x lt. step (get_or xs i x) (all i x lt)
