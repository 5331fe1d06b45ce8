-- A list that is read item by item.
use Rattle.std.proofs.Common.{◌≡◌, List, [], ◌∷◌, ◌++◌, Result, Ok, Err, refl, ap, ◌∙◌, sym, append_assoc}
use Rattle.std.proofs.lemmas.List.{append-nil}
use Rattle.dp_meaning.specs.declared.why.Fault.{Fault}
use Rattle.dp_meaning.specs.Faults.{◌>>=◌}

-- these items, and then what the rest gives
abbrev pub behind : {A : Type 0} → List A → Result (List A) Fault → Result (List A) Fault
behind items (Ok more) = Ok (items ++ more)
behind items (Err e) = Err e

-- all that is read is these items and then what the rest gives
pub record Continues {A : Type 0} (all : Result (List A) Fault) (items : List A) (rest : Result (List A) Fault) :
    Type 0 where
  pub is : all ≡ behind items rest

behind_none : {A : Type 0} (rest : Result (List A) Fault) → rest ≡ behind [] rest
behind_none (Ok more) = refl
behind_none (Err e) = refl

-- before the first item, all is left
pub starts : {A : Type 0} (all : Result (List A) Fault) → Continues all [] all
starts all = record { is = behind_none all }

-- one more item is read
behind_one : {A : Type 0} (items : List A) (x : A) (rest : Result (List A) Fault)
    → behind items (rest >>= λ others. Ok (x ∷ others)) ≡ behind (items ++ x ∷ []) rest
behind_one items x (Ok more) = ap Ok (sym (append_assoc items (x ∷ []) more))
behind_one items x (Err e) = refl

pub continues_one : {A : Type 0} (all : Result (List A) Fault) (items : List A) (x : A) (rest : Result (List A) Fault)
    → Continues all items (rest >>= λ others. Ok (x ∷ others)) → Continues all (items ++ x ∷ []) rest
continues_one all items x rest h = record { is = h.is ∙ behind_one items x rest }

-- nothing is left
pub continues_none : {A : Type 0} (all : Result (List A) Fault) (items : List A) → Continues all items (Ok [])
    → all ≡ Ok items
continues_none all items h = h.is ∙ ap Ok (append-nil items)
