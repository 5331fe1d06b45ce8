-- Exactly so many Numbers, read one by one.
use Rattle.std.proofs.Common.{◌≡◌, ℕ, zero, suc, ◌-◌, ◌<◌, ◌≤◌, Bool, List, [], ◌∷◌, ◌++◌, length, Result, Ok, Err}
use Rattle.std.proofs.Common.{refl, arith}
use Rattle.dp_base.specs.declared.decimal.Decimal.{Decimal}
use Rattle.dp_meaning.specs.declared.why.Fault.{Fault}
use Rattle.dp_meaning.specs.declared.why.Why.TheVariants.{Expected}
use Rattle.dp_meaning.specs.Faults.{◌>>=◌, fault}
use Rattle.dp_meaning.specs.Items.{Piece}
use Rattle.dp_meaning.specs.Numbers.{number, numbers, ended}
use Rattle.dp_text.proofs.Continuing.{Continues, continues_one, continues_none}

abbrev pub ends : List Piece → Result (Unit {0}) Fault
ends pieces = ended tt pieces

-- whether more stands here is the same for every value
pub ended_ok : {A : Type 0} (x : A) (rest : List Piece) → ends rest ≡ Ok tt → ended x rest ≡ Ok x
ended_ok x [] h = refl
ended_ok x (piece ∷ pieces) h = cc

pub ended_fault : {A : Type 0} (x : A) (rest : List Piece) (e : Fault) → ends rest ≡ Err e → ended x rest ≡ Err e
ended_fault x [] e h = cc
ended_fault x (piece ∷ pieces) e h = cc

module _ (f : Decimal → Bool) (next : ℕ) where
  left_one : (n : ℕ) → suc n - 1 ≡ n
  left_one n = omega arith

  -- the first of some Numbers
  first_of : (left : ℕ) (piece : Piece) (pieces : List Piece) → 0 < left
      → numbers f next left (piece ∷ pieces)
      ≡ (number f piece >>= λ first. numbers f next (left - 1) pieces >>= λ others. Ok
      (first ∷ others))
  unfolding numbers
  first_of zero piece pieces h = absurd (omega arith)
  first_of (suc n) piece pieces h = rw (left_one n) refl

  pub numbers_one : (all : Result (List Decimal) Fault) (items : List Decimal) (left : ℕ) (piece : Piece)
      (pieces rest : List Piece)
      (d : Decimal)
      → 0 < left → rest ≡ piece ∷ pieces → Ok d ≡ number f piece → Continues all items (numbers f next left rest)
      → Continues all (items ++ d ∷ []) (numbers f next (left - 1) pieces)
  numbers_one all items left piece pieces rest d some is read h =
      continues_one all items d (numbers f next (left - 1) pieces)
      (rw (is, first_of left piece pieces some, ← read) at h)

  pub numbers_fault : (all : Result (List Decimal) Fault) (items : List Decimal) (left : ℕ) (piece : Piece)
      (pieces rest : List Piece)
      (e : Fault)
      → 0 < left → rest ≡ piece ∷ pieces → Err e ≡ number f piece → Continues all items (numbers f next left rest)
      → all ≡ Err e
  numbers_fault all items left piece pieces rest e some is read h =
      let stops : Continues all items (Err e) = rw (is, first_of left piece pieces some, ← read) at h in
      stops.is

  missing : (left : ℕ) → 0 < left → numbers f next left [] ≡ fault Expected next
  unfolding numbers
  missing zero h = absurd (omega arith)
  missing (suc n) h = refl

  pub numbers_missing : (all : Result (List Decimal) Fault) (items : List Decimal) (left : ℕ) (rest : List Piece)
      → 0 < left → rest ≡ [] → Continues all items (numbers f next left rest) → all ≡ fault Expected next
  numbers_missing all items left rest some is h =
      let stops : Continues all items (fault Expected next) = rw (is, missing left some) at h in
      stops.is

  last : (left : ℕ) (pieces : List Piece) → left ≤ 0 → numbers f next left pieces ≡ ended [] pieces
  unfolding numbers
  last zero pieces h = refl
  last (suc n) pieces h = absurd (omega arith)

  pub numbers_end : (all : Result (List Decimal) Fault) (items : List Decimal) (left : ℕ) (rest : List Piece)
      → left ≤ 0 → ends rest ≡ Ok tt → Continues all items (numbers f next left rest) → all ≡ Ok items
  numbers_end all items left rest none at_end h = continues_none all items
      (rw (last left rest none, ended_ok {A = List Decimal} [] rest at_end) at h)

  pub numbers_more : (all : Result (List Decimal) Fault) (items : List Decimal) (left : ℕ) (rest : List Piece)
      (e : Fault)
      → left ≤ 0 → ends rest ≡ Err e → Continues all items (numbers f next left rest) → all ≡ Err e
  numbers_more all items left rest e none goes_on h =
      let stops : Continues all items (Err e) = rw (
        last left rest none,
        ended_fault {A = List Decimal} [] rest e goes_on,
      ) at h in
      stops.is

  -- where more are wanted than there are tokens, it is all one how many
  pub numbers_beyond : (m n : ℕ) (pieces : List Piece) → length pieces < m → length pieces < n
      → numbers f next m pieces ≡ numbers f next n pieces
  unfolding numbers
  numbers_beyond zero n pieces few fewer = absurd (omega arith)
  numbers_beyond (suc m) zero pieces few fewer = absurd (omega arith)
  numbers_beyond (suc m) (suc n) [] few fewer = refl
  numbers_beyond (suc m) (suc n) (piece ∷ pieces) few fewer =
      rw (numbers_beyond m n pieces (omega arith) (omega arith)) refl
