-- The parts of a field, read list by list.
use Rattle.std.proofs.Common.{◌≡◌, ℕ, ◌+◌, ◌<◌, List, [], ◌∷◌, ◌++◌, length, get_or, drop, Ok, Err, sym, arith}
use Rattle.std.specs.Prelude.{Some, None}
use Rattle.std.specs.List.{slice_get}
use Rattle.std.proofs.lemmas.List.{drop_all}
use Rattle.dp_meaning.specs.declared.why.Fault.{Fault}
use Rattle.dp_meaning.specs.declared.why.Why.TheVariants.{Expected}
use Rattle.dp_meaning.specs.declared.given_list.GivenList.{GivenList}
use Rattle.dp_meaning.specs.declared.statement.Part.{Part}
use Rattle.dp_meaning.specs.Faults.{◌>>=◌, fault}
use Rattle.dp_meaning.specs.Items.{Piece}
use Rattle.dp_meaning.specs.Fields.{Axis, Field, part_of, parts_in}
use Rattle.dp_text.proofs.Continuing.{Continues, starts, continues_one, continues_none}
use Rattle.dp_items.proofs.Places.{drop_at, drop_none, drop_item}

-- the parts of the first k lists are read
pub record PartsRead (axis : Axis) (field : Field) (parts : List Part) (k : ℕ) : Type 0 where
  pub is : Continues (parts_in axis field field.pieces) parts (parts_in (drop k axis) field (drop k field.pieces))

pub none_read : (axis : Axis) (field : Field) → PartsRead axis field [] 0
none_read axis field = record { is = starts (parts_in axis field field.pieces) }

module _ {axis : Axis} {field : Field} {parts : List Part} {k : ℕ} (h : PartsRead axis field parts k) where
  -- at a list and a token that says something of it
  at_token : (list : GivenList) (piece : Piece) → k < length axis → list ≡ get_or axis k list
      → Some piece ≡ slice_get field.pieces k
      → Continues (parts_in axis field field.pieces) parts
      (part_of list piece >>= λ first. parts_in (drop (k + 1) axis) field (drop (k + 1) field.pieces) >>= λ others.
      Ok (first ∷ others))
  unfolding parts_in
  at_token list piece within l p =
      let lists = drop_item axis k list within in
      let pieces = drop_at field.pieces k piece (sym p) in rw (lists, ← l, pieces) at h.is

  pub part_read : (list : GivenList) (piece : Piece) (part : Part) → k < length axis → list ≡ get_or axis k list
      → Some piece ≡ slice_get field.pieces k → Ok part ≡ part_of list piece
      → PartsRead axis field (parts ++ part ∷ []) (k + 1)
  part_read list piece part within l p read = record {
    is = continues_one _ parts part _ (rw (← read) at (at_token list piece within l p));
  }

  -- a token names nothing of its list
  pub part_fault : (list : GivenList) (piece : Piece) (e : Fault) → k < length axis → list ≡ get_or axis k list
      → Some piece ≡ slice_get field.pieces k → Err e ≡ part_of list piece → parts_in axis field field.pieces ≡ Err e
  part_fault list piece e within l p read =
      let stops : Continues (parts_in axis field field.pieces) parts (Err e) =
      rw (← read) at (at_token list piece within l p) in stops.is

  -- the field ends too early
  pub part_missing : (list : GivenList) → k < length axis → list ≡ get_or axis k list
      → None ≡ slice_get field.pieces k
      → parts_in axis field field.pieces ≡ fault Expected field.colon
  unfolding parts_in
  part_missing list within l p =
      let lists = drop_item axis k list within in
      let pieces = drop_none field.pieces k (sym p) in
      let stops : Continues (parts_in axis field field.pieces) parts (fault Expected field.colon) =
      rw (lists, ← l, pieces) at h.is in stops.is

  -- the field ends in time
  pub parts_end : k ≡ length axis → None ≡ slice_get field.pieces k → parts_in axis field field.pieces ≡ Ok parts
  unfolding parts_in
  parts_end e p =
      let lists = drop_all k axis (omega arith) in
      let pieces = drop_none field.pieces k (sym p) in continues_none _ parts (rw (lists, pieces) at h.is)

  -- the field goes on too long
  pub parts_go_on : (piece : Piece) → k ≡ length axis → Some piece ≡ slice_get field.pieces k
      → parts_in axis field field.pieces ≡ fault Expected piece.at
  unfolding parts_in
  parts_go_on piece e p =
      let lists = drop_all k axis (omega arith) in
      let pieces = drop_at field.pieces k piece (sym p) in
      let stops : Continues (parts_in axis field field.pieces) parts (fault Expected piece.at) =
      rw (lists, pieces) at h.is in stops.is
