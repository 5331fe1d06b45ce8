use Rattle.std.proofs.Common.{[], drop, ◌+◌, arith}
use Rattle.std.proofs.lemmas.Result.{err_from_is_err_and}
use Rattle.dp_meaning.specs.NameLists.{names_after}
use Rattle.dp_text.proofs.NameListLemmas.{name_one, name_wrong, name_last, one_more}
use Rattle.dp_text.proofs.name_lists.names.Goals as goal

pub loop-place-preserved : goal.loop-place-preserved
loop-place-preserved c =
    let pieces = c.args.pieces.now in
    let place = c.loop-place.place in
    let more = one_more c.loop-place.names c.piece_at-piece.result c.in_ok-names.names c.in_ok-names.ensures in
    record {
      is = name_one (names_after [] pieces) c.loop-place.names c.piece_at-piece.result (drop (place + 1) pieces)
          (drop place pieces)
          c.in_ok-names.names c.piece_at-piece.ensures c.in_ok-names.ensures c.loop-place.invariant.is;
      few = omega (arith, more);
    }

pub returns-in_err-names : goal.returns-in_err-names
returns-in_err-names c =
    let pieces = c.args.pieces.now in
    let place = c.loop-place.place in
    let exit = err_from_is_err_and c.from_residual.result c.from_residual.ensures.1 in
    rw (exit.1, exit.2)
    (name_wrong (names_after [] pieces) c.loop-place.names c.piece_at-piece.result (drop (place + 1) pieces)
    (drop place pieces)
    c.in_err-names.field-0.0 c.piece_at-piece.ensures c.in_err-names.ensures c.loop-place.invariant.is)

pub returns : goal.returns
returns c = name_last (names_after [] c.args.pieces.now) c.loop-place.names c.loop-place.place c.args.pieces.now
    (omega (arith, c.len-place-end.ensures.is)) c.loop-place.invariant.is
