use Rattle.std.proofs.Common.{length, sym, ap}
use Rattle.std.proofs.lemmas.Result.{err_from_is_err_and}
use Rattle.dp_model.specs.declared.limit.Limit.TheVariants.{ModelBytes}
use Rattle.dp_model.specs.Limits.{passed_by}
use Rattle.dp_writer.specs.WrittenModel.{written_model}
use Rattle.dp_cli.specs.Planned.{large_fault}
use Rattle.dp_cli.proofs.WrittenFaults.{stops_writing}
use Rattle.dp_cli.proofs.make.make_of.Goals as goal

pub returns-in_err-write_model : goal.returns-in_err-write_model
returns-in_err-write_model c =
    let exit = err_from_is_err_and c.from_residual.result c.from_residual.ensures.1 in
    rw (exit.1, exit.2)
    (stops_writing (passed_by ModelBytes (length (written_model c.args.model.now))) c.in_err-write_model.field-0.0
    c.in_err-write_model.ensures.too_large)

pub returns : goal.returns
returns c = (
  ap large_fault c.in_ok-write_model.ensures.within,
  record { is_model = c.invariant.ensures.model; tells = c.in_ok-write_model.ensures.text },
)
