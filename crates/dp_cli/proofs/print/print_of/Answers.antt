use Rattle.std.proofs.Common.{length, sym, ap}
use Rattle.std.proofs.lemmas.Result.{err_from_is_err_and}
use Rattle.dp_model.specs.declared.limit.Limit.TheVariants.{TextBytes}
use Rattle.dp_model.specs.Limits.{passed_by}
use Rattle.dp_writer.specs.TableText.{table_text}
use Rattle.dp_cli.specs.Planned.{large_fault}
use Rattle.dp_cli.proofs.WrittenFaults.{stops_writing}
use Rattle.dp_cli.proofs.print.print_of.Goals as goal

pub returns-in_err-write_table : goal.returns-in_err-write_table
returns-in_err-write_table c =
    let exit = err_from_is_err_and c.from_residual.result c.from_residual.ensures.1 in
    let text = table_text c.args.read.now.model c.args.read.now.repaired in
    rw (exit.1, exit.2)
    (stops_writing (passed_by TextBytes (length text)) c.in_err-write_table.field-0.0
    c.in_err-write_table.ensures.too_large)

pub returns : goal.returns
returns c = (ap large_fault c.in_ok-write_table.ensures.within, c.in_ok-write_table.ensures.text)
