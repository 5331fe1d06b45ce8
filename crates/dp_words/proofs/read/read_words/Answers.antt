use Rattle.std.proofs.Common.{map, string_bytes}
use Rattle.dp_words.proofs.Jobs.{fault_up, told_as}
use Rattle.dp_words.proofs.Steps.{read_has, read_looks, read_sizes, read_version}
use Rattle.dp_words.proofs.read.read_words.Goals as goal

pub returns-in_err-given : goal.returns-in_err-given
returns-in_err-given c =
    let words = map string_bytes c.args.words.now in
    let read = fault_up words c.from_residual.result c.in_err-given.field-0.0 c.from_residual.ensures.1
    c.in_err-given.ensures in
    record {
      read = read;
      some_step = read_has words c.from_residual.result read;
      look = read_looks words c.from_residual.result read;
      version = read_version words c.from_residual.result read;
      sizes = read_sizes words c.from_residual.result read;
    }

pub returns : goal.returns
returns c =
    let words = map string_bytes c.args.words.now in
    let read = told_as words c.in_ok-given.given c.matches_job.result c.in_ok-given.ensures
    c.matches_job.ensures in
    record {
      read = read;
      some_step = read_has words c.matches_job.result read;
      look = read_looks words c.matches_job.result read;
      version = read_version words c.matches_job.result read;
      sizes = read_sizes words c.matches_job.result read;
    }
