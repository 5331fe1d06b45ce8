use Rattle.dp_cli.proofs.Causes.{contents_unchanged, logs_files, read_fault_runs, usage_runs}
use Rattle.dp_cli.proofs.Certifying.{certified}
use Rattle.dp_cli.proofs.Doing.{runs_by}
use Rattle.dp_cli.proofs.Finding.{found}
use Rattle.dp_cli.proofs.Telling.{cause_as_told, refused_as_told, runs_as_told}
use Rattle.dp_cli.proofs.TooLong.{too_long}
use Rattle.dp_cli.proofs.run.Goals as goal

pub returns-clause-runs : goal.returns-clause-runs
returns-clause-runs g c = runs_by _ c.do_words-outcome.result c.do_words-outcome.ensures c.put_outcome.ensures

pub returns-clause-told : goal.returns-clause-told
returns-clause-told g c = runs_as_told _ _ _ _ _ _ (runs_by _ c.do_words-outcome.result
    c.do_words-outcome.ensures
    c.put_outcome.ensures)

pub returns-clause-fetched : goal.returns-clause-fetched
returns-clause-fetched g c = logs_files _ _ _ _ c.do_words-outcome.ensures

pub returns-clause-read_fault : goal.returns-clause-read_fault
returns-clause-read_fault g c = read_fault_runs _ (runs_by _ c.do_words-outcome.result
    c.do_words-outcome.ensures
    c.put_outcome.ensures)

pub returns-clause-unchanged : goal.returns-clause-unchanged
returns-clause-unchanged g c = contents_unchanged _ _ _ _ c.do_words-outcome.ensures

pub returns-clause-certified : goal.returns-clause-certified
returns-clause-certified g c = certified _ _ _ _ _ _ (runs_by _ c.do_words-outcome.result
    c.do_words-outcome.ensures c.put_outcome.ensures)

pub returns-clause-too_long : goal.returns-clause-too_long
returns-clause-too_long g c = too_long _ _ _ _ _ _ (runs_by _ c.do_words-outcome.result
    c.do_words-outcome.ensures
    c.put_outcome.ensures)

pub returns-clause-found : goal.returns-clause-found
returns-clause-found g c = λ no_fault memory.
    found _ _ _ _ _ _ (runs_by _ c.do_words-outcome.result c.do_words-outcome.ensures c.put_outcome.ensures)
    no_fault memory

pub returns-clause-usage : goal.returns-clause-usage
returns-clause-usage g c = usage_runs _ (runs_by _ c.do_words-outcome.result c.do_words-outcome.ensures
    c.put_outcome.ensures)

pub returns-clause-cause : goal.returns-clause-cause
returns-clause-cause g c = λ no_fault memory.
    cause_as_told _ _ _ _ _ _ (runs_as_told _ _ _ _ _ _ (runs_by _ c.do_words-outcome.result
    c.do_words-outcome.ensures c.put_outcome.ensures)) no_fault memory

pub returns-clause-refused : goal.returns-clause-refused
returns-clause-refused g c = refused_as_told _ _ _ _ _ _ (runs_as_told _ _ _ _ _ _
    (runs_by _ c.do_words-outcome.result c.do_words-outcome.ensures c.put_outcome.ensures))
