use Rattle.dp_words.specs.Command.{values_of}
use Rattle.dp_words.proofs.Ranges.{options_hold}
use Rattle.dp_words.proofs.read.trial.Goals as goal

pub value_of-requires-clause-holds : goal.value_of-requires-clause-holds
value_of-requires-clause-holds c = (options_hold (values_of c.args.given.now) c.requires).0

pub value_of-requires-2-clause-holds : goal.value_of-requires-2-clause-holds
value_of-requires-2-clause-holds c = (options_hold (values_of c.args.given.now) c.requires).1.0

pub value_of-requires-3-clause-holds : goal.value_of-requires-3-clause-holds
value_of-requires-3-clause-holds c = (options_hold (values_of c.args.given.now) c.requires).1.1.0
