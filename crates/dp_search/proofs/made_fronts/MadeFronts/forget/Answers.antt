use Rattle.dp_search.proofs.MadeFronts.{forgotten_made}
use Rattle.dp_search.proofs.made_fronts.MadeFronts.forget.Goals as goal

pub returns-in-Some : goal.returns-in-Some
returns-in-Some c m h look merging made =
    forgotten_made m h look merging c.args.self.now made _ _ _ c.pop.ensures.entries

pub returns-in_default : goal.returns-in_default
returns-in_default c m h look merging made =
    forgotten_made m h look merging c.args.self.now made _ _ _ c.pop.ensures.entries
