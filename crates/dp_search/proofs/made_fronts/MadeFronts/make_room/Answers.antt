use Rattle.dp_search.proofs.MadeFronts.{taken_made}
use Rattle.dp_search.proofs.made_fronts.MadeFronts.make_room.Goals as goal

pub returns-in-None : goal.returns-in-None
returns-in-None c m h look merging made =
    taken_made m h look merging c.loop-self.self (c.loop-self.invariant m h look merging made) _ _ _
    c.pop_lru.ensures.entries

pub loop-self-preserved-in-Some : goal.loop-self-preserved-in-Some
loop-self-preserved-in-Some c m h look merging made =
    taken_made m h look merging c.loop-self.self (c.loop-self.invariant m h look merging made) _ _ _
    c.pop_lru.ensures.entries

pub loop-self-preserved : goal.loop-self-preserved
loop-self-preserved c m h look merging made =
    taken_made m h look merging c.loop-self.self (c.loop-self.invariant m h look merging made) _ _ _
    c.pop_lru.ensures.entries
