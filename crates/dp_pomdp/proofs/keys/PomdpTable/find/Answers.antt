use Rattle.std.proofs.Common.{◌/◌, ◌<◌, length, rules}
use Rattle.dp_pomdp.proofs.KeyTables.{found_is}
use Rattle.dp_pomdp.proofs.keys.PomdpTable.find.Goals as goal

pub returns : goal.returns
returns c e m h most table =
    let early : length c.args.key.now / 2 < c.args.self.now.horizon = search rules in
    found_is e m h most c.args.self.now table c.args.key.now c.find_from.result early c.find_from.ensures
