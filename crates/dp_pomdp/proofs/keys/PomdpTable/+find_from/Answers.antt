use Rattle.std.proofs.Common.{◌≡◌, ◌-◌, ◌<◌, get_or, length, take, drop, arith, rules}
use Rattle.std.proofs.lemmas.List.{length-drop, take_all}
use Rattle.dp_pomdp.proofs.KeyTables.{found_later, none_from}
use Rattle.dp_pomdp.proofs.keys.PomdpTable.+find_from.Goals as goal

pub returns-then-not-is_kept : goal.returns-then-not-is_kept
returns-then-not-is_kept t c =
    none_from _ _ _ c.args.self.now.values c.args.key.now (c.is_kept.ensures.no c.if-not-is_kept.true)

pub returns-in-len2-up : goal.returns-in-len2-up
returns-in-len2-up t c =
    let action : get_or c.args.key.now 0 0 < c.args.self.now.actions = search rules in
    let seen : get_or c.args.key.now 1 0 < c.args.self.now.observations = search rules in
    let rest : take (length c.args.key.now - 2) (drop 2 c.args.key.now) ≡ drop 2 c.args.key.now =
    let long = length-drop 2 c.args.key.now in take_all _ _ (omega (arith, long)) in
    found_later c.args.self.now.actions c.args.self.now.observations c.args.row c.row_after-next.result
    c.args.self.now.values c.args.key.now _ c.find_from.result c.in-len2-up.len_at_least rest action seen
    c.row_after-next.ensures c.find_from.ensures
