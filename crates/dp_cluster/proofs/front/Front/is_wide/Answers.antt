use Rattle.std.proofs.Common.{◌<◌, arith, rules}
use Rattle.dp_cluster.proofs.WideFronts.{last_widens, not_last, wide_deep, wide_late}
use Rattle.dp_cluster.proofs.front.Front.is_wide.Goals as goal

pub returns-then-stage-horizon : goal.returns-then-stage-horizon
returns-then-stage-horizon c =
    wide_late c.args.m.now.model c.args.self.now.horizon c.args.above c.args.self.now.front
    (omega (arith, c.stage.ensures, c.horizon.ensures, c.if-stage-horizon.true))

pub returns-then-above-ge-DEEPEST : goal.returns-then-above-ge-DEEPEST
returns-then-above-ge-DEEPEST c =
    let early : c.args.self.now.front.stage < c.args.self.now.horizon = omega
    (arith, c.stage.ensures, c.horizon.ensures, c.if-stage-horizon.false) in
    wide_deep c.args.m.now.model c.args.self.now.horizon c.args.above c.args.self.now.front early
    (omega (arith, c.if-above-ge-DEEPEST.true))

pub returns-then-not-has_last_choice : goal.returns-then-not-has_last_choice
returns-then-not-has_last_choice c =
    let less : c.args.above < 2048 = omega (arith, c.if-above-ge-DEEPEST.false) in
    not_last c.args.m.now.model c.args.self.now.horizon c.args.above c.args.self.now.front less
    (search (rules, c.has_last_choice.ensures, c.if-not-has_last_choice.true, c.if-not-has_last_choice.ensures))

pub returns : goal.returns
returns c =
    let early : c.args.self.now.front.stage < c.args.self.now.horizon = omega
    (arith, c.stage.ensures, c.horizon.ensures, c.if-stage-horizon.false) in
    let less : c.args.above < 2048 = omega (arith, c.if-above-ge-DEEPEST.false) in
    last_widens c.args.m.now.model c.args.self.now.horizon c.args.above c.args.self.now.front _ early less
    (search (
      rules,
      c.has_last_choice.ensures,
      c.if-not-has_last_choice.false,
      c.if-not-has_last_choice.ensures,
    )) c.widens.ensures
