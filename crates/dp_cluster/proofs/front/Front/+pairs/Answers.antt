use Rattle.std.proofs.Common.{[], ◌∷◌, ◌++◌, sym, ap, ◌∙◌, arith}
use Rattle.dp_cluster.proofs.KeyPairs.{earlier_history, history_long, pairs_next}
use Rattle.dp_cluster.proofs.front.Front.+pairs.Goals as goal

pub without_last-requires : goal.without_last-requires
without_last-requires t c = history_long c.args.m.now.model c.args.time c.args.own.now c.requires.history

pub last_seen-requires : goal.last_seen-requires
last_seen-requires t c = history_long c.args.m.now.model c.args.time c.args.own.now c.requires.history

pub fixed_action-requires-clause-history : goal.fixed_action-requires-clause-history
fixed_action-requires-clause-history t c =
    earlier_history c.args.m.now.model c.args.time c.args.own.now c.deref.result.now c.if-time-eq0.false
    (c.deref.ensures.value ∙ c.in_ok-before.ensures) c.requires.history

pub pairs-requires : goal.pairs-requires
pairs-requires t c =
    let some = c.if-time-eq0.false in (
      omega arith,
      (
        c.requires.of_model,
        (
          c.requires.numbers,
          (
            omega arith,
            earlier_history c.args.m.now.model c.args.time c.args.own.now c.deref-2.result.now some
                (c.deref-2.ensures.value ∙ c.in_ok-before.ensures) c.requires.history,
          ),
        ),
      ),
    )

pub returns : goal.returns
returns t c =
    pairs_next c.args.m.now.model c.args.self.now.front c.args.time c.args.own.now c.deref.result.now
    c.in_ok-pairs.pairs.items c.push-2.new.self.items c.in_ok-action.action c.in_ok-seen.seen c.if-time-eq0.false
    (c.deref.ensures.value ∙ c.in_ok-before.ensures) c.in_ok-action.ensures c.in_ok-seen.ensures
    (λ H p e. c.in_ok-pairs.ensures H p (e ∙ c.deref.ensures.value ∙ sym c.deref-2.ensures.value))
    (c.in_ok-push-2.ensures.items ∙ ap (λ l. l ++ c.in_ok-seen.seen ∷ []) c.in_ok-push.ensures.items)
