use Rattle.std.proofs.Common.{ℤ, pos, List, get_or, sym, ap, subst, ◌∙◌}
use Rattle.dp_mdp.specs.Building.{AllowsRow}
use Rattle.dp_mdp.proofs.Growth.{last_allowed, made_table, row_allowed}
use Rattle.dp_mdp.proofs.table.table_in.Goals as goal

pub last_rewards-requires : goal.last_rewards-requires
last_rewards-requires g c = record { sizes = last_allowed _ _ _ _ _ c.requires.sizes c.requires.some }

pub rows_in-requires-clause-sizes : goal.rows_in-requires-clause-sizes
rows_in-requires-clause-sizes g c r lt =
    subst (AllowsRow (g.A.Arith.operations c.args.arith.now) (g.A.Arith.calls c.args.arith.now)
    c.args.model.now.model r)
    (sym (ap (λ (l : List ℤ). get_or l r (pos 0)) c.deref-2.ensures.value ∙ c.in_ok-powers.ensures.powers r lt))
    (row_allowed _ _ _ _ _ c.requires.sizes r lt)

pub returns : goal.returns
returns g c =
    made_table (g.A.Arith.operations c.args.arith.now) (g.A.Arith.calls c.args.arith.now) c.args.model.now.model
    c.args.horizon c.args.step c.requires.sizes _ _ _ _ c.of.ensures c.of-2.ensures c.of-3.ensures
    c.in_ok-rows.ensures.long c.in_ok-rows.ensures.each c.in_ok-rewards.ensures c.in_ok-powers.ensures.as_many
    c.in_ok-powers.ensures.powers c.in_ok-links.ensures.of_model
