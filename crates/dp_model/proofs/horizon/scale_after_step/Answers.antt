use Rattle.dp_model.proofs.HorizonLemmas.{all_three, first_passes, second_passes}
use Rattle.dp_model.proofs.horizon.scale_after_step.Goals as goal

pub returns-in_err-arrived : goal.returns-in_err-arrived
returns-in_err-arrived c =
    rw c.from_residual.ensures
    (first_passes c.args.scale c.args.scales.now.trans c.args.scales.now.obs c.args.scales.now.discount _ _
    c.requires.obs c.requires.discount c.from.ensures c.in_err-arrived.ensures)

pub returns-in_err-seen : goal.returns-in_err-seen
returns-in_err-seen c =
    rw c.from_residual-in_err-seen.ensures
    (second_passes c.args.scale c.args.scales.now.trans c.args.scales.now.obs c.args.scales.now.discount _ _ _ _
    c.requires.discount c.from.ensures c.from-2.ensures c.in_ok-arrived.ensures.1 c.in_err-seen.ensures)

pub returns : goal.returns
returns c =
    all_three c.args.scale c.args.scales.now.trans c.args.scales.now.obs c.args.scales.now.discount _ _ _ _ _ _
    c.product_within-3.result
    c.from.ensures c.from-2.ensures c.from-3.ensures c.in_ok-arrived.ensures.1 c.in_ok-seen.ensures.1
    c.product_within-3.ensures
