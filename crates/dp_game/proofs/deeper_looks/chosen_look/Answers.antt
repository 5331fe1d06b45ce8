use Rattle.std.proofs.Common.{◌≡◌, ◌-◌, ◌*◌, ◌∙◌, Bool, true, cond, ℕ, None, Some, take, drop, ap}
use Rattle.std.proofs.Common.{sym, rules}
use Rattle.std.specs.Int.{w128}
use Rattle.std.proofs.lemmas.Int.{to_z-of_z}
use mir.Val.{SFits}
use Rattle.dp_spec.specs.Arithmetic.{arithmetic}
use Rattle.dp_spec.specs.Steps.{all_chosen}
use Rattle.dp_game.specs.Kept.{greatest_look_in}
use Rattle.dp_game.proofs.deeper_looks.chosen_look.Goals as goal

pub returns-clause-is : goal.returns-clause-is
returns-clause-is c =
    let m = c.args.model.now.model in
    let b = c.args.bounder.now in
    let F = c.args.front.now.front in
    let actions = c.args.actions.now in
    let wanted = c.args.wanted.now in
    let fits : SFits w128 c.in_ok-value.value = search (rules, c.greatest_look.type_inv) in
    let own = c.choices_kept.ensures ∙ ap (λ (n : ℕ). take n (drop (c.args.joint * n) wanted)) c.agents.ensures.is in
    let yes : c.are_chosen.result ≡ true = search rules in
    let chosen = sym yes ∙ c.are_chosen.ensures ∙ ap all_chosen own in
    ap Some (to_z-of_z w128 _ fits ∙ c.in_ok-value.ensures.is)
    ∙ ap (λ (t : Bool). cond t (Some (greatest_look_in (arithmetic b.is_exact m.scales) m
    (b.horizon - F.stage - 1) F c.args.look actions wanted c.args.joint)) None) chosen
