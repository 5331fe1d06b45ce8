use Rattle.std.proofs.Common.{◌∙◌, ℕ, suc, ap, sym, rules}
use Rattle.std.specs.Int.{w128}
use Rattle.std.proofs.lemmas.Int.{to_z-of_z}
use mir.Val.{SFits}
use Rattle.dp_spec.specs.Steps.{chosen_front}
use Rattle.dp_spec.specs.Wide.{has_room}
use Rattle.dp_cluster.specs.KeptFronts.{KeptFront}
use Rattle.dp_search.proofs.LastChoices.{chosen_room, deeper_is}
use Rattle.dp_search.specs.Expansions.{mode_bound}
use Rattle.dp_search.proofs.last_choice.last_bound.Goals as goal

pub deeper_bound-requires-clause-room : goal.deeper_bound-requires-clause-room
deeper_bound-requires-clause-room c =
    let m = c.args.model.now.model in
    ap (λ (k : KeptFront). has_room m k.horizon k.front) c.in_ok-chosen.ensures.is
    ∙ chosen_room m c.args.front.now.horizon c.args.front.now.front c.args.choice.agent c.args.choice.class
    c.args.choice.action
    ∙ ap (λ (n : ℕ). has_room m n c.args.front.now.front) c.requires.front.horizon ∙ c.requires.front.room

pub deeper_bound-requires-clause-before : goal.deeper_bound-requires-clause-before
deeper_bound-requires-clause-before c = record {
  before = c.args.front.now.front;
  agent = c.args.choice.agent;
  class = c.args.choice.class;
  action = c.args.choice.action;
  chosen = ap (λ (k : KeptFront). k.front) c.in_ok-chosen.ensures.is;
  looks = c.requires.before;
}

pub returns-clause-bound : goal.returns-clause-bound
returns-clause-bound c =
    let m = c.args.model.now.model in
    let b = c.args.bounder.now in
    let k = c.args.front.now in
    let fits : SFits w128 c.in_ok-bound.bound = search (rules, c.deeper_bound.type_inv) in
    to_z-of_z w128 _ fits ∙ c.in_ok-bound.ensures.is
    ∙ ap (λ (f : KeptFront). mode_bound m f.horizon (suc b.look) f.front) c.in_ok-chosen.ensures.is
    ∙ ap (λ (n : ℕ). mode_bound m n (suc b.look) (chosen_front k.front c.args.choice.agent c.args.choice.class
    c.args.choice.action)) c.requires.front.horizon
    ∙ sym (deeper_is m b.horizon b.look k c.requires.front c.requires.last c.requires.bounder.some_look
    c.args.choice.agent c.args.choice.class c.args.choice.action c.requires.unassigned c.requires.action)
