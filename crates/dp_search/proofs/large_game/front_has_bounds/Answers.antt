use Rattle.std.proofs.Common.{ℕ, ◌<◌, ◌≤◌, List, [], length, get_or, slice_index, sym, subst, arith}
use Rattle.dp_spec.specs.Front.{class_counts}
use Rattle.dp_spec.specs.Model.{Model, joint_actions}
use Rattle.dp_spec.proofs.JointNumberLaws.{size_above}
use Rattle.dp_cluster.specs.KeptFronts.{KeptFront}
use Rattle.dp_cluster.proofs.ChosenActions.{agents_of}
use Rattle.dp_game.specs.Games.{IsGameOf, KeptGame}
use Rattle.dp_search.proofs.UnderwayFronts.{agent_of, class_of, game_has_classes}
use Rattle.dp_search.proofs.large_game.front_has_bounds.Goals as goal

module _ (m : Model) (h look : ℕ) (k : KeptFront) (g : KeptGame) (is : IsGameOf m h look k.front g) (i : ℕ)
    (inside : i < length k.front.agents) where
  agent_in : i < length g.choices
  agent_in = agent_of m k g (game_has_classes m h look k g is) i inside

  many_classes : 512 ≤ get_or (class_counts k.front.agents) i 0 → 512 ≤ length (get_or g.choices i [])
  many_classes classes =
      let last = class_of m k g (game_has_classes m h look k g is) i 511 inside (omega arith) in
      omega arith

  -- each agent has an action
  some_action : 0 < get_or g.actions i 0
  unfolding joint_actions
  some_action =
      let as_many = agents_of is.front.agents in
      subst (λ (ns : List ℕ). 0 < get_or ns i 0) (sym is.actions)
      (size_above m.actions i is.model.sizes.some_action (omega arith))

pub falls_each_time-first-requires-clause-agent : goal.falls_each_time-first-requires-clause-agent
falls_each_time-first-requires-clause-agent c =
    let k = c.args.front.now in
    let inside : 0 < length k.front.agents = let two = c.is_large.ensures.agents c.if-not-is_large.false in omega
    arith in
    agent_in c.args.model.now.model k.horizon c.in_ok-bounder.bounder.look k c.in_ok-game.game
    c.in_ok-game.ensures.is 0 inside

pub falls_each_time-first-requires-clause-classes : goal.falls_each_time-first-requires-clause-classes
falls_each_time-first-requires-clause-classes c =
    let k = c.args.front.now in
    let inside : 0 < length k.front.agents = let two = c.is_large.ensures.agents c.if-not-is_large.false in omega
    arith in
    many_classes c.args.model.now.model k.horizon c.in_ok-bounder.bounder.look k c.in_ok-game.game
    c.in_ok-game.ensures.is 0 inside (c.is_large.ensures.first c.if-not-is_large.false)

pub falls_each_time-first-requires-clause-action : goal.falls_each_time-first-requires-clause-action
falls_each_time-first-requires-clause-action c =
    let k = c.args.front.now in
    let inside : 0 < length k.front.agents = let two = c.is_large.ensures.agents c.if-not-is_large.false in omega
    arith in
    some_action c.args.model.now.model k.horizon c.in_ok-bounder.bounder.look k c.in_ok-game.game
    c.in_ok-game.ensures.is 0 inside

pub falls_each_time-second-requires-clause-agent : goal.falls_each_time-second-requires-clause-agent
falls_each_time-second-requires-clause-agent c =
    let k = c.args.front.now in
    let inside : 1 < length k.front.agents = let two = c.is_large.ensures.agents c.if-not-is_large.false in omega
    arith in
    subst (λ (g : KeptGame). 1 < length g.choices) (sym c.falls_each_time-first.ensures)
    (agent_in c.args.model.now.model k.horizon c.in_ok-bounder.bounder.look k c.in_ok-game.game
    c.in_ok-game.ensures.is 1 inside)

pub falls_each_time-second-requires-clause-classes : goal.falls_each_time-second-requires-clause-classes
falls_each_time-second-requires-clause-classes c =
    let k = c.args.front.now in
    let inside : 1 < length k.front.agents = let two = c.is_large.ensures.agents c.if-not-is_large.false in omega
    arith in
    subst (λ (g : KeptGame). 512 ≤ length (get_or g.choices 1 [])) (sym c.falls_each_time-first.ensures)
    (many_classes c.args.model.now.model k.horizon c.in_ok-bounder.bounder.look k c.in_ok-game.game
    c.in_ok-game.ensures.is 1 inside (c.is_large.ensures.second c.if-not-is_large.false))

pub falls_each_time-second-requires-clause-action : goal.falls_each_time-second-requires-clause-action
falls_each_time-second-requires-clause-action c =
    let k = c.args.front.now in
    let inside : 1 < length k.front.agents = let two = c.is_large.ensures.agents c.if-not-is_large.false in omega
    arith in
    subst (λ (g : KeptGame). 0 < slice_index g.actions 1) (sym c.falls_each_time-first.ensures)
    (some_action c.args.model.now.model k.horizon c.in_ok-bounder.bounder.look k c.in_ok-game.game
    c.in_ok-game.ensures.is 1 inside)
