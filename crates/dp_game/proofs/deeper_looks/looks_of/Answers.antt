use Rattle.std.proofs.Common.{◌≡◌, ◌≤◌, ◌^◌, ◌+◌, ◌-◌, ℕ, suc, List, Option, length, map, ap, sym, ◌∙◌, arith}
use Rattle.std.specs.List.{range_with_len}
use Rattle.dp_spec.specs.Arithmetic.{arithmetic}
use Rattle.dp_spec.specs.JointNumbers.{product}
use Rattle.dp_cluster.proofs.AdvancedParts.{some_class}
use Rattle.dp_cluster.proofs.ChosenActions.{agents_of}
use Rattle.dp_game.specs.DeeperLooks.{chosen_look_in}
use Rattle.dp_game.specs.Games.{choices_in, own_counts}
use Rattle.dp_game.specs.Kept.{rows_of}
use Rattle.dp_game.proofs.Made.{cells, choices_small, few_front, wanted_rows}
use Rattle.dp_game.proofs.OwnChoices.{counts_of}
use Rattle.dp_game.proofs.deeper_looks.looks_of.Goals as goal

pub choices_of-requires-clause-agents : goal.choices_of-requires-clause-agents
choices_of-requires-clause-agents c = c.agents.ensures.is ∙ sym (agents_of c.requires.of_model.front.agents)

pub choices_of-requires-clause-small : goal.choices_of-requires-clause-small
choices_of-requires-clause-small c = choices_small c.args.model.now.model c.args.front.now c.requires.of_model

pub joint_count-count-requires-clause-some : goal.joint_count-count-requires-clause-some
joint_count-count-requires-clause-some c =
    let counts = ap (λ oss. product (own_counts oss)) (c.deref.ensures.value ∙ c.in_ok-choices.ensures)
    ∙ ap product
    (counts_of c.args.front.now.front.agents) in
    rw counts (some_class c.args.model.now.model c.args.front.now.horizon c.args.front.now.front
    c.requires.of_model.model c.requires.of_model.front)

pub joint_count-count-requires-clause-few : goal.joint_count-count-requires-clause-few
joint_count-count-requires-clause-few c =
    let counts = ap (λ oss. product (own_counts oss)) (c.deref.ensures.value ∙ c.in_ok-choices.ensures)
    ∙ ap product
    (counts_of c.args.front.now.front.agents) in
    rw counts (few_front c.args.model.now.model c.args.front.now c.args.bounder.now c.requires.of_model
    c.requires.bounder c.requires.horizon c.requires.stage c.requires.room)

pub chosen_looks-requires-clause-cells : goal.chosen_looks-requires-clause-cells
chosen_looks-requires-clause-cells c = cells c.args.model.now.model c.args.front.now c.args.bounder.now
    c.requires.of_model c.requires.bounder c.requires.horizon c.requires.stage c.requires.room

pub chosen_looks-requires-clause-count : goal.chosen_looks-requires-clause-count
chosen_looks-requires-clause-count c =
    c.joint_count-count.ensures ∙ ap (λ oss. product (own_counts oss))
    (c.deref.ensures.value ∙ c.in_ok-choices.ensures) ∙ ap product (counts_of c.args.front.now.front.agents)

few_of : (n m : ℕ) → n ≡ m → m ≤ 2 ^ 24 → n ≤ 2 ^ 24
few_of n m e le = omega arith

pub wanted_choices-requires-clause-few : goal.wanted_choices-requires-clause-few
wanted_choices-requires-clause-few c =
    few_of _ _ (c.joint_count-count.ensures ∙ ap (λ oss. product (own_counts oss))
    (c.deref.ensures.value ∙ c.in_ok-choices.ensures) ∙ ap product (counts_of c.args.front.now.front.agents))
    (few_front c.args.model.now.model c.args.front.now c.args.bounder.now c.requires.of_model c.requires.bounder
    c.requires.horizon c.requires.stage c.requires.room)

pub chosen_looks-requires-clause-few : goal.chosen_looks-requires-clause-few
chosen_looks-requires-clause-few c =
    few_of _ _ (c.joint_count-count.ensures ∙ ap (λ oss. product (own_counts oss))
    (c.deref.ensures.value ∙ c.in_ok-choices.ensures) ∙ ap product (counts_of c.args.front.now.front.agents))
    (few_front c.args.model.now.model c.args.front.now c.args.bounder.now c.requires.of_model c.requires.bounder
    c.requires.horizon c.requires.stage c.requires.room)

pub chosen_looks-requires-clause-wanted : goal.chosen_looks-requires-clause-wanted
chosen_looks-requires-clause-wanted c =
    ap (λ (l : List (Option ℕ)). length l) c.deref-3.ensures.value
    ∙ wanted_rows c.args.model.now.model c.args.front.now c.requires.of_model c.in_ok-actions.actions
    c.in_ok-choices.choices.items c.in_ok-wanted.wanted.items c.joint_count-count.result
    c.in_ok-actions.ensures c.in_ok-choices.ensures
    (c.in_ok-wanted.ensures ∙ ap (λ oss. rows_of (choices_in oss) c.joint_count-count.result)
    c.deref-2.ensures.value)

pub returns-clause-are : goal.returns-clause-are
returns-clause-are c =
    let m = c.args.model.now.model in
    let b = c.args.bounder.now in
    let F = c.args.front.now.front in
    let counted = c.joint_count-count.ensures ∙ ap (λ oss. product (own_counts oss))
    (c.deref.ensures.value ∙ c.in_ok-choices.ensures) ∙ ap product (counts_of F.agents) in
    let choices = c.deref-2.ensures.value ∙ c.in_ok-choices.ensures in
    let look : c.look-look.result + 1 ≡ suc b.look = omega (arith, c.look-look.ensures) in
    record {
      wanted = c.in_ok-wanted.ensures ∙ (λ j. rows_of (choices_in (choices j)) (counted j));
      looks = c.in_ok-looks.ensures.are
          ∙ (λ j. map (chosen_look_in (arithmetic b.is_exact m.scales) m (b.horizon - F.stage - 1) F (look j)
          (c.in_ok-actions.ensures j) (c.deref-3.ensures.value j)) (range_with_len 0 (counted j)));
    }
