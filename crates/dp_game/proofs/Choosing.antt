-- The game of a front after a choice is made or taken back.
use Rattle.std.proofs.Common.{◌≡◌, ℕ, ◌-◌, ◌*◌, ◌<◌, cond, eqb, pos, List, [], length, get_or, set, Option, None}
use Rattle.std.proofs.Common.{Some, refl, sym, ap, ◌∙◌, subst, arith}
use Rattle.dp_spec.specs.Arithmetic.{Arithmetic, arithmetic, point}
use Rattle.dp_spec.specs.Front.{Front, class_counts, fixed_joint_action}
use Rattle.dp_spec.specs.JointNumbers.{product}
use Rattle.dp_spec.specs.Mode.{is_exact_mode}
use Rattle.dp_spec.specs.Model.{Model, joint_actions, joint_observations}
use Rattle.dp_spec.specs.Quantities.{action_look_ahead_in, class_weight_in, earned_reward_in, history_weight_in}
use Rattle.dp_spec.specs.Quantities.{span_history_sum}
use Rattle.dp_spec.specs.Steps.{HasAction, chosen_front, unchosen_front}
use Rattle.dp_spec.specs.WellFormed.{IsFront}
use Rattle.dp_laws.proofs.ChoicesTakenBack.{unchoosing_undone, unchosen_is_front}
use Rattle.dp_laws.proofs.ChosenFronts.{actions_chosen, counts_chosen, joint_class_chosen}
use Rattle.dp_laws.proofs.WellFormedSteps.{chosen_is_front}
use Rattle.dp_game.specs.Games.{IsGameOf, KeptGame, own_choice, with_own_choice}
use Rattle.dp_game.proofs.OwnChoices.{as_many_choices, assigned_of, choices_made, choices_of, choices_taken}
use Rattle.dp_game.proofs.OwnChoices.{unassigned_of}

-- two fronts of one stage have as many classes, weigh alike and have earned the same
pub record AreAlike (A : Arithmetic) (m : Model) (h : ℕ) (F G : Front) : Type 0 where
  pub counts : class_counts G.agents ≡ class_counts F.agents
  pub weights : class_weight_in A m G ≡ class_weight_in A m F
  pub earned : earned_reward_in A m (fixed_joint_action m G) h F.stage
      ≡ earned_reward_in A m (fixed_joint_action m F) h
      F.stage

module _ (A : Arithmetic) (m : Model) (h : ℕ) (F : Front) (i c a : ℕ) where
  weights_chosen : class_weight_in A m (chosen_front F i c a) ≡ class_weight_in A m F
  unfolding class_weight_in
  weights_chosen =
      λ k C s. span_history_sum (joint_observations m) F.stage (λ H.
      cond (eqb (joint_class_chosen m F i c a k H) C) (history_weight_in A m (actions_chosen m F i c a k) H s)
      (point (pos 0)))

  pub chosen_alike : AreAlike A m h F (chosen_front F i c a)
  chosen_alike = record {
    counts = counts_chosen i c a F.agents;
    weights = weights_chosen;
    earned = ap (λ act. earned_reward_in A m act h F.stage) (actions_chosen m F i c a);
  }

-- a front before a choice is taken back, from the one after it
unchosen_alike : (A : Arithmetic) (m : Model) (h : ℕ) (F : Front) (i c a : ℕ) → HasAction i c a F.agents
    → AreAlike
    A m h F (unchosen_front F i c)
unchosen_alike A m h F i c a has =
    let U = unchosen_front F i c in
    let back = unchoosing_undone F i c a has in
    let alike = chosen_alike A m h U i c a in record {
      counts = sym alike.counts ∙ ap (λ (G : Front). class_counts G.agents) back;
      weights = sym alike.weights ∙ ap (λ (G : Front). class_weight_in A m G) back;
      earned = sym alike.earned ∙ ap (λ (G : Front). earned_reward_in A m (fixed_joint_action m G) h F.stage)
          back;
    }

-- a game of one is a game of the other, with the other's choices
game_alike : (m : Model) (h look : ℕ) (F G : Front) (g : KeptGame) (oss : List (List (Option ℕ))) → IsGameOf m h
    look F g
    → G.stage ≡ F.stage → AreAlike (arithmetic (is_exact_mode m h) m.scales) m h F G → IsFront m h G → oss ≡
    choices_of G.agents
    → IsGameOf m h look G (record g { choices = oss })
game_alike m h look F G g oss is stage alike front choices =
    let A = arithmetic (is_exact_mode m h) m.scales in
    let many = ap product alike.counts in record {
      model = is.model;
      some_step = is.some_step;
      horizon = is.horizon;
      front = front;
      early = rw stage is.early;
      game_cells = rw many is.game_cells;
      stage_cells = λ e. rw stage (is.stage_cells e);
      actions = is.actions;
      choices = choices;
      long = is.long ∙ ap (λ (n : ℕ). n * joint_actions m) (sym many);
      entries = λ C a hC ha.
          is.entries C a (subst (λ (n : ℕ). C < n) many hC) ha
          ∙ (λ j. action_look_ahead_in A m (h - sym stage j - 1) (sym alike.weights j C) a look);
      earned = is.earned ∙ ap (λ x. x.high) (sym alike.earned) ∙ ap
          (λ (f : ℕ). (earned_reward_in A m (fixed_joint_action m G) h f).high) (sym stage);
    }

module _ (m : Model) (h look : ℕ) (F : Front) (g : KeptGame) (is : IsGameOf m h look F g) (i c : ℕ)
    (hi : i < length g.choices) where
  agent_in : i < length F.agents
  agent_in = let many = ap (λ oss. length oss) is.choices in let e = as_many_choices F.agents in omega arith

  own : get_or (get_or g.choices i []) c None ≡ get_or (get_or (choices_of F.agents) i []) c None
  own = ap (λ oss. get_or (get_or oss i []) c None) is.choices

  pub chosen_game : (a : ℕ) → c < length (get_or g.choices i []) → own_choice g i c ≡ None
      → a < get_or g.actions i 0
      → IsGameOf m h look (chosen_front F i c a) (with_own_choice g i c (Some a))
  chosen_game a hc none ha =
      let free = unassigned_of i c F.agents (rw (sym is.choices) hi) (rw (sym is.choices) hc)
      (sym own ∙ none) in
      let action : a < get_or m.actions i 0 = rw (sym is.actions) ha in
      let choices = ap (λ oss. set oss i (set (get_or oss i []) c (Some a))) is.choices ∙ sym
      (choices_made i c a F.agents agent_in) in
      game_alike m h look F (chosen_front F i c a) g _ is refl
      (chosen_alike (arithmetic (is_exact_mode m h) m.scales) m h F i c a)
      (chosen_is_front m h F i c a is.front is.early free action) choices

  pub unchosen_game : (a : ℕ) → own_choice g i c ≡ Some a → IsGameOf m h look (unchosen_front F i c)
      (with_own_choice g i c None)
  unchosen_game a some =
      let has = assigned_of i c a F.agents (rw (sym is.choices) hi) (sym own ∙ some) in
      let choices = ap (λ oss. set oss i (set (get_or oss i []) c None)) is.choices ∙ sym
      (choices_taken i c F.agents agent_in) in
      game_alike m h look F (unchosen_front F i c) g _ is refl
      (unchosen_alike (arithmetic (is_exact_mode m h) m.scales) m h F i c a has)
      (unchosen_is_front m h F i c is.front) choices
