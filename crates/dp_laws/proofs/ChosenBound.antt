-- a bound does not grow by choosing
use Rattle.std.proofs.Common.{◌≡◌, ℕ, zero, suc, ◌+◌, ◌<◌, pos, ◌≤ℤ◌, cond, eqb, get_or, sym, ap, ◌∙◌, subst}
use Rattle.dp_laws.proofs.AgreeingActions.{agree_without, chosen_action_agrees}
use Rattle.dp_laws.proofs.ChosenFronts.{actions_chosen, counts_chosen, joint_class_chosen}
use Rattle.dp_laws.proofs.QuantityLaws.{exact_quantities}
use Rattle.dp_base.proofs.Ring.{zadd_le, zle_of, zle_trans}
use Rattle.dp_base.proofs.Sums.{int_sum_le}
use Rattle.dp_laws.proofs.WellFormedSteps.{chosen_is_front}
use Rattle.dp_spec.specs.Arithmetic.{Arithmetic, exact, point}
use Rattle.dp_spec.specs.Bound.{agreeing_actions, all_agree, bound_of}
use Rattle.dp_spec.specs.Front.{Front, class_counts}
use Rattle.dp_spec.specs.JointNumbers.{parts_of, product}
use Rattle.dp_spec.specs.Model.{IsModel, Model, joint_actions, joint_observations}
use Rattle.dp_spec.specs.Quantities.{action_look_ahead_in, bound_in, class_weight_in, earned_reward_in}
use Rattle.dp_spec.specs.Quantities.{history_weight_in, span_history_sum}
use Rattle.dp_spec.specs.Steps.{IsUnassigned, chosen_front}
use Rattle.dp_base.specs.Sums.{greatest, int_sum, numbers_below}
use Rattle.dp_spec.specs.WellFormed.{IsFront}
use Rattle.dp_base.proofs.Members.{IsIn, IsIn-filter, filter-IsIn, some_in}
use Rattle.dp_base.proofs.GreatestValues.{greatest_of_part}

-- what agrees after a choice agreed before it
still_agrees : (m : Model) (F : Front) (i c a C x : ℕ) → IsUnassigned i c F.agents
    → IsIn x (agreeing_actions m (chosen_front F i c a) C) → IsIn x (agreeing_actions m F C)
unfolding agreeing_actions
still_agrees m F i c a C x free h =
    let both = filter-IsIn _ x (numbers_below (joint_actions m)) h in
    let agreed = agree_without i c a F.agents (parts_of (class_counts (chosen_front F i c a).agents) C)
    (parts_of m.actions x) free both.1 in
    IsIn-filter _ x (numbers_below (joint_actions m)) both.0
    (ap (λ z. all_agree F.agents (parts_of z C) (parts_of m.actions x)) (sym (counts_chosen i c a F.agents))
    ∙ agreed)

-- the weights of joint classes stay, in any arithmetic
weight_chosen_in : (A : Arithmetic) (m : Model) (F : Front) (i c a : ℕ)
    → class_weight_in A m (chosen_front F i c a) ≡ class_weight_in A m F
unfolding class_weight_in
weight_chosen_in A m F i c a =
    λ k C s. span_history_sum (joint_observations m) F.stage (λ H.
    cond (eqb (joint_class_chosen m F i c a k H) C) (history_weight_in A m (actions_chosen m F i c a k) H s)
    (point (pos 0)))

-- a bound does not grow by choosing, in any arithmetic
pub chosen_bound_in_le : (A : Arithmetic) (m : Model) → IsModel m → (h r look : ℕ) (F : Front) (i c a : ℕ)
    → IsFront m h F
    → F.stage < h → IsUnassigned i c F.agents → a < get_or m.actions i 0 →
    bound_in A m r (chosen_front F i c a) look ≤ℤ bound_in A m r F look
chosen_bound_in_le A m ok h zero look F i c a front lt free p =
    zle_of _ _ (ap (λ act. (earned_reward_in A m act (F.stage + 0) F.stage).high) (actions_chosen m F i c a))
chosen_bound_in_le A m ok h (suc r) look F i c a front lt free p =
    let G = chosen_front F i c a in
    let N = product (class_counts F.agents) in
    let best = λ (C : ℕ). greatest (λ x. action_look_ahead_in A m r (class_weight_in A m G C) x look)
    (agreeing_actions m G C) in
    let as_many : product (class_counts G.agents) ≡ N = ap product (counts_chosen i c a F.agents) in
    let chosen = chosen_is_front m h F i c a front lt free p in
    let earned = ap (λ act. (earned_reward_in A m act (F.stage + suc r) F.stage).high)
    (actions_chosen m F i c a) in
    let each : (C : ℕ) → C < N → best C ≤ℤ greatest (λ x. action_look_ahead_in A m r (class_weight_in A m F C)
    x look) (agreeing_actions m F C) =
    λ C q.
    let q' : C < product (class_counts G.agents) = subst (λ (n : ℕ). C < n) (sym as_many) q in
    let same = ap (λ w. greatest (λ x. action_look_ahead_in A m r (w C) x look) (agreeing_actions m G C))
    (weight_chosen_in A m F i c a) in
    let some = some_in _ _ (chosen_action_agrees m ok h G chosen C q') in
    zle_trans _ _ _ (zle_of _ _ same)
    (greatest_of_part _ (agreeing_actions m G C) (agreeing_actions m F C) some
    (λ x here. still_agrees m F i c a C x free here)) in
    zadd_le _ _ _ _ (zle_of _ _ earned)
    (zle_trans _ _ _ (zle_of _ _ (ap (λ (n : ℕ). int_sum n best) as_many)) (int_sum_le N _ _ each))

-- a bound does not grow by choosing, in exact numbers
pub chosen_bound_le : (m : Model) → IsModel m → (h r look : ℕ) (F : Front) (i c a : ℕ) → IsFront m h F
    → F.stage < h
    → IsUnassigned i c F.agents → a < get_or m.actions i 0 →
    bound_of m r (chosen_front F i c a) look ≤ℤ bound_of m r F look
chosen_bound_le m ok h r look F i c a front lt free p =
    let bounds = (exact_quantities m ok).bounds in
    let le = chosen_bound_in_le (exact m.scales) m ok h r look F i c a front lt free p in
    zle_trans _ _ _ (zle_of _ _ (sym (bounds r (chosen_front F i c a) look)))
    (zle_trans _ _ _ le (zle_of _ _ (bounds r F look)))
