-- The bound of a front: a collaborative Bayesian game over its joint classes (Oliehoek and Amato, chapter 5; JAIR 46
-- (2013)).
use Rattle.std.specs.Prelude.{ℕ, zero, suc, ◌+◌, Bool, true, false, ◌&&◌, ◌==◌, ℤ, ◌+ℤ◌, List, [], ◌∷◌, filter}
use Rattle.std.specs.Prelude.{get_or, Option, Some, None}
use Rattle.dp_base.specs.Sums.{int_sum, greatest, numbers_below}
use Rattle.dp_spec.specs.JointNumbers.{product, parts_of}
use Rattle.dp_spec.specs.Model.{Model, joint_actions}
use Rattle.dp_spec.specs.JointHistory.{earned_reward}
use Rattle.dp_spec.specs.LookAhead.{action_look_ahead}
use Rattle.dp_spec.specs.Front.{AgentFront, Front, class_counts, fixed_joint_action, class_weight}

-- whether action a agrees with a class's action or none
abbrev pub agrees : Option ℕ → ℕ → Bool
agrees None a = true
agrees (Some b) a = b == a

-- whether the actions agree with those already chosen for the classes
abbrev pub all_agree : List AgentFront → List ℕ → List ℕ → Bool
all_agree [] cs as' = true
all_agree (d ∷ ds) [] as' = false
all_agree (d ∷ ds) (c ∷ cs) [] = false
all_agree (d ∷ ds) (c ∷ cs) (a ∷ as') = agrees (get_or d.chosen c None) a && all_agree ds cs as'

-- the joint actions that agree with the actions already chosen for the classes of joint class C
unfoldable pub agreeing_actions : Model → Front → ℕ → List ℕ
agreeing_actions m F C =
    filter (λ a. all_agree F.agents (parts_of (class_counts F.agents) C) (parts_of m.actions a))
    (numbers_below (joint_actions m))

-- the bound of a front from whose stage on r steps are left, with look k: what is earned, and for each joint class
-- the best agreeing joint action
abbrev pub bound_of : Model → ℕ → Front → ℕ → ℤ
bound_of m zero F k = earned_reward m (fixed_joint_action m F) (F.stage + 0) F.stage
bound_of m (suc r) F k =
    earned_reward m (fixed_joint_action m F) (F.stage + suc r) F.stage
    +ℤ int_sum (product (class_counts F.agents)) (λ C.
    greatest (λ a. action_look_ahead m r (class_weight m F C) a k) (agreeing_actions m F C))
