-- Joint histories, their weights, and what is earned along them (Oliehoek and Amato, chapter 3).
use Rattle.std.specs.Prelude.{ℕ, zero, suc, ◌-◌, ◌<◌, ℤ, pos, ◌+ℤ◌, List, [], ◌∷◌}
use Rattle.dp_base.specs.Sums.{int_sum, nat_sum}
use Rattle.dp_spec.specs.Model.{Model, joint_observations, start_at}
use Rattle.dp_spec.specs.PolicyTree.{PolicyTree}
use Rattle.dp_spec.specs.Value.{trees_after}
use Rattle.dp_spec.specs.LookAhead.{weights_after, weighted_reward}

-- a joint history of length t is the list of its joint observations, each below n, the latest first
abbrev pub IsJointHistory : ℕ → ℕ → List ℕ → Type 0
IsJointHistory n zero [] = Unit {0}
IsJointHistory n zero (o ∷ H) = ⊥
IsJointHistory n (suc t) [] = ⊥
IsJointHistory n (suc t) (o ∷ H) = (o < n) × IsJointHistory n t H

-- a sum over the joint histories of length t
abbrev pub int_history_sum : ℕ → ℕ → (List ℕ → ℤ) → ℤ
int_history_sum n zero v = v []
int_history_sum n (suc t) v = int_history_sum n t (λ H. int_sum n (λ o. v (o ∷ H)))

-- the same of numbers that are not negative
abbrev pub nat_history_sum : ℕ → ℕ → (List ℕ → ℕ) → ℕ
nat_history_sum n zero v = v []
nat_history_sum n (suc t) v = nat_history_sum n t (λ H. nat_sum n (λ o. v (o ∷ H)))

-- the weight of a joint history and a state, where act gives the joint action that is done after each joint history
abbrev pub history_weight : Model → (List ℕ → ℕ) → List ℕ → ℕ → ℕ
history_weight m act [] s = start_at m s
history_weight m act (o ∷ H) s = weights_after m (history_weight m act H) (act H) o s

-- what is earned before time f, of a horizon of h steps
abbrev pub earned_reward : Model → (List ℕ → ℕ) → ℕ → ℕ → ℤ
earned_reward m act h zero = pos 0
earned_reward m act h (suc f) =
    earned_reward m act h f
    +ℤ int_history_sum (joint_observations m) f (λ H. weighted_reward m (h - suc f) (history_weight m act H) (act H))

-- what remains of the trees after a joint history
abbrev pub trees_after_history : Model → List PolicyTree → List ℕ → List PolicyTree
trees_after_history m qs [] = qs
trees_after_history m qs (o ∷ H) = trees_after m (trees_after_history m qs H) o
