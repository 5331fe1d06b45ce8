-- What a joint policy that keeps a front does before the front's stage.
use Rattle.std.proofs.Common.{◌≡◌, ℕ, zero, suc, ◌<◌, List, [], ◌∷◌, map, length, refl, ap}
use Rattle.dp_laws.proofs.FollowedFronts.{trees_after_history_are}
use Rattle.dp_laws.proofs.OwnHistories.{Within, own_histories_within, trees_at, trees_at-start}
use Rattle.dp_spec.specs.Front.{AgentFront, Front, fixed_actions, fixed_joint_action, own_histories}
use Rattle.dp_spec.specs.JointHistory.{IsJointHistory, trees_after_history}
use Rattle.dp_spec.specs.Keeping.{KeepAgentFronts, KeepsFront}
use Rattle.dp_spec.specs.Keeping.KeepAgentFronts.{and_agent, no_agents}
use Rattle.dp_spec.specs.Model.{Model, joint_observations}
use Rattle.dp_spec.specs.PolicyTree.{PolicyTree, root_action}
use Rattle.dp_spec.specs.Value.{joint_root_action}

pub history_length : (n t : ℕ) (H : List ℕ) → IsJointHistory n t H → length H ≡ t
history_length n zero [] h = refl
history_length n zero (o ∷ H) h = absurd h
history_length n (suc t) [] h = absurd h
history_length n (suc t) (o ∷ H) h = ap suc (history_length n t H h.1)

-- the agents do what is fixed after their own histories
kept_actions : {f : ℕ} {ns : List ℕ} {ds : List AgentFront} {qs : List PolicyTree} → KeepAgentFronts f ns ds qs
    → (t : ℕ) (xs : List ℕ) → t < f → Within ns t xs → map root_action (trees_at ns qs t xs)
    ≡ fixed_actions ds t xs
kept_actions no_agents t xs p h = refl
kept_actions (and_agent k ks) t [] p h = absurd h
kept_actions (and_agent k ks) t (x ∷ xs) p h = let here = k.does_fixed t x p h.0 in
    rw (here, kept_actions ks t xs p h.1)

-- the joint action after a joint history shorter than the stage is the fixed one
pub kept_joint_action : (m : Model) (F : Front) (qs : List PolicyTree) → KeepsFront m F qs
    → (t : ℕ) (H : List ℕ)
    → t < F.stage → IsJointHistory (joint_observations m) t H
    → joint_root_action m (trees_after_history m qs H) ≡ fixed_joint_action m F H
unfolding joint_root_action fixed_joint_action joint_observations
kept_joint_action m F qs keeps t H p h =
    rw (
      trees_after_history_are m qs (trees_at-start keeps) t H h,
      kept_actions keeps t (own_histories m.observations H) p (own_histories_within m.observations t H h),
      history_length _ t H h,
    )
