-- The root front is well formed, and every joint policy keeps it.
use Rattle.std.proofs.Common.{◌≡◌, ℕ, zero, suc, List, [], ◌∷◌, map, length, get_or, None, refl, sym, arith}
use Rattle.std.proofs.Math.Nat.{pow-zero}
use Rattle.dp_spec.specs.Keeping.{KeepAgentFronts, KeepsAgentFront, KeepsFront}
use Rattle.dp_spec.specs.Keeping.KeepAgentFronts.{and_agent as and_keeps, no_agents as none_keep}
use Rattle.dp_spec.specs.Model.{IsModel, Model}
use Rattle.dp_spec.specs.PolicyTree.{IsJointPolicy, IsPolicyOf, PolicyTree}
use Rattle.dp_spec.specs.PolicyTree.IsJointPolicy.{and_agent as and_policy, no_agents as no_policies}
use Rattle.dp_spec.specs.Steps.{root_agent, root_front}
use Rattle.dp_spec.specs.WellFormed.{AreAgentFronts, IsAgentFront, IsFront, NoneChosen}
use Rattle.dp_spec.specs.WellFormed.AreAgentFronts.{and_agent, no_agents}

none_chosen : (c : ℕ) → get_or root_agent.chosen c None ≡ None
none_chosen zero = refl
none_chosen (suc c) = refl

class_of_all : (x : ℕ) → get_or root_agent.class_of x 0 ≡ 0
class_of_all zero = refl
class_of_all (suc x) = refl

root_agent_front : (b n : ℕ) → IsAgentFront b n 0 root_agent
root_agent_front b n =
    let one = pow-zero n in
    record {
      of_stage = refl;
      of_length = λ t p. absurd (omega arith);
      fixed_below = λ t x p u. absurd (omega arith);
      of_histories = sym one;
      class_below = λ x u. let e = class_of_all x in omega arith;
      member = λ c p. (0, omega arith, omega arith);
      chosen_below = λ c a p e. let none = none_chosen c in cc;
    }

root_agent_fronts : (bs ns : List ℕ) → length ns ≡ length bs → AreAgentFronts 0 bs ns (map (λ n. root_agent) bs)
root_agent_fronts [] [] e = no_agents
root_agent_fronts [] (n ∷ ns) e = absurd (omega arith)
root_agent_fronts (b ∷ bs) [] e = absurd (omega arith)
root_agent_fronts (b ∷ bs) (n ∷ ns) e = and_agent (root_agent_front b n) (root_agent_fronts bs ns (omega arith))

nothing_chosen : (bs : List ℕ) → NoneChosen (map (λ n. root_agent) bs)
nothing_chosen [] = tt
nothing_chosen (b ∷ bs) = (none_chosen, nothing_chosen bs)

-- the root front is well formed for every horizon
pub root_is_front : (m : Model) (h : ℕ) → IsModel m → IsFront m h (root_front m)
unfolding root_front
root_is_front m h model = record {
  stage_limit = omega arith;
  agents = root_agent_fronts m.actions m.observations model.sizes.alike;
  none_at_end = λ e. nothing_chosen m.actions;
}

root_agent_keeps : (n : ℕ) (q : PolicyTree) → KeepsAgentFront n 0 root_agent q
root_agent_keeps n q = record {
  does_fixed = λ t x p u. absurd (omega arith);
  alike = λ x y p u e. refl;
  does_chosen = λ x a p e. let none = none_chosen (get_or root_agent.class_of x 0) in cc;
}

root_agents_keep : {h : ℕ} {bs ns : List ℕ} {qs : List PolicyTree} → IsJointPolicy h bs ns qs
    → KeepAgentFronts 0 ns (map (λ n. root_agent) bs) qs
root_agents_keep no_policies = none_keep
root_agents_keep (and_policy {n = n} {q = q} tree trees) = and_keeps (root_agent_keeps n q)
    (root_agents_keep trees)

-- every joint policy keeps the root front
pub policy_keeps_root : (m : Model) (h : ℕ) (qs : List PolicyTree) → IsPolicyOf m h qs
    → KeepsFront m (root_front m) qs
unfolding root_front
policy_keeps_root m h qs policy = root_agents_keep policy
