-- Joint policies that follow a front with given trees at its classes, over all agents.
use Rattle.std.proofs.Common.{◌≡◌, ℕ, zero, suc, true, List, [], ◌∷◌, map, get_or, Option, Some, None, refl, sym, ap}
use Rattle.std.proofs.Common.{◌∙◌, arith}
use Rattle.std.proofs.lemmas.Bool.Decides.{nat_tests}
use Rattle.dp_laws.proofs.OwnHistories.{Within, trees_at, subtrees_at_next}
use Rattle.dp_spec.specs.Bound.{all_agree, agrees}
use Rattle.dp_spec.specs.Front.{AgentFront, class_counts, own_classes, own_histories}
use Rattle.dp_spec.specs.JointHistory.{IsJointHistory, trees_after_history}
use Rattle.dp_spec.specs.JointNumbers.{parts_of}
use Rattle.dp_laws.specs.Following.{FollowsAgentFronts}
use Rattle.dp_laws.specs.Following.FollowsAgentFronts.{and_agent, no_agents}
use Rattle.dp_spec.specs.Model.{Model, joint_observations}
use Rattle.dp_spec.specs.PolicyTree.IsJointPolicy.{no_agents as no_policies, and_agent as and_policy}
use Rattle.dp_laws.proofs.Trees.{root_action_below}
use Rattle.dp_spec.specs.PolicyTree.{IsJointPolicy, PolicyTree, root_action}
use Rattle.dp_spec.specs.Value.{subtrees_at, trees_after}
use Rattle.dp_spec.proofs.JointNumberLaws.{AreBelow, parts_below}

-- the trees of a joint class
abbrev pub trees_of : List (ℕ → PolicyTree) → List ℕ → List PolicyTree
trees_of [] cs = []
trees_of (us ∷ uss) [] = []
trees_of (us ∷ uss) (c ∷ cs) = us c ∷ trees_of uss cs

-- what remains after a joint history, by the own histories
pub trees_after_history_are : (m : Model) (qs : List PolicyTree)
    → trees_at m.observations qs zero (map (λ n. 0) m.observations) ≡ qs →
    (t : ℕ) (H : List ℕ) → IsJointHistory (joint_observations m) t H
    → trees_after_history m qs H ≡ trees_at m.observations qs t (own_histories m.observations H)
unfolding trees_after joint_observations
trees_after_history_are m qs e zero [] h = sym e
trees_after_history_are m qs e zero (o ∷ H) h = absurd h
trees_after_history_are m qs e (suc t) [] h = absurd h
trees_after_history_are m qs e (suc t) (o ∷ H) h =
    ap (λ x. subtrees_at x (parts_of m.observations o)) (trees_after_history_are m qs e t H h.1)
    ∙ subtrees_at_next m.observations qs t (own_histories m.observations H) (parts_of m.observations o)
    (parts_below m.observations o h.0)

-- at the stage it is the trees of the classes
pub trees_at_stage : {f r : ℕ} {bs ns : List ℕ} {ds : List AgentFront} {qs : List PolicyTree}
    {uss : List (ℕ → PolicyTree)} → FollowsAgentFronts f r bs ns ds qs uss → (xs : List ℕ) → Within ns f xs
    → trees_at ns qs f xs ≡ trees_of uss (own_classes ds xs)
trees_at_stage no_agents [] h = refl
trees_at_stage no_agents (x ∷ xs) h = refl
trees_at_stage (and_agent k ks) [] h = absurd h
trees_at_stage (and_agent k ks) (x ∷ xs) h = let here = k.remains x h.0 in rw (here, trees_at_stage ks xs h.1)

-- classes are below their counts
pub classes_below : {f r : ℕ} {bs ns : List ℕ} {ds : List AgentFront} {qs : List PolicyTree}
    {uss : List (ℕ → PolicyTree)} → FollowsAgentFronts f r bs ns ds qs uss → (xs : List ℕ) → Within ns f xs
    → AreBelow (class_counts ds) (own_classes ds xs)
classes_below no_agents xs h = tt
classes_below (and_agent k ks) [] h = absurd h
classes_below (and_agent k ks) (x ∷ xs) h = (k.in_range x h.0, classes_below ks xs h.1)

-- the trees of a joint class are a joint policy of the steps that are left
pub class_trees_fit : {f r : ℕ} {bs ns : List ℕ} {ds : List AgentFront} {qs : List PolicyTree}
    {uss : List (ℕ → PolicyTree)} → FollowsAgentFronts f r bs ns ds qs uss → (cs : List ℕ)
    → AreBelow (class_counts ds) cs → IsJointPolicy r bs ns (trees_of uss cs)
class_trees_fit no_agents cs h = no_policies
class_trees_fit (and_agent k ks) [] h = absurd h
class_trees_fit (and_agent k ks) (c ∷ cs) h = and_policy (k.are_trees c h.0) (class_trees_fit ks cs h.1)

-- an action that is the chosen one agrees
agrees_with_choice : (o : Option ℕ) (a : ℕ) → ((b : ℕ) → o ≡ Some b → a ≡ b) → agrees o a ≡ true
agrees_with_choice None a h = refl
agrees_with_choice (Some b) a h = let e : a ≡ b = h b refl in grind (arith, nat_tests)

-- the roots of the trees of a joint class agree with the choices
pub class_trees_agree : {f r : ℕ} {bs ns : List ℕ} {ds : List AgentFront} {qs : List PolicyTree}
    {uss : List (ℕ → PolicyTree)} → FollowsAgentFronts f r bs ns ds qs uss → (cs : List ℕ)
    → AreBelow (class_counts ds) cs → all_agree ds cs (map root_action (trees_of uss cs)) ≡ true
class_trees_agree no_agents cs h = refl
class_trees_agree (and_agent k ks) [] h = absurd h
class_trees_agree (and_agent {d = d} k ks) (c ∷ cs) h =
    let here = agrees_with_choice (get_or d.chosen c None) _ (λ b e. k.does_chosen c b h.0 e) in
    rw (here, class_trees_agree ks cs h.1)

-- and are actions of the agents
pub class_actions_below : {f r : ℕ} {bs ns : List ℕ} {ds : List AgentFront} {qs : List PolicyTree}
    {uss : List (ℕ → PolicyTree)} → FollowsAgentFronts f (suc r) bs ns ds qs uss → (cs : List ℕ)
    → AreBelow (class_counts ds) cs → AreBelow bs (map root_action (trees_of uss cs))
class_actions_below no_agents cs h = tt
class_actions_below (and_agent k ks) [] h = absurd h
class_actions_below (and_agent k ks) (c ∷ cs) h = (
  root_action_below _ _ _ _ (k.are_trees c h.0),
  class_actions_below ks cs h.1,
)
