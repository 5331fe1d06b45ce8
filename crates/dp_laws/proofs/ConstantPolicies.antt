-- constant policies are joint policies of the model, and the root's bound at horizon 1 is the greatest of their
-- values
use Rattle.std.proofs.Common.{◌≡◌, ℕ, zero, suc, ◌<◌, true, ℤ, pos, ◌+ℤ◌, List, [], ◌∷◌, map, length, get_or, Option}
use Rattle.std.proofs.Common.{None, refl, sym, ap, ◌∙◌, arith}
use Rattle.std.proofs.lemmas.Int.{ints}
use Rattle.dp_base.proofs.Sums.{int_sum_zero}
use Rattle.dp_laws.proofs.EarnedValue.{policy_value_is_recursive}
use Rattle.dp_spec.specs.Bound.{agreeing_actions, agrees, all_agree, bound_of}
use Rattle.dp_spec.specs.ConstantPolicy.{constant_policy, constant_tree, constant_trees, repeated_tree}
use Rattle.dp_spec.specs.Front.{class_counts, class_weight, joint_class, own_classes}
use Rattle.dp_spec.specs.JointNumbers.{joint_number, parts_of, product}
use Rattle.dp_spec.specs.LookAhead.{action_look_ahead, weighted_reward}
use Rattle.dp_spec.specs.Model.{IsModel, Model, joint_actions, joint_observations, start_at}
use Rattle.dp_spec.specs.PolicyTree.{ArePolicyTrees, IsJointPolicy, IsPolicyOf, IsPolicyTree, PolicyTree, root_action}
use Rattle.dp_spec.specs.PolicyTree.IsJointPolicy.{and_agent, no_agents}
use Rattle.dp_spec.specs.Steps.{root_agent, root_front}
use Rattle.dp_base.specs.Sums.{greatest, int_sum, numbers_below}
use Rattle.dp_spec.specs.Value.{joint_root_action, policy_value}
use Rattle.dp_spec.proofs.JointNumberLaws.{AreBelow, joint_number-parts_of, parts_below}
use Rattle.dp_base.proofs.GreatestValues.{greatest_ext}
use Rattle.dp_base.proofs.Members.{below-IsIn, filter_all}

repeated_fits : (b n r c : ℕ) (q : PolicyTree) → IsPolicyTree b n r q
    → ArePolicyTrees b n r c (repeated_tree c q)
repeated_fits b n r zero q h = tt
repeated_fits b n r (suc c) q h = (h, repeated_fits b n r c q h)

constant_tree_fits : (b n r a : ℕ) → a < b → IsPolicyTree b n r (constant_tree n r a)
constant_tree_fits b n zero a h = tt
constant_tree_fits b n (suc zero) a h = (h, refl)
constant_tree_fits b n (suc (suc r)) a h = (
  h,
  repeated_fits b n (suc r) n (constant_tree n (suc r) a)
      (constant_tree_fits b n (suc r) a h),
)

constant_trees_fit : (r : ℕ) (bs ns as' : List ℕ) → length ns ≡ length bs → AreBelow bs as'
    → IsJointPolicy r bs ns (constant_trees ns r as')
constant_trees_fit r [] [] as' e h = no_agents
constant_trees_fit r [] (n ∷ ns) as' e h = absurd (omega arith)
constant_trees_fit r (b ∷ bs) [] as' e h = absurd (omega arith)
constant_trees_fit r (b ∷ bs) (n ∷ ns) [] e h = absurd h
constant_trees_fit r (b ∷ bs) (n ∷ ns) (a ∷ as') e h = and_agent (constant_tree_fits b n r a h.0)
    (constant_trees_fit r bs ns as' (omega arith) h.1)

-- a constant policy is a joint policy of the model
pub constant_policy_fits : (m : Model) → IsModel m → (h a : ℕ) → a < joint_actions m
    → IsPolicyOf m h (constant_policy m h a)
unfolding constant_policy joint_actions
constant_policy_fits m ok h a p = constant_trees_fit h m.actions m.observations (parts_of m.actions a)
    ok.sizes.alike (parts_below m.actions a p)

root_of_constant : (n r a : ℕ) → root_action (constant_tree n r a) ≡ a
root_of_constant n zero a = refl
root_of_constant n (suc zero) a = refl
root_of_constant n (suc (suc r)) a = refl

roots_of_constant : (r : ℕ) (bs ns as' : List ℕ) → length ns ≡ length bs → AreBelow bs as'
    → map root_action (constant_trees ns r as') ≡ as'
roots_of_constant r [] [] [] e h = refl
roots_of_constant r [] [] (a ∷ as') e h = absurd h
roots_of_constant r [] (n ∷ ns) as' e h = absurd (omega arith)
roots_of_constant r (b ∷ bs) [] as' e h = absurd (omega arith)
roots_of_constant r (b ∷ bs) (n ∷ ns) [] e h = absurd h
roots_of_constant r (b ∷ bs) (n ∷ ns) (a ∷ as') e h =
    let rest : map root_action (constant_trees ns r as') ≡ as' = roots_of_constant r bs ns as' (omega arith)
    h.1 in
    rw (root_of_constant n r a, rest)

-- it begins with its joint action
pub constant_policy_begins : (m : Model) → IsModel m → (h a : ℕ) → a < joint_actions m
    → joint_root_action m (constant_policy m h a) ≡ a
unfolding constant_policy joint_actions joint_root_action
constant_policy_begins m ok h a p =
    ap (joint_number m.actions) (roots_of_constant h m.actions m.observations (parts_of m.actions a)
    ok.sizes.alike
    (parts_below m.actions a p)) ∙ joint_number-parts_of m.actions a p

none_more : (n : ℕ) (x : ℤ) → x +ℤ int_sum n (λ o. pos 0) ≡ x
none_more n x = let e = int_sum_zero n in omega (arith, ints)

-- over one step its value is the reward
pub constant_policy_value : (m : Model) → IsModel m → (a : ℕ) → a < joint_actions m
    → policy_value m 1 (constant_policy m 1 a) ≡ weighted_reward m 0 (start_at m) a
constant_policy_value m ok a p =
    policy_value_is_recursive m 1 (constant_policy m 1 a)
    ∙ none_more (joint_observations m) _
    ∙ ap (weighted_reward m 0 (start_at m)) (constant_policy_begins m ok 1 a p)

-- with no step left after it a joint action earns its reward
pub last_action : (m : Model) (w : ℕ → ℕ) (a k : ℕ) → action_look_ahead m 0 w a k ≡ weighted_reward m 0 w a
unfolding action_look_ahead
last_action m w a k = none_more (joint_observations m) (weighted_reward m 0 w a)

-- ---- the root front
root_counts : (bs : List ℕ) → product (class_counts (map (λ n. root_agent) bs)) ≡ 1
root_counts [] = refl
root_counts (b ∷ bs) = let e = root_counts bs in omega arith

root_class : (bs ns : List ℕ)
    → joint_number (class_counts (map (λ n. root_agent) bs))
    (own_classes (map (λ n. root_agent) bs) (map (λ n. 0) ns))
    ≡ 0
root_class [] ns = refl
root_class (b ∷ bs) [] = refl
root_class (b ∷ bs) (n ∷ ns) = let e = root_class bs ns in omega arith

root_weight : (m : Model) (s : ℕ) → class_weight m (root_front m) 0 s ≡ start_at m s
unfolding class_weight joint_class root_front
root_weight m s = rw (root_class m.actions m.observations)

no_choice : (c : ℕ) → get_or {A = Option ℕ} (None ∷ []) c None ≡ None
no_choice zero = refl
no_choice (suc c) = refl

agrees_with_none : (o : Option ℕ) (a : ℕ) → o ≡ None → agrees o a ≡ true
agrees_with_none o a e = rw e

root_agrees : (bs : List ℕ) (C a : ℕ)
    → all_agree (map (λ n. root_agent) bs) (parts_of (class_counts (map (λ n. root_agent) bs)) C)
    (parts_of bs a)
    ≡ true
root_agrees [] C a = refl
root_agrees (b ∷ bs) C a = rw (agrees_with_none _ _ (no_choice _), root_agrees bs)

root_agreeing : (m : Model) (C : ℕ) → agreeing_actions m (root_front m) C ≡ numbers_below (joint_actions m)
unfolding agreeing_actions root_front
root_agreeing m C = filter_all _ (numbers_below (joint_actions m)) (λ a. root_agrees m.actions C a)

only_one : (n : ℕ) (f : ℕ → ℤ) → n ≡ 1 → pos 0 +ℤ int_sum n f ≡ f 0
only_one n f e = rw e (omega (arith, ints))

-- at a horizon of one step the bound of the root front is the greatest value of a constant joint action
pub root_bound_at_one : (m : Model) → IsModel m → (look : ℕ)
    → bound_of m 1 (root_front m) look
    ≡ greatest (λ a. policy_value m 1 (constant_policy m 1 a)) (numbers_below (joint_actions m))
unfolding root_front
root_bound_at_one m ok look =
    only_one _ _ (root_counts m.actions)
    ∙ ap (greatest (λ a. action_look_ahead m 0 (class_weight m (root_front m) 0) a look)) (root_agreeing m 0)
    ∙ greatest_ext _ _ (numbers_below (joint_actions m)) (λ a i.
    last_action m (class_weight m (root_front m) 0) a look
    ∙ ap (λ w. weighted_reward m 0 w a) (λ i s. root_weight m s i)
    ∙ sym (constant_policy_value m ok a (below-IsIn (joint_actions m) a i)))
