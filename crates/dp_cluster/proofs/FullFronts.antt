-- What a full front fixes: one joint policy, and its value.
use Rattle.std.proofs.Common.{◌≡◌, true, Bool, List, [], ◌∷◌, ◌++◌, Option, Some, None, append_assoc, refl, sym, ap}
use Rattle.std.proofs.Common.{◌∙◌, subst, arith}
use Rattle.std.specs.Prelude.{IsSome, SomeIff}
use Rattle.std.proofs.lemmas.List.{append-nil}
use Rattle.dp_spec.specs.Arithmetic.{arithmetic, point}
use Rattle.dp_spec.specs.Front.{Front, fixed_joint_action}
use Rattle.dp_spec.specs.FullPolicy.{full_policy, trees_doing_fixed}
use Rattle.dp_spec.specs.Keeping.{KeepsFront}
use Rattle.dp_spec.specs.Model.{Model}
use Rattle.dp_spec.specs.PolicyTree.{IsPolicyOf, PolicyTree}
use Rattle.dp_spec.specs.Quantities.{earned_reward_in}
use Rattle.dp_spec.specs.Value.{policy_value}
use Rattle.dp_laws.proofs.FullPolicies.{full_front_keepers_equal, full_policy_keeps}
use Rattle.dp_laws.proofs.KeptValue.{value_at_full_front}
use Rattle.dp_laws.proofs.QuantityLaws.{exact_quantities}
use Rattle.dp_cluster.specs.KeptFronts.{IsFrontOf, KeptFront}

-- ---- what is answered

pub some_where : {X : Type 0} (r : Option X) (P : Type 0) (v : X) → SomeIff r P v → P → IsSome r
some_where None P v given p = absurd (given p)
some_where (Some x) P v given p = refl

pub value_where : {X : Type 0} (r : Option X) (P : Type 0) (v x : X) → SomeIff r P v → r ≡ Some x → x ≡ v
value_where r P v x given e = (subst (λ o. SomeIff o P v) e given).1

-- ---- tree by tree

pub full_policy_is : (m : Model) (F : Front) → trees_doing_fixed F.stage m.observations F.agents
    ≡ full_policy m F
unfolding full_policy
full_policy_is m F = refl

pub trees_next : (all all' rest more whole : List PolicyTree) (q : PolicyTree) → all' ≡ all ++ q ∷ []
    → more ≡ q ∷ rest
    → all ++ more ≡ whole → all' ++ rest ≡ whole
trees_next all all' rest more whole q pushed next before =
    ap (λ l. l ++ rest) pushed ∙ append_assoc all (q ∷ []) rest ∙ ap (λ l. all ++ l) (sym next) ∙ before

pub trees_end : (all rest whole : List PolicyTree) → rest ≡ [] → all ++ rest ≡ whole → all ≡ whole
trees_end all rest whole none before = sym (append-nil all) ∙ ap (λ l. all ++ l) (sym none) ∙ before

-- ---- the policy

module _ (m : Model) (k : KeptFront) (is : IsFrontOf m k) (full : k.front.stage ≡ k.horizon) where
  pub of_model : IsPolicyOf m k.horizon (full_policy m k.front)
  of_model = (full_policy_keeps m k.horizon k.front is.front full).0

  pub keeps : KeepsFront m k.front (full_policy m k.front)
  keeps = (full_policy_keeps m k.horizon k.front is.front full).1

  pub alone : (qs : List PolicyTree) → IsPolicyOf m k.horizon qs → KeepsFront m k.front qs
      → qs ≡ full_policy m k.front
  alone qs policy kept =
      full_front_keepers_equal m k.horizon k.front qs (full_policy m k.front)
      is.some_step full policy of_model kept keeps

  pub value : k.is_exact ≡ true → k.earned ≡ point (policy_value m k.horizon (full_policy m k.front))
  value exact =
      is.earned
      ∙ ap (λ (b : Bool). earned_reward_in (arithmetic b m.scales) m (fixed_joint_action m k.front)
      k.horizon k.front.stage) exact
      ∙ ap (λ f. earned_reward_in (arithmetic true m.scales) m (fixed_joint_action m k.front) k.horizon f) full
      ∙ (exact_quantities m is.model).earned_rewards (fixed_joint_action m k.front) k.horizon k.horizon
      (omega arith)
      ∙ ap (λ v. point v) (sym (value_at_full_front m k.horizon k.front (full_policy m k.front) full keeps))
