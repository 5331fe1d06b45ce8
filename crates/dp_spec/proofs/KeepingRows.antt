-- Worked rows of joint policies that keep a front, and of those that do not.
use Rattle.std.proofs.Common.{◌≡◌, ◌<◌, ℕ, zero, suc, ◌^◌, List, [], ◌∷◌, get_or, Option, Some, None, refl, sym, ap}
use Rattle.std.proofs.Common.{◌∙◌, arith}
use Rattle.std.specs.Prelude.{unwrap_or}
use Rattle.dp_spec.specs.PolicyTree.{PolicyTree, more_trees, no_trees, node, root_action}
use Rattle.dp_spec.specs.Front.{AgentFront, Front}
use Rattle.dp_spec.specs.Steps.{advanced_agent, chosen_front, front_after_choice, root_front}
use Rattle.dp_spec.specs.Merge.{merged_front}
use Rattle.dp_spec.specs.Keeping.{KeepAgentFronts, KeepsAgentFront, KeepsFront, tree_at}
use Rattle.dp_spec.specs.Keeping.KeepAgentFronts.{and_agent, no_agents}
use Rattle.dp_spec.proofs.SmallModels.{blind, solo}
use Rattle.dp_spec.proofs.SmallRows.{waited}

-- the part of the first agent
first_part : {n f : ℕ} {ns : List ℕ} {d : AgentFront} {ds : List AgentFront} {q : PolicyTree} {qs : List PolicyTree}
    → KeepAgentFronts f (n ∷ ns) (d ∷ ds) (q ∷ qs) → KeepsAgentFront n f d q
first_part (and_agent part others) = part

-- ---- the action that is chosen

abbrev second_chosen : Front
second_chosen = chosen_front (root_front solo) 0 0 1

chosen_is_second : (x a : ℕ) → x < 1 → get_or (Some 1 ∷ []) (get_or (0 ∷ []) x 0) None ≡ Some a → 1 ≡ a
chosen_is_second zero a below chosen = ap (λ (o : Option ℕ). unwrap_or o 1) chosen
chosen_is_second (suc x) a below chosen = absurd (omega arith)

does_the_second : KeepsFront solo second_chosen (node 1 no_trees ∷ [])
unfolding solo root_front
does_the_second = and_agent (record {
  does_fixed = λ t x early below. absurd (omega arith);
  alike = λ x y first second same. refl;
  does_chosen = λ x a below chosen. chosen_is_second x a below chosen;
}) no_agents

does_the_first : KeepsFront solo second_chosen (node 0 no_trees ∷ []) → ⊥
unfolding solo root_front
does_the_first keeps = omega (arith, (first_part keeps).does_chosen 0 1 (omega arith) refl)

-- ---- what is fixed

-- after the second action there is one step more
abbrev second_done : Front
second_done = front_after_choice solo (root_front solo) 0 0 1

abbrev done_first : ℕ → PolicyTree
done_first a = node a (more_trees (node 0 no_trees) no_trees)

did_the_first : KeepsFront solo second_done (done_first 0 ∷ []) → ⊥
unfolding solo root_front front_after_choice advanced_agent
did_the_first keeps = omega (arith, (first_part keeps).does_fixed 0 0 (omega arith) (omega arith))

-- ---- histories of one class

abbrev heard_either : Front
heard_either = merged_front waited 0 0 1

abbrev waits_after : ℕ → ℕ → PolicyTree
waits_after a b = node 0 (more_trees (node a no_trees) (more_trees (node b no_trees) no_trees))

goes_on_apart : KeepsFront blind heard_either (waits_after 0 1 ∷ []) → ⊥
unfolding blind root_front front_after_choice advanced_agent
goes_on_apart keeps = omega (arith, ap root_action ((first_part keeps).alike 0 1 (omega arith) (omega arith) refl))

after_either : (x : ℕ) → x < 2 → tree_at 2 (waits_after 0 0) 1 x ≡ node 0 no_trees
after_either zero below = refl
after_either (suc zero) below = refl
after_either (suc (suc x)) below = absurd (omega arith)

waited_first : (t x : ℕ) → t < 1 → x < 2 ^ t → root_action (tree_at 2 (waits_after 0 0) t x)
    ≡ get_or (get_or {A = List ℕ} ((0 ∷ []) ∷ []) t []) x 0
waited_first zero zero early below = refl
waited_first zero (suc x) early below = absurd (omega arith)
waited_first (suc t) x early below = absurd (omega arith)

none_chosen : (x a : ℕ) → x < 2 → get_or {A = Option ℕ} (None ∷ []) (get_or (0 ∷ 0 ∷ []) x 0) None ≡ Some a → ⊥
none_chosen zero a below chosen = cc
none_chosen (suc zero) a below chosen = cc
none_chosen (suc (suc x)) a below chosen = absurd (omega arith)

goes_on_alike : KeepsFront blind heard_either (waits_after 0 0 ∷ [])
unfolding blind root_front front_after_choice advanced_agent
goes_on_alike = and_agent (record {
  does_fixed = waited_first;
  alike = λ x y first second same. after_either x first ∙ sym (after_either y second);
  does_chosen = λ x a below chosen. absurd (none_chosen x a below chosen);
}) no_agents
