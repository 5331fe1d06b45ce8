-- Actors: a closure that answers an agent's own history with an action, and what is asked of one.
use Rattle.std.specs.Prelude.{ℕ, ◌<◌, ◌≡◌, List, [], ◌∷◌, length, slice_index_or}
use Rattle.std.specs.Fn.{FnReturnsAt, Shared}
use denote.Ref.{Bor}
use Rattle.dp_spec.specs.Model.{Model}
use Rattle.dp_spec.specs.PolicyTree.{IsPolicyOf, PolicyTree, root_action, subtree, subtrees}
use Rattle.dp_policy.specs.SharedRows.{remaining_after}
use Rattle.dp_policy.specs.Trees.{tree_count, tree_of}

-- an agent, and the rule that acts for it
pub record ActorOf (F : Type 0) : Type 0 where
  pub agent : ℕ
  pub rule : F

-- own observations, the earliest first, after which a tree has an action
abbrev pub HasActionAfter : PolicyTree → List ℕ → Type 0
HasActionAfter q [] = Unit {0}
HasActionAfter q (o ∷ os) = (o < tree_count (subtrees q)) × HasActionAfter (subtree q o) os

-- A rule answers a policy tree: it may be called on each own history after which the tree has an action, and every
-- answer that it may give there is that action.
pub record AnswersTree {F : Type 0} (g : Shared F (Bor (List ℕ) × Unit {0}) ℕ) (rule : F) (q : PolicyTree)
    : Type 0 where
  pub callable : (history : Bor (List ℕ)) → HasActionAfter q history.now → g.pre rule (history, tt)
  pub answers : (history : List ℕ) (action : ℕ) → HasActionAfter q history → FnReturnsAt g rule history action
      → action ≡ root_action (remaining_after q history)

-- The actors answer a joint policy of h steps for a model: there is one for each agent, in order, and it answers
-- that agent's tree.
pub record AnswerPolicy {F : Type 0} (g : Shared F (Bor (List ℕ) × Unit {0}) ℕ) (m : Model) (h : ℕ)
    (actors : List (ActorOf F)) (qs : List PolicyTree) : Type 0 where
  pub policy : IsPolicyOf m h qs
  pub one_each : length actors ≡ length m.actions
  pub in_order : (i : ℕ) (d : ActorOf F) → i < length actors → (slice_index_or actors i d).agent ≡ i
  pub answer : (i : ℕ) (d : ActorOf F) → i < length actors
      → AnswersTree g (slice_index_or actors i d).rule (tree_of qs i)
