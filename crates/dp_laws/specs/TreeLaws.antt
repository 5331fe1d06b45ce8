-- Policy trees by their actions after own histories, which are numbers in base of the agent's observations.
use Rattle.std.specs.Prelude.{ℕ, ◌<◌, ◌^◌, ◌≡◌}
use Rattle.dp_spec.specs.PolicyTree.{IsPolicyTree, PolicyTree, root_action}
use Rattle.dp_spec.specs.Keeping.{tree_at}
use Rattle.dp_spec.specs.FullPolicy.{tree_doing}

-- a tree of r steps does an action of its agent after each own history shorter than r
abbrev pub ActionsAreOfTheAgent : Type 0
ActionsAreOfTheAgent =
    (b n r : ℕ) (q : PolicyTree) → IsPolicyTree b n r q → (t x : ℕ) → t < r → x < n ^ t →
    root_action (tree_at n q t x) < b

-- two trees of r steps that do the same after each own history shorter than r are equal
abbrev pub TreesWithEqualActionsAreEqual : Type 0
TreesWithEqualActionsAreEqual =
    (b n r : ℕ) (p q : PolicyTree) → 0 < r → IsPolicyTree b n r p → IsPolicyTree b n r q →
    ((t x : ℕ) → t < r → x < n ^ t → root_action (tree_at n p t x) ≡ root_action (tree_at n q t x)) → p ≡ q

-- for any actions of the agent there is a tree that does them
abbrev pub TreeOfAnyActionsExists : Type 0
TreeOfAnyActionsExists =
    (b n r : ℕ) (act : ℕ → ℕ → ℕ) → ((t x : ℕ) → t < r → x < n ^ t → act t x < b) →
    IsPolicyTree b n r (tree_doing n act r)
    × ((t x : ℕ) → t < r → x < n ^ t → root_action (tree_at n (tree_doing n act r) t x) ≡ act t x)
