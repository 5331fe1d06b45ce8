-- What a search that grows a bound tree best first promises: of its tree and its lower end, and of its certificate.
use Rattle.std.specs.Prelude.{ℕ, ◌<◌, ◌≤◌, ◌≡◌, ◌⊎◌, Bool, true, false, IsTrue, ℤ, pos, ◌≤ℤ◌, ◌<ℤ◌, All, List, []}
use Rattle.std.specs.Prelude.{◌∷◌, length}
use Rattle.dp_spec.specs.declared.step.Step.{Step}
use Rattle.dp_spec.specs.declared.node.NodeKind.TheVariants.{Leaf}
use Rattle.dp_spec.specs.declared.node.ArenaNode.{ArenaNode}
use Rattle.dp_spec.specs.Model.{IsModel, Model}
use Rattle.dp_spec.specs.Mode.{IsWithinVersion, is_exact_mode, unit_of}
use Rattle.dp_spec.specs.Front.{Front}
use Rattle.dp_spec.specs.WellFormed.{IsFront}
use Rattle.dp_spec.specs.Steps.{root_front}
use Rattle.dp_spec.specs.Arithmetic.{Arithmetic, exact}
use Rattle.dp_spec.specs.Value.{policy_value}
use Rattle.dp_spec.specs.ConstantPolicy.{constant_policy}
use Rattle.dp_spec.specs.FullPolicy.{full_policy}
use Rattle.dp_spec.specs.SharedPolicy.{unfolded}
use Rattle.dp_spec.specs.SharedForm.{IsSharedForm}
use Rattle.dp_spec.specs.SharedWorth.{low_worth, shared_worth_in}
use Rattle.dp_spec.specs.Fitting.{front_bound}
use Rattle.dp_spec.specs.BoundTree.{BoundTree, LeavesAtMost, greatest_leaf, inner_count}
use Rattle.dp_spec.specs.Certificate.{Certificate, FitsRoot, HasPolicyOfVersion, arithmetic_for}
use Rattle.dp_spec.specs.Qualities.{HasNoEquivalent, IfBranch, IfInner, IfLeaf, IfNarrowLeaf, Node, Place, nodes_of}
use Rattle.dp_spec.specs.Qualities.{places_of}
use Rattle.dp_spec.specs.Promises.{HasNoMerge, IsBestConstant, IsPlanned, PlanOptions, constant_worth}
use Rattle.dp_spec.specs.Arena.{IsTreeAt, above_at, grown, inner_nodes, kind_at}
use Rattle.dp_spec.specs.WholeTree.{HasChildren, IsArena}
use Rattle.dp_spec.specs.FrontSpace.{IsPicked, front_space}
use Rattle.dp_spec.specs.Searched.{IsSearched}

-- ---- the tree

-- the nodes of a tree from the root front on
abbrev pub root_nodes : Arithmetic → Model → ℕ → ℕ → BoundTree → List Node
root_nodes A m h look T = nodes_of A m h look 0 T (root_front m) (front_bound A m h look (root_front m))

-- the promises of a search on its tree and its lower end
pub record IsPromised (A : Arithmetic) (m : Model) (h look budget : ℕ) (merging : Bool)
    (May : List Place → ℕ → Type 0) (worth : Front → ℤ) (constants lower : ℤ) (inner : ℕ)
    (T : BoundTree) : Type 0 where
  -- the tree fits the root front, and has at most so many branches and merges
  pub fits : FitsRoot A m h look T
  pub counted : inner ≡ inner_count T
  pub within_budget : inner ≤ budget
  -- the budget is spent, or each leaf above the lower end that is not full is wide
  pub stop : (inner ≡ budget) ⊎ All (λ n. IfNarrowLeaf m h n (λ x. x ≤ℤ lower)) (root_nodes A m h look T)
  pub lean :
      All (λ n. All (λ k. IfInner n.tree (IfNarrowLeaf m h k (λ x. lower <ℤ x → x ≤ℤ n.cap)))
      (root_nodes A m h look T)) (root_nodes A m h look T)
  -- where it merges, and the arithmetic is exact, no branch stands where two classes could be merged; else there is
  -- no merge
  pub merged : merging ≡ true → IsTrue A.is_exact
      → All (λ n. IfBranch n.tree (λ i c. HasNoEquivalent m n.front)) (root_nodes A m h look T)
  pub unmerged : merging ≡ false → HasNoMerge T
  -- each inner node's least bound is above the worth of every constant policy, and the lower end at least that
  pub inner_nodes : All (λ n. IfInner n.tree (constants <ℤ n.cap)) (root_nodes A m h look T)
  pub constants_below : constants ≤ℤ lower
  -- each branch stands where the rule may say
  pub ruled :
      All (λ n. IfBranch n.tree (λ i c. IsPicked May (places_of A m h look n.front) i c))
      (root_nodes A m h look T)
  -- the lower end is at least the worth of the policy of each full leaf
  pub full_leaves :
      All (λ n. IfLeaf n.tree (λ x. h ≤ n.front.stage → worth n.front ≤ℤ lower)) (root_nodes A m h look T)

-- a search over the fronts of a model keeps them
abbrev pub SearchKeepsItsPromises : Type 0
SearchKeepsItsPromises =
    (A : Arithmetic) (m : Model) (h look budget : ℕ) (merging : Bool) (constants lower : ℤ) (inner : ℕ)
    (T : BoundTree) →
    ((May : List Place → ℕ → Bool) (worth : Front → ℤ) →
    IsSearched (front_space A m h look merging (λ ps x. IsTrue (May ps x)) worth)
    budget constants lower inner T →
    IsPromised A m h look budget merging (λ ps x. IsTrue (May ps x)) worth constants lower inner T)

-- ---- its certificate

-- what stands in a certificate besides what the search found: as asked, in the mode and the unit of the horizon,
-- with a policy of the version whose worth is the lower end, and the greatest leaf as the upper end
pub record StatesSearch (m : Model) (h : ℕ) (asked : PlanOptions) (best : ℕ) (c : Certificate) : Type 0 where
  pub version : c.version ≡ asked.version
  pub horizon : c.horizon ≡ h
  pub look : c.look ≡ asked.look
  pub within : IsWithinVersion m c.horizon c.version
  pub mode : c.is_exact ≡ is_exact_mode m c.horizon
  pub unit : c.unit ≡ pos (unit_of m c.horizon)
  pub policy : HasPolicyOfVersion m c
  pub lower : c.lower ≡ (shared_worth_in (arithmetic_for m c) m c.horizon c.policy).low
  pub upper : c.upper ≡ greatest_leaf c.tree
  pub shared_form : c.version ≡ 2 → IsSharedForm m c.horizon c.policy
  -- the best constant policy, which it is where there is no branch and no merge
  pub best_constant : IsBestConstant m c best
  pub constant : c.inner ≡ 0 → unfolded c.policy ≡ constant_policy m c.horizon best

-- such a certificate of a search keeps the promises of a plan
abbrev pub SearchedCertificatesArePlanned : Type 0
SearchedCertificatesArePlanned =
    (m : Model) (May : List Place → ℕ → Bool) (h : ℕ) (asked : PlanOptions) (best : ℕ) (c : Certificate) →
    StatesSearch m h asked best c →
    IsSearched (front_space (arithmetic_for m c) m c.horizon c.look asked.merge (λ ps x. IsTrue (May ps x))
    (λ F. low_worth (arithmetic_for m c) m c.version c.horizon (full_policy m F)))
    asked.nodes (constant_worth m c best) c.lower c.inner c.tree →
    IsPlanned m (λ ps x. IsTrue (May ps x)) h asked c

-- ---- full fronts, in exact arithmetic

-- the bound of a full front is the value of the policy that it fixes
abbrev pub FullBoundsAreValues : Type 0
FullBoundsAreValues =
    (m : Model) (h look : ℕ) (F : Front) → IsModel m → IsFront m h F → F.stage ≡ h →
    front_bound (exact m.scales) m h look F ≡ policy_value m h (full_policy m F)

-- where each leaf that is not full is at most the lower end, and so is the value of the policy of each full one,
-- every leaf is
abbrev pub LowTreesAreClosed : Type 0
LowTreesAreClosed =
    (m : Model) → IsModel m → (h look : ℕ) (lower : ℤ) (T : BoundTree) → FitsRoot (exact m.scales) m h look T →
    All (λ n. IfLeaf n.tree (λ x. (n.front.stage < h → x ≤ℤ lower)
    × (h ≤ n.front.stage → policy_value m h (full_policy m n.front) ≤ℤ lower)))
    (root_nodes (exact m.scales) m h look T) →
    LeavesAtMost lower T

-- ---- arenas

-- one leaf is one tree
abbrev pub ArenasStart : Type 0
ArenasStart = (x : ℤ) → IsArena (record { above = 0; kind = Leaf x } ∷ [])

-- an arena stays one tree where a leaf with less than 2048 steps above it becomes a step with children
abbrev pub ArenasGrow : Type 0
ArenasGrow =
    (ns : List ArenaNode) (k : ℕ) (x : ℤ) (s : Step) (xs : List ℤ) → k < length ns → kind_at ns k ≡ Leaf x →
    HasChildren s (length xs) → above_at ns k < 2048 → IsArena ns → IsArena (grown ns k s xs)

-- its tree has as many branches and merges as it has steps
abbrev pub ArenasAreCounted : Type 0
ArenasAreCounted =
    (ns : List ArenaNode) (T : BoundTree) → IsArena ns → IsTreeAt ns 0 T → inner_count T ≡ inner_nodes ns
