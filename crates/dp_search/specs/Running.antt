-- A search between two steps, and as the children of a step are looked at. (Own.)
use Rattle.std.specs.Prelude.{ℕ, suc, ◌+◌, ◌*◌, ◌<◌, ◌≤◌, ◌≡◌, ◌⊎◌, true, List, [], ◌∷◌, length, ℤ, ◌≤ℤ◌, ◌<ℤ◌}
use Rattle.std.specs.Int.{int_min}
use Rattle.dp_spec.specs.Front.{Front}
use Rattle.dp_spec.specs.declared.step.Step.{Step}
use Rattle.dp_spec.specs.declared.node.NodeKind.TheVariants.{Leaf, Inner}
use Rattle.dp_spec.specs.declared.node.ArenaNode.{ArenaNode}
use Rattle.dp_spec.specs.Arena.{kind_at, above_at, inner_nodes}
use Rattle.dp_spec.specs.Space.{Space}
use Rattle.dp_spec.specs.Exploration.{Labels, IsExploration}
use Rattle.dp_spec.specs.SearchState.{OpenLeaf, IsOpenAt, IsSearch}
use Rattle.dp_tree.specs.Nodes.{Nodes}

-- the leaves from number k on, which are still to be looked at
abbrev pub IsPending : List ArenaNode → Labels → ℕ → List OpenLeaf → Type 0
IsPending ns L k [] = k ≡ length ns
IsPending ns L k (p ∷ ps) =
    (k < length ns) × ((p.node ≡ k) × ((kind_at ns k ≡ Leaf p.bound) × ((L.front k ≡ p.front)
    × ((above_at ns k ≡ p.above) × IsPending ns L (suc k) ps))))

-- The search runs: `es` are the open leaves that are held, `pending` the leaves still to be looked at.
pub record IsRunning (S : Space) (constants : ℤ) (width budget : ℕ) (arena : Nodes) (lower : ℤ) (inner : ℕ)
    (es pending : List OpenLeaf) : Type 0 where
  pub labels : Labels
  pub settled : ℕ
  pub search : IsSearch S constants lower arena.nodes labels settled es
  pub waiting : IsPending arena.nodes labels settled pending
  pub counted : inner ≡ inner_nodes arena.nodes
  pub within : inner ≤ budget
  pub room : length arena.nodes ≤ 1 + inner * width
  pub most : arena.most ≡ 1 + budget * width

-- the search has come to its end
pub record IsFinished (S : Space) (constants : ℤ) (budget : ℕ) (arena : Nodes) (lower : ℤ) (inner : ℕ)
    : Type 0 where
  pub labels : Labels
  pub explored : IsExploration S arena.nodes labels
  pub counted : inner ≡ inner_nodes arena.nodes
  pub within : inner ≤ budget
  pub stop : (inner ≡ budget) ⊎ ((k : ℕ) (x : ℤ) → IsOpenAt S arena.nodes labels k x → x ≤ℤ lower)
  pub tried : (k : ℕ) (x : ℤ) → k < length arena.nodes → kind_at arena.nodes k ≡ Leaf x
      → S.is_full (labels.front k) ≡ true → S.worth (labels.front k) ≤ℤ lower
  pub lean : (j : ℕ) (s : Step) (f n : ℕ) → j < length arena.nodes → kind_at arena.nodes j ≡ Inner s f n
      → (k : ℕ) (x : ℤ) → IsOpenAt S arena.nodes labels k x → lower <ℤ x → x ≤ℤ labels.cap j
  pub over_constants : (j : ℕ) (s : Step) (f n : ℕ) → j < length arena.nodes
      → kind_at arena.nodes j ≡ Inner s f n → constants <ℤ labels.cap j
  pub constants_below : constants ≤ℤ lower

-- a front after a step, and its own bound
pub record NextFront : Type 0 where
  pub front : Front
  pub bound : ℤ

-- the leaves of these fronts, numbered from n on, below a node whose least bound is cap
abbrev pub opened : ℕ → ℕ → ℤ → List NextFront → List OpenLeaf
opened n d cap [] = []
opened n d cap (c ∷ cs) =
    record { node = n; above = d; bound = int_min cap c.bound; front = c.front } ∷ opened (suc n) d cap cs
