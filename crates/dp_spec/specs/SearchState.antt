-- What a best-first search keeps true.
use Rattle.std.specs.Prelude.{ℕ, ◌<◌, ◌≤◌, ◌≡◌, ◌==◌, cond, true, false, List, All, length, sum_by, ℤ, ◌≤ℤ◌, ◌<ℤ◌}
use Rattle.dp_spec.specs.Front.{Front}
use Rattle.dp_spec.specs.declared.step.Step.{Step}
use Rattle.dp_spec.specs.declared.node.NodeKind.TheVariants.{Leaf, Inner}
use Rattle.dp_spec.specs.declared.node.ArenaNode.{ArenaNode}
use Rattle.dp_spec.specs.Arena.{kind_at, above_at}
use Rattle.dp_spec.specs.Space.{Space}
use Rattle.dp_spec.specs.Exploration.{Labels, IsExploration}

-- a leaf that may be grown
pub record OpenLeaf : Type 0 where
  pub node : ℕ
  pub above : ℕ
  pub bound : ℤ
  pub front : Front

-- how many of the open leaves have number k
abbrev pub held_at : ℕ → List OpenLeaf → ℕ
held_at k es = sum_by (λ e. cond (e.node == k) 1 0) es

-- e is a leaf of the arena with a number below `settled`, and neither full nor wide
pub record IsOpenLeaf (S : Space) (ns : List ArenaNode) (L : Labels) (settled : ℕ) (e : OpenLeaf) : Type 0 where
  pub within : e.node < settled
  pub leaf : kind_at ns e.node ≡ Leaf e.bound
  pub front : L.front e.node ≡ e.front
  pub above : above_at ns e.node ≡ e.above
  pub not_full : S.is_full e.front ≡ false
  pub not_wide : S.is_wide e.above e.front ≡ false

-- node k is a leaf of bound x that is neither full nor wide
pub record IsOpenAt (S : Space) (ns : List ArenaNode) (L : Labels) (k : ℕ) (x : ℤ) : Type 0 where
  pub within : k < length ns
  pub leaf : kind_at ns k ≡ Leaf x
  pub not_full : S.is_full (L.front k) ≡ false
  pub not_wide : S.is_wide (above_at ns k) (L.front k) ≡ false

-- The state of a search. `constants` is the greatest low worth of a constant policy, `lower` the low worth of the
-- best policy so far; the nodes below `settled` have been looked at, and `es` are the open leaves that are held.
pub record IsSearch (S : Space) (constants lower : ℤ) (ns : List ArenaNode) (L : Labels) (settled : ℕ)
    (es : List OpenLeaf) : Type 0 where
  pub explored : IsExploration S ns L
  pub settled_within : settled ≤ length ns
  pub held : All (IsOpenLeaf S ns L settled) es
  pub once : (k : ℕ) → held_at k es ≤ 1
  -- each open leaf above the lower end is held
  pub covered : (k : ℕ) (x : ℤ) → k < settled → IsOpenAt S ns L k x → lower <ℤ x → 0 < held_at k es
  -- the policy of each full leaf was looked at
  pub tried : (k : ℕ) (x : ℤ) → k < settled → kind_at ns k ≡ Leaf x → S.is_full (L.front k) ≡ true
      → S.worth (L.front k) ≤ℤ lower
  -- no step stands where the least bound is below that of an open leaf above the lower end
  pub lean : (j : ℕ) (s : Step) (f n : ℕ) → j < length ns → kind_at ns j ≡ Inner s f n → (k : ℕ) (x : ℤ)
      → IsOpenAt S ns L k x → lower <ℤ x → x ≤ℤ L.cap j
  -- each step's least bound exceeds every constant policy
  pub over_constants : (j : ℕ) (s : Step) (f n : ℕ) → j < length ns → kind_at ns j ≡ Inner s f n
      → constants <ℤ L.cap j
  pub constants_below : constants ≤ℤ lower
