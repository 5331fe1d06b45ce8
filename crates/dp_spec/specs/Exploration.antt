-- The nodes of an arena as an exploration of a space: each node has a front and the least bound of its path.
use Rattle.std.specs.Prelude.{ℕ, suc, ◌+◌, ◌<◌, ◌≤◌, ◌≡◌, false, List, length, get_or, ℤ}
use Rattle.std.specs.Int.{int_min}
use Rattle.dp_spec.specs.Front.{Front}
use Rattle.dp_spec.specs.declared.step.Step.{Step}
use Rattle.dp_spec.specs.declared.node.NodeKind.TheVariants.{Leaf, Inner}
use Rattle.dp_spec.specs.declared.node.ArenaNode.{ArenaNode}
use Rattle.dp_spec.specs.Arena.{kind_at, above_at}
use Rattle.dp_spec.specs.Space.{Space}

-- for each number the node's front and the least bound on its path
pub record Labels : Type 0 where
  pub front : ℕ → Front
  pub cap : ℕ → ℤ

-- node k makes step s, and its n children begin at number f
pub record IsInnerNode (S : Space) (ns : List ArenaNode) (L : Labels) (k : ℕ) (s : Step) (f n : ℕ) : Type 0 where
  pub later : k < f
  pub within : f + n ≤ length ns
  pub allowed : S.May (L.front k) s
  pub not_full : S.is_full (L.front k) ≡ false
  pub not_wide : S.is_wide (above_at ns k) (L.front k) ≡ false
  pub each : n ≡ length (S.next (L.front k) s)
  pub fronts : (j : ℕ) → j < n → L.front (f + j) ≡ get_or (S.next (L.front k) s) j S.root
  pub caps : (j : ℕ) → j < n → L.cap (f + j) ≡ int_min (L.cap k) (S.bound (L.front (f + j)))
  pub aboves : (j : ℕ) → j < n → above_at ns (f + j) ≡ suc (above_at ns k)

-- the nodes explore the space from its root
pub record IsExploration (S : Space) (ns : List ArenaNode) (L : Labels) : Type 0 where
  pub some : 0 < length ns
  pub front : L.front 0 ≡ S.root
  pub cap : L.cap 0 ≡ S.bound S.root
  pub above : above_at ns 0 ≡ 0
  pub leaves : (k : ℕ) (x : ℤ) → k < length ns → kind_at ns k ≡ Leaf x → x ≡ L.cap k
  pub steps : (k : ℕ) (s : Step) (f n : ℕ) → k < length ns → kind_at ns k ≡ Inner s f n → IsInnerNode S ns L k s f n
