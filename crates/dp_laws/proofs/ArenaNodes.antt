-- The nodes after a step, read number by number.
use Rattle.std.proofs.Common.{◌≡◌, ◌≢◌, ℕ, suc, ◌+◌, ◌<◌, ℤ, pos, List, [], ◌∷◌, ◌++◌, length, get_or, set, refl, sym}
use Rattle.std.proofs.Common.{ap, ◌∙◌, arith, length-append}
use Rattle.std.proofs.Math.ListN.{get_or-append, length-set}
use Rattle.std.proofs.lemmas.List.{get_or-append-add, get_or-set_other, get_or-set_same, get_or-map, length-map}
use Rattle.std.proofs.lemmas.List.Sums.{sum_by-append, sum_by-set}
use Rattle.dp_spec.specs.declared.step.Step.{Step}
use Rattle.dp_spec.specs.declared.node.NodeKind.TheVariants.{Leaf, Inner}
use Rattle.dp_spec.specs.declared.node.ArenaNode.{ArenaNode}
use Rattle.dp_spec.specs.Arena.{no_node, kind_at, above_at, step_count, inner_nodes, leaves_at, grown}

-- what the nodes are after leaf k was turned into step s with children of bounds xs
pub record IsGrown (ns ns' : List ArenaNode) (k : ℕ) (s : Step) (xs : List ℤ) : Type 0 where
  pub longer : length ns' ≡ length ns + length xs
  pub here : get_or ns' k no_node ≡ record { above = above_at ns k; kind = Inner s (length ns) (length xs) }
  pub same : (j : ℕ) → j < length ns → j ≢ k → get_or ns' j no_node ≡ get_or ns j no_node
  pub children : (j : ℕ) → j < length xs → get_or ns' (length ns + j) no_node
      ≡ record { above = suc (above_at ns k); kind = Leaf (get_or xs j (pos 0)) }

abbrev child_node : ℕ → ℤ → ArenaNode
child_node d x = record { above = d; kind = Leaf x }

pub grown_is : (ns : List ArenaNode) (k : ℕ) (s : Step) (xs : List ℤ) → k < length ns
    → IsGrown ns (grown ns k s xs) k s xs
unfolding grown
grown_is ns k s xs lt =
    let d = suc (above_at ns k) in
    let x : ArenaNode = record { above = above_at ns k; kind = Inner s (length ns) (length xs) } in
    let same_length = length-set ns k x in
    let ls = leaves_at d xs in
    record {
      longer = length-append (set ns k x) ls ∙ (omega (arith, same_length, length-map xs (child_node d)));
      here = get_or-append (set ns k x) ls no_node k (omega arith) ∙ get_or-set_same ns k x no_node lt;
      same = λ j below ne. get_or-append (set ns k x) ls no_node j (omega arith)
          ∙ get_or-set_other ns k j x no_node ne;
      children = λ j below.
          ap (λ n. get_or (set ns k x ++ ls) (n + j) no_node) (sym same_length)
          ∙ get_or-append-add (set ns k x) ls j no_node
          ∙ get_or-map (child_node d) xs j (pos 0) no_node below;
    }

-- leaves are no steps
no_steps : (d : ℕ) (xs : List ℤ) → inner_nodes (leaves_at d xs) ≡ 0
no_steps d [] = refl
no_steps d (x ∷ xs) = no_steps d xs

-- a step more
pub grown_inner_nodes : (ns : List ArenaNode) (k : ℕ) (s : Step) (xs : List ℤ) (x : ℤ) → k < length ns
    → kind_at ns k ≡ Leaf x
    → inner_nodes (grown ns k s xs) ≡ suc (inner_nodes ns)
unfolding grown
grown_inner_nodes ns k s xs x lt leaf =
    let f : ArenaNode → ℕ = λ n. step_count n.kind in
    let y : ArenaNode = record { above = above_at ns k; kind = Inner s (length ns) (length xs) } in
    let e : step_count (kind_at ns k) ≡ 0 = ap step_count leaf in
    omega (
      arith,
      sum_by-append f (set ns k y) (leaves_at (suc (above_at ns k)) xs),
      no_steps (suc (above_at ns k)) xs,
      sum_by-set f ns k y no_node lt,
      e,
    )
