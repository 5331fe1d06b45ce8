-- A step turns the one tree of an arena into the one tree of the grown arena.
use Rattle.std.proofs.Common.{◌≡◌, ◌≢◌, ℕ, zero, suc, ◌+◌, ◌-◌, ◌<◌, ◌≤◌, ◌⊎◌, ℤ, pos, List, [], ◌∷◌, length, get_or}
use Rattle.std.proofs.Common.{refl, sym, ap, subst, ◌∙◌, arith, inl, inr}
use Rattle.std.proofs.lemmas.Bool.{cases_eq, cases_lt}
use Rattle.std.proofs.lemmas.Bool.Decides.{nat_tests}
use Rattle.dp_spec.specs.BoundTree.{BoundTree, BoundTrees, leaf, branch, merge, no_bound_trees, more_bound_trees}
use Rattle.dp_spec.specs.BoundTree.{inner_count, inner_counts}
use Rattle.dp_spec.specs.declared.step.Step.{Step}
use Rattle.dp_spec.specs.declared.step.Step.TheVariants.{Branch, Merge}
use Rattle.dp_spec.specs.declared.node.NodeKind.TheVariants.{Leaf, Inner}
use Rattle.dp_spec.specs.declared.node.ArenaNode.{ArenaNode}
use Rattle.dp_spec.specs.Arena.{kind_at, above_at, inner_nodes, IsTreeAt, AreTreesAt, grown}
use Rattle.dp_spec.specs.WholeTree.{first_child_of, once_if, times_at, times_in, HasChildren, IsArena}
use Rattle.dp_laws.proofs.ArenaNodes.{IsGrown, grown_is, grown_inner_nodes}

once_same : (i j : ℕ) → i ≡ j → once_if i j ≡ 1
once_same i j e = grind (arith, nat_tests)

once_other : (i j : ℕ) → i ≢ j → once_if i j ≡ 0
once_other i j ne = grind (arith, nat_tests)

abbrev leaves : List ℤ → BoundTrees
leaves [] = no_bound_trees
leaves (x ∷ xs) = more_bound_trees (leaf x) (leaves xs)

no_inner : (xs : List ℤ) → inner_counts (leaves xs) ≡ 0
no_inner [] = refl
no_inner (x ∷ xs) = omega (arith, no_inner xs)

leaves_are : (ns : List ArenaNode) (xs : List ℤ) (b : ℕ) → ((t : ℕ) → t < length xs → (b + t < length ns)
    × (kind_at ns (b + t) ≡ Leaf (get_or xs t (pos 0)))) → AreTreesAt ns b (length xs) (leaves xs)
leaves_are ns [] b each = refl
leaves_are ns (x ∷ xs) b each =
    let e : b + 0 ≡ b = omega arith in
    let here = each 0 (omega arith) in (
      length xs,
      (
        refl,
        (
          (omega (arith, here.0), ap (kind_at ns) (sym e) ∙ here.1),
          leaves_are ns xs (suc b) (λ t lt.
              let more = each (suc t) (omega arith) in
              let e' : suc b + t ≡ b + suc t = omega arith in
              (omega (arith, more.0), ap (kind_at ns) e' ∙ more.1)),
        ),
      ),
    )

before_leaves : (ns : List ArenaNode) (i : ℕ) (xs : List ℤ) (b : ℕ) → i < b → times_in ns i b (leaves xs) ≡ 0
before_leaves ns i [] b lt = refl
before_leaves ns i (x ∷ xs) b lt = let none = once_other i b (λ e. absurd (omega arith)) in
    omega (arith, none, before_leaves ns i xs (suc b) (omega arith))

in_leaves : (ns : List ArenaNode) (i : ℕ) (xs : List ℤ) (b t : ℕ) → i ≡ b + t → t < length xs
    → times_in ns i b (leaves xs) ≡ 1
in_leaves ns i [] b t e lt = absurd (omega arith)
in_leaves ns i (x ∷ xs) b zero e lt = let one = once_same i b (omega arith) in
    omega (arith, one, before_leaves ns i xs (suc b) (omega arith))
in_leaves ns i (x ∷ xs) b (suc t) e lt = let none = once_other i b (λ e'. absurd (omega arith)) in
    omega (arith, none, in_leaves ns i xs (suc b) t (omega arith) (omega arith))

module _ (ns : List ArenaNode) (k : ℕ) (x : ℤ) (s : Step) (xs : List ℤ) (lt : k < length ns)
    (leaf_at : kind_at ns k ≡ Leaf x) (children : HasChildren s (length xs)) where
  abbrev ns' : List ArenaNode
  ns' = grown ns k s xs

  read : IsGrown ns ns' k s xs
  read = grown_is ns k s xs lt

  kind_before : (j : ℕ) → j < length ns → j ≢ k → kind_at ns' j ≡ kind_at ns j
  kind_before j below ne = ap (λ (n : ArenaNode). n.kind) (read.same j below ne)

  kind_here : kind_at ns' k ≡ Inner s (length ns) (length xs)
  kind_here = ap (λ (n : ArenaNode). n.kind) read.here

  -- the tree at node j after the step
  record GrownTree (j : ℕ) (T : BoundTree) : Type 0 where
    tree : BoundTree
    at : IsTreeAt ns' j tree
    count : inner_count tree ≡ inner_count T + times_at ns k j T
    old : (i : ℕ) → i < length ns → times_at ns' i j tree ≡ times_at ns i j T
    new : (i : ℕ) → i < length xs → times_at ns' (length ns + i) j tree ≡ times_at ns k j T

  record GrownTrees (b r : ℕ) (Ts : BoundTrees) : Type 0 where
    trees : BoundTrees
    at : AreTreesAt ns' b r trees
    count : inner_counts trees ≡ inner_counts Ts + times_in ns k b Ts
    old : (i : ℕ) → i < length ns → times_in ns' i b trees ≡ times_in ns i b Ts
    new : (i : ℕ) → i < length xs → times_in ns' (length ns + i) b trees ≡ times_in ns k b Ts

  first_here : first_child_of (kind_at ns' k) ≡ length ns
  first_here = ap first_child_of kind_here

  -- the leaf that is grown
  tree_here : (t : Step) → t ≡ s → HasChildren t (length xs) → (j : ℕ) → j ≡ k → (y : ℤ) → GrownTree j (leaf y)
  tree_here (Branch i c) e some j ej y =
      let longer = read.longer in
      let one = once_same k j (sym ej) in
      record {
        tree = branch i c (leaves xs);
        at = (
          omega arith,
          (
            length ns,
            (
              length xs,
              (
                ap (kind_at ns') ej ∙ kind_here
                    ∙ ap (λ z. Inner z (length ns) (length xs)) (sym e),
                leaves_are ns' xs (length ns) (λ t below. (
                  omega arith,
                  ap (λ (n : ArenaNode). n.kind) (read.children t below),
                )),
              ),
            ),
          ),
        );
        count = omega (arith, no_inner xs, one);
        old = λ a below. ap (λ f. once_if a j + times_in ns' a f (leaves xs))
            (ap (λ z. first_child_of (kind_at ns' z)) ej ∙ first_here)
            ∙ omega (arith, before_leaves ns' a xs (length ns) below);
        new = λ a below.
            let none = once_other (length ns + a) j (λ e'. absurd (omega arith)) in
            ap (λ f. once_if (length ns + a) j + times_in ns' (length ns + a) f (leaves xs))
            (ap (λ z. first_child_of (kind_at ns' z)) ej ∙ first_here)
            ∙ omega (arith, one, none, in_leaves ns' (length ns + a) xs (length ns) a refl below);
      }
  tree_here (Merge i a b) e some j ej y =
      let longer = read.longer in
      let one = once_same k j (sym ej) in
      let e0 : length ns + 0 ≡ length ns = omega arith in
      let kid = (ap (λ (n : ArenaNode). n.kind) (read.children 0 (omega arith))) in
      record {
        tree = merge i a b (leaf (get_or xs 0 (pos 0)));
        at = (
          omega arith,
          (
            length ns,
            (
              ap (kind_at ns') ej ∙ kind_here
                  ∙ ap (λ z. Inner z (length ns) (length xs)) (sym e)
                  ∙ ap (Inner (Merge i a b) (length ns)) some,
              (omega arith, ap (kind_at ns') (sym e0) ∙ kid),
            ),
          ),
        );
        count = omega (arith, one);
        old = λ d below.
            let none = once_other d (length ns) (λ e'. absurd (omega arith)) in
            ap (λ f. once_if d j + once_if d f) (ap (λ z. first_child_of (kind_at ns' z)) ej ∙ first_here)
            ∙ omega (arith, none);
        new = λ d below.
            let none = once_other (length ns + d) j (λ e'. absurd (omega arith)) in
            let here = once_same (length ns + d) (length ns) (omega arith) in
            ap (λ f. once_if (length ns + d) j + once_if (length ns + d) f)
            (ap (λ z. first_child_of (kind_at ns' z)) ej ∙ first_here) ∙ omega (arith, one, none, here);
      }

  -- another leaf
  other_leaf : (j : ℕ) (y : ℤ) → j ≢ k → IsTreeAt ns j (leaf y) → GrownTree j (leaf y)
  other_leaf j y ne at =
      let longer = read.longer in
      let none = once_other k j (λ e. ne (sym e)) in
      record {
        tree = leaf y;
        at = (omega (arith, at.0), kind_before j at.0 ne ∙ at.1);
        count = omega (arith, none);
        old = λ a below. refl;
        new = λ a below. let none' = once_other (length ns + a) j (λ e. absurd (omega (arith, at.0))) in
            omega (arith, none, none');
      }

  -- a step is not the leaf
  no_step : (j : ℕ) (t : Step) (f n : ℕ) → kind_at ns j ≡ Inner t f n → j ≢ k
  no_step j t f n kind e = let both : Inner t f n ≡ Leaf x = sym kind ∙ ap (kind_at ns) e ∙ leaf_at in cc both

  mutual
    grow_tree : (j : ℕ) (T : BoundTree) → IsTreeAt ns j T → GrownTree j T
    grow_tree j (leaf y) at = elim (cases_eq j k) [
      | inl e ↦ tree_here s refl children j e y
      | inr ne ↦
          other_leaf j y ne at
    ]
    grow_tree j (branch i c Ts) at =
        let f = at.1.0 in
        let n = at.1.1.0 in
        let kind = at.1.1.1.0 in
        let ne = no_step j (Branch i c) f n kind in
        let longer = read.longer in
        let below = grow_trees f n Ts at.1.1.1.1 in
        let first : first_child_of (kind_at ns j) ≡ f = ap first_child_of kind in
        let first' : first_child_of (kind_at ns' j) ≡ f = ap first_child_of (kind_before j at.0 ne ∙ kind) in
        let none = once_other k j (λ e. ne (sym e)) in
        let times : (a : ℕ) → times_at ns a j (branch i c Ts)
        ≡ once_if a j + times_in ns a f Ts = λ a. ap (λ z. once_if a j + times_in ns a z Ts) first in
        let times' : (a : ℕ) → times_at ns' a j (branch i c below.trees)
        ≡ once_if a j + times_in ns' a f below.trees = λ a. ap
        (λ z. once_if a j + times_in ns' a z below.trees) first' in
        record {
          tree = branch i c below.trees;
          at = (omega (arith, at.0), (f, (n, (kind_before j at.0 ne ∙ kind, below.at))));
          count = omega (arith, below.count, times k, none);
          old = λ a less. times' a ∙ omega (arith, below.old a less, times a);
          new = λ a less. let none' = once_other (length ns + a) j (λ e. absurd (omega (arith, at.0))) in
              times' (length ns + a) ∙ omega (arith, below.new a less, times k, none, none');
        }
    grow_tree j (merge i a b T) at =
        let f = at.1.0 in
        let kind = at.1.1.0 in
        let ne = no_step j (Merge i a b) f 1 kind in
        let longer = read.longer in
        let below = grow_tree f T at.1.1.1 in
        let first : first_child_of (kind_at ns j) ≡ f = ap first_child_of kind in
        let first' : first_child_of (kind_at ns' j) ≡ f = ap first_child_of (kind_before j at.0 ne ∙ kind) in
        let none = once_other k j (λ e. ne (sym e)) in
        let times : (d : ℕ) → times_at ns d j (merge i a b T)
        ≡ once_if d j + times_at ns d f T = λ d. ap (λ z. once_if d j + times_at ns d z T) first in
        let times' : (d : ℕ) → times_at ns' d j (merge i a b below.tree)
        ≡ once_if d j + times_at ns' d f below.tree = λ d. ap (λ z. once_if d j + times_at ns' d z below.tree)
        first' in
        record {
          tree = merge i a b below.tree;
          at = (omega (arith, at.0), (f, (kind_before j at.0 ne ∙ kind, below.at)));
          count = omega (arith, below.count, times k, none);
          old = λ d less. times' d ∙ omega (arith, below.old d less, times d);
          new = λ d less. let none' = once_other (length ns + d) j (λ e. absurd (omega (arith, at.0))) in
              times' (length ns + d) ∙ omega (arith, below.new d less, times k, none, none');
        }

    grow_trees : (b r : ℕ) (Ts : BoundTrees) → AreTreesAt ns b r Ts → GrownTrees b r Ts
    grow_trees b r no_bound_trees at = record {
      trees = no_bound_trees;
      at = at;
      count = refl;
      old = λ a less. refl;
      new = λ a less. refl;
    }
    grow_trees b r (more_bound_trees T Ts) at =
        let first = grow_tree b T at.1.1.0 in
        let more = grow_trees (suc b) at.0 Ts at.1.1.1 in
        record {
          trees = more_bound_trees first.tree more.trees;
          at = (at.0, (at.1.0, (first.at, more.at)));
          count = omega (arith, first.count, more.count);
          old = λ a less. omega (arith, first.old a less, more.old a less);
          new = λ a less. omega (arith, first.new a less, more.new a less);
        }

  -- the step of a node is the new one or an old one
  step_cases : (j : ℕ) (t : Step) (f n : ℕ) → j < length ns' → kind_at ns' j ≡ Inner t f n
      → ((j ≡ k) × ((f ≡ length ns) × (n ≡ length xs) × (t ≡ s))) ⊎
      ((j < length ns) × (kind_at ns j ≡ Inner t f n))
  step_cases j t f n below kind =
      elim (cases_lt j (length ns)) [
        | inl old ↦
            elim (cases_eq j k) [
              | inl e ↦ let same : Inner t f n ≡ Inner s (length ns) (length xs) = sym kind ∙ ap (kind_at ns') e
                  ∙ kind_here in inl (e, (cc same, cc same, cc same))
              | inr ne ↦ inr (old, sym (kind_before j old ne) ∙ kind)
            ]
        | inr new ↦
            let longer = read.longer in
            let e : j ≡ length ns + (j - length ns) = omega arith in
            let same : Inner t f n ≡ Leaf (get_or xs (j - length ns) (pos 0)) = sym kind ∙ ap (kind_at ns') e
            ∙ ap (λ (z : ArenaNode). z.kind) (read.children (j - length ns) (omega arith)) in
            absurd (cc same)
      ]

  above_before : (j : ℕ) → j < length ns → above_at ns' j ≡ above_at ns j
  above_before j below =
      elim (cases_eq j k) [
        | inl e ↦ subst (λ (z : ℕ). above_at ns' z ≡ above_at ns z) (sym e)
            (ap (λ (n : ArenaNode). n.above) read.here)
        | inr ne ↦ ap (λ (n : ArenaNode). n.above) (read.same j below ne)
      ]

  above_child : (j : ℕ) → j < length xs → above_at ns' (length ns + j) ≡ suc (above_at ns k)
  above_child j below = ap (λ (n : ArenaNode). n.above) (read.children j below)

  arena_grows : 0 < length xs → above_at ns k < 2048 → IsArena ns → IsArena ns'
  arena_grows some shallow arena =
      let next = grow_tree 0 arena.tree arena.at in
      let longer = read.longer in
      let first : 0 < length ns = omega arith in
      record {
        tree = next.tree;
        at = next.at;
        counted = omega (
          arith,
          next.count,
          arena.counted,
          arena.once k lt,
          grown_inner_nodes ns k s xs x lt leaf_at,
        );
        once = λ i below.
            elim (cases_lt i (length ns)) [
              | inl old ↦ next.old i old ∙ arena.once i old
              | inr new ↦
                  let e : i ≡ length ns + (i - length ns) = omega arith in
                  ap (λ z. times_at ns' z 0 next.tree) e ∙ next.new (i - length ns) (omega arith)
                  ∙ arena.once k lt
            ];
        later = λ j t f n below kind.
            elim (step_cases j t f n below kind) [
              | inl new ↦ (
                omega (arith, new.0, new.1.0),
                (
                  omega (arith, new.1.0, new.1.1),
                  subst (λ (z : ℕ). HasChildren t z) (sym new.1.1)
                      (subst (λ (z : Step). HasChildren z (length xs)) (sym new.1.2) children),
                ),
              )
              | inr old ↦ let l = arena.later j t f n old.0 old.1 in (l.0, (omega (arith, l.1.0), l.1.1))
            ];
        root = above_before 0 first ∙ arena.root;
        deeper = λ j t f n below kind i less.
            elim (step_cases j t f n below kind) [
              | inl new ↦
                  let e : f + i ≡ length ns + i = omega (arith, new.1.0) in
                  ap (above_at ns') e ∙ above_child i (omega (arith, new.1.1))
                  ∙ ap suc (sym (above_before k lt) ∙ ap (above_at ns') (sym new.0))
              | inr old ↦
                  let l = arena.later j t f n old.0 old.1 in
                  above_before (f + i) (omega (arith, l.1.0)) ∙ arena.deeper j t f n old.0 old.1 i less
                  ∙ ap suc (sym (above_before j old.0))
            ];
        shallow = λ j below.
            elim (cases_lt j (length ns)) [
              | inl old ↦ let d = above_before j old in omega (arith, arena.shallow j old, d)
              | inr new ↦
                  let e : j ≡ length ns + (j - length ns) = omega arith in
                  let d = ap (above_at ns') e ∙ above_child (j - length ns) (omega arith) in
                  omega (arith, d, shallow)
            ];
      }

-- a step has a child
some_child : (s : Step) (n : ℕ) → HasChildren s n → 0 < n
some_child (Branch i c) n h = h
some_child (Merge i a b) n h = omega arith

-- a leaf becomes a step with children
pub arena_grows_at : (ns : List ArenaNode) (k : ℕ) (x : ℤ) (s : Step) (xs : List ℤ) → k < length ns
    → kind_at ns k ≡ Leaf x
    → HasChildren s (length xs) → above_at ns k < 2048 → IsArena ns → IsArena (grown ns k s xs)
arena_grows_at ns k x s xs lt there children shallow arena =
    arena_grows ns k x s xs lt there children (some_child s (length xs) children) shallow arena

-- one leaf
pub arena_starts : (x : ℤ) → IsArena (record { above = 0; kind = Leaf x } ∷ [])
arena_starts x = record {
  tree = leaf x;
  at = (omega arith, refl);
  counted = refl;
  once = λ i below. once_same i 0 (omega arith);
  later = λ k s f n below kind. absurd (no_step_yet k s f n below kind);
  root = refl;
  deeper = λ k s f n below kind. absurd (no_step_yet k s f n below kind);
  shallow = λ k below. first_above k below;
}
  where
    no_step_yet : (k : ℕ) (s : Step) (f n : ℕ) → k < 1 → kind_at (record { above = 0; kind = Leaf x } ∷ []) k
        ≡ Inner s f n → ⊥
    no_step_yet zero s f n below kind = cc kind
    no_step_yet (suc k) s f n below kind = absurd (omega arith)

    first_above : (k : ℕ) → k < 1 → above_at (record { above = 0; kind = Leaf x } ∷ []) k ≤ 2048
    first_above zero below = omega arith
    first_above (suc k) below = absurd (omega arith)

-- ---- the tree of nodes is one tree
mutual
  pub same_tree : (ns : List ArenaNode) (k : ℕ) (T U : BoundTree) → IsTreeAt ns k T → IsTreeAt ns k U → T ≡ U
  same_tree ns k (leaf x) (leaf y) at at' = let e : Leaf x ≡ Leaf y = sym at.1 ∙ at'.1 in ap leaf (cc e)
  same_tree ns k (leaf x) (branch i c Ts) at at' = let e = sym at.1 ∙ at'.1.1.1.0 in absurd (cc e)
  same_tree ns k (leaf x) (merge i a b T) at at' = let e = sym at.1 ∙ at'.1.1.0 in absurd (cc e)
  same_tree ns k (branch i c Ts) (leaf y) at at' = let e = sym at'.1 ∙ at.1.1.1.0 in absurd (cc e)
  same_tree ns k (branch i c Ts) (branch j d Us) at at' =
      let e = sym at.1.1.1.0 ∙ at'.1.1.1.0 in
      let ei : i ≡ j = cc e in
      let ed : c ≡ d = cc e in
      let ef : at.1.0 ≡ at'.1.0 = cc e in
      let en : at.1.1.0 ≡ at'.1.1.0 = cc e in
      let others = subst (λ (z : ℕ). AreTreesAt ns z at'.1.1.0 Us) (sym ef) at'.1.1.1.1 in
      let same = same_trees ns at.1.0 at.1.1.0 at'.1.1.0 Ts Us en at.1.1.1.1 others in
      cc
  same_tree ns k (branch i c Ts) (merge j a b U) at at' = let e = sym at.1.1.1.0 ∙ at'.1.1.0 in absurd (cc e)
  same_tree ns k (merge i a b T) (leaf y) at at' = let e = sym at'.1 ∙ at.1.1.0 in absurd (cc e)
  same_tree ns k (merge i a b T) (branch j d Us) at at' = let e = sym at'.1.1.1.0 ∙ at.1.1.0 in absurd (cc e)
  same_tree ns k (merge i a b T) (merge j c d U) at at' =
      let e = sym at.1.1.0 ∙ at'.1.1.0 in
      let ei : i ≡ j = cc e in
      let ea : a ≡ c = cc e in
      let eb : b ≡ d = cc e in
      let ef : at.1.0 ≡ at'.1.0 = cc e in
      let same = same_tree ns at.1.0 T U at.1.1.1 (subst (λ (z : ℕ). IsTreeAt ns z U) (sym ef) at'.1.1.1) in
      cc

  same_trees : (ns : List ArenaNode) (f n n' : ℕ) (Ts Us : BoundTrees) → n ≡ n' → AreTreesAt ns f n Ts
      → AreTreesAt ns f n' Us → Ts ≡ Us
  same_trees ns f n n' no_bound_trees no_bound_trees e at at' = refl
  same_trees ns f n n' no_bound_trees (more_bound_trees U Us) e at at' = absurd (omega (arith, at'.1.0))
  same_trees ns f n n' (more_bound_trees T Ts) no_bound_trees e at at' = absurd (omega (arith, at.1.0))
  same_trees ns f n n' (more_bound_trees T Ts) (more_bound_trees U Us) e at at' =
      let one = same_tree ns f T U at.1.1.0 at'.1.1.0 in
      let rest = same_trees ns (suc f) at.0 at'.0 Ts Us (omega (arith, at.1.0, at'.1.0)) at.1.1.1 at'.1.1.1 in
      cc

-- a tree of the nodes has as many steps as they
pub tree_counted : (ns : List ArenaNode) (T : BoundTree) → IsArena ns → IsTreeAt ns 0 T
    → inner_count T ≡ inner_nodes ns
tree_counted ns T arena at = ap inner_count (same_tree ns 0 T arena.tree at arena.at) ∙ arena.counted
