-- What can be said of a valid certificate: closed, lean, merged, and ruled by a branching rule. (Own.)
use Rattle.std.specs.Prelude.{ℕ, suc, ◌<◌, ◌≡◌, ◌==◌, true, false, cond, ℤ, pos, ◌+ℤ◌, neg_ℤ, ◌≤ℤ◌, ◌<ℤ◌, All}
use Rattle.std.specs.Prelude.{slice_get, List, [], ◌∷◌, ◌++◌, map, filter, length, get_or, Option, Some, None}
use Rattle.std.specs.Prelude.{is_none}
use Rattle.std.specs.Int.{int_min}
use Rattle.std.specs.List.{range_with_len, flat_map}
use Rattle.dp_base.specs.Sums.{int_sum, greatest, numbers_below}
use Rattle.dp_spec.specs.JointNumbers.{product, parts_of}
use Rattle.dp_spec.specs.Model.{Model}
use Rattle.dp_spec.specs.Front.{Front, class_counts}
use Rattle.dp_spec.specs.Steps.{root_agent, root_front, chosen_front, front_after_choice}
use Rattle.dp_spec.specs.Merge.{merged_front}
use Rattle.dp_spec.specs.Pairs.{HasNoPair}
use Rattle.dp_spec.specs.Arithmetic.{Arithmetic}
use Rattle.dp_spec.specs.Quantities.{class_weight_in}
use Rattle.dp_spec.specs.BoundTree.{BoundTree, BoundTrees, leaf, branch, merge, no_bound_trees, more_bound_trees}
use Rattle.dp_spec.specs.BoundTree.{LeavesAtMost}
use Rattle.dp_spec.specs.Wide.{is_wide}
use Rattle.dp_spec.specs.Fitting.{front_bound}
use Rattle.dp_spec.specs.Certificate.{Certificate, arithmetic_for}

-- ---- the nodes of a tree that fits a front

-- a node: the tree that begins at it, how many branches and merges stand above it, its front, and the least bound on
-- its path
pub record Node : Type 0 where
  pub tree : BoundTree
  pub above : ℕ
  pub front : Front
  pub cap : ℤ

abbrev mutual
  -- the nodes in preorder
  pub nodes_of : Arithmetic → Model → ℕ → ℕ → ℕ → BoundTree → Front → ℤ → List Node
  nodes_of A m h look above (leaf x) F cap = record { tree = leaf x; above = above; front = F; cap = cap } ∷ []
  nodes_of A m h look above (branch i c ks) F cap =
      record {
        tree = branch i c ks;
        above = above;
        front = F;
        cap =
            cap;
      } ∷ nodes_of_choices A m h look (suc above) ks F i c 0 cap
  nodes_of A m h look above (merge i a b k) F cap =
      record { tree = merge i a b k; above = above; front = F; cap = cap }
      ∷ nodes_of A m h look (suc above) k (merged_front F i a b)
      (int_min cap (front_bound A m h look (merged_front F i a b)))

  pub nodes_of_choices : Arithmetic → Model → ℕ → ℕ → ℕ → BoundTrees → Front → ℕ → ℕ → ℕ → ℤ → List Node
  nodes_of_choices A m h look above no_bound_trees F i c a cap = []
  nodes_of_choices A m h look above (more_bound_trees k ks) F i c a cap =
      nodes_of A m h look above k (front_after_choice m F i c a)
      (int_min cap (front_bound A m h look (front_after_choice m F i c a)))
      ++ nodes_of_choices A m h look above ks F i c (suc a) cap

-- the nodes of a certificate's tree, from the root front
abbrev pub certificate_nodes : Model → Certificate → List Node
certificate_nodes m c =
    let A = arithmetic_for m c in
    nodes_of A m c.horizon c.look 0 c.tree (root_front m) (front_bound A m c.horizon c.look (root_front m))

-- a fact of a leaf's bound
abbrev pub IfLeaf : BoundTree → (ℤ → Type 0) → Type 0
IfLeaf (leaf x) P = P x
IfLeaf T P = Unit {0}

-- a fact of the bound of a leaf that is not full
abbrev pub IfOpenLeaf : ℕ → Node → (ℤ → Type 0) → Type 0
IfOpenLeaf h n P = IfLeaf n.tree (λ x. n.front.stage < h → P x)

-- a fact of the bound of a leaf that is neither full nor wide
abbrev pub IfNarrowLeaf : Model → ℕ → Node → (ℤ → Type 0) → Type 0
IfNarrowLeaf m h n P = IfOpenLeaf h n (λ x. is_wide m h n.above n.front ≡ false → P x)

-- a fact of a node that is no leaf
abbrev pub IfInner : BoundTree → Type 0 → Type 0
IfInner (leaf x) P = Unit {0}
IfInner T P = P

-- a fact of a branch's agent and class
abbrev pub IfBranch : BoundTree → (ℕ → ℕ → Type 0) → Type 0
IfBranch (branch i c ks) P = P i c
IfBranch T P = Unit {0}

-- ---- the qualities

-- Closed: the bound of every leaf that is not full is at most the lower end, and in exact mode that of every leaf.
pub record IsClosed (m : Model) (c : Certificate) : Type 0 where
  pub open_leaves : All (λ n. IfOpenLeaf c.horizon n (λ x. x ≤ℤ c.lower)) (certificate_nodes m c)
  pub exact_leaves : c.is_exact ≡ true → LeavesAtMost c.lower c.tree

-- Lean: no branch and no merge stands where the least bound of its path is below that of a leaf that is still open
-- and could be refined, since it is not wide.
abbrev pub IsLean : Model → Certificate → Type 0
IsLean m c =
    All (λ n. All (λ k. IfInner n.tree (IfNarrowLeaf m c.horizon k (λ x. c.lower <ℤ x → x ≤ℤ n.cap)))
    (certificate_nodes m c)) (certificate_nodes m c)

-- Every leaf that is not full and whose bound exceeds the lower end is wide, so that nothing is left to be refined.
abbrev pub IsRefined : Model → Certificate → Type 0
IsRefined m c =
    All (λ n. IfOpenLeaf c.horizon n (λ x. c.lower <ℤ x → is_wide m c.horizon n.above n.front ≡ true))
    (certificate_nodes m c)

-- no two unassigned classes of one agent are equivalent
abbrev pub HasNoEquivalent : Model → Front → Type 0
HasNoEquivalent m F = (i : ℕ) → HasNoPair m F i

-- Merged: the mode is exact, and no branch stands where two classes could be merged.
pub record IsMerged (m : Model) (c : Certificate) : Type 0 where
  pub exact : c.is_exact ≡ true
  pub branches : All (λ n. IfBranch n.tree (λ i k. HasNoEquivalent m n.front)) (certificate_nodes m c)

-- ---- branching rules

-- a place where a branch may stand: an unassigned class, its weight, and how far a choice there may lower the bound
pub record Place : Type 0 where
  pub agent : ℕ
  pub class : ℕ
  pub weight : ℤ
  pub spread : ℤ

-- the upper weights of the joint classes in which class c of agent i takes part
unfoldable pub upper_weight : Arithmetic → Model → Front → ℕ → ℕ → ℤ
upper_weight A m F i c =
    int_sum (product (class_counts F.agents)) (λ C.
    cond (get_or (parts_of (class_counts F.agents) C) i 0 == c)
    (int_sum m.states (λ s. (class_weight_in A m F C s).high)) (pos 0))

-- the bound of the front less the least bound after an action for class c of agent i, at the same stage
unfoldable pub spread_of : Arithmetic → Model → ℕ → ℕ → Front → ℕ → ℕ → ℤ
spread_of A m h look F i c =
    front_bound A m h look F
    +ℤ greatest (λ a. neg_ℤ (front_bound A m h look (chosen_front F i c a))) (numbers_below (get_or m.actions i 0))

-- the actions of agent i's classes, or none
abbrev pub chosen_of : Front → ℕ → List (Option ℕ)
chosen_of F i = (get_or F.agents i root_agent).chosen

-- the places of a front, by agent and then by class
abbrev pub places_of : Arithmetic → Model → ℕ → ℕ → Front → List Place
places_of A m h look F =
    flat_map (λ i. map (λ c. record {
      agent = i;
      class = c;
      weight = upper_weight A m F i c;
      spread =
          spread_of A m h look F i c;
    })
    (filter (λ c. is_none (get_or (chosen_of F i) c None)) (range_with_len 0 (length (chosen_of F i)))))
    (range_with_len 0 (length F.agents))

-- Ruled: each branch stands at a place that the rule may answer for the places of its front. (The rule is a relation
-- of places and a number among them.)
abbrev pub IsRuled : (List Place → ℕ → Type 0) → Model → Certificate → Type 0
IsRuled May m c =
    All (λ n. IfBranch n.tree (λ i k.
    let places = places_of (arithmetic_for m c) m c.horizon c.look n.front in
    (x : ℕ) × May places x × ((p : Place) × (slice_get places x ≡ Some p) × (p.agent ≡ i) × (p.class ≡ k))))
    (certificate_nodes m c)
