-- A step in the words of the code: from the leaf that was taken and the children that were made to the grown arena.
use Rattle.std.proofs.Common.{◌≡◌, ℕ, suc, ◌+◌, ◌*◌, ◌<◌, ◌≤◌, ℤ, ◌≤ℤ◌, ◌<ℤ◌, List, [], ◌∷◌, length, map, refl, sym}
use Rattle.std.proofs.Common.{ap, subst, ◌∙◌, arith, All, ◌⊎◌, inl, inr}
use Rattle.std.proofs.lemmas.List.{length-map}
use Rattle.std.proofs.lemmas.List.Elements.{All-cons, All-head, All-map, All-tail}
use Rattle.dp_spec.specs.Front.{Front}
use Rattle.dp_spec.specs.declared.step.Step.{Step}
use Rattle.dp_spec.specs.declared.node.NodeKind.{NodeKind}
use Rattle.dp_spec.specs.declared.node.NodeKind.TheVariants.{Leaf}
use Rattle.dp_spec.specs.Arena.{grown}
use Rattle.dp_spec.specs.Space.{Space}
use Rattle.dp_spec.specs.SearchState.{OpenLeaf}
use Rattle.dp_laws.proofs.Searching.{search_starts}
use Rattle.dp_tree.specs.Nodes.{Nodes, IsLeaf}
use Rattle.dp_search.specs.declared.planner.Child.{Child}
use Rattle.dp_search.specs.declared.held_leaf.HeldLeaf.{HeldLeaf}
use Rattle.dp_search.specs.Running.{IsRunning, IsFinished, NextFront, opened}
use Rattle.dp_search.specs.SearchStates.{open_leaf, next_front}
use Rattle.dp_search.proofs.Steps.{ends_at_budget, ends_closed, grown_runs, opened_length, bounds_of, fronts_of}

-- what holds of each value of a list holds where the value was taken
pub all_of_map : {X Y : Type 0} (P : Y → Type 0) (f : X → Y) (xs : List X) → All P (map f xs)
    → All (λ x. P (f x)) xs
all_of_map P f [] all = λ k d lt. absurd (omega arith)
all_of_map P f (x ∷ xs) all =
    All-cons (λ x. P (f x)) x xs (All-head P (f x) (map f xs) all)
    (all_of_map P f xs (All-tail P (f x) (map f xs) all))

-- the bounds of the leaves
leaf_bounds : {F : Type 0} (meaning : F → Front) (leaves : List (HeldLeaf F))
    → map (λ (o : HeldLeaf F). o.bound) leaves ≡ bounds_of (map (open_leaf meaning) leaves)
leaf_bounds meaning [] = refl
leaf_bounds meaning (o ∷ os) = ap (λ zs. o.bound ∷ zs) (leaf_bounds meaning os)

child_fronts : {F : Type 0} (meaning : F → Front) (children : List (Child F))
    → fronts_of (map (next_front meaning) children) ≡ map (λ (c : Child F). meaning c.front) children
child_fronts meaning [] = refl
child_fronts meaning (c ∷ cs) = ap (λ Fs. meaning c.front ∷ Fs) (child_fronts meaning cs)

pub leaves_length : {F : Type 0} (meaning : F → Front) (leaves : List (HeldLeaf F)) (children : List (Child F))
    (n d : ℕ) (cap : ℤ) → map (open_leaf meaning) leaves ≡ opened n d cap (map (next_front meaning) children)
    → length leaves ≡ length children
leaves_length meaning leaves children n d cap same =
    sym (length-map leaves (open_leaf meaning)) ∙ ap length same
    ∙ opened_length n d cap (map (next_front meaning) children) ∙ length-map children (next_front meaning)

-- fronts of the planner, where the children's are
pub fronts_of_leaves : {F : Type 0} (IsFront : F → Type 0) (leaves : List (HeldLeaf F))
    (children : List (Child F))
    → map (λ (o : HeldLeaf F). o.front) leaves ≡ map (λ (c : Child F). c.front) children
    → All (λ (c : Child F). IsFront c.front) children → All (λ (o : HeldLeaf F). IsFront o.front) leaves
fronts_of_leaves {F} IsFront leaves children same all =
    all_of_map IsFront (λ (o : HeldLeaf F). o.front) leaves
    (subst (λ (fs : List F). All IsFront fs) (sym same) (All-map IsFront (λ (c : Child F). c.front)
    children all))

pub is_leaf_of : (kind : NodeKind) (x : ℤ) → kind ≡ Leaf x → IsLeaf kind
is_leaf_of kind x e = subst (λ (k : NodeKind). IsLeaf k) (sym e) tt

module _ {F : Type 0} (meaning : F → Front) (S : Space) (constants : ℤ) (width budget : ℕ) (arena : Nodes)
    (lower : ℤ) (inner : ℕ) (items : List (HeldLeaf F)) (top : HeldLeaf F) where
  pub step_runs : (arena' : Nodes) (children : List (Child F)) (leaves : List (HeldLeaf F)) (xs : List ℤ)
      (s : Step)
      → IsRunning S constants width budget arena lower inner
      (open_leaf meaning top ∷ map (open_leaf meaning) items) []
      → lower <ℤ top.bound → All (λ (y : HeldLeaf F). y.bound ≤ℤ top.bound) items → inner < budget
      → S.May (meaning top.front) s → map (λ (c : Child F). meaning c.front) children
      ≡ S.next (meaning top.front)
      s → All (λ (c : Child F). c.bound ≡ S.bound (meaning c.front)) children → length children ≤ width
      → map (open_leaf meaning) leaves ≡ opened (length arena.nodes) (top.above + 1) top.bound
      (map (next_front meaning) children)
      → xs ≡ map (λ (o : HeldLeaf F). o.bound) leaves → arena' ≡ record
      { nodes = grown arena.nodes top.node s xs; most = arena.most }
      → IsRunning S constants width budget arena' lower (inner + 1) (map (open_leaf meaning) items)
      (map (open_leaf meaning) leaves)
  step_runs arena' children leaves xs s running over greatest lt may next own few opens bounds grew =
      let n = length arena.nodes in
      let cs = map (next_front meaning) children in
      let e : top.above + 1 ≡ suc top.above = omega arith in
      let ei : suc inner ≡ inner + 1 = omega arith in
      let opens' : map (open_leaf meaning) leaves ≡ opened n (suc top.above) top.bound cs = opens
      ∙ ap (λ d. opened n d top.bound cs) e in
      let same : bounds_of (opened n (suc top.above) top.bound cs) ≡ xs = ap bounds_of (sym opens')
      ∙ sym (leaf_bounds meaning leaves) ∙ sym bounds in
      let arena_is : record {
        nodes = grown arena.nodes top.node s
            (bounds_of (opened n (suc top.above) top.bound cs));
        most = arena.most;
      } ≡ arena' =
      ap (λ z. record { nodes = grown arena.nodes top.node s z; most = arena.most }) same ∙ sym grew in
      let few' : length cs ≤ width = let l = length-map children (next_front meaning) in omega arith in
      let low = All-map (λ (o : OpenLeaf). o.bound ≤ℤ top.bound) (open_leaf meaning) items greatest in
      let made = grown_runs S constants width budget arena lower inner (map (open_leaf meaning) items)
      (open_leaf meaning top) running over low lt s cs may (child_fronts meaning children ∙ next)
      (All-map (λ (c : NextFront). c.bound ≡ S.bound c.front) (next_front meaning) children own) few' in
      let made = subst (λ (z : Nodes). IsRunning S constants width budget z lower (suc inner)
      (map (open_leaf meaning) items) (opened n (suc top.above) top.bound cs)) arena_is made in
      let made = subst (λ (z : ℕ). IsRunning S constants width budget arena' lower z
      (map (open_leaf meaning) items) (opened n (suc top.above) top.bound cs)) ei made in
      subst (λ (z : List OpenLeaf). IsRunning S constants width budget arena' lower (inner + 1)
      (map (open_leaf meaning) items) z) (sym opens') made

-- a state whose tree, lower end and count of steps are the same
pub running_same : (S : Space) (constants : ℤ) (width budget : ℕ) (arena arena' : Nodes) (lower lower' : ℤ)
    (inner inner' : ℕ) (es : List OpenLeaf) → arena' ≡ arena → lower' ≡ lower → inner' ≡ inner
    → IsRunning S constants width budget arena lower inner es []
    → IsRunning S constants width budget arena' lower' inner' es []
running_same S constants width budget arena arena' lower lower' inner inner' es ea el ei running =
    subst (λ (z : ℕ). IsRunning S constants width budget arena' lower' z es []) (sym ei)
    (subst (λ (z : ℤ). IsRunning S constants width budget arena' z inner es []) (sym el)
    (subst (λ (z : Nodes). IsRunning S constants width budget z lower inner es []) (sym ea) running))

pub finished_same : (S : Space) (constants : ℤ) (budget : ℕ) (arena arena' : Nodes) (lower lower' : ℤ)
    (inner inner' : ℕ) → arena' ≡ arena → lower' ≡ lower → inner' ≡ inner
    → IsFinished S constants budget arena lower inner → IsFinished S constants budget arena' lower' inner'
finished_same S constants budget arena arena' lower lower' inner inner' ea el ei finished =
    subst (λ (z : ℕ). IsFinished S constants budget arena' lower' z) (sym ei)
    (subst (λ (z : ℤ). IsFinished S constants budget arena' z inner) (sym el)
    (subst (λ (z : Nodes). IsFinished S constants budget z lower inner) (sym ea) finished))

-- where no leaf is taken the search has come to its end
pub ends : {F : Type 0} (meaning : F → Front) (S : Space) (constants : ℤ) (width budget : ℕ) (arena : Nodes)
    (lower : ℤ) (inner : ℕ) (items : List (HeldLeaf F)) → (budget ≤ inner) ⊎ All
    (λ (e : HeldLeaf F). e.bound ≤ℤ lower) items
    → IsRunning S constants width budget arena lower inner (map (open_leaf meaning) items) []
    → IsFinished S constants budget arena lower inner
ends meaning S constants width budget arena lower inner items stop running =
    elim stop [
      | inl spent ↦ ends_at_budget S constants width budget arena inner lower (map (open_leaf meaning) items)
          (let w = running.within in omega arith) running
      | inr low ↦ ends_closed S constants width budget arena inner lower (map (open_leaf meaning) items)
          (All-map (λ (o : OpenLeaf). o.bound ≤ℤ lower) (open_leaf meaning) items low) running
    ]

-- ---- the start
pub start_runs : (S : Space) (constants : ℤ) (width budget : ℕ) (arena : Nodes) (lower : ℤ) (es : List OpenLeaf)
    (p : OpenLeaf) → arena ≡ record {
      nodes = record { above = 0; kind = Leaf p.bound } ∷ [];
      most = 1 + budget * width;
    }
    → es ≡ [] → p.node ≡ 0 → p.above ≡ 0 → p.bound ≡ S.bound S.root → p.front ≡ S.root → constants ≤ℤ lower
    → IsRunning S constants width budget arena lower 0 es (p ∷ [])
start_runs S constants width budget arena lower es p made none node depth bound front le =
    let made' : arena ≡ record {
      nodes = record { above = 0; kind = Leaf (S.bound S.root) } ∷ [];
      most = 1 + budget * width;
    } = made ∙ ap (λ z. record
    { nodes = record { above = 0; kind = Leaf z } ∷ []; most = 1 + budget * width }) bound in
    subst (λ (z : Nodes). IsRunning S constants width budget z lower 0 es (p ∷ [])) (sym made')
    (subst (λ (z : List OpenLeaf). IsRunning S constants width budget
    (record { nodes = record { above = 0; kind = Leaf (S.bound S.root) } ∷ []; most = 1 + budget * width })
    lower 0 z (p ∷ [])) (sym none) (record {
      labels = record { front = λ j. S.root; cap = λ j. S.bound S.root };
      settled = 0;
      search = search_starts S constants lower le;
      waiting = (omega arith, (node, (ap Leaf (sym bound), (sym front, (sym depth, refl)))));
      counted = refl;
      within = omega arith;
      room = omega arith;
      most = refl;
    }))
