-- The first reason why a certificate is not valid: there is none exactly where it is valid, and what it names is
-- what the definitions give.
use Rattle.std.proofs.Common.{ℤ, ◌≡◌, ◌⊎◌, inl, inr, ℕ, zero, suc, ◌+◌, ◌<◌, Bool, true, false, not, ◌&&◌, eqb, ltb}
use Rattle.std.proofs.Common.{IsTrue, pos, List, [], ◌∷◌, ◌++◌, length, get_or, Option, Some, None, refl, sym, ap}
use Rattle.std.proofs.Common.{◌∙◌, subst, arith}
use Rattle.std.specs.Prelude.{◌↔◌, is_none, unwrap_or}
use Rattle.std.specs.Bool.{Decides, beq}
use Rattle.std.specs.Cmp.{booleans_Decides}
use Rattle.std.specs.Option.{option_or}
use Rattle.std.specs.Ordering.{int_eq}
use Rattle.std.proofs.lemmas.Bool.Decides.{Decides-and, Decides-eqb, Decides-int_eq, Decides-like, Decides-ltb}
use Rattle.std.proofs.lemmas.Bool.Decides.{not_from_Decides}
use Rattle.std.proofs.lemmas.List.Elements.{All-cons, All-head, All-nil, All-tail}
use Rattle.dp_spec.specs.Arithmetic.{Arithmetic}
use Rattle.dp_spec.specs.BoundTree.{BoundTree, BoundTrees, branch, child_count, greatest_leaf, inner_count, leaf}
use Rattle.dp_spec.specs.BoundTree.{merge}
use Rattle.dp_spec.specs.Certificate.{Certificate, HasPolicyOfVersion, IsValid, arithmetic_for}
use Rattle.dp_spec.specs.FirstReason.{HasOtherBound, HasOtherChildren, HasRightHead, HasRightNodes, HasUnequalClasses}
use Rattle.dp_spec.specs.FirstReason.{IsFirstReason, IsFirstWrong}
use Rattle.dp_spec.specs.Front.{AgentFront}
use Rattle.dp_spec.specs.Mode.{IsWithinVersion, is_exact_mode, unit_of}
use Rattle.dp_spec.specs.Model.{Model}
use Rattle.dp_spec.specs.Qualities.{Node, certificate_nodes}
use Rattle.dp_spec.specs.Reasons.{Reason, bound_is, children_are, first_of, first_reason, inner_is, is_unassigned}
use Rattle.dp_spec.specs.Reasons.{lower_is, lower_of, may_branch, may_merge, may_refine, mode_is, no_place}
use Rattle.dp_spec.specs.Reasons.{node_reasons, tree_reason, unequal_at, unequal_reason, unit_is, unless, upper_is}
use Rattle.dp_spec.specs.RightNodes.{AreRightNodes, IsRightNode, IsRightTree, MayStand}
use Rattle.dp_spec.specs.Steps.{IsUnassigned}
use Rattle.dp_spec.specs.UnequalPlaces.{first_unequal}
use Rattle.dp_spec.specs.Wide.{is_wide}
use Rattle.dp_laws.proofs.RightNodes.{fitting_is_right_nodes}
use Rattle.dp_laws.proofs.UnequalPlaces.{first_unequal_is, none_unequal_is}

-- ---- options

some_is_not_none : {X : Type 0} (x : X) → Some x ≡ None → ⊥
some_is_not_none x e = let no : false ≡ true = ap is_none e in cc

none_is_not_some : {X : Type 0} (x : X) → None ≡ Some x → ⊥
none_is_not_some x e = let no : true ≡ false = ap is_none e in cc

neither : (r s : Option Reason) → option_or r s ≡ None → (r ≡ None) × (s ≡ None)
neither None s e = (refl, e)
neither (Some x) s e = absurd (some_is_not_none x e)

either : (r s : Option Reason) (x : Reason) → option_or r s ≡ Some x
    → (r ≡ Some x) ⊎ ((r ≡ None) × (s ≡ Some x))
either None s x e = inr (refl, e)
either (Some y) s x e = inl e

none_of_both : (r s : Option Reason) → r ≡ None → s ≡ None → option_or r s ≡ None
none_of_both r s e f = ap (λ (o : Option Reason). option_or o s) e ∙ f

-- where a test that decides a fact has no reason the fact holds, and the other way round
holds_without : {P : Type 0} (b : Bool) (r : Reason) → Decides b P → unless b r ≡ None → P
holds_without true r decides e = decides.0 refl
holds_without false r decides e = absurd (some_is_not_none r e)

without_where_holds : {P : Type 0} (b : Bool) (r : Reason) → Decides b P → P → unless b r ≡ None
without_where_holds b r decides holds = ap (λ (t : Bool). unless t r) (decides.1 holds)

-- where it has one the fact does not hold, and that is the reason
fails_with : {P : Type 0} (b : Bool) (r x : Reason) → Decides b P → unless b r ≡ Some x → (P → ⊥) × (r ≡ x)
fails_with true r x decides e = absurd (none_is_not_some x e)
fails_with false r x decides e = (
  not_from_Decides false decides refl,
  ap (λ (o : Option Reason). unwrap_or o r) e,
)

-- ---- the tests at a node

Decides-false : (b : Bool) → Decides (not b) (b ≡ false)
Decides-false true = (λ e. cc, λ e. cc)
Decides-false false = (λ e. refl, λ e. refl)

Decides-none : (o : Option ℕ) → Decides (is_none o) (o ≡ None)
Decides-none None = (λ e. refl, λ e. refl)
Decides-none (Some x) = (λ e. absurd (let no : false ≡ true = e in cc), λ e. absurd (some_is_not_none x e))

unassigned_decides : (i c : ℕ) (ds : List AgentFront) → Decides (is_unassigned i c ds) (IsUnassigned i c ds)
unassigned_decides i c [] = (λ e. let no : false ≡ true = e in cc, λ no. absurd no)
unassigned_decides zero c (d ∷ ds) = Decides-and (ltb c (length d.chosen)) (is_none (get_or d.chosen c None))
    (Decides-ltb c (length d.chosen)) (Decides-none (get_or d.chosen c None))
unassigned_decides (suc i) c (d ∷ ds) = unassigned_decides i c ds

module _ (A : Arithmetic) (m : Model) (h : ℕ) where
  -- a step is left at a node that is not wide
  abbrev CanRefineAt : Node → Type 0
  CanRefineAt n = (n.front.stage < h) × (is_wide m h n.above n.front ≡ false)

  refine_decides : (n : Node) → Decides (may_refine m h n) (CanRefineAt n)
  refine_decides n = Decides-and (ltb n.front.stage h) (not (is_wide m h n.above n.front))
      (Decides-ltb n.front.stage h) (Decides-false (is_wide m h n.above n.front))

  branch_decides : (n : Node) (i c : ℕ) → Decides (may_branch m h n i c)
      (CanRefineAt n × IsUnassigned i c n.front.agents)
  branch_decides n i c = Decides-and (may_refine m h n) (is_unassigned i c n.front.agents) (refine_decides n)
      (unassigned_decides i c n.front.agents)

  abbrev CanMergeAt : Node → ℕ → ℕ → ℕ → Type 0
  CanMergeAt n i a b =
      IsTrue A.is_exact × (CanRefineAt n × ((a < b) × (IsUnassigned i a n.front.agents
      × IsUnassigned i b n.front.agents)))

  merge_decides : (n : Node) (i a b : ℕ) → Decides (may_merge A m h n i a b) (CanMergeAt n i a b)
  merge_decides n i a b =
      let both = Decides-and (is_unassigned i a n.front.agents) (is_unassigned i b n.front.agents)
      (unassigned_decides i a n.front.agents) (unassigned_decides i b n.front.agents) in
      let ordered = Decides-and (ltb a b) (is_unassigned i a n.front.agents && is_unassigned i b n.front.agents)
      (Decides-ltb a b) both in
      let refined = Decides-and (may_refine m h n) (ltb a b &&
      (is_unassigned i a n.front.agents && is_unassigned i b n.front.agents)) (refine_decides n) ordered in
      Decides-and A.is_exact (may_refine m h n && (ltb a b &&
      (is_unassigned i a n.front.agents && is_unassigned i b n.front.agents))) ((λ e. e), (λ e. e)) refined

  -- the place of a branch and of a merge
  branch_stands : (n : Node) (i c : ℕ) (ks : BoundTrees) → Decides (may_branch m h n i c)
      (MayStand A m h n (branch i c ks))
  branch_stands n i c ks = Decides-like (may_branch m h n i c) (λ p. (p.0.0, p.0.1, p.1))
      (λ p. ((p.0, p.1), p.2))
      (branch_decides n i c)

  merge_stands : (n : Node) (i a b : ℕ) (k : BoundTree) → Decides (may_merge A m h n i a b)
      (MayStand A m h n (merge i a b k))
  merge_stands n i a b k =
      Decides-like (may_merge A m h n i a b) (λ p. (p.1.0.0, p.1.0.1, p.0, p.1.1.0, p.1.1.1.0, p.1.1.1.1))
      (λ p. (p.2, ((p.0, p.1), (p.3, (p.4, p.5))))) (merge_decides n i a b)

  -- ---- the reason at a node

  equivalent_where_none : (k : ℕ) (o : Option ℕ) → unequal_reason k o ≡ None → o ≡ None
  equivalent_where_none k None e = refl
  equivalent_where_none k (Some p) e = absurd (some_is_not_none (unequal_at k p) e)

  right_where_none : (k : ℕ) (n : Node) (T : BoundTree) → tree_reason A m h k n T ≡ None → IsRightTree A m h n T
  right_where_none k n (leaf x) e = holds_without (int_eq x n.cap) (bound_is k n.cap) (Decides-int_eq x n.cap) e
  right_where_none k n (branch i c ks) e =
      let count = get_or m.actions i 0 in
      let both = neither (unless (may_branch m h n i c) (no_place k))
      (unless (eqb (child_count ks) count) (children_are k count)) e in (
        holds_without (may_branch m h n i c) (no_place k) (branch_stands n i c ks) both.0,
        holds_without (eqb (child_count ks) count) (children_are k count)
            (Decides-eqb (child_count ks) count) both.1,
      )
  right_where_none k n (merge i a b below) e =
      let both = neither (unless (may_merge A m h n i a b) (no_place k))
      (unequal_reason k (first_unequal m n.front i a b)) e in (
        holds_without (may_merge A m h n i a b) (no_place k) (merge_stands n i a b below) both.0,
        (none_unequal_is m n.front i a b).0 (equivalent_where_none k (first_unequal m n.front i a b) both.1),
      )

  none_where_right : (k : ℕ) (n : Node) (T : BoundTree) → IsRightTree A m h n T → tree_reason A m h k n T ≡ None
  none_where_right k n (leaf x) right = without_where_holds (int_eq x n.cap) (bound_is k n.cap)
      (Decides-int_eq x n.cap) right
  none_where_right k n (branch i c ks) right =
      let count = get_or m.actions i 0 in
      none_of_both (unless (may_branch m h n i c) (no_place k))
      (unless (eqb (child_count ks) count) (children_are k count))
      (without_where_holds (may_branch m h n i c) (no_place k) (branch_stands n i c ks) right.0)
      (without_where_holds (eqb (child_count ks) count) (children_are k count)
      (Decides-eqb (child_count ks) count)
      right.1)
  none_where_right k n (merge i a b below) right =
      none_of_both (unless (may_merge A m h n i a b) (no_place k))
      (unequal_reason k (first_unequal m n.front i a b))
      (without_where_holds (may_merge A m h n i a b) (no_place k) (merge_stands n i a b below) right.0)
      (ap (unequal_reason k) ((none_unequal_is m n.front i a b).1 right.1))

  -- ---- the reasons at all nodes, and those that follow

  nodes_where_none : (k : ℕ) (ns : List Node) (rest : List (Option Reason))
      → first_of (node_reasons A m h k ns ++ rest) ≡ None
      → AreRightNodes A m h ns × (first_of rest ≡ None)
  nodes_where_none k [] rest e = (All-nil (IsRightNode A m h), e)
  nodes_where_none k (n ∷ ns) rest e =
      let both = neither (tree_reason A m h k n n.tree) (first_of (node_reasons A m h (suc k) ns ++ rest)) e in
      let later = nodes_where_none (suc k) ns rest both.1 in
      (All-cons (IsRightNode A m h) n ns (right_where_none k n n.tree both.0) later.0, later.1)

  none_where_nodes : (k : ℕ) (ns : List Node) (rest : List (Option Reason)) → AreRightNodes A m h ns
      → first_of rest ≡ None
      → first_of (node_reasons A m h k ns ++ rest) ≡ None
  none_where_nodes k [] rest right e = e
  none_where_nodes k (n ∷ ns) rest right e =
      none_of_both (tree_reason A m h k n n.tree) (first_of (node_reasons A m h (suc k) ns ++ rest))
      (none_where_right k n n.tree (All-head (IsRightNode A m h) n ns right))
      (none_where_nodes (suc k) ns rest (All-tail (IsRightNode A m h) n ns right) e)

  -- the first node with a reason, which is r, among nodes that are numbered from k on
  record IsFirstNode (k : ℕ) (ns : List Node) (r : Reason) : Type 0 where
    before : List Node
    node : Node
    after : List Node
    nodes : ns ≡ before ++ node ∷ after
    right : AreRightNodes A m h before
    named : tree_reason A m h (k + length before) node node.tree ≡ Some r

  first_here : (k : ℕ) (n : Node) (ns : List Node) (r : Reason) → tree_reason A m h k n n.tree ≡ Some r
      → IsFirstNode k (n ∷ ns) r
  first_here k n ns r e =
      let same : k + length {A = Node} [] ≡ k = omega arith in
      record {
        before = [];
        node = n;
        after = ns;
        nodes = refl;
        right = All-nil (IsRightNode A m h);
        named = ap (λ j. tree_reason A m h j n n.tree) same ∙ e;
      }

  first_later : (k : ℕ) (n : Node) (ns : List Node) (r : Reason) → tree_reason A m h k n n.tree ≡ None
      → IsFirstNode (suc k) ns r
      → IsFirstNode k (n ∷ ns) r
  first_later k n ns r e later =
      let same : k + length (n ∷ later.before) ≡ suc k + length later.before = omega arith in
      record {
        before = n ∷ later.before;
        node = later.node;
        after = later.after;
        nodes = ap (λ (rest : List Node). n ∷ rest) later.nodes;
        right = All-cons (IsRightNode A m h) n later.before (right_where_none k n n.tree e) later.right;
        named = ap (λ j. tree_reason A m h j later.node later.node.tree) same ∙ later.named;
      }

  some_node_or_later : (k : ℕ) (ns : List Node) (rest : List (Option Reason)) (r : Reason)
      → first_of (node_reasons A m h k ns ++ rest) ≡ Some r
      → IsFirstNode k ns r ⊎ (AreRightNodes A m h ns × (first_of rest ≡ Some r))
  some_node_or_later k [] rest r e = inr (All-nil (IsRightNode A m h), e)
  some_node_or_later k (n ∷ ns) rest r e =
      elim (either (tree_reason A m h k n n.tree) (first_of (node_reasons A m h (suc k) ns ++ rest)) r e) [
        | inl here ↦ inl (first_here k n ns r here)
        | inr none ↦ elim (some_node_or_later (suc k) ns rest r none.1) [
          | inl later ↦ inl (first_later k n ns r none.0 later)
          | inr past ↦ inr (
            All-cons (IsRightNode A m h) n ns (right_where_none k n n.tree none.0) past.0,
            past.1,
          )
        ]
      ]

-- ---- the certificate

module _ (m : Model) (c : Certificate) where
  abbrev A : Arithmetic
  A = arithmetic_for m c

  abbrev nodes : List Node
  nodes = certificate_nodes m c

  -- the reasons before and after those of the nodes
  abbrev mode_reason : Option Reason
  mode_reason = unless (beq c.is_exact (is_exact_mode m c.horizon)) (mode_is (is_exact_mode m c.horizon))

  abbrev unit_reason : Option Reason
  unit_reason = unless (int_eq c.unit (pos (unit_of m c.horizon))) (unit_is (pos (unit_of m c.horizon)))

  abbrev lower_reason : Option Reason
  lower_reason = unless (int_eq c.lower (lower_of m c)) (lower_is (lower_of m c))

  abbrev inner_reason : Option Reason
  inner_reason = unless (eqb c.inner (inner_count c.tree)) (inner_is (inner_count c.tree))

  abbrev upper_reason : Option Reason
  upper_reason = unless (int_eq c.upper (greatest_leaf c.tree)) (upper_is (greatest_leaf c.tree))

  abbrev last_reasons : List (Option Reason)
  last_reasons = inner_reason ∷ upper_reason ∷ []

  abbrev tree_reasons : List (Option Reason)
  tree_reasons = node_reasons A m c.horizon 0 nodes ++ last_reasons

  mode_decides : Decides (beq c.is_exact (is_exact_mode m c.horizon)) (c.is_exact ≡ is_exact_mode m c.horizon)
  mode_decides = booleans_Decides c.is_exact (is_exact_mode m c.horizon)

  unit_decides : Decides (int_eq c.unit (pos (unit_of m c.horizon))) (c.unit ≡ pos (unit_of m c.horizon))
  unit_decides = Decides-int_eq c.unit (pos (unit_of m c.horizon))

  lower_decides : Decides (int_eq c.lower (lower_of m c)) (c.lower ≡ lower_of m c)
  lower_decides = Decides-int_eq c.lower (lower_of m c)

  inner_decides : Decides (eqb c.inner (inner_count c.tree)) (c.inner ≡ inner_count c.tree)
  inner_decides = Decides-eqb c.inner (inner_count c.tree)

  upper_decides : Decides (int_eq c.upper (greatest_leaf c.tree)) (c.upper ≡ greatest_leaf c.tree)
  upper_decides = Decides-int_eq c.upper (greatest_leaf c.tree)

  valid_where_none : IsWithinVersion m c.horizon c.version → HasPolicyOfVersion m c → first_reason m c ≡ None
      → IsValid m c
  valid_where_none within policy e =
      let mode = neither mode_reason (first_of (unit_reason ∷ lower_reason ∷ tree_reasons)) e in
      let unit = neither unit_reason (first_of (lower_reason ∷ tree_reasons)) mode.1 in
      let lower = neither lower_reason (first_of tree_reasons) unit.1 in
      let tree = nodes_where_none A m c.horizon 0 nodes last_reasons lower.1 in
      let inner = neither inner_reason (first_of (upper_reason ∷ [])) tree.1 in
      let upper = neither upper_reason None inner.1 in
      record {
        within = within;
        mode = holds_without (beq c.is_exact (is_exact_mode m c.horizon)) (mode_is (is_exact_mode m c.horizon))
            mode_decides mode.0;
        unit = holds_without (int_eq c.unit (pos (unit_of m c.horizon))) (unit_is (pos (unit_of m c.horizon)))
            unit_decides unit.0;
        policy = policy;
        lower = holds_without (int_eq c.lower (lower_of m c)) (lower_is (lower_of m c)) lower_decides lower.0;
        tree = (fitting_is_right_nodes A m c.horizon c.look c.tree).1 tree.0;
        inner = holds_without (eqb c.inner (inner_count c.tree)) (inner_is (inner_count c.tree))
            inner_decides inner.0;
        upper = holds_without (int_eq c.upper (greatest_leaf c.tree)) (upper_is (greatest_leaf c.tree))
            upper_decides upper.0;
      }

  none_where_valid : IsValid m c → first_reason m c ≡ None
  none_where_valid is =
      let inner = without_where_holds (eqb c.inner (inner_count c.tree)) (inner_is (inner_count c.tree))
      inner_decides is.inner in
      let upper = without_where_holds (int_eq c.upper (greatest_leaf c.tree)) (upper_is (greatest_leaf c.tree))
      upper_decides is.upper in
      let last = none_of_both inner_reason (first_of (upper_reason ∷ [])) inner
      (none_of_both upper_reason None upper refl) in
      let tree = none_where_nodes A m c.horizon 0 nodes last_reasons
      ((fitting_is_right_nodes A m c.horizon c.look c.tree).0 is.tree) last in
      let lower = without_where_holds (int_eq c.lower (lower_of m c)) (lower_is (lower_of m c))
      lower_decides is.lower in
      let unit = without_where_holds (int_eq c.unit (pos (unit_of m c.horizon)))
      (unit_is (pos (unit_of m c.horizon))) unit_decides is.unit in
      let mode = without_where_holds (beq c.is_exact (is_exact_mode m c.horizon))
      (mode_is (is_exact_mode m c.horizon)) mode_decides is.mode in
      none_of_both mode_reason (first_of (unit_reason ∷ lower_reason ∷ tree_reasons)) mode
      (none_of_both unit_reason (first_of (lower_reason ∷ tree_reasons)) unit
      (none_of_both lower_reason (first_of tree_reasons) lower tree))

-- there is no reason exactly where the certificate is valid
pub no_reason_where_valid : (m : Model) (c : Certificate) → IsWithinVersion m c.horizon c.version
    → HasPolicyOfVersion m c
    → (first_reason m c ≡ None) ↔ IsValid m c
no_reason_where_valid m c within policy = (valid_where_none m c within policy, none_where_valid m c)

-- ---- what the first reason names

module _ (m : Model) (c : Certificate) (head : HasRightHead m c) (k : ℕ) (r : Reason) where
  -- what is wrong at a node is the first reason, where nothing is wrong before it
  named_at : (n : Node) (T : BoundTree) → ((Wrong : Node → BoundTree → Type 0) → Wrong n T
      → IsFirstWrong m c k Wrong)
      → tree_reason (arithmetic_for m c) m c.horizon k n T ≡ Some r → IsFirstReason m c r
  named_at n (leaf x) first e =
      let fails = fails_with (int_eq x n.cap) (bound_is k n.cap) r (Decides-int_eq x n.cap) e in
      subst (IsFirstReason m c) fails.1 (first (HasOtherBound n.cap) (refl, fails.0))
  named_at n (branch i k' ks) first e =
      let A = arithmetic_for m c in
      let count = get_or m.actions i 0 in
      let may = may_branch m c.horizon n i k' in
      let stands = branch_stands A m c.horizon n i k' ks in
      elim (either (unless may (no_place k)) (unless (eqb (child_count ks) count) (children_are k count)) r e) [
        | inl place ↦ let fails = fails_with may (no_place k) r stands place in
            subst (IsFirstReason m c) fails.1 (first (λ node T. ¬ MayStand A m c.horizon node T) fails.0)
        | inr children ↦
            let fails = fails_with (eqb (child_count ks) count) (children_are k count) r
            (Decides-eqb (child_count ks) count) children.1 in
            subst (IsFirstReason m c) fails.1 (first (HasOtherChildren m c count)
            (holds_without may (no_place k) stands children.0, refl, fails.0))
      ]
  named_at n (merge i a b below) first e =
      let A = arithmetic_for m c in
      let may = may_merge A m c.horizon n i a b in
      let stands = merge_stands A m c.horizon n i a b below in
      elim (either (unless may (no_place k)) (unequal_reason k (first_unequal m n.front i a b)) r e) [
        | inl place ↦ let fails = fails_with may (no_place k) r stands place in
            subst (IsFirstReason m c) fails.1 (first (λ node T. ¬ MayStand A m c.horizon node T) fails.0)
        | inr unequal ↦ let found = place_of_reason (first_unequal m n.front i a b) unequal.1 in
            subst (IsFirstReason m c) found.2 (first (HasUnequalClasses m c found.0) (
              holds_without may (no_place k) stands unequal.0,
              (first_unequal_is m n.front i a b found.0).0 found.1,
            ))
      ]
    where
      place_of_reason : (o : Option ℕ) → unequal_reason k o ≡ Some r → (p : ℕ) × (o ≡ Some p)
          × (unequal_at k p ≡ r)
      place_of_reason None e = absurd (none_is_not_some r e)
      place_of_reason (Some p) e = (p, refl, ap (λ (o : Option Reason). unwrap_or o (unequal_at k p)) e)

module _ (m : Model) (c : Certificate) (r : Reason) where
  -- the first node with a reason
  named_by_node : HasRightHead m c → IsFirstNode (arithmetic_for m c) m c.horizon 0 (certificate_nodes m c) r
      → IsFirstReason m c r
  named_by_node head first =
      let same : 0 + length first.before ≡ length first.before = omega arith in
      named_at m c head (length first.before) r first.node first.node.tree
      (λ Wrong wrong. record {
        head = head;
        before = first.before;
        node = first.node;
        after = first.after;
        nodes = first.nodes;
        number = refl;
        right = first.right;
        wrong = wrong;
      })
      (ap (λ j. tree_reason (arithmetic_for m c) m c.horizon j first.node first.node.tree) (sym same)
      ∙ first.named)

  -- the reasons after those of the nodes
  named_last : HasRightNodes m c → first_of (last_reasons m c) ≡ Some r → IsFirstReason m c r
  named_last right e =
      elim (either (inner_reason m c) (first_of (upper_reason m c ∷ [])) r e) [
        | inl inner ↦ let fails = fails_with (eqb c.inner (inner_count c.tree))
            (inner_is (inner_count c.tree)) r
            (inner_decides m c) inner in
            subst (IsFirstReason m c) fails.1 (right, refl, fails.0)
        | inr rest ↦ elim (either (upper_reason m c) None r rest.1) [
          | inl upper ↦
              let same = holds_without (eqb c.inner (inner_count c.tree)) (inner_is (inner_count c.tree))
              (inner_decides m c) rest.0 in
              let fails = fails_with (int_eq c.upper (greatest_leaf c.tree)) (upper_is (greatest_leaf c.tree)) r
              (upper_decides m c) upper in
              subst (IsFirstReason m c) fails.1 (right, same, refl, fails.0)
          | inr none ↦ absurd (none_is_not_some r none.1)
        ]
      ]

  -- the reasons of the nodes and those after them
  named_from_tree : HasRightHead m c → first_of (tree_reasons m c) ≡ Some r → IsFirstReason m c r
  named_from_tree head e =
      elim (some_node_or_later (arithmetic_for m c) m c.horizon 0 (certificate_nodes m c) (last_reasons m c)
      r e) [
        | inl node ↦ named_by_node head node
        | inr past ↦ named_last (record { head = head; nodes = past.0 }) past.1
      ]

  -- the lower end, where the mode and the unit are right
  named_from_lower : c.is_exact ≡ is_exact_mode m c.horizon → c.unit ≡ pos (unit_of m c.horizon)
      → first_of (lower_reason m c ∷ tree_reasons m c) ≡ Some r → IsFirstReason m c r
  named_from_lower mode unit e =
      elim (either (lower_reason m c) (first_of (tree_reasons m c)) r e) [
        | inl lower ↦ let fails = fails_with (int_eq c.lower (lower_of m c)) (lower_is (lower_of m c)) r
            (lower_decides m c) lower in
            subst (IsFirstReason m c) fails.1 (mode, unit, refl, fails.0)
        | inr rest ↦ let lower = holds_without (int_eq c.lower (lower_of m c)) (lower_is (lower_of m c))
            (lower_decides m c) rest.0 in
            named_from_tree (record { mode = mode; unit = unit; lower = lower }) rest.1
      ]

  -- the unit, where the mode is right
  named_from_unit : c.is_exact ≡ is_exact_mode m c.horizon → first_of
      (unit_reason m c ∷ lower_reason m c ∷ tree_reasons m c) ≡ Some r
      → IsFirstReason m c r
  named_from_unit mode e =
      let unit = pos (unit_of m c.horizon) in
      elim (either (unit_reason m c) (first_of (lower_reason m c ∷ tree_reasons m c)) r e) [
        | inl here ↦ let fails = fails_with (int_eq c.unit unit) (unit_is unit) r (unit_decides m c) here in
            subst (IsFirstReason m c) fails.1 (mode, refl, fails.0)
        | inr rest ↦ named_from_lower mode (holds_without (int_eq c.unit unit) (unit_is unit) (unit_decides m c)
            rest.0) rest.1
      ]

  first_reason_is_found : first_reason m c ≡ Some r → IsFirstReason m c r
  first_reason_is_found e =
      let exact = is_exact_mode m c.horizon in
      elim (either (mode_reason m c) (first_of (unit_reason m c ∷ lower_reason m c ∷ tree_reasons m c)) r e) [
        | inl here ↦ let fails = fails_with (beq c.is_exact exact) (mode_is exact) r (mode_decides m c) here in
            subst (IsFirstReason m c) fails.1 (refl, fails.0)
        | inr rest ↦ named_from_unit (holds_without (beq c.is_exact exact) (mode_is exact) (mode_decides m c)
            rest.0) rest.1
      ]

-- ---- what the definitions give is the first reason

fails_gives : {P : Type 0} (b : Bool) (r : Reason) → Decides b P → (P → ⊥) → unless b r ≡ Some r
fails_gives true r decides fails = absurd (fails (decides.0 refl))
fails_gives false r decides fails = refl

first_given : (r s : Option Reason) (x : Reason) → r ≡ Some x → option_or r s ≡ Some x
first_given r s x e = ap (λ (o : Option Reason). option_or o s) e

later_given : (r s : Option Reason) (x : Reason) → r ≡ None → s ≡ Some x → option_or r s ≡ Some x
later_given r s x e f = ap (λ (o : Option Reason). option_or o s) e ∙ f

module _ (m : Model) (c : Certificate) where
  -- the reason at a node before which nothing is wrong
  given_after : (k : ℕ) (before : List Node) (node : Node) (after : List Node) (r : Reason)
      → AreRightNodes (arithmetic_for m c) m c.horizon before
      → tree_reason (arithmetic_for m c) m c.horizon (k + length before) node node.tree ≡ Some r
      → first_of (node_reasons (arithmetic_for m c) m c.horizon k (before ++ node ∷ after) ++ last_reasons m c)
      ≡ Some r
  given_after k [] node after r right e =
      let A = arithmetic_for m c in
      let same : k + length {A = Node} [] ≡ k = omega arith in
      first_given (tree_reason A m c.horizon k node node.tree)
      (first_of (node_reasons A m c.horizon (suc k) after ++ last_reasons m c)) r
      (ap (λ j. tree_reason A m c.horizon j node node.tree) (sym same) ∙ e)
  given_after k (n ∷ before) node after r right e =
      let A = arithmetic_for m c in
      let P = IsRightNode A m c.horizon in
      let same : suc k + length before ≡ k + length (n ∷ before) = omega arith in
      later_given (tree_reason A m c.horizon k n n.tree) (first_of
      (node_reasons A m c.horizon (suc k) (before ++ node ∷ after) ++ last_reasons m c)) r
      (none_where_right A m c.horizon k n n.tree (All-head P n before right))
      (given_after (suc k) before node after r (All-tail P n before right)
      (ap (λ j. tree_reason A m c.horizon j node node.tree) same ∙ e))

  given_past_head : (r : Reason) → HasRightHead m c → first_of (tree_reasons m c) ≡ Some r
      → first_reason m c ≡ Some r
  given_past_head r head e =
      later_given (mode_reason m c) (first_of (unit_reason m c ∷ lower_reason m c ∷ tree_reasons m c)) r
      (without_where_holds (beq c.is_exact (is_exact_mode m c.horizon)) (mode_is (is_exact_mode m c.horizon))
      (mode_decides m c) head.mode)
      (later_given (unit_reason m c) (first_of (lower_reason m c ∷ tree_reasons m c)) r
      (without_where_holds (int_eq c.unit (pos (unit_of m c.horizon))) (unit_is (pos (unit_of m c.horizon)))
      (unit_decides m c) head.unit)
      (later_given (lower_reason m c) (first_of (tree_reasons m c)) r
      (without_where_holds (int_eq c.lower (lower_of m c)) (lower_is (lower_of m c)) (lower_decides m c)
      head.lower) e))

  given_at_node : (k : ℕ) (r : Reason) (Wrong : Node → BoundTree → Type 0)
      → ((n : Node) (T : BoundTree) → Wrong n T → tree_reason (arithmetic_for m c) m c.horizon k n T ≡ Some r)
      → IsFirstWrong m c k Wrong → first_reason m c ≡ Some r
  given_at_node k r Wrong tells first =
      let A = arithmetic_for m c in
      let same : k ≡ 0 + length first.before = let number = first.number in omega arith in
      let here = ap (λ j. tree_reason A m c.horizon j first.node first.node.tree) (sym same)
      ∙ tells first.node first.node.tree first.wrong in
      given_past_head r first.head
      (ap (λ ns. first_of (node_reasons A m c.horizon 0 ns ++ last_reasons m c)) first.nodes
      ∙ given_after 0 first.before first.node first.after r first.right here)

  tells_place : (k : ℕ) (n : Node) (T : BoundTree) → ¬ MayStand (arithmetic_for m c) m c.horizon n T
      → tree_reason (arithmetic_for m c) m c.horizon k n T ≡ Some (no_place k)
  tells_place k n (leaf x) fails = absurd (fails tt)
  tells_place k n (branch i k' ks) fails =
      let count = get_or m.actions i 0 in
      first_given (unless (may_branch m c.horizon n i k') (no_place k))
      (unless (eqb (child_count ks) count) (children_are k count)) (no_place k)
      (fails_gives (may_branch m c.horizon n i k') (no_place k)
      (branch_stands (arithmetic_for m c) m c.horizon n i k' ks) fails)
  tells_place k n (merge i a b below) fails =
      let may = may_merge (arithmetic_for m c) m c.horizon n i a b in
      first_given (unless may (no_place k)) (unequal_reason k (first_unequal m n.front i a b)) (no_place k)
      (fails_gives may (no_place k) (merge_stands (arithmetic_for m c) m c.horizon n i a b below) fails)

  tells_children : (k count : ℕ) (n : Node) (T : BoundTree) → HasOtherChildren m c count n T
      → tree_reason (arithmetic_for m c) m c.horizon k n T ≡ Some (children_are k count)
  tells_children k count n (leaf x) other = absurd other
  tells_children k count n (branch i k' ks) other =
      let actions = get_or m.actions i 0 in
      let may = may_branch m c.horizon n i k' in
      let test = λ (x : ℕ). unless (eqb (child_count ks) x) (children_are k x) in
      later_given (unless may (no_place k)) (test actions) (children_are k count)
      (without_where_holds may (no_place k) (branch_stands (arithmetic_for m c) m c.horizon n i k' ks) other.0)
      (ap test (sym other.1) ∙ fails_gives (eqb (child_count ks) count) (children_are k count)
      (Decides-eqb (child_count ks) count) other.2)
  tells_children k count n (merge i a b below) other = absurd other

  tells_unequal : (k p : ℕ) (n : Node) (T : BoundTree) → HasUnequalClasses m c p n T
      → tree_reason (arithmetic_for m c) m c.horizon k n T ≡ Some (unequal_at k p)
  tells_unequal k p n (leaf x) unequal = absurd unequal
  tells_unequal k p n (branch i k' ks) unequal = absurd unequal
  tells_unequal k p n (merge i a b below) unequal =
      let may = may_merge (arithmetic_for m c) m c.horizon n i a b in
      later_given (unless may (no_place k)) (unequal_reason k (first_unequal m n.front i a b)) (unequal_at k p)
      (without_where_holds may (no_place k) (merge_stands (arithmetic_for m c) m c.horizon n i a b below)
      unequal.0)
      (ap (unequal_reason k) ((first_unequal_is m n.front i a b p).1 unequal.1))

  tells_bound : (k : ℕ) (x : ℤ) (n : Node) (T : BoundTree) → HasOtherBound x n T
      → tree_reason (arithmetic_for m c) m c.horizon k n T ≡ Some (bound_is k x)
  tells_bound k x n (leaf y) other =
      let test = λ (z : ℤ). unless (int_eq y z) (bound_is k z) in
      ap test (sym other.0) ∙ fails_gives (int_eq y x) (bound_is k x) (Decides-int_eq y x) other.1
  tells_bound k x n (branch i k' ks) other = absurd other
  tells_bound k x n (merge i a b below) other = absurd other

  given_past_nodes : (r : Reason) → HasRightNodes m c → first_of (last_reasons m c) ≡ Some r
      → first_reason m c ≡ Some r
  given_past_nodes r right e =
      given_past_head r right.head (past 0 (certificate_nodes m c) right.nodes)
    where
      past : (k : ℕ) (ns : List Node) → AreRightNodes (arithmetic_for m c) m c.horizon ns
          → first_of (node_reasons (arithmetic_for m c) m c.horizon k ns ++ last_reasons m c) ≡ Some r
      past k [] all = e
      past k (n ∷ ns) all =
          let A = arithmetic_for m c in
          let P = IsRightNode A m c.horizon in
          later_given (tree_reason A m c.horizon k n n.tree)
          (first_of (node_reasons A m c.horizon (suc k) ns ++ last_reasons m c)) r
          (none_where_right A m c.horizon k n n.tree (All-head P n ns all))
          (past (suc k) ns (All-tail P n ns all))

  found_is_first_reason : (r : Reason) → IsFirstReason m c r → first_reason m c ≡ Some r
  found_is_first_reason (mode_is e) is =
      let test = λ (x : Bool). unless (beq c.is_exact x) (mode_is x) in
      first_given (mode_reason m c) (first_of (unit_reason m c ∷ lower_reason m c ∷ tree_reasons m c))
      (mode_is e)
      (ap test (sym is.0) ∙ fails_gives (beq c.is_exact e) (mode_is e) (booleans_Decides c.is_exact e) is.1)
  found_is_first_reason (unit_is u) is =
      let test = λ (x : ℤ). unless (int_eq c.unit x) (unit_is x) in
      later_given (mode_reason m c) (first_of (unit_reason m c ∷ lower_reason m c ∷ tree_reasons m c))
      (unit_is u)
      (without_where_holds (beq c.is_exact (is_exact_mode m c.horizon)) (mode_is (is_exact_mode m c.horizon))
      (mode_decides m c) is.0)
      (first_given (unit_reason m c) (first_of (lower_reason m c ∷ tree_reasons m c)) (unit_is u)
      (ap test (sym is.1) ∙ fails_gives (int_eq c.unit u) (unit_is u) (Decides-int_eq c.unit u) is.2))
  found_is_first_reason (lower_is x) is =
      let test = λ (y : ℤ). unless (int_eq c.lower y) (lower_is y) in
      later_given (mode_reason m c) (first_of (unit_reason m c ∷ lower_reason m c ∷ tree_reasons m c))
      (lower_is x)
      (without_where_holds (beq c.is_exact (is_exact_mode m c.horizon)) (mode_is (is_exact_mode m c.horizon))
      (mode_decides m c) is.0)
      (later_given (unit_reason m c) (first_of (lower_reason m c ∷ tree_reasons m c)) (lower_is x)
      (without_where_holds (int_eq c.unit (pos (unit_of m c.horizon))) (unit_is (pos (unit_of m c.horizon)))
      (unit_decides m c) is.1)
      (first_given (lower_reason m c) (first_of (tree_reasons m c)) (lower_is x)
      (ap test (sym is.2) ∙ fails_gives (int_eq c.lower x) (lower_is x) (Decides-int_eq c.lower x) is.3)))
  found_is_first_reason (no_place k) is = given_at_node k (no_place k) _ (tells_place k) is
  found_is_first_reason (children_are k count) is = given_at_node k (children_are k count) _
      (tells_children k count) is
  found_is_first_reason (unequal_at k p) is = given_at_node k (unequal_at k p) _ (tells_unequal k p) is
  found_is_first_reason (bound_is k x) is = given_at_node k (bound_is k x) _ (tells_bound k x) is
  found_is_first_reason (inner_is count) is =
      let test = λ (x : ℕ). unless (eqb c.inner x) (inner_is x) in
      given_past_nodes (inner_is count) is.0
      (first_given (inner_reason m c) (first_of (upper_reason m c ∷ [])) (inner_is count)
      (ap test (sym is.1) ∙ fails_gives (eqb c.inner count) (inner_is count) (Decides-eqb c.inner count) is.2))
  found_is_first_reason (upper_is x) is =
      let test = λ (y : ℤ). unless (int_eq c.upper y) (upper_is y) in
      given_past_nodes (upper_is x) is.0
      (later_given (inner_reason m c) (first_of (upper_reason m c ∷ [])) (upper_is x)
      (without_where_holds (eqb c.inner (inner_count c.tree)) (inner_is (inner_count c.tree))
      (inner_decides m c)
      is.1)
      (first_given (upper_reason m c) None (upper_is x)
      (ap test (sym is.2) ∙ fails_gives (int_eq c.upper x) (upper_is x) (Decides-int_eq c.upper x) is.3)))

-- the first reason is the one of which the definitions say what it says
pub first_reason_is : (m : Model) (c : Certificate) (r : Reason)
    → (first_reason m c ≡ Some r) ↔ IsFirstReason m c r
first_reason_is m c r = (first_reason_is_found m c r, found_is_first_reason m c r)
