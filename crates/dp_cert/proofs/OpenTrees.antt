-- What open nodes make of a node's line and of a finished child.
use Rattle.std.proofs.Common.{◌≡◌, ℕ, zero, suc, ◌-◌, ◌<◌, List, [], ◌∷◌, ◌++◌, length, map, Result, Ok, Err, refl}
use Rattle.std.proofs.Common.{sym, ap, subst, ◌∙◌, arith}
use Rattle.std.specs.Prelude.{ℤ, pos, reverse}
use Rattle.std.proofs.lemmas.List.{reverse-append, length-append}
use Rattle.dp_spec.specs.BoundTree.{BoundTree, BoundTrees, leaf, branch, merge, more_bound_trees}
use Rattle.dp_lines.specs.declared.why.FileWhy.{FileWhy}
use Rattle.dp_lines.specs.Grammar.{ends, ◌>>=◌, Fault, bad, limit}
use Rattle.dp_lines.specs.Scanning.{Found, lines_at, Rest, front_of}
use Rattle.dp_model.specs.declared.limit.TooLarge.{TooLarge}
use Rattle.dp_tree.specs.declared.tree.Tree.{Tree}
use Rattle.dp_tree.specs.TreeValue.{bound_tree, bound_trees}
use Rattle.dp_cert.specs.declared.fault.CertFault.{CertFault}
use Rattle.dp_cert.specs.declared.fault.CertFault.TheVariants as faults
use Rattle.dp_cert.specs.declared.tree_text.Node.{Node}
use Rattle.dp_cert.specs.declared.tree_text.Node.TheVariants as nodes
use Rattle.dp_cert.specs.declared.tree_text.Open.{Open}
use Rattle.dp_cert.specs.declared.tree_text.Given.{Given}
use Rattle.dp_cert.specs.declared.tree_text.Given.TheVariants as given
use Rattle.dp_cert.specs.CertificateGrammar.{deepest, leaf_only, node_below, node_forms, repeated, tree_lines}
use Rattle.dp_cert.specs.NodeLines.{NodeFails, found_of}
use Rattle.dp_cert.specs.OpenNodes.{Frame, branch_frame, merge_frame, frame_of, frames_of, Run, given_to}
use Rattle.dp_cert.specs.OpenNodes.{behind_children, closed, opened, left_below, after_line, behind_node}
use Rattle.dp_cert.specs.OpenNodes.{IsBranchWith, IsGiven, Places}
use Rattle.dp_cert.specs.Reading.{Fails}
use Rattle.dp_lines.specs.Reading.{rest_at}
use Rattle.dp_cert.specs.PolicyGrammar.{Text}
use Rattle.dp_lines.proofs.TextParts.{then_front, front_bind, by_first}
use Rattle.dp_cert.proofs.TreeSizeSteps.{mapped_length}

-- ---- children behind those of a list

behind_is : (ks ls : List BoundTree) → behind_children ks (bound_trees ls) ≡ bound_trees (ks ++ ls)
behind_is [] ls = refl
behind_is (k ∷ ks) ls = ap (more_bound_trees k) (behind_is ks ls)

behind_snoc : (ks : List BoundTree) (t : BoundTree) (ts : BoundTrees)
    → behind_children (ks ++ t ∷ []) ts ≡ behind_children ks (more_bound_trees t ts)
behind_snoc [] t ts = refl
behind_snoc (k ∷ ks) t ts = ap (more_bound_trees k) (behind_snoc ks t ts)

-- ---- one tree more

given_mapped : {V : Type 0} (r : Result (Rest V) (Fault TooLarge)) (f : V → BoundTree) (K : BoundTree → Run)
    → given_to (then_front r (λ x. ends (f x))) K ≡ given_to r (λ x. K (f x))
given_mapped (Ok rest) f K = refl
given_mapped (Err fault) f K = refl

given_more : (r : Result (Rest BoundTrees) (Fault TooLarge)) (first : BoundTree) (K : BoundTrees → Run)
    → given_to (then_front r (λ others. ends (more_bound_trees first others))) K
    ≡ given_to r (λ others. K (more_bound_trees first others))
given_more (Ok rest) first K = refl
given_more (Err fault) first K = refl

-- trees are read one after the other
repeated_more : (T : Text BoundTree) (m : ℕ) (K : BoundTrees → Run) (line : ℕ) (bytes : List ℕ)
    → given_to (front_of (repeated T (suc m)) line bytes) K
    ≡ given_to (front_of T line bytes)
    (λ first at more. given_to (front_of (repeated T m) at more) (λ others. K (more_bound_trees first others)))
repeated_more T m K line bytes =
    ap (λ (r : Result (Rest BoundTrees) (Fault TooLarge)). given_to r K)
    (front_bind T (λ first. repeated T m >>= λ others. ends (more_bound_trees first others)) line bytes)
    ∙ by_first_tree (front_of T line bytes)
  where
    by_first_tree : (r : Result (Rest BoundTree) (Fault TooLarge))
        → given_to (then_front r (λ first. repeated T m >>= λ others. ends (more_bound_trees first others))) K
        ≡ given_to r
        (λ first at more. given_to (front_of (repeated T m) at more)
        (λ others. K (more_bound_trees first others)))
    by_first_tree (Err fault) = refl
    by_first_tree (Ok first) =
        ap (λ (r : Result (Rest BoundTrees) (Fault TooLarge)). given_to r K)
        (front_bind (repeated T m) (λ others. ends (more_bound_trees first.value others))
        first.line first.bytes)
        ∙ given_more (front_of (repeated T m) first.line first.bytes) first.value K

given_alike : {V : Type 0} (r : Result (Rest V) (Fault TooLarge)) (K J : V → Run)
    → ((x : V) (line : ℕ) (bytes : List ℕ) → K x line bytes ≡ J x line bytes) → given_to r K ≡ given_to r J
given_alike (Ok rest) K J same = same rest.value rest.line rest.bytes
given_alike (Err fault) K J same = refl

-- ---- a finished child

-- the branch is whole
pub closed_whole : (left i c : ℕ) (kids : List BoundTree) (fs : List Frame) (t : BoundTree) (line : ℕ)
    (bytes : List ℕ)
    → closed left (branch_frame i c kids 0 ∷ fs) t line bytes
    ≡ closed (suc left) fs (branch i c (bound_trees (kids ++ t ∷ []))) line bytes
closed_whole left i c kids fs t line bytes =
    ap (λ ts. closed (suc left) fs (branch i c ts) line bytes) (behind_is kids (t ∷ []))

-- it waits for more
pub closed_waits : (left i c m : ℕ) (kids : List BoundTree) (fs : List Frame) (t : BoundTree) (line : ℕ)
    (bytes : List ℕ)
    → closed left (branch_frame i c kids (suc m) ∷ fs) t line bytes
    ≡ opened left (branch_frame i c (kids ++ t ∷ []) m ∷ fs) line bytes
closed_waits left i c m kids fs t line bytes =
    repeated_more (tree_lines left) m (λ others. closed (suc left) fs
    (branch i c (behind_children kids (more_bound_trees t others)))) line bytes
    ∙ given_alike (front_of (tree_lines left) line bytes) _ _ (λ first at more.
    given_alike (front_of (repeated (tree_lines left) m) at more) _ _ (λ others at' more'.
    ap (λ ts. closed (suc left) fs (branch i c ts) at' more')
    (sym (behind_snoc kids t (more_bound_trees first others)))))

-- ---- the line of a node

pub node_read : (left : ℕ) (fs : List Frame) (line : ℕ) (bytes : List ℕ) (found : Found)
    → lines_at node_forms bytes ≡ Ok found
    → opened left fs line bytes ≡ given_to (front_of (after_line left found.k found.zs) (suc line) found.more)
    (closed left fs)
node_read zero fs line bytes found e =
    ap (λ (r : Result (Rest BoundTree) (Fault TooLarge)). given_to r (closed 0 fs))
    (by_first node_forms leaf_only line bytes (Ok found) e)
node_read (suc left) fs line bytes found e =
    ap (λ (r : Result (Rest BoundTree) (Fault TooLarge)). given_to r (closed (suc left) fs))
    (by_first node_forms (node_below (tree_lines left)) line bytes (Ok found) e)

pub node_bad : (left : ℕ) (fs : List Frame) (line : ℕ) (bytes : List ℕ) (why : FileWhy)
    → lines_at node_forms bytes ≡ Err why
    → opened left fs line bytes ≡ Err (bad line why)
node_bad zero fs line bytes why e =
    ap (λ (r : Result (Rest BoundTree) (Fault TooLarge)). given_to r (closed 0 fs))
    (by_first node_forms leaf_only line bytes (Err why) e)
node_bad (suc left) fs line bytes why e =
    ap (λ (r : Result (Rest BoundTree) (Fault TooLarge)). given_to r (closed (suc left) fs))
    (by_first node_forms (node_below (tree_lines left)) line bytes (Err why) e)

leaf_end : (left : ℕ) (fs : List Frame) (z : ℤ) (line : ℕ) (bytes : List ℕ)
    → given_to (front_of (after_line left 0 (z ∷ [])) line bytes) (closed left fs)
    ≡ closed left fs (leaf z) line bytes
leaf_end zero fs z line bytes = refl
leaf_end (suc left) fs z line bytes = refl

branch_end : (left i c m : ℕ) (fs : List Frame) (line : ℕ) (bytes : List ℕ)
    → given_to (front_of (after_line (suc left) 1 (pos i ∷ pos c ∷ pos (suc m) ∷ [])) line bytes)
    (closed (suc left) fs)
    ≡ opened left (branch_frame i c [] m ∷ fs) line bytes
branch_end left i c m fs line bytes =
    ap (λ (r : Result (Rest BoundTree) (Fault TooLarge)). given_to r (closed (suc left) fs))
    (front_bind (repeated (tree_lines left) (suc m)) (λ kids. ends (branch i c kids)) line bytes)
    ∙ given_mapped (front_of (repeated (tree_lines left) (suc m)) line bytes) (branch i c)
    (closed (suc left) fs)
    ∙ repeated_more (tree_lines left) m (λ kids. closed (suc left) fs (branch i c kids)) line bytes

merge_end : (left i a b : ℕ) (fs : List Frame) (line : ℕ) (bytes : List ℕ)
    → given_to (front_of (after_line (suc left) 2 (pos i ∷ pos a ∷ pos b ∷ [])) line bytes)
    (closed (suc left) fs)
    ≡ opened left (merge_frame i a b ∷ fs) line bytes
merge_end left i a b fs line bytes =
    ap (λ (r : Result (Rest BoundTree) (Fault TooLarge)). given_to r (closed (suc left) fs))
    (front_bind (tree_lines left) (λ kid. ends (merge i a b kid)) line bytes)
    ∙ given_mapped (front_of (tree_lines left) line bytes) (merge i a b) (closed (suc left) fs)

-- ---- nodes that are placed

pub place_leaf : (z : ℤ) (fs : List Frame) (line : ℕ) (bytes : List ℕ)
    → behind_node (nodes.Leaf z) fs line bytes ≡ closed (left_below fs) fs (leaf z) line bytes
place_leaf z fs line bytes = leaf_end (left_below fs) fs z line bytes

-- the places left below one more open node
one_left : (fs : List Frame) (f : Frame) → length fs < 2048 → left_below fs ≡ suc (left_below (f ∷ fs))
one_left fs f lt = omega arith

pub place_branch : (i c k left : ℕ) (fs gs : List Frame) → 0 < k → left ≡ k - 1 → length fs < 2048
    → gs ≡ branch_frame i c [] left ∷ fs → (line : ℕ) (bytes : List ℕ)
    → behind_node (nodes.Branch i c k) fs line bytes ≡ opened (left_below gs) gs line bytes
place_branch i c k left fs gs some is lt e line bytes =
    let f = branch_frame i c [] left in
    let more : k ≡ suc left = omega (arith, some, is) in
    ap (λ (n : ℕ). given_to (front_of (after_line n 1 (pos i ∷ pos c ∷ pos k ∷ [])) line bytes) (closed n fs))
    (one_left fs f lt)
    ∙ ap (λ (n : ℕ). given_to (front_of (after_line (suc (left_below (f ∷ fs))) 1 (pos i ∷ pos c ∷ pos n ∷ []))
    line bytes) (closed (suc (left_below (f ∷ fs))) fs)) more
    ∙ branch_end (left_below (f ∷ fs)) i c left fs line bytes
    ∙ ap (λ (l : List Frame). opened (left_below l) l line bytes) (sym e)

pub place_merge : (i a b : ℕ) (fs gs : List Frame) → length fs < 2048 → gs ≡ merge_frame i a b ∷ fs
    → (line : ℕ) (bytes : List ℕ)
    → behind_node (nodes.Merge i a b) fs line bytes ≡ opened (left_below gs) gs line bytes
place_merge i a b fs gs lt e line bytes =
    let f = merge_frame i a b in
    ap (λ (n : ℕ). given_to (front_of (after_line n 2 (pos i ∷ pos a ∷ pos b ∷ [])) line bytes) (closed n fs))
    (one_left fs f lt)
    ∙ merge_end (left_below (f ∷ fs)) i a b fs line bytes
    ∙ ap (λ (l : List Frame). opened (left_below l) l line bytes) (sym e)

-- one inner node too many
pub place_deep : (k : ℕ) (zs : List ℤ) (fs : List Frame) → length fs ≡ 2048 → (line : ℕ) (bytes : List ℕ)
    → given_to (front_of (after_line (left_below fs) (suc k) zs) line bytes) (closed (left_below fs) fs)
    ≡ Err (limit deepest)
place_deep k zs fs full line bytes =
    let none : left_below fs ≡ 0 = omega (arith, full) in
    ap (λ (n : ℕ). given_to (front_of (after_line n (suc k) zs) line bytes) (closed n fs)) none

-- ---- frames of a list of open nodes

pub frames_push : (os : List Open) (o : Open) → frames_of (os ++ o ∷ []) ≡ frame_of o ∷ frames_of os
frames_push os o = ap (map frame_of) (reverse-append os (o ∷ []))

reverse_length : (os : List Open) → length (reverse os) ≡ length os
reverse_length [] = refl
reverse_length (o ∷ os) = ap length (reverse-append (o ∷ []) os) ∙ length-append (reverse os) (o ∷ [])
    ∙ (let e = reverse_length os in omega (arith, e))

pub frames_length : (os : List Open) → length (frames_of os) ≡ length os
frames_length os = mapped_length frame_of (reverse os) ∙ reverse_length os

-- ---- what is given

pub branch_given : (i c left : ℕ) (kids : List BoundTree) (t : BoundTree) (g : Given)
    → IsBranchWith i c (kids ++ t ∷ []) left g
    → IsGiven (branch_frame i c kids left) t g
branch_given i c left kids t (given.Whole whole) is = λ depth fs line bytes.
    ap (λ (n : ℕ). closed depth (branch_frame i c kids n ∷ fs) t line bytes) is.0
    ∙ closed_whole depth i c kids fs t line bytes
    ∙ ap (λ (x : BoundTree). closed (suc depth) fs x line bytes) (sym is.1)
branch_given i c left kids t (given.Waits node) is = λ depth fs line bytes.
    ap (λ (n : ℕ). closed depth (branch_frame i c kids n ∷ fs) t line bytes) is.1
    ∙ closed_waits depth i c is.0 kids fs t line bytes
    ∙ ap (λ (f : Frame). opened depth (f ∷ fs) line bytes) (sym is.2)

pub merge_given : (i a b : ℕ) (t : BoundTree) (whole : Tree) → bound_tree whole ≡ merge i a b t
    → IsGiven (merge_frame i a b) t (given.Whole whole)
merge_given i a b t whole e = λ left fs line bytes. ap (λ (x : BoundTree). closed (suc left) fs x line bytes)
    (sym e)

-- as the code tells it
pub given_in : (o : Open) (f : Frame) (t : BoundTree) (g : Given) → frame_of o ≡ f → IsGiven f t g
    → IsGiven (frame_of o) t g
given_in o f t g e is = subst (λ (x : Frame). IsGiven x t g) (sym e) is

-- a node that is not read has the fault of the whole tree
pub node_fails : (fault : CertFault) (line : ℕ) (read : Result Found FileWhy)
    (all : Result (Rest BoundTree) (Fault TooLarge))
    → NodeFails fault line read → ((why : FileWhy) → read ≡ Err why → all ≡ Err (bad line why))
    → Fails fault all
node_fails (faults.At n why) line read all gives is = is why gives.0 ∙ ap (λ m. Err (bad m why)) (sym gives.1)
node_fails (faults.TooLarge passed) line read all gives is = absurd gives
node_fails faults.Memory line read all gives is = tt

-- ---- the whole tree

given_whole : (r : Result (Rest BoundTree) (Fault TooLarge))
    → r ≡ given_to r (λ t line bytes. Ok (rest_at t line bytes))
given_whole (Ok rest) = refl
given_whole (Err fault) = refl

pub open_start : (os : List Open) (line : ℕ) (bytes : List ℕ) → os ≡ []
    → front_of (tree_lines 2048) line bytes ≡ opened (left_below (frames_of os)) (frames_of os) line bytes
open_start os line bytes e =
    given_whole (front_of (tree_lines 2048) line bytes)
    ∙ ap (λ (l : List Open). opened (left_below (frames_of l)) (frames_of l) line bytes) (sym e)

-- the line of a node is read
pub node_behind : (node : Node) (fs : List Frame) (line to : ℕ) (bytes more : List ℕ)
    → (lines_at node_forms bytes ≡ Ok (found_of node more)) × (to ≡ suc line)
    → opened (left_below fs) fs line bytes ≡ behind_node node fs to more
node_behind node fs line to bytes more gives =
    node_read (left_below fs) fs line bytes (found_of node more) gives.0
    ∙ ap (λ (n : ℕ). behind_node node fs n more) (sym gives.1)

-- a node is not placed
pub place_fails : (fault : CertFault) (node : Node) (fs gs : List Frame)
    (all : Result (Rest BoundTree) (Fault TooLarge))
    (line : ℕ) (bytes : List ℕ) → all ≡ behind_node node fs line bytes → Places node fs gs (Err fault)
    → Fails fault all
place_fails (faults.At n why) node fs gs all line bytes e places = absurd places
place_fails (faults.TooLarge passed) node fs gs all line bytes e places = e ∙ places line bytes
place_fails faults.Memory node fs gs all line bytes e places = tt
