-- One spelling of certificates: a text is that of one certificate.
use Rattle.std.proofs.Common.{◌≡◌, inl, inr, ℕ, ◌-◌, ◌^◌, ◌<◌, Bool, true, false, List, [], ◌∷◌, ◌++◌, get_or, drop}
use Rattle.std.proofs.Common.{refl, sym, ap, subst, ◌∙◌, append_assoc, arith}
use Rattle.std.specs.Prelude.{ℤ, pos, unsigned_abs, map, codes}
use Rattle.dp_spec.specs.Model.{Model, IsModel}
use Rattle.dp_spec.specs.SharedPolicy.{unfolded}
use Rattle.dp_spec.specs.SharedRows.{shared_policy_rows}
use Rattle.dp_spec.specs.PlainForm.{plain_form}
use Rattle.std.specs.Fmt.{decimal}
use Rattle.dp_spec.specs.BoundTree.{BoundTree, BoundTrees, child_count, leaf, branch, merge, no_bound_trees}
use Rattle.dp_spec.specs.BoundTree.{more_bound_trees}
use Rattle.dp_spec.specs.Certificate.{Certificate, HasPolicyOfVersion}
use Rattle.dp_spec.specs.TextLines.{Item, fixed, plain, Line, fixed_line, line_text, Allows, AllAllowed}
use Rattle.dp_spec.specs.PolicyText.{title_form, end_form, policy_rows, agent_lines}
use Rattle.dp_spec.specs.CertificateText.{certificate_rows, mode_form, signed_form, leaf_form, branch_form}
use Rattle.dp_spec.specs.CertificateText.{merge_form, node_lines, children_lines, certificate_lines, certificate_text}
use Rattle.dp_spec.specs.CertificateText.{HasTextNumbers, IsCertificateText}
use Rattle.dp_laws.proofs.LineTexts.{HasItems, AreLines, bytes_of, decimal_injective_wide, decimal_item}
use Rattle.dp_laws.proofs.LineTexts.{joined_injective, first_of_list, rest_of_list, line_text_injective}
use Rattle.dp_laws.proofs.LineTexts.{text_of_lines_injective}
use Rattle.dp_laws.proofs.PlainForms.{plain_is_form}
use Rattle.dp_laws.proofs.SharedTexts.{shared_are_lines, shared_lines_injective}
use Rattle.dp_laws.proofs.SharedTrees.{unfolded_is_policy}
use Rattle.dp_laws.proofs.WholeTexts.{AreLines-append, AllAllowed-parts, agents_are_lines, actions_small}
use Rattle.dp_laws.proofs.WholeTexts.{horizon_line_injective, all_agent_lines_injective, allowed_of}
use Rattle.dp_laws.proofs.WholeTexts.{AllAllowed-append}

-- ---- nodes

mutual
  -- the lines of nodes that are allowed are lines
  nodes_are_lines : (T : BoundTree) → AllAllowed (node_lines T) → AreLines (node_lines T)
  nodes_are_lines (leaf x) allowed = ((assumption, allowed.0), tt)
  nodes_are_lines (branch i c ks) allowed = ((assumption, allowed.0), children_are_lines ks allowed.1)
  nodes_are_lines (merge i a b k) allowed = ((assumption, allowed.0), nodes_are_lines k allowed.1)

  -- and those of their children
  children_are_lines : (ks : BoundTrees) → AllAllowed (children_lines ks) → AreLines (children_lines ks)
  children_are_lines no_bound_trees allowed = tt
  children_are_lines (more_bound_trees k ks) allowed =
      let each = AllAllowed-parts (node_lines k) (children_lines ks) allowed in
      AreLines-append (node_lines k) (children_lines ks) (nodes_are_lines k each.0)
      (children_are_lines ks each.1)

-- number i of a list that equals another
number_at : (i : ℕ) (ys zs : List ℤ) → ys ≡ zs → get_or ys i (pos 0) ≡ get_or zs i (pos 0)
number_at i ys zs e = ap (λ (l : List ℤ). get_or l i (pos 0)) e

-- equal whole numbers without a sign are equal as natural numbers
pos_injective : (m n : ℕ) → pos m ≡ pos n → m ≡ n
pos_injective m n e = ap unsigned_abs e

-- lines that begin with different bytes are not equal
other_byte : (b c : ℕ) (bs cs : List ℕ) → b < c → b ∷ bs ≡ c ∷ cs → ⊥
other_byte b c bs cs less e = let same : b ≡ c = first_of_list b c bs cs e in omega arith

mutual
  unfolding bytes_of

  -- the lines of the nodes determine the tree, and what follows them
  node_lines_injective : (T U : BoundTree) → AllAllowed (node_lines T) → AllAllowed (node_lines U)
      → (more others : List Line)
      → map bytes_of (node_lines T ++ more) ≡ map bytes_of (node_lines U ++ others)
      → (T ≡ U) × (map bytes_of more ≡ map bytes_of others)
  node_lines_injective (leaf x) (leaf y) p q more others e =
      let bound = line_text_injective leaf_form (x ∷ []) (y ∷ []) (assumption) p.0 q.0
      (first_of_list _ _ _ _ e) in
      (ap leaf (number_at 0 _ _ bound), rest_of_list _ _ _ _ e)
  node_lines_injective (leaf x) (branch i c ks) p q more others e = absurd
      (other_byte _ _ _ _ (omega arith) (sym (first_of_list _ _ _ _ e)))
  node_lines_injective (leaf x) (merge i a b k) p q more others e = absurd
      (other_byte _ _ _ _ (omega arith) (first_of_list _ _ _ _ e))
  node_lines_injective (branch i c ks) (leaf y) p q more others e = absurd
      (other_byte _ _ _ _ (omega arith) (first_of_list _ _ _ _ e))
  node_lines_injective (branch i c ks) (merge j a b k) p q more others e = absurd
      (other_byte _ _ _ _ (omega arith) (first_of_list _ _ _ _ e))
  node_lines_injective (merge i a b k) (leaf y) p q more others e = absurd
      (other_byte _ _ _ _ (omega arith) (sym (first_of_list _ _ _ _ e)))
  node_lines_injective (merge i a b k) (branch j c ks) p q more others e = absurd
      (other_byte _ _ _ _ (omega arith) (sym (first_of_list _ _ _ _ e)))
  node_lines_injective (branch i c ks) (branch j d ls) p q more others e =
      let numbers = line_text_injective branch_form (pos i ∷ pos c ∷ pos (child_count ks) ∷ [])
      (pos j ∷ pos d ∷ pos (child_count ls) ∷ []) (assumption) p.0 q.0 (first_of_list _ _ _ _ e) in
      let agent : i ≡ j = pos_injective i j (number_at 0 _ _ numbers) in
      let class : c ≡ d = pos_injective c d (number_at 1 _ _ numbers) in
      let children = children_lines_injective ks ls (pos_injective _ _ (number_at 2 _ _ numbers))
      p.1 q.1 more others (rest_of_list _ _ _ _ e) in
      (rw (agent, class, children.0) refl, children.1)
  node_lines_injective (merge i a b k) (merge j c d l) p q more others e =
      let numbers = line_text_injective merge_form (pos i ∷ pos a ∷ pos b ∷ []) (pos j ∷ pos c ∷ pos d ∷ [])
      (assumption) p.0 q.0 (first_of_list _ _ _ _ e) in
      let agent : i ≡ j = pos_injective i j (number_at 0 _ _ numbers) in
      let first : a ≡ c = pos_injective a c (number_at 1 _ _ numbers) in
      let second : b ≡ d = pos_injective b d (number_at 2 _ _ numbers) in
      let child = node_lines_injective k l p.1 q.1 more others (rest_of_list _ _ _ _ e) in
      (rw (agent, first, second, child.0) refl, child.1)

  -- the same of equally many children
  children_lines_injective : (ks ls : BoundTrees) → child_count ks ≡ child_count ls
      → AllAllowed (children_lines ks)
      → AllAllowed (children_lines ls) → (more others : List Line)
      → map bytes_of (children_lines ks ++ more) ≡ map bytes_of (children_lines ls ++ others)
      → (ks ≡ ls) × (map bytes_of more ≡ map bytes_of others)
  children_lines_injective no_bound_trees no_bound_trees count p q more others e = (refl, e)
  children_lines_injective no_bound_trees (more_bound_trees l ls) count p q more others e = absurd
      (omega (arith, count))
  children_lines_injective (more_bound_trees k ks) no_bound_trees count p q more others e = absurd
      (omega (arith, count))
  children_lines_injective (more_bound_trees k ks) (more_bound_trees l ls) count p q more others e =
      let mine = AllAllowed-parts (node_lines k) (children_lines ks) p in
      let yours = AllAllowed-parts (node_lines l) (children_lines ls) q in
      let grouped : map bytes_of (node_lines k ++ (children_lines ks ++ more))
      ≡ map bytes_of (node_lines l ++ (children_lines ls ++ others)) =
      ap (map bytes_of) (sym (append_assoc (node_lines k) (children_lines ks) more)) ∙ e
      ∙ ap (map bytes_of) (append_assoc (node_lines l) (children_lines ls) others) in
      let first = node_lines_injective k l mine.0 yours.0 (children_lines ks ++ more)
      (children_lines ls ++ others)
      grouped in
      let further = children_lines_injective ks ls (omega (arith, count)) mine.1 yours.1 more others first.1 in
      (rw (first.0, further.0) refl, further.1)

-- ---- certificates

-- the word of each mode is an item
mode_items : (is_exact : Bool) → HasItems (mode_form is_exact)
mode_items true = assumption
mode_items false = assumption

-- the line of a mode determines it
mode_line_injective : (a b : Bool) → line_text (mode_form a) [] ≡ line_text (mode_form b) [] → a ≡ b
mode_line_injective true true e = refl
mode_line_injective false false e = refl
mode_line_injective true false e = absurd (let at : 101 ≡ 111 = ap (λ (l : List ℕ). get_or l 5 0) e in
    omega (arith, at))
mode_line_injective false true e = absurd (let at : 111 ≡ 101 = ap (λ (l : List ℕ). get_or l 5 0) e in
    omega (arith, at))

-- the line before the tree
abbrev tree_form : List Item
tree_form = fixed (codes "tree") ∷ []

-- the lines of a certificate's tree and the line after them
abbrev tree_lines : BoundTree → List Line
tree_lines T = fixed_line tree_form ∷ (node_lines T ++ fixed_line end_form ∷ [])

-- the lines of the tree are lines
tree_are_lines : (T : BoundTree) → AllAllowed (node_lines T) → AreLines (tree_lines T)
tree_are_lines T allowed = (
  (assumption, tt),
  AreLines-append (node_lines T) (fixed_line end_form ∷ [])
      (nodes_are_lines T allowed) ((assumption, tt), tt),
)

-- what is allowed of a certificate's tree
nodes_allowed : (m : Model) (bytes : List ℕ) (c : Certificate) → IsCertificateText m bytes c
    → AllAllowed (node_lines c.tree)
nodes_allowed m bytes c text =
    let behind_head = text.allowed.1.1.1.1.1.1.1.1.1 in
    let behind_policy = AllAllowed-parts (agent_lines 0 (certificate_rows m.actions m.observations c))
    (tree_lines c.tree) behind_head in
    (AllAllowed-parts (node_lines c.tree) (fixed_line end_form ∷ []) behind_policy.1.1).0

-- a version is a small number
small_version : (m : Model) (c : Certificate) → HasPolicyOfVersion m c → c.version < 10 ^ 64
small_version m c policy = elim policy.version [ inl e ↦ omega arith | inr e ↦ omega arith ]

-- the first line determines the version
title_line_injective : (v w : ℕ) → v < 10 ^ 64 → w < 10 ^ 64
    → line_text (title_form (codes "certificate") v) [] ≡ line_text (title_form (codes "certificate") w) []
    → v ≡ w
title_line_injective v w p q e =
    let items = joined_injective (codes "decplan") (codes "decplan") (codes "certificate" ∷ decimal v ∷ [])
    (codes "certificate" ∷ decimal w ∷ [])
    (assumption, (assumption, (decimal_item v p, tt))) (assumption, (assumption, (decimal_item w q, tt))) e in
    decimal_injective_wide v w p q (ap (λ (l : List (List ℕ)). get_or l 2 []) items)

-- the rows of each version
pub rows_of_first : (m : Model) (c : Certificate) → c.version ≡ 1
    → certificate_rows m.actions m.observations c ≡ policy_rows m.actions m.observations c.horizon
    (unfolded c.policy)
unfolding certificate_rows
rows_of_first m c e = rw e refl

pub rows_of_second : (m : Model) (c : Certificate) → c.version ≡ 2
    → certificate_rows m.actions m.observations c ≡ shared_policy_rows m.actions m.observations c.policy
unfolding certificate_rows
rows_of_second m c e = rw e refl

-- the lines of the rows are lines
certificate_rows_are_lines : (m : Model) → IsModel m → (c : Certificate) → HasPolicyOfVersion m c
    → AreLines (agent_lines 0 (certificate_rows m.actions m.observations c))
certificate_rows_are_lines m is c policy =
    let agents = is.sizes.agents_limit in
    elim policy.version [
      | inl first ↦
          subst (λ (rows : List (List Line)). AreLines (agent_lines 0 rows)) (sym (rows_of_first m c first))
          (agents_are_lines c.horizon m.actions m.observations (unfolded c.policy) (actions_small m is)
          (unfolded_is_policy m c.horizon c.policy policy.shared) 0 (omega (arith, agents)))
      | inr second ↦
          subst (λ (rows : List (List Line)). AreLines (agent_lines 0 rows)) (sym (rows_of_second m c second))
          (shared_are_lines m is c.horizon c.policy policy.shared)
    ]

-- and determine the policy, and what follows them
certificate_rows_injective : (m : Model) → IsModel m → (c d : Certificate) → c.version ≡ d.version
    → c.horizon ≡ d.horizon → 0 < c.horizon → HasPolicyOfVersion m c → HasPolicyOfVersion m d
    → (more others : List Line)
    → map bytes_of (agent_lines 0 (certificate_rows m.actions m.observations c) ++ more)
    ≡ map bytes_of (agent_lines 0 (certificate_rows m.actions m.observations d) ++ others)
    → (c.policy ≡ d.policy) × (map bytes_of more ≡ map bytes_of others)
certificate_rows_injective m is c d version horizon some mine yours more others e =
    let lines = λ (rows : List (List Line)) (behind : List Line). map bytes_of (agent_lines 0 rows ++ behind) in
    elim mine.version [
      | inl first ↦
          let also : d.version ≡ 1 = sym version ∙ first in
          let trees = all_agent_lines_injective m is c.horizon d.horizon (unfolded c.policy) (unfolded d.policy)
          horizon some
          (unfolded_is_policy m c.horizon c.policy mine.shared)
          (unfolded_is_policy m d.horizon d.policy yours.shared) more others
          (ap (λ (rows : List (List Line)). lines rows more) (sym (rows_of_first m c first)) ∙ e
          ∙ ap (λ (rows : List (List Line)). lines rows others) (rows_of_first m d also)) in (
            plain_is_form m c.horizon c.policy mine.shared (mine.plain first)
                ∙ ap (λ (h : ℕ). plain_form m h (unfolded c.policy)) horizon
                ∙ ap (plain_form m d.horizon) trees.0
                ∙ sym (plain_is_form m d.horizon d.policy yours.shared (yours.plain also)),
            trees.1,
          )
      | inr second ↦
          let also : d.version ≡ 2 = sym version ∙ second in
          shared_lines_injective m is c.horizon d.horizon c.policy d.policy horizon mine.shared yours.shared
          more
          others
          (ap (λ (rows : List (List Line)). lines rows more) (sym (rows_of_second m c second)) ∙ e
          ∙ ap (λ (rows : List (List Line)). lines rows others) (rows_of_second m d also))
    ]

-- the lines of the text of a certificate are lines
certificate_are_lines : (m : Model) → IsModel m → (bytes : List ℕ) (c : Certificate)
    → IsCertificateText m bytes c
    → AreLines (certificate_lines m.actions m.observations c)
certificate_are_lines m is bytes c text =
    let agents = is.sizes.agents_limit in
    let a = text.allowed in (
      ((assumption, (assumption, (decimal_item c.version (small_version m c text.policy), tt))), tt),
      (
        (assumption, a.1.0),
        (
          (assumption, a.1.1.0),
          (
            (mode_items c.is_exact, tt),
            (
              (assumption, a.1.1.1.1.0),
              (
                (assumption, a.1.1.1.1.1.0),
                (
                  (assumption, a.1.1.1.1.1.1.0),
                  (
                    (assumption, a.1.1.1.1.1.1.1.0),
                    (
                      (assumption, tt),
                      AreLines-append (agent_lines 0 (certificate_rows m.actions m.observations c))
                          (tree_lines c.tree)
                          (certificate_rows_are_lines m is c text.policy)
                          (tree_are_lines c.tree (nodes_allowed m bytes c text)),
                    ),
                  ),
                ),
              ),
            ),
          ),
        ),
      ),
    )

-- a line with one number determines it
plain_line_injective : (word : List ℕ) (low high m n : ℕ) → HasItems (fixed word ∷ plain low high ∷ [])
    → Allows (fixed word ∷ plain low high ∷ []) (pos m ∷ [])
    → Allows (fixed word ∷ plain low high ∷ []) (pos n ∷ [])
    → line_text (fixed word ∷ plain low high ∷ []) (pos m ∷ [])
    ≡ line_text (fixed word ∷ plain low high ∷ []) (pos n ∷ []) → m ≡ n
plain_line_injective word low high m n are p q e = pos_injective m n
    (number_at 0 _ _ (line_text_injective (fixed word ∷ plain low high ∷ []) (pos m ∷ []) (pos n ∷ [])
    are p q e))

-- the same of a signed number
signed_line_injective : (word : List ℕ) (y z : ℤ) → HasItems (signed_form word)
    → Allows (signed_form word) (y ∷ [])
    → Allows (signed_form word) (z ∷ [])
    → line_text (signed_form word) (y ∷ []) ≡ line_text (signed_form word) (z ∷ []) → y ≡ z
signed_line_injective word y z are p q e = number_at 0 _ _ (line_text_injective (signed_form word) (y ∷ [])
    (z ∷ []) are p q e)

-- a text is that of one certificate
pub certificate_text_injective : (m : Model) → IsModel m → (bytes : List ℕ) (c d : Certificate)
    → IsCertificateText m bytes c → IsCertificateText m bytes d → c ≡ d
unfolding certificate_text bytes_of
certificate_text_injective m is bytes c d mine yours =
    let a = mine.allowed in
    let b = yours.allowed in
    let lines = text_of_lines_injective (certificate_lines m.actions m.observations c)
    (certificate_lines m.actions m.observations d)
    (certificate_are_lines m is bytes c mine) (certificate_are_lines m is bytes d yours)
    (sym mine.text ∙ yours.text) in
    let line : (i : ℕ) → get_or (map bytes_of (certificate_lines m.actions m.observations c)) i []
    ≡ get_or (map bytes_of (certificate_lines m.actions m.observations d)) i [] = λ i. ap
    (λ (l : List (List ℕ)). get_or l i []) lines in
    let behind_head = ap (λ (l : List (List ℕ)). drop 9 l) lines in
    let horizon : c.horizon ≡ d.horizon = horizon_line_injective c.horizon d.horizon a.1.0 b.1.0 (line 1) in
    let look : c.look ≡ d.look = plain_line_injective (codes "look") 1 16 c.look d.look (assumption)
    a.1.1.0 b.1.1.0 (line 2) in
    let mode : c.is_exact ≡ d.is_exact = mode_line_injective c.is_exact d.is_exact (line 3) in
    let unit : c.unit ≡ d.unit = signed_line_injective (codes "unit") c.unit d.unit (assumption)
    a.1.1.1.1.0 b.1.1.1.1.0 (line 4) in
    let lower : c.lower ≡ d.lower = signed_line_injective (codes "lower") c.lower d.lower (assumption)
    a.1.1.1.1.1.0 b.1.1.1.1.1.0 (line 5) in
    let upper : c.upper ≡ d.upper = signed_line_injective (codes "upper") c.upper d.upper (assumption)
    a.1.1.1.1.1.1.0 b.1.1.1.1.1.1.0 (line 6) in
    let inner : c.inner ≡ d.inner = plain_line_injective (codes "inner") 0 (2 ^ 32 - 1) c.inner d.inner
    (assumption) a.1.1.1.1.1.1.1.0 b.1.1.1.1.1.1.1.0 (line 7) in
    let version : c.version ≡ d.version = title_line_injective c.version d.version
    (small_version m c mine.policy)
    (small_version m d yours.policy) (line 0) in
    let policies = certificate_rows_injective m is c d version horizon a.1.0.1 mine.policy yours.policy
    (tree_lines c.tree) (tree_lines d.tree) behind_head in
    let trees = node_lines_injective c.tree d.tree (nodes_allowed m bytes c mine)
    (nodes_allowed m bytes d yours)
    (fixed_line end_form ∷ []) (fixed_line end_form ∷ []) (rest_of_list _ _ _ _ policies.1) in
    λ i. record {
      version = version i;
      horizon = horizon i;
      look = look i;
      is_exact = mode i;
      unit = unit i;
      lower = lower i;
      upper = upper i;
      inner = inner i;
      policy = policies.0 i;
      tree = trees.0 i;
    }

-- a certificate whose numbers its lines allow has a text
pub certificate_has_text : (m : Model) → IsModel m → (c : Certificate) → HasTextNumbers c
    → HasPolicyOfVersion m c → IsCertificateText m (certificate_text m.actions m.observations c) c
certificate_has_text m is c numbers policy =
    let agents = is.sizes.agents_limit in
    record {
      policy = policy;
      allowed = (
        tt,
        (
          numbers.horizon,
          (
            numbers.look,
            (
              tt,
              (
                (numbers.unit, tt),
                (
                  (numbers.lower, tt),
                  (
                    (numbers.upper, tt),
                    (
                      numbers.inner,
                      (
                        tt,
                        AllAllowed-append (agent_lines 0 (certificate_rows m.actions m.observations c))
                            (tree_lines c.tree)
                            (allowed_of _ (certificate_rows_are_lines m is c policy)) (
                              tt,
                              AllAllowed-append (node_lines c.tree) (fixed_line end_form ∷ []) numbers.tree
                                  (tt, tt),
                            ),
                      ),
                    ),
                  ),
                ),
              ),
            ),
          ),
        ),
      );
      text = refl;
    }
