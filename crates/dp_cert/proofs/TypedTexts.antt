-- A certificate whose numbers are of their types has a text.
use Rattle.std.proofs.Common.{◌≡◌, ℕ, ◌-◌, ◌^◌, ◌<◌, ◌≤◌, List, sym, subst, ⊎_elim, arith}
use Rattle.dp_spec.specs.BoundTree.{BoundTree, BoundTrees, HasSmallBranches, HaveSmallBranches, branch, leaf, merge}
use Rattle.dp_spec.specs.BoundTree.{more_bound_trees, no_bound_trees}
use Rattle.dp_spec.specs.Certificate.{Certificate, IsCertificateOf}
use Rattle.dp_spec.specs.CertificateText.{HasTextNumbers, IsCertificateText, certificate_text, children_lines}
use Rattle.dp_spec.specs.CertificateText.{node_lines}
use Rattle.dp_spec.specs.Mode.{IsWithinVersion}
use Rattle.dp_spec.specs.Model.{IsModel, Model}
use Rattle.dp_spec.specs.TextLines.{AllAllowed}
use Rattle.dp_laws.proofs.CertificateTexts.{certificate_has_text}
use Rattle.dp_laws.proofs.WholeTexts.{AllAllowed-append}
use Rattle.dp_cert.specs.TypedNumbers.{HasTypedNumbers, HaveTypedNumbers, IsTyped}

-- a number of 32 bits, and what follows it
small_then : (n : ℕ) (Rest : Type 0) → n < 2 ^ 32 → Rest → (n < 2 ^ 32) × (0 ≤ n) × (n ≤ 2 ^ 32 - 1) × Rest
small_then n Rest small rest = (small, omega arith, omega (arith, small), rest)

mutual
  nodes_allowed : (T : BoundTree) → HasSmallBranches T → HasTypedNumbers T → AllAllowed (node_lines T)
  nodes_allowed (leaf x) small typed = ((typed, tt), tt)
  nodes_allowed (branch i c ks) small typed = (
    small_then i _ typed.0 (small_then c _ typed.1 (omega (arith, small.1), small.0, small.1, tt)),
    children_allowed ks small.2 typed.2,
  )
  nodes_allowed (merge i a b k) small typed = (
    small_then i _ typed.0 (small_then a _ typed.1 (small_then b _ typed.2 tt)),
    nodes_allowed k small typed.3,
  )

  children_allowed : (ks : BoundTrees) → HaveSmallBranches ks → HaveTypedNumbers ks → AllAllowed (children_lines ks)
  children_allowed no_bound_trees small typed = tt
  children_allowed (more_bound_trees k ks) small typed =
      AllAllowed-append (node_lines k) (children_lines ks) (nodes_allowed k small.0 typed.0)
      (children_allowed ks small.1 typed.1)

steps : (m : Model) (h version : ℕ) → IsWithinVersion m h version → (1 ≤ h) × (h ≤ 24)
steps m h version within = ⊎_elim
    (λ one. let limits = within.first one in
    (omega (arith, limits.some_step), omega (arith, limits.horizon)))
    (λ two. within.second two) within.known

pub typed_text : (m : Model) → IsModel m → (c : Certificate) (bytes : List ℕ) → IsCertificateOf m c → IsTyped c
    → bytes ≡ certificate_text m.actions m.observations c → IsCertificateText m bytes c
typed_text m is c bytes fits typed e =
    let h = steps m c.horizon c.version fits.within in
    let numbers : HasTextNumbers c = record {
      horizon = (omega (arith, h.1), h.0, omega (arith, h.1), tt);
      look = (omega (arith, fits.look.1), fits.look.0, fits.look.1, tt);
      unit = typed.head.ends.unit;
      lower = typed.head.ends.lower;
      upper = typed.head.ends.upper;
      inner = (typed.head.inner, omega arith, omega (arith, typed.head.inner), tt);
      tree = nodes_allowed c.tree fits.children typed.tree;
    } in
    subst (λ (text : List ℕ). IsCertificateText m text c) (sym e) (certificate_has_text m is c numbers fits.policy)
