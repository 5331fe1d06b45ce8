-- Plans by an order: what the rule of the code answers is what the order says, and a plan by one rule is a plan by
-- every rule that allows as much.
use Rattle.std.proofs.Common.{◌≡◌, ◌∙◌, ℕ, ℤ, ◌≤ℤ◌, List, map, Option, Some, None, Result, Ok, Err, IfOk, refl}
use Rattle.std.proofs.Common.{sym, ap, subst}
use Rattle.std.specs.Prelude.{◌<ℤ◌, option_map, slice_get}
use Rattle.std.proofs.lemmas.Option.{slice_get-map}
use Rattle.dp_base.proofs.AllOfLists.{all_weaker}
use Rattle.dp_spec.specs.BoundTree.{BoundTree, branch, leaf, merge}
use Rattle.dp_spec.specs.Certificate.{Certificate, arithmetic_for}
use Rattle.dp_spec.specs.Model.{Model}
use Rattle.dp_spec.specs.Promises.{IsPlanned, PlanOptions}
use Rattle.dp_spec.specs.Qualities.{IfBranch, IsRuled, Node, Place, certificate_nodes, places_of}
use Rattle.dp_cert.specs.declared.certificate.Certificate.{Certificate as Planned}
use Rattle.dp_cert.specs.CertificateValue.{certificate_of}
use Rattle.dp_search.specs.declared.place.Place.{Place as Told}
use Rattle.dp_search.specs.Rules.{place_of}
use Rattle.dp_cli.specs.Orders.{IsFirstGreatest}

-- ---- the first of the greatest, in other words

module _ {P Q : Type 0} (told : P → Q) (size : P → ℤ) (told_size : Q → ℤ)
    (same : (p : P) → size p ≡ told_size (told p)) (items : List P) where
  -- an item that is told is that of an item
  told_at : (y : ℕ) (other : Q) → slice_get (map told items) y ≡ Some other
      → (p : P) × (slice_get items y ≡ Some p) × (told p ≡ other)
  told_at y other e = by (slice_get items y) refl (sym (slice_get-map told items y) ∙ e)
    where
      by : (o : Option P) → slice_get items y ≡ o → option_map told o ≡ Some other
          → (p : P) × (slice_get items y ≡ Some p) × (told p ≡ other)
      by (Some p) is e = (p, is, (let there : told p ≡ other = cc in there))
      by None is e = cc

  pub first_greatest_told : (x : ℕ) → IsFirstGreatest size items x → IsFirstGreatest told_size (map told items) x
  first_greatest_told x first = record {
    item = told first.item;
    is = slice_get-map told items x ∙ ap (option_map told) first.is;
    greatest = λ y other e. let at = told_at y other e in
        subst (λ (z : ℤ). z ≤ℤ told_size (told first.item)) (same at.0 ∙ ap told_size at.2)
        (subst (λ (z : ℤ). size at.0 ≤ℤ z) (same first.item) (first.greatest y at.0 at.1));
    first = λ y other lt e. let at = told_at y other e in
        subst (λ (z : ℤ). z <ℤ told_size (told first.item)) (same at.0 ∙ ap told_size at.2)
        (subst (λ (z : ℤ). size at.0 <ℤ z) (same first.item) (first.first y at.0 lt at.1));
  }

  pub greatest_untold : (x : ℕ) → IsFirstGreatest told_size (map told items) x → IsFirstGreatest size items x
  greatest_untold x first = let at = told_at x first.item first.is in
      let top : size at.0 ≡ told_size first.item = same at.0 ∙ ap told_size at.2 in
      let there = λ (y : ℕ) (other : P) (e : slice_get items y ≡ Some other).
      (slice_get-map told items y ∙ ap (option_map told) e) in
      record {
        item = at.0;
        is = at.1;
        greatest = λ y other e.
            subst (λ (z : ℤ). z ≤ℤ size at.0) (sym (same other))
            (subst (λ (z : ℤ). told_size (told other) ≤ℤ z) (sym top)
            (first.greatest y (told other) (there y other e)));
        first = λ y other lt e.
            subst (λ (z : ℤ). z <ℤ size at.0) (sym (same other))
            (subst (λ (z : ℤ). told_size (told other) <ℤ z) (sym top)
            (first.first y (told other) lt (there y other e)));
      }

-- ---- a rule that allows as much

module _ (m : Model) (May Also : List Place → ℕ → Type 0)
    (as_much : (places : List Place) (x : ℕ) → May places x → Also places x) (c : Certificate) where
  -- the place of a branch
  abbrev IsPlaceBy : (List Place → ℕ → Type 0) → Node → ℕ → ℕ → Type 0
  IsPlaceBy Rule n i k =
      let places = places_of (arithmetic_for m c) m c.horizon c.look n.front in
      (x : ℕ) × Rule places x × ((p : Place) × (slice_get places x ≡ Some p) × (p.agent ≡ i) × (p.class ≡ k))

  also_ruled : IsRuled May m c → IsRuled Also m c
  also_ruled ruled = all_weaker (λ (n : Node). IfBranch n.tree (IsPlaceBy May n))
      (λ (n : Node). IfBranch n.tree (IsPlaceBy Also n)) (certificate_nodes m c) (λ n. by n n.tree) ruled
    where
      by : (n : Node) (T : BoundTree) → IfBranch T (IsPlaceBy May n) → IfBranch T (IsPlaceBy Also n)
      by n (leaf x) is = tt
      by n (branch i k ks) is = (is.0, as_much _ is.0 is.1, is.2)
      by n (merge i a b k) is = tt

  pub also_planned : (h : ℕ) (asked : PlanOptions) → IsPlanned m May h asked c → IsPlanned m Also h asked c
  also_planned h asked plan = record {
    valid = plan.valid;
    horizon = plan.horizon;
    look = plan.look;
    nodes = plan.nodes;
    ended = plan.ended;
    lean = plan.lean;
    merged = plan.merged;
    unmerged = plan.unmerged;
    constants = plan.constants;
    inner_nodes = plan.inner_nodes;
    best_constant = plan.best_constant;
    ruled = also_ruled plan.ruled;
    full_leaves = plan.full_leaves;
    version = plan.version;
    shared_form = plan.shared_form;
  }

-- what a planner answers by one rule, if it answers
pub if_also_planned : {E : Type 0} (r : Result Planned E) (m : Model) (May Also : List Place → ℕ → Type 0)
    → ((places : List Place) (x : ℕ) → May places x → Also places x) → (h : ℕ) (asked : PlanOptions)
    → IfOk r (λ c. IsPlanned m May h asked (certificate_of c))
    → IfOk r (λ c. IsPlanned m Also h asked (certificate_of c))
if_also_planned (Ok c) m May Also as_much h asked plan =
    also_planned m May Also as_much (certificate_of c) h asked plan
if_also_planned (Err e) m May Also as_much h asked plan = tt

-- a rule of the code that answers the first greatest place answers that of the places of the definitions
pub told_greatest : (size : Told → ℤ) (told_size : Place → ℤ) → ((p : Told) → size p ≡ told_size (place_of p))
    → (shown told : List Told) (places : List Place) (x : ℕ) → map place_of told ≡ places → shown ≡ told
    → IsFirstGreatest size shown x → IsFirstGreatest told_size places x
told_greatest size told_size same shown told places x is shows first =
    subst (λ (ps : List Place). IsFirstGreatest told_size ps x) is
    (first_greatest_told place_of size told_size same told x
    (subst (λ (ps : List Told). IsFirstGreatest size ps x) shows first))
