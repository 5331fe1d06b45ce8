-- The policies of a planner in the form of a version: what is kept of them, and their low worths.
use Rattle.std.proofs.Common.{◌≡◌, ℕ, ◌<◌, ◌≢◌, inl, inr, List, refl, sym, subst, ◌∙◌, arith}
use Rattle.dp_spec.specs.Arithmetic.{arithmetic}
use Rattle.dp_spec.specs.ConstantPolicy.{constant_policy}
use Rattle.dp_spec.specs.ConstantRows.{constant_rows}
use Rattle.dp_spec.specs.Mode.{IsWithinLimits, IsWithinVersion}
use Rattle.dp_spec.specs.Model.{IsModel, Model, joint_actions}
use Rattle.dp_spec.specs.PlainForm.{plain_form}
use Rattle.dp_spec.specs.PolicyTree.{IsPolicyOf, PolicyTree}
use Rattle.dp_spec.specs.SharedForm.{shared_form}
use Rattle.dp_spec.specs.SharedPolicy.{IsSharedOf, SharedPolicy, unfolded}
use Rattle.dp_spec.specs.SharedWorth.{form_in, low_worth}
use Rattle.dp_laws.proofs.ConstantRows.{constant_rows_is}
use Rattle.dp_laws.proofs.PlainForms.{plain_form_is}
use Rattle.dp_laws.proofs.SharedForms.{shared_form_is}
use Rattle.dp_model.specs.declared.horizon.Fit.{Fit}
use Rattle.dp_policy.specs.SharedRows.{HorizonRows}
use Rattle.dp_search.specs.FrontPlanners.{IsPlannerPolicy, planner_worth}
use Rattle.dp_search.proofs.ConstantPolicies.{second_worth}

-- what is kept of rows that mean a joint policy, in the form of a version
pub record IsFormOf (m : Model) (fit : Fit) (version : ℕ) (qs : List PolicyTree)
    (p : HorizonRows) : Type 0 where
  pub policy : IsPlannerPolicy m fit.horizon version p
  pub means : unfolded p.rows ≡ qs
  pub worth : planner_worth m fit p ≡ low_worth (arithmetic fit.exact m.scales) m version fit.horizon qs

-- plain forms in version 1
pub plain_kept : (m : Model) (fit : Fit) (version : ℕ) (qs : List PolicyTree) → IsModel m → version ≡ 1
    → IsWithinLimits m fit.horizon → IsPolicyOf m fit.horizon qs
    → IsFormOf m fit version qs (record { horizon = fit.horizon; rows = plain_form m fit.horizon qs })
unfolding low_worth form_in
plain_kept m fit version qs is one within policy =
    let are = plain_form_is m fit.horizon qs is within.some_step within.stage_cells policy in
    subst (λ (v : ℕ). IsFormOf m fit v qs (record {
      horizon = fit.horizon;
      rows = plain_form m fit.horizon qs;
    }))
    (sym one) (record {
      policy = record {
        horizon = refl;
        shared = are.0;
        plain = λ e. are.1;
        shared_form = λ e. absurd (omega (arith, e));
      };
      means = are.2;
      worth = refl;
    })

-- constant rows in version 2
pub constant_kept : (m : Model) (fit : Fit) (version a : ℕ) → IsModel m → version ≡ 2 → 0 < fit.horizon
    → a < joint_actions m
    → IsFormOf m fit version (constant_policy m fit.horizon a)
    (record { horizon = fit.horizon; rows = constant_rows m fit.horizon a })
constant_kept m fit version a is two some action =
    let are = constant_rows_is m fit.horizon a is some action in
    subst (λ (v : ℕ). IsFormOf m fit v (constant_policy m fit.horizon a)
    (record { horizon = fit.horizon; rows = constant_rows m fit.horizon a }))
    (sym two) (record {
      policy = record {
        horizon = refl;
        shared = are.0;
        plain = λ e. absurd (omega (arith, e));
        shared_form = λ e. are.2;
      };
      means = are.1;
      worth = second_worth m is fit.horizon a some action fit.exact;
    })

-- rows that were made as plain forms
pub plain_made : (m : Model) (fit : Fit) (version : ℕ) (qs : List PolicyTree) → IsModel m → version ≡ 1
    → IsWithinLimits m fit.horizon → IsPolicyOf m fit.horizon qs → (h : ℕ) (rs : List PolicyTree)
    → h ≡ fit.horizon → rs ≡ qs → (p : HorizonRows)
    → p ≡ record { horizon = h; rows = plain_form m h rs } → IsFormOf m fit version qs p
plain_made m fit version qs is one within policy h rs same means p made =
    subst (IsFormOf m fit version qs) (sym (made ∙ (λ j. record {
      horizon = same j;
      rows = plain_form m (same j) (means j);
    }))) (plain_kept m fit version qs is one within policy)

-- rows that were made as constant rows
pub constant_made : (m : Model) (fit : Fit) (version a : ℕ) → IsModel m → version ≡ 2 → 0 < fit.horizon
    → a < joint_actions m → (p : HorizonRows)
    → p ≡ record { horizon = fit.horizon; rows = constant_rows m fit.horizon a }
    → IsFormOf m fit version (constant_policy m fit.horizon a) p
constant_made m fit version a is two some action p made =
    subst (IsFormOf m fit version (constant_policy m fit.horizon a)) (sym made)
    (constant_kept m fit version a is two some action)

-- a version that is not 1 is 2
pub is_second : (m : Model) (h version : ℕ) → IsWithinVersion m h version → version ≢ 1 → version ≡ 2
is_second m h version within other = elim within.known [
  | inl one ↦ absurd (other one)
  | inr two ↦ two
]

-- the shared form of shared rows in version 2
pub reduced_kept : (m : Model) (fit : Fit) (version : ℕ) (rows : SharedPolicy) → IsModel m → version ≡ 2
    → 0 < fit.horizon → IsSharedOf m fit.horizon rows
    → IsFormOf m fit version (unfolded rows)
    (record { horizon = fit.horizon; rows = shared_form m fit.horizon (unfolded rows) })
unfolding low_worth form_in
reduced_kept m fit version rows is two some shared =
    let are = shared_form_is m fit.horizon rows is some shared in
    subst (λ (v : ℕ). IsFormOf m fit v (unfolded rows)
    (record { horizon = fit.horizon; rows = shared_form m fit.horizon (unfolded rows) }))
    (sym two) (record {
      policy = record {
        horizon = refl;
        shared = are.0;
        plain = λ e. absurd (omega (arith, e));
        shared_form = λ e. are.2;
      };
      means = are.1;
      worth = refl;
    })

-- rows that were made as a shared form
pub reduced_made : (m : Model) (fit : Fit) (version : ℕ) (qs : List PolicyTree) → IsModel m → version ≡ 2
    → 0 < fit.horizon → (q : HorizonRows) → q.horizon ≡ fit.horizon → IsSharedOf m fit.horizon q.rows
    → unfolded q.rows ≡ qs → (p : HorizonRows)
    → p ≡ record { horizon = q.horizon; rows = shared_form m q.horizon (unfolded q.rows) }
    → IsFormOf m fit version qs p
reduced_made m fit version qs is two some q same shared means p made =
    subst (λ (rs : List PolicyTree). IsFormOf m fit version rs p) means
    (subst (IsFormOf m fit version (unfolded q.rows)) (sym (made ∙ (λ j. record {
      horizon = same j;
      rows = shared_form m (same j) (unfolded q.rows);
    }))) (reduced_kept m fit version q.rows is two some shared))
