-- A well-formed front has at most as many classes as histories.
use Rattle.std.proofs.Common.{◌≡◌, inl, inr, ℕ, zero, suc, ◌^◌, ◌<◌, ◌≤◌, true, false, cond, eqb, List, length}
use Rattle.std.proofs.Common.{get_or, sym, ap, ◌∙◌, arith}
use Rattle.std.proofs.Math.Nat.{mul-le-mul, one-le-pow}
use Rattle.std.proofs.lemmas.Bool.Decides.{nat_tests}
use Rattle.std.proofs.lemmas.Nat.{mul-pow}
use Rattle.dp_spec.specs.Front.{AgentFront, Front, class_counts}
use Rattle.dp_spec.specs.JointNumbers.{product}
use Rattle.dp_spec.specs.Model.{Model, joint_observations}
use Rattle.dp_spec.specs.WellFormed.{AreAgentFronts, IsAgentFront, IsFront}
use Rattle.dp_spec.specs.WellFormed.AreAgentFronts.{and_agent, no_agents}
use Rattle.std.proofs.lemmas.Bool.{cases_eq}

-- x has class c, after class k was given to the members of the class of n
abbrev replaced_class : (ℕ → ℕ) → ℕ → ℕ → ℕ → ℕ
replaced_class class n k x = cond (eqb (class x) k) (class n) (class x)

replaced_other : (class : ℕ → ℕ) (n k x c : ℕ) → class x ≡ c → c < k → replaced_class class n k x ≡ c
replaced_other class n k x c e h = let apart : eqb (class x) k ≡ false = grind (arith, nat_tests) in rw apart e

replaced_same : (class : ℕ → ℕ) (n k x : ℕ) → class x ≡ k → replaced_class class n k x ≡ class n
replaced_same class n k x e = let same : eqb (class x) k ≡ true = grind (arith, nat_tests) in rw same

-- k classes, each with a member below n, are at most n
pub classes-le-members : (n k : ℕ) (class : ℕ → ℕ) → ((c : ℕ) → c < k → (x : ℕ) × (x < n) × (class x ≡ c))
    → k ≤ n
classes-le-members n zero class member = omega arith
classes-le-members zero (suc k) class member = let some = member 0 (omega arith) in
    absurd (omega (arith, some.1))
classes-le-members (suc n) (suc k) class member =
    let rest : k ≤ n = classes-le-members n k (replaced_class class n k) (λ c p.
    let some = member c (omega arith) in
    elim (cases_eq some.0 n) [
      | inr other ↦ (some.0, omega (arith, some.1), replaced_other class n k some.0 c some.2 p)
      | inl last ↦
          let of_last : class n ≡ c = ap class (sym last) ∙ some.2 in
          let top = member k (omega arith) in
          elim (cases_eq top.0 n) [
            | inl same ↦ let of_top : class n ≡ k = ap class (sym same) ∙ top.2 in absurd (omega arith)
            | inr apart ↦ (top.0, omega (arith, top.1), replaced_same class n k top.0 top.2 ∙ of_last)
          ]
    ]) in
    omega arith

-- an agent has at most one class for each own history of the stage
pub classes_within_histories : (b n f : ℕ) (d : AgentFront) → IsAgentFront b n f d → length d.chosen ≤ n ^ f
classes_within_histories b n f d front = classes-le-members (n ^ f) (length d.chosen)
    (λ x. get_or d.class_of x 0)
    front.member

joint_classes-le : {f : ℕ} {bs ns : List ℕ} {ds : List AgentFront} → AreAgentFronts f bs ns ds
    → product (class_counts ds) ≤ product ns ^ f
joint_classes-le {f} no_agents = one-le-pow f 1 (omega arith)
joint_classes-le {f} (and_agent {b = b} {n = n} {ns = ns} {d = d} front fronts) = rw (mul-pow n (product ns) f)
    (mul-le-mul (classes_within_histories b n f d front) (joint_classes-le fronts))

-- there is at most one joint class for each joint history of the stage
pub joint_classes_within_histories : (m : Model) (h : ℕ) (F : Front) → IsFront m h F
    → product (class_counts F.agents) ≤ joint_observations m ^ F.stage
unfolding joint_observations
joint_classes_within_histories m h F front = joint_classes-le front.agents
