-- True fits of horizons within the limits of a version, and room by these limits.
use Rattle.std.proofs.Common.{◌≡◌, ◌⊎◌, inl, inr, ℕ, ◌-◌, ◌*◌, ◌^◌, ◌≤◌, true, eqb, leb, refl, arith}
use Rattle.std.specs.Prelude.{◌↔◌, pos}
use Rattle.std.specs.Bool.{Decides}
use Rattle.std.proofs.lemmas.Bool.{cases_eq}
use Rattle.std.proofs.lemmas.Bool.Decides.{Decides-and, Decides-eqb, Decides-or, nat_tests}
use Rattle.std.proofs.Math.Nat.{mul-le-mul_left, pow-le-pow_right}
use Rattle.dp_spec.specs.Front.{Front, class_counts}
use Rattle.dp_spec.specs.JointNumbers.{product}
use Rattle.dp_spec.specs.Mode.{IsTrueFit, IsWithinLimits, IsWithinVersion, is_exact_mode, unit_of}
use Rattle.dp_spec.specs.Model.{IsModel, Model, joint_actions, joint_observations}
use Rattle.dp_spec.specs.WellFormed.{IsFront}
use Rattle.dp_spec.specs.Wide.{has_room, is_room}
use Rattle.dp_spec.proofs.ModelLaws.{some_joint_observation}
use Rattle.dp_laws.proofs.ClassCounts.{joint_classes_within_histories}

-- ---- fits

pub true_fit_of_version : (m : Model) (h version : ℕ) → IsWithinVersion m h version
    → IsTrueFit m h (is_exact_mode m h) (pos (unit_of m h))
true_fit_of_version m h version within = record {
  horizon = elim within.known [
    | inl one ↦ let first = within.first one in let some = first.some_step in let most = first.horizon in
        (omega arith, omega arith)
    | inr two ↦ within.second two
  ];
  mode = refl;
  unit = refl;
}

-- ---- room

-- the cells of so many joint classes are within their limits
abbrev AreWithin : Model → ℕ → Type 0
AreWithin m n = (m.states * n ≤ 2 ^ 22) × (joint_actions m * n ≤ 2 ^ 24)

room_decides : (m : Model) (n : ℕ) → Decides (is_room m n) (AreWithin m n)
unfolding is_room
room_decides m n = Decides-and (leb (m.states * n) (2 ^ 22)) (leb (joint_actions m * n) (2 ^ 24))
    (most_decides (m.states * n) (2 ^ 22)) (most_decides (joint_actions m * n) (2 ^ 24))
  where
    most_decides : (a b : ℕ) → Decides (leb a b) (a ≤ b)
    most_decides a b = (λ e. grind (arith, nat_tests), λ le. grind (arith, nat_tests))

pub room_is_within : (m : Model) (h : ℕ) (F : Front) → (has_room m h F ≡ true)
    ↔ ((F.stage ≡ h) ⊎ ((m.states * product (class_counts F.agents) ≤ 2 ^ 22)
    × (joint_actions m * product (class_counts F.agents) ≤ 2 ^ 24)))
unfolding has_room
room_is_within m h F =
    Decides-or (eqb F.stage h) (is_room m (product (class_counts F.agents))) (Decides-eqb F.stage h)
    (room_decides m (product (class_counts F.agents)))

-- within the limits of version 1 every front has room
pub version_one_has_room : (m : Model) (h : ℕ) (F : Front) → IsModel m → IsWithinLimits m h → IsFront m h F
    → has_room m h F ≡ true
version_one_has_room m h F is limits front =
    elim (cases_eq F.stage h) [
      | inl full ↦ (room_is_within m h F).1 (inl full)
      | inr early ↦
          let O = joint_observations m in
          let n = product (class_counts F.agents) in
          let early_enough : F.stage ≤ h - 1 = let limit = front.stage_limit in omega arith in
          let fewer : O ^ F.stage ≤ O ^ (h - 1) = pow-le-pow_right (some_joint_observation m is) early_enough in
          let few : n ≤ O ^ F.stage = joint_classes_within_histories m h F front in
          let states = mul-le-mul_left m.states few in
          let states' = mul-le-mul_left m.states fewer in
          let actions = mul-le-mul_left (joint_actions m) few in
          let actions' = mul-le-mul_left (joint_actions m) fewer in
          let cells : m.states * O ^ (h - 1) ≤ 2 ^ 22 = limits.stage_cells in
          let game : joint_actions m * O ^ (h - 1) ≤ 2 ^ 24 = limits.game_cells in
          (room_is_within m h F).1 (inr (omega arith, omega arith))
    ]
