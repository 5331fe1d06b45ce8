-- Worked rows of equivalent classes: places and their numbers, first unequal places, least pairs, primitive vectors.
use Rattle.std.proofs.Common.{◌≡◌, ◌<◌, ◌≤◌, ◌⊎◌, inl, inr, ℕ, zero, suc, ◌*◌, ◌/◌, ◌%◌, ap, List, get_or, [], ◌∷◌}
use Rattle.std.proofs.Common.{Some, None, refl, arith}
use Rattle.std.specs.Int.{◌∣◌}
use Rattle.std.specs.Prelude.{All}
use Rattle.std.proofs.lemmas.Nat.Gcd.{dvd-zero, dvd_of_mod-eq-zero, mod-eq-zero_of_dvd}
use Rattle.std.proofs.Math.Nat.{div-le_of_le-mul, dvd-sub}
use Rattle.std.proofs.lemmas.List.Elements.{All-from_recursion}
use Rattle.dp_spec.specs.Model.{joint_actions, joint_observations, obs_at, reward_at, start_at, step_scale, trans_at}
use Rattle.dp_spec.specs.LookAhead.{weights_after}
use Rattle.dp_spec.specs.Front.{fixed_joint_action}
use Rattle.dp_spec.specs.Steps.{advanced_agent, front_after_choice, root_front}
use Rattle.dp_spec.specs.Merge.{class_of_agent, class_of_others, class_total, place_weight}
use Rattle.dp_spec.specs.Pairs.{HasNoPair, IsLeastPair, IsPair}
use Rattle.dp_spec.specs.Primitive.{IsGcdOf, IsPrimitiveOf}
use Rattle.dp_spec.specs.UnequalPlaces.{class_vector, first_unequal, place_count, place_number}
use Rattle.dp_spec.proofs.SmallModels.{blind, tiger}
use Rattle.dp_spec.proofs.SmallRows.{heard_and_never_are_equivalent, waited}
use Rattle.dp_spec.proofs.TigerRows.{listened, listened_twice}

-- ---- places and their weights

-- the states of a joint class of the others stand side by side
place_of_two_one : place_number tiger 2 1 ≡ 5
unfolding tiger
place_of_two_one = refl

-- two classes of the other agent, and two states
places_of_listened : place_count tiger listened 0 ≡ 4
unfolding tiger place_count joint_actions joint_observations start_at trans_at obs_at reward_at step_scale
    weights_after fixed_joint_action class_of_agent class_of_others place_weight class_total root_front
    front_after_choice advanced_agent
places_of_listened = refl

-- the tiger is on the left or on the right, where both heard the left door, or the other heard the right one
vector_of_left : class_vector tiger listened 0 0 ≡ 14450 ∷ 450 ∷ 2550 ∷ 2550 ∷ []
unfolding tiger class_vector place_count joint_actions joint_observations start_at trans_at obs_at reward_at
    step_scale weights_after fixed_joint_action class_of_agent class_of_others place_weight class_total root_front
    front_after_choice advanced_agent
vector_of_left = refl

vector_of_right : class_vector tiger listened 0 1 ≡ 2550 ∷ 2550 ∷ 450 ∷ 14450 ∷ []
unfolding tiger class_vector place_count joint_actions joint_observations start_at trans_at obs_at reward_at
    step_scale weights_after fixed_joint_action class_of_agent class_of_others place_weight class_total root_front
    front_after_choice advanced_agent
vector_of_right = refl

-- ---- the first unequal place

left_and_right_differ_first : first_unequal tiger listened 0 0 1 ≡ Some 0
unfolding tiger first_unequal place_count joint_actions joint_observations start_at trans_at obs_at reward_at
    step_scale weights_after fixed_joint_action class_of_agent class_of_others place_weight class_total root_front
    front_after_choice advanced_agent
left_and_right_differ_first = refl

heard_and_never_do_not_differ : first_unequal blind waited 0 0 1 ≡ None
unfolding blind first_unequal place_count joint_actions joint_observations start_at trans_at obs_at reward_at
    step_scale weights_after fixed_joint_action class_of_agent class_of_others place_weight class_total root_front
    front_after_choice advanced_agent
heard_and_never_do_not_differ = refl

-- after two observations it does not count which of them was the left door
left_right_and_right_left : first_unequal tiger listened_twice 0 1 2 ≡ None
unfolding tiger first_unequal place_count joint_actions joint_observations start_at trans_at obs_at reward_at
    step_scale weights_after fixed_joint_action class_of_agent class_of_others place_weight class_total root_front
    front_after_choice advanced_agent
left_right_and_right_left = refl

left_twice_and_once : first_unequal tiger listened_twice 0 0 1 ≡ Some 0
unfolding tiger first_unequal place_count joint_actions joint_observations start_at trans_at obs_at reward_at
    step_scale weights_after fixed_joint_action class_of_agent class_of_others place_weight class_total root_front
    front_after_choice advanced_agent
left_twice_and_once = refl

-- ---- the least pair

waited_pair : IsPair blind waited 0 0 1
unfolding blind root_front front_after_choice advanced_agent
waited_pair = record {
  order = omega arith;
  first = (omega arith, refl);
  second = (omega arith, refl);
  equivalent =
      heard_and_never_are_equivalent;
}

least_of_waited : IsLeastPair blind waited 0 0 1
unfolding blind root_front front_after_choice advanced_agent
least_of_waited = record {
  pair = waited_pair;
  least = λ d d' pair. first_or_later d d' pair.order;
}
  where
    first_or_later : (d d' : ℕ) → d < d' → (0 < d) ⊎ ((0 ≡ d) × (1 ≤ d'))
    first_or_later zero d' order = inr (refl, omega arith)
    first_or_later (suc d) d' order = inl (omega arith)

-- a later pair is not the least, whatever it is
later_pair : (d d' : ℕ) → 0 < d → IsLeastPair blind waited 0 d d' → ⊥
later_pair d d' later least = elim (least.least 0 1 waited_pair) [
  | inl before ↦ omega (arith, before)
  | inr same ↦ omega (arith, same.0)
]

some_pair : HasNoPair blind waited 0 → ⊥
unfolding blind root_front front_after_choice advanced_agent
some_pair none = none 0 1 (omega arith) (omega arith, refl) (omega arith, refl) heard_and_never_are_equivalent

-- ---- primitive vectors

two_divides : All (λ x. 2 ∣ x) (4 ∷ 0 ∷ 6 ∷ [])
two_divides = All-from_recursion (λ x. 2 ∣ x) (4 ∷ 0 ∷ 6 ∷ []) (
  dvd_of_mod-eq-zero 2 refl,
  (dvd-zero 2, (dvd_of_mod-eq-zero 2 refl, tt)),
)

two_is_greatest : IsGcdOf (4 ∷ 0 ∷ 6 ∷ []) 2
two_is_greatest = record {
  divides = two_divides;
  greatest = λ d divides. dvd-sub d (divides 2 0 (omega arith)) (divides 0 0 (omega arith));
}

primitive_of_four_six : IsPrimitiveOf (4 ∷ 0 ∷ 6 ∷ []) (2 ∷ 0 ∷ 3 ∷ [])
primitive_of_four_six = (2, two_is_greatest, refl)

-- zeros stay zeros
primitive_of_zeros : IsPrimitiveOf (0 ∷ 0 ∷ []) (0 ∷ 0 ∷ [])
primitive_of_zeros = (
  0,
  record {
    divides = All-from_recursion (λ x. 0 ∣ x) (0 ∷ 0 ∷ []) (dvd-zero 0, (dvd-zero 0, tt));
    greatest = λ d divides. dvd-zero d;
  },
  refl,
)

-- what has a common divisor left is not primitive
not_divided : IsPrimitiveOf (4 ∷ 0 ∷ 6 ∷ []) (4 ∷ 0 ∷ 6 ∷ []) → ⊥
not_divided primitive =
    let g = primitive.0 in
    let two : 2 ∣ g = primitive.1.greatest 2 two_divides in
    let four : 4 ≡ 4 / g = ap (λ (xs : List ℕ). get_or xs 0 0) primitive.2 in
    let even : g % 2 ≡ 0 = mod-eq-zero_of_dvd 2 two in
    quotient g even four
  where
    quotient : (g : ℕ) → g % 2 ≡ 0 → 4 ≡ 4 / g → ⊥
    quotient zero even e = omega (arith, e)
    quotient (suc zero) even e = omega (arith, even)
    quotient (suc (suc g)) even e = let enough : 4 ≤ suc (suc g) * 2 = omega arith in
        let less : 4 / suc (suc g) ≤ 2 = div-le_of_le-mul (suc (suc g)) enough in omega arith
