-- The model of the tests: one state, two agents with 2 and 3 actions and 1 and 2 observations, rewards 0 to 11.
use Rattle.std.proofs.Common.{◌≡◌, ℕ, zero, suc, ◌+◌, ◌*◌, ◌<◌, ◌≤◌, true, ℤ, pos, unsigned_abs, List, [], ◌∷◌}
use Rattle.std.proofs.Common.{get_or, replicate, refl, ap, arith}
use Rattle.std.specs.Prelude.{nat_le, slice_index}
use Rattle.std.specs.List.{list_all}
use Rattle.std.proofs.lemmas.List.{get_or-replicate}
use Rattle.dp_spec.specs.Model.{IsModel, Model, joint_actions, joint_observations, start_at, trans_at, obs_at}
use Rattle.dp_model.specs.Parts.{AreParts}

abbrev pub rewards : List ℤ
rewards = pos 0 ∷ pos 1 ∷ pos 2 ∷ pos 3 ∷ pos 4 ∷ pos 5 ∷ pos 6 ∷ pos 7 ∷ pos 8 ∷ pos 9 ∷ pos 10 ∷ pos 11 ∷ []

abbrev pub two_agents : Model
two_agents = record {
  states = 1;
  actions = 2 ∷ 3 ∷ [];
  observations = 1 ∷ 2 ∷ [];
  scales = record { start = 1; trans = 1; obs = 2; reward = 1; discount = 1; gain = 1 };
  start = replicate 1 1;
  trans = replicate 6 1;
  obs = replicate 12 1;
  reward = rewards;
}

reward_most : (i : ℕ) → unsigned_abs (get_or rewards i (pos 0)) ≤ 11
reward_most i = at rewards refl i
  where
    at : (rs : List ℤ) → list_all (λ r. nat_le (unsigned_abs r) 11) rs ≡ true → (k : ℕ)
        → unsigned_abs (get_or rs k (pos 0)) ≤ 11
    at [] all k = omega arith
    at (r ∷ rs) all zero = grind arith
    at (r ∷ rs) all (suc k) = at rs (grind arith) k

pub is_model : IsModel two_agents
unfolding joint_actions joint_observations start_at trans_at obs_at
is_model = record {
  sizes = record {
    alike = refl;
    some_agent = omega arith;
    some_action = omega arith;
    agents_limit = omega arith;
    states_limit = omega arith;
    joint_actions_limit = omega arith;
    joint_observations_limit = omega arith;
    trans_cells_limit = omega arith;
    obs_cells_limit = omega arith;
    reward_cells_limit = omega arith;
  };
  scales = record {
    start = omega arith;
    trans = omega arith;
    obs = omega arith;
    reward = omega arith;
    discount = omega arith;
    start_limit = omega arith;
    trans_limit = omega arith;
    obs_limit = omega arith;
    reward_digits = (0, omega arith, refl);
    discount_digits = (0, omega arith, refl);
    gain = omega arith;
  };
  tables = record {
    start = refl;
    trans = refl;
    obs = refl;
    reward = refl;
    reward_limit = λ i. omega (arith, reward_most i);
  };
  rows = record {
    start = refl;
    trans = λ a s action state.
        let there : (a * 1 + s) * 1 + 0 < 6 = omega arith in
        ap (λ x. 0 + x) (get_or-replicate 6 ((a * 1 + s) * 1 + 0) 1 0 there);
    obs = λ a t action state.
        let first : (a * 1 + t) * 2 + 0 < 12 = omega arith in
        let second : (a * 1 + t) * 2 + 1 < 12 = omega arith in
        (λ i. (0 + get_or-replicate 12 ((a * 1 + t) * 2 + 0) 1 0 first i)
        + get_or-replicate 12 ((a * 1 + t) * 2 + 1) 1 0 second i);
  };
}

pub are_actions : AreParts (2 ∷ 3 ∷ []) (1 ∷ 2 ∷ [])
are_actions = record { alike = refl; below = at }
  where
    at : (i : ℕ) → i < 2 → slice_index (1 ∷ 2 ∷ []) i < slice_index (2 ∷ 3 ∷ []) i
    at zero lt = omega arith
    at (suc zero) lt = omega arith
    at (suc (suc i)) lt = absurd (omega arith)

pub are_observations : AreParts (1 ∷ 2 ∷ []) (0 ∷ 1 ∷ [])
are_observations = record { alike = refl; below = at }
  where
    at : (i : ℕ) → i < 2 → slice_index (0 ∷ 1 ∷ []) i < slice_index (1 ∷ 2 ∷ []) i
    at zero lt = omega arith
    at (suc zero) lt = omega arith
    at (suc (suc i)) lt = absurd (omega arith)
