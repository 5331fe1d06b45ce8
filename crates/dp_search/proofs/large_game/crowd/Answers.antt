use Rattle.std.proofs.Common.{◌≡◌, ℕ, zero, suc, ◌+◌, ◌*◌, ◌<◌, ◌≤◌, true, ℤ, pos, unsigned_abs, List, [], ◌∷◌}
use Rattle.std.proofs.Common.{get_or, replicate, refl, ap, sym, subst, ◌∙◌, arith}
use Rattle.std.specs.Prelude.{nat_le}
use Rattle.std.specs.List.{list_all}
use Rattle.std.proofs.lemmas.List.{get_or-replicate}
use Rattle.dp_spec.specs.Model.{IsModel, Model, joint_actions, joint_observations, obs_at, start_at, trans_at}
use Rattle.dp_search.proofs.large_game.crowd.Goals as goal

abbrev rewards : List ℤ
rewards =
    pos 1 ∷ pos 1 ∷ pos 1 ∷ pos 1 ∷ pos 0 ∷ pos 0 ∷ pos 0 ∷ pos 0
    ∷ pos 0 ∷ pos 0 ∷ pos 0 ∷ pos 0 ∷ pos 3 ∷ pos 3 ∷ pos 3 ∷ pos 3 ∷ []

abbrev crowd : Model
crowd = record {
  states = 1;
  actions = 2 ∷ 2 ∷ [];
  observations = 2 ∷ 2 ∷ [];
  scales = record { start = 1; trans = 1; obs = 4; reward = 1; discount = 1; gain = 1 };
  start = replicate 1 1;
  trans = replicate 4 1;
  obs = replicate 16 1;
  reward = rewards;
}

reward_most : (i : ℕ) → unsigned_abs (get_or rewards i (pos 0)) ≤ 3
reward_most i = at rewards refl i
  where
    at : (rs : List ℤ) → list_all (λ r. nat_le (unsigned_abs r) 3) rs ≡ true → (k : ℕ)
        → unsigned_abs (get_or rs k (pos 0)) ≤ 3
    at [] all k = omega arith
    at (r ∷ rs) all zero = grind arith
    at (r ∷ rs) all (suc k) = at rs (grind arith) k

-- each joint observation has one of the four chances
one : (n i : ℕ) → i < n → ◌≡◌ {A = ℕ} (get_or (replicate n 1) i 0) 1
one n i lt = get_or-replicate n i 1 0 lt

is_model : IsModel crowd
unfolding joint_actions joint_observations start_at trans_at obs_at
is_model = record {
  sizes = record {
    alike = refl;
    some_agent = omega arith;
    some_action = omega arith;
    agents_limit = omega arith;
    states_limit = omega arith;
    joint_actions_limit = omega arith;
    joint_observations_limit = omega arith;
    trans_cells_limit = omega arith;
    obs_cells_limit = omega arith;
    reward_cells_limit = omega arith;
  };
  scales = record {
    start = omega arith;
    trans = omega arith;
    obs = omega arith;
    reward = omega arith;
    discount = omega arith;
    start_limit = omega arith;
    trans_limit = omega arith;
    obs_limit = omega arith;
    reward_digits = (0, omega arith, refl);
    discount_digits = (0, omega arith, refl);
    gain = omega arith;
  };
  tables = record {
    start = refl;
    trans = refl;
    obs = refl;
    reward = refl;
    reward_limit = λ i. omega (arith, reward_most i);
  };
  rows = record {
    start = refl;
    trans = λ a s action state. ap (λ (x : ℕ). 0 + x) (one 4 ((a * 1 + s) * 1 + 0) (omega arith));
    obs = λ a t action state.
        let at : (k : ℕ) → k < 4 → ◌≡◌ {A = ℕ} (get_or (replicate 16 1) ((a * 1 + t) * 4 + k) 0) 1 =
        λ k lt. one 16 ((a * 1 + t) * 4 + k) (omega arith) in
        (λ i. (((0 + at 0 (omega arith) i) + at 1 (omega arith) i) + at 2 (omega arith) i) + at 3 (omega arith) i);
  };
}

pub build-requires-clause-model : goal.build-requires-clause-model
build-requires-clause-model c =
    let actions : c.of.result ≡ crowd.actions = c.of.ensures ∙ c.in_ok-vec.ensures.items in
    let observations : c.of-2.result ≡ crowd.observations = c.of-2.ensures ∙ c.in_ok-vec-2.ensures.items in
    let start : c.of-3.result ≡ crowd.start = c.of-3.ensures ∙ c.in_ok-vec-3.ensures.items in
    let trans : c.of-4.result ≡ crowd.trans = c.of-4.ensures ∙ c.in_ok-vec-4.ensures.items in
    let obs : c.of-5.result ≡ crowd.obs = c.of-5.ensures ∙ c.in_ok-vec-5.ensures.items in
    let reward : c.of-6.result ≡ crowd.reward = c.of-6.ensures ∙ c.in_ok-vec-6.ensures.items in
    subst IsModel
    (λ i. record crowd {
      actions = sym actions i;
      observations = sym observations i;
      start = sym start i;
      trans = sym trans i;
      obs = sym obs i;
      reward = sym reward i;
    })
    is_model
