-- The limits that a text is within.
use Rattle.std.proofs.Common.{◌≡◌, ℕ, ◌*◌, ◌≤◌, Bool, true, false, List, [], ◌∷◌, get_or, map, refl, arith, cond, ◌^◌}
use Rattle.std.specs.Prelude.{nat_lt, None}
use Rattle.std.proofs.lemmas.Bool.Decides.{nat_tests}
use Rattle.dp_spec.specs.JointNumbers.{product}
use Rattle.dp_meaning.specs.declared.text.Text.{Text}
use Rattle.dp_meaning.specs.NameLists.{size_of}
use Rattle.dp_meaning.specs.Text.{states_in, joint_actions_in, joint_observations_in}
use Rattle.dp_meaning.specs.Scales.{scales_of}
use Rattle.dp_meaning.specs.Limits.{product_past, tried_limits, passed_limit}
use Rattle.dp_model.specs.declared.limit.Limit.TheVariants as limits
use Rattle.dp_model.proofs.LimitLemmas.{none_at, not_passed}

-- a product of which no part from the left passes is the product
product_step : (most acc n p rest : ℕ) (b : Bool) → nat_lt most acc ≡ b → cond b acc rest ≤ most
    → (rest ≤ most → rest ≡ acc * n * p)
    → cond b acc rest ≡ acc * (n * p)
product_step most acc n p rest true t f e = absurd (past t f)
  where
    past : nat_lt most acc ≡ true → acc ≤ most → ⊥
    past t f = grind (arith, nat_tests)
product_step most acc n p rest false t f e = let g = e f in omega arith

product_within : (most acc : ℕ) (ns : List ℕ) → product_past most acc ns ≤ most
    → product_past most acc ns ≡ acc * product ns
product_within most acc [] h = omega arith
product_within most acc (n ∷ ns) h =
    product_step most acc n (product ns) (product_past most (acc * n) ns) (nat_lt most acc) refl h
    (product_within most (acc * n) ns)

-- where the first product that is counted is kept, it is the product of all
pub counted_product : (most : ℕ) (ns : List ℕ) → product_past most 1 ns ≤ most → product_past most 1 ns ≡ product ns
counted_product most ns h = let e = product_within most 1 ns h in omega arith

-- the limits that a text is within
pub record IsSmall (text : Text) : Type 0 where
  pub agents : size_of text.header.agents ≤ 6
  pub states : states_in text ≤ 256
  pub actions : joint_actions_in text ≤ 256
  pub observations : joint_observations_in text ≤ 256
  -- the first products that are counted are the products of all
  pub counted_actions : product_past 256 1 (map size_of text.header.actions) ≡ joint_actions_in text
  pub counted_observations : product_past 256 1 (map size_of text.header.observations) ≡ joint_observations_in text
  pub trans_cells : joint_actions_in text * states_in text * states_in text ≤ 2 ^ 22
  pub obs_cells : joint_actions_in text * states_in text * joint_observations_in text ≤ 2 ^ 22
  pub reward_cells : joint_actions_in text * states_in text * states_in text * joint_observations_in text ≤ 2 ^ 28
  pub start_scale : (scales_of text).start ≤ 2 ^ 62
  pub trans_scale : (scales_of text).trans ≤ 2 ^ 62
  pub obs_scale : (scales_of text).obs ≤ 2 ^ 62

pub small : (text : Text) → passed_limit text ≡ None → IsSmall text
unfolding passed_limit
small text e =
    let none : (k : ℕ) → get_or (tried_limits text) k None ≡ None = none_at (tried_limits text) e in
    record {
      agents = not_passed limits.Agents _ (none 0);
      states = not_passed limits.States _ (none 1);
      actions = whole (map size_of text.header.actions) (not_passed limits.JointActions _ (none 2));
      observations = whole (map size_of text.header.observations) (not_passed limits.JointObservations _ (none 3));
      counted_actions = counted_product 256 (map size_of text.header.actions)
          (not_passed limits.JointActions _ (none 2));
      counted_observations = counted_product 256 (map size_of text.header.observations)
          (not_passed limits.JointObservations _ (none 3));
      trans_cells = not_passed limits.TransCells _ (none 4);
      obs_cells = not_passed limits.ObsCells _ (none 5);
      reward_cells = not_passed limits.RewardCells _ (none 6);
      start_scale = not_passed limits.Scale _ (none 8);
      trans_scale = not_passed limits.Scale _ (none 9);
      obs_scale = not_passed limits.Scale _ (none 10);
    }
  where
    whole : (ns : List ℕ) → product_past 256 1 ns ≤ 256 → product ns ≤ 256
    whole ns h = let e = counted_product 256 ns h in omega arith
