-- The models of the worked rows.
use Rattle.std.proofs.Common.{pos, negsuc, [], ◌∷◌, ◌^◌}
use Rattle.std.specs.Prelude.{replicate}
use Rattle.std.specs.List.{flat_map}
use Rattle.dp_spec.specs.Model.{Model}

-- Two agents before two doors, behind one of which is a tiger (the decentralised tiger benchmark of Nair et al.
-- 2003). Actions: listen, open the left door, open the right one.
unfoldable pub tiger : Model
tiger = record {
  states = 2;
  actions = 3 ∷ 3 ∷ [];
  observations = 2 ∷ 2 ∷ [];
  scales = record { start = 2; trans = 2; obs = 10000; reward = 1; discount = 1; gain = 1 };
  start = 1 ∷ 1 ∷ [];
  trans = 2 ∷ 0 ∷ 0 ∷ 2 ∷ replicate 32 1;
  obs = 7225 ∷ 1275 ∷ 1275 ∷ 225 ∷ 225 ∷ 1275 ∷ 1275 ∷ 7225 ∷ replicate 64 2500;
  reward = flat_map (λ r. replicate 8 r) (
      negsuc 1 ∷ negsuc 1 ∷ negsuc 100 ∷ pos 9 ∷ pos 9 ∷ negsuc 100
      ∷ negsuc 100 ∷ pos 9 ∷ negsuc 49 ∷ pos 20 ∷ negsuc 99 ∷ negsuc 99
      ∷ pos 9 ∷ negsuc 100 ∷ negsuc 99 ∷ negsuc 99 ∷ pos 20 ∷ negsuc 49 ∷ []);
}

-- One agent, one state and one action, whose two observations say nothing.
unfoldable pub blind : Model
blind = record {
  states = 1;
  actions = 1 ∷ [];
  observations = 2 ∷ [];
  scales = record { start = 1; trans = 1; obs = 1; reward = 1; discount = 1; gain = 1 };
  start = 1 ∷ [];
  trans = 1 ∷ [];
  obs = 1 ∷ 0 ∷ [];
  reward = pos 1 ∷ pos 1 ∷ [];
}

-- One agent and one action, with chances of sixteen digits.
unfoldable pub decay : Model
decay = record {
  states = 2;
  actions = 1 ∷ [];
  observations = 1 ∷ [];
  scales = record { start = 1; trans = 10 ^ 16; obs = 1; reward = 1; discount = 1; gain = 1 };
  start = 1 ∷ 0 ∷ [];
  trans = 1000000000000001 ∷ 8999999999999999 ∷ 0 ∷ 10000000000000000 ∷ [];
  obs = 1 ∷ 1 ∷ [];
  reward = pos 1 ∷ pos 1 ∷ pos 0 ∷ pos 0 ∷ [];
}

-- One agent, two actions with rewards 3 and 5 per step, and a discount of one half.
unfoldable pub halved : Model
halved = record {
  states = 1;
  actions = 2 ∷ [];
  observations = 1 ∷ [];
  scales = record { start = 1; trans = 1; obs = 1; reward = 1; discount = 10; gain = 5 };
  start = 1 ∷ [];
  trans = 1 ∷ 1 ∷ [];
  obs = 1 ∷ 1 ∷ [];
  reward = pos 3 ∷ pos 5 ∷ [];
}

-- One agent, one state, two actions with rewards 1 and 3.
unfoldable pub solo : Model
solo = record {
  states = 1;
  actions = 2 ∷ [];
  observations = 1 ∷ [];
  scales = record { start = 1; trans = 1; obs = 1; reward = 1; discount = 1; gain = 1 };
  start = 1 ∷ [];
  trans = 1 ∷ 1 ∷ [];
  obs = 1 ∷ 1 ∷ [];
  reward = pos 1 ∷ pos 3 ∷ [];
}

-- One agent, 65 states and 256 observations, of which nothing can be learnt and nothing earned.
unfoldable pub fan : Model
fan = record {
  states = 65;
  actions = 1 ∷ [];
  observations = 256 ∷ [];
  scales = record { start = 65; trans = 65; obs = 256; reward = 1; discount = 1; gain = 1 };
  start = replicate 65 1;
  trans = replicate 4225 1;
  obs = replicate 16640 1;
  reward = replicate 1081600 (pos 0);
}

-- One agent, one action, two states between which it drifts, two observations, and a reward for each cell.
unfoldable pub drift : Model
drift = record {
  states = 2;
  actions = 1 ∷ [];
  observations = 2 ∷ [];
  scales = record { start = 4; trans = 4; obs = 3; reward = 1; discount = 10; gain = 9 };
  start = 1 ∷ 3 ∷ [];
  trans = 1 ∷ 3 ∷ 2 ∷ 2 ∷ [];
  obs = 1 ∷ 2 ∷ 3 ∷ 0 ∷ [];
  reward = pos 1 ∷ pos 5 ∷ pos 3 ∷ pos 7 ∷ pos 2 ∷ pos 6 ∷ pos 4 ∷ pos 8 ∷ [];
}
