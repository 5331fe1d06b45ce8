-- Keys: the joint action that is done and the joint observation that is seen at each step from the start on, the
-- earliest step first; their order by length and then by their numbers from the left; and the weights after them.
use Rattle.std.specs.Prelude.{ℕ, zero, suc, ◌+◌, ◌*◌, ◌-◌, ◌/◌, ◌<◌, ◌≤◌, ◌≡◌, min, Bool, ℤ, pos, List, [], ◌∷◌}
use Rattle.std.specs.Prelude.{length, get_or, Option, MatchOption}
use Rattle.dp_spec.specs.declared.span.Span.{Span}
use Rattle.dp_spec.specs.Arithmetic.{Arithmetic, arithmetic}
use Rattle.dp_spec.specs.Model.{IsModel, Model, joint_actions, joint_observations, start_at}
use Rattle.dp_spec.specs.Quantities.{look_ahead_in, weights_after_in}
use Rattle.dp_spec.specs.Sizes.{AreWeights}
use Rattle.dp_pomdp.specs.Looking.{weights_of}

-- each pair is of one of n joint actions and one of k joint observations
abbrev pub ArePairs : ℕ → ℕ → List ℕ → Type 0
ArePairs n k [] = Unit {0}
ArePairs n k (a ∷ []) = ⊥
ArePairs n k (a ∷ (o ∷ key)) = (a < n) × (o < k) × ArePairs n k key

-- How many keys come before a key, where r come before what stands to the left of `key`. Before a key that goes on
-- from there by a pair come the empty key, all keys that go on by one pair from one of the r, and those that go on
-- by a lesser pair.
abbrev pub place_from : ℕ → ℕ → ℕ → List ℕ → ℕ
place_from n k r [] = r
place_from n k r (a ∷ []) = r
place_from n k r (a ∷ (o ∷ key)) = place_from n k (r * (n * k) + 1 + (a * k + o)) key

-- how many keys come before a key of the model
abbrev pub key_place : Model → List ℕ → ℕ
key_place m key = place_from (joint_actions m) (joint_observations m) 0 key

-- how many keys have fewer than n of p pairs
abbrev pub keys_below : ℕ → ℕ → ℕ
keys_below p zero = 0
keys_below p (suc n) = 1 + keys_below p n * p

-- how many pairs there are
abbrev pub pairs_of : Model → ℕ
pairs_of m = joint_actions m * joint_observations m

-- the weights after a key, from weights w
abbrev pub weights_along : Arithmetic → Model → (ℕ → Span) → List ℕ → ℕ → Span
weights_along A m w [] = w
weights_along A m w (a ∷ []) = w
weights_along A m w (a ∷ (o ∷ key)) = weights_along A m (weights_after_in A m w a o) key

-- the weights of the start
abbrev pub start_weights : Arithmetic → Model → ℕ → Span
start_weights A m s = A.start (start_at m s)

-- the look-ahead after a key with a look of 16, over a horizon of h steps, in the arithmetic of a mode
abbrev pub key_look : Bool → Model → ℕ → List ℕ → ℤ
key_look e m h key =
    look_ahead_in (arithmetic e m.scales) m (h - length key / 2)
    (weights_along (arithmetic e m.scales) m (start_weights (arithmetic e m.scales) m) key) 16

-- It is a key of the model that leaves a step before the horizon, and fewer than `most` keys come before it.
pub record IsAmongFirst (m : Model) (h most : ℕ) (key : List ℕ) : Type 0 where
  pub pairs : ArePairs (joint_actions m) (joint_observations m) key
  pub early : length key < 2 * h
  pub first : key_place m key < most

-- how many joint actions and joint observations there are, the horizon, and the look-ahead after each key that is
-- kept
pub record KeptKeys : Type 0 where
  pub actions : ℕ
  pub observations : ℕ
  pub horizon : ℕ
  pub values : List ℤ

-- It keeps the look-aheads after the first `most` keys, or after all if there are fewer.
pub record IsKeyTable (e : Bool) (m : Model) (h most : ℕ) (t : KeptKeys) : Type 0 where
  pub model : IsModel m
  pub some_step : 0 < h
  pub actions : t.actions ≡ joint_actions m
  pub observations : t.observations ≡ joint_observations m
  pub horizon : t.horizon ≡ h
  pub count : length t.values ≡ min most (keys_below (pairs_of m) h)
  pub values : (key : List ℕ) → ArePairs (joint_actions m) (joint_observations m) key
      → key_place m key < length t.values → get_or t.values (key_place m key) (pos 0) ≡ key_look e m h key

-- what is found of a key with r as the place of what stands to its left, of n joint actions and k joint observations:
-- nothing where it is none or not kept
abbrev pub IsFoundFrom : ℕ → ℕ → List ℤ → ℕ → List ℕ → Option ℤ → Type 0
IsFoundFrom n k values r key found =
    MatchOption found (ArePairs n k key → length values ≤ place_from n k r key)
    (λ x. ArePairs n k key × (place_from n k r key < length values)
    × (x ≡ get_or values (place_from n k r key) (pos 0)))

-- the weights after a key, and how many steps were done before them
pub record KeyWeights : Type 0 where
  pub time : ℕ
  pub weights : List Span

abbrev pub no_key_weights : KeyWeights
no_key_weights = record { time = 0; weights = [] }

-- they are those of the key before which p keys come
pub record AreKeyWeights (e : Bool) (m : Model) (p : ℕ) (row : KeyWeights) : Type 0 where
  pub one_each : length row.weights ≡ m.states
  pub late : keys_below (pairs_of m) row.time ≤ p
  pub weights : AreWeights e m row.time (weights_of row.weights)
  pub long : (key : List ℕ) → ArePairs (joint_actions m) (joint_observations m) key → key_place m key ≡ p
      → length key ≡ 2 * row.time
  pub along : (key : List ℕ) → ArePairs (joint_actions m) (joint_observations m) key → key_place m key ≡ p
      → (s : ℕ) → s < m.states → weights_of row.weights s
      ≡ weights_along (arithmetic e m.scales) m (start_weights (arithmetic e m.scales) m) key s
