-- Which states follow which by a chance above 0, and what may be seen, as lists that are made once.
use Rattle.std.specs.Prelude.{ℕ, zero, suc, ◌<◌, ◌≡◌, ◌==◌, cond, Bool, true, false, List, [], ◌∷◌, ◌++◌, length}
use Rattle.std.specs.Prelude.{get_or}
use Rattle.dp_base.specs.Sums.{nat_sum}
use Rattle.dp_spec.specs.Model.{Model, joint_actions, joint_observations, obs_at, trans_at}

-- those of the first n numbers of which f is not 0, in order
abbrev pub those_of : (ℕ → ℕ) → ℕ → List ℕ
those_of f zero = []
those_of f (suc n) = cond (f n == 0) (those_of f n) (those_of f n ++ n ∷ [])

-- the chance of a step by joint action a from state s to state t, or backwards from t to s
abbrev pub step_chance : Model → Bool → ℕ → ℕ → ℕ → ℕ
step_chance m backwards a s t = cond backwards (trans_at m a t s) (trans_at m a s t)

-- the states to which a step may lead from state s, or backwards
abbrev pub linked : Model → Bool → ℕ → ℕ → List ℕ
linked m backwards a s = those_of (step_chance m backwards a s) m.states

-- for each state
pub record IsLinkedRow (m : Model) (backwards : Bool) (a : ℕ) (row : List (List ℕ)) : Type 0 where
  pub one_each : length row ≡ m.states
  pub lists : (s : ℕ) → s < m.states → get_or row s [] ≡ linked m backwards a s

-- and for each joint action
pub record AreLinked (m : Model) (backwards : Bool) (lists : List (List (List ℕ))) : Type 0 where
  pub one_each : length lists ≡ joint_actions m
  pub rows : (a : ℕ) → a < joint_actions m → IsLinkedRow m backwards a (get_or lists a [])

-- how likely joint observation o is after joint action a, over all states, of which each counts alike
abbrev pub seen_chance : Model → ℕ → ℕ → ℕ
seen_chance m a o = nat_sum m.states (λ t. obs_at m a t o)

-- the joint observations that may be seen after joint action a
abbrev pub seen_after : Model → ℕ → List ℕ
seen_after m a = those_of (seen_chance m a) (joint_observations m)

-- for each joint action
pub record AreSeen (m : Model) (seen : List (List ℕ)) : Type 0 where
  pub one_each : length seen ≡ joint_actions m
  pub lists : (a : ℕ) → a < joint_actions m → get_or seen a [] ≡ seen_after m a

-- the lists of states in both directions, and of joint observations
pub record LinkLists : Type 0 where
  pub after : List (List (List ℕ))
  pub before : List (List (List ℕ))
  pub seen : List (List ℕ)

pub record AreLinksOf (m : Model) (links : LinkLists) : Type 0 where
  pub after : AreLinked m false links.after
  pub before : AreLinked m true links.before
  pub seen : AreSeen m links.seen
