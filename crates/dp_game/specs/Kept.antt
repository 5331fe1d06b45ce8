-- What a game is made of, and the look-aheads of a front.
use Rattle.std.specs.Prelude.{ℕ, zero, suc, ◌+◌, ◌*◌, ◌-◌, ◌^◌, ◌<◌, ◌≤◌, ◌≡◌, false, ℤ, pos, List, [], ◌++◌, map}
use Rattle.std.specs.Prelude.{length, get_or, drop, take, Option}
use Rattle.std.specs.List.{range_with_len}
use Rattle.dp_base.specs.Sums.{greatest}
use Rattle.dp_spec.specs.Arithmetic.{Arithmetic, arithmetic}
use Rattle.dp_spec.specs.Front.{Front}
use Rattle.dp_spec.specs.JointNumbers.{parts_of, product}
use Rattle.dp_spec.specs.Model.{Model, joint_actions, joint_observations}
use Rattle.dp_spec.specs.Quantities.{action_look_ahead_in, class_weight_in}
use Rattle.dp_cluster.specs.KeptFronts.{KeptFront}
use Rattle.dp_game.specs.Bounders.{KeptBounder}
use Rattle.dp_game.specs.Games.{IsGameOf, KeptGame, allowed_actions}

-- rows f 0 to f (n - 1), one after the other
abbrev pub rows_of : {X : Type 0} → (ℕ → List X) → ℕ → List X
rows_of f zero = []
rows_of f (suc n) = rows_of f n ++ f n

-- the part of each agent in each joint action of agents with bs actions, joint action by joint action
pub record AreActionParts (bs : List ℕ) (count : ℕ) (all : List ℕ) : Type 0 where
  pub agents : length bs ≤ 6
  pub some : 0 < product bs
  pub few : product bs ≤ 256
  pub counted : count ≡ product bs
  pub parts : all ≡ rows_of (parts_of bs) (product bs)

-- the look-ahead of each joint action from weights of joint class C, where r steps are left after this one
abbrev pub look_ahead_row : Arithmetic → Model → ℕ → Front → ℕ → ℕ → List ℤ
look_ahead_row A m r F look C =
    map (λ a. action_look_ahead_in A m r (class_weight_in A m F C) a look) (range_with_len 0 (joint_actions m))

-- in outward mode the stage of a front is within the limit on stage cells
abbrev pub IsWithinCells : Model → KeptFront → Type 0
IsWithinCells m k = k.is_exact ≡ false → m.states * joint_observations m ^ k.front.stage ≤ 2 ^ 22

-- the look-aheads of joint class C of a front, with the look and the mode of a bounder
abbrev pub class_row : Model → KeptFront → KeptBounder → ℕ → List ℤ
class_row m k b C = look_ahead_row (arithmetic b.is_exact m.scales) m (b.horizon - k.front.stage - 1)
    k.front b.look C

-- it is the game of some front
abbrev pub IsOfSomeFront : KeptGame → Type 0
IsOfSomeFront g = (m : Model) × (h : ℕ) × (look : ℕ) × (F : Front) × IsGameOf m h look F g

-- the game of these parts
abbrev pub game_with : List ℕ → List (List (Option ℕ)) → List ℤ → ℤ → KeptGame
game_with bs oss table earned = record { actions = bs; choices = oss; table = table; earned = earned }

-- the greatest entry of joint class C that agrees with the choices that are kept for it
abbrev pub greatest_in : List ℕ → List ℤ → List (Option ℕ) → ℕ → ℤ
greatest_in bs table wanted C =
    greatest (λ a. get_or table (C * product bs + a) (pos 0))
    (allowed_actions bs (take (length bs) (drop (C * length bs) wanted)))

-- the greatest look-ahead from the weights of joint class C, of the joint actions that agree with the choices kept
-- for it, where r steps are left after this one
abbrev pub greatest_look_in : Arithmetic → Model → ℕ → Front → ℕ → List ℕ → List (Option ℕ) → ℕ → ℤ
greatest_look_in A m r F look bs wanted C =
    greatest (λ a. action_look_ahead_in A m r (class_weight_in A m F C) a look)
    (allowed_actions bs (take (length bs) (drop (C * length bs) wanted)))
