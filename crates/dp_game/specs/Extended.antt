-- Extended joint actions: for each agent one of its actions or none. (Own.)
use Rattle.std.specs.Prelude.{ℕ, zero, suc, ◌+◌, ◌*◌, ◌≡◌, ◌<◌, ℤ, pos, List, map, length, get_or, Option}
use Rattle.std.specs.Prelude.{None, Some}
use Rattle.std.specs.List.{range_with_len}
use Rattle.dp_base.specs.Sums.{greatest}
use Rattle.dp_spec.specs.JointNumbers.{joint_number, parts_of, product}
use Rattle.dp_game.specs.Games.{KeptGame, allowed_actions, choices_in, game_bound, joint_classes}
use Rattle.dp_game.specs.Games.{own_counts}
use Rattle.dp_game.specs.Kept.{IsOfSomeFront, game_with, rows_of}

-- the number of a choice: 0 for none, and a + 1 for action a
abbrev pub choice_number : Option ℕ → ℕ
choice_number None = 0
choice_number (Some a) = suc a

-- the choice with that number
abbrev pub choice_of : ℕ → Option ℕ
choice_of zero = None
choice_of (suc a) = Some a

-- how many choices the agents have, none among them
abbrev pub choice_counts : List ℕ → List ℕ
choice_counts bs = map (λ b. suc b) bs

-- the extended joint action of one choice for each agent
abbrev pub extended_number : List ℕ → List (Option ℕ) → ℕ
extended_number bs os = joint_number (choice_counts bs) (map choice_number os)

-- the choices of extended joint action x
abbrev pub choices_at : List ℕ → ℕ → List (Option ℕ)
choices_at bs x = map choice_of (parts_of (choice_counts bs) x)

-- joint action a, extended
abbrev pub whole_number : List ℕ → ℕ → ℕ
whole_number bs a = joint_number (choice_counts bs) (map (λ p. suc p) (parts_of bs a))

-- the greatest entry of joint class C in a table, joint class by joint class, among the joint actions that agree with
-- extended joint action x
abbrev pub greatest_at : List ℕ → List ℤ → ℕ → ℕ → ℤ
greatest_at bs table x C = greatest (λ a. get_or table (C * product bs + a) (pos 0))
    (allowed_actions bs (choices_at bs x))

-- all of these, with a row of n joint classes for each extended joint action
abbrev pub greatest_table : List ℕ → List ℤ → ℕ → List ℤ
greatest_table bs table n =
    rows_of (λ x. map (greatest_at bs table x) (range_with_len 0 n)) (product (choice_counts bs))

-- of these the joint actions alone, joint class by joint class
abbrev pub whole_table : List ℕ → ℕ → List ℤ → List ℤ
whole_table bs n best =
    rows_of (λ C. map (λ a. get_or best (whole_number bs a * n + C) (pos 0)) (range_with_len 0 (product bs))) n

-- the game of these parts, where the greatest entries are kept for each extended joint action
abbrev pub game_kept : List ℕ → List (List (Option ℕ)) → List ℤ → ℤ → KeptGame
game_kept bs oss best earned = game_with bs oss (whole_table bs (product (own_counts oss)) best) earned

-- the extended joint actions of all joint classes, where the agents have bs actions and the choices oss
pub record AreNumbersOf (bs : List ℕ) (oss : List (List (Option ℕ))) (numbers : List ℕ) : Type 0 where
  pub one_each : length numbers ≡ product (own_counts oss)
  pub at : (C : ℕ) → C < product (own_counts oss) → get_or numbers C 0 ≡ extended_number bs (choices_in oss C)

-- What a game keeps is right: the greatest entries of its table for each extended joint action, the extended joint
-- action of each joint class, and the bound.
pub record IsKeptBy (g : KeptGame) (best : List ℤ) (numbers : List ℕ) (bound : ℤ) : Type 0 where
  pub of_front : IsOfSomeFront g
  pub entries : best ≡ greatest_table g.actions g.table (joint_classes g)
  pub classes : AreNumbersOf g.actions g.choices numbers
  pub is_bound : bound ≡ game_bound g
