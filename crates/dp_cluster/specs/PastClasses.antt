-- The classes that the stages behind a front had, and shared policies with a row for each of them. (Own.)
use Rattle.std.specs.Prelude.{ℕ, ◌^◌, ◌<◌, ◌≡◌, List, [], ◌∷◌, ◌++◌, map, length, get_or}
use Rattle.dp_spec.specs.Front.{AgentFront}
use Rattle.dp_spec.specs.SharedPolicy.{AgentRows, row_count, row_of_history}

-- how many classes an agent had at a stage, and for each own history of that stage the number of its class
pub record PastClasses : Type 0 where
  pub count : ℕ
  pub class_of : List ℕ

-- what stands for a stage that is not there
abbrev pub no_classes : PastClasses
no_classes = record { count = 0; class_of = [] }

-- the classes that an agent has now
abbrev pub classes_of : AgentFront → PastClasses
classes_of d = record { count = length d.chosen; class_of = d.class_of }

-- for each agent the classes behind the front after an advance: those behind it before, and then those that it had
abbrev pub past_after : List AgentFront → List (List PastClasses) → List (List PastClasses)
past_after [] past = []
past_after (d ∷ ds) [] = []
past_after (d ∷ ds) (cs ∷ past) = (cs ++ classes_of d ∷ []) ∷ past_after ds past

-- for each agent how many classes it had at stage t
abbrev pub past_counts : List (List PastClasses) → ℕ → List ℕ
past_counts past t = map (λ (cs : List PastClasses). (get_or cs t no_classes).count) past

-- An agent with n observations has at stage t a row for each class: every own history reaches the row of its class,
-- and some own history reaches each row.
pub record HasRowEachClass (n : ℕ) (stages : AgentRows) (t : ℕ) (classes : PastClasses) : Type 0 where
  pub one_each : row_count stages t ≡ classes.count
  pub of_class : (x : ℕ) → x < n ^ t → row_of_history n stages t x ≡ get_or classes.class_of x 0
  pub reached : (r : ℕ) → r < row_count stages t → (x : ℕ) × (x < n ^ t) × (row_of_history n stages t x ≡ r)
