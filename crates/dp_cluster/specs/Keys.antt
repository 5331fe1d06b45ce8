-- Keys of joint classes that hold one joint history: its joint actions and joint observations, step by step. (Own.)
use Rattle.std.specs.Prelude.{ℕ, ◌/◌, ◌%◌, ◌^◌, ◌<◌, ◌≡◌, List, [], ◌∷◌, ◌++◌, length, get_or}
use Rattle.dp_spec.specs.Front.{Front, fixed_joint_action, joint_class}
use Rattle.dp_spec.specs.JointHistory.{IsJointHistory}
use Rattle.dp_spec.specs.Model.{Model, joint_observations}
use Rattle.dp_spec.specs.Steps.{root_agent}
use Rattle.dp_cluster.specs.AgentParts.{OwnPart}
use Rattle.dp_cluster.specs.KeptFronts.{KeptFront}
use Rattle.dp_cluster.specs.PastClasses.{no_classes}

-- the joint action and the joint observation of each step along a joint history, the earliest step first, where act
-- gives the joint action that is done after each joint history
abbrev pub pairs_along : (List ℕ → ℕ) → List ℕ → List ℕ
pairs_along act [] = []
pairs_along act (o ∷ H) = pairs_along act H ++ act H ∷ o ∷ []

-- H is the one joint history of joint class C
pub record IsOnlyHistory (m : Model) (F : Front) (C : ℕ) (H : List ℕ) : Type 0 where
  pub history : IsJointHistory (joint_observations m) F.stage H
  pub of_class : joint_class m F H ≡ C
  pub alone : (K : List ℕ) → IsJointHistory (joint_observations m) F.stage K → joint_class m F K ≡ C → K ≡ H

-- joint class C holds one joint history alone, and these are its pairs
abbrev pub IsKeyOf : Model → Front → ℕ → List ℕ → Type 0
IsKeyOf m F C key = (H : List ℕ) × IsOnlyHistory m F C H × (key ≡ pairs_along (fixed_joint_action m F) H)

-- each own history has its own number for its class, at the stage of a part and at each earlier one
pub record HasOwnNumbers (v : OwnPart) : Type 0 where
  pub now : (x : ℕ) → x < v.observations ^ length v.front.fixed → get_or v.front.class_of x 0 ≡ x
  pub before : (t x : ℕ) → t < length v.front.fixed → x < v.observations ^ t
      → get_or (get_or v.past t no_classes).class_of x 0 ≡ x

-- two own histories of a part share a class
abbrev pub HasSharedClass : OwnPart → Type 0
HasSharedClass v =
    (x : ℕ) × (y : ℕ) × (x < y) × (y < v.observations ^ length v.front.fixed)
    × (get_or v.front.class_of x 0 ≡ get_or v.front.class_of y 0)

-- the same of agent i of a front
pub record HasNumbersAt (m : Model) (k : KeptFront) (i : ℕ) : Type 0 where
  pub now : (x : ℕ) → x < get_or m.observations i 0 ^ k.front.stage
      → get_or (get_or k.front.agents i root_agent).class_of x 0 ≡ x
  pub before : (t x : ℕ) → t < k.front.stage → x < get_or m.observations i 0 ^ t
      → get_or (get_or (get_or k.past i []) t no_classes).class_of x 0 ≡ x

-- and of all agents
abbrev pub HasNumbersOf : Model → KeptFront → Type 0
HasNumbersOf m k = (i : ℕ) → i < length k.front.agents → HasNumbersAt m k i

-- own histories without their last observations, and those observations
abbrev pub without_last : List ℕ → List ℕ → List ℕ
without_last [] xs = []
without_last (n ∷ ns) [] = []
without_last (n ∷ ns) (x ∷ xs) = x / n ∷ without_last ns xs

abbrev pub last_seen : List ℕ → List ℕ → List ℕ
last_seen [] xs = []
last_seen (n ∷ ns) [] = []
last_seen (n ∷ ns) (x ∷ xs) = x % n ∷ last_seen ns xs
