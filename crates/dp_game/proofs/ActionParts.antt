-- The parts of joint actions in their list.
use Rattle.std.proofs.Common.{◌≡◌, ℕ, zero, suc, [], ◌∷◌, refl, ◌+◌, ◌*◌, ◌^◌, ◌<◌, ◌≤◌, List, length, get_or, ap}
use Rattle.std.proofs.Common.{◌∙◌, arith}
use Rattle.std.proofs.Math.Nat.{mul-le-mul}
use Rattle.dp_spec.specs.JointNumbers.{parts_of, product}
use Rattle.dp_spec.specs.Model.{IsModel, Model, joint_actions}
use Rattle.dp_spec.proofs.JointNumberLaws.{below_at, length-parts_of, parts_below, row_below}
use Rattle.dp_cluster.proofs.AdvancedParts.{factor_le}
use Rattle.dp_game.specs.Kept.{AreActionParts, rows_of}
use Rattle.dp_game.proofs.Rows.{rows_at, rows_length}

-- a read in a list does not depend on the default
other_default : (xs : List ℕ) (i x y : ℕ) → i < length xs → get_or xs i x ≡ get_or xs i y
other_default [] i x y lt = absurd (omega arith)
other_default (z ∷ xs) zero x y lt = refl
other_default (z ∷ xs) (suc i) x y lt = other_default xs i x y (omega arith)

-- a place for each agent in each joint action
pub places_in : (bs : List ℕ) (count : ℕ) (all : List ℕ) (a j : ℕ) → AreActionParts bs count all
    → a < product bs →
    j < length bs
    → a * length bs + j < length all
places_in bs count all a j is ha hj =
    let long = ap length is.parts ∙ rows_length (parts_of bs) (length bs) (product bs)
    (λ C lt. length-parts_of bs C) in
    let lt = row_below a (product bs) (length bs) j ha hj in
    omega arith

-- the part there
pub part_is : (bs : List ℕ) (count : ℕ) (all : List ℕ) (a j : ℕ) → AreActionParts bs count all
    → a < product bs → j
    < length bs
    → get_or all (a * length bs + j) 0 ≡ get_or (parts_of bs a) j 0
part_is bs count all a j is ha hj =
    ap (λ l. get_or l (a * length bs + j) 0) is.parts
    ∙ rows_at (parts_of bs) (length bs) (product bs) a j 0 (λ C lt. length-parts_of bs C) ha hj

-- as the code reads it
pub part_read : (bs : List ℕ) (count : ℕ) (all items : List ℕ) (a j n x : ℕ) → AreActionParts bs count all
    → items ≡
    all → n ≡ length bs
    → a < product bs → j < length bs → get_or items (a * n + j) x ≡ get_or (parts_of bs a) j 0
part_read bs count all items a j n x is same many ha hj =
    let inside : a * length bs + j < length all = places_in bs count all a j is ha hj in
    (λ i. get_or (same i) (a * many i + j) x) ∙ other_default all (a * length bs + j) x 0 inside
    ∙ part_is bs count
    all a j is ha hj

-- and where
pub action_room : (bs : List ℕ) (count : ℕ) (all : List ℕ) (a : ℕ) → AreActionParts bs count all
    → a < product bs
    → a * length bs < 2 ^ 11
action_room bs count all a is ha =
    let few = is.few in let agents = is.agents in
    let below : a ≤ 256 = omega arith in
    let le : a * length bs ≤ 256 * 6 = mul-le-mul below agents in omega arith

-- a part of a joint action of a model fits in a byte
pub part_small : (m : Model) (a j : ℕ) → IsModel m → a < joint_actions m → j < length m.actions
    → get_or (parts_of m.actions a) j 0 < 2 ^ 8
unfolding joint_actions
part_small m a j is ha hj =
    let lt = below_at j m.actions (parts_of m.actions a) hj (parts_below m.actions a ha) in
    let le = factor_le m.actions j is.sizes.some_action hj in
    let few = is.sizes.joint_actions_limit in
    omega arith

pub parts_are : (m : Model) (sizes all : List ℕ) (count n : ℕ) → IsModel m → sizes ≡ m.actions → count ≡
    joint_actions m
    → all ≡ rows_of (parts_of m.actions) (joint_actions m) → AreActionParts sizes count all
unfolding joint_actions
parts_are m sizes all count n is same counted rows = record {
  agents = rw same is.sizes.agents_limit;
  some = rw same is.sizes.some_action;
  few = rw same is.sizes.joint_actions_limit;
  counted = rw same counted;
  parts = rw same rows;
}
