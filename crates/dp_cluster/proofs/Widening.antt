-- Whether an advance would widen a front, as the code computes it.
use Rattle.std.proofs.Common.{◌≡◌, ℕ, suc, ◌*◌, ◌<◌, ◌≤◌, ◌^◌, Bool, true, false, not, List, [], ◌∷◌, length, leb}
use Rattle.std.proofs.Common.{sym, ap, ◌∙◌, arith}
use Rattle.std.specs.Prelude.{◌&&◌, nat_le, nat_lt}
use Rattle.std.proofs.lemmas.Bool.Decides.{nat_tests}
use Rattle.dp_spec.specs.Front.{AgentFront, class_counts}
use Rattle.dp_spec.specs.JointNumbers.{product}
use Rattle.dp_spec.specs.Model.{Model, joint_actions, joint_observations}
use Rattle.dp_spec.specs.Wide.{is_room, next_class_counts, widens}
use Rattle.dp_cluster.specs.KeptFronts.{IsFrontOf, KeptFront}
use Rattle.dp_laws.proofs.AdvancedFronts.{as_many_agents}
use Rattle.dp_cluster.proofs.FrontParts.{as_many_counts}

-- ---- room

within : (x y : ℕ) → x ≤ y → nat_le x y ≡ true
within x y le = grind (arith, nat_tests)

beyond : (x y : ℕ) → y < x → nat_le x y ≡ false
beyond x y lt = grind (arith, nat_tests)

pub room_by_actions : (m : Model) (n s a : ℕ) → s ≡ m.states → a ≡ joint_actions m → s * n ≤ 2 ^ 22
    → leb (a * n) (2 ^ 24) ≡ is_room m n
unfolding is_room
room_by_actions m n s a states actions le =
    let same = ap (λ (x : ℕ). nat_le (x * n) (2 ^ 22)) (sym states) in
    let few : nat_le (m.states * n) (2 ^ 22) ≡ true = same ∙ within (s * n) (2 ^ 22) le in
    ap (λ x. nat_le (x * n) (2 ^ 24)) actions ∙ ap (λ b. b && nat_le (joint_actions m * n) (2 ^ 24)) (sym few)

pub room_by_states : (m : Model) (n s : ℕ) → s ≡ m.states → 2 ^ 22 < s * n → leb (s * n) (2 ^ 22) ≡ is_room m n
unfolding is_room
room_by_states m n s states lt =
    let same = ap (λ (x : ℕ). nat_le (x * n) (2 ^ 22)) (sym states) in
    let many : nat_le (m.states * n) (2 ^ 22) ≡ false = same ∙ beyond (s * n) (2 ^ 22) lt in
    beyond (s * n) (2 ^ 22) lt ∙ ap (λ b. b && nat_le (joint_actions m * n) (2 ^ 24)) (sym many)

-- ---- the classes after an advance

next_product : (ns : List ℕ) (ds : List AgentFront) → length ns ≡ length ds
    → product (next_class_counts ns ds) ≡ product (class_counts ds) * product ns
next_product [] [] e = omega arith
next_product [] (d ∷ ds) e = absurd (omega arith)
next_product (n ∷ ns) [] e = absurd (omega arith)
next_product (n ∷ ns) (d ∷ ds) e = rw (next_product ns ds (omega arith)) (omega arith)

next_classes : (m : Model) (k : KeptFront) → IsFrontOf m k → (joint seen : ℕ)
    → joint ≡ product (class_counts k.front.agents) → seen ≡ joint_observations m
    → joint * seen ≡ product (next_class_counts m.observations k.front.agents)
unfolding joint_observations
next_classes m k is joint seen ej es =
    let observed = as_many_agents is.front.agents in
    let counted = as_many_counts k.front.agents in
    let alike : length m.observations ≡ length k.front.agents = omega arith in
    (λ j. ej j * es j) ∙ sym (next_product m.observations k.front.agents alike)

pub widens_by_room : (m : Model) (k : KeptFront) → IsFrontOf m k → (joint seen : ℕ)
    → joint ≡ product (class_counts k.front.agents) → seen ≡ joint_observations m → (r : Bool)
    → r ≡ is_room m (joint * seen) → suc k.front.stage < k.horizon
    → not r ≡ widens m k.horizon k.front
unfolding widens
widens_by_room m k is joint seen ej es r room lt =
    let early : nat_lt (suc k.front.stage) k.horizon ≡ true = grind (arith, nat_tests) in
    ap not (room ∙ ap (is_room m) (next_classes m k is joint seen ej es))
    ∙ ap (λ b. b && not (is_room m (product (next_class_counts m.observations k.front.agents)))) (sym early)

pub widens_not : (m : Model) (k : KeptFront) → k.horizon ≤ suc k.front.stage
    → false ≡ widens m k.horizon k.front
unfolding widens
widens_not m k le =
    let late : nat_lt (suc k.front.stage) k.horizon ≡ false = grind (arith, nat_tests) in
    ap (λ b. b && not (is_room m (product (next_class_counts m.observations k.front.agents)))) (sym late)
