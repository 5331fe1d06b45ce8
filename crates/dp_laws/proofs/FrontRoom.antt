-- Which fronts have room, and that the steps of a front at nodes that are not wide keep it.
use Rattle.std.proofs.Common.{◌≡◌, ◌↔◌, inl, inr, ℕ, zero, suc, ◌+◌, ◌*◌, ◌/◌, ◌%◌, ◌^◌, ◌<◌, ◌≤◌, Bool, true, false}
use Rattle.std.proofs.Common.{◌&&◌, ◌||◌, not, eqb, List, [], ◌∷◌, map, length, get_or, Option, Some, None, refl, sym}
use Rattle.std.proofs.Common.{ap, ◌∙◌, arith}
use Rattle.std.specs.Prelude.{nat_le, nat_lt}
use Rattle.std.proofs.lemmas.Bool.{and_parts, cases_lt}
use Rattle.std.proofs.lemmas.Bool.Decides.{nat_tests}
use Rattle.std.proofs.lemmas.List.{length-replicate}
use Rattle.std.proofs.lemmas.Nat.{mod_below, mul-pow}
use Rattle.std.proofs.Math.ListN.{length-set}
use Rattle.std.proofs.Math.Nat.{mul-le-mul, mul-le-mul_left, pow-suc, pow-zero}
use Rattle.dp_laws.proofs.ClassCounts.{classes-le-members, joint_classes_within_histories}
use Rattle.dp_laws.proofs.CompleteFronts.{new_class}
use Rattle.dp_laws.proofs.Keeping.{last_member, last_member_is}
use Rattle.dp_laws.proofs.MergedAgents.{length-without}
use Rattle.dp_laws.proofs.TreeDepth.{choice_assigns_one, complete_has_none}
use Rattle.dp_spec.specs.Front.{AgentFront, Front, class_counts}
use Rattle.dp_spec.specs.JointNumbers.{product}
use Rattle.dp_spec.specs.Merge.{merged_agents, merged_front}
use Rattle.dp_spec.specs.Model.{IsModel, Model, joint_actions, joint_observations}
use Rattle.dp_spec.specs.Steps.{IsUnassigned, advanced_agent, advanced_agents, advanced_front, advanced_if}
use Rattle.dp_spec.specs.Steps.{chosen_front, front_after_choice, is_complete, root_agent, root_front, with_choice}
use Rattle.dp_spec.specs.WellFormed.{AreAgentFronts, AreApart, IsAgentFront, IsFront, KeepsHistoriesApart}
use Rattle.dp_spec.specs.WellFormed.AreAgentFronts.{and_agent, no_agents}
use Rattle.dp_spec.specs.Wide.{has_room, is_room, is_wide, next_class_counts, unassigned_count, widens}
use Rattle.dp_spec.proofs.JointNumberLaws.{part_below, positive_right, same_parts}

-- ---- tests

either_left : (a b : Bool) → a ≡ true → (a || b) ≡ true
either_left a b e = rw e refl

either_right : (a b : Bool) → b ≡ true → (a || b) ≡ true
either_right true b e = refl
either_right false b e = e

neither : (a b : Bool) → a ≡ false → (a || b) ≡ b
neither a b e = rw e refl

-- fewer joint classes have room
pub fewer_have_room : (m : Model) (k n : ℕ) → k ≤ n → is_room m n ≡ true → is_room m k ≡ true
unfolding is_room
fewer_have_room m k n le e =
    let both = and_parts (nat_le (m.states * n) (2 ^ 22)) (nat_le (joint_actions m * n) (2 ^ 24)) e in
    let states = mul-le-mul_left m.states le in
    let actions = mul-le-mul_left (joint_actions m) le in
    let first : m.states * n ≤ 2 ^ 22 = grind (arith, nat_tests) in
    let second : joint_actions m * n ≤ 2 ^ 24 = grind (arith, nat_tests) in
    let one : nat_le (m.states * k) (2 ^ 22) ≡ true = within (m.states * k) (2 ^ 22) (omega arith) in
    let two : nat_le (joint_actions m * k) (2 ^ 24) ≡ true = within (joint_actions m * k) (2 ^ 24)
    (omega arith) in
    rw (one, two) refl
  where
    within : (a b : ℕ) → a ≤ b → nat_le a b ≡ true
    within a b le = grind (arith, nat_tests)

-- room of a number of joint classes
room_states : (m : Model) (n : ℕ) → is_room m n ≡ true → m.states * n ≤ 2 ^ 22
unfolding is_room
room_states m n e =
    let both = and_parts (nat_le (m.states * n) (2 ^ 22)) (nat_le (joint_actions m * n) (2 ^ 24)) e in
    from_test (m.states * n) (2 ^ 22) both.0
  where
    from_test : (a b : ℕ) → nat_le a b ≡ true → a ≤ b
    from_test a b e = grind (arith, nat_tests)

-- room before the horizon
other_stage : (f h : ℕ) → f < h → eqb f h ≡ false
other_stage f h lt = grind (arith, nat_tests)

room_before : (m : Model) (h : ℕ) (F : Front) → F.stage < h → has_room m h F
    ≡ is_room m (product (class_counts F.agents))
unfolding has_room
room_before m h F lt = neither (eqb F.stage h) _ (other_stage F.stage h lt)

-- a front of the horizon has room
pub full_has_room : (m : Model) (h : ℕ) (F : Front) → F.stage ≡ h → has_room m h F ≡ true
unfolding has_room
full_has_room m h F e = let same : eqb F.stage h ≡ true = grind (arith, nat_tests) in
    either_left (eqb F.stage h) _ same

-- one more or fewer
room_with : (m : Model) (h : ℕ) (F G : Front) → F.stage ≡ G.stage
    → product (class_counts G.agents) ≤ product (class_counts F.agents)
    → has_room m h F ≡ true → has_room m h G ≡ true
unfolding has_room
room_with m h F G e le room = go (eqb F.stage h) refl
  where
    go : (t : Bool) → eqb F.stage h ≡ t → (eqb G.stage h || is_room m (product (class_counts G.agents))) ≡ true
    go true at = either_left (eqb G.stage h) _ (ap (λ (s : ℕ). eqb s h) (sym e) ∙ at)
    go false at = either_right (eqb G.stage h) _ (fewer_have_room m _ _ le
        (sym (neither (eqb F.stage h) _ at) ∙ room))

-- ---- classes after the steps

-- a choice keeps the counts
choice_counts : (i c a : ℕ) (ds : List AgentFront) → class_counts (with_choice i c a ds) ≡ class_counts ds
choice_counts i c a [] = refl
choice_counts zero c a (d ∷ ds) = rw (length-set d.chosen c (Some a)) refl
choice_counts (suc i) c a (d ∷ ds) = rw (choice_counts i c a ds) refl

-- so it keeps those after an advance
pub choice_next_counts : (i c a : ℕ) (ns : List ℕ) (ds : List AgentFront)
    → next_class_counts ns (with_choice i c a ds) ≡ next_class_counts ns ds
choice_next_counts i c a [] ds = refl
choice_next_counts i c a (n ∷ ns) [] = refl
choice_next_counts zero c a (n ∷ ns) (d ∷ ds) = rw (length-set d.chosen c (Some a)) refl
choice_next_counts (suc i) c a (n ∷ ns) (d ∷ ds) = rw (choice_next_counts i c a ns ds) refl

-- an advance multiplies them
advanced_counts : (f : ℕ) (ns : List ℕ) (ds : List AgentFront)
    → class_counts (advanced_agents ns f ds) ≡ next_class_counts ns ds
unfolding advanced_agent
advanced_counts f [] ds = refl
advanced_counts f (n ∷ ns) [] = refl
advanced_counts f (n ∷ ns) (d ∷ ds) =
    let nothing : Option ℕ = None in rw (
      length-replicate (length d.chosen * n) nothing,
      advanced_counts f ns ds,
    ) refl

-- a merge lowers them
merged_counts : (i a b : ℕ) (ds : List AgentFront) → IsUnassigned i b ds
    → product (class_counts (merged_agents i a b ds)) ≤ product (class_counts ds)
merged_counts i a b [] free = absurd free
merged_counts zero a b (d ∷ ds) free =
    let fewer = length-without b d.chosen free.0 in mul-le-mul (omega arith) (omega arith)
merged_counts (suc i) a b (d ∷ ds) free = mul-le-mul (omega arith) (merged_counts i a b ds free)

-- ---- room after the steps

-- the joint classes after a choice and the advance
abbrev after_advance : Model → Front → ℕ
after_advance m F = product (next_class_counts m.observations F.agents)

advanced_room : (m : Model) (h : ℕ) (F : Front) (i c a : ℕ) → suc F.stage < h
    → has_room m h (advanced_front m (chosen_front F i c a)) ≡ is_room m (after_advance m F)
advanced_room m h F i c a lt =
    room_before m h (advanced_front m (chosen_front F i c a)) lt
    ∙ ap (λ (cs : List ℕ). is_room m (product cs)) (advanced_counts F.stage m.observations
    (with_choice i c a F.agents) ∙ choice_next_counts i c a m.observations F.agents)

-- a front widens where a step is left after the next one and the front after a choice and the advance has no room
pub widens_is : (m : Model) (h : ℕ) (F : Front) (i c a : ℕ)
    → (widens m h F ≡ true) ↔ ((suc F.stage < h) × (has_room m h (advanced_front m (chosen_front F i c a))
    ≡ false))
unfolding widens
widens_is m h F i c a = (
  λ e.
      let both = and_parts (nat_lt (suc F.stage) h) (not (is_room m (after_advance m F))) e in
      let lt = from_test (suc F.stage) h both.0 in (
        lt,
        advanced_room m h F i c a lt
            ∙ no_room (is_room m (after_advance m F)) both.1,
      ),
  λ both.
      let none : is_room m (after_advance m F) ≡ false = sym (advanced_room m h F i c a both.0) ∙ both.1 in
      let lt = to_test (suc F.stage) h both.0 in rw (lt, none) refl,
)
  where
    from_test : (a b : ℕ) → nat_lt a b ≡ true → a < b
    from_test a b e = grind (arith, nat_tests)

    to_test : (a b : ℕ) → a < b → nat_lt a b ≡ true
    to_test a b lt = grind (arith, nat_tests)

    no_room : (t : Bool) → not t ≡ true → t ≡ false
    no_room true e = cc
    no_room false e = refl

-- at a node that is not wide the last choice leads to a front with room
narrow_advances : (m : Model) (h above : ℕ) (F : Front) → F.stage < h → is_wide m h above F ≡ false
    → unassigned_count F.agents ≡ 1 → suc F.stage < h → is_room m (after_advance m F) ≡ true
unfolding is_wide widens
narrow_advances m h above F lt narrow one step = go (is_room m (after_advance m F)) refl
  where
    go : (t : Bool) → is_room m (after_advance m F) ≡ t → t ≡ true
    go true e = refl
    go false e =
        let first : nat_lt F.stage h ≡ true = grind (arith, nat_tests) in
        let second : eqb (unassigned_count F.agents) 1 ≡ true = grind (arith, nat_tests) in
        let third : nat_lt (suc F.stage) h ≡ true = grind (arith, nat_tests) in
        let wide : (nat_lt F.stage h && (nat_le 2048 above || eqb (unassigned_count F.agents) 1 &&
        (nat_lt (suc F.stage) h && not (is_room m (after_advance m F))))) ≡ true =
        rw (first, second, third, e) (either_right (nat_le 2048 above) true refl) in
        cc

-- a choice, and the advance that may follow, keep room
advance_keeps_room : (m : Model) (h above : ℕ) (F : Front) (i c a : ℕ) → F.stage < h → IsUnassigned i c F.agents
    → is_wide m h above F ≡ false → has_room m h F ≡ true → (t : Bool)
    → is_complete (with_choice i c a F.agents) ≡ t
    → has_room m h (advanced_if m (chosen_front F i c a) t) ≡ true
advance_keeps_room m h above F i c a lt free narrow room false e =
    let counts = choice_counts i c a F.agents in
    room_with m h F (chosen_front F i c a) refl (let same = ap product counts in omega arith) room
advance_keeps_room m h above F i c a lt free narrow room true e =
    let one = choice_assigns_one i c a F.agents free in
    let none = complete_has_none (with_choice i c a F.agents) e in
    elim (cases_lt (suc F.stage) h) [
      | inl step ↦ advanced_room m h F i c a step ∙ narrow_advances m h above F lt narrow (omega arith) step
      | inr le ↦ full_has_room m h (advanced_front m (chosen_front F i c a)) (omega arith)
    ]

pub choice_keeps_room : (m : Model) (h above : ℕ) (F : Front) (i c a : ℕ) → F.stage < h
    → IsUnassigned i c F.agents
    → is_wide m h above F ≡ false → has_room m h F ≡ true → has_room m h (front_after_choice m F i c a) ≡ true
unfolding front_after_choice
choice_keeps_room m h above F i c a lt free narrow room =
    advance_keeps_room m h above F i c a lt free narrow room (is_complete (with_choice i c a F.agents)) refl

-- merging keeps room
pub merging_keeps_room : (m : Model) (h : ℕ) (F : Front) (i a b : ℕ) → IsUnassigned i b F.agents
    → has_room m h F ≡ true
    → has_room m h (merged_front F i a b) ≡ true
merging_keeps_room m h F i a b free room = room_with m h F (merged_front F i a b) refl
    (merged_counts i a b F.agents free) room

-- the root front has room
root_counts : (bs : List ℕ) → product (class_counts (map (λ n. root_agent) bs)) ≡ 1
root_counts [] = refl
root_counts (b ∷ bs) = rw (root_counts bs) refl

pub root_has_room : (m : Model) (h : ℕ) → IsModel m → has_room m h (root_front m) ≡ true
unfolding has_room root_front is_room
root_has_room m h is =
    let one = root_counts m.actions in
    let states = is.sizes.states_limit in
    let actions = is.sizes.joint_actions_limit in
    let first : nat_le (m.states * 1) (2 ^ 22) ≡ true = within (m.states * 1) (2 ^ 22) (omega arith) in
    let second : nat_le (joint_actions m * 1) (2 ^ 24) ≡ true = within (joint_actions m * 1) (2 ^ 24)
    (omega arith) in
    rw (one, first, second) (either_right (eqb 0 h) true refl)
  where
    within : (a b : ℕ) → a ≤ b → nat_le a b ≡ true
    within a b le = grind (arith, nat_tests)

-- ---- histories apart

-- at the root
root_apart_each : (bs ns : List ℕ) → AreApart 0 ns (map (λ n. root_agent) bs)
root_apart_each [] [] = tt
root_apart_each [] (n ∷ ns) = tt
root_apart_each (b ∷ bs) [] = tt
root_apart_each (b ∷ bs) (n ∷ ns) = (λ x y p q e. omega (arith, pow-zero n), root_apart_each bs ns)

pub root_apart : (m : Model) → KeepsHistoriesApart m (root_front m)
unfolding root_front
root_apart m = root_apart_each m.actions m.observations

-- a choice changes no class
choice_apart : (f i c a : ℕ) (ns : List ℕ) (ds : List AgentFront) → AreApart f ns ds
    → AreApart f ns (with_choice i c a ds)
choice_apart f i c a [] ds apart = tt
choice_apart f i c a (n ∷ ns) [] apart = tt
choice_apart f zero c a (n ∷ ns) (d ∷ ds) apart = apart
choice_apart f (suc i) c a (n ∷ ns) (d ∷ ds) apart = (apart.0, choice_apart f i c a ns ds apart.1)

-- an advance keeps the classes of different histories apart
advance_apart : (f : ℕ) (ns : List ℕ) (ds : List AgentFront) → AreApart f ns ds
    → AreApart (suc f) ns (advanced_agents ns f ds)
unfolding advanced_agent
advance_apart f [] ds apart = tt
advance_apart f (n ∷ ns) [] apart = tt
advance_apart f (n ∷ ns) (d ∷ ds) apart = (
  λ x y p q e.
      let p' : x < n ^ f * n = rw pow-suc at p in
      let q' : y < n ^ f * n = rw pow-suc at q in
      let some = positive_right (n ^ f) n x p' in
      let parts = same_parts n _ (x % n) _ (y % n) (mod_below x n some) (mod_below y n some)
      (sym (new_class n f x d.class_of p) ∙ e ∙ new_class n f y d.class_of q) in
      let rows : x / n ≡ y / n = apart.0 (x / n) (y / n) (part_below (n ^ f) n x p') (part_below (n ^ f) n y q')
      parts.0 in
      let mine : x / n * n + x % n ≡ x = omega arith in
      let yours : y / n * n + y % n ≡ y = omega arith in
      sym mine ∙ ap (λ (k : ℕ). k * n + x % n) rows ∙ ap (λ (k : ℕ). y / n * n + k) parts.1 ∙ yours,
  advance_apart f ns ds apart.1,
)

advance_if_apart : (m : Model) (F : Front) (t : Bool) → KeepsHistoriesApart m F
    → KeepsHistoriesApart m (advanced_if m F t)
advance_if_apart m F false apart = apart
advance_if_apart m F true apart = advance_apart F.stage m.observations F.agents apart

pub after_choice_apart : (m : Model) (F : Front) (i c a : ℕ) → KeepsHistoriesApart m F
    → KeepsHistoriesApart m (front_after_choice m F i c a)
unfolding front_after_choice
after_choice_apart m F i c a apart = advance_if_apart m (chosen_front F i c a) _
    (choice_apart F.stage i c a m.observations F.agents apart)

-- then there are as many classes as histories
apart_count : (b n f : ℕ) (d : AgentFront) → IsAgentFront b n f d
    → ((x y : ℕ) → x < n ^ f → y < n ^ f → get_or d.class_of x 0 ≡ get_or d.class_of y 0 → x ≡ y)
    → n ^ f ≤ length d.chosen
apart_count b n f d front apart =
    let class : ℕ → ℕ = λ x. get_or d.class_of x 0 in
    classes-le-members (length d.chosen) (n ^ f) (λ c. last_member class c (n ^ f)) (λ x p.
    let last = last_member_is class (class x) (n ^ f) x p refl in
    (class x, front.class_below x p, apart _ x last.0 p last.1))

apart_counts : {f : ℕ} {bs ns : List ℕ} {ds : List AgentFront} → AreAgentFronts f bs ns ds → AreApart f ns ds
    → product ns ^ f ≤ product (class_counts ds)
apart_counts {f} no_agents apart = power_of_one f
  where
    power_of_one : (f : ℕ) → 1 ^ f ≤ 1
    power_of_one zero = omega (arith, pow-zero 1)
    power_of_one (suc f) = omega (arith, pow-suc 1 f, power_of_one f)
apart_counts {f} (and_agent {b = b} {n = n} {ns = ns} {d = d} front fronts) apart =
    rw (mul-pow n (product ns) f) (mul-le-mul (apart_count b n f d front apart.0) (apart_counts fronts apart.1))

-- joint classes are as many as joint histories
pub apart_classes : (m : Model) (h : ℕ) (F : Front) → IsFront m h F → KeepsHistoriesApart m F
    → product (class_counts F.agents) ≡ joint_observations m ^ F.stage
unfolding joint_observations
apart_classes m h F front apart =
    let least = apart_counts front.agents apart in let most = joint_classes_within_histories m h F front in
    omega arith

-- so a front with room that keeps histories apart is within the limit of stage cells
pub apart_within_cells : (m : Model) (h : ℕ) (F : Front) → IsFront m h F → F.stage < h → KeepsHistoriesApart m F
    → has_room m h F ≡ true → m.states * joint_observations m ^ F.stage ≤ 2 ^ 22
unfolding joint_observations
apart_within_cells m h F front lt apart room =
    let cells = room_states m (product (class_counts F.agents)) (sym (room_before m h F lt) ∙ room) in
    let more = mul-le-mul_left m.states (apart_counts front.agents apart) in omega arith

-- ---- single steps keep histories apart
pub chosen_keeps_apart : (m : Model) (F : Front) (i c a : ℕ) → KeepsHistoriesApart m F
    → KeepsHistoriesApart m (chosen_front F i c a)
chosen_keeps_apart m F i c a apart = choice_apart F.stage i c a m.observations F.agents apart

pub advanced_keeps_apart : (m : Model) (F : Front) → KeepsHistoriesApart m F
    → KeepsHistoriesApart m (advanced_front m F)
advanced_keeps_apart m F apart = advance_apart F.stage m.observations F.agents apart
