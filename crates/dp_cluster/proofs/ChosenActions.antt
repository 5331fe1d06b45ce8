-- The joint action that is chosen for a joint class, agent by agent.
use Rattle.std.proofs.Common.{◌≡◌, ℕ, zero, suc, ◌+◌, ◌*◌, ◌/◌, ◌%◌, ◌^◌, ◌<◌, ◌≤◌, List, [], ◌∷◌, length, get_or}
use Rattle.std.proofs.Common.{drop, add-one, None, refl, sym, ap, ◌∙◌, subst, arith}
use Rattle.std.specs.Prelude.{unwrap_or}
use Rattle.std.proofs.Math.Seq.{drop-cons}
use Rattle.std.proofs.lemmas.List.{get_or_default}
use Rattle.std.proofs.lemmas.Nat.{mod_below}
use Rattle.dp_spec.specs.Front.{AgentFront, Front, class_counts}
use Rattle.dp_spec.specs.JointNumbers.{joint_number, parts_of, product}
use Rattle.dp_spec.specs.Model.{IsModel, Model, joint_actions}
use Rattle.dp_spec.specs.Steps.{root_agent}
use Rattle.dp_spec.specs.WellFormed.{AreAgentFronts, IsFront}
use Rattle.dp_spec.specs.WellFormed.AreAgentFronts.{and_agent, no_agents}
use Rattle.dp_spec.proofs.JointNumberLaws.{part_below, positive_left, positive_right, product-drop_above}
use Rattle.dp_spec.specs.ClassSteps.{actions_for, chosen_joint_action}
use Rattle.dp_laws.proofs.AgreeingActions.{chosen_action_agrees}
use Rattle.dp_laws.proofs.SizeSums.{agreeing_below}
use Rattle.dp_cluster.specs.KeptFronts.{choice_at}
use Rattle.dp_cluster.proofs.FrontParts.{choice_read, count_read, joint_within}
use Rattle.dp_cluster.proofs.Pairs.{divided, most}

-- a joint action is chosen for each joint class
pub chosen_below : (m : Model) (h : ℕ) (F : Front) → IsModel m → IsFront m h F → (C : ℕ)
    → C < product (class_counts F.agents)
    → chosen_joint_action m F C < joint_actions m
chosen_below m h F is front C lt = agreeing_below m F C _ (chosen_action_agrees m is h F front C lt)

pub chosen_is : (m : Model) (F : Front) (C : ℕ) → joint_number m.actions
    (actions_for F.agents (parts_of (class_counts F.agents) C)) ≡ chosen_joint_action m F C
unfolding chosen_joint_action
chosen_is m F C = refl

-- after i agents: how many joint classes are left to tell apart, what is left of the joint class, and the joint
-- action so far of joint action J
pub record IsChoosingOn (bs : List ℕ) (ds : List AgentFront) (i left rest action J : ℕ) : Type 0 where
  pub left_is : left ≡ product (class_counts (drop i ds))
  pub below : rest < left
  pub few : left ≤ 2 ^ 22
  pub action_is : action * product (drop i bs) + joint_number (drop i bs)
      (actions_for (drop i ds) (parts_of (class_counts (drop i ds)) rest)) ≡ J

pub choosing_start : (bs : List ℕ) (ds : List AgentFront) (left C J : ℕ) → left ≡ product (class_counts ds)
    → left ≤ 2 ^ 22 → C < product (class_counts ds)
    → joint_number bs (actions_for ds (parts_of (class_counts ds) C)) ≡ J → IsChoosingOn bs ds 0 left C 0 J
choosing_start bs ds left C J is few lt e = record {
  left_is = is;
  below = omega arith;
  few = few;
  action_is = omega arith;
}

regroup : (a n p k r : ℕ) → a * (n * k) + (p * k + r) ≡ (a * n + p) * k + r
regroup a n p k r = omega arith

-- for an agent with k classes and b actions, of which the code reads action a for the class of the agent
module _ (bs : List ℕ) (ds : List AgentFront) (i left rest action J k b : ℕ) (lt : i < length ds)
    (lt' : i < length bs) (ek : k ≡ get_or (class_counts ds) i 0) (eb : b ≡ get_or bs i 0)
    (some_actions : 0 < product bs) (J_in : J < product bs) (u : IsChoosingOn bs ds i left rest action J) where
  abbrev d : AgentFront
  d = get_or ds i root_agent

  abbrev P : ℕ
  P = product (class_counts (drop (suc i) ds))

  count : k ≡ length d.chosen
  count = ek ∙ sym (count_read ds i d lt (get_or_default ds i d root_agent lt))

  split : left ≡ k * P
  split = u.left_is ∙ ap (λ l. product (class_counts l)) (drop-cons ds i root_agent lt)
      ∙ ap (λ (z : ℕ). z * P) (sym count)

  pub some : 0 < k
  some = let below = u.below in let e = split in let all : 0 < k * P = omega arith in positive_left k P 0 all

  some_left : 0 < P
  some_left = let below = u.below in let e = split in let all : 0 < k * P = omega arith in
      positive_right k P 0 all

  after : left / k ≡ P
  after = divided k P left some split

  pub some_after : 0 < left / k
  some_after = rw after some_left

  -- the class of the agent
  pub own_in : rest / (left / k) < get_or (class_counts ds) i 0
  own_in = let below = u.below in let e = split in rw (after, sym ek) (part_below k P rest (omega arith))

  pub own_small : rest / (left / k) < 2 ^ 22
  own_small =
      let own = own_in in let few = u.few in let e = split in
      let le : k ≤ 2 ^ 22 = most k P (2 ^ 22) some_left (omega arith) in omega arith

  action_split : (a : ℕ) → a ≡ unwrap_or (choice_at ds i (rest / (left / k))) 0
      → action * product (drop i bs) + joint_number (drop i bs)
      (actions_for (drop i ds) (parts_of (class_counts (drop i ds)) rest))
      ≡ (action * b + a) * product (drop (suc i) bs) + joint_number (drop (suc i) bs)
      (actions_for (drop (suc i) ds) (parts_of (class_counts (drop (suc i) ds)) (rest % P)))
  action_split a ea =
      let own : unwrap_or (get_or d.chosen (rest / P) None) 0 ≡ a =
      ap (λ (z : ℕ). unwrap_or (get_or d.chosen (rest / z) None) 0) (sym after)
      ∙ ap (λ o. unwrap_or o 0) (choice_read ds i (rest / (left / k)) d lt
      (get_or_default ds i d root_agent lt)) ∙ sym ea in
      (λ j. action * product (drop-cons bs i 0 lt' j) + joint_number (drop-cons bs i 0 lt' j)
      (actions_for (drop-cons ds i root_agent lt j) (parts_of (class_counts (drop-cons ds i root_agent lt j))
      rest)))
      ∙ (λ j. action * (sym eb j * product (drop (suc i) bs)) + (own j * product
      (drop (suc i) bs) + joint_number
      (drop (suc i) bs) (actions_for (drop (suc i) ds) (parts_of (class_counts (drop (suc i) ds)) (rest % P)))))
      ∙ regroup action b a (product (drop (suc i) bs)) _

  pub action_room : (a : ℕ) → a ≡ unwrap_or (choice_at ds i (rest / (left / k))) 0 → action * b + a < product bs
  action_room a ea =
      let le = joint_within (action * b + a) (product (drop (suc i) bs)) _ _
      (product-drop_above bs (suc i) some_actions) (sym (action_split a ea) ∙ u.action_is) in omega arith

  pub choosing_next : (a : ℕ) → a ≡ unwrap_or (choice_at ds i (rest / (left / k))) 0
      → IsChoosingOn bs ds (i + 1) (left / k) (rest % (left / k)) (action * b + a) J
  choosing_next a ea =
      subst (λ (Q : ℕ). IsChoosingOn bs ds (i + 1) Q (rest % Q) (action * b + a) J) (sym after)
      (subst (λ (z : ℕ). IsChoosingOn bs ds z P (rest % P) (action * b + a) J) (sym (add-one i))
      (record {
        left_is = refl;
        below = mod_below rest P some_left;
        few = let e = split in let few = u.few in most P k (2 ^ 22) some (omega arith);
        action_is = sym (action_split a ea) ∙ u.action_is;
      }))

drop_all : {X : Type 0} (xs : List X) (i : ℕ) → length xs ≤ i → drop i xs ≡ []
drop_all [] zero le = refl
drop_all [] (suc i) le = refl
drop_all (x ∷ xs) zero le = absurd (omega arith)
drop_all (x ∷ xs) (suc i) le = drop_all xs i (omega arith)

last_of : (a : ℕ) → a * 1 + 0 ≡ a
last_of a = omega arith

pub choosing_end : (bs : List ℕ) (ds : List AgentFront) (i left rest action J : ℕ) → length bs ≤ i
    → IsChoosingOn bs ds i left rest action J → action ≡ J
choosing_end bs ds i left rest action J le u =
    let none = drop_all bs i le in
    sym (last_of action) ∙ (λ j. action * product (sym none j) + joint_number (sym none j)
    (actions_for (drop i ds) (parts_of (class_counts (drop i ds)) rest))) ∙ u.action_is

-- a front has a part for each agent
pub agents_of : {f : ℕ} {bs ns : List ℕ} {ds : List AgentFront} → AreAgentFronts f bs ns ds
    → length ds ≡ length bs
agents_of no_agents = refl
agents_of (and_agent k ks) = let e = agents_of ks in omega arith

pub seen_of : {f : ℕ} {bs ns : List ℕ} {ds : List AgentFront} → AreAgentFronts f bs ns ds
    → length ds ≡ length ns
seen_of no_agents = refl
seen_of (and_agent k ks) = let e = seen_of ks in omega arith
