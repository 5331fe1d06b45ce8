-- The pairs along the one joint history of a joint class, where no classes were joined.
use Rattle.std.proofs.Common.{◌≡◌, ℕ, zero, suc, ◌+◌, ◌-◌, ◌/◌, ◌%◌, ◌^◌, ◌<◌, List, [], ◌∷◌}
use Rattle.std.proofs.Common.{◌++◌, length, get_or, take, append_assoc, add-one, refl, sym, ap, ◌∙◌, subst, arith}
use Rattle.std.proofs.lemmas.Nat.{div-mul-add, mod-mul-add, mod_below}
use Rattle.dp_spec.specs.Front.{AgentFront, Front, class_counts, fixed_actions, fixed_joint_action, joint_class}
use Rattle.dp_spec.specs.Front.{next_own_histories, own_classes, own_histories}
use Rattle.dp_spec.specs.JointHistory.{IsJointHistory}
use Rattle.dp_spec.specs.JointNumbers.{joint_number, parts_of}
use Rattle.dp_spec.specs.Model.{IsModel, Model, joint_observations}
use Rattle.dp_spec.specs.Steps.{root_agent}
use Rattle.dp_spec.specs.WellFormed.{AreApart, KeepsHistoriesApart}
use Rattle.dp_spec.proofs.JointNumberLaws.{AreBelow, joint_number-parts_of, joint_number_below, parts_below}
use Rattle.dp_spec.proofs.JointNumberLaws.{parts_of-joint_number}
use Rattle.dp_laws.proofs.AdvancedFronts.{classes_below}
use Rattle.dp_laws.proofs.LoneHistories.{alone, some_member}
use Rattle.dp_laws.proofs.OwnHistories.{Within, own_histories_within}
use Rattle.dp_model.specs.Parts.{AreParts}
use Rattle.dp_cluster.specs.AgentParts.{OwnPart}
use Rattle.dp_cluster.specs.Keys.{HasNumbersAt, HasNumbersOf, HasOwnNumbers, HasSharedClass, IsKeyOf}
use Rattle.dp_cluster.specs.Keys.{last_seen, pairs_along, without_last}
use Rattle.dp_cluster.specs.KeptFronts.{IsFrontOf, KeptFront}
use Rattle.dp_cluster.specs.PastClasses.{PastClasses, no_classes}
use Rattle.dp_cluster.proofs.AdvancedParts.{agent_at, read_front, read_seen, seen_positive, take_more}
use Rattle.dp_cluster.proofs.ChosenActions.{agents_of, seen_of}

-- ---- lists of parts, agent by agent

pub taken_next : (ys all all' : List ℕ) (new i : ℕ) → i < length ys → new ≡ get_or ys i new → all' ≡ all ++ new ∷ []
    → all ≡ take i ys → all' ≡ take (i + 1) ys
taken_next ys all all' new i lt e pushed before =
    pushed ∙ ap (λ l. l ++ new ∷ []) before ∙ sym (take_more ys i new lt e)
    ∙ ap (λ (n : ℕ). take n ys) (sym (add-one i))

pub shorter_long : (ns xs : List ℕ) → length xs ≡ length ns → length (without_last ns xs) ≡ length ns
shorter_long [] xs e = refl
shorter_long (n ∷ ns) [] e = absurd (omega arith)
shorter_long (n ∷ ns) (x ∷ xs) e = ap suc (shorter_long ns xs (omega arith))

pub shorter_read : (ns xs : List ℕ) (i d : ℕ) → length xs ≡ length ns → i < length ns
    → get_or (without_last ns xs) i d ≡ get_or xs i 0 / get_or ns i 0
shorter_read [] xs i d e lt = absurd (omega arith)
shorter_read (n ∷ ns) [] i d e lt = absurd (omega arith)
shorter_read (n ∷ ns) (x ∷ xs) zero d e lt = refl
shorter_read (n ∷ ns) (x ∷ xs) (suc i) d e lt = shorter_read ns xs i d (omega arith) (omega arith)

pub seen_long : (ns xs : List ℕ) → length xs ≡ length ns → length (last_seen ns xs) ≡ length ns
seen_long [] xs e = refl
seen_long (n ∷ ns) [] e = absurd (omega arith)
seen_long (n ∷ ns) (x ∷ xs) e = ap suc (seen_long ns xs (omega arith))

pub seen_read : (ns xs : List ℕ) (i d : ℕ) → length xs ≡ length ns → i < length ns
    → get_or (last_seen ns xs) i d ≡ get_or xs i 0 % get_or ns i 0
seen_read [] xs i d e lt = absurd (omega arith)
seen_read (n ∷ ns) [] i d e lt = absurd (omega arith)
seen_read (n ∷ ns) (x ∷ xs) zero d e lt = refl
seen_read (n ∷ ns) (x ∷ xs) (suc i) d e lt = seen_read ns xs i d (omega arith) (omega arith)

pub actions_long : (ds : List AgentFront) (t : ℕ) (xs : List ℕ) → length xs ≡ length ds
    → length (fixed_actions ds t xs) ≡ length ds
actions_long [] t xs e = refl
actions_long (d ∷ ds) t [] e = absurd (omega arith)
actions_long (d ∷ ds) t (x ∷ xs) e = ap suc (actions_long ds t xs (omega arith))

pub actions_read : (ds : List AgentFront) (t : ℕ) (xs : List ℕ) (i d : ℕ) → length xs ≡ length ds → i < length ds
    → get_or (fixed_actions ds t xs) i d ≡ get_or (get_or (get_or ds i root_agent).fixed t []) (get_or xs i 0) 0
actions_read [] t xs i d e lt = absurd (omega arith)
actions_read (x ∷ ds) t [] i d e lt = absurd (omega arith)
actions_read (q ∷ ds) t (x ∷ xs) zero d e lt = refl
actions_read (q ∷ ds) t (x ∷ xs) (suc i) d e lt = actions_read ds t xs i d (omega arith) (omega arith)

pub within_long : (ns : List ℕ) (t : ℕ) (xs : List ℕ) → Within ns t xs → length xs ≡ length ns
within_long [] t [] w = refl
within_long [] t (x ∷ xs) w = absurd w
within_long (n ∷ ns) t [] w = absurd w
within_long (n ∷ ns) t (x ∷ xs) w = ap suc (within_long ns t xs w.1)

pub within_at : (ns : List ℕ) (t : ℕ) (xs : List ℕ) (i : ℕ) → Within ns t xs → i < length ns
    → get_or xs i 0 < get_or ns i 0 ^ t
within_at [] t xs i w lt = absurd (omega arith)
within_at (n ∷ ns) t [] i w lt = absurd w
within_at (n ∷ ns) t (x ∷ xs) zero w lt = w.0
within_at (n ∷ ns) t (x ∷ xs) (suc i) w lt = within_at ns t xs i w.1 (omega arith)

-- last observations are parts of a joint observation
pub seen_parts : (m : Model) (own : List ℕ) → IsModel m → length own ≡ length m.observations
    → AreParts m.observations (last_seen m.observations own)
seen_parts m own is e = record {
  alike = seen_long m.observations own e;
  below = λ i lt.
      let read = seen_read m.observations own i 0 e lt in
      let below = mod_below (get_or own i 0) (get_or m.observations i 0) (seen_positive m is i lt) in
      subst (λ (z : ℕ). z < get_or m.observations i 0) (sym read) below;
}

-- fixed actions are parts of a joint action
pub action_parts : (m : Model) (k : KeptFront) (t : ℕ) (own : List ℕ) → IsFrontOf m k → t < k.front.stage
    → Within m.observations t own → AreParts m.actions (fixed_actions k.front.agents t own)
action_parts m k t own is lt within =
    let seen = seen_of is.front.agents in
    let actions = agents_of is.front.agents in
    let long = within_long m.observations t own within in
    let counted = actions_long k.front.agents t own (omega arith) in record {
      alike = omega arith;
      below = λ i inside.
          let read = actions_read k.front.agents t own i 0 (omega arith) (omega arith) in
          let below = (agent_at is.front.agents i (omega arith)).fixed_below t (get_or own i 0) lt
          (within_at m.observations t own i within (omega arith)) in
          subst (λ (z : ℕ). z < get_or m.actions i 0) (sym read) below;
    }

-- ---- one step back

back : (ns xs ps : List ℕ) → length xs ≡ length ns → AreBelow ns ps
    → without_last ns (next_own_histories ns xs ps) ≡ xs
back [] [] ps e below = refl
back [] (x ∷ xs) ps e below = absurd (omega arith)
back (n ∷ ns) [] ps e below = absurd (omega arith)
back (n ∷ ns) (x ∷ xs) [] e below = absurd below
back (n ∷ ns) (x ∷ xs) (p ∷ ps) e below =
    let first = div-mul-add x n p below.0 in
    let rest = back ns xs ps (omega arith) below.1 in
    λ j. first j ∷ rest j

seen_back : (ns xs ps : List ℕ) → length xs ≡ length ns → AreBelow ns ps
    → last_seen ns (next_own_histories ns xs ps) ≡ ps
seen_back [] [] [] e below = refl
seen_back [] [] (p ∷ ps) e below = absurd below
seen_back [] (x ∷ xs) ps e below = absurd (omega arith)
seen_back (n ∷ ns) [] ps e below = absurd (omega arith)
seen_back (n ∷ ns) (x ∷ xs) [] e below = absurd below
seen_back (n ∷ ns) (x ∷ xs) (p ∷ ps) e below =
    let first = mod-mul-add x n p below.0 in
    let rest = seen_back ns xs ps (omega arith) below.1 in
    λ j. first j ∷ rest j

-- some joint history of a length has these own histories
abbrev pub HasHistory : Model → ℕ → List ℕ → Type 0
HasHistory m t own =
    (H : List ℕ) × IsJointHistory (joint_observations m) t H × (own_histories m.observations H ≡ own)

module _ (m : Model) where
  own_within : (t : ℕ) (H : List ℕ) → IsJointHistory (joint_observations m) t H
      → Within m.observations t (own_histories m.observations H)
  unfolding joint_observations
  own_within t H p = own_histories_within m.observations t H p

  pub history_within : (t : ℕ) (own : List ℕ) → HasHistory m t own → Within m.observations t own
  history_within t own some = subst (Within m.observations t) some.2 (own_within t some.0 some.1)

  pub history_long : (t : ℕ) (own : List ℕ) → HasHistory m t own → length own ≡ length m.observations
  history_long t own some = within_long m.observations t own (history_within t own some)

  last_below : (t o : ℕ) (H : List ℕ) → IsJointHistory (joint_observations m) (suc t) (o ∷ H)
      → AreBelow m.observations (parts_of m.observations o)
  unfolding joint_observations
  last_below t o H p = parts_below m.observations o p.0

  last_is : (t o : ℕ) (H : List ℕ) → IsJointHistory (joint_observations m) (suc t) (o ∷ H)
      → joint_number m.observations (parts_of m.observations o) ≡ o
  unfolding joint_observations
  last_is t o H p = joint_number-parts_of m.observations o p.0

  before_is : (t o : ℕ) (H : List ℕ) → IsJointHistory (joint_observations m) (suc t) (o ∷ H)
      → without_last m.observations (own_histories m.observations (o ∷ H)) ≡ own_histories m.observations H
  before_is t o H p =
      back m.observations (own_histories m.observations H) (parts_of m.observations o)
      (within_long m.observations t _ (own_within t H p.1)) (last_below t o H p)

  seen_is : (t o : ℕ) (H : List ℕ) → IsJointHistory (joint_observations m) (suc t) (o ∷ H)
      → joint_number m.observations (last_seen m.observations (own_histories m.observations (o ∷ H))) ≡ o
  seen_is t o H p =
      ap (joint_number m.observations)
      (seen_back m.observations (own_histories m.observations H) (parts_of m.observations o)
      (within_long m.observations t _ (own_within t H p.1)) (last_below t o H p))
      ∙ last_is t o H p

  history_back : (t : ℕ) (own : List ℕ) → HasHistory m (suc t) own
      → HasHistory m t (without_last m.observations own)
  history_back t own ([], p, e) = absurd p
  history_back t own (o ∷ H, p, e) = (H, p.1, sym (before_is t o H p) ∙ ap (without_last m.observations) e)

  pub earlier_history : (time : ℕ) (own before : List ℕ) → (time ≡ 0 → ⊥) → before ≡ without_last m.observations own
      → HasHistory m time own → HasHistory m (time - 1) before
  earlier_history zero own before some e h = absurd (some refl)
  earlier_history (suc t) own before some e h =
      let same : t ≡ suc t - 1 = omega arith in
      subst (λ (l : List ℕ). HasHistory m (suc t - 1) l) (sym e)
      (subst (λ (z : ℕ). HasHistory m z (without_last m.observations own)) same (history_back t own h))

  -- ---- the pairs

  pub no_pairs : (F : Front) (time : ℕ) (own items : List ℕ) → time ≡ 0 → items ≡ [] → (H : List ℕ)
      → IsJointHistory (joint_observations m) time H → own_histories m.observations H ≡ own
      → items ≡ pairs_along (fixed_joint_action m F) H
  no_pairs F zero own items e none [] p is = none
  no_pairs F zero own items e none (o ∷ H) p is = absurd p
  no_pairs F (suc t) own items e none H p is = absurd (omega arith)

  length_is : (t : ℕ) (H : List ℕ) → IsJointHistory (joint_observations m) t H → length H ≡ t
  length_is zero [] p = refl
  length_is zero (o ∷ H) p = absurd p
  length_is (suc t) [] p = absurd p
  length_is (suc t) (o ∷ H) p = ap suc (length_is t H p.1)

  action_along : (F : Front) (t : ℕ) (H : List ℕ) → IsJointHistory (joint_observations m) t H
      → joint_number m.actions (fixed_actions F.agents t (own_histories m.observations H)) ≡ fixed_joint_action m F H
  unfolding fixed_joint_action
  action_along F t H p =
      ap (λ (z : ℕ). joint_number m.actions (fixed_actions F.agents z (own_histories m.observations H)))
      (sym (length_is t H p))

  pub pairs_next : (F : Front) (time : ℕ) (own before pairs items : List ℕ) (action seen : ℕ) → (time ≡ 0 → ⊥)
      → before ≡ without_last m.observations own
      → action ≡ joint_number m.actions (fixed_actions F.agents (time - 1) before)
      → seen ≡ joint_number m.observations (last_seen m.observations own)
      → ((H : List ℕ) → IsJointHistory (joint_observations m) (time - 1) H
      → own_histories m.observations H ≡ before → pairs ≡ pairs_along (fixed_joint_action m F) H)
      → items ≡ (pairs ++ action ∷ []) ++ seen ∷ []
      → (H : List ℕ) → IsJointHistory (joint_observations m) time H → own_histories m.observations H ≡ own
      → items ≡ pairs_along (fixed_joint_action m F) H
  pairs_next F zero own before pairs items action seen some eb ea es rest made H p is = absurd (some refl)
  pairs_next F (suc t) own before pairs items action seen some eb ea es rest made [] p is = absurd p
  pairs_next F (suc t) own before pairs items action seen some eb ea es rest made (o ∷ H) p is =
      let time : suc t - 1 ≡ t = omega arith in
      let here : own_histories m.observations H ≡ before =
      sym (before_is t o H p) ∙ ap (without_last m.observations) is ∙ sym eb in
      let earlier = rest H (subst (λ (z : ℕ). IsJointHistory (joint_observations m) z H) (sym time) p.1) here in
      let done : action ≡ fixed_joint_action m F H =
      ea ∙ (λ j. joint_number m.actions (fixed_actions F.agents (time j) (sym here j))) ∙ action_along F t H p.1 in
      let saw : seen ≡ o = es ∙ ap (λ l. joint_number m.observations (last_seen m.observations l)) (sym is)
      ∙ seen_is t o H p in
      made ∙ append_assoc pairs (action ∷ []) (seen ∷ []) ∙ (λ j. earlier j ++ done j ∷ saw j ∷ [])

-- ---- from parts to the front

module _ (m : Model) (k : KeptFront) (is : IsFrontOf m k) (i : ℕ) (inside : i < length k.front.agents) (p : OwnPart)
    (front : (d : AgentFront) → get_or k.front.agents i d ≡ p.front)
    (seen : get_or k.observations i 0 ≡ p.observations) where
  at_stage : length p.front.fixed ≡ k.front.stage
  at_stage = (read_front m k is i inside p front seen).of_stage

  own_seen : get_or m.observations i 0 ≡ p.observations
  own_seen = read_seen m k is i inside p front seen

  pub numbers_at : get_or k.past i [] ≡ p.past → HasOwnNumbers p → HasNumbersAt m k i
  numbers_at past own = record {
    now = λ x lt.
        ap (λ (d : AgentFront). get_or d.class_of x 0) (front root_agent)
        ∙ own.now x (subst (λ (n : ℕ). x < n ^ length p.front.fixed) own_seen
        (subst (λ (t : ℕ). x < get_or m.observations i 0 ^ t) (sym at_stage) lt));
    before = λ t x lt below.
        ap (λ (l : List PastClasses). get_or (get_or l t no_classes).class_of x 0) past
        ∙ own.before t x (omega (arith, at_stage)) (subst (λ (n : ℕ). x < n ^ t) own_seen below);
  }

  -- an own history of an earlier stage leads to the class of its number
  pub own_class : get_or k.past i [] ≡ p.past → HasNumbersAt m k i → (t x : ℕ) → t < k.front.stage
      → x < get_or m.observations i 0 ^ t
      → (x < p.observations ^ t) × (get_or (get_or p.past t no_classes).class_of x 0 ≡ x)
  own_class past own t x lt below = (
    subst (λ (n : ℕ). x < n ^ t) own_seen below,
    ap (λ (l : List PastClasses). get_or (get_or l t no_classes).class_of x 0) (sym past) ∙ own.before t x lt below,
  )

  apart_at : (f : ℕ) (ns : List ℕ) (ds : List AgentFront) (i : ℕ) → i < length ns → i < length ds → AreApart f ns ds
      → (x y : ℕ) → x < get_or ns i 0 ^ f → y < get_or ns i 0 ^ f
      → get_or (get_or ds i root_agent).class_of x 0 ≡ get_or (get_or ds i root_agent).class_of y 0 → x ≡ y
  apart_at f [] ds i lt lt' apart = absurd (omega arith)
  apart_at f (n ∷ ns) [] i lt lt' apart = absurd (omega arith)
  apart_at f (n ∷ ns) (d ∷ ds) zero lt lt' apart = apart.0
  apart_at f (n ∷ ns) (d ∷ ds) (suc i) lt lt' apart = apart_at f ns ds i (omega arith) (omega arith) apart.1

  pub shared_not_apart : HasSharedClass p → ¬ KeepsHistoriesApart m k.front
  shared_not_apart two = λ apart.
      let long = seen_of is.front.agents in
      let bound : (z : ℕ) → z < p.observations ^ length p.front.fixed
      → z < get_or m.observations i 0 ^ k.front.stage =
      λ z lt. subst (λ (n : ℕ). z < n ^ k.front.stage) (sym own_seen)
      (subst (λ (t : ℕ). z < p.observations ^ t) at_stage lt) in
      let x_below : two.0 < p.observations ^ length p.front.fixed =
      let lt = two.2 in let le = two.3 in omega arith in
      let same = apart_at k.front.stage m.observations k.front.agents i (omega arith) inside apart two.0 two.1
      (bound two.0 x_below) (bound two.1 two.3)
      (ap (λ (d : AgentFront). get_or d.class_of two.0 0) (front root_agent) ∙ two.4
      ∙ ap (λ (d : AgentFront). get_or d.class_of two.1 0) (sym (front root_agent))) in
      let lt = two.2 in absurd (omega arith)

-- ---- the front

numbers_apart : (f : ℕ) (ns : List ℕ) (ds : List AgentFront)
    → ((i x : ℕ) → i < length ns → i < length ds → x < get_or ns i 0 ^ f
    → get_or (get_or ds i root_agent).class_of x 0 ≡ x)
    → AreApart f ns ds
numbers_apart f [] ds own = tt
numbers_apart f (n ∷ ns) [] own = tt
numbers_apart f (n ∷ ns) (d ∷ ds) own = (
  λ x y p q e. sym (own 0 x (omega arith) (omega arith) p) ∙ e ∙ own 0 y (omega arith) (omega arith) q,
  numbers_apart f ns ds (λ i x lt lt' below. own (suc i) x (omega arith) (omega arith) below),
)

classes_are_histories : (f : ℕ) (ns : List ℕ) (ds : List AgentFront) (xs : List ℕ) → length ds ≡ length ns
    → ((i x : ℕ) → i < length ns → i < length ds → x < get_or ns i 0 ^ f
    → get_or (get_or ds i root_agent).class_of x 0 ≡ x)
    → Within ns f xs → own_classes ds xs ≡ xs
classes_are_histories f [] [] [] e own w = refl
classes_are_histories f [] (d ∷ ds) xs e own w = absurd (omega arith)
classes_are_histories f [] ds (x ∷ xs) e own w = absurd w
classes_are_histories f (n ∷ ns) [] xs e own w = absurd (omega arith)
classes_are_histories f (n ∷ ns) (d ∷ ds) [] e own w = absurd w
classes_are_histories f (n ∷ ns) (d ∷ ds) (x ∷ xs) e own w =
    let first = own 0 x (omega arith) (omega arith) w.0 in
    let rest = classes_are_histories f ns ds xs (omega arith)
    (λ i x lt lt' below. own (suc i) x (omega arith) (omega arith) below) w.1 in
    λ j. first j ∷ rest j

module _ (m : Model) (k : KeptFront) (is : IsFrontOf m k) (own : HasNumbersOf m k) where
  pub numbers_keep_apart : KeepsHistoriesApart m k.front
  numbers_keep_apart = numbers_apart k.front.stage m.observations k.front.agents
      (λ i x lt lt' below. (own i lt').now x below)

  module _ (classes : List ℕ) (below : AreBelow (class_counts k.front.agents) classes) where
    -- the joint history of the joint class has its classes for own histories
    pub class_history : (H : List ℕ) × IsJointHistory (joint_observations m) k.front.stage H
        × (own_histories m.observations H ≡ classes)
        × (joint_class m k.front H ≡ joint_number (class_counts k.front.agents) classes)
    unfolding joint_class
    class_history =
        let counts = class_counts k.front.agents in
        let some = some_member m k.horizon k.front is.front (joint_number counts classes)
        (joint_number_below counts classes below) in
        let within = own_within m k.front.stage some.0 some.1 in
        let same : own_classes k.front.agents (own_histories m.observations some.0) ≡ classes =
        sym (parts_of-joint_number counts _ (classes_below is.front.agents _ within))
        ∙ ap (parts_of counts) some.2 ∙ parts_of-joint_number counts classes below in (
          some.0,
          some.1,
          sym (classes_are_histories k.front.stage m.observations k.front.agents _ (seen_of is.front.agents)
              (λ i x lt lt' below. (own i lt').now x below) within) ∙ same,
          some.2,
        )

    pub key_is : (pairs : List ℕ)
        → ((H : List ℕ) → IsJointHistory (joint_observations m) k.front.stage H
        → own_histories m.observations H ≡ classes → pairs ≡ pairs_along (fixed_joint_action m k.front) H)
        → IsKeyOf m k.front (joint_number (class_counts k.front.agents) classes) pairs
    key_is pairs along =
        let H = class_history.0 in (
          H,
          record {
            history = class_history.1;
            of_class = class_history.3;
            alone = λ K p e. alone m k.horizon k.front is.front numbers_keep_apart K H p class_history.1
                (e ∙ sym class_history.3);
          },
          along H class_history.1 class_history.2,
        )
