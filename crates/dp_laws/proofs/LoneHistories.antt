-- Each joint class of a well-formed front holds a joint history; where no two own histories share a class it holds
-- one alone, and steps as that does.
use Rattle.std.proofs.Common.{◌≡◌, ℕ, zero, suc, ◌+◌, ◌*◌, ◌/◌, ◌%◌, ◌^◌, ◌<◌, cond, eqb, pos, List, [], ◌∷◌, map}
use Rattle.std.proofs.Common.{length, get_or, refl, sym, ap, ◌∙◌, arith}
use Rattle.std.proofs.Math.Nat.{pow-suc, pow-zero}
use Rattle.std.proofs.lemmas.Nat.{mod_below}
use Rattle.dp_spec.specs.declared.span.Span.{Span}
use Rattle.dp_spec.specs.Arithmetic.{Arithmetic, point}
use Rattle.dp_spec.specs.Front.{AgentFront, Front, class_counts, fixed_joint_action, joint_class, next_own_histories}
use Rattle.dp_spec.specs.Front.{own_classes, own_histories}
use Rattle.dp_spec.specs.JointHistory.{IsJointHistory}
use Rattle.dp_spec.specs.JointNumbers.{joint_number, parts_of, product}
use Rattle.dp_spec.specs.Model.{Model, joint_observations}
use Rattle.dp_spec.specs.Quantities.{class_weight_in, history_weight_in, span_history_sum, weighted_reward_in}
use Rattle.dp_spec.specs.Quantities.{weights_after_in}
use Rattle.dp_spec.specs.WellFormed.{AreAgentFronts, AreApart, IsFront, KeepsHistoriesApart}
use Rattle.dp_spec.specs.WellFormed.AreAgentFronts.{and_agent, no_agents}
use Rattle.dp_spec.proofs.JointNumberLaws.{AreBelow, joint_number-parts_of, joint_number_below, part_below}
use Rattle.dp_spec.proofs.JointNumberLaws.{parts_below, parts_of-joint_number, positive_right}
use Rattle.dp_laws.proofs.OwnHistories.{Within, own_histories_within}
use Rattle.dp_laws.proofs.AdvancedFronts.{classes_below}
use Rattle.dp_spec.specs.ClassSteps.{StepsByClass}
use Rattle.dp_laws.proofs.JointPairs.{next_injective}
use Rattle.dp_laws.proofs.SpanSums.{span_history_sum_only, where_other, where_same}

-- ---- own histories as those of a joint history

-- one step shorter, and the last observations
abbrev shorter : List ℕ → List ℕ → List ℕ
shorter [] xs = []
shorter (n ∷ ns) [] = []
shorter (n ∷ ns) (x ∷ xs) = x / n ∷ shorter ns xs

abbrev last_seen : List ℕ → List ℕ → List ℕ
last_seen [] xs = []
last_seen (n ∷ ns) [] = []
last_seen (n ∷ ns) (x ∷ xs) = x % n ∷ last_seen ns xs

into_power : (n t x : ℕ) → x < n ^ suc t → x < n ^ t * n
into_power n t x h = rw pow-suc at h

shorter_within : (ns : List ℕ) (t : ℕ) (xs : List ℕ) → Within ns (suc t) xs → Within ns t (shorter ns xs)
shorter_within [] t [] h = tt
shorter_within [] t (x ∷ xs) h = absurd h
shorter_within (n ∷ ns) t [] h = absurd h
shorter_within (n ∷ ns) t (x ∷ xs) h = (
  part_below (n ^ t) n x (into_power n t x h.0),
  shorter_within ns t xs h.1,
)

last_below : (ns : List ℕ) (t : ℕ) (xs : List ℕ) → Within ns (suc t) xs → AreBelow ns (last_seen ns xs)
last_below [] t [] h = tt
last_below [] t (x ∷ xs) h = absurd h
last_below (n ∷ ns) t [] h = absurd h
last_below (n ∷ ns) t (x ∷ xs) h = (
  mod_below x n (positive_right (n ^ t) n x (into_power n t x h.0)),
  last_below ns t xs h.1,
)

put_together : (n x : ℕ) → x / n * n + x % n ≡ x
put_together n x = omega arith

together : (ns : List ℕ) (t : ℕ) (xs : List ℕ) → Within ns t xs
    → next_own_histories ns (shorter ns xs) (last_seen ns xs) ≡ xs
together [] t [] h = refl
together [] t (x ∷ xs) h = absurd h
together (n ∷ ns) t [] h = absurd h
together (n ∷ ns) t (x ∷ xs) h = let here = put_together n x in let rest = together ns t xs h.1 in
    λ j. here j ∷ rest j

empty_histories : (ns xs : List ℕ) → Within ns zero xs → map (λ n. 0) ns ≡ xs
empty_histories [] [] h = refl
empty_histories [] (x ∷ xs) h = absurd h
empty_histories (n ∷ ns) [] h = absurd h
empty_histories (n ∷ ns) (x ∷ xs) h =
    let lt : x < 1 = rw pow-zero at h.0 in let here : 0 ≡ x = omega arith in
    let rest = empty_histories ns xs h.1 in λ j. here j ∷ rest j

-- own histories are those of a joint history
some_history : (ns : List ℕ) (t : ℕ) (xs : List ℕ) → Within ns t xs
    → (H : List ℕ) × (IsJointHistory (product ns) t H) × (own_histories ns H ≡ xs)
some_history ns zero xs h = ([], tt, empty_histories ns xs h)
some_history ns (suc t) xs h =
    let before = some_history ns t (shorter ns xs) (shorter_within ns t xs h) in
    let seen = last_below ns t xs h in
    let o = joint_number ns (last_seen ns xs) in (
      o ∷ before.0,
      (joint_number_below ns (last_seen ns xs) seen, before.1),
      (λ j. next_own_histories ns (before.2 j) (parts_of-joint_number ns (last_seen ns xs) seen j))
          ∙ together ns (suc t) xs h,
    )

-- each class of each agent holds an own history
members : {f : ℕ} {bs ns : List ℕ} {ds : List AgentFront} → AreAgentFronts f bs ns ds → (cs : List ℕ)
    → AreBelow (class_counts ds) cs → (xs : List ℕ) × (Within ns f xs) × (own_classes ds xs ≡ cs)
members no_agents [] h = ([], tt, refl)
members no_agents (c ∷ cs) h = absurd h
members (and_agent k ks) [] h = absurd h
members (and_agent k ks) (c ∷ cs) h =
    let here = k.member c h.0 in
    let rest = members ks cs h.1 in (here.0 ∷ rest.0, (here.1, rest.1), λ j. here.2 j ∷ rest.2 j)

-- ---- histories apart

-- own histories of different classes alone
same_histories : {f : ℕ} {bs ns : List ℕ} {ds : List AgentFront} → AreAgentFronts f bs ns ds → AreApart f ns ds
    → (xs ys : List ℕ) → Within ns f xs → Within ns f ys → own_classes ds xs ≡ own_classes ds ys → xs ≡ ys
same_histories no_agents apart [] [] p q e = refl
same_histories no_agents apart [] (y ∷ ys) p q e = absurd q
same_histories no_agents apart (x ∷ xs) ys p q e = absurd p
same_histories (and_agent k ks) apart [] ys p q e = absurd p
same_histories (and_agent k ks) apart (x ∷ xs) [] p q e = absurd q
same_histories (and_agent {d = d} {ds = ds} k ks) apart (x ∷ xs) (y ∷ ys) p q e =
    let first : get_or d.class_of x 0 ≡ get_or d.class_of y 0 = cc in
    let others : own_classes ds xs ≡ own_classes ds ys = cc in
    let here = apart.0 x y p.0 q.0 first in
    let rest = same_histories ks apart.1 xs ys p.1 q.1 others in λ j. here j ∷ rest j

-- as many own histories as of each agent
history_counts : ℕ → List ℕ → List ℕ
history_counts t ns = map (λ n. n ^ t) ns

as_many_counts : (t : ℕ) (ns : List ℕ) → length ns ≡ length (history_counts t ns)
unfolding history_counts
as_many_counts t [] = refl
as_many_counts t (n ∷ ns) = ap suc (as_many_counts t ns)

below_counts : (ns : List ℕ) (t : ℕ) (xs : List ℕ) → Within ns t xs → AreBelow (history_counts t ns) xs
unfolding history_counts
below_counts [] t [] h = tt
below_counts [] t (x ∷ xs) h = absurd h
below_counts (n ∷ ns) t [] h = absurd h
below_counts (n ∷ ns) t (x ∷ xs) h = (h.0, below_counts ns t xs h.1)

-- different joint histories have different own histories
own_histories_apart : (ns : List ℕ) (t : ℕ) (H K : List ℕ) → IsJointHistory (product ns) t H
    → IsJointHistory (product ns) t K → own_histories ns H ≡ own_histories ns K → H ≡ K
own_histories_apart ns zero [] [] p q e = refl
own_histories_apart ns zero [] (u ∷ K) p q e = absurd q
own_histories_apart ns zero (o ∷ H) K p q e = absurd p
own_histories_apart ns (suc t) [] K p q e = absurd p
own_histories_apart ns (suc t) (o ∷ H) [] p q e = absurd q
own_histories_apart ns (suc t) (o ∷ H) (u ∷ K) p q e =
    let before = below_counts ns t _ (own_histories_within ns t H p.1) in
    let before' = below_counts ns t _ (own_histories_within ns t K q.1) in
    let both = next_injective (history_counts t ns) ns _ _ _ _ (as_many_counts t ns) before
    (parts_below ns o p.0)
    before' (parts_below ns u q.0) e in
    let seen : o ≡ u = sym (joint_number-parts_of ns o p.0) ∙ ap (joint_number ns) both.1
    ∙ joint_number-parts_of ns u q.0 in
    let rest = own_histories_apart ns t H K p.1 q.1 both.0 in λ j. seen j ∷ rest j

module _ (m : Model) (h : ℕ) (F : Front) (front : IsFront m h F) where
  -- each joint class holds a joint history
  pub some_member : (C : ℕ) → C < product (class_counts F.agents)
      → (H : List ℕ) × (IsJointHistory (joint_observations m) F.stage H) × (joint_class m F H ≡ C)
  unfolding joint_class joint_observations
  some_member C p =
      let own = members front.agents (parts_of (class_counts F.agents) C)
      (parts_below (class_counts F.agents) C p) in
      let joint = some_history m.observations F.stage own.0 own.1 in (
        joint.0,
        joint.1,
        ap (λ xs. joint_number (class_counts F.agents) (own_classes F.agents xs)) joint.2
            ∙ ap (joint_number (class_counts F.agents)) own.2
            ∙ joint_number-parts_of (class_counts F.agents) C p,
      )

  -- where no two own histories share a class no two joint histories do
  pub alone : KeepsHistoriesApart m F → (H K : List ℕ) → IsJointHistory (joint_observations m) F.stage H
      → IsJointHistory (joint_observations m) F.stage K → joint_class m F H ≡ joint_class m F K → H ≡ K
  unfolding joint_class joint_observations
  alone apart H K p q e =
      let own = own_histories_within m.observations F.stage H p in
      let own' = own_histories_within m.observations F.stage K q in
      let classes = sym (parts_of-joint_number _ _ (classes_below front.agents _ own))
      ∙ ap (parts_of (class_counts F.agents)) e ∙ parts_of-joint_number _ _
      (classes_below front.agents _ own') in
      own_histories_apart m.observations F.stage H K p q (same_histories front.agents apart _ _ own own'
      classes)

  -- a sum over the joint histories of a class that holds one alone
  lone_sum : KeepsHistoriesApart m F → (C : ℕ) (K : List ℕ) (v : List ℕ → Span)
      → IsJointHistory (joint_observations m) F.stage K → joint_class m F K ≡ C
      → span_history_sum (joint_observations m) F.stage (λ H. cond (eqb (joint_class m F H) C) (v H)
      (point (pos 0))) ≡ v K
  lone_sum lone C K v k e =
      span_history_sum_only (joint_observations m) F.stage (λ H. cond (eqb (joint_class m F H) C) (v H)
      (point (pos 0))) K k
      (λ H p ne. where_other (joint_class m F H) C (v H) _ (λ is. ne (alone lone H K p k (is ∙ sym e))))
      ∙ (λ j. cond (eqb (e j) C) (v K) (point (pos 0))) ∙ where_same C (v K) _

  lone_weights : (A : Arithmetic) → KeepsHistoriesApart m F → (C : ℕ) (K : List ℕ)
      → IsJointHistory (joint_observations m) F.stage K → joint_class m F K ≡ C
      → class_weight_in A m F C ≡ history_weight_in A m (fixed_joint_action m F) K
  unfolding class_weight_in
  lone_weights A lone C K k e = λ j s. lone_sum lone C K (λ H. history_weight_in A m (fixed_joint_action m F)
      H s)
      k e j

  -- in any arithmetic a class steps as its one joint history does
  pub lone_steps : (A : Arithmetic) → KeepsHistoriesApart m F → StepsByClass A m F
  lone_steps A lone = record {
    weights = λ C a o t p.
        let K = some_member C p in
        ap (λ (w : ℕ → Span). weights_after_in A m w a o t) (lone_weights A lone C K.0 K.1 K.2)
        ∙ sym (lone_sum lone C K.0 (λ H. weights_after_in A m (history_weight_in A m (fixed_joint_action m F) H)
        a o t) K.1 K.2);
    rewards = λ C a r p.
        let K = some_member C p in
        ap (λ (w : ℕ → Span). weighted_reward_in A m r w a) (lone_weights A lone C K.0 K.1 K.2)
        ∙ sym (lone_sum lone C K.0 (λ H. weighted_reward_in A m r
        (history_weight_in A m (fixed_joint_action m F) H) a) K.1 K.2);
  }
