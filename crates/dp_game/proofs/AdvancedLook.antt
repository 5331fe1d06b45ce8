-- In exact mode the bound of a front one step on is that of the complete front before it with a look of one more.
use Rattle.std.proofs.Common.{◌≡◌, ℕ, zero, suc, ◌+◌, ◌-◌, ◌<◌, true, ℤ, ◌+ℤ◌, ◌≤ℤ◌, List, [], ◌∷◌, length}
use Rattle.std.proofs.Common.{get_or, Option, Some, None, refl, sym, ap, ◌∙◌, arith}
use Rattle.std.specs.Prelude.{unwrap_or}
use Rattle.std.specs.Cmp.Derive.{both_true}
use Rattle.std.proofs.lemmas.Bool.{and_parts, eqb-true}
use Rattle.std.proofs.lemmas.Int.{ints}
use Rattle.dp_base.specs.Sums.{greatest, int_sum, numbers_below}
use Rattle.dp_base.proofs.GreatestValues.{greatest_at_most, greatest_ext, le_greatest}
use Rattle.dp_base.proofs.Members.{IsIn, below-IsIn, filter-IsIn, filter_all, some_in}
use Rattle.dp_base.proofs.Ring.{zle_of}
use Rattle.dp_base.proofs.Sums.{int_sum_add, int_sum_ext}
use Rattle.dp_spec.specs.Arithmetic.{Arithmetic, arithmetic, exact}
use Rattle.dp_spec.specs.Bound.{agreeing_actions, agrees, all_agree, bound_of}
use Rattle.dp_spec.specs.ClassSteps.{actions_for, chosen_joint_action}
use Rattle.dp_spec.specs.Enclosure.{equality}
use Rattle.dp_spec.specs.Fitting.{front_bound}
use Rattle.dp_spec.specs.Front.{AgentFront, Front, class_counts, class_weight, fixed_joint_action}
use Rattle.dp_spec.specs.JointHistory.{earned_reward}
use Rattle.dp_spec.specs.JointNumbers.{joint_number, product}
use Rattle.dp_spec.specs.LookAhead.{action_look_ahead, look_ahead, weighted_reward, weights_after}
use Rattle.dp_spec.specs.Mode.{is_exact_mode}
use Rattle.dp_spec.specs.Model.{IsModel, Model, joint_actions, joint_observations}
use Rattle.dp_spec.specs.Quantities.{bound_in, class_weight_in, weighted_reward_in}
use Rattle.dp_spec.specs.Steps.{IsUnassigned, advanced_front, advanced_if, chosen_front, front_after_choice}
use Rattle.dp_spec.specs.Steps.{is_complete, with_choice}
use Rattle.dp_spec.specs.WellFormed.{AreAgentFronts, IsFront, NoneChosen}
use Rattle.dp_spec.specs.WellFormed.AreAgentFronts.{and_agent, no_agents}
use Rattle.dp_spec.proofs.JointNumberLaws.{AreBelow, joint_number-parts_of, length-parts_of, parts_below}
use Rattle.dp_laws.proofs.AdvancedBound.{action_look_ahead_is}
use Rattle.dp_laws.proofs.AdvancedFronts.{as_many_agents, counts_are_pairs, pair_weight}
use Rattle.dp_laws.proofs.AdvancedSpans.{advanced_earned_in}
use Rattle.dp_laws.proofs.AgreeingActions.{chosen_action_agrees}
use Rattle.dp_laws.proofs.ClassSteps.{mode_steps}
use Rattle.dp_laws.proofs.CompleteFronts.{some_at}
use Rattle.dp_laws.proofs.EnclosedQuantities.{earns_sum}
use Rattle.dp_laws.proofs.ExactArithmetic.{exact_sound}
use Rattle.dp_laws.proofs.JointPairs.{int_sum_pairs}
use Rattle.dp_laws.proofs.QuantityLaws.{exact_quantities}
use Rattle.dp_laws.proofs.WellFormedSteps.{advanced_is_front, chosen_is_front}

-- ---- the greatest over the joint actions that agree

both_le : (a b : ℤ) → a ≤ℤ b → b ≤ℤ a → a ≡ b
both_le a b le ge = omega (arith, ints)

-- over a list that holds one number alone
pub greatest_of_one : (f : ℕ → ℤ) (c : ℕ) (xs : List ℕ) → IsIn c xs → ((x : ℕ) → IsIn x xs → x ≡ c)
    → greatest f xs ≡ f c
greatest_of_one f c xs here only =
    both_le _ _ (greatest_at_most f xs (f c) (some_in c xs here) (λ x i. zle_of _ _ (ap f (only x i))))
    (le_greatest f c xs here)

own_action : (o : Option ℕ) (x : ℕ) → (a : ℕ) × (o ≡ Some a) → agrees o x ≡ true → x ≡ unwrap_or o 0
own_action None x some e = let is = some.1 in cc
own_action (Some b) x some e = sym (eqb-true _ _ e)

-- where every class has an action, the actions that agree are those chosen
only_chosen : {f : ℕ} {bs ns : List ℕ} {ds : List AgentFront} → AreAgentFronts f bs ns ds → is_complete ds ≡ true
    → (cs xs : List ℕ) → AreBelow (class_counts ds) cs → AreBelow bs xs → all_agree ds cs xs ≡ true
    → xs ≡ actions_for ds cs
only_chosen no_agents all cs [] hc hx e = refl
only_chosen no_agents all cs (x ∷ xs) hc hx e = absurd hx
only_chosen (and_agent k ks) all [] xs hc hx e = absurd hc
only_chosen (and_agent k ks) all (c ∷ cs) [] hc hx e = absurd hx
only_chosen (and_agent {d = d} k ks) all (c ∷ cs) (x ∷ xs) hc hx e =
    let chosen = and_parts _ _ all in
    let agree = and_parts _ _ e in
    let here = own_action (get_or d.chosen c None) x (some_at d.chosen c chosen.0 hc.0) agree.0 in
    let rest = only_chosen ks chosen.1 cs xs hc.1 hx.1 agree.1 in
    λ j. here j ∷ rest j

only_agreeing : (m : Model) (h : ℕ) (F : Front) → IsFront m h F → is_complete F.agents ≡ true → (C x : ℕ)
    → C < product (class_counts F.agents) → IsIn x (agreeing_actions m F C) → x ≡ chosen_joint_action m F C
unfolding agreeing_actions joint_actions chosen_joint_action
only_agreeing m h F front all C x p i =
    let agree = filter-IsIn _ x (numbers_below (joint_actions m)) i in
    let x_in = below-IsIn (joint_actions m) x agree.0 in
    sym (joint_number-parts_of m.actions x x_in)
    ∙ ap (joint_number m.actions) (only_chosen front.agents all _ _ (parts_below (class_counts F.agents) C p)
    (parts_below m.actions x x_in) agree.1)

-- where no class has an action, all agree
free_agree : (ds : List AgentFront) (cs xs : List ℕ) → NoneChosen ds → length cs ≡ length (class_counts ds)
    → length xs ≡ length (class_counts ds) → all_agree ds cs xs ≡ true
free_agree [] cs xs none hc hx = refl
free_agree (d ∷ ds) [] xs none hc hx = absurd (omega arith)
free_agree (d ∷ ds) (c ∷ cs) [] none hc hx = absurd (omega arith)
free_agree (d ∷ ds) (c ∷ cs) (x ∷ xs) none hc hx = both_true (ap (λ (o : Option ℕ). agrees o x) (none.0 c))
    (free_agree ds cs xs none.1 (omega arith) (omega arith))

all_agreeing : (m : Model) → IsModel m → (h : ℕ) (F : Front) → IsFront m h F → NoneChosen F.agents → (C : ℕ)
    → agreeing_actions m F C ≡ numbers_below (joint_actions m)
unfolding agreeing_actions
all_agreeing m ok h F front none C =
    filter_all _ (numbers_below (joint_actions m)) (λ x. free_agree F.agents _ _ none
    (length-parts_of (class_counts F.agents) C)
    (length-parts_of m.actions x ∙ sym ok.sizes.alike ∙ as_many_agents front.agents))

-- ---- one step on, in plain numbers

-- the greatest over all joint actions is the look-ahead
greatest_action : (m : Model) (r k : ℕ) (w : ℕ → ℕ)
    → greatest (λ a. action_look_ahead m r w a (suc k)) (numbers_below (joint_actions m))
    ≡ look_ahead m (suc r) w (suc k)
greatest_action m r k w = greatest_ext _ _ (numbers_below (joint_actions m)) (λ a i. action_look_ahead_is m r w a k)

-- the front one step on has no choice
nothing_chosen : (m : Model) (h : ℕ) (F : Front) → IsFront m h F → is_complete F.agents ≡ true
    → NoneChosen (advanced_front m F).agents
nothing_chosen m h F front all =
    let last : IsFront m (suc F.stage) F = record {
      stage_limit = omega arith;
      agents = front.agents;
      none_at_end = λ e. absurd (omega arith);
    } in
    (advanced_is_front m (suc F.stage) F last (omega arith) all).none_at_end refl

-- what is earned by the next stage: what was earned before, and the rewards of the joint classes
earned_next : (m : Model) → IsModel m → (h : ℕ) (F : Front) → IsFront m h F → (r : ℕ) →
    earned_reward m (fixed_joint_action m (advanced_front m F)) (F.stage + suc r) (suc F.stage)
    ≡ earned_reward m (fixed_joint_action m F) (F.stage + suc r) F.stage
    +ℤ int_sum (product (class_counts F.agents))
    (λ C. weighted_reward m r (class_weight m F C) (chosen_joint_action m F C))
earned_next m ok h F front r =
    let A : Arithmetic = exact m.scales in
    let sound = exact_sound m.scales in
    let numbers = exact_quantities m ok in
    let n : ℕ = F.stage + suc r in
    let before = numbers.earned_rewards (fixed_joint_action m F) n F.stage (omega arith) in
    let after = numbers.earned_rewards (fixed_joint_action m (advanced_front m F)) n (suc F.stage) (omega arith) in
    let now = earns_sum m A equality sound 0 (product (class_counts F.agents))
    (λ C. weighted_reward m r (class_weight m F C) (chosen_joint_action m F C))
    (λ C. weighted_reward_in A m r (class_weight_in A m F C) (chosen_joint_action m F C))
    (λ C p. numbers.rewards 0 r (class_weight m F C) (class_weight_in A m F C) (chosen_joint_action m F C)
    (λ s q. numbers.class_weights F C s)) in
    let steps = mode_steps m ok h F front true (λ e. cc) in
    let together = sym after ∙ advanced_earned_in A m h F front steps n r refl
    ∙ sound.more_gain 0 _ _ _ _ before now in
    ap (λ x. x.high) together

-- what the joint classes are bounded by one step on
classes_next : (m : Model) → IsModel m → (h : ℕ) (F : Front) → IsFront m h F → F.stage < h
    → is_complete F.agents ≡ true → (r k : ℕ) →
    int_sum (product (class_counts (advanced_front m F).agents)) (λ D. greatest
    (λ a. action_look_ahead m r (class_weight m (advanced_front m F) D) a (suc k))
    (agreeing_actions m (advanced_front m F) D))
    ≡ int_sum (product (class_counts F.agents)) (λ C. int_sum (joint_observations m) (λ o.
    look_ahead m (suc r) (weights_after m (class_weight m F C) (chosen_joint_action m F C) o) (suc k)))
unfolding joint_observations
classes_next m ok h F front lt all r k =
    let G = advanced_front m F in
    let ahead : ℕ → ℤ = λ D. look_ahead m (suc r) (class_weight m G D) (suc k) in
    int_sum_ext (product (class_counts G.agents)) _ ahead (λ D p.
    ap (greatest (λ a. action_look_ahead m r (class_weight m G D) a (suc k)))
    (all_agreeing m ok h G (advanced_is_front m h F front lt all) (nothing_chosen m h F front all) D)
    ∙ greatest_action m r k (class_weight m G D))
    ∙ ap (λ z. int_sum (product z) ahead) (counts_are_pairs m h F front)
    ∙ int_sum_pairs (class_counts F.agents) m.observations (as_many_agents front.agents) ahead
    ∙ int_sum_ext (product (class_counts F.agents)) _ _ (λ C hC. int_sum_ext (joint_observations m) _ _ (λ o ho.
    ap (λ w. look_ahead m (suc r) w (suc k)) (λ j s. pair_weight m h F front C o s hC ho j)))

-- what the joint classes are bounded by where every class has an action
classes_now : (m : Model) → IsModel m → (h : ℕ) (F : Front) → IsFront m h F → is_complete F.agents ≡ true
    → (r k : ℕ) →
    int_sum (product (class_counts F.agents)) (λ C. greatest
    (λ a. action_look_ahead m r (class_weight m F C) a (suc k)) (agreeing_actions m F C))
    ≡ int_sum (product (class_counts F.agents))
    (λ C. weighted_reward m r (class_weight m F C) (chosen_joint_action m F C))
    +ℤ int_sum (product (class_counts F.agents)) (λ C. int_sum (joint_observations m) (λ o.
    look_ahead m r (weights_after m (class_weight m F C) (chosen_joint_action m F C) o) k))
classes_now m ok h F front all r k =
    let N : ℕ = product (class_counts F.agents) in
    let reward : ℕ → ℤ = λ C. weighted_reward m r (class_weight m F C) (chosen_joint_action m F C) in
    let later : ℕ → ℤ = λ C. int_sum (joint_observations m) (λ o.
    look_ahead m r (weights_after m (class_weight m F C) (chosen_joint_action m F C) o) k) in
    int_sum_ext N _ (λ C. reward C +ℤ later C) (λ C p.
    greatest_of_one (λ a. action_look_ahead m r (class_weight m F C) a (suc k)) (chosen_joint_action m F C)
    (agreeing_actions m F C) (chosen_action_agrees m ok h F front C p)
    (λ x i. only_agreeing m h F front all C x p i)
    ∙ action_look_ahead_is m r (class_weight m F C) (chosen_joint_action m F C) k)
    ∙ int_sum_add N reward later

regroup : (e w o t : ℤ) → t ≡ w +ℤ o → ((e +ℤ w) +ℤ o) ≡ (e +ℤ t)
regroup e w o t same = omega (arith, ints)

-- The bound one step on, with a step of look at least, is the bound before it with one step of look more.
pub advanced_bound_is : (m : Model) → IsModel m → (h r k : ℕ) (F : Front) → IsFront m h F → F.stage < h
    → is_complete F.agents ≡ true →
    bound_of m (suc r) (advanced_front m F) (suc k) ≡ bound_of m (suc (suc r)) F (suc (suc k))
advanced_bound_is m ok h r k F front lt all =
    let G = advanced_front m F in
    let steps : suc F.stage + suc r ≡ F.stage + suc (suc r) = omega arith in
    let earned = ap (λ (n : ℕ). earned_reward m (fixed_joint_action m G) n (suc F.stage)) steps
    ∙ earned_next m ok h F front (suc r) in
    let rest = classes_next m ok h F front lt all r k in
    (λ j. earned j +ℤ rest j) ∙ regroup _ _ _ _ (classes_now m ok h F front all (suc r) (suc k))

-- ---- in the arithmetic of the mode

-- in exact mode the bound is that in plain numbers
exact_bound : (m : Model) → IsModel m → (h look : ℕ) (F : Front) → is_exact_mode m h ≡ true
    → front_bound (arithmetic (is_exact_mode m h) m.scales) m h look F ≡ bound_of m (h - F.stage) F look
unfolding front_bound
exact_bound m ok h look F mode =
    ap (λ e. bound_in (arithmetic e m.scales) m (h - F.stage) F look) mode
    ∙ (exact_quantities m ok).bounds (h - F.stage) F look

-- The bound of the front one step on is the bound of the complete front before it with one step of look more.
pub advanced_look : (m : Model) → IsModel m → (h look : ℕ) (F : Front) → IsFront m h F → is_exact_mode m h ≡ true
    → is_complete F.agents ≡ true → suc F.stage < h → 0 < look →
    front_bound (arithmetic (is_exact_mode m h) m.scales) m h look (advanced_front m F)
    ≡ front_bound (arithmetic (is_exact_mode m h) m.scales) m h (suc look) F
advanced_look m ok h zero F front mode all lt some = absurd (omega arith)
advanced_look m ok h (suc k) F front mode all lt some =
    let G = advanced_front m F in
    let r : ℕ = h - suc (suc F.stage) in
    let after : h - suc F.stage ≡ suc r = omega arith in
    let before : suc (suc r) ≡ h - F.stage = omega arith in
    exact_bound m ok h (suc k) G mode
    ∙ ap (λ (n : ℕ). bound_of m n G (suc k)) after
    ∙ advanced_bound_is m ok h r k F front (omega arith) all
    ∙ ap (λ (n : ℕ). bound_of m n F (suc (suc k))) before
    ∙ sym (exact_bound m ok h (suc (suc k)) F mode)

-- A choice after which every class has an action has one step of look more before the advance.
pub chosen_look : (m : Model) → IsModel m → (h look : ℕ) (F : Front) → IsFront m h F → is_exact_mode m h ≡ true
    → (i c a : ℕ) → IsUnassigned i c F.agents → a < get_or m.actions i 0
    → is_complete (with_choice i c a F.agents) ≡ true → suc F.stage < h → 0 < look →
    front_bound (arithmetic (is_exact_mode m h) m.scales) m h look (front_after_choice m F i c a)
    ≡ front_bound (arithmetic (is_exact_mode m h) m.scales) m h (suc look) (chosen_front F i c a)
unfolding front_after_choice
chosen_look m ok h look F front mode i c a free p all lt some =
    let A : Arithmetic = arithmetic (is_exact_mode m h) m.scales in
    let E = chosen_front F i c a in
    let chosen = chosen_is_front m h F i c a front (omega arith) free p in
    ap (λ b. front_bound A m h look (advanced_if m E b)) all
    ∙ advanced_look m ok h look E chosen mode all lt some
