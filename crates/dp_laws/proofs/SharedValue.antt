-- The worth of a shared policy encloses the value of the joint policy that its rows mean.
use Rattle.std.proofs.Common.{◌≡◌, inl, inr, ℕ, zero, suc, ◌+◌, ◌-◌, ◌*◌, ◌^◌, ◌<◌, ◌≤◌, Bool, true, false, cond, eqb}
use Rattle.std.proofs.Common.{ℤ, pos, ◌+ℤ◌, ◌*ℤ◌, List, refl, sym, ap, ◌∙◌, subst, arith}
use Rattle.std.proofs.Math.IntN.{+ℤ_assoc, +ℤ_idl}
use Rattle.std.proofs.lemmas.Bool.{cases_eq}
use Rattle.std.proofs.lemmas.Int.{ints}
use Rattle.dp_laws.proofs.EnclosedQuantities.{earns_same, earns_sum, weighs_same, weighs_sum, weighs_where}
use Rattle.dp_laws.proofs.EnclosedQuantities.{weights_after_enclosed, weighted_reward_enclosed}
use Rattle.dp_laws.proofs.OneStep.{one_step, weighted_zeros}
use Rattle.dp_spec.proofs.QuantityScales.{scale_at_stage, scale_of_first, scale_of_next}
use Rattle.dp_laws.proofs.SharedTrees.{one_joint_row, row_trees, row_trees-start, row_trees_act, row_trees_go_on}
use Rattle.dp_laws.proofs.SharedTrees.{rows_after_below}
use Rattle.dp_base.proofs.Sums.{ext_two, int_sum_add, int_sum_ext, int_sum_one, int_sum_swap, int_sum_weigh}
use Rattle.dp_base.proofs.Sums.{int_sum_zero, ite_other, rotate}
use Rattle.dp_spec.specs.Arithmetic.{Arithmetic}
use Rattle.dp_spec.specs.Enclosure.{Enclosure, IsSound}
use Rattle.dp_spec.specs.JointNumbers.{parts_of}
use Rattle.dp_spec.specs.LookAhead.{weighted_reward, weights_after}
use Rattle.dp_spec.specs.Model.{Model, joint_observations, start_at, step_scale, value_scale}
use Rattle.dp_spec.specs.PolicyTree.{PolicyTree}
use Rattle.dp_spec.specs.SharedPolicy.{AreRowsOfAgents, IsSharedOf, SharedPolicy, row_counts, unfolded}
use Rattle.dp_spec.specs.SharedWorth.{joint_row_action, joint_row_count, next_joint_row, row_weight_in, rows_earn_in}
use Rattle.dp_spec.specs.SharedWorth.{shared_worth_in}
use Rattle.dp_base.specs.Sums.{int_sum, nat_sum}
use Rattle.dp_spec.specs.Value.{backward_value, joint_root_action, policy_value, trees_after}
use Rattle.dp_spec.proofs.JointNumberLaws.{joint_number_below, parts_below, parts_of-joint_number}

-- ---- true numbers

-- the weight of a joint row of stage t and a state
abbrev pub row_weight : Model → SharedPolicy → ℕ → ℕ → ℕ → ℕ
row_weight m p zero j s = start_at m s
row_weight m p (suc t) j s =
    nat_sum (joint_row_count p t) (λ i. nat_sum (joint_observations m) (λ o.
    cond (eqb (next_joint_row m p t i o) j) (weights_after m (row_weight m p t i) (joint_row_action m p t i)
    o s) 0))

-- what the joint rows of the stages before f earn
abbrev pub rows_earn : Model → SharedPolicy → ℕ → ℕ → ℤ
rows_earn m p h zero = pos 0
rows_earn m p h (suc f) =
    rows_earn m p h f +ℤ int_sum (joint_row_count p f) (λ j. weighted_reward m (h - suc f) (row_weight m p f j)
    (joint_row_action m p f j))

-- ---- what an arithmetic computes encloses them

-- the weights of joint rows
row_weight_enclosed : (m : Model) (A : Arithmetic) (R : Enclosure) → IsSound m.scales A R
    → (p : SharedPolicy) (t j s : ℕ)
    → R.Weighs (m.scales.start * step_scale m ^ t) (row_weight m p t j s) (row_weight_in A m p t j s)
row_weight_enclosed m A R ok p zero j s = weighs_same m A R ok _ _ _ _ _ (scale_of_first m) refl
    (ok.start (start_at m s))
row_weight_enclosed m A R ok p (suc t) j s =
    weighs_sum m A R ok _ (joint_row_count p t) _ _ (λ i hi. weighs_sum m A R ok _ (joint_observations m) _ _
    (λ o ho.
    weighs_where m A R ok _ _ _ (eqb (next_joint_row m p t i o) j)
    (weighs_same m A R ok _ _ _ _ _ (scale_of_next m t) refl
    (weights_after_enclosed m A R ok _ _ _ (joint_row_action m p t i) o s
    (λ u hu. row_weight_enclosed m A R ok p t i u)))))

-- what they earn
rows_earn_enclosed : (m : Model) (A : Arithmetic) (R : Enclosure) → IsSound m.scales A R
    → (p : SharedPolicy) (h f : ℕ) → f ≤ h
    → R.Earns (value_scale m h) (rows_earn m p h f) (rows_earn_in A m p h f)
rows_earn_enclosed m A R ok p h zero le = ok.no_gain _
rows_earn_enclosed m A R ok p h (suc f) le =
    ok.more_gain _ _ _ _ _ (rows_earn_enclosed m A R ok p h f (omega arith))
    (earns_sum m A R ok _ (joint_row_count p f) _ _ (λ j hj.
    earns_same m A R ok _ _ _ _ (scale_at_stage m f (suc (h - suc f))
    ∙ ap (λ (n : ℕ). value_scale m n) (omega arith))
    (weighted_reward_enclosed m A R ok _ (h - suc f) _ _ (joint_row_action m p f j)
    (λ s hs. row_weight_enclosed m A R ok p f j s))))

-- ---- sums by what a pair leads to

-- a weight where a test holds against a number
cond_times : (t : Bool) (w : ℕ) (x : ℤ) → pos (cond t w 0) *ℤ x ≡ cond t (pos w *ℤ x) (pos 0)
cond_times true w x = refl
cond_times false w x = omega (arith, ints)

-- where a test holds the place is the one that is asked for
at_place : (k i : ℕ) (f : ℕ → ℤ) → cond (eqb k i) (f i) (pos 0) ≡ cond (eqb k i) (f k) (pos 0)
at_place k i f =
    elim (cases_eq k i) [
      | inl e ↦ rw e
      | inr ne ↦ rw (ite_other k i (f i) (pos 0) ne, ite_other k i (f k) (pos 0) ne)
    ]

-- the weights of all pairs that lead to J, against a function of J, are the weights of all pairs against that
-- function of where they lead
sum_by_target : (K I O S : ℕ) (next : ℕ → ℕ → ℕ) (w : ℕ → ℕ → ℕ → ℕ) (B : ℕ → ℕ → ℤ)
    → ((i o : ℕ) → i < I → o < O → next i o < K) →
    int_sum K (λ J. int_sum S (λ s. pos (nat_sum I (λ i. nat_sum O (λ o. cond (eqb (next i o) J) (w i o s) 0)))
    *ℤ B J s))
    ≡ int_sum I (λ i. int_sum O (λ o. int_sum S (λ s. pos (w i o s) *ℤ B (next i o) s)))
sum_by_target K I O S next w B below =
    let X = λ (i : ℕ) (o : ℕ) (s : ℕ). pos (w i o s) *ℤ B (next i o) s in
    let Y = λ (i : ℕ) (o : ℕ) (s : ℕ) (J : ℕ). cond (eqb (next i o) J) (X i o s) (pos 0) in
    ext_two K S _ (λ J s. int_sum I (λ i. int_sum O (λ o. Y i o s J)))
    (λ J s hJ hs.
    sym (int_sum_weigh I (λ i. nat_sum O (λ o. cond (eqb (next i o) J) (w i o s) 0)) (B J s))
    ∙ int_sum_ext I _ _ (λ i hi. sym (int_sum_weigh O (λ o. cond (eqb (next i o) J) (w i o s) 0) (B J s))
    ∙ int_sum_ext O _ _ (λ o ho. cond_times (eqb (next i o) J) (w i o s) (B J s)
    ∙ at_place (next i o) J (λ k. pos (w i o s) *ℤ B k s))))
    ∙ int_sum_ext K _ _ (λ J hJ. int_sum_swap S I (λ s i. int_sum O (λ o. Y i o s J)))
    ∙ int_sum_swap K I (λ J i. int_sum S (λ s. int_sum O (λ o. Y i o s J)))
    ∙ int_sum_ext I _ _ (λ i hi.
    rotate K S O (λ J s o. Y i o s J)
    ∙ ext_two O S _ _ (λ o s ho hs. int_sum_one K (next i o) (X i o s) (below i o hi ho)))

-- ---- the value by joint rows

module _ (m : Model) (h : ℕ) (p : SharedPolicy) (are : AreRowsOfAgents h m.actions m.observations p) where
  -- the trees of a joint row of stage t
  abbrev pub trees_at_row : ℕ → ℕ → List PolicyTree
  trees_at_row t j = row_trees p t (parts_of (row_counts p t) j)

  -- their joint action is that of the joint row
  pub row_trees_do : (t j : ℕ) → joint_root_action m (trees_at_row t j) ≡ joint_row_action m p t j
  unfolding joint_root_action joint_row_action
  row_trees_do t j = rw (row_trees_act p t (parts_of (row_counts p t) j))

  -- the joint row after a joint row is one of the next stage
  pub next_below : (t j o : ℕ) → suc t < h → j < joint_row_count p t → o < joint_observations m
      → next_joint_row m p t j o < joint_row_count p (suc t)
  unfolding next_joint_row joint_observations
  next_below t j o step hj ho = joint_number_below _ _ (rows_after_below are t _ _ step (parts_below _ j hj)
      (parts_below _ o ho))

  -- what remains of the trees of a joint row are those of the joint row after it
  pub trees_after_row : (t j o : ℕ) → suc t < h → j < joint_row_count p t → o < joint_observations m
      → trees_after m (trees_at_row t j) o ≡ trees_at_row (suc t) (next_joint_row m p t j o)
  unfolding trees_after next_joint_row joint_observations
  trees_after_row t j o step hj ho =
      let rows = parts_below (row_counts p t) j hj in
      let seen = parts_below m.observations o ho in
      row_trees_go_on are t _ _ step rows seen
      ∙ ap (row_trees p (suc t)) (sym (parts_of-joint_number (row_counts p (suc t)) _
      (rows_after_below are t _ _ step rows seen)))

  -- the weights of joint rows of stage f against the values of their trees over r steps
  abbrev rows_left : ℕ → ℕ → ℤ
  rows_left f r = int_sum (joint_row_count p f) (λ j. int_sum m.states
      (λ s. pos (row_weight m p f j s) *ℤ backward_value m r s (trees_at_row f j)))

  -- the rewards of the joint rows of stage f
  abbrev rows_reward : ℕ → ℕ → ℤ
  rows_reward f r = int_sum (joint_row_count p f) (λ j. weighted_reward m r (row_weight m p f j)
      (joint_row_action m p f j))

  -- the weights one step on
  abbrev row_update : ℕ → ℕ → ℕ → ℕ → ℕ
  row_update f j o s = weights_after m (row_weight m p f j) (joint_row_action m p f j) o s

  -- one step from the joint rows of a stage
  rows_step : (f r : ℕ) → rows_left f (suc r)
      ≡ rows_reward f r +ℤ int_sum (joint_row_count p f) (λ j. int_sum (joint_observations m)
      (λ o. int_sum m.states (λ s. pos (row_update f j o s) *ℤ backward_value m r s
      (trees_after m (trees_at_row f j) o))))
  rows_step f r =
      int_sum_ext (joint_row_count p f) _ _ (λ j hj.
      one_step m r (row_weight m p f j) (trees_at_row f j)
      ∙ ap (λ (a : ℕ). weighted_reward m r (row_weight m p f j) a +ℤ int_sum (joint_observations m)
      (λ o. int_sum m.states (λ s. pos (weights_after m (row_weight m p f j) a o s) *ℤ backward_value m r s
      (trees_after m (trees_at_row f j) o)))) (row_trees_do f j))
      ∙ int_sum_add (joint_row_count p f) _ _

  -- it leads to the joint rows of the next stage
  rows_go_on : (f r : ℕ) → suc f < h → rows_left f (suc r) ≡ rows_reward f r +ℤ rows_left (suc f) r
  rows_go_on f r step =
      rows_step f r
      ∙ ap (λ x. rows_reward f r +ℤ x)
      (int_sum_ext (joint_row_count p f) _ _ (λ j hj. int_sum_ext (joint_observations m) _ _ (λ o ho.
      ap (λ (qs : List PolicyTree). int_sum m.states (λ s. pos (row_update f j o s) *ℤ backward_value m r s qs))
      (trees_after_row f j o step hj ho)))
      ∙ sym (sum_by_target (joint_row_count p (suc f)) (joint_row_count p f) (joint_observations m) m.states
      (next_joint_row m p f) (row_update f) (λ J s. backward_value m r s (trees_at_row (suc f) J))
      (λ i o hi ho. next_below f i o step hi ho)))

  -- at the last stage nothing is left after it
  rows_end : (f : ℕ) → rows_left f 1 ≡ rows_reward f 0
  rows_end f =
      rows_step f 0
      ∙ ap (λ x. rows_reward f 0 +ℤ x)
      (ext_two (joint_row_count p f) (joint_observations m) _ (λ j o. pos 0)
      (λ j o hj ho. weighted_zeros m.states (row_update f j o))
      ∙ int_sum_ext (joint_row_count p f) _ (λ j. pos 0) (λ j hj. int_sum_zero (joint_observations m))
      ∙ int_sum_zero (joint_row_count p f))
      ∙ omega (arith, ints)

  -- the value is what the joint rows before stage f earn, and the values of the trees of its joint rows
  value_at_stage : (f r : ℕ) → f + suc r ≡ h → policy_value m h (unfolded p)
      ≡ rows_earn m p h f +ℤ rows_left f (suc r)
  unfolding policy_value
  value_at_stage zero r e =
      let e' : suc r ≡ h = omega arith in
      sym
      (+ℤ_idl _
      ∙ ap (λ (n : ℕ). int_sum n (λ j. int_sum m.states (λ s. pos (start_at m s) *ℤ backward_value m (suc r) s
      (trees_at_row 0 j)))) (one_joint_row are)
      ∙ +ℤ_idl _
      ∙ ap (λ (qs : List PolicyTree). int_sum m.states (λ s. pos (start_at m s) *ℤ backward_value m (suc r)
      s qs))
      (row_trees-start are)
      ∙ ap (λ (n : ℕ). int_sum m.states (λ s. pos (start_at m s) *ℤ backward_value m n s (unfolded p))) e')
  value_at_stage (suc f) r e =
      value_at_stage f (suc r) (omega arith)
      ∙ ap (λ x. rows_earn m p h f +ℤ x) (rows_go_on f (suc r) (omega arith))
      ∙ sym (+ℤ_assoc (rows_earn m p h f) (rows_reward f (suc r)) (rows_left (suc f) (suc r)))
      ∙ ap (λ (k : ℕ). rows_earn m p h f +ℤ rows_reward f k +ℤ rows_left (suc f) (suc r)) (omega arith)

  -- at the horizon it is what they earn
  value_is_rows_earn : (f : ℕ) → suc f ≡ h → policy_value m h (unfolded p) ≡ rows_earn m p h h
  value_is_rows_earn f e =
      value_at_stage f 0 (omega arith)
      ∙ ap (λ x. rows_earn m p h f +ℤ x) (rows_end f)
      ∙ ap (λ (k : ℕ). rows_earn m p h f +ℤ rows_reward f k) (omega arith)
      ∙ ap (λ (k : ℕ). rows_earn m p h k) e

-- the value of what the rows mean is what they earn
pub value_of_unfolded : (m : Model) (h : ℕ) (p : SharedPolicy) → IsSharedOf m h p
    → policy_value m h (unfolded p) ≡ rows_earn m p h h
unfolding policy_value
value_of_unfolded m zero p shared = weighted_zeros m.states (start_at m)
value_of_unfolded m (suc f) p shared = value_is_rows_earn m (suc f) p shared.agents f refl

-- the worth of a shared policy encloses the value of the joint policy that its rows mean
pub shared_worth_enclosed : (m : Model) (A : Arithmetic) (R : Enclosure) → IsSound m.scales A R
    → (h : ℕ) (p : SharedPolicy)
    → IsSharedOf m h p → R.Earns (value_scale m h) (policy_value m h (unfolded p)) (shared_worth_in A m h p)
unfolding shared_worth_in
shared_worth_enclosed m A R ok h p shared =
    subst (λ (x : ℤ). R.Earns (value_scale m h) x (rows_earn_in A m p h h))
    (sym (value_of_unfolded m h p shared))
    (rows_earn_enclosed m A R ok p h h (omega arith))
