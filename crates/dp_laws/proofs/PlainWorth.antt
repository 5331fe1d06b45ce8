-- The worth of a plain shared policy is the forward worth of what its rows mean, in any arithmetic: its joint rows
-- are the joint histories.
use Rattle.std.proofs.Common.{◌≡◌, ◌≢◌, ℕ, zero, suc, ◌-◌, ◌<◌, ◌≤◌, true, false, cond, eqb, ℤ, pos, List, [], ◌∷◌}
use Rattle.std.proofs.Common.{length, refl, sym, ap, ◌∙◌, arith}
use Rattle.std.proofs.Math.Nat.{pow-suc}
use Rattle.std.proofs.lemmas.Bool.Decides.{nat_tests}
use Rattle.dp_spec.specs.declared.span.Span.{Span}
use Rattle.dp_laws.proofs.JointPairs.{int_sum_pairs, pair_injective}
use Rattle.dp_laws.proofs.KeptActions.{history_length}
use Rattle.dp_laws.proofs.SpanSums.{span_equal, span_history_sum_ext, span_sum_ext, span_sum_only, span_none_add}
use Rattle.dp_laws.proofs.SpanSums.{span_sum_none, span_sum_ends}
use Rattle.dp_laws.proofs.SharedTrees.{one_joint_row, row_trees, row_trees-start}
use Rattle.dp_laws.proofs.SharedValue.{next_below, row_trees_do, trees_after_row}
use Rattle.dp_spec.specs.Arithmetic.{Arithmetic, point, span_add}
use Rattle.dp_spec.specs.Front.{next_own_histories}
use Rattle.dp_spec.specs.JointHistory.{IsJointHistory, trees_after_history}
use Rattle.dp_spec.specs.JointNumbers.{parts_of, product}
use Rattle.dp_spec.specs.Model.{Model, joint_observations}
use Rattle.dp_spec.specs.PlainForm.{ArePlain, IsPlain}
use Rattle.dp_spec.specs.PlainForm.ArePlain.{and_agent, no_agents}
use Rattle.dp_spec.specs.PolicyTree.{PolicyTree}
use Rattle.dp_spec.specs.Quantities.{earned_reward_in, forward_worth_in, history_weight_in, span_history_sum}
use Rattle.dp_spec.specs.Quantities.{span_sum, weighted_reward_in, weights_after_in}
use Rattle.dp_spec.specs.SharedPolicy.{AreRowsOfAgents, IsSharedOf, SharedPolicy, row_counts, unfolded}
use Rattle.dp_spec.specs.SharedWorth.{joint_row_action, joint_row_count, next_joint_row, row_weight_in, rows_after}
use Rattle.dp_spec.specs.SharedWorth.{rows_earn_in, shared_worth_in}
use Rattle.dp_base.specs.Sums.{int_sum}
use Rattle.dp_spec.specs.Value.{joint_root_action, trees_after}
use Rattle.dp_spec.proofs.JointNumberLaws.{AreBelow, parts_below}
use Rattle.dp_spec.specs.ClassSteps.{pair_counts, pair_number}

-- ---- sums of spans

-- the ends of a sum of sums
two_ends : (n k : ℕ) (f : ℕ → ℕ → Span)
    → span_sum n (λ i. span_sum k (λ j. f i j))
    ≡ record {
      low = int_sum n (λ i. int_sum k (λ j. (f i j).low));
      high = int_sum n (λ i. int_sum k (λ j. (f i j).high));
    }
two_ends n k f =
    span_sum_ext n _ _ (λ i p. span_sum_ends k (f i))
    ∙ span_sum_ends n (λ i. record { low = int_sum k (λ j. (f i j).low); high = int_sum k (λ j. (f i j).high) })

-- ---- joint rows of plain policies are pairs of a joint row and a joint observation

plain_pair_counts : {h : ℕ} {ns : List ℕ} {p : SharedPolicy} → ArePlain h ns p → (t : ℕ) → suc t < h
    → row_counts p (suc t) ≡ pair_counts (row_counts p t) ns
plain_pair_counts no_agents t step = refl
plain_pair_counts (and_agent {n = n} plain rest) t step =
    let lt : t < _ = omega (arith, step) in
    rw (plain.counts (suc t) step, plain.counts t lt, plain_pair_counts rest t step, pow-suc n t) refl

plain_rows_after : {h : ℕ} {ns : List ℕ} {p : SharedPolicy} → ArePlain h ns p → (t : ℕ) (rs os : List ℕ)
    → suc t < h
    → AreBelow (row_counts p t) rs → AreBelow ns os → rows_after p t rs os ≡ next_own_histories ns rs os
plain_rows_after no_agents t rs os step hr ho = refl
plain_rows_after (and_agent plain rest) t [] os step hr ho = absurd hr
plain_rows_after (and_agent plain rest) t (r ∷ rs) [] step hr ho = absurd ho
plain_rows_after (and_agent plain rest) t (r ∷ rs) (o ∷ os) step hr ho =
    let count = plain.counts t (omega arith) in
    rw (plain.nexts t r o step (omega (arith, count, hr.0)) ho.0, plain_rows_after rest t rs os step hr.1 ho.1)

-- as many agents as in the model
plain_length : {h : ℕ} {ns : List ℕ} {p : SharedPolicy} → ArePlain h ns p → (t : ℕ)
    → length ns ≡ length (row_counts p t)
plain_length no_agents t = refl
plain_length (and_agent plain rest) t = ap suc (plain_length rest t)

module _ (m : Model) (h : ℕ) (p : SharedPolicy) (are : AreRowsOfAgents h m.actions m.observations p)
    (plain : ArePlain h m.observations p) where
  -- the joint row after a joint row is the number of their pair
  next_is_pair : (t j o : ℕ) → suc t < h → j < joint_row_count p t → o < joint_observations m
      → next_joint_row m p t j o ≡ pair_number (row_counts p t) m.observations j o
  unfolding next_joint_row joint_observations
  next_is_pair t j o step hj ho =
      rw (
        plain_pair_counts plain t step,
        plain_rows_after plain t _ _ step (parts_below _ j hj)
            (parts_below m.observations o ho),
      )

  -- different pairs lead to different joint rows
  next_injective : (t i u j o : ℕ) → suc t < h → i < joint_row_count p t → u < joint_observations m
      → j < joint_row_count p t → o < joint_observations m → next_joint_row m p t i u ≡ next_joint_row m p t j o
      → (i ≡ j) × (u ≡ o)
  unfolding joint_observations
  next_injective t i u j o step hi hu hj ho same =
      pair_injective (row_counts p t) m.observations i u j o (plain_length plain t) hi hu hj ho
      (sym (next_is_pair t i u step hi hu) ∙ same ∙ next_is_pair t j o step hj ho)

  -- a sum over the joint rows of the next stage is a sum over pairs
  sum_over_pairs : (t : ℕ) → suc t < h → (g : ℕ → ℤ)
      → int_sum (joint_row_count p (suc t)) g
      ≡ int_sum (joint_row_count p t) (λ j. int_sum (joint_observations m)
      (λ o. g (pair_number (row_counts p t) m.observations j o)))
  unfolding joint_observations
  sum_over_pairs t step g =
      ap (λ (cs : List ℕ). int_sum (product cs) g) (plain_pair_counts plain t step)
      ∙ int_sum_pairs (row_counts p t) m.observations (plain_length plain t) g

  span_sum_over_pairs : (t : ℕ) → suc t < h → (g : ℕ → Span)
      → span_sum (joint_row_count p (suc t)) g
      ≡ span_sum (joint_row_count p t) (λ j. span_sum (joint_observations m)
      (λ o. g (next_joint_row m p t j o)))
  span_sum_over_pairs t step g =
      span_sum_ends (joint_row_count p (suc t)) g
      ∙ span_equal _ _ (sum_over_pairs t step (λ i. (g i).low)) (sum_over_pairs t step (λ i. (g i).high))
      ∙ sym (two_ends (joint_row_count p t) (joint_observations m)
      (λ j o. g (pair_number (row_counts p t) m.observations j o)))
      ∙ span_sum_ext (joint_row_count p t) _ _ (λ j hj. span_sum_ext (joint_observations m) _ _
      (λ o ho. ap g (sym (next_is_pair t j o step hj ho))))

  -- ---- weights
  module _ (A : Arithmetic) where
    -- the weights of a joint row that follows another are those one step on
    next_weight : (t j o : ℕ) → suc t < h → j < joint_row_count p t → o < joint_observations m
        → row_weight_in A m p (suc t) (next_joint_row m p t j o)
        ≡ weights_after_in A m (row_weight_in A m p t j) (joint_row_action m p t j) o
    next_weight t j o step hj ho =
        let X = λ (i : ℕ) (u : ℕ) (s : ℕ). weights_after_in A m (row_weight_in A m p t i)
        (joint_row_action m p t i) u s in
        let K = next_joint_row m p t j o in
        let here : (s : ℕ) → row_weight_in A m p (suc t) K s ≡ X j o s = λ s.
        span_sum_only (joint_row_count p t) j (λ i. span_sum (joint_observations m)
        (λ u. cond (eqb (next_joint_row m p t i u) K) (X i u s) (point (pos 0)))) hj
        (λ i hi apart. span_sum_ext (joint_observations m) _ (λ u. point (pos 0))
        (λ u hu. apart_none (next_joint_row m p t i u) K (X i u s)
        (λ same. apart (next_injective t i u j o step hi hu hj ho same).0))
        ∙ span_sum_none (joint_observations m) (λ u. point (pos 0)) (λ u hu. refl))
        ∙ span_sum_only (joint_observations m) o (λ u. cond (eqb (next_joint_row m p t j u) K) (X j u s)
        (point (pos 0))) ho
        (λ u hu apart. apart_none (next_joint_row m p t j u) K (X j u s)
        (λ same. apart (next_injective t j u j o step hj hu hj ho same).1))
        ∙ same_here K (X j o s) in
        λ i s. here s i
      where
        apart_none : (a b : ℕ) (x : Span) → a ≢ b → cond (eqb a b) x (point (pos 0)) ≡ point (pos 0)
        apart_none a b x ne = let no : eqb a b ≡ false = grind (arith, nat_tests) in rw no refl

        same_here : (a : ℕ) (x : Span) → cond (eqb a a) x (point (pos 0)) ≡ x
        same_here a x = let yes : eqb a a ≡ true = grind (arith, nat_tests) in rw yes refl

    -- ---- joint rows and joint histories
    -- the joint row after a joint history
    abbrev row_of : List ℕ → ℕ
    row_of [] = 0
    row_of (o ∷ H) = next_joint_row m p (length H) (row_of H) o

    -- the joint action that the rows mean after a joint history
    abbrev act_after : List ℕ → ℕ
    act_after H = joint_root_action m (trees_after_history m (unfolded p) H)

    -- it is a joint row of the stage, and its trees are what remains after the joint history
    row_of_is : (t : ℕ) (H : List ℕ) → t < h → IsJointHistory (joint_observations m) t H →
        (row_of H < joint_row_count p t) × (trees_after_history m (unfolded p) H
        ≡ row_trees p t (parts_of (row_counts p t) (row_of H)))
    row_of_is zero [] lt is = let one = one_joint_row are in (omega arith, sym (row_trees-start are))
    row_of_is zero (o ∷ H) lt is = absurd is
    row_of_is (suc t) [] lt is = absurd is
    row_of_is (suc t) (o ∷ H) lt is =
        let before = row_of_is t H (omega arith) is.1 in
        let n = history_length (joint_observations m) t H is.1 in
        rw n (
          next_below m h p are t (row_of H) o lt before.0 is.0,
          ap (λ (qs : List PolicyTree). trees_after m qs o) before.1
              ∙ trees_after_row m h p are t (row_of H) o lt before.0 is.0,
        )

    -- so its joint action is what the rows mean
    row_of_acts : (t : ℕ) (H : List ℕ) → t < h → IsJointHistory (joint_observations m) t H
        → joint_row_action m p t (row_of H) ≡ act_after H
    row_of_acts t H lt is = sym (ap (joint_root_action m) (row_of_is t H lt is).1
        ∙ row_trees_do m h p are t (row_of H))

    -- a sum over joint rows and their weights is one over joint histories and theirs
    rows_as_histories : (t : ℕ) → t < h → (v : ℕ → (ℕ → Span) → Span)
        → span_sum (joint_row_count p t) (λ j. v j (row_weight_in A m p t j))
        ≡ span_history_sum (joint_observations m) t (λ H. v (row_of H) (history_weight_in A m act_after H))
    rows_as_histories zero lt v =
        ap (λ (n : ℕ). span_sum n (λ j. v j (row_weight_in A m p 0 j))) (one_joint_row are) ∙ span_none_add _
    rows_as_histories (suc t) lt v =
        let O = joint_observations m in
        let W = row_weight_in A m p in
        let update = λ (j : ℕ) (w : ℕ → Span). span_sum O (λ o. v (next_joint_row m p t j o)
        (weights_after_in A m w (joint_row_action m p t j) o)) in
        span_sum_over_pairs t lt (λ j. v j (W (suc t) j))
        ∙ span_sum_ext (joint_row_count p t) _ (λ j. update j (W t j))
        (λ j hj. span_sum_ext O _ _ (λ o ho. ap (v (next_joint_row m p t j o)) (next_weight t j o lt hj ho)))
        ∙ rows_as_histories t (omega arith) update
        ∙ span_history_sum_ext O t _ _ (λ H is.
        let n = history_length O t H is in
        let acts = row_of_acts t H (omega arith) is in
        span_sum_ext O _ _ (λ o ho. rw (n, acts) refl))

    -- what the joint rows earn is what is earned along joint histories
    rows_earn_forward : (f : ℕ) → f ≤ h → rows_earn_in A m p h f ≡ earned_reward_in A m act_after h f
    rows_earn_forward zero le = refl
    rows_earn_forward (suc f) le =
        let O = joint_observations m in
        ap (λ (x : Span). span_add x (span_sum (joint_row_count p f)
        (λ j. weighted_reward_in A m (h - suc f) (row_weight_in A m p f j) (joint_row_action m p f j))))
        (rows_earn_forward f (omega arith))
        ∙ ap (λ (x : Span). span_add (earned_reward_in A m act_after h f) x)
        (rows_as_histories f (omega arith) (λ j w. weighted_reward_in A m (h - suc f) w
        (joint_row_action m p f j))
        ∙ span_history_sum_ext O f _ _ (λ H is. ap (weighted_reward_in A m (h - suc f)
        (history_weight_in A m act_after H)) (row_of_acts f H (omega arith) is)))

-- the worth of a plain shared policy is the forward worth of what its rows mean
pub plain_worth_is_forward : (A : Arithmetic) (m : Model) (h : ℕ) (p : SharedPolicy) → IsSharedOf m h p
    → IsPlain m h p
    → shared_worth_in A m h p ≡ forward_worth_in A m h (unfolded p)
unfolding shared_worth_in forward_worth_in
plain_worth_is_forward A m h p shared plain = rows_earn_forward m h p shared.agents plain A h (omega arith)
