-- How large the weights of joint rows are, in any arithmetic.
use Rattle.std.proofs.Common.{◌≡◌, ℕ, suc, ◌<◌, ◌≤◌, cond, eqb, List, [], ◌∷◌, pos, arith}
use Rattle.dp_laws.proofs.OrderedSpans.{IsOrdered, one_place, sum_ordered, sum_point, total_size, weight_ordered}
use Rattle.dp_laws.proofs.OrderedSpans.{where_ordered, where_point, where_size}
use Rattle.dp_laws.proofs.SharedTrees.{row_action_below}
use Rattle.dp_laws.proofs.SizeSums.{span_sum_size}
use Rattle.dp_spec.specs.Arithmetic.{Arithmetic, point}
use Rattle.dp_spec.specs.Calls.{Calls, size}
use Rattle.dp_spec.specs.Model.{Model, joint_actions, joint_observations}
use Rattle.dp_spec.specs.Quantities.{span_sum, weights_after_in}
use Rattle.dp_spec.specs.SharedPolicy.{AreRowsOfAgents, SharedPolicy, row_counts}
use Rattle.dp_spec.specs.SharedPolicy.AreRowsOfAgents.{and_agent, no_agents}
use Rattle.dp_spec.specs.SharedWorth.{actions_of_rows, joint_row_action, joint_row_count, next_joint_row}
use Rattle.dp_spec.specs.SharedWorth.{row_weight_in}
use Rattle.dp_spec.specs.Sizes.{AreWeights, CanUpdateWeights, weight_limit}
use Rattle.dp_spec.specs.SizesOfRows.{rows_update_size}
use Rattle.dp_base.specs.Sums.{nat_sum}
use Rattle.dp_spec.proofs.JointNumberLaws.{AreBelow, joint_number_below, parts_below}
use Rattle.dp_base.proofs.NaturalSumLaws.{nat_sum_at, nat_sum_ext, nat_sum_le, nat_sum_swap}

-- the rows of a joint row do actions of their agents
actions_below : {h : ℕ} {bs ns : List ℕ} {p : SharedPolicy} → AreRowsOfAgents h bs ns p → (t : ℕ) (rs : List ℕ)
    → AreBelow (row_counts p t) rs → AreBelow bs (actions_of_rows p t rs)
actions_below no_agents t rs below = tt
actions_below (and_agent are ares) t [] below = absurd below
actions_below (and_agent {b = b} {n = n} {stages = stages} are ares) t (r ∷ rs) below =
    (row_action_below b n stages are.rows t r below.0, actions_below ares t rs below.1)

-- so its joint action exists
pub row_acts : (m : Model) (h : ℕ) (p : SharedPolicy) → AreRowsOfAgents h m.actions m.observations p → (t j : ℕ)
    → j < joint_row_count p t → joint_row_action m p t j < joint_actions m
unfolding joint_row_action joint_actions
row_acts m h p are t j lt = joint_number_below m.actions _ (actions_below are t _
    (parts_below (row_counts p t) j lt))

-- the weights of all joint rows of a stage together
abbrev pub rows_total : Arithmetic → Model → SharedPolicy → ℕ → ℕ
rows_total A m p t = nat_sum (joint_row_count p t) (λ j. total_size m (row_weight_in A m p t j))

-- the sums of three, outermost first and last exchanged
nat_rotate : (n m k : ℕ) (f : ℕ → ℕ → ℕ → ℕ)
    → nat_sum n (λ s. nat_sum m (λ t. nat_sum k (λ o. f s t o)))
    ≡ nat_sum k (λ o. nat_sum m (λ t. nat_sum n (λ s. f s t o)))
nat_rotate n m k f =
    let one = nat_sum_ext n _ _ (λ s h. nat_sum_swap m k (f s)) in
    let two = nat_sum_swap n k (λ s o. nat_sum m (λ t. f s t o)) in
    let three = nat_sum_ext k _ _ (λ o h. nat_sum_swap n m (λ s t. f s t o)) in omega (arith, one, two, three)

-- each number counts at one place at most
by_target : (K I O S : ℕ) (next : ℕ → ℕ → ℕ) (x : ℕ → ℕ → ℕ → ℕ) →
    nat_sum K (λ J. nat_sum S (λ s. nat_sum I (λ i. nat_sum O (λ o. cond (eqb (next i o) J) (x i o s) 0))))
    ≤ nat_sum I (λ i. nat_sum O (λ o. nat_sum S (λ s. x i o s)))
by_target K I O S next x =
    let Y = λ (i : ℕ) (o : ℕ) (s : ℕ) (J : ℕ). cond (eqb (next i o) J) (x i o s) 0 in
    let one = nat_sum_ext K (λ J. nat_sum S (λ s. nat_sum I (λ i. nat_sum O (λ o. Y i o s J))))
    (λ J. nat_sum I (λ i. nat_sum S (λ s. nat_sum O (λ o. Y i o s J))))
    (λ J hJ. nat_sum_swap S I (λ s i. nat_sum O (λ o. Y i o s J))) in
    let two = nat_sum_swap K I (λ J i. nat_sum S (λ s. nat_sum O (λ o. Y i o s J))) in
    let three = nat_sum_le I (λ i. nat_sum K (λ J. nat_sum S (λ s. nat_sum O (λ o. Y i o s J))))
    (λ i. nat_sum O (λ o. nat_sum S (λ s. x i o s)))
    (λ i hi.
    let turned = nat_rotate K S O (λ J s o. Y i o s J) in
    let each = nat_sum_le O (λ o. nat_sum S (λ s. nat_sum K (λ J. Y i o s J))) (λ o. nat_sum S (λ s. x i o s))
    (λ o ho. nat_sum_le S _ _ (λ s hs. one_place K (next i o) (x i o s))) in omega arith) in
    omega arith

-- the joint rows of the next stage weigh no more than all next weights
pub next_rows_total : (A : Arithmetic) (m : Model) (p : SharedPolicy) (t : ℕ)
    → rows_total A m p (suc t) ≤ rows_update_size A m p t
unfolding rows_update_size
next_rows_total A m p t =
    let K = joint_row_count p (suc t) in
    let I = joint_row_count p t in
    let O = joint_observations m in
    let S = m.states in
    let W = λ (i : ℕ) (o : ℕ) (s : ℕ). weights_after_in A m (row_weight_in A m p t i) (joint_row_action m p t i)
    o s in
    let parts = nat_sum_le K (λ J. total_size m (row_weight_in A m p (suc t) J))
    (λ J. nat_sum S (λ s. nat_sum I (λ i. nat_sum O (λ o. cond (eqb (next_joint_row m p t i o) J)
    (size (W i o s)) 0))))
    (λ J hJ. nat_sum_le S _ _ (λ s hs.
    let outer = span_sum_size I (λ i. span_sum O (λ o. cond (eqb (next_joint_row m p t i o) J) (W i o s)
    (point (pos 0)))) in
    let inner = nat_sum_le I (λ i. size (span_sum O (λ o. cond (eqb (next_joint_row m p t i o) J) (W i o s)
    (point (pos 0))))) (λ i. nat_sum O (λ o. cond (eqb (next_joint_row m p t i o) J) (size (W i o s)) 0))
    (λ i hi.
    let sum = span_sum_size O (λ o. cond (eqb (next_joint_row m p t i o) J) (W i o s) (point (pos 0))) in
    let same = nat_sum_ext O (λ o. size (cond (eqb (next_joint_row m p t i o) J) (W i o s) (point (pos 0))))
    (λ o. cond (eqb (next_joint_row m p t i o) J) (size (W i o s)) 0)
    (λ o ho. where_size (eqb (next_joint_row m p t i o) J) (W i o s)) in omega arith) in
    omega arith)) in
    let all = by_target K I O S (next_joint_row m p t) (λ i o s. size (W i o s)) in
    omega arith

-- where weights can be updated, the weights of the joint rows of the next stage are weights within their limit
pub next_rows_are_weights : (A : Arithmetic) (C : Calls) (m : Model) (h : ℕ) → CanUpdateWeights A C m h
    → (p : SharedPolicy)
    → AreRowsOfAgents h m.actions m.observations p → (t : ℕ) → t < h
    → ((j : ℕ) → j < joint_row_count p t → AreWeights A.is_exact m t (row_weight_in A m p t j))
    → rows_total A m p (suc t) ≤ weight_limit A.is_exact m (suc t)
    → (J : ℕ) → J < joint_row_count p (suc t) → AreWeights A.is_exact m (suc t) (row_weight_in A m p (suc t) J)
next_rows_are_weights A C m h can p are t lt weights small J inside =
    let O = joint_observations m in
    let I = joint_row_count p t in
    let W = λ (i : ℕ) (o : ℕ). weights_after_in A m (row_weight_in A m p t i) (joint_row_action m p t i) o in
    let each : (i o : ℕ) → i < I → o < O → AreWeights A.is_exact m (suc t) (W i o) = λ i o hi ho. can.updated t
    (row_weight_in A m p t i) (joint_row_action m p t i) o lt (weights i hi) (row_acts m h p are t i hi) ho in
    let ordered : (s : ℕ) → s < m.states → IsOrdered (row_weight_in A m p (suc t) J s) = λ s ps.
    sum_ordered I (λ i. span_sum O (λ o. cond (eqb (next_joint_row m p t i o) J) (W i o s) (point (pos 0))))
    (λ i hi.
    sum_ordered O (λ o. cond (eqb (next_joint_row m p t i o) J) (W i o s) (point (pos 0)))
    (λ o ho. where_ordered (eqb (next_joint_row m p t i o) J) (W i o s)
    (weight_ordered (each i o hi ho) s ps))) in
    let one = nat_sum_at (joint_row_count p (suc t)) (λ j. total_size m (row_weight_in A m p (suc t) j))
    J inside in
    record {
      from = λ s ps. (ordered s ps).from;
      order = λ s ps. (ordered s ps).order;
      points = λ e s ps.
          sum_point I (λ i. span_sum O (λ o. cond (eqb (next_joint_row m p t i o) J) (W i o s) (point (pos 0))))
          (λ i hi.
          sum_point O (λ o. cond (eqb (next_joint_row m p t i o) J) (W i o s) (point (pos 0)))
          (λ o ho. where_point (eqb (next_joint_row m p t i o) J) (W i o s) ((each i o hi ho).points e s ps)));
      limit = omega arith;
    }
