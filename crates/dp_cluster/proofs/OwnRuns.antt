-- The rows and runs of an agent's classes, as the code computes them.
use Rattle.std.proofs.Common.{◌≡◌, ℕ, zero, suc, ◌*◌, ◌/◌, ◌<◌, ◌≤◌, ◌^◌, length, take, sym, ap, ◌∙◌, arith}
use Rattle.dp_spec.specs.Front.{class_counts}
use Rattle.dp_spec.specs.JointNumbers.{product}
use Rattle.dp_laws.proofs.MergedSpans.{product_split}
use Rattle.dp_cluster.specs.Joins.{behind, own_count}
use Rattle.dp_cluster.specs.KeptFronts.{IsStored, KeptFront}
use Rattle.dp_cluster.specs.OwnWeights.{AreOwnRuns}
use Rattle.dp_cluster.proofs.FrontParts.{as_many_counts, count_most}
use Rattle.dp_cluster.proofs.Pairs.{divided}

-- the numbers that were read of a front with weights
pub record AreCounted (k : KeptFront) (i joint count width states : ℕ) : Type 0 where
  pub stored : IsStored k
  pub stage : k.front.stage < k.horizon
  pub some_state : 0 < k.states
  pub some_class : 0 < product (class_counts k.front.agents)
  pub agent : i < length k.front.agents
  pub joint_is : joint ≡ product (class_counts k.front.agents)
  pub count_is : count ≡ own_count k i
  pub width_is : width ≡ behind k i
  pub states_is : states ≡ k.states

module _ (k : KeptFront) (i joint count width states : ℕ) (are : AreCounted k i joint count width states) where
  abbrev rows : ℕ
  rows = product (take i (class_counts k.front.agents))

  whole : product (class_counts k.front.agents) ≡ rows * own_count k i * behind k i
  whole = product_split i (class_counts k.front.agents) (let n = as_many_counts k.front.agents in
      let lt = are.agent in omega arith)

  -- none of the factors is 0
  record AreSome (h n l : ℕ) : Type 0 where
    some_row : 0 < h
    some_count : 0 < n
    some_behind : 0 < l

  factors : (h n l x : ℕ) → 0 < x → x ≡ h * n * l → AreSome h n l
  factors zero n l x some e = absurd (omega arith)
  factors (suc h) zero l x some e = absurd (omega arith)
  factors (suc h) (suc n) zero x some e = absurd (omega arith)
  factors (suc h) (suc n) (suc l) x some e = record {
    some_row = omega arith;
    some_count = omega arith;
    some_behind = omega arith;
  }

  some : AreSome rows (own_count k i) (behind k i)
  some = factors rows (own_count k i) (behind k i) _ are.some_class whole

  few : product (class_counts k.front.agents) ≤ 2 ^ 22
  few = count_most (product (class_counts k.front.agents)) k.states (2 ^ 22) are.some_state
      (are.stored.room are.stage)

  at_most : (x h : ℕ) → 0 < h → x ≤ h * x
  at_most x zero none = absurd (omega arith)
  at_most x (suc h) more = omega arith

  pub some_run : 0 < count * width
  some_run =
      let n = some.some_count in let l = some.some_behind in
      rw (are.count_is, are.width_is) (both (own_count k i) (behind k i) n l)
    where
      both : (n l : ℕ) → 0 < n → 0 < l → 0 < n * l
      both zero l a b = absurd (omega arith)
      both (suc n) l a b = omega arith

  pub few_runs : count * width ≤ 2 ^ 22
  few_runs =
      let le = at_most (own_count k i * behind k i) rows some.some_row in let all = whole in let limit = few in
      rw (are.count_is, are.width_is) (omega arith)

  pub rows_are : joint / (count * width) ≡ rows
  rows_are =
      let n = some.some_count in let l = some.some_behind in
      let same : count * width ≡ own_count k i * behind k i = λ j. are.count_is j * are.width_is j in
      let product_is : joint ≡ count * width * rows =
      are.joint_is ∙ whole ∙ turned rows (own_count k i) (behind k i) ∙ ap (λ (x : ℕ). x * rows) (sym same) in
      divided (count * width) rows joint some_run product_is
    where
      turned : (h n l : ℕ) → h * n * l ≡ n * l * h
      turned h n l = omega arith

  all_weights : rows * own_count k i * (behind k i * k.states) ≡ length k.weights
  all_weights =
      regroup rows (own_count k i) (behind k i) k.states ∙ ap (λ (x : ℕ). x * k.states) (sym whole)
      ∙ sym (are.stored.weights are.stage)
    where
      regroup : (h n l s : ℕ) → h * n * (l * s) ≡ h * n * l * s
      regroup h n l s = omega arith

  some_places : (l s : ℕ) → 0 < l → 0 < s → 0 < l * s
  some_places zero s a b = absurd (omega arith)
  some_places (suc l) s a b = omega arith

  pub runs_are : AreOwnRuns k.weights (joint / (count * width)) count (width * states)
  runs_are = record {
    all = (λ j. rows_are j * are.count_is j * (are.width_is j * are.states_is j)) ∙ all_weights;
    limit = let size = are.stored.weights are.stage in let room = are.stored.room are.stage in omega arith;
    some = rw (are.width_is, are.states_is) (some_places (behind k i) k.states some.some_behind are.some_state);
  }

  pub few_places : width * states ≤ 2 ^ 22
  few_places =
      let n = some.some_count in
      let h = some.some_row in
      let all = all_weights in
      let size = are.stored.weights are.stage in
      let room = are.stored.room are.stage in
      let le = at_most (behind k i * k.states) (rows * own_count k i) (some_places rows (own_count k i) h n) in
      rw (are.width_is, are.states_is) (omega arith)
