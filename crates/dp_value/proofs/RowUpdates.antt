-- The weights of the next stage, joint row by joint row.
use Rattle.std.proofs.Common.{◌≡◌, ◌≢◌, ℕ, zero, suc, ◌+◌, ◌-◌, ◌*◌, ◌/◌, ◌^◌, ◌<◌, ◌≤◌, Bool, true, false, cond}
use Rattle.std.proofs.Common.{List, length, get_or, set, inl, inr, pos, refl, sym, ap, ◌∙◌, subst, arith, eq-eqb}
use Rattle.std.proofs.Common.{get_or-set_other, get_or-set_same}
use Rattle.std.proofs.Math.Nat.{mul-le-mul_left}
use Rattle.std.proofs.lemmas.Nat.{div-mul-add}
use Rattle.std.proofs.lemmas.Bool.{cases_lt}
use borrow.Author.Tests.{eqb-true}
use Rattle.std.specs.Prelude.{◌==◌}
use Rattle.dp_spec.specs.declared.span.Span.{Span}
use Rattle.dp_spec.specs.Arithmetic.{Arithmetic, point, span_add}
use Rattle.dp_spec.specs.Calls.{Calls, size}
use Rattle.dp_spec.specs.Model.{Model, joint_observations, obs_at, reward_at, start_at, trans_at}
use Rattle.dp_spec.specs.Quantities.{span_sum, weighted_reward_in, weights_after_in}
use Rattle.dp_spec.specs.SharedPolicy.{SharedPolicy}
use Rattle.dp_spec.specs.SharedWorth.{joint_row_action, joint_row_count, next_joint_row, row_weight_in, rows_earn_in}
use Rattle.dp_spec.specs.SharedWorth.{shared_worth_in}
use Rattle.dp_spec.specs.Sizes.{AreWeights, reward_size}
use Rattle.dp_spec.specs.SizesOfRows.{rows_earn_size, rows_update_size}
use Rattle.dp_base.specs.Sums.{nat_sum}
use Rattle.dp_laws.proofs.SharedTrees.{one_joint_row}
use Rattle.dp_laws.proofs.SizeSums.{abs_add, reward_size_le, span_sum_part, span_sum_size}
use Rattle.dp_base.proofs.NaturalSumLaws.{nat_sum_at, nat_sum_ext, nat_sum_le, nat_sum_part}
use Rattle.dp_laws.proofs.SpanSums.{span_add_none, span_equal, span_sum_ext}
use Rattle.std.proofs.Math.IntN.{+ℤ_assoc}
use Rattle.dp_value.specs.WeightUpdates.{AreUpdatable, weights_of}
use Rattle.dp_value.specs.Rewards.{IsRewardable}
use Rattle.dp_value.specs.RowWeights.{AreRowWeights, IsSharable, row_gives, row_part, weight_in}

-- weights that are alike for each state give the same
pub updated_alike : (A : Arithmetic) (m : Model) (v w : ℕ → Span) (a o s : ℕ)
    → ((u : ℕ) → u < m.states → v u ≡ w u)
    → weights_after_in A m v a o s ≡ weights_after_in A m w a o s
unfolding weights_after_in
updated_alike A m v w a o s alike = span_sum_ext m.states _ _
    (λ u lt. (λ i. A.later (A.chance (alike u lt i) (trans_at m a u s) (obs_at m a s o))))

pub rewarded_alike : (A : Arithmetic) (m : Model) (r : ℕ) (v w : ℕ → Span) (a : ℕ)
    → ((u : ℕ) → u < m.states → v u ≡ w u)
    → weighted_reward_in A m r v a ≡ weighted_reward_in A m r w a
unfolding weighted_reward_in
rewarded_alike A m r v w a alike =
    span_sum_ext m.states _ _ (λ u lt. span_sum_ext m.states _ _
    (λ t lt'. span_sum_ext (joint_observations m) _ _ (λ o lo.
    (λ i. A.gain (A.chance (alike u lt i) (trans_at m a u t) (obs_at m a t o)) (reward_at m a u t o) r))))

-- and are weights of the same time
pub weights_alike : (e : Bool) (m : Model) (t : ℕ) (v w : ℕ → Span) → ((u : ℕ) → u < m.states → v u ≡ w u)
    → AreWeights e m t w → AreWeights e m t v
weights_alike e m t v w alike are = record {
  from = λ s lt. rw (alike s lt) (are.from s lt);
  order = λ s lt. rw (alike s lt) (are.order s lt);
  points = λ exact s lt. rw (alike s lt) (are.points exact s lt);
  limit = rw (nat_sum_ext m.states (λ s. size (v s)) (λ s. size (w s)) (λ s lt. ap size (alike s lt)))
      are.limit;
}

-- the weights of a joint row, as a list holds them
module _ (A : Arithmetic) (C : Calls) (m : Model) (h : ℕ) (p : SharedPolicy) (is : IsSharable A C m h p) (t : ℕ)
    (lt : t < h) (ws : List Span) (held : AreRowWeights A m p t ws) (j : ℕ) (lj : j < joint_row_count p t)
    (row : List Span) (same : (s : ℕ) → s < m.states → weights_of row s ≡ weight_in m.states ws j s) where
  alike : (s : ℕ) → s < m.states → weights_of row s ≡ row_weight_in A m p t j s
  alike s ls = same s ls ∙ held.are j s lj ls

  are : AreWeights A.is_exact m t (weights_of row)
  are = weights_alike A.is_exact m t (weights_of row) (row_weight_in A m p t j) alike
      (is.share.weights p t j is.shared lt lj)

  pub row_updatable : AreUpdatable A C m (weights_of row)
  row_updatable = record { horizon = h; can = is.update; time = t; early = lt; weights = are }

  pub row_rewardable : (r : ℕ) → t + suc r ≡ h → IsRewardable A C m r (weights_of row)
  row_rewardable r e = record {
    horizon = h;
    update = is.update;
    can = is.reward;
    time = t;
    left = e;
    weights = are;
  }

  pub row_reward : (r a : ℕ) → weighted_reward_in A m r (weights_of row) a
      ≡ weighted_reward_in A m r (row_weight_in A m p t j) a
  row_reward r a = rewarded_alike A m r (weights_of row) (row_weight_in A m p t j) a alike

  pub row_updated : (a o s : ℕ) → weights_after_in A m (weights_of row) a o s
      ≡ weights_after_in A m (row_weight_in A m p t j) a o s
  row_updated a o s = updated_alike A m (weights_of row) (row_weight_in A m p t j) a o s alike

-- the list has room for a joint row
pub row_room : (S count j n : ℕ) → j < count → count * S ≤ n → (j + 1) * S ≤ n
row_room S count j n lt le = let above = mul-le-mul_left S (more j count lt) in omega arith
  where
    more : (a b : ℕ) → a < b → a + 1 ≤ b
    more a b lt = omega arith

-- ---- the start

pub start_room : (A : Arithmetic) (C : Calls) (m : Model) (h : ℕ) (p : SharedPolicy) → IsSharable A C m h p
    → (n : ℕ)
    → joint_row_count p 0 * m.states ≤ n → m.states ≤ n
start_room A C m h p is n le = let one : joint_row_count p 0 ≡ 1 = one_joint_row is.shared.agents in
    let e : joint_row_count p 0 * m.states ≡ 1 * m.states = ap (λ (z : ℕ). z * m.states) one in omega arith

pub start_held : (A : Arithmetic) (C : Calls) (m : Model) (h : ℕ) (p : SharedPolicy) → IsSharable A C m h p
    → (ws : List Span)
    → joint_row_count p 0 * m.states ≤ length ws → ((s : ℕ) → s < m.states
    → get_or ws s (point (pos 0)) ≡ A.start (start_at m s))
    → AreRowWeights A m p 0 ws
start_held A C m h p is ws room each = record {
  room = room;
  are = λ j s lj ls.
      let one : joint_row_count p 0 ≡ 1 = one_joint_row is.shared.agents in
      let first : j ≡ 0 = omega arith in
      let place : j * m.states + s ≡ s = ap (λ (z : ℕ). z * m.states + s) first ∙ none m.states s in
      ap (λ (k : ℕ). get_or ws k (point (pos 0))) place ∙ each s ls;
}
  where
    none : (a b : ℕ) → 0 * a + b ≡ b
    none a b = omega arith

-- ---- what is earned

abbrev pub rows_reward : Arithmetic → Model → SharedPolicy → ℕ → ℕ → ℕ → Span
rows_reward A m p t r j = weighted_reward_in A m r (row_weight_in A m p t j) (joint_row_action m p t j)

pub size_add : (a b : Span) → size (span_add a b) ≤ size a + size b
size_add a b = let l = abs_add a.low b.low in let u = abs_add a.high b.high in omega arith

earn_part : (A : Arithmetic) (m : Model) (p : SharedPolicy) (t r k n : ℕ) → k ≤ n
    → size (span_sum k (rows_reward A m p t r)) ≤ nat_sum n (λ j. reward_size A m r (row_weight_in A m p t j)
    (joint_row_action m p t j))
earn_part A m p t r k n le =
    let part = span_sum_part k n (rows_reward A m p t r) le in
    let each = nat_sum_le n (λ j. size (rows_reward A m p t r j))
    (λ j. reward_size A m r (row_weight_in A m p t j) (joint_row_action m p t j))
    (λ j lt. reward_size_le A m r (row_weight_in A m p t j) (joint_row_action m p t j)) in
    omega arith

earn_size : (A : Arithmetic) (m : Model) (p : SharedPolicy) (h f : ℕ)
    → size (rows_earn_in A m p h f) ≤ rows_earn_size A m p h f
earn_size A m p h zero = omega arith
earn_size A m p h (suc f) =
    let before = earn_size A m p h f in
    let here = earn_part A m p f (h - suc f) (joint_row_count p f) (joint_row_count p f) (omega arith) in
    let sum = size_add (rows_earn_in A m p h f) (span_sum (joint_row_count p f)
    (rows_reward A m p f (h - suc f))) in
    omega arith

earn_grows : (A : Arithmetic) (m : Model) (p : SharedPolicy) (h f d : ℕ)
    → rows_earn_size A m p h f ≤ rows_earn_size A m p h (d + f)
earn_grows A m p h f zero = let e : 0 + f ≡ f = omega arith in rw e (omega arith)
earn_grows A m p h f (suc d) = let e : suc d + f ≡ suc (d + f) = omega arith in
    let le = earn_grows A m p h f d in
    rw e (omega arith)

module _ (A : Arithmetic) (C : Calls) (m : Model) (h : ℕ) (p : SharedPolicy) (is : IsSharable A C m h p) (t : ℕ)
    (lt : t < h) where
  all_small : rows_earn_size A m p h (suc t) < 2 ^ 127
  all_small =
      let grows = earn_grows A m p h (suc t) (h - suc t) in
      let e : h - suc t + suc t ≡ h = omega arith in
      let whole = is.share.earned p is.shared in
      let le : rows_earn_size A m p h (suc t) ≤ rows_earn_size A m p h h = subst
      (λ (k : ℕ). rows_earn_size A m p h (suc t) ≤ rows_earn_size A m p h k) e grows in
      omega arith

  -- the sums that are formed at a stage
  pub earn_room : (k r : ℕ) → r ≡ h - suc t → k ≤ joint_row_count p t
      → size (span_sum k (rows_reward A m p t r)) < 2 ^ 127
  earn_room k r e le = let small = all_small in let part = earn_part A m p t (h - suc t) k (joint_row_count p t)
      le in rw e (omega arith)

  pub earn_all : (before total : Span) (r : ℕ) → r ≡ h - suc t → before ≡ rows_earn_in A m p h t
      → total ≡ span_sum (joint_row_count p t) (rows_reward A m p t r)
      → span_add before total ≡ rows_earn_in A m p h (suc t)
  earn_all before total r e was here = (λ i. span_add (was i)
      ((here ∙ ap (λ (k : ℕ). span_sum (joint_row_count p t) (rows_reward A m p t k)) e) i))

  pub earn_all_room : size (rows_earn_in A m p h (suc t)) < 2 ^ 127
  earn_all_room = let small = all_small in let le = earn_size A m p h (suc t) in omega arith

-- ---- places of a list of rows

pub apart : (S j s k u : ℕ) → s < S → u < S → j * S + s ≡ k * S + u → (j ≡ k) × (s ≡ u)
apart S j s k u ls lu e =
    let same : j ≡ k = sym (div-mul-add j S s ls) ∙ ap (λ (z : ℕ). z / S) e ∙ div-mul-add k S u lu in
    let rows : j * S ≡ k * S = ap (λ (z : ℕ). z * S) same in
    (same, omega arith)

-- before state k of joint row r the sums are formed, and all else is as before
pub record IsAdding (S r k : ℕ) (now before : List Span) (W : ℕ → Span) : Type 0 where
  pub done : (s : ℕ) → s < k → weight_in S now r s ≡ span_add (weight_in S before r s) (W s)
  pub rest : (j s : ℕ) → s < S → (r ≡ j → k ≤ s) → weight_in S now j s ≡ weight_in S before j s

module _ (S r k : ℕ) (now before : List Span) (W : ℕ → Span) (lk : k < S) (u : IsAdding S r k now before W)
    (value : Span) (is : value ≡ span_add (weight_in S now r k) (W k)) (room : r * S + k < length now) where
  pub adding_step : IsAdding S r (suc k) (set now (r * S + k) value) before W
  adding_step = record {
    done = λ s lt. elim (cases_lt s k) [
      | inl early ↦ let other : r * S + s ≢ r * S + k = λ e. absurd (omega arith) in
          rw get_or-set_other (u.done s early)
      | inr late ↦ let here : s ≡ k = omega arith in
          rw here (rw get_or-set_same (is ∙ ap (λ (w : Span). span_add w (W k))
          (u.rest r k lk (λ e. omega arith))))
    ];
    rest = λ j s ls later.
        let other : j * S + s ≢ r * S + k = λ e. let same = apart S j s r k ls lk e in
        let le = later (sym same.0) in let at = same.1 in absurd (omega arith) in
        rw get_or-set_other (u.rest j s ls (λ e. let le = later e in omega arith));
  }

-- ---- sums over joint rows and joint observations

-- one joint observation more
pub part_step : (A : Arithmetic) (m : Model) (p : SharedPolicy) (t j s i o r : ℕ) (old new W : Span)
    → r ≡ next_joint_row m p t i o
    → W ≡ weights_after_in A m (row_weight_in A m p t i) (joint_row_action m p t i) o s
    → (r ≡ j → new ≡ span_add old W) → (r ≢ j → new ≡ old) → new ≡ span_add old (row_part A m p t j s i o)
unfolding row_part
part_step A m p t j s i o r old new W to is here others = at (next_joint_row m p t i o == j) refl
  where
    at : (b : Bool) → (next_joint_row m p t i o == j) ≡ b
        → new ≡ span_add old (cond b (weights_after_in A m (row_weight_in A m p t i) (joint_row_action m p t i)
        o s) (point (pos 0)))
    at true e = here (to ∙ eqb-true (next_joint_row m p t i o) j e) ∙ ap (span_add old) is
    at false e = others (λ q. let same = eq-eqb (next_joint_row m p t i o) j (sym to ∙ q) in
        let no_way : false ≡ true = sym e ∙ same in absurd (let f : false ≡ true = no_way in cc))
        ∙ sym (span_add_none old)

pub gives_all : (A : Arithmetic) (m : Model) (p : SharedPolicy) (t j s i : ℕ)
    → span_add (span_sum i (row_gives A m p t j s)) (span_sum (joint_observations m) (row_part A m p t j s i))
    ≡ span_sum (suc i) (row_gives A m p t j s)
unfolding row_gives
gives_all A m p t j s i = refl

pub stage_all : (A : Arithmetic) (m : Model) (p : SharedPolicy) (t j s : ℕ)
    → span_sum (joint_row_count p t) (row_gives A m p t j s) ≡ row_weight_in A m p (suc t) j s
unfolding row_gives row_part
stage_all A m p t j s = refl

module _ (A : Arithmetic) (C : Calls) (m : Model) (h : ℕ) (p : SharedPolicy) (is : IsSharable A C m h p) (t : ℕ)
    (lt : t < h) (s : ℕ) (ls : s < m.states) (j : ℕ) where
  part_size : (i o : ℕ) → size (row_part A m p t j s i o) ≤ nat_sum m.states
      (λ u. size (weights_after_in A m (row_weight_in A m p t i) (joint_row_action m p t i) o u))
  unfolding row_part
  part_size i o = at (next_joint_row m p t i o == j)
    where
      at : (b : Bool) → size (cond b (weights_after_in A m (row_weight_in A m p t i) (joint_row_action m p t i)
          o s) (point (pos 0))) ≤ nat_sum m.states (λ u. size
          (weights_after_in A m (row_weight_in A m p t i) (joint_row_action m p t i) o u))
      at true = nat_sum_at m.states (λ u. size (weights_after_in A m (row_weight_in A m p t i)
          (joint_row_action m p t i) o u)) s ls
      at false = omega arith

  gives_size : (i : ℕ) → size (row_gives A m p t j s i) ≤ nat_sum (joint_observations m)
      (λ o. size (row_part A m p t j s i o))
  unfolding row_gives
  gives_size i = span_sum_size (joint_observations m) (row_part A m p t j s i)

  -- each sum that is formed fits
  pub part_room : (i o : ℕ) → i < joint_row_count p t → o < joint_observations m
      → size (span_add (span_add (span_sum i (row_gives A m p t j s)) (span_sum o (row_part A m p t j s i)))
      (row_part A m p t j s i o)) < 2 ^ 127
  unfolding rows_update_size
  part_room i o li lo =
      let O = joint_observations m in
      let G = λ (k : ℕ). nat_sum O (λ o. size (row_part A m p t j s k o)) in
      let first = size_add (span_add (span_sum i (row_gives A m p t j s)) (span_sum o (row_part A m p t j s i)))
      (row_part A m p t j s i o) in
      let second = size_add (span_sum i (row_gives A m p t j s)) (span_sum o (row_part A m p t j s i)) in
      let earlier = span_sum_size i (row_gives A m p t j s) in
      let each = nat_sum_le i (λ k. size (row_gives A m p t j s k)) G (λ k lk. gives_size k) in
      let seen = span_sum_size o (row_part A m p t j s i) in
      let row = nat_sum_part (suc o) O (λ o. size (row_part A m p t j s i o)) lo in
      let rows = nat_sum_part (suc i) (joint_row_count p t) G li in
      let whole = nat_sum_le (joint_row_count p t) G (λ k. nat_sum O
      (λ o. nat_sum m.states (λ u. size (weights_after_in A m (row_weight_in A m p t k)
      (joint_row_action m p t k) o u))))
      (λ k lk. nat_sum_le O (λ o. size (row_part A m p t j s k o))
      (λ o. nat_sum m.states (λ u. size (weights_after_in A m (row_weight_in A m p t k)
      (joint_row_action m p t k) o u))) (λ o lo. part_size k o)) in
      let all = is.share.update p t is.shared lt in
      omega arith

pub part_here : (A : Arithmetic) (m : Model) (p : SharedPolicy) (t s i o r : ℕ) → r ≡ next_joint_row m p t i o
    → row_part A m p t r s i o ≡ weights_after_in A m (row_weight_in A m p t i) (joint_row_action m p t i) o s
unfolding row_part
part_here A m p t s i o r to =
    ap (λ (b : Bool). cond b (weights_after_in A m (row_weight_in A m p t i) (joint_row_action m p t i) o s)
    (point (pos 0))) (eq-eqb (next_joint_row m p t i o) r (sym to))

pub span_assoc : (a b c : Span) → span_add (span_add a b) c ≡ span_add a (span_add b c)
span_assoc a b c = span_equal _ _ (+ℤ_assoc a.low b.low c.low) (+ℤ_assoc a.high b.high c.high)

pub worth_is : (A : Arithmetic) (m : Model) (h : ℕ) (p : SharedPolicy)
    → rows_earn_in A m p h h ≡ shared_worth_in A m h p
unfolding shared_worth_in
worth_is A m h p = refl
