-- One step of look-ahead as loops form it.
use Rattle.std.specs.Int.{w128}
use Rattle.std.proofs.lemmas.Int.{fits_signed_from_abs}
use Rattle.dp_mdp.proofs.RunningSums.{read_back}
use Rattle.std.proofs.Common.{FitsSigned, to_z, of_z, add-one, ◌≡◌, ℕ, suc, zero, ◌+◌, ◌-◌, ◌*◌, ◌^◌, ◌<◌, ◌≤◌, ℤ}
use Rattle.std.proofs.Common.{pos, ◌+ℤ◌, length, unsigned_abs, List, refl, sym, subst, ◌∙◌, arith}
use Rattle.std.proofs.Math.Nat.{suc-mul}
use Rattle.std.proofs.lemmas.Int.{ints}
use Rattle.dp_spec.specs.declared.span.Span.{Span}
use Rattle.dp_base.specs.Sums.{int_sum}
use Rattle.dp_spec.specs.Model.{Model, joint_actions, joint_observations}
use Rattle.dp_spec.specs.Arithmetic.{Arithmetic}
use Rattle.dp_spec.specs.Calls.{Calls}
use Rattle.dp_spec.specs.Quantities.{look_ahead_in, mdp_table_in}
use Rattle.dp_spec.specs.Quantities.{weighted_table_in, weights_after_in}
use Rattle.dp_spec.specs.SizesOfLookAhead.{weighted_table_size}
use Rattle.dp_laws.proofs.SizeSums.{int_sum_part}
use Rattle.dp_pomdp.specs.Looking.{AreZero, IsLooking, weights_of}
use Rattle.dp_laws.proofs.EqualWeights.{look_ahead_in_ext, weights_same}
use Rattle.dp_mdp.specs.TableRows.{IsTable, KeptTable}
use Rattle.dp_spec.specs.Zeros.{nothing}
use Rattle.dp_pomdp.proofs.Cuts.{no_look, none}
use Rattle.dp_pomdp.proofs.Pushes.{no_weight}

-- the first parts of weights against the table
pub against_part_fits : (A : Arithmetic) (C : Calls) (m : Model) (r : ℕ) (ws : List Span) → IsLooking A C m r ws
    → (k : ℕ) → k ≤ m.states → unsigned_abs (int_sum k (λ s. A.tail (weights_of ws s) (mdp_table_in A m r s)))
    < 2 ^ 127
unfolding weighted_table_size
against_part_fits A C m r ws is k le =
    let part = int_sum_part k m.states (λ s. A.tail (weights_of ws s) (mdp_table_in A m r s)) le in
    let all = is.look.tails is.time r (weights_of ws) is.left is.weights in omega arith

pub sum_is_against : (A : Arithmetic) (m : Model) (r : ℕ) (ws : ℕ → Span) (k : ℕ) (total : ℤ)
    → total ≡ int_sum k (λ s. A.tail (ws s) (mdp_table_in A m r s)) → k ≡ m.states
    → total ≡ weighted_table_in A m r ws
unfolding weighted_table_in
sum_is_against A m r ws k total is all = rw (is, all) refl

pub tail_is : (A : Arithmetic) (x : ℤ) (w : Span) (v v2 : ℤ) → x ≡ A.tail w v → v ≡ v2 → x ≡ A.tail w v2
tail_is A x w v v2 e f = rw (sym f) e

-- nothing is earned where no state has a weight
pub zero_look : (A : Arithmetic) (C : Calls) (m : Model) (r : ℕ) (ws : List Span) → IsLooking A C m r ws
    → AreZero ws
    → (k : ℕ) → pos 0 ≡ look_ahead_in A m r (weights_of ws) k
zero_look A C m r ws is none_held k =
    let each : (s : ℕ) → s < m.states → weights_of ws s ≡ nothing =
    λ s p. no_weight A C m r ws is s p (none_held s (let len = is.one_each in omega arith)) in
    sym (look_ahead_in_ext A m r k (weights_of ws) none each ∙ no_look A m is.zero r k)

-- the same weights, where the steps that are left are one and those after it
pub looking_now : (A : Arithmetic) (C : Calls) (m : Model) (r rest : ℕ) (ws : List Span) → rest ≡ suc r
    → IsLooking A C m rest ws → IsLooking A C m (suc r) ws
looking_now A C m r rest ws e is = subst (λ (n : ℕ). IsLooking A C m n ws) e is

pub table_now : (A : Arithmetic) (m : Model) (r rest : ℕ) (rows : KeptTable) → rest ≡ suc r
    → IsTable A m rest rows → IsTable A m (suc r) rows
table_now A m r rest rows e is = subst (λ (n : ℕ). IsTable A m n rows) e is

-- the table of fewer steps
pub table_before : (A : Arithmetic) (m : Model) (r : ℕ) (rows : KeptTable) → IsTable A m (suc r) rows
    → IsTable A m r rows
table_before A m r rows table = record {
  long = let long = table.long in omega arith;
  each = λ q le. table.each q (omega arith);
  rewards = table.rewards;
  as_many = let many = table.as_many in omega arith;
  powers = λ q lt. table.powers q (omega arith);
  links = table.links;
}

-- the room of the deeper steps
pub deeper_room : (look states room deeper mid : ℕ) → 0 < look → look * states ≤ room → deeper + mid ≡ room
    → mid ≡ states → (look - 1) * states ≤ deeper
deeper_room zero states room deeper mid some le split here = absurd (omega arith)
deeper_room (suc k) states room deeper mid some le split here =
    let more : suc k * states ≡ k * states + states = suc-mul k states in
    let one : suc k - 1 ≡ k = omega arith in
    rw one (omega arith)

-- the weights after a joint action and a joint observation are weights to look ahead from too
pub looking_next : (A : Arithmetic) (C : Calls) (m : Model) (r : ℕ) (ws next : List Span) (a o : ℕ)
    → IsLooking A C m (suc r) ws → a < joint_actions m → o < joint_observations m → length next ≡ m.states
    → ((t : ℕ) → t < m.states → weights_of next t ≡ weights_after_in A m (weights_of ws) a o t)
    → IsLooking A C m r next
looking_next A C m r ws next a o is pa po len same = record {
  zero = is.zero;
  scales = is.scales;
  weighs = is.weighs;
  horizon = is.horizon;
  push = is.push;
  reward = is.reward;
  look = is.look;
  time = suc is.time;
  left = let all = is.left in omega arith;
  one_each = len;
  weights = weights_same A.is_exact m (suc is.time) (weights_after_in A m (weights_of ws) a o) (weights_of next)
      (λ t p. sym (same t p)) (is.push.updated is.time (weights_of ws) a o (let all = is.left in omega arith)
      is.weights pa po);
}

-- ---- the running sum after a first part

assoc : (r s v : ℤ) → (r +ℤ s) +ℤ v ≡ r +ℤ (s +ℤ v)
assoc r s v = omega (arith, ints)

pub offset_fits : (first : ℤ) (k : ℕ) (f : ℕ → ℤ) (total term : ℤ) → total ≡ first +ℤ int_sum k f → term ≡ f k
    → unsigned_abs (first +ℤ int_sum (suc k) f) < 2 ^ 127 → FitsSigned w128 (total +ℤ term)
offset_fits first k f total term e t small =
    rw (e, t, assoc first (int_sum k f) (f k)) (fits_signed_from_abs w128 (first +ℤ int_sum (suc k) f) small)

pub offset_next : (first : ℤ) (k : ℕ) (f : ℕ → ℤ) (total term : ℤ) → total ≡ first +ℤ int_sum k f → term ≡ f k
    → unsigned_abs (first +ℤ int_sum (suc k) f) < 2 ^ 127
    → to_z w128 (of_z w128 (total +ℤ term)) ≡ first +ℤ int_sum (k + 1) f
offset_next first k f total term e t small =
    rw (add-one, e, t) (read_back _ (first +ℤ int_sum (suc k) f) (assoc first (int_sum k f) (f k)) small)
