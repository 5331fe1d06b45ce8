-- What look-ahead asks for, in the arithmetic of a mode.
use Rattle.std.proofs.Common.{◌≡◌, ℕ, ◌-◌, ◌≤◌, Bool, true, false, ℤ, List, length, sym, subst, ◌∙◌, arith}
use Rattle.std.proofs.lemmas.Bool.{true≢false}
use Rattle.dp_spec.specs.declared.span.Span.{Span}
use Rattle.dp_spec.specs.declared.scales.Scales.{Scales}
use Rattle.dp_spec.specs.Model.{IsModel, Model}
use Rattle.dp_spec.specs.Mode.{IsTrueFit, is_exact_mode}
use Rattle.dp_spec.specs.Arithmetic.{arithmetic}
use Rattle.dp_spec.specs.Calls.{calls_in}
use Rattle.dp_spec.specs.Sizes.{AreWeights, CanUpdateWeights, CanReward}
use Rattle.dp_spec.specs.SizesOfLookAhead.{CanLookAhead}
use Rattle.dp_laws.proofs.SizeLaws.{arithmetic_is_exact, mode_can_look_ahead, mode_can_update_weights}
use Rattle.dp_laws.proofs.SizeLaws.{mode_can_reward}
use Rattle.dp_laws.proofs.ScaledWeights.{scaled_spans_action_look_ahead, scaled_spans_look_ahead}
use Rattle.dp_laws.proofs.Zeros.{mode_keeps_zero}
use Rattle.dp_mdp.specs.TableRows.{IsTable, KeptTable}
use Rattle.dp_pomdp.specs.Looking.{IsLooking, ScalesActions, ScalesLook, WeighsRewards, weights_of}
use Rattle.dp_pomdp.proofs.WeighedRewards.{exact_weighs}
use Rattle.dp_pomdp.specs.Memos.{AreKept, KeptLook, look_of}

-- the look-ahead of the exact arithmetic scales with the weights
mode_scales : (e : Bool) (m : Model) → IsModel m → (c : Scales) → c ≡ m.scales → (arithmetic e c).is_exact ≡ true
    → ScalesLook (arithmetic e c) m × ScalesActions (arithmetic e c) m
mode_scales true m is c same exact =
    subst (λ (c : Scales). ScalesLook (arithmetic true c) m × ScalesActions (arithmetic true c) m) (sym same) (
      λ r look k w ws vs here scaled. scaled_spans_look_ahead m is r look k w ws vs here scaled,
      λ r look k a w ws vs here scaled. scaled_spans_action_look_ahead m is r look k a w ws vs here scaled,
    )
mode_scales false m is c same exact = absurd (true≢false (sym exact ∙ arithmetic_is_exact false c))

-- in the exact arithmetic a weight earns so many times what the weight 1 earns
mode_weighs : (e : Bool) (m : Model) (c : Scales) → (arithmetic e c).is_exact ≡ true
    → WeighsRewards (arithmetic e c) m
mode_weighs true m c exact = exact_weighs m c
mode_weighs false m c exact = absurd (true≢false (sym exact ∙ arithmetic_is_exact false c))

-- The arithmetic of the mode of a true fit, made of the scales c, in the branch of a test of x where it is e:
-- weights of time t can be looked ahead from over the r steps that are left.
pub mode_looking : (e x : Bool) (c : Scales) (m : Model) → IsModel m → c ≡ m.scales → x ≡ e
    → (h t r : ℕ) (u : ℤ)
    → IsTrueFit m h x u → t ≤ h → r ≡ h - t → (ws : List Span) → length ws ≡ m.states
    → AreWeights x m t (weights_of ws) → IsLooking (arithmetic e c) (calls_in e c) m r ws
mode_looking e x c m is same branch h t r u fit early left ws one_each are =
    let mode : e ≡ is_exact_mode m h = sym branch ∙ fit.mode in
    let some = fit.horizon.0 in
    let most = fit.horizon.1 in
    record {
      zero = mode_keeps_zero e c;
      scales = λ exact. mode_scales e m is c same exact;
      weighs = λ exact. mode_weighs e m c exact;
      horizon = h;
      push = subst (λ (c : Scales). CanUpdateWeights (arithmetic e c) (calls_in e c) m h) (sym same)
          (mode_can_update_weights m is h some most e mode);
      reward = subst (λ (c : Scales). CanReward (arithmetic e c) (calls_in e c) m h) (sym same)
          (mode_can_reward m is h some most e mode);
      look = subst (λ (c : Scales). CanLookAhead (arithmetic e c) (calls_in e c) m h) (sym same)
          (mode_can_look_ahead m is h some most e mode);
      time = t;
      left = omega arith;
      one_each = one_each;
      weights = subst (λ (b : Bool). AreWeights b m t (weights_of ws))
          (branch ∙ sym (arithmetic_is_exact e c)) are;
    }

-- the table of at most the horizon's steps
pub mode_table : (e x : Bool) (c : Scales) (m : Model) → c ≡ m.scales → x ≡ e → (h r : ℕ) → r ≤ h
    → (rows : KeptTable) → IsTable (arithmetic x m.scales) m h rows → IsTable (arithmetic e c) m r rows
mode_table e x c m same branch h r le rows table =
    let here = subst (λ (b : Bool). IsTable (arithmetic b m.scales) m h rows) branch table in
    let is = subst (λ (c : Scales). IsTable (arithmetic e c) m h rows) (sym same) here in
    record {
      long = let long = is.long in omega arith;
      each = λ q below. is.each q (omega arith);
      rewards = is.rewards;
      as_many = let many = is.as_many in omega arith;
      powers = λ q lt. is.powers q (omega arith);
      links = is.links;
    }

-- what is kept in the arithmetic of a branch is kept in that of the mode
pub mode_kept : (e x : Bool) (c : Scales) (m : Model) → c ≡ m.scales → x ≡ e → (ks : List KeptLook)
    → AreKept (look_of (arithmetic e c) m) ks → AreKept (look_of (arithmetic x m.scales) m) ks
mode_kept e x c m same branch ks kept =
    subst (λ (b : Bool). AreKept (look_of (arithmetic b m.scales) m) ks) (sym branch)
    (subst (λ (c : Scales). AreKept (look_of (arithmetic e c) m) ks) same kept)
