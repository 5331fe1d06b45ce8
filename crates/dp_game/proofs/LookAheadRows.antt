-- The rows of look-ahead.
use Rattle.std.proofs.Common.{◌≡◌, ℕ, suc, ◌-◌, ◌*◌, ◌^◌, ◌<◌, ◌≤◌, Bool, false, ℤ, pos, List, map, length}
use Rattle.std.proofs.Common.{refl, sym, ap, ◌∙◌, subst, arith}
use Rattle.std.specs.List.{range_with_len}
use Rattle.dp_base.specs.Sums.{greatest}
use Rattle.dp_base.proofs.GreatestValues.{greatest_ext}
use Rattle.dp_spec.specs.declared.span.Span.{Span}
use Rattle.dp_spec.specs.Arithmetic.{Arithmetic, arithmetic}
use Rattle.dp_spec.specs.Calls.{Calls, calls_in}
use Rattle.dp_spec.specs.Front.{class_counts}
use Rattle.dp_spec.specs.JointNumbers.{product}
use Rattle.dp_spec.specs.Mode.{IsTrueFit, is_exact_mode}
use Rattle.dp_spec.specs.Model.{IsModel, Model, joint_actions, joint_observations}
use Rattle.dp_spec.specs.Quantities.{action_look_ahead_in, class_weight_in}
use Rattle.dp_spec.specs.Sizes.{AreWeights}
use Rattle.dp_spec.specs.Zeros.{nothing}
use Rattle.dp_laws.proofs.EqualWeights.{action_look_ahead_in_ext, weights_same}
use Rattle.dp_laws.proofs.SizeLaws.{arithmetic_is_exact, mode_can_refine}
use Rattle.dp_cluster.specs.KeptFronts.{IsFrontOf, KeptFront, kept_weight}
use Rattle.dp_cluster.proofs.OwnParts.{same_map}
use Rattle.dp_pomdp.specs.Looking.{AreZero, IsLooking, weights_of}
use Rattle.dp_pomdp.proofs.Cuts.{none, none_action}
use Rattle.dp_pomdp.proofs.Modes.{mode_looking}
use Rattle.dp_pomdp.proofs.Pushes.{no_weight}
use Rattle.dp_game.specs.Bounders.{IsBounderOf, KeptBounder}
use Rattle.dp_game.specs.Kept.{look_ahead_row}

-- without weight nothing is earned
zero_action : (A : Arithmetic) (C : Calls) (m : Model) (r : ℕ) (ws : List Span) → IsLooking A C m (suc r) ws →
    AreZero ws
    → (a k : ℕ) → pos 0 ≡ action_look_ahead_in A m r (weights_of ws) a k
zero_action A C m r ws is zero_all a k =
    let each : (s : ℕ) → s < m.states → weights_of ws s ≡ nothing =
    λ s p. no_weight A C m (suc r) ws is s p (zero_all s (let len = is.one_each in omega arith)) in
    sym (action_look_ahead_in_ext A m r k (weights_of ws) none a each ∙ none_action A m is.zero r k a)

pub nothing_earned : (e : Bool) (m : Model) → IsModel m → (h t : ℕ) (u : ℤ) → IsTrueFit m h e u → t < h →
    (ws : List Span)
    → length ws ≡ m.states → AreWeights e m t (weights_of ws) → AreZero ws → (a k : ℕ)
    → pos 0 ≡ action_look_ahead_in (arithmetic e m.scales) m (h - t - 1) (weights_of ws) a k
nothing_earned e m is h t u fit early ws one_each are zero_all a k =
    let left : suc (h - t - 1) ≡ h - t = omega arith in
    zero_action (arithmetic e m.scales) (calls_in e m.scales) m (h - t - 1) ws
    (mode_looking e e m.scales m is refl refl h t (suc (h - t - 1)) u fit (omega arith) left ws one_each are)
    zero_all a k

-- ---- the row of a joint class of a front

-- a front and a bounder of one horizon have one mode
pub same_mode : (m : Model) (k : KeptFront) (b : KeptBounder) → IsFrontOf m k → IsBounderOf m b → k.horizon ≡
    b.horizon
    → k.is_exact ≡ b.is_exact
same_mode m k b is bo same = is.mode ∙ ap (is_exact_mode m) same ∙ sym bo.fit.mode

module _ (m : Model) (k : KeptFront) (b : KeptBounder) (is : IsFrontOf m k) (bo : IsBounderOf m b)
    (same : k.horizon ≡ b.horizon) (lt : k.front.stage < k.horizon)
    (cells : k.is_exact ≡ false → m.states * joint_observations m ^ k.front.stage ≤ 2 ^ 22) (C : ℕ)
    (hC : C < product (class_counts k.front.agents)) (ws : List Span) (many : length ws ≡ k.states)
    (are : (s : ℕ) → s < k.states → weights_of ws s ≡ kept_weight k C s) where
  abbrev A : Arithmetic
  A = arithmetic b.is_exact m.scales

  pub one_each : length ws ≡ m.states
  one_each = many ∙ is.states

  one_mode : k.is_exact ≡ b.is_exact
  one_mode = same_mode m k b is bo same

  pub weights_are : (s : ℕ) → s < m.states → weights_of ws s ≡ class_weight_in A m k.front C s
  weights_are s p =
      are s (rw is.states p) ∙ is.weights lt C s hC p
      ∙ ap (λ (e : Bool). class_weight_in (arithmetic e m.scales) m k.front C s) one_mode

  pub row_weights : AreWeights b.is_exact m k.front.stage (weights_of ws)
  row_weights =
      let mode : b.is_exact ≡ is_exact_mode m k.horizon = sym one_mode ∙ is.mode in
      let can = mode_can_refine m is.model k.horizon is.some_step is.horizon b.is_exact mode k.front is.front lt
      (λ e. cells (one_mode ∙ e)) in
      weights_same b.is_exact m k.front.stage (class_weight_in A m k.front C) (weights_of ws)
      (λ s p. sym (weights_are s p))
      (subst (λ (e : Bool). AreWeights e m k.front.stage (class_weight_in A m k.front C))
      (arithmetic_is_exact b.is_exact m.scales) (can.weights C))

  pub row_is : map (λ a. action_look_ahead_in A m (b.horizon - k.front.stage - 1) (weights_of ws) a b.look)
      (range_with_len 0 (joint_actions m))
      ≡ look_ahead_row A m (b.horizon - k.front.stage - 1) k.front b.look C
  row_is =
      same_map (joint_actions m) (pos 0) _ _ (λ a p.
      action_look_ahead_in_ext A m (b.horizon - k.front.stage - 1) b.look (weights_of ws)
      (class_weight_in A m k.front C) a weights_are)

  -- the greatest look-ahead from the weights is that of the joint class
  pub looks_are : (look : ℕ) (xs : List ℕ)
      → greatest (λ a. action_look_ahead_in A m (b.horizon - k.front.stage - 1) (weights_of ws) a look) xs
      ≡ greatest (λ a. action_look_ahead_in A m (b.horizon - k.front.stage - 1) (class_weight_in A m k.front C) a
      look) xs
  looks_are look xs =
      greatest_ext _ _ xs (λ a i.
      action_look_ahead_in_ext A m (b.horizon - k.front.stage - 1) look (weights_of ws)
      (class_weight_in A m k.front C) a weights_are)
