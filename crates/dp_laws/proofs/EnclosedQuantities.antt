-- In a sound arithmetic what is computed for each quantity encloses its exact definition.
use Rattle.std.proofs.Common.{◌≡◌, ℕ, zero, suc, ◌+◌, ◌-◌, ◌*◌, ◌^◌, ◌<◌, ◌≤◌, Bool, true, false, cond, eqb, ℤ, pos}
use Rattle.std.proofs.Common.{◌*ℤ◌, List, [], ◌∷◌, refl, ap, ◌∙◌, subst, arith}
use Rattle.dp_spec.specs.declared.span.Span.{Span}
use Rattle.dp_spec.proofs.QuantityScales.{reward_factor_is, step_scale_is, scale_after_carry, scale_after_reward}
use Rattle.dp_spec.proofs.QuantityScales.{scale_after_step, scale_after_tail, scale_at_stage, scale_of_first}
use Rattle.dp_spec.proofs.QuantityScales.{scale_of_next}
use Rattle.dp_laws.proofs.TableBound.{look_ahead_le_table}
use Rattle.dp_spec.specs.Arithmetic.{Arithmetic, point}
use Rattle.dp_spec.specs.Bound.{agreeing_actions, bound_of}
use Rattle.dp_spec.specs.Enclosure.{Enclosure, IsSound}
use Rattle.dp_spec.specs.Front.{Front, class_counts, class_weight, fixed_joint_action, joint_class}
use Rattle.dp_spec.specs.JointHistory.{IsJointHistory, earned_reward, history_weight, int_history_sum}
use Rattle.dp_spec.specs.JointHistory.{nat_history_sum}
use Rattle.dp_spec.specs.JointNumbers.{product}
use Rattle.dp_spec.specs.LookAhead.{action_look_ahead, look_ahead, weighted_reward, weights_after}
use Rattle.dp_spec.specs.MdpTable.{mdp_table}
use Rattle.dp_spec.specs.Model.{IsModel, Model, joint_actions, joint_observations, obs_at, reward_at, start_at}
use Rattle.dp_spec.specs.Model.{step_scale, trans_at, value_scale}
use Rattle.dp_spec.specs.Quantities.{action_look_ahead_in, bound_in, class_weight_in, earned_reward_in}
use Rattle.dp_spec.specs.Quantities.{history_weight_in, look_ahead_in, mdp_table_in, span_history_sum, span_sum}
use Rattle.dp_spec.specs.Quantities.{weighted_reward_in, weighted_table_in, weights_after_in}
use Rattle.dp_base.specs.Sums.{greatest, int_sum, nat_sum, numbers_below}

module _ (m : Model) (A : Arithmetic) (R : Enclosure) (ok : IsSound m.scales A R) where
  -- equal scales and equal weights
  pub weighs_same : (T T' w w' : ℕ) (s : Span) → T ≡ T' → w ≡ w' → R.Weighs T w s → R.Weighs T' w' s
  weighs_same T T' w w' s e f h = subst (λ (t : ℕ). R.Weighs t w' s) e (subst (λ (x : ℕ). R.Weighs T x s) f h)

  -- equal scales
  pub earns_same : (T T' : ℕ) (x : ℤ) (s : Span) → T ≡ T' → R.Earns T x s → R.Earns T' x s
  earns_same T T' x s e h = subst (λ (t : ℕ). R.Earns t x s) e h

  -- equal scales, from above
  upper_same : (T T' : ℕ) (x v : ℤ) → T ≡ T' → R.IsUpperBound T x v → R.IsUpperBound T' x v
  upper_same T T' x v e h = subst (λ (t : ℕ). R.IsUpperBound t x v) e h

  -- ---- sums
  -- sums over the numbers below n
  pub weighs_sum : (T n : ℕ) (w : ℕ → ℕ) (s : ℕ → Span) → ((i : ℕ) → i < n → R.Weighs T (w i) (s i))
      → R.Weighs T (nat_sum n w) (span_sum n s)
  weighs_sum T zero w s h = ok.no_weight T
  weighs_sum T (suc n) w s h = ok.more_weight T _ _ _ _ (weighs_sum T n w s (λ i p. h i (omega arith)))
      (h n (omega arith))

  -- of what is earned
  pub earns_sum : (F n : ℕ) (x : ℕ → ℤ) (s : ℕ → Span) → ((i : ℕ) → i < n → R.Earns F (x i) (s i))
      → R.Earns F (int_sum n x) (span_sum n s)
  earns_sum F zero x s h = ok.no_gain F
  earns_sum F (suc n) x s h = ok.more_gain F _ _ _ _ (earns_sum F n x s (λ i p. h i (omega arith)))
      (h n (omega arith))

  -- of numbers from above
  pub upper_sum : (F n : ℕ) (x u : ℕ → ℤ) → ((i : ℕ) → i < n → R.IsUpperBound F (x i) (u i))
      → R.IsUpperBound F (int_sum n x) (int_sum n u)
  upper_sum F zero x u h = ok.no_upper F
  upper_sum F (suc n) x u h = ok.more_upper F _ _ _ _ (upper_sum F n x u (λ i p. h i (omega arith)))
      (h n (omega arith))

  -- the greatest over a list
  pub upper_greatest : (F : ℕ) (x u : ℕ → ℤ) (xs : List ℕ) → ((a : ℕ) → R.IsUpperBound F (x a) (u a))
      → R.IsUpperBound F (greatest x xs) (greatest u xs)
  upper_greatest F x u [] h = ok.no_upper F
  upper_greatest F x u (a ∷ []) h = h a
  upper_greatest F x u (a ∷ (b ∷ as')) h = ok.greater F _ _ _ _ (h a) (upper_greatest F x u (b ∷ as') h)

  -- sums over joint histories
  pub weighs_history_sum : (T n t : ℕ) (w : List ℕ → ℕ) (s : List ℕ → Span)
      → ((H : List ℕ) → IsJointHistory n t H → R.Weighs T (w H) (s H))
      → R.Weighs T (nat_history_sum n t w) (span_history_sum n t s)
  weighs_history_sum T n zero w s h = h [] tt
  weighs_history_sum T n (suc t) w s h = weighs_history_sum T n t _ _
      (λ H p. weighs_sum T n _ _ (λ o q. h (o ∷ H) (q, p)))

  -- of what is earned
  pub earns_history_sum : (F n t : ℕ) (x : List ℕ → ℤ) (s : List ℕ → Span)
      → ((H : List ℕ) → IsJointHistory n t H → R.Earns F (x H) (s H))
      → R.Earns F (int_history_sum n t x) (span_history_sum n t s)
  earns_history_sum F n zero x s h = h [] tt
  earns_history_sum F n (suc t) x s h = earns_history_sum F n t _ _
      (λ H p. earns_sum F n _ _ (λ o q. h (o ∷ H) (q, p)))

  -- ---- weights and rewards
  -- a weight times a reward, by the scale of a step
  gain_of : (T w r : ℕ) (x : ℤ) (s : Span) → R.Weighs T w s →
      R.Earns (T * (m.scales.discount * step_scale m ^ r) * m.scales.reward)
      (pos w *ℤ (x *ℤ pos (m.scales.discount * step_scale m ^ r))) (A.gain s x r)
  gain_of T w r x s h =
      subst (λ (n : ℕ). R.Earns (T * n * m.scales.reward) (pos w *ℤ (x *ℤ pos n)) (A.gain s x r))
      (reward_factor_is m r) (ok.gain T w r x s h)

  -- a value of the table times a chance, by the scale of a step
  carry_of : (F p : ℕ) (x u : ℤ) → R.IsUpperBound F x u
      → R.IsUpperBound (F * step_scale m) (pos (p * m.scales.obs * m.scales.gain) *ℤ x) (A.carry u p)
  carry_of F p x u h =
      subst (λ (n : ℕ). R.IsUpperBound (F * n) (pos (p * m.scales.obs * m.scales.gain) *ℤ x) (A.carry u p))
      (step_scale_is m) (ok.carry F p x u h)

  -- the weights one step on
  pub weights_after_enclosed : (T : ℕ) (w : ℕ → ℕ) (ws : ℕ → Span) (a o t : ℕ)
      → ((s : ℕ) → s < m.states → R.Weighs T (w s) (ws s))
      → R.Weighs (T * step_scale m) (weights_after m w a o t) (weights_after_in A m ws a o t)
  unfolding weights_after weights_after_in
  weights_after_enclosed T w ws a o t h =
      weighs_sum _ m.states _ _ (λ s p. weighs_same _ _ _ _ _ (scale_after_step m T) (omega arith)
      (ok.later _ _ _ (ok.chance _ _ (trans_at m a s t) (obs_at m a t o) _ (h s p))))

  -- the reward of a joint action
  pub weighted_reward_enclosed : (T r : ℕ) (w : ℕ → ℕ) (ws : ℕ → Span) (a : ℕ)
      → ((s : ℕ) → s < m.states → R.Weighs T (w s) (ws s)) →
      R.Earns (T * (m.scales.reward * step_scale m ^ suc r)) (weighted_reward m r w a)
      (weighted_reward_in A m r ws a)
  unfolding weighted_reward weighted_reward_in
  weighted_reward_enclosed T r w ws a h =
      earns_sum _ m.states _ _ (λ s p. earns_sum _ m.states _ _
      (λ t q. earns_sum _ (joint_observations m) _ _ (λ o u.
      earns_same _ _ _ _ (scale_after_reward m T r) (gain_of _ _ r (reward_at m a s t o) _
      (ok.chance _ _ (trans_at m a s t) (obs_at m a t o) _ (h s p))))))

  -- ---- tables
  -- a reward of the table, from the weight 1
  table_reward_enclosed : (r p z : ℕ) (x : ℤ)
      → R.Earns (m.scales.reward * step_scale m ^ suc r) (pos (p * z) *ℤ
      (x *ℤ pos (m.scales.discount * step_scale m ^ r))) (A.gain (A.chance A.one p z) x r)
  table_reward_enclosed r p z x =
      let e : 1 * (p * z) ≡ p * z = omega arith in
      let scale : 1 * (m.scales.trans * m.scales.obs) * (m.scales.discount * step_scale m ^ r) * m.scales.reward
      ≡ m.scales.reward * step_scale m ^ suc r = scale_after_reward m 1 r ∙ omega arith in
      subst (λ (n : ℕ). R.Earns (m.scales.reward * step_scale m ^ suc r)
      (pos n *ℤ (x *ℤ pos (m.scales.discount * step_scale m ^ r))) (A.gain (A.chance A.one p z) x r)) e
      (earns_same _ _ _ _ scale (gain_of _ _ r x _ (ok.chance _ _ p z _ ok.one)))

  -- the table
  pub mdp_table_enclosed : (r s : ℕ)
      → R.IsUpperBound (m.scales.reward * step_scale m ^ r) (mdp_table m r s) (mdp_table_in A m r s)
  mdp_table_enclosed zero s = ok.no_upper _
  mdp_table_enclosed (suc r) s =
      upper_greatest _ _ _ (numbers_below (joint_actions m)) (λ a.
      ok.more_upper _ _ _ _ _
      (ok.upper_end _ _ _ (earns_sum _ m.states _ _ (λ t q. earns_sum _ (joint_observations m) _ _
      (λ o u. table_reward_enclosed r (trans_at m a s t) (obs_at m a t o) (reward_at m a s t o)))))
      (upper_sum _ m.states _ _ (λ t q. upper_same _ _ _ _ (scale_after_carry m r)
      (carry_of _ (trans_at m a s t) _ _ (mdp_table_enclosed r t)))))

  -- weights against the table
  pub weighted_table_enclosed : (T r : ℕ) (w : ℕ → ℕ) (ws : ℕ → Span)
      → ((s : ℕ) → s < m.states → R.Weighs T (w s) (ws s)) →
      R.IsUpperBound (T * (m.scales.reward * step_scale m ^ r))
      (int_sum m.states (λ s. pos (w s) *ℤ mdp_table m r s)) (weighted_table_in A m r ws)
  unfolding weighted_table_in
  weighted_table_enclosed T r w ws h = upper_sum _ m.states _ _
      (λ s p. ok.tail _ _ _ _ _ _ (h s p) (mdp_table_enclosed r s))

  -- ---- weights of histories and of classes, and what is earned
  -- the weight of a joint history and a state
  pub history_weight_enclosed : (act : List ℕ → ℕ) (t : ℕ) (H : List ℕ) (s : ℕ)
      → IsJointHistory (joint_observations m) t H
      → R.Weighs (m.scales.start * step_scale m ^ t) (history_weight m act H s) (history_weight_in A m act H s)
  history_weight_enclosed act zero [] s h = weighs_same _ _ _ _ _ (scale_of_first m) refl
      (ok.start (start_at m s))
  history_weight_enclosed act zero (o ∷ H) s h = absurd h
  history_weight_enclosed act (suc t) [] s h = absurd h
  history_weight_enclosed act (suc t) (o ∷ H) s h = weighs_same _ _ _ _ _ (scale_of_next m t) refl
      (weights_after_enclosed _ _ _ (act H) o s (λ s p. history_weight_enclosed act t H s h.1))

  -- a weight where a test holds
  pub weighs_where : (T w : ℕ) (s : Span) (b : Bool) → R.Weighs T w s
      → R.Weighs T (cond b w 0) (cond b s (point (pos 0)))
  weighs_where T w s true h = h
  weighs_where T w s false h = ok.no_weight T

  -- the weight of a joint class and a state
  pub class_weight_enclosed : (F : Front) (C s : ℕ)
      → R.Weighs (m.scales.start * step_scale m ^ F.stage) (class_weight m F C s) (class_weight_in A m F C s)
  unfolding class_weight class_weight_in
  class_weight_enclosed F C s =
      weighs_history_sum _ (joint_observations m) F.stage _ _
      (λ H p. weighs_where _ _ _ (eqb (joint_class m F H) C)
      (history_weight_enclosed (fixed_joint_action m F) F.stage H s p))

  -- what is earned before a time
  pub earned_reward_enclosed : (act : List ℕ → ℕ) (h f : ℕ) → f ≤ h
      → R.Earns (value_scale m h) (earned_reward m act h f) (earned_reward_in A m act h f)
  earned_reward_enclosed act h zero le = ok.no_gain _
  earned_reward_enclosed act h (suc f) le =
      ok.more_gain _ _ _ _ _ (earned_reward_enclosed act h f (omega arith))
      (earns_history_sum _ (joint_observations m) f _ _ (λ H p.
      earns_same _ _ _ _ (scale_at_stage m f (suc (h - suc f)) ∙ ap (λ (n : ℕ). value_scale m n) (omega arith))
      (weighted_reward_enclosed _ (h - suc f) _ _ (act H) (λ s q. history_weight_enclosed act f H s p))))

  -- ---- look-ahead and bounds
  -- look-ahead
  pub look_ahead_enclosed : IsModel m → (T r k : ℕ) (w : ℕ → ℕ) (ws : ℕ → Span)
      → ((s : ℕ) → s < m.states → R.Weighs T (w s) (ws s))
      → R.IsUpperBound (T * (m.scales.reward * step_scale m ^ r)) (look_ahead m r w k)
      (look_ahead_in A m r ws k)
  look_ahead_enclosed is T zero k w ws h = ok.no_upper _
  look_ahead_enclosed is T (suc r) zero w ws h = weighted_table_enclosed T (suc r) w ws h
  look_ahead_enclosed is T (suc r) (suc k) w ws h =
      ok.smaller _ _ _ _ _ (look_ahead_le_table m is (suc r) (suc k) w)
      (upper_greatest _ _ _ (numbers_below (joint_actions m)) (λ a.
      ok.more_upper _ _ _ _ _ (ok.upper_end _ _ _ (weighted_reward_enclosed T r w ws a h))
      (upper_sum _ (joint_observations m) _ _ (λ o p. upper_same _ _ _ _ (scale_after_tail m T r)
      (look_ahead_enclosed is (T * step_scale m) r k (weights_after m w a o) (weights_after_in A m ws a o)
      (λ t q. weights_after_enclosed T w ws a o t h))))))
      (weighted_table_enclosed T (suc r) w ws h)

  -- look-ahead of a joint action
  pub action_look_ahead_enclosed : IsModel m → (T r k : ℕ) (w : ℕ → ℕ) (ws : ℕ → Span) (a : ℕ)
      → ((s : ℕ) → s < m.states → R.Weighs T (w s) (ws s))
      → R.IsUpperBound (T * (m.scales.reward * step_scale m ^ suc r)) (action_look_ahead m r w a k)
      (action_look_ahead_in A m r ws a k)
  unfolding action_look_ahead action_look_ahead_in
  action_look_ahead_enclosed is T r k w ws a h =
      ok.more_upper _ _ _ _ _ (ok.upper_end _ _ _ (weighted_reward_enclosed T r w ws a h))
      (upper_sum _ (joint_observations m) _ _ (λ o p. upper_same _ _ _ _ (scale_after_tail m T r)
      (look_ahead_enclosed is (T * step_scale m) r (k - 1) (weights_after m w a o)
      (weights_after_in A m ws a o) (λ t q. weights_after_enclosed T w ws a o t h))))

  -- the bound of a front
  pub bound_enclosed : IsModel m → (r : ℕ) (F : Front) (look : ℕ)
      → R.IsUpperBound (value_scale m (F.stage + r)) (bound_of m r F look) (bound_in A m r F look)
  bound_enclosed is zero F look = ok.upper_end _ _ _ (earned_reward_enclosed (fixed_joint_action m F)
      (F.stage + 0)
      F.stage (omega arith))
  bound_enclosed is (suc r) F look =
      ok.more_upper _ _ _ _ _ (ok.upper_end _ _ _ (earned_reward_enclosed (fixed_joint_action m F)
      (F.stage + suc r) F.stage (omega arith)))
      (upper_sum _ (product (class_counts F.agents)) _ _ (λ C p.
      upper_greatest _ _ _ (agreeing_actions m F C) (λ a.
      upper_same _ _ _ _ (scale_at_stage m F.stage (suc r))
      (action_look_ahead_enclosed is _ r look (class_weight m F C) (class_weight_in A m F C) a
      (λ s q. class_weight_enclosed F C s)))))
