-- Rows of look-ahead from weights, by those of weights of which they are a multiple.
use Rattle.std.proofs.Common.{◌≡◌, ℕ, suc, ◌-◌, ◌^◌, ◌<◌, Bool, true, false, ℤ, pos, ◌*ℤ◌, List, map, length, get_or}
use Rattle.std.proofs.Common.{unsigned_abs, refl, sym, ap, ◌∙◌, subst, arith}
use Rattle.std.specs.List.{range_with_len}
use Rattle.std.proofs.lemmas.List.{get_or-map, length-map, same_lists}
use Rattle.std.proofs.lemmas.List.FromFn.{get_or-map-range_with_len, length-map-range_with_len}
use Rattle.dp_spec.specs.declared.span.Span.{Span}
use Rattle.dp_spec.specs.Arithmetic.{Arithmetic, arithmetic}
use Rattle.dp_spec.specs.Calls.{Calls, calls_in}
use Rattle.dp_spec.specs.Mode.{IsTrueFit}
use Rattle.dp_spec.specs.Model.{IsModel, Model, joint_actions}
use Rattle.dp_spec.specs.Quantities.{action_look_ahead_in}
use Rattle.dp_spec.specs.Sizes.{AreWeights}
use Rattle.dp_laws.proofs.SizeLaws.{arithmetic_is_exact}
use Rattle.dp_links.specs.Links.{seen_after}
use Rattle.dp_pomdp.specs.Looking.{IsLooking, weights_of}
use Rattle.dp_pomdp.specs.Memos.{row_of}
use Rattle.dp_pomdp.specs.Multiples.{AreNumbers, AreTimes}
use Rattle.dp_pomdp.proofs.Modes.{mode_looking}
use Rattle.dp_pomdp.proofs.Scaled.{action_of_times, numbers_of, weights_of_times}
use Rattle.dp_pomdp.proofs.SeenLooks.{looks_are_action, looks_part_fits}

-- the look-ahead of a joint action has 127 bits
action_fits : (A : Arithmetic) (C : Calls) (m : Model) (r : ℕ) (ws : List Span) → IsLooking A C m (suc r) ws
    → (a look : ℕ) → a < joint_actions m
    → unsigned_abs (action_look_ahead_in A m r (weights_of ws) a look) < 2 ^ 127
action_fits A C m r ws is a look pa =
    let xs = seen_after m a in
    subst (λ (x : ℤ). unsigned_abs x < 2 ^ 127)
    (looks_are_action A is.zero m r look (weights_of ws) a (length xs) xs _ refl refl refl)
    (looks_part_fits A C m r ws is a (look - 1) xs pa refl (length xs) (omega arith))

-- a mapped list is made of what its items give
mapped_made : {X : Type 0} (f : X → X) (g h : ℕ → X) (n : ℕ) (d : X) → ((a : ℕ) → a < n → f (g a) ≡ h a)
    → map f (map g (range_with_len 0 n)) ≡ map h (range_with_len 0 n)
mapped_made f g h n d each =
    let made : length (map g (range_with_len 0 n)) ≡ n = length-map-range_with_len g 0 n in
    let one : length (map f (map g (range_with_len 0 n))) ≡ n = length-map (map g (range_with_len 0 n)) f ∙ made in
    let other : length (map h (range_with_len 0 n)) ≡ n = length-map-range_with_len h 0 n in
    same_lists _ _ (one ∙ sym other) (λ k e lt.
    let inside : k < n = omega arith in
    get_or-map f (map g (range_with_len 0 n)) k d e (omega arith)
    ∙ ap f (get_or-map-range_with_len g 0 n k k d inside (omega arith))
    ∙ each k inside
    ∙ sym (get_or-map-range_with_len h 0 n k k e inside (omega arith)))

module _ (e : Bool) (m : Model) (is : IsModel m) (h t : ℕ) (u : ℤ) (fit : IsTrueFit m h e u) (early : t < h)
    (ws : List Span) (one_each : length ws ≡ m.states) (are : AreWeights e m t (weights_of ws)) where
  abbrev A : Arithmetic
  A = arithmetic e m.scales

  abbrev C : Calls
  C = calls_in e m.scales

  looking : IsLooking A C m (suc (h - t - 1)) ws
  looking = mode_looking e e m.scales m is refl refl h t (suc (h - t - 1)) u fit (omega arith) (omega arith) ws
      one_each are

  pub row_numbers : e ≡ true → AreNumbers ws
  row_numbers exact = numbers_of A C m (suc (h - t - 1)) ws looking (arithmetic_is_exact e m.scales ∙ exact)

  module _ (us : List Span) (factor : ℤ) (by : (k : ℕ) × (factor ≡ pos k) × AreTimes k us ws)
      (outward : e ≡ false → factor ≡ pos 1) (stay : e ≡ false → us ≡ ws) where
    pub base_one_each : length us ≡ m.states
    base_one_each = by.2.one_each ∙ one_each

    pub base_weights : AreWeights e m t (weights_of us)
    base_weights = weights_of_times by.0 us ws by.2 e m t one_each are

    -- a factor times the look-ahead of a joint action from the base is that from the weights
    pub times_action : (look a : ℕ) → action_look_ahead_in A m (h - t - 1) (weights_of ws) a look
        ≡ factor *ℤ action_look_ahead_in A m (h - t - 1) (weights_of us) a look
    times_action look a =
        action_of_times by.0 us ws by.2 A C m (suc (h - t - 1)) looking
        (λ o. ap unsigned_abs (sym by.1 ∙ outward (sym (arithmetic_is_exact e m.scales) ∙ o)))
        (λ o. stay (sym (arithmetic_is_exact e m.scales) ∙ o)) (h - t - 1) look a
        ∙ ap (λ (x : ℤ). x *ℤ action_look_ahead_in A m (h - t - 1) (weights_of us) a look) (sym by.1)

    -- a factor times the row of the base is the row
    pub times_row : (look : ℕ) (row : List ℤ) → row ≡ row_of A m (h - t) look us
        → map (λ (v : ℤ). factor *ℤ v) row ≡ map (λ a. action_look_ahead_in A m (h - t - 1) (weights_of ws) a look)
        (range_with_len 0 (joint_actions m))
    times_row look row made =
        ap (map (λ (v : ℤ). factor *ℤ v)) made
        ∙ mapped_made (λ (v : ℤ). factor *ℤ v)
        (λ a. action_look_ahead_in A m (h - t - 1) (weights_of us) a look)
        (λ a. action_look_ahead_in A m (h - t - 1) (weights_of ws) a look) (joint_actions m) (pos 0)
        (λ a p. sym (times_action look a))

    -- and fits
    pub times_fit : (look : ℕ) (row : List ℤ) → row ≡ row_of A m (h - t) look us → (k : ℕ) → k < length row
        → unsigned_abs (factor *ℤ get_or row k (pos 0)) < 2 ^ 127
    times_fit look row made k lt =
        let Q = λ (a : ℕ). action_look_ahead_in A m (h - t - 1) (weights_of us) a look in
        let n = joint_actions m in
        let len : length row ≡ n = ap (λ l. length l) made ∙ length-map-range_with_len Q 0 n in
        let inside : k < joint_actions m = omega arith in
        let at : get_or row k (pos 0) ≡ Q k =
        ap (λ l. get_or l k (pos 0)) made ∙ get_or-map-range_with_len Q 0 n k k (pos 0) inside (omega arith) in
        let whole : factor *ℤ get_or row k (pos 0) ≡ action_look_ahead_in A m (h - t - 1) (weights_of ws) k look =
        ap (λ (x : ℤ). factor *ℤ x) at ∙ sym (times_action look k) in
        subst (λ (x : ℤ). unsigned_abs x < 2 ^ 127) (sym whole)
        (action_fits A C m (h - t - 1) ws looking k look inside)

    pub times_action_fits : (look a : ℕ) → a < joint_actions m
        → unsigned_abs (factor *ℤ action_look_ahead_in A m (h - t - 1) (weights_of us) a look) < 2 ^ 127
    times_action_fits look a inside =
        subst (λ (x : ℤ). unsigned_abs x < 2 ^ 127) (times_action look a)
        (action_fits A C m (h - t - 1) ws looking a look inside)
