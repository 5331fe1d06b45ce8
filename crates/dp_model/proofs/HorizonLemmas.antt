-- Counts of histories, and the mode of a horizon.
use Rattle.std.proofs.Common.{◌≡◌, ℕ, zero, suc, ◌+◌, ◌-◌, ◌*◌, ◌^◌, ◌<◌, ◌≤◌, Bool, true, false, max, pos, to_z}
use Rattle.std.proofs.Common.{List, [], ◌∷◌, length, get_or, add-one, refl, ap, subst, ◌∙◌, arith}
use Rattle.std.specs.Prelude.{Option, SomeIff}
use Rattle.std.proofs.Math.Nat.{le-mul_of_pos_right, mul-le-mul, mul-le-mul_left, mul-pos, pow-le-pow_left}
use Rattle.std.proofs.Math.Nat.{pow-le-pow_right, pow-suc, pow-zero}
use Rattle.std.proofs.lemmas.Bool.{le-leb, leb-true}
use Rattle.std.proofs.lemmas.Int.{to_z_pos}
use Rattle.std.proofs.lemmas.Nat.{mul-pow}
use mir.Syntax.{w128}
use Rattle.dp_spec.proofs.ModeCondition.{step_scale_some}
use Rattle.dp_spec.proofs.QuantityScales.{scale_of_next, step_scale_is}
use Rattle.dp_spec.specs.declared.scales.Scales.{Scales}
use Rattle.dp_spec.specs.JointNumbers.{product}
use Rattle.dp_spec.specs.Mode.{greatest_magnitude, is_exact_mode, own_history_count, unit_of}
use Rattle.dp_spec.specs.Model.{IsModel, Model, joint_observations, step_scale, value_scale}
use Rattle.dp_model.specs.Horizons.{fit_of}
use Rattle.dp_spec.proofs.JointNumberLaws.{product-drop, product-drop_above, product-drop_le}
use Rattle.dp_spec.proofs.ModelLaws.{some_joint_observation}

-- ---- counts of histories
-- an agent has at most as many observations as there are joint ones
size_le : (ns : List ℕ) (i : ℕ) → 0 < product ns → i < length ns → get_or ns i 0 ≤ product ns
size_le ns i some lt =
    let more = le-mul_of_pos_right (get_or ns i 0) (product-drop_above ns (suc i) some) in
    omega (arith, product-drop ns i lt, product-drop_le ns i some, more)

pub observations_few : (m : Model) → IsModel m → (i : ℕ) → i < length m.observations → get_or m.observations i 0 ≤ 256
unfolding joint_observations
observations_few m ok i lt =
    let limit = ok.sizes.joint_observations_limit in
    omega (arith, size_le m.observations i (some_joint_observation m ok) lt)

-- the own histories of a length below 16
pub power_small : (n t : ℕ) → n ≤ 256 → t < 16 → n ^ t ≤ 2 ^ 120
power_small n t few short =
    let base : n ^ t ≤ 256 ^ t = pow-le-pow_left few t in
    let last : t ≤ 15 = omega arith in
    let top : 256 ^ t ≤ 256 ^ 15 = pow-le-pow_right (omega arith) last in
    omega arith

-- where the own histories are few, the joint histories of the last stage are
histories_few : (ns : List ℕ) (k : ℕ) → own_history_count ns (suc k) ≤ 2048 → product ns ^ k ≤ 2048 ^ length ns
histories_few [] k few = ones k
  where
    ones : (k : ℕ) → 1 ^ k ≤ 2048 ^ 0
    ones zero = rw (pow-zero 1, pow-zero 2048) (omega arith)
    ones (suc k) = rw pow-suc (omega (arith, ones k))
histories_few (n ∷ ns) k few =
    let here : n ^ k ≤ 2048 = omega arith in
    let rest : product ns ^ k ≤ 2048 ^ length ns = histories_few ns k (omega arith) in
    rw (mul-pow, pow-suc) (omega (arith, mul-le-mul here rest))

pub joint_histories_few : (m : Model) → IsModel m → (h : ℕ) → 1 ≤ h → own_history_count m.observations h ≤ 2048
    → joint_observations m ^ (h - 1) ≤ 2 ^ 66
unfolding joint_observations
joint_histories_few m ok h some few =
    let back : suc (h - 1) ≡ h = omega arith in
    let all = histories_few m.observations (h - 1) (rw back few) in
    let alike = ok.sizes.alike in
    let agents = ok.sizes.agents_limit in
    let six : length m.observations ≤ 6 = omega arith in
    let most : 2048 ^ length m.observations ≤ 2048 ^ 6 = pow-le-pow_right (omega arith) six in
    omega arith

-- ---- the mode
-- a product with one factor more is not smaller
grown : (a b c n : ℕ) → 0 < b → c ≡ a * b → c ≤ n → a ≤ n
grown a b c n some e le = let more = le-mul_of_pos_right a some in omega arith

-- three factors of at least 1, one after the other: where a product passes, the whole does
pub first_passes : (x a b d a' n : ℕ) → 0 < b → 0 < d → a' ≡ a → (x * a' ≤ n → ⊥) → x * (a * b * d) ≤ n → ⊥
first_passes x a b d a' n some_b some_d same passes le =
    passes (rw same (grown (x * a) (b * d) _ n (mul-pos some_b some_d) (omega arith) le))

pub second_passes : (x a b d a' b' p n : ℕ) → 0 < d → a' ≡ a → b' ≡ b → p ≡ x * a' → (p * b' ≤ n → ⊥)
    → x * (a * b * d) ≤ n → ⊥
second_passes x a b d a' b' p n some_d same_a same_b is passes le =
    passes (rw (is, same_a, same_b) (grown (x * a * b) d _ n some_d (omega arith) le))

pub all_three : (x a b d a' b' d' p q n : ℕ) (r : Option ℕ) → a' ≡ a → b' ≡ b → d' ≡ d → p ≡ x * a' → q ≡ p * b'
    → SomeIff r (q * d' ≤ n) (q * d') → SomeIff r (x * (a * b * d) ≤ n) (x * (a * b * d))
all_three x a b d a' b' d' p q n r same_a same_b same_d first second h =
    let whole : q * d' ≡ x * (a * b * d) = rw (second, first, same_a, same_b, same_d) (omega arith) in
    subst (λ (k : ℕ). SomeIff r (k ≤ n) k) whole h

-- the scale of weights one step on
pub next_scale : (m : Model) (s : Scales) (t x : ℕ) → s ≡ m.scales → x ≡ m.scales.start * step_scale m ^ t
    → x * (s.trans * s.obs * s.discount) ≡ m.scales.start * step_scale m ^ (t + 1)
next_scale m s t x same is =
    ap (λ (c : Scales). x * (c.trans * c.obs * c.discount)) same
    ∙ ap (λ (n : ℕ). x * n) (step_scale_is m)
    ∙ ap (λ (n : ℕ). n * step_scale m) is
    ∙ scale_of_next m t
    ∙ rw add-one refl

-- the scales of weights up to the horizon
pub scale_before : (m : Model) → IsModel m → (t h : ℕ) → t ≤ h → m.scales.start * step_scale m ^ h ≤ 2 ^ 126
    → m.scales.start * step_scale m ^ t ≤ 2 ^ 126
scale_before m ok t h le most =
    let power : step_scale m ^ t ≤ step_scale m ^ h = pow-le-pow_right (step_scale_some m ok) le in
    omega (arith, mul-le-mul_left m.scales.start power)

-- with a reward scale of at least 1 the condition has no other least
most_reward : (g d : ℕ) → 0 < d → max (max g d) 1 ≡ max g d
most_reward g d some = omega arith

-- the condition of exact mode
pub condition : (m : Model) → IsModel m → (h : ℕ) → is_exact_mode m h ≡ true
    → m.scales.start * step_scale m ^ h * h * max (greatest_magnitude m.reward) m.scales.reward ≤ 2 ^ 126
unfolding is_exact_mode
condition m ok h e =
    rw (← most_reward (greatest_magnitude m.reward) m.scales.reward ok.scales.reward) (leb-true _ _ e)

exact_where : (m : Model) → IsModel m → (h : ℕ)
    → m.scales.start * step_scale m ^ h * h * max (greatest_magnitude m.reward) m.scales.reward ≤ 2 ^ 126
    → is_exact_mode m h ≡ true
unfolding is_exact_mode
exact_where m ok h le = rw (most_reward (greatest_magnitude m.reward) m.scales.reward ok.scales.reward)
    (le-leb _ _ le)

-- what the condition says of its first factors
pub steps_room : (m : Model) → IsModel m → (h : ℕ) → is_exact_mode m h ≡ true
    → m.scales.start * step_scale m ^ h * h ≤ 2 ^ 126
steps_room m ok h e =
    let some = ok.scales.reward in
    let reward : 0 < max (greatest_magnitude m.reward) m.scales.reward = omega arith in
    grown (m.scales.start * step_scale m ^ h * h) _ _ (2 ^ 126) reward refl (condition m ok h e)

pub weights_room : (m : Model) → IsModel m → (h : ℕ) → 1 ≤ h → is_exact_mode m h ≡ true
    → m.scales.start * step_scale m ^ h ≤ 2 ^ 126
weights_room m ok h some e = grown (m.scales.start * step_scale m ^ h) h _ (2 ^ 126) some refl (steps_room m ok h e)

-- and of the unit
unit_room : (w h g d n : ℕ) → 1 ≤ h → w * h * max g d ≤ n → w * d ≤ n
unit_room w h g d n some le =
    let longer : w ≤ w * h = le-mul_of_pos_right w some in
    let greater : d ≤ max g d = omega arith in
    omega (arith, mul-le-mul longer greater)

value_scale_is : (m : Model) (h : ℕ) → m.scales.start * step_scale m ^ h * m.scales.reward ≡ value_scale m h
unfolding value_scale
value_scale_is m h = omega arith

-- where the scale of weights times the steps times the greatest reward is at most 2^126, the mode is exact, and the
-- scale of weights times that of rewards is its unit
pub unit_of_products : (m : Model) → IsModel m → (h weights steps product most scale : ℕ) → 1 ≤ h
    → weights ≡ m.scales.start * step_scale m ^ h → steps ≡ h → product ≡ weights * steps
    → most ≡ max (greatest_magnitude m.reward) m.scales.reward → scale ≡ m.scales.reward → product * most ≤ 2 ^ 126
    → (is_exact_mode m h ≡ true) × (weights * scale ≡ value_scale m h) × (weights * scale ≤ 2 ^ 126)
unit_of_products m ok h weights steps product most scale some e f g k q le =
    let room : m.scales.start * step_scale m ^ h * h * max (greatest_magnitude m.reward) m.scales.reward ≤ 2 ^ 126 =
    carried product most _ _ (2 ^ 126) (g ∙ rw (e, f) refl) k le in
    let unit = unit_room _ h (greatest_magnitude m.reward) m.scales.reward (2 ^ 126) some room in
    (exact_where m ok h room, rw (e, q) (value_scale_is m h), rw (e, q) unit)
  where
    carried : (a b x y n : ℕ) → a ≡ x → b ≡ y → a * b ≤ n → x * y ≤ n
    carried a b x y n e f le = rw (← e, ← f) le

-- the unit of each mode
pub exact_fit : (m : Model) (h u : ℕ) → is_exact_mode m h ≡ true → u ≡ value_scale m h → u ≤ 2 ^ 126
    → record { horizon = h; exact = true; unit = to_z w128 u } ≡ fit_of m h
unfolding unit_of
exact_fit m h u e is most =
    let units : to_z w128 u ≡ pos (value_scale m h) = to_z_pos w128 u (omega arith) ∙ ap pos is in
    rw e (λ i. record { horizon = h; exact = true; unit = units i })

pub outward_fit : (m : Model) (h : ℕ) (b : Bool) → is_exact_mode m h ≡ b → (b ≡ true → ⊥)
    → record { horizon = h; exact = false; unit = pos (10 ^ 9) } ≡ fit_of m h
unfolding unit_of
outward_fit m h true e none = absurd (none refl)
outward_fit m h false e none = rw e refl
