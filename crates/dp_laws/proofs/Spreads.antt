-- How far a choice may lower the bound of a front: never below 0, and at most 2^127.
use Rattle.std.proofs.Common.{◌≡◌, ℕ, suc, ◌+◌, ◌-◌, ◌*◌, ◌^◌, ◌<◌, ◌≤◌, Bool, false, ℤ, pos, ◌+ℤ◌, ◌≤ℤ◌, neg_ℤ}
use Rattle.std.proofs.Common.{unsigned_abs, get_or, sym, subst, arith}
use Rattle.std.proofs.lemmas.Int.{ints}
use Rattle.dp_laws.proofs.ChosenBound.{chosen_bound_in_le}
use Rattle.dp_base.proofs.GreatestValues.{greatest_abs, le_greatest_below}
use Rattle.dp_laws.proofs.Leaves.{some_action}
use Rattle.dp_base.proofs.Members.{below-IsIn}
use Rattle.dp_laws.proofs.SizeLaws.{mode_can_refine}
use Rattle.dp_laws.proofs.SizeSums.{abs_add, earned_size_le, int_sum_abs}
use Rattle.dp_laws.proofs.WellFormedSteps.{chosen_is_front}
use Rattle.dp_spec.specs.Arithmetic.{Arithmetic, arithmetic}
use Rattle.dp_spec.specs.Bound.{agreeing_actions}
use Rattle.dp_spec.specs.Fitting.{front_bound}
use Rattle.dp_spec.specs.Front.{Front, class_counts, fixed_joint_action}
use Rattle.dp_spec.specs.JointNumbers.{product}
use Rattle.dp_spec.specs.Mode.{is_exact_mode}
use Rattle.dp_spec.specs.Model.{IsModel, Model, joint_observations}
use Rattle.dp_spec.specs.Qualities.{spread_of}
use Rattle.dp_spec.specs.Quantities.{action_look_ahead_in, bound_in, class_weight_in, earned_reward_in}
use Rattle.dp_spec.specs.SizesOfEarnings.{earned_size}
use Rattle.dp_spec.specs.SizesOfFronts.{CanRefine, class_look_size}
use Rattle.dp_spec.specs.Steps.{IsUnassigned, chosen_front}
use Rattle.dp_base.specs.Sums.{greatest, int_sum, numbers_below}
use Rattle.dp_spec.specs.WellFormed.{IsFront}

-- ---- from below

-- the bound of a horizon does not grow by choosing
pub chosen_front_bound_le : (A : Arithmetic) (m : Model) → IsModel m → (h look : ℕ) (F : Front) (i c a : ℕ)
    → IsFront m h F
    → F.stage < h → IsUnassigned i c F.agents → a < get_or m.actions i 0 →
    front_bound A m h look (chosen_front F i c a) ≤ℤ front_bound A m h look F
unfolding front_bound
chosen_front_bound_le A m is h look F i c a front lt free p =
    chosen_bound_in_le A m is h (h - F.stage) look F i c a front lt free p

-- what is less than a number, taken from it
difference : (b x g : ℤ) → x ≤ℤ b → neg_ℤ x ≤ℤ g → pos 0 ≤ℤ (b +ℤ g)
difference b x g p q = omega (arith, ints)

pub spread_from : (A : Arithmetic) (m : Model) → IsModel m → (h look : ℕ) (F : Front) (i c : ℕ) → IsFront m h F
    → F.stage < h → IsUnassigned i c F.agents → pos 0 ≤ℤ spread_of A m h look F i c
unfolding spread_of
spread_from A m is h look F i c front lt free =
    let B = λ (a : ℕ). front_bound A m h look (chosen_front F i c a) in
    let n = get_or m.actions i 0 in
    let some : 0 < n = some_action m h F i c is front free in
    difference (front_bound A m h look F) (B 0) (greatest (λ a. neg_ℤ (B a)) (numbers_below n))
    (chosen_front_bound_le A m is h look F i c 0 front lt free some)
    (le_greatest_below (λ a. neg_ℤ (B a)) n 0 some)

-- ---- from above

high_abs : (A : Arithmetic) (m : Model) (F : Front) (h : ℕ)
    → unsigned_abs (earned_reward_in A m (fixed_joint_action m F) h F.stage).high
    ≤ earned_size A m (fixed_joint_action m F) h F.stage
high_abs A m F h = let le = earned_size_le A m (fixed_joint_action m F) h F.stage in omega arith

-- a front that can be refined has a bound of at most 2^126
bound_in_abs : (A : Arithmetic) (m : Model) (h r look : ℕ) (F : Front) → CanRefine A m h F → F.stage + suc r ≡ h
    → unsigned_abs (bound_in A m (suc r) F look) ≤ 2 ^ 126
unfolding class_look_size
bound_in_abs A m h r look F can e =
    let best = λ (C : ℕ). greatest (λ a. action_look_ahead_in A m r (class_weight_in A m F C) a look)
    (agreeing_actions m F C) in
    let n = product (class_counts F.agents) in
    let E = (earned_reward_in A m (fixed_joint_action m F) (F.stage + suc r) F.stage).high in
    let earned : unsigned_abs E ≤ earned_size A m (fixed_joint_action m F) h F.stage =
    subst (λ (k : ℕ). unsigned_abs (earned_reward_in A m (fixed_joint_action m F) k F.stage).high
    ≤ earned_size A m (fixed_joint_action m F) h F.stage) (sym e) (high_abs A m F h) in
    let looks = int_sum_abs n best in
    let both = abs_add E (int_sum n best) in
    let room = can.bound r look e in
    omega arith

front_bound_abs : (A : Arithmetic) (m : Model) (h look : ℕ) (F : Front) → CanRefine A m h F → F.stage < h
    → unsigned_abs (front_bound A m h look F) ≤ 2 ^ 126
unfolding front_bound
front_bound_abs A m h look F can lt =
    let r = h - suc F.stage in
    let e : F.stage + suc r ≡ h = omega arith in
    let left : h - F.stage ≡ suc r = omega arith in
    rw left (bound_in_abs A m h r look F can e)

neg_abs : (x : ℤ) (c : ℕ) → unsigned_abs x ≤ c → unsigned_abs (neg_ℤ x) ≤ c
neg_abs x c h = omega (arith, ints)

together : (b g : ℤ) → unsigned_abs b ≤ 2 ^ 126 → unsigned_abs g ≤ 2 ^ 126 → (b +ℤ g) ≤ℤ pos (2 ^ 127)
together b g p q = omega (arith, ints)

-- a choice lowers the bound by at most 2^127
pub spread_to : (m : Model) → IsModel m → (h : ℕ) → 0 < h → h ≤ 24 → (e : Bool) → e ≡ is_exact_mode m h
    → (look : ℕ) (F : Front)
    (i c : ℕ) → IsFront m h F → F.stage < h → IsUnassigned i c F.agents
    → (e ≡ false → m.states * joint_observations m ^ F.stage ≤ 2 ^ 22)
    → spread_of (arithmetic e m.scales) m h look F i c ≤ℤ pos (2 ^ 127)
unfolding spread_of
spread_to m is h some le e mode look F i c front lt free cells =
    let A = arithmetic e m.scales in
    let B = λ (a : ℕ). front_bound A m h look (chosen_front F i c a) in
    let n = get_or m.actions i 0 in
    let here = front_bound_abs A m h look F (mode_can_refine m is h some le e mode F front lt cells) lt in
    let chosen : (a : ℕ) → a < n → unsigned_abs (B a) ≤ 2 ^ 126 =
    λ a p. front_bound_abs A m h look (chosen_front F i c a)
    (mode_can_refine m is h some le e mode (chosen_front F i c a) (chosen_is_front m h F i c a front lt free p)
    lt cells) lt in
    let least = greatest_abs (λ a. neg_ℤ (B a)) (2 ^ 126) (numbers_below n)
    (λ a p. neg_abs (B a) (2 ^ 126) (chosen a (below-IsIn n a p))) in
    together (front_bound A m h look F) (greatest (λ a. neg_ℤ (B a)) (numbers_below n)) here least
