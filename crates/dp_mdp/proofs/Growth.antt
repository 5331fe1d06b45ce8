-- What building the table asks of each row, from what it asks of the whole table.
use Rattle.std.proofs.Common.{◌≡◌, ⊎_elim, ℕ, zero, suc, ◌*◌, ◌^◌, ◌<◌, ◌≤◌, ℤ, pos, ◌+ℤ◌, ◌*ℤ◌, List, [], ◌∷◌, ◌++◌}
use Rattle.std.proofs.Common.{length, get_or, sym, ap, subst, ◌∙◌, arith}
use Rattle.std.proofs.Math.IntN.{zero-*ℤ}
use Rattle.std.proofs.Math.Nat.{le-mul_of_pos_right, pow-le-pow_right, pow-suc, pow-zero}
use Rattle.std.proofs.lemmas.Int.{ints}
use Rattle.dp_base.proofs.Order.{last_or_before}
use Rattle.std.proofs.lemmas.List.{get_or_append_left, get_or_default}
use Rattle.std.proofs.Math.Seq.{get_or-append_seam}
use Rattle.dp_spec.specs.declared.span.Span.{Span}
use Rattle.dp_base.specs.Sums.{nat_sum}
use Rattle.dp_spec.specs.Model.{Model, joint_actions, joint_observations, obs_at, reward_at, trans_at}
use Rattle.dp_spec.specs.Arithmetic.{Arithmetic}
use Rattle.dp_spec.specs.Quantities.{span_sum}
use Rattle.dp_spec.specs.Calls.{Calls, size}
use Rattle.dp_spec.specs.SizesOfTable.{table_reward_size}
use Rattle.dp_base.proofs.Ring.{v, ◌⊕◌, ◌⊗◌, by_ring}
use Rattle.dp_mdp.specs.Building.{AllowsLastRewards, AllowsRow, AreLastRewards, IsPower, IsTabulating}
use Rattle.dp_links.specs.Links.{AreLinksOf}
use Rattle.dp_mdp.specs.TableRows.{IsRow, IsTable, KeptTable}
use Rattle.dp_mdp.specs.StepRewards.{arrival_reward, reward_part, state_reward}

into_sum : (a b c : ℤ) → a *ℤ c +ℤ b *ℤ c ≡ (a +ℤ b) *ℤ c
into_sum a b c = by_ring (v a ⊗ v c ⊕ v b ⊗ v c) ((v a ⊕ v b) ⊗ v c) (omega arith)

-- a sum of parts that are each c times what they were
grown_sum : (n : ℕ) (f g : ℕ → Span) (c : ℤ) → ((i : ℕ) → i < n → (f i).high ≡ (g i).high *ℤ c)
    → (span_sum n f).high ≡ (span_sum n g).high *ℤ c
grown_sum zero f g c h = sym (zero-*ℤ c)
grown_sum (suc n) f g c h =
    rw (grown_sum n f g c (λ i p. h i (omega arith)), h n (omega arith))
    (into_sum (span_sum n g).high (g n).high c)

-- a reward is so many times that of the last step
grown_reward : (A : Arithmetic) (C : Calls) (m : Model) (h k : ℕ) → IsTabulating A C m h k
    → (r : ℕ) (w : Span) (a s : ℕ)
    → (state_reward A m r w a s).high ≡ (state_reward A m 0 w a s).high *ℤ pos (k ^ r)
unfolding state_reward
grown_reward A C m h k is r w a s =
    grown_sum m.states (arrival_reward A m r w a s) (arrival_reward A m 0 w a s) (pos (k ^ r)) (λ t p.
    grown_sum (joint_observations m) (reward_part A m r w a s t) (reward_part A m 0 w a s t) (pos (k ^ r))
    (λ o q.
    is.grows (A.chance w (trans_at m a s t) (obs_at m a t o)) (reward_at m a s t o) r))

power_some : (k r : ℕ) → 0 < k → 0 < k ^ r
power_some k zero some = rw (pow-zero k) (omega arith)
power_some k (suc r) some =
    let before = power_some k r some in
    let more = le-mul_of_pos_right (k ^ r) some in rw (pow-suc k r) (omega (arith, before, more))

-- a power of the factor is what rewards are multiplied by
pub power_is : (A : Arithmetic) (C : Calls) (m : Model) (h k : ℕ) → IsTabulating A C m h k → (r : ℕ)
    → IsPower A m r (pos (k ^ r))
power_is A C m h k is r = record {
  some =
      let more : 0 < k ^ r = power_some k r is.factor in omega (arith, ints, more);
  grows = λ w a s. grown_reward A C m h k is r w a s;
}

-- each row can be computed
pub row_allowed : (A : Arithmetic) (C : Calls) (m : Model) (h k : ℕ) → IsTabulating A C m h k → (r : ℕ) → r < h
    → AllowsRow A C m r (pos (k ^ r))
row_allowed A C m h k is r lt = record {
  zero = is.zero;
  reward = power_is A C m h k is r;
  carry = λ a s t pa ps pt. is.can.carry r a s t lt pa ps pt;
  add = λ a s pa ps. is.can.add r a s lt pa ps;
}

-- all parts of a reward of the last step
last_room : (A : Arithmetic) (C : Calls) (m : Model) (h k : ℕ) → IsTabulating A C m h k → 0 < h → (a s : ℕ)
    → a < joint_actions m → s < m.states
    → nat_sum m.states (λ t. nat_sum (joint_observations m) (λ o. size (reward_part A m 0 A.one a s t o)))
    < 2 ^ 127
unfolding table_reward_size
last_room A C m h k is some a s pa ps = let all = is.can.add 0 a s some pa ps in omega arith

-- and so can the rewards of the last step
pub last_allowed : (A : Arithmetic) (C : Calls) (m : Model) (h k : ℕ) → IsTabulating A C m h k → 0 < h
    → AllowsLastRewards A C m
last_allowed A C m h k is some = record {
  zero = is.zero;
  each = λ a s pa ps. record {
    chance = λ t o step. is.can.chance a s t o step;
    gain = λ t o step. is.can.gain 0 a s t o some step;
    add = last_room A C m h k is some a s pa ps;
  };
}

-- ---- the whole table

pub made_table : (A : Arithmetic) (C : Calls) (m : Model) (h k : ℕ) → IsTabulating A C m h k → (t : KeptTable)
    (rows rewards : List (List ℤ)) (powers : List ℤ) → t.rows ≡ rows → t.rewards ≡ rewards → t.powers ≡ powers
    → length rows ≡ suc h → ((r : ℕ) → r ≤ h → IsRow A m r (get_or rows r [])) → AreLastRewards A m rewards
    → length powers ≡ h → ((r : ℕ) → r < h → get_or powers r (pos 0) ≡ pos (k ^ r)) → AreLinksOf m t.links
    → IsTable A m h t
made_table A C m h k is t rows rewards powers er ew ep long each earned many grown links = record {
  long = let same = ap (λ (l : List (List ℤ)). length l) er in omega (arith, same, long);
  each = λ r le. subst (λ (l : List (List ℤ)). IsRow A m r (get_or l r [])) (sym er) (each r le);
  rewards = subst (AreLastRewards A m) (sym ew) earned;
  as_many = let same = ap (λ (l : List ℤ). length l) ep in omega (arith, same, many);
  powers = λ r lt.
      subst (IsPower A m r) (sym (ap (λ (l : List ℤ). get_or l r (pos 0)) ep ∙ grown r lt))
      (power_is A C m h k is r);
  links = links;
}

-- ---- the powers

-- a lower power is no greater
pub power_small : (k r h : ℕ) → 0 < k → r ≤ h → k ^ h < 2 ^ 127 → k ^ r < 2 ^ 127
power_small k r h some le small = let less : k ^ r ≤ k ^ h = pow-le-pow_right some le in omega arith

pub next_power : (p k r : ℕ) → p ≡ k ^ r → p * k ≡ k ^ suc r
next_power p k r e = rw e (sym (pow-suc k r))

-- ---- lists of rows

-- an element that is read is the one at its place
pub element_is : {X : Type 0} (xs : List X) (i : ℕ) (x d : X) → i < length xs → x ≡ get_or xs i x
    → x ≡ get_or xs i d
element_is xs i x d lt e = e ∙ get_or_default xs i x d lt

-- what is appended is the last
last_at : {X : Type 0} (xs ys : List X) (n : ℕ) (x d : X) → ys ≡ xs ++ x ∷ [] → length xs ≡ n → get_or ys n d ≡ x
last_at xs ys n x d e len = rw e (subst (λ (k : ℕ). get_or (xs ++ x ∷ []) k d ≡ x) len (get_or-append_seam xs x [] d))

-- what holds of each item holds of one more
pub one_more_item : {X : Type 0} (P : ℕ → X → Type 0) (xs ys : List X) (n : ℕ) (x d : X) → ys ≡ xs ++ x ∷ []
    → length xs ≡ n → ((r : ℕ) → r < n → P r (get_or xs r d)) → P n x → (r : ℕ) → r < suc n → P r (get_or ys r d)
one_more_item P xs ys n x d e len before here r lt =
    ⊎_elim (λ is. subst (λ (k : ℕ). P k (get_or ys k d)) (sym is)
    (subst (P n) (sym (last_at xs ys n x d e len)) here))
    (λ less. subst (P r) (sym (rw e (get_or_append_left xs (x ∷ []) d r (rw len less)))) (before r less))
    (last_or_before r n lt)
