-- A class of total 0 is equivalent to every class, and every class to it.
use Rattle.std.proofs.Common.{◌≡◌, ◌⊎◌, inl, inr, sym, ℕ, ◌*◌, ◌<◌, Bool, true, false, cond, eqb, refl, arith}
use Rattle.dp_spec.specs.Front.{Front, fixed_joint_action}
use Rattle.dp_spec.specs.JointHistory.{history_weight}
use Rattle.dp_spec.specs.Merge.{AreEquivalent, class_of_agent, class_of_others, class_total, place_weight}
use Rattle.dp_spec.specs.Model.{Model, joint_observations}
use Rattle.dp_base.specs.Sums.{nat_sum}
use Rattle.dp_base.proofs.NaturalSumLaws.{nat_sum_none}
use Rattle.dp_laws.proofs.HistorySums.{nat_history_sum_none, nat_history_sum_of_none}

-- where the weights of all states are 0 each of them is
pub none_at : (b t : Bool) (n : ℕ) (w : ℕ → ℕ) (s : ℕ) → s < n → cond t (nat_sum n w) 0 ≡ 0
    → cond b (cond t (w s) 0) 0 ≡ 0
none_at true true n w s p e = nat_sum_none n w e s p
none_at true false n w s p e = refl
none_at false t n w s p e = refl

-- a class of total 0 has no weight anywhere
pub no_weight : (m : Model) (F : Front) (i c x s : ℕ) → class_total m F i c ≡ 0 → s < m.states
    → place_weight m F i c x s ≡ 0
unfolding class_total place_weight
no_weight m F i c x s e p =
    nat_history_sum_of_none (joint_observations m) F.stage _ (λ H h.
    none_at (eqb (class_of_others m F i H) x) (eqb (class_of_agent m F i H) c) m.states
    (history_weight m (fixed_joint_action m F) H) s p
    (nat_history_sum_none (joint_observations m) F.stage _ e H h))

-- both products are 0
zero_sides : (a b p q : ℕ) → p ≡ 0 → a ≡ 0 → p * b ≡ q * a
zero_sides a b p q e f = rw (e, f) (omega arith)

-- so its weights are in proportion to those of every class
first_empty : (m : Model) (F : Front) (i c c' : ℕ) → class_total m F i c ≡ 0 → AreEquivalent m F i c c'
first_empty m F i c c' e = record {
  same = λ x s p q. zero_sides (class_total m F i c) (class_total m F i c')
      (place_weight m F i c x s) (place_weight m F i c' x s) (no_weight m F i c x s e q) e;
}

-- whichever of the two it is
pub empty_class_is_equivalent : (m : Model) (F : Front) (i c c' : ℕ)
    → (class_total m F i c ≡ 0) ⊎ (class_total m F i c' ≡ 0) → AreEquivalent m F i c c'
empty_class_is_equivalent m F i c c' (inl e) = first_empty m F i c c' e
empty_class_is_equivalent m F i c c' (inr e) = record {
  same = λ x s p q. sym
      ((first_empty m F i c' c e).same x s p q);
}
