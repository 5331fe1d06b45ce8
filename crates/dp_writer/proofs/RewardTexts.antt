-- What is written of the rewards of a joint action and a state.
use Rattle.std.proofs.Common.{◌≡◌, ℕ, ℤ, pos, true, false, [], ◌∷◌, ◌++◌, to_z, of_z, FitsSigned, refl, sym, ap, ◌∙◌}
use Rattle.std.proofs.Common.{inl, inr}
use Rattle.std.specs.Prelude.{codes}
use Rattle.std.specs.Int.{w64}
use Rattle.std.specs.Ordering.{int_eq}
use Rattle.std.proofs.lemmas.Bool.{cases_Bool}
use Rattle.std.proofs.lemmas.Bool.Decides.{Decides-int_eq}
use Rattle.std.proofs.lemmas.Int.{to_z-of_z}
use Rattle.dp_spec.specs.Model.{Model, reward_at}
use Rattle.dp_writer.specs.ModelRows.{reward_rows}
use Rattle.dp_writer.specs.WrittenModel.{is_only_reward, matrix_lines, reward_lines, reward_word}
use Rattle.dp_writer.specs.WrittenModel.{statement_words}

-- equal rewards pass the test, others do not
pub int_same : (x y : ℤ) → x ≡ y → int_eq x y ≡ true
int_same x y e = (Decides-int_eq x y).1 e

pub int_other : (x y : ℤ) → (x ≡ y → ⊥) → int_eq x y ≡ false
int_other x y differ = elim (cases_Bool (int_eq x y)) [
  | inl same ↦ absurd (differ ((Decides-int_eq x y).0 same))
  | inr other ↦ other
]

-- numbers of 64 bits are equal where their bits are
pub same_bits : (x y : ℤ) → FitsSigned w64 x → FitsSigned w64 y → of_z w64 x ≡ of_z w64 y → x ≡ y
same_bits x y a b e = sym (to_z-of_z w64 x a) ∙ ap (to_z w64) e ∙ to_z-of_z w64 y b

module _ (m : Model) (a s : ℕ) where
  -- the first reward
  abbrev pub first_reward : ℤ
  first_reward = reward_at m a s 0 0

  pub no_reward : is_only_reward first_reward (reward_rows m a s) ≡ true → int_eq first_reward (pos 0) ≡ true
      → reward_lines m a s ≡ []
  unfolding reward_lines
  no_reward only none = rw (only, none) refl

  pub one_reward : is_only_reward first_reward (reward_rows m a s) ≡ true → int_eq first_reward (pos 0) ≡ false
      → reward_lines m a s
      ≡ (statement_words m (codes "R:") a s
      ++ codes "*" ∷ codes ":" ∷ codes "*" ∷ codes ":" ∷ reward_word m.scales.reward first_reward ∷ []) ∷ []
  unfolding reward_lines
  one_reward only some = rw (only, some) refl

  pub reward_matrix : is_only_reward first_reward (reward_rows m a s) ≡ false
      → reward_lines m a s ≡ statement_words m (codes "R:") a s ∷ matrix_lines m a s
  unfolding reward_lines
  reward_matrix differ = rw differ refl
