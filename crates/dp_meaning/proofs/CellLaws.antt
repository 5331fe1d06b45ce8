-- The cells of the model that a text means.
use Rattle.std.proofs.Common.{◌≡◌, get_or, ◌+◌, ◌*◌, ℕ, ◌<◌, List, [], ◌∷◌, length, map, refl, sym, ap, subst, ◌∙◌}
use Rattle.std.proofs.Common.{pos}
use Rattle.std.specs.Prelude.{sum}
use Rattle.dp_spec.specs.Model.{joint_actions, joint_observations, start_at, trans_at, obs_at, reward_at}
use Rattle.dp_meaning.specs.declared.statement.Table.TheVariants.{Trans, Obs, Reward}
use Rattle.dp_meaning.specs.declared.text.Text.{Text}
use Rattle.dp_meaning.specs.Statements.{axes_of}
use Rattle.dp_meaning.specs.Cells.{statements_for}
use Rattle.dp_meaning.specs.Text.{states_in, joint_observations_in}
use Rattle.dp_meaning.specs.Scales.{scales_of}
use Rattle.dp_meaning.specs.Rows.{start_row, row_cells, table_row}
use Rattle.dp_meaning.specs.Meaning.{ReadModel}
use Rattle.dp_meaning.specs.MeaningLaws.{IsMeant, IsNearlyGiven, IsUncovered, given_trans, given_obs, given_rewards}
use Rattle.dp_meaning.proofs.TableRows.{given_row, uncovered_of_table, kept_of_table, near_of_table}
use Rattle.dp_meaning.proofs.CellValues.{reward_uncovered}
use Rattle.dp_meaning.proofs.Meant.{meant_text}
use Rattle.dp_meaning.proofs.BuiltModel.{built_of, trans_table, obs_table, start_is_repair, reward_of_place}

given_trans_row : (text : Text) (a s : ℕ)
    → (given_row text Trans (scales_of text).trans (states_in text) a s).cells ≡ map
    (given_trans text) (row_cells (a ∷ s ∷ []) (states_in text))
unfolding table_row
given_trans_row text a s = refl

given_obs_row : (text : Text) (a t : ℕ)
    → (given_row text Obs (scales_of text).obs (joint_observations_in text) a t).cells ≡ map
    (given_obs text) (row_cells (a ∷ t ∷ []) (joint_observations_in text))
unfolding table_row
given_obs_row text a t = refl

pub uncovered_transition : (bytes : List ℕ) (text : Text) (r : ReadModel) → IsMeant bytes text r
    → (a s t : ℕ) → a < joint_actions r.model.model → s < r.model.model.states → t < r.model.model.states
    → IsUncovered text Trans (a ∷ s ∷ t ∷ []) → trans_at r.model.model a s t ≡ 0
unfolding joint_actions trans_at
uncovered_transition bytes text r h a s t =
    let w = built_of (length bytes) text r (meant_text bytes text r h).model in
    subst (λ m. a < joint_actions m → s < m.states → t < m.states → IsUncovered text Trans (a ∷ s ∷ t ∷ [])
    → trans_at m a s t ≡ 0)
    (sym w.model)
    (uncovered_of_table text Trans (scales_of text).trans (states_in text) w.trans.cells
    (trans_table (length bytes) text w.trans w.trans_is) a s t)

pub uncovered_observation : (bytes : List ℕ) (text : Text) (r : ReadModel) → IsMeant bytes text r
    → (a t o : ℕ) → a < joint_actions r.model.model → t < r.model.model.states → o < joint_observations r.model.model
    → IsUncovered text Obs (a ∷ t ∷ o ∷ []) → obs_at r.model.model a t o ≡ 0
unfolding joint_actions joint_observations obs_at
uncovered_observation bytes text r h a t o =
    let w = built_of (length bytes) text r (meant_text bytes text r h).model in
    subst (λ m. a < joint_actions m → t < m.states → o < joint_observations m → IsUncovered text Obs (a ∷ t ∷ o ∷ [])
    → obs_at m a t o ≡ 0)
    (sym w.model)
    (uncovered_of_table text Obs (scales_of text).obs (joint_observations_in text) w.obs.cells
    (obs_table (length bytes) text w.obs w.obs_is) a t o)

pub right_transition : (bytes : List ℕ) (text : Text) (r : ReadModel) → IsMeant bytes text r
    → (a s t : ℕ) → a < joint_actions r.model.model → s < r.model.model.states → t < r.model.model.states
    → sum (map (given_trans text) (row_cells (a ∷ s ∷ []) r.model.model.states)) ≡ r.model.model.scales.trans
    → trans_at r.model.model a s t ≡ given_trans text (a ∷ s ∷ t ∷ [])
unfolding joint_actions trans_at
right_transition bytes text r h a s t =
    let w = built_of (length bytes) text r (meant_text bytes text r h).model in
    subst (λ m. a < joint_actions m → s < m.states → t < m.states
    → sum (map (given_trans text) (row_cells (a ∷ s ∷ []) m.states)) ≡ m.scales.trans
    → trans_at m a s t ≡ given_trans text (a ∷ s ∷ t ∷ [])) (sym w.model)
    (λ ha hs ht e. kept_of_table text Trans (scales_of text).trans (states_in text) w.trans.cells
    (trans_table (length bytes) text w.trans w.trans_is) a s t ha hs ht
    (ap sum (given_trans_row text a s) ∙ e))

pub right_observation : (bytes : List ℕ) (text : Text) (r : ReadModel) → IsMeant bytes text r
    → (a t o : ℕ) → a < joint_actions r.model.model → t < r.model.model.states → o < joint_observations r.model.model
    → sum (map (given_obs text) (row_cells (a ∷ t ∷ []) (joint_observations r.model.model)))
    ≡ r.model.model.scales.obs
    → obs_at r.model.model a t o ≡ given_obs text (a ∷ t ∷ o ∷ [])
unfolding joint_actions joint_observations obs_at
right_observation bytes text r h a t o =
    let w = built_of (length bytes) text r (meant_text bytes text r h).model in
    subst (λ m. a < joint_actions m → t < m.states → o < joint_observations m → sum
    (map (given_obs text) (row_cells (a ∷ t ∷ []) (joint_observations m))) ≡ m.scales.obs
    → obs_at m a t o ≡ given_obs text (a ∷ t ∷ o ∷ [])) (sym w.model)
    (λ ha ht ho e. kept_of_table text Obs (scales_of text).obs (joint_observations_in text) w.obs.cells
    (obs_table (length bytes) text w.obs w.obs_is) a t o ha ht ho
    (ap sum (given_obs_row text a t) ∙ e))

pub reward_as_given : (bytes : List ℕ) (text : Text) (r : ReadModel) → IsMeant bytes text r
    → (a s t o : ℕ) → a < joint_actions r.model.model → s < r.model.model.states → t < r.model.model.states
    → o < joint_observations r.model.model
    → reward_at r.model.model a s t o ≡ given_rewards text (a ∷ s ∷ t ∷ o ∷ [])
unfolding joint_actions joint_observations reward_at
reward_as_given bytes text r h a s t o =
    let w = built_of (length bytes) text r (meant_text bytes text r h).model in
    subst (λ m. a < joint_actions m → s < m.states → t < m.states → o < joint_observations m
    → reward_at m a s t o ≡ given_rewards text (a ∷ s ∷ t ∷ o ∷ [])) (sym w.model)
    (reward_of_place text a s t o)

pub uncovered_reward : (bytes : List ℕ) (text : Text) (r : ReadModel) → IsMeant bytes text r
    → (a s t o : ℕ) → a < joint_actions r.model.model → s < r.model.model.states → t < r.model.model.states
    → o < joint_observations r.model.model
    → IsUncovered text Reward (a ∷ s ∷ t ∷ o ∷ []) → reward_at r.model.model a s t o ≡ pos 0
uncovered_reward bytes text r h a s t o ha hs ht ho none =
    reward_as_given bytes text r h a s t o ha hs ht ho ∙ reward_uncovered text.header.cost (scales_of text).reward
    (axes_of text.header Reward) (statements_for Reward text.statements) (a ∷ s ∷ t ∷ o ∷ []) none

pub near_transition : (bytes : List ℕ) (text : Text) (r : ReadModel) → IsMeant bytes text r
    → (a s : ℕ) → a < joint_actions r.model.model → s < r.model.model.states
    → IsNearlyGiven r.model.model.scales.trans (map (given_trans text) (row_cells (a ∷ s ∷ []) r.model.model.states))
    (trans_at r.model.model a s)
unfolding joint_actions trans_at
near_transition bytes text r h a s =
    let w = built_of (length bytes) text r (meant_text bytes text r h).model in
    subst (λ m. a < joint_actions m → s < m.states
    → IsNearlyGiven m.scales.trans (map (given_trans text) (row_cells (a ∷ s ∷ []) m.states)) (trans_at m a s))
    (sym w.model)
    (λ ha hs. subst (λ cells. IsNearlyGiven (scales_of text).trans cells
    (λ t. get_or w.trans.cells ((a * states_in text + s) * states_in text + t) 0))
    (given_trans_row text a s)
    (near_of_table text Trans (scales_of text).trans (states_in text) w.trans.cells
    (trans_table (length bytes) text w.trans w.trans_is) a s ha hs))

pub near_observation : (bytes : List ℕ) (text : Text) (r : ReadModel) → IsMeant bytes text r
    → (a t : ℕ) → a < joint_actions r.model.model → t < r.model.model.states
    → IsNearlyGiven r.model.model.scales.obs (map (given_obs text)
    (row_cells (a ∷ t ∷ []) (joint_observations r.model.model)))
    (obs_at r.model.model a t)
unfolding joint_actions joint_observations obs_at
near_observation bytes text r h a t =
    let w = built_of (length bytes) text r (meant_text bytes text r h).model in
    subst (λ m. a < joint_actions m → t < m.states
    → IsNearlyGiven m.scales.obs (map (given_obs text) (row_cells (a ∷ t ∷ []) (joint_observations m)))
    (obs_at m a t)) (sym w.model)
    (λ ha ht. subst (λ cells. IsNearlyGiven (scales_of text).obs cells
    (λ o. get_or w.obs.cells ((a * states_in text + t) * joint_observations_in text + o) 0))
    (given_obs_row text a t)
    (near_of_table text Obs (scales_of text).obs (joint_observations_in text) w.obs.cells
    (obs_table (length bytes) text w.obs w.obs_is) a t ha ht))

pub near_start : (bytes : List ℕ) (text : Text) (r : ReadModel) → IsMeant bytes text r
    → IsNearlyGiven r.model.model.scales.start (start_row text).cells (start_at r.model.model)
unfolding start_at
near_start bytes text r h =
    let w = built_of (length bytes) text r (meant_text bytes text r h).model in
    let is = start_is_repair (length bytes) text w.start w.start_is in
    subst (λ m. IsNearlyGiven m.scales.start (start_row text).cells (start_at m)) (sym w.model) (
      is.near,
      λ i hi ne. is.others i ne,
    )
