use Rattle.std.proofs.Common.{ℕ, sym, subst, refl}
use Rattle.dp_spec.specs.JointHistory.{IsJointHistory}
use Rattle.dp_spec.specs.Model.{joint_observations}
use Rattle.dp_model.proofs.JointNumberLemmas.{are_below}
use Rattle.dp_cluster.proofs.KeyPairs.{HasHistory, class_history, key_is, numbers_keep_apart}
use Rattle.dp_cluster.proofs.front.Front.key.Goals as goal

pub pairs-requires-clause-history : goal.pairs-requires-clause-history
pairs-requires-clause-history c =
    let m = c.args.m.now.model in
    let H = class_history m c.args.self.now c.requires.of_model
    (c.has_own_numbers.ensures.yes c.if-has_own_numbers.true) c.args.classes.now (are_below _ _ c.requires.classes) in
    subst (λ (t : ℕ). HasHistory m t c.args.classes.now) (sym c.stage.ensures) (H.0, H.1, H.2)

pub returns-in_ok-pairs-clause-apart : goal.returns-in_ok-pairs-clause-apart
returns-in_ok-pairs-clause-apart c = (
  λ e. numbers_keep_apart c.args.m.now.model c.args.self.now c.requires.of_model
      (c.has_own_numbers.ensures.yes c.if-has_own_numbers.true),
  λ apart. refl,
)

pub returns-in_ok-pairs-clause-key : goal.returns-in_ok-pairs-clause-key
returns-in_ok-pairs-clause-key c =
    let m = c.args.m.now.model in
    key_is m c.args.self.now c.requires.of_model (c.has_own_numbers.ensures.yes c.if-has_own_numbers.true)
    c.args.classes.now (are_below _ _ c.requires.classes) c.in_ok-pairs.pairs.items
    (λ H p e. c.in_ok-pairs.ensures H
    (subst (λ (t : ℕ). IsJointHistory (joint_observations m) t H) (sym c.stage.ensures) p) e)
