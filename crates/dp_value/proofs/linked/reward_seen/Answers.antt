use Rattle.std.proofs.Common.{◌≡◌, suc, ◌<◌, ◌≤◌, add-one, sym, refl, ◌∙◌, rules, arith}
use Rattle.std.specs.Int.{w64}
use Rattle.std.proofs.lemmas.Int.{to_z-of_z}
use Rattle.dp_spec.specs.Model.{joint_observations}
use Rattle.dp_value.proofs.LinkedParts.{none_observed, skip_nothing}
use Rattle.dp_value.proofs.RewardSums.{may_add_seen, may_gain, may_reach, whole_sum}
use Rattle.dp_value.proofs.linked.reward_seen.Goals.{then-observed-ne0, else-observed-ne0}
use Rattle.dp_value.proofs.linked.reward_seen.Goals as goal

pub chance-reached-requires : goal.chance-reached-requires
chance-reached-requires g c =
    let inside : c.loop-seen.seen < joint_observations c.args.model.now.model = omega arith in
    record {
      allowed = rw (c.trans-chance.ensures, c.obs-observed.ensures) (may_reach _ _ _ _ _ c.requires.sizes _
          c.requires.action _ c.requires.state _ c.requires.next c.loop-seen.seen inside);
    }

pub gain-requires : goal.gain-requires
gain-requires g c =
    let inside : c.loop-seen.seen < joint_observations c.args.model.now.model = omega arith in
    let same = to_z-of_z w64 c.reward-reward.result (search (rules, c.reward-reward.type_inv)) in
    record {
      allowed = rw (
        c.chance-reached.ensures,
        c.trans-chance.ensures,
        c.obs-observed.ensures,
        same,
        c.reward-reward.ensures,
      ) (may_gain _ _ _ _ _ c.requires.sizes _ c.requires.action _ c.requires.state _ c.requires.next
          c.loop-seen.seen inside);
    }

pub add_spans-total-requires : goal.add_spans-total-requires
add_spans-total-requires g c =
    let inside : suc c.loop-seen.seen ≤ joint_observations c.args.model.now.model = omega arith in
    let same = to_z-of_z w64 c.reward-reward.result (search (rules, c.reward-reward.type_inv)) in
    record {
      room = rw (
        c.loop-seen.invariant,
        c.gain.ensures,
        c.chance-reached.ensures,
        c.trans-chance.ensures,
        c.obs-observed.ensures,
        same,
        c.reward-reward.ensures,
      ) (may_add_seen _ _ _ _ _ c.requires.sizes _ c.requires.action
          _ c.requires.state _ c.requires.next (suc c.loop-seen.seen) inside);
    }

pub loop-seen-preserved : goal.loop-seen-preserved
loop-seen-preserved g c =
    elim c.if-observed-ne0.branch [
      | then-observed-ne0 w ↦
          let same = to_z-of_z w64 w.reward-reward.result (search (rules, w.reward-reward.type_inv)) in
          rw (
            add-one,
            w.total-is,
            w.add_spans-total.ensures,
            c.loop-seen.invariant,
            w.gain.ensures,
            w.chance-reached.ensures,
            c.trans-chance.ensures,
            c.obs-observed.ensures,
            same,
            w.reward-reward.ensures,
          ) refl
      | else-observed-ne0 w ↦
          let none : c.obs-observed.result ≡ 0 = omega arith in
          rw (add-one, w.total-is) (skip_nothing c.loop-seen.seen _ c.loop-seen.total c.loop-seen.invariant
          (none_observed _ c.requires.zeros _ _ _ _ _ _ c.loop-seen.seen (sym c.obs-observed.ensures ∙ none)))
    ]

pub returns : goal.returns
returns g c = let all : c.loop-seen.seen ≡ joint_observations c.args.model.now.model = omega arith in
    whole_sum c.loop-seen.seen _ _ c.loop-seen.total c.loop-seen.invariant all
