use Rattle.std.proofs.Common.{◌≡◌, suc, ◌<◌, ◌≤◌, add-one, sym, refl, ◌∙◌, arith, rules}
use Rattle.std.proofs.lemmas.Int.{to_z-of_z}
use Rattle.std.specs.Int.{w64}
use mir.Val.{SFits}
use Rattle.dp_spec.specs.Model.{joint_observations}
use Rattle.dp_mdp.proofs.StepParts.{arrival_part_fits, none_observed, skip_nothing}
use Rattle.dp_mdp.proofs.step_reward.arrival_reward.Goals as goal
use Rattle.dp_mdp.proofs.step_reward.arrival_reward.Goals.{then-observed-ne0, else-observed-ne0}

pub chance-reached-requires : goal.chance-reached-requires
chance-reached-requires g c =
    let inside : c.loop-seen.seen < joint_observations c.args.model.now.model = omega arith in
    record {
      allowed = rw (c.requires.chance, c.obs-observed.ensures)
          (c.requires.sizes.chance c.args.next c.loop-seen.seen
          (record {
            action = c.requires.action;
            state = c.requires.state;
            next = c.requires.next;
            seen = inside;
          }));
    }

pub gain-requires : goal.gain-requires
gain-requires g c =
    let inside : c.loop-seen.seen < joint_observations c.args.model.now.model = omega arith in
    let fits : SFits w64 c.reward-reward.result = search rules in
    record {
      allowed = simp to_z-of_z (rw (
        c.chance-reached.ensures,
        c.requires.chance,
        c.obs-observed.ensures,
        c.reward-reward.ensures,
      ) (c.requires.sizes.gain c.args.next c.loop-seen.seen
          (record {
            action = c.requires.action;
            state = c.requires.state;
            next = c.requires.next;
            seen = inside;
          })));
    }

pub add_spans-total-requires : goal.add_spans-total-requires
add_spans-total-requires g c =
    let inside : suc c.loop-seen.seen ≤ joint_observations c.args.model.now.model = omega arith in
    let fits : SFits w64 c.reward-reward.result = search rules in
    let gained = simp to_z-of_z at c.gain.ensures in
    record {
      room = rw (
        c.loop-seen.invariant,
        gained,
        c.chance-reached.ensures,
        c.requires.chance,
        c.obs-observed.ensures,
        c.reward-reward.ensures,
      ) (arrival_part_fits _ _ _ _ _ _ _ c.requires.sizes c.args.next
          (suc c.loop-seen.seen) c.requires.next inside);
    }

pub loop-seen-preserved : goal.loop-seen-preserved
loop-seen-preserved g c =
    elim c.if-observed-ne0.branch [
      | then-observed-ne0 w ↦
          let fits : SFits w64 w.reward-reward.result = search rules in
          let gained = simp to_z-of_z at w.gain.ensures in
          rw (
            add-one,
            w.total-is,
            w.add_spans-total.ensures,
            c.loop-seen.invariant,
            gained,
            w.chance-reached.ensures,
            c.requires.chance,
            c.obs-observed.ensures,
            w.reward-reward.ensures,
          ) refl
      | else-observed-ne0 w ↦
          let none : c.obs-observed.result ≡ 0 = omega arith in
          rw (add-one, w.total-is) (skip_nothing c.loop-seen.seen _ c.loop-seen.total c.loop-seen.invariant
          (none_observed _ c.requires.zero _ _ _ _ _ _ c.loop-seen.seen (sym c.obs-observed.ensures ∙ none)))
    ]
