use Rattle.std.proofs.Common.{◌≡◌, ℕ, suc, ◌+◌, ◌-◌, length, get_or, ◌<◌, ◌≤◌, ◌^◌, ◌∙◌, ◌≤ℤ◌, to_z, [], ◌∷◌, ℤ}
use Rattle.std.proofs.Common.{false, unsigned_abs, sym, ap, subst, refl, arith, rules}
use Rattle.std.specs.Int.{int_min, w128}
use Rattle.std.proofs.lemmas.Int.{ints, to_z-of_z}
use mir.Val.{SFits}
use Rattle.dp_spec.specs.Model.{joint_actions, joint_observations}
use Rattle.dp_spec.specs.Quantities.{action_look_ahead_in, look_ahead_in, weights_after_in}
use Rattle.dp_pomdp.specs.Looking.{weights_of}
use Rattle.dp_pomdp.specs.Memos.{look_of}
use Rattle.dp_mdp.proofs.RunningSums.{next_greatest}
use Rattle.dp_pomdp.proofs.Cuts.{greatest_or_cap, no_step, reached_cap}
use Rattle.dp_pomdp.proofs.Scaled.{looking_times, next_look_fits, numbers_of, product_is}
use Rattle.dp_pomdp.proofs.SeenLooks.{looks_are_action, looks_part_fits, seen_below}
use Rattle.dp_pomdp.proofs.Steps.{deeper_room, looking_next, offset_fits, offset_next, table_before, zero_look}
use Rattle.dp_pomdp.proofs.recursion.+looking.Goals as goal
use Rattle.dp_pomdp.proofs.recursion.+looking.Goals.{look_ahead-then-rest-eq0-via-then-rest-eq0}
use Rattle.dp_pomdp.proofs.recursion.+looking.Goals.{look_ahead-then-rest-eq0-via-else-rest-eq0+then-all_zero}

-- ---- look_ahead

pub look_ahead-returns-then-rest-eq0-clause-is : goal.look_ahead-returns-then-rest-eq0-clause-is
look_ahead-returns-then-rest-eq0-clause-is g t c =
    elim c.then-rest-eq0.branch [
      | look_ahead-then-rest-eq0-via-then-rest-eq0 w ↦ no_step _ _ _ _ _ w.if-rest-eq0.true
      | look_ahead-then-rest-eq0-via-else-rest-eq0+then-all_zero w ↦ zero_look _ _ _ _ _ c.requires.sizes
          (w.all_zero.ensures.yes w.if-all_zero.true) c.args.look
    ]

pub look_ahead-returns-clause-memo : goal.look_ahead-returns-clause-memo
look_ahead-returns-clause-memo g t c =
    let A = g.A.Arith.operations c.args.arith.now in
    let m = c.args.model.now.model in
    let steps : suc (c.args.rest - 1) ≡ c.args.rest = omega arith in
    let fits : SFits w128 c.greatest_look-value.result = search rules in
    let is = to_z-of_z w128 _ fits ∙ c.greatest_look-value.ensures.is ∙ ap
    (λ (r : ℕ). look_ahead_in A m r (weights_of c.args.weights.now) c.args.look) steps in
    c.keep.ensures (look_of A m) c.greatest_look-value.ensures.memo (ap (λ (x : ℤ). x ∷ []) is)

-- ---- greatest_look

pub greatest_look-returns-then-best-cap-clause-is : goal.greatest_look-returns-then-best-cap-clause-is
greatest_look-returns-then-best-cap-clause-is g t c =
    let some-look : c.args.look ≡ suc (c.args.look - 1) = omega arith in
    let some : 0 < c.loop-action.action = omega arith in
    let le : c.loop-action.action ≤ joint_actions c.args.model.now.model = omega arith in
    let more : c.args.cap ≤ℤ to_z w128 c.loop-action.best-bits =
    search (arith, ints, to_z-of_z, c.if-best-cap.true) in
    let fits : SFits w128 c.args.cap = search rules in
    to_z-of_z w128 _ fits ∙ reached_cap (g.A.Arith.operations c.args.arith.now) c.args.model.now.model c.args.rest
    (c.args.look - 1)
    (suc c.args.rest) c.args.look c.loop-action.action (weights_of c.args.weights.now) _ _ refl some-look some le
    c.loop-action.invariant.best c.requires.cap more

pub greatest_look-loop-action-preserved : goal.greatest_look-loop-action-preserved
greatest_look-loop-action-preserved g t c =
    let fits : SFits w128 c.action_look_ahead-value.result = search rules in
    let fits-max : SFits w128 c.max-best.result = search rules in record {
      best = next_greatest c.loop-action.action (λ a. action_look_ahead_in (g.A.Arith.operations c.args.arith.now)
          c.args.model.now.model c.args.rest (weights_of c.args.weights.now) a c.args.look) _ _ _ (omega arith)
          (to_z-of_z w128 _ fits-max ∙ c.max-best.ensures.value)
          (to_z-of_z w128 _ fits ∙ c.action_look_ahead-value.ensures.is) c.loop-action.invariant.best;
      kept = c.action_look_ahead-value.ensures.memo;
    }

pub greatest_look-returns-clause-is : goal.greatest_look-returns-clause-is
greatest_look-returns-clause-is g t c =
    let some-look : c.args.look ≡ suc (c.args.look - 1) = omega arith in
    let some-action = c.invariant.ensures.model.sizes.some_action in
    let all : c.loop-action.action ≡ joint_actions c.args.model.now.model = omega arith in
    let fits-min : SFits w128 c.min.result = search rules in
    let fits-cap : SFits w128 c.args.cap = search rules in
    let least = to_z-of_z w128 _ fits-min ∙ c.min.ensures.value ∙ ap
    (λ (x : ℤ). int_min (to_z w128 c.loop-action.best-bits) x) (to_z-of_z w128 c.args.cap fits-cap) in
    greatest_or_cap (g.A.Arith.operations c.args.arith.now) c.args.model.now.model c.args.rest
    (c.args.look - 1) (suc c.args.rest) c.args.look c.loop-action.action (weights_of c.args.weights.now)
    _ _ _ refl some-look all c.loop-action.invariant.best c.requires.cap
    least

-- ---- action_look_ahead

pub action_look_ahead-push_weights-requires-clause-seen : goal.action_look_ahead-push_weights-requires-clause-seen
action_look_ahead-push_weights-requires-clause-seen g t c =
    seen_below c.args.model.now.model c.args.action c.loop-place.place _ c.seen-observed.ensures (omega arith)

pub action_look_ahead-returns-clause-is : goal.action_look_ahead-returns-clause-is
action_look_ahead-returns-clause-is g t c =
    looks_are_action (g.A.Arith.operations c.args.arith.now) c.requires.sizes.zero c.args.model.now.model c.args.rest
    c.args.look (weights_of c.args.weights.now) c.args.action c.loop-place.place c.seen-observed.result.now _
    c.seen-observed.ensures (omega arith) c.loop-place.invariant.sum

pub action_look_ahead-reduced-factor-requires : goal.action_look_ahead-reduced-factor-requires
action_look_ahead-reduced-factor-requires g t c =
    let m = c.args.model.now.model in
    let seen : ℕ = get_or c.seen-observed.result.now c.loop-place.place 0 in
    let inside : seen < joint_observations m =
    seen_below m c.args.action c.loop-place.place _ c.seen-observed.ensures (omega arith) in
    let one_each : length c.push_weights.new.next ≡ c.args.model.now.model.states =
    omega (
      arith,
      c.push_weights.auto.next,
      c.loop-place.auto.next,
      c.split_at_mut-next.ensures.front_len,
      c.states.ensures.is,
    ) in
    let A = g.A.Arith.operations c.args.arith.now in
    let sizes =
    looking_next A (g.A.Arith.calls c.args.arith.now) m c.args.rest c.args.weights.now c.push_weights.new.next
    c.args.action seen c.requires.sizes c.requires.action inside one_each
    c.push_weights.ensures.pushed in
    record { numbers = λ exact. numbers_of _ _ _ _ _ sizes (sym c.requires.mode ∙ exact) }

pub action_look_ahead-look_ahead-value-requires : goal.action_look_ahead-look_ahead-value-requires
action_look_ahead-look_ahead-value-requires g t c =
    let m = c.args.model.now.model in
    let seen : ℕ = get_or c.seen-observed.result.now c.loop-place.place 0 in
    let inside : seen < joint_observations m =
    seen_below m c.args.action c.loop-place.place _ c.seen-observed.ensures (omega arith) in
    let one_each : length c.push_weights.new.next ≡ c.args.model.now.model.states =
    omega (
      arith,
      c.push_weights.auto.next,
      c.loop-place.auto.next,
      c.split_at_mut-next.ensures.front_len,
      c.states.ensures.is,
    ) in
    let A = g.A.Arith.operations c.args.arith.now in
    let C = g.A.Arith.calls c.args.arith.now in
    let sizes =
    looking_next A C m c.args.rest c.args.weights.now c.push_weights.new.next
    c.args.action seen c.requires.sizes c.requires.action inside one_each
    c.push_weights.ensures.pushed in
    let times = c.reduced-factor.ensures.times in
    let base = looking_times times.0 c.reduced-factor.new.weights c.push_weights.new.next times.2 A C m c.args.rest
    sizes in
    let table = table_before A m c.args.rest c.args.table.now c.requires.table in
    let split : length c.loop-place.deeper + c.states.result ≡ length c.args.room.now =
    omega (arith, c.loop-place.auto.deeper, c.split_at_mut-next.ensures.back_len) in
    let room =
    deeper_room c.args.look m.states (length c.args.room.now) (length c.loop-place.deeper) c.states.result
    c.requires.look c.requires.room split c.states.ensures.is in
    λ κs lives. (omega arith, (search rules, (base, (c.requires.mode, (table, (room, c.loop-place.invariant.kept))))))

pub action_look_ahead-times-total-requires : goal.action_look_ahead-times-total-requires
action_look_ahead-times-total-requires g t c =
    let m = c.args.model.now.model in
    let seen : ℕ = get_or c.seen-observed.result.now c.loop-place.place 0 in
    let inside : seen < joint_observations m =
    seen_below m c.args.action c.loop-place.place _ c.seen-observed.ensures (omega arith) in
    let one_each : length c.push_weights.new.next ≡ c.args.model.now.model.states =
    omega (
      arith,
      c.push_weights.auto.next,
      c.loop-place.auto.next,
      c.split_at_mut-next.ensures.front_len,
      c.states.ensures.is,
    ) in
    let A = g.A.Arith.operations c.args.arith.now in
    let C = g.A.Arith.calls c.args.arith.now in
    let sizes =
    looking_next A C m c.args.rest c.args.weights.now c.push_weights.new.next
    c.args.action seen c.requires.sizes c.requires.action inside one_each
    c.push_weights.ensures.pushed in
    let times = c.reduced-factor.ensures.times in
    let outward : A.is_exact ≡ false → times.0 ≡ 1 =
    λ e. ap unsigned_abs (sym times.1 ∙ c.reduced-factor.ensures.outward (c.requires.mode ∙ e)) in
    let stay : A.is_exact ≡ false → c.reduced-factor.new.weights ≡ c.push_weights.new.next =
    λ e. c.reduced-factor.ensures.outward_stay (c.requires.mode ∙ e) in
    let fits-factor : SFits w128 c.reduced-factor.result = search rules in
    let fits-value : SFits w128 c.look_ahead-value.result = search rules in
    let product =
    product_is times.0 c.reduced-factor.new.weights c.push_weights.new.next times.2 A C m c.args.rest sizes outward
    stay c.args.rest (c.args.look - 1)
    (weights_after_in A m (weights_of c.args.weights.now) c.args.action seen)
    c.push_weights.ensures.pushed _ _ (to_z-of_z w128 _ fits-factor ∙ times.1)
    (to_z-of_z w128 _ fits-value ∙ c.look_ahead-value.ensures.is) in
    subst (λ (x : ℤ). unsigned_abs x < 2 ^ 127) (sym product)
    (next_look_fits A C m c.args.rest c.args.weights.now c.requires.sizes c.args.action seen
    (c.args.look - 1) c.requires.action inside)

pub action_look_ahead-overflow_add-total : goal.action_look_ahead-overflow_add-total
action_look_ahead-overflow_add-total g t c =
    let m = c.args.model.now.model in
    let seen : ℕ = get_or c.seen-observed.result.now c.loop-place.place 0 in
    let inside : seen < joint_observations m =
    seen_below m c.args.action c.loop-place.place _ c.seen-observed.ensures (omega arith) in
    let one_each : length c.push_weights.new.next ≡ c.args.model.now.model.states =
    omega (
      arith,
      c.push_weights.auto.next,
      c.loop-place.auto.next,
      c.split_at_mut-next.ensures.front_len,
      c.states.ensures.is,
    ) in
    let A = g.A.Arith.operations c.args.arith.now in
    let C = g.A.Arith.calls c.args.arith.now in
    let sizes =
    looking_next A C m c.args.rest c.args.weights.now c.push_weights.new.next
    c.args.action seen c.requires.sizes c.requires.action inside one_each
    c.push_weights.ensures.pushed in
    let times = c.reduced-factor.ensures.times in
    let outward : A.is_exact ≡ false → times.0 ≡ 1 =
    λ e. ap unsigned_abs (sym times.1 ∙ c.reduced-factor.ensures.outward (c.requires.mode ∙ e)) in
    let stay : A.is_exact ≡ false → c.reduced-factor.new.weights ≡ c.push_weights.new.next =
    λ e. c.reduced-factor.ensures.outward_stay (c.requires.mode ∙ e) in
    let fits-factor : SFits w128 c.reduced-factor.result = search rules in
    let fits-value : SFits w128 c.look_ahead-value.result = search rules in
    let product =
    product_is times.0 c.reduced-factor.new.weights c.push_weights.new.next times.2 A C m c.args.rest sizes outward
    stay c.args.rest (c.args.look - 1)
    (weights_after_in A m (weights_of c.args.weights.now) c.args.action seen)
    c.push_weights.ensures.pushed _ _ (to_z-of_z w128 _ fits-factor ∙ times.1)
    (to_z-of_z w128 _ fits-value ∙ c.look_ahead-value.ensures.is) in
    let more : suc c.loop-place.place ≤ length c.seen-observed.result.now = omega arith in
    let fits : SFits w128 c.times-total.result = search rules in
    offset_fits _ c.loop-place.place _ _ _ c.loop-place.invariant.sum
    (to_z-of_z w128 _ fits ∙ c.times-total.ensures ∙ product)
    (looks_part_fits _ _ _ _ _ c.requires.sizes c.args.action (c.args.look - 1) c.seen-observed.result.now
    c.requires.action c.seen-observed.ensures (suc c.loop-place.place) more)

pub action_look_ahead-loop-place-preserved : goal.action_look_ahead-loop-place-preserved
action_look_ahead-loop-place-preserved g t c =
    let m = c.args.model.now.model in
    let seen : ℕ = get_or c.seen-observed.result.now c.loop-place.place 0 in
    let inside : seen < joint_observations m =
    seen_below m c.args.action c.loop-place.place _ c.seen-observed.ensures (omega arith) in
    let one_each : length c.push_weights.new.next ≡ c.args.model.now.model.states =
    omega (
      arith,
      c.push_weights.auto.next,
      c.loop-place.auto.next,
      c.split_at_mut-next.ensures.front_len,
      c.states.ensures.is,
    ) in
    let A = g.A.Arith.operations c.args.arith.now in
    let C = g.A.Arith.calls c.args.arith.now in
    let sizes =
    looking_next A C m c.args.rest c.args.weights.now c.push_weights.new.next
    c.args.action seen c.requires.sizes c.requires.action inside one_each
    c.push_weights.ensures.pushed in
    let times = c.reduced-factor.ensures.times in
    let outward : A.is_exact ≡ false → times.0 ≡ 1 =
    λ e. ap unsigned_abs (sym times.1 ∙ c.reduced-factor.ensures.outward (c.requires.mode ∙ e)) in
    let stay : A.is_exact ≡ false → c.reduced-factor.new.weights ≡ c.push_weights.new.next =
    λ e. c.reduced-factor.ensures.outward_stay (c.requires.mode ∙ e) in
    let fits-factor : SFits w128 c.reduced-factor.result = search rules in
    let fits-value : SFits w128 c.look_ahead-value.result = search rules in
    let product =
    product_is times.0 c.reduced-factor.new.weights c.push_weights.new.next times.2 A C m c.args.rest sizes outward
    stay c.args.rest (c.args.look - 1)
    (weights_after_in A m (weights_of c.args.weights.now) c.args.action seen)
    c.push_weights.ensures.pushed _ _ (to_z-of_z w128 _ fits-factor ∙ times.1)
    (to_z-of_z w128 _ fits-value ∙ c.look_ahead-value.ensures.is) in
    let more : suc c.loop-place.place ≤ length c.seen-observed.result.now = omega arith in
    let fits : SFits w128 c.times-total.result = search rules in record {
      sum = offset_next _ c.loop-place.place _ _ _ c.loop-place.invariant.sum
          (to_z-of_z w128 _ fits ∙ c.times-total.ensures ∙ product)
          (looks_part_fits _ _ _ _ _ c.requires.sizes c.args.action (c.args.look - 1) c.seen-observed.result.now
          c.requires.action c.seen-observed.ensures (suc c.loop-place.place) more);
      kept = c.look_ahead-value.ensures.memo;
    }
