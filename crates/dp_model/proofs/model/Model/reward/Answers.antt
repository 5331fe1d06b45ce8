use Rattle.std.proofs.Common.{◌≡◌, ◌+◌, ◌*◌, ◌<◌, pos, get_or, length, sym, ap, subst, ◌∙◌, arith, w64}
use Rattle.std.proofs.lemmas.Int.{fits_signed_from_abs, to_z-of_z}
use Rattle.dp_spec.specs.Model.{IsModel, Model, joint_observations, reward_at}
use Rattle.dp_model.proofs.ModelLemmas.{reward_place, reward_small}
use Rattle.dp_model.proofs.model.Model.reward.Goals as goal

pub overflow_mul-result : goal.overflow_mul-result
unfolding joint_observations
overflow_mul-result c =
    let now = c.self.view_is in
    let m : Model = c.args.self.now.model in
    let ok : IsModel m = subst (λ n. IsModel n.model) now c.self.invariant.named.model in
    let below : ((c.args.a * m.states + c.args.s) * m.states + c.args.t) * joint_observations m + c.args.o
    < length m.reward =
    reward_place m ok c.args.a c.args.s c.args.t c.args.o c.requires.action c.requires.state c.requires.next
    c.requires.observation in
    let here = subst (λ n. ((c.args.a * n.model.states + c.args.s) * n.model.states + c.args.t)
    * joint_observations n.model + c.args.o < length n.model.reward) (sym now) below in
    let cells = c.self.invariant.named.model.tables.reward in
    let limit = c.self.invariant.named.model.sizes.reward_cells_limit in
    rw c.count.ensures.is (omega (arith, here, cells, limit))

pub overflow_add-result : goal.overflow_add-result
unfolding joint_observations
overflow_add-result c =
    let now = c.self.view_is in
    let m : Model = c.args.self.now.model in
    let ok : IsModel m = subst (λ n. IsModel n.model) now c.self.invariant.named.model in
    let below : ((c.args.a * m.states + c.args.s) * m.states + c.args.t) * joint_observations m + c.args.o
    < length m.reward =
    reward_place m ok c.args.a c.args.s c.args.t c.args.o c.requires.action c.requires.state c.requires.next
    c.requires.observation in
    let here = subst (λ n. ((c.args.a * n.model.states + c.args.s) * n.model.states + c.args.t)
    * joint_observations n.model + c.args.o < length n.model.reward) (sym now) below in
    let cells = c.self.invariant.named.model.tables.reward in
    let limit = c.self.invariant.named.model.sizes.reward_cells_limit in
    rw c.count.ensures.is (omega (arith, here, cells, limit))

pub offset_bounds-as_slice-row : goal.offset_bounds-as_slice-row
unfolding joint_observations
offset_bounds-as_slice-row c =
    let now = c.self.view_is in
    let m : Model = c.args.self.now.model in
    let ok : IsModel m = subst (λ n. IsModel n.model) now c.self.invariant.named.model in
    let below : ((c.args.a * m.states + c.args.s) * m.states + c.args.t) * joint_observations m + c.args.o
    < length m.reward =
    reward_place m ok c.args.a c.args.s c.args.t c.args.o c.requires.action c.requires.state c.requires.next
    c.requires.observation in
    let here = subst (λ n. ((c.args.a * n.model.states + c.args.s) * n.model.states + c.args.t)
    * joint_observations n.model + c.args.o < length n.model.reward) (sym now) below in
    let cells = c.self.invariant.named.model.tables.reward in
    let limit = c.self.invariant.named.model.sizes.reward_cells_limit in
    rw c.count.ensures.is (omega (arith, here, cells, limit))

pub bounds-as_slice-row : goal.bounds-as_slice-row
unfolding joint_observations
bounds-as_slice-row c =
    let now = c.self.view_is in
    let m : Model = c.args.self.now.model in
    let ok : IsModel m = subst (λ n. IsModel n.model) now c.self.invariant.named.model in
    let below : ((c.args.a * m.states + c.args.s) * m.states + c.args.t) * joint_observations m + c.args.o
    < length m.reward =
    reward_place m ok c.args.a c.args.s c.args.t c.args.o c.requires.action c.requires.state c.requires.next
    c.requires.observation in
    let here = subst (λ n. ((c.args.a * n.model.states + c.args.s) * n.model.states + c.args.t)
    * joint_observations n.model + c.args.o < length n.model.reward) (sym now) below in
    rw (c.count.ensures.is, c.as_slice.ensures) here

pub returns : goal.returns
unfolding reward_at joint_observations
returns c =
    let m : Model = c.args.self.now.model in
    let ok : IsModel m = subst (λ n. IsModel n.model) c.self.view_is c.self.invariant.named.model in
    let read : get_or c.as_slice.result.now (((c.args.a * c.self.inside.states + c.args.s) * c.self.inside.states
    + c.args.t) * c.count.result + c.args.o) (pos 0) ≡ reward_at m c.args.a c.args.s c.args.t c.args.o =
    (λ i. get_or (c.as_slice.ensures i) (((c.args.a * c.self.inside.states + c.args.s) * c.self.inside.states
    + c.args.t) * c.count.ensures.is i + c.args.o) (pos 0))
    ∙ ap (λ n. reward_at n.model c.args.a c.args.s c.args.t c.args.o) c.self.view_is in
    rw read (to_z-of_z w64 _ (fits_signed_from_abs w64 _ (reward_small m ok _)))
