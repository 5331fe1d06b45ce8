use Rattle.std.proofs.Common.{ap, get_or, length, sym, subst, ◌∙◌, ◌+◌, ◌*◌, ◌<◌}
use Rattle.dp_spec.specs.Model.{IsModel, Model, joint_observations, obs_at}
use Rattle.dp_model.proofs.ModelLemmas.{obs_place}
use Rattle.dp_model.proofs.model.Model.obs.Goals as goal

pub bounds-as_slice-row : goal.bounds-as_slice-row
unfolding joint_observations
bounds-as_slice-row c =
    let now = c.self.view_is in
    let m : Model = c.args.self.now.model in
    let below : (c.args.a * m.states + c.args.t) * joint_observations m + c.args.o < length m.obs =
    obs_place m (subst (λ n. IsModel n.model) now c.self.invariant.named.model) c.args.a c.args.t c.args.o
    c.requires.action c.requires.next c.requires.observation in
    let here = subst (λ n. (c.args.a * n.model.states + c.args.t) * joint_observations n.model + c.args.o
    < length n.model.obs) (sym now) below in
    rw (c.count.ensures.is, c.as_slice.ensures) here

pub returns : goal.returns
unfolding obs_at joint_observations
returns c =
    (λ i. get_or (c.as_slice.ensures i) ((c.args.a * c.self.inside.states + c.args.t) * c.count.ensures.is i
    + c.args.o) 0)
    ∙ ap (λ n. obs_at n.model c.args.a c.args.t c.args.o) c.self.view_is
