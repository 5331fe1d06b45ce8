use Rattle.std.proofs.Common.{ap, get_or, ◌∙◌, ◌+◌, ◌*◌}
use Rattle.dp_spec.specs.Model.{trans_at}
use Rattle.dp_model.proofs.model.Model.trans.Goals as goal

pub returns : goal.returns
unfolding trans_at
returns c =
    ap (λ l. get_or l ((c.args.a * c.self.inside.states + c.args.s) * c.self.inside.states + c.args.t) 0)
    c.as_slice.ensures
    ∙ ap (λ n. trans_at n.model c.args.a c.args.s c.args.t) c.self.view_is
