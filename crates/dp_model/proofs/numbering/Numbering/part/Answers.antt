use Rattle.std.proofs.Common.{◌≡◌, ◌<◌, suc, drop, get_or, length, sym, ap, ◌∙◌, arith}
use Rattle.dp_spec.specs.JointNumbers.{product}
use Rattle.dp_spec.proofs.JointNumberLaws.{part-is}
use Rattle.dp_model.proofs.numbering.Numbering.part.Goals as goal

pub returns : goal.returns
returns c =
    let ns = c.args.self.now in
    let i = c.args.i in
    let agent : i < length c.self.inside.sizes = rw c.self.view_is c.requires.agent in
    let sizes : c.as_slice.result.now ≡ ns = c.as_slice.ensures ∙ c.self.view_is in
    let step : get_or c.self.inside.steps i 0 ≡ product (drop (suc i) ns) =
    c.self.invariant.counts.stepped i (omega arith) agent ∙ ap (λ l. product (drop (suc i) l)) c.self.view_is in
    rw (step, sizes) (sym (part-is ns c.args.number i c.requires.number c.requires.agent))
