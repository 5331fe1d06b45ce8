use Rattle.std.proofs.Common.{[], get_or, refl, ap, ◌∙◌, arith}
use Rattle.std.specs.Prelude.{unwrap_or}
use Rattle.dp_writer.specs.GivenLists.{names_in}
use Rattle.dp_writer.specs.LimitedTexts.{added}
use Rattle.dp_writer.proofs.ListTexts.{name_at}
use Rattle.dp_writer.proofs.WordTexts.{item_written}
use Rattle.dp_writer.proofs.lists.push_names.Goals as goal

pub loop-place-preserved : goal.loop-place-preserved
loop-place-preserved c =
    let names = names_in c.args.names.now c.args.list in
    let i = c.loop-place.place in
    let t1 = c.push_space.new.self in
    item_written c.args.first (λ n. n) names i [] (get_or names i []) c.args.text.now c.loop-place.text t1
    c.push_name.new.text (omega (arith, c.loop-place-test.true, c.requires.count)) refl c.loop-place.invariant
    c.in_ok-push_space.ensures
    (c.in_ok-push_name.ensures
    ∙ ap (λ o. added t1 (unwrap_or o [])) c.name.ensures.name ∙ ap (added t1) (name_at names i))
