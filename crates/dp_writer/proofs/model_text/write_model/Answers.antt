use Rattle.std.proofs.Common.{rules, ◌≡◌, IfOk}
use Rattle.dp_model.specs.Names.{AreNames}
use Rattle.dp_model.specs.Tables.{IsNamedModel}
use Rattle.dp_writer.specs.WrittenModel.{written_model}
use Rattle.dp_writer.proofs.WrittenRead.{again_where}
use Rattle.dp_writer.proofs.model_text.write_model.Goals as goal

pub returns-clause-read_back : goal.returns-clause-read_back
returns-clause-read_back c =
    let model = c.args.model.now in
    let named : IsNamedModel model =
    record { model = c.invariant.ensures.model; names = c.invariant.ensures.names } in
    let names : AreNames model.names = search rules in
    let is : IfOk c.finish.result (λ text. text.items ≡ written_model model) = search rules in
    again_where model named names c.requires.writable (λ text. text.items) c.finish.result is
