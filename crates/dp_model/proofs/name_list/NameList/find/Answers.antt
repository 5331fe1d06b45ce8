use Rattle.std.proofs.Common.{◌∙◌, string_bytes}
use Rattle.dp_model.proofs.NameLemmas.{place_of-texts}
use Rattle.dp_model.proofs.name_list.NameList.find.Goals as goal

pub returns-in_err-place : goal.returns-in_err-place
returns-in_err-place c =
    let is = place_of-texts string_bytes c.self.inside.names.keys c.args.self.now c.args.name.now c.self.view_is in
    let none = c.in_err-place.ensures.index in
    cc (is, none, c.from_residual.ensures)

pub returns : goal.returns
returns c =
    c.in_ok-place.ensures.index ∙ place_of-texts string_bytes c.self.inside.names.keys c.args.self.now c.args.name.now
    c.self.view_is
